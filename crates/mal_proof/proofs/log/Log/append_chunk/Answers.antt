use Rattle.std.proofs.Common.{rules, ◌+◌, arith}
use Rattle.mal_proof.proofs.Keeping.{kept-chunk}
use Rattle.mal_proof.proofs.log.Log.append_chunk.Goals as goal

pub invariant_of-self : goal.invariant_of-self
invariant_of-self c =
    let s = c.self.inside in
    kept-chunk s.full.items c.push_reserved.new.self.items s.last c.replace-last.result c.replace-last.new.dest s.count s.room s.number_room (s.count + c.count.result) 0 0 s.ends c.self.invariant
    (search rules) (search rules) (search rules) (search rules) (search rules) (omega arith) (omega arith) (omega arith)
