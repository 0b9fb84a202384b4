use Rattle.std.proofs.Common.{rules, ◌≡◌, [], ◌++◌, append-nil, List, length, sym, subst, ap, arith}
use Rattle.mal_base.specs.NumberedClause.{Line}
use Rattle.spec_proof.specs.Log.{IsOrderly}
use Rattle.mal_proof.specs.Logged.{lines_in}
use Rattle.mal_proof.proofs.Keeping.{kept-chunk}
use Rattle.mal_proof.proofs.log.Log.reserve.Goals as goal

pub invariant_of-self-2 : goal.invariant_of-self-2
invariant_of-self-2 c =
    let s = c.self.inside in
    let fresh : c.replace.new.dest.lines ≡ [] = search rules in
    kept-chunk s.full.items c.push_reserved.new.self.items s.last c.replace.result c.replace.new.dest s.count s.room s.number_room s.count c.max-room.result c.max-number_room.result s.ends c.self.invariant
    (search rules) (search rules) (subst (λ (ls : List Line). IsOrderly (lines_in s.full.items s.last ++ ls)) (sym fresh) (subst IsOrderly (sym (append-nil (lines_in s.full.items s.last))) c.self.invariant.orderly)) (let none : length c.replace.new.dest.lines ≡ 0 = ap (λ (ls : List Line). length ls) fresh in omega arith)
    (search rules) (search rules) (search rules) (search rules)
