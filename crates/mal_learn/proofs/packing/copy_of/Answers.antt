use Rattle.std.proofs.Common.{arith}
use Rattle.mal_learn.proofs.PackLemmas.{copying-room, copying-next}
use Rattle.mal_learn.proofs.packing.copy_of.Goals as goal

pub push_reserved-requires-clause-room : goal.push_reserved-requires-clause-room
push_reserved-requires-clause-room c =
    let here = copying-room c.args.lines.now.lines c.loop-n.n c.lits.result.now c.hints.result.now c.loop-n.copy (omega arith) c.lits.ensures c.hints.ensures c.loop-n.invariant in
    omega (arith, here.room)

pub push_reserved-requires-clause-lit_room : goal.push_reserved-requires-clause-lit_room
push_reserved-requires-clause-lit_room c =
    let here = copying-room c.args.lines.now.lines c.loop-n.n c.lits.result.now c.hints.result.now c.loop-n.copy (omega arith) c.lits.ensures c.hints.ensures c.loop-n.invariant in
    omega (arith, here.lit_room)

pub push_reserved-requires-clause-hint_room : goal.push_reserved-requires-clause-hint_room
push_reserved-requires-clause-hint_room c =
    let here = copying-room c.args.lines.now.lines c.loop-n.n c.lits.result.now c.hints.result.now c.loop-n.copy (omega arith) c.lits.ensures c.hints.ensures c.loop-n.invariant in
    omega (arith, here.hint_room)

pub loop-n-preserved : goal.loop-n-preserved
loop-n-preserved c = copying-next c.args.lines.now.lines c.loop-n.n c.id.result c.lits.result.now c.hints.result.now c.loop-n.copy c.push_reserved.new.self (omega arith) c.id.ensures c.lits.ensures c.hints.ensures c.push_reserved.ensures.lines c.push_reserved.ensures.less c.push_reserved.ensures.less_lits c.push_reserved.ensures.less_hints c.loop-n.invariant
