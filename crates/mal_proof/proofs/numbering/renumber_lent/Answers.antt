use Rattle.spec_proof.proofs.OrderLemmas.{ids-increase}
use Rattle.mal_proof.proofs.numbering.renumber_lent.Goals as goal

pub new_id-id-requires-clause-rising : goal.new_id-id-requires-clause-rising
new_id-id-requires-clause-rising c = rw (c.as_slice.ensures.value, c.in_ok-ids.ensures) (ids-increase c.args.lines.now c.requires.rising)

pub new_ids-requires-clause-rising : goal.new_ids-requires-clause-rising
new_ids-requires-clause-rising c = rw (c.as_slice-in-loop-line.ensures.value, c.in_ok-ids.ensures) (ids-increase c.args.lines.now c.requires.rising)
