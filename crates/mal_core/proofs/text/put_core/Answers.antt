use Rattle.mal_core.proofs.TextLemmas.{core-put}
use Rattle.mal_core.proofs.text.put_core.Goals as goal

pub returns : goal.returns
returns c = rw (← c.narrowed.view_is) (core-put c.put_witnesses.result c.args.out.now.items c.put_line.new.out.items c.put_failed.new.out.items c.put_proof.new.out.items c.put_witnesses.new.out.items c.narrowed.inside.core.items c.narrowed.inside.lines.lines c.narrowed.inside.models.items c.in_ok-put_line.ensures.written (rw c.as_slice.ensures.value at c.in_ok-put_failed.ensures) c.in_ok-put_proof.ensures (rw (c.as_slice-2.ensures.value, c.as_slice-3.ensures.value) at c.put_witnesses.ensures))
