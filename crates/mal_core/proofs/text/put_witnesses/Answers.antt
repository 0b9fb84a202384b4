use Rattle.std.proofs.Common.{◌++◌}
use Rattle.spec_text.specs.Lines.{text_of}
use Rattle.mal_core.specs.Texts.{witness_rows}
use Rattle.mal_core.proofs.TextLemmas.{witnesses-end}
use Rattle.mal_core.proofs.text.put_witnesses.Goals as goal

pub returns : goal.returns
returns c = witnesses-end c.loop-lit.out.items (c.args.out.now.items ++ text_of (witness_rows c.args.core.now c.args.models.now)) c.loop-lit.lit-iterator.a.rest.now c.loop-lit.lit-iterator.b.rest.now c.in-None.ensures.steps (λ h. h.1.0) (λ h. h.1.0) c.loop-lit.invariant
