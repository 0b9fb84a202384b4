use Rattle.std.proofs.Common.{◌≡◌, ◌++◌}
use Rattle.spec_text.specs.Lines.{text_of}
use Rattle.mal_core.specs.Texts.{witness_rows}
use Rattle.mal_core.proofs.text.put_witnesses.Given as goal

abbrev pub invariant-loop-lit : goal.invariant-loop-lit
invariant-loop-lit l = l.out.items ++ text_of (witness_rows l.lit-iterator.a.rest.now l.lit-iterator.b.rest.now) ≡ l.fn.out.items ++ text_of (witness_rows l.core l.models)
