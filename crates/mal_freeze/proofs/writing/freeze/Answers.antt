use Rattle.std.proofs.Common.{ℕ, List, ap, ◌∙◌}
use Rattle.spec_node.specs.State.{Node}
use Rattle.mal_freeze.specs.Parted.{node_of}
use Rattle.mal_freeze.specs.Reading.{image_in}
use Rattle.mal_freeze.proofs.FieldLemmas.{good}
use Rattle.mal_freeze.proofs.AgainLemmas.{image_again}
use Rattle.mal_freeze.proofs.writing.freeze.Goals as goal

pub returns-clause-again : goal.returns-clause-again
returns-clause-again c =
    let is = c.parts.ensures.value in
    ap (λ (b : List ℕ). image_in b) c.in_ok-bytes.ensures.spelled ∙ image_again (node_of c.parts.result.now) (rw is c.parts.ensures.form) c.in_ok-bytes.ensures.fits ∙ ap (λ (m : Node). good m) is
