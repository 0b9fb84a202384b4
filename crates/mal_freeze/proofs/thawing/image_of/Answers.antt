use Rattle.mal_freeze.specs.Parted.{node_of}
use Rattle.mal_freeze.proofs.CanonicalLemmas.{image_result}
use Rattle.mal_freeze.proofs.thawing.image_of.Goals as goal

pub returns-in-Some : goal.returns-in-Some
returns-in-Some c = image_result c.args.fields (node_of c.in-Some.parts) c.new.result (rw c.in-Some.is at c.in_ok-parts_of.ensures) c.new.ensures
