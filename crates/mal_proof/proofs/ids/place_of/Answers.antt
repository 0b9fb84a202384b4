use Rattle.mal_proof.proofs.Marking.{place-found}
use Rattle.mal_proof.proofs.ids.place_of.Goals as goal

pub returns : goal.returns
returns c = rw c.ok.ensures.value (place-found c.args.ids.now c.args.id c.binary_search.result c.requires c.binary_search.ensures.position)
