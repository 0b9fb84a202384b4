use Rattle.mal_answer.proofs.Descriptions.{description-refused}
use Rattle.mal_answer.proofs.describing.describe.Goals as goal

pub returns : goal.returns
returns c = description-refused c.args.text.items c.in-Err.fault c.no_description.result (rw c.as_slice.ensures.value at c.in-Err.ensures.exact) c.no_description.ensures
