use Rattle.mal_cli.proofs.SearchLemmas.{search-refused}
use Rattle.mal_cli.proofs.searching.search_text.Goals as goal

pub returns : goal.returns
returns g c = search-refused g.T.Task.form g.T.Task.inputs (g.T.Task.written c.args.slices) c.args.text.items c.in-Err.fault c.refused.result c.requires.lawful (rw c.as_slice.ensures.value at c.in-Err.ensures.exact) c.refused.ensures
