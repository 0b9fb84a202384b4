use Rattle.mal_cdcl.specs.Ready.{posted}
use Rattle.mal_cdcl.specs.Importing.{lent}
use Rattle.mal_cdcl.proofs.PickLemmas.{picked-readied}
use Rattle.mal_cdcl.proofs.import_filter.new_clauses_of.Goals as goal

pub returns : goal.returns
returns g c = λ n same. picked-readied (lent c.args.imports.now) (posted c.args.loads.now) n (g.E.ClauseView.clauses c.args.engine.now) c.pick_past.new.picks.items _ _ _ _ same c.new-exported.ensures c.new-seen.ensures c.in_ok-note_all.ensures.exported c.in_ok-note_all.ensures.seen c.in_ok-pick_past.ensures
