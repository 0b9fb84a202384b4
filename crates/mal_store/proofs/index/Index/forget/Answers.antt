use Rattle.std.proofs.Common.{arith}
use Rattle.mal_store.specs.Indexed.{is_kept}
use Rattle.mal_store.proofs.EntryLemmas.{rise-append, rise-filter, below-filter}
use Rattle.mal_store.proofs.index.Index.forget.Goals as goal

pub invariant_of-self : goal.invariant_of-self
invariant_of-self c =
    let s = c.self.inside in
    let test = is_kept c.args.ids.now in
    record {
      rising = rw c.take_away.ensures.items (rise-filter test 1 s.originals.items c.self.invariant.rising);
      below = rw c.take_away.ensures.items (below-filter test 4294967296 s.originals.items c.self.invariant.below);
      behind = rw c.take_away-2.ensures.items (rise-filter test 4294967296 s.derived.items c.self.invariant.behind);
    }

pub returns-clause-rising : goal.returns-clause-rising
returns-clause-rising c =
    let s = c.self.inside in
    rw (← c.self.view_is) (rise-append 1 4294967296 s.originals.items s.derived.items (omega arith) c.self.invariant.rising c.self.invariant.below c.self.invariant.behind)
