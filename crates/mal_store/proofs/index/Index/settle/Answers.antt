use Rattle.std.proofs.Common.{◌<◌, ◌≤◌, sym, arith}
use Rattle.mal_store.proofs.EntryLemmas.{settled-front, settled-back, rise-settled, below-settled, rise-behind}
use Rattle.mal_store.proofs.index.Index.settle.Goals as goal

pub invariant_of-self : goal.invariant_of-self
invariant_of-self c =
    let s = c.self.inside in
    record {
      rising = rw c.settle_in.ensures.items (rise-settled c.args.id c.args.place 1 s.originals.items c.self.invariant.rising);
      below = rw c.settle_in.ensures.items (below-settled c.args.id c.args.place 4294967296 s.originals.items c.self.invariant.below);
      behind = c.self.invariant.behind;
    }

pub settle_in-requires-else-number-lt-FIRST_DERIVED : goal.settle_in-requires-else-number-lt-FIRST_DERIVED
settle_in-requires-else-number-lt-FIRST_DERIVED c = rise-behind c.self.inside.derived.items c.self.invariant.behind

pub invariant_of-self-else-number-lt-FIRST_DERIVED : goal.invariant_of-self-else-number-lt-FIRST_DERIVED
invariant_of-self-else-number-lt-FIRST_DERIVED c =
    record {
      rising = c.self.invariant.rising;
      below = c.self.invariant.below;
      behind = rw c.settle_in-else-number-lt-FIRST_DERIVED.ensures.items (rise-settled c.args.id c.args.place 4294967296 c.self.inside.derived.items c.self.invariant.behind);
    }

pub returns-then-number-lt-FIRST_DERIVED-clause-entries : goal.returns-then-number-lt-FIRST_DERIVED-clause-entries
returns-then-number-lt-FIRST_DERIVED-clause-entries c =
    let s = c.self.inside in
    let low : c.args.id < 4294967296 = omega (arith, c.if-number-lt-FIRST_DERIVED.true, c.number.ensures.value) in
    rw (← c.self.view_is, c.settle_in.ensures.items) (sym (settled-front c.args.id c.args.place 4294967296 s.originals.items s.derived.items low c.self.invariant.behind))

pub returns-else-number-lt-FIRST_DERIVED-clause-entries : goal.returns-else-number-lt-FIRST_DERIVED-clause-entries
returns-else-number-lt-FIRST_DERIVED-clause-entries c =
    let s = c.self.inside in
    let high : 4294967296 ≤ c.args.id = omega (arith, c.if-number-lt-FIRST_DERIVED.false, c.number.ensures.value) in
    rw (← c.self.view_is, c.settle_in-else-number-lt-FIRST_DERIVED.ensures.items) (sym (settled-back c.args.id c.args.place 4294967296 s.originals.items s.derived.items high c.self.invariant.below))
