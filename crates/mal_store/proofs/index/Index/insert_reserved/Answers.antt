use Rattle.std.proofs.Common.{◌<◌, ◌≤◌, sym, ◌∙◌, arith}
use Rattle.mal_store.proofs.EntryLemmas.{under-front, under-back, with-front, with-back, rise-behind, rise-with, below-with}
use Rattle.mal_store.proofs.index.Index.insert_reserved.Goals as goal

pub insert_in-requires-clause-new : goal.insert_in-requires-clause-new
insert_in-requires-clause-new c =
    let s = c.self.inside in
    let low : c.args.entry.id < 4294967296 = omega (arith, c.if-number-lt-FIRST_DERIVED.true, c.number.ensures.value) in
    sym (under-front c.args.entry.id 4294967296 s.originals.items s.derived.items low c.self.invariant.behind) ∙ rw (← c.self.view_is) at c.requires.new

pub invariant_of-self : goal.invariant_of-self
invariant_of-self c =
    let s = c.self.inside in
    let low : c.args.entry.id < 4294967296 = omega (arith, c.if-number-lt-FIRST_DERIVED.true, c.number.ensures.value) in
    let new = sym (under-front c.args.entry.id 4294967296 s.originals.items s.derived.items low c.self.invariant.behind) ∙ rw (← c.self.view_is) at c.requires.new in
    record {
      rising = rw c.insert_in.ensures.items (rise-with 1 c.args.entry s.originals.items c.insert_in.ensures.some new c.self.invariant.rising);
      below = rw c.insert_in.ensures.items (below-with 4294967296 c.args.entry s.originals.items low c.self.invariant.below);
      behind = c.self.invariant.behind;
    }

pub insert_in-requires-else-number-lt-FIRST_DERIVED-clause-rising : goal.insert_in-requires-else-number-lt-FIRST_DERIVED-clause-rising
insert_in-requires-else-number-lt-FIRST_DERIVED-clause-rising c = rise-behind c.self.inside.derived.items c.self.invariant.behind

pub insert_in-requires-else-number-lt-FIRST_DERIVED-clause-new : goal.insert_in-requires-else-number-lt-FIRST_DERIVED-clause-new
insert_in-requires-else-number-lt-FIRST_DERIVED-clause-new c =
    let s = c.self.inside in
    let high : 4294967296 ≤ c.args.entry.id = omega (arith, c.if-number-lt-FIRST_DERIVED.false, c.number.ensures.value) in
    sym (under-back c.args.entry.id 4294967296 s.originals.items s.derived.items high c.self.invariant.below) ∙ rw (← c.self.view_is) at c.requires.new

pub invariant_of-self-else-number-lt-FIRST_DERIVED : goal.invariant_of-self-else-number-lt-FIRST_DERIVED
invariant_of-self-else-number-lt-FIRST_DERIVED c =
    let s = c.self.inside in
    let high : 4294967296 ≤ c.args.entry.id = omega (arith, c.if-number-lt-FIRST_DERIVED.false, c.number.ensures.value) in
    let new = sym (under-back c.args.entry.id 4294967296 s.originals.items s.derived.items high c.self.invariant.below) ∙ rw (← c.self.view_is) at c.requires.new in
    record {
      rising = c.self.invariant.rising;
      below = c.self.invariant.below;
      behind = rw c.insert_in-else-number-lt-FIRST_DERIVED.ensures.items (rise-with 4294967296 c.args.entry s.derived.items high new c.self.invariant.behind);
    }

pub returns-then-number-lt-FIRST_DERIVED-clause-entries : goal.returns-then-number-lt-FIRST_DERIVED-clause-entries
returns-then-number-lt-FIRST_DERIVED-clause-entries c =
    let s = c.self.inside in
    let low : c.args.entry.id < 4294967296 = omega (arith, c.if-number-lt-FIRST_DERIVED.true, c.number.ensures.value) in
    rw (← c.self.view_is, c.insert_in.ensures.items) (sym (with-front c.args.entry 4294967296 s.originals.items s.derived.items low c.self.invariant.behind))

pub returns-else-number-lt-FIRST_DERIVED-clause-entries : goal.returns-else-number-lt-FIRST_DERIVED-clause-entries
returns-else-number-lt-FIRST_DERIVED-clause-entries c =
    let s = c.self.inside in
    let high : 4294967296 ≤ c.args.entry.id = omega (arith, c.if-number-lt-FIRST_DERIVED.false, c.number.ensures.value) in
    rw (← c.self.view_is, c.insert_in-else-number-lt-FIRST_DERIVED.ensures.items) (sym (with-back c.args.entry 4294967296 s.originals.items s.derived.items high c.self.invariant.below))
