use Rattle.std.proofs.Common.{◌≡◌, ◌⊎◌, inl, inr, true, false, [], ◌∷◌, take, drop, set, refl, sym, ◌∙◌}
use Rattle.std.proofs.lemmas.List.{get_or_read}
use Rattle.spec_node.specs.Value.{is_true, is_false}
use Rattle.mal_watch.specs.Watching.{clause_of, other_key, IsOther, IsSettled}
use Rattle.mal_watch.proofs.HasLemmas.{has-head}
use Rattle.mal_watch.proofs.WalkLemmas.{partner-below, clause-below}
use Rattle.mal_watch.proofs.TurnLemmas.{Visited, visit-moved, visit-settled, visit-left, two-watched}
use Rattle.mal_watch.proofs.walk.visit.Goals as goal
use Rattle.mal_watch.proofs.walk.visit.Goals.{After-keep_search_start, After-long_id, Joined-else-not-is_false_before, else-not-is_false_before-via-then-not-is_false_before+else-not-is_true, else-not-is_false_before-via-else-not-is_false_before}

pub key-other-requires : goal.key-other-requires
key-other-requires c =
    let here = c.requires.goes.left_is c.args.watch (has-head c.args.watch c.args.watch (drop 1 c.args.lists.now.out) refl) in
    rw c.partner.ensures (partner-below c.args.lists.now.count c.args.store.now.long c.args.lists.now.keys c.args.watch c.requires.goes.watching here.0)

pub replacement-requires-clause-clause : goal.replacement-requires-clause-clause
replacement-requires-clause-clause c =
    let here = c.requires.goes.left_is c.args.watch (has-head c.args.watch c.args.watch (drop 1 c.args.lists.now.out) refl) in
    clause-below c.args.lists.now.count c.args.store.now.long c.args.lists.now.keys c.args.watch c.requires.goes.watching here.0

pub replacement-requires-clause-two : goal.replacement-requires-clause-two
replacement-requires-clause-two c =
    let s = c.args.lists.now in
    let other : c.key-other.result ≡ other_key s.keys c.args.watch = rw c.partner.ensures at c.key-other.ensures in
    rw other (two-watched c.args.trail.now.entries c.args.count c.args.lit s.count c.args.store.now.long s.keys (drop 1 s.out) c.args.watch c.requires.turns c.requires.goes)

pub put-requires-in-None-clause-list : goal.put-requires-in-None-clause-list
put-requires-in-None-clause-list c =
    let here = c.requires.goes.left_is c.args.watch (has-head c.args.watch c.args.watch (drop 1 c.args.lists.now.out) refl) in
    c.requires.goes.watching.below c.args.watch c.args.lit (rw here.1 at (c.requires.goes.watching.own c.args.watch here.0))

-- the watch goes to another literal
moved : (c : After-keep_search_start) → Visited c.args.trail.now.entries c.args.count c.args.lit c.args.lists.now.count c.args.store.now.long (set c.args.lists.now.keys c.args.watch c.index-long_lits-place.result) (drop 1 c.args.lists.now.out) c.args.watch []
moved c =
    let s = c.args.lists.now in
    let watched = c.args.store.now.long in
    let other : c.key-other.result ≡ other_key s.keys c.args.watch = rw c.partner.ensures at c.key-other.ensures in
    let clause : c.long_lits.result.now ≡ (clause_of watched c.args.watch).lits = c.long_lits.ensures in
    let is = get_or_read (clause_of watched c.args.watch).lits c.in-Some.place c.index-long_lits-place.result c.in-Some.ensures.0 (rw clause at c.index-long_lits-place.is) 0 in
    let free : IsOther (take c.args.count c.args.trail.now.entries) (other_key s.keys c.args.watch) (clause_of watched c.args.watch).lits c.index-long_lits-place.result = rw (← other) (rw (← is) at c.in-Some.ensures.1) in
    visit-moved c.args.trail.now.entries c.args.count c.args.lit s.count watched s.keys (drop 1 s.out) c.args.watch c.index-long_lits-place.result c.requires.turns c.requires.goes free

pub returns-in-Some-clause-goes : goal.returns-in-Some-clause-goes
returns-in-Some-clause-goes c = rw (c.put.ensures.keys, c.put.ensures.lists) (moved c).goes

pub returns-in-Some-clause-found : goal.returns-in-Some-clause-found
returns-in-Some-clause-found c = sym (moved c).finds

-- the other literal alone is left
left : (c : After-long_id) → Visited c.args.trail.now.entries c.args.count c.args.lit c.args.lists.now.count c.args.store.now.long (set c.args.lists.now.keys c.args.watch c.args.lit) (drop 1 c.args.lists.now.out) c.args.watch (record { id = (clause_of c.args.store.now.long c.args.watch).id; lit = other_key c.args.lists.now.keys c.args.watch } ∷ [])
left c =
    let s = c.args.lists.now in
    let prefix = take c.args.count c.args.trail.now.entries in
    let other : c.key-other.result ≡ other_key s.keys c.args.watch = rw c.partner.ensures at c.key-other.ensures in
    let settled : IsSettled prefix (other_key s.keys c.args.watch) (clause_of c.args.store.now.long c.args.watch).lits = inl (rw (← other) c.in-None.ensures) in
    let free : is_false prefix (other_key s.keys c.args.watch) ≡ false = rw (← other) (sym c.is_false_before.ensures ∙ c.if-not-is_false_before.true) in
    let fresh : is_true c.args.trail.now.entries (other_key s.keys c.args.watch) ≡ false = rw (← other) (sym c.is_true.ensures ∙ c.if-not-is_true.true) in
    visit-left c.args.trail.now.entries c.args.count c.args.lit s.count c.args.store.now.long s.keys (drop 1 s.out) c.args.watch c.requires.turns c.requires.goes settled free fresh

pub returns-then-not-is_true-clause-goes : goal.returns-then-not-is_true-clause-goes
returns-then-not-is_true-clause-goes c = rw (c.put-in-None.ensures.keys, c.put-in-None.ensures.lists) (left c).goes

pub returns-then-not-is_true-clause-found : goal.returns-then-not-is_true-clause-found
returns-then-not-is_true-clause-found c =
    let other : c.key-other.result ≡ other_key c.args.lists.now.keys c.args.watch = rw c.partner.ensures at c.key-other.ensures in
    let number : (clause_of c.args.store.now.long c.args.watch).id ≡ c.long_id.result = sym c.long_id.ensures in
    rw ((left c).finds, number, ← other) refl

-- the other literal is false too, or true on the trail
none : (c : Joined-else-not-is_false_before) → Visited c.args.trail.now.entries c.args.count c.args.lit c.args.lists.now.count c.args.store.now.long (set c.args.lists.now.keys c.args.watch c.args.lit) (drop 1 c.args.lists.now.out) c.args.watch []
none c =
    let s = c.args.lists.now in
    let es = c.args.trail.now.entries in
    let prefix = take c.args.count es in
    let o = other_key s.keys c.args.watch in
    let other : c.key-other.result ≡ o = rw c.partner.ensures at c.key-other.ensures in
    let settled : IsSettled prefix o (clause_of c.args.store.now.long c.args.watch).lits = inl (rw (← other) c.in-None.ensures) in
    let value : (is_false prefix o ≡ true) ⊎ ((is_false prefix o ≡ false) × (is_true es o ≡ true)) = elim c.else-not-is_false_before.branch [
      | else-not-is_false_before-via-then-not-is_false_before+else-not-is_true w ↦ inr (rw (← other) (sym c.is_false_before.ensures ∙ w.if-not-is_false_before.true), rw (← other) (sym w.is_true.ensures ∙ w.if-not-is_true.false))
      | else-not-is_false_before-via-else-not-is_false_before w ↦ inl (rw (← other) (sym c.is_false_before.ensures ∙ w.if-not-is_false_before.false))
    ] in
    visit-settled es c.args.count c.args.lit s.count c.args.store.now.long s.keys (drop 1 s.out) c.args.watch c.requires.turns c.requires.goes settled value

pub returns-else-not-is_false_before-clause-goes : goal.returns-else-not-is_false_before-clause-goes
returns-else-not-is_false_before-clause-goes c = rw (c.put-in-None.ensures.keys, c.put-in-None.ensures.lists) (none c).goes

pub returns-else-not-is_false_before-clause-found : goal.returns-else-not-is_false_before-clause-found
returns-else-not-is_false_before-clause-found c = sym (none c).finds
