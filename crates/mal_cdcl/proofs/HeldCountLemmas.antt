-- How many clauses a node holds after a step, loads and imports, and what an import that takes nothing leaves.
use Rattle.std.proofs.Common.{◌≡◌, ◌≢◌, ℕ, ◌+◌, ◌≤◌, Bool, true, false, cond, List, [], ◌∷◌, ◌++◌, length, Option, Some, None, refl, sym, ap, ◌∙◌, length-append, arith}
use Rattle.std.specs.Prelude.{not, filter, nat_lt, nat_le, ◌^◌, ◌==◌}
use Rattle.std.proofs.lemmas.Bool.{and_parts, eqb-true}
use Rattle.std.proofs.lemmas.Bool.Decides.{nat_tests}
use Rattle.std.proofs.lemmas.List.Filters.{length-filter_both}
use Rattle.mal_base.specs.declared.profile.Profile.{Profile}
use Rattle.mal_base.specs.declared.profile.Reduction.TheVariants.{Never}
use Rattle.mal_base.specs.Profiles.{policy}
use Rattle.mal_base.specs.NumberedClause.{NumberedClause}
use Rattle.mal_revision.specs.Posted.{Posted}
use Rattle.spec_node.specs.State.{Node, has_profile}
use Rattle.spec_node.specs.Adding.{with_clause, forgetting}
use Rattle.spec_node.specs.Sound.{NumbersRise}
use Rattle.spec_node.proofs.SoundLemmas.{numbers-filter}
use Rattle.mal_base.specs.Formulas.{is_within}
use Rattle.mal_trail.specs.Rooms.{are_within}
use Rattle.std.specs.List.{list_any}
use Rattle.spec_node.specs.Load.{is_derived, numbered, with_originals, loaded}
use Rattle.spec_node.specs.Import.{taken, with_clauses, with_new, is_left_off, imported}
use Rattle.spec_node.specs.Cut.{kept}
use Rattle.spec_learn.specs.Learning.{analysis, derived_id}
use Rattle.spec_learn.specs.Refuting.{core_analysis}
use Rattle.spec_learn.specs.Dropping.{to_drop}
use Rattle.spec_search.specs.Step.{Case, Learns, Refutes, Propagates, Drops, Restarts, Contradicts, Assumes, Decides, Ends, after_case}
use Rattle.mal_cdcl.specs.ImportSizes.{import_clauses}
use Rattle.mal_cdcl.specs.Ready.{readied, clauses_in}
use Rattle.mal_cdcl.specs.Importing.{with_pick, with_picks, all_imported}

filter-count : (p : NumberedClause → Bool) (cs : List NumberedClause) → length (filter p cs) ≤ length cs
filter-count p cs = omega (arith, length-filter_both p (λ c. not (p c)) (λ c. refl) cs)

with_clause-count : (c : NumberedClause) (ds : List NumberedClause) → length (with_clause c ds) ≡ length ds + 1
with_clause-count c [] = refl
with_clause-count c (d ∷ ds) = by_less (nat_lt c.id d.id) (with_clause-count c ds)
  where
    by_less : (b : Bool) → length (with_clause c ds) ≡ length ds + 1 → length (cond b (c ∷ (d ∷ ds)) (d ∷ with_clause c ds)) ≡ length (d ∷ ds) + 1
    by_less true h = omega arith
    by_less false h = omega (arith, h)

with_clauses-count : (new cs : List NumberedClause) → length (with_clauses new cs) ≡ length cs + length new
with_clauses-count [] cs = omega arith
with_clauses-count (c ∷ new) cs = omega (arith, with_clauses-count new (with_clause c cs), with_clause-count c cs)

numbered-count : (first : ℕ) (cs : List (Option (List ℕ))) → length (numbered first cs) ≤ length cs
numbered-count first [] = omega arith
numbered-count first (None ∷ cs) = omega (arith, numbered-count (first + 1) cs)
numbered-count first (Some lits ∷ cs) = omega (arith, numbered-count (first + 1) cs)

is-other : (a b : ℕ) → nat_le b a ≡ not (nat_lt a b)
is-other a b = grind (arith, nat_tests)

originals-count : (held new : List NumberedClause) → length (with_originals held new) ≡ length held + length new
originals-count held new =
    let low : NumberedClause → Bool = λ c. nat_lt c.id (2 ^ 32) in
    omega (arith, length-filter_both low is_derived (λ c. is-other c.id (2 ^ 32)) held, length-append (filter low held) (new ++ filter is_derived held), length-append new (filter is_derived held))

-- fewer clauses are of the same variables, and their numbers rise
pub within-fewer : (v : ℕ) (ids : List ℕ) (cs : List NumberedClause) → are_within v cs ≡ true → are_within v (forgetting ids cs) ≡ true
within-fewer v ids [] h = refl
within-fewer v ids (c ∷ cs) h =
    let parts = and_parts (is_within v c.lits) (are_within v cs) h in
    by_test (not (list_any (λ i. i == c.id) ids)) (within-fewer v ids cs parts.1) parts.0
  where
    by_test : (b : Bool) → are_within v (forgetting ids cs) ≡ true → is_within v c.lits ≡ true → are_within v (cond b (c ∷ forgetting ids cs) (forgetting ids cs)) ≡ true
    by_test true h k = rw k h
    by_test false h k = h

pub rising-fewer : (ids : List ℕ) (cs : List NumberedClause) → NumbersRise 1 cs → NumbersRise 1 (forgetting ids cs)
rising-fewer ids cs h = numbers-filter (λ c. not (list_any (λ i. i == c.id) ids)) 1 cs h

-- a step adds a clause at the most
pub case-held : (c : Case) (n : Node) → length (after_case c n).clauses ≤ length n.clauses + 1
case-held (Learns id) n = omega (arith, with_clause-count (record { id = derived_id n; lits = (analysis id n).lits }) n.clauses)
case-held (Refutes id) n = omega (arith, with_clause-count (record { id = derived_id n; lits = (analysis id n).lits }) n.clauses)
case-held Propagates n = omega arith
case-held Drops n = omega (arith, filter-count (λ c. not (list_any (λ i. i == c.id) (to_drop (kept 0 n.trail) n.clauses))) n.clauses)
case-held Restarts n = omega arith
case-held (Contradicts a) n = omega (arith, with_clause-count (record { id = derived_id n; lits = (core_analysis a n).lits }) n.clauses)
case-held (Assumes a) n = omega arith
case-held (Decides v) n = omega arith
case-held Ends n = omega arith

loaded-held : (r : Posted) (first : ℕ) (n : Node) → length (loaded r first n).clauses ≤ length n.clauses + length r.clauses
loaded-held r first n = omega (arith, originals-count n.clauses (numbered first r.clauses), numbered-count first r.clauses)

readied-held : (ls : List (Posted × ℕ)) (n : Node) → length (readied ls n).clauses ≤ length n.clauses + clauses_in ls
readied-held [] n = omega arith
readied-held (l ∷ ls) n = omega (arith, readied-held ls (loaded l.0 l.1 n), loaded-held l.0 l.1 n)

readied-profile : (ls : List (Posted × ℕ)) (n : Node) → (readied ls n).profile ≡ n.profile
readied-profile [] n = refl
readied-profile (l ∷ ls) n = readied-profile ls (loaded l.0 l.1 n)

-- what holds of a node, and of it with the clauses that it takes, holds after the import
pub by-pick : (P : Node → Type 0) (new : List NumberedClause) (n : Node) → P n → P (with_new new n) → P (with_pick new n)
by-pick P new n h k = by_test (is_left_off n.profile new)
  where
    by_test : (b : Bool) → P (cond b n (with_new new n))
    by_test true = h
    by_test false = k

no-clauses : (new : List NumberedClause) → length new ≡ 0 → new ≡ []
no-clauses [] h = refl
no-clauses (c ∷ new) h = absurd (omega (arith, h))

-- an import that is left off takes no clause
pub left-off-none : (profile : Profile) (new : List NumberedClause) → is_left_off profile new ≡ true → new ≡ []
left-off-none profile new h = no-clauses new (eqb-true (length new) 0 (and_parts (policy profile).skips_empty_imports (length new == 0) h).1)

-- the clauses are held then, whether the import was left off or not
pub pick-clauses : (new : List NumberedClause) (n : Node) → (with_pick new n).clauses ≡ with_clauses new n.clauses
pick-clauses new n = by_test (is_left_off n.profile new) refl
  where
    by_test : (b : Bool) → is_left_off n.profile new ≡ b → (cond b n (with_new new n)).clauses ≡ with_clauses new n.clauses
    by_test true t = ap (λ (cs : List NumberedClause). with_clauses cs n.clauses) (sym (left-off-none n.profile new t))
    by_test false t = refl

-- an import leaves these
pub record PickLeaves (before after : Node) : Type 0 where
  pub profile : after.profile ≡ before.profile
  pub variables : after.variables ≡ before.variables
  pub conflicts_since_restart : after.conflicts_since_restart ≡ before.conflicts_since_restart
  pub restart_number : after.restart_number ≡ before.restart_number
  pub conflicts_since_dropping : after.conflicts_since_dropping ≡ before.conflicts_since_dropping

pub pick-leaves : (new : List NumberedClause) (n : Node) → PickLeaves n (with_pick new n)
pick-leaves new n = by-pick (λ m. PickLeaves n m) new n (record { profile = refl; variables = refl; conflicts_since_restart = refl; restart_number = refl; conflicts_since_dropping = refl }) (record { profile = refl; variables = refl; conflicts_since_restart = refl; restart_number = refl; conflicts_since_dropping = refl })

-- lists that are imported one after another leave a node its profile
pub imports-has_profile : (imports : List (List NumberedClause)) (n : Node) → has_profile n ≡ true → has_profile (all_imported imports n) ≡ true
imports-has_profile [] n h = h
imports-has_profile (exported ∷ more) n h = imports-has_profile more (imported exported n) (by-pick (λ (m : Node). has_profile m ≡ true) (taken exported n.clauses) n h h)

picks-held : (ps : List (List NumberedClause)) (n : Node) → length (with_picks ps n).clauses ≤ length n.clauses + import_clauses ps
picks-held [] n = omega arith
picks-held (new ∷ more) n =
    let here : length (with_pick new n).clauses ≡ length (with_clauses new n.clauses) = ap (λ (cs : List NumberedClause). length cs) (pick-clauses new n) in
    omega (arith, picks-held more (with_pick new n), here, with_clauses-count new n.clauses)

picks-profile : (ps : List (List NumberedClause)) (n : Node) → (with_picks ps n).profile ≡ n.profile
picks-profile [] n = refl
picks-profile (new ∷ more) n = picks-profile more (with_pick new n) ∙ (pick-leaves new n).profile

-- room for the numbers of the clauses held before loads and imports, of theirs, and of so many more is room for those
-- held after
pub ready-ids : (steps : ℕ) (loads : List (Posted × ℕ)) (picks : List (List NumberedClause)) (start end : Node) (ids : ℕ) → end ≡ with_picks picks (readied loads start) → ((policy start.profile).reduction ≢ Never → length start.clauses + (clauses_in loads + import_clauses picks + steps) ≤ ids) → (policy end.profile).reduction ≢ Never → length end.clauses + steps ≤ ids
ready-ids steps loads picks start end ids is room reduces =
    let profile : end.profile ≡ start.profile = ap (λ (n : Node). n.profile) is ∙ (picks-profile picks (readied loads start) ∙ readied-profile loads start) in
    let held : length end.clauses ≡ length (with_picks picks (readied loads start)).clauses = ap (λ (n : Node). length n.clauses) is in
    omega (arith, held, picks-held picks (readied loads start), readied-held loads start, room (λ never. reduces (ap (λ (p : Profile). (policy p).reduction) profile ∙ never)))
