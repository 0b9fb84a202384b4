-- What a job lends: its slices, whether a node has run, and the journal of a node's image.
use Rattle.std.proofs.Common.{◌≡◌, ℕ, zero, suc, ◌-◌, ◌<◌, ◌≤◌, Bool, List, [], ◌∷◌, ◌++◌, length, map, replicate, get_or, slice_get, Option, Some, inl, inr, ◌⊎◌, refl, sym, ◌∙◌, ap, arith}
use Rattle.std.specs.Prelude.{◌==◌, not, false, true}
use Rattle.std.specs.Option.{option_map}
use Rattle.std.proofs.lemmas.Bool.{ne_eqb}
use Rattle.mal_base.specs.declared.profile.Profile.TheVariants.{Plain}
use Rattle.mal_base.specs.NumberedClause.{Line}
use Rattle.mal_proof.specs.Logged.{Part}
use Rattle.mal_suspend.specs.Entries.{entry_of, slices_of, entries_of}
use Rattle.mal_suspend.specs.declared.entry.Counted.{Counted}
use Rattle.spec_job.proofs.AgreeLemmas.{le-or_lt}
use Rattle.spec_job.specs.SoloMachine.{NodeSlot, place_at}
use Rattle.spec_job.specs.Viewed.{journal_at}
use Rattle.mal_job.specs.Placing.{IsTree, fresh_place}
use Rattle.mal_job.specs.Viewed.{Parts, PlaceView, slice_of, starts_of, state_of, viewed}
use Rattle.mal_job.proofs.PartLemmas.{journal-parts, journal-same}
use Rattle.mal_job.proofs.PlaceLemmas.{get-behind, get-within, placed-behind}

-- the slice of a part
get-mapped : (parts : List Part) (n : ℕ) → slice_get (map slice_of parts) n ≡ option_map slice_of (slice_get parts n)
get-mapped [] n = refl
get-mapped (p ∷ ps) zero = refl
get-mapped (p ∷ ps) (suc n) = get-mapped ps n

pub slice-at : (parts : List Part) (n : ℕ) (lines : List Line) (ends : Bool) → slice_get parts n ≡ Some (record { lines = lines; ends = ends }) → slice_get (map slice_of parts) n ≡ Some (record { lines = lines; ends = ends })
slice-at parts n lines ends e = get-mapped parts n ∙ ap (λ (o : Option Part). option_map slice_of o) e

-- a list that is long is there
there : {X : Type 0} (xs : List X) → 1 ≤ length xs → not (length xs == 0) ≡ true
there xs long = let other : (length xs == 0) ≡ false = ne_eqb (length xs) 0 (λ e. absurd (omega (arith, e, long))) in rw other refl

-- there are entries where one is no slice
pub some-entries : (cs : List Counted) (n : ℕ) → (length cs == 0) ≡ false → true ≡ not (length (entries_of cs ++ slices_of n) == 0)
some-entries [] n e = absurd (cc)
some-entries (c ∷ cs) n e = sym (there (entries_of (c ∷ cs) ++ slices_of n) (by_slices c.slices))
  where
    by_slices : (k : ℕ) → 1 ≤ length (((slices_of k ++ entry_of c.entry ∷ []) ++ entries_of cs) ++ slices_of n)
    by_slices zero = omega arith
    by_slices (suc k) = omega arith

-- the start of a place that was never used
starts-behind : (ps : List PlaceView) (n i : ℕ) → length ps ≤ i → get_or (map (λ (p : PlaceView). p.journal.start) ps ++ replicate n 0) i 0 ≡ 0
starts-behind [] zero i low = refl
starts-behind [] (suc n) zero low = refl
starts-behind [] (suc n) (suc i) low = starts-behind [] n i (omega arith)
starts-behind (p ∷ ps) n zero low = absurd (omega arith)
starts-behind (p ∷ ps) n (suc i) low = starts-behind ps n i (omega arith)

-- the journal at an index, where its place may never have been used
pub journal-fresh : (tenant job : List ℕ) (q : Parts) (i : ℕ) → IsTree q.tree → q.tree.profile ≡ q.asked.ask.profile → journal_at (viewed tenant job q) i ≡ (get_or q.tree.places i (fresh_place q.tree.number q.tree.profile i)).journal
journal-fresh tenant job q i k solvers = by_place (le-or_lt (length q.tree.places) i)
  where
    by_place : (length q.tree.places ≤ i) ⊎ (i < length q.tree.places) → journal_at (viewed tenant job q) i ≡ (get_or q.tree.places i (fresh_place q.tree.number q.tree.profile i)).journal
    by_place (inl high) =
        let none : get_or q.tree.places i (fresh_place q.tree.number q.tree.profile i) ≡ fresh_place q.tree.number q.tree.profile i = get-behind q.tree.places i (fresh_place q.tree.number q.tree.profile i) high in
        journal-parts (fresh_place q.tree.number q.tree.profile i).journal q.tree.number q.asked.ask.profile i (get_or (starts_of q.tree.places) i 0) (place_at (state_of q) i).entries refl (sym solvers) refl (starts-behind q.tree.places (64 - length q.tree.places) i high) (ap (λ (p : NodeSlot). p.entries) (placed-behind q.tree.places i high))
        ∙ ap (λ (p : PlaceView). p.journal) (sym none)
    by_place (inr low) = journal-same tenant job q i low k solvers ∙ ap (λ (p : PlaceView). p.journal) (get-within q.tree.places i (fresh_place 0 Plain 0) (fresh_place q.tree.number q.tree.profile i) low)
