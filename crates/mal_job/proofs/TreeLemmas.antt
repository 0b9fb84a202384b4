-- What a tree keeps, and what it tells.
use Rattle.std.proofs.Common.{◌≡◌, ℕ, zero, suc, ◌+◌, ◌-◌, ◌<◌, ◌≤◌, Bool, List, [], ◌∷◌, ◌++◌, length, map, take, drop, get_or, Option, Some, None, refl, sym, ◌∙◌, ap, subst, arith}
use Rattle.std.specs.Prelude.{slice_get, IsTrue}
use Rattle.std.specs.Arc.{arc_value}
use Rattle.std.specs.declared.sync.Arc.{Arc}
use Rattle.std.proofs.lemmas.List.{map-append, take_all, length-drop}
use Rattle.mal_base.specs.NumberedClause.{NumberedClause, Line}
use Rattle.mal_base.specs.declared.verdict.Outcome.{Outcome}
use Rattle.mal_base.specs.declared.verdict.Outcome.TheVariants.{Ran, Starved}
use Rattle.spec_exchange.specs.Exchange.{broadcast}
use Rattle.spec_job.specs.Journaled.{Journaled, and_entries}
use Rattle.spec_job.specs.Leased.{Finished}
use Rattle.spec_job.specs.SoloMachine.{Lease, exports_from}
use Rattle.spec_job.specs.Viewed.{IsGrownBy}
use Rattle.mal_job.specs.Among.{among}
use Rattle.mal_job.specs.Exports.{marked}
use Rattle.mal_job.specs.Placing.{IsBackAt, IsGrown, IsTree, with_placed}
use Rattle.mal_job.specs.Viewed.{PlaceView, TreeView, shared, place_of, places_of}
use Rattle.mal_job.proofs.PlaceLemmas.{length-set, own-at, own-set, grown-own}
use Rattle.mal_job.proofs.ExchangeLemmas.{length-marked, own-marked, exports-are}

-- a place that is set has the journal of its node
pub tree-set : (t : TreeView) (i : ℕ) (old new : PlaceView) → i < length t.places → old ≡ get_or t.places i old → new.journal.job ≡ old.journal.job → new.journal.index ≡ old.journal.index → new.journal.profile ≡ old.journal.profile → IsTree t → IsTree (with_placed t i new)
tree-set t i old new low is same_job same_index same_profile k =
    let own : ((get_or t.places i old).journal.job ≡ t.number) × ((get_or t.places i old).journal.index ≡ 0 + i) × ((get_or t.places i old).journal.profile ≡ t.profile) = own-at t.number t.profile t.places 0 i old low k.own in
    record {
      few = subst (λ (n : ℕ). n ≤ 64) (sym (length-set t.places i new)) k.few;
      volume = k.volume;
      own = own-set t.number t.profile t.places 0 i new (same_job ∙ (ap (λ (p : PlaceView). p.journal.job) is ∙ own.0)) (same_index ∙ (ap (λ (p : PlaceView). p.journal.index) is ∙ own.1)) (same_profile ∙ (ap (λ (p : PlaceView). p.journal.profile) is ∙ own.2)) k.own;
    }

-- places that are made
pub tree-grown : (t : TreeView) (ps : List PlaceView) → IsGrown t.number t.profile t.places ps → length ps ≤ 64 → IsTree t → IsTree (record t { places = ps })
tree-grown t ps g low k = record { few = low; volume = k.volume; own = grown-own t.number t.profile t.places ps g k.own }

-- marks that are moved, and what is told
pub tree-exchanged : (t : TreeView) (n mark : ℕ) (tolds : List (List NumberedClause)) (ps : List PlaceView) → ps ≡ marked n mark t.places → IsTree t → IsTree (record { number = t.number; profile = t.profile; volume = t.volume; places = ps; broadcasts = tolds; ran = 0 })
tree-exchanged t n mark tolds ps e k = subst (λ (xs : List PlaceView). IsTree (record { number = t.number; profile = t.profile; volume = t.volume; places = xs; broadcasts = tolds; ran = 0 })) (sym e) (record {
  few = subst (λ (j : ℕ). j ≤ 64) (sym (length-marked n mark t.places)) k.few;
  volume = k.volume;
  own = own-marked t.number t.profile 0 n mark t.places k.own;
})

pub exchanged-is : (t : TreeView) (log : List Line) (ps : List PlaceView) (tolds : List (List NumberedClause)) (told : List NumberedClause) (mark : ℕ) → ps ≡ marked t.volume mark t.places → mark ≡ length log → tolds ≡ t.broadcasts ++ told ∷ [] → told ≡ broadcast (exports_from (length (take t.volume t.places)) log 0 (map place_of (take t.volume t.places))) → t.volume ≤ length t.places → record { number = t.number; profile = t.profile; volume = t.volume; places = ps; broadcasts = tolds; ran = 0 } ≡ record t { broadcasts = t.broadcasts ++ broadcast (exports_from t.volume log 0 (places_of t.places)) ∷ []; places = marked t.volume (length log) t.places; ran = 0 }
exchanged-is t log ps tolds told mark a b c d low = rw (a, b, c, d, exports-are t.volume log t.places low) refl

module _ {X Z : Type 0} where
  pub shared-push : (xs : List (Arc X Z)) (x : Arc X Z) → shared (xs ++ x ∷ []) ≡ shared xs ++ arc_value x ∷ []
  shared-push xs x = map-append (λ (y : Arc X Z). arc_value y) xs (x ∷ [])

  pub shared-drop : (n : ℕ) (xs : List (Arc X Z)) → shared (drop n xs) ≡ drop n (shared xs)
  shared-drop zero xs = refl
  shared-drop (suc n) [] = refl
  shared-drop (suc n) (x ∷ xs) = shared-drop n xs

  pub shared-take : (n : ℕ) (xs : List (Arc X Z)) → shared (take n xs) ≡ take n (shared xs)
  shared-take zero xs = refl
  shared-take (suc n) [] = refl
  shared-take (suc n) (x ∷ xs) = ap (λ (ys : List X). arc_value x ∷ ys) (shared-take n xs)

  pub shared-behind : (n : ℕ) (xs : List (Arc X Z)) → shared (take (length xs - n) (drop n xs)) ≡ drop n (shared xs)
  shared-behind n xs =
      let long : length (drop n xs) ≡ length xs - n = length-drop n xs in
      ap (λ (ys : List (Arc X Z)). shared ys) (take_all (length xs - n) (drop n xs) (omega arith)) ∙ shared-drop n xs

  pub among-shared : (xs : List (Arc X Z)) (r : ℕ) (x d : Arc X Z) (y : X) → (r ≡ 0 → ⊥) → r - 1 < length xs → x ≡ get_or xs (r - 1) d → y ≡ arc_value x → Some y ≡ among r (shared xs)
  among-shared xs zero x d y some low is e = absurd (some refl)
  among-shared xs (suc k) x d y some low is e = let same : suc k - 1 ≡ k = omega arith in ap (λ (z : X). Some z) (e ∙ ap (λ (z : Arc X Z). arc_value z) (is ∙ ap (λ (n : ℕ). get_or xs n d) same)) ∙ there xs k (omega arith)
    where
      there : (xs : List (Arc X Z)) (k : ℕ) → k < length xs → Some (arc_value (get_or xs k d)) ≡ slice_get (shared xs) k
      there [] k low = absurd (omega arith)
      there (x ∷ xs) zero low = refl
      there (x ∷ xs) (suc k) low = there xs k (omega arith)

-- what came back is that of the start that is out
some-same : (x y : Lease) → Some x ≡ Some y → x ≡ y
some-same x y e = ap unwrapped e
  where
    unwrapped : Option Lease → Lease
    unwrapped (Some l) = l
    unwrapped None = x

module _ (p : PlaceView) (d : Finished) (l : Lease) (b : Bool) (out : p.out ≡ Some l) where
  adds-same : (k : IsBackAt p d) → k.lease ≡ l
  adds-same k = some-same k.lease l (sym k.out ∙ out)

  pub back-ran : (grown : Journaled) → grown ≡ and_entries p.journal l.adds → d.outcome ≡ Ran → (IsTrue b → grown ≡ d.journal) → (grown ≡ d.journal → IsTrue b) → (IsTrue b → IsBackAt p d) × (IsBackAt p d → IsTrue b)
  back-ran grown g o there back = (
    λ h. record { lease = l; out = out; journal = subst (λ (x : Outcome). IsGrownBy x l.adds p.journal d.journal) (sym o) (sym (there h) ∙ g) },
    λ k. back (g ∙ (ap (λ (x : Lease). and_entries p.journal x.adds) (sym (adds-same k)) ∙ sym (subst (λ (x : Outcome). IsGrownBy x k.lease.adds p.journal d.journal) o k.journal))),
  )

  pub back-starved : d.outcome ≡ Starved → (IsTrue b → p.journal ≡ d.journal) → (p.journal ≡ d.journal → IsTrue b) → (IsTrue b → IsBackAt p d) × (IsBackAt p d → IsTrue b)
  back-starved o there back = (
    λ h. record { lease = l; out = out; journal = subst (λ (x : Outcome). IsGrownBy x l.adds p.journal d.journal) (sym o) (sym (there h)) },
    λ k. back (sym (subst (λ (x : Outcome). IsGrownBy x k.lease.adds p.journal d.journal) o k.journal)),
  )
