-- The nodes of a job that have run, and their images.
use Rattle.std.proofs.Common.{◌≡◌, ℕ, zero, suc, ◌+◌, ◌-◌, ◌<◌, Bool, true, false, cond, List, [], ◌∷◌, ◌++◌, filter, get_or, Option, Some, None, refl, sym, ap, subst, ◌∙◌, arith, append_assoc, append-nil}
use Rattle.std.specs.Prelude.{Ok, is_some}
use Rattle.std.proofs.lemmas.List.Sums.{sum_by-cons}
use Rattle.spec_node.specs.Load.{counted}
use Rattle.mal_freeze.specs.Reading.{image_in}
use Rattle.mal_suspend.specs.Freezing.{IsFrozen}
use Rattle.spec_job.specs.Counts.{starts_out}
use Rattle.spec_job.specs.SoloMachine.{Lease, NodeSlot, SoloMachine, vacant}
use Rattle.spec_job.specs.Viewed.{JobView, journal_at}
use Rattle.spec_parcel.specs.Packed.{has_run, node_at, node_bytes, placed_bytes, ran_indices}
use Rattle.mal_parcel.specs.Parcelled.{IsReadBack}

-- one for a start that is out
abbrev once : Option Lease → ℕ
once o = cond (is_some o) 1 0

once-none : (o : Option Lease) → once o ≡ 0 → o ≡ None
once-none None e = refl
once-none (Some l) e = absurd cc

-- where no start is out, none is out of a place
pub none-out : (ps : List NodeSlot) (i : ℕ) → starts_out ps ≡ 0 → (get_or ps i vacant).out ≡ None
none-out [] i e = refl
none-out (p ∷ ps) zero e =
    let cons : starts_out (p ∷ ps) ≡ once p.out + starts_out ps = sum_by-cons (λ (x : NodeSlot). once x.out) p ps in
    once-none p.out (omega (arith, cons, e))
none-out (p ∷ ps) (suc i) e =
    let cons : starts_out (p ∷ ps) ≡ once p.out + starts_out ps = sum_by-cons (λ (x : NodeSlot). once x.out) p ps in
    none-out ps i (omega (arith, cons, e))

-- the bytes of a job's node, by its image
pub image-placed : (v : JobView) (i : ℕ) (image before after : List ℕ) → IsFrozen image (journal_at v i) → after ≡ before ++ placed_bytes (record { index = i; image = image }) → after ≡ before ++ node_bytes v.titled.state i
image-placed v i image before after h e = e ∙ ap (λ (t : List ℕ). before ++ placed_bytes (record { index = i; image = t })) h.spelled

pub image-back : (v : JobView) (i : ℕ) (image : List ℕ) → IsFrozen image (journal_at v i) → IsReadBack v.titled.state i
image-back v i image h = subst (λ (t : List ℕ). image_in t ≡ Ok (node_at v.titled.state i)) h.spelled h.again

-- the indices that are left, from one on
abbrev pub ran_from : SoloMachine → ℕ → List ℕ
ran_from s n = filter (has_run s) (counted n (64 - n))

pub ran-first : (s : SoloMachine) → ran_from s 0 ≡ ran_indices s
unfolding ran_indices
ran-first s = refl

ran-next : (s : SoloMachine) (n : ℕ) → n < 64 → ran_from s n ≡ cond (has_run s n) (n ∷ ran_from s (n + 1)) (ran_from s (n + 1))
ran-next s n low =
    let more : 64 - n ≡ suc (64 - (n + 1)) = omega arith in
    ap (λ (k : ℕ). filter (has_run s) (counted n k)) more

pub ran-yes : (s : SoloMachine) (n : ℕ) (found : List ℕ) → n < 64 → has_run s n ≡ true → found ++ ran_from s n ≡ ran_indices s → (found ++ n ∷ []) ++ ran_from s (n + 1) ≡ ran_indices s
ran-yes s n found low is e = append_assoc found (n ∷ []) (ran_from s (n + 1)) ∙ ap (λ (is : List ℕ). found ++ is) (sym (ran-next s n low ∙ ap (λ (b : Bool). cond b (n ∷ ran_from s (n + 1)) (ran_from s (n + 1))) is)) ∙ e

pub ran-no : (s : SoloMachine) (n : ℕ) (found : List ℕ) → n < 64 → has_run s n ≡ false → found ++ ran_from s n ≡ ran_indices s → found ++ ran_from s (n + 1) ≡ ran_indices s
ran-no s n found low is e = ap (λ (is : List ℕ). found ++ is) (sym (ran-next s n low ∙ ap (λ (b : Bool). cond b (n ∷ ran_from s (n + 1)) (ran_from s (n + 1))) is)) ∙ e

pub ran-all : (s : SoloMachine) (found : List ℕ) → found ++ ran_from s 64 ≡ ran_indices s → found ≡ ran_indices s
ran-all s found e = sym (append-nil found) ∙ e
