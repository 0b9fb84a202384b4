-- A handle, as the machine stores it, and what it owns.
use Rattle.mal_c.proofs.Walking.{◌≡◌, ℕ, List, [], ◌∷◌, ◌++◌, refl, ◌∙◌, lit<, Val, vstruct, vcons, vnil, of_list, SProp, ent, emp, Ura, Logic, sem, Seq, ‵, ◌$◌, by, keep, drop, fact, RattleType, Ptr, block_ptr, null_ptr, ptr_val, plain, Good}
use Rattle.std.proofs.Common.{zero, suc}
use mir.Syntax.{ty_ptr, ty_struct, tcons, tnil}
use mir.Raw.{raw as bare}
use base.Logic.{via, never_e, fst∗, snd∗}
use base.Fml.{Fml}
use types.Kit.{Item, Goal, ⋆, ⊢++}
use contract.Monad.{fact_use}
use denote.Builtin.{RawPtr, unit}
use denote.Memory.{lone}
use denote.RawPtr.{Testable}
use denote.Shadow.{shadow, makes_shadow}
use denote.Signature.{Slot}
use denote.Struct.Struct.{Struct}
use Rattle.std.specs.Prelude.{Option, Some, None}
use Rattle.std.specs.Global.{Global}
use Rattle.std.specs.Ptr.{points_to}
use Rattle.std.specs.contracts.impls.GlobalAllocator.TheImpl.{ghosts}
use Rattle.std.specs.Box.Ownership.{box_owns}
use Rattle.std.proofs.GlobalToken.{dealloc_token-Testable}
use Rattle.mal_c.specs.Held.{chunk, held}

-- a parameter of a function by its place
abbrev pub slot : {n : ℕ} → ℕ → List (Slot n) → Slot n
slot k [] = plain (λ _. unit)
slot zero (s ∷ ss) = s
slot (suc k) (s ∷ ss) = slot k ss

pub pointer_fits : (p : Ptr) → Good ty_ptr (ptr_val p)
pointer_fits (block_ptr b o) = (tt, tt)
pointer_fits null_ptr = (tt, record { fits = lit< tt })

-- a handle is one word, its pointer
abbrev pub word : Ptr → Val
word p = vstruct (vcons (ptr_val p) vnil)

-- a struct owns the same whatever its name is, so the handle's name is left out
abbrev pub field : Ptr → List Val → Fml
field p = (Struct (record { name = []; args = []; types = []; fields = RawPtr ∷ [] })).own_val (p, tt)

pub word_fits : (p : Ptr) → Good (ty_struct [] (tcons ty_ptr tnil)) (word p)
word_fits (block_ptr b o) = (tt, (tt, tt))
word_fits null_ptr = (tt, (record { fits = lit< tt }, tt))

pub word_told : (p : Ptr) (words : List Val) → shadow (field p words) → words ≡ word p ∷ []
word_told p words told = told.1.0 ∙ (λ i. vstruct (of_list (told.1.1.0 i ++ [])) ∷ [])

pub word_made : {M : Type 1} {𝓤 : Ura M} (𝓛 : Logic 𝓤) (p : Ptr) → ent 𝓤 (emp 𝓤) (sem 𝓛 (field p (word p ∷ [])))
word_made 𝓛 p = makes_shadow 𝓛 (field p (word p ∷ [])) (λ _. (tt, (tt, tt))) ((ptr_val p ∷ [], tt), (refl, (refl, tt)))

module _ (R : RattleType) (a : Global) {M : Type 1} {𝓤 : Ura M} {𝓛 : Logic 𝓤} {K : Type 0} {Γ : List (Item 𝓤)} {G : Goal 𝓤 𝓛.H} where
  -- what is shown of what is in front is known from there on, and that stays
  pub knows : K → {i : Item 𝓤} (φ : Type 0) → ent 𝓤 (⋆ 𝓛 (i ∷ [])) (fact 𝓤 φ) → (φ → Seq K 𝓛 (i ∷ Γ) G) → Seq K 𝓛 (i ∷ Γ) G
  knows t {i} φ shown goes_on = by t (fact_use 𝓤 φ (via 𝓤 (⋆ 𝓛 (i ∷ [])) (via 𝓤 _ (⊢++ 𝓛 (i ∷ []) Γ) (fst∗ 𝓤 (⋆ 𝓛 (i ∷ [])) (⋆ 𝓛 Γ))) shown) (λ x. (goes_on x).prf))

  -- a handle has nothing where it is null, and else a box; the two other cases are none
  pub has : K → (p : Ptr) (v : Option R.Denot) → (p ≡ null_ptr → v ≡ None → Seq K 𝓛 Γ G)
      → ((b o : ℕ) (x : R.Denot) → p ≡ block_ptr b o → v ≡ Some x → Testable (block_ptr b o) → Seq K 𝓛 (‵ (box_owns (ghosts.dealloc_token a) R (block_ptr b o) x) ∷ Γ) G)
      → Seq K 𝓛 (‵ (held R p v) ∷ Γ) G
  has t null_ptr None nothing_there one = drop t $ nothing_there refl refl
  has t null_ptr (Some x) nothing_there one = keep t (0 ∷ []) $ by t (never_e 𝓤 _)
  has t (block_ptr b o) None nothing_there one = keep t (0 ∷ []) $ by t (never_e 𝓤 _)
  has t (block_ptr b o) (Some x) nothing_there one =
      let may_be_freed : SProp 𝓤 = sem 𝓛 (chunk (bare (lone R.mir)) (block_ptr b o)) in
      knows t (Testable (block_ptr b o)) (via 𝓤 may_be_freed (snd∗ 𝓤 (sem 𝓛 (points_to R (block_ptr b o) x)) may_be_freed) (dealloc_token-Testable 𝓛 a (bare (lone R.mir)) (block_ptr b o)))
      (λ testable. one b o x refl refl testable)
