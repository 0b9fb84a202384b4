-- A box taken apart, as the machine stores it: the pointer beside the allocator.
use Rattle.mal_c.proofs.Walking.{◌≡◌, ℕ, List, [], ◌∷◌, ◌++◌, refl, subst, impl, tnil, dnil, Val, vptr, vstruct, vcons, vnil, of_list, Ura, Logic, sem, Seq, ‵, ◌$◌, move, drop, fsplit, fjoin, fpick, feq_i, feq_l, RattleType, Ptr, block_ptr, null_ptr, ptr_val, in_a_block, nothing, layout, handle_tells, Good}
use mathlib.Core.Bool.{◌&&◌, true}
use lib.Dec.{T}
use mir.Raw.{raw as bare}
use mir.Val.{has_ty, WT}
use base.Logic.{never, fst∗}
use types.Kit.{Item, Goal, Step, step, fpack}
use denote.RattleType.{Valss}
use denote.Builtin.{RawPtr}
use denote.Memory.{lone}
use denote.Param.Laws.{Laws}
use denote.Struct.Struct.{within}
use denote.Struct.Owning.{shape}
use Rattle.std.specs.declared.alloc.Allocator.{Ghosts}
use Rattle.std.specs.Box.Ownership.{box_owns}
use Rattle.std.proofs.alloc.Calls.{Al}
use Rattle.std.proofs.ResultValues.{and_tt}
use Rattle.mal_c.specs.contracts.loose.Loose as loose

abbrev pub pair : Val → Val → Val
pair v w = vstruct (vcons v (vcons w vnil))

-- of a box of R with an allocator of Z
module _ (R Z : RattleType) (laws : Laws Z) (g : Ghosts Z.Denot) where
  abbrev pub Row : RattleType
  Row = loose.the_row R Z g

  abbrev allocator : Al
  allocator = record { row = Z; laws = laws; g = g; d = impl [] tnil dnil; drops = impl [] tnil dnil }

  pub pair_fits : (b o : ℕ) (h : Val) → Good (layout Z) h → T (has_ty (layout Z) h && true) × WT (pair (vptr b o) h)
  pair_fits b o h fits = (and_tt (has_ty (layout Z) h) fits.0, (tt, (fits.1, tt)))

  module _ {M : Type 1} {𝓤 : Ura M} {𝓛 : Logic 𝓤} {K : Type 0} {Γ : List (Item 𝓤)} {G : Goal 𝓤 𝓛.H} where
    -- its pointer is into a block, and its words are these two; it gives the box and the allocator
    pub opens : K → (l : Row.Denot) (words : List Val)
        → ((b o : ℕ) (h : Val) → l.at ≡ block_ptr b o → words ≡ pair (vptr b o) h ∷ [] → Good (layout Z) h
        → Seq K 𝓛 (‵ (box_owns (g.dealloc_token l.alloc) R (block_ptr b o) l.value) ∷ ‵ (Z.own_val l.alloc (h ∷ [])) ∷ Γ) G)
        → Seq K 𝓛 (‵ (Row.own_val l words) ∷ Γ) G
    opens t l words goes_on =
        -- [the fields; the box]
        fsplit t $ fpick t (λ parts.
        fsplit t $ feq_l t (λ whole.
        fsplit t $ feq_l t (λ pointer.
        fsplit t $ handle_tells allocator t l.alloc parts.1.0 (λ h one fits.
        -- [the allocator; nothing; the box]
        move t (1 ∷ []) $ drop t $
        move t (1 ∷ []) $
        in_a_block t l.at (λ p. box_owns (g.dealloc_token l.alloc) R p l.value) (fst∗ 𝓤 (never 𝓤) (sem 𝓛 (g.dealloc_token l.alloc (bare (lone R.mir)) null_ptr))) (λ b o at.
        let by_pointer : words ≡ vstruct (of_list (ptr_val l.at ∷ (parts.1.0 ++ []))) ∷ [] = subst (λ (ps : List Val). words ≡ vstruct (of_list (ps ++ (parts.1.0 ++ []))) ∷ []) pointer whole in
        let by_word : words ≡ vstruct (of_list (ptr_val l.at ∷ h ∷ [])) ∷ [] = subst (λ (ws : List Val). words ≡ vstruct (of_list (ptr_val l.at ∷ (ws ++ []))) ∷ []) one by_pointer in
        goes_on b o h at (subst (λ (p : Ptr). words ≡ vstruct (of_list (ptr_val p ∷ h ∷ [])) ∷ []) at by_word) fits)))))

    -- a box and an allocator make it again
    pub closes : K → (b o : ℕ) (h : Val) (a : Z.Denot) (x : R.Denot)
        → Step K 𝓛 (‵ (Row.own_val (record { at = block_ptr b o; alloc = a; value = x }) (pair (vptr b o) h ∷ [])) ∷ Γ) G
        (‵ (box_owns (g.dealloc_token a) R (block_ptr b o) x) ∷ ‵ (Z.own_val a (h ∷ [])) ∷ Γ) G
    closes t b o h a x = step (λ goes_on.
        let fields = within (shape (loose.the_type R Z g)) (block_ptr b o, (a, tt)) (pair (vptr b o) h ∷ []) in
        -- from the end: the allocator, the pointer, the two as one word
        nothing t $ move t (2 ∷ 0 ∷ []) $ fjoin t $
        feq_i t (List Val) (vptr b o ∷ []) (vptr b o ∷ []) refl $ fjoin t $
        feq_i t (List Val) (pair (vptr b o) h ∷ []) (pair (vptr b o) h ∷ []) refl $ fjoin t $
        fpack t (Valss (RawPtr ∷ Z ∷ [])) fields (vptr b o ∷ [], (h ∷ [], tt)) $
        fjoin t $ goes_on)
