-- A box is taken apart by `into_raw_with_allocator`, and its two parts are kept.
use Rattle.mal_c.proofs.Walking.{◌≡◌, List, [], ◌∷◌, ◌++◌, refl, ap, ◌∙◌, a_type, dcons, dnil, Val, vptr, vstruct, of_list, inst_fn, SProp, ftrue, flft, WpFn, sem, ‵, raw, ◌⊛◌, some, later, ◌$◌, ◌∵◌, !, qed, by, move, keep, drop, split, split3, join, fsplit, fjoin, fpick, pick, feq_l, use1, await, rewrite, agg, sub, whole, stop, fld, of_opd, no_more, and_then, returns, enter, alloc_all, pass_all, free_all, look_at, get, get_in, sets, fact, tables, no, RattleType, owns, Ptr, block_ptr, null_ptr, ptr_val, in_a_block, types_at, plain, nothing, only, param, layout, bounded, param_laws, triple_of, Stays, stay_dropped, walk_of, Goes-blank, handle_tells, fm, proved_at, leaves, id⊢, holds, runs_on}
use mir.Raw.{raw as bare}
use base.Logic.{never, fst∗}
use base.Fml.{fsep}
use types.ByLocal.{lands_as}
use denote.Builtin.{RawPtr}
use denote.Steps.{heard}
use denote.Struct.Tuple.{Tuple}
use denote.Triple.Call.{calls_at}
use Rattle.std.specs.Box.Ownership.{box_owns}
use Rattle.std.proofs.BoxSteps.Form as box
use Rattle.std.proofs.BoxSteps.Steps.{box_out, box_in}
use Rattle.std.specs.contracts.boxed.Box.into_raw_with_allocator as callee
use Rattle.std.proofs.boxed.Box.into_raw_with_allocator.Met.{met}
use Rattle.mal_c.proofs.LooseParts.{pair, pair_fits, closes}
use Rattle.mal_c.specs.contracts.loose.Loose.of as f
use Rattle.mal_c.proofs.loose.Loose.of.Statement.{statement}
use Rattle.mal_c.proofs.loose.Loose.of.Code as code

pub of_spec : {M : Type 1} → statement M
of_spec 𝓤 𝓛 𝓜 𝓡 wired T A L LA g d dx dd allocator glue glued =
    let 𝓣 = tables 𝓤 𝓛.H 𝓜 𝓡 𝓡.env in
    let Item : RattleType = param 0 T in
    let Heap : RattleType = param 1 A in
    let laws = param_laws 1 A LA in
    let boxed : box.Bx = record { row = T; laws = L; al = record { row = A; laws = LA; g = g; d = d; drops = dd } } in
    let types = bounded (a_type ∷ a_type ∷ []) (T, (A, tt)) (dcons d (dcons dx (dcons dd dnil))) in
    let function = inst_fn types code.function in
    let ended = f.ended T A g d dx dd in
    let clauses = f.clauses T A g d dx dd 𝓛 𝓜.mem 𝓡.returns in
    let stayed : Stays ended.signature.params ended.kept = (stay_dropped (plain (λ _. box.B boxed)) no, tt) in
    proved_at 𝓛 ended stayed clauses 𝓜 𝓡 (Goes-blank 𝓛 2 (plain (λ _. box.B boxed)) no (λ κs x w. tt), tt)
    (f.Key.name types) function (code.unfolded 𝓤 𝓛.H 𝓜 𝓡 wired (T, (A, tt)) d dx dd) (λ y are.
    let κs = y.0.0 in
    let value = y.0.3.0 in
    let post : Val → SProp 𝓤 = (walk_of 𝓛 ended stayed clauses).post y in
    let alive = ‵ (flft κs.0 y.0.1.0) ⊛ ‵ (flft κs.1.0 y.0.1.1.0) ⊛ ‵ ftrue in
    qed 𝓛 ((alive ⊛ ‵ (owns (types_at ended.signature.params κs) y.0.3 y.0.4)) ∷ raw ((clauses κs y.0.3).requires y.1) ∷ []) ∵
    split ! $ move ! (1 ∷ []) $ fsplit ! $
    -- the box is opened to see that its words are one pointer and one word of the allocator, and closed again
    box_out boxed ! value y.0.4.0 (λ b o h e words fits.
    box_in boxed ! value b o value.value e refl $
    let whole_box : Val = box.word boxed h b o in
    let whole_fits = pair_fits Item Heap laws g b o h fits in
    let called = triple_of 𝓛 (callee.signature T A g d dd dx) (callee.spec T A g d dd dx 𝓛 𝓜.mem 𝓡.returns) in
    let asked : called.Ghost = ((κs, y.0.1, tt, (value, tt), (whole_box ∷ [], tt)), tt) in
    let Parts = Tuple (RawPtr ∷ Heap ∷ []) in
    fjoin ! $ move ! (1 ∷ 0 ∷ []) $ join ! $ join ! $ use1 𝓛 (raw (called.pre asked)) (id⊢ 𝓤 _) $
    runs_on ! (λ (ws : List Val). WpFn 𝓤 𝓛.H 𝓣.C 𝓣.Λ function ws post) {vs = whole_box ∷ []} (λ i. words i ++ []) $
    enter ! 𝓣.C 𝓣.Λ function (whole_box ∷ []) post $ alloc_all ! (λ l. pass_all ! refl (whole_fits, tt) $
    sets ! (of_opd ! (get ! refl)) refl whole_fits $
    calls_at ! (fm 𝓛 𝓜 𝓡) called (met 𝓤 𝓛 𝓜 𝓡 (code.calls-std_alloc::boxed::Box::into_raw_with_allocator 𝓡.env wired) T A L LA g d dd dx allocator glued glue) asked (and_then ! (get ! refl) (no_more !)) (λ u.
    use1 𝓛 (later (some (λ (r : Ptr × A.Denot). (alive ⊛ ‵ (Parts.own_val r (u ∷ []))) ⊛ some (λ (_ : (Unit {0} × (Unit {0} × Unit {0})) × Unit {0}).
    ‵ (fsep (fsep ftrue (fsep ftrue ftrue)) ftrue) ⊛ (raw (fact 𝓤 (r.1 ≡ value.alloc)) ⊛ ‵ (box_owns (g.dealloc_token value.alloc) Item r.0 value.value)))))) (id⊢ 𝓤 _) $
    -- [what it gives; what is left of its argument; its clauses]
    await ! tt $ pick ! (λ r. split ! $ move ! (1 ∷ []) $ pick ! (λ _. split3 ! $ drop ! $
    heard ! (r.1 ≡ value.alloc) (λ same.
    in_a_block ! r.0 (λ p. box_owns (g.dealloc_token value.alloc) Item p value.value) (fst∗ 𝓤 (never 𝓤) (sem 𝓛 (g.dealloc_token value.alloc (bare (layout T)) null_ptr))) (λ b' o' at.
    move ! (1 ∷ []) $ split ! $ move ! (1 ∷ []) $ fpick ! (λ parts.
    fsplit ! $ feq_l ! (λ both.
    fsplit ! $ feq_l ! (λ pointer.
    fsplit ! $ rewrite ! 0 (λ (a : A.Denot). ‵ (A.own_val a parts.1.0)) same refl $
    handle_tells boxed.al ! value.alloc parts.1.0 (λ h' one fits'.
    let parts_fit = pair_fits Item Heap laws g b' o' h' fits' in
    let stored = both ∙ (λ i. vstruct (of_list ((pointer ∙ ap (λ (p : Ptr). ptr_val p ∷ []) at) i ++ (one i ++ []))) ∷ []) in
    lands_as ! (ap only stored) refl parts_fit $
    sets ! (of_opd ! (get_in ! (fld ! refl (stop !)) (sub ! 0 refl (whole !)))) refl (tt, tt) $
    sets ! (of_opd ! (get_in ! (fld ! refl (stop !)) (sub ! 1 refl (whole !)))) refl fits' $
    sets ! (of_opd ! (get ! refl)) refl fits' $
    sets ! (agg ! (and_then ! (get ! refl) (and_then ! (get ! refl) (no_more !)))) refl parts_fit $
    move ! (3 ∷ 0 ∷ []) $ closes Item Heap laws g ! b' o' h' value.alloc value.value $
    holds ! {φ = value.value ≡ value.value} refl $
    nothing ! $ nothing ! $ fjoin ! $
    returns ! (look_at ! 0 refl) $ free_all ! refl $
    keep ! (4 ∷ 0 ∷ 2 ∷ 1 ∷ []) $
    by ! (leaves 𝓛 ended stayed clauses y (pair (vptr b' o') h') (record { at = block_ptr b' o'; alloc = value.alloc; value = value.value }) ((tt, (tt, tt)), tt) (tt, tt))))))))))))))
