-- A handle that is null has no solver, and any other has the pointer of a box.
use Rattle.mal_c.proofs.Walking.{◌≡◌, List, [], ◌∷◌, ◌++◌, refl, ap, ◌∙◌, lit<, impl, tnil, dnil, Val, vptr, vcons, vnil, SProp, ftrue, WpFn, ‵, raw, ◌⊛◌, at_ret, ◌$◌, ◌∵◌, !, qed, by, move, drop, split, fsplit, fjoin, use1, agg, sub, whole, stop, fld, lit, of_opd, no_more, and_then, first, exec, returns, enter, alloc_all, pass_all, free_all, look_at, get, get_in, sets, env, tables, RattleType, owns, Ptr, block_ptr, null_ptr, types_at, nothing, layout, Stays, stay_dropped, walk_of, Goes-blank, handle_tells, after, Good, proved_at, leaves, holds, makes, runs_on}
use types.Match.{live}
use types.Run.{bin, branches}
use types.ByLocal.{sets_last}
use denote.RawPtr.{tests_null}
use denote.Signature.{type_at}
use denote.Triple.Walked.{Goes-dropped}
use Rattle.std.specs.Prelude.{None, Some}
use Rattle.std.specs.contracts.alloc.Global as heap
use Rattle.std.proofs.alloc.Global.TheLaws as heap_laws
use Rattle.std.specs.contracts.impls.GlobalAllocator.TheImpl.{ghosts}
use Rattle.std.proofs.alloc.Calls.{Al}
use Rattle.std.proofs.option.Made.{Some-of, none_of}
use Rattle.std.proofs.ResultValues.{and_tt}
use Rattle.mal_c.proofs.LooseParts.{pair, Row, pair_fits, closes}
use Rattle.mal_c.proofs.HandleParts.{slot, pointer_fits, word, word_told, word_fits, has}
use Rattle.mal_solving.specs.contracts.solver.Solver as solver
use Rattle.mal_c.specs.contracts.handle.Handle.into_loose as f
use Rattle.mal_c.proofs.handle.Handle.into_loose.Statement.{statement}
use Rattle.mal_c.proofs.handle.Handle.into_loose.Code as code

pub into_loose_spec : {M : Type 1} → statement M
into_loose_spec 𝓤 𝓛 𝓜 𝓡 wired =
    let 𝓣 = tables 𝓤 𝓛.H 𝓜 𝓡 𝓡.env in
    let clauses = f.clauses 𝓛 𝓜.mem 𝓡.returns in
    let params = f.ended.signature.params in
    let kept = f.ended.kept in
    let Item : RattleType = solver.the_row in
    let Heap : RattleType = heap.the_row in
    let laws = heap_laws.the_row_laws in
    let Apart : RattleType = Row Item Heap laws ghosts in
    let al : Al = record { row = Heap; laws = laws; g = ghosts; d = impl [] tnil dnil; drops = impl [] tnil dnil } in
    let stayed : Stays params kept = (stay_dropped (slot 0 params) kept.0, (stay_dropped (slot 1 params) kept.1.0, tt)) in
    proved_at 𝓛 f.ended stayed clauses 𝓜 𝓡 (Goes-blank 𝓛 0 (slot 0 params) kept.0 (λ κs x w. tt), (Goes-dropped 𝓛 0 (slot 1 params) kept.1.0 (λ κs x w. refl), tt))
    f.Key.name code.function (code.unfolded 𝓤 𝓛.H 𝓜 𝓡 wired) (λ y are.
    let post : Val → SProp 𝓤 = (walk_of 𝓛 f.ended stayed clauses).post y in
    let run : List Val → SProp 𝓤 = λ ws. WpFn 𝓤 𝓛.H 𝓣.C 𝓣.Λ code.function ws post in
    let Result : RattleType = type_at f.ended.signature.result y.0.0 in
    let handle = y.0.3.0 in
    let alloc = y.0.3.1.0 in
    let words = y.0.4 in
    let stored : words.0 ≡ word handle.at ∷ [] = word_told handle.at words.0 are.0.0 in
    qed 𝓛 ((‵ ftrue ⊛ ‵ (owns (types_at params y.0.0) y.0.3 words)) ∷ raw ((clauses y.0.0 y.0.3).requires y.1) ∷ []) ∵
    split ! $ move ! (2 ∷ []) $ drop ! $ move ! (1 ∷ []) $ fsplit ! $ fsplit ! $ drop ! $
    move ! (1 ∷ []) $ fsplit ! $ move ! (1 ∷ []) $ drop ! $
    handle_tells al ! alloc words.1.0 (λ h one fits.
    move ! (1 ∷ []) $
    has Item alloc ! handle.at handle.value
    (λ at none. drop ! $
    -- []: the test holds
    let null : Val = word null_ptr in
    let out : Val = live 0 vnil in
    let out_fits : Good (layout Result) out = (tt, (record { fits = lit< tt }, tt)) in
    let told : words.0 ≡ null ∷ [] = stored ∙ ap (λ (p : Ptr). word p ∷ []) at in
    runs_on ! run {vs = null ∷ h ∷ []} (λ i. told i ++ (one i ++ [])) $
    enter ! 𝓣.C 𝓣.Λ code.function (null ∷ h ∷ []) post $ alloc_all ! (λ l. pass_all ! refl (word_fits null_ptr, (fits, tt)) $
    let locals = env code.function.locals l in
    sets ! (of_opd ! (get_in ! (fld ! refl (stop !)) (sub ! 0 refl (whole !)))) refl (pointer_fits null_ptr) $
    sets ! (bin ! (get ! refl) (lit ! tt) tt) refl (tt, tt) $
    first ! $ branches ! (get ! refl)
    (λ _.
    sets_last ! (agg ! (and_then ! (lit ! tt) (no_more !))) refl out_fits $
    exec ! 𝓣.C 𝓣.Λ locals (after 3 code.function.body) (at_ret locals post) $
    sets ! (of_opd ! (get ! refl)) refl out_fits $
    returns ! (look_at ! 0 refl) $ free_all ! refl $
    makes ! {F = Result.own_val None (out ∷ [])} (none_of 𝓛 Apart) $
    holds ! {φ = handle.value ≡ None} none $
    nothing ! $ nothing ! $ fjoin ! $ nothing ! $ fjoin ! $
    move ! (3 ∷ 0 ∷ 2 ∷ 1 ∷ []) $ by ! (leaves 𝓛 f.ended stayed clauses y out None (tt, (tt, tt)) (tt, (tt, tt))))
    (λ wrong. absurd wrong)))
    (λ b o x at some testable.
    -- [the box; the allocator]: the test fails
    let full : Val = word (block_ptr b o) in
    let apart : Apart.Denot = record { at = block_ptr b o; alloc = alloc; value = x } in
    let apart_fits = pair_fits Item Heap laws ghosts b o h fits in
    let out : Val = live 1 (vcons (pair (vptr b o) h) vnil) in
    let out_fits : Good (layout Result) out = (and_tt _ apart_fits.0, (record { fits = lit< tt }, (apart_fits.1, tt))) in
    let told : words.0 ≡ full ∷ [] = stored ∙ ap (λ (p : Ptr). word p ∷ []) at in
    runs_on ! run {vs = full ∷ h ∷ []} (λ i. told i ++ (one i ++ [])) $
    enter ! 𝓣.C 𝓣.Λ code.function (full ∷ h ∷ []) post $ alloc_all ! (λ l. pass_all ! refl (word_fits (block_ptr b o), (fits, tt)) $
    let locals = env code.function.locals l in
    sets ! (of_opd ! (get_in ! (fld ! refl (stop !)) (sub ! 0 refl (whole !)))) refl (tt, tt) $
    sets ! (bin ! (get ! refl) (lit ! tt) (tests_null (block_ptr b o) testable)) refl (tt, tt) $
    first ! $ branches ! (get ! refl)
    (λ wrong. absurd wrong)
    (λ _.
    sets ! (of_opd ! (get ! refl)) refl (tt, tt) $
    sets ! (agg ! (and_then ! (get ! refl) (and_then ! (get ! refl) (no_more !)))) refl apart_fits $
    sets_last ! (agg ! (and_then ! (lit ! tt) (and_then ! (get ! refl) (no_more !)))) refl out_fits $
    exec ! 𝓣.C 𝓣.Λ locals (after 3 code.function.body) (at_ret locals post) $
    sets ! (of_opd ! (get ! refl)) refl out_fits $
    returns ! (look_at ! 0 refl) $ free_all ! refl $
    closes Item Heap laws ghosts ! b o h alloc x $
    use1 𝓛 (‵ (Result.own_val (Some apart) (out ∷ []))) (Some-of 𝓛 Apart apart (pair (vptr b o) h)) $
    holds ! {φ = handle.value ≡ Some x} some $
    nothing ! $ nothing ! $ fjoin ! $ nothing ! $ fjoin ! $
    move ! (3 ∷ 0 ∷ 2 ∷ 1 ∷ []) $ by ! (leaves 𝓛 f.ended stayed clauses y out (Some apart) (tt, (tt, tt)) (tt, (tt, tt))))))))
