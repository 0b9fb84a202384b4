-- A box is made again by `from_raw`, of the two parts.
use Rattle.mal_c.proofs.Walking.{◌≡◌, List, [], ◌∷◌, ◌++◌, refl, sym, ap, subst, a_type, dcons, dnil, Val, vptr, inst_fn, SProp, id⊢, ftrue, flft, WpFn, ‵, raw, ◌⊛◌, some, later, at_ret, ◌$◌, ◌∵◌, !, qed, by, move, keep, drop, split, split3, join, fsplit, fjoin, pick, feq_i, use1, await, rewrite, sub, whole, stop, fld, of_opd, no_more, and_then, first, blocks, exec, returns, enter, alloc_all, pass_all, free_all, look_at, get, get_in, sets, env, fact, tables, no, RattleType, owns, block_ptr, types_at, plain, nothing, only, param, layout, bounded, param_laws, triple_of, Stays, stay_dropped, walk_of, Goes-blank, after, Good, fm, proved_at, leaves, runs_on}
use types.ByLocal.{lands_last}
use contract.BorrowLft.{◌⊑◌}
use denote.Triple.Clauses.{Lasts, lasts}
use denote.Triple.Call.{calls_at_last}
use Rattle.std.proofs.BoxSteps.Form as box
use Rattle.std.proofs.BoxSteps.Steps.{box_out, box_in}
use Rattle.std.specs.contracts.boxed.Box.from_raw as callee
use Rattle.std.proofs.boxed.Box.from_raw.Met.{met}
use Rattle.mal_c.proofs.LooseParts.{pair, Row, pair_fits, opens}
use Rattle.mal_c.specs.contracts.loose.Loose.into_box as f
use Rattle.mal_c.proofs.loose.Loose.into_box.Statement.{statement}
use Rattle.mal_c.proofs.loose.Loose.into_box.Code as code

pub into_box_spec : {M : Type 1} → statement M
into_box_spec 𝓤 𝓛 𝓜 𝓡 wired T A L LA g d dx dd allocator glue glued =
    let 𝓣 = tables 𝓤 𝓛.H 𝓜 𝓡 𝓡.env in
    let Item : RattleType = param 0 T in
    let Heap : RattleType = param 1 A in
    let laws = param_laws 1 A LA in
    let Apart : RattleType = Row Item Heap laws g in
    let boxed : box.Bx = record { row = T; laws = L; al = record { row = A; laws = LA; g = g; d = d; drops = dd } } in
    let Whole : RattleType = box.B boxed in
    let types = bounded (a_type ∷ a_type ∷ []) (T, (A, tt)) (dcons d (dcons dx (dcons dd dnil))) in
    let function = inst_fn types code.function in
    let ended = f.ended T A g d dx dd in
    let clauses = f.clauses T A g d dx dd 𝓛 𝓜.mem 𝓡.returns in
    let stayed : Stays ended.signature.params ended.kept = (stay_dropped (plain (λ _. Apart)) no, tt) in
    proved_at 𝓛 ended stayed clauses 𝓜 𝓡 (Goes-blank 𝓛 2 (plain (λ _. Apart)) no (λ κs x w. tt), tt)
    (f.Key.name types) function (code.unfolded 𝓤 𝓛.H 𝓜 𝓡 wired (T, (A, tt)) d dx dd) (λ y are.
    let κs = y.0.0 in
    let loose = y.0.3.0 in
    let post : Val → SProp 𝓤 = (walk_of 𝓛 ended stayed clauses).post y in
    let alive = ‵ (flft κs.0 y.0.1.0) ⊛ ‵ (flft κs.1.0 y.0.1.1.0) ⊛ ‵ ftrue in
    qed 𝓛 ((alive ⊛ ‵ (owns (types_at ended.signature.params κs) y.0.3 y.0.4)) ∷ raw ((clauses κs y.0.3).requires y.1) ∷ []) ∵
    split ! $ move ! (1 ∷ []) $ fsplit ! $
    opens Item Heap laws g ! loose y.0.4.0 (λ b o h at words fits.
    let parts : Val = pair (vptr b o) h in
    let parts_fit = pair_fits Item Heap laws g b o h fits in
    let called = triple_of 𝓛 (callee.signature T A g d dd) (callee.spec T A g d dd 𝓛 𝓜.mem 𝓡.returns) in
    let asked : called.Ghost = ((κs, y.0.1, tt, (loose.alloc, (block_ptr b o, tt)), (h ∷ [], (vptr b o ∷ [], tt))), loose.value) in
    -- [the box; the allocator; nothing; the tokens; that the types live]: what `from_raw` asks is put together
    move ! (4 ∷ []) $ use1 𝓛 (raw (fact 𝓤 (κs.0 ⊑ T.lives)) ⊛ raw (fact 𝓤 (κs.1.0 ⊑ A.lives)) ⊛ ‵ ftrue) (id⊢ 𝓤 _) $
    split3 ! $ move ! (2 ∷ []) $ drop ! $
    move ! (1 ∷ 2 ∷ []) $ join ! $ move ! (1 ∷ 0 ∷ []) $ join ! $
    move ! (2 ∷ []) $ feq_i ! (List Val) (vptr b o ∷ []) (vptr b o ∷ []) refl $ fjoin ! $
    move ! (2 ∷ 0 ∷ []) $ fjoin ! $ move ! (2 ∷ 0 ∷ []) $ join ! $ join ! $
    use1 𝓛 (raw (called.pre asked)) (id⊢ 𝓤 _) $
    runs_on ! (λ (ws : List Val). WpFn 𝓤 𝓛.H 𝓣.C 𝓣.Λ function ws post) {vs = parts ∷ []} (λ i. words i ++ []) $
    enter ! 𝓣.C 𝓣.Λ function (parts ∷ []) post $ alloc_all ! (λ l. pass_all ! refl (parts_fit, tt) $
    let locals = env function.locals l in
    sets ! (of_opd ! (get_in ! (fld ! refl (stop !)) (sub ! 0 refl (whole !)))) refl (tt, tt) $
    sets ! (of_opd ! (get_in ! (fld ! refl (stop !)) (sub ! 1 refl (whole !)))) refl fits $
    first ! $ blocks ! $
    sets ! (of_opd ! (get ! refl)) refl fits $
    calls_at_last ! (fm 𝓛 𝓜 𝓡) called (met 𝓤 𝓛 𝓜 𝓡 (code.calls-std_alloc::boxed::Box::from_raw 𝓡.env wired) T A L LA g d dd allocator glued) asked (and_then ! (get ! refl) (and_then ! (get ! refl) (no_more !))) (λ u.
    use1 𝓛 (later (some (λ (r : Whole.Denot). (alive ⊛ ‵ (Whole.own_val r (u ∷ []))) ⊛ some (λ (left : Lasts (callee.ended T A g d dd) κs asked.0.3).
    ‵ (lasts (callee.ended T A g d dd) κs asked.0.3 left) ⊛ (raw (fact 𝓤 (r.value ≡ loose.value)) ⊛ raw (fact 𝓤 (r.alloc ≡ loose.alloc))))))) (id⊢ 𝓤 (called.post asked u)) $
    await ! tt $ pick ! (λ r. split ! $ move ! (1 ∷ []) $ pick ! (λ _. split3 ! $ drop ! $
    move ! (2 ∷ []) $ split ! $ move ! (1 ∷ []) $
    -- the new box is opened to see that its words fit, and closed again
    box_out boxed ! r (u ∷ []) (λ b' o' h' e stored fits'.
    box_in boxed ! r b' o' r.value e refl $
    rewrite ! 0 (λ (ws : List Val). ‵ (Whole.own_val r ws)) (sym stored) refl $
    let whole_fits : Good (layout Whole) u = subst (Good (layout Whole)) (sym (ap only stored)) (pair_fits Item Heap laws g b' o' h' fits') in
    lands_last ! refl whole_fits $
    exec ! 𝓣.C 𝓣.Λ locals (after 3 function.body) (at_ret locals post) $
    sets ! (of_opd ! (get ! refl)) refl whole_fits $
    nothing ! $ nothing ! $ fjoin ! $
    returns ! (look_at ! 0 refl) $ free_all ! refl $
    keep ! (2 ∷ 0 ∷ 1 ∷ 3 ∷ []) $ by ! (leaves 𝓛 ended stayed clauses y u r ((tt, (tt, tt)), tt) (tt, tt)))))))))
