-- The handle of a solver has the pointer of its box.
use Rattle.mal_c.proofs.Walking.{◌≡◌, [], ◌∷◌, ◌++◌, refl, Val, vptr, List, SProp, ftrue, WpFn, ‵, raw, ◌⊛◌, ◌$◌, ◌∵◌, !, qed, by, move, drop, split, fsplit, fjoin, agg, sub, whole, stop, fld, of_opd, no_more, and_then, returns, enter, alloc_all, pass_all, free_all, look_at, get, get_in, sets, tables, RattleType, owns, block_ptr, types_at, nothing, Stays, stay_dropped, walk_of, Goes-blank, proved_at, leaves, holds, makes, runs_on}
use Rattle.std.specs.Prelude.{Some}
use Rattle.std.specs.contracts.alloc.Global as heap
use Rattle.std.proofs.alloc.Global.TheLaws as heap_laws
use Rattle.std.specs.contracts.impls.GlobalAllocator.TheImpl.{ghosts}
use Rattle.mal_c.proofs.LooseParts.{pair, pair_fits, opens}
use Rattle.mal_c.proofs.HandleParts.{slot, word, field, word_made, word_fits}
use Rattle.mal_solving.specs.contracts.solver.Solver as solver
use Rattle.mal_c.specs.contracts.handle.Handle as handle
use Rattle.mal_c.specs.contracts.handle.Handle.full as f
use Rattle.mal_c.proofs.handle.Handle.full.Statement.{statement}
use Rattle.mal_c.proofs.handle.Handle.full.Code as code

pub full_spec : {M : Type 1} → statement M
full_spec 𝓤 𝓛 𝓜 𝓡 wired =
    let 𝓣 = tables 𝓤 𝓛.H 𝓜 𝓡 𝓡.env in
    let clauses = f.clauses 𝓛 𝓜.mem 𝓡.returns in
    let params = f.ended.signature.params in
    let kept = f.ended.kept in
    let Item : RattleType = solver.the_row in
    let Heap : RattleType = heap.the_row in
    let laws = heap_laws.the_row_laws in
    let stayed : Stays params kept = (stay_dropped (slot 0 params) kept.0, tt) in
    proved_at 𝓛 f.ended stayed clauses 𝓜 𝓡 (Goes-blank 𝓛 0 (slot 0 params) kept.0 (λ κs x w. tt), tt) f.Key.name code.function (code.unfolded 𝓤 𝓛.H 𝓜 𝓡 wired) (λ y are.
    let post : Val → SProp 𝓤 = (walk_of 𝓛 f.ended stayed clauses).post y in
    let loose = y.0.3.0 in
    qed 𝓛 ((‵ ftrue ⊛ ‵ (owns (types_at params y.0.0) y.0.3 y.0.4)) ∷ raw ((clauses y.0.0 y.0.3).requires y.1) ∷ []) ∵
    split ! $ move ! (2 ∷ []) $ drop ! $ move ! (1 ∷ []) $ fsplit ! $
    opens Item Heap laws ghosts ! loose y.0.4.0 (λ b o h at words fits.
    let given : (handle.the_row).Denot = record { at = block_ptr b o; value = Some loose.value } in
    -- [the box]: the allocator is let go
    move ! (1 ∷ []) $ drop ! $ move ! (1 ∷ []) $ drop ! $
    runs_on ! (λ (ws : List Val). WpFn 𝓤 𝓛.H 𝓣.C 𝓣.Λ code.function ws post) {vs = pair (vptr b o) h ∷ []} (λ i. words i ++ []) $
    enter ! 𝓣.C 𝓣.Λ code.function (pair (vptr b o) h ∷ []) post $
    alloc_all ! (λ l. pass_all ! refl (pair_fits Item Heap laws ghosts b o h fits, tt) $
    sets ! (of_opd ! (get_in ! (fld ! refl (stop !)) (sub ! 0 refl (whole !)))) refl (tt, tt) $
    sets ! (of_opd ! (get ! refl)) refl (tt, tt) $
    sets ! (agg ! (and_then ! (get ! refl) (no_more !))) refl (word_fits (block_ptr b o)) $
    returns ! (look_at ! 0 refl) $ free_all ! refl $
    -- the word with the box; the clause
    makes ! {F = field (block_ptr b o) (word (block_ptr b o) ∷ [])} (word_made 𝓛 (block_ptr b o)) $ fjoin ! $
    holds ! {φ = given.value ≡ Some loose.value} refl $
    nothing ! $ nothing ! $ fjoin ! $
    move ! (3 ∷ 0 ∷ 2 ∷ 1 ∷ []) $ by ! (leaves 𝓛 f.ended stayed clauses y (word (block_ptr b o)) given (tt, tt) (tt, tt)))))
