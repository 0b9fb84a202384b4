-- The handle of no solver is null.
use Rattle.mal_c.proofs.Walking.{◌≡◌, [], ◌∷◌, refl, Val, SProp, ftrue, ‵, raw, ◌⊛◌, ◌$◌, ◌∵◌, !, qed, by, move, drop, split, fjoin, agg, lit, no_more, and_then, returns, enter, alloc_all, pass_all, free_all, look_at, sets, tables, owns, null_ptr, types_at, nothing, Stays, walk_of, proved_at, leaves, holds, makes}
use Rattle.std.specs.Prelude.{None}
use Rattle.mal_c.proofs.HandleParts.{word, field, word_made, word_fits}
use Rattle.mal_c.specs.contracts.handle.Handle as handle
use Rattle.mal_c.specs.contracts.handle.Handle.empty as f
use Rattle.mal_c.proofs.handle.Handle.empty.Statement.{statement}
use Rattle.mal_c.proofs.handle.Handle.empty.Code as code

pub empty_spec : {M : Type 1} → statement M
empty_spec 𝓤 𝓛 𝓜 𝓡 wired =
    let 𝓣 = tables 𝓤 𝓛.H 𝓜 𝓡 𝓡.env in
    let clauses = f.clauses 𝓛 𝓜.mem 𝓡.returns in
    let stayed : Stays f.ended.signature.params f.ended.kept = tt in
    proved_at 𝓛 f.ended stayed clauses 𝓜 𝓡 tt f.Key.name code.function (code.unfolded 𝓤 𝓛.H 𝓜 𝓡 wired) (λ y are.
    let post : Val → SProp 𝓤 = (walk_of 𝓛 f.ended stayed clauses).post y in
    let given : (handle.the_row).Denot = record { at = null_ptr; value = None } in
    qed 𝓛 ((‵ ftrue ⊛ ‵ (owns (types_at f.ended.signature.params y.0.0) y.0.3 y.0.4)) ∷ raw ((clauses y.0.0 y.0.3).requires y.1) ∷ []) ∵
    split ! $ move ! (2 ∷ []) $ drop ! $ move ! (1 ∷ []) $ drop ! $
    enter ! 𝓣.C 𝓣.Λ code.function [] post $ alloc_all ! (λ l. pass_all ! refl tt $
    sets ! (agg ! (and_then ! (lit ! tt) (no_more !))) refl (word_fits null_ptr) $
    returns ! (look_at ! 0 refl) $ free_all ! refl $
    -- the word, which owns nothing; the clause
    nothing ! $ makes ! {F = field null_ptr (word null_ptr ∷ [])} (word_made 𝓛 null_ptr) $ fjoin ! $
    holds ! {φ = given.value ≡ None} refl $
    nothing ! $ move ! (3 ∷ 0 ∷ 2 ∷ 1 ∷ []) $ by ! (leaves 𝓛 f.ended stayed clauses y (word null_ptr) given tt tt)))
