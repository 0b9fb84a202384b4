use Rattle.std.proofs.Common.{◌≡◌, ℕ, ◌+◌, Bool, true, false, cond, List, [], ◌∷◌, ◌++◌, map, filter, take, get_or, Some, slice_get, refl, sym, ap, ◌∙◌}
use Rattle.std.specs.Prelude.{◌||◌}
use Rattle.std.proofs.lemmas.List.{map-append, append-nil}
use Rattle.std.proofs.lemmas.List.Elements.{filter_more}
use Rattle.std.proofs.lemmas.List.Folds.{list_any_more, list_any_at}
use Rattle.std.proofs.lemmas.Option.{slice_get_within, get_or_from_slice_get}
use Rattle.mal_base.specs.NumberedClause.{NumberedClause}
use Rattle.mal_base.specs.declared.trail_entry.TrailEntry.{TrailEntry}
use Rattle.mal_learn.specs.declared.dropping.Droppable.{Droppable}
use Rattle.mal_learn.specs.Choosing.{droppable_of, has_reason}
use Rattle.spec_learn.specs.Dropping.{is_reason, may_go}

pub reason-found : (es : List TrailEntry) (place : ℕ) (e : TrailEntry) (c : NumberedClause) → slice_get es place ≡ Some e → has_reason c.id e ≡ true → is_reason es c ≡ true
reason-found es place e c at h = list_any_at (has_reason c.id) es place e (slice_get_within es place e at) (ap (has_reason c.id) (get_or_from_slice_get es place e e at) ∙ h)

pub reason-more : (es : List TrailEntry) (place : ℕ) (e : TrailEntry) (c : NumberedClause) → slice_get es place ≡ Some e → has_reason c.id e ≡ false → is_reason (take place es) c ≡ false → is_reason (take (place + 1) es) c ≡ false
reason-more es place e c at h none =
    let here : has_reason c.id (get_or es place e) ≡ false = ap (has_reason c.id) (get_or_from_slice_get es place e e at) ∙ h in
    let more : is_reason (take (place + 1) es) c ≡ (is_reason (take place es) c || has_reason c.id (get_or es place e)) = list_any_more (has_reason c.id) es place e (slice_get_within es place e at) in
    more ∙ rw (none, here) refl

-- one more clause is gathered where it may go
gathered-more : (es : List TrailEntry) (cs : List NumberedClause) (place : ℕ) (c : NumberedClause) → slice_get cs place ≡ Some c → map droppable_of (filter (may_go es) (take (place + 1) cs)) ≡ map droppable_of (filter (may_go es) (take place cs)) ++ cond (may_go es c) (droppable_of c ∷ []) []
gathered-more es cs place c at =
    let same : get_or cs place c ≡ c = get_or_from_slice_get cs place c c at in
    let more : filter (may_go es) (take (place + 1) cs) ≡ filter (may_go es) (take place cs) ++ cond (may_go es (get_or cs place c)) (get_or cs place c ∷ []) [] = filter_more (may_go es) cs place c (slice_get_within cs place c at) in
    ap (map droppable_of) (more ∙ ap (λ (d : NumberedClause). filter (may_go es) (take place cs) ++ cond (may_go es d) (d ∷ []) []) same) ∙ (map-append droppable_of (filter (may_go es) (take place cs)) (cond (may_go es c) (c ∷ []) []) ∙ ap (λ (ds : List Droppable). map droppable_of (filter (may_go es) (take place cs)) ++ ds) (by_test (may_go es c)))
  where
    by_test : (b : Bool) → map droppable_of (cond b (c ∷ []) []) ≡ cond b (droppable_of c ∷ []) []
    by_test true = refl
    by_test false = refl

pub gathered-then : (es : List TrailEntry) (cs : List NumberedClause) (place : ℕ) (c : NumberedClause) → slice_get cs place ≡ Some c → true ≡ may_go es c → map droppable_of (filter (may_go es) (take place cs)) ++ droppable_of c ∷ [] ≡ map droppable_of (filter (may_go es) (take (place + 1) cs))
gathered-then es cs place c at h = sym (gathered-more es cs place c at ∙ ap (λ (b : Bool). map droppable_of (filter (may_go es) (take place cs)) ++ cond b (droppable_of c ∷ []) []) (sym h))

pub gathered-else : (es : List TrailEntry) (cs : List NumberedClause) (place : ℕ) (c : NumberedClause) → slice_get cs place ≡ Some c → false ≡ may_go es c → map droppable_of (filter (may_go es) (take place cs)) ≡ map droppable_of (filter (may_go es) (take (place + 1) cs))
gathered-else es cs place c at h = sym (gathered-more es cs place c at ∙ (ap (λ (b : Bool). map droppable_of (filter (may_go es) (take place cs)) ++ cond b (droppable_of c ∷ []) []) (sym h) ∙ append-nil (map droppable_of (filter (may_go es) (take place cs)))))
