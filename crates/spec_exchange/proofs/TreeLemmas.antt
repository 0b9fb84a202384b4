use Rattle.std.proofs.Common.{◌≡◌, ℕ, zero, suc, ◌<◌, List, [], ◌∷◌, ◌++◌, length, get_or, Option, sym, ap, ◌∙◌, arith}
use Rattle.std.specs.Prelude.{slice_set}
use Rattle.mal_base.specs.NumberedClause.{NumberedClause}
use Rattle.spec_exchange.specs.Exchange.{union, merged, prefix, most_literals, broadcast, entries_of}
use Rattle.spec_exchange.specs.Order.{IsSorted, least_of, least_id}
use Rattle.spec_exchange.proofs.OrderLemmas.{least-comm, least-assoc, least-swap}
use Rattle.spec_exchange.proofs.UnionLemmas.{union-sorted, union-least, append-least, decided, merged-least, merged-sorted}
use Rattle.spec_exchange.proofs.PrefixLemmas.{early, prefix-sorted}

-- where the buffer at a place is another one, only its own entries change
set-least : (a : List ℕ) (ts : List (List NumberedClause)) (p : ℕ) (t : List NumberedClause) → p < length ts → least_id a (entries_of (slice_set ts p t)) ≡ least_of (least_id a t) (least_id a (entries_of (slice_set ts p [])))
set-least a [] p t h = absurd (omega arith)
set-least a (x ∷ xs) zero t h = append-least t (entries_of xs) a
set-least a (x ∷ xs) (suc p) t h =
    append-least x (entries_of (slice_set xs p t)) a
    ∙ (ap (least_of (least_id a x)) (set-least a xs p t (omega arith))
    ∙ (least-swap (least_id a x) (least_id a t) (least_id a (entries_of (slice_set xs p [])))
    ∙ ap (least_of (least_id a t)) (sym (append-least x (entries_of (slice_set xs p [])) a))))

-- the entries of a list of buffers are those at a place and the others
at-least : (a : List ℕ) (ts : List (List NumberedClause)) (p : ℕ) → p < length ts → least_id a (entries_of ts) ≡ least_of (least_id a (get_or ts p [])) (least_id a (entries_of (slice_set ts p [])))
at-least a [] p h = absurd (omega arith)
at-least a (x ∷ xs) zero h = append-least x (entries_of xs) a
at-least a (x ∷ xs) (suc p) h =
    append-least x (entries_of xs) a
    ∙ (ap (least_of (least_id a x)) (at-least a xs p (omega arith))
    ∙ (least-swap (least_id a x) (least_id a (get_or xs p [])) (least_id a (entries_of (slice_set xs p [])))
    ∙ ap (least_of (least_id a (get_or xs p []))) (sym (append-least x (entries_of (slice_set xs p [])) a))))

push-least : (a : List ℕ) (ts : List (List NumberedClause)) (t : List NumberedClause) → least_id a (entries_of (ts ++ t ∷ [])) ≡ least_of (least_id a (entries_of ts)) (least_id a t)
push-least a [] t = append-least t [] a ∙ least-comm (least_id a t) (least_id a [])
push-least a (x ∷ xs) t =
    append-least x (entries_of (xs ++ t ∷ [])) a
    ∙ (ap (least_of (least_id a x)) (push-least a xs t)
    ∙ (sym (least-assoc (least_id a x) (least_id a (entries_of xs)) (least_id a t))
    ∙ ap (λ (o : Option ℕ). least_of o (least_id a t)) (sym (append-least x (entries_of xs) a))))

-- the last buffer merged into that at a place and cut there: what is told to all stays
pub climb : (ts : List (List NumberedClause)) (p : ℕ) (last : List NumberedClause) → p < length ts
    → broadcast (entries_of (slice_set ts p (prefix most_literals (union (get_or ts p [] ++ last))))) ≡ broadcast (entries_of (ts ++ last ∷ []))
climb ts p last h =
    let m : List NumberedClause = union (get_or ts p [] ++ last) in
    let c : List NumberedClause = prefix most_literals m in
    let r : List NumberedClause = entries_of (slice_set ts p []) in
    let sm : IsSorted m = union-sorted (get_or ts p [] ++ last) in
    let sc : IsSorted c = prefix-sorted most_literals m sm in
    let su : IsSorted (union r) = union-sorted r in
    let one : union (entries_of (slice_set ts p c)) ≡ merged c (union r) =
    decided (union (entries_of (slice_set ts p c))) (merged c (union r)) (union-sorted (entries_of (slice_set ts p c))) (merged-sorted c (union r) sc su) (λ a.
    union-least (entries_of (slice_set ts p c)) a ∙ (set-least a ts p c h ∙ (ap (least_of (least_id a c)) (sym (union-least r a)) ∙ sym (merged-least c (union r) a)))) in
    let two : merged m (union r) ≡ union (entries_of (ts ++ last ∷ [])) =
    decided (merged m (union r)) (union (entries_of (ts ++ last ∷ []))) (merged-sorted m (union r) sm su) (union-sorted (entries_of (ts ++ last ∷ []))) (λ a.
    let own : Option ℕ = least_id a (get_or ts p []) in
    let theirs : Option ℕ = least_id a last in
    let others : Option ℕ = least_id a r in
    let left : least_id a (merged m (union r)) ≡ least_of (least_of own theirs) others =
    merged-least m (union r) a ∙ (ap (λ (o : Option ℕ). least_of o (least_id a (union r))) (union-least (get_or ts p [] ++ last) a ∙ append-least (get_or ts p []) last a) ∙ ap (least_of (least_of own theirs)) (union-least r a)) in
    let right : least_id a (union (entries_of (ts ++ last ∷ []))) ≡ least_of (least_of own others) theirs =
    union-least (entries_of (ts ++ last ∷ [])) a ∙ (push-least a ts last ∙ ap (λ (o : Option ℕ). least_of o theirs) (at-least a ts p h)) in
    let turn : least_of (least_of own theirs) others ≡ least_of (least_of own others) theirs =
    least-assoc own theirs others ∙ (ap (least_of own) (least-comm theirs others) ∙ sym (least-assoc own others theirs)) in
    left ∙ (turn ∙ sym right)) in
    ap (prefix most_literals) one ∙ (early most_literals most_literals m (union r) (omega arith) ∙ ap (prefix most_literals) two)

-- what the one buffer that is left tells
pub top : (t : List NumberedClause) → IsSorted t → prefix most_literals t ≡ broadcast (entries_of (t ∷ []))
top t s =
    let same : union (t ++ []) ≡ t =
    decided (union (t ++ [])) t (union-sorted (t ++ [])) s (λ a. union-least (t ++ []) a ∙ (append-least t [] a ∙ least-comm (least_id a t) (least_id a []))) in
    ap (prefix most_literals) (sym same)
