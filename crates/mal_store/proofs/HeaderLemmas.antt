use Rattle.std.proofs.Common.{◌≡◌, ℕ, zero, suc, ◌+◌, ◌<◌, ◌≤◌, List, [], ◌∷◌, ◌++◌, length, take, drop, set, get_or, Some, refl, ap, ◌∙◌, arith}
use Rattle.std.specs.List.{slice_get}
use Rattle.std.proofs.lemmas.List.{length-map, take-append-le, take_all, drop_at, map-append}
use Rattle.mal_base.specs.NumberedClause.{NumberedClause}
use Rattle.mal_store.specs.declared.clause_arena.Header.{Header}
use Rattle.mal_store.specs.declared.clause_arena.Body.{Body}
use Rattle.mal_store.specs.declared.clause_arena.Body.TheVariants.{Three, Listed}
use Rattle.mal_store.specs.Arena.{lits_in, clause_in, clauses_in, IsBody, AreHeaders}

pub headers-at : (count : ℕ) (rs : List Header) (k : ℕ) (d : Header) → AreHeaders count rs → k < length rs → IsBody count (get_or rs k d).body
headers-at count [] k d w l = absurd (omega arith)
headers-at count (r ∷ rs) zero d w l = w.0
headers-at count (r ∷ rs) (suc k) d w l = headers-at count rs k d w.1 (omega arith)

pub get-header : (literals : List ℕ) (rs : List Header) (k : ℕ) (d : Header) → k < length rs → slice_get (clauses_in literals rs) k ≡ Some (clause_in literals (get_or rs k d))
get-header literals [] k d l = absurd (omega arith)
get-header literals (r ∷ rs) zero d l = refl
get-header literals (r ∷ rs) (suc k) d l = get-header literals rs k d (omega arith)

pub headers-length : (literals : List ℕ) (rs : List Header) → length (clauses_in literals rs) ≡ length rs
headers-length literals rs = length-map rs (clause_in literals)

body-wider : (count more : ℕ) (b : Body) → count ≤ more → IsBody count b → IsBody more b
body-wider count more (Three lits) l w = tt
body-wider count more (Listed start len search_start) l w = omega (arith, w)

pub headers-wider : (count more : ℕ) (rs : List Header) → count ≤ more → AreHeaders count rs → AreHeaders more rs
headers-wider count more [] l w = tt
headers-wider count more (r ∷ rs) l w = (body-wider count more r.body l w.0, headers-wider count more rs l w.1)

part-front : (i n : ℕ) (xs ys : List ℕ) → i + n ≤ length xs → take n (drop i (xs ++ ys)) ≡ take n (drop i xs)
part-front zero n xs ys l = take-append-le n xs ys (omega arith)
part-front (suc i) zero xs ys l = refl
part-front (suc i) (suc n) [] ys l = absurd (omega arith)
part-front (suc i) (suc n) (x ∷ xs) ys l = part-front i (suc n) xs ys (omega arith)

-- clauses stay where more literals are appended
body-more : (literals more : List ℕ) (b : Body) → IsBody (length literals) b → lits_in (literals ++ more) b ≡ lits_in literals b
body-more literals more (Three lits) w = refl
body-more literals more (Listed start len search_start) w = part-front start len literals more w

pub headers-more : (literals more : List ℕ) (rs : List Header) → AreHeaders (length literals) rs → clauses_in (literals ++ more) rs ≡ clauses_in literals rs
headers-more literals more [] w = refl
headers-more literals more (r ∷ rs) w = rw (body-more literals more r.body w.0, headers-more literals more rs w.1) refl

-- the literals that were appended are those of the header that is made of them
pub part-behind : (literals more : List ℕ) → take (length more) (drop (length literals) (literals ++ more)) ≡ more
part-behind literals more = rw (drop_at literals more (length literals) refl) (take_all (length more) more (omega arith))

-- a clause more
pub clauses-push : (literals : List ℕ) (rs : List Header) (r : Header) → clauses_in literals (rs ++ r ∷ []) ≡ clauses_in literals rs ++ clause_in literals r ∷ []
clauses-push literals rs r = map-append (clause_in literals) rs (r ∷ [])

-- the headers' clauses stay where one is replaced by the same clause
pub headers-same : (literals : List ℕ) (rs : List Header) (k : ℕ) (r s : Header) → k < length rs → r ≡ get_or rs k r → s.id ≡ r.id → lits_in literals s.body ≡ lits_in literals r.body → clauses_in literals (set rs k s) ≡ clauses_in literals rs
headers-same literals [] k r s l e i h = absurd (omega arith)
headers-same literals (x ∷ xs) zero r s l e i h =
    let same : clause_in literals s ≡ clause_in literals r = rw (i, h) refl in
    ap (λ (c : NumberedClause). c ∷ clauses_in literals xs) (same ∙ ap (clause_in literals) e)
headers-same literals (x ∷ xs) (suc k) r s l e i h = ap (λ (cs : List NumberedClause). clause_in literals x ∷ cs) (headers-same literals xs k r s (omega arith) e i h)
