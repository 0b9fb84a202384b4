use Rattle.std.proofs.Common.{◌≡◌, ℕ, zero, suc, ◌+◌, ◌≤◌, ◌<◌, Bool, true, false, cond, eqb, List, [], ◌∷◌, ◌++◌, length, take, drop, set, get_or, refl, sym, subst, arith}
use Rattle.std.specs.Prelude.{filter, sum_by}
use Rattle.std.proofs.lemmas.Bool.{ne_eqb}
use Rattle.std.proofs.lemmas.List.{length-take-le, length-drop}
use Rattle.std.proofs.lemmas.List.Sums.{sum_by-cons}
use Rattle.mal_store.specs.declared.clause_arena.Header.{Header}
use Rattle.mal_store.specs.declared.clause_arena.Body.{Body}
use Rattle.mal_store.specs.declared.clause_arena.Body.TheVariants.{Three, Listed}
use Rattle.mal_store.specs.Arena.{lits_in, clause_in, clauses_in, IsBody, AreHeaders, IsFrom, end_of, AreLaid, IsFit, AreFit, len_of, listed, listed_len, listed_count}

-- a clause has as many literals in the list of all as its header says
body-listed : (literals : List ℕ) (b : Body) → IsBody (length literals) b → IsFit b → cond (eqb (length (lits_in literals b)) 3) 0 (length (lits_in literals b)) ≡ len_of b
body-listed literals (Three lits) w f = rw f refl
body-listed literals (Listed start len search_start) w f =
    let part : length (take len (drop start literals)) ≡ len = length-take-le len (drop start literals) (omega (arith, w, length-drop start literals)) in
    let other : eqb len 3 ≡ false = ne_eqb len 3 f in
    rw (part, other) refl

pub listed-less : (lits : List ℕ) → listed lits ≤ length lits
listed-less lits = by_test (eqb (length lits) 3)
  where
    by_test : (b : Bool) → cond b 0 (length lits) ≤ length lits
    by_test true = omega arith
    by_test false = omega arith

-- and so have clauses
pub headers-listed : (literals : List ℕ) (rs : List Header) → AreHeaders (length literals) rs → AreFit rs → listed_count (clauses_in literals rs) ≡ sum_by (λ r. len_of r.body) rs
headers-listed literals [] w f = refl
headers-listed literals (r ∷ rs) w f = omega (arith, sum_by-cons listed_len (clause_in literals r) (clauses_in literals rs), sum_by-cons (λ (x : Header). len_of x.body) r rs, body-listed literals r.body w.0 f.0, headers-listed literals rs w.1 f.1)

-- what is laid from one place to another has no more literals than there are places
body-total : (low : ℕ) (b : Body) → IsFrom low b → low + len_of b ≤ end_of low b
body-total low (Three lits) h = omega arith
body-total low (Listed start len search_start) h = omega (arith, h)

pub laid-total : (low high : ℕ) (rs : List Header) → AreLaid low high rs → low + sum_by (λ r. len_of r.body) rs ≤ high
laid-total low high [] h = omega (arith, h)
laid-total low high (r ∷ rs) h = omega (arith, sum_by-cons (λ (x : Header). len_of x.body) r rs, body-total low r.body h.0, laid-total (end_of low r.body) high rs h.1)

pub fit-filter : (test : Header → Bool) (rs : List Header) → AreFit rs → AreFit (filter test rs)
fit-filter test [] h = tt
fit-filter test (r ∷ rs) h = by_test (fit-filter test rs h.1) (test r)
  where
    by_test : AreFit (filter test rs) → (b : Bool) → AreFit (cond b (r ∷ filter test rs) (filter test rs))
    by_test k true = (h.0, k)
    by_test k false = k

pub fit-push : (rs : List Header) (r : Header) → IsFit r.body → AreFit rs → AreFit (rs ++ r ∷ [])
fit-push [] r f h = (f, tt)
fit-push (x ∷ xs) r f h = (h.0, fit-push xs r f h.1)

pub fit-at : (rs : List Header) (k : ℕ) (r : Header) → k < length rs → r ≡ get_or rs k r → AreFit rs → IsFit r.body
fit-at [] k r l e h = absurd (omega arith)
fit-at (x ∷ xs) zero r l e h = subst (λ (y : Header). IsFit y.body) (sym e) h.0
fit-at (x ∷ xs) (suc k) r l e h = fit-at xs k r (omega arith) e h.1

pub fit-same : (rs : List Header) (k : ℕ) (s : Header) → IsFit s.body → AreFit rs → AreFit (set rs k s)
fit-same [] k s f h = tt
fit-same (x ∷ xs) zero s f h = (f, h.1)
fit-same (x ∷ xs) (suc k) s f h = (h.0, fit-same xs k s f h.1)
