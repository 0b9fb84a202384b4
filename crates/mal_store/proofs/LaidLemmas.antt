use Rattle.std.proofs.Common.{◌≡◌, ℕ, zero, suc, ◌+◌, ◌-◌, ◌<◌, ◌≤◌, Bool, true, false, cond, List, [], ◌∷◌, ◌++◌, length, take, drop, set, get_or, refl, sym, ap, ◌∙◌, subst, arith}
use Rattle.std.specs.Prelude.{filter, sum_by}
use Rattle.std.proofs.lemmas.List.Sums.{sum_by_push}
use Rattle.std.proofs.lemmas.List.{take-append-drop, take-set, drop-set, drop-set-lt, drop_more, take_more_set, take_all, map-append}
use Rattle.mal_base.specs.NumberedClause.{NumberedClause}
use Rattle.spec_node.specs.Adding.{forgetting}
use Rattle.mal_store.specs.declared.clause_arena.Header.{Header}
use Rattle.mal_store.specs.declared.clause_arena.Body.{Body}
use Rattle.mal_store.specs.declared.clause_arena.Body.TheVariants.{Three, Listed}
use Rattle.mal_store.specs.Arena.{is_left, lits_in, clause_in, clauses_in, IsBody, AreHeaders, IsFrom, end_of, AreLaid, IsFit, AreFit, len_of}
use Rattle.mal_store.proofs.WonLemmas.{fit-at, fit-same}

-- a place where a clause's literals begin is not after its end
body-forward : (low : ℕ) (b : Body) → IsFrom low b → low ≤ end_of low b
body-forward low (Three lits) h = omega arith
body-forward low (Listed start len search_start) h = omega (arith, h)

body-within : (low high : ℕ) (b : Body) → end_of low b ≤ high → IsBody high b
body-within low high (Three lits) l = tt
body-within low high (Listed start len search_start) l = l

-- headers that are laid stand among the literals
pub laid-forward : (low high : ℕ) (rs : List Header) → AreLaid low high rs → low ≤ high
laid-forward low high [] h = h
laid-forward low high (r ∷ rs) h = omega (arith, body-forward low r.body h.0, laid-forward (end_of low r.body) high rs h.1)

pub laid-within : (low high : ℕ) (rs : List Header) → AreLaid low high rs → AreHeaders high rs
laid-within low high [] h = tt
laid-within low high (r ∷ rs) h = (body-within low high r.body (laid-forward (end_of low r.body) high rs h.1), laid-within (end_of low r.body) high rs h.1)

pub laid-lower : (low lower high : ℕ) (rs : List Header) → lower ≤ low → AreLaid low high rs → AreLaid lower high rs
laid-lower low lower high [] l h = omega (arith, h)
laid-lower low lower high (r ∷ rs) l h = by_body (laid-lower low lower high rs l) r.body h.0 h.1
  where
    by_body : (AreLaid low high rs → AreLaid lower high rs) → (b : Body) → IsFrom low b → AreLaid (end_of low b) high rs → IsFrom lower b × AreLaid (end_of lower b) high rs
    by_body f (Three lits) g k = (tt, f k)
    by_body f (Listed start len search_start) g k = (omega (arith, g), k)

pub laid-filter : (test : Header → Bool) (low high : ℕ) (rs : List Header) → AreLaid low high rs → AreLaid low high (filter test rs)
laid-filter test low high [] h = h
laid-filter test low high (r ∷ rs) h = by_test (laid-filter test (end_of low r.body) high rs h.1) (test r)
  where
    by_test : AreLaid (end_of low r.body) high (filter test rs) → (b : Bool) → AreLaid low high (cond b (r ∷ filter test rs) (filter test rs))
    by_test k true = (h.0, k)
    by_test k false = laid-lower (end_of low r.body) low high (filter test rs) (body-forward low r.body h.0) k

pub laid-push : (low high end : ℕ) (rs : List Header) (r : Header) → IsFrom high r.body → end_of high r.body ≡ end → AreLaid low high rs → AreLaid low end (rs ++ r ∷ [])
laid-push low high end [] r f e h = by_body r.body f e
  where
    by_body : (b : Body) → IsFrom high b → end_of high b ≡ end → IsFrom low b × (end_of low b ≤ end)
    by_body (Three lits) f e = (tt, omega (arith, e, h))
    by_body (Listed start len search_start) f e = (omega (arith, f, h), omega (arith, e))
laid-push low high end (x ∷ xs) r f e h = (h.0, laid-push (end_of low x.body) high end xs r f e h.1)

-- another header of the same place
pub laid-same : (low high : ℕ) (rs : List Header) (k : ℕ) (r s : Header) → k < length rs → r ≡ get_or rs k r → ((l : ℕ) → IsFrom l r.body → IsFrom l s.body) → ((l : ℕ) → end_of l s.body ≡ end_of l r.body) → AreLaid low high rs → AreLaid low high (set rs k s)
laid-same low high [] k r s l e f n h = absurd (omega arith)
laid-same low high (x ∷ xs) zero r s l e f n h =
    let was : IsFrom low r.body × AreLaid (end_of low r.body) high xs = subst (λ (y : Header). IsFrom low y.body × AreLaid (end_of low y.body) high xs) (sym e) h in
    (f low was.0, rw (n low) was.1)
laid-same low high (x ∷ xs) (suc k) r s l e f n h = (h.0, laid-same (end_of low x.body) high xs k r s (omega arith) e f n h.1)

-- the clauses that stay are those of the headers that stay
pub headers-filter : (literals ids : List ℕ) (rs : List Header) → clauses_in literals (filter (λ (r : Header). is_left ids (clause_in literals r)) rs) ≡ forgetting ids (clauses_in literals rs)
headers-filter literals ids [] = refl
headers-filter literals ids (r ∷ rs) = by_test (headers-filter literals ids rs) (is_left ids (clause_in literals r))
  where
    left : List Header
    left = filter (λ (x : Header). is_left ids (clause_in literals x)) rs

    by_test : clauses_in literals left ≡ forgetting ids (clauses_in literals rs) → (b : Bool) → clauses_in literals (cond b (r ∷ left) left) ≡ cond b (clause_in literals r ∷ forgetting ids (clauses_in literals rs)) (forgetting ids (clauses_in literals rs))
    by_test f true = ap (λ (cs : List NumberedClause). clause_in literals r ∷ cs) f
    by_test f false = f

-- parts of lists with the same elements are equal
pub part-same : (xs ys : List ℕ) (n i j : ℕ) → i + n ≤ length xs → j + n ≤ length ys → ((k : ℕ) → i ≤ k → k < i + n → get_or xs k 0 ≡ get_or ys (j + (k - i)) 0) → take n (drop i xs) ≡ take n (drop j ys)
part-same xs ys zero i j a b h = refl
part-same xs ys (suc n) i j a b h =
    let front : get_or xs i 0 ≡ get_or ys j 0 = h i (omega arith) (omega arith) ∙ ap (λ (m : ℕ). get_or ys m 0) (omega arith) in
    let rest : take n (drop (i + 1) xs) ≡ take n (drop (j + 1) ys) = part-same xs ys n (i + 1) (j + 1) (omega arith) (omega arith) (λ k l m. h k (omega arith) (omega arith) ∙ ap (λ (x : ℕ). get_or ys x 0) (omega arith)) in
    rw (drop_more xs i 0 (omega arith), drop_more ys j 0 (omega arith), front, rest) refl

-- lists of literals agree from one place to another
abbrev pub Agree : List ℕ → List ℕ → ℕ → ℕ → Type 0
Agree old new low high = (k : ℕ) → low ≤ k → k < high → get_or new k 0 ≡ get_or old k 0

body-agrees : (old new : List ℕ) (low high : ℕ) (b : Body) → high ≤ length old → high ≤ length new → Agree old new low high → IsFrom low b → end_of low b ≤ high → lits_in new b ≡ lits_in old b
body-agrees old new low high (Three lits) a b h f e = refl
body-agrees old new low high (Listed start len search_start) a b h f e = part-same new old len start start (omega (arith, e)) (omega (arith, e)) (λ k l m. h k (omega (arith, f)) (omega (arith, e)) ∙ ap (λ (x : ℕ). get_or old x 0) (omega arith))

-- and then the clauses of headers that are laid there are the same
pub headers-agree : (old new : List ℕ) (low high : ℕ) (rs : List Header) → high ≤ length old → high ≤ length new → Agree old new low high → AreLaid low high rs → clauses_in new rs ≡ clauses_in old rs
headers-agree old new low high [] a b h w = refl
headers-agree old new low high (r ∷ rs) a b h w =
    let far = body-forward low r.body w.0 in
    rw (body-agrees old new low high r.body a b h w.0 (laid-forward (end_of low r.body) high rs w.1), headers-agree old new (end_of low r.body) high rs a b (λ k l m. h k (omega (arith, far)) m) w.1) refl

-- headers of which the first ones were moved down
pub record IsClosing (before literals : List ℕ) (first headers : List Header) (place end : ℕ) : Type 0 where
  pub clauses : clauses_in literals headers ≡ clauses_in before first
  pub done : AreLaid 0 end (take place headers)
  pub rest : AreLaid end (length literals) (drop place headers)
  pub fit : AreFit headers
  pub total : sum_by (λ r. len_of r.body) (take place headers) ≡ end

-- one more
pub close-more : (before old new : List ℕ) (first rs : List Header) (place end behind : ℕ) (r s : Header) → place < length rs → r ≡ get_or rs place r → length new ≡ length old → s.id ≡ r.id → lits_in new s.body ≡ lits_in old r.body → IsFrom end s.body → behind ≡ end_of end s.body → behind ≤ end_of end r.body → behind ≡ end + len_of s.body → (IsFit r.body → IsFit s.body) → Agree old new 0 end → Agree old new (end_of end r.body) (length old) → IsClosing before old first rs place end → IsClosing before new first (set rs place s) (place + 1) behind
close-more before old new first rs place end behind r s l e n i h f b w t u below above c =
    let cut : rs ≡ take place rs ++ r ∷ drop (place + 1) rs = sym (take-append-drop place rs) ∙ ap (λ (xs : List Header). take place rs ++ xs) (drop_more rs place r l ∙ ap (λ (x : Header). x ∷ drop (place + 1) rs) (sym e)) in
    let made : set rs place s ≡ take place rs ++ s ∷ drop (place + 1) rs = sym (take-append-drop place (set rs place s)) ∙ (ap (λ (xs : List Header). xs ++ drop place (set rs place s)) (take-set rs place s) ∙ ap (λ (xs : List Header). take place rs ++ xs) (drop-set rs place s l)) in
    let laid : IsFrom end r.body × AreLaid (end_of end r.body) (length old) (drop (place + 1) rs) = subst (λ (xs : List Header). AreLaid end (length old) xs) (drop_more rs place r l ∙ ap (λ (x : Header). x ∷ drop (place + 1) rs) (sym e)) c.rest in
    let short : end ≤ length old = laid-forward end (length old) (drop place rs) c.rest in
    let front : clauses_in new (take place rs) ≡ clauses_in old (take place rs) = headers-agree old new 0 end (take place rs) short (omega arith) below c.done in
    let back : clauses_in new (drop (place + 1) rs) ≡ clauses_in old (drop (place + 1) rs) = headers-agree old new (end_of end r.body) (length old) (drop (place + 1) rs) (omega arith) (omega arith) above laid.1 in
    let one : clause_in new s ≡ clause_in old r = rw (i, h) refl in
    record {
      clauses = ap (clauses_in new) made ∙ (map-append (clause_in new) (take place rs) (s ∷ drop (place + 1) rs) ∙ (rw (front, back, one) refl ∙ (sym (map-append (clause_in old) (take place rs) (r ∷ drop (place + 1) rs)) ∙ (ap (clauses_in old) (sym cut) ∙ c.clauses))));
      done = rw (take_more_set rs place s l) (laid-push 0 end behind (take place rs) s f (sym b) c.done);
      fit = fit-same rs place s (u (fit-at rs place r l e c.fit)) c.fit;
      total = rw (take_more_set rs place s l) (omega (arith, sum_by_push (λ (x : Header). len_of x.body) (take place rs) s, t, c.total));
      rest = rw (n, drop-behind) (laid-lower (end_of end r.body) behind (length old) (drop (place + 1) rs) w laid.1);
    }
  where
    drop-behind : drop (place + 1) (set rs place s) ≡ drop (place + 1) rs
    drop-behind = drop-set-lt (place + 1) rs place s (omega arith)

-- the header at a place is within
pub laid-at : (low high : ℕ) (rs : List Header) (place : ℕ) (r : Header) → place < length rs → r ≡ get_or rs place r → AreLaid low high (drop place rs) → IsBody high r.body
laid-at low high rs place r l e h = (subst (λ (xs : List Header). AreHeaders high xs) (drop_more rs place r l ∙ ap (λ (x : Header). x ∷ drop (place + 1) rs) (sym e)) (laid-within low high (drop place rs) h)).0

-- what is after the last header can go
pub close-last : (before old new : List ℕ) (first rs : List Header) (place end : ℕ) → length rs ≤ place → end ≤ length new → ((k : ℕ) (d : ℕ) → k < end → get_or new k d ≡ get_or old k d) → IsClosing before old first rs place end → clauses_in new rs ≡ clauses_in before first
close-last before old new first rs place end l w h c =
    let laid : AreLaid 0 end rs = subst (λ (xs : List Header). AreLaid 0 end xs) (take_all place rs l) c.done in
    headers-agree old new 0 end rs (laid-forward end (length old) (drop place rs) c.rest) w (λ k a b. h k 0 b) laid ∙ c.clauses

-- and what is left has as many literals as the headers say
pub close-total : (before literals : List ℕ) (first rs : List Header) (place end : ℕ) → length rs ≤ place → IsClosing before literals first rs place end → sum_by (λ r. len_of r.body) rs ≡ end
close-total before literals first rs place end l c = ap (λ (xs : List Header). sum_by (λ (r : Header). len_of r.body) xs) (sym (take_all place rs l)) ∙ c.total
