use Rattle.std.proofs.Common.{◌≡◌, ℕ, ◌+◌, ◌≤◌, max, Bool, true, false, cond, ◌||◌, List, [], ◌∷◌, ◌++◌, take, drop, Some, None, Option, refl, sym, ap, subst, append_assoc, append-nil, arith, inl, inr, ◌⊎◌}
use Rattle.std.specs.Prelude.{All, find, count_by, ◌==◌}
use Rattle.std.specs.List.{list_any}
use Rattle.std.specs.Option.{option_map_or}
use Rattle.std.proofs.lemmas.List.{take-take, take-append-drop}
use Rattle.std.proofs.lemmas.List.Elements.{All-nil, All-cons, All-head, All-tail, All-weaker}
use Rattle.std.proofs.lemmas.List.Sums.{sum_by-cons}
use Rattle.std.proofs.lemmas.Bool.{or_cases, or_left, or_right, or_parts, eq-eqb}
use Rattle.mal_base.specs.Literals.{var_of}
use Rattle.mal_base.specs.declared.trail_entry.TrailEntry.{TrailEntry}
use Rattle.spec_node.specs.Value.{has_value, level_of}
use Rattle.spec_node.specs.Sound.{EachAfter, IsLevelled, own_level, level_in, greatest_level}
use Rattle.spec_node.proofs.CutLemmas.{level_of-push}
use Rattle.spec_node.proofs.FindLemmas.{find-All}

-- a property of each entry of the part after a front
pub each-behind : (P : List TrailEntry → TrailEntry → Type 0) (xs ys before : List TrailEntry) → EachAfter P before (xs ++ ys) → EachAfter P (before ++ xs) ys
each-behind P [] ys before h = subst (λ (t : List TrailEntry). EachAfter P t ys) (sym (append-nil before)) h
each-behind P (x ∷ xs) ys before h = subst (λ (t : List TrailEntry). EachAfter P t ys) (append_assoc before (x ∷ []) xs) (each-behind P xs ys (before ++ x ∷ []) h.1)

own_level-high : (before : List TrailEntry) (o : Option ℕ) → level_of before ≤ own_level before o
own_level-high before None = omega arith
own_level-high before (Some id) = omega arith

-- levels never fall
pub levels-rise : (es before : List TrailEntry) → EachAfter IsLevelled before es → level_of before ≤ level_of (before ++ es)
levels-rise [] before h = subst (λ (t : List TrailEntry). level_of before ≤ level_of t) (sym (append-nil before)) (omega arith)
levels-rise (e ∷ es) before h =
    let own : e.level ≡ own_level before e.reason = h.0 in
    let high : level_of before ≤ own_level before e.reason = own_level-high before e.reason in
    let here : level_of (before ++ e ∷ []) ≡ e.level = level_of-push before e in
    let rest : level_of (before ++ e ∷ []) ≤ level_of ((before ++ e ∷ []) ++ es) = levels-rise es (before ++ e ∷ []) h.1 in
    subst (λ (t : List TrailEntry). level_of before ≤ level_of t) (append_assoc before (e ∷ []) es) (omega arith)

pub levels-high : (es before : List TrailEntry) → EachAfter IsLevelled before es → All (λ x. x.level ≤ level_of (before ++ es)) es
levels-high [] before h = All-nil (λ x. x.level ≤ level_of (before ++ []))
levels-high (e ∷ es) before h =
    let here : level_of (before ++ e ∷ []) ≡ e.level = level_of-push before e in
    let rest : level_of (before ++ e ∷ []) ≤ level_of ((before ++ e ∷ []) ++ es) = levels-rise es (before ++ e ∷ []) h.1 in
    let both : All (λ x. x.level ≤ level_of ((before ++ e ∷ []) ++ es)) (e ∷ es) = All-cons (λ x. x.level ≤ level_of ((before ++ e ∷ []) ++ es)) e es (omega arith) (levels-high es (before ++ e ∷ []) h.1) in
    subst (λ (t : List TrailEntry). All (λ (x : TrailEntry). x.level ≤ level_of t) (e ∷ es)) (append_assoc before (e ∷ []) es) both

pub levels-low : (es before : List TrailEntry) → EachAfter IsLevelled before es → All (λ x. level_of before ≤ x.level) es
levels-low [] before h = All-nil (λ x. level_of before ≤ x.level)
levels-low (e ∷ es) before h =
    let own : e.level ≡ own_level before e.reason = h.0 in
    let high : level_of before ≤ own_level before e.reason = own_level-high before e.reason in
    let here : level_of (before ++ e ∷ []) ≡ e.level = level_of-push before e in
    let bound : level_of before ≤ level_of (before ++ e ∷ []) = omega arith in
    All-cons (λ x. level_of before ≤ x.level) e es (omega arith) (All-weaker (λ x. level_of (before ++ e ∷ []) ≤ x.level) (λ x. level_of before ≤ x.level) (λ x k. let g : level_of (before ++ e ∷ []) ≤ x.level = k in omega arith) es (levels-low es (before ++ e ∷ []) h.1))

-- the level of a longer prefix is no lower
pub level-take : (t : List TrailEntry) (m n : ℕ) → m ≤ n → EachAfter IsLevelled [] t → (front : (xs ys : List TrailEntry) → EachAfter IsLevelled [] (xs ++ ys) → EachAfter IsLevelled [] xs) → level_of (take m t) ≤ level_of (take n t)
level-take t m n b h front =
    let part : EachAfter IsLevelled [] (take n t) = front (take n t) (drop n t) (rw (take-append-drop n t) h) in
    let split : take m (take n t) ++ drop m (take n t) ≡ take n t = take-append-drop m (take n t) in
    let same : take m (take n t) ≡ take m t = take-take m n t b in
    let rest : EachAfter IsLevelled (take m (take n t)) (drop m (take n t)) = each-behind IsLevelled (take m (take n t)) (drop m (take n t)) [] (rw split part) in
    let rise : level_of (take m (take n t)) ≤ level_of (take m (take n t) ++ drop m (take n t)) = levels-rise (drop m (take n t)) (take m (take n t)) rest in
    subst (λ (u : List TrailEntry). level_of u ≤ level_of (take n t)) same (subst (λ (u : List TrailEntry). level_of (take m (take n t)) ≤ level_of u) split rise)

-- a variable's level is at most that reached
pub level_in-le : (t : List TrailEntry) (v : ℕ) → EachAfter IsLevelled [] t → level_in t v ≤ level_of t
level_in-le t v h = by_found (find (λ e. v == var_of e.lit) t) refl
  where
    by_found : (o : Option TrailEntry) → find (λ e. v == var_of e.lit) t ≡ o → option_map_or (λ e. e.level) o 0 ≤ level_of t
    by_found None q = omega arith
    by_found (Some x) q = find-All (λ y. y.level ≤ level_of t) (λ e. v == var_of e.lit) t x (levels-high t [] h) q

-- a variable free in a front has the level of the rest
pub level_in-behind : (xs ys : List TrailEntry) (v : ℕ) → has_value xs v ≡ false → level_in (xs ++ ys) v ≡ level_in ys v
level_in-behind [] ys v h = refl
level_in-behind (x ∷ xs) ys v h =
    let parts = or_parts (v == var_of x.lit) (has_value xs v) h in
    rw parts.0 (level_in-behind xs ys v parts.1)

-- a variable with a value in a list of entries has a level that they all have
pub level_in-from : (ys : List TrailEntry) (v k : ℕ) → All (λ x. k ≤ x.level) ys → has_value ys v ≡ true → k ≤ level_in ys v
level_in-from [] v k h b = absurd (cc)
level_in-from (y ∷ ys) v k h b = by_test (level_in-from ys v k (All-tail (λ x. k ≤ x.level) y ys h)) (v == var_of y.lit) refl b
  where
    by_test : (has_value ys v ≡ true → k ≤ level_in ys v) → (c : Bool) → (v == var_of y.lit) ≡ c → (c || has_value ys v) ≡ true → k ≤ option_map_or (λ e. e.level) (cond c (Some y) (find (λ e. v == var_of e.lit) ys)) 0
    by_test f true q t = All-head (λ x. k ≤ x.level) y ys h
    by_test f false q t = f t

-- bounds of the greatest level
pub greatest-le : (t : List TrailEntry) (lits : List ℕ) → EachAfter IsLevelled [] t → greatest_level t lits ≤ level_of t
greatest-le t [] h = omega arith
greatest-le t (l ∷ ls) h = let a = level_in-le t (var_of l) h in let b = greatest-le t ls h in omega arith

pub greatest-from : (t : List TrailEntry) (hit : ℕ → Bool) (k : ℕ) → ((m : ℕ) → hit m ≡ true → k ≤ level_in t (var_of m)) → (lits : List ℕ) → list_any hit lits ≡ true → k ≤ greatest_level t lits
greatest-from t hit k f [] h = absurd (cc)
greatest-from t hit k f (l ∷ ls) h = by_place (greatest-from t hit k f ls) (or_cases (hit l) (list_any hit ls) h)
  where
    by_place : (list_any hit ls ≡ true → k ≤ greatest_level t ls) → (hit l ≡ true) ⊎ (list_any hit ls ≡ true) → k ≤ max (level_in t (var_of l)) (greatest_level t ls)
    by_place g (inl q) = let a = f l q in omega arith
    by_place g (inr q) = let a = g q in omega arith

-- one literal as it is counted
abbrev unit : Bool → ℕ
unit b = cond b 1 0

unit-of : (b : Bool) → b ≡ true → unit b ≡ 1
unit-of b e = ap unit e

-- counts of literals that pass
count-cons : (p : ℕ → Bool) (x : ℕ) (xs : List ℕ) → count_by p (x ∷ xs) ≡ unit (p x) + count_by p xs
count-cons p x xs = sum_by-cons (λ (y : ℕ). cond (p y) 1 0) x xs

pub count-one : (p hit : ℕ → Bool) → ((x : ℕ) → hit x ≡ true → p x ≡ true) → (xs : List ℕ) → list_any hit xs ≡ true → 1 ≤ count_by p xs
count-one p hit f [] h = absurd (cc)
count-one p hit f (x ∷ xs) h = by_place (count-one p hit f xs) (or_cases (hit x) (list_any hit xs) h)
  where
    by_place : (list_any hit xs ≡ true → 1 ≤ count_by p xs) → (hit x ≡ true) ⊎ (list_any hit xs ≡ true) → 1 ≤ count_by p (x ∷ xs)
    by_place g (inl q) = let u = count-cons p x xs in let one = unit-of (p x) (f x q) in omega arith
    by_place g (inr q) = let u = count-cons p x xs in let a = g q in omega arith

-- two kinds of literals that pass, of which none is both, are two
pub count-two : (p hit met : ℕ → Bool) → ((x : ℕ) → hit x ≡ true → p x ≡ true) → ((x : ℕ) → met x ≡ true → p x ≡ true) → ((x : ℕ) → hit x ≡ true → met x ≡ true → ⊥) → (xs : List ℕ) → list_any hit xs ≡ true → list_any met xs ≡ true → 2 ≤ count_by p xs
count-two p hit met f g apart [] h k = absurd (cc)
count-two p hit met f g apart (x ∷ xs) h k = by_place (count-two p hit met f g apart xs) (or_cases (hit x) (list_any hit xs) h) (or_cases (met x) (list_any met xs) k)
  where
    by_place : (list_any hit xs ≡ true → list_any met xs ≡ true → 2 ≤ count_by p xs) → (hit x ≡ true) ⊎ (list_any hit xs ≡ true) → (met x ≡ true) ⊎ (list_any met xs ≡ true) → 2 ≤ count_by p (x ∷ xs)
    by_place i (inl a) (inl b) = absurd (apart x a b)
    by_place i (inl a) (inr b) = let u = count-cons p x xs in let one = unit-of (p x) (f x a) in let rest = count-one p met g xs b in omega arith
    by_place i (inr a) (inl b) = let u = count-cons p x xs in let one = unit-of (p x) (g x b) in let rest = count-one p hit f xs a in omega arith
    by_place i (inr a) (inr b) = let u = count-cons p x xs in let rest = i a b in omega arith

-- what is found stands in the list, and where one alone passes all others fail
pub found-in : (test : ℕ → Bool) (xs : List ℕ) (x : ℕ) → find test xs ≡ Some x → list_any (λ y. y == x) xs ≡ true
found-in test [] x e = absurd (cc)
found-in test (y ∷ ys) x e = by_test (found-in test ys x) (test y) e
  where
    by_test : (find test ys ≡ Some x → list_any (λ z. z == x) ys ≡ true) → (b : Bool) → cond b (Some y) (find test ys) ≡ Some x → list_any (λ z. z == x) (y ∷ ys) ≡ true
    by_test f true k = let same : y ≡ x = cc in or_left _ _ (eq-eqb y x same)
    by_test f false k = or_right _ _ (f k)

pub none-pass : (test : ℕ → Bool) (xs : List ℕ) → count_by test xs ≡ 0 → All (λ y. test y ≡ false) xs
none-pass test [] h = All-nil (λ y. test y ≡ false)
none-pass test (y ∷ ys) h = All-cons (λ z. test z ≡ false) y ys (by_test (test y) refl) (none-pass test ys (let u = count-cons test y ys in omega arith))
  where
    by_test : (b : Bool) → test y ≡ b → test y ≡ false
    by_test false q = q
    by_test true q = let u = count-cons test y ys in let one = unit-of (test y) q in absurd (omega arith)

pub found-alone : (test : ℕ → Bool) (xs : List ℕ) (x : ℕ) → find test xs ≡ Some x → count_by test xs ≤ 1 → All (λ y. (y ≡ x) ⊎ (test y ≡ false)) xs
found-alone test [] x e b = All-nil (λ y. (y ≡ x) ⊎ (test y ≡ false))
found-alone test (y ∷ ys) x e b = by_test (found-alone test ys x) (test y) refl e
  where
    by_test : (find test ys ≡ Some x → count_by test ys ≤ 1 → All (λ z. (z ≡ x) ⊎ (test z ≡ false)) ys) → (c : Bool) → test y ≡ c → cond c (Some y) (find test ys) ≡ Some x → All (λ z. (z ≡ x) ⊎ (test z ≡ false)) (y ∷ ys)
    by_test f true q k =
        let same : y ≡ x = cc in
        let u = count-cons test y ys in
        let one = unit-of (test y) q in
        All-cons (λ z. (z ≡ x) ⊎ (test z ≡ false)) y ys (inl same) (All-weaker (λ z. test z ≡ false) (λ z. (z ≡ x) ⊎ (test z ≡ false)) (λ z m. inr m) ys (none-pass test ys (omega arith)))
    by_test f false q k = All-cons (λ z. (z ≡ x) ⊎ (test z ≡ false)) y ys (inr q) (f k (let u = count-cons test y ys in omega arith))

pub count-none : (p : ℕ → Bool) (xs : List ℕ) → All (λ y. p y ≡ false) xs → count_by p xs ≡ 0
count-none p [] h = refl
count-none p (x ∷ xs) h =
    let none : unit (p x) ≡ 0 = ap unit (All-head (λ y. p y ≡ false) x xs h) in
    let u = count-cons p x xs in
    let rest : count_by p xs ≡ 0 = count-none p xs (All-tail (λ y. p y ≡ false) x xs h) in
    omega arith
