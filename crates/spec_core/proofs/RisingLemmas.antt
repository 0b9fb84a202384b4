use Rattle.std.proofs.Common.{◌≡◌, ℕ, ◌/◌, ◌≤◌, ◌<◌, Bool, true, false, ◌==◌, nat_lt, List, [], ◌∷◌, ◌++◌, length, refl, sym, ap, subst, ◌∙◌, inl, inr, ◌⊎◌, arith}
use Rattle.std.specs.Prelude.{Contains}
use Rattle.std.specs.List.{list_any}
use Rattle.std.proofs.lemmas.Bool.{and_parts, or_cases, or_left, or_right, ltb-true, eqb-true, eq-eqb}
use Rattle.mal_base.specs.Clauses.{rises, is_below}
use Rattle.spec_course.proofs.RefutedLemmas.{member-there, member-found}
use Rattle.spec_core.specs.Laws.{KeptStayFirst}

-- whether a list has a member
abbrev pub has : List ℕ → ℕ → Bool
has ys x = list_any (λ y. y == x) ys

-- the members of a list are all members of another
abbrev pub Inside : List ℕ → List ℕ → Type 0
Inside xs ys = (x : ℕ) → has xs x ≡ true → has ys x ≡ true

pub tail-rises : (l : ℕ) (ls : List ℕ) → rises (l ∷ ls) ≡ true → rises ls ≡ true
tail-rises l ls h = (and_parts (is_below l ls) (rises ls) h).1

-- in a rising list what stands after the first is of a greater variable
pub later : (l : ℕ) (ls : List ℕ) (x : ℕ) → rises (l ∷ ls) ≡ true → has ls x ≡ true → l / 2 < x / 2
later l [] x h t = absurd (cc)
later l (m ∷ ms) x h t = by_place (later m ms x (tail-rises l (m ∷ ms) h)) (ltb-true (l / 2) (m / 2) (and_parts (nat_lt (l / 2) (m / 2)) (rises (m ∷ ms)) h).0) (or_cases (m == x) (has ms x) t)
  where
    by_place : (has ms x ≡ true → m / 2 < x / 2) → l / 2 < m / 2 → ((m == x) ≡ true) ⊎ (has ms x ≡ true) → l / 2 < x / 2
    by_place rest low (inl e) = subst (λ (k : ℕ). l / 2 < k / 2) (eqb-true m x e) low
    by_place rest low (inr e) = let high = rest e in omega arith

-- a greater variable is no first one
behind-first : (k x : ℕ) (ys : List ℕ) → k / 2 < x / 2 → has (k ∷ ys) x ≡ true → has ys x ≡ true
behind-first k x ys less h = by_place (or_cases (k == x) (has ys x) h)
  where
    by_place : ((k == x) ≡ true) ⊎ (has ys x ≡ true) → has ys x ≡ true
    by_place (inl e) = let same : k / 2 ≡ x / 2 = ap (λ (n : ℕ). n / 2) (eqb-true k x e) in absurd (omega arith)
    by_place (inr e) = e

pub has-first : (x : ℕ) (xs : List ℕ) → has (x ∷ xs) x ≡ true
has-first x xs = or_left (x == x) (has xs x) (eq-eqb x x refl)

pub has-behind : (y x : ℕ) (xs : List ℕ) → has xs x ≡ true → has (y ∷ xs) x ≡ true
has-behind y x xs h = or_right (y == x) (has xs x) h

pub has-front : (xs ys : List ℕ) (x : ℕ) → has xs x ≡ true → has (xs ++ ys) x ≡ true
has-front [] ys x h = absurd (cc)
has-front (z ∷ zs) ys x h = by_place (or_cases (z == x) (has zs x) h) (λ e. has-front zs ys x e)
  where
    by_place : ((z == x) ≡ true) ⊎ (has zs x ≡ true) → (has zs x ≡ true → has (zs ++ ys) x ≡ true) → has (z ∷ (zs ++ ys)) x ≡ true
    by_place (inl e) rest = or_left (z == x) (has (zs ++ ys) x) e
    by_place (inr e) rest = or_right (z == x) (has (zs ++ ys) x) (rest e)

same-first : (k c : ℕ) (ks cs : List ℕ) → rises (k ∷ ks) ≡ true → rises (c ∷ cs) ≡ true → has (k ∷ ks) c ≡ true → has (c ∷ cs) k ≡ true → c ≡ k
same-first k c ks cs h r t u = by_places (or_cases (k == c) (has ks c) t) (or_cases (c == k) (has cs k) u)
  where
    by_places : ((k == c) ≡ true) ⊎ (has ks c ≡ true) → ((c == k) ≡ true) ⊎ (has cs k ≡ true) → c ≡ k
    by_places (inl e) q = sym (eqb-true k c e)
    by_places (inr e) (inl f) = eqb-true c k f
    by_places (inr e) (inr f) = let a = later k ks c h e in let b = later c cs k r f in absurd (omega arith)

pub record BeginsWith (kept more core : List ℕ) : Type 0 where
  pub rest : List ℕ
  pub is : core ≡ kept ++ rest
  pub inside : Inside rest more

pub begins-with : (kept more core : List ℕ) → rises (kept ++ more) ≡ true → rises core ≡ true → Inside core (kept ++ more) → Inside kept core → BeginsWith kept more core
begins-with [] more core h r s t = record { rest = core; is = refl; inside = s }
begins-with (k ∷ ks) more [] h r s t = absurd (let e : false ≡ true = t k (has-first k ks) in cc)
begins-with (k ∷ ks) more (c ∷ cs) h r s t =
    let same : c ≡ k = same-first k c (ks ++ more) cs h r (s c (has-first c cs)) (t k (has-first k ks)) in
    let inside : Inside cs (ks ++ more) = λ x u. behind-first k x (ks ++ more) (subst (λ (n : ℕ). n / 2 < x / 2) same (later c cs x r u)) (s x (has-behind c x cs u)) in
    let kept : Inside ks cs = λ x u. behind-first c x cs (subst (λ (n : ℕ). n / 2 < x / 2) (sym same) (later k (ks ++ more) x h (has-front ks more x u))) (t x (has-behind k x ks u)) in
    let found = begins-with ks more cs (tail-rises k (ks ++ more) h) (tail-rises c cs r) inside kept in
    record { rest = found.rest; is = ap (λ (n : ℕ). n ∷ cs) same ∙ ap (λ (ls : List ℕ). k ∷ ls) found.is; inside = found.inside }

pub inside-from : (xs ys : List ℕ) → ((l : ℕ) → Contains xs l → Contains ys l) → Inside xs ys
inside-from xs ys h x e = member-there ys x (h x (member-found xs x e))

pub contains-from : (xs ys : List ℕ) → Inside xs ys → (l : ℕ) → Contains xs l → Contains ys l
contains-from xs ys h l c = member-found ys l (h l (member-there xs l c))

pub kept-stay-first : KeptStayFirst
kept-stay-first kept more core h r s t =
    let found = begins-with kept more core h r (inside-from core (kept ++ more) s) (inside-from kept core t) in
    (found.rest, found.is, contains-from found.rest more found.inside)

-- a rising list inside another is no longer
pub inside-shorter : (xs ys : List ℕ) → rises xs ≡ true → rises ys ≡ true → Inside xs ys → length xs ≤ length ys
inside-shorter [] ys h r s = omega arith
inside-shorter (x ∷ xs) [] h r s = absurd (let e : false ≡ true = s x (has-first x xs) in cc)
inside-shorter (x ∷ xs) (y ∷ ys) h r s = by_place (or_cases (y == x) (has ys x) (s x (has-first x xs))) (λ k. inside-shorter xs ys (tail-rises x xs h) (tail-rises y ys r) k) (λ k. inside-shorter (x ∷ xs) ys h (tail-rises y ys r) k)
  where
    above : y / 2 < x / 2 → (z : ℕ) → ((x == z) ≡ true) ⊎ (has xs z ≡ true) → y / 2 < z / 2
    above low z (inl q) = subst (λ (n : ℕ). y / 2 < n / 2) (eqb-true x z q) low
    above low z (inr q) = let high = later x xs z h q in omega arith

    by_place : ((y == x) ≡ true) ⊎ (has ys x ≡ true) → (Inside xs ys → length xs ≤ length ys) → (Inside (x ∷ xs) ys → length (x ∷ xs) ≤ length ys) → length (x ∷ xs) ≤ length (y ∷ ys)
    by_place (inl e) both one =
        let same : y ≡ x = eqb-true y x e in
        let less = both (λ z u. behind-first y z ys (subst (λ (n : ℕ). n / 2 < z / 2) (sym same) (later x xs z h u)) (s z (has-behind x z xs u))) in
        omega arith
    by_place (inr e) both one =
        let low = later y ys x r e in
        let less = one (λ z u. behind-first y z ys (above low z (or_cases (x == z) (has xs z) u)) (s z u)) in
        omega arith
