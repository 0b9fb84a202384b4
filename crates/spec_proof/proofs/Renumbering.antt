-- New numbers.
use Rattle.std.proofs.Common.{◌≡◌, ◌≢◌, ℕ, ◌+◌, ◌<◌, Bool, true, false, cond, List, [], ◌∷◌, ◌==◌, map, refl, sym, ◌∙◌, ap, inl, inr, arith}
use Rattle.std.proofs.lemmas.Bool.{eqb-true, eqb-false, eq-eqb, ne_eqb}
use Rattle.mal_base.specs.NumberedClause.{Line}
use Rattle.spec_proof.specs.Log.{AreApart}
use Rattle.spec_proof.specs.Trimmed.{ids_of, new_id, renamed, counted}
use Rattle.spec_proof.specs.Laws.{NumbersFollow, OthersStay}
use Rattle.spec_proof.specs.Among.{Among}
use Rattle.spec_proof.proofs.Among.{of-all}

-- after the first line, where it is another one
abbrev pub Behind : Line → List Line → Line → Type 0
Behind x xs y = (x.id == y.id) ≡ false → Among y (x ∷ xs) → Among y xs

behind : (x : Line) (xs : List Line) (y : Line) → Behind x xs y
behind x xs y q (inl e) = absurd (eqb-false x.id y.id q (ap (λ (l : Line). l.id) e))
behind x xs y q (inr h) = h

-- new numbers are above the first one
pub new-above : (m : ℕ) (xs : List Line) (y : Line) → Among y xs → m < new_id m (ids_of xs) y.id
new-above m [] y h = absurd h
new-above m (x ∷ xs) y h = by_first (x.id == y.id) refl (λ k. new-above (m + 1) xs y k)
  where
    by_first : (b : Bool) → (x.id == y.id) ≡ b → (Among y xs → m + 1 < new_id (m + 1) (ids_of xs) y.id) → m < cond b (m + 1) (new_id (m + 1) (ids_of xs) y.id)
    by_first true q rest = omega arith
    by_first false q rest = let more : m + 1 < new_id (m + 1) (ids_of xs) y.id = rest (behind x xs y q h) in omega arith

-- lines with other numbers have other new numbers
pub new-apart : (m : ℕ) (xs : List Line) (y z : Line) → Among y xs → Among z xs → new_id m (ids_of xs) y.id ≡ new_id m (ids_of xs) z.id → y.id ≡ z.id
new-apart m [] y z h k e = absurd h
new-apart m (x ∷ xs) y z h k e = by_first (x.id == y.id) (x.id == z.id) refl refl (λ i j q. new-apart (m + 1) xs y z i j q) e
  where
    by_first : (a b : Bool) → (x.id == y.id) ≡ a → (x.id == z.id) ≡ b → (Among y xs → Among z xs → new_id (m + 1) (ids_of xs) y.id ≡ new_id (m + 1) (ids_of xs) z.id → y.id ≡ z.id)
        → cond a (m + 1) (new_id (m + 1) (ids_of xs) y.id) ≡ cond b (m + 1) (new_id (m + 1) (ids_of xs) z.id) → y.id ≡ z.id
    by_first true true p q rest r = sym (eqb-true x.id y.id p) ∙ eqb-true x.id z.id q
    by_first true false p q rest r = let more : m + 1 < new_id (m + 1) (ids_of xs) z.id = new-above (m + 1) xs z (behind x xs z q k) in absurd (omega arith)
    by_first false true p q rest r = let more : m + 1 < new_id (m + 1) (ids_of xs) y.id = new-above (m + 1) xs y (behind x xs y p h) in absurd (omega arith)
    by_first false false p q rest r = rest (behind x xs y p h) (behind x xs z q k) r

-- a number that no line has stays
pub new-other : (m : ℕ) (xs : List Line) (id : ℕ) → ((y : Line) → Among y xs → y.id ≢ id) → new_id m (ids_of xs) id ≡ id
new-other m [] id others = refl
new-other m (x ∷ xs) id others =
    let apart : (x.id == id) ≡ false = ne_eqb x.id id (others x (inl refl)) in
    rw apart (new-other (m + 1) xs id (λ y h. others y (inr h)))

pub others-stay : OthersStay
others-stay m lines id others = new-other m lines id (λ y h. of-all (λ line. line.id ≢ id) lines y others h)

-- two renamings that agree on the lines' numbers give the same numbers
ids-same : (f g : ℕ → ℕ) (xs : List Line) → ((y : Line) → Among y xs → f y.id ≡ g y.id) → map f (ids_of xs) ≡ map g (ids_of xs)
ids-same f g [] same = refl
ids-same f g (x ∷ xs) same = let here : f x.id ≡ g x.id = same x (inl refl) in let rest : map f (ids_of xs) ≡ map g (ids_of xs) = ids-same f g xs (λ y h. same y (inr h)) in rw (here, rest) refl

ids-renamed : (f : ℕ → ℕ) (xs : List Line) → ids_of (map (renamed f) xs) ≡ map f (ids_of xs)
ids-renamed f [] = refl
ids-renamed f (x ∷ xs) = ap (λ (r : List ℕ). f x.id ∷ r) (ids-renamed f xs)

names-follow : (m : ℕ) (xs : List Line) → AreApart xs → map (new_id m (ids_of xs)) (ids_of xs) ≡ counted m xs
names-follow m [] apart = refl
names-follow m (x ∷ xs) apart =
    let first : (x.id == x.id) ≡ true = eq-eqb x.id x.id refl in
    let rest : map (new_id m (ids_of (x ∷ xs))) (ids_of xs) ≡ map (new_id (m + 1) (ids_of xs)) (ids_of xs) = ids-same (new_id m (ids_of (x ∷ xs))) (new_id (m + 1) (ids_of xs)) xs later in
    rw first (ap (λ (r : List ℕ). (m + 1) ∷ r) (rest ∙ names-follow (m + 1) xs apart.1))
  where
    later : (y : Line) → Among y xs → new_id m (ids_of (x ∷ xs)) y.id ≡ new_id (m + 1) (ids_of xs) y.id
    later y h =
        let other : (x.id == y.id) ≡ false = ne_eqb x.id y.id (λ e. of-all (λ other. other.id ≢ x.id) xs y apart.0 h (sym e)) in
        ap (λ (b : Bool). cond b (m + 1) (new_id (m + 1) (ids_of xs) y.id)) other

pub numbers-follow : NumbersFollow
numbers-follow m lines apart = ids-renamed (new_id m (ids_of lines)) lines ∙ names-follow m lines apart
