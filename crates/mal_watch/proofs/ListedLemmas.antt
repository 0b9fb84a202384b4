use Rattle.std.proofs.Common.{◌≡◌, ℕ, zero, suc, ◌+◌, ◌<◌, ◌≤◌, Bool, true, false, cond, List, [], ◌∷◌, ◌++◌, length, take, drop, set, get_or, replicate, Option, None, Some, refl, sym, ap, ◌∙◌, append_assoc, append-nil, arith, ◌⊎◌, inl, inr}
use Rattle.std.specs.Prelude.{All}
use Rattle.std.proofs.lemmas.List.{length_push, length-set, length-drop, length-take-le, take_more_set, drop-set-lt, drop_more, drop-drop, drop_all}
use Rattle.std.proofs.lemmas.List.Elements.{All-nil, All-cons, All-head, All-tail, All-push, All-set, All-weaker}
use Rattle.mal_base.specs.NumberedClause.{NumberedClause}
use Rattle.mal_watch.specs.declared.watch_lists.Watch.{Watch}
use Rattle.mal_store.specs.Arena.{is_left}
use Rattle.mal_watch.specs.Leaving.{pairs_left}
use Rattle.mal_watch.specs.Links.{nowhere}
use Rattle.mal_watch.specs.Watches.{links_of, keys_of}
use Rattle.mal_watch.specs.WatchLists.{link_at, AreLinked, AreListed}
use Rattle.mal_watch.proofs.HasLemmas.{has-none}
use Rattle.mal_watch.proofs.WiderLemmas.{wider}
use Rattle.mal_watch.proofs.LinkedLemmas.{added}
use Rattle.mal_watch.proofs.WatchLemmas.{links-length, keys-length, links-push, keys-push, key-at}

-- one watch more, another literal of a watch, more lists
pub listed-push : (lists : ℕ) (keys : List ℕ) (key : ℕ) → key < lists → length keys + 1 ≤ nowhere → AreListed lists keys → AreListed lists (keys ++ key ∷ [])
listed-push lists keys key l n h = record { few = omega (arith, n, length_push keys key); below = All-push (λ (k : ℕ). k < lists) keys key h.below l }

pub listed-set : (lists : ℕ) (keys : List ℕ) (k key : ℕ) → key < lists → AreListed lists keys → AreListed lists (set keys k key)
listed-set lists keys k key l h = record { few = omega (arith, h.few, length-set keys k key); below = All-set (λ (x : ℕ). x < lists) keys k key l h.below }

pub listed-more : (lists more : ℕ) (keys : List ℕ) → lists ≤ more → AreListed lists keys → AreListed more keys
listed-more lists more keys l h = record { few = h.few; below = All-weaker (λ (k : ℕ). k < lists) (λ (k : ℕ). k < more) (λ k q. omega (arith, l, q)) keys h.below }

-- no watch in empty lists
pub none-linked : (n : ℕ) → AreLinked (replicate n None) [] []
none-linked n =
    wider [] [] [] n
    (record {
      lists = λ key. [];
      linked = λ key. refl;
      home = λ key k h. absurd (has-none k h);
      each = λ k h. absurd (omega arith);
      once = λ key. tt;
      long = refl;
    })

-- the two of each clause that stays, of fewer clauses, and of their keys
pub pairs-none : {X : Type 0} (ids : List ℕ) (cs : List NumberedClause) (xs : List X) (m : ℕ) → (length cs ≤ m) ⊎ (length xs ≤ m + m + 1) → pairs_left ids (drop m cs) (drop (m + m) xs) ≡ []
pairs-none ids cs xs m (inl l) = rw (drop_all m cs l) refl
pairs-none {X} ids cs xs m (inr l) = by_rest (drop m cs) (drop (m + m) xs) (omega (arith, l, length-drop (m + m) xs))
  where
    by_rest : (ds : List NumberedClause) (ys : List X) → length ys ≤ 1 → pairs_left ids ds ys ≡ []
    by_rest [] ys s = refl
    by_rest (d ∷ ds) [] s = refl
    by_rest (d ∷ ds) (y ∷ []) s = refl
    by_rest (d ∷ ds) (y ∷ (z ∷ zs)) s = absurd (omega arith)

pub keys-pairs : (ids : List ℕ) (cs : List NumberedClause) (ns : List Watch) → keys_of (pairs_left ids cs ns) ≡ pairs_left ids cs (keys_of ns)
keys-pairs ids [] ns = refl
keys-pairs ids (c ∷ cs) [] = refl
keys-pairs ids (c ∷ cs) (a ∷ []) = refl
keys-pairs ids (c ∷ cs) (a ∷ (b ∷ ns)) = by_test (keys-pairs ids cs ns) (is_left ids c)
  where
    by_test : keys_of (pairs_left ids cs ns) ≡ pairs_left ids cs (keys_of ns) → (t : Bool) → keys_of (cond t (a ∷ (b ∷ pairs_left ids cs ns)) (pairs_left ids cs ns)) ≡ cond t (a.key ∷ (b.key ∷ pairs_left ids cs (keys_of ns))) (pairs_left ids cs (keys_of ns))
    by_test f true = ap (λ (ks : List ℕ). a.key ∷ (b.key ∷ ks)) f
    by_test f false = f

pub pairs-all : {X : Type 0} (P : X → Type 0) (ids : List ℕ) (cs : List NumberedClause) (xs : List X) → All P xs → All P (pairs_left ids cs xs)
pairs-all P ids [] xs h = All-nil P
pairs-all P ids (c ∷ cs) [] h = All-nil P
pairs-all P ids (c ∷ cs) (a ∷ []) h = All-nil P
pairs-all {X} P ids (c ∷ cs) (a ∷ (b ∷ xs)) h = by_test (pairs-all P ids cs xs (All-tail P b xs (All-tail P a (b ∷ xs) h))) (is_left ids c)
  where
    by_test : All P (pairs_left ids cs xs) → (t : Bool) → All P (cond t (a ∷ (b ∷ pairs_left ids cs xs)) (pairs_left ids cs xs))
    by_test k true = All-cons P a (b ∷ pairs_left ids cs xs) (All-head P a (b ∷ xs) h) (All-cons P b (pairs_left ids cs xs) (All-head P b xs (All-tail P a (b ∷ xs) h)) k)
    by_test k false = k

pairs-length : {X : Type 0} (ids : List ℕ) (cs : List NumberedClause) (xs : List X) → length (pairs_left ids cs xs) ≤ length xs
pairs-length ids [] xs = omega arith
pairs-length ids (c ∷ cs) [] = omega arith
pairs-length ids (c ∷ cs) (a ∷ []) = omega arith
pairs-length {X} ids (c ∷ cs) (a ∷ (b ∷ xs)) = by_test (pairs-length ids cs xs) (is_left ids c)
  where
    by_test : length (pairs_left ids cs xs) ≤ length xs → (t : Bool) → length (cond t (a ∷ (b ∷ pairs_left ids cs xs)) (pairs_left ids cs xs)) ≤ length (a ∷ (b ∷ xs))
    by_test l true = omega (arith, l)
    by_test l false = omega (arith, l)

pub listed-pairs : (lists : ℕ) (ids : List ℕ) (cs : List NumberedClause) (keys : List ℕ) → AreListed lists keys → AreListed lists (pairs_left ids cs keys)
listed-pairs lists ids cs keys h = record { few = omega (arith, pairs-length ids cs keys, h.few); below = pairs-all (λ (k : ℕ). k < lists) ids cs keys h.below }

-- a clause's two were read and written down
pub pairs-step : {X : Type 0} (ids : List ℕ) (cs : List NumberedClause) (xs : List X) (kept place i j : ℕ) (d : NumberedClause) (a b : X) → place < length cs → place + place + 1 < length xs → kept ≤ place + place → i ≡ place + place → j ≡ place + place + 1 → a ≡ get_or xs i a → b ≡ get_or xs j b → is_left ids (get_or cs place d) ≡ true → take (kept + 2) (set (set xs kept a) (kept + 1) b) ++ pairs_left ids (drop (place + 1) cs) (drop (place + place + 2) (set (set xs kept a) (kept + 1) b)) ≡ take kept xs ++ pairs_left ids (drop place cs) (drop (place + place) xs)
pairs-step {X} ids cs xs kept place i j d a b l m k u v f g t =
    let p : ℕ = place + place in
    let here : a ≡ get_or xs p a = f ∙ ap (λ (n : ℕ). get_or xs n a) u in
    let there : b ≡ get_or xs (p + 1) b = g ∙ ap (λ (n : ℕ). get_or xs n b) v in
    let head : drop place cs ≡ get_or cs place d ∷ drop (place + 1) cs = drop_more cs place d l in
    let second : drop (p + 1) xs ≡ b ∷ drop (p + 2) xs = drop_more xs (p + 1) b m ∙ (ap (λ (x : X). x ∷ drop (p + 1 + 1) xs) (sym there) ∙ ap (λ (n : ℕ). b ∷ drop n xs) (omega arith)) in
    let first : drop p xs ≡ a ∷ (b ∷ drop (p + 2) xs) = drop_more xs p a (omega arith) ∙ (ap (λ (x : X). x ∷ drop (p + 1) xs) (sym here) ∙ ap (λ (ys : List X). a ∷ ys) second) in
    let one : length (set xs kept a) ≡ length xs = length-set xs kept a in
    let behind : drop (p + 2) (set (set xs kept a) (kept + 1) b) ≡ drop (p + 2) xs = drop-set-lt (p + 2) (set xs kept a) (kept + 1) b (omega arith) ∙ drop-set-lt (p + 2) xs kept a (omega arith) in
    let more : take (kept + 1 + 1) (set (set xs kept a) (kept + 1) b) ≡ take kept xs ++ (a ∷ (b ∷ [])) = take_more_set (set xs kept a) (kept + 1) b (omega arith) ∙ (ap (λ (ys : List X). ys ++ b ∷ []) (take_more_set xs kept a (omega arith)) ∙ append_assoc (take kept xs) (a ∷ []) (b ∷ [])) in
    let front : take (kept + 2) (set (set xs kept a) (kept + 1) b) ≡ take kept xs ++ (a ∷ (b ∷ [])) = ap (λ (n : ℕ). take n (set (set xs kept a) (kept + 1) b)) (omega arith) ∙ more in
    rw (front, behind, head, first, t) (append_assoc (take kept xs) (a ∷ (b ∷ [])) (pairs_left ids (drop (place + 1) cs) (drop (p + 2) xs)))

-- a clause's two were passed over
pub pairs-pass : {X : Type 0} (ids : List ℕ) (cs : List NumberedClause) (xs : List X) (place : ℕ) (d : NumberedClause) → place < length cs → place + place + 1 < length xs → is_left ids (get_or cs place d) ≡ false → pairs_left ids (drop (place + 1) cs) (drop (place + place + 2) xs) ≡ pairs_left ids (drop place cs) (drop (place + place) xs)
pairs-pass {X} ids cs xs place d l m t = by_rest (drop (place + place) xs) (drop (place + place + 2) xs) (sym (drop-drop 2 (place + place) xs)) (omega (arith, length-drop (place + place) xs))
  where
    head : drop place cs ≡ get_or cs place d ∷ drop (place + 1) cs
    head = drop_more cs place d l

    by_rest : (ys zs : List X) → zs ≡ drop 2 ys → 2 ≤ length ys → pairs_left ids (drop (place + 1) cs) zs ≡ pairs_left ids (drop place cs) ys
    by_rest [] zs q n = absurd (omega arith)
    by_rest (y ∷ []) zs q n = absurd (omega arith)
    by_rest (y ∷ (z ∷ ys)) zs q n = rw (q, head, t) refl

-- a watch of as many, of which each literal has a list
pub watch-listed : (lists : ℕ) (watches first : List Watch) (place : ℕ) (n : Watch) → keys_of watches ≡ keys_of first → AreListed lists (keys_of first) → place < length watches → n ≡ get_or watches place n → (n.key < lists) × (place < nowhere)
watch-listed lists watches first place n q h l e =
    let same : length (keys_of watches) ≡ length (keys_of first) = ap (λ (ks : List ℕ). length ks) q in
    let inside : place < length (keys_of first) = omega (arith, l, same, keys-length watches) in
    let key : n.key ≡ get_or (keys_of first) place 0 = key-at watches place n l e ∙ ap (λ (ks : List ℕ). get_or ks place 0) q in
    let below : get_or (keys_of first) place 0 < lists = h.below place 0 inside in
    (omega (arith, key, below), omega (arith, inside, h.few))

-- the keys stay where a link changes
pub keys-kept : (watches : List Watch) (place : ℕ) (n m : Watch) → place < length watches → n ≡ get_or watches place n → m.key ≡ n.key → keys_of (set watches place m) ≡ keys_of watches
keys-kept [] place n m l e k = absurd (omega arith)
keys-kept (x ∷ xs) zero n m l e k = ap (λ (y : ℕ). y ∷ keys_of xs) (k ∙ ap (λ (y : Watch). y.key) e)
keys-kept (x ∷ xs) (suc place) n m l e k = ap (λ (ks : List ℕ). x.key ∷ ks) (keys-kept xs place n m (omega arith) e k)

-- one watch more is linked
pub link-more : (heads : List (Option ℕ)) (watches : List Watch) (place list : ℕ) (m : Watch) → place < length watches → list ≡ m.key → m.key < length heads → m.next ≡ link_at heads list → AreLinked heads (links_of (take place watches)) (keys_of (take place watches)) → AreLinked (set heads list (Some place)) (links_of (take (place + 1) (set watches place m))) (keys_of (take (place + 1) (set watches place m)))
link-more heads watches place list m l e k t c =
    let now : take (place + 1) (set watches place m) ≡ take place watches ++ m ∷ [] = take_more_set watches place m l in
    let count : place ≡ length (links_of (take place watches)) = omega (arith, l, links-length (take place watches), length-take-le place watches (omega arith)) in
    added heads (links_of (take place watches)) _ (keys_of (take place watches)) _ m.key list place m.next c e count k t (ap links_of now ∙ links-push (take place watches) m) (ap keys_of now ∙ keys-push (take place watches) m)

-- how far the two of each clause were gone over: these are kept in front, and those after are still to come
pub record IsKeeping {X : Type 0} (ids : List ℕ) (cs : List NumberedClause) (first xs : List X) (kept place : ℕ) : Type 0 where
  pub pairs : take kept xs ++ pairs_left ids (drop place cs) (drop (place + place) xs) ≡ pairs_left ids cs first
  pub behind : kept ≤ place + place

pub keep-pass : {X : Type 0} (ids : List ℕ) (cs : List NumberedClause) (first xs : List X) (kept place : ℕ) (d : NumberedClause) → place < length cs → place + place + 1 < length xs → is_left ids (get_or cs place d) ≡ false → IsKeeping ids cs first xs kept place → IsKeeping ids cs first xs kept (place + 1)
keep-pass {X} ids cs first xs kept place d l m t k =
    let next : pairs_left ids (drop (place + 1) cs) (drop (place + 1 + (place + 1)) xs) ≡ pairs_left ids (drop place cs) (drop (place + place) xs) = ap (λ (n : ℕ). pairs_left ids (drop (place + 1) cs) (drop n xs)) (omega arith) ∙ pairs-pass ids cs xs place d l m t in
    record { pairs = ap (λ (ys : List X). take kept xs ++ ys) next ∙ k.pairs; behind = omega (arith, k.behind) }

pub keep-both : {X : Type 0} (ids : List ℕ) (cs : List NumberedClause) (first xs : List X) (kept place i j : ℕ) (d : NumberedClause) (a b : X) → place < length cs → place + place + 1 < length xs → i ≡ place + place → j ≡ place + place + 1 → a ≡ get_or xs i a → b ≡ get_or xs j b → is_left ids (get_or cs place d) ≡ true → IsKeeping ids cs first xs kept place → IsKeeping ids cs first (set (set xs kept a) (kept + 1) b) (kept + 2) (place + 1)
keep-both {X} ids cs first xs kept place i j d a b l m u v f g t k =
    let now : List X = set (set xs kept a) (kept + 1) b in
    let next : pairs_left ids (drop (place + 1) cs) (drop (place + 1 + (place + 1)) now) ≡ pairs_left ids (drop (place + 1) cs) (drop (place + place + 2) now) = ap (λ (n : ℕ). pairs_left ids (drop (place + 1) cs) (drop n now)) (omega arith) in
    record { pairs = ap (λ (ys : List X). take (kept + 2) now ++ ys) next ∙ (pairs-step ids cs xs kept place i j d a b l m k.behind u v f g t ∙ k.pairs); behind = omega (arith, k.behind) }

pub keep-last : {X : Type 0} (ids : List ℕ) (cs : List NumberedClause) (first xs : List X) (kept place : ℕ) → (length cs ≤ place) ⊎ (length xs ≤ place + place + 1) → IsKeeping ids cs first xs kept place → take kept xs ≡ pairs_left ids cs first
keep-last {X} ids cs first xs kept place e k = sym (ap (λ (ys : List X). take kept xs ++ ys) (pairs-none ids cs xs place e) ∙ append-nil (take kept xs)) ∙ k.pairs
