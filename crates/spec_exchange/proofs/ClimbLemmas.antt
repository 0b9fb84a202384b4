-- The buffers of a tree climb up to its root.
use Rattle.std.proofs.Common.{◌≡◌, ℕ, zero, suc, ◌+◌, ◌-◌, ◌/◌, ◌<◌, ◌≤◌, List, [], ◌∷◌, ◌++◌, length, map, get_or, take, refl, sym, ap, ◌∙◌, subst, arith, append-nil}
use Rattle.std.specs.Prelude.{All, slice_set}
use Rattle.std.proofs.lemmas.List.{take_more, take_all, length-take-le, length-set, length-map, get_or-take, get_or_default}
use Rattle.std.proofs.lemmas.List.Elements.{All-nil, All-cons, All-head, All-take, All-set}
use Rattle.mal_base.specs.NumberedClause.{NumberedClause}
use Rattle.spec_exchange.specs.Exchange.{union, prefix, most_literals, broadcast, entries_of, above, climbed_once, climbed, climbed_root}
use Rattle.spec_exchange.proofs.PrefixLemmas.{cuts-early}
use Rattle.spec_exchange.proofs.TreeLemmas.{climb}
use Rattle.spec_exchange.proofs.UnionLemmas.{order-free}

-- the last buffer of a list, merged into one before it
pub climb-last : (tops : List (List NumberedClause)) (p : ℕ) (x y : List NumberedClause) → p + 1 < length tops → x ≡ get_or tops p x → y ≡ get_or tops (length tops - 1) y
    → broadcast (entries_of (slice_set (take (length tops - 1) tops) p (prefix most_literals (union (x ++ y))))) ≡ broadcast (entries_of tops)
climb-last tops p x y h own last =
    let ts : List (List NumberedClause) = take (length tops - 1) tops in
    let count : length tops - 1 + 1 ≡ length tops = omega arith in
    let long : length ts ≡ length tops - 1 = length-take-le (length tops - 1) tops (omega arith) in
    let cut : take (length tops - 1 + 1) tops ≡ ts ++ get_or tops (length tops - 1) y ∷ [] = take_more tops (length tops - 1) y (omega arith) in
    let whole : take (length tops - 1 + 1) tops ≡ tops = take_all (length tops - 1 + 1) tops (omega arith) in
    let parts : ts ++ y ∷ [] ≡ tops = ap (λ (l : List NumberedClause). ts ++ l ∷ []) last ∙ (sym cut ∙ whole) in
    let here : get_or ts p [] ≡ x = get_or-take (length tops - 1) tops p [] (omega arith) ∙ (get_or_default tops p [] x (omega arith) ∙ sym own) in
    subst (λ (l : List (List NumberedClause)). broadcast (entries_of (slice_set ts p (prefix most_literals (union (x ++ y))))) ≡ broadcast (entries_of l)) parts
    (subst (λ (l : List NumberedClause). broadcast (entries_of (slice_set ts p (prefix most_literals (union (l ++ y))))) ≡ broadcast (entries_of (ts ++ y ∷ []))) here
    (climb ts p y (omega arith)))

-- each for itself first
pub node-by-node : (exports : List (List NumberedClause)) → broadcast (entries_of (map broadcast exports)) ≡ broadcast (entries_of exports)
node-by-node [] = refl
node-by-node (x ∷ xs) = joined x (entries_of (map broadcast xs)) (entries_of xs) (node-by-node xs)
  where
    swap : (us vs : List NumberedClause) → broadcast (us ++ vs) ≡ broadcast (vs ++ us)
    swap us vs = ap (prefix most_literals) (order-free us vs)

    joined : (us vs ws : List NumberedClause) → broadcast vs ≡ broadcast ws → broadcast (broadcast us ++ vs) ≡ broadcast (us ++ ws)
    joined us vs ws same = cuts-early most_literals us vs ∙ (swap us vs ∙ (sym (cuts-early most_literals vs us) ∙ (ap (λ (es : List NumberedClause). broadcast (es ++ us)) same ∙ (cuts-early most_literals ws us ∙ swap ws us))))

-- what is broadcast of some entries is broadcast of itself
abbrev IsToldItself : List NumberedClause → Type 0
IsToldItself t = broadcast t ≡ t

told-itself : (es : List NumberedClause) → IsToldItself (prefix most_literals (union es))
told-itself es =
    let cut : List NumberedClause = prefix most_literals (union es) in
    ap broadcast (sym (append-nil cut)) ∙ (cuts-early most_literals es [] ∙ ap broadcast (append-nil es))

all-told : (exports : List (List NumberedClause)) → All IsToldItself (map broadcast exports)
all-told [] = All-nil IsToldItself
all-told (x ∷ xs) = All-cons IsToldItself (broadcast x) (map broadcast xs) (told-itself x) (all-told xs)

-- one step
once-length : (tops : List (List NumberedClause)) → length (climbed_once tops) ≡ length tops - 1
once-length tops = length-set (take (length tops - 1) tops) (above (length tops - 1)) (prefix most_literals (union (get_or tops (above (length tops - 1)) [] ++ get_or tops (length tops - 1) []))) ∙ length-take-le (length tops - 1) tops (omega arith)

once-told : (tops : List (List NumberedClause)) → 2 ≤ length tops → broadcast (entries_of (climbed_once tops)) ≡ broadcast (entries_of tops)
once-told tops some =
    let place : ℕ = above (length tops - 1) in
    let low : (length tops - 1 - 1) / 2 + 1 < length tops = omega arith in
    climb-last tops place (get_or tops place []) (get_or tops (length tops - 1) []) low (get_or_default tops place [] (get_or tops place []) (omega (arith, low))) (get_or_default tops (length tops - 1) [] (get_or tops (length tops - 1) []) (omega arith))

once-all : (tops : List (List NumberedClause)) → All IsToldItself tops → All IsToldItself (climbed_once tops)
once-all tops all = All-set IsToldItself (take (length tops - 1) tops) (above (length tops - 1)) _ (told-itself (get_or tops (above (length tops - 1)) [] ++ get_or tops (length tops - 1) [])) (All-take IsToldItself (length tops - 1) tops all)

-- all of them
climbed-length : (n : ℕ) (tops : List (List NumberedClause)) → length (climbed n tops) ≡ length tops - n
climbed-length zero tops = omega arith
climbed-length (suc n) tops = let rest : length (climbed n (climbed_once tops)) ≡ length (climbed_once tops) - n = climbed-length n (climbed_once tops) in omega (arith, rest, once-length tops)

climbed-told : (n : ℕ) (tops : List (List NumberedClause)) → n < length tops → broadcast (entries_of (climbed n tops)) ≡ broadcast (entries_of tops)
climbed-told zero tops low = refl
climbed-told (suc n) tops low = climbed-told n (climbed_once tops) (omega (arith, once-length tops)) ∙ once-told tops (omega arith)

climbed-all : (n : ℕ) (tops : List (List NumberedClause)) → All IsToldItself tops → All IsToldItself (climbed n tops)
climbed-all zero tops all = all
climbed-all (suc n) tops all = climbed-all n (climbed_once tops) (once-all tops all)

-- the one that is left
alone-told : (tops : List (List NumberedClause)) → length tops ≡ 1 → All IsToldItself tops → get_or tops 0 [] ≡ broadcast (entries_of tops)
alone-told [] one all = absurd (omega arith)
alone-told (t ∷ []) one all = sym (ap broadcast (append-nil t) ∙ All-head IsToldItself t [] all)
alone-told (t ∷ u ∷ us) one all = absurd (omega arith)

pub climbs-to_same : (exports : List (List NumberedClause)) → climbed_root exports ≡ broadcast (entries_of exports)
climbs-to_same [] = refl
climbs-to_same (x ∷ xs) =
    let tops : List (List NumberedClause) = map broadcast (x ∷ xs) in
    let n : ℕ = length (x ∷ xs) - 1 in
    let long : length tops ≡ length (x ∷ xs) = length-map (x ∷ xs) broadcast in
    alone-told (climbed n tops) (climbed-length n tops ∙ omega (arith, long)) (climbed-all n tops (all-told (x ∷ xs)))
    ∙ (climbed-told n tops (omega (arith, long)) ∙ node-by-node (x ∷ xs))
