use Rattle.std.proofs.Common.{◌≡◌, ℕ, ◌+◌, ◌<◌, ◌≤◌, max, Bool, true, false, cond, not, List, [], ◌∷◌, ◌++◌, reverse, count_by, Option, Some, None, refl, sym, ap, ◌∙◌, subst, append_assoc, arith}
use Rattle.std.specs.Prelude.{All, find, ◌==◌, ◌||◌, nat_lt, nat_le}
use Rattle.std.specs.Option.{option_map_or}
use Rattle.std.proofs.lemmas.List.{reverse-append}
use Rattle.std.proofs.lemmas.List.Elements.{All-head, All-tail}
use Rattle.std.proofs.lemmas.List.Folds.{list_any-append}
use Rattle.std.proofs.lemmas.List.Sums.{sum_by-cons}
use Rattle.std.proofs.lemmas.Bool.{and_from, or_left, or_right, eq-eqb, eqb-true, ne_eqb, both_ways, le-leb, lt-leb, leb-true, false_from_ne_true}
use Rattle.mal_base.specs.Literals.{var_of, negated}
use Rattle.mal_base.specs.NumberedClause.{NumberedClause}
use Rattle.mal_base.specs.declared.trail_entry.TrailEntry.{TrailEntry}
use Rattle.spec_node.specs.Value.{is_true, is_false, has_value, level_of}
use Rattle.spec_node.specs.Cut.{kept, removed}
use Rattle.spec_node.specs.Sound.{EachAfter, IsPlaced, IsLevelled, own_level, level_in}
use Rattle.spec_node.proofs.TrailLemmas.{each-front, each-at, value-from_true}
use Rattle.spec_node.proofs.SoundLemmas.{kept-level}
use Rattle.spec_node.proofs.LevelLemmas.{levels-high, level_in-le, level_in-behind}
use Rattle.spec_node.proofs.CutLemmas.{kept-cons, kept-front}
use Rattle.spec_node.proofs.SettledLemmas.{var_of-negated}
use Rattle.spec_learn.specs.Analysis.{Walk, Aim, has_var, vars_in, keeping, resolving, is_left, is_resolved, after_seen, after_entry, walked, put, clause_of, jump}
use Rattle.spec_learn.proofs.LogicLemmas.{negated-negated}
use Rattle.spec_learn.proofs.UipLemmas.{AreBetween}

-- what holds of each entry of a list
abbrev pub AllOf : (TrailEntry → Type 0) → List TrailEntry → Type 0
AllOf Q [] = Unit {0}
AllOf Q (e ∷ es) = Q e × AllOf Q es

pub allof-append : (Q : TrailEntry → Type 0) (xs ys : List TrailEntry) → AllOf Q xs → AllOf Q ys → AllOf Q (xs ++ ys)
allof-append Q [] ys h k = k
allof-append Q (x ∷ xs) ys h k = (h.0, allof-append Q xs ys h.1 k)

pub allof-front : (Q : TrailEntry → Type 0) (xs ys : List TrailEntry) → AllOf Q (xs ++ ys) → AllOf Q xs
allof-front Q [] ys h = tt
allof-front Q (x ∷ xs) ys h = (h.0, allof-front Q xs ys h.1)

pub allof-back : (Q : TrailEntry → Type 0) (xs ys : List TrailEntry) → AllOf Q (xs ++ ys) → AllOf Q ys
allof-back Q [] ys h = h
allof-back Q (x ∷ xs) ys h = allof-back Q xs ys h.1

pub allof-reverse : (Q : TrailEntry → Type 0) (xs : List TrailEntry) → AllOf Q xs → AllOf Q (reverse xs)
allof-reverse Q [] h = tt
allof-reverse Q (x ∷ xs) h = subst (AllOf Q) (sym (reverse-append (x ∷ []) xs)) (allof-append Q (reverse xs) (x ∷ []) (allof-reverse Q xs h.1) (h.0, tt))

-- what holds of an entry wherever it stands
allof-split : (Q : TrailEntry → Type 0) (front es : List TrailEntry) → ((xs : List TrailEntry) (e : TrailEntry) (ys : List TrailEntry) → front ++ es ≡ xs ++ e ∷ ys → Q e) → AllOf Q es
allof-split Q front [] f = tt
allof-split Q front (e ∷ es) f = (f front e es refl, allof-split Q (front ++ e ∷ []) es (λ xs x ys q. f xs x ys (sym (append_assoc front (e ∷ []) es) ∙ q)))

-- what holds of the entries of a trail holds of those that a walk keeps
pub allof-kept : (Q : TrailEntry → Type 0) (aim : Aim) (clauses : List NumberedClause) (past : List TrailEntry) (w : Walk) → AllOf Q past → AllOf Q w.kept → AllOf Q (walked aim clauses past w).kept
allof-kept Q aim clauses [] w g h = h
allof-kept Q aim clauses (e ∷ past) w g h = allof-kept Q aim clauses past (after_entry aim clauses e past w) g.1 (by_seen (has_var w.seen (var_of e.lit)))
  where
    by_resolved : (r : ℕ) (b : Bool) → AllOf Q (cond b (resolving clauses r w) (keeping e w)).kept
    by_resolved r true = h
    by_resolved r false = (g.0, h)

    by_reason : (o : Option ℕ) → AllOf Q (option_map_or (λ r. cond (is_resolved aim e w.seen past) (resolving clauses r w) (keeping e w)) o (keeping e w)).kept
    by_reason None = (g.0, h)
    by_reason (Some r) = by_resolved r (is_resolved aim e w.seen past)

    by_seen : (b : Bool) → AllOf Q (cond b (after_seen aim clauses e past w) w).kept
    by_seen true = by_reason e.reason
    by_seen false = h

-- an entry of a trail has the level of its variable, and stands in each cut to its level or above alone
pub record IsOn (variables : ℕ) (trail : List TrailEntry) (e : TrailEntry) : Type 0 where
  pub low : 1 ≤ var_of e.lit
  pub high : var_of e.lit ≤ variables
  pub level : level_in trail (var_of e.lit) ≡ e.level
  pub cut : (j : ℕ) → is_true (kept j trail) e.lit ≡ nat_le e.level j

own-level : (variables : ℕ) (xs : List TrailEntry) (e : TrailEntry) (ys : List TrailEntry) → EachAfter (IsPlaced variables) [] (xs ++ e ∷ ys) → level_in (xs ++ e ∷ ys) (var_of e.lit) ≡ e.level
own-level variables xs e ys h =
    let free : has_value xs (var_of e.lit) ≡ false = (each-at (IsPlaced variables) xs e ys [] h).free in
    let here : (var_of e.lit == var_of e.lit) ≡ true = eq-eqb (var_of e.lit) (var_of e.lit) refl in
    level_in-behind xs (e ∷ ys) (var_of e.lit) free ∙ rw here refl

-- a cut takes the front whose levels it reaches
pub kept-through : (j : ℕ) (xs zs : List TrailEntry) → All (λ x. x.level ≤ j) xs → kept j (xs ++ zs) ≡ xs ++ kept j zs
kept-through j [] zs h = refl
kept-through j (x ∷ xs) zs h =
    let low : nat_le x.level j ≡ true = le-leb x.level j (All-head (λ y. y.level ≤ j) x xs h) in
    kept-cons j x (xs ++ zs) ∙ rw low (ap (λ (ys : List TrailEntry). x ∷ ys) (kept-through j xs zs (All-tail (λ y. y.level ≤ j) x xs h)))

-- the level of a variable in front
pub level-front : (xs ys : List TrailEntry) (v : ℕ) → has_value xs v ≡ true → level_in (xs ++ ys) v ≡ level_in xs v
level-front [] ys v h = absurd (cc)
level-front (x ∷ xs) ys v h = by_here (level-front xs ys v) (v == var_of x.lit) h
  where
    by_here : (has_value xs v ≡ true → level_in (xs ++ ys) v ≡ level_in xs v) → (b : Bool) → (b || has_value xs v) ≡ true → option_map_or (λ (e : TrailEntry). e.level) (cond b (Some x) (find (λ e. v == var_of e.lit) (xs ++ ys))) 0 ≡ option_map_or (λ (e : TrailEntry). e.level) (cond b (Some x) (find (λ e. v == var_of e.lit) xs)) 0
    by_here f true k = refl
    by_here f false k = f k

cut-has : (variables j : ℕ) (xs : List TrailEntry) (e : TrailEntry) (ys : List TrailEntry) → EachAfter (IsPlaced variables) [] (xs ++ e ∷ ys) → EachAfter IsLevelled [] (xs ++ e ∷ ys) → is_true (kept j (xs ++ e ∷ ys)) e.lit ≡ nat_le e.level j
cut-has variables j xs e ys p h = by_level (nat_le e.level j) refl
  where
    trail : List TrailEntry
    trail = xs ++ e ∷ ys

    above : level_of xs ≤ e.level
    above = by_reason e.reason refl
      where
        by_reason : (o : Option ℕ) → e.reason ≡ o → level_of xs ≤ e.level
        by_reason None q = let u : e.level ≡ level_of xs + 1 = each-at IsLevelled xs e ys [] h ∙ ap (own_level xs) q in omega arith
        by_reason (Some r) q = let u : e.level ≡ level_of xs = each-at IsLevelled xs e ys [] h ∙ ap (own_level xs) q in omega arith

    fronts : e.level ≤ j → All (λ x. x.level ≤ j) xs
    fronts l k d m = let a : level_of xs ≤ e.level = above in let u = levels-high xs [] (each-front IsLevelled xs (e ∷ ys) [] h) k d m in omega arith

    by_level : (b : Bool) → nat_le e.level j ≡ b → is_true (kept j (xs ++ e ∷ ys)) e.lit ≡ b
    by_level true q =
        let low : e.level ≤ j = leb-true e.level j q in
        let is : kept j (xs ++ e ∷ ys) ≡ xs ++ (e ∷ kept j ys) = kept-through j xs (e ∷ ys) (fronts low) ∙ ap (λ (zs : List TrailEntry). xs ++ zs) (kept-cons j e ys ∙ ap (λ (b : Bool). cond b (e ∷ kept j ys) []) q) in
        ap (λ (zs : List TrailEntry). is_true zs e.lit) is ∙ (list_any-append (λ x. x.lit == e.lit) xs (e ∷ kept j ys) ∙ or_right _ _ (or_left _ _ (eq-eqb e.lit e.lit refl)))
    by_level false q = false_from_ne_true (is_true (kept j (xs ++ e ∷ ys)) e.lit) (λ k.
        let valued : has_value (kept j (xs ++ e ∷ ys)) (var_of e.lit) ≡ true = value-from_true (kept j (xs ++ e ∷ ys)) e.lit (var_of e.lit) refl k in
        let whole : kept j (xs ++ e ∷ ys) ++ removed j (xs ++ e ∷ ys) ≡ xs ++ e ∷ ys = kept-front j (xs ++ e ∷ ys) in
        let same : level_in (xs ++ e ∷ ys) (var_of e.lit) ≡ level_in (kept j (xs ++ e ∷ ys)) (var_of e.lit) = sym (ap (λ (t : List TrailEntry). level_in t (var_of e.lit)) whole) ∙ level-front (kept j (xs ++ e ∷ ys)) (removed j (xs ++ e ∷ ys)) (var_of e.lit) valued in
        let own : level_in (xs ++ e ∷ ys) (var_of e.lit) ≡ e.level = own-level variables xs e ys p in
        let high : level_in (kept j (xs ++ e ∷ ys)) (var_of e.lit) ≤ level_of (kept j (xs ++ e ∷ ys)) = level_in-le (kept j (xs ++ e ∷ ys)) (var_of e.lit) (each-front IsLevelled (kept j (xs ++ e ∷ ys)) (removed j (xs ++ e ∷ ys)) [] (subst (λ (t : List TrailEntry). EachAfter IsLevelled [] t) (sym whole) h)) in
        let low : level_of (kept j (xs ++ e ∷ ys)) ≤ j = kept-level j (xs ++ e ∷ ys) [] (omega arith) in
        both_ways (nat_le e.level j) q (le-leb e.level j (omega arith)))

-- each entry of a trail is on it, latest first
pub all-on : (variables : ℕ) (trail : List TrailEntry) → EachAfter (IsPlaced variables) [] trail → EachAfter IsLevelled [] trail → AllOf (IsOn variables trail) (reverse trail)
all-on variables trail p h = allof-reverse (IsOn variables trail) trail (allof-split (IsOn variables trail) [] trail (λ xs e ys q.
    let ps : EachAfter (IsPlaced variables) [] (xs ++ e ∷ ys) = subst (λ (t : List TrailEntry). EachAfter (IsPlaced variables) [] t) q p in
    let hs : EachAfter IsLevelled [] (xs ++ e ∷ ys) = subst (λ (t : List TrailEntry). EachAfter IsLevelled [] t) q h in
    let place : IsPlaced variables xs e = each-at (IsPlaced variables) xs e ys [] ps in
    record {
      low = place.low;
      high = place.high;
      level = subst (λ (t : List TrailEntry). level_in t (var_of e.lit) ≡ e.level) (sym q) (own-level variables xs e ys ps);
      cut = λ j. subst (λ (t : List TrailEntry). is_true (kept j t) e.lit ≡ nat_le e.level j) (sym q) (cut-has variables j xs e ys ps hs);
    }))

-- counts over a clause
pub count-put : (p : ℕ → Bool) (x : ℕ) (ls : List ℕ) → count_by p (put x ls) ≡ cond {A = ℕ} (p x) 1 0 + count_by p ls
count-put p x [] = sum_by-cons (λ y. cond {A = ℕ} (p y) 1 0) x []
count-put p x (m ∷ ms) = by_less (count-put p x ms) (nat_lt x m)
  where
    by_less : count_by p (put x ms) ≡ cond {A = ℕ} (p x) 1 0 + count_by p ms → (b : Bool) → count_by p (cond b (x ∷ (m ∷ ms)) (m ∷ put x ms)) ≡ cond {A = ℕ} (p x) 1 0 + count_by p (m ∷ ms)
    by_less f true = sum_by-cons (λ y. cond {A = ℕ} (p y) 1 0) x (m ∷ ms)
    by_less f false =
        let a : count_by p (m ∷ put x ms) ≡ cond {A = ℕ} (p m) 1 0 + count_by p (put x ms) = sum_by-cons (λ y. cond {A = ℕ} (p y) 1 0) m (put x ms) in
        let b : count_by p (m ∷ ms) ≡ cond {A = ℕ} (p m) 1 0 + count_by p ms = sum_by-cons (λ y. cond {A = ℕ} (p y) 1 0) m ms in
        omega arith

count-none : (p : ℕ → Bool) (es : List TrailEntry) (point : TrailEntry) → AllOf (λ e. p (negated e.lit) ≡ false) es → p (negated point.lit) ≡ true → count_by p (clause_of (es ++ point ∷ [])) ≡ 1
count-none p [] point h q = count-put p (negated point.lit) [] ∙ rw q refl
count-none p (e ∷ es) point h q =
    let ih : count_by p (clause_of (es ++ point ∷ [])) ≡ 1 = count-none p es point h.1 q in
    count-put p (negated e.lit) (clause_of (es ++ point ∷ [])) ∙ rw (h.0, ih) refl

-- a literal of the current level is left of a clause that has one
pub left-one : (trail : List TrailEntry) (level : ℕ) (seen : List ℕ) (v : ℕ) → 0 < level → level_in trail v ≡ level → has_var seen v ≡ true → is_left level seen trail ≡ true
left-one [] level seen v some q h = absurd (omega arith)
left-one (e ∷ es) level seen v some q h = by_here (left-one es level seen v some) (v == var_of e.lit) refl q
  where
    by_here : (level_in es v ≡ level → has_var seen v ≡ true → is_left level seen es ≡ true) → (b : Bool) → (v == var_of e.lit) ≡ b → option_map_or (λ (x : TrailEntry). x.level) (cond b (Some e) (find (λ x. v == var_of x.lit) es)) 0 ≡ level → is_left level seen (e ∷ es) ≡ true
    by_here f true k m = or_left _ _ (and_from _ _ (eq-eqb e.level level m) (subst (λ (x : ℕ). has_var seen x ≡ true) (eqb-true v (var_of e.lit) k) h))
    by_here f false k m = or_right _ _ (f m h)

pub left-counted : (trail : List TrailEntry) (level : ℕ) (seen lits : List ℕ) → 0 < level → ((v : ℕ) → has_var (vars_in lits) v ≡ true → has_var seen v ≡ true) → 1 ≤ count_by (λ l. level_in trail (var_of l) == level) lits → is_left level seen trail ≡ true
left-counted trail level seen [] some f c = absurd (omega arith)
left-counted trail level seen (l ∷ ls) some f c = by_here (left-counted trail level seen ls some (λ v k. f v (or_right _ _ k))) (level_in trail (var_of l) == level) refl (sum_by-cons (λ x. cond {A = ℕ} (level_in trail (var_of x) == level) 1 0) l ls)
  where
    by_here : (1 ≤ count_by (λ (x : ℕ). level_in trail (var_of x) == level) ls → is_left level seen trail ≡ true) → (b : Bool) → (level_in trail (var_of l) == level) ≡ b → count_by (λ (x : ℕ). level_in trail (var_of x) == level) (l ∷ ls) ≡ cond {A = ℕ} b 1 0 + count_by (λ (x : ℕ). level_in trail (var_of x) == level) ls → is_left level seen trail ≡ true
    by_here g true q e = left-one trail level seen (var_of l) some (eqb-true (level_in trail (var_of l)) level q) (f (var_of l) (or_left _ _ (eq-eqb (var_of l) (var_of l) refl)))
    by_here g false q e = g (omega arith)

-- one literal of the current level
pub current-one : (variables : ℕ) (trail : List TrailEntry) (low : List TrailEntry) (point : TrailEntry) (level : ℕ) → AreBetween level low → point.level ≡ level → AllOf (IsOn variables trail) low → IsOn variables trail point → count_by (λ l. level_in trail (var_of l) == level) (clause_of (low ++ point ∷ [])) ≡ 1
current-one variables trail low point level b q hs h =
    count-none (λ l. level_in trail (var_of l) == level) low point (others low b hs) (eq-eqb (level_in trail (var_of (negated point.lit))) level (ap (level_in trail) (var_of-negated point.lit) ∙ (h.level ∙ q)))
  where
    others : (es : List TrailEntry) → AreBetween level es → AllOf (IsOn variables trail) es → AllOf (λ e. (level_in trail (var_of (negated e.lit)) == level) ≡ false) es
    others [] b hs = tt
    others (e ∷ es) b hs = (ne_eqb (level_in trail (var_of (negated e.lit))) level (λ m. let own : level_in trail (var_of (negated e.lit)) ≡ e.level = ap (level_in trail) (var_of-negated e.lit) ∙ hs.0.level in let u : e.level < level = b.1 in absurd (omega arith)), others es b.2 hs.1)

-- each level below the current one is at most the level to jump to
pub jump-reaches : (level : ℕ) (es : List TrailEntry) (point : TrailEntry) → AreBetween level es → AllOf (λ e. e.level ≤ jump level (es ++ point ∷ [])) es
jump-reaches level [] point b = tt
jump-reaches level (e ∷ es) point b =
    let other : (e.level == level) ≡ false = ne_eqb e.level level (λ q. let u : e.level < level = b.1 in absurd (omega arith)) in
    let is : jump level ((e ∷ es) ++ point ∷ []) ≡ max e.level (jump level (es ++ point ∷ [])) = ap (λ (c : Bool). max (cond c 0 e.level) (jump level (es ++ point ∷ []))) other in
    subst (λ (k : ℕ). AllOf (λ x. x.level ≤ k) (e ∷ es)) (sym is) ((omega arith), higher e.level (jump level (es ++ point ∷ [])) es (jump-reaches level es point b.2))
  where
    higher : (m k : ℕ) (xs : List TrailEntry) → AllOf (λ x. x.level ≤ k) xs → AllOf (λ x. x.level ≤ max m k) xs
    higher m k [] h = tt
    higher m k (x ∷ xs) h = (let u : x.level ≤ k = h.0 in omega arith, higher m k xs h.1)

-- after the jump one literal is left
pub unit-after : (variables : ℕ) (trail : List TrailEntry) (low : List TrailEntry) (point : TrailEntry) (level : ℕ) → AreBetween level low → point.level ≡ level → jump level (low ++ point ∷ []) < level → AllOf (IsOn variables trail) low → IsOn variables trail point → count_by (λ l. not (is_false (kept (jump level (low ++ point ∷ [])) trail) l)) (clause_of (low ++ point ∷ [])) ≡ 1
unit-after variables trail low point level b q below hs h =
    count-none (λ l. not (is_false (kept (jump level (low ++ point ∷ [])) trail) l)) low point (others (jump level (low ++ point ∷ [])) low (jump-reaches level low point b) hs)
    (ap not (ap (is_true (kept (jump level (low ++ point ∷ [])) trail)) (negated-negated point.lit) ∙ (h.cut (jump level (low ++ point ∷ [])) ∙ lt-leb point.level (jump level (low ++ point ∷ [])) (omega arith))))
  where
    others : (j : ℕ) (es : List TrailEntry) → AllOf (λ e. e.level ≤ j) es → AllOf (IsOn variables trail) es → AllOf (λ e. not (is_false (kept j trail) (negated e.lit)) ≡ false) es
    others j [] ls hs = tt
    others j (e ∷ es) ls hs = (ap not (ap (is_true (kept j trail)) (negated-negated e.lit) ∙ (hs.0.cut j ∙ le-leb e.level j ls.0)), others j es ls.1 hs.1)
