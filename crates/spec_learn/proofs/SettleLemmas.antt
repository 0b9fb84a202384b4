use Rattle.std.proofs.Common.{◌≡◌, ℕ, ◌+◌, ◌<◌, ◌≤◌, max, Bool, true, false, cond, not, List, [], ◌∷◌, ◌++◌, length, take, drop, count_by, refl, sym, ap, ◌∙◌, subst, append_assoc, inl, inr, ◌⊎◌, arith}
use Rattle.std.specs.Prelude.{filter, ◌==◌, ◌||◌, nat_lt}
use Rattle.std.specs.List.{list_any, list_all}
use Rattle.std.proofs.lemmas.List.{take-append-drop}
use Rattle.std.proofs.lemmas.List.Folds.{list_all-append}
use Rattle.std.proofs.lemmas.Bool.{and_parts, and_from, or_left, or_right, eq-eqb, both_ways, false_from_ne_true, cases_lt}
use Rattle.mal_base.specs.Literals.{var_of, negated}
use Rattle.mal_base.specs.NumberedClause.{NumberedClause}
use Rattle.mal_base.specs.declared.trail_entry.TrailEntry.{TrailEntry}
use Rattle.spec_node.specs.Value.{is_true, is_false, has_value, level_of, open_count}
use Rattle.spec_node.specs.Batch.{batch, is_in_batch}
use Rattle.spec_node.specs.Sound.{EachAfter, IsPlaced, IsLevelled, IsClosed, left_is_true, own_level, level_in}
use Rattle.spec_node.proofs.TrailLemmas.{each-push, is_true-more, value-from_true}
use Rattle.spec_node.proofs.LevelLemmas.{level_in-le}
use Rattle.spec_node.proofs.ReasonLemmas.{batch-cases, IsStart, IsFallen}
use Rattle.spec_node.proofs.SettledLemmas.{open-none}
use Rattle.spec_learn.specs.Analysis.{put, clause_of, jump}
use Rattle.spec_learn.proofs.LogicLemmas.{negated-negated, put-any}
use Rattle.spec_learn.proofs.UipLemmas.{AreBetween}
use Rattle.spec_learn.proofs.PointLemmas.{AllOf, IsOn, count-put, level-front}

-- a test of all literals of a clause, and of one
put-list_all : (f : ℕ → Bool) (x : ℕ) (ls : List ℕ) → f x ≡ true → list_all f ls ≡ true → list_all f (put x ls) ≡ true
put-list_all f x [] p h = and_from _ _ p refl
put-list_all f x (m ∷ ms) p h =
    let parts = and_parts (f m) (list_all f ms) h in
    by_less (put-list_all f x ms p parts.1) parts.0 (nat_lt x m)
  where
    by_less : list_all f (put x ms) ≡ true → f m ≡ true → (b : Bool) → list_all f (cond b (x ∷ (m ∷ ms)) (m ∷ put x ms)) ≡ true
    by_less g q true = and_from _ _ p h
    by_less g q false = and_from _ _ q g

pub clause-list_all : (f : ℕ → Bool) (es : List TrailEntry) → AllOf (λ e. f (negated e.lit) ≡ true) es → list_all f (clause_of es) ≡ true
clause-list_all f [] h = refl
clause-list_all f (e ∷ es) h = put-list_all f (negated e.lit) (clause_of es) h.0 (clause-list_all f es h.1)

pub put-own : (x y : ℕ) (ls : List ℕ) → list_any (λ m. m == x) (put y ls) ≡ ((y == x) || list_any (λ m. m == x) ls)
put-own x y ls = put-any (λ (m : ℕ). m == x) y ls

pub clause-own : (es : List TrailEntry) (point : TrailEntry) → list_any (λ m. m == negated point.lit) (clause_of (es ++ point ∷ [])) ≡ true
clause-own [] point = or_left _ _ (eq-eqb (negated point.lit) (negated point.lit) refl)
clause-own (e ∷ es) point = put-own (negated point.lit) (negated e.lit) (clause_of (es ++ point ∷ [])) ∙ or_right _ _ (clause-own es point)

-- the point is open, and so is each entry of a level that is not reached
pub point-counts : (p : ℕ → Bool) (es : List TrailEntry) (point : TrailEntry) → p (negated point.lit) ≡ true → 1 ≤ count_by p (clause_of (es ++ point ∷ []))
point-counts p [] point q = let c : count_by p (put (negated point.lit) []) ≡ 1 + count_by p [] = count-put p (negated point.lit) [] ∙ ap (λ (b : Bool). cond {A = ℕ} b 1 0 + count_by p []) q in omega arith
point-counts p (e ∷ es) point q = let ih : 1 ≤ count_by p (clause_of (es ++ point ∷ [])) = point-counts p es point q in let c = count-put p (negated e.lit) (clause_of (es ++ point ∷ [])) in omega arith

two-count : (p : ℕ → Bool) (level k : ℕ) (es : List TrailEntry) (point : TrailEntry) → 1 ≤ k → point.level ≡ level → k ≤ jump level (es ++ point ∷ []) → AllOf (λ e. k ≤ e.level → p (negated e.lit) ≡ true) es → p (negated point.lit) ≡ true → 2 ≤ count_by p (clause_of (es ++ point ∷ []))
two-count p level k [] point l own h a q =
    let test : (point.level == level) ≡ true = eq-eqb point.level level own in
    let none : jump level (point ∷ []) ≡ 0 = ap (λ (b : Bool). max (cond {A = ℕ} b 0 point.level) 0) test in
    absurd (omega arith)
two-count p level k (e ∷ es) point l own h a q =
    by_order (λ m. two-count p level k es point l own m a.1 q) (cases_lt (jump level (es ++ point ∷ [])) k) (e.level == level) h
  where
    rest : count_by p (clause_of ((e ∷ es) ++ point ∷ [])) ≡ cond {A = ℕ} (p (negated e.lit)) 1 0 + count_by p (clause_of (es ++ point ∷ []))
    rest = count-put p (negated e.lit) (clause_of (es ++ point ∷ []))

    here : k ≤ e.level → 2 ≤ count_by p (clause_of ((e ∷ es) ++ point ∷ []))
    here m =
        let one : 1 ≤ count_by p (clause_of (es ++ point ∷ [])) = point-counts p es point q in
        let c : count_by p (clause_of ((e ∷ es) ++ point ∷ [])) ≡ 1 + count_by p (clause_of (es ++ point ∷ [])) = rest ∙ ap (λ (b : Bool). cond {A = ℕ} b 1 0 + count_by p (clause_of (es ++ point ∷ []))) (a.0 m) in
        omega arith

    by_order : (k ≤ jump level (es ++ point ∷ []) → 2 ≤ count_by p (clause_of (es ++ point ∷ []))) → (jump level (es ++ point ∷ []) < k) ⊎ (k ≤ jump level (es ++ point ∷ [])) → (b : Bool) → k ≤ max (cond {A = ℕ} b 0 e.level) (jump level (es ++ point ∷ [])) → 2 ≤ count_by p (clause_of ((e ∷ es) ++ point ∷ []))
    by_order f (inl m) true n = absurd (omega arith)
    by_order f (inl m) false n = here (omega arith)
    by_order f (inr m) b n = let ih : 2 ≤ count_by p (clause_of (es ++ point ∷ [])) = f m in let c : count_by p (clause_of ((e ∷ es) ++ point ∷ [])) ≡ cond {A = ℕ} (p (negated e.lit)) 1 0 + count_by p (clause_of (es ++ point ∷ [])) = rest in omega arith

-- an entry above the level that a front of its trail reaches is not in it
pub not-in-front : (variables : ℕ) (trail before rest : List TrailEntry) (e : TrailEntry) → before ++ rest ≡ trail → EachAfter IsLevelled [] before → IsOn variables trail e → level_of before < e.level → is_true before e.lit ≡ false
not-in-front variables trail before rest e whole h on l = false_from_ne_true (is_true before e.lit) (λ q.
    let valued : has_value before (var_of e.lit) ≡ true = value-from_true before e.lit (var_of e.lit) refl q in
    let own : level_in trail (var_of e.lit) ≡ e.level = on.level in
    let same : level_in trail (var_of e.lit) ≡ level_in before (var_of e.lit) = sym (ap (λ (t : List TrailEntry). level_in t (var_of e.lit)) whole) ∙ level-front before rest (var_of e.lit) valued in
    let high : level_in before (var_of e.lit) ≤ level_of before = level_in-le before (var_of e.lit) h in
    absurd (omega arith))

pub not-in-take : (q : ℕ) (before : List TrailEntry) (l : ℕ) → is_true before l ≡ false → is_true (take q before) l ≡ false
not-in-take q before l h = false_from_ne_true (is_true (take q before) l) (λ k. both_ways (is_true before l) h (subst (λ (t : List TrailEntry). is_true t l ≡ true) (take-append-drop q before) (is_true-more (take q before) (drop q before) l k)))

pub open-test : (p : List TrailEntry) (e : TrailEntry) → is_true p e.lit ≡ false → not (is_false p (negated e.lit)) ≡ true
open-test p e h = ap not (ap (is_true p) (negated-negated e.lit) ∙ h)

-- a clause with two open literals is in no batch
pub no-batch : (p : List TrailEntry) (c : NumberedClause) → 2 ≤ open_count p c.lits → is_in_batch p c ≡ false
no-batch p c h = by_case (is_in_batch p c) refl
  where
    by_cases : IsStart p c ⊎ IsFallen p c → ⊥
    by_cases (inl s) = let short : length c.lits ≤ 1 = s.short in let none : open_count [] c.lits ≡ length c.lits = open-none c.lits in let here : 2 ≤ open_count [] c.lits = subst (λ (t : List TrailEntry). 2 ≤ open_count t c.lits) s.empty h in omega arith
    by_cases (inr f) = let one : open_count p c.lits ≡ 1 = f.one in omega arith

    by_case : (b : Bool) → is_in_batch p c ≡ b → b ≡ false
    by_case true q = absurd (by_cases (batch-cases p c q))
    by_case false q = refl

pub batch-open : (p : List TrailEntry) (c : NumberedClause) → is_in_batch p c ≡ true → open_count p c.lits ≤ 1
batch-open p c h = by_case (batch-cases p c h)
  where
    by_case : IsStart p c ⊎ IsFallen p c → open_count p c.lits ≤ 1
    by_case (inl s) = let short : length c.lits ≤ 1 = s.short in let none : open_count [] c.lits ≡ length c.lits = open-none c.lits in subst (λ (t : List TrailEntry). open_count t c.lits ≤ 1) (sym s.empty) (omega arith)
    by_case (inr f) = let one : open_count p c.lits ≡ 1 = f.one in omega arith

-- one clause more
filter-more : (p : NumberedClause → Bool) (xs : List NumberedClause) (c : NumberedClause) → filter p (xs ++ c ∷ []) ≡ filter p xs ++ cond (p c) (c ∷ []) []
filter-more p [] c = by_test (p c)
  where
    by_test : (b : Bool) → cond b (c ∷ []) [] ≡ cond b (c ∷ []) []
    by_test b = refl
filter-more p (x ∷ xs) c = by_test (filter-more p xs c) (p x)
  where
    by_test : filter p (xs ++ c ∷ []) ≡ filter p xs ++ cond (p c) (c ∷ []) [] → (b : Bool) → cond b (x ∷ filter p (xs ++ c ∷ [])) (filter p (xs ++ c ∷ [])) ≡ cond b (x ∷ filter p xs) (filter p xs) ++ cond (p c) (c ∷ []) []
    by_test f true = ap (λ (ys : List NumberedClause). x ∷ ys) f
    by_test f false = f

pub batch-more : (f : NumberedClause → Bool) (prefix : List TrailEntry) (clauses : List NumberedClause) (c : NumberedClause) → list_all f (batch prefix clauses) ≡ true → (is_in_batch prefix c ≡ true → f c ≡ true) → list_all f (batch prefix (clauses ++ c ∷ [])) ≡ true
batch-more f prefix clauses c h g =
    ap (list_all f) (filter-more (is_in_batch prefix) clauses c) ∙ (list_all-append f (batch prefix clauses) (cond (is_in_batch prefix c) (c ∷ []) []) ∙ and_from _ _ h (by_test (is_in_batch prefix c) refl))
  where
    by_test : (b : Bool) → is_in_batch prefix c ≡ b → list_all f (cond b (c ∷ []) []) ≡ true
    by_test true q = and_from _ _ (g q) refl
    by_test false q = refl

-- what is known of a clause learned on a trail
pub record IsLearnedOn (variables : ℕ) (trail : List TrailEntry) (level : ℕ) (es : List TrailEntry) (point : TrailEntry) : Type 0 where
  pub between : AreBetween level es
  pub own : point.level ≡ level
  pub below : jump level (es ++ point ∷ []) < level
  pub reached : level ≡ level_of trail
  pub lows : AllOf (IsOn variables trail) es
  pub on : IsOn variables trail point
  pub placed : EachAfter (IsPlaced variables) [] trail
  pub levels : EachAfter IsLevelled [] trail

-- decisions that stay are closed with the new clause too
pub closed-more : (variables : ℕ) (trail : List TrailEntry) (level : ℕ) (es : List TrailEntry) (point : TrailEntry) (clauses : List NumberedClause) (id : ℕ) → IsLearnedOn variables trail level es point → (xs before rest : List TrailEntry) → (before ++ xs) ++ rest ≡ trail → EachAfter IsLevelled [] before → EachAfter IsLevelled before xs → AllOf (λ e. e.level ≤ jump level (es ++ point ∷ [])) xs → EachAfter (IsClosed clauses) before xs → EachAfter (IsClosed (clauses ++ record { id = id; lits = clause_of (es ++ point ∷ []) } ∷ [])) before xs
closed-more variables trail level es point clauses id k [] before rest whole hb h low c = tt
closed-more variables trail level es point clauses id k (x ∷ xs) before rest whole hb h low c =
    (here, closed-more variables trail level es point clauses id k xs (before ++ x ∷ []) rest (ap (λ (t : List TrailEntry). t ++ rest) (append_assoc before (x ∷ []) xs) ∙ whole) (each-push IsLevelled before [] x hb h.0) h.1 low.1 c.1)
  where
    new : NumberedClause
    new = record { id = id; lits = clause_of (es ++ point ∷ []) }

    front : before ++ ((x ∷ xs) ++ rest) ≡ trail
    front = sym (append_assoc before (x ∷ xs) rest) ∙ whole

    apart : (j : ℕ) (ys : List TrailEntry) → level_of before < j → AllOf (IsOn variables trail) ys → (q : ℕ) → AllOf (λ e. j ≤ e.level → not (is_false (take q before) (negated e.lit)) ≡ true) ys
    apart j [] l on q = tt
    apart j (y ∷ ys) l on q = ((λ m. open-test (take q before) y (not-in-take q before y.lit (not-in-front variables trail before ((x ∷ xs) ++ rest) y front hb on.0 (omega arith)))), apart j ys l on.1 q)

    here : IsClosed (clauses ++ new ∷ []) before x
    here none q l =
        let own : x.level ≡ level_of before + 1 = h.0 ∙ ap (own_level before) none in
        let high : x.level ≤ jump level (es ++ point ∷ []) = low.0 in
        let under : jump level (es ++ point ∷ []) < level = k.below in
        let pl : point.level ≡ level = k.own in
        let fell : level_of before < jump level (es ++ point ∷ []) = omega arith in
        let two : 2 ≤ open_count (take q before) (clause_of (es ++ point ∷ [])) = two-count (λ m. not (is_false (take q before) m)) level (jump level (es ++ point ∷ [])) es point (omega arith) k.own (omega arith) (apart (jump level (es ++ point ∷ [])) es fell k.lows q) (open-test (take q before) point (not-in-take q before point.lit (not-in-front variables trail before ((x ∷ xs) ++ rest) point front hb k.on (omega arith)))) in
        batch-more (left_is_true (take q before) before) (take q before) clauses new (c.0 none q l) (λ m. absurd (both_ways (is_in_batch (take q before) new) (no-batch (take q before) new two) m))
