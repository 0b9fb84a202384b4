use Rattle.std.proofs.Common.{◌≡◌, ℕ, ◌+◌, ◌-◌, ◌<◌, ◌≤◌, Bool, true, false, cond, not, ◌||◌, List, [], ◌∷◌, ◌++◌, length, take, get_or, Some, None, Option, is_some, refl, sym, ap, ◌∙◌, subst, append_assoc, arith, inl, inr, ◌⊎◌}
use Rattle.std.specs.Prelude.{All, Contains, ◌==◌, nat_lt, ◌&&◌}
use Rattle.std.specs.List.{list_all, list_any}
use Rattle.std.proofs.lemmas.List.{take_more, take_all}
use Rattle.std.proofs.lemmas.List.Elements.{All-head, All-tail}
use Rattle.std.proofs.lemmas.List.Folds.{list_any-append}
use Rattle.std.proofs.lemmas.Bool.{and_parts, and_from, or_parts, or_left, or_right, eq-eqb, eqb-true, ltb-true, leb-true, both_ways, ne_eqb, true_from_ne_false, not-true, not-false, false_from_ne_true}
use Rattle.mal_base.specs.Literals.{var_of, negated}
use Rattle.mal_base.specs.declared.trail_entry.TrailEntry.{TrailEntry}
use Rattle.mal_base.specs.NumberedClause.{NumberedClause}
use Rattle.spec_node.specs.Value.{is_true, is_false, has_value, level_of, open_count, left_literal}
use Rattle.spec_node.specs.Batch.{Progress, is_in_batch, before_last, after_left, after_clause, after_all}
use Rattle.spec_node.specs.Sound.{EachAfter, IsPlaced, IsLevelled, IsForced, IsReason, IsConflict, IsWaiting, AreLiteralsOf, level_in, greatest_level, current_count}
use Rattle.spec_node.proofs.TrailLemmas.{each-push, each-at, is_true-more, free_from_open, value-from_true}
use Rattle.spec_node.proofs.BatchLemmas.{PushKeeps, forced, after_clause-keeps, Extends, extends-push}
use Rattle.spec_node.proofs.CutLemmas.{level_of-push}
use Rattle.spec_node.proofs.FindLemmas.{find-passes, find-none}
use Rattle.spec_node.proofs.SettledLemmas.{open-cons, open-none, same-false, no-entry, count_of, var_of-negated}
use Rattle.spec_node.proofs.LevelLemmas.{each-behind, levels-low, level_in-le, level_in-behind, level_in-from, greatest-le, greatest-from, count-two, count-none, found-in, found-alone}

-- an entry that makes none of a clause's literals false
open-unhit : (t : List TrailEntry) (e : TrailEntry) (lits : List ℕ) → list_any (λ m. e.lit == negated m) lits ≡ false → open_count (t ++ e ∷ []) lits ≡ open_count t lits
open-unhit t e [] h = refl
open-unhit t e (l ∷ ls) h =
    let parts = or_parts (e.lit == negated l) (list_any (λ m. e.lit == negated m) ls) h in
    let one : count_of (t ++ e ∷ []) l ≡ count_of t l = ap (λ (b : Bool). cond {A = ℕ} (not b) 1 0) (same-false t e l parts.0) in
    let rest : open_count (t ++ e ∷ []) ls ≡ open_count t ls = open-unhit t e ls parts.1 in
    let u = open-cons t l ls in
    let w = open-cons (t ++ e ∷ []) l ls in
    omega arith

-- a clause in the batch of the empty prefix
pub record IsStart (prefix : List TrailEntry) (c : NumberedClause) : Type 0 where
  pub empty : prefix ≡ []
  pub short : length c.lits ≤ 1

-- a clause in the batch of a prefix whose last entry makes one of its literals false
pub record IsFallen (prefix : List TrailEntry) (c : NumberedClause) : Type 0 where
  pub front : List TrailEntry
  pub last : TrailEntry
  pub is : prefix ≡ front ++ last ∷ []
  pub one : open_count prefix c.lits ≡ 1
  pub hit : list_any (λ m. last.lit == negated m) c.lits ≡ true

-- the test of a prefix that is not empty
full-test : (x : TrailEntry) (xs : List TrailEntry) (c : NumberedClause) → is_in_batch (x ∷ xs) c ≡ true → ((open_count (x ∷ xs) c.lits == 1) && nat_lt 1 (open_count (before_last (x ∷ xs)) c.lits)) ≡ true
full-test x xs c h = let some : (length (x ∷ xs) == 0) ≡ false = ne_eqb (length (x ∷ xs)) 0 (λ q. absurd (omega arith)) in rw some at h

fallen-from : (prefix : List TrailEntry) (c : NumberedClause) → 0 < length prefix → ((open_count prefix c.lits == 1) ≡ true) × (nat_lt 1 (open_count (before_last prefix) c.lits) ≡ true) → IsFallen prefix c
fallen-from prefix c some h =
    let front : List TrailEntry = before_last prefix in
    let last : TrailEntry = get_or prefix (length prefix - 1) no-entry in
    let whole : take (length prefix - 1 + 1) prefix ≡ prefix = take_all (length prefix - 1 + 1) prefix (omega arith) in
    let is : prefix ≡ front ++ last ∷ [] = sym whole ∙ take_more prefix (length prefix - 1) no-entry (omega arith) in
    let one : open_count prefix c.lits ≡ 1 = eqb-true (open_count prefix c.lits) 1 h.0 in
    let more : 1 < open_count front c.lits = ltb-true 1 (open_count front c.lits) h.1 in
    let fell : open_count (front ++ last ∷ []) c.lits ≡ 1 = subst (λ (t : List TrailEntry). open_count t c.lits ≡ 1) is one in
    record { front = front; last = last; is = is; one = one; hit = true_from_ne_false (list_any (λ m. last.lit == negated m) c.lits) (λ q. let same : open_count (front ++ last ∷ []) c.lits ≡ open_count front c.lits = open-unhit front last c.lits q in absurd (omega arith)) }

pub batch-cases : (prefix : List TrailEntry) (c : NumberedClause) → is_in_batch prefix c ≡ true → IsStart prefix c ⊎ IsFallen prefix c
batch-cases [] c h = inl (record { empty = refl; short = leb-true (length c.lits) 1 h })
batch-cases (x ∷ xs) c h = inr (fallen-from (x ∷ xs) c (omega arith) (and_parts (open_count (x ∷ xs) c.lits == 1) (nat_lt 1 (open_count (before_last (x ∷ xs)) c.lits)) (full-test x xs c h)))

-- what a batch keeps while its clauses are handled
pub record IsGoing (variables : ℕ) (clauses : List NumberedClause) (prefix t : List TrailEntry) : Type 0 where
  pub extends : Extends prefix t
  pub placed : EachAfter (IsPlaced variables) [] t
  pub levels : EachAfter IsLevelled [] t
  pub reached : level_of prefix ≡ level_of t
  pub reasons : EachAfter (IsForced clauses) [] t

-- a clause held, of the batch of a prefix
pub record IsOfBatch (variables : ℕ) (clauses : List NumberedClause) (prefix : List TrailEntry) (c : NumberedClause) : Type 0 where
  pub held : Contains clauses c
  pub literals : AreLiteralsOf variables c.lits
  pub batch : is_in_batch prefix c ≡ true

-- a clause of a batch has at most one literal that is not false
batch-open : (prefix : List TrailEntry) (c : NumberedClause) → is_in_batch prefix c ≡ true → open_count prefix c.lits ≤ 1
batch-open prefix c h = by_case (batch-cases prefix c h)
  where
    by_case : IsStart prefix c ⊎ IsFallen prefix c → open_count prefix c.lits ≤ 1
    by_case (inl s) = let short : length c.lits ≤ 1 = s.short in let u = open-none c.lits in subst (λ (t : List TrailEntry). open_count t c.lits ≤ 1) (sym s.empty) (omega arith)
    by_case (inr f) = let one : open_count prefix c.lits ≡ 1 = f.one in omega arith

-- the literal that fell last has the level of the prefix
hit-level : (variables : ℕ) (front rest : List TrailEntry) (last : TrailEntry) (v : ℕ) → EachAfter (IsPlaced variables) [] (front ++ last ∷ rest) → v ≡ var_of last.lit → level_in (front ++ last ∷ rest) v ≡ last.level
hit-level variables front rest last v h q =
    let free : has_value front (var_of last.lit) ≡ false = (each-at (IsPlaced variables) front last rest [] h).free in
    let here : (v == var_of last.lit) ≡ true = eq-eqb v (var_of last.lit) q in
    level_in-behind front (last ∷ rest) v (subst (λ (x : ℕ). has_value front x ≡ false) (sym q) free) ∙ rw here refl

pub fallen-level : (variables : ℕ) (clauses : List NumberedClause) (prefix t : List TrailEntry) (c : NumberedClause) (g : IsGoing variables clauses prefix t) (f : IsFallen prefix c) → (m : ℕ) → (f.last.lit == negated m) ≡ true → level_in t (var_of m) ≡ level_of t
fallen-level variables clauses prefix t c g f m h =
    let whole : t ≡ f.front ++ f.last ∷ g.extends.rest = g.extends.is ∙ (ap (λ (p : List TrailEntry). p ++ g.extends.rest) f.is ∙ append_assoc f.front (f.last ∷ []) g.extends.rest) in
    let var : var_of m ≡ var_of f.last.lit = sym (ap var_of (eqb-true f.last.lit (negated m) h) ∙ var_of-negated m) in
    let level : level_in t (var_of m) ≡ f.last.level = subst (λ (u : List TrailEntry). level_in u (var_of m) ≡ f.last.level) (sym whole) (hit-level variables f.front g.extends.rest f.last (var_of m) (subst (λ (u : List TrailEntry). EachAfter (IsPlaced variables) [] u) whole g.placed) var) in
    level ∙ (sym (level_of-push f.front f.last) ∙ (ap level_of (sym f.is) ∙ g.reached))

-- the greatest level of a clause of the batch is the one reached
batch-level : (variables : ℕ) (clauses : List NumberedClause) (prefix t : List TrailEntry) (c : NumberedClause) → IsGoing variables clauses prefix t → is_in_batch prefix c ≡ true → greatest_level t c.lits ≡ level_of t
batch-level variables clauses prefix t c g h = by_case (batch-cases prefix c h)
  where
    top : greatest_level t c.lits ≤ level_of t
    top = greatest-le t c.lits g.levels

    by_case : IsStart prefix c ⊎ IsFallen prefix c → greatest_level t c.lits ≡ level_of t
    by_case (inl s) = let high : greatest_level t c.lits ≤ level_of t = top in let zero_level : level_of t ≡ 0 = sym g.reached ∙ ap level_of s.empty in omega arith
    by_case (inr f) = let high : greatest_level t c.lits ≤ level_of t = top in let low : level_of t ≤ greatest_level t c.lits = greatest-from t (λ m. f.last.lit == negated m) (level_of t) (λ m k. let e : level_in t (var_of m) ≡ level_of t = fallen-level variables clauses prefix t c g f m k in omega arith) c.lits f.hit in omega arith

false-more : (prefix t : List TrailEntry) (m : ℕ) → Extends prefix t → is_false prefix m ≡ true → is_false t m ≡ true
false-more prefix t m x h = subst (λ (u : List TrailEntry). is_false u m ≡ true) (sym x.is) (is_true-more prefix x.rest (negated m) h)

others-false : (prefix t : List TrailEntry) (l : ℕ) (lits : List ℕ) → Extends prefix t → All (λ m. (m ≡ l) ⊎ (not (is_false prefix m) ≡ false)) lits → list_all (λ m. (m == l) || is_false t m) lits ≡ true
others-false prefix t l [] x h = refl
others-false prefix t l (m ∷ ms) x h = and_from _ _ (by_case (All-head (λ y. (y ≡ l) ⊎ (not (is_false prefix y) ≡ false)) m ms h)) (others-false prefix t l ms x (All-tail (λ y. (y ≡ l) ⊎ (not (is_false prefix y) ≡ false)) m ms h))
  where
    by_case : (m ≡ l) ⊎ (not (is_false prefix m) ≡ false) → ((m == l) || is_false t m) ≡ true
    by_case (inl q) = or_left _ _ (eq-eqb m l q)
    by_case (inr q) = or_right _ _ (false-more prefix t m x (not-false (is_false prefix m) q))

-- the clause of a push is its reason
push-reason : (variables : ℕ) (clauses : List NumberedClause) (prefix t : List TrailEntry) (c : NumberedClause) (l : ℕ) → IsGoing variables clauses prefix t → is_in_batch prefix c ≡ true → left_literal prefix c.lits ≡ Some l → IsReason t (forced l c.id t) c
push-reason variables clauses prefix t c l g b e = record {
  own = found-in (λ x. not (is_false prefix x)) c.lits l e;
  others = others-false prefix t l c.lits g.extends (found-alone (λ x. not (is_false prefix x)) c.lits l e (batch-open prefix c b));
  level = batch-level variables clauses prefix t c g b;
}

-- a push keeps what a batch keeps
pub push-going : (variables : ℕ) (clauses : List NumberedClause) (prefix : List TrailEntry) (c : NumberedClause) → IsOfBatch variables clauses prefix c → PushKeeps (EachAfter (IsPlaced variables) []) prefix c → PushKeeps (IsGoing variables clauses prefix) prefix c
push-going variables clauses prefix c h placed t l e a b g =
    let x : TrailEntry = forced l c.id t in
    record {
      extends = extends-push prefix t x g.extends;
      placed = placed t l e a b g.placed;
      levels = each-push IsLevelled t [] x g.levels refl;
      reached = g.reached ∙ sym (level_of-push t x);
      reasons = each-push (IsForced clauses) t [] x g.reasons (λ id q. (c, h.held, the-number id q, push-reason variables clauses prefix t c l g h.batch e));
    }
  where
    the-number : (id : ℕ) → Some c.id ≡ Some id → c.id ≡ id
    the-number id q = cc

-- all literals of the clause are false where its left one is
all-false : (t : List TrailEntry) (l : ℕ) (lits : List ℕ) → is_false t l ≡ true → list_all (λ m. (m == l) || is_false t m) lits ≡ true → list_all (is_false t) lits ≡ true
all-false t l [] f h = refl
all-false t l (m ∷ ms) f h =
    let parts = and_parts ((m == l) || is_false t m) (list_all (λ y. (y == l) || is_false t y) ms) h in
    and_from _ _ (by_case (m == l) refl parts.0) (all-false t l ms f parts.1)
  where
    by_case : (b : Bool) → (m == l) ≡ b → (b || is_false t m) ≡ true → is_false t m ≡ true
    by_case true q k = subst (λ (y : ℕ). is_false t y ≡ true) (sym (eqb-true m l q)) f
    by_case false q k = k

-- a literal that fell after the prefix has the level reached
behind-level : (variables : ℕ) (clauses : List NumberedClause) (prefix t : List TrailEntry) (l : ℕ) → IsGoing variables clauses prefix t → is_false prefix l ≡ false → is_true t l ≡ false → is_false t l ≡ true → level_in t (var_of l) ≡ level_of t
behind-level variables clauses prefix t l g here no_true fell =
    let rest : List TrailEntry = g.extends.rest in
    let untrue : is_true prefix l ≡ false = false_from_ne_true (is_true prefix l) (λ q. both_ways (is_true t l) no_true (subst (λ (u : List TrailEntry). is_true u l ≡ true) (sym g.extends.is) (is_true-more prefix rest l q))) in
    let free : has_value prefix (var_of l) ≡ false = free_from_open prefix l untrue here in
    let valued : has_value t (var_of l) ≡ true = value-from_true t (negated l) (var_of l) (sym (var_of-negated l)) fell in
    let split : (has_value prefix (var_of l) || has_value rest (var_of l)) ≡ true = sym (list_any-append (λ e. var_of l == var_of e.lit) prefix rest) ∙ subst (λ (u : List TrailEntry). has_value u (var_of l) ≡ true) g.extends.is valued in
    let behind : has_value rest (var_of l) ≡ true = rw free at split in
    let levels : EachAfter IsLevelled prefix rest = each-behind IsLevelled prefix rest [] (subst (λ (u : List TrailEntry). EachAfter IsLevelled [] u) g.extends.is g.levels) in
    let low : level_of prefix ≤ level_in rest (var_of l) = level_in-from rest (var_of l) (level_of prefix) (levels-low rest prefix levels) behind in
    let same : level_in t (var_of l) ≡ level_in rest (var_of l) = ap (λ (u : List TrailEntry). level_in u (var_of l)) g.extends.is ∙ level_in-behind prefix rest (var_of l) free in
    let high : level_in t (var_of l) ≤ level_of t = level_in-le t (var_of l) g.levels in
    let reached : level_of prefix ≡ level_of t = g.reached in
    omega arith

-- a clause whose left literal is false is a conflict
stops-false : (variables : ℕ) (clauses : List NumberedClause) (prefix t : List TrailEntry) (c : NumberedClause) (l : ℕ) → IsGoing variables clauses prefix t → is_in_batch prefix c ≡ true → left_literal prefix c.lits ≡ Some l → is_true t l ≡ false → is_false t l ≡ true → IsConflict t c
stops-false variables clauses prefix t c l g b e no_true fell = record {
  false_lits = all-false t l c.lits fell (push-reason variables clauses prefix t c l g b e).others;
  current = λ deep. by_case deep (batch-cases prefix c b);
}
  where
    left-open : is_false prefix l ≡ false
    left-open = not-true (is_false prefix l) (find-passes (λ x. not (is_false prefix x)) c.lits l e)

    fell-here : (f : IsFallen prefix c) (m : ℕ) → (f.last.lit == negated m) ≡ true → m ≡ l → is_false prefix l ≡ true
    fell-here f m k q = subst (λ (u : List TrailEntry). is_false u l ≡ true) (sym f.is) (list_any-append (λ x. x.lit == negated l) f.front (f.last ∷ []) ∙ or_right _ _ (or_left _ _ (subst (λ (y : ℕ). (f.last.lit == negated y) ≡ true) q k)))

    by_case : 0 < level_of t → IsStart prefix c ⊎ IsFallen prefix c → 2 ≤ current_count t c.lits
    by_case deep (inl s) = let zero_level : level_of t ≡ 0 = sym g.reached ∙ ap level_of s.empty in absurd (omega arith)
    by_case deep (inr f) = count-two (λ m. level_in t (var_of m) == level_of t) (λ m. f.last.lit == negated m) (λ m. m == l)
        (λ m k. eq-eqb (level_in t (var_of m)) (level_of t) (fallen-level variables clauses prefix t c g f m k))
        (λ m k. eq-eqb (level_in t (var_of m)) (level_of t) (ap (λ (y : ℕ). level_in t (var_of y)) (eqb-true m l k) ∙ behind-level variables clauses prefix t l g left-open no_true fell))
        (λ m k j. both_ways (is_false prefix l) left-open (fell-here f m k (eqb-true m l j)))
        c.lits f.hit (found-in (λ x. not (is_false prefix x)) c.lits l e)

each-false : (prefix t : List TrailEntry) (lits : List ℕ) → Extends prefix t → All (λ m. not (is_false prefix m) ≡ false) lits → list_all (is_false t) lits ≡ true
each-false prefix t [] x h = refl
each-false prefix t (m ∷ ms) x h = and_from _ _ (false-more prefix t m x (not-false (is_false prefix m) (All-head (λ y. not (is_false prefix y) ≡ false) m ms h))) (each-false prefix t ms x (All-tail (λ y. not (is_false prefix y) ≡ false) m ms h))

-- a clause without a literal left is a conflict: it has none at all
stops-none : (variables : ℕ) (clauses : List NumberedClause) (prefix t : List TrailEntry) (c : NumberedClause) → IsGoing variables clauses prefix t → is_in_batch prefix c ≡ true → left_literal prefix c.lits ≡ None → IsConflict t c
stops-none variables clauses prefix t c g b e = record {
  false_lits = each-false prefix t c.lits g.extends (find-none (λ x. not (is_false prefix x)) c.lits e);
  current = λ deep. by_case deep (batch-cases prefix c b);
}
  where
    by_case : 0 < level_of t → IsStart prefix c ⊎ IsFallen prefix c → 2 ≤ current_count t c.lits
    by_case deep (inl s) = let zero_level : level_of t ≡ 0 = sym g.reached ∙ ap level_of s.empty in absurd (omega arith)
    by_case deep (inr f) = let none : open_count prefix c.lits ≡ 0 = count-none (λ x. not (is_false prefix x)) c.lits (find-none (λ x. not (is_false prefix x)) c.lits e) in let one : open_count prefix c.lits ≡ 1 = f.one in absurd (omega arith)

-- a clause of a batch, and what its handling keeps and where it stops
pub record Handles (P : List TrailEntry → Type 0) (Q : ℕ → List TrailEntry → Type 0) (prefix : List TrailEntry) (c : NumberedClause) : Type 0 where
  pub keeps : PushKeeps P prefix c
  pub stops_none : (t : List TrailEntry) → left_literal prefix c.lits ≡ None → P t → Q c.id t
  pub stops_false : (t : List TrailEntry) (l : ℕ) → left_literal prefix c.lits ≡ Some l → is_true t l ≡ false → is_false t l ≡ true → P t → Q c.id t

after_clause-conflict : (P : List TrailEntry → Type 0) (Q : ℕ → List TrailEntry → Type 0) (prefix t : List TrailEntry) (c : NumberedClause) → Handles P Q prefix c → P t → (id : ℕ) → (after_clause prefix t c).conflict ≡ Some id → Q id (after_clause prefix t c).trail
after_clause-conflict P Q prefix t c h k id q = by_left (left_literal prefix c.lits) refl q
  where
    same : Q c.id t → Some c.id ≡ Some id → Q id t
    same m e = let number : c.id ≡ id = cc in subst (λ (i : ℕ). Q i t) number m

    by_value : (l : ℕ) → left_literal prefix c.lits ≡ Some l → (a b : Bool) → is_true t l ≡ a → is_false t l ≡ b → (cond {A = Progress} a (record { trail = t; conflict = None }) (cond {A = Progress} b (record { trail = t; conflict = Some c.id }) (record { trail = t ++ forced l c.id t ∷ []; conflict = None }))).conflict ≡ Some id → Q id (cond {A = Progress} a (record { trail = t; conflict = None }) (cond {A = Progress} b (record { trail = t; conflict = Some c.id }) (record { trail = t ++ forced l c.id t ∷ []; conflict = None }))).trail
    by_value l e true b x y m = absurd (cc)
    by_value l e false true x y m = same (h.stops_false t l e x y k) m
    by_value l e false false x y m = absurd (cc)

    by_left : (o : Option ℕ) → left_literal prefix c.lits ≡ o → (after_left t c.id o).conflict ≡ Some id → Q id (after_left t c.id o).trail
    by_left None e m = same (h.stops_none t e k) m
    by_left (Some l) e m = by_value l e (is_true t l) (is_false t l) refl refl m

-- the conflict of a batch
pub after_all-conflict : (P : List TrailEntry → Type 0) (Q : ℕ → List TrailEntry → Type 0) (prefix : List TrailEntry) (cs : List NumberedClause) (p : Progress) → All (Handles P Q prefix) cs → P p.trail → ((id : ℕ) → p.conflict ≡ Some id → Q id p.trail) → (id : ℕ) → (after_all prefix p cs).conflict ≡ Some id → Q id (after_all prefix p cs).trail
after_all-conflict P Q prefix [] p h k m = m
after_all-conflict P Q prefix (c ∷ cs) p h k m = after_all-conflict P Q prefix cs (cond (is_some p.conflict) p (after_clause prefix p.trail c)) (All-tail (Handles P Q prefix) c cs h) (next (is_some p.conflict)) (stop (is_some p.conflict))
  where
    next : (b : Bool) → P (cond b p (after_clause prefix p.trail c)).trail
    next true = k
    next false = after_clause-keeps P prefix p.trail c (All-head (Handles P Q prefix) c cs h).keeps k

    stop : (b : Bool) → (id : ℕ) → (cond b p (after_clause prefix p.trail c)).conflict ≡ Some id → Q id (cond b p (after_clause prefix p.trail c)).trail
    stop true = m
    stop false = after_clause-conflict P Q prefix p.trail c (All-head (Handles P Q prefix) c cs h) k

-- a clause of the batch of a sound node's prefix is handled so
pub handles-going : (variables : ℕ) (clauses : List NumberedClause) (prefix : List TrailEntry) (c : NumberedClause) → IsOfBatch variables clauses prefix c → PushKeeps (EachAfter (IsPlaced variables) []) prefix c → Handles (IsGoing variables clauses prefix) (λ id t. IsWaiting clauses t id) prefix c
handles-going variables clauses prefix c h placed = record {
  keeps = push-going variables clauses prefix c h placed;
  stops_none = λ t e g. (c, h.held, refl, stops-none variables clauses prefix t c g h.batch e);
  stops_false = λ t l e a b g. (c, h.held, refl, stops-false variables clauses prefix t c l g h.batch e a b);
}
