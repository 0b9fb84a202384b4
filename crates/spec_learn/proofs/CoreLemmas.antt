use Rattle.std.proofs.Common.{◌≡◌, ℕ, ◌<◌, Bool, true, false, cond, not, List, [], ◌∷◌, ◌++◌, map, reverse, Option, Some, None, refl, sym, ap, ◌∙◌, subst, append_assoc, inl, inr, ◌⊎◌, arith}
use Rattle.std.specs.Prelude.{All, Contains, find, ◌==◌, ◌||◌, nat_lt}
use Rattle.std.specs.List.{list_any, list_all}
use Rattle.std.specs.Option.{option_map_or}
use Rattle.std.proofs.lemmas.List.Elements.{All-head, All-tail}
use Rattle.std.proofs.lemmas.List.Folds.{list_any-append}
use Rattle.std.proofs.lemmas.List.Sorted.{list_any-IsPermutation, IsPermutation-reverse}
use Rattle.std.proofs.lemmas.Bool.{and_parts, and_from, or_cases, or_left, or_right, eq-eqb, eqb-true, both_ways, ltb-true, ltb-false}
use Rattle.mal_base.specs.Literals.{var_of, negated}
use Rattle.mal_base.specs.Clauses.{rises}
use Rattle.mal_base.specs.NumberedClause.{NumberedClause, lits_under}
use Rattle.mal_base.specs.declared.trail_entry.TrailEntry.{TrailEntry}
use Rattle.spec_node.specs.State.{Node}
use Rattle.spec_node.specs.Value.{is_true, is_false, has_value}
use Rattle.spec_node.specs.Sound.{IsPlaced, IsForced, IsChosen, IsReason, IsSound}
use Rattle.spec_node.proofs.LevelLemmas.{found-in}
use Rattle.spec_node.proofs.SettledLemmas.{var_of-negated, rises-above, rises-rest}
use Rattle.spec_node.proofs.TrailLemmas.{value-from_true}
use Rattle.spec_logic.specs.Derivation.{derivation}
use Rattle.spec_logic.specs.Derivation.Derivation.{Derived}
use Rattle.spec_learn.specs.Analysis.{Walk, Aim, Analysed, has_var, vars_under, begun, keeping, resolving, is_resolved, after_seen, after_entry, walked, put, clause_of, reached, core_at, core_by}
use Rattle.spec_learn.specs.Analysis.Aim.{Final}
use Rattle.spec_learn.specs.Learning.{holding}
use Rattle.spec_learn.specs.Refuting.{core_analysis}
use Rattle.spec_learn.specs.CoreLaws.{HasFailed}
use Rattle.spec_learn.proofs.LogicLemmas.{negated-negated}
use Rattle.spec_learn.proofs.HeartLemmas.{AreGood, AreTrueOn, IsConsistentTrail, IsReady, kept-ready, kept-true, clause-within, clause-has, ready-walk, ready-begun}
use Rattle.spec_learn.proofs.BehindLemmas.{EachBehind, each-reverse, true-turned, held-under, true-on, good-behind, negated-apart, sound-consistent}

-- members of a list
pub member-all : (f : ℕ → Bool) (xs : List ℕ) (x : ℕ) → list_any (λ y. y == x) xs ≡ true → list_all f xs ≡ true → f x ≡ true
member-all f [] x m h = absurd (cc)
member-all f (y ∷ ys) x m h =
    let parts = and_parts (f y) (list_all f ys) h in
    by_place (λ k. member-all f ys x k parts.1) parts.0 (or_cases (y == x) (list_any (λ z. z == x) ys) m)
  where
    by_place : (list_any (λ (z : ℕ). z == x) ys ≡ true → f x ≡ true) → f y ≡ true → ((y == x) ≡ true) ⊎ (list_any (λ (z : ℕ). z == x) ys ≡ true) → f x ≡ true
    by_place g q (inl k) = subst (λ (z : ℕ). f z ≡ true) (eqb-true y x k) q
    by_place g q (inr k) = g k

pub member-All : (P : ℕ → Type 0) (xs : List ℕ) (x : ℕ) → list_any (λ y. y == x) xs ≡ true → All P xs → P x
member-All P [] x m h = absurd (cc)
member-All P (y ∷ ys) x m h = by_place (λ k. member-All P ys x k (All-tail P y ys h)) (or_cases (y == x) (list_any (λ z. z == x) ys) m)
  where
    by_place : (list_any (λ (z : ℕ). z == x) ys ≡ true → P x) → ((y == x) ≡ true) ⊎ (list_any (λ (z : ℕ). z == x) ys ≡ true) → P x
    by_place g (inl k) = subst P (eqb-true y x k) (All-head P y ys h)
    by_place g (inr k) = g k

found-passes : (p : ℕ → Bool) (xs : List ℕ) (x : ℕ) → find p xs ≡ Some x → p x ≡ true
found-passes p [] x h = absurd (cc)
found-passes p (y ∷ ys) x h = by_test (found-passes p ys x) (p y) refl h
  where
    by_test : (find p ys ≡ Some x → p x ≡ true) → (b : Bool) → p y ≡ b → cond b (Some y) (find p ys) ≡ Some x → p x ≡ true
    by_test f true q k = let same : y ≡ x = cc in subst (λ (z : ℕ). p z ≡ true) same q
    by_test f false q k = f k

-- no variable stands twice in a rising list
one-of-var : (xs : List ℕ) (l m : ℕ) → rises xs ≡ true → var_of l ≡ var_of m → list_any (λ y. y == l) xs ≡ true → list_any (λ y. y == m) xs ≡ true → l ≡ m
one-of-var [] l m r q a b = absurd (cc)
one-of-var (x ∷ xs) l m r q a b = by_place (one-of-var xs l m (rises-rest x xs r) q) (or_cases (x == l) (list_any (λ y. y == l) xs) a) (or_cases (x == m) (list_any (λ y. y == m) xs) b)
  where
    later : (y z : ℕ) → x ≡ y → var_of y ≡ var_of z → list_any (λ k. k == z) xs ≡ true → ⊥
    later y z e v k = let u : var_of x < var_of z = member-All (λ w. var_of x < var_of w) xs z k (rises-above x xs r) in let s : var_of x ≡ var_of y = ap var_of e in absurd (omega arith)

    by_place : (list_any (λ (y : ℕ). y == l) xs ≡ true → list_any (λ (y : ℕ). y == m) xs ≡ true → l ≡ m) → ((x == l) ≡ true) ⊎ (list_any (λ (y : ℕ). y == l) xs ≡ true) → ((x == m) ≡ true) ⊎ (list_any (λ (y : ℕ). y == m) xs ≡ true) → l ≡ m
    by_place f (inl c) (inl d) = sym (eqb-true x l c) ∙ eqb-true x m d
    by_place f (inl c) (inr d) = absurd (later l m (eqb-true x l c) q d)
    by_place f (inr c) (inl d) = absurd (later m l (eqb-true x m d) (sym q) c)
    by_place f (inr c) (inr d) = f c d

-- what holds after a front
pub behind-back : (P : List TrailEntry → TrailEntry → Type 0) (xs ys : List TrailEntry) → EachBehind P (xs ++ ys) → EachBehind P ys
behind-back P [] ys h = h
behind-back P (x ∷ xs) ys h = behind-back P xs ys h.1

-- where a true literal stands
pub record Stands (l : ℕ) (es : List TrailEntry) : Type 0 where
  pub front : List TrailEntry
  pub entry : TrailEntry
  pub past : List TrailEntry
  pub is : reached l es ≡ entry ∷ past
  pub whole : es ≡ front ++ entry ∷ past
  pub own : entry.lit ≡ l

stands : (l : ℕ) (es : List TrailEntry) → is_true es l ≡ true → Stands l es
stands l [] h = absurd (cc)
stands l (e ∷ es) h = by_here (stands l es) (e.lit == l) refl h
  where
    by_here : (is_true es l ≡ true → Stands l es) → (b : Bool) → (e.lit == l) ≡ b → (b || is_true es l) ≡ true → Stands l (e ∷ es)
    by_here f true q k = record { front = []; entry = e; past = es; is = ap (λ (b : Bool). cond b (e ∷ es) (reached l es)) q; whole = refl; own = eqb-true e.lit l q }
    by_here f false q k = let s : Stands l es = f k in record { front = e ∷ s.front; entry = s.entry; past = s.past; is = ap (λ (b : Bool). cond b (e ∷ es) (reached l es)) q ∙ s.is; whole = ap (λ (xs : List TrailEntry). e ∷ xs) s.whole; own = s.own }

-- where the negation of a failed assumption stands, and its reason
pub record IsFallenAt (n : Node) (a : ℕ) : Type 0 where
  pub front : List TrailEntry
  pub entry : TrailEntry
  pub past : List TrailEntry
  pub id : ℕ
  pub is : reached (negated a) (reverse n.trail) ≡ entry ∷ past
  pub whole : reverse n.trail ≡ front ++ entry ∷ past
  pub own : entry.lit ≡ negated a
  pub because : entry.reason ≡ Some id

pub failed-open : (n : Node) (a : ℕ) → HasFailed n a → is_true n.trail a ≡ true → ⊥
failed-open n a h q = let t : not (is_true n.trail a) ≡ true = found-passes (λ x. not (is_true n.trail x)) n.assumptions a h.first in absurd (by_value (is_true n.trail a) q t)
  where
    by_value : (b : Bool) → b ≡ true → not b ≡ true → ⊥
    by_value true q k = absurd (cc)
    by_value false q k = absurd (cc)

pub failed-member : (n : Node) (a : ℕ) → HasFailed n a → list_any (λ y. y == a) n.assumptions ≡ true
failed-member n a h = found-in (λ x. not (is_true n.trail x)) n.assumptions a h.first

-- a part of a trail after a front
pub back-true : (n : Node) (front past : List TrailEntry) (l : ℕ) → reverse n.trail ≡ front ++ past → is_true past l ≡ true → is_true n.trail l ≡ true
back-true n front past l w q = sym (true-turned n.trail l) ∙ (ap (λ (t : List TrailEntry). is_true t l) w ∙ (list_any-append (λ e. e.lit == l) front past ∙ or_right _ _ q))

pub sound-fallen : (n : Node) (a : ℕ) → IsSound n → HasFailed n a → IsFallenAt n a
sound-fallen n a h k = by_reason s.entry.reason refl
  where
    s : Stands (negated a) (reverse n.trail)
    s = stands (negated a) (reverse n.trail) (true-turned n.trail (negated a) ∙ k.fell)

    chosen : EachBehind (IsChosen n.assumptions) (s.entry ∷ s.past)
    chosen = behind-back (IsChosen n.assumptions) s.front (s.entry ∷ s.past) (subst (EachBehind (IsChosen n.assumptions)) s.whole (each-reverse (IsChosen n.assumptions) n.trail h.chosen))

    none : (list_any (λ (x : ℕ). x == s.entry.lit) n.assumptions ≡ true) ⊎ (list_all (is_true (reverse s.past)) n.assumptions ≡ true) → ⊥
    none (inl m) = negated-apart a (one-of-var n.assumptions a (negated a) h.consistent.assumptions.rising (sym (var_of-negated a)) (failed-member n a k) (subst (λ (l : ℕ). list_any (λ (x : ℕ). x == l) n.assumptions ≡ true) s.own m))
    none (inr m) = failed-open n a k (back-true n s.front (s.entry ∷ s.past) a s.whole (or_right _ _ (sym (true-turned s.past a) ∙ member-all (is_true (reverse s.past)) n.assumptions a (failed-member n a k) m)))

    by_reason : (o : Option ℕ) → s.entry.reason ≡ o → IsFallenAt n a
    by_reason None q = absurd (none (or_cases (list_any (λ x. x == s.entry.lit) n.assumptions) (list_all (is_true (reverse s.past)) n.assumptions) (chosen.0 q)))
    by_reason (Some r) q = record { front = s.front; entry = s.entry; past = s.past; id = r; is = s.is; whole = s.whole; own = s.own; because = q }

-- the failed assumption as if it were decided
abbrev pub assumed : ℕ → TrailEntry
assumed a = record { lit = a; reason = None; level = 0 }

-- a walk from kept entries on
abbrev pub with_base : List TrailEntry → Walk → Walk
with_base base w = record { seen = w.seen; kept = w.kept ++ base; hints = w.hints }

pub base-walked : (base : List TrailEntry) (aim : Aim) (clauses : List NumberedClause) (past : List TrailEntry) (w : Walk) → walked aim clauses past (with_base base w) ≡ with_base base (walked aim clauses past w)
base-walked base aim clauses [] w = refl
base-walked base aim clauses (e ∷ past) w = ap (walked aim clauses past) (by_seen (has_var w.seen (var_of e.lit))) ∙ base-walked base aim clauses past (after_entry aim clauses e past w)
  where
    by_resolved : (r : ℕ) (b : Bool) → cond b (resolving clauses r (with_base base w)) (keeping e (with_base base w)) ≡ with_base base (cond b (resolving clauses r w) (keeping e w))
    by_resolved r true = refl
    by_resolved r false = refl

    by_reason : (o : Option ℕ) → option_map_or (λ r. cond (is_resolved aim e w.seen past) (resolving clauses r (with_base base w)) (keeping e (with_base base w))) o (keeping e (with_base base w)) ≡ with_base base (option_map_or (λ r. cond (is_resolved aim e w.seen past) (resolving clauses r w) (keeping e w)) o (keeping e w))
    by_reason None = refl
    by_reason (Some r) = by_resolved r (is_resolved aim e w.seen past)

    by_seen : (b : Bool) → cond b (after_seen aim clauses e past (with_base base w)) (with_base base w) ≡ with_base base (cond b (after_seen aim clauses e past w) w)
    by_seen true = by_reason e.reason
    by_seen false = refl

-- literals are put in any order
put-turned : (x y : ℕ) (ms : List ℕ) → put x (put y ms) ≡ put y (put x ms)
put-turned x y [] = by_less (nat_lt x y) (nat_lt y x) refl refl
  where
    by_less : (b c : Bool) → nat_lt x y ≡ b → nat_lt y x ≡ c → cond b (x ∷ y ∷ []) (y ∷ x ∷ []) ≡ cond c (y ∷ x ∷ []) (x ∷ y ∷ [])
    by_less true true p q = let u = ltb-true x y p in let v = ltb-true y x q in absurd (omega arith)
    by_less true false p q = refl
    by_less false true p q = refl
    by_less false false p q = let u = ltb-false x y p in let v = ltb-false y x q in let same : x ≡ y = omega arith in ap (λ (k : ℕ). k ∷ x ∷ []) (sym same) ∙ ap (λ (k : ℕ). x ∷ k ∷ []) same
put-turned x y (m ∷ ms) = by_less (put-turned x y ms) (nat_lt x m) (nat_lt y m) (nat_lt x y) (nat_lt y x) refl refl refl refl
  where
    by_less : put x (put y ms) ≡ put y (put x ms) → (b c d e : Bool) → nat_lt x m ≡ b → nat_lt y m ≡ c → nat_lt x y ≡ d → nat_lt y x ≡ e → put x (cond c (y ∷ (m ∷ ms)) (m ∷ put y ms)) ≡ put y (cond b (x ∷ (m ∷ ms)) (m ∷ put x ms))
    by_less f true true true true p q r s = let u = ltb-true x y r in let v = ltb-true y x s in absurd (omega arith)
    by_less f true true true false p q r s = rw (p, q, r, s) refl
    by_less f true true false true p q r s = rw (p, q, r, s) refl
    by_less f true true false false p q r s = let u = ltb-false x y r in let v = ltb-false y x s in let same : x ≡ y = omega arith in subst (λ (z : ℕ). put x (z ∷ (m ∷ ms)) ≡ put z (x ∷ (m ∷ ms))) same refl
    by_less f true false d true p q r s = let u = ltb-true x m p in let v = ltb-false y m q in let w = ltb-true y x s in absurd (omega arith)
    by_less f true false d false p q r s = rw (p, q, s) refl
    by_less f false true true e p q r s = let u = ltb-false x m p in let v = ltb-true y m q in let w = ltb-true x y r in absurd (omega arith)
    by_less f false true false e p q r s = rw (p, q, r) refl
    by_less f false false d e p q r s = rw (p, q) (ap (λ (xs : List ℕ). m ∷ xs) f)

pub clause-turned : (es : List TrailEntry) (x : TrailEntry) → clause_of (es ++ x ∷ []) ≡ put (negated x.lit) (clause_of es)
clause-turned [] x = refl
clause-turned (e ∷ es) x = ap (put (negated e.lit)) (clause-turned es x) ∙ put-turned (negated e.lit) (negated x.lit) (clause_of es)

-- the walk of a core clause
abbrev pub core_walk : List NumberedClause → ℕ → List TrailEntry → ℕ → Walk
core_walk clauses a past id = walked Final clauses past (begun (vars_under clauses id))

abbrev pub finished : List NumberedClause → ℕ → List TrailEntry → ℕ → Analysed
finished clauses a past id = let w = core_walk clauses a past id in record { lits = clause_of (w.kept ++ assumed a ∷ []); hints = w.hints ++ id ∷ []; level = 0 }

pub core-is : (n : Node) (a : ℕ) (k : IsFallenAt n a) → core_analysis a n ≡ finished n.clauses a k.past k.id
core-is n a k =
    let w : Walk = core_walk n.clauses a k.past k.id in
    ap (core_at n.clauses a) k.is ∙ (ap (core_by n.clauses a k.past) k.because ∙ ap (λ (ls : List ℕ). record { lits = ls; hints = w.hints ++ k.id ∷ []; level = 0 }) (sym (clause-turned w.kept (assumed a))))

-- a reason of the negation is false with the assumption
false-both : (a x : ℕ) (past : List TrailEntry) (lits : List ℕ) → x ≡ negated a → list_all (λ l. (l == x) || is_false (reverse past) l) lits ≡ true → list_all (is_false (assumed a ∷ past)) lits ≡ true
false-both a x past [] q h = refl
false-both a x past (l ∷ ls) q h =
    let parts = and_parts ((l == x) || is_false (reverse past) l) (list_all (λ m. (m == x) || is_false (reverse past) m) ls) h in
    and_from _ _ (by_place (or_cases (l == x) (is_false (reverse past) l) parts.0)) (false-both a x past ls q parts.1)
  where
    by_place : ((l == x) ≡ true) ⊎ (is_false (reverse past) l ≡ true) → ((a == negated l) || is_false past l) ≡ true
    by_place (inl k) = or_left _ _ (eq-eqb a (negated l) (sym (negated-negated a) ∙ ap negated (sym q ∙ sym (eqb-true l x k))))
    by_place (inr k) = or_right _ _ (sym (true-turned past (negated l)) ∙ k)

pub fallen-free : (n : Node) (a : ℕ) (k : IsFallenAt n a) → IsSound n → has_value k.past (var_of a) ≡ false
fallen-free n a k h =
    let placed : EachBehind (IsPlaced n.variables) (k.entry ∷ k.past) = behind-back (IsPlaced n.variables) k.front (k.entry ∷ k.past) (subst (EachBehind (IsPlaced n.variables)) k.whole (each-reverse (IsPlaced n.variables) n.trail h.consistent.placed)) in
    let var : var_of k.entry.lit ≡ var_of a = ap var_of k.own ∙ var_of-negated a in
    list_any-IsPermutation (λ e. var_of a == var_of e.lit) k.past (reverse k.past) (IsPermutation-reverse k.past) ∙ subst (λ (v : ℕ). has_value (reverse k.past) v ≡ false) var placed.0.free

consistent-assumed : (n : Node) (a : ℕ) (k : IsFallenAt n a) → IsSound n → IsConsistentTrail (assumed a ∷ k.past)
consistent-assumed n a k h l t f = by_place (or_cases (a == l) (is_true k.past l) t) (or_cases (a == negated l) (is_true k.past (negated l)) f)
  where
    apart : (m : ℕ) → var_of m ≡ var_of a → is_true k.past m ≡ true → ⊥
    apart m v q = both_ways (has_value k.past (var_of a)) (fallen-free n a k h) (value-from_true k.past m (var_of a) (sym v) q)

    whole : reverse n.trail ≡ (k.front ++ k.entry ∷ []) ++ k.past
    whole = k.whole ∙ sym (append_assoc k.front (k.entry ∷ []) k.past)

    by_place : ((a == l) ≡ true) ⊎ (is_true k.past l ≡ true) → ((a == negated l) ≡ true) ⊎ (is_true k.past (negated l) ≡ true) → ⊥
    by_place (inl p) (inl q) = negated-apart l (sym (eqb-true a l p) ∙ eqb-true a (negated l) q)
    by_place (inl p) (inr q) = apart (negated l) (var_of-negated l ∙ ap var_of (sym (eqb-true a l p))) q
    by_place (inr p) (inl q) = apart l (sym (ap var_of (eqb-true a (negated l) q) ∙ var_of-negated l)) p
    by_place (inr p) (inr q) = sound-consistent n h l (back-true n (k.front ++ k.entry ∷ []) k.past l whole p) (back-true n (k.front ++ k.entry ∷ []) k.past (negated l) whole q)

-- the line of a core clause is derived along its hints
pub core-derived : (n : Node) (a : ℕ) → IsSound n → HasFailed n a → derivation (holding n.clauses) (Some (core_analysis a n).lits) (core_analysis a n).hints ≡ Derived
core-derived n a h f = subst (λ (x : Analysed). derivation (holding n.clauses) (Some x.lits) x.hints ≡ Derived) (sym (core-is n a k)) (by_clause (forced.0 k.id k.because))
  where
    k : IsFallenAt n a
    k = sound-fallen n a h f

    trail : List TrailEntry
    trail = assumed a ∷ k.past

    forced : EachBehind (IsForced n.clauses) (k.entry ∷ k.past)
    forced = behind-back (IsForced n.clauses) k.front (k.entry ∷ k.past) (subst (EachBehind (IsForced n.clauses)) k.whole (each-reverse (IsForced n.clauses) n.trail h.reasons))

    vars : List ℕ
    vars = vars_under n.clauses k.id

    good : AreGood n.clauses trail k.past
    good = good-behind n.variables n.clauses trail k.past h.ranged.numbers h.consistent.clauses forced.1 (true-on trail k.past (λ l q. or_right _ _ q))

    w : Walk
    w = walked Final n.clauses k.past (keeping (assumed a) (begun vars))

    is : w ≡ with_base (assumed a ∷ []) (core_walk n.clauses a k.past k.id)
    is = base-walked (assumed a ∷ []) Final n.clauses k.past (begun vars)

    on : AreTrueOn trail w.kept
    on = kept-true Final n.clauses trail k.past (keeping (assumed a) (begun vars)) good (or_left _ _ (eq-eqb a a refl), tt)

    by_clause : (c : NumberedClause) × Contains n.clauses c × (c.id ≡ k.id) × IsReason (reverse k.past) k.entry c → derivation (holding n.clauses) (Some (finished n.clauses a k.past k.id).lits) (finished n.clauses a k.past k.id).hints ≡ Derived
    by_clause c =
        let held : lits_under k.id n.clauses ≡ Some c.0.lits = subst (λ (x : ℕ). lits_under x n.clauses ≡ Some c.0.lits) c.2 (held-under 1 n.clauses c.0 h.ranged.numbers c.1) in
        let consistent : IsConsistentTrail trail = consistent-assumed n a k h in
        let begins : IsReady n.clauses trail k.id (assumed a ∷ k.past) (begun vars) = ready-begun n.clauses trail (assumed a ∷ k.past) k.id c.0.lits consistent held (false-both a k.entry.lit k.past c.0.lits k.own c.3.others) in
        let ready : IsReady n.clauses trail k.id [] w = ready-walk Final n.clauses trail k.id k.past (keeping (assumed a) (begun vars)) consistent good (kept-ready n.clauses trail k.id (assumed a) k.past (begun vars) begins) in
        subst (λ (v : Walk). derivation (holding n.clauses) (Some (clause_of v.kept)) (v.hints ++ k.id ∷ []) ≡ Derived) is (ready (map negated (clause_of w.kept)) (record { within = clause-within trail w.kept on; seen = tt; kept = clause-has w.kept }))
