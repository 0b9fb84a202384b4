use Rattle.std.proofs.Common.{◌≡◌, ℕ, zero, suc, ◌+◌, ◌-◌, ◌%◌, ◌≤◌, Bool, true, false, cond, List, [], ◌∷◌, ◌++◌, reverse, Some, refl, sym, ap, ◌∙◌, subst, append_assoc, append-nil, inl, inr, ◌⊎◌, arith}
use Rattle.std.specs.Prelude.{All, Contains, find, ◌==◌, ◌||◌, option_map}
use Rattle.std.specs.List.{list_all}
use Rattle.std.proofs.lemmas.List.{reverse-append}
use Rattle.std.proofs.lemmas.List.Elements.{All-contains}
use Rattle.std.proofs.lemmas.List.Sorted.{list_any-IsPermutation, IsPermutation-reverse}
use Rattle.std.proofs.lemmas.Bool.{or_left, or_right, eq-eqb, eqb-false, ne_eqb}
use Rattle.mal_base.specs.Literals.{negated}
use Rattle.mal_base.specs.NumberedClause.{NumberedClause, lits_under}
use Rattle.mal_base.specs.declared.trail_entry.TrailEntry.{TrailEntry}
use Rattle.spec_node.specs.State.{Node}
use Rattle.spec_node.specs.Value.{is_true, level_of}
use Rattle.spec_node.specs.Sound.{EachAfter, IsForced, IsReason, NumbersRise, AreLiteralsOf, IsSound}
use Rattle.spec_node.proofs.CutLemmas.{level_of-push}
use Rattle.spec_node.proofs.TrailLemmas.{true-same}
use Rattle.spec_node.proofs.SettledLemmas.{var_of-negated}
use Rattle.spec_learn.specs.Analysis.{top}
use Rattle.spec_learn.proofs.HeartLemmas.{IsBy, AreGood, IsConsistentTrail, AreTrueOn}
use mathlib.Core.Path.{fun_ext}

-- what holds of each entry of a trail, latest first
abbrev pub EachBehind : (List TrailEntry → TrailEntry → Type 0) → List TrailEntry → Type 0
EachBehind P [] = Unit {0}
EachBehind P (e ∷ past) = P (reverse past) e × EachBehind P past

each-turned : (P : List TrailEntry → TrailEntry → Type 0) (es past : List TrailEntry) → EachAfter P (reverse past) es → EachBehind P past → EachBehind P (reverse es ++ past)
each-turned P [] past h b = b
each-turned P (e ∷ es) past h b =
    subst (EachBehind P) (sym (ap (λ (xs : List TrailEntry). xs ++ past) (reverse-append (e ∷ []) es) ∙ append_assoc (reverse es) (e ∷ []) past))
    (each-turned P es (e ∷ past) (subst (λ (xs : List TrailEntry). EachAfter P xs es) (sym (reverse-append (e ∷ []) past)) h.1) (h.0, b))

pub each-reverse : (P : List TrailEntry → TrailEntry → Type 0) (es : List TrailEntry) → EachAfter P [] es → EachBehind P (reverse es)
each-reverse P es h = subst (EachBehind P) (append-nil (reverse es)) (each-turned P es [] h tt)

-- values do not depend on the order
pub true-turned : (past : List TrailEntry) (l : ℕ) → is_true (reverse past) l ≡ is_true past l
true-turned past l = sym (list_any-IsPermutation (λ e. e.lit == l) past (reverse past) (IsPermutation-reverse past))

pub level-turned : (past : List TrailEntry) → level_of (reverse past) ≡ top past
level-turned [] = refl
level-turned (e ∷ past) = ap level_of (reverse-append (e ∷ []) past) ∙ level_of-push (reverse past) e

-- a held clause is found under its number
contains-cases : (d : NumberedClause) (ds : List NumberedClause) (c : NumberedClause) → Contains (d ∷ ds) c → (d ≡ c) ⊎ Contains ds c
contains-cases d ds c (zero, h, e) = inl e
contains-cases d ds c (suc k, h, e) = inr (k, omega arith, e)

numbers-low : (low : ℕ) (ds : List NumberedClause) (c : NumberedClause) → NumbersRise low ds → Contains ds c → low ≤ c.id
numbers-low low [] c h (k, l, e) = absurd (omega arith)
numbers-low low (d ∷ ds) c h k = by_place (numbers-low (d.id + 1) ds c h.1) (contains-cases d ds c k)
  where
    by_place : (Contains ds c → d.id + 1 ≤ c.id) → (d ≡ c) ⊎ Contains ds c → low ≤ c.id
    by_place f (inl q) = let same : d.id ≡ c.id = ap (λ (x : NumberedClause). x.id) q in let u : low ≤ d.id = h.0 in omega arith
    by_place f (inr q) = let u : low ≤ d.id = h.0 in let w : d.id + 1 ≤ c.id = f q in omega arith

pub held-under : (low : ℕ) (ds : List NumberedClause) (c : NumberedClause) → NumbersRise low ds → Contains ds c → lits_under c.id ds ≡ Some c.lits
held-under low [] c h (k, l, e) = absurd (omega arith)
held-under low (d ∷ ds) c h k = by_place (held-under (d.id + 1) ds c h.1) (contains-cases d ds c k)
  where
    by_place : (Contains ds c → lits_under c.id ds ≡ Some c.lits) → (d ≡ c) ⊎ Contains ds c → option_map (λ (x : NumberedClause). x.lits) (cond (d.id == c.id) (Some d) (find (λ (x : NumberedClause). x.id == c.id) ds)) ≡ Some c.lits
    by_place f (inl q) =
        let same : (d.id == c.id) ≡ true = eq-eqb d.id c.id (ap (λ (x : NumberedClause). x.id) q) in
        rw same (ap (λ (x : NumberedClause). Some x.lits) q)
    by_place f (inr q) =
        let low : d.id + 1 ≤ c.id = numbers-low (d.id + 1) ds c h.1 q in
        let other : (d.id == c.id) ≡ false = ne_eqb d.id c.id (λ r. absurd (omega arith)) in
        rw other (f q)

-- entries stand on their trail
pub true-on : (trail es : List TrailEntry) → ((l : ℕ) → is_true es l ≡ true → is_true trail l ≡ true) → AreTrueOn trail es
true-on trail [] f = tt
true-on trail (e ∷ es) f = (f e.lit (or_left _ _ (eq-eqb e.lit e.lit refl)), true-on trail es (λ l q. f l (or_right _ _ q)))

pub good-behind : (variables : ℕ) (clauses : List NumberedClause) (trail past : List TrailEntry) → NumbersRise 1 clauses → All (λ c. AreLiteralsOf variables c.lits) clauses → EachBehind (IsForced clauses) past → AreTrueOn trail past → AreGood clauses trail past
good-behind variables clauses trail [] n a h t = tt
good-behind variables clauses trail (e ∷ past) n a h t = (record { true_lit = t.0; by = λ r q. made r (h.0 r q) }, good-behind variables clauses trail past n a h.1 t.1)
  where
    made : (r : ℕ) → (c : NumberedClause) × Contains clauses c × (c.id ≡ r) × IsReason (reverse past) e c → IsBy clauses past e r
    made r k = record {
      lits = k.0.lits;
      held = subst (λ (x : ℕ). lits_under x clauses ≡ Some k.0.lits) k.2 (held-under 1 clauses k.0 n k.1);
      rising = (All-contains (λ c. AreLiteralsOf variables c.lits) clauses k.0 a k.1).rising;
      own = k.3.own;
      others = subst (λ (f : ℕ → Bool). list_all (λ l. (l == e.lit) || f l) k.0.lits ≡ true) (fun_ext (λ l. true-turned past (negated l))) k.3.others;
    }

pub sound-good : (n : Node) → IsSound n → AreGood n.clauses n.trail (reverse n.trail)
sound-good n h = good-behind n.variables n.clauses n.trail (reverse n.trail) h.ranged.numbers h.consistent.clauses (each-reverse (IsForced n.clauses) n.trail h.reasons) (true-on n.trail (reverse n.trail) (λ l q. sym (true-turned n.trail l) ∙ q))

pub negated-apart : (l : ℕ) → l ≡ negated l → ⊥
negated-apart l q = by_sign (l % 2 == 0) refl q
  where
    by_sign : (b : Bool) → (l % 2 == 0) ≡ b → l ≡ cond b (l + 1) (l - 1) → ⊥
    by_sign true k m = absurd (omega arith)
    by_sign false k m = let odd = eqb-false (l % 2) 0 k in absurd (omega arith)

pub sound-consistent : (n : Node) → IsSound n → IsConsistentTrail n.trail
sound-consistent n h l a b = negated-apart l (true-same n.variables n.trail [] l (negated l) h.consistent.placed (sym (var_of-negated l)) a b)
