-- The line that derives a literal of level 0 is derived along its hints: the reasons of the others are they alone.
use Rattle.std.proofs.Common.{◌≡◌, ◌≢◌, ℕ, ◌<◌, Bool, true, false, cond, not, List, [], ◌∷◌, ◌++◌, length, find, flat_map, Option, Some, None, refl, sym, ap, ◌∙◌, subst, inl, inr, ◌⊎◌, arith}
use Rattle.std.specs.Prelude.{All, Contains, ◌==◌, ◌||◌, nat_le, filter, take_while}
use Rattle.std.specs.List.{list_any, list_all}
use Rattle.std.specs.Option.{option_map_or, option_to_list}
use Rattle.std.proofs.lemmas.List.Elements.{All-nil, All-cons, All-head, All-tail, All-weaker, All-filter, All-contains, Contains-append_right}
use Rattle.std.proofs.lemmas.List.Sums.{take_while-cons}
use Rattle.std.proofs.lemmas.Bool.{and_parts, or_left, or_right, or_parts, or_cases, eqb-true, eq-eqb, ne_eqb, both_ways, false_from_ne_true, leb-false, eqb-false}
use Rattle.mal_base.specs.Literals.{var_of, negated}
use Rattle.mal_base.specs.NumberedClause.{NumberedClause, Line, lits_under}
use Rattle.mal_base.specs.declared.trail_entry.TrailEntry.{TrailEntry}
use Rattle.spec_logic.specs.Derivation.{derivation, propagation, left_of, effect_of_lits, is_true as has_true, is_false as has_false}
use Rattle.spec_logic.specs.Derivation.Effect.{Conflicts}
use Rattle.spec_logic.specs.Derivation.Derivation.{Derived}
use Rattle.spec_node.specs.State.{Node}
use Rattle.spec_node.specs.Value.{is_true, is_false, has_value, level_of}
use Rattle.spec_node.specs.Sound.{EachAfter, IsPlaced, IsForced, IsReason, IsSound}
use Rattle.spec_node.proofs.SettledLemmas.{var_of-negated}
use Rattle.spec_node.proofs.TrailLemmas.{each-at, each-front, each-weaker, is_true-more, value-from_true}
use Rattle.spec_learn.specs.Analysis.{has_var, vars_in, vars_under}
use Rattle.spec_learn.specs.Learning.{holding, derived_id, line_of}
use Rattle.spec_learn.specs.Refuting.{core_line}
use Rattle.spec_learn.proofs.CoreLemmas.{core-derived}
use Rattle.spec_learn.proofs.ProfileLemmas.{sound-derived}
use Rattle.spec_learn.proofs.SoundParts.{below-derived}
use Rattle.spec_learn.proofs.BehindLemmas.{held-under, negated-apart, sound-consistent}
use Rattle.spec_search.specs.Derived.{IsHeld}
use Rattle.spec_guided.specs.Glue.{lits_of}
use Rattle.spec_guided.specs.Unit.{is_forced_by_long, next_unit, others_reasons, unit_hints, unit_line}
use Rattle.spec_guided.specs.Step.{line_by}
use Rattle.spec_guided.specs.Laws.{IsDerivedLine, LineIsDerived}
use Rattle.spec_guided.proofs.CaseLemmas.{by_cases}
use Rattle.spec_guided.proofs.UnitLemmas.{IsForcedAtZero, forced-zero, each-both}

-- the entry that is found, those before it, which fail the test, and those after
record IsFound (test : TrailEntry → Bool) (es : List TrailEntry) (e : TrailEntry) : Type 0 where
  before : List TrailEntry
  after : List TrailEntry
  whole : es ≡ before ++ e ∷ after
  failed : All (λ o. test o ≡ false) before
  passed : test e ≡ true

found : (test : TrailEntry → Bool) (es : List TrailEntry) (e : TrailEntry) → find test es ≡ Some e → IsFound test es e
found test [] e q = absurd (cc)
found test (x ∷ es) e q = by_test (found test es e) (test x) refl q
  where
    by_test : (find test es ≡ Some e → IsFound test es e) → (b : Bool) → test x ≡ b → cond {A = Option TrailEntry} b (Some x) (find test es) ≡ Some e → IsFound test (x ∷ es) e
    by_test g true t k = let same : x ≡ e = ap (λ (o : Option TrailEntry). option_map_or (λ (y : TrailEntry). y) o x) k in record { before = []; after = es; whole = ap (λ (y : TrailEntry). y ∷ es) same; failed = All-nil (λ o. test o ≡ false); passed = subst (λ (y : TrailEntry). test y ≡ true) same t }
    by_test g false t k = let f : IsFound test es e = g k in record { before = x ∷ f.before; after = f.after; whole = ap (λ (ys : List TrailEntry). x ∷ ys) f.whole; failed = All-cons (λ o. test o ≡ false) x f.before t f.failed; passed = f.passed }

-- none of the entries before has the literal of one that is placed after them
others-differ : (before : List TrailEntry) (l : ℕ) → has_value before (var_of l) ≡ false → All (λ o. (o.lit == l) ≡ false) before
others-differ [] l h = All-nil (λ o. (o.lit == l) ≡ false)
others-differ (o ∷ os) l h = let parts = or_parts (var_of l == var_of o.lit) (has_value os (var_of l)) h in All-cons (λ x. (x.lit == l) ≡ false) o os (ne_eqb o.lit l (λ q. let other = eqb-false (var_of l) (var_of o.lit) parts.0 in other (ap var_of (sym q)))) (others-differ os l parts.1)

taken-before : (before : List TrailEntry) (e : TrailEntry) (after : List TrailEntry) → All (λ o. (o.lit == e.lit) ≡ false) before → take_while (λ o. not (o.lit == e.lit)) (before ++ e ∷ after) ≡ before
taken-before [] e after h = take_while-cons (λ o. not (o.lit == e.lit)) e after ∙ ap (λ (b : Bool). cond {A = List TrailEntry} (not b) (e ∷ take_while (λ o. not (o.lit == e.lit)) after) []) (eq-eqb e.lit e.lit refl)
taken-before (o ∷ os) e after h = take_while-cons (λ x. not (x.lit == e.lit)) o (os ++ e ∷ after) ∙ (ap (λ (b : Bool). cond {A = List TrailEntry} (not b) (o ∷ take_while (λ x. not (x.lit == e.lit)) (os ++ e ∷ after)) []) (All-head (λ x. (x.lit == e.lit) ≡ false) o os h) ∙ ap (λ (xs : List TrailEntry). o ∷ xs) (taken-before os e after (All-tail (λ x. (x.lit == e.lit) ≡ false) o os h)))

-- an entry whose reason is its literal alone
record IsUnit (clauses : List NumberedClause) (o : TrailEntry) : Type 0 where
  by : ℕ
  reason : o.reason ≡ Some by
  alone : lits_under by clauses ≡ Some (o.lit ∷ [])

-- a clause of at most one literal that has this one is it alone
alone-is : (lits : List ℕ) (l : ℕ) → nat_le 2 (length lits) ≡ false → list_any (λ m. m == l) lits ≡ true → lits ≡ l ∷ []
alone-is [] l s h = absurd (cc)
alone-is (m ∷ []) l s h = ap (λ (x : ℕ). x ∷ []) (eqb-true m l (by_only (or_cases (m == l) false h)))
  where
    by_only : ((m == l) ≡ true) ⊎ (false ≡ true) → (m == l) ≡ true
    by_only (inl q) = q
    by_only (inr q) = absurd (cc)
alone-is (m ∷ k ∷ ms) l s h = let short : length (m ∷ k ∷ ms) < 2 = leb-false 2 (length (m ∷ k ∷ ms)) s in absurd (omega arith)

forced-unit : (n : Node) (b : List TrailEntry) (o : TrailEntry) → IsSound n → IsForced n.clauses b o → (o.reason ≡ None → ⊥) → is_forced_by_long n.clauses o ≡ false → IsUnit n.clauses o
forced-unit n b o h forced some short = by_reason o.reason refl
  where
    by_reason : (r : Option ℕ) → o.reason ≡ r → IsUnit n.clauses o
    by_reason None q = absurd (some q)
    by_reason (Some r) q =
        let y = forced r q in
        let held : lits_under r n.clauses ≡ Some y.0.lits = subst (λ (x : ℕ). lits_under x n.clauses ≡ Some y.0.lits) y.2 (held-under 1 n.clauses y.0 h.ranged.numbers y.1) in
        let few : nat_le 2 (length y.0.lits) ≡ false = ap (λ (c : Option (List ℕ)). nat_le 2 (length (option_map_or (λ (lits : List ℕ). lits) c []))) (sym held) ∙ (ap (λ (x : Option ℕ). option_map_or (λ i. nat_le 2 (length (lits_of n.clauses i))) x false) (sym q) ∙ short) in
        record { by = r; reason = q; alone = held ∙ ap (λ (lits : List ℕ). Some lits) (alone-is y.0.lits o.lit few y.3.own) }

-- true literals along the way: the negation of the literal that is derived, and what is true before it
abbrev IsWithin : ℕ → List TrailEntry → List ℕ → Type 0
IsWithin l before trues = (m : ℕ) → has_true trues m ≡ true → (m ≡ negated l) ⊎ (is_true before m ≡ true)

-- what a hint that is a literal alone does
makes-or-passes : (clauses : List NumberedClause) (r x : ℕ) (rest trues : List ℕ) → lits_under r clauses ≡ Some (x ∷ []) → has_false trues x ≡ false → (has_true trues x ≡ true → propagation (holding clauses) trues rest ≡ Derived) → propagation (holding clauses) (x ∷ trues) rest ≡ Derived → propagation (holding clauses) trues (r ∷ rest) ≡ Derived
makes-or-passes clauses r x rest trues held unset pass make = by_true (has_true trues x) refl
  where
    by_true : (b : Bool) → has_true trues x ≡ b → propagation (holding clauses) trues (r ∷ rest) ≡ Derived
    by_true true q = rw held (rw q (pass q))
    by_true false q = rw held (rw q (rw unset make))

units-make : (clauses : List NumberedClause) (l : ℕ) (before os : List TrailEntry) (rest trues : List ℕ) → All (IsUnit clauses) os → All (λ o. (is_true before o.lit ≡ true) × (is_false before o.lit ≡ false) × (negated o.lit ≢ negated l)) os → IsWithin l before trues → ((more : List ℕ) → IsWithin l before more → ((m : ℕ) → has_true trues m ≡ true → has_true more m ≡ true) → All (λ o. has_true more o.lit ≡ true) os → propagation (holding clauses) more rest ≡ Derived) → propagation (holding clauses) trues (flat_map (λ o. option_to_list o.reason) os ++ rest) ≡ Derived
units-make clauses l before [] rest trues units places within k = k trues within (λ m t. t) (All-nil (λ o. has_true trues o.lit ≡ true))
units-make clauses l before (o ∷ os) rest trues units places within k =
    let u : IsUnit clauses o = All-head (IsUnit clauses) o os units in
    let place = All-head (λ x. (is_true before x.lit ≡ true) × (is_false before x.lit ≡ false) × (negated x.lit ≢ negated l)) o os places in
    let more_units = All-tail (IsUnit clauses) o os units in
    let more_places = All-tail (λ x. (is_true before x.lit ≡ true) × (is_false before x.lit ≡ false) × (negated x.lit ≢ negated l)) o os places in
    let unset : has_false trues o.lit ≡ false = false_from_ne_true (has_false trues o.lit) (λ t. by_negation place (within (negated o.lit) t)) in
    rw u.reason (makes-or-passes clauses u.by o.lit (flat_map (λ x. option_to_list x.reason) os ++ rest) trues u.alone unset
    (λ t. units-make clauses l before os rest trues more_units more_places within (λ more w grows all. k more w grows (All-cons (λ x. has_true more x.lit ≡ true) o os (grows o.lit t) all)))
    (units-make clauses l before os rest (o.lit ∷ trues) more_units more_places (with_one place.0) (λ more w grows all. k more w (λ m t. grows m (or_right _ _ t)) (All-cons (λ x. has_true more x.lit ≡ true) o os (grows o.lit (or_left _ _ (eq-eqb o.lit o.lit refl))) all))))
  where
    by_negation : (is_true before o.lit ≡ true) × (is_false before o.lit ≡ false) × (negated o.lit ≢ negated l) → (negated o.lit ≡ negated l) ⊎ (is_true before (negated o.lit) ≡ true) → ⊥
    by_negation p (inl q) = p.2 q
    by_negation p (inr q) = both_ways (is_false before o.lit) p.1 q

    with_one : is_true before o.lit ≡ true → IsWithin l before (o.lit ∷ trues)
    with_one t m h = by_place (or_cases (o.lit == m) (has_true trues m) h)
      where
        by_place : ((o.lit == m) ≡ true) ⊎ (has_true trues m ≡ true) → (m ≡ negated l) ⊎ (is_true before m ≡ true)
        by_place (inl q) = inr (subst (λ (x : ℕ). is_true before x ≡ true) (eqb-true o.lit m q) t)
        by_place (inr q) = within m q

-- what is true before has its variable there, so it is known where that is
known-true : (p : TrailEntry → Bool) (more : List ℕ) (x : ℕ) (before : List TrailEntry) → ((o : TrailEntry) → o.lit ≡ x → p o ≡ true) → All (λ o. has_true more o.lit ≡ true) (filter p before) → is_true before x ≡ true → has_true more x ≡ true
known-true p more x [] f h t = absurd (cc)
known-true p more x (o ∷ os) f h t = by_here (known-true p more x os f) (o.lit == x) refl (p o) refl h t
  where
    by_here : (All (λ y. has_true more y.lit ≡ true) (filter p os) → is_true os x ≡ true → has_true more x ≡ true) → (b : Bool) → (o.lit == x) ≡ b → (c : Bool) → p o ≡ c → All (λ y. has_true more y.lit ≡ true) (cond c (o ∷ filter p os) (filter p os)) → (b || is_true os x) ≡ true → has_true more x ≡ true
    by_here g true q true k a m = subst (λ (y : ℕ). has_true more y ≡ true) (eqb-true o.lit x q) (All-head (λ y. has_true more y.lit ≡ true) o (filter p os) a)
    by_here g true q false k a m = absurd (both_ways (p o) k (f o (eqb-true o.lit x q)))
    by_here g false q true k a m = g (All-tail (λ y. has_true more y.lit ≡ true) o (filter p os) a) m
    by_here g false q false k a m = g a m

-- a clause whose literals are all false, and none of them true, is a conflict
all-false : (more lits : List ℕ) → All (λ m. (has_true more m ≡ false) × (has_false more m ≡ true)) lits → effect_of_lits more lits ≡ Conflicts
all-false more lits h = rw (none lits h) (rw (nothing lits h) refl)
  where
    none : (ms : List ℕ) → All (λ m. (has_true more m ≡ false) × (has_false more m ≡ true)) ms → list_any (has_true more) ms ≡ false
    none [] k = refl
    none (m ∷ ms) k = rw (All-head (λ x. (has_true more x ≡ false) × (has_false more x ≡ true)) m ms k).0 (none ms (All-tail (λ x. (has_true more x ≡ false) × (has_false more x ≡ true)) m ms k))

    nothing : (ms : List ℕ) → All (λ m. (has_true more m ≡ false) × (has_false more m ≡ true)) ms → left_of more ms ≡ []
    nothing [] k = refl
    nothing (m ∷ ms) k = rw (All-head (λ x. (has_true more x ≡ false) × (has_false more x ≡ true)) m ms k).1 (nothing ms (All-tail (λ x. (has_true more x ≡ false) × (has_false more x ≡ true)) m ms k))

members : (lits : List ℕ) → All (λ m. list_any (λ x. x == m) lits ≡ true) lits
members [] = All-nil (λ m. list_any (λ x. x == m) [] ≡ true)
members (l ∷ ls) = All-cons (λ m. list_any (λ x. x == m) (l ∷ ls) ≡ true) l ls (or_left _ _ (eq-eqb l l refl)) (All-weaker (λ m. list_any (λ x. x == m) ls ≡ true) (λ m. list_any (λ x. x == m) (l ∷ ls) ≡ true) (λ m q. or_right _ _ q) ls (members ls))

var-member : (lits : List ℕ) (m : ℕ) → list_any (λ x. x == m) lits ≡ true → has_var (vars_in lits) (var_of m) ≡ true
var-member [] m h = absurd (cc)
var-member (l ∷ ls) m h = by_place (var-member ls m) (or_cases (l == m) (list_any (λ x. x == m) ls) h)
  where
    by_place : (list_any (λ x. x == m) ls ≡ true → has_var (vars_in ls) (var_of m) ≡ true) → ((l == m) ≡ true) ⊎ (list_any (λ x. x == m) ls ≡ true) → has_var (vars_in (l ∷ ls)) (var_of m) ≡ true
    by_place g (inl q) = or_left _ _ (eq-eqb (var_of m) (var_of l) (ap var_of (sym (eqb-true l m q))))
    by_place g (inr q) = or_right _ _ (g q)

-- the reason of the literal is a conflict where its other literals are known to be false, and the literal is
reason-conflicts : (before : List TrailEntry) (l : ℕ) (more lits : List ℕ) → ((m : ℕ) → is_true before m ≡ true → is_false before m ≡ true → ⊥) → has_value before (var_of l) ≡ false → IsWithin l before more → has_true more (negated l) ≡ true → list_all (λ m. (m == l) || is_false before m) lits ≡ true → All (λ o. has_true more o.lit ≡ true) (filter (λ o. has_var (vars_in lits) (var_of o.lit)) before) → effect_of_lits more lits ≡ Conflicts
reason-conflicts before l more lits apart free within negation others known = all-false more lits (each lits others (members lits))
  where
    not-own : (m : ℕ) → var_of m ≡ var_of l → is_true before m ≡ true → ⊥
    not-own m v t = both_ways (has_value before (var_of l)) free (value-from_true before m (var_of l) (sym v) t)

    own-false : (m : ℕ) → (m == l) ≡ true → (has_true more m ≡ false) × (has_false more m ≡ true)
    own-false m q =
        let same : m ≡ l = eqb-true m l q in
        (false_from_ne_true (has_true more m) (λ t. by_source (within m t)), subst (λ (x : ℕ). has_true more (negated x) ≡ true) (sym same) negation)
      where
        by_source : (m ≡ negated l) ⊎ (is_true before m ≡ true) → ⊥
        by_source (inl k) = negated-apart l (sym (eqb-true m l q) ∙ k)
        by_source (inr k) = not-own m (ap var_of (eqb-true m l q)) k

    other-false : (m : ℕ) → list_any (λ x. x == m) lits ≡ true → is_false before m ≡ true → (has_true more m ≡ false) × (has_false more m ≡ true)
    other-false m member f =
        (false_from_ne_true (has_true more m) (λ t. by_source (within m t)), known-true (λ o. has_var (vars_in lits) (var_of o.lit)) more (negated m) before (λ o q. subst (λ (v : ℕ). has_var (vars_in lits) v ≡ true) (sym (ap var_of q ∙ var_of-negated m)) (var-member lits m member)) known f)
      where
        by_source : (m ≡ negated l) ⊎ (is_true before m ≡ true) → ⊥
        by_source (inl k) = not-own (negated m) (var_of-negated m ∙ (ap var_of k ∙ var_of-negated l)) f
        by_source (inr k) = apart m k f

    each : (ms : List ℕ) → list_all (λ m. (m == l) || is_false before m) ms ≡ true → All (λ m. list_any (λ x. x == m) lits ≡ true) ms → All (λ m. (has_true more m ≡ false) × (has_false more m ≡ true)) ms
    each [] h k = All-nil (λ m. (has_true more m ≡ false) × (has_false more m ≡ true))
    each (m ∷ ms) h k =
        let parts = and_parts ((m == l) || is_false before m) (list_all (λ x. (x == l) || is_false before x) ms) h in
        All-cons (λ x. (has_true more x ≡ false) × (has_false more x ≡ true)) m ms (by_place (or_cases (m == l) (is_false before m) parts.0)) (each ms parts.1 (All-tail (λ x. list_any (λ y. y == x) lits ≡ true) m ms k))
      where
        by_place : ((m == l) ≡ true) ⊎ (is_false before m ≡ true) → (has_true more m ≡ false) × (has_false more m ≡ true)
        by_place (inl q) = own-false m q
        by_place (inr q) = other-false m (All-head (λ x. list_any (λ y. y == x) lits ≡ true) m ms k) q

-- what holds of each entry, whatever stands before it
pub each-all : (P : TrailEntry → Type 0) (es before : List TrailEntry) → EachAfter (λ b e. P e) before es → All P es
each-all P [] before h = All-nil P
each-all P (e ∷ es) before h = All-cons P e es h.0 (each-all P es (before ++ e ∷ []) h.1)

all-true : (es : List TrailEntry) → All (λ o. is_true es o.lit ≡ true) es
all-true [] = All-nil (λ o. is_true [] o.lit ≡ true)
all-true (e ∷ es) = All-cons (λ o. is_true (e ∷ es) o.lit ≡ true) e es (or_left _ _ (eq-eqb e.lit e.lit refl)) (All-weaker (λ o. is_true es o.lit ≡ true) (λ o. is_true (e ∷ es) o.lit ≡ true) (λ o q. or_right _ _ q) es (all-true es))

all-both : (P Q : TrailEntry → Type 0) (es : List TrailEntry) → All P es → All Q es → All (λ e. P e × Q e) es
all-both P Q [] h k = All-nil (λ e. P e × Q e)
all-both P Q (e ∷ es) h k = All-cons (λ x. P x × Q x) e es (All-head P e es h, All-head Q e es k) (all-both P Q es (All-tail P e es h) (All-tail Q e es k))

-- the line of a literal of level 0 is derived along its hints, and these are held
unit-derived : (n : Node) (e : TrailEntry) → IsSound n → level_of n.trail ≡ 0 → IsFound (is_forced_by_long n.clauses) n.trail e → derivation (holding n.clauses) (Some (e.lit ∷ [])) (unit_hints n e) ≡ Derived
unit-derived n e h z f = by_reason e.reason refl
  where
    clauses : List NumberedClause
    clauses = n.clauses

    before : List TrailEntry
    before = f.before

    on_trail : (P : List TrailEntry → TrailEntry → Type 0) → EachAfter P [] n.trail → EachAfter P [] (before ++ e ∷ f.after)
    on_trail P k = subst (EachAfter P []) f.whole k

    placed : IsPlaced n.variables before e
    placed = each-at (IsPlaced n.variables) before e f.after [] (on_trail (IsPlaced n.variables) h.consistent.placed)

    forced : IsForced clauses before e
    forced = each-at (IsForced clauses) before e f.after [] (on_trail (IsForced clauses) h.reasons)

    true-later : (m : ℕ) → is_true before m ≡ true → is_true n.trail m ≡ true
    true-later m t = subst (λ (u : List TrailEntry). is_true u m ≡ true) (sym f.whole) (is_true-more before (e ∷ f.after) m t)

    apart : (m : ℕ) → is_true before m ≡ true → is_false before m ≡ true → ⊥
    apart m t k = sound-consistent n h m (true-later m t) (true-later (negated m) k)

    units : All (IsUnit clauses) before
    units = All-weaker (λ o. ((is_forced_by_long clauses o ≡ false) → IsUnit clauses o) × (is_forced_by_long clauses o ≡ false)) (IsUnit clauses) (λ o x. x.0 x.1) before (all-both (λ o. (is_forced_by_long clauses o ≡ false) → IsUnit clauses o) (λ o. is_forced_by_long clauses o ≡ false) before (each-all (λ o. (is_forced_by_long clauses o ≡ false) → IsUnit clauses o) before [] (each-weaker (λ b o. IsForced clauses b o × IsForcedAtZero b o) (λ b o. (is_forced_by_long clauses o ≡ false) → IsUnit clauses o) (λ b o x s. forced-unit n b o h x.0 x.1.0 s) before [] (each-front (λ b o. IsForced clauses b o × IsForcedAtZero b o) before (e ∷ f.after) [] (on_trail (λ b o. IsForced clauses b o × IsForcedAtZero b o) (each-both (IsForced clauses) IsForcedAtZero n.trail [] h.reasons (forced-zero n.trail [] h.consistent.levels z)))))) f.failed)

    not-own : (o : TrailEntry) → is_true before o.lit ≡ true → negated o.lit ≢ negated e.lit
    not-own o t q = both_ways (has_value before (var_of e.lit)) placed.free (value-from_true before o.lit (var_of e.lit) (sym (var_of-negated e.lit) ∙ (ap var_of (sym q) ∙ var_of-negated o.lit)) t)

    places : All (λ o. (is_true before o.lit ≡ true) × (is_false before o.lit ≡ false) × (negated o.lit ≢ negated e.lit)) before
    places = All-weaker (λ o. is_true before o.lit ≡ true) (λ o. (is_true before o.lit ≡ true) × (is_false before o.lit ≡ false) × (negated o.lit ≢ negated e.lit)) (λ o t. (t, false_from_ne_true (is_false before o.lit) (λ k. apart o.lit t k), not-own o t)) before (all-true before)

    by_clause : (r : ℕ) → (c : NumberedClause) × Contains clauses c × (c.id ≡ r) × IsReason before e c → propagation (holding clauses) (negated e.lit ∷ []) (others_reasons n e r ++ r ∷ []) ≡ Derived
    by_clause r y =
        let lits : List ℕ = y.0.lits in
        let held : lits_under r clauses ≡ Some lits = subst (λ (x : ℕ). lits_under x clauses ≡ Some lits) y.2 (held-under 1 clauses y.0 h.ranged.numbers y.1) in
        let vars : vars_under clauses r ≡ vars_in lits = ap (λ (o : Option (List ℕ)). option_map_or vars_in o []) held in
        let p : TrailEntry → Bool = (λ o. has_var (vars_under clauses r) (var_of o.lit)) in
        let taken : take_while (λ o. not (o.lit == e.lit)) n.trail ≡ before = ap (take_while (λ o. not (o.lit == e.lit))) f.whole ∙ taken-before before e f.after (others-differ before e.lit placed.free) in
        let others : others_reasons n e r ≡ flat_map (λ o. option_to_list o.reason) (filter p before) = ap (λ (es : List TrailEntry). flat_map (λ (o : TrailEntry). option_to_list o.reason) (filter p es)) taken in
        subst (λ (hints : List ℕ). propagation (holding clauses) (negated e.lit ∷ []) (hints ++ r ∷ []) ≡ Derived) (sym others)
        (units-make clauses e.lit before (filter p before) (r ∷ []) (negated e.lit ∷ []) (All-filter p (IsUnit clauses) before units) (All-filter p (λ o. (is_true before o.lit ≡ true) × (is_false before o.lit ≡ false) × (negated o.lit ≢ negated e.lit)) before places) at_first
        (λ more within grows known. rw held (rw (reason-conflicts before e.lit more lits apart placed.free within (grows (negated e.lit) (or_left _ _ (eq-eqb (negated e.lit) (negated e.lit) refl))) y.3.others (subst (λ (vs : List ℕ). All (λ o. has_true more o.lit ≡ true) (filter (λ o. has_var vs (var_of o.lit)) before)) vars known)) refl)))
      where
        at_first : IsWithin e.lit before (negated e.lit ∷ [])
        at_first m t = by_only (or_cases (negated e.lit == m) false t)
          where
            by_only : ((negated e.lit == m) ≡ true) ⊎ (false ≡ true) → (m ≡ negated e.lit) ⊎ (is_true before m ≡ true)
            by_only (inl q) = inl (sym (eqb-true (negated e.lit) m q))
            by_only (inr q) = absurd (cc)

    by_reason : (o : Option ℕ) → e.reason ≡ o → derivation (holding clauses) (Some (e.lit ∷ [])) (unit_hints n e) ≡ Derived
    by_reason None q = absurd (both_ways (is_forced_by_long clauses e) (ap (λ (x : Option ℕ). option_map_or (λ r. nat_le 2 (length (lits_of clauses r))) x false) q) f.passed)
    by_reason (Some r) q = subst (λ (x : Option ℕ). propagation (holding clauses) (negated e.lit ∷ []) (option_map_or (λ i. others_reasons n e i ++ i ∷ []) x []) ≡ Derived) (sym q) (by_clause r (forced r q))

pub next-unit-derived : (n : Node) (e : TrailEntry) → IsSound n → next_unit n ≡ Some e → derivation (holding n.clauses) (Some (e.lit ∷ [])) (unit_hints n e) ≡ Derived
next-unit-derived n e h q = by_level (level_of n.trail == 0) refl q
  where
    by_level : (b : Bool) → (level_of n.trail == 0) ≡ b → cond {A = Option TrailEntry} b (find (is_forced_by_long n.clauses) n.trail) None ≡ Some e → derivation (holding n.clauses) (Some (e.lit ∷ [])) (unit_hints n e) ≡ Derived
    by_level true z k = unit-derived n e h (eqb-true (level_of n.trail) 0 z) (found (is_forced_by_long n.clauses) n.trail e k)
    by_level false z k = absurd (cc)

-- a step of a guided node that derives a line derives it from what is held, under a number above all of it
pub line-derived : LineIsDerived
line-derived s h l q = by_cases (λ c. (o : Line) → line_by c s ≡ Some o → IsDerivedLine s.node o) s (record {
  learns = λ id c some o k. of_line (line_of id s.node) o k (sound-derived s.node id h.sound c) refl;
  refutes = λ id c z o k. of_line (line_of id s.node) o k (sound-derived s.node id h.sound c) refl;
  propagates = λ calm low o k. absurd (cc);
  unites = λ idle e c o k. of_line (unit_line s.node e) o k (next-unit-derived s.node e h.sound c) refl;
  reduces = λ idle o k. absurd (cc);
  restarts = λ idle v o k. absurd (cc);
  contradicts = λ idle a c f o k. of_line (core_line a s.node) o k (core-derived s.node a h.sound (record { first = c; fell = f })) refl;
  assumes = λ idle a c f o k. absurd (cc);
  decides = λ idle v c f o k. absurd (cc);
  ends = λ idle c f o k. absurd (cc);
}) l q
  where
    of_line : (m o : Line) → Some m ≡ Some o → derivation (holding s.node.clauses) (Some m.lits) m.hints ≡ Derived → m.id ≡ derived_id s.node → IsDerivedLine s.node o
    of_line m o k d i =
        let same : m ≡ o = ap (λ (x : Option Line). option_map_or (λ (y : Line). y) x m) k in
        record {
          derived = subst (λ (y : Line). derivation (holding s.node.clauses) (Some y.lits) y.hints ≡ Derived) same d;
          number = ap (λ (y : Line). y.id) (sym same) ∙ i;
          above = below-derived s.node.serial s.node.index s.node.clauses h.sound.ranged.serial;
        }

-- an entry's reason is held
abbrev IsReasoned : List NumberedClause → TrailEntry → Type 0
IsReasoned clauses o = (r : ℕ) → o.reason ≡ Some r → IsHeld clauses r

taken-reasoned : (P : TrailEntry → Type 0) (p : TrailEntry → Bool) (es : List TrailEntry) → All P es → All P (take_while p es)
taken-reasoned P p [] h = All-nil P
taken-reasoned P p (e ∷ es) h = subst (All P) (sym (take_while-cons p e es)) (by_test (p e) (taken-reasoned P p es (All-tail P e es h)))
  where
    by_test : (b : Bool) → All P (take_while p es) → All P (cond b (e ∷ take_while p es) [])
    by_test true k = All-cons P e (take_while p es) (All-head P e es h) k
    by_test false k = All-nil P

reasons-held : (clauses : List NumberedClause) (es : List TrailEntry) (more : List ℕ) → All (IsReasoned clauses) es → All (IsHeld clauses) more → All (IsHeld clauses) (flat_map (λ o. option_to_list o.reason) es ++ more)
reasons-held clauses [] more h k = k
reasons-held clauses (e ∷ es) more h k = by_reason e.reason refl (reasons-held clauses es more (All-tail (IsReasoned clauses) e es h) k)
  where
    own : IsReasoned clauses e
    own = All-head (IsReasoned clauses) e es h

    by_reason : (o : Option ℕ) → e.reason ≡ o → All (IsHeld clauses) (flat_map (λ x. option_to_list x.reason) es ++ more) → All (IsHeld clauses) ((option_to_list o ++ flat_map (λ x. option_to_list x.reason) es) ++ more)
    by_reason None q rest = rest
    by_reason (Some r) q rest = All-cons (IsHeld clauses) r (flat_map (λ x. option_to_list x.reason) es ++ more) (own r q) rest

-- the hints of a unit clause are held
pub unit-hints-held : (n : Node) (e : TrailEntry) → IsSound n → next_unit n ≡ Some e → All (IsHeld n.clauses) (unit_hints n e)
unit-hints-held n e h q = by_level (level_of n.trail == 0) q
  where
    reasoned : All (IsReasoned n.clauses) n.trail
    reasoned = each-all (IsReasoned n.clauses) n.trail [] (each-weaker (IsForced n.clauses) (λ b o. IsReasoned n.clauses o) (λ b o f r k. let y = f r k in (y.0, y.1, y.2)) n.trail [] h.reasons)

    entry : IsReasoned n.clauses e → (o : Option ℕ) → e.reason ≡ o → All (IsHeld n.clauses) (option_map_or (λ r. others_reasons n e r ++ r ∷ []) o [])
    entry own None k = All-nil (IsHeld n.clauses)
    entry own (Some r) k = reasons-held n.clauses (filter (λ o. has_var (vars_under n.clauses r) (var_of o.lit)) (take_while (λ o. not (o.lit == e.lit)) n.trail)) (r ∷ []) (All-filter (λ o. has_var (vars_under n.clauses r) (var_of o.lit)) (IsReasoned n.clauses) (take_while (λ o. not (o.lit == e.lit)) n.trail) (taken-reasoned (IsReasoned n.clauses) (λ o. not (o.lit == e.lit)) n.trail reasoned)) (All-cons (IsHeld n.clauses) r [] (own r k) (All-nil (IsHeld n.clauses)))

    by_level : (b : Bool) → cond {A = Option TrailEntry} b (find (is_forced_by_long n.clauses) n.trail) None ≡ Some e → All (IsHeld n.clauses) (unit_hints n e)
    by_level true k =
        let f : IsFound (is_forced_by_long n.clauses) n.trail e = found (is_forced_by_long n.clauses) n.trail e k in
        let whole : All (IsReasoned n.clauses) (f.before ++ e ∷ f.after) = subst (All (IsReasoned n.clauses)) f.whole reasoned in
        entry (All-contains (IsReasoned n.clauses) (f.before ++ e ∷ f.after) e whole (Contains-append_right f.before (e ∷ f.after) e (0, omega arith, refl))) e.reason refl
    by_level false k = absurd (cc)
