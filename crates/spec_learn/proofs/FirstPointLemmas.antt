-- On its way to the first implication point a clause has two literals of the level or more.
use Rattle.std.proofs.Common.{◌≡◌, ◌≢◌, ℕ, suc, ◌+◌, ◌≤◌, Bool, true, false, cond, ◌==◌, ◌&&◌, ◌||◌, List, [], ◌∷◌, ◌++◌, length, Option, Some, None, refl, sym, ◌∙◌, ap, subst, arith}
use Rattle.std.specs.Prelude.{filter}
use Rattle.std.specs.Option.{option_map_or}
use Rattle.std.proofs.lemmas.Bool.{and_parts, eq-eqb, ne_eqb}
use Rattle.std.proofs.lemmas.List.Sums.{sum_by-append, sum_by-cons}
use Rattle.mal_base.specs.Literals.{var_of}
use Rattle.mal_base.specs.NumberedClause.{NumberedClause}
use Rattle.mal_base.specs.declared.trail_entry.TrailEntry.{TrailEntry}
use Rattle.spec_learn.specs.Analysis.{Walk, Aim, has_var, top, begun, vars_under, keeping, resolving, is_left, is_resolved, after_seen, after_entry, walked}
use Rattle.spec_learn.specs.Analysis.Aim.{Learned}
use Rattle.spec_learn.specs.FirstPoint.{walked_over, on_way, count_at, way_to, ResolvesAboveOne, WayEnds, HasFirstPoints}

-- the walk goes on after the entries that it is over
walk-on : (aim : Aim) (clauses : List NumberedClause) (front rest : List TrailEntry) (w : Walk) → walked aim clauses (front ++ rest) w ≡ walked aim clauses rest (walked_over aim clauses front rest w)
walk-on aim clauses [] rest w = refl
walk-on aim clauses (e ∷ front) rest w = walk-on aim clauses front rest (after_entry aim clauses e (front ++ rest) w)

pub way-ends : WayEnds
way-ends clauses front rest id = walk-on (Learned (top (front ++ rest))) clauses front rest (begun (vars_under clauses id))

abbrev one_if : Bool → ℕ
one_if b = cond b 1 0

count-cons : (level : ℕ) (e : TrailEntry) (es : List TrailEntry) → count_at level (e ∷ es) ≡ one_if (e.level == level) + count_at level es
count-cons level e es = sum_by-cons (λ (x : TrailEntry). one_if (x.level == level)) e es

-- an entry of the level that is seen among those to come counts
left-counts : (level : ℕ) (seen : List ℕ) (past : List TrailEntry) → is_left level seen past ≡ true → 1 ≤ count_at level (filter (λ e. has_var seen (var_of e.lit)) past)
left-counts level seen [] h = absurd (cc)
left-counts level seen (e ∷ past) h = by_level (e.level == level) (has_var seen (var_of e.lit)) refl refl (left-counts level seen past)
  where
    rest : List TrailEntry
    rest = filter (λ x. has_var seen (var_of x.lit)) past

    by_level : (a b : Bool) → (e.level == level) ≡ a → has_var seen (var_of e.lit) ≡ b → (is_left level seen past ≡ true → 1 ≤ count_at level rest) → 1 ≤ count_at level (cond (has_var seen (var_of e.lit)) (e ∷ rest) rest)
    by_level true true p q more = subst (λ (b : Bool). 1 ≤ count_at level (cond b (e ∷ rest) rest)) (sym q) (let one : count_at level (e ∷ rest) ≡ one_if (e.level == level) + count_at level rest = count-cons level e rest in let this : one_if (e.level == level) ≡ 1 = ap one_if p in omega (arith, one, this))
    by_level false true p q more = subst (λ (b : Bool). 1 ≤ count_at level (cond b (e ∷ rest) rest)) (sym q) (let one : count_at level (e ∷ rest) ≡ one_if (e.level == level) + count_at level rest = count-cons level e rest in let behind : 1 ≤ count_at level rest = more (ap (λ (b : Bool). (b && has_var seen (var_of e.lit)) || is_left level seen past) (sym p) ∙ h) in omega (arith, one, behind))
    by_level true false p q more = subst (λ (b : Bool). 1 ≤ count_at level (cond b (e ∷ rest) rest)) (sym q) (more (ap (λ (x : Bool). x || is_left level seen past) (sym (ap (λ (b : Bool). (e.level == level) && b) q ∙ ap (λ (b : Bool). b && false) p)) ∙ h))
    by_level false false p q more = subst (λ (b : Bool). 1 ≤ count_at level (cond b (e ∷ rest) rest)) (sym q) (more (ap (λ (x : Bool). x || is_left level seen past) (sym (ap (λ (b : Bool). b && has_var seen (var_of e.lit)) p)) ∙ h))

longer : (r : ℕ) (hints : List ℕ) → hints ≡ r ∷ hints → ⊥
longer r hints e = let more : length hints ≡ suc (length hints) = ap (λ (xs : List ℕ). length xs) e in absurd (omega (arith, more))

-- an entry that is seen and resolved away has another of its level after it
resolved-left : (level : ℕ) (e : TrailEntry) (seen : List ℕ) (rest : List TrailEntry) → level ≢ 0 → e.level ≡ level → is_resolved (Learned level) e seen rest ≡ true → is_left level seen rest ≡ true
resolved-left level e seen rest above same h =
    let not-zero : (e.level == 0) ≡ false = ne_eqb e.level 0 (λ zero_is. above (sym same ∙ zero_is)) in
    let other : ((e.level == level) && is_left level seen rest) ≡ true = ap (λ (b : Bool). b || ((e.level == level) && is_left level seen rest)) (sym not-zero) ∙ h in
    (and_parts (e.level == level) (is_left level seen rest) other).1

two-on_way : (level : ℕ) (w : Walk) (e : TrailEntry) (rest : List TrailEntry) → e.level ≡ level → has_var w.seen (var_of e.lit) ≡ true → is_left level w.seen rest ≡ true → 2 ≤ count_at level (on_way w (e ∷ rest))
two-on_way level w e rest same seen left =
    let behind : List TrailEntry = filter (λ x. has_var w.seen (var_of x.lit)) rest in
    let one : 1 ≤ count_at level behind = left-counts level w.seen rest left in
    let this : one_if (e.level == level) ≡ 1 = ap one_if (eq-eqb e.level level same) in
    let both : count_at level (e ∷ behind) ≡ one_if (e.level == level) + count_at level behind = count-cons level e behind in
    let all : count_at level (w.kept ++ e ∷ behind) ≡ count_at level w.kept + count_at level (e ∷ behind) = sum_by-append (λ (x : TrailEntry). one_if (x.level == level)) w.kept (e ∷ behind) in
    subst (λ (b : Bool). 2 ≤ count_at level (w.kept ++ cond b (e ∷ behind) behind)) (sym seen) (omega (arith, one, this, both, all))

resolves-two : (level : ℕ) (clauses : List NumberedClause) (w : Walk) (e : TrailEntry) (rest : List TrailEntry) (r : ℕ) → level ≢ 0 → e.level ≡ level → (after_entry (Learned level) clauses e rest w).hints ≡ r ∷ w.hints → 2 ≤ count_at level (on_way w (e ∷ rest))
resolves-two level clauses w e rest r above same = by_seen (has_var w.seen (var_of e.lit)) refl
  where
    by_resolved : (q : ℕ) (b : Bool) → is_resolved (Learned level) e w.seen rest ≡ b → has_var w.seen (var_of e.lit) ≡ true → (cond b (resolving clauses q w) (keeping e w)).hints ≡ r ∷ w.hints → 2 ≤ count_at level (on_way w (e ∷ rest))
    by_resolved q true is seen h = two-on_way level w e rest same seen (resolved-left level e w.seen rest above same is)
    by_resolved q false is seen h = absurd (longer r w.hints h)

    by_reason : (o : Option ℕ) → has_var w.seen (var_of e.lit) ≡ true → (option_map_or (λ q. cond (is_resolved (Learned level) e w.seen rest) (resolving clauses q w) (keeping e w)) o (keeping e w)).hints ≡ r ∷ w.hints → 2 ≤ count_at level (on_way w (e ∷ rest))
    by_reason None seen h = absurd (longer r w.hints h)
    by_reason (Some q) seen h = by_resolved q (is_resolved (Learned level) e w.seen rest) refl seen h

    by_seen : (b : Bool) → has_var w.seen (var_of e.lit) ≡ b → (cond b (after_seen (Learned level) clauses e rest w) w).hints ≡ r ∷ w.hints → 2 ≤ count_at level (on_way w (e ∷ rest))
    by_seen true seen h = by_reason e.reason seen h
    by_seen false seen h = absurd (longer r w.hints h)

pub resolves-above_one : ResolvesAboveOne
resolves-above_one clauses front rest e id r above same h = resolves-two (top (front ++ e ∷ rest)) clauses (way_to clauses front (e ∷ rest) id) e rest r above same h

pub first-points : HasFirstPoints
first-points = record { not_decision = refl; joined = refl; conflict = refl }
