use Rattle.std.proofs.Common.{◌≡◌, ℕ, zero, suc, ◌+◌, ◌-◌, ◌<◌, ◌≤◌, Bool, true, false, cond, List, [], ◌∷◌, ◌++◌, length, get_or, take, reverse, replicate, Option, Some, None, refl, sym, ap, ◌∙◌, subst, append_assoc, append-nil, arith}
use Rattle.std.specs.Prelude.{◌==◌, ◌||◌, slice_get}
use Rattle.std.specs.Option.{option_map_or}
use Rattle.std.proofs.lemmas.List.{length_push, length-replicate, get_or-replicate, reverse-append}
use Rattle.std.proofs.lemmas.List.Elements.{All-nil, All-cons, All-head, All-tail}
use Rattle.std.proofs.lemmas.List.Folds.{list_any-append}
use Rattle.mal_base.specs.Literals.{var_of, negated}
use Rattle.mal_base.specs.NumberedClause.{NumberedClause}
use Rattle.mal_base.specs.declared.trail_entry.TrailEntry.{TrailEntry}
use Rattle.spec_learn.specs.Analysis.{Walk, Analysed, has_var, vars_in, vars_under, begun, keeping, resolving, is_resolved, after_seen, after_entry, walked, clause_of, reached, core, core_at}
use Rattle.spec_learn.specs.Analysis.Aim.{Final}
use Rattle.spec_learn.proofs.CoreLemmas.{assumed, with_base, base-walked, clause-turned}
use Rattle.mal_learn.specs.Working.{State, see_all, lits_of, resolved}
use Rattle.mal_learn.specs.Tracing.{begun_with, by_cause, traced, traced_all, traced_after, traced_from}
use Rattle.mal_learn.specs.Shown.{Work, IsFitted, IsFinished, HasRoom, EntriesWithin}
use Rattle.mal_learn.proofs.SortLemmas.{negations, turned, turned-back, sorted-clause}
use Rattle.mal_learn.proofs.ShowsLemmas.{IsSeen, same-seen, see_all-shows, vars-of, AreBelow}
use Rattle.mal_learn.proofs.AnalysedLemmas.{clauses-below, entries-within, IsFound}
use Rattle.mal_learn.proofs.WalkLemmas.{Leaves, see_all-leaves, reverse-got, AddsOne, resolved-adds}

-- each entry adds a literal or a hint at most
pub traced-adds : (clauses : List NumberedClause) (e : TrailEntry) (s : State) → AddsOne s (traced clauses e s)
traced-adds clauses e s = by_seen (get_or s.seen (var_of e.lit) false)
  where
    by_reason : (o : Option ℕ) → AddsOne s (by_cause clauses e s o)
    by_reason None = record { lits = omega (arith, length_push s.lits (negated e.lit)); hints = omega arith }
    by_reason (Some r) = resolved-adds clauses r s

    by_seen : (b : Bool) → AddsOne s (cond b (by_cause clauses e s e.reason) s)
    by_seen true = by_reason e.reason
    by_seen false = record { lits = omega arith; hints = omega arith }

-- how far a walk has come
pub trace-step : (clauses : List NumberedClause) (made n : ℕ) (es : List TrailEntry) (e : TrailEntry) (s : State) → n ≤ length es → made < n → slice_get es (n - 1 - made) ≡ Some e → traced_all clauses (reverse (take (n - made) es)) s ≡ traced_all clauses (reverse (take (n - (made + 1)) es)) (traced clauses e s)
trace-step clauses made n es e s m l q =
    let one : n - made ≡ n - 1 - made + 1 = omega arith in
    let two : n - (made + 1) ≡ n - 1 - made = omega arith in
    rw (one, two) (ap (λ (xs : List TrailEntry). traced_all clauses xs s) (reverse-got es (n - 1 - made) e (omega arith) q))

-- from the last of the first entries on
from-last : (clauses : List NumberedClause) (n : ℕ) (es : List TrailEntry) (e : TrailEntry) (s : State) → 0 < n → n ≤ length es → slice_get es (n - 1) ≡ Some e → traced_from clauses (reverse (take n es)) s ≡ traced_after clauses (reverse (take (n - 1) es)) s e.reason
from-last clauses n es e s l m q =
    let one : n ≡ n - 1 + 1 = omega arith in
    ap (λ (k : ℕ). traced_from clauses (reverse (take k es)) s) one ∙ ap (λ (xs : List TrailEntry). traced_from clauses xs s) (reverse-got es (n - 1) e (omega arith) q)

-- and so by what its reason is
pub from-cause : (clauses : List NumberedClause) (n : ℕ) (es : List TrailEntry) (e : TrailEntry) (s : State) (cause : Option ℕ) → 0 < n → n ≤ length es → slice_get es (n - 1) ≡ Some e → e.reason ≡ cause → traced_from clauses (reverse (take n es)) s ≡ traced_after clauses (reverse (take (n - 1) es)) s cause
from-cause clauses n es e s cause l m q is = from-last clauses n es e s l m q ∙ ap (traced_after clauses (reverse (take (n - 1) es)) s) is

-- where a literal is reached
pub reached-here : (l n made : ℕ) (es : List TrailEntry) (e : TrailEntry) → n ≡ length es → made < n → slice_get es (n - 1 - made) ≡ Some e → (e.lit == l) ≡ true → reached l (reverse (take (n - made) es)) ≡ reverse (take (n - made) es)
reached-here l n made es e m k q h =
    let one : n - made ≡ n - 1 - made + 1 = omega arith in
    let is : reverse (take (n - made) es) ≡ e ∷ reverse (take (n - 1 - made) es) = ap (λ (k : ℕ). reverse (take k es)) one ∙ reverse-got es (n - 1 - made) e (omega arith) q in
    ap (reached l) is ∙ (ap (λ (b : Bool). cond b (e ∷ reverse (take (n - 1 - made) es)) (reached l (reverse (take (n - 1 - made) es)))) h ∙ sym is)

pub reached-step : (l n made : ℕ) (es : List TrailEntry) (e : TrailEntry) → n ≡ length es → made < n → slice_get es (n - 1 - made) ≡ Some e → (e.lit == l) ≡ false → reached l (reverse (take (n - made) es)) ≡ reached l (reverse (take (n - (made + 1)) es))
reached-step l n made es e m k q h =
    let one : n - made ≡ n - 1 - made + 1 = omega arith in
    let two : n - (made + 1) ≡ n - 1 - made = omega arith in
    let is : reverse (take (n - made) es) ≡ e ∷ reverse (take (n - 1 - made) es) = ap (λ (k : ℕ). reverse (take k es)) one ∙ reverse-got es (n - 1 - made) e (omega arith) q in
    ap (reached l) is ∙ (ap (λ (b : Bool). cond b (e ∷ reverse (take (n - 1 - made) es)) (reached l (reverse (take (n - 1 - made) es)))) h ∙ ap (λ (k : ℕ). reached l (reverse (take k es))) (sym two))

-- what an analysis at work shows of the walk of the definition
pub record Traces (n id : ℕ) (w : Walk) (s : State) : Type 0 where
  pub is_seen : IsSeen n 0 [] (has_var w.seen) s
  pub lits : s.lits ≡ negations w.kept
  pub hints : s.hints ≡ turned id w.hints
  pub level : s.level ≡ 0

kept-traces : (n id : ℕ) (e : TrailEntry) (w : Walk) (s : State) → Traces n id w s → Traces n id (keeping e w) (record s { lits = s.lits ++ negated e.lit ∷ [] })
kept-traces n id e w s h =
    let k = h.is_seen in
    record {
      is_seen = record { seen_len = k.seen_len; here_len = k.here_len; seen = k.seen; here = k.here; left = k.left };
      lits = ap (λ (xs : List ℕ). xs ++ negated e.lit ∷ []) h.lits;
      hints = h.hints;
      level = h.level;
    }

-- the variables of a reason are seen too
reason-seen : (n r : ℕ) (clauses : List NumberedClause) (seen : List ℕ) (s : State) → AreBelow n clauses → IsSeen n 0 [] (has_var seen) s → IsSeen n 0 [] (has_var (vars_under clauses r ++ seen)) (resolved clauses r s)
reason-seen n r clauses seen s below k =
    let t : State = record s { hints = s.hints ++ r ∷ [] } in
    let begins : IsSeen n 0 [] (has_var seen) t = record { seen_len = k.seen_len; here_len = k.here_len; seen = k.seen; here = k.here; left = k.left } in
    same-seen n 0 [] (λ u. has_var (vars_in (lits_of clauses r)) u || has_var seen u) (has_var (vars_under clauses r ++ seen)) (see_all (lits_of clauses r) t) (λ u. ap (λ (vs : List ℕ). has_var vs u || has_var seen u) (vars-of clauses r) ∙ sym (list_any-append (λ x. u == x) (vars_under clauses r) seen)) (see_all-shows n 0 [] (lits_of clauses r) (has_var seen) t (below r) tt (omega arith) begins)

resolved-traces : (n id r : ℕ) (clauses : List NumberedClause) (w : Walk) (s : State) → AreBelow n clauses → Traces n id w s → Traces n id (resolving clauses r w) (resolved clauses r s)
resolved-traces n id r clauses w s below h =
    let t : State = record s { hints = s.hints ++ r ∷ [] } in
    let leaves : Leaves t (see_all (lits_of clauses r) t) = see_all-leaves (lits_of clauses r) t in
    record {
      is_seen = reason-seen n r clauses w.seen s below h.is_seen;
      lits = leaves.lits ∙ h.lits;
      hints = leaves.hints ∙ ap (λ (xs : List ℕ). xs ++ r ∷ []) h.hints;
      level = leaves.level ∙ h.level;
    }

traced-traces : (n id : ℕ) (clauses : List NumberedClause) (e : TrailEntry) (past : List TrailEntry) (w : Walk) (s : State) → AreBelow n clauses → var_of e.lit < n → Traces n id w s → Traces n id (after_entry Final clauses e past w) (traced clauses e s)
traced-traces n id clauses e past w s below l h =
    let same : has_var w.seen (var_of e.lit) ≡ get_or s.seen (var_of e.lit) false = sym (h.is_seen.seen (var_of e.lit) l) in
    subst (λ (x : Bool). Traces n id (after_entry Final clauses e past w) (cond x (by_cause clauses e s e.reason) s)) same (by_seen (has_var w.seen (var_of e.lit)))
  where
    by_reason : (o : Option ℕ) → Traces n id (option_map_or (λ r. cond (is_resolved Final e w.seen past) (resolving clauses r w) (keeping e w)) o (keeping e w)) (by_cause clauses e s o)
    by_reason None = kept-traces n id e w s h
    by_reason (Some r) = resolved-traces n id r clauses w s below h

    by_seen : (b : Bool) → Traces n id (cond b (after_seen Final clauses e past w) w) (cond b (by_cause clauses e s e.reason) s)
    by_seen true = by_reason e.reason
    by_seen false = h

-- entries of variables below a bound
abbrev pub AreSmall : ℕ → List TrailEntry → Type 0
AreSmall n [] = Unit {0}
AreSmall n (e ∷ es) = (var_of e.lit < n) × AreSmall n es

walked-traces : (n id : ℕ) (clauses : List NumberedClause) (past : List TrailEntry) (w : Walk) (s : State) → AreBelow n clauses → AreSmall n past → Traces n id w s → Traces n id (walked Final clauses past w) (traced_all clauses past s)
walked-traces n id clauses [] w s below l h = h
walked-traces n id clauses (e ∷ past) w s below l h = walked-traces n id clauses past (after_entry Final clauses e past w) (traced clauses e s) below l.1 (traced-traces n id clauses e past w s below l.0 h)

-- before the first resolution
begun-seen : (n a b l : ℕ) → n ≤ a → n ≤ b → IsSeen n 0 [] (has_var []) (begun_with a b l)
begun-seen n a b l p q =
    let la : length (replicate a false) ≡ a = length-replicate a false in
    let lb : length (replicate b false) ≡ b = length-replicate b false in
    record {
      seen_len = omega arith;
      here_len = omega arith;
      seen = λ v m. get_or-replicate a v false false (omega arith);
      here = λ v m. get_or-replicate b v false false (omega arith);
      left = refl;
    }

record HasFound (clauses : List NumberedClause) (x : ℕ) (past : List TrailEntry) (s : State) : Type 0 where
  pub es : List TrailEntry
  pub lits : s.lits ≡ negations es
  pub clause : clause_of es ≡ (core_at clauses x past).lits
  pub hints : reverse s.hints ≡ (core_at clauses x past).hints
  pub level : s.level ≡ (core_at clauses x past).level

found : (n a b x : ℕ) (clauses : List NumberedClause) (past : List TrailEntry) → n ≤ a → n ≤ b → AreBelow n clauses → AreSmall n past → HasFound clauses x past (traced_from clauses past (begun_with a b (negated x)))
found n a b x clauses [] p q below small = record { es = assumed x ∷ []; lits = refl; clause = refl; hints = refl; level = refl }
found n a b x clauses (e ∷ past) p q below small = by_reason e.reason
  where
    by_reason : (o : Option ℕ) → HasFound clauses x (record e { reason = o } ∷ past) (traced_after clauses past (begun_with a b (negated x)) o)
    by_reason None = record { es = assumed x ∷ []; lits = refl; clause = refl; hints = refl; level = refl }
    by_reason (Some r) =
        let s : State = begun_with a b (negated x) in
        let start : Walk = begun (vars_under clauses r) in
        let leaves : Leaves (record s { hints = r ∷ [] }) (resolved clauses r s) = see_all-leaves (lits_of clauses r) (record s { hints = r ∷ [] }) in
        let seen : IsSeen n 0 [] (has_var (vars_under clauses r)) (resolved clauses r s) = subst (λ (vs : List ℕ). IsSeen n 0 [] (has_var vs) (resolved clauses r s)) (append-nil (vars_under clauses r)) (reason-seen n r clauses [] s below (begun-seen n a b (negated x) p q)) in
        let begins : Traces n r (keeping (assumed x) start) (resolved clauses r s) = record { is_seen = seen; lits = leaves.lits; hints = leaves.hints; level = leaves.level } in
        let traces : Traces n r (walked Final clauses past (keeping (assumed x) start)) (traced_all clauses past (resolved clauses r s)) = walked-traces n r clauses past (keeping (assumed x) start) (resolved clauses r s) below small.1 begins in
        let ends : Traces n r (with_base (assumed x ∷ []) (walked Final clauses past start)) (traced_all clauses past (resolved clauses r s)) = subst (λ (w : Walk). Traces n r w (traced_all clauses past (resolved clauses r s))) (base-walked (assumed x ∷ []) Final clauses past start) traces in
        record {
          es = (walked Final clauses past start).kept ++ assumed x ∷ [];
          lits = ends.lits;
          clause = clause-turned (walked Final clauses past start).kept (assumed x);
          hints = ap reverse ends.hints ∙ turned-back r (walked Final clauses past start).hints;
          level = ends.level;
        }

-- entries of a front, latest first, are small too
small-behind : (n : ℕ) (es past : List TrailEntry) → EntriesWithin n es → AreSmall n past → AreSmall n (reverse es ++ past)
small-behind n [] past h k = k
small-behind n (e ∷ es) past h k = subst (AreSmall n) (sym (ap (λ (xs : List TrailEntry). xs ++ past) (reverse-append (e ∷ []) es) ∙ append_assoc (reverse es) (e ∷ []) past)) (small-behind n es (e ∷ past) (All-tail (λ x. var_of x.lit < n) e es h) (All-head (λ x. var_of x.lit < n) e es h, k))

small-front : (n k : ℕ) (es : List TrailEntry) → EntriesWithin n es → EntriesWithin n (take k es)
small-front n zero es h = All-nil (λ x. var_of x.lit < n)
small-front n (suc k) [] h = All-nil (λ x. var_of x.lit < n)
small-front n (suc k) (e ∷ es) h = All-cons (λ x. var_of x.lit < n) e (take k es) (All-head (λ x. var_of x.lit < n) e es h) (small-front n k es (All-tail (λ x. var_of x.lit < n) e es h))

small-take : (n k : ℕ) (es : List TrailEntry) → EntriesWithin n es → AreSmall n (reverse (take k es))
small-take n k es h = subst (AreSmall n) (append-nil (reverse (take k es))) (small-behind n (take k es) [] (small-front n k es h) tt)

pub core-done : (n a b y z x negation k : ℕ) (clauses : List NumberedClause) (es : List TrailEntry) (s : State) (v w : Work) → HasRoom 2 n es clauses → IsFitted n a b y z → negation ≡ negated x → reached negation (reverse es) ≡ reverse (take k es) → s ≡ begun_with a b negation → v.state ≡ traced_from clauses (reverse (take k es)) s → IsFinished v w → IsFound (core clauses (reverse es) x) w
core-done n a b y z x negation k clauses es s v w room fits negates at begins traces ends =
    let past : List TrailEntry = reverse (take k es) in
    let is : v.state ≡ traced_from clauses past (begun_with a b (negated x)) = traces ∙ ap (traced_from clauses past) (begins ∙ ap (begun_with a b) negates) in
    let f : HasFound clauses x past v.state = subst (HasFound clauses x past) (sym is) (found n a b x clauses past fits.seen_fits fits.here_fits (clauses-below n clauses room.within) (small-take n k es (entries-within n es [] (omega (arith, room.fitted)) room.placed))) in
    let same : core_at clauses x past ≡ core clauses (reverse es) x = ap (core_at clauses x) (sym (rw negates at at)) in
    record {
      clause = sorted-clause f.es v.state.lits w.state.lits f.lits ends.permutation ends.sorted ∙ (f.clause ∙ ap (λ (a : Analysed). a.lits) same);
      hints = ends.hints ∙ (f.hints ∙ ap (λ (a : Analysed). a.hints) same);
      level = ends.level ∙ (f.level ∙ ap (λ (a : Analysed). a.level) same);
    }

pub resolved-lits : (clauses : List NumberedClause) (r : ℕ) (s : State) → length (resolved clauses r s).lits ≡ length s.lits
resolved-lits clauses r s = ap (λ (xs : List ℕ). length xs) (see_all-leaves (lits_of clauses r) (record s { hints = s.hints ++ r ∷ [] })).lits
