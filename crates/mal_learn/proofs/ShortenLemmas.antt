use Rattle.std.proofs.Common.{◌≡◌, ℕ, ◌+◌, ◌-◌, ◌<◌, ◌≤◌, ◌^◌, Bool, true, false, cond, List, [], ◌∷◌, length, take, reverse, replicate, get_or, set, Option, Some, None, refl, sym, ap, ◌∙◌, subst, arith}
use Rattle.std.specs.Prelude.{All, ◌==◌, nat_lt, ◌&&◌, ◌||◌, slice_get}
use Rattle.std.specs.Option.{option_map_or}
use Rattle.std.proofs.lemmas.List.{length-set, get_or-replicate, length-replicate}
use Rattle.std.proofs.lemmas.List.Elements.{All-head, All-tail}
use Rattle.std.proofs.lemmas.List.Sorted.{list_any-IsPermutation, IsPermutation-reverse}
use Rattle.mal_base.specs.Literals.{var_of}
use Rattle.mal_base.specs.Limits.{greatest_variable}
use Rattle.mal_base.specs.NumberedClause.{NumberedClause}
use Rattle.mal_base.specs.declared.trail_entry.TrailEntry.{TrailEntry}
use Rattle.spec_learn.specs.Analysis.{Walk, has_var, vars_in, vars_under, begun, keeping, resolving, is_left, is_base, are_covered, is_covered, is_resolved, after_seen, after_entry, walked, top}
use Rattle.spec_learn.specs.Shorter.{shorter_walk, shortened}
use Rattle.spec_learn.specs.Analysis.Aim.{Shortened}
use Rattle.spec_learn.proofs.ApartLemmas.{IsApart, apart-reverse, apart-short}
use Rattle.mal_learn.specs.Working.{State, see_all, lits_of, kept, resolved, passed, uncounted, here_all}
use Rattle.mal_learn.specs.Shortening.{Shortening, covers, is_left_out, by_shorter_reason, shorter_visited, shorter_visited_all}
use Rattle.mal_learn.specs.Shown.{Work, IsFitted, IsFinished, HasRoom}
use Rattle.mal_learn.proofs.CountLemmas.{is_here, left-some}
use Rattle.mal_learn.proofs.SortLemmas.{turned-back, sorted-clause}
use Rattle.mal_learn.proofs.ShowsLemmas.{Shows, AreBelow, vars-of, kept-shows, resolved-shows, passed-here, passed-shows, uncounted-shows}
use Rattle.mal_learn.proofs.AnalysedLemmas.{start, here-is, here-long, begin-shows, clauses-below, IsFound}
use Rattle.mal_learn.proofs.WalkLemmas.{left-entries, AddsOne, kept-adds, resolved-adds}

-- what a shortening at work shows: besides, the variables of level 0 to come
pub record ShowsShortening (n level id : ℕ) (past : List TrailEntry) (w : Walk) (x : Shortening) : Type 0 where
  pub shows : Shows n level id past w x.state
  pub base_len : n ≤ length x.base
  pub base : (v : ℕ) → v < n → get_or x.base v false ≡ is_base past v

covers-are : (n : ℕ) (seen base : List Bool) (vars : List ℕ) (past : List TrailEntry) (lits : List ℕ) → All (λ l. var_of l < n) lits → ((v : ℕ) → v < n → get_or seen v false ≡ has_var vars v) → ((v : ℕ) → v < n → get_or base v false ≡ is_base past v) → covers seen base lits ≡ are_covered vars past (vars_in lits)
covers-are n seen base vars past [] l s b = refl
covers-are n seen base vars past (x ∷ xs) l s b =
    let low : var_of x < n = All-head (λ y. var_of y < n) x xs l in
    ap (λ (p : Bool). (p || get_or base (var_of x) false) && covers seen base xs) (s (var_of x) low) ∙ (ap (λ (p : Bool). (has_var vars (var_of x) || p) && covers seen base xs) (b (var_of x) low) ∙ ap (λ (p : Bool). (has_var vars (var_of x) || is_base past (var_of x)) && p) (covers-are n seen base vars past xs (All-tail (λ y. var_of y < n) x xs l) s b))

handled-shorter : (n level id : ℕ) (clauses : List NumberedClause) (e : TrailEntry) (past : List TrailEntry) (w : Walk) (s : State) (base : List Bool) (o : Option ℕ) → e.reason ≡ o → ((v : ℕ) → v < n → get_or base v false ≡ is_base past v) → AreBelow n clauses → IsApart n past → length past < 2 ^ 64 → Shows n level id past w s → Shows n level id past (option_map_or (λ r. cond (is_resolved (Shortened level clauses) e w.seen past) (resolving clauses r w) (keeping e w)) o (keeping e w)) (by_shorter_reason clauses level base e s o)
handled-shorter n level id clauses e past w s base None q b below a long h = kept-shows n level id e past w s h
handled-shorter n level id clauses e past w s base (Some r) q b below a long h = subst (λ (x : Bool). Shows n level id past (cond x (resolving clauses r w) (keeping e w)) (by_shorter_reason clauses level base e s (Some r))) agree (by_test (is_left_out clauses level base e.level s r))
  where
    left : nat_lt 0 s.left ≡ is_left level w.seen past
    left = ap (nat_lt 0) h.is_seen.left ∙ left-some level (has_var w.seen) past

    covered : covers s.seen base (lits_of clauses r) ≡ is_covered clauses e w.seen past
    covered = covers-are n s.seen base w.seen past (lits_of clauses r) (below r) h.is_seen.seen b ∙ (ap (are_covered w.seen past) (vars-of clauses r) ∙ sym (ap (λ (p : Option ℕ). option_map_or (λ x. are_covered w.seen past (vars_under clauses x)) p false) q))

    agree : is_left_out clauses level base e.level s r ≡ is_resolved (Shortened level clauses) e w.seen past
    agree = ap (λ (p : Bool). (e.level == 0) || cond (e.level == level) p (covers s.seen base (lits_of clauses r))) left ∙ ap (λ (p : Bool). (e.level == 0) || cond (e.level == level) (is_left level w.seen past) p) covered

    by_test : (b : Bool) → Shows n level id past (cond b (resolving clauses r w) (keeping e w)) (cond b (resolved clauses r s) (kept level e s))
    by_test true = resolved-shows n level id r clauses past w s below a long h
    by_test false = kept-shows n level id e past w s h

visited-shorter : (n level id : ℕ) (clauses : List NumberedClause) (e : TrailEntry) (past : List TrailEntry) (w : Walk) (x : Shortening) → AreBelow n clauses → IsApart n (e ∷ past) → length past < 2 ^ 64 → ShowsShortening n level id (e ∷ past) w x → ShowsShortening n level id past (after_entry (Shortened level clauses) clauses e past w) (shorter_visited clauses level e x)
visited-shorter n level id clauses e past w x below a long h = record {
  shows = subst (λ (p : Bool). Shows n level id past (after_entry (Shortened level clauses) clauses e past w) (cond p (by_shorter_reason clauses level base e (uncounted level e (passed e x.state)) e.reason) (passed e x.state))) same (by_seen (has_var w.seen (var_of e.lit)) refl);
  base_len = let l = length-set x.base (var_of e.lit) false in let u : n ≤ length x.base = h.base_len in omega arith;
  base = later;
}
  where
    base : List Bool
    base = set x.base (var_of e.lit) false

    same : has_var w.seen (var_of e.lit) ≡ get_or x.state.seen (var_of e.lit) false
    same = sym (h.shows.is_seen.seen (var_of e.lit) a.2)

    later : (v : ℕ) → v < n → get_or (set x.base (var_of e.lit) false) v false ≡ is_base past v
    later v l = passed-here n 0 e past (record x.state { here = x.base }) a.0 h.base_len h.base v l

    by_seen : (b : Bool) → has_var w.seen (var_of e.lit) ≡ b → Shows n level id past (cond b (after_seen (Shortened level clauses) clauses e past w) w) (cond b (by_shorter_reason clauses level base e (uncounted level e (passed e x.state)) e.reason) (passed e x.state))
    by_seen true q = handled-shorter n level id clauses e past w (uncounted level e (passed e x.state)) base e.reason refl later below a.3 long (uncounted-shows n level id e past w x.state a q h.shows)
    by_seen false q = passed-shows n level id e past w x.state a q h.shows

walked-shorter : (n level id : ℕ) (clauses : List NumberedClause) (past : List TrailEntry) (w : Walk) (x : Shortening) → AreBelow n clauses → IsApart n past → length past < 2 ^ 64 → ShowsShortening n level id past w x → ShowsShortening n level id [] (walked (Shortened level clauses) clauses past w) (shorter_visited_all clauses level past x)
walked-shorter n level id clauses [] w x below a long h = h
walked-shorter n level id clauses (e ∷ past) w x below a long h = walked-shorter n level id clauses past (after_entry (Shortened level clauses) clauses e past w) (shorter_visited clauses level e x) below a.3 (omega arith) (visited-shorter n level id clauses e past w x below a (omega arith) h)

begin-shorter : (n a b d level id : ℕ) (clauses : List NumberedClause) (es : List TrailEntry) → n ≤ a → n ≤ b → n ≤ d → AreBelow n clauses → IsApart n (reverse es) → length (reverse es) < 2 ^ 64 → ShowsShortening n level id (reverse es) (begun (vars_under clauses id)) (record { state = see_all (lits_of clauses id) (start a b level id es); base = here_all 0 es (replicate d false) })
begin-shorter n a b d level id clauses es p q r below apart long =
    let ld : length (replicate d false) ≡ d = length-replicate d false in
    let lh = here-long 0 es (replicate d false) in
    record {
      shows = begin-shows n a b level id clauses es p q below apart long;
      base_len = omega arith;
      base = λ v l. here-is 0 v es (replicate d false) (omega arith) ∙ (ap (λ (x : Bool). is_here 0 es v || x) (get_or-replicate d v false false (omega arith)) ∙ (or-false (is_here 0 es v) ∙ list_any-IsPermutation (λ e. (e.level == 0) && (v == var_of e.lit)) es (reverse es) (IsPermutation-reverse es)));
    }
  where
    or-false : (x : Bool) → (x || false) ≡ x
    or-false true = refl
    or-false false = refl

pub shortening-done : (n a b y z d id level : ℕ) (clauses : List NumberedClause) (es : List TrailEntry) (s : State) (base walked_base : List Bool) (v w : Work) → HasRoom 1 n es clauses → IsFitted n a b y z → n ≤ d → level ≡ top (reverse es) → s ≡ see_all (lits_of clauses id) (start a b level id es) → base ≡ here_all 0 es (replicate d false) → record { state = v.state; base = walked_base } ≡ shorter_visited_all clauses level (reverse es) (record { state = s; base = base }) → IsFinished v w → IsFound (shortened clauses (reverse es) id) w
shortening-done n a b y z d id level clauses es s base walked_base v w room fits r tops begins marks walks ends =
    let past : List TrailEntry = reverse es in
    let below : AreBelow n clauses = clauses-below n clauses room.within in
    let apart : IsApart n past = apart-reverse n es room.fitted room.placed in
    let short : length past + 1 ≤ n = apart-short n past room.fitted apart in
    let small : n ≤ greatest_variable + 1 = fits.small in
    let x : Shortening = record { state = v.state; base = walked_base } in
    let first : Shortening = record { state = see_all (lits_of clauses id) (start a b level id es); base = here_all 0 es (replicate d false) } in
    let is : x ≡ shorter_visited_all clauses level past first = walks ∙ (ap (λ (t : State). shorter_visited_all clauses level past (record { state = t; base = base })) begins ∙ ap (λ (f : List Bool). shorter_visited_all clauses level past (record first { base = f })) marks) in
    let at_level : ShowsShortening n level id [] (walked (Shortened level clauses) clauses past (begun (vars_under clauses id))) x = subst (ShowsShortening n level id [] (walked (Shortened level clauses) clauses past (begun (vars_under clauses id)))) (sym is) (walked-shorter n level id clauses past (begun (vars_under clauses id)) first below apart (omega arith) (begin-shorter n a b d level id clauses es fits.seen_fits fits.here_fits r below apart (omega arith))) in
    let shows : ShowsShortening n (top past) id [] (shorter_walk clauses past id) x = subst (λ (k : ℕ). ShowsShortening n k id [] (walked (Shortened k clauses) clauses past (begun (vars_under clauses id))) x) tops at_level in
    record {
      clause = sorted-clause (shorter_walk clauses past id).kept v.state.lits w.state.lits shows.shows.lits ends.permutation ends.sorted;
      hints = ends.hints ∙ (ap reverse shows.shows.hints ∙ turned-back id (shorter_walk clauses past id).hints);
      level = ends.level ∙ shows.shows.target;
    }

-- each entry adds a literal or a hint at most
pub shorter-adds : (clauses : List NumberedClause) (level : ℕ) (e : TrailEntry) (x : Shortening) → AddsOne x.state (shorter_visited clauses level e x).state
shorter-adds clauses level e x = by_seen (get_or x.state.seen (var_of e.lit) false)
  where
    base : List Bool
    base = set x.base (var_of e.lit) false

    by_test : (r : ℕ) (s : State) (b : Bool) → AddsOne s (cond b (resolved clauses r s) (kept level e s))
    by_test r s true = resolved-adds clauses r s
    by_test r s false = kept-adds level e s

    by_reason : (s : State) (o : Option ℕ) → AddsOne s (by_shorter_reason clauses level base e s o)
    by_reason s None = kept-adds level e s
    by_reason s (Some r) = by_test r s (is_left_out clauses level base e.level s r)

    by_seen : (b : Bool) → AddsOne x.state (cond b (by_shorter_reason clauses level base e (uncounted level e (passed e x.state)) e.reason) (passed e x.state))
    by_seen true = let a = by_reason (uncounted level e (passed e x.state)) e.reason in record { lits = a.lits; hints = a.hints }
    by_seen false = record { lits = omega arith; hints = omega arith }

-- how far a walk has come
pub shorter-step : (clauses : List NumberedClause) (level made n : ℕ) (es : List TrailEntry) (e : TrailEntry) (x : Shortening) → n ≡ length es → made < n → slice_get es (n - 1 - made) ≡ Some e → shorter_visited_all clauses level (reverse (take (length es - made) es)) x ≡ shorter_visited_all clauses level (reverse (take (length es - (made + 1)) es)) (shorter_visited clauses level e x)
shorter-step clauses level made n es e x m l q = ap (λ (xs : List TrailEntry). shorter_visited_all clauses level xs x) (left-entries made n es e m l q)
