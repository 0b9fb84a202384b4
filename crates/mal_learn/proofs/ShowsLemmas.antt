use Rattle.std.proofs.Common.{◌≡◌, ℕ, ◌+◌, ◌-◌, ◌<◌, ◌≤◌, ◌^◌, max, Bool, true, false, cond, List, [], ◌∷◌, ◌++◌, length, get_or, set, Option, Some, None, refl, sym, ap, ◌∙◌, subst, arith}
use Rattle.std.specs.Prelude.{All, ◌==◌, nat_lt, ◌&&◌, ◌||◌}
use Rattle.std.specs.Option.{option_map_or}
use Rattle.std.proofs.lemmas.List.{length-set, get_or-set_same, get_or-set_other}
use Rattle.std.proofs.lemmas.List.Elements.{All-head, All-tail}
use Rattle.std.proofs.lemmas.List.Folds.{list_any-append}
use Rattle.std.proofs.lemmas.Bool.{eqb-true, eqb-false}
use Rattle.mal_base.specs.Literals.{var_of, negated}
use Rattle.mal_base.specs.NumberedClause.{NumberedClause, lits_under}
use Rattle.mal_base.specs.declared.trail_entry.TrailEntry.{TrailEntry}
use Rattle.spec_learn.specs.Analysis.{Walk, has_var, vars_in, vars_under, keeping, resolving, is_left, is_resolved, after_seen, after_entry, walked, jump}
use Rattle.spec_learn.specs.Analysis.Aim.{Learned}
use Rattle.spec_node.specs.Value.{has_value}
use Rattle.mal_learn.specs.Working.{State, counted_more, see, see_all, lits_of, kept, resolved, by_reason, passed, uncounted, visited, visited_all}
use Rattle.spec_learn.proofs.ApartLemmas.{IsApart}
use Rattle.mal_learn.proofs.CountLemmas.{is_here, left_count, left-cons, left-long, left-some, left-more, not-here}
use Rattle.mal_learn.proofs.SortLemmas.{negations, turned}
use Rattle.mal_learn.proofs.WalkLemmas.{Leaves, see_all-leaves}
use mathlib.Core.Path.{fun_ext}

-- the flags and the count show the variables seen and the entries to come
pub record IsSeen (n level : ℕ) (past : List TrailEntry) (f : ℕ → Bool) (s : State) : Type 0 where
  pub seen_len : n ≤ length s.seen
  pub here_len : n ≤ length s.here
  pub seen : (v : ℕ) → v < n → get_or s.seen v false ≡ f v
  pub here : (v : ℕ) → v < n → get_or s.here v false ≡ is_here level past v
  pub left : s.left ≡ left_count level f past

pub same-seen : (n level : ℕ) (past : List TrailEntry) (f g : ℕ → Bool) (s : State) → ((u : ℕ) → f u ≡ g u) → IsSeen n level past f s → IsSeen n level past g s
same-seen n level past f g s h k = subst (λ (x : ℕ → Bool). IsSeen n level past x s) (fun_ext h) k

-- a variable is seen
see-shows : (n level v : ℕ) (past : List TrailEntry) (f : ℕ → Bool) (s : State) → v < n → IsApart n past → length past < 2 ^ 64 → IsSeen n level past f s → IsSeen n level past (λ u. (u == v) || f u) (see v s)
see-shows n level v past f s l a long h = by_seen (get_or s.seen v false) refl
  where
    one : (u : ℕ) (b : Bool) → (u == v) ≡ b → f v ≡ true → f u ≡ (b || f u)
    one u true q k = let same : u ≡ v = eqb-true u v q in ap f same ∙ k
    one u false q k = refl

    place : (u : ℕ) (b : Bool) → u < n → (u == v) ≡ b → get_or (set s.seen v true) u false ≡ (b || f u)
    place u true m q =
        let same : u ≡ v = eqb-true u v q in
        let long : n ≤ length s.seen = h.seen_len in
        subst (λ (x : ℕ). get_or (set s.seen v true) x false ≡ true) (sym same) (get_or-set_same s.seen v true false (omega arith))
    place u false m q = get_or-set_other s.seen v u true false (eqb-false u v q) ∙ h.seen u m

    count : (b : Bool) → is_here level past v ≡ b → f v ≡ false → counted_more b s.left ≡ left_count level (λ u. (u == v) || f u) past
    count true q k =
        let more : left_count level (λ u. (u == v) || f u) past ≡ 1 + left_count level f past = left-more n level v f past k a ∙ ap (λ (b : Bool). cond {A = ℕ} b 1 0 + left_count level f past) q in
        let bound : left_count level (λ u. (u == v) || f u) past ≤ length past = left-long level (λ u. (u == v) || f u) past in
        let left : s.left ≡ left_count level f past = h.left in
        omega arith
    count false q k =
        let more : left_count level (λ u. (u == v) || f u) past ≡ 0 + left_count level f past = left-more n level v f past k a ∙ ap (λ (b : Bool). cond {A = ℕ} b 1 0 + left_count level f past) q in
        let left : s.left ≡ left_count level f past = h.left in
        omega arith

    by_seen : (b : Bool) → get_or s.seen v false ≡ b → IsSeen n level past (λ u. (u == v) || f u) (cond b s (record s { seen = set s.seen v true; left = counted_more (get_or s.here v false) s.left }))
    by_seen true q = same-seen n level past f (λ u. (u == v) || f u) s (λ u. one u (u == v) refl (sym (h.seen v l) ∙ q)) h
    by_seen false q = record {
      seen_len = let e = length-set s.seen v true in let k : n ≤ length s.seen = h.seen_len in omega arith;
      here_len = h.here_len;
      seen = λ u m. place u (u == v) m refl;
      here = h.here;
      left = ap (λ (b : Bool). counted_more b s.left) (h.here v l) ∙ count (is_here level past v) refl (sym (h.seen v l) ∙ q);
    }

pub or-turn : (x y z : Bool) → (x || (y || z)) ≡ ((y || x) || z)
or-turn true true z = refl
or-turn true false z = refl
or-turn false true z = refl
or-turn false false z = refl

-- the variables of literals are seen
pub see_all-shows : (n level : ℕ) (past : List TrailEntry) (ls : List ℕ) (f : ℕ → Bool) (s : State) → All (λ l. var_of l < n) ls → IsApart n past → length past < 2 ^ 64 → IsSeen n level past f s → IsSeen n level past (λ u. has_var (vars_in ls) u || f u) (see_all ls s)
see_all-shows n level past [] f s w a long h = h
see_all-shows n level past (l ∷ ls) f s w a long h =
    same-seen n level past (λ u. has_var (vars_in ls) u || ((u == var_of l) || f u)) (λ u. has_var (vars_in (l ∷ ls)) u || f u) (see_all (l ∷ ls) s) (λ u. or-turn (has_var (vars_in ls) u) (u == var_of l) (f u))
    (see_all-shows n level past ls (λ u. (u == var_of l) || f u) (see (var_of l) s) (All-tail (λ x. var_of x < n) l ls w) a long (see-shows n level (var_of l) past f s (All-head (λ x. var_of x < n) l ls w) a long h))

pub vars-of : (clauses : List NumberedClause) (r : ℕ) → vars_in (lits_of clauses r) ≡ vars_under clauses r
vars-of clauses r = by_found (lits_under r clauses)
  where
    by_found : (o : Option (List ℕ)) → vars_in (option_map_or (λ (l : List ℕ). l) o []) ≡ option_map_or vars_in o []
    by_found None = refl
    by_found (Some lits) = refl

-- what an analysis at work shows of the walk of the definition
pub record Shows (n level id : ℕ) (past : List TrailEntry) (w : Walk) (s : State) : Type 0 where
  pub is_seen : IsSeen n level past (has_var w.seen) s
  pub lits : s.lits ≡ negations w.kept
  pub hints : s.hints ≡ turned id w.hints
  pub target : s.level ≡ jump level w.kept

abbrev pub AreBelow : ℕ → List NumberedClause → Type 0
AreBelow n clauses = (r : ℕ) → All (λ l. var_of l < n) (lits_of clauses r)

pub kept-shows : (n level id : ℕ) (e : TrailEntry) (past : List TrailEntry) (w : Walk) (s : State) → Shows n level id past w s → Shows n level id past (keeping e w) (kept level e s)
kept-shows n level id e past w s h =
    let k = h.is_seen in
    record {
      is_seen = record { seen_len = k.seen_len; here_len = k.here_len; seen = k.seen; here = k.here; left = k.left };
      lits = ap (λ (xs : List ℕ). xs ++ negated e.lit ∷ []) h.lits;
      hints = h.hints;
      target = ap (λ (x : ℕ). max (cond (e.level == level) 0 e.level) x) h.target;
    }

pub resolved-shows : (n level id r : ℕ) (clauses : List NumberedClause) (past : List TrailEntry) (w : Walk) (s : State) → AreBelow n clauses → IsApart n past → length past < 2 ^ 64 → Shows n level id past w s → Shows n level id past (resolving clauses r w) (resolved clauses r s)
resolved-shows n level id r clauses past w s below a long h =
    let k = h.is_seen in
    let t : State = record s { hints = s.hints ++ r ∷ [] } in
    let begins : IsSeen n level past (has_var w.seen) t = record { seen_len = k.seen_len; here_len = k.here_len; seen = k.seen; here = k.here; left = k.left } in
    let leaves : Leaves t (see_all (lits_of clauses r) t) = see_all-leaves (lits_of clauses r) t in
    record {
      is_seen = same-seen n level past (λ u. has_var (vars_in (lits_of clauses r)) u || has_var w.seen u) (has_var (vars_under clauses r ++ w.seen)) (see_all (lits_of clauses r) t) (λ u. ap (λ (vs : List ℕ). has_var vs u || has_var w.seen u) (vars-of clauses r) ∙ sym (list_any-append (λ x. u == x) (vars_under clauses r) w.seen)) (see_all-shows n level past (lits_of clauses r) (has_var w.seen) t (below r) a long begins);
      lits = leaves.lits ∙ h.lits;
      hints = leaves.hints ∙ ap (λ (xs : List ℕ). xs ++ r ∷ []) h.hints;
      target = leaves.level ∙ h.target;
    }

handled-shows : (n level id : ℕ) (clauses : List NumberedClause) (e : TrailEntry) (past : List TrailEntry) (w : Walk) (s : State) (o : Option ℕ) → AreBelow n clauses → IsApart n past → length past < 2 ^ 64 → Shows n level id past w s → Shows n level id past (option_map_or (λ r. cond (is_resolved (Learned level) e w.seen past) (resolving clauses r w) (keeping e w)) o (keeping e w)) (by_reason clauses level e s o)
handled-shows n level id clauses e past w s None below a long h = kept-shows n level id e past w s h
handled-shows n level id clauses e past w s (Some r) below a long h =
    let same : is_left level w.seen past ≡ nat_lt 0 s.left = sym (ap (nat_lt 0) h.is_seen.left ∙ left-some level (has_var w.seen) past) in
    subst (λ (x : Bool). Shows n level id past (cond (is_resolved (Learned level) e w.seen past) (resolving clauses r w) (keeping e w)) (cond ((e.level == 0) || ((e.level == level) && x)) (resolved clauses r s) (kept level e s))) same (by_test (is_resolved (Learned level) e w.seen past))
  where
    by_test : (b : Bool) → Shows n level id past (cond b (resolving clauses r w) (keeping e w)) (cond b (resolved clauses r s) (kept level e s))
    by_test true = resolved-shows n level id r clauses past w s below a long h
    by_test false = kept-shows n level id e past w s h

-- an entry is no longer to come
pub passed-here : (n level : ℕ) (e : TrailEntry) (past : List TrailEntry) (s : State) → has_value past (var_of e.lit) ≡ false → n ≤ length s.here → ((v : ℕ) → v < n → get_or s.here v false ≡ is_here level (e ∷ past) v) → (v : ℕ) → v < n → get_or (set s.here (var_of e.lit) false) v false ≡ is_here level past v
passed-here n level e past s free fits h v l = by_same (v == var_of e.lit) refl
  where
    and-false : (b : Bool) → (b && false) ≡ false
    and-false true = refl
    and-false false = refl

    by_same : (b : Bool) → (v == var_of e.lit) ≡ b → get_or (set s.here (var_of e.lit) false) v false ≡ is_here level past v
    by_same true q =
        let same : v ≡ var_of e.lit = eqb-true v (var_of e.lit) q in
        rw same (get_or-set_same s.here (var_of e.lit) false false (let u : var_of e.lit < n = subst (λ (x : ℕ). x < n) same l in omega arith) ∙ sym (not-here level past (var_of e.lit) free))
    by_same false q = get_or-set_other s.here (var_of e.lit) v false false (eqb-false v (var_of e.lit) q) ∙ (h v l ∙ ap (λ (b : Bool). b || is_here level past v) (ap (λ (b : Bool). (e.level == level) && b) q ∙ and-false (e.level == level)))

-- and so are the marks, where the variables of the level that are left are counted
passed-with : (n level id left : ℕ) (e : TrailEntry) (past : List TrailEntry) (w : Walk) (s : State) → IsApart n (e ∷ past) → left ≡ left_count level (has_var w.seen) past → Shows n level id (e ∷ past) w s → Shows n level id past w (record (passed e s) { left = left })
passed-with n level id left e past w s a counted h =
    let k = h.is_seen in
    record {
      is_seen = record {
        seen_len = k.seen_len;
        here_len = let q = length-set s.here (var_of e.lit) false in let u : n ≤ length s.here = k.here_len in omega arith;
        seen = k.seen;
        here = passed-here n level e past s a.0 k.here_len k.here;
        left = counted;
      };
      lits = h.lits;
      hints = h.hints;
      target = h.target;
    }

count-passed : (level : ℕ) (e : TrailEntry) (past : List TrailEntry) (w : Walk) (left : ℕ) (b : Bool) → has_var w.seen (var_of e.lit) ≡ b → left ≡ left_count level (has_var w.seen) (e ∷ past) → left ≡ cond {A = ℕ} ((e.level == level) && b) 1 0 + left_count level (has_var w.seen) past
count-passed level e past w left b q was = was ∙ (left-cons level (has_var w.seen) e past ∙ ap (λ (c : Bool). cond {A = ℕ} ((e.level == level) && c) 1 0 + left_count level (has_var w.seen) past) q)

pub passed-shows : (n level id : ℕ) (e : TrailEntry) (past : List TrailEntry) (w : Walk) (s : State) → IsApart n (e ∷ past) → has_var w.seen (var_of e.lit) ≡ false → Shows n level id (e ∷ past) w s → Shows n level id past w (passed e s)
passed-shows n level id e past w s a unseen h = passed-with n level id s.left e past w s a (none (e.level == level) (count-passed level e past w s.left false unseen h.is_seen.left)) h
  where
    none : (b : Bool) → s.left ≡ cond {A = ℕ} (b && false) 1 0 + left_count level (has_var w.seen) past → s.left ≡ left_count level (has_var w.seen) past
    none true q = omega arith
    none false q = omega arith

pub uncounted-shows : (n level id : ℕ) (e : TrailEntry) (past : List TrailEntry) (w : Walk) (s : State) → IsApart n (e ∷ past) → has_var w.seen (var_of e.lit) ≡ true → Shows n level id (e ∷ past) w s → Shows n level id past w (uncounted level e (passed e s))
uncounted-shows n level id e past w s a seen h = passed-with n level id (uncounted level e s).left e past w s a (one (e.level == level) (count-passed level e past w s.left true seen h.is_seen.left)) h
  where
    one : (b : Bool) → s.left ≡ cond {A = ℕ} (b && true) 1 0 + left_count level (has_var w.seen) past → cond b (s.left - 1) s.left ≡ left_count level (has_var w.seen) past
    one true q = omega arith
    one false q = omega arith

pub visited-shows : (n level id : ℕ) (clauses : List NumberedClause) (e : TrailEntry) (past : List TrailEntry) (w : Walk) (s : State) → AreBelow n clauses → IsApart n (e ∷ past) → length past < 2 ^ 64 → Shows n level id (e ∷ past) w s → Shows n level id past (after_entry (Learned level) clauses e past w) (visited clauses level e s)
visited-shows n level id clauses e past w s below a long h =
    let same : has_var w.seen (var_of e.lit) ≡ get_or s.seen (var_of e.lit) false = sym (h.is_seen.seen (var_of e.lit) a.2) in
    subst (λ (x : Bool). Shows n level id past (after_entry (Learned level) clauses e past w) (cond x (by_reason clauses level e (uncounted level e (passed e s)) e.reason) (passed e s))) same (by_seen (has_var w.seen (var_of e.lit)) refl)
  where
    by_seen : (b : Bool) → has_var w.seen (var_of e.lit) ≡ b → Shows n level id past (cond b (after_seen (Learned level) clauses e past w) w) (cond b (by_reason clauses level e (uncounted level e (passed e s)) e.reason) (passed e s))
    by_seen true q = handled-shows n level id clauses e past w (uncounted level e (passed e s)) e.reason below a.3 long (uncounted-shows n level id e past w s a q h)
    by_seen false q = passed-shows n level id e past w s a q h

pub walked-shows : (n level id : ℕ) (clauses : List NumberedClause) (past : List TrailEntry) (w : Walk) (s : State) → AreBelow n clauses → IsApart n past → length past < 2 ^ 64 → Shows n level id past w s → Shows n level id [] (walked (Learned level) clauses past w) (visited_all clauses level past s)
walked-shows n level id clauses [] w s below a long h = h
walked-shows n level id clauses (e ∷ past) w s below a long h = walked-shows n level id clauses past (after_entry (Learned level) clauses e past w) (visited clauses level e s) below a.3 (omega arith) (visited-shows n level id clauses e past w s below a (omega arith) h)
