use Rattle.std.proofs.Common.{◌≡◌, ℕ, ◌+◌, ◌-◌, ◌<◌, ◌≤◌, ◌^◌, Bool, true, false, cond, List, [], ◌∷◌, ◌++◌, length, get_or, set, take, reverse, replicate, Option, Some, None, refl, sym, ap, ◌∙◌, subst, arith}
use Rattle.std.specs.Prelude.{All, ◌==◌, ◌&&◌, ◌||◌, slice_get}
use Rattle.std.specs.Option.{option_map_or}
use Rattle.std.proofs.lemmas.List.{length-set, get_or-set_same, get_or-set_other, get_or-replicate, length-replicate, length-reverse, take_all}
use Rattle.std.proofs.lemmas.List.Elements.{All-nil, All-cons}
use Rattle.std.proofs.lemmas.List.Sorted.{list_any-IsPermutation, IsPermutation-reverse}
use Rattle.std.proofs.lemmas.Bool.{eqb-true, eqb-false}
use Rattle.mal_base.specs.Limits.{greatest_variable}
use Rattle.mal_base.specs.Literals.{var_of}
use Rattle.mal_base.specs.NumberedClause.{NumberedClause, lits_under}
use Rattle.mal_base.specs.declared.trail_entry.TrailEntry.{TrailEntry}
use Rattle.spec_node.specs.Sound.{EachAfter, IsPlaced}
use Rattle.spec_learn.specs.Analysis.{Analysed, has_var, vars_in, vars_under, begun, walked, walk_of, analysed, top}
use Rattle.spec_learn.specs.Analysis.Aim.{Learned}
use Rattle.mal_learn.specs.Working.{State, see_all, lits_of, visited_all, here_all}
use Rattle.mal_learn.specs.Shown.{Work, IsFitted, IsFinished, HasRoom, HasWalkRoom, ClausesWithin, EntriesWithin}
use Rattle.spec_learn.proofs.ApartLemmas.{IsApart, apart-reverse, apart-short}
use Rattle.mal_learn.proofs.CountLemmas.{is_here, left_count, left-cons}
use Rattle.mal_learn.proofs.SortLemmas.{turned-back, sorted-clause}
use Rattle.mal_learn.proofs.WalkLemmas.{Leaves, see_all-leaves, lits-within, reverse-got}
use Rattle.mal_learn.proofs.ShowsLemmas.{IsSeen, Shows, or-turn, same-seen, see_all-shows, vars-of, walked-shows, AreBelow}

-- the marks of a level
pub here-is : (level v : ℕ) (es : List TrailEntry) (flags : List Bool) → v < length flags → get_or (here_all level es flags) v false ≡ (is_here level es v || get_or flags v false)
here-is level v [] flags l = refl
here-is level v (e ∷ es) flags l = by_level (λ xs k. here-is level v es xs k) (e.level == level)
  where
    own : (b : Bool) → (v == var_of e.lit) ≡ b → get_or (set flags (var_of e.lit) true) v false ≡ (b || get_or flags v false)
    own true q = let same : v ≡ var_of e.lit = eqb-true v (var_of e.lit) q in subst (λ (x : ℕ). get_or (set flags x true) v false ≡ true) same (get_or-set_same flags v true false l)
    own false q = get_or-set_other flags (var_of e.lit) v true false (eqb-false v (var_of e.lit) q)

    by_level : ((xs : List Bool) → v < length xs → get_or (here_all level es xs) v false ≡ (is_here level es v || get_or xs v false)) → (b : Bool) → get_or (here_all level es (cond b (set flags (var_of e.lit) true) flags)) v false ≡ (((b && (v == var_of e.lit)) || is_here level es v) || get_or flags v false)
    by_level f true = f (set flags (var_of e.lit) true) (let k = length-set flags (var_of e.lit) true in omega arith) ∙ (ap (λ (b : Bool). is_here level es v || b) (own (v == var_of e.lit) refl) ∙ or-turn (is_here level es v) (v == var_of e.lit) (get_or flags v false))
    by_level f false = f flags l

pub here-long : (level : ℕ) (es : List TrailEntry) (flags : List Bool) → length (here_all level es flags) ≡ length flags
here-long level [] flags = refl
here-long level (e ∷ es) flags = by_level (λ xs. here-long level es xs) (e.level == level)
  where
    by_level : ((xs : List Bool) → length (here_all level es xs) ≡ length xs) → (b : Bool) → length (here_all level es (cond b (set flags (var_of e.lit) true) flags)) ≡ length flags
    by_level f true = f (set flags (var_of e.lit) true) ∙ length-set flags (var_of e.lit) true
    by_level f false = f flags

none-left : (level : ℕ) (past : List TrailEntry) → 0 ≡ left_count level (λ u. false) past
none-left level [] = refl
none-left level (e ∷ past) = let ih : 0 ≡ left_count level (λ u. false) past = none-left level past in sym (left-cons level (λ u. false) e past ∙ by_level (e.level == level) ih)
  where
    by_level : (b : Bool) → 0 ≡ left_count level (λ u. false) past → cond {A = ℕ} (b && false) 1 0 + left_count level (λ u. false) past ≡ 0
    by_level true q = omega arith
    by_level false q = omega arith

-- the state in which an analysis begins
abbrev pub start : ℕ → ℕ → ℕ → ℕ → List TrailEntry → State
start a b level id es = record { seen = replicate a false; here = here_all level es (replicate b false); left = 0; lits = []; hints = id ∷ []; level = 0 }

begin-seen : (n a b level id : ℕ) (es : List TrailEntry) → n ≤ a → n ≤ b → IsSeen n level (reverse es) (λ u. false) (start a b level id es)
begin-seen n a b level id es p q =
    let la : length (replicate a false) ≡ a = length-replicate a false in
    let lb : length (replicate b false) ≡ b = length-replicate b false in
    let lh = here-long level es (replicate b false) in
    record {
      seen_len = omega arith;
      here_len = omega arith;
      seen = λ v l. get_or-replicate a v false false (omega arith);
      here = λ v l. here-is level v es (replicate b false) (omega arith) ∙ (ap (λ (x : Bool). is_here level es v || x) (get_or-replicate b v false false (omega arith)) ∙ (or-false (is_here level es v) ∙ list_any-IsPermutation (λ e. (e.level == level) && (v == var_of e.lit)) es (reverse es) (IsPermutation-reverse es)));
      left = none-left level (reverse es);
    }
  where
    or-false : (x : Bool) → (x || false) ≡ x
    or-false true = refl
    or-false false = refl

pub begin-shows : (n a b level id : ℕ) (clauses : List NumberedClause) (es : List TrailEntry) → n ≤ a → n ≤ b → AreBelow n clauses → IsApart n (reverse es) → length (reverse es) < 2 ^ 64 → Shows n level id (reverse es) (begun (vars_under clauses id)) (see_all (lits_of clauses id) (start a b level id es))
begin-shows n a b level id clauses es p q below apart long =
    let s : State = start a b level id es in
    let leaves : Leaves s (see_all (lits_of clauses id) s) = see_all-leaves (lits_of clauses id) s in
    record {
      is_seen = same-seen n level (reverse es) (λ u. has_var (vars_in (lits_of clauses id)) u || false) (has_var (vars_under clauses id)) (see_all (lits_of clauses id) s) (λ u. or-false (has_var (vars_in (lits_of clauses id)) u) ∙ ap (λ (vs : List ℕ). has_var vs u) (vars-of clauses id)) (see_all-shows n level (reverse es) (lits_of clauses id) (λ u. false) s (below id) apart long (begin-seen n a b level id es p q));
      lits = leaves.lits;
      hints = leaves.hints;
      target = leaves.level;
    }
  where
    or-false : (x : Bool) → (x || false) ≡ x
    or-false true = refl
    or-false false = refl

pub entries-within : (n : ℕ) (es before : List TrailEntry) → 1 ≤ n → EachAfter (IsPlaced (n - 1)) before es → EntriesWithin n es
entries-within n [] before l h = All-nil (λ e. var_of e.lit < n)
entries-within n (e ∷ es) before l h = All-cons (λ x. var_of x.lit < n) e es (let u : var_of e.lit ≤ n - 1 = h.0.high in omega arith) (entries-within n es (before ++ e ∷ []) l h.1)

pub clauses-below : (n : ℕ) (clauses : List NumberedClause) → ClausesWithin n clauses → AreBelow n clauses
clauses-below n clauses h r = by_found (lits_under r clauses) refl
  where
    by_found : (o : Option (List ℕ)) → lits_under r clauses ≡ o → All (λ (l : ℕ). var_of l < n) (option_map_or (λ (l : List ℕ). l) o [])
    by_found None q = All-nil (λ l. var_of l < n)
    by_found (Some lits) q = lits-within n r clauses lits h q

-- where there is room for the variables of a trail there is room for each entry
pub room-short : (n : ℕ) (es : List TrailEntry) → 1 ≤ n → EachAfter (IsPlaced (n - 1)) [] es → length es + 1 ≤ n
room-short n es l placed = omega (arith, apart-short n (reverse es) l (apart-reverse n es l placed), length-reverse es)

-- an analysis that has begun has room to walk over the trail
pub begun-room : (n m a b y z level id : ℕ) (clauses : List NumberedClause) (es : List TrailEntry) (w : Work) → m ≡ n → HasRoom 1 n es clauses → IsFitted m a b y z → w.room ≡ m → w.state ≡ see_all (lits_of clauses id) (start a b level id es) → HasWalkRoom es w
begun-room n m a b y z level id clauses es w e room fits same is =
    let leaves : Leaves (start a b level id es) (see_all (lits_of clauses id) (start a b level id es)) = see_all-leaves (lits_of clauses id) (start a b level id es) in
    let short : length es + 1 ≤ n = room-short n es room.fitted room.placed in
    let lits : length w.state.lits ≡ 0 = ap (λ (s : State). length s.lits) is ∙ ap (λ (ls : List ℕ). length ls) leaves.lits in
    let hints : length w.state.hints ≡ 1 = ap (λ (s : State). length s.hints) is ∙ ap (λ (ls : List ℕ). length ls) leaves.hints in
    let whole : w.room ≡ n = same ∙ e in
    record {
      within = subst (λ (k : ℕ). EntriesWithin k es) (sym whole) (entries-within n es [] room.fitted room.placed);
      lits = omega (arith, lits, short, whole);
      hints = omega (arith, hints, short, whole);
    }

-- what is left in the end is what a definition gives
pub record IsFound (a : Analysed) (w : Work) : Type 0 where
  pub clause : w.state.lits ≡ a.lits
  pub hints : w.state.hints ≡ a.hints
  pub level : w.state.level ≡ a.level

pub analysis-done : (n a b y z id level : ℕ) (clauses : List NumberedClause) (es : List TrailEntry) (s : State) (v w : Work) → HasRoom 1 n es clauses → IsFitted n a b y z → level ≡ top (reverse es) → s ≡ see_all (lits_of clauses id) (start a b level id es) → v.state ≡ visited_all clauses level (reverse es) s → IsFinished v w → IsFound (analysed clauses (reverse es) id) w
analysis-done n a b y z id level clauses es s v w room fits tops begins walks ends =
    let past : List TrailEntry = reverse es in
    let below : AreBelow n clauses = clauses-below n clauses room.within in
    let apart : IsApart n past = apart-reverse n es room.fitted room.placed in
    let short : length past + 1 ≤ n = apart-short n past room.fitted apart in
    let small : n ≤ greatest_variable + 1 = fits.small in
    let is : v.state ≡ visited_all clauses level past (see_all (lits_of clauses id) (start a b level id es)) = walks ∙ ap (visited_all clauses level past) begins in
    let at_level : Shows n level id [] (walked (Learned level) clauses past (begun (vars_under clauses id))) v.state = subst (Shows n level id [] (walked (Learned level) clauses past (begun (vars_under clauses id)))) (sym is) (walked-shows n level id clauses past (begun (vars_under clauses id)) (see_all (lits_of clauses id) (start a b level id es)) below apart (omega arith) (begin-shows n a b level id clauses es fits.seen_fits fits.here_fits below apart (omega arith))) in
    let shows : Shows n (top past) id [] (walk_of clauses past id) v.state = subst (λ (k : ℕ). Shows n k id [] (walked (Learned k) clauses past (begun (vars_under clauses id))) v.state) tops at_level in
    record {
      clause = sorted-clause (walk_of clauses past id).kept v.state.lits w.state.lits shows.lits ends.permutation ends.sorted;
      hints = ends.hints ∙ (ap reverse shows.hints ∙ turned-back id (walk_of clauses past id).hints);
      level = ends.level ∙ shows.target;
    }

-- the level of the last entry
pub top-reverse : (es : List TrailEntry) (e : TrailEntry) (n : ℕ) → n ≡ length es → 0 < n → slice_get es (n - 1) ≡ Some e → top (reverse es) ≡ e.level
top-reverse es e n l some q =
    let all : take (n - 1 + 1) es ≡ es = take_all (n - 1 + 1) es (omega arith) in
    ap (λ (xs : List TrailEntry). top (reverse xs)) (sym all) ∙ ap top (reverse-got es (n - 1) e (omega arith) q)
