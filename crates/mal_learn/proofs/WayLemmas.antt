use Rattle.std.proofs.Common.{◌≡◌, ℕ, zero, suc, ◌+◌, ◌-◌, ◌<◌, ◌≤◌, ◌^◌, Bool, true, false, cond, List, [], ◌∷◌, ◌++◌, length, get_or, take, drop, reverse, Some, refl, sym, ap, ◌∙◌, subst, arith}
use Rattle.std.specs.Prelude.{◌==◌, slice_get, take_while}
use Rattle.std.proofs.lemmas.Bool.{eq-eqb, ne_eqb}
use Rattle.std.proofs.lemmas.List.{reverse-append}
use Rattle.std.proofs.lemmas.List.Elements.{All-head, All-tail}
use Rattle.std.proofs.lemmas.List.Sums.{take_while-cons}
use Rattle.mal_base.specs.Limits.{greatest_variable}
use Rattle.mal_base.specs.Literals.{var_of}
use Rattle.mal_base.specs.NumberedClause.{NumberedClause}
use Rattle.mal_base.specs.declared.trail_entry.TrailEntry.{TrailEntry}
use Rattle.spec_learn.specs.Analysis.{Walk, has_var, vars_under, begun, after_entry, top}
use Rattle.spec_learn.specs.Analysis.Aim.{Learned}
use Rattle.spec_learn.specs.FirstPoint.{walked_over}
use Rattle.spec_learn.proofs.ApartLemmas.{IsApart, apart-reverse, apart-short}
use Rattle.mal_learn.specs.Working.{State, see_all, lits_of, visited, visited_all}
use Rattle.mal_learn.specs.Shown.{IsFitted, HasRoom, EntriesWithin}
use Rattle.mal_learn.specs.Ways.{current, earlier, way}
use Rattle.mal_learn.proofs.SortLemmas.{turned}
use Rattle.mal_learn.proofs.WalkLemmas.{left-entries}
use Rattle.mal_learn.proofs.ShowsLemmas.{Shows, AreBelow, visited-shows}
use Rattle.mal_learn.proofs.AnalysedLemmas.{start, begin-shows, clauses-below}

-- the first of a list, as long as a test passes, and the rest are the list
taken-whole : (p : TrailEntry → Bool) (es : List TrailEntry) → take_while p es ++ drop (length (take_while p es)) es ≡ es
taken-whole p [] = refl
taken-whole p (e ∷ es) = subst (λ (xs : List TrailEntry). xs ++ drop (length xs) (e ∷ es) ≡ e ∷ es) (sym (take_while-cons p e es)) (by_test (p e) (taken-whole p es))
  where
    by_test : (b : Bool) → take_while p es ++ drop (length (take_while p es)) es ≡ es → cond b (e ∷ take_while p es) [] ++ drop (length (cond b (e ∷ take_while p es) [])) (e ∷ es) ≡ e ∷ es
    by_test true h = ap (λ (xs : List TrailEntry). e ∷ xs) h
    by_test false h = refl

-- the variable of an entry at a place
pub entry-within : (n p : ℕ) (es : List TrailEntry) (e : TrailEntry) → EntriesWithin n es → slice_get es p ≡ Some e → var_of e.lit < n
entry-within n p [] e h q = absurd (cc)
entry-within n zero (x ∷ es) e h q = let same : x ≡ e = cc in subst (λ (y : TrailEntry). var_of y.lit < n) same (All-head (λ y. var_of y.lit < n) x es h)
entry-within n (suc p) (x ∷ es) e h q = entry-within n p es e (All-tail (λ y. var_of y.lit < n) x es h) q

-- how far a walk over the entries of a level has come
pub level-step : (clauses : List NumberedClause) (level made n : ℕ) (es : List TrailEntry) (e : TrailEntry) (s : State) → n ≡ length es → made < n → slice_get es (n - 1 - made) ≡ Some e → e.level ≡ level → visited_all clauses level (take_while (λ x. x.level == level) (reverse (take (length es - made) es))) s ≡ visited_all clauses level (take_while (λ x. x.level == level) (reverse (take (length es - (made + 1)) es))) (visited clauses level e s)
level-step clauses level made n es e s m l q h =
    let rest : List TrailEntry = reverse (take (length es - (made + 1)) es) in
    ap (λ (xs : List TrailEntry). visited_all clauses level (take_while (λ x. x.level == level) xs) s) (left-entries made n es e m l q) ∙ (ap (λ (xs : List TrailEntry). visited_all clauses level xs s) (take_while-cons (λ x. x.level == level) e rest) ∙ ap (λ (b : Bool). visited_all clauses level (cond b (e ∷ take_while (λ x. x.level == level) rest) []) s) (eq-eqb e.level level h))

-- it ends at an entry of another level
pub level-end : (clauses : List NumberedClause) (level made n : ℕ) (es : List TrailEntry) (e : TrailEntry) (s : State) → n ≡ length es → made < n → slice_get es (n - 1 - made) ≡ Some e → (e.level ≡ level → ⊥) → visited_all clauses level (take_while (λ x. x.level == level) (reverse (take (length es - made) es))) s ≡ s
level-end clauses level made n es e s m l q h =
    let rest : List TrailEntry = reverse (take (length es - (made + 1)) es) in
    ap (λ (xs : List TrailEntry). visited_all clauses level (take_while (λ x. x.level == level) xs) s) (left-entries made n es e m l q) ∙ (ap (λ (xs : List TrailEntry). visited_all clauses level xs s) (take_while-cons (λ x. x.level == level) e rest) ∙ ap (λ (b : Bool). visited_all clauses level (cond b (e ∷ take_while (λ x. x.level == level) rest) []) s) (ne_eqb e.level level h))

-- the walk of the definition over entries after which others are still to come
walked_over-shows : (n level id : ℕ) (clauses : List NumberedClause) (front rest : List TrailEntry) (w : Walk) (s : State) → AreBelow n clauses → IsApart n (front ++ rest) → length (front ++ rest) < 2 ^ 64 → Shows n level id (front ++ rest) w s → Shows n level id rest (walked_over (Learned level) clauses front rest w) (visited_all clauses level front s)
walked_over-shows n level id clauses [] rest w s below a long h = h
walked_over-shows n level id clauses (e ∷ front) rest w s below a long h = walked_over-shows n level id clauses front rest (after_entry (Learned level) clauses e (front ++ rest) w) (visited clauses level e s) below a.3 (omega arith) (visited-shows n level id clauses e (front ++ rest) w s below a (omega arith) h)

-- the hints of the way stand after the conflict, the first first
turned-is : (id : ℕ) (hs : List ℕ) → turned id hs ≡ id ∷ reverse hs
turned-is id [] = refl
turned-is id (h ∷ hs) = ap (λ (xs : List ℕ). xs ++ h ∷ []) (turned-is id hs) ∙ ap (λ (xs : List ℕ). id ∷ xs) (sym (reverse-append (h ∷ []) hs))

-- a state shows a way
pub record IsWay (n id : ℕ) (w : Walk) (s : State) : Type 0 where
  pub resolved : s.hints ≡ id ∷ reverse w.hints
  pub seen : (v : ℕ) → v < n → get_or s.seen v false ≡ has_var w.seen v

pub way-done : (n a b y z id level : ℕ) (clauses : List NumberedClause) (es : List TrailEntry) (s t : State) → HasRoom 1 n es clauses → IsFitted n a b y z → level ≡ top (reverse es) → s ≡ see_all (lits_of clauses id) (start a b level id es) → t ≡ visited_all clauses level (take_while (λ e. e.level == level) (reverse es)) s → IsWay n id (way clauses (reverse es) id) t
way-done n a b y z id level clauses es s t room fits tops begins walks =
    let past : List TrailEntry = reverse es in
    let front : List TrailEntry = current past in
    let rest : List TrailEntry = earlier past in
    let below : AreBelow n clauses = clauses-below n clauses room.within in
    let apart : IsApart n past = apart-reverse n es room.fitted room.placed in
    let short : length past + 1 ≤ n = apart-short n past room.fitted apart in
    let small : n ≤ greatest_variable + 1 = fits.small in
    let long : length past < 2 ^ 64 = omega arith in
    let whole : front ++ rest ≡ past = taken-whole (λ e. e.level == top past) past in
    let first : Shows n level id past (begun (vars_under clauses id)) s = subst (Shows n level id past (begun (vars_under clauses id))) (sym begins) (begin-shows n a b level id clauses es fits.seen_fits fits.here_fits below apart long) in
    let at_top : Shows n (top past) id past (begun (vars_under clauses id)) s = subst (λ (k : ℕ). Shows n k id past (begun (vars_under clauses id)) s) tops first in
    let over : Shows n (top past) id rest (walked_over (Learned (top past)) clauses front rest (begun (vars_under clauses id))) (visited_all clauses (top past) front s) = walked_over-shows n (top past) id clauses front rest (begun (vars_under clauses id)) s below (subst (IsApart n) (sym whole) apart) (subst (λ (xs : List TrailEntry). length xs < 2 ^ 64) (sym whole) long) (subst (λ (xs : List TrailEntry). Shows n (top past) id xs (begun (vars_under clauses id)) s) (sym whole) at_top) in
    let is : t ≡ visited_all clauses (top past) front s = walks ∙ ap (λ (k : ℕ). visited_all clauses k (take_while (λ e. e.level == k) past) s) tops in
    let same : walked_over (Learned (top past)) clauses front rest (begun (vars_under clauses id)) ≡ way clauses past id = ap (λ (xs : List TrailEntry). walked_over (Learned (top xs)) clauses front rest (begun (vars_under clauses id))) (sym whole) in
    shown n (top past) id rest (way clauses past id) t (subst (λ (w : Walk). Shows n (top past) id rest w t) same (subst (Shows n (top past) id rest (walked_over (Learned (top past)) clauses front rest (begun (vars_under clauses id)))) (sym is) over))
  where
    shown : (n level id : ℕ) (rest : List TrailEntry) (w : Walk) (t : State) → Shows n level id rest w t → IsWay n id w t
    shown n level id rest w t h = record { resolved = h.hints ∙ turned-is id w.hints; seen = h.is_seen.seen }
