-- Marks of the lines that a goal needs.
use Rattle.std.proofs.Common.{◌≡◌, ℕ, zero, suc, ◌+◌, ◌-◌, ◌<◌, ◌≤◌, Bool, true, false, ◌||◌, cond, List, [], ◌∷◌, ◌++◌, append-nil, ◌==◌, length, take, drop, drop-cons, get_or, map, refl, sym, ◌∙◌, subst, ap, inl, inr, arith}
use Rattle.std.specs.Prelude.{replicate, filter, IfOk, Result, Ok, Err}
use Rattle.std.specs.List.{list_any}
use Rattle.std.proofs.Math.Bool.{or-false, or_assoc, or_comm}
use Rattle.std.proofs.lemmas.Bool.{false_from_ne_true}
use Rattle.std.proofs.lemmas.List.Elements.{filter_more, All-contains}
use Rattle.std.proofs.Math.ListN.{drop_of_length-le}
use Rattle.mal_base.specs.NumberedClause.{Line}
use Rattle.mal_base.specs.Lined.{Lined}
use Rattle.spec_proof.specs.Log.{IsAbove, IsOrderly}
use Rattle.spec_proof.specs.Trimmed.{by_id, AreRising, IsTrimmed, is_needed, with_needed, reached_in, reached, ids_of}
use Rattle.spec_proof.specs.Among.{Among}
use Rattle.spec_proof.proofs.Among.{of-all}
use Rattle.spec_proof.proofs.Reaching.{hint-there, reached-trimmed}
use Rattle.mal_proof.specs.Marks.{AreMarks}
use Rattle.mal_proof.specs.Goals.{up_to, goal_lits, last_lits}
use Rattle.mal_proof.proofs.Bounding.{reached-bounded}
use Rattle.mal_proof.proofs.Ending.{goal-ends}
use Rattle.mal_proof.proofs.Marking.{map-agree}

-- no marks
pub marks-empty : (lines : List Line) → AreMarks (λ i. false) (ids_of lines) (replicate (length lines) false)
marks-empty [] = refl
marks-empty (x ∷ xs) = ap (λ (bs : List Bool). false ∷ bs) (marks-empty xs)

-- only the goal is marked
pub marks-goal : (goal : ℕ) (lines none : List Line) (marks : List Bool) → none ≡ [] → AreMarks (λ i. false || (goal == i)) (ids_of lines) marks → AreMarks (is_needed goal (reached_in goal none)) (ids_of lines) marks
marks-goal goal lines none marks e h = rw e (h ∙ map-agree (λ i. false || (goal == i)) (λ i. (goal == i) || false) (ids_of lines) (λ i. sym (or-false (goal == i))))

pub mark-at : (test : ℕ → Bool) (lines : List Line) (n : ℕ) (d : Line) → n < length lines → get_or (map test (ids_of lines)) n false ≡ test (get_or lines n d).id
mark-at test [] n d low = absurd (omega arith)
mark-at test (x ∷ xs) zero d low = refl
mark-at test (x ∷ xs) (suc k) d low = mark-at test xs k d (omega arith)

-- one line more, which is marked or not
module _ (goal : ℕ) (lines : List Line) (n : ℕ) (line : Line) (marks : List Bool) (low : n < length lines) (is : line ≡ get_or lines n line)
    (before : AreMarks (is_needed goal (reached_in goal (drop (n + 1) lines))) (ids_of lines) marks) where
  mark-is : get_or marks n false ≡ is_needed goal (reached_in goal (drop (n + 1) lines)) line.id
  mark-is =
      ap (λ (ms : List Bool). get_or ms n false) before ∙ (mark-at (is_needed goal (reached_in goal (drop (n + 1) lines))) lines n line low
      ∙ ap (λ (l : Line). is_needed goal (reached_in goal (drop (n + 1) lines)) l.id) (sym is))

  rest-is : drop n lines ≡ line ∷ drop (n + 1) lines
  rest-is = let next : n + 1 ≡ suc n = omega arith in rw next (drop-cons lines n line low ∙ ap (λ (l : Line). l ∷ drop (suc n) lines) (sym is))

  pub marks-with : (now : List Bool) → get_or marks n false ≡ true → AreMarks (λ i. is_needed goal (reached_in goal (drop (n + 1) lines)) i || list_any (λ h. h == i) line.hints) (ids_of lines) now
      → AreMarks (is_needed goal (reached_in goal (drop n lines))) (ids_of lines) now
  marks-with now at e =
      let needed : is_needed goal (reached_in goal (drop (n + 1) lines)) line.id ≡ true = sym mark-is ∙ at in
      let whole : reached_in goal (drop n lines) ≡ line ∷ reached_in goal (drop (n + 1) lines) = ap (reached_in goal) rest-is ∙ ap (λ (b : Bool). cond b (line ∷ reached_in goal (drop (n + 1) lines)) (reached_in goal (drop (n + 1) lines))) needed in
      rw whole (e ∙ map-agree (λ i. is_needed goal (reached_in goal (drop (n + 1) lines)) i || list_any (λ h. h == i) line.hints) (is_needed goal (line ∷ reached_in goal (drop (n + 1) lines))) (ids_of lines) (λ i.
      let others = list_any (λ l. list_any (λ h. h == i) l.hints) (reached_in goal (drop (n + 1) lines)) in
      let own = list_any (λ h. h == i) line.hints in
      or_assoc (goal == i) others own ∙ ap (λ (b : Bool). (goal == i) || b) (or_comm others own)))

  pub marks-without : get_or marks n false ≡ false → AreMarks (is_needed goal (reached_in goal (drop n lines))) (ids_of lines) marks
  marks-without at =
      let needed : is_needed goal (reached_in goal (drop (n + 1) lines)) line.id ≡ false = sym mark-is ∙ at in
      let whole : reached_in goal (drop n lines) ≡ reached_in goal (drop (n + 1) lines) = ap (reached_in goal) rest-is ∙ ap (λ (b : Bool). cond b (line ∷ reached_in goal (drop (n + 1) lines)) (reached_in goal (drop (n + 1) lines))) needed in
      rw whole before

-- a number that is no hint of a line is needed without it where it is needed with it
same-needed : (goal : ℕ) (x : Line) (later : List Line) (id : ℕ) → list_any (λ h. h == id) x.hints ≡ false → is_needed goal (with_needed goal x later) id ≡ is_needed goal later id
same-needed goal x later id none = by_needed (is_needed goal later x.id)
  where
    by_needed : (b : Bool) → is_needed goal (cond b (x ∷ later) later) id ≡ is_needed goal later id
    by_needed true = rw none refl
    by_needed false = refl

filter-same : (p q : Line → Bool) (xs : List Line) → ((y : Line) → Among y xs → p y ≡ q y) → filter p xs ≡ filter q xs
filter-same p q [] same = refl
filter-same p q (x ∷ xs) same =
    let here : p x ≡ q x = same x (inl refl) in
    let rest : filter p xs ≡ filter q xs = filter-same p q xs (λ y h. same y (inr h)) in
    rw (here, rest) refl

-- numbers from that of a line on are none of its hints
no-hint : (x : Line) (id : ℕ) → IsAbove x → x.id ≤ id → list_any (λ h. h == id) x.hints ≡ false
no-hint x id above high = false_from_ne_true (list_any (λ h. h == id) x.hints) (λ q. let low : id < x.id = All-contains (λ h. h < x.id) x.hints id above.above (hint-there x.hints id q) in omega arith)

-- the lines that are needed for the reached ones are the reached ones
pub filter-needed : (goal : ℕ) (lines : List Line) → AreRising lines → ((y : Line) → Among y lines → IsAbove y) → filter (λ l. is_needed goal (reached_in goal lines) l.id) lines ≡ reached_in goal lines
filter-needed goal [] up above = refl
filter-needed goal (x ∷ xs) up above =
    let here : is_needed goal (with_needed goal x (reached_in goal xs)) x.id ≡ is_needed goal (reached_in goal xs) x.id = same-needed goal x (reached_in goal xs) x.id (no-hint x x.id (above x (inl refl)) (omega arith)) in
    let same : filter (λ l. is_needed goal (with_needed goal x (reached_in goal xs)) l.id) xs ≡ filter (λ l. is_needed goal (reached_in goal xs) l.id) xs =
    filter-same (λ l. is_needed goal (with_needed goal x (reached_in goal xs)) l.id) (λ l. is_needed goal (reached_in goal xs) l.id) xs (λ y h.
    let over : x.id < y.id = of-all (λ later. x.id < later.id) xs y up.0 h in same-needed goal x (reached_in goal xs) y.id (no-hint x y.id (above x (inl refl)) (omega arith))) in
    let rest : filter (λ l. is_needed goal (reached_in goal xs) l.id) xs ≡ reached_in goal xs = filter-needed goal xs up.1 (λ y h. above y (inr h)) in
    step (is_needed goal (with_needed goal x (reached_in goal xs)) x.id) (is_needed goal (reached_in goal xs) x.id) here (same ∙ rest)
  where
    step : (a b : Bool) → a ≡ b → filter (λ l. is_needed goal (with_needed goal x (reached_in goal xs)) l.id) xs ≡ reached_in goal xs
        → cond a (x ∷ filter (λ l. is_needed goal (with_needed goal x (reached_in goal xs)) l.id) xs) (filter (λ l. is_needed goal (with_needed goal x (reached_in goal xs)) l.id) xs) ≡ cond b (x ∷ reached_in goal xs) (reached_in goal xs)
    step a b e f = rw (e, f) refl

marks-of_lines : (test : ℕ → Bool) (lines : List Line) → map test (ids_of lines) ≡ map (λ l. test l.id) lines
marks-of_lines test [] = refl
marks-of_lines test (x ∷ xs) = ap (λ (bs : List Bool). test x.id ∷ bs) (marks-of_lines test xs)

pub marks-lines : (test : ℕ → Bool) (lines : List Line) (marks : List Bool) → AreMarks test (ids_of lines) marks → marks ≡ map (λ l. test l.id) lines
marks-lines test lines marks e = e ∙ marks-of_lines test lines

pub trimmed-is : (goal : ℕ) (lines out : List Line) → IsTrimmed lines → out ≡ filter (λ l. is_needed goal (reached_in goal lines) l.id) lines → out ≡ reached_in goal lines
trimmed-is goal lines out is e = e ∙ filter-needed goal lines is.rising (λ y h. of-all IsAbove lines y is.above h)

-- marked lines, one more
pub test-at : (test : Line → Bool) (lines : List Line) (marks : List Bool) (n : ℕ) (d : Line) → n < length lines → marks ≡ map test lines → get_or marks n false ≡ test (get_or lines n d)
test-at test lines marks n d low e = ap (λ (ms : List Bool). get_or ms n false) e ∙ at lines n low
  where
    at : (xs : List Line) (k : ℕ) → k < length xs → get_or (map test xs) k false ≡ test (get_or xs k d)
    at [] k h = absurd (omega arith)
    at (x ∷ xs) zero h = refl
    at (x ∷ xs) (suc k) h = at xs k (omega arith)

pub marked-with : (test : Line → Bool) (lines out now : List Line) (n : ℕ) (line d : Line) → n < length lines → line ≡ get_or lines n d → test (get_or lines n d) ≡ true
    → out ≡ filter test (take n lines) → now ≡ out ++ line ∷ [] → now ≡ filter test (take (n + 1) lines)
marked-with test lines out now n line d low is passes e f =
    let more : filter test (take (n + 1) lines) ≡ filter test (take n lines) ++ cond (test (get_or lines n d)) (get_or lines n d ∷ []) [] = filter_more test lines n d low in
    rw more (rw passes (f ∙ (ap (λ (ls : List Line). ls ++ line ∷ []) e ∙ ap (λ (l : Line). filter test (take n lines) ++ l ∷ []) is)))

pub marked-without : (test : Line → Bool) (lines out : List Line) (n : ℕ) (d : Line) → n < length lines → test (get_or lines n d) ≡ false
    → out ≡ filter test (take n lines) → out ≡ filter test (take (n + 1) lines)
marked-without test lines out n d low fails e =
    let more : filter test (take (n + 1) lines) ≡ filter test (take n lines) ++ cond (test (get_or lines n d)) (get_or lines n d ∷ []) [] = filter_more test lines n d low in
    rw more (rw fails (e ∙ sym (append-nil (filter test (take n lines)))))

-- results
pub trimmed-result : {E : Type 0} (r : Result Lined E) (goal : ℕ) (lines : List Line) → IsTrimmed lines → IfOk r (λ out. out.lines ≡ filter (λ l. is_needed goal (reached_in goal lines) l.id) lines) → IfOk r (λ out. out.lines ≡ reached_in goal lines)
trimmed-result (Err e) goal lines is h = tt
trimmed-result (Ok out) goal lines is h = trimmed-is goal lines out.lines is h

pub reached-result : {E : Type 0} (r : Result Lined E) (goal : ℕ) (lines sorted : List Line) → IsOrderly lines → sorted ≡ by_id (up_to goal lines) → IfOk r (λ out. out.lines ≡ reached_in goal sorted) → IfOk r (λ out. out.lines ≡ reached goal lines)
reached-result (Err e) goal lines sorted orderly is h = tt
reached-result (Ok out) goal lines sorted orderly is h = h ∙ (ap (reached_in goal) is ∙ reached-bounded goal lines orderly.apart)

pub last-result : {E : Type 0} (r : Result Lined E) (goal : ℕ) (lines : List Line) → IsOrderly lines → IfOk r (λ out. out.lines ≡ reached goal lines) → IfOk r (λ out. last_lits out.lines ≡ goal_lits goal lines)
last-result (Err e) goal lines orderly h = tt
last-result (Ok out) goal lines orderly h = ap last_lits h ∙ goal-ends goal lines orderly

pub reached-is_trimmed : {E : Type 0} (r : Result Lined E) (goal : ℕ) (lines : List Line) → IsOrderly lines → IfOk r (λ out. out.lines ≡ reached goal lines) → IfOk r (λ out. IsTrimmed out.lines)
reached-is_trimmed (Err e) goal lines is h = tt
reached-is_trimmed (Ok out) goal lines is h = subst IsTrimmed (sym h) (reached-trimmed goal lines is)

get_or-own : {X : Type 0} (xs : List X) (k : ℕ) (d : X) → k < length xs → get_or xs k d ≡ get_or xs k (get_or xs k d)
get_or-own [] k d low = absurd (omega arith)
get_or-own (x ∷ xs) zero d low = refl
get_or-own (x ∷ xs) (suc k) d low = get_or-own xs k d (omega arith)

-- the same, going backwards from a place to the one before
module _ (goal : ℕ) (lines : List Line) (n : ℕ) (marks : List Bool) (some : 0 < n) (within : n ≤ length lines)
    (before : AreMarks (is_needed goal (reached_in goal (drop n lines))) (ids_of lines) marks) where
  earlier : AreMarks (is_needed goal (reached_in goal (drop ((n - 1) + 1) lines))) (ids_of lines) marks
  earlier = let same : n ≡ (n - 1) + 1 = omega arith in subst (λ (k : ℕ). AreMarks (is_needed goal (reached_in goal (drop k lines))) (ids_of lines) marks) same before

  pub back-with : (line : Line) (hints : List ℕ) (now : List Bool) → line ≡ get_or lines (n - 1) line → hints ≡ line.hints → get_or marks (n - 1) false ≡ true
      → ((test : ℕ → Bool) → AreMarks test (ids_of lines) marks → AreMarks (λ i. test i || list_any (λ h. h == i) hints) (ids_of lines) now)
      → AreMarks (is_needed goal (reached_in goal (drop (n - 1) lines))) (ids_of lines) now
  back-with line hints now is same at step =
      let more : AreMarks (λ i. is_needed goal (reached_in goal (drop ((n - 1) + 1) lines)) i || list_any (λ h. h == i) hints) (ids_of lines) now = step (is_needed goal (reached_in goal (drop ((n - 1) + 1) lines))) earlier in
      marks-with goal lines (n - 1) line marks (omega arith) is earlier now at
      (subst (λ (hs : List ℕ). AreMarks (λ i. is_needed goal (reached_in goal (drop ((n - 1) + 1) lines)) i || list_any (λ h. h == i) hs) (ids_of lines) now) same more)

  pub back-without : get_or marks (n - 1) false ≡ false → AreMarks (is_needed goal (reached_in goal (drop (n - 1) lines))) (ids_of lines) marks
  back-without at =
      let none : Line = record { id = 0; lits = []; hints = [] } in
      marks-without goal lines (n - 1) (get_or lines (n - 1) none) marks (omega arith) (get_or-own lines (n - 1) none (omega arith)) earlier at

-- before the first step
pub marks-start : (goal : ℕ) (lines : List Line) (marks now : List Bool) → marks ≡ replicate (length lines) false
    → ((test : ℕ → Bool) → AreMarks test (ids_of lines) marks → AreMarks (λ i. test i || (goal == i)) (ids_of lines) now)
    → AreMarks (is_needed goal (reached_in goal (drop (length lines) lines))) (ids_of lines) now
marks-start goal lines marks now e step = marks-goal goal lines (drop (length lines) lines) now (drop_of_length-le lines (omega arith)) (step (λ i. false) (e ∙ marks-empty lines))
