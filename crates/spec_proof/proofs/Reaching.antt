-- The lines reached from a goal.
use Rattle.std.proofs.Common.{◌≡◌, ◌≢◌, ℕ, ◌<◌, ◌≤◌, Bool, true, false, cond, ◌||◌, List, [], ◌∷◌, ◌++◌, ◌==◌, Contains, refl, sym, ◌∙◌, subst, ap, inl, inr, ◌⊎◌, arith}
use Rattle.std.specs.Prelude.{nat_lt}
use Rattle.std.specs.List.{list_any}
use Rattle.std.proofs.lemmas.Bool.{eqb-true, eq-eqb, ne_eqb, ltb-true, ltb-false, or_cases, or_left, or_right}
use Rattle.std.proofs.lemmas.List.Elements.{All-cons, All-nil, All-contains}
use Rattle.mal_base.specs.NumberedClause.{Line}
use Rattle.mal_base.proofs.Sorting.{Contains-head, Contains-later, Contains-cases}
use Rattle.spec_proof.specs.Log.{IsAbove, AreApart, IsOrderly}
use Rattle.spec_proof.specs.Trimmed.{put, by_id, AreRising, IsTrimmed, is_needed, with_needed, reached_in, reached}
use Rattle.spec_proof.specs.Laws.{ReachedIsReached, GoalIsLast}
use Rattle.spec_proof.specs.Among.{Among}
use Rattle.spec_proof.proofs.Among.{among-from_contains, contains-from_among, of-all, all-from_among}

-- sorting keeps the lines
pub put-cases : (line : Line) (xs : List Line) (y : Line) → Among y (put line xs) → (line ≡ y) ⊎ Among y xs
put-cases line [] y (inl e) = inl e
put-cases line [] y (inr h) = absurd h
put-cases line (x ∷ xs) y h = by_order (nat_lt line.id x.id) (put-cases line xs y) h
  where
    by_order : (b : Bool) → (Among y (put line xs) → (line ≡ y) ⊎ Among y xs) → Among y (cond b (line ∷ x ∷ xs) (x ∷ put line xs)) → (line ≡ y) ⊎ Among y (x ∷ xs)
    by_order true rest (inl e) = inl e
    by_order true rest (inr k) = inr k
    by_order false rest (inl e) = inr (inl e)
    by_order false rest (inr k) = later (rest k)
      where
        later : (line ≡ y) ⊎ Among y xs → (line ≡ y) ⊎ Among y (x ∷ xs)
        later (inl e) = inl e
        later (inr m) = inr (inr m)

pub put-among : (line : Line) (xs : List Line) (y : Line) → (line ≡ y) ⊎ Among y xs → Among y (put line xs)
put-among line [] y h = h
put-among line (x ∷ xs) y h = by_order (nat_lt line.id x.id) (put-among line xs y) h
  where
    by_order : (b : Bool) → ((line ≡ y) ⊎ Among y xs → Among y (put line xs)) → (line ≡ y) ⊎ Among y (x ∷ xs) → Among y (cond b (line ∷ x ∷ xs) (x ∷ put line xs))
    by_order true rest k = k
    by_order false rest (inl e) = inr (rest (inl e))
    by_order false rest (inr (inl e)) = inl e
    by_order false rest (inr (inr k)) = inr (rest (inr k))

pub sorted-among : (lines : List Line) (y : Line) → Among y lines → Among y (by_id lines)
sorted-among [] y h = h
sorted-among (x ∷ xs) y (inl e) = put-among x (by_id xs) y (inl e)
sorted-among (x ∷ xs) y (inr h) = put-among x (by_id xs) y (inr (sorted-among xs y h))

pub among-sorted : (lines : List Line) (y : Line) → Among y (by_id lines) → Among y lines
among-sorted [] y h = h
among-sorted (x ∷ xs) y h = by_put (λ k. among-sorted xs y k) (put-cases x (by_id xs) y h)
  where
    by_put : (Among y (by_id xs) → Among y xs) → (x ≡ y) ⊎ Among y (by_id xs) → Among y (x ∷ xs)
    by_put rest (inl e) = inl e
    by_put rest (inr k) = inr (rest k)

put-rising : (line : Line) (xs : List Line) → AreRising xs → ((y : Line) → Among y xs → y.id ≢ line.id) → AreRising (put line xs)
put-rising line [] up others = (All-nil (λ later. line.id < later.id), tt)
put-rising line (x ∷ xs) up others = by_order (nat_lt line.id x.id) refl (put-rising line xs up.1 (λ y h. others y (inr h)))
  where
    by_order : (b : Bool) → nat_lt line.id x.id ≡ b → AreRising (put line xs) → AreRising (cond b (line ∷ x ∷ xs) (x ∷ put line xs))
    by_order true e rest =
        let low : line.id < x.id = ltb-true line.id x.id e in
        (All-cons (λ later. line.id < later.id) x xs low (all-from_among (λ later. line.id < later.id) xs (λ y h. let up-y : x.id < y.id = of-all (λ later. x.id < later.id) xs y up.0 h in omega arith)), up)
    by_order false e rest =
        let high : x.id ≤ line.id = ltb-false line.id x.id e in
        let other : x.id ≢ line.id = others x (inl refl) in
        (all-from_among (λ later. x.id < later.id) (put line xs) (λ y h. by_put y (put-cases line xs y h)), rest)
      where
        by_put : (y : Line) → (line ≡ y) ⊎ Among y xs → x.id < y.id
        by_put y (inl q) =
            let high : x.id ≤ line.id = ltb-false line.id x.id e in
            let other : x.id ≢ line.id = others x (inl refl) in
            let more : x.id < line.id = omega arith in
            subst (λ (l : Line). x.id < l.id) q more
        by_put y (inr k) = of-all (λ later. x.id < later.id) xs y up.0 k

pub sorted-rising : (lines : List Line) → AreApart lines → AreRising (by_id lines)
sorted-rising [] apart = tt
sorted-rising (x ∷ xs) apart = put-rising x (by_id xs) (sorted-rising xs apart.1) (λ y h. of-all (λ other. other.id ≢ x.id) xs y apart.0 (among-sorted xs y h))

-- with a line that is needed or not
with-cases : (goal : ℕ) (x : Line) (later : List Line) (y : Line) → Among y (with_needed goal x later) → ((is_needed goal later x.id ≡ true) × (x ≡ y)) ⊎ Among y later
with-cases goal x later y h = by_needed (is_needed goal later x.id) refl h
  where
    by_needed : (b : Bool) → is_needed goal later x.id ≡ b → Among y (cond b (x ∷ later) later) → ((is_needed goal later x.id ≡ true) × (x ≡ y)) ⊎ Among y later
    by_needed true q (inl e) = inl (q, e)
    by_needed true q (inr k) = inr k
    by_needed false q k = inr k

pub with-later : (goal : ℕ) (x : Line) (later : List Line) (y : Line) → Among y later → Among y (with_needed goal x later)
with-later goal x later y h = by_needed (is_needed goal later x.id)
  where
    by_needed : (b : Bool) → Among y (cond b (x ∷ later) later)
    by_needed true = inr h
    by_needed false = h

with-itself : (goal : ℕ) (x : Line) (later : List Line) → is_needed goal later x.id ≡ true → Among x (with_needed goal x later)
with-itself goal x later q = rw q (inl refl)

pub reached-among : (goal : ℕ) (xs : List Line) (y : Line) → Among y (reached_in goal xs) → Among y xs
reached-among goal [] y h = h
reached-among goal (x ∷ xs) y h = by_with (λ k. reached-among goal xs y k) (with-cases goal x (reached_in goal xs) y h)
  where
    by_with : (Among y (reached_in goal xs) → Among y xs) → ((is_needed goal (reached_in goal xs) x.id ≡ true) × (x ≡ y)) ⊎ Among y (reached_in goal xs) → Among y (x ∷ xs)
    by_with rest (inl (q, e)) = inl e
    by_with rest (inr k) = inr (rest k)

pub reached-rising : (goal : ℕ) (xs : List Line) → AreRising xs → AreRising (reached_in goal xs)
reached-rising goal [] up = tt
reached-rising goal (x ∷ xs) up = by_needed (is_needed goal (reached_in goal xs) x.id) (reached-rising goal xs up.1)
  where
    by_needed : (b : Bool) → AreRising (reached_in goal xs) → AreRising (cond b (x ∷ reached_in goal xs) (reached_in goal xs))
    by_needed true rest = (all-from_among (λ later. x.id < later.id) (reached_in goal xs) (λ y h. of-all (λ later. x.id < later.id) xs y up.0 (reached-among goal xs y h)), rest)
    by_needed false rest = rest

pub reached-goal : (goal : ℕ) (xs : List Line) (y : Line) → Among y xs → y.id ≡ goal → Among y (reached_in goal xs)
reached-goal goal [] y h g = h
reached-goal goal (x ∷ xs) y (inl e) g =
    let is : goal ≡ x.id = sym (ap (λ (l : Line). l.id) e ∙ g) in
    let needed : is_needed goal (reached_in goal xs) x.id ≡ true = or_left (goal == x.id) _ (eq-eqb goal x.id is) in
    subst (λ (l : Line). Among l (with_needed goal x (reached_in goal xs))) e (with-itself goal x (reached_in goal xs) needed)
reached-goal goal (x ∷ xs) y (inr h) g = with-later goal x (reached_in goal xs) y (reached-goal goal xs y h g)

-- hints of lines, by test
has-hint : (hints : List ℕ) (id : ℕ) → Contains hints id → list_any (λ hint. hint == id) hints ≡ true
has-hint [] id (k, h, e) = absurd (omega arith)
has-hint (x ∷ xs) id h = by_first (λ k. has-hint xs id k) (Contains-cases x xs id h)
  where
    by_first : (Contains xs id → list_any (λ hint. hint == id) xs ≡ true) → (x ≡ id) ⊎ Contains xs id → ((x == id) || list_any (λ hint. hint == id) xs) ≡ true
    by_first rest (inl e) = or_left (x == id) _ (eq-eqb x id e)
    by_first rest (inr k) = or_right (x == id) _ (rest k)

pub hint-there : (hints : List ℕ) (id : ℕ) → list_any (λ hint. hint == id) hints ≡ true → Contains hints id
hint-there [] id q = absurd (cc)
hint-there (x ∷ xs) id q = by_first (λ r. hint-there xs id r) (or_cases (x == id) (list_any (λ hint. hint == id) xs) q)
  where
    by_first : (list_any (λ hint. hint == id) xs ≡ true → Contains xs id) → ((x == id) ≡ true) ⊎ (list_any (λ hint. hint == id) xs ≡ true) → Contains (x ∷ xs) id
    by_first rest (inl e) = subst (λ (n : ℕ). Contains (x ∷ xs) n) (eqb-true x id e) (Contains-head x xs)
    by_first rest (inr r) = Contains-later x xs id (rest r)

has-user : (xs : List Line) (y : Line) (id : ℕ) → Among y xs → Contains y.hints id → list_any (λ line. list_any (λ hint. hint == id) line.hints) xs ≡ true
has-user [] y id h k = absurd h
has-user (x ∷ xs) y id (inl e) k = or_left (list_any (λ hint. hint == id) x.hints) _ (has-hint x.hints id (subst (λ (l : Line). Contains l.hints id) (sym e) k))
has-user (x ∷ xs) y id (inr h) k = or_right (list_any (λ hint. hint == id) x.hints) _ (has-user xs y id h k)

user-there : (xs : List Line) (id : ℕ) → list_any (λ line. list_any (λ hint. hint == id) line.hints) xs ≡ true → (y : Line) × Among y xs × Contains y.hints id
user-there [] id q = absurd (cc)
user-there (x ∷ xs) id q = by_first (λ r. user-there xs id r) (or_cases (list_any (λ hint. hint == id) x.hints) (list_any (λ line. list_any (λ hint. hint == id) line.hints) xs) q)
  where
    wider : (y : Line) × Among y xs × Contains y.hints id → (y : Line) × Among y (x ∷ xs) × Contains y.hints id
    wider (y, h, k) = (y, inr h, k)

    by_first : (list_any (λ line. list_any (λ hint. hint == id) line.hints) xs ≡ true → (y : Line) × Among y xs × Contains y.hints id) → (list_any (λ hint. hint == id) x.hints ≡ true) ⊎ (list_any (λ line. list_any (λ hint. hint == id) line.hints) xs ≡ true) → (y : Line) × Among y (x ∷ xs) × Contains y.hints id
    by_first rest (inl r) = (x, inl refl, hint-there x.hints id r)
    by_first rest (inr r) = wider (rest r)

-- each line that a reached line has as a hint below its number is reached
pub reached-hints : (goal : ℕ) (xs : List Line) → AreRising xs → (y o : Line) → Among y (reached_in goal xs) → Among o xs → Contains y.hints o.id → o.id < y.id → Among o (reached_in goal xs)
reached-hints goal [] up y o h k c low = absurd h
reached-hints goal (x ∷ xs) up y o h k c low = by_parts (λ m n. reached-hints goal xs up.1 y o n m c low) k (with-cases goal x (reached_in goal xs) y h)
  where
    by_parts : (Among o xs → Among y (reached_in goal xs) → Among o (reached_in goal xs)) → (x ≡ o) ⊎ Among o xs → ((is_needed goal (reached_in goal xs) x.id ≡ true) × (x ≡ y)) ⊎ Among y (reached_in goal xs) → Among o (with_needed goal x (reached_in goal xs))
    by_parts rest (inl e) (inl (q, f)) = let same : o.id ≡ y.id = ap (λ (l : Line). l.id) (sym e ∙ f) in absurd (omega arith)
    by_parts rest (inl e) (inr m) =
        let used : Contains y.hints x.id = subst (λ (l : Line). Contains y.hints l.id) (sym e) c in
        let needed : is_needed goal (reached_in goal xs) x.id ≡ true = or_right (goal == x.id) _ (has-user (reached_in goal xs) y x.id m used) in
        subst (λ (l : Line). Among l (with_needed goal x (reached_in goal xs))) e (with-itself goal x (reached_in goal xs) needed)
    by_parts rest (inr m) (inl (q, f)) =
        let over : x.id < o.id = of-all (λ later. x.id < later.id) xs o up.0 m in
        let same : x.id ≡ y.id = ap (λ (l : Line). l.id) f in
        absurd (omega arith)
    by_parts rest (inr m) (inr n) = with-later goal x (reached_in goal xs) o (rest m n)

-- reached lines are in each set that has the goal's line and the hints of its lines
pub reached-least : (goal : ℕ) (xs : List Line) (Set : Line → Type 0) → ((y : Line) → Among y xs → y.id ≡ goal → Set y) → ((y o : Line) → Set y → Among o xs → Contains y.hints o.id → Set o) → (y : Line) → Among y (reached_in goal xs) → Set y
reached-least goal [] Set first more y h = absurd h
reached-least goal (x ∷ xs) Set first more y h =
    by_with (λ z k. reached-least goal xs Set (λ u m. first u (inr m)) (λ u o s m. more u o s (inr m)) z k) (with-cases goal x (reached_in goal xs) y h)
  where
    by_cause : ((z : Line) → Among z (reached_in goal xs) → Set z) → ((goal == x.id) ≡ true) ⊎ (list_any (λ line. list_any (λ hint. hint == x.id) line.hints) (reached_in goal xs) ≡ true) → Set x
    by_cause rest (inl q) = first x (inl refl) (sym (eqb-true goal x.id q))
    by_cause rest (inr q) = let there : (z : Line) × Among z (reached_in goal xs) × Contains z.hints x.id = user-there (reached_in goal xs) x.id q in more there.0 x (rest there.0 there.1) (inl refl) there.2

    by_with : ((z : Line) → Among z (reached_in goal xs) → Set z) → ((is_needed goal (reached_in goal xs) x.id ≡ true) × (x ≡ y)) ⊎ Among y (reached_in goal xs) → Set y
    by_with rest (inl (q, e)) = subst Set e (by_cause rest (or_cases (goal == x.id) (list_any (λ line. list_any (λ hint. hint == x.id) line.hints) (reached_in goal xs)) q))
    by_with rest (inr k) = rest y k

-- each reached line is the goal's or a hint of a reached line
abbrev pub IsNeeded : ℕ → List Line → Line → Type 0
IsNeeded goal xs y = (y.id ≡ goal) ⊎ ((later : Line) × Among later xs × Contains later.hints y.id)

needed-wider : (goal : ℕ) (x : Line) (later : List Line) (y : Line) → IsNeeded goal later y → IsNeeded goal (with_needed goal x later) y
needed-wider goal x later y (inl e) = inl e
needed-wider goal x later y (inr (z, h, k)) = inr (z, with-later goal x later z h, k)

pub reached-needed : (goal : ℕ) (xs : List Line) (y : Line) → Among y (reached_in goal xs) → IsNeeded goal (reached_in goal xs) y
reached-needed goal [] y h = absurd h
reached-needed goal (x ∷ xs) y h = by_with (λ k. reached-needed goal xs y k) (with-cases goal x (reached_in goal xs) y h)
  where
    by_cause : (x ≡ y) → ((goal == x.id) ≡ true) ⊎ (list_any (λ line. list_any (λ hint. hint == x.id) line.hints) (reached_in goal xs) ≡ true) → IsNeeded goal (reached_in goal xs) y
    by_cause e (inl q) = inl (sym (ap (λ (l : Line). l.id) e) ∙ sym (eqb-true goal x.id q))
    by_cause e (inr q) =
        let there : (z : Line) × Among z (reached_in goal xs) × Contains z.hints x.id = user-there (reached_in goal xs) x.id q in
        inr (there.0, there.1, subst (λ (l : Line). Contains there.0.hints l.id) e there.2)

    by_with : (Among y (reached_in goal xs) → IsNeeded goal (reached_in goal xs) y) → ((is_needed goal (reached_in goal xs) x.id ≡ true) × (x ≡ y)) ⊎ Among y (reached_in goal xs) → IsNeeded goal (with_needed goal x (reached_in goal xs)) y
    by_with rest (inl (q, e)) = needed-wider goal x (reached_in goal xs) y (by_cause e (or_cases (goal == x.id) (list_any (λ line. list_any (λ hint. hint == x.id) line.hints) (reached_in goal xs)) q))
    by_with rest (inr k) = needed-wider goal x (reached_in goal xs) y (rest k)

pub reached-trimmed : (goal : ℕ) (lines : List Line) → IsOrderly lines → IsTrimmed (reached goal lines)
reached-trimmed goal lines is = record {
  rising = reached-rising goal (by_id lines) (sorted-rising lines is.apart);
  above = all-from_among IsAbove (reached goal lines) (λ y h. of-all IsAbove lines y is.above (among-sorted lines y (reached-among goal (by_id lines) y h)));
}

-- in the words of the law
pub reached-is : ReachedIsReached
reached-is goal lines is = record {
  trimmed = reached-trimmed goal lines is;
  of_log = λ line h. contains-from_among lines line (among-sorted lines line (reached-among goal (by_id lines) line (among-from_contains (reached goal lines) line h)));
  has_goal = λ line h e. contains-from_among (reached goal lines) line (reached-goal goal (by_id lines) line (sorted-among lines line (among-from_contains lines line h)) e);
  has_hints = λ line other h k c. contains-from_among (reached goal lines) other (hints line other (among-from_contains (reached goal lines) line h) (sorted-among lines other (among-from_contains lines other k)) c);
  least = λ set first more line h. reached-least goal (by_id lines) (λ l. set l ≡ true) (λ y m. first y (contains-from_among lines y (among-sorted lines y m))) (λ y o s m. more y o s (contains-from_among lines o (among-sorted lines o m))) line (among-from_contains (reached goal lines) line h);
  none_else = λ line h. by_cause line (reached-needed goal (by_id lines) line (among-from_contains (reached goal lines) line h));
}
  where
    up : AreRising (by_id lines)
    up = sorted-rising lines is.apart

    hints : (line other : Line) → Among line (reached goal lines) → Among other (by_id lines) → Contains line.hints other.id → Among other (reached goal lines)
    hints line other h k c =
        let above : IsAbove line = of-all IsAbove lines line is.above (among-sorted lines line (reached-among goal (by_id lines) line h)) in
        reached-hints goal (by_id lines) (sorted-rising lines is.apart) line other h k c (All-contains (λ hint. hint < line.id) line.hints other.id above.above c)

    by_cause : (line : Line) → IsNeeded goal (reached goal lines) line → (line.id ≡ goal) ⊎ ((later : Line) × Contains (reached goal lines) later × Contains later.hints line.id)
    by_cause line (inl e) = inl e
    by_cause line (inr (l, h, k)) = inr (l, contains-from_among (reached goal lines) l h, k)

-- no line is reached where none has the goal's number
reached-none : (goal : ℕ) (xs : List Line) → ((y : Line) → Among y xs → y.id ≢ goal) → reached_in goal xs ≡ []
reached-none goal [] others = refl
reached-none goal (x ∷ xs) others =
    let rest : reached_in goal xs ≡ [] = reached-none goal xs (λ y h. others y (inr h)) in
    let apart : goal ≢ x.id = λ e. others x (inl refl) (sym e) in
    let not-goal : (goal == x.id) ≡ false = ne_eqb goal x.id apart in
    rw rest (rw not-goal refl)

pub goal-last : (goal : ℕ) (xs : List Line) → AreRising xs → (y : Line) → Among y xs → y.id ≡ goal → (front : List Line) × (reached_in goal xs ≡ front ++ y ∷ [])
goal-last goal [] up y h g = absurd h
goal-last goal (x ∷ xs) up y (inl e) g =
    let is : goal ≡ x.id = sym (ap (λ (l : Line). l.id) e ∙ g) in
    let rest : reached_in goal xs ≡ [] = reached-none goal xs (λ z h q. let over : x.id < z.id = of-all (λ later. x.id < later.id) xs z up.0 h in omega arith) in
    let at-goal : (goal == x.id) ≡ true = eq-eqb goal x.id is in
    ([], rw rest (rw at-goal (ap (λ (l : Line). l ∷ []) e)))
goal-last goal (x ∷ xs) up y (inr h) g = by_rest (goal-last goal xs up.1 y h g)
  where
    by_needed : (b : Bool) (front : List Line) → reached_in goal xs ≡ front ++ y ∷ [] → (wider : List Line) × (cond b (x ∷ reached_in goal xs) (reached_in goal xs) ≡ wider ++ y ∷ [])
    by_needed true front q = (x ∷ front, ap (λ (r : List Line). x ∷ r) q)
    by_needed false front q = (front, q)

    by_rest : (front : List Line) × (reached_in goal xs ≡ front ++ y ∷ []) → (front : List Line) × (with_needed goal x (reached_in goal xs) ≡ front ++ y ∷ [])
    by_rest (front, q) = by_needed (is_needed goal (reached_in goal xs) x.id) front q

pub goal-is-last : GoalIsLast
goal-is-last goal lines line is h e = goal-last goal (by_id lines) (sorted-rising lines is.apart) line (sorted-among lines line (among-from_contains lines line h)) e
