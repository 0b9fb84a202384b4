-- What a goal needs of a log stays where lines come after.
use Rattle.std.proofs.Common.{◌≡◌, ◌≢◌, ℕ, ◌<◌, ◌≤◌, ◌^◌, Bool, true, false, cond, List, [], ◌∷◌, ◌++◌, ◌==◌, Contains, length, Option, Some, None, refl, sym, ◌∙◌, subst, ap, inl, inr, ◌⊎◌, arith}
use Rattle.std.specs.Prelude.{All, find, nat_lt}
use Rattle.std.specs.List.{list_any}
use Rattle.std.specs.Option.{option_map, option_map_or}
use Rattle.std.proofs.lemmas.Bool.{eqb-true, eq-eqb, ne_eqb}
use Rattle.std.proofs.lemmas.List.Sorted.{IsPermutation-append_comm}
use Rattle.mal_base.specs.NumberedClause.{Line}
use Rattle.mal_base.proofs.Sorting.{Contains-head, Contains-later}
use Rattle.spec_proof.specs.Log.{IsAbove, AreApart}
use Rattle.spec_proof.specs.Trimmed.{put, by_id, with_needed, reached_in, reached}
use Rattle.spec_proof.specs.Among.{Among, HasNumber, IsClosed}
use Rattle.spec_proof.proofs.Among.{among-append, among-left, among-right, of-all}
use Rattle.spec_proof.proofs.Reaching.{sorted-among, among-sorted, sorted-rising, with-later, reached-among}
use Rattle.spec_proof.proofs.OrderLemmas.{apart-permuted, rising-same}
use Rattle.spec_job.specs.Proofs.{lits_at}
use Rattle.spec_job.specs.SoloMachine.{first_empty}

among-swapped : (xs ys : List Line) (x : Line) → Among x (xs ++ ys) → Among x (ys ++ xs)
among-swapped xs ys x h = by_side (among-append xs ys x h)
  where
    by_side : Among x xs ⊎ Among x ys → Among x (ys ++ xs)
    by_side (inl k) = among-right ys xs x k
    by_side (inr k) = among-left ys xs x k

-- lines after others have other numbers
apart-across : (xs ys : List Line) → AreApart (xs ++ ys) → (x y : Line) → Among x xs → Among y ys → y.id ≢ x.id
apart-across [] ys apart x y h k = absurd h
apart-across (z ∷ xs) ys apart x y (inl e) k = subst (λ (l : Line). y.id ≢ l.id) e (of-all (λ other. other.id ≢ z.id) (xs ++ ys) y apart.0 (among-right xs ys y k))
apart-across (z ∷ xs) ys apart x y (inr h) k = apart-across xs ys apart.1 x y h k

-- no line has this number given a hint
no-hint : (hints : List ℕ) (id : ℕ) → (Contains hints id → ⊥) → list_any (λ hint. hint == id) hints ≡ false
no-hint [] id none = refl
no-hint (x ∷ xs) id none =
    let other : x ≢ id = λ e. none (subst (λ (n : ℕ). Contains (x ∷ xs) n) e (Contains-head x xs)) in
    let first : (x == id) ≡ false = ne_eqb x id other in
    rw first (no-hint xs id (λ k. none (Contains-later x xs id k)))

no-user : (xs : List Line) (id : ℕ) → ((y : Line) → Among y xs → Contains y.hints id → ⊥) → list_any (λ line. list_any (λ hint. hint == id) line.hints) xs ≡ false
no-user [] id none = refl
no-user (x ∷ xs) id none =
    let first : list_any (λ hint. hint == id) x.hints ≡ false = no-hint x.hints id (none x (inl refl)) in
    rw first (no-user xs id (λ y h. none y (inr h)))

unneeded : (goal : ℕ) (m : Line) (later : List Line) → m.id ≢ goal → ((y : Line) → Among y later → Contains y.hints m.id → ⊥) → with_needed goal m later ≡ later
unneeded goal m later other none =
    let first : (goal == m.id) ≡ false = ne_eqb goal m.id (λ e. other (sym e)) in
    let rest : list_any (λ line. list_any (λ hint. hint == m.id) line.hints) later ≡ false = no-user later m.id none in
    rw (first, rest) refl

-- a line that is not needed changes nothing
put-unneeded : (goal : ℕ) (m : Line) (xs : List Line) → m.id ≢ goal → ((y : Line) → Among y (reached_in goal xs) → Contains y.hints m.id → ⊥) → reached_in goal (put m xs) ≡ reached_in goal xs
put-unneeded goal m [] other none = unneeded goal m [] other none
put-unneeded goal m (x ∷ xs) other none = by_order (nat_lt m.id x.id) (put-unneeded goal m xs other (λ y h. none y (with-later goal x (reached_in goal xs) y h)))
  where
    by_order : (b : Bool) → reached_in goal (put m xs) ≡ reached_in goal xs → reached_in goal (cond b (m ∷ x ∷ xs) (x ∷ put m xs)) ≡ reached_in goal (x ∷ xs)
    by_order true rest = unneeded goal m (reached_in goal (x ∷ xs)) other none
    by_order false rest = ap (λ (later : List Line). with_needed goal x later) rest

-- so do several
behind-unneeded : (goal : ℕ) (front more : List Line) → ((m : Line) → Among m more → m.id ≢ goal) → ((m y : Line) → Among m more → Among y front → Contains y.hints m.id → ⊥) → reached_in goal (by_id (more ++ front)) ≡ reached_in goal (by_id front)
behind-unneeded goal front [] other none = refl
behind-unneeded goal front (m ∷ ms) other none =
    let rest : reached_in goal (by_id (ms ++ front)) ≡ reached_in goal (by_id front) = behind-unneeded goal front ms (λ x h. other x (inr h)) (λ x y h. none x y (inr h)) in
    put-unneeded goal m (by_id (ms ++ front)) (other m (inl refl)) (λ y h. none m y (inl refl) (among-sorted front y (reached-among goal (by_id front) y (subst (λ (ls : List Line). Among y ls) rest h)))) ∙ rest

-- what a goal among the front of a log needs is the same in the front and in the log
pub reached-stays : (goal : ℕ) (front more : List Line) → AreApart (front ++ more) → All IsAbove more → IsClosed front → (line : Line) → Among line front → line.id ≡ goal → reached goal (front ++ more) ≡ reached goal front
reached-stays goal front more apart above closed line h e = ap (λ (ls : List Line). reached_in goal ls) swap ∙ behind-unneeded goal front more other none
  where
    swap : by_id (front ++ more) ≡ by_id (more ++ front)
    swap = rising-same (by_id (front ++ more)) (by_id (more ++ front)) (sorted-rising (front ++ more) apart) (sorted-rising (more ++ front) (apart-permuted (front ++ more) (more ++ front) (IsPermutation-append_comm front more) apart)) (λ z k. sorted-among (more ++ front) z (among-swapped front more z (among-sorted (front ++ more) z k))) (λ z k. sorted-among (front ++ more) z (among-swapped more front z (among-sorted (more ++ front) z k)))

    other : (m : Line) → Among m more → m.id ≢ goal
    other m k q = apart-across front more apart line m h k (q ∙ sym e)

    none : (m y : Line) → Among m more → Among y front → Contains y.hints m.id → ⊥
    none m y k i used = by_source (closed y m.id i used)
      where
        by_source : (m.id < 2 ^ 32) ⊎ HasNumber front m.id → ⊥
        by_source (inl low) = let high : 2 ^ 32 ≤ m.id = (of-all IsAbove more m above k).derived in omega arith
        by_source (inr (o, j, q)) = apart-across front more apart o m j k (sym q)

-- the line with a number is found where the numbers differ
find-line : (log : List Line) → AreApart log → (goal : ℕ) (line : Line) → Among line log → line.id ≡ goal → find (λ (l : Line). l.id == goal) log ≡ Some line
find-line [] apart goal line h e = absurd h
find-line (x ∷ xs) apart goal line (inl q) e =
    let is : (x.id == goal) ≡ true = eq-eqb x.id goal (ap (λ (l : Line). l.id) q ∙ e) in
    rw is (ap (λ (l : Line). Some l) q)
find-line (x ∷ xs) apart goal line (inr h) e =
    let other : x.id ≢ goal = λ q. of-all (λ o. o.id ≢ x.id) xs line apart.0 h (e ∙ sym q) in
    let not-first : (x.id == goal) ≡ false = ne_eqb x.id goal other in
    rw not-first (find-line xs apart.1 goal line h e)

pub lits-found : (log : List Line) → AreApart log → (goal : ℕ) (line : Line) → Among line log → line.id ≡ goal → lits_at goal log ≡ line.lits
lits-found log apart goal line h e = ap (λ (o : Option Line). option_map_or (λ (l : Line). l.lits) o []) (find-line log apart goal line h e)

-- the first empty clause is that of a line
find-among : (p : Line → Bool) (log : List Line) (line : Line) → find p log ≡ Some line → Among line log × (p line ≡ true)
find-among p [] line e = absurd (cc)
find-among p (x ∷ xs) line e = by_first (λ f. find-among p xs line f) (p x) refl e
  where
    later : Among line xs × (p line ≡ true) → Among line (x ∷ xs) × (p line ≡ true)
    later (h, q) = (inr h, q)

    by_first : (find p xs ≡ Some line → Among line xs × (p line ≡ true)) → (b : Bool) → p x ≡ b → cond b (Some x) (find p xs) ≡ Some line → Among line (x ∷ xs) × (p line ≡ true)
    by_first rest true q f = let same : x ≡ line = cc in (inl same, subst (λ (l : Line). p l ≡ true) same q)
    by_first rest false q f = later (rest f)

-- a line of a log without literals
abbrev pub IsEmptyLine : List Line → ℕ → Line → Type 0
IsEmptyLine log goal line = Among line log × (line.id ≡ goal) × (line.lits ≡ [])

none-left : (lits : List ℕ) → (length lits == 0) ≡ true → lits ≡ []
none-left [] e = refl
none-left (x ∷ xs) e = let bad : length (x ∷ xs) ≡ 0 = eqb-true (length (x ∷ xs)) 0 e in absurd (omega arith)

pub empty-found : (log : List Line) (goal : ℕ) → first_empty log ≡ Some goal → (line : Line) × IsEmptyLine log goal line
empty-found log goal e = by_find (find (λ (l : Line). length l.lits == 0) log) refl e
  where
    by_find : (o : Option Line) → find (λ (l : Line). length l.lits == 0) log ≡ o → option_map (λ (l : Line). l.id) o ≡ Some goal → (line : Line) × IsEmptyLine log goal line
    by_find None q f = absurd (cc)
    by_find (Some l) q f =
        let found = find-among (λ (x : Line). length x.lits == 0) log l q in
        let same : l.id ≡ goal = cc in
        (l, (found.0, same, none-left l.lits found.1))
