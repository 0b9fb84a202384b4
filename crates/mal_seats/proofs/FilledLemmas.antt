-- What is found among the jobs that have a volume is what is found among all.
use Rattle.std.proofs.Common.{◌≡◌, ℕ, zero, suc, ◌+◌, ◌-◌, ◌*◌, ◌<◌, ◌≤◌, Bool, true, false, not, ◌&&◌, ◌==◌, cond, List, [], ◌∷◌, ◌++◌, drop, map, fold, slice_get, slice_set, Option, Some, None, option_map, refl, sym, ◌∙◌, ap, add-one, arith}
use Rattle.std.specs.Prelude.{filter, nat_lt, nat_le}
use Rattle.std.specs.List.{remove}
use Rattle.std.specs.Option.{option_map_or}
use Rattle.std.proofs.lemmas.Bool.{eq-eqb, le-ltb, lt-ltb, ne_eqb}
use Rattle.std.proofs.lemmas.Bool.Decides.{Decides-ltb}
use Rattle.spec_node.specs.Load.{counted}
use Rattle.spec_job.specs.SoloMachine.{is_exchange_due}
use Rattle.spec_hall.specs.Seats.{Seat, first_exchange, pick, pick_from, pick_job, pick_node}
use Rattle.spec_hall.specs.States.{Candidate}
use Rattle.mal_seats.specs.Filled.{closed_up, filled_first, filled_from, filled_in, first_among, is_due_at, moved_up, pick_among, pick_at}

-- the volume of a job
abbrev pub volume_of : Seat → ℕ
volume_of s = s.job.titled.state.volume

no-volume : (v : ℕ) → nat_lt 0 v ≡ false → v ≡ 0
no-volume zero e = refl
no-volume (suc v) e =
    let some : nat_lt 0 (suc v) ≡ true = (Decides-ltb 0 (suc v)).1 (omega arith) in
    absurd (cc)

-- the seat at the front of what is left
head-left : (all : List Seat) (n : ℕ) (s : Seat) (ss : List Seat) → drop n all ≡ s ∷ ss → slice_get all n ≡ Some s
head-left [] zero s ss e = absurd (cc)
head-left [] (suc n) s ss e = absurd (cc)
head-left (x ∷ xs) zero s ss e = let same : x ≡ s = cc in ap (λ (t : Seat). let o : Option Seat = Some t in o) same
head-left (x ∷ xs) (suc n) s ss e = head-left xs n s ss e

-- and what is after it
behind : (all : List Seat) (n : ℕ) (s : Seat) (ss : List Seat) → drop n all ≡ s ∷ ss → drop (suc n) all ≡ ss
behind [] zero s ss e = absurd (cc)
behind [] (suc n) s ss e = absurd (cc)
behind (x ∷ xs) zero s ss e = let same : xs ≡ ss = cc in same
behind (x ∷ xs) (suc n) s ss e = behind xs n s ss e

next-left : (all : List Seat) (n : ℕ) (s : Seat) (ss : List Seat) → drop n all ≡ s ∷ ss → drop (n + 1) all ≡ ss
next-left all n s ss e = ap (λ (k : ℕ). drop k all) (add-one n) ∙ behind all n s ss e

-- a job without a volume has no node that may start
pick-none : (job : ℕ) (s : Seat) (best : Option Candidate) → volume_of s ≡ 0 → pick_job job s.job.titled.state best ≡ best
pick-none job s best none = ap (λ (v : ℕ). fold (pick_node job s.job.titled.state) best (counted 0 v)) none

picks : (all : List Seat) (n : ℕ) (ss : List Seat) (best : Option Candidate) → drop n all ≡ ss → pick_among all best (filled_from n ss) ≡ pick_from n best ss
picks all n [] best e = refl
picks all n (s ∷ ss) best e = by_volume (nat_lt 0 (volume_of s)) refl (head-left all n s ss e) (λ o. picks all (n + 1) ss o (next-left all n s ss e))
  where
    by_volume : (b : Bool) → nat_lt 0 (volume_of s) ≡ b → slice_get all n ≡ Some s → ((o : Option Candidate) → pick_among all o (filled_from (n + 1) ss) ≡ pick_from (n + 1) o ss) → pick_among all best (cond b (n ∷ filled_from (n + 1) ss) (filled_from (n + 1) ss)) ≡ pick_from (n + 1) (pick_job n s.job.titled.state best) ss
    by_volume true v there rest =
        let here : pick_at all best n ≡ pick_job n s.job.titled.state best = ap (λ (o : Option Seat). option_map_or (λ (t : Seat). pick_job n t.job.titled.state best) o best) there in
        ap (λ (o : Option Candidate). pick_among all o (filled_from (n + 1) ss)) here ∙ rest (pick_job n s.job.titled.state best)
    by_volume false v there rest = rest best ∙ ap (λ (o : Option Candidate). pick_from (n + 1) o ss) (sym (pick-none n s best (no-volume (volume_of s) v)))

-- the node that starts next is one of a job that has a volume
pub pick-filled : (ss : List Seat) → pick_among ss None (filled_in ss) ≡ pick ss
pick-filled ss = picks ss 0 ss None refl

-- an exchange is due only of a job that has a volume
not-due : (s : Seat) → volume_of s ≡ 0 → is_exchange_due s.job.titled.state ≡ false
not-due s none = ap (λ (v : ℕ). nat_le 2 v && nat_le (2 * v) s.job.titled.state.ran) none

shift : (n : ℕ) (o : Option ℕ) → option_map (λ (k : ℕ). n + 1 + k) o ≡ option_map (λ (k : ℕ). n + k) (option_map suc o)
shift n None = refl
shift n (Some k) = let same : n + 1 + k ≡ n + suc k = omega arith in ap (λ (m : ℕ). let o : Option ℕ = Some m in o) same

firsts : (all : List Seat) (n : ℕ) (ss : List Seat) → drop n all ≡ ss → first_among all (filled_from n ss) ≡ option_map (λ (k : ℕ). n + k) (first_exchange ss)
firsts all n [] e = refl
firsts all n (s ∷ ss) e = by_volume (nat_lt 0 (volume_of s)) refl (head-left all n s ss e) (firsts all (n + 1) ss (next-left all n s ss e) ∙ shift n (first_exchange ss))
  where
    later : Option ℕ
    later = first_among all (filled_from (n + 1) ss)

    rest_of : Option ℕ
    rest_of = option_map (λ (k : ℕ). n + k) (option_map suc (first_exchange ss))

    by_due : (d : Bool) → later ≡ rest_of → cond d (Some n) later ≡ option_map (λ (k : ℕ). n + k) (cond d (Some 0) (option_map suc (first_exchange ss)))
    by_due true rest = let same : n ≡ n + 0 = omega arith in ap (λ (m : ℕ). let o : Option ℕ = Some m in o) same
    by_due false rest = rest

    by_volume : (b : Bool) → nat_lt 0 (volume_of s) ≡ b → slice_get all n ≡ Some s → later ≡ rest_of → first_among all (cond b (n ∷ filled_from (n + 1) ss) (filled_from (n + 1) ss)) ≡ option_map (λ (k : ℕ). n + k) (cond (is_exchange_due s.job.titled.state) (Some 0) (option_map suc (first_exchange ss)))
    by_volume true v there rest =
        let here : is_due_at all n ≡ is_exchange_due s.job.titled.state = ap (λ (o : Option Seat). option_map_or (λ (t : Seat). is_exchange_due t.job.titled.state) o false) there in
        ap (λ (d : Bool). cond d (Some n) later) here ∙ by_due (is_exchange_due s.job.titled.state) rest
    by_volume false v there rest =
        let none : is_exchange_due s.job.titled.state ≡ false = not-due s (no-volume (volume_of s) v) in
        rest ∙ ap (λ (d : Bool). option_map (λ (k : ℕ). n + k) (cond d (Some 0) (option_map suc (first_exchange ss)))) (sym none)

zero-shift : (o : Option ℕ) → option_map (λ (k : ℕ). 0 + k) o ≡ o
zero-shift None = refl
zero-shift (Some k) = let same : 0 + k ≡ k = omega arith in ap (λ (m : ℕ). let o : Option ℕ = Some m in o) same

-- the first exchange that is due is one of a job that has a volume
pub first-filled : (ss : List Seat) → first_among ss (filled_in ss) ≡ first_exchange ss
first-filled ss = firsts ss 0 ss refl ∙ zero-shift (first_exchange ss)

-- a seat whose volume stays
pub filled-set : (at : ℕ) (ss : List Seat) (n : ℕ) (s now : Seat) → slice_get ss n ≡ Some s → volume_of now ≡ volume_of s → filled_from at (slice_set ss n now) ≡ filled_from at ss
filled-set at [] n s now e volume = absurd (cc)
filled-set at (x ∷ xs) zero s now e volume =
    let same : x ≡ s = cc in
    ap (λ (v : ℕ). filled_first at v (filled_from (at + 1) xs)) (volume ∙ ap volume_of (sym same))
filled-set at (x ∷ xs) (suc n) s now e volume = ap (filled_first at (volume_of x)) (filled-set (at + 1) xs n s now e volume)

-- a job that comes without one
pub filled-push : (at : ℕ) (ss : List Seat) (s : Seat) → volume_of s ≡ 0 → filled_from at (ss ++ s ∷ []) ≡ filled_from at ss
filled-push at [] s none = ap (λ (v : ℕ). filled_first at v []) none
filled-push at (x ∷ xs) s none = ap (filled_first at (volume_of x)) (filled-push (at + 1) xs s none)

-- a place of those that close up
closed-cons : (gone p : ℕ) (ps : List ℕ) → closed_up gone (p ∷ ps) ≡ cond (p == gone) (closed_up gone ps) (moved_up gone p ∷ closed_up gone ps)
closed-cons gone p ps = by_test (p == gone)
  where
    kept : List ℕ
    kept = filter (λ (at : ℕ). not (at == gone)) ps

    by_test : (b : Bool) → map (moved_up gone) (cond (not b) (p ∷ kept) kept) ≡ cond b (map (moved_up gone) kept) (moved_up gone p ∷ map (moved_up gone) kept)
    by_test true = refl
    by_test false = refl

closed-gone : (gone p : ℕ) (ps : List ℕ) → p ≡ gone → closed_up gone (p ∷ ps) ≡ closed_up gone ps
closed-gone gone p ps same = closed-cons gone p ps ∙ ap (λ (b : Bool). cond b (closed_up gone ps) (moved_up gone p ∷ closed_up gone ps)) (eq-eqb p gone same)

closed-before : (gone p : ℕ) (ps : List ℕ) → p < gone → closed_up gone (p ∷ ps) ≡ p ∷ closed_up gone ps
closed-before gone p ps low =
    closed-cons gone p ps
    ∙ (ap (λ (b : Bool). cond b (closed_up gone ps) (moved_up gone p ∷ closed_up gone ps)) (ne_eqb p gone (λ (e : p ≡ gone). omega arith))
    ∙ ap (λ (b : Bool). cond b (p - 1) p ∷ closed_up gone ps) (le-ltb gone p (omega arith)))

closed-behind : (gone p : ℕ) (ps : List ℕ) → gone ≤ p → closed_up gone ((p + 1) ∷ ps) ≡ p ∷ closed_up gone ps
closed-behind gone p ps high =
    let back : p + 1 - 1 ≡ p = omega arith in
    closed-cons gone (p + 1) ps
    ∙ (ap (λ (b : Bool). cond b (closed_up gone ps) (moved_up gone (p + 1) ∷ closed_up gone ps)) (ne_eqb (p + 1) gone (λ (e : p + 1 ≡ gone). omega arith))
    ∙ (ap (λ (b : Bool). cond b (p + 1 - 1) (p + 1) ∷ closed_up gone ps) (lt-ltb gone (p + 1) (omega arith))
    ∙ ap (λ (n : ℕ). n ∷ closed_up gone ps) back))

-- the places of seats after one that is gone
filled-behind : (n gone : ℕ) (ss : List Seat) → gone ≤ n → closed_up gone (filled_from (n + 1) ss) ≡ filled_from n ss
filled-behind n gone [] low = refl
filled-behind n gone (s ∷ ss) low = by_volume (nat_lt 0 (volume_of s)) (filled-behind (n + 1) gone ss (omega arith))
  where
    later : List ℕ
    later = filled_from (n + 1 + 1) ss

    by_volume : (b : Bool) → closed_up gone later ≡ filled_from (n + 1) ss → closed_up gone (cond b ((n + 1) ∷ later) later) ≡ cond b (n ∷ filled_from (n + 1) ss) (filled_from (n + 1) ss)
    by_volume true rest = closed-behind gone n later low ∙ ap (λ (ps : List ℕ). n ∷ ps) rest
    by_volume false rest = rest

-- the seats without one
pub filled-remove : (n at gone : ℕ) (ss : List Seat) → gone ≡ n + at → filled_from n (remove ss at) ≡ closed_up gone (filled_from n ss)
filled-remove n zero gone [] here = refl
filled-remove n (suc at) gone [] here = refl
filled-remove n zero gone (s ∷ ss) here = by_volume (nat_lt 0 (volume_of s))
  where
    later : List ℕ
    later = filled_from (n + 1) ss

    rest : closed_up gone later ≡ filled_from n ss
    rest = filled-behind n gone ss (omega arith)

    by_volume : (b : Bool) → filled_from n ss ≡ closed_up gone (cond b (n ∷ later) later)
    by_volume true = sym (closed-gone gone n later (omega arith) ∙ rest)
    by_volume false = sym rest
filled-remove n (suc at) gone (s ∷ ss) here = ap (filled_first n (volume_of s)) (filled-remove (n + 1) at gone ss (omega arith)) ∙ by_volume (nat_lt 0 (volume_of s))
  where
    later : List ℕ
    later = filled_from (n + 1) ss

    by_volume : (b : Bool) → cond b (n ∷ closed_up gone later) (closed_up gone later) ≡ closed_up gone (cond b (n ∷ later) later)
    by_volume true = sym (closed-before gone n later (omega arith))
    by_volume false = refl
