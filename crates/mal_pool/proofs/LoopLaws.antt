-- What the end of a worker's loop says of its calls, by induction on the calls.
use Rattle.std.proofs.Common.{◌≡◌, ℕ, ◌+◌, ◌-◌, ◌≤◌, List, [], ◌∷◌, ◌++◌, ◌⊎◌, inl, inr, refl, sym, ap, ◌∙◌, arith, subst, suc, Option, Some, None, Ok, Err}
use Rattle.std.specs.Prelude.{replicate}
use Rattle.spec_job.specs.Leased.{Finished}
use Rattle.mal_base.specs.declared.hall_fault.PickFault.TheVariants as faults
use Rattle.spec_hall.specs.Calls as calls
use Rattle.spec_hall.specs.Calls.{Handed, Leased}
use Rattle.mal_hall.specs.Desks.{DeskCall, Picked, Gave, Posted}
use Rattle.mal_pool.specs.Gates.{Stops, Halts}
use Rattle.mal_pool.specs.declared.working.End.{End}
use Rattle.mal_pool.specs.declared.working.End.TheVariants as ends
use Rattle.mal_pool.specs.Works.{Works, Rests}
use Rattle.mal_pool.specs.LoopLaws.{picks, EndsWith, EndSays}

-- with a lease owed, no answer in a row was Idle
abbrev Owes : Option Handed → ℕ → Type 0
Owes None idles = Unit {0}
Owes (Some l) idles = idles ≡ 0

-- the calls end with this many Idle: 1,000, or they are all of these and with those before 1,000
abbrev Tail : ℕ → ℕ → Option Handed → List DeskCall → Type 0
Tail w idles o mine = (front : List DeskCall) × (n : ℕ) × (mine ≡ front ++ replicate n (Picked w (Ok calls.Idle))) × ((n ≡ 1000) ⊎ ((o ≡ None) × (front ≡ []) × (n + idles ≡ 1000)))

further : (w idles before : ℕ) (o : Option Handed) (c : DeskCall) (l : Handed) (more : List DeskCall) → Tail w before (Some l) more → Tail w idles o (c ∷ more)
further w idles before o c l more (front, n, e, inl q) = (c ∷ front, n, ap (λ (cs : List DeskCall). c ∷ cs) e, inl q)
further w idles before o c l more (front, n, e, inr q) = absurd (let no : Some l ≡ None = q.0 in cc)

given : (w : ℕ) (l : Handed) (c : DeskCall) (idles : ℕ) (more : List DeskCall) → idles ≡ 0 → Tail w idles None more → Tail w idles (Some l) (c ∷ more)
given w l c idles more z (front, n, e, inl q) = (c ∷ front, n, ap (λ (cs : List DeskCall). c ∷ cs) e, inl q)
given w l c idles more z (front, n, e, inr q) = (c ∷ front, n, ap (λ (cs : List DeskCall). c ∷ cs) e, inl (omega (arith, q.2, z)))

idled : (w v idles : ℕ) (more : List DeskCall) → v ≡ w → Tail w (idles + 1) None more → Tail w idles None (Picked v (Ok calls.Idle) ∷ more)
idled w v idles more s (front, n, e, inl q) = (Picked v (Ok calls.Idle) ∷ front, n, ap (λ (cs : List DeskCall). Picked v (Ok calls.Idle) ∷ cs) e, inl q)
idled w v idles more s (front, n, e, inr q) = (
  [],
  suc n,
  ap (λ (x : ℕ). Picked x (Ok calls.Idle) ∷ more) s ∙ ap (λ (cs : List DeskCall). Picked w (Ok calls.Idle) ∷ cs) (e ∙ ap (λ (cs : List DeskCall). cs ++ replicate n (Picked w (Ok calls.Idle))) q.1),
  inr (refl, refl, omega (arith, q.2)),
)

tail : (stops : Stops) (w left idles : ℕ) (o : Option Handed) (mine : List DeskCall) → Owes o idles → Works stops w left idles o mine ends.Idle → Tail w idles o mine
tail stops w left idles None [] h r = ([], 0, refl, inr (refl, refl, omega (arith, r)))
tail stops w left idles None (Picked v (Ok (Leased l)) ∷ more) h r = further w idles 0 None (Picked v (Ok (Leased l))) l more (tail stops w (left - 1) 0 (Some l) more refl r.2)
tail stops w left idles None (Picked v (Ok calls.Idle) ∷ more) h r = idled w v idles more r.0 (tail stops w (left - 1) (idles + 1) None more tt r.2)
tail stops w left idles None (Picked v (Ok calls.AllDone) ∷ more) h r = absurd (let no : ends.Idle ≡ ends.AllDone = r.3 in cc)
tail stops w left idles None (Picked v (Err faults.Busy) ∷ more) h r = absurd (let no : ends.Idle ≡ ends.Busy = r.3 in cc)
tail stops w left idles None (Picked v (Err faults.OutOfMemory) ∷ more) h r = absurd (let no : ends.Idle ≡ ends.OutOfMemory = r.3 in cc)
tail stops w left idles None (Gave d a ∷ more) h r = absurd r
tail stops w left idles None (Posted p a ∷ more) h r = absurd r
tail stops w left idles (Some l) [] h r = absurd (let no : ends.Idle ≡ ends.Stopped = r.1 in cc)
tail stops w left idles (Some l) (Picked v a ∷ more) h r = absurd r
tail stops w left idles (Some l) (Gave d calls.Back ∷ more) h r = given w l (Gave d calls.Back) idles more h (tail stops w left idles None more tt r.2)
tail stops w left idles (Some l) (Gave d (calls.Strange kept) ∷ more) h r = absurd (let no : ends.Idle ≡ ends.Strange = r.3 in cc)
tail stops w left idles (Some l) (Posted p a ∷ more) h r = absurd r

pub idle_says : (stops : Stops) (w turns : ℕ) (mine : List DeskCall) → Works stops w turns 0 None mine ends.Idle → EndSays stops w turns mine ends.Idle
idle_says stops w turns mine r = by (tail stops w turns 0 None mine tt r)
  where
    by : Tail w 0 None mine → EndSays stops w turns mine ends.Idle
    by (front, n, e, inl q) = (front, subst (λ (k : ℕ). mine ≡ front ++ replicate k (Picked w (Ok calls.Idle))) q e)
    by (front, n, e, inr q) = let is : n ≡ 1000 = omega (arith, q.2) in (front, subst (λ (k : ℕ). mine ≡ front ++ replicate k (Picked w (Ok calls.Idle))) is e)

-- no loop picks more often than it has turns
pub bounded : (stops : Stops) (w left idles : ℕ) (o : Option Handed) (mine : List DeskCall) (end : End) → Works stops w left idles o mine end → picks mine ≤ left
bounded stops w left idles None [] end r = omega arith
bounded stops w left idles None (Picked v (Ok (Leased l)) ∷ more) end r = let b = bounded stops w (left - 1) 0 (Some l) more end r.2 in let m = r.1.0 in omega (arith, b, m)
bounded stops w left idles None (Picked v (Ok calls.Idle) ∷ more) end r = let b = bounded stops w (left - 1) (idles + 1) None more end r.2 in let m = r.1.0 in omega (arith, b, m)
bounded stops w left idles None (Picked v (Ok calls.AllDone) ∷ more) end r = let m = r.1.0 in let none = ap picks r.2 in omega (arith, none, m)
bounded stops w left idles None (Picked v (Err faults.Busy) ∷ more) end r = let m = r.1.0 in let none = ap picks r.2 in omega (arith, none, m)
bounded stops w left idles None (Picked v (Err faults.OutOfMemory) ∷ more) end r = let m = r.1.0 in let none = ap picks r.2 in omega (arith, none, m)
bounded stops w left idles None (Gave d a ∷ more) end r = absurd r
bounded stops w left idles None (Posted p a ∷ more) end r = absurd r
bounded stops w left idles (Some l) [] end r = omega arith
bounded stops w left idles (Some l) (Picked v a ∷ more) end r = absurd r
bounded stops w left idles (Some l) (Gave d calls.Back ∷ more) end r = bounded stops w left idles None more end r.2
bounded stops w left idles (Some l) (Gave d (calls.Strange kept) ∷ more) end r = let none = ap picks r.2 in omega (arith, none)
bounded stops w left idles (Some l) (Posted p a ∷ more) end r = absurd r

-- a loop that is spent picked as often as it had turns
spent : (stops : Stops) (w left idles : ℕ) (o : Option Handed) (mine : List DeskCall) → Works stops w left idles o mine ends.Spent → picks mine ≡ left
spent stops w left idles None [] r = sym r.0
spent stops w left idles None (Picked v (Ok (Leased l)) ∷ more) r = let b = spent stops w (left - 1) 0 (Some l) more r.2 in let m = r.1.0 in omega (arith, b, m)
spent stops w left idles None (Picked v (Ok calls.Idle) ∷ more) r = let b = spent stops w (left - 1) (idles + 1) None more r.2 in let m = r.1.0 in omega (arith, b, m)
spent stops w left idles None (Picked v (Ok calls.AllDone) ∷ more) r = absurd (let no : ends.Spent ≡ ends.AllDone = r.3 in cc)
spent stops w left idles None (Picked v (Err faults.Busy) ∷ more) r = absurd (let no : ends.Spent ≡ ends.Busy = r.3 in cc)
spent stops w left idles None (Picked v (Err faults.OutOfMemory) ∷ more) r = absurd (let no : ends.Spent ≡ ends.OutOfMemory = r.3 in cc)
spent stops w left idles None (Gave d a ∷ more) r = absurd r
spent stops w left idles None (Posted p a ∷ more) r = absurd r
spent stops w left idles (Some l) [] r = absurd (let no : ends.Spent ≡ ends.Stopped = r.1 in cc)
spent stops w left idles (Some l) (Picked v a ∷ more) r = absurd r
spent stops w left idles (Some l) (Gave d calls.Back ∷ more) r = spent stops w left idles None more r.2
spent stops w left idles (Some l) (Gave d (calls.Strange kept) ∷ more) r = absurd (let no : ends.Spent ≡ ends.Strange = r.3 in cc)
spent stops w left idles (Some l) (Posted p a ∷ more) r = absurd r

-- the last answer
abbrev Last : Stops → ℕ → List DeskCall → End → Type 0
Last stops w mine ends.Idle = Unit {0}
Last stops w mine ends.Spent = Unit {0}
Last stops w mine ends.Stopped = Unit {0}
Last stops w mine ends.AllDone = EndsWith mine (Picked w (Ok calls.AllDone))
Last stops w mine ends.Busy = EndsWith mine (Picked w (Err faults.Busy))
Last stops w mine ends.OutOfMemory = EndsWith mine (Picked w (Err faults.OutOfMemory))
Last stops w mine ends.Strange = (d : Finished) × (kept : Option ℕ) × EndsWith mine (Gave d (calls.Strange kept))

sooner : (x c : DeskCall) (more : List DeskCall) → EndsWith more c → EndsWith (x ∷ more) c
sooner x c more (front, e) = (x ∷ front, ap (λ (cs : List DeskCall). x ∷ cs) e)

before : (stops : Stops) (w : ℕ) (x : DeskCall) (more : List DeskCall) (end : End) → Last stops w more end → Last stops w (x ∷ more) end
before stops w x more ends.Idle h = tt
before stops w x more ends.Spent h = tt
before stops w x more ends.Stopped h = tt
before stops w x more ends.AllDone h = sooner x (Picked w (Ok calls.AllDone)) more h
before stops w x more ends.Busy h = sooner x (Picked w (Err faults.Busy)) more h
before stops w x more ends.OutOfMemory h = sooner x (Picked w (Err faults.OutOfMemory)) more h
before stops w x more ends.Strange (d, kept, h) = (d, kept, sooner x (Gave d (calls.Strange kept)) more h)

-- a loop that rests has no last answer
rests : (stops : Stops) (w left idles : ℕ) (end : End) → Rests left idles end → Last stops w [] end
rests stops w left idles ends.Idle r = tt
rests stops w left idles ends.Spent r = tt
rests stops w left idles ends.Stopped r = tt
rests stops w left idles ends.AllDone r = absurd r
rests stops w left idles ends.Busy r = absurd r
rests stops w left idles ends.OutOfMemory r = absurd r
rests stops w left idles ends.Strange r = absurd r

last : (stops : Stops) (w left idles : ℕ) (o : Option Handed) (mine : List DeskCall) (end : End) → Works stops w left idles o mine end → Last stops w mine end
last stops w left idles None [] end r = rests stops w left idles end r
last stops w left idles None (Picked v (Ok (Leased l)) ∷ more) end r = before stops w _ more end (last stops w (left - 1) 0 (Some l) more end r.2)
last stops w left idles None (Picked v (Ok calls.Idle) ∷ more) end r = before stops w _ more end (last stops w (left - 1) (idles + 1) None more end r.2)
last stops w left idles None (Picked v (Ok calls.AllDone) ∷ more) end r = subst (Last stops w (Picked v (Ok calls.AllDone) ∷ more)) (sym r.3) ([], λ i. Picked (r.0 i) (Ok calls.AllDone) ∷ r.2 i)
last stops w left idles None (Picked v (Err faults.Busy) ∷ more) end r = subst (Last stops w (Picked v (Err faults.Busy) ∷ more)) (sym r.3) ([], λ i. Picked (r.0 i) (Err faults.Busy) ∷ r.2 i)
last stops w left idles None (Picked v (Err faults.OutOfMemory) ∷ more) end r = subst (Last stops w (Picked v (Err faults.OutOfMemory) ∷ more)) (sym r.3) ([], λ i. Picked (r.0 i) (Err faults.OutOfMemory) ∷ r.2 i)
last stops w left idles None (Gave d a ∷ more) end r = absurd r
last stops w left idles None (Posted p a ∷ more) end r = absurd r
last stops w left idles (Some l) [] end r = subst (Last stops w []) (sym r.1) tt
last stops w left idles (Some l) (Picked v a ∷ more) end r = absurd r
last stops w left idles (Some l) (Gave d calls.Back ∷ more) end r = before stops w _ more end (last stops w left idles None more end r.2)
last stops w left idles (Some l) (Gave d (calls.Strange kept) ∷ more) end r = subst (Last stops w (Gave d (calls.Strange kept) ∷ more)) (sym r.3) (d, kept, ([], λ i. Gave d (calls.Strange kept) ∷ r.2 i))
last stops w left idles (Some l) (Posted p a ∷ more) end r = absurd r

-- a loop that the gate stopped made one pick more, and the gate stops the worker with that lease
abbrev Stopping : Stops → ℕ → List DeskCall → Type 0
Stopping stops w mine = (l : Handed) × Halts stops w l × EndsWith mine (Picked w (Ok (Leased l)))

-- with a lease owed, it may be stopped at once
abbrev StoppingAt : Stops → ℕ → Option Handed → List DeskCall → Type 0
StoppingAt stops w None mine = Stopping stops w mine
StoppingAt stops w (Some l) mine = ((mine ≡ []) × Halts stops w l) ⊎ Stopping stops w mine

stopping-later : (stops : Stops) (w : ℕ) (x : DeskCall) (more : List DeskCall) → Stopping stops w more → Stopping stops w (x ∷ more)
stopping-later stops w x more (l, halts, ends) = (l, halts, sooner x (Picked w (Ok (Leased l))) more ends)

stopping-owed : (stops : Stops) (w v : ℕ) (l : Handed) (more : List DeskCall) → v ≡ w → StoppingAt stops w (Some l) more → Stopping stops w (Picked v (Ok (Leased l)) ∷ more)
stopping-owed stops w v l more is (inl (none, halts)) = (l, halts, ([], λ i. Picked (is i) (Ok (Leased l)) ∷ none i))
stopping-owed stops w v l more is (inr later) = stopping-later stops w (Picked v (Ok (Leased l))) more later

stopped : (stops : Stops) (w left idles : ℕ) (o : Option Handed) (mine : List DeskCall) → Works stops w left idles o mine ends.Stopped → StoppingAt stops w o mine
stopped stops w left idles None [] r = absurd r
stopped stops w left idles None (Picked v (Ok (Leased l)) ∷ more) r = stopping-owed stops w v l more r.0 (stopped stops w (left - 1) 0 (Some l) more r.2)
stopped stops w left idles None (Picked v (Ok calls.Idle) ∷ more) r = stopping-later stops w (Picked v (Ok calls.Idle)) more (stopped stops w (left - 1) (idles + 1) None more r.2)
stopped stops w left idles None (Picked v (Ok calls.AllDone) ∷ more) r = absurd (let no : ends.Stopped ≡ ends.AllDone = r.3 in cc)
stopped stops w left idles None (Picked v (Err faults.Busy) ∷ more) r = absurd (let no : ends.Stopped ≡ ends.Busy = r.3 in cc)
stopped stops w left idles None (Picked v (Err faults.OutOfMemory) ∷ more) r = absurd (let no : ends.Stopped ≡ ends.OutOfMemory = r.3 in cc)
stopped stops w left idles None (Gave d a ∷ more) r = absurd r
stopped stops w left idles None (Posted p a ∷ more) r = absurd r
stopped stops w left idles (Some l) [] r = inl (refl, r.0)
stopped stops w left idles (Some l) (Picked v a ∷ more) r = absurd r
stopped stops w left idles (Some l) (Gave d calls.Back ∷ more) r = inr (stopping-later stops w (Gave d calls.Back) more (stopped stops w left idles None more r.2))
stopped stops w left idles (Some l) (Gave d (calls.Strange kept) ∷ more) r = absurd (let no : ends.Stopped ≡ ends.Strange = r.3 in cc)
stopped stops w left idles (Some l) (Posted p a ∷ more) r = absurd r

pub says : (stops : Stops) (w turns : ℕ) (mine : List DeskCall) (end : End) → Works stops w turns 0 None mine end → EndSays stops w turns mine end
says stops w turns mine ends.Idle r = idle_says stops w turns mine r
says stops w turns mine ends.Spent r = spent stops w turns 0 None mine r
says stops w turns mine ends.AllDone r = last stops w turns 0 None mine ends.AllDone r
says stops w turns mine ends.Busy r = last stops w turns 0 None mine ends.Busy r
says stops w turns mine ends.Stopped r = stopped stops w turns 0 None mine r
says stops w turns mine ends.OutOfMemory r = last stops w turns 0 None mine ends.OutOfMemory r
says stops w turns mine ends.Strange r = last stops w turns 0 None mine ends.Strange r
