-- What a job does after its arrival joins what it brought.
use Rattle.std.proofs.Common.{◌≡◌, ℕ, Bool, true, false, cond, ◌==◌, List, [], ◌∷◌, ◌++◌, fold, refl, sym, ◌∙◌, ap, append_assoc, append-nil, if◌then◌else◌}
use Rattle.std.specs.List.{list_any}
use Rattle.std.proofs.lemmas.Bool.{both_ways, or_parts}
use Rattle.std.proofs.lemmas.List.Sums.{fold-append}
use Rattle.spec_job.specs.KeyedJob.{Key}
use Rattle.spec_job.specs.SoloMachine.{Own, Opened, Revised, Reasked, Closed, Volume, Started, Finished, Exchanged}
use Rattle.spec_hall.specs.Events.{Event, Open, Revise, Reask, Close, Balance, Start, Finish, Exchange, Leave, Arrive}
use Rattle.spec_hall.specs.Laws.{OwnGoesOn}
use Rattle.spec_hall.specs.Own.{own, own_step, adds, adds_volume, arrives, is_key, volume_in, volume_after, volume_step}
use Rattle.spec_hall.proofs.KeyLemmas.{is_key-same}

-- the volume after own events that leave none
volume-behind : (pre es : List Own) → volume_after pre ≡ 0 → volume_after (pre ++ es) ≡ volume_after es
volume-behind pre es none = fold-append volume_step 0 pre es ∙ ap (λ (v : ℕ). fold volume_step v es) none

adds-behind : (mine : Bool) (pre es : List Own) (o : Own) → adds mine (pre ++ es) o ≡ pre ++ adds mine es o
adds-behind true pre es o = append_assoc pre es (o ∷ [])
adds-behind false pre es o = refl

-- a volume joins what is after them
pub volume-joins : (v : ℕ) (pre es : List Own) → volume_after pre ≡ 0 → adds_volume v (pre ++ es) ≡ pre ++ adds_volume v es
volume-joins v pre es none = ap (λ (w : ℕ). if v == w then pre ++ es else (pre ++ es) ++ Volume v ∷ []) (volume-behind pre es none) ∙ by_test (v == volume_after es)
  where
    by_test : (b : Bool) → cond b (pre ++ es) ((pre ++ es) ++ Volume v ∷ []) ≡ pre ++ cond b es (es ++ Volume v ∷ [])
    by_test true = refl
    by_test false = append_assoc pre es (Volume v ∷ [])

-- an event that is no arrival of the job joins what is after them
pub own-behind : (j : Key) (pre es : List Own) (e : Event) → volume_after pre ≡ 0 → arrives j e ≡ false → own_step j (pre ++ es) e ≡ pre ++ own_step j es e
own-behind j pre es (Open k ask) none free = adds-behind (is_key j k) pre es (Opened ask)
own-behind j pre es (Revise k number r) none free = adds-behind (is_key j k) pre es (Revised r)
own-behind j pre es (Reask k weight) none free = adds-behind (is_key j k) pre es (Reasked weight)
own-behind j pre es (Close k) none free = adds-behind (is_key j k) pre es Closed
own-behind j pre es (Balance shares) none free = volume-joins (volume_in j shares) pre es none
own-behind j pre es (Start k index worker) none free = adds-behind (is_key j k) pre es (Started index)
own-behind j pre es (Finish k index worker outcome) none free = adds-behind (is_key j k) pre es (Finished index outcome)
own-behind j pre es (Exchange k) none free = adds-behind (is_key j k) pre es Exchanged
own-behind j pre es (Leave k) none free = by_test (is_key j k)
  where
    by_test : (b : Bool) → cond b (adds_volume 0 (pre ++ es)) (pre ++ es) ≡ pre ++ cond b (adds_volume 0 es) es
    by_test true = volume-joins 0 pre es none
    by_test false = refl
own-behind j pre es (Arrive k brought) none free = by_test (is_key j k) free
  where
    by_test : (b : Bool) → b ≡ false → cond b brought (pre ++ es) ≡ pre ++ cond b brought es
    by_test true q = absurd (both_ways true q refl)
    by_test false q = refl

-- so do events one after the other
all-behind : (j : Key) (pre es : List Own) (later : List Event) → volume_after pre ≡ 0 → list_any (arrives j) later ≡ false → fold (own_step j) (pre ++ es) later ≡ pre ++ fold (own_step j) es later
all-behind j pre es [] none free = refl
all-behind j pre es (e ∷ later) none free =
    let parts = or_parts (arrives j e) (list_any (arrives j) later) free in
    ap (λ (os : List Own). fold (own_step j) os later) (own-behind j pre es e none parts.0) ∙ all-behind j pre (own_step j es e) later none parts.1

-- a job goes on with what it brings
pub own-goes_on : OwnGoesOn
own-goes_on j past later brought none free =
    fold-append (own_step j) [] past (Arrive j brought ∷ later)
    ∙ (ap (λ (b : Bool). fold (own_step j) (if b then brought else own j past) later) (is_key-same j)
    ∙ (ap (λ (os : List Own). fold (own_step j) os later) (sym (append-nil brought)) ∙ all-behind j brought [] later none free))
