-- What a worker does with a lease at a gate.
use Rattle.std.proofs.Common.{◌≡◌, ℕ, Bool, true, false, if◌then◌else◌, List, [], ◌∷◌, ◌++◌, inl, inr, refl, sym, ◌∙◌, subst, append-nil, Ok}
use Rattle.mal_base.specs.declared.verdict.Outcome.{Outcome}
use Rattle.mal_base.specs.declared.verdict.Outcome.TheVariants.{Ran, Starved, Lost}
use Rattle.mal_hall.specs.Desks.{DeskCall, Picked, Gave, IsWorked}
use Rattle.mal_hall.specs.Offered.{handed_of}
use Rattle.mal_pool.specs.declared.gate.Point.TheVariants.{Before, After}
use Rattle.mal_pool.specs.declared.gate.Step.{Step}
use Rattle.mal_pool.specs.declared.gate.Step.TheVariants.{Go, Stop}
use Rattle.mal_pool.specs.declared.working.End.TheVariants as ends
use Rattle.mal_pool.specs.declared.working.Turned.{Turned}
use Rattle.mal_pool.specs.declared.working.Turned.TheVariants as turned
use Rattle.mal_pool.specs.Gates.{Stops, Passes}
use Rattle.mal_pool.specs.Works.{IsTurn, turned_by}
use Rattle.spec_job.specs.Leased as job
use Rattle.spec_job.specs.Leased.{Finished, Becomes, Tells}
use Rattle.spec_job.specs.Viewed.{IsGrownBy}
use Rattle.spec_hall.specs.Calls as calls
use Rattle.spec_hall.specs.Calls.{Leased, Handed, Return, Offer}

stop-is : (b : Bool) (s : Step) → s ≡ (if b then Stop else Go) → s ≡ Stop → b ≡ true
stop-is true s e is = refl
stop-is false s e is = absurd (let no : Go ≡ Stop = sym e ∙ is in cc)

go-is : (b : Bool) (s : Step) → s ≡ (if b then Stop else Go) → s ≡ Go → b ≡ false
go-is true s e is = absurd (let no : Stop ≡ Go = sym e ∙ is in cc)
go-is false s e is = refl

grown-from : (o : Outcome) (l : job.Leased) (d : Finished) → Becomes o l d → IsGrownBy o l.adds l.journal d.journal
grown-from Ran l d is = is
grown-from Starved l d is = is.0
grown-from Lost l d is = absurd is

-- a lease that was worked off
worked : (l : job.Leased) (d : Finished) → d.worker ≡ l.worker → Becomes d.outcome l d → Tells d.outcome d → IsWorked (handed_of l) d
worked l d who is tells = record { worker = who; journal = grown-from d.outcome l d is; tells = tells }

-- the gate stops the worker before the slice, or after it
pub stopped-before : (stops : Stops) (w start : ℕ) (l : job.Leased) (old : List DeskCall) (s : Step) → start ≡ l.journal.start → s ≡ (if stops Before start w then Stop else Go) → s ≡ Stop → (mine : List DeskCall) × (old ≡ old ++ mine) × IsTurn stops w (Picked w (Ok (Leased (handed_of l))) ∷ mine) (turned.Ended ends.Stopped)
stopped-before stops w start l old s is told stop = (
  [],
  sym (append-nil old),
  (handed_of l, inl (subst (λ (n : ℕ). stops Before n w ≡ true) is (stop-is (stops Before start w) s told stop)), refl),
)

pub stopped-after : (stops : Stops) (w start : ℕ) (l : job.Leased) (old : List DeskCall) (t : Step) → start ≡ l.journal.start → stops Before l.journal.start w ≡ false → t ≡ (if stops After start w then Stop else Go) → t ≡ Stop → (mine : List DeskCall) × (old ≡ old ++ mine) × IsTurn stops w (Picked w (Ok (Leased (handed_of l))) ∷ mine) (turned.Ended ends.Stopped)
stopped-after stops w start l old t is passed told stop = (
  [],
  sym (append-nil old),
  (handed_of l, inr (passed, subst (λ (n : ℕ). stops After n w ≡ true) is (stop-is (stops After start w) t told stop)), refl),
)

-- a lease that passed is given back
given : (stops : Stops) (w : ℕ) (l : Handed) (d : Finished) (answer : Return) → Passes stops w l → IsWorked l d → IsTurn stops w (Picked w (Ok (Leased l)) ∷ Gave d answer ∷ []) (turned_by answer)
given stops w l d calls.Back pass done = (l, d, pass, done, refl)
given stops w l d (calls.Strange kept) pass done = (l, d, kept, pass, done, refl)

-- what came of a lease that passed was given back, and this was answered
pub gave-back : (stops : Stops) (w start : ℕ) (l : job.Leased) (d : Finished) (old now : List DeskCall) (t : Step) (end : Turned) → start ≡ l.journal.start → stops Before l.journal.start w ≡ false → t ≡ (if stops After start w then Stop else Go) → t ≡ Go → d.worker ≡ l.worker → Becomes d.outcome l d → Tells d.outcome d → (answer : Return) × (now ≡ old ++ Gave d answer ∷ []) × (end ≡ turned_by answer) → (mine : List DeskCall) × (now ≡ old ++ mine) × IsTurn stops w (Picked w (Ok (Leased (handed_of l))) ∷ mine) end
gave-back stops w start l d old now t end is passed told go who becomes tells back =
    let pass : Passes stops w (handed_of l) = (passed, subst (λ (n : ℕ). stops After n w ≡ false) is (go-is (stops After start w) t told go)) in
    let turn = given stops w (handed_of l) d back.0 pass (worked l d who becomes tells) in
    (Gave d back.0 ∷ [], back.1, subst (IsTurn stops w (Picked w (Ok (Leased (handed_of l))) ∷ Gave d back.0 ∷ [])) (sym back.2) turn)
