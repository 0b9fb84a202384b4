-- The calls by which no lease is lost.
use Rattle.std.proofs.Common.{◌≡◌, Bool, true, false, not, List, [], ◌∷◌, refl, ap, ◌∙◌, Ok, Err}
use Rattle.std.specs.List.{list_all, list_any}
use Rattle.std.proofs.lemmas.Bool.{and_parts, or_from}
use Rattle.std.proofs.lemmas.List.Folds.{list_any-append}
use Rattle.mal_base.specs.declared.hall_fault.OpenFault.TheVariants as opening
use Rattle.mal_base.specs.declared.hall_fault.ReviseFault.TheVariants as revising
use Rattle.mal_base.specs.declared.hall_fault.ReaskFault.TheVariants as reasking
use Rattle.mal_base.specs.declared.hall_fault.CloseFault.TheVariants as closing
use Rattle.mal_base.specs.declared.hall_fault.PickFault.TheVariants as picking
use Rattle.mal_base.specs.declared.hall_fault.ReplyFault.TheVariants as asking
use Rattle.mal_base.specs.declared.hall_fault.PackFault.TheVariants as packing
use Rattle.mal_base.specs.declared.hall_fault.AdmitFault.TheVariants as admitting
use Rattle.spec_hall.specs.Calls.{Opens, Revises, Reasks, Closes, Picks, Finishes, Recalls, Asks, Packs, Admits, Leaves, Leased, Idle, AllDone, Back, Strange, arranges}
use Rattle.spec_hall.specs.Driven.{was_lost}
use Rattle.spec_hall.specs.Events.{Event, Open, Revise, Reask, Close, Balance, Start, Finish, Exchange, Leave, Arrive}
use Rattle.spec_run.specs.Losses.{NoneIsLost, is_loss}
use Rattle.spec_live.specs.Laws.{CallLosesNone}

-- a balancing and an exchange lose none
arranges-none : (e : Event) → arranges e ≡ true → is_loss e ≡ false
arranges-none (Open k ask) is = refl
arranges-none (Revise k number r) is = refl
arranges-none (Reask k w) is = refl
arranges-none (Close k) is = refl
arranges-none (Balance shares) is = refl
arranges-none (Start k index worker) is = refl
arranges-none (Finish k index worker outcome) is = absurd (cc)
arranges-none (Exchange k) is = refl
arranges-none (Leave k) is = refl
arranges-none (Arrive k brought) is = refl

due-none : (es : List Event) → list_all arranges es ≡ true → NoneIsLost es
due-none [] all = refl
due-none (e ∷ es) all =
    let parts = and_parts (arranges e) (list_all arranges es) all in
    or_from (is_loss e) (list_any is_loss es) (arranges-none e parts.0) (due-none es parts.1)

not-lost : (b : Bool) → not b ≡ true → b ≡ false
not-lost true is = absurd (cc)
not-lost false is = refl

-- each call by its answer
pub call-loses_none : CallLosesNone
call-loses_none w past (Opens k ask) (Ok done) es whole h = ap (list_any is_loss) h.1
call-loses_none w past (Opens k ask) (Err opening.Duplicate) es whole h = ap (list_any is_loss) h.1
call-loses_none w past (Opens k ask) (Err opening.TenantFull) es whole h = ap (list_any is_loss) h.2
call-loses_none w past (Opens k ask) (Err opening.HallFull) es whole h = ap (list_any is_loss) h.3
call-loses_none w past (Opens k ask) (Err opening.OutOfMemory) es whole h = ap (list_any is_loss) h.1
call-loses_none w past (Revises k r) (Ok done) es whole h = ap (list_any is_loss) h.2
call-loses_none w past (Revises k r) (Err revising.NoJob) es whole h = ap (list_any is_loss) h.1
call-loses_none w past (Revises k r) (Err revising.Closed) es whole h = ap (list_any is_loss) h.3
call-loses_none w past (Revises k r) (Err revising.RevisionsFull) es whole h = ap (list_any is_loss) h.4
call-loses_none w past (Revises k r) (Err (revising.JobFull which)) es whole h = ap (list_any is_loss) h.5
call-loses_none w past (Revises k r) (Err revising.OutOfMemory) es whole h = ap (list_any is_loss) h.2
call-loses_none w past (Reasks k v) (Ok done) es whole h = ap (list_any is_loss) h.2
call-loses_none w past (Reasks k v) (Err reasking.NoJob) es whole h = ap (list_any is_loss) h.1
call-loses_none w past (Reasks k v) (Err reasking.Closed) es whole h = ap (list_any is_loss) h.3
call-loses_none w past (Reasks k v) (Err reasking.OutOfMemory) es whole h = ap (list_any is_loss) h.2
call-loses_none w past (Closes k) (Ok done) es whole h = ap (list_any is_loss) h.2
call-loses_none w past (Closes k) (Err closing.NoJob) es whole h = ap (list_any is_loss) h.1
call-loses_none w past (Closes k) (Err closing.Closed) es whole h = ap (list_any is_loss) h.3
call-loses_none w past (Picks worker) (Ok (Leased lease)) es whole h =
    ap (list_any is_loss) h.events ∙ (list_any-append is_loss h.due (Start h.key h.index worker ∷ []) ∙ or_from (list_any is_loss h.due) false (due-none h.due h.first.kinds) refl)
call-loses_none w past (Picks worker) (Ok Idle) es whole h = due-none es h.due.kinds
call-loses_none w past (Picks worker) (Ok AllDone) es whole h = ap (list_any is_loss) h.1
call-loses_none w past (Picks worker) (Err picking.Busy) es whole h = ap (list_any is_loss) h.1
call-loses_none w past (Picks worker) (Err picking.OutOfMemory) es whole h = due-none es h.due.kinds
call-loses_none w past (Finishes d) Back es whole h = ap (list_any is_loss) h.2 ∙ or_from (was_lost d.outcome) false (not-lost (was_lost d.outcome) whole) refl
call-loses_none w past (Finishes d) (Strange kept) es whole h = ap (list_any is_loss) h.2
call-loses_none w past (Asks k r) (Ok text) es whole h = ap (list_any is_loss) h.3
call-loses_none w past (Asks k r) (Err asking.NoJob) es whole h = ap (list_any is_loss) h.1
call-loses_none w past (Asks k r) (Err asking.OutOfMemory) es whole h = ap (list_any is_loss) h.2
call-loses_none w past Recalls answer es whole h = absurd (cc)
call-loses_none w past (Packs k) (Ok brought) es whole h = ap (list_any is_loss) h.4
call-loses_none w past (Packs k) (Err packing.NoJob) es whole h = ap (list_any is_loss) h.1
call-loses_none w past (Packs k) (Err (packing.Out index)) es whole h = ap (list_any is_loss) h.3
call-loses_none w past (Packs k) (Err packing.OutOfMemory) es whole h = ap (list_any is_loss) h.2
call-loses_none w past (Admits k brought) (Ok done) es whole h = ap (list_any is_loss) h.1
call-loses_none w past (Admits k brought) (Err admitting.Present) es whole h = ap (list_any is_loss) h.1
call-loses_none w past (Admits k brought) (Err admitting.TenantFull) es whole h = ap (list_any is_loss) h.1
call-loses_none w past (Admits k brought) (Err admitting.HallFull) es whole h = ap (list_any is_loss) h.1
call-loses_none w past (Admits k brought) (Err admitting.OutOfMemory) es whole h = ap (list_any is_loss) h.1
call-loses_none w past (Leaves k) answer es whole h = ap (list_any is_loss) h.2
