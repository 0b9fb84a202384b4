-- What is posted by the events that a call enters, and that a call at home moves no job.
use Rattle.std.proofs.Common.{◌≡◌, ℕ, true, false, List, [], ◌∷◌, ◌++◌, flat_map, refl, ap, ◌∙◌, append-nil, Option, Some, None, Ok, Err}
use Rattle.std.specs.Option.{option_map_or}
use Rattle.std.specs.List.{list_all, list_any}
use Rattle.std.proofs.lemmas.Bool.{and_parts, or_from}
use Rattle.std.proofs.lemmas.List.Folds.{list_any-append}
use Rattle.mal_base.specs.declared.hall_fault.OpenFault.TheVariants as opening
use Rattle.mal_base.specs.declared.hall_fault.ReviseFault.TheVariants as revising
use Rattle.mal_base.specs.declared.hall_fault.ReaskFault.TheVariants as reasking
use Rattle.mal_base.specs.declared.hall_fault.CloseFault.TheVariants as closing
use Rattle.mal_base.specs.declared.hall_fault.PickFault.TheVariants as picking
use Rattle.mal_base.specs.declared.hall_fault.ReplyFault.TheVariants as asking
use Rattle.mal_base.specs.declared.hall_fault.PackFault.TheVariants as packing
use Rattle.mal_base.specs.declared.hall_fault.AdmitFault.TheVariants as admitting
use Rattle.mal_base.specs.declared.verdict.Outcome.TheVariants.{Lost}
use Rattle.spec_node.specs.Load.{counted}
use Rattle.spec_hall.specs.Calls.{Opens, Revises, Reasks, Closes, Picks, Finishes, Recalls, Asks, Packs, Admits, Leaves, Leased, Idle, AllDone, Back, Strange, arranges, lost_of}
use Rattle.spec_hall.specs.Events.{Event, Open, Revise, Reask, Close, Balance, Start, Finish, Exchange, Leave, Arrive, moves}
use Rattle.spec_hall.specs.States.{LeaseOut, leases, lease_of}
use Rattle.spec_live.specs.Live.{posts_in}
use Rattle.spec_live.specs.Laws.{CallMovesNone, CallPostsBy}
use Rattle.spec_live.proofs.TurnLemmas.{posts-append, posts-same}

-- what is entered that is neither a post nor a move
abbrev IsQuiet : List Event → Type 0
IsQuiet es = (posts_in es ≡ []) × (list_any moves es ≡ false)

quiet-none : (es : List Event) → es ≡ [] → IsQuiet es
unfolding posts_in
quiet-none es none = (ap posts_in none, ap (list_any moves) none)

quiet-parts : (a b : List Event) → IsQuiet a → IsQuiet b → IsQuiet (a ++ b)
quiet-parts a b x y = (posts-same a b y.0 ∙ x.0, list_any-append moves a b ∙ or_from (list_any moves a) (list_any moves b) x.1 y.1)

-- a balancing and an exchange are neither
arranges-quiet : (e : Event) → arranges e ≡ true → IsQuiet (e ∷ [])
unfolding posts_in
arranges-quiet (Open k ask) is = absurd (cc)
arranges-quiet (Revise k number r) is = absurd (cc)
arranges-quiet (Reask k w) is = absurd (cc)
arranges-quiet (Close k) is = absurd (cc)
arranges-quiet (Balance shares) is = (refl, refl)
arranges-quiet (Start k index worker) is = absurd (cc)
arranges-quiet (Finish k index worker outcome) is = absurd (cc)
arranges-quiet (Exchange k) is = (refl, refl)
arranges-quiet (Leave k) is = absurd (cc)
arranges-quiet (Arrive k brought) is = absurd (cc)

due-quiet : (es : List Event) → list_all arranges es ≡ true → IsQuiet es
due-quiet [] all = quiet-none [] refl
due-quiet (e ∷ es) all =
    let parts = and_parts (arranges e) (list_all arranges es) all in
    quiet-parts (e ∷ []) es (arranges-quiet e parts.0) (due-quiet es parts.1)

-- nor is a lease that is lost
lost-quiet : (out : List LeaseOut) (worker : ℕ) → IsQuiet (lost_of out worker)
unfolding posts_in
lost-quiet out worker = by_lease (lease_of worker out)
  where
    by_lease : (o : Option LeaseOut) → IsQuiet (option_map_or (λ l. Finish l.key l.index worker Lost ∷ []) o [])
    by_lease None = (refl, refl)
    by_lease (Some l) = (refl, refl)

recalled-quiet : (out : List LeaseOut) (ws : List ℕ) → IsQuiet (flat_map (lost_of out) ws)
recalled-quiet out [] = quiet-none [] refl
recalled-quiet out (w ∷ ws) = quiet-parts (lost_of out w) (flat_map (lost_of out) ws) (lost-quiet out w) (recalled-quiet out ws)

-- each call by its answer
pub call-posts_by : CallPostsBy
unfolding posts_in
call-posts_by w past (Opens k ask) (Ok done) es h = ap posts_in h.1
call-posts_by w past (Opens k ask) (Err opening.Duplicate) es h = ap posts_in h.1
call-posts_by w past (Opens k ask) (Err opening.TenantFull) es h = ap posts_in h.2
call-posts_by w past (Opens k ask) (Err opening.HallFull) es h = ap posts_in h.3
call-posts_by w past (Opens k ask) (Err opening.OutOfMemory) es h = ap posts_in h.1
call-posts_by w past (Revises k r) (Ok done) es h = ap posts_in h.2
call-posts_by w past (Revises k r) (Err revising.NoJob) es h = ap posts_in h.1
call-posts_by w past (Revises k r) (Err revising.Closed) es h = ap posts_in h.3
call-posts_by w past (Revises k r) (Err revising.RevisionsFull) es h = ap posts_in h.4
call-posts_by w past (Revises k r) (Err (revising.JobFull which)) es h = ap posts_in h.5
call-posts_by w past (Revises k r) (Err revising.OutOfMemory) es h = ap posts_in h.2
call-posts_by w past (Reasks k v) (Ok done) es h = ap posts_in h.2
call-posts_by w past (Reasks k v) (Err reasking.NoJob) es h = ap posts_in h.1
call-posts_by w past (Reasks k v) (Err reasking.Closed) es h = ap posts_in h.3
call-posts_by w past (Reasks k v) (Err reasking.OutOfMemory) es h = ap posts_in h.2
call-posts_by w past (Closes k) (Ok done) es h = ap posts_in h.2
call-posts_by w past (Closes k) (Err closing.NoJob) es h = ap posts_in h.1
call-posts_by w past (Closes k) (Err closing.Closed) es h = ap posts_in h.3
call-posts_by w past (Picks worker) (Ok (Leased lease)) es h = ap posts_in h.events ∙ (posts-append h.due (Start h.key h.index worker ∷ []) ∙ (append-nil (posts_in h.due) ∙ (due-quiet h.due h.first.kinds).0))
call-posts_by w past (Picks worker) (Ok Idle) es h = (due-quiet es h.due.kinds).0
call-posts_by w past (Picks worker) (Ok AllDone) es h = ap posts_in h.1
call-posts_by w past (Picks worker) (Err picking.Busy) es h = ap posts_in h.1
call-posts_by w past (Picks worker) (Err picking.OutOfMemory) es h = (due-quiet es h.due.kinds).0
call-posts_by w past (Finishes d) Back es h = ap posts_in h.2
call-posts_by w past (Finishes d) (Strange kept) es h = ap posts_in h.2
call-posts_by w past Recalls answer es h = ap posts_in h ∙ (recalled-quiet (leases past) (counted 1 w)).0
call-posts_by w past (Asks k r) (Ok text) es h = ap posts_in h.3
call-posts_by w past (Asks k r) (Err asking.NoJob) es h = ap posts_in h.1
call-posts_by w past (Asks k r) (Err asking.OutOfMemory) es h = ap posts_in h.2
call-posts_by w past (Packs k) (Ok brought) es h = ap posts_in h.4
call-posts_by w past (Packs k) (Err packing.NoJob) es h = ap posts_in h.1
call-posts_by w past (Packs k) (Err (packing.Out index)) es h = ap posts_in h.3
call-posts_by w past (Packs k) (Err packing.OutOfMemory) es h = ap posts_in h.2
call-posts_by w past (Admits k brought) (Ok done) es h = ap posts_in h.1
call-posts_by w past (Admits k brought) (Err admitting.Present) es h = ap posts_in h.1
call-posts_by w past (Admits k brought) (Err admitting.TenantFull) es h = ap posts_in h.1
call-posts_by w past (Admits k brought) (Err admitting.HallFull) es h = ap posts_in h.1
call-posts_by w past (Admits k brought) (Err admitting.OutOfMemory) es h = ap posts_in h.1
call-posts_by w past (Leaves k) answer es h = ap posts_in h.2

pub call-moves_none : CallMovesNone
call-moves_none w past (Opens k ask) (Ok done) es home h = ap (list_any moves) h.1
call-moves_none w past (Opens k ask) (Err opening.Duplicate) es home h = ap (list_any moves) h.1
call-moves_none w past (Opens k ask) (Err opening.TenantFull) es home h = ap (list_any moves) h.2
call-moves_none w past (Opens k ask) (Err opening.HallFull) es home h = ap (list_any moves) h.3
call-moves_none w past (Opens k ask) (Err opening.OutOfMemory) es home h = ap (list_any moves) h.1
call-moves_none w past (Revises k r) (Ok done) es home h = ap (list_any moves) h.2
call-moves_none w past (Revises k r) (Err revising.NoJob) es home h = ap (list_any moves) h.1
call-moves_none w past (Revises k r) (Err revising.Closed) es home h = ap (list_any moves) h.3
call-moves_none w past (Revises k r) (Err revising.RevisionsFull) es home h = ap (list_any moves) h.4
call-moves_none w past (Revises k r) (Err (revising.JobFull which)) es home h = ap (list_any moves) h.5
call-moves_none w past (Revises k r) (Err revising.OutOfMemory) es home h = ap (list_any moves) h.2
call-moves_none w past (Reasks k v) (Ok done) es home h = ap (list_any moves) h.2
call-moves_none w past (Reasks k v) (Err reasking.NoJob) es home h = ap (list_any moves) h.1
call-moves_none w past (Reasks k v) (Err reasking.Closed) es home h = ap (list_any moves) h.3
call-moves_none w past (Reasks k v) (Err reasking.OutOfMemory) es home h = ap (list_any moves) h.2
call-moves_none w past (Closes k) (Ok done) es home h = ap (list_any moves) h.2
call-moves_none w past (Closes k) (Err closing.NoJob) es home h = ap (list_any moves) h.1
call-moves_none w past (Closes k) (Err closing.Closed) es home h = ap (list_any moves) h.3
call-moves_none w past (Picks worker) (Ok (Leased lease)) es home h =
    ap (list_any moves) h.events ∙ (list_any-append moves h.due (Start h.key h.index worker ∷ []) ∙ or_from (list_any moves h.due) false (due-quiet h.due h.first.kinds).1 refl)
call-moves_none w past (Picks worker) (Ok Idle) es home h = (due-quiet es h.due.kinds).1
call-moves_none w past (Picks worker) (Ok AllDone) es home h = ap (list_any moves) h.1
call-moves_none w past (Picks worker) (Err picking.Busy) es home h = ap (list_any moves) h.1
call-moves_none w past (Picks worker) (Err picking.OutOfMemory) es home h = (due-quiet es h.due.kinds).1
call-moves_none w past (Finishes d) Back es home h = ap (list_any moves) h.2
call-moves_none w past (Finishes d) (Strange kept) es home h = ap (list_any moves) h.2
call-moves_none w past Recalls answer es home h = ap (list_any moves) h ∙ (recalled-quiet (leases past) (counted 1 w)).1
call-moves_none w past (Asks k r) (Ok text) es home h = ap (list_any moves) h.3
call-moves_none w past (Asks k r) (Err asking.NoJob) es home h = ap (list_any moves) h.1
call-moves_none w past (Asks k r) (Err asking.OutOfMemory) es home h = ap (list_any moves) h.2
call-moves_none w past (Packs k) answer es home h = absurd (cc)
call-moves_none w past (Admits k brought) answer es home h = absurd (cc)
call-moves_none w past (Leaves k) answer es home h = absurd (cc)
