-- The posts among the events of a call.
use Rattle.std.proofs.Common.{◌≡◌, ℕ, Bool, true, false, cond, List, [], ◌∷◌, ◌++◌, refl, sym, ap, ◌∙◌, append-nil, true≢false, Option, Some, None, Ok, Err}
use Rattle.std.specs.Prelude.{filter, flat_map}
use Rattle.std.specs.Option.{option_map_or}
use Rattle.std.specs.List.{list_all}
use Rattle.std.proofs.lemmas.Bool.{and_parts}
use Rattle.std.proofs.lemmas.List.Elements.{filter-append}
use Rattle.mal_base.specs.declared.hall_fault.OpenFault.TheVariants as opening
use Rattle.mal_base.specs.declared.hall_fault.ReviseFault.TheVariants as revising
use Rattle.mal_base.specs.declared.hall_fault.ReaskFault.TheVariants as reasking
use Rattle.mal_base.specs.declared.hall_fault.CloseFault.TheVariants as closing
use Rattle.mal_base.specs.declared.hall_fault.PickFault.TheVariants as picking
use Rattle.mal_base.specs.declared.hall_fault.ReplyFault.TheVariants as asking
use Rattle.mal_base.specs.declared.hall_fault.PackFault.TheVariants as packing
use Rattle.mal_base.specs.declared.hall_fault.AdmitFault.TheVariants as admitting
use Rattle.mal_base.specs.declared.verdict.Outcome.TheVariants.{Lost}
use Rattle.spec_node.specs.Load.{counted}
use Rattle.spec_hall.specs.Calls.{Opens, Revises, Reasks, Closes, Picks, Finishes, Recalls, Asks, Packs, Admits, Leaves, Leased, Idle, AllDone, Back, Strange, arranges, lost_of}
use Rattle.spec_hall.specs.Events.{Event, Open, Revise, Reask, Close, Balance, Start, Finish, Exchange, Leave, Arrive}
use Rattle.spec_hall.specs.States.{LeaseOut, leases, lease_of}
use Rattle.spec_hall.specs.Posts.{is_post, CallPosts, HasPosts}

-- where nothing is entered, nothing is posted
none-posted : (es : List Event) → es ≡ [] → filter is_post es ≡ []
none-posted es e = ap (filter is_post) e

-- a balancing and an exchange are no posts
arranges-no_post : (e : Event) → arranges e ≡ true → is_post e ≡ false
arranges-no_post (Open k ask) h = absurd (true≢false (sym h))
arranges-no_post (Revise k number r) h = absurd (true≢false (sym h))
arranges-no_post (Reask k w) h = absurd (true≢false (sym h))
arranges-no_post (Close k) h = absurd (true≢false (sym h))
arranges-no_post (Balance shares) h = refl
arranges-no_post (Start k index worker) h = refl
arranges-no_post (Finish k index worker outcome) h = refl
arranges-no_post (Exchange k) h = refl
arranges-no_post (Leave k) h = refl
arranges-no_post (Arrive k brought) h = refl

due-no_post : (es : List Event) → list_all arranges es ≡ true → filter is_post es ≡ []
due-no_post [] h = refl
due-no_post (e ∷ es) h =
    let parts = and_parts (arranges e) (list_all arranges es) h in
    ap (λ (b : Bool). cond b (e ∷ filter is_post es) (filter is_post es)) (arranges-no_post e parts.0) ∙ due-no_post es parts.1

-- nor is a lease that is lost
lost-no_post : (out : List LeaseOut) (worker : ℕ) → filter is_post (lost_of out worker) ≡ []
lost-no_post out worker = by (lease_of worker out)
  where
    by : (o : Option LeaseOut) → filter is_post (option_map_or (λ l. Finish l.key l.index worker Lost ∷ []) o []) ≡ []
    by None = refl
    by (Some l) = refl

recalled-no_post : (out : List LeaseOut) (ws : List ℕ) → filter is_post (flat_map (lost_of out) ws) ≡ []
recalled-no_post out [] = refl
recalled-no_post out (w ∷ ws) =
    filter-append is_post (lost_of out w) (flat_map (lost_of out) ws)
    ∙ (ap (λ (xs : List Event). xs ++ filter is_post (flat_map (lost_of out) ws)) (lost-no_post out w) ∙ recalled-no_post out ws)

-- each call by its answer
pub call-posts : CallPosts
call-posts w past (Opens k ask) (Ok done) es h = ap (filter is_post) h.1
call-posts w past (Opens k ask) (Err opening.Duplicate) es h = none-posted es h.1
call-posts w past (Opens k ask) (Err opening.TenantFull) es h = none-posted es h.2
call-posts w past (Opens k ask) (Err opening.HallFull) es h = none-posted es h.3
call-posts w past (Opens k ask) (Err opening.OutOfMemory) es h = none-posted es h.1
call-posts w past (Revises k r) (Ok done) es h = (_, ap (filter is_post) h.2)
call-posts w past (Revises k r) (Err revising.NoJob) es h = none-posted es h.1
call-posts w past (Revises k r) (Err revising.Closed) es h = none-posted es h.3
call-posts w past (Revises k r) (Err revising.RevisionsFull) es h = none-posted es h.4
call-posts w past (Revises k r) (Err (revising.JobFull which)) es h = none-posted es h.5
call-posts w past (Revises k r) (Err revising.OutOfMemory) es h = none-posted es h.2
call-posts w past (Reasks k v) (Ok done) es h = ap (filter is_post) h.2
call-posts w past (Reasks k v) (Err reasking.NoJob) es h = none-posted es h.1
call-posts w past (Reasks k v) (Err reasking.Closed) es h = none-posted es h.3
call-posts w past (Reasks k v) (Err reasking.OutOfMemory) es h = none-posted es h.2
call-posts w past (Closes k) (Ok done) es h = ap (filter is_post) h.2
call-posts w past (Closes k) (Err closing.NoJob) es h = none-posted es h.1
call-posts w past (Closes k) (Err closing.Closed) es h = none-posted es h.3
call-posts w past (Picks worker) (Ok (Leased lease)) es h =
    ap (filter is_post) h.events
    ∙ (filter-append is_post h.due (Start h.key h.index worker ∷ [])
    ∙ (append-nil (filter is_post h.due) ∙ due-no_post h.due h.first.kinds))
call-posts w past (Picks worker) (Ok Idle) es h = due-no_post es h.due.kinds
call-posts w past (Picks worker) (Ok AllDone) es h = none-posted es h.1
call-posts w past (Picks worker) (Err picking.Busy) es h = none-posted es h.1
call-posts w past (Picks worker) (Err picking.OutOfMemory) es h = due-no_post es h.due.kinds
call-posts w past (Finishes d) Back es h = ap (filter is_post) h.2
call-posts w past (Finishes d) (Strange kept) es h = none-posted es h.2
call-posts w past Recalls answer es h = ap (filter is_post) h ∙ recalled-no_post (leases past) (counted 1 w)
call-posts w past (Asks k r) (Ok text) es h = none-posted es h.3
call-posts w past (Asks k r) (Err asking.NoJob) es h = none-posted es h.1
call-posts w past (Asks k r) (Err asking.OutOfMemory) es h = none-posted es h.2
call-posts w past (Packs k) (Ok brought) es h = none-posted es h.4
call-posts w past (Packs k) (Err packing.NoJob) es h = none-posted es h.1
call-posts w past (Packs k) (Err (packing.Out index)) es h = none-posted es h.3
call-posts w past (Packs k) (Err packing.OutOfMemory) es h = none-posted es h.2
call-posts w past (Admits k brought) (Ok done) es h = ap (filter is_post) h.1
call-posts w past (Admits k brought) (Err admitting.Present) es h = none-posted es h.1
call-posts w past (Admits k brought) (Err admitting.TenantFull) es h = none-posted es h.1
call-posts w past (Admits k brought) (Err admitting.HallFull) es h = none-posted es h.1
call-posts w past (Admits k brought) (Err admitting.OutOfMemory) es h = none-posted es h.1
call-posts w past (Leaves k) answer es h = ap (filter is_post) h.2

pub posts : HasPosts
posts = record { posts = refl; taken = (2, refl); refused = λ same. absurd (cc) }
