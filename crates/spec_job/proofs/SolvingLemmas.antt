-- A machine that solves: its places are ready for its revisions, and so are the starts that are out.
use Rattle.std.proofs.Common.{◌≡◌, ℕ, ◌+◌, ◌-◌, ◌<◌, ◌≤◌, ◌^◌, min, Bool, true, List, [], ◌∷◌, ◌++◌, length, map, take, drop, get_or, Some, inl, inr, ◌⊎◌, sym, subst, arith, length-append}
use Rattle.std.specs.Prelude.{All, slice_get, slice_set}
use Rattle.std.proofs.lemmas.Bool.{and_parts, ltb-true}
use Rattle.std.proofs.lemmas.List.{length-set, length-take, length-drop, take-append-le}
use Rattle.mal_base.specs.declared.profile.Profile.{Profile}
use Rattle.mal_base.specs.NumberedClause.{NumberedClause}
use Rattle.mal_base.specs.declared.answer.Answer.{Answer}
use Rattle.mal_base.specs.declared.answer.Answer.TheVariants.{Satisfied}
use Rattle.mal_revision.specs.Posted.{Posted}
use Rattle.spec_job.specs.Journal.{JournalEntry, Import, Run, replay, loads_in, loads_of}
use Rattle.spec_job.specs.SoloMachine.{Lease, NodeSlot, vacant, SoloMachine, place_at, clauses_in, startable, start_entries}
use Rattle.spec_job.proofs.LoadedLemmas.{IsLoadable, Solves, HasLoaded, loads_in-append, loads_in-loads, loads_in-imports}
use Rattle.spec_job.proofs.PlacesLemmas.{set-place, out-within}

-- a start that is out: its entries bring the node to its revision
pub record IsLeased (profile : Profile) (revisions : List Posted) (current index : ℕ) (entries : List JournalEntry) (l : Lease) : Type 0 where
  pub reached : l.revision ≤ current
  pub posted : l.revision < length revisions
  pub loads : loads_in (entries ++ l.adds) ≡ l.revision + 1
  pub node : HasLoaded (take (l.revision + 1) revisions) (replay profile index (entries ++ l.adds)).node

-- a place of a job: its node has loaded the first revisions, up to the current one at most
pub record IsReady (profile : Profile) (revisions : List Posted) (current index : ℕ) (p : NodeSlot) : Type 0 where
  pub early : loads_in p.entries ≤ current + 1
  pub posted : loads_in p.entries ≤ length revisions
  pub node : HasLoaded (take (loads_in p.entries) revisions) (replay profile index p.entries).node
  pub leased : (l : Lease) → p.out ≡ Some l → IsLeased profile revisions current index p.entries l

-- a machine whose revisions can be loaded, with its places, whose satisfiable answers carry models
pub record IsSolving (profile : Profile) (revisions : List Posted) (answers : List Answer) (places : List NodeSlot) : Type 0 where
  pub loadable : All IsLoadable revisions
  pub room : clauses_in revisions < 2 ^ 32
  pub order : length answers ≤ length revisions
  pub count : length places ≤ 64
  pub ready : (i : ℕ) → i ≤ 63 → IsReady profile revisions (length answers) i (get_or places i vacant)
  pub solved : (r : ℕ) (model : List Bool) → slice_get answers r ≡ Some (Satisfied model) → Solves (take (r + 1) revisions) model

-- the machine of a job
abbrev pub IsSolvingSolo : SoloMachine → Type 0
IsSolvingSolo s = IsSolving s.ask.profile s.revisions s.answers s.places

-- the entries of a start load the revisions up to the current one
pub start-loads : (revisions : List Posted) (c : ℕ) (entries : List JournalEntry) (tolds : List (List NumberedClause)) → c < length revisions → loads_in entries ≤ c + 1 → loads_in (entries ++ (loads_of (clauses_in (take (loads_in entries) revisions) + 1) (take (c + 1 - loads_in entries) (drop (loads_in entries) revisions)) ++ (map Import tolds ++ Run ∷ []))) ≡ c + 1
start-loads revisions c entries tolds live early =
    let n : ℕ = loads_in entries in
    let first : ℕ = clauses_in (take n revisions) + 1 in
    let more : List Posted = take (c + 1 - n) (drop n revisions) in
    let all : loads_in (entries ++ (loads_of first more ++ (map Import tolds ++ Run ∷ []))) ≡ n + loads_in (loads_of first more ++ (map Import tolds ++ Run ∷ [])) = loads_in-append entries (loads_of first more ++ (map Import tolds ++ Run ∷ [])) in
    let new : loads_in (loads_of first more ++ (map Import tolds ++ Run ∷ [])) ≡ loads_in (loads_of first more) + loads_in (map Import tolds ++ Run ∷ []) = loads_in-append (loads_of first more) (map Import tolds ++ Run ∷ []) in
    let last : loads_in (map Import tolds ++ Run ∷ []) ≡ loads_in (map Import tolds) + 0 = loads_in-append (map Import tolds) (Run ∷ []) in
    let none : loads_in (map Import tolds) ≡ 0 = loads_in-imports tolds in
    let count : loads_in (loads_of first more) ≡ length more = loads_in-loads first more in
    let taken : length more ≡ min (c + 1 - n) (length (drop n revisions)) = length-take (c + 1 - n) (drop n revisions) in
    let dropped : length (drop n revisions) ≡ length revisions - n = length-drop n revisions in
    omega arith

-- further answers leave a place ready
pub ready-later : (profile : Profile) (revisions : List Posted) (c d i : ℕ) (p : NodeSlot) → c ≤ d → IsReady profile revisions c i p → IsReady profile revisions d i p
ready-later profile revisions c d i p later h = record {
  early = let a : loads_in p.entries ≤ c + 1 = h.early in omega arith;
  posted = h.posted;
  node = h.node;
  leased = λ l e. let k : IsLeased profile revisions c i p.entries l = h.leased l e in record { reached = let a : l.revision ≤ c = k.reached in omega arith; posted = k.posted; loads = k.loads; node = k.node };
}

-- so does a further revision
pub ready-revised : (profile : Profile) (revisions : List Posted) (r : Posted) (c i : ℕ) (p : NodeSlot) → IsReady profile revisions c i p → IsReady profile (revisions ++ r ∷ []) c i p
ready-revised profile revisions r c i p h =
    let more : length (revisions ++ r ∷ []) ≡ length revisions + 1 = length-append revisions (r ∷ []) in
    record {
      early = h.early;
      posted = let a : loads_in p.entries ≤ length revisions = h.posted in omega arith;
      node = subst (λ (xs : List Posted). HasLoaded xs (replay profile i p.entries).node) (sym (take-append-le (loads_in p.entries) revisions (r ∷ []) h.posted)) h.node;
      leased = λ l e.
          let k : IsLeased profile revisions c i p.entries l = h.leased l e in
          let a : l.revision < length revisions = k.posted in
          record { reached = k.reached; posted = omega arith; loads = k.loads; node = subst (λ (xs : List Posted). HasLoaded xs (replay profile i (p.entries ++ l.adds)).node) (sym (take-append-le (l.revision + 1) revisions (r ∷ []) (omega arith))) k.node };
    }

-- a place that is ready is put at its index
pub placed-solving : (profile : Profile) (revisions : List Posted) (answers : List Answer) (places : List NodeSlot) (i : ℕ) (p : NodeSlot) → (i ≤ 63 → IsReady profile revisions (length answers) i p) → IsSolving profile revisions answers places → IsSolving profile revisions answers (slice_set places i p)
placed-solving profile revisions answers places i p k h = record { loadable = h.loadable; room = h.room; order = h.order; count = subst (λ (m : ℕ). m ≤ 64) (sym (length-set places i p)) h.count; ready = λ j low. by_place j low (set-place places i j p); solved = h.solved }
  where
    by_place : (j : ℕ) → j ≤ 63 → ((j ≡ i) × (get_or (slice_set places i p) j vacant ≡ p)) ⊎ (get_or (slice_set places i p) j vacant ≡ get_or places j vacant) → IsReady profile revisions (length answers) j (get_or (slice_set places i p) j vacant)
    by_place j low (inl e) = subst (λ (q : NodeSlot). IsReady profile revisions (length answers) j q) (sym e.1) (subst (λ (x : ℕ). IsReady profile revisions (length answers) x p) (sym e.0) (k (subst (λ (x : ℕ). x ≤ 63) e.0 low)))
    by_place j low (inr e) = subst (λ (q : NodeSlot). IsReady profile revisions (length answers) j q) (sym e) (h.ready j low)

pub live-parts : (s : SoloMachine) (i : ℕ) → startable s i ≡ true → length s.answers < length s.revisions
live-parts s i e = ltb-true (length s.answers) (length s.revisions) (and_parts _ _ (and_parts _ _ e).0).0

-- the start of a node
abbrev pub lease_of : SoloMachine → ℕ → Lease
lease_of s i = record { revision = length s.answers; adds = start_entries s (place_at s i) }

-- the start of a node that may start brings it to the current revision
abbrev pub MayLease : SoloMachine → Type 0
MayLease s = (i : ℕ) → startable s i ≡ true → i ≤ 63 → IsLeased s.ask.profile s.revisions (length s.answers) i (place_at s i).entries (lease_of s i)

-- a start that is out is of its revision
pub out-leased : (s : SoloMachine) (i : ℕ) (l : Lease) → (place_at s i).out ≡ Some l → IsSolvingSolo s → IsLeased s.ask.profile s.revisions (length s.answers) i (place_at s i).entries l
out-leased s i l out h =
    let within : i < length s.places = out-within s.places i l out in
    let few : length s.places ≤ 64 = h.count in
    (h.ready i (omega arith)).leased l out
