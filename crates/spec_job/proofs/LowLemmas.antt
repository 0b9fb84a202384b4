-- Places, a log and broadcasts whose serials are low: a place that is set, and starts.
use Rattle.std.proofs.Common.{◌≡◌, ℕ, ◌+◌, ◌-◌, ◌*◌, ◌/◌, ◌≤◌, ◌^◌, List, [], ◌∷◌, ◌++◌, length, map, take, drop, get_or, Some, None, inl, inr, ◌⊎◌, refl, sym, ap, subst, arith, append_assoc}
use Rattle.std.specs.Prelude.{All, slice_set}
use Rattle.std.proofs.lemmas.List.{length-set}
use Rattle.std.proofs.lemmas.List.Elements.{All-weaker, All-drop}
use Rattle.mal_base.specs.declared.profile.Profile.{Profile}
use Rattle.mal_base.specs.NumberedClause.{NumberedClause, Line}
use Rattle.mal_revision.specs.Posted.{Posted}
use Rattle.spec_search.specs.Laws.{AreNumbered}
use Rattle.spec_proof.specs.Among.{Among}
use Rattle.spec_job.specs.Journal.{JournalEntry, Import, Run, replay, loads_in, loads_of, imports_in}
use Rattle.spec_job.specs.SoloMachine.{Started, Lease, NodeSlot, vacant, SoloMachine, solo_step, place_at, missing_loads, missing_imports, clauses_in, finished_home}
use Rattle.spec_job.specs.Counts.{runs_in, runs_of, HasCounts}
use Rattle.spec_job.proofs.PlacesLemmas.{set-place}
use Rattle.spec_job.proofs.SolvingLemmas.{lease_of}
use Rattle.spec_job.proofs.CountLemmas.{runs_in-append, runs_in-loads, runs_in-imports, IsLow, counts-more, ready-counted, runs-same}
use Rattle.spec_job.proofs.ImportingLemmas.{clause_of}

-- a start that is out runs a slice of a node that counts low, whatever profile it is replayed under
pub record IsOutLow (all i : ℕ) (entries : List JournalEntry) (l : Lease) : Type 0 where
  pub before : List JournalEntry
  pub adds : l.adds ≡ before ++ Run ∷ []
  pub none : runs_in before ≡ 0
  pub counts : (profile : Profile) → HasCounts all (runs_in entries) (replay profile i (entries ++ before)).node

-- its entries run one slice
pub adds-run : (all i : ℕ) (entries : List JournalEntry) (l : Lease) → IsOutLow all i entries l → runs_in (entries ++ l.adds) ≡ runs_in entries + 1
adds-run all i entries l is =
    let first : runs_in (entries ++ l.adds) ≡ runs_in entries + runs_in l.adds = runs_in-append entries l.adds in
    let same : runs_in l.adds ≡ runs_in (is.before ++ Run ∷ []) = ap runs_in is.adds in
    let last : runs_in (is.before ++ Run ∷ []) ≡ runs_in is.before + 1 = runs_in-append is.before (Run ∷ []) in
    let none : runs_in is.before ≡ 0 = is.none in
    omega arith

-- a place whose node counts low, at home and out
pub record IsPlaceLow (all i : ℕ) (p : NodeSlot) : Type 0 where
  pub home : (profile : Profile) → HasCounts all (runs_in p.entries) (replay profile i p.entries).node
  pub out : (l : Lease) → p.out ≡ Some l → IsOutLow all i p.entries l

-- places, a log and broadcasts whose serials are low
pub record AreLow (all : ℕ) (places : List NodeSlot) (log : List Line) (broadcasts : List (List NumberedClause)) : Type 0 where
  pub count : length places ≤ 64
  pub places_low : (i : ℕ) → i ≤ 63 → IsPlaceLow all i (get_or places i vacant)
  pub lines : (line : Line) → Among line log → IsLow all (clause_of line)
  pub told : All (All (IsLow all)) broadcasts

abbrev pub IsLowSolo : SoloMachine → Type 0
IsLowSolo s = AreLow (runs_of s.places) s.places s.log s.broadcasts

out-more : (all more i : ℕ) (entries : List JournalEntry) (l : Lease) → all ≤ more → IsOutLow all i entries l → IsOutLow more i entries l
out-more all more i entries l low h = record { before = h.before; adds = h.adds; none = h.none; counts = λ profile. counts-more all more (runs_in entries) (replay profile i (entries ++ h.before)).node low (h.counts profile) }

place-more : (all more i : ℕ) (p : NodeSlot) → all ≤ more → IsPlaceLow all i p → IsPlaceLow more i p
place-more all more i p low h = record { home = λ profile. counts-more all more (runs_in p.entries) (replay profile i p.entries).node low (h.home profile); out = λ l e. out-more all more i p.entries l low (h.out l e) }

low-more : (all more : ℕ) (c : NumberedClause) → all ≤ more → IsLow all c → IsLow more c
low-more all more c low h = omega (arith, h)

-- more slices, and a place that is set
pub set-low : (all more : ℕ) (places : List NodeSlot) (log : List Line) (told : List (List NumberedClause)) (i : ℕ) (q : NodeSlot) → all ≤ more → (i ≤ 63 → IsPlaceLow more i q) → AreLow all places log told → AreLow more (slice_set places i q) log told
set-low all more places log told i q low k h = record {
  count = subst (λ (m : ℕ). m ≤ 64) (sym (length-set places i q)) h.count;
  places_low = λ j few. by_place j few (set-place places i j q);
  lines = λ line m. low-more all more (clause_of line) low (h.lines line m);
  told = All-weaker (All (IsLow all)) (All (IsLow more)) (λ cs b. All-weaker (IsLow all) (IsLow more) (λ c d. low-more all more c low d) cs b) told h.told;
}
  where
    by_place : (j : ℕ) → j ≤ 63 → ((j ≡ i) × (get_or (slice_set places i q) j vacant ≡ q)) ⊎ (get_or (slice_set places i q) j vacant ≡ get_or places j vacant) → IsPlaceLow more j (get_or (slice_set places i q) j vacant)
    by_place j few (inl e) = subst (λ (x : NodeSlot). IsPlaceLow more j x) (sym e.1) (subst (λ (x : ℕ). IsPlaceLow more x q) (sym e.0) (k (subst (λ (x : ℕ). x ≤ 63) e.0 few)))
    by_place j few (inr e) = subst (λ (x : NodeSlot). IsPlaceLow more j x) (sym e) (place-more all more j (get_or places j vacant) low (h.places_low j few))

-- the lines of a slice have low serials
pub numbered-low : (serial i all : ℕ) (lines : List Line) → i ≤ 63 → serial + length lines ≤ all * 1000 → AreNumbered serial i lines → (line : Line) → Among line lines → IsLow all (clause_of line)
numbered-low serial i all [] few low h line m = absurd m
numbered-low serial i all (l ∷ ls) few low h line (inl e) =
    let number : l.id ≡ 2 ^ 32 + serial * 64 + i = h.0 in
    let same : l.id ≡ line.id = ap (λ (x : Line). x.id) e in
    let own : (line.id - 2 ^ 32) / 64 ≡ serial = omega arith in
    omega arith
numbered-low serial i all (l ∷ ls) few low h line (inr m) = numbered-low (serial + 1) i all ls few (omega arith) h.1 line m

-- a node as its next start finds it
pub start-ready : (s : SoloMachine) (i : ℕ) → i ≤ 63 → IsLowSolo s → (profile : Profile) → HasCounts (runs_of s.places) (runs_in (place_at s i).entries) (replay profile i ((place_at s i).entries ++ (missing_loads s (place_at s i) ++ missing_imports s (place_at s i)))).node
start-ready s i few h profile =
    let p : NodeSlot = place_at s i in
    let n : ℕ = loads_in p.entries in
    let tolds : List (List NumberedClause) = drop (imports_in p.entries) s.broadcasts in
    ready-counted profile p.entries i (runs_of s.places) (runs_in p.entries) (clauses_in (take n s.revisions) + 1) (take (length s.answers + 1 - n) (drop n s.revisions)) tolds (All-drop (All (IsLow (runs_of s.places))) (imports_in p.entries) s.broadcasts h.told) ((h.places_low i few).home profile)

start-runs-none : (s : SoloMachine) (p : NodeSlot) → runs_in (missing_loads s p ++ missing_imports s p) ≡ 0
start-runs-none s p =
    let n : ℕ = loads_in p.entries in
    let first : ℕ = clauses_in (take n s.revisions) + 1 in
    let more : List Posted = take (length s.answers + 1 - n) (drop n s.revisions) in
    let tolds : List (List NumberedClause) = drop (imports_in p.entries) s.broadcasts in
    let both : runs_in (loads_of first more ++ map Import tolds) ≡ runs_in (loads_of first more) + runs_in (map Import tolds) = runs_in-append (loads_of first more) (map Import tolds) in
    let none : runs_in (loads_of first more) ≡ 0 = runs_in-loads first more in
    let nothing : runs_in (map Import tolds) ≡ 0 = runs_in-imports tolds in
    omega arith

-- a start
start-low : (s : SoloMachine) (i : ℕ) → i ≤ 63 → IsLowSolo s → IsOutLow (runs_of s.places) i (place_at s i).entries (lease_of s i)
start-low s i few h =
    let p : NodeSlot = place_at s i in
    record { before = missing_loads s p ++ missing_imports s p; adds = sym (append_assoc (missing_loads s p) (missing_imports s p) (Run ∷ [])); none = start-runs-none s p; counts = start-ready s i few h }

pub started-low : (s : SoloMachine) (i : ℕ) → IsLowSolo s → IsLowSolo (solo_step s (Started i))
started-low s i h =
    let p : NodeSlot = place_at s i in
    let q : NodeSlot = record p { out = Some (lease_of s i); starts = p.starts + 1 } in
    subst (λ (n : ℕ). AreLow n (slice_set s.places i q) s.log s.broadcasts) (sym (runs-same s.places i q refl)) (set-low (runs_of s.places) (runs_of s.places) s.places s.log s.broadcasts i q (omega arith) (λ few. record {
      home = (h.places_low i few).home;
      out = λ l e. let same : lease_of s i ≡ l = cc in subst (λ (x : Lease). IsOutLow (runs_of s.places) i p.entries x) same (start-low s i few h);
    }) h)

pub idle-low : (s : SoloMachine) (i : ℕ) → IsLowSolo s → IsLowSolo (finished_home s i (place_at s i))
idle-low s i h =
    let p : NodeSlot = place_at s i in
    let q : NodeSlot = record p { out = None } in
    subst (λ (n : ℕ). AreLow n (slice_set s.places i q) s.log s.broadcasts) (sym (runs-same s.places i q refl)) (set-low (runs_of s.places) (runs_of s.places) s.places s.log s.broadcasts i q (omega arith) (λ few. record { home = (h.places_low i few).home; out = λ l e. absurd (cc) }) h)
