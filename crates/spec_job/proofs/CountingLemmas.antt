-- The nodes of a machine count no further than the slices that were run.
use Rattle.std.proofs.Common.{◌≡◌, ℕ, suc, ◌+◌, ◌-◌, ◌*◌, ◌/◌, ◌<◌, ◌≤◌, ◌^◌, List, [], ◌∷◌, ◌++◌, length, Option, Some, None, inl, inr, ◌⊎◌, refl, sym, ◌∙◌, ap, subst, arith}
use Rattle.std.specs.Prelude.{All, slice_set}
use Rattle.std.proofs.lemmas.List.Elements.{All-nil, All-cons, All-append, All-weaker}
use Rattle.mal_base.specs.declared.profile.Profile.{Profile}
use Rattle.mal_base.specs.NumberedClause.{NumberedClause, Line}
use Rattle.mal_base.specs.declared.verdict.Outcome.{Outcome}
use Rattle.spec_exchange.specs.Exchange.{broadcast}
use Rattle.spec_node.specs.State.{Node}
use Rattle.spec_search.specs.Slice.{Sliced, slice}
use Rattle.spec_search.specs.Laws.{IsCounted, AreNumbered}
use Rattle.spec_search.proofs.LineLemmas.{lines-counted}
use Rattle.spec_proof.specs.Among.{Among}
use Rattle.spec_proof.proofs.Among.{among-append}
use Rattle.spec_job.specs.Journal.{JournalEntry, replay}
use Rattle.spec_job.specs.SoloMachine.{Own, Opened, Revised, Reasked, Closed, Volume, Started, Finished, Exchanged, Lease, NodeSlot, SoloMachine, unopened, solo, solo_step, place_at, first_empty, settled_by, finished, exports_from, exchanged}
use Rattle.spec_job.specs.Counts.{runs_in, runs_of, HasCounts, PlaceCounts, ReplaysCount}
use Rattle.spec_job.proofs.PushLemmas.{events-keep}
use Rattle.spec_job.proofs.FinishLemmas.{settled-leaves, finished-leaves}
use Rattle.spec_job.proofs.PlacesLemmas.{marked-length, all-marked, get-vacant, out-within}
use Rattle.spec_job.proofs.CountLemmas.{IsLow, slice-counted, replay-index, replay-runs, runs-set, runs-marked}
use Rattle.spec_search.specs.Covering.{IsOfLine}
use Rattle.spec_job.proofs.ImportingLemmas.{clause_of}
use Rattle.spec_job.proofs.ExportLemmas.{All-broadcast, all-exports}
use Rattle.spec_job.proofs.LowLemmas.{adds-run, IsOutLow, IsPlaceLow, AreLow, IsLowSolo, set-low, numbered-low, start-ready, started-low, idle-low}

-- a slice that was run
home-low : (s : SoloMachine) (i : ℕ) (l : Lease) → (place_at s i).out ≡ Some l → IsLowSolo s → AreLow (runs_of (slice_set s.places i (record (place_at s i) { entries = (place_at s i).entries ++ l.adds; out = None }))) (slice_set s.places i (record (place_at s i) { entries = (place_at s i).entries ++ l.adds; out = None })) (s.log ++ (replay s.ask.profile i ((place_at s i).entries ++ l.adds)).lines) s.broadcasts
home-low s i l out h = subst (λ (n : ℕ). AreLow n (slice_set s.places i q) (s.log ++ ran.lines) s.broadcasts) (sym total) (record { count = set.count; places_low = set.places_low; lines = λ line m. by_side line (among-append s.log ran.lines line m); told = set.told })
  where
    p : NodeSlot
    p = place_at s i

    q : NodeSlot
    q = record p { entries = p.entries ++ l.adds; out = None }

    all : ℕ
    all = runs_of s.places

    within : i < length s.places
    within = out-within s.places i l out

    few : i ≤ 63
    few = let inside : i < length s.places = within in let most : length s.places ≤ 64 = h.count in omega arith

    is : IsOutLow all i p.entries l
    is = (h.places_low i few).out l out

    node : Node
    node = (replay s.ask.profile i (p.entries ++ is.before)).node

    ran : Sliced
    ran = replay s.ask.profile i (p.entries ++ l.adds)

    runs : ran ≡ slice node
    runs = ap (λ (es : List JournalEntry). replay s.ask.profile i (p.entries ++ es)) is.adds ∙ replay-runs s.ask.profile i p.entries is.before

    more : runs_in (p.entries ++ l.adds) ≡ runs_in p.entries + 1
    more = adds-run all i p.entries l is

    total : runs_of (slice_set s.places i q) ≡ all + 1
    total = runs-set s.places i 1 q within more

    counts : (profile : Profile) → HasCounts (all + 1) (runs_in (p.entries ++ l.adds)) (replay profile i (p.entries ++ l.adds)).node
    counts profile =
        let before : Node = (replay profile i (p.entries ++ is.before)).node in
        let sliced : HasCounts (suc all) (suc (runs_in p.entries)) (slice before).node = slice-counted all (runs_in p.entries) before (is.counts profile) in
        let last : replay profile i (p.entries ++ l.adds) ≡ slice before = ap (λ (es : List JournalEntry). replay profile i (p.entries ++ es)) is.adds ∙ replay-runs profile i p.entries is.before in
        let next : suc all ≡ all + 1 = omega arith in
        let same : suc (runs_in p.entries) ≡ runs_in (p.entries ++ l.adds) = omega (arith, more) in
        subst (λ (x : Sliced). HasCounts (all + 1) (runs_in (p.entries ++ l.adds)) x.node) (sym last) (subst (λ (n : ℕ). HasCounts (all + 1) n (slice before).node) same (subst (λ (n : ℕ). HasCounts n (suc (runs_in p.entries)) (slice before).node) next sliced))

    set : AreLow (all + 1) (slice_set s.places i q) s.log s.broadcasts
    set = set-low all (all + 1) s.places s.log s.broadcasts i q (omega arith) (λ low. record { home = counts; out = λ x e. absurd (cc) }) h

    new : (line : Line) → Among line (slice node).lines → IsLow (all + 1) (clause_of line)
    new =
        let counted : IsCounted node = lines-counted node in
        let serial : (slice node).node.serial ≡ node.serial + length (slice node).lines = counted.serial in
        let index : node.index ≡ i = replay-index s.ask.profile i (p.entries ++ is.before) in
        let low : (slice node).node.serial ≤ (all + 1) * 1000 = subst (λ (x : Sliced). x.node.serial ≤ (all + 1) * 1000) runs (counts s.ask.profile).serial in
        numbered-low node.serial i (all + 1) (slice node).lines few (subst (λ (n : ℕ). n ≤ (all + 1) * 1000) serial low) (subst (λ (n : ℕ). AreNumbered node.serial n (slice node).lines) index counted.numbered)

    by_side : (line : Line) → Among line s.log ⊎ Among line ran.lines → IsLow (all + 1) (clause_of line)
    by_side line (inl m) = set.lines line m
    by_side line (inr m) = new line (subst (λ (x : Sliced). Among line x.lines) runs m)

-- answers change none of it
settled-low : (o : Option ℕ) (s : SoloMachine) → IsLowSolo s → IsLowSolo (settled_by o s)
settled-low o s h = settled-leaves IsLowSolo (λ t more k. k) (λ t spent starved k. k) o s h

finished-low : (s : SoloMachine) (i : ℕ) (out : Option Lease) (o : Outcome) → (place_at s i).out ≡ out → IsLowSolo s → IsLowSolo (finished s i (place_at s i) out o)
finished-low s i out o e h = finished-leaves IsLowSolo (λ t more k. k) (λ t spent starved k. k) s i (place_at s i) out o h (λ l f. home-low s i l (e ∙ f) h) (idle-low s i h)

-- an exchange
of-line-low : (all : ℕ) (log : List Line) → ((line : Line) → Among line log → IsLow all (clause_of line)) → (c : NumberedClause) → IsOfLine log c → IsLow all c
of-line-low all log h c (line, m, i, l) = subst (λ (n : ℕ). (n - 2 ^ 32) / 64 < all * 1000) i (h line m)

exchanged-low : (s : SoloMachine) → IsLowSolo s → IsLowSolo (exchanged s)
exchanged-low s h =
    let all : ℕ = runs_of s.places in
    let exports : List NumberedClause = exports_from s.volume s.log 0 s.places in
    let low : All (IsLow all) (broadcast exports) = All-broadcast (IsLow all) exports (All-weaker (IsOfLine s.log) (IsLow all) (of-line-low all s.log h.lines) exports (all-exports s.volume s.log 0 s.places)) in
    subst (λ (n : ℕ). AreLow n (exchanged s).places s.log (s.broadcasts ++ broadcast exports ∷ [])) (sym (runs-marked s.volume (length s.log) 0 s.places)) (record {
      count = subst (λ (n : ℕ). n ≤ 64) (sym (marked-length s.volume (length s.log) 0 s.places)) h.count;
      places_low = all-marked (λ (i : ℕ) (p : NodeSlot). IsPlaceLow all i p) (λ i m p k. record { home = k.home; out = k.out }) s.volume (length s.log) s.places h.places_low;
      lines = h.lines;
      told = All-append (All (IsLow all)) s.broadcasts (broadcast exports ∷ []) h.told (All-cons (All (IsLow all)) (broadcast exports) [] low (All-nil (All (IsLow all))));
    })

pub step-low : (s : SoloMachine) (o : Own) → IsLowSolo s → IsLowSolo (solo_step s o)
step-low s (Opened ask) h = h
step-low s (Revised r) h = settled-low (first_empty s.log) (record s { revisions = s.revisions ++ r ∷ [] }) h
step-low s (Reasked w) h = h
step-low s Closed h = h
step-low s (Volume v) h = h
step-low s (Started i) h = started-low s i h
step-low s (Finished i o) h = finished-low s i (place_at s i).out o refl h
step-low s Exchanged h = exchanged-low s h

pub unopened-low : IsLowSolo unopened
unopened-low = record {
  count = omega arith;
  places_low = λ i few. subst (λ (p : NodeSlot). IsPlaceLow 0 i p) (sym (get-vacant 64 i)) (record { home = λ profile. record { serial = omega arith; conflicts_since_restart = omega arith; restart_number = omega arith; conflicts_since_dropping = omega arith }; out = λ l e. absurd (cc) });
  lines = λ line m. absurd m;
  told = All-nil (All (IsLow 0));
}

events-low : (past events : List Own) → IsLowSolo (solo past) → IsLowSolo (solo (past ++ events))
events-low past events h = events-keep IsLowSolo (λ before os. Unit {0}) (λ before o os q k. (step-low (solo before) o k, tt)) past events tt h

place-counts : (s : SoloMachine) (i : ℕ) → i ≤ 63 → IsLowSolo s → PlaceCounts s i (place_at s i)
place-counts s i few h = record { home = (h.places_low i few).home s.ask.profile; ready = start-ready s i few h s.ask.profile }

pub replays-count : ReplaysCount
replays-count events i few = place-counts (solo events) i few (events-low [] events unopened-low)
