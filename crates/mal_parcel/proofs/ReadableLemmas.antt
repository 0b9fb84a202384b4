-- The lines of the slices of a lawful job are read again.
use Rattle.std.proofs.Common.{◌≡◌, ℕ, zero, suc, ◌+◌, ◌-◌, ◌*◌, ◌/◌, ◌<◌, ◌≤◌, ◌^◌, true, List, [], ◌∷◌, ◌++◌, length, take, fold, max, Some, refl, sym, ◌∙◌, ap, subst, inl, inr, ◌⊎◌, arith, length-append}
use Rattle.std.specs.Prelude.{All, flat_map, slice_get}
use Rattle.std.specs.List.{AllByRecursion}
use Rattle.std.proofs.lemmas.List.{take_at}
use Rattle.std.proofs.lemmas.List.Elements.{All-nil, All-cons, All-head, All-tail, All-take, All-weaker, All-contains, recursion_from_All}
use Rattle.std.proofs.lemmas.Bool.{and_parts, leb-true}
use Rattle.std.proofs.lemmas.Nat.{mul-le}
use Rattle.mal_base.specs.Limits.{limits}
use Rattle.mal_base.specs.NumberedClause.{NumberedClause, Line}
use Rattle.mal_base.specs.Asks.{Terms}
use Rattle.mal_base.specs.declared.answer.Answer.TheVariants.{Refuted}
use Rattle.mal_revision.specs.Posted.{Posted, is_posted}
use Rattle.spec_logic.specs.Refutation.{numbered}
use Rattle.spec_proof.specs.Log.{IsAbove}
use Rattle.spec_proof.specs.Among.{Among}
use Rattle.spec_proof.proofs.Among.{among-append, of-all}
use Rattle.spec_lrat.specs.Grammar.{IsServed}
use Rattle.spec_lrat.specs.Laws.{IsId}
use Rattle.spec_node.specs.State.{Node}
use Rattle.spec_node.specs.Sound.{IsSound, IsLiteralOf, AreLiteralsOf}
use Rattle.spec_search.specs.Slice.{Sliced, slice}
use Rattle.spec_search.specs.Laws.{AreNumbered}
use Rattle.spec_search.specs.Derived.{IsHeld, AreDerivedFrom, with_line}
use Rattle.spec_search.proofs.LineLemmas.{lines-derived, lines-counted}
use Rattle.spec_node.proofs.ImportLemmas.{All-with_clause}
use Rattle.spec_job.specs.Journal.{JournalEntry, Run, replay}
use Rattle.spec_job.specs.SoloMachine.{Own, Opened, Revised, Reasked, Closed, Volume, Started, Finished, Exchanged, Lease, Slice, SoloMachine, solo, solo_step, place_at, first_empty}
use Rattle.spec_job.specs.Runnable.{IsRunnable}
use Rattle.spec_job.specs.Models.{clauses_of, variables_of}
use Rattle.spec_job.specs.Counts.{runs_of, starts_out, IsOpenedOnce}
use Rattle.spec_job.specs.Lawful.{MayPass, AllPass, IsLawful}
use Rattle.spec_job.specs.Provenance.{IsOwn, IsOutOwn, ClausesAreOwn}
use Rattle.spec_job.proofs.CountLemmas.{replay-runs}
use Rattle.spec_job.proofs.DerivingLemmas.{IsRunning, IsRefuted}
use Rattle.spec_job.proofs.FinishLemmas.{slice_of, finished-leaves, settled-leaves}
use Rattle.spec_job.proofs.KeptLemmas.{MachineInvariant, runnable-kept, kept-log}
use Rattle.spec_job.proofs.LawfulLemmas.{lawful-is_once}
use Rattle.spec_job.proofs.OwnLemmas.{runnable-clauses_own}
use Rattle.spec_job.proofs.PlacesLemmas.{out-within}
use Rattle.spec_job.proofs.PushLemmas.{events-keep, runnable-push}
use Rattle.spec_job.proofs.RefutingLemmas.{runnable-answers_follow}
use Rattle.spec_job.proofs.RunsLemmas.{events-within, opened-within, runs-are_few}
use Rattle.spec_job.proofs.SlicesLemmas.{logs-are-slices}
use Rattle.mal_parcel.proofs.ReadLemmas.{IsReadable}

-- numbers of clauses that are held count from 1
abbrev AreSome : List NumberedClause → Type 0
AreSome clauses = All (λ c. 1 ≤ c.id) clauses

-- the hints of each line count from 1
abbrev HaveHints : List Line → Type 0
HaveHints log = (line : Line) → Among line log → All (λ hint. 1 ≤ hint) line.hints

-- a clause of the job's own counts from 1
own-some : (s : SoloMachine) → All IsAbove s.log → (c : NumberedClause) → IsOwn s c → 1 ≤ c.id
own-some s above c (inl e) = by_number c.id refl
  where
    by_number : (n : ℕ) → c.id ≡ n → 1 ≤ c.id
    by_number zero q = absurd (let bad : numbered (clauses_of s.revisions) 0 ≡ Some (Some c.lits) = subst (λ (n : ℕ). numbered (clauses_of s.revisions) n ≡ Some (Some c.lits)) q e in cc)
    by_number (suc n) q = omega arith
own-some s above c (inr (line, m, i, l)) = let high : 2 ^ 32 ≤ line.id = (All-contains IsAbove s.log line above m).derived in omega arith

-- lines that are derived from such clauses have such hints
derived-hints : (held : List NumberedClause) (lines : List Line) → AreSome held → AreDerivedFrom held lines → ((line : Line) → Among line lines → 1 ≤ line.id) → HaveHints lines
derived-hints held [] some d own line m = absurd m
derived-hints held (l ∷ ls) some d own line (inl e) = subst (λ (x : Line). All (λ (hint : ℕ). 1 ≤ hint) x.hints) e (All-weaker (IsHeld held) (λ (hint : ℕ). 1 ≤ hint) one l.hints d.0.hints)
  where
    one : (hint : ℕ) → IsHeld held hint → 1 ≤ hint
    one hint (c, m, q) = let low : 1 ≤ c.id = All-contains (λ (x : NumberedClause). 1 ≤ x.id) held c some m in omega arith
derived-hints held (l ∷ ls) some d own line (inr m) = derived-hints (with_line held l) ls (All-with_clause (λ (c : NumberedClause). 1 ≤ c.id) (record { id = l.id; lits = l.lits }) held (own l (inl refl)) some) d.1 (λ other k. own other (inr k)) line m

-- what stands before the last entry
before-same : (adds before other : List JournalEntry) → adds ≡ before ++ Run ∷ [] → adds ≡ other ++ Run ∷ [] → before ≡ other
before-same adds before other e f =
    let long : length adds ≡ length before + 1 = ap (λ (es : List JournalEntry). length es) e ∙ length-append before (Run ∷ []) in
    let same : length adds ≡ length other + 1 = ap (λ (es : List JournalEntry). length es) f ∙ length-append other (Run ∷ []) in
    let count : length before ≡ length other = omega arith in
    sym (take_at before (Run ∷ []) (length before) refl) ∙ (ap (λ (es : List JournalEntry). take (length before) es) (sym e ∙ f) ∙ take_at other (Run ∷ []) (length before) (sym count))

-- lines with the numbers of a node count from 1
numbered-some : (serial index : ℕ) (lines : List Line) → AreNumbered serial index lines → (line : Line) → Among line lines → 1 ≤ line.id
numbered-some serial index [] h line m = absurd m
numbered-some serial index (l ∷ ls) h line (inl e) =
    let number : l.id ≡ 2 ^ 32 + serial * 64 + index = h.0 in
    let same : l.id ≡ line.id = ap (λ (x : Line). x.id) e in
    omega arith
numbered-some serial index (l ∷ ls) h line (inr m) = numbered-some (serial + 1) index ls h.1 line m

-- a start that is out logs lines with such hints
out-hints : (s : SoloMachine) (i : ℕ) (l : Lease) → (place_at s i).out ≡ Some l → MachineInvariant s → ClausesAreOwn s → HaveHints (slice_of s i (place_at s i) l).lines
out-hints s i l out kept own =
    let within : i < length s.places = out-within s.places i l out in
    let few : length s.places ≤ 64 = kept.solving.count in
    let run : IsRunning s.ask.profile s.revisions s.log i (place_at s i).entries l = (kept.derives.tracked i (omega arith)).running l out in
    let is : IsOutOwn s i (place_at s i).entries l = own.out i l out in
    let node : Node = (replay s.ask.profile i ((place_at s i).entries ++ is.before)).node in
    let same : is.before ≡ run.before = before-same l.adds is.before run.before is.adds run.adds in
    let sound : IsSound node = subst (λ (n : Node). IsSound n) (run.is ∙ ap (λ (es : List JournalEntry). (replay s.ask.profile i ((place_at s i).entries ++ es)).node) (sym same)) run.ready.sound in
    let runs : slice_of s i (place_at s i) l ≡ slice node = ap (λ (es : List JournalEntry). replay s.ask.profile i ((place_at s i).entries ++ es)) is.adds ∙ replay-runs s.ask.profile i (place_at s i).entries is.before in
    let some : AreSome node.clauses = All-weaker (IsOwn s) (λ (c : NumberedClause). 1 ≤ c.id) (own-some s own.log.above) node.clauses is.handed in
    subst (λ (x : Sliced). HaveHints x.lines) (sym runs) (derived-hints node.clauses (slice node).lines some (lines-derived node sound) (numbered-some node.serial node.index (slice node).lines (lines-counted node).numbered))

more-hints : (log lines : List Line) → HaveHints log → HaveHints lines → HaveHints (log ++ lines)
more-hints log lines h k line m = by_side (among-append log lines line m)
  where
    by_side : Among line log ⊎ Among line lines → All (λ hint. 1 ≤ hint) line.hints
    by_side (inl n) = h line n
    by_side (inr n) = k line n

step-hints : (s : SoloMachine) (o : Own) → MachineInvariant s → ClausesAreOwn s → HaveHints s.log → HaveHints (solo_step s o).log
step-hints s (Opened ask) kept own h = h
step-hints s (Revised r) kept own h = settled-leaves (λ t. HaveHints t.log) (λ t answers k. k) (λ t spent starved k. k) (first_empty s.log) (record s { revisions = s.revisions ++ r ∷ [] }) h
step-hints s (Reasked w) kept own h = h
step-hints s Closed kept own h = h
step-hints s (Volume v) kept own h = h
step-hints s (Started i) kept own h = h
step-hints s (Finished i o) kept own h =
    finished-leaves (λ t. HaveHints t.log) (λ t answers k. k) (λ t spent starved k. k) s i (place_at s i) (place_at s i).out o h
    (λ l e. more-hints s.log (slice_of s i (place_at s i) l).lines h (out-hints s i l e kept own))
    h
step-hints s Exchanged kept own h = h

runnable-hints : (events : List Own) → IsRunnable [] events → HaveHints (solo events).log
runnable-hints events may = events-keep (λ s. HaveHints s.log) (λ past os. IsRunnable [] past × IsRunnable past os) (λ past o os q h. (step-hints (solo past) o (runnable-kept past q.0) (runnable-clauses_own past q.0) h, (runnable-push past o q.0 q.1.0, q.1.1))) [] events (tt, may) (λ line m. absurd m)

-- a lawful job has as many revisions as are served at most
abbrev IsFew : SoloMachine → Type 0
IsFew s = length s.revisions ≤ limits.revisions

step-few : (s : SoloMachine) (o : Own) → MayPass s o → IsFew s → IsFew (solo_step s o)
step-few s (Opened ask) may h = h
step-few s (Revised r) may h =
    let long : length (s.revisions ++ r ∷ []) ≡ length s.revisions + 1 = length-append s.revisions (r ∷ []) in
    let room : length s.revisions < limits.revisions = may.few in
    settled-leaves IsFew (λ t answers k. k) (λ t spent starved k. k) (first_empty s.log) (record s { revisions = s.revisions ++ r ∷ [] }) (omega arith)
step-few s (Reasked w) may h = h
step-few s Closed may h = h
step-few s (Volume v) may h = h
step-few s (Started i) may h = h
step-few s (Finished i o) may h = finished-leaves IsFew (λ t answers k. k) (λ t spent starved k. k) s i (place_at s i) (place_at s i).out o h (λ l e. h) h
step-few s Exchanged may h = h

pub lawful-few : (ask : Terms) (own : List Own) → IsLawful (Opened ask ∷ own) → length (solo (Opened ask ∷ own)).revisions ≤ limits.revisions
lawful-few ask own lawful = events-keep IsFew AllPass (λ past o os q h. (step-few (solo past) o q.0 h, q.1)) (Opened ask ∷ []) own lawful.1 (omega arith)

-- a lawful job runs few slices
pub runs-low : (ask : Terms) (own : List Own) → IsLawful (Opened ask ∷ own) → runs_of (solo (Opened ask ∷ own)).places ≤ (limits.revisions + 1) * limits.slices
runs-low ask own lawful =
    let s : SoloMachine = solo (Opened ask ∷ own) in
    let once = lawful-is_once ask own lawful in
    let runs : runs_of s.places + starts_out s.places ≤ (length s.answers + 1) * ask.slices = runs-are_few ask own once in
    let order : length s.answers ≤ length s.revisions = runnable-answers_follow (Opened ask ∷ own) once.runnable in
    let few : length s.revisions ≤ limits.revisions = lawful-few ask own lawful in
    let short : ask.slices ≤ limits.slices = lawful.0.slices_bound in
    let most : (length s.answers + 1) * ask.slices ≤ (limits.revisions + 1) * limits.slices = mul-le (length s.answers + 1) ask.slices (limits.revisions + 1) limits.slices (omega (arith, order, few)) short in
    omega (arith, runs, most)

-- the number of a line has 62 bits
line-low : (ask : Terms) (own : List Own) → IsLawful (Opened ask ∷ own) → (line : Line) → Among line (solo (Opened ask ∷ own)).log → line.id < 2 ^ 62
line-low ask own lawful line m =
    let s : SoloMachine = solo (Opened ask ∷ own) in
    let once = lawful-is_once ask own lawful in
    let low : (line.id - 2 ^ 32) / 64 < runs_of s.places * 1000 = (events-within ask.slices (Opened ask ∷ []) own once.runnable.1 once.once (opened-within ask)).low.lines line m in
    let runs : runs_of s.places ≤ (limits.revisions + 1) * limits.slices = runs-low ask own lawful in
    omega (arith, low, runs)

-- revisions have as many variables as are served at most
pub one-low : (r : Posted) → is_posted r ≡ true → r.variables ≤ limits.variables
one-low r e = leb-true r.variables limits.variables (and_parts _ _ (and_parts _ _ (and_parts _ _ (and_parts _ _ e).0).0).0).0

variables-low : (rs : List Posted) (v : ℕ) → All (λ r. is_posted r ≡ true) rs → v ≤ limits.variables → fold (λ (x : ℕ) (p : Posted). max x p.variables) v rs ≤ limits.variables
variables-low [] v all low = low
variables-low (r ∷ rs) v all low =
    let here : r.variables ≤ limits.variables = one-low r (All-head (λ (x : Posted). is_posted x ≡ true) r rs all) in
    variables-low rs (max v r.variables) (All-tail (λ (x : Posted). is_posted x ≡ true) r rs all) (omega arith)

-- a line of a lawful job is read again
pub line-readable : (own : List Own) → IsLawful own → (line : Line) → Among line (solo own).log → IsReadable line
line-readable [] lawful line m = absurd lawful
line-readable (Opened ask ∷ own) lawful line m = record {
  rising = omega (arith, derived);
  is_id = (omega (arith, derived), omega (arith, low));
  is_clause = (literals.rising, recursion_from_All IsServed line.lits (All-weaker (IsLiteralOf variables) IsServed of-code line.lits literals.within));
  are_ids = recursion_from_All IsId line.hints (both-hints line.hints (runnable-hints (Opened ask ∷ own) once.runnable line m) above.above);
}
  where
    s : SoloMachine
    s = solo (Opened ask ∷ own)

    once : IsOpenedOnce ask own
    once = lawful-is_once ask own lawful

    kept : MachineInvariant s
    kept = runnable-kept (Opened ask ∷ own) once.runnable

    above : IsAbove line
    above = of-all IsAbove s.log line (kept-log s kept).above m

    derived : 2 ^ 32 ≤ line.id
    derived = above.derived

    low : line.id < 2 ^ 62
    low = line-low ask own lawful line m

    variables : ℕ
    variables = variables_of (take (length s.answers + 1) s.revisions)

    literals : AreLiteralsOf variables line.lits
    literals = kept.derives.within line m

    few : variables ≤ limits.variables
    few = variables-low (take (length s.answers + 1) s.revisions) 0 (All-take (λ (r : Posted). is_posted r ≡ true) (length s.answers + 1) s.revisions kept.solving.loadable) (omega arith)

    of-code : (code : ℕ) → IsLiteralOf variables code → IsServed code
    of-code code is =
        let some : 1 ≤ code / 2 = is.low in
        let most : code / 2 ≤ variables = is.high in
        (omega (arith, some), omega (arith, most, few))

    both-hints : (hints : List ℕ) → All (λ hint. 1 ≤ hint) hints → All (λ hint. hint < line.id) hints → All IsId hints
    both-hints [] some less = All-nil IsId
    both-hints (h ∷ hs) some less =
        let first : 1 ≤ h = All-head (λ (x : ℕ). 1 ≤ x) h hs some in
        let below : h < line.id = All-head (λ (x : ℕ). x < line.id) h hs less in
        All-cons IsId h hs (first, omega (arith, below, low)) (both-hints hs (All-tail (λ (x : ℕ). 1 ≤ x) h hs some) (All-tail (λ (x : ℕ). x < line.id) h hs less))
line-readable (Revised r ∷ own) lawful line m = absurd lawful
line-readable (Reasked w ∷ own) lawful line m = absurd lawful
line-readable (Closed ∷ own) lawful line m = absurd lawful
line-readable (Volume v ∷ own) lawful line m = absurd lawful
line-readable (Started i ∷ own) lawful line m = absurd lawful
line-readable (Finished i o ∷ own) lawful line m = absurd lawful
line-readable (Exchanged ∷ own) lawful line m = absurd lawful

among-left : (xs ys : List Line) (x : Line) → Among x xs → Among x (xs ++ ys)
among-left [] ys x h = absurd h
among-left (y ∷ xs) ys x (inl e) = inl e
among-left (y ∷ xs) ys x (inr h) = inr (among-left xs ys x h)

among-right : (xs ys : List Line) (x : Line) → Among x ys → Among x (xs ++ ys)
among-right [] ys x h = h
among-right (y ∷ xs) ys x h = inr (among-right xs ys x h)

all-readable : (ls : List Line) → ((line : Line) → Among line ls → IsReadable line) → AllByRecursion IsReadable ls
all-readable [] h = tt
all-readable (l ∷ ls) h = (h l (inl refl), all-readable ls (λ line m. h line (inr m)))

-- so are those of each slice
of-slices : (cs : List Slice) (n : ℕ) (c : Slice) → slice_get cs n ≡ Some c → ((line : Line) → Among line (flat_map (λ (d : Slice). d.lines) cs) → IsReadable line) → AllByRecursion IsReadable c.lines
of-slices [] n c e h = absurd (cc)
of-slices (d ∷ cs) zero c e h =
    let same : d ≡ c = cc in
    subst (λ (x : Slice). AllByRecursion IsReadable x.lines) same (all-readable d.lines (λ line m. h line (among-left d.lines (flat_map (λ (x : Slice). x.lines) cs) line m)))
of-slices (d ∷ cs) (suc n) c e h = of-slices cs n c e (λ line m. h line (among-right d.lines (flat_map (λ (x : Slice). x.lines) cs) line m))

pub slice-readable : (own : List Own) → IsLawful own → (n : ℕ) (c : Slice) → slice_get (solo own).slices n ≡ Some c → AllByRecursion IsReadable c.lines
slice-readable own lawful n c e = of-slices (solo own).slices n c e (λ line m. line-readable own lawful line (subst (λ (log : List Line). Among line log) (sym (logs-are-slices own)) m))

-- a goal is the number of a clause and has 62 bits, too
goal-low : (ask : Terms) (own : List Own) → IsLawful (Opened ask ∷ own) → (r goal : ℕ) → slice_get (solo (Opened ask ∷ own)).answers r ≡ Some (Refuted goal) → (1 ≤ goal) × (goal < 2 ^ 62)
goal-low ask own lawful r goal e =
    let s : SoloMachine = solo (Opened ask ∷ own) in
    let refuted : IsRefuted (take (r + 1) s.revisions) s.log goal = (runnable-kept (Opened ask ∷ own) (lawful-is_once ask own lawful).runnable).derives.refuted r goal e in
    let there : Among refuted.line s.log = subst (λ (log : List Line). Among refuted.line log) (sym refuted.is) (among-left refuted.front refuted.more refuted.line refuted.among) in
    subst (λ (n : ℕ). (1 ≤ n) × (n < 2 ^ 62)) refuted.number ((line-readable (Opened ask ∷ own) lawful refuted.line there).is_id.0, line-low ask own lawful refuted.line there)

-- the answers of a lawful job: 8 bytes hold a goal, and a model has a value for each variable by then
pub lawful-goal : (own : List Own) → IsLawful own → (r goal : ℕ) → slice_get (solo own).answers r ≡ Some (Refuted goal) → (1 ≤ goal) × (goal < 2 ^ 62)
lawful-goal [] lawful r goal e = absurd lawful
lawful-goal (Opened ask ∷ own) lawful r goal e = goal-low ask own lawful r goal e
lawful-goal (Revised p ∷ own) lawful r goal e = absurd lawful
lawful-goal (Reasked w ∷ own) lawful r goal e = absurd lawful
lawful-goal (Closed ∷ own) lawful r goal e = absurd lawful
lawful-goal (Volume v ∷ own) lawful r goal e = absurd lawful
lawful-goal (Started i ∷ own) lawful r goal e = absurd lawful
lawful-goal (Finished i o ∷ own) lawful r goal e = absurd lawful
lawful-goal (Exchanged ∷ own) lawful r goal e = absurd lawful
