use Rattle.std.specs.Prelude.{find, option_map, ℕ, ◌+◌, ◌-◌, ◌*◌, ◌%◌, Bool, true, false, not, ◌&&◌, ◌==◌, nat_lt, nat_le, List, [], ◌∷◌, ◌++◌, map, filter, length, take, drop, replicate, sum_by, count_by, fold, get_or, slice_set, Option, Some, None, is_some, is_none, if◌then◌else◌}
use Rattle.mal_base.specs.Asks.{Terms, Weighed, reasked}
use Rattle.mal_base.specs.Formulas.{literals_of}
use Rattle.mal_base.specs.declared.answer.Answer.{Answer}
use Rattle.mal_base.specs.declared.answer.Answer.TheVariants.{Satisfied, Refuted, Spent, OutOfStarts}
use Rattle.mal_base.specs.declared.profile.Profile.TheVariants.{Plain}
use Rattle.mal_base.specs.declared.verdict.Verdict.{Verdict}
use Rattle.mal_base.specs.declared.verdict.Verdict.TheVariants.{Satisfiable, Unsatisfiable}
use Rattle.mal_base.specs.declared.verdict.Outcome.{Outcome}
use Rattle.mal_base.specs.declared.verdict.Outcome.TheVariants.{Ran, Starved, Lost}
use Rattle.mal_base.specs.NumberedClause.{NumberedClause, Line}
use Rattle.mal_revision.specs.Posted.{Posted}
use Rattle.spec_node.specs.State.{Node}
use Rattle.spec_node.specs.Model.{model_of}
use Rattle.spec_search.specs.Slice.{Sliced}
use Rattle.spec_exchange.specs.Exchange.{broadcast}
use Rattle.spec_job.specs.Journal.{JournalEntry, Import, Run, replay, loads_in, loads_of, imports_in}

-- a job's own events: no other job, no worker and no start number stands in them
pub data Own : Type 0 where
  Opened : Terms → Own
  Revised : Posted → Own
  Reasked : Weighed → Own
  Closed : Own
  Volume : ℕ → Own
  Started : ℕ → Own
  Finished : ℕ → Outcome → Own
  Exchanged : Own

-- a start that has not ended: for which revision (from 0), and the entries that it adds to the journal
pub record Lease : Type 0 where
  pub revision : ℕ
  pub adds : List JournalEntry

-- a place of the job's tree: the journal of its node, the start that is out, how often it was started, and how long the
-- log was at the last exchange in which it took part
pub record NodeSlot : Type 0 where
  pub entries : List JournalEntry
  pub out : Option Lease
  pub starts : ℕ
  pub mark : ℕ

-- a place that was never started
abbrev pub vacant : NodeSlot
vacant = record { entries = []; out = None; starts = 0; mark = 0 }

-- a slice that was run: the lines that it logged, and whether its verdict answered a revision
pub record Slice : Type 0 where
  pub lines : List Line
  pub ends : Bool

-- what a job's machine remembers; no step reads the slices
pub record SoloMachine : Type 0 where
  pub ask : Terms
  pub closed : Bool
  pub volume : ℕ
  pub revisions : List Posted
  pub answers : List Answer
  pub places : List NodeSlot
  pub log : List Line
  pub slices : List Slice
  pub broadcasts : List (List NumberedClause)
  pub ran : ℕ
  pub spent : ℕ
  pub starved : ℕ

-- the machine before its first event: 64 vacant places and nothing else
abbrev pub unopened : SoloMachine
unopened = record { ask = record { priority = 0; demand = 0; slices = 0; profile = Plain }; closed = false; volume = 0; revisions = []; answers = []; places = replicate 64 vacant; log = []; slices = []; broadcasts = []; ran = 0; spent = 0; starved = 0 }

-- revisions are answered in order: the current one is the first without an answer
abbrev pub current : SoloMachine → ℕ
current s = length s.answers

-- a job is live while it has a revision without an answer
abbrev pub is_live : SoloMachine → Bool
is_live s = nat_lt (length s.answers) (length s.revisions)

-- the place at an index
abbrev pub place_at : SoloMachine → ℕ → NodeSlot
place_at s i = get_or s.places i vacant

-- the machine with another place at an index
abbrev pub with_place : SoloMachine → ℕ → NodeSlot → SoloMachine
with_place s i p = record s { places = slice_set s.places i p }

-- how many original clauses these revisions have
abbrev pub clauses_in : List Posted → ℕ
clauses_in revisions = sum_by (λ r. length r.clauses) revisions

-- how many literals these clauses have
abbrev pub literals_in : List Posted → ℕ
literals_in revisions = sum_by (λ r. literals_of r.clauses) revisions

-- the loads that a journal lacks, up to the current revision
abbrev pub missing_loads : SoloMachine → NodeSlot → List JournalEntry
missing_loads s p = let n = loads_in p.entries in loads_of (clauses_in (take n s.revisions) + 1) (take (current s + 1 - n) (drop n s.revisions))

-- the imports that a journal lacks
abbrev pub missing_imports : SoloMachine → NodeSlot → List JournalEntry
missing_imports s p = map Import (drop (imports_in p.entries) s.broadcasts)

-- what a start adds to a journal: the missing loads, the missing imports, then one slice
abbrev pub start_entries : SoloMachine → NodeSlot → List JournalEntry
start_entries s p = missing_loads s p ++ (missing_imports s p ++ Run ∷ [])

-- the place is out for the current revision
abbrev pub started : SoloMachine → ℕ → NodeSlot → SoloMachine
started s i p = with_place s i (record p { out = Some (record { revision = current s; adds = start_entries s p }); starts = p.starts + 1 })

-- the current revision is answered
abbrev pub answered : SoloMachine → Answer → SoloMachine
answered s a = record s { answers = s.answers ++ a ∷ []; spent = 0; starved = 0 }

-- a slice that answers nothing counts as spent, and the last of the budget answers unknown
abbrev pub spend : SoloMachine → SoloMachine
spend s = if s.spent + 1 == s.ask.slices then answered s (Spent s.ask.slices) else record s { spent = s.spent + 1 }

-- a satisfiable node's model answers the current revision, and so does the goal of a node that is refuted; a slice
-- without a verdict counts as spent
abbrev pub conclude : Option Verdict → Node → SoloMachine → SoloMachine
conclude None n s = spend s
conclude (Some Satisfiable) n s = answered s (Satisfied (model_of n))
conclude (Some (Unsatisfiable goal)) n s = answered s (Refuted goal)

-- the third start of a revision that reported out of memory answers unknown
abbrev pub starve : SoloMachine → SoloMachine
starve s = if s.starved + 1 == 3 then answered s OutOfStarts else record s { starved = s.starved + 1 }

-- the number of the first empty clause of a log
abbrev pub first_empty : List Line → Option ℕ
first_empty log = option_map (λ l. l.id) (find (λ l. length l.lits == 0) log)

-- an empty clause answers every revision without an answer
abbrev pub settled_by : Option ℕ → SoloMachine → SoloMachine
settled_by None s = s
settled_by (Some goal) s = record s { answers = s.answers ++ replicate (length s.revisions - length s.answers) (Refuted goal); spent = 0; starved = 0 }

-- once the log holds an empty clause every revision is answered
abbrev pub settled : SoloMachine → SoloMachine
settled s = settled_by (first_empty s.log) s

-- a finish is late where the revision of its start has its answer
abbrev pub is_late : SoloMachine → Lease → Bool
is_late s l = nat_lt l.revision (current s)

-- a slice that was run, as it is remembered: where it is not late its verdict answers
abbrev pub remembered : SoloMachine → Lease → Sliced → Slice
remembered s l slice = record { lines = slice.lines; ends = not (is_late s l) && is_some slice.node.verdict }

-- a slice that was run: its entries join the journal, its lines the log, and unless it is late it answers or counts as
-- spent
abbrev pub finished_ran : SoloMachine → ℕ → NodeSlot → Lease → SoloMachine
finished_ran s i p l =
    let entries = p.entries ++ l.adds in
    let slice = replay s.ask.profile i entries in
    let home = record (with_place s i (record p { entries = entries; out = None })) { log = s.log ++ slice.lines; slices = s.slices ++ remembered s l slice ∷ []; ran = s.ran + 1 } in
    if is_late s l then home else conclude slice.node.verdict slice.node home

-- a start that comes to nothing leaves the node as it was
abbrev pub finished_home : SoloMachine → ℕ → NodeSlot → SoloMachine
finished_home s i p = with_place s i (record p { out = None })

-- a start that ended, by its outcome
abbrev pub finished_lease : SoloMachine → ℕ → NodeSlot → Lease → Outcome → SoloMachine
finished_lease s i p l Ran = finished_ran s i p l
finished_lease s i p l Starved = (let home = finished_home s i p in if is_late s l then home else starve home)
finished_lease s i p l Lost = finished_home s i p

-- a finish ends the start that is out, whatever its outcome
abbrev pub finished : SoloMachine → ℕ → NodeSlot → Option Lease → Outcome → SoloMachine
finished s i p None outcome = s
finished s i p (Some l) outcome = settled (finished_lease s i p l outcome)

-- a line is short: it has 1 to 16 literals
abbrev pub is_short : Line → Bool
is_short l = nat_le 1 (length l.lits) && nat_le (length l.lits) 16

-- whether a node that takes part in an exchange exports a line: it is a short one of its own
abbrev pub is_exported : ℕ → Line → Bool
is_exported i l = (l.id % 64 == i) && is_short l

-- what a place exports: of the lines that entered the log since the last exchange in which it took part
abbrev pub exports_of : List Line → ℕ → NodeSlot → List NumberedClause
exports_of log i p = map (λ l. record { id = l.id; lits = l.lits }) (filter (is_exported i) (drop p.mark log))

-- whether a place takes part in an exchange: it is below the volume and at home
abbrev pub takes_part : ℕ → ℕ → NodeSlot → Bool
takes_part volume i p = nat_lt i volume && is_none p.out

-- what the places export that take part; the first place has this index
abbrev pub exports_from : ℕ → List Line → ℕ → List NodeSlot → List NumberedClause
exports_from volume log i [] = []
exports_from volume log i (p ∷ ps) = (if takes_part volume i p then exports_of log i p else []) ++ exports_from volume log (i + 1) ps

-- the places with the marks of those moved that take part
abbrev pub marked_from : ℕ → ℕ → ℕ → List NodeSlot → List NodeSlot
marked_from volume mark i [] = []
marked_from volume mark i (p ∷ ps) = (if takes_part volume i p then record p { mark = mark } else p) ∷ marked_from volume mark (i + 1) ps

-- an exchange: what is exported is broadcast, and the marks of those that took part move
abbrev pub exchanged : SoloMachine → SoloMachine
exchanged s = record s { broadcasts = s.broadcasts ++ broadcast (exports_from s.volume s.log 0 s.places) ∷ []; places = marked_from s.volume (length s.log) 0 s.places; ran = 0 }

-- the machine after one more event of its own
abbrev pub solo_step : SoloMachine → Own → SoloMachine
solo_step s (Opened ask) = record s { ask = ask }
solo_step s (Revised r) = settled (record s { revisions = s.revisions ++ r ∷ [] })
solo_step s (Reasked w) = record s { ask = reasked s.ask w }
solo_step s Closed = record s { closed = true }
solo_step s (Volume v) = record s { volume = v }
solo_step s (Started i) = started s i (place_at s i)
solo_step s (Finished i outcome) = finished s i (place_at s i) (place_at s i).out outcome
solo_step s Exchanged = exchanged s

-- the machine that is run alone on a list of own events
abbrev pub solo : List Own → SoloMachine
solo events = fold solo_step unopened events

-- whether a start is out for a revision
abbrev pub is_for : ℕ → Option Lease → Bool
is_for revision None = false
is_for revision (Some l) = l.revision == revision

-- how many starts are out for the current revision
abbrev pub out_count : SoloMachine → ℕ
out_count s = count_by (λ p. is_for (current s) p.out) s.places

-- a node may start where its job is live, its index is below the volume, it is at home, and the slices that the
-- current revision has spent and those that are out are fewer than its budget
abbrev pub startable : SoloMachine → ℕ → Bool
startable s i = (is_live s && nat_lt i s.volume) && (is_none (place_at s i).out && nat_lt (s.spent + out_count s) s.ask.slices)

-- an exchange is due where the volume is at least 2 and twice as many slices as the volume were run since the last one
abbrev pub is_exchange_due : SoloMachine → Bool
is_exchange_due s = nat_le 2 s.volume && nat_le (2 * s.volume) s.ran
