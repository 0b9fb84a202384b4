-- What nodes export, in the words of their journals: the short lines that a node's own slices derived since the last
-- exchange in which it took part.
use Rattle.std.specs.Prelude.{◌≡◌, ℕ, ◌≤◌, false, List, [], ◌∷◌, ◌++◌, length, map, filter, drop, flat_map, if◌then◌else◌}
use Rattle.std.specs.List.{list_any}
use Rattle.mal_base.specs.declared.profile.Profile.{Profile}
use Rattle.mal_base.specs.NumberedClause.{NumberedClause, Line}
use Rattle.mal_base.specs.declared.verdict.Outcome.TheVariants.{Ran}
use Rattle.spec_node.specs.Load.{counted}
use Rattle.spec_search.specs.Slice.{Sliced}
use Rattle.spec_exchange.specs.Exchange.{broadcast}
use Rattle.spec_job.specs.Journal.{JournalEntry, after_entry, replay}
use Rattle.spec_job.specs.SoloMachine.{Own, Opened, Revised, Reasked, Closed, Volume, Started, Finished, Exchanged, SoloMachine, unopened, solo, solo_step, place_at, is_short, takes_part, exports_of}
use Rattle.spec_job.specs.Counts.{is_opening}
use Rattle.spec_job.specs.Examples.{ask, both_assumed, one_of_two, numbered_clause}

-- the lines that these entries of a journal derive, from a replay on
abbrev pub derived_from : Sliced → List JournalEntry → List Line
derived_from s [] = []
derived_from s (e ∷ es) = (after_entry s e).lines ++ derived_from (after_entry s e) es

-- the lines that the journal of a node of this profile and index derives after its first entries
abbrev pub derived_after : Profile → ℕ → List JournalEntry → List JournalEntry → List Line
derived_after profile i first entries = derived_from (replay profile i first) (drop (length first) entries)

-- the journal with which a node last took part in an exchange, after one more event
abbrev pub exchanged_step : ℕ → SoloMachine → List JournalEntry → Own → List JournalEntry
exchanged_step i s last (Opened ask) = last
exchanged_step i s last (Revised r) = last
exchanged_step i s last (Reasked w) = last
exchanged_step i s last Closed = last
exchanged_step i s last (Volume v) = last
exchanged_step i s last (Started j) = last
exchanged_step i s last (Finished j outcome) = last
exchanged_step i s last Exchanged = if takes_part s.volume i (place_at s i) then (place_at s i).entries else last

-- the same after the events that follow
abbrev pub exchanged_from : ℕ → SoloMachine → List JournalEntry → List Own → List JournalEntry
exchanged_from i s last [] = last
exchanged_from i s last (o ∷ os) = exchanged_from i (solo_step s o) (exchanged_step i s last o) os

-- the journal with which a node last took part in an exchange, empty before it first did
abbrev pub journal_exchanged : ℕ → List Own → List JournalEntry
journal_exchanged i events = exchanged_from i unopened [] events

-- what a node has derived since then, as it is exported: the short lines, without their hints
abbrev pub unexported : ℕ → List Own → List NumberedClause
unexported i events = map (λ l. record { id = l.id; lits = l.lits }) (filter is_short (derived_after (solo events).ask.profile i (journal_exchanged i events) (place_at (solo events) i).entries))

-- no event after the first opens the job
abbrev pub IsOpenedFirst : List Own → Type 0
IsOpenedFirst events = list_any is_opening (drop 1 events) ≡ false

-- this is what a node exports
abbrev pub ExportsAreDerived : Type 0
ExportsAreDerived = (events : List Own) (i : ℕ) → IsOpenedFirst events → i ≤ 63 → exports_of (solo events).log i (place_at (solo events) i) ≡ unexported i events

-- what the nodes export that take part
abbrev pub exported_by : List Own → ℕ → List NumberedClause
exported_by events i = if takes_part (solo events).volume i (place_at (solo events) i) then unexported i events else []

-- an exchange broadcasts all of it
abbrev pub ExchangesTellDerived : Type 0
ExchangesTellDerived = (events : List Own) → IsOpenedFirst events → (solo (events ++ Exchanged ∷ [])).broadcasts ≡ (solo events).broadcasts ++ broadcast (flat_map (exported_by events) (counted 0 64)) ∷ []

-- a job of two nodes, of which the first has derived a clause
abbrev pub derived_one : List Own
derived_one = Opened (ask 2 4) ∷ Revised both_assumed ∷ Volume 2 ∷ Started 0 ∷ Finished 0 Ran ∷ Revised one_of_two ∷ []

-- worked examples: a clause that is not exported yet, which is none of the other node's; it is none any more after an
-- exchange, and is still one where the node was out then
pub record HasUnexported : Type 0 where
  pub first : unexported 0 derived_one ≡ numbered_clause 4294967296 (3 ∷ 5 ∷ []) ∷ []
  pub other : unexported 1 derived_one ≡ []
  pub after : unexported 0 (derived_one ++ Exchanged ∷ []) ≡ []
  pub while_out : unexported 0 (derived_one ++ (Started 0 ∷ Exchanged ∷ [])) ≡ numbered_clause 4294967296 (3 ∷ 5 ∷ []) ∷ []
