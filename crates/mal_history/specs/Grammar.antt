-- The grammar of histories: which history a text spells.
use Rattle.std.specs.Prelude.{◌≡◌, ℕ, suc, ◌+◌, ◌≤◌, true, List, [], ◌∷◌, ◌⊎◌, length, map, codes, pos}
use Rattle.mal_base.specs.Limits.{limits}
use Rattle.mal_base.specs.Asks.{Terms, Weighed}
use Rattle.mal_base.specs.Names.{is_name}
use Rattle.mal_base.specs.declared.verdict.Outcome.{Outcome}
use Rattle.mal_base.specs.Profiles.{number, last_profile}
use Rattle.mal_base.specs.declared.profile.Profile.{Profile}
use Rattle.mal_base.specs.declared.profile.Profile.TheVariants.{Plain}
use Rattle.spec_text.specs.Asks.{first_profile}
use Rattle.spec_text.specs.Numbers.{number_in}
use Rattle.spec_text.specs.Numbers.NumberWord.{Number}
use Rattle.spec_dimacs.specs.Rows.{rows_of}
use Rattle.mal_history.specs.declared.event.Event.{Event}
use Rattle.mal_history.specs.declared.event.Event.TheVariants.{Open, Revise, Reask, Close, Balance, Start, Finish, Exchange, Leave, Arrive}
use Rattle.mal_history.specs.declared.event.Share.{Share}
use Rattle.mal_history.specs.Text.{outcome_word}
use Rattle.mal_history.specs.Reading.{Read, most_events}
use Rattle.mal_history.specs.Sizes.{most_workers, last_node}

-- a word says this number, which is from `low` to `high`
abbrev pub Says : ℕ → ℕ → List ℕ → ℕ → Type 0
Says low high word n = (number_in word high ≡ Number (pos n)) × (low ≤ n) × (n ≤ high)

-- both are names
abbrev pub AreNames : List ℕ → List ℕ → Type 0
AreNames tenant job = (is_name tenant ≡ true) × (is_name job ≡ true)

-- words say a profile: no word says the first, and one word another
abbrev pub SayProfile : List (List ℕ) → Profile → Type 0
SayProfile [] profile = profile ≡ Plain
SayProfile (word ∷ []) profile = Says (first_profile + 1) last_profile word (number profile)
SayProfile words profile = ⊥

-- the line of an opening: `o`, the names, and the job's priority, demand, slices and profile
pub record SpellsOpen (words : List (List ℕ)) (tenant job : List ℕ) (ask : Terms) : Type 0 where
  pub priority : List ℕ
  pub demand : List ℕ
  pub slices : List ℕ
  pub profile : List (List ℕ)
  pub row : words ≡ codes "o" ∷ tenant ∷ job ∷ priority ∷ demand ∷ slices ∷ profile
  pub names : AreNames tenant job
  pub says_priority : Says 1 limits.priority priority ask.priority
  pub says_demand : Says 1 limits.demand demand ask.demand
  pub says_slices : Says 1 limits.slices slices ask.slices
  pub say_profile : SayProfile profile ask.profile

-- of a revision: `r`, the names, and its number
pub record SpellsRevise (words : List (List ℕ)) (tenant job : List ℕ) (number : ℕ) : Type 0 where
  pub word : List ℕ
  pub row : words ≡ codes "r" ∷ tenant ∷ job ∷ word ∷ []
  pub names : AreNames tenant job
  pub says_number : Says 1 limits.revisions word number

-- of a change of a job's weight, which only version 2 has: `q`, the names, and the job's priority and demand
pub record SpellsReask (version : ℕ) (words : List (List ℕ)) (tenant job : List ℕ) (weight : Weighed) : Type 0 where
  pub priority : List ℕ
  pub demand : List ℕ
  pub row : words ≡ codes "q" ∷ tenant ∷ job ∷ priority ∷ demand ∷ []
  pub version_is : version ≡ 2
  pub names : AreNames tenant job
  pub says_priority : Says 1 limits.priority priority weight.priority
  pub says_demand : Says 1 limits.demand demand weight.demand

-- words say volumes: the names of each one's job, and its volume
pub record SayShare (words : List (List ℕ)) (share : Share) (behind : List (List ℕ)) : Type 0 where
  pub volume : List ℕ
  pub row : words ≡ share.tenant ∷ share.job ∷ volume ∷ behind
  pub names : AreNames share.tenant share.job
  pub says_volume : Says 0 limits.demand volume share.volume

abbrev pub SayShares : List (List ℕ) → List Share → Type 0
SayShares words [] = words ≡ []
SayShares words (share ∷ shares) = (behind : List (List ℕ)) × SayShare words share behind × SayShares behind shares

-- of a balancing: `b`, and the volumes
pub record SpellsBalance (words : List (List ℕ)) (volumes : List Share) : Type 0 where
  pub behind : List (List ℕ)
  pub row : words ≡ codes "b" ∷ behind
  pub says_volumes : SayShares behind volumes

-- of a start: `s`, the names, the node's index, and the worker
pub record SpellsStart (workers : ℕ) (words : List (List ℕ)) (tenant job : List ℕ) (index worker : ℕ) : Type 0 where
  pub at : List ℕ
  pub by : List ℕ
  pub row : words ≡ codes "s" ∷ tenant ∷ job ∷ at ∷ by ∷ []
  pub names : AreNames tenant job
  pub says_index : Says 0 last_node at index
  pub says_worker : Says 1 workers by worker

-- of a finish: `f`, the names, the node's index, the worker, and the outcome
pub record SpellsFinish (workers : ℕ) (words : List (List ℕ)) (tenant job : List ℕ) (index worker : ℕ) (outcome : Outcome) : Type 0 where
  pub at : List ℕ
  pub by : List ℕ
  pub row : words ≡ codes "f" ∷ tenant ∷ job ∷ at ∷ by ∷ outcome_word outcome ∷ []
  pub names : AreNames tenant job
  pub says_index : Says 0 last_node at index
  pub says_worker : Says 1 workers by worker

-- the words of a line spell an event, in this version of the format, of a history of so many workers; those of a closing
-- are `c` and the names, those of an exchange `x` and the names; no line spells a move
abbrev pub SpellsEvent : ℕ → ℕ → List (List ℕ) → Event → Type 0
SpellsEvent version workers words (Open tenant job ask) = SpellsOpen words tenant job ask
SpellsEvent version workers words (Revise tenant job number) = SpellsRevise words tenant job number
SpellsEvent version workers words (Reask tenant job weight) = SpellsReask version words tenant job weight
SpellsEvent version workers words (Close tenant job) = (words ≡ codes "c" ∷ tenant ∷ job ∷ []) × AreNames tenant job
SpellsEvent version workers words (Balance volumes) = SpellsBalance words volumes
SpellsEvent version workers words (Start tenant job index worker) = SpellsStart workers words tenant job index worker
SpellsEvent version workers words (Finish tenant job index worker outcome) = SpellsFinish workers words tenant job index worker outcome
SpellsEvent version workers words (Exchange tenant job) = (words ≡ codes "x" ∷ tenant ∷ job ∷ []) × AreNames tenant job
SpellsEvent version workers words (Leave tenant job) = ⊥
SpellsEvent version workers words (Arrive tenant job) = ⊥

-- a word says a version of the format, each in one spelling
abbrev pub SaysVersion : List ℕ → ℕ → Type 0
SaysVersion word version = ((word ≡ codes "1") × (version ≡ 1)) ⊎ ((word ≡ codes "2") × (version ≡ 2))

-- the words of the first line: `h`, `mal`, the version, and the number of workers
pub record SpellsHeader (words : List (List ℕ)) (version workers : ℕ) : Type 0 where
  pub version_word : List ℕ
  pub workers_word : List ℕ
  pub row : words ≡ codes "h" ∷ codes "mal" ∷ version_word ∷ workers_word ∷ []
  pub says_version : SaysVersion version_word version
  pub says_workers : Says 1 most_workers workers_word workers

-- a line that is not empty, with its number
pub record Row : Type 0 where
  pub line : ℕ
  pub words : List (List ℕ)

-- the lines that are not empty, of those after so many lines
abbrev pub numbered : ℕ → List (List (List ℕ)) → List Row
numbered line [] = []
numbered line ([] ∷ rows) = numbered (suc line) rows
numbered line ((word ∷ words) ∷ rows) = record { line = suc line; words = word ∷ words } ∷ numbered (suc line) rows

-- lines spell events, one each
abbrev pub AllSpell : ℕ → ℕ → List Row → List Event → Type 0
AllSpell version workers [] events = events ≡ []
AllSpell version workers (row ∷ rows) [] = ⊥
AllSpell version workers (row ∷ rows) (e ∷ events) = SpellsEvent version workers row.words e × AllSpell version workers rows events

-- the lines of a text spell a history: the first one that is not empty spells the version and the number of workers,
-- the others an event each, of which there are at most 2^24
pub record SpellRows (rows : List (List (List ℕ))) (h : Read) : Type 0 where
  pub first : Row
  pub others : List Row
  pub lines_are : numbered 0 rows ≡ first ∷ others
  pub version : ℕ
  pub header : SpellsHeader first.words version h.workers
  pub says_events : AllSpell version h.workers others h.events
  pub lines : h.lines ≡ map (λ row. row.line) others
  pub few : length h.events ≤ most_events

-- a text spells a history
abbrev pub Spells : List ℕ → Read → Type 0
Spells text h = SpellRows (rows_of text) h
