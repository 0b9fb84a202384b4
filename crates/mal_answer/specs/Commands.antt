-- The commands of the program, each a value.
use Rattle.std.specs.Prelude.{◌≡◌, ◌⊎◌, ℕ, Bool, true, false, List, [], ◌∷◌, slice_get, codes, Some, Ok}
use Rattle.std.specs.List.{list_all, list_any}
use Rattle.mal_history.specs.Written.{line_at}
use Rattle.mal_answer.specs.Forms.{check_form, cluster_form, core_form, gen_form, json_form, max_form, replay_form, run_form, serve_form}
use Rattle.mal_answer.specs.declared.words.request.Request.{Request}
use Rattle.mal_answer.specs.declared.words.request.Request.TheVariants.{Run, Check, Replay, Generate, RunGenerated, Json, Max, Core, Serve}
use Rattle.mal_answer.specs.declared.words.request.Request.TheVariants as request
use Rattle.mal_account.specs.Accounts.{Account}
use Rattle.mal_account.specs.Accounts as account
use Rattle.mal_account.specs.FaultLines as account_lines
use Rattle.mal_account.specs.Grammar as account_texts
use Rattle.mal_claim.specs.Proofs.{bare, verdict_of}
use Rattle.mal_claim.specs.Claims.{Claim}
use Rattle.mal_claim.specs.Claims as claim
use Rattle.mal_claim.specs.FaultLines as claim_lines
use Rattle.mal_claim.specs.Grammar as claim_texts
use Rattle.mal_core.specs.FaultLines as core_lines
use Rattle.mal_core.specs.Found as core
use Rattle.mal_core.specs.Grammar as core_texts
use Rattle.mal_core.specs.Reading as core_reading
use Rattle.mal_core.specs.Texts.{minimal_text}
use Rattle.mal_instance.specs.Reading.{Fault}
use Rattle.mal_max.specs.FaultLines as max_lines
use Rattle.mal_max.specs.Found as max
use Rattle.mal_max.specs.Grammar as max_texts
use Rattle.mal_max.specs.Reading as max_reading
use Rattle.mal_max.specs.Texts.{optimum_text}
use Rattle.spec_core.specs.Core as spec_core
use Rattle.spec_feed.specs.FaultLines as feed_lines
use Rattle.spec_feed.specs.Reading as feed
use Rattle.spec_feed.specs.declared.fault.FeedFault.{FeedFault}
use Rattle.spec_feed.specs.declared.post.FeedPost.{FeedPost}
use Rattle.spec_json.specs.FaultLines as json_lines
use Rattle.spec_json.specs.Grammar as json_texts
use Rattle.spec_json.specs.Reading as json
use Rattle.spec_json.specs.declared.fault.JsonFault.{JsonFault}
use Rattle.spec_script.specs.Generated.{generated}
use Rattle.spec_cluster.specs.Clusters.{Cluster}
use Rattle.spec_cluster.specs.Run.{IsClusterRun, is_for_one, moved_replies}
use Rattle.spec_cluster.specs.Visits.{all_of}
use Rattle.spec_hall.specs.Driven.{IsDriven}
use Rattle.spec_hall.specs.Events.{Event}
use Rattle.spec_hall.specs.Own.{own}
use Rattle.spec_job.specs.KeyedJob.{Key}
use Rattle.spec_job.specs.Unknown.{is_fed}
use Rattle.spec_live.specs.Live.{IsServing}
use Rattle.spec_logic.specs.Logic.{IsUnsatisfiable}
use Rattle.spec_logic.specs.Refutation.{IsRefutation}
use Rattle.spec_max.specs.Optimum as spec_max
use Rattle.spec_run.specs.Replayed.{IsLegal, IsLacking, IsRefusedAt, IsReplied}
use Rattle.spec_run.specs.Complete.{IsComplete, key_of_job, script_events}
use Rattle.spec_run.specs.Losses.{LosesLate, is_loss}
use Rattle.spec_run.specs.Run.{IsEvident, IsRun, job_replies}
use Rattle.mal_base.specs.declared.line_fault.LineFault.{LineFault}
use Rattle.spec_script.specs.FaultLines.{fault_line}
use Rattle.spec_script.specs.Grammar.{Spells}
use Rattle.mal_base.specs.Limits.{limits}
use Rattle.spec_script.specs.Reading.{read_text}
use Rattle.spec_script.specs.Script.{ScriptedJob, Scripted, spelling}
use Rattle.spec_text.specs.Lines.{line_of}
use Rattle.mal_answer.specs.Command.{Command, Grammar, judging, making, reading}
use Rattle.mal_answer.specs.Summaries.{all_told, summary_line}

-- a script was run with so many workers: these are the texts of the history and of the replies; a run of one worker is
-- sequential, so the script decides it
pub record IsRunOf (workers : ℕ) (s : Scripted) (log out : List ℕ) : Type 0 where
  pub history : List Event
  pub run : IsRun workers s history log out
  pub alone : workers ≡ 1 → IsDriven workers (script_events s) history

-- where workers are stopped: before a slice or, where true, after it, of a start of this number, a worker of this number
abbrev pub Stops : Type 0
Stops = Bool → ℕ → ℕ → Bool

-- nowhere
abbrev pub nowhere : Stops
nowhere after start worker = false

-- some worker is stopped somewhere
abbrev pub StopsSomewhere : Stops → Type 0
StopsSomewhere stops = (after : Bool) × (start worker : ℕ) × (stops after start worker ≡ true)

-- a script was run with so many workers, which are stopped there: leases are lost only where some worker is stopped
-- somewhere, and after the first loss only the first worker starts nodes
pub record IsStoppedRunOf (stops : Stops) (workers : ℕ) (s : Scripted) (log out : List ℕ) : Type 0 where
  pub ran : IsRunOf workers s log out
  pub lost : list_any is_loss ran.history ≡ true → StopsSomewhere stops
  pub late : LosesLate ran.history

-- a script was run with so many workers, which are stopped there: this is the text of the history, and the line for so
-- many jobs that says how many of the replies tell a model, how many a refutation, and how many that the answer is unknown
pub record IsCountedRun (stops : Stops) (workers jobs : ℕ) (s : Scripted) (log out : List ℕ) : Type 0 where
  pub replies : List ℕ
  pub run : IsStoppedRunOf stops workers s log replies
  pub counted : out ≡ summary_line jobs (all_told s run.ran.history)

-- the lines of a claim's proof refute its formula under its assumptions
abbrev pub IsProved : Claim → Type 0
IsProved c = IsRefutation c.formula.clauses c.assumptions (bare c.lines)

-- the history of an account, with the revisions of its script, is legal and complete for it
abbrev pub IsSound : Account → Type 0
IsSound a = (events : List Event) × IsLegal a.history.workers a.script a.history.events events × IsComplete a.script events

-- the replies to an account, whose history is legal and complete for its script: the answers of each job are evidence
pub record AreReplies (a : Account) (text : List ℕ) : Type 0 where
  pub replied : IsReplied a.history.workers a.script a.history.events text
  pub evident : (k : Key) → IsEvident (own k replied.events)

-- the line tells which event of an account is the first that is not allowed, or that the history is not complete
abbrev pub TellsUnsound : Account → List ℕ → Type 0
TellsUnsound a line =
    ((n : ℕ) × IsRefusedAt a.history.workers a.script a.history.events (line_at a.history.lines) n × (line ≡ account_lines.history_line n (codes "NotLegal")))
    ⊎ (IsLacking a.history.workers a.script a.history.events × (line ≡ line_of (codes "fault:" ∷ codes "history" ∷ codes "NotComplete" ∷ [])))

-- a text is a claim whose proof is a refutation, so nothing satisfies its formula and its assumptions
pub record Verifies (text : List ℕ) : Type 0 where
  pub claim : Claim
  pub spelled : claim_texts.Spells text claim
  pub proved : IsProved claim
  pub unsatisfiable : IsUnsatisfiable claim.formula.clauses claim.assumptions

-- the grammars of inputs: scripts, claims, accounts, descriptions, formulas with soft literals, formulas with
-- assumptions, and feeds
abbrev pub scripts : Grammar Scripted (ℕ × LineFault)
scripts = record { Spells = Spells limits; read = read_text limits; line_of = λ e. fault_line e.0 e.1 }

abbrev pub claims : Grammar Claim claim.Fault
claims = record { Spells = claim_texts.Spells; read = claim.read_text; line_of = claim_lines.fault_line }

abbrev pub accounts : Grammar Account account.Fault
accounts = record { Spells = account_texts.Spells; read = account.read_text; line_of = account_lines.fault_line }

abbrev pub descriptions : Grammar Scripted JsonFault
descriptions = record { Spells = json_texts.Spells limits; read = json.read_text limits; line_of = json_lines.fault_line }

abbrev pub max_inputs : Grammar spec_max.Instance Fault
max_inputs = record { Spells = max_texts.Spells; read = max_reading.read_text; line_of = max_lines.fault_line }

abbrev pub core_inputs : Grammar spec_core.Instance Fault
core_inputs = record { Spells = core_texts.Spells; read = core_reading.read_text; line_of = core_lines.fault_line }

-- of a feed, which its grammar spells just where reading gives it
abbrev pub feeds : Grammar (List FeedPost) (ℕ × FeedFault)
feeds = record { Spells = λ text posts. feed.read_feed limits text ≡ Ok posts; read = feed.read_feed limits; line_of = λ e. feed_lines.fault_line e.0 e.1 }

-- the script that a description spells is written, and is read again from what is written
pub record IsWritten (s : Scripted) (log out : List ℕ) : Type 0 where
  pub silent : log ≡ []
  pub written : out ≡ spelling s
  pub again : read_text limits out ≡ Ok s

-- an optimum that a search finds for an instance is written, each question of which may spend so many slices
pub record IsOptimized (slices : ℕ) (w : spec_max.Instance) (log out : List ℕ) : Type 0 where
  pub optimum : spec_max.Optimum
  pub found : max.IsFound slices w optimum
  pub silent : log ≡ []
  pub written : out ≡ optimum_text optimum

-- so is what a search for a minimal core finds
pub record IsMinimized (slices : ℕ) (w : spec_core.Instance) (log out : List ℕ) : Type 0 where
  pub minimal : spec_core.Minimal
  pub found : core.IsFound slices w minimal
  pub silent : log ≡ []
  pub written : out ≡ minimal_text minimal

-- each job of a script that always asks for one worker gets in a cluster the replies of every run of the script in one
-- hall, where no start of it ran out of memory in either
abbrev pub SinglesAreAlike : Scripted → Cluster → Type 0
SinglesAreAlike s end =
    (others i : ℕ) (j : ScriptedJob) (history : List Event) (log out : List ℕ) → IsRun others s history log out → slice_get s.jobs i ≡ Some j → is_for_one j ≡ true
    → list_all is_fed (all_of (key_of_job j) end.halls end.moves) ≡ true → list_all is_fed (own (key_of_job j) history) ≡ true
    → moved_replies end j ≡ job_replies history j

-- a script was run in so many halls of so many workers, the jobs of which went on after each so many slices: these are
-- the texts of the histories, hall by hall, and of the replies
pub record IsClusterRunOf (halls workers every : ℕ) (s : Scripted) (log out : List ℕ) : Type 0 where
  pub rounds : List Cluster
  pub end : Cluster
  pub run : IsClusterRun halls workers every s rounds end log out
  pub singles : SinglesAreAlike s end

-- `run`: a script is run with so many workers, which are stopped there
abbrev pub running : Stops → ℕ → Command
running stops workers = reading run_form scripts (λ s log out. IsStoppedRunOf stops workers s log out)

-- `check`: the proof of a claim is a refutation
abbrev pub checking : Command
checking = judging check_form claims IsProved
    (λ c line. line ≡ claim_lines.verdict_line (verdict_of c.formula.clauses c.assumptions c.lines))
    (λ text log out. Verifies text × (log ≡ []) × (out ≡ claim_lines.verified_line))

-- `replay`: the history of an account is legal and complete for its script
abbrev pub replaying : Command
replaying = judging replay_form accounts IsSound TellsUnsound
    (λ text log out. (a : Account) × account_texts.Spells text a × AreReplies a out × (log ≡ []))

-- `gen`: the script of a seed is written
abbrev pub generating : ℕ → ℕ → Command
generating seed jobs = making gen_form (λ log out. (log ≡ []) × (out ≡ spelling (generated seed jobs)))

-- `gen` with workers: that script is run
abbrev pub running_generated : Stops → ℕ → ℕ → ℕ → Command
running_generated stops seed jobs workers = making gen_form (IsCountedRun stops workers jobs (generated seed jobs))

-- `json`: the script that a description spells is written
abbrev pub describing : Command
describing = reading json_form descriptions IsWritten

-- `cluster`: a script is run in so many halls, between which jobs move
abbrev pub clustering : ℕ → ℕ → ℕ → Command
clustering halls workers every = reading cluster_form scripts (IsClusterRunOf halls workers every)

-- `max`: the optimum of a formula with soft literals is found
abbrev pub optimizing : ℕ → Command
optimizing slices = reading max_form max_inputs (IsOptimized slices)

-- `core`: a minimal core of a formula and assumptions is found
abbrev pub minimizing : ℕ → Command
minimizing slices = reading core_form core_inputs (IsMinimized slices)

-- `serve`: what a feed posts is served as it comes
abbrev pub serving : ℕ → Command
serving workers = reading serve_form feeds (IsServing workers)

-- the command that is asked for, where workers are stopped there
abbrev pub command_of : Stops → Request → Command
command_of stops (Run workers) = running stops workers
command_of stops Check = checking
command_of stops Replay = replaying
command_of stops (Generate seed jobs) = generating seed jobs
command_of stops (RunGenerated seed jobs workers) = running_generated stops seed jobs workers
command_of stops Json = describing
command_of stops (request.Cluster halls workers every) = clustering halls workers every
command_of stops (Max slices) = optimizing slices
command_of stops (Core slices) = minimizing slices
command_of stops (Serve workers) = serving workers

-- whether a request reads an input
abbrev pub reads : Request → Bool
reads request = (command_of nowhere request).has_input

-- a request without an input
abbrev pub ReadsNothing : Request → Type 0
ReadsNothing request = reads request ≡ false
