-- What is known of every command, by its kind.
use Rattle.std.proofs.Common.{◌≡◌, ℕ, List, true≢false, Err, refl}
use Rattle.std.specs.Prelude.{Option}
use Rattle.mal_account.proofs.ReadLemmas.{spelled-is-read as account-read}
use Rattle.mal_claim.proofs.ReadLemmas.{spelled-is-read as claim-read}
use Rattle.mal_core.proofs.InputLemmas.{spelled_read as core-read}
use Rattle.mal_max.proofs.InputLemmas.{spelled_read as max-read}
use Rattle.spec_json.proofs.Reading.{spelled-is-read as json-read}
use Rattle.spec_script.proofs.Reading.{spelled-read as script-read}
use Rattle.mal_base.specs.Limits.{limits}
use Rattle.spec_text.specs.Faults.{Fails, TellsBy}
use Rattle.mal_answer.specs.Answers.{Complains, IsAnswerTo, NoLine}
use Rattle.mal_answer.specs.Command.{Command, Denies, Grammar, IsLawful, IsRead, Refuses, TellsFaultOf, judging, making, reading}
use Rattle.mal_answer.specs.Commands.{Stops, accounts, claims, command_of, core_inputs, descriptions, feeds, max_inputs, reads, scripts}
use Rattle.mal_answer.specs.Laws.{AreLawful, HaveOwnWords}
use Rattle.mal_answer.specs.declared.answer.Complaint.{Complaint}
use Rattle.mal_answer.proofs.Meanings.{check-words, cluster-words, core-words, gen-words, gen_run-words, json-words, max-words, replay-words, run-words, serve-words}
use Rattle.mal_answer.specs.Forms.{Form}
use Rattle.mal_answer.specs.declared.words.request.Request.{Request}
use Rattle.mal_answer.specs.declared.words.request.Request.TheVariants.{Run, Check, Replay, Generate, RunGenerated, Json, Cluster, Max, Core, Serve}
use Rattle.mal_answer.proofs.Complaints.{fault-refused, read-faulty}

-- a text with a fault spells nothing
faulty : {V E : Type 0} (g : Grammar V E) → IsRead g → (text line : List ℕ) → TellsFaultOf g text line → (v : V) × g.Spells text v → ⊥
faulty g law text line told is = read-faulty (g.read text) is.0 told.0 (law text is.0 is.1) told.1

pub reading-lawful : {V E : Type 0} (words : Form) (g : Grammar V E) (Answers : V → List ℕ → List ℕ → Type 0) → IsRead g → IsLawful (reading words g Answers)
reading-lawful words g Answers law = record {
  meets = λ text log out a. (a.0, a.1);
  inside = λ text m. m;
  outside = λ text line told is. faulty g law text line told is;
  made = λ e. absurd (true≢false e);
}

pub judging-lawful : {V E : Type 0} (words : Form) (g : Grammar V E) (IsRight : V → Type 0) (TellsWrong : V → List ℕ → Type 0) (Gives : List ℕ → List ℕ → List ℕ → Type 0) → IsRead g → ((text log out : List ℕ) → Gives text log out → (v : V) × g.Spells text v × IsRight v) → IsLawful (judging words g IsRight TellsWrong Gives)
judging-lawful words g IsRight TellsWrong Gives law right = record {
  meets = right;
  inside = λ text m. (m.0, m.1);
  outside = λ text line told is. faulty g law text line told is;
  made = λ e. absurd (true≢false e);
}

pub making-lawful : (words : Form) (Answers : List ℕ → List ℕ → Type 0) → IsLawful (making words Answers)
making-lawful words Answers = record {
  meets = λ text log out a. tt;
  inside = λ text m. tt;
  outside = λ text line told is. told;
  made = λ e. tt;
}

-- what texts spell is what reading them gives
pub scripts-read : IsRead scripts
scripts-read text s is = script-read limits text s is

pub claims-read : IsRead claims
claims-read text c is = (claim-read text c).0 is

pub accounts-read : IsRead accounts
accounts-read text a is = (account-read text a).0 is

pub descriptions-read : IsRead descriptions
descriptions-read text s is = (json-read limits text s).0 is

pub max_inputs-read : IsRead max_inputs
max_inputs-read text w is = (max-read text w).0 is

pub core_inputs-read : IsRead core_inputs
core_inputs-read text w is = (core-read text w).0 is

pub feeds-read : IsRead feeds
feeds-read text posts is = is

-- so it is for each command of the program
pub are-lawful : AreLawful
are-lawful stops (Run workers) = reading-lawful _ _ _ scripts-read
are-lawful stops Check = judging-lawful _ _ _ _ _ claims-read (λ text log out g. (g.0.claim, g.0.spelled, g.0.proved))
are-lawful stops Replay = judging-lawful _ _ _ _ _ accounts-read (λ text log out g. (g.0, g.1, (g.2.replied.events, g.2.replied.legal, g.2.replied.complete)))
are-lawful stops (Generate seed jobs) = making-lawful _ _
are-lawful stops (RunGenerated seed jobs workers) = making-lawful _ _
are-lawful stops Json = reading-lawful _ _ _ descriptions-read
are-lawful stops (Cluster halls workers every) = reading-lawful _ _ _ scripts-read
are-lawful stops (Max slices) = reading-lawful _ _ _ max_inputs-read
are-lawful stops (Core slices) = reading-lawful _ _ _ core_inputs-read
are-lawful stops (Serve workers) = reading-lawful _ _ _ feeds-read

pub have-own_words : HaveOwnWords
have-own_words stops (Run workers) = run-words workers
have-own_words stops Check = check-words
have-own_words stops Replay = replay-words
have-own_words stops (Generate seed jobs) = gen-words seed jobs
have-own_words stops (RunGenerated seed jobs workers) = gen_run-words seed jobs workers
have-own_words stops Json = json-words
have-own_words stops (Cluster halls workers every) = cluster-words halls workers every
have-own_words stops (Max slices) = max-words slices
have-own_words stops (Core slices) = core-words slices
have-own_words stops (Serve workers) = serve-words workers

-- wherever workers are stopped, a request reads an input or none
pub has_input-is : (stops : Stops) (r : Request) → (command_of stops r).has_input ≡ reads r
has_input-is stops (Run workers) = refl
has_input-is stops Check = refl
has_input-is stops Replay = refl
has_input-is stops (Generate seed jobs) = refl
has_input-is stops (RunGenerated seed jobs workers) = refl
has_input-is stops Json = refl
has_input-is stops (Cluster halls workers every) = refl
has_input-is stops (Max slices) = refl
has_input-is stops (Core slices) = refl
has_input-is stops (Serve workers) = refl

-- a line that tells the first fault of a text refuses it
pub refuses : (c : Command) → IsLawful c → (text line : List ℕ) → c.TellsFirst text line → Refuses c text line
refuses c law text line told = record { outside = law.outside text line told; told = told }

-- a command answers to a text with a fault by telling it
pub fault-answered : {V E : Type 0} (c : Command) (g : Grammar V E) → IsLawful c → ((text line : List ℕ) → TellsFaultOf g text line → c.TellsFirst text line) → (text : List ℕ) (fault : Option E) (e : Complaint) → Fails fault (g.read text) → Complains (TellsBy g.line_of fault) NoLine e → IsAnswerTo c text (Err e)
fault-answered c g law tells text fault e h k =
    fault-refused g.line_of (g.read text) (Refuses c text) (Denies c text) (λ line f r t. refuses c law text line (tells text line (f, r, t))) fault e h k
