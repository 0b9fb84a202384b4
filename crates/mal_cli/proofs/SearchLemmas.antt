-- What is written of what a search finds, and what is refused of its input.
use Rattle.std.proofs.Common.{◌≡◌, ℕ, List, [], Ok, Err, refl, sym, subst}
use Rattle.spec_text.specs.Faults.{Fails, TellsBy}
use Rattle.spec_core.specs.Core as spec_core
use Rattle.spec_max.specs.Optimum as spec_max
use Rattle.mal_instance.specs.Reading.{Fault}
use Rattle.mal_instance.specs.ReadResult.{fault_of}
use Rattle.mal_instance.specs.declared.fault.InputFault.{InputFault}
use Rattle.mal_core.specs.Found as core
use Rattle.mal_core.specs.Texts.{minimal_text}
use Rattle.mal_max.specs.Found as max
use Rattle.mal_max.specs.Texts.{optimum_text}
use Rattle.mal_answer.proofs.Lawful.{fault-answered, reading-lawful}
use Rattle.mal_answer.specs.Answers.{Complains, IsAnswerTo, NoLine, logged}
use Rattle.mal_answer.specs.Command.{Grammar, IsRead, reading}
use Rattle.mal_answer.specs.Commands.{IsMinimized, IsOptimized}
use Rattle.mal_answer.specs.Forms.{Form}
use Rattle.mal_answer.specs.declared.answer.Complaint.{Complaint}
use Rattle.mal_answer.specs.declared.answer.Texts.{Texts}

-- the text of what was found is what is given for the instance, and nothing for the log
pub optimum-written : (slices : ℕ) (w : spec_max.Instance) (o : spec_max.Optimum) (out : List ℕ) → max.IsFound slices w o → out ≡ optimum_text o → IsOptimized slices w [] out
optimum-written slices w o out found written = record { optimum = o; found = found; silent = refl; written = written }

pub minimal-written : (slices : ℕ) (w : spec_core.Instance) (m : spec_core.Minimal) (out : List ℕ) → core.IsFound slices w m → out ≡ minimal_text m → IsMinimized slices w [] out
minimal-written slices w m out found written = record { minimal = m; found = found; silent = refl; written = written }

-- and so for the text that spells it
pub search-answered : {V : Type 0} (form : Form) (inputs : Grammar V Fault) (Answers : V → List ℕ → List ℕ → Type 0) (text : List ℕ) (w : V) (t : Texts) → inputs.Spells text w → logged t.log.items ≡ [] → Answers w [] t.out.items → IsAnswerTo (reading form inputs Answers) text (Ok t)
search-answered form inputs Answers text w t spelled silent given = (w, spelled, subst (λ (log : List ℕ). Answers w log t.out.items) (sym silent) given)

-- a text with a first fault spells no instance, and the line tells it
pub search-refused : {V : Type 0} (form : Form) (inputs : Grammar V Fault) (Answers : V → List ℕ → List ℕ → Type 0) (text : List ℕ) (e : InputFault) (c : Complaint) → IsRead inputs → Fails (fault_of e) (inputs.read text) → Complains (TellsBy inputs.line_of (fault_of e)) NoLine c → IsAnswerTo (reading form inputs Answers) text (Err c)
search-refused form inputs Answers text e c law h k = fault-answered (reading form inputs Answers) inputs (reading-lawful form inputs Answers law) (λ text line told. told) text (fault_of e) c h k

pub ruleset found_lemmas = (optimum-written, minimal-written)

pub ruleset search_lemmas = (search-answered)
