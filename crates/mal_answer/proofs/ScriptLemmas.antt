-- What is refused of a script is told.
use Rattle.std.proofs.Common.{◌≡◌, ℕ, List, Err}
use Rattle.mal_base.specs.declared.line_fault.LineFault.{LineFault}
use Rattle.spec_script.specs.FaultLines.{fault_line}
use Rattle.mal_base.specs.Limits.{limits}
use Rattle.spec_script.specs.Reading.{read_text}
use Rattle.mal_script.specs.declared.fault.ScriptFault.{ScriptFault}
use Rattle.mal_script.specs.declared.fault.ScriptFault.TheVariants as script
use Rattle.mal_script.specs.ReadResult.{FailsAt, Tells}
use Rattle.mal_answer.specs.Answers.{IsAnswerTo, IsScriptRefusal, NoLine, TellsScriptFault}
use Rattle.mal_answer.specs.Command.{Refuses, Denies}
use Rattle.mal_answer.specs.Commands.{Stops, clustering, nowhere, running}
use Rattle.mal_answer.specs.declared.answer.Complaint.{Complaint}
use Rattle.mal_answer.proofs.Complaints.{refused-as}
use Rattle.mal_answer.proofs.Lawful.{are-lawful, refuses}
use Rattle.mal_answer.specs.declared.words.request.Request.TheVariants.{Run}

-- a text that has a first fault spells no script, and a line that tells the fault of reading tells the first one
told : (text line : List ℕ) (n : ℕ) (fault : LineFault) → read_text limits text ≡ Err (n, fault) → line ≡ fault_line n fault → Refuses (running nowhere 1) text line
told text line n fault e f = refuses (running nowhere 1) (are-lawful nowhere (Run 1)) text line ((n, fault), e, f)

pub told-first : (text line : List ℕ) (e : ScriptFault) → FailsAt e (read_text limits text) → Tells e line → Refuses (running nowhere 1) text line
told-first text line (script.Line n fault) h k = told text line n fault h k
told-first text line script.OutOfMemory h k = absurd k

-- what is refused is told
pub script-refused : (text : List ℕ) (e : ScriptFault) (c : Complaint) → FailsAt e (read_text limits text) → TellsScriptFault e c → IsScriptRefusal text c
script-refused text e c h k = refused-as (Tells e) (Refuses (running nowhere 1) text) NoLine (λ line t. told-first text line e h t) c k

-- so is a run of it
pub run-refused : (stops : Stops) (workers : ℕ) (text : List ℕ) (c : Complaint) → IsScriptRefusal text c → IsAnswerTo (running stops workers) text (Err c)
run-refused stops workers text c h = refused-as (Refuses (running nowhere 1) text) (Refuses (running stops workers) text) (Denies (running stops workers) text) (λ line r. record { outside = r.outside; told = r.told }) c h

-- and a run of it in a cluster
pub cluster-refused : (halls workers every : ℕ) (text : List ℕ) (c : Complaint) → IsScriptRefusal text c → IsAnswerTo (clustering halls workers every) text (Err c)
cluster-refused halls workers every text c h =
    refused-as (Refuses (running nowhere 1) text) (Refuses (clustering halls workers every) text) (Denies (clustering halls workers every) text) (λ line r. record { outside = r.outside; told = r.told }) c h

pub ruleset script_lemmas = (script-refused, run-refused)
