-- What is written of a description, and what is refused of one.
use Rattle.std.proofs.Common.{◌≡◌, ◌≢◌, ℕ, List, [], Ok, Err, ◌∙◌, ap}
use Rattle.spec_json.specs.Grammar.{Spells}
use Rattle.spec_json.specs.Reading as json
use Rattle.spec_json.specs.FaultLines.{fault_line}
use Rattle.spec_json.specs.declared.fault.JsonFault.{JsonFault}
use Rattle.spec_json.specs.declared.fault.JsonFault.TheVariants.{NotJson, Shape, Range, Duplicate, VarTooLarge, Opposite, Limit, OutOfMemory}
use Rattle.mal_base.specs.Limits.{limits}
use Rattle.spec_script.specs.Reading.{read_text}
use Rattle.spec_script.specs.Script.{Scripted, spelling}
use Rattle.mal_json.specs.ReadResult.{Tells}
use Rattle.mal_answer.specs.Answers.{IsAnswerTo, TellsDescriptionFault, logged}
use Rattle.mal_answer.specs.Command.{Refuses, Denies}
use Rattle.mal_answer.specs.Commands.{describing, nowhere}
use Rattle.mal_answer.specs.declared.answer.Complaint.{Complaint}
use Rattle.mal_answer.specs.declared.answer.Texts.{Texts}
use Rattle.mal_answer.proofs.Complaints.{refused-as}
use Rattle.mal_answer.proofs.Lawful.{are-lawful, refuses}
use Rattle.mal_answer.specs.declared.words.request.Request.TheVariants.{Json}

-- the text of the script that a description spells is what `json` gives for it
pub described : (text : List ℕ) (s : Scripted) (t : Texts) → Spells limits text s → read_text limits (spelling s) ≡ Ok s → logged t.log.items ≡ [] → t.out.items ≡ spelling s → IsAnswerTo describing text (Ok t)
described text s t spelled again silent written = (s, spelled, record { silent = silent; written = written; again = ap (read_text limits) written ∙ again })

-- a line that tells the fault of reading tells the first one
first : (text line : List ℕ) (e : JsonFault) → json.read_text limits text ≡ Err e → line ≡ fault_line e → Refuses describing text line
first text line e h t = refuses describing (are-lawful nowhere Json) text line (e, h, t)

told : (text line : List ℕ) (e : JsonFault) → (e ≢ OutOfMemory → json.read_text limits text ≡ Err e) → Tells e line → Refuses describing text line
told text line NotJson h t = first text line NotJson (h (λ q. cc)) t
told text line (Shape job) h t = first text line (Shape job) (h (λ q. cc)) t
told text line (Range job) h t = first text line (Range job) (h (λ q. cc)) t
told text line (Duplicate job) h t = first text line (Duplicate job) (h (λ q. cc)) t
told text line (VarTooLarge job) h t = first text line (VarTooLarge job) (h (λ q. cc)) t
told text line (Opposite job var) h t = first text line (Opposite job var) (h (λ q. cc)) t
told text line (Limit job which) h t = first text line (Limit job which) (h (λ q. cc)) t
told text line OutOfMemory h t = absurd t

-- what is refused is told
pub description-refused : (text : List ℕ) (e : JsonFault) (c : Complaint) → (e ≢ OutOfMemory → json.read_text limits text ≡ Err e) → TellsDescriptionFault e c → IsAnswerTo describing text (Err c)
description-refused text e c h k = refused-as (Tells e) (Refuses describing text) (Denies describing text) (λ line t. told text line e h t) c k

pub ruleset description_lemmas = (described, description-refused)
