-- The rules by which commands are served.
use Rattle.std.proofs.Common.{◌≡◌, ℕ, Bool, List, Ok, Err, subst, sym}
use Rattle.std.specs.Prelude.{Result}
use Rattle.mal_answer.proofs.Lawful.{are-lawful, has_input-is}
use Rattle.mal_answer.proofs.Serving.{answered, unanswered, done}
use Rattle.mal_answer.proofs.ScriptLemmas.{run-refused}
use Rattle.mal_answer.specs.Answers.{IsAnswer, IsAnswerTo, IsConcluded, IsInput, IsMissed, StayedCalm}
use Rattle.mal_answer.specs.Commands.{Stops, command_of, reads}
use Rattle.mal_answer.specs.Devices.{Device}
use Rattle.mal_answer.specs.Served.{HasDone}
use Rattle.mal_answer.specs.Requests.{Means}
use Rattle.mal_answer.specs.declared.answer.Complaint.{Complaint}
use Rattle.mal_answer.specs.declared.answer.Complaint.TheVariants as complaint
use Rattle.mal_answer.specs.declared.answer.Texts.{Texts}
use Rattle.mal_answer.specs.declared.words.request.Request.{Request}
use Rattle.mal_answer.proofs.Meanings.{one_meaning}

-- what a command answers to what it has read, or to a source that gave no text
pub answered-to : (stops : Stops) (r : Request) (source : Device) (text : List ℕ) (answer : Result Texts Complaint) → IsInput (reads r) source text → IsAnswerTo (command_of stops r) text answer → IsAnswer (command_of stops r) source answer
answered-to stops r source text answer g a = answered (command_of stops r) source text answer (subst (λ (b : Bool). IsInput b source text) (sym (has_input-is stops r)) g) a

pub unanswered-to : (stops : Stops) (r : Request) (source : Device) (e : Complaint) → IsMissed (reads r) source e → IsAnswer (command_of stops r) source (Err e)
unanswered-to stops r source e u = unanswered (command_of stops r) source e (subst (λ (b : Bool). IsMissed b source e) (sym (has_input-is stops r)) u)

-- a source that did not fail stayed calm, whatever is answered
pub stayed-calm : (source : Device) (answer : Result Texts Complaint) → source.faults_now ≡ source.faults → StayedCalm source answer
stayed-calm source (Ok texts) e = e
stayed-calm source (Err complaint.Unread) e = tt
stayed-calm source (Err complaint.TooLong) e = e
stayed-calm source (Err (complaint.Refused line)) e = e
stayed-calm source (Err (complaint.Denied line)) e = e
stayed-calm source (Err complaint.OutOfMemory) e = e

-- and a source stayed calm where another status than 4 is told
pub calm-told : (source log out : Device) (answer : Result Texts Complaint) (status : ℕ) → StayedCalm source answer → IsConcluded log out answer status → (status ≡ 4 → ⊥) → source.faults_now ≡ source.faults
calm-told source log out (Ok texts) status calm c other = calm
calm-told source log out (Err complaint.Unread) status calm c other = absurd (other c.0)
calm-told source log out (Err complaint.TooLong) status calm c other = calm
calm-told source log out (Err (complaint.Refused line)) status calm c other = calm
calm-told source log out (Err (complaint.Denied line)) status calm c other = calm
calm-told source log out (Err complaint.OutOfMemory) status calm c other = calm

pub ruleset answer_lemmas = (answered-to, unanswered-to, stayed-calm)

pub ruleset script_lemmas = (run-refused)

-- what a command answered was written, so what was asked for is done
pub request-done : (stops : Stops) (r : Request) (source log out : Device) (answer : Result Texts Complaint) (status : ℕ) → IsAnswer (command_of stops r) source answer → IsConcluded log out answer status → HasDone (command_of stops r) source log out status
request-done stops r source log out answer status a c = done (command_of stops r) (are-lawful stops r) source log out answer status a c

-- what is done for the one request of the words is done for each that they mean
pub done-for : (stops : Stops) (words : List (List ℕ)) (q r : Request) (source log out : Device) (status : ℕ) → Means words q → Means words r → HasDone (command_of stops q) source log out status → HasDone (command_of stops r) source log out status
done-for stops words q r source log out status m n done = subst (λ (x : Request). HasDone (command_of stops x) source log out status) (one_meaning words q r m n) done
