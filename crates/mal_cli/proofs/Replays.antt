-- What is refused of an account is told, and each text is of one kind.
use Rattle.std.proofs.Common.{◌≡◌, ℕ, List, inl, inr, refl, subst, Ok, Err, Result}
use Rattle.spec_text.specs.Faults.{Fails}
use Rattle.mal_account.specs.declared.fault.AccountFault.{AccountFault}
use Rattle.mal_account.specs.ReadResult.{fault_of}
use Rattle.mal_cli.specs.Accounts.{IsReplayText, IsUnsound, TellsFault, TellsReplay}
use Rattle.mal_answer.specs.Answers.{IsAnswerTo, NoLine}
use Rattle.mal_answer.specs.Command.{Refuses, Denies}
use Rattle.mal_answer.specs.Commands.{AreReplies, IsSound, TellsUnsound, accounts, replaying, nowhere}
use Rattle.mal_answer.specs.declared.answer.Complaint.{Complaint}
use Rattle.mal_answer.proofs.Complaints.{denied-as, read-once}
use Rattle.mal_answer.proofs.Lawful.{are-lawful, fault-answered}
use Rattle.mal_history.specs.Written.{line_at}
use Rattle.mal_answer.specs.declared.words.request.Request.TheVariants.{Replay}
use Rattle.mal_account.specs.Accounts.{Account, read_text}
use Rattle.mal_account.specs.Grammar.{Spells}
use Rattle.mal_account.proofs.ReadLemmas.{spelled-is-read}
use Rattle.mal_base.specs.declared.replay_fault.ReplayFault.{ReplayFault}
use Rattle.mal_base.specs.declared.replay_fault.ReplayFault.TheVariants.{NotLegal, NotComplete, OutOfMemory}
use Rattle.mal_replay.specs.Replaying as replay
use Rattle.spec_run.specs.Replayed.{IsReplay}
use Rattle.spec_run.proofs.ReplayLemmas.{replay-is_decided}
use Rattle.spec_run.specs.Run.{replies}

-- a text with a first fault is no account, and the line tells it
pub account-refused : (text : List ℕ) (e : AccountFault) (c : Complaint) → Fails (fault_of e) (read_text text) → TellsFault e c → IsAnswerTo replaying text (Err c)
account-refused text e c h k = fault-answered replaying accounts (are-lawful nowhere Replay) (λ text line told. told) text (fault_of e) c h k

-- an account with a fault is not sound
unsound : (a : Account) (fault : ReplayFault) → IsReplay a.history.workers a.script a.history.events (line_at a.history.lines) (Err fault) → (fault ≡ OutOfMemory → ⊥) → IsSound a → ⊥
unsound a fault is some sound = differ (replies a.script sound.0) fault
    (replay-is_decided a.history.workers a.script a.history.events (line_at a.history.lines) (Ok (replies a.script sound.0)) (Err fault)
    (record { events = sound.0; legal = sound.1; complete = sound.2; text_is = refl }) is (λ e. differ (replies a.script sound.0) OutOfMemory e) (λ e. some (inner fault OutOfMemory e)))
  where
    differ : (text : List ℕ) (fault : ReplayFault) → ◌≡◌ {A = Result (List ℕ) ReplayFault} (Ok text) (Err fault) → ⊥
    differ text fault e = cc

    inner : (x y : ReplayFault) → ◌≡◌ {A = Result (List ℕ) ReplayFault} (Err x) (Err y) → x ≡ y
    inner x y e = cc

unsound-told : (a : Account) (line : List ℕ) → TellsUnsound a line → IsSound a → ⊥
unsound-told a line (inl t) = unsound a (NotLegal t.0) t.1 (λ e. cc)
unsound-told a line (inr t) = unsound a NotComplete t.0 (λ e. cc)

-- why an account is not replayed is told
told-replay : (a : Account) (fault : ReplayFault) (line : List ℕ) → IsReplay a.history.workers a.script a.history.events (line_at a.history.lines) (Err fault) → IsReplayText fault line → TellsUnsound a line
told-replay a (NotLegal n) line is t = inl (n, is, t)
told-replay a NotComplete line is t = inr (is, t)
told-replay a OutOfMemory line is t = absurd t

pub replay-denied : (a : Account) (fault : ReplayFault) (c : Complaint) → IsReplay a.history.workers a.script a.history.events (line_at a.history.lines) (Err fault) → TellsReplay fault c → IsUnsound a c
replay-denied a fault c is t = denied-as (IsReplayText fault) NoLine (TellsUnsound a) (λ line k. told-replay a fault line is k) c t

-- the complaint about an account is that about its text
denied-line : (text line : List ℕ) (a : Account) → Spells text a → TellsUnsound a line → Denies replaying text line
denied-line text line a s h =
    let one = λ (b : Account) (t : Spells text b). read-once (read_text text) b a ((spelled-is-read text b).0 t) ((spelled-is-read text a).0 s) in
    record { inside = (a, s); unmet = λ m. unsound-told a line h (subst IsSound (one m.0 m.1) m.2); told = (a, s, h) }

pub denied-as-text : (text : List ℕ) (a : Account) (c : Complaint) → Spells text a → IsUnsound a c → IsAnswerTo replaying text (Err c)
denied-as-text text a c s h = denied-as (TellsUnsound a) (Refuses replaying text) (Denies replaying text) (λ line k. denied-line text line a s k) c h

-- what is replied is what an account's command answers
pub replayed-answers : (a : Account) (text : List ℕ) → replay.AreReplies a.history.workers a.script a.history.events text → AreReplies a text
replayed-answers a text h = record { replied = h.replied; evident = h.evident }

pub ruleset judge_lemmas = (replay-denied)

pub ruleset replay_lemmas = (account-refused, denied-as-text)
