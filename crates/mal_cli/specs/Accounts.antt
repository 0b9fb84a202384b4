-- The complaints about accounts.
use Rattle.std.specs.Prelude.{◌≡◌, ℕ, List, [], ◌∷◌, codes}
use Rattle.spec_text.specs.Faults.{TellsBy}
use Rattle.mal_account.specs.ReadResult.{fault_of}
use Rattle.mal_account.specs.declared.fault.AccountFault.{AccountFault}
use Rattle.mal_answer.specs.Answers.{Complains, NoLine}
use Rattle.mal_answer.specs.Commands.{TellsUnsound}
use Rattle.mal_answer.specs.declared.answer.Complaint.{Complaint}
use Rattle.mal_account.specs.Accounts.{Account}
use Rattle.mal_account.specs.FaultLines.{fault_line, history_line}
use Rattle.mal_base.specs.declared.replay_fault.ReplayFault.{ReplayFault}
use Rattle.mal_base.specs.declared.replay_fault.ReplayFault.TheVariants.{NotLegal, NotComplete, OutOfMemory}
use Rattle.spec_text.specs.Lines.{line_of}

-- the complaint tells the fault of a text, or memory ran out
abbrev pub TellsFault : AccountFault → Complaint → Type 0
TellsFault fault complaint = Complains (TellsBy fault_line (fault_of fault)) NoLine complaint

-- the text tells why a history is not replayed
abbrev pub IsReplayText : ReplayFault → List ℕ → Type 0
IsReplayText (NotLegal line) text = text ≡ history_line line (codes "NotLegal")
IsReplayText NotComplete text = text ≡ line_of (codes "fault:" ∷ codes "history" ∷ codes "NotComplete" ∷ [])
IsReplayText OutOfMemory text = ⊥

-- the complaint tells why a history is not replayed, or memory ran out
abbrev pub TellsReplay : ReplayFault → Complaint → Type 0
TellsReplay fault complaint = Complains NoLine (IsReplayText fault) complaint

-- why an account has no replies
abbrev pub IsUnsound : Account → Complaint → Type 0
IsUnsound a complaint = Complains NoLine (TellsUnsound a) complaint
