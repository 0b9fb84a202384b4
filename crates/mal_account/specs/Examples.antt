-- What small texts say.
use Rattle.std.specs.Prelude.{◌≡◌, ℕ, List, [], ◌++◌, ◌∷◌, codes, Ok, Err}
use Rattle.mal_history.specs.declared.event.Event.TheVariants.{Close}
use Rattle.mal_history.specs.Reading as history
use Rattle.mal_base.specs.declared.line_fault.LineFault.TheVariants.{BadLine, Range}
use Rattle.spec_script.specs.Examples.{job_with}
use Rattle.mal_account.specs.Accounts.{read_text}
use Rattle.mal_account.specs.Accounts.Fault.{NoHistory, InScript, InHistory}
use Rattle.mal_account.specs.FaultLines.{fault_line}

-- a script of one job without revisions
abbrev pub one_job : List ℕ
one_job = codes "t a\nj p 1 1 4\ne\n"

pub record HasExamples : Type 0 where
  pub read : read_text (one_job ++ codes "history\nh mal 1 2\nc a p\n") ≡ Ok (record { script = job_with []; history = record { workers = 2; events = Close (codes "a") (codes "p") ∷ []; lines = 2 ∷ [] } })
  pub nothing_more : read_text (codes " history\t\r\nh mal 1 1") ≡ Ok (record { script = record { jobs = [] }; history = record { workers = 1; events = []; lines = [] } })
  pub no_history : read_text (one_job ++ codes "history of a run\n") ≡ Err NoHistory
  pub no_history_first : read_text (codes "x\n") ≡ Err NoHistory
  pub script_before_history : read_text (codes "t a\nj p 0 1 4\ne\nhistory\nx\n") ≡ Err (InScript 2 Range)
  pub script_cut_short : read_text (codes "t a\nj p 1 1 4\nhistory\nh mal 1 1\n") ≡ Err (InScript 2 BadLine)
  pub history_numbered_anew : read_text (one_job ++ codes "history\nh mal 1 0\n") ≡ Err (InHistory 1 history.Fault.BadNumber)
  pub second_line_history : read_text (one_job ++ codes "history\nh mal 1 1\nhistory\n") ≡ Err (InHistory 2 history.Fault.BadLine)
  pub empty_history : read_text (one_job ++ codes "history") ≡ Err (InHistory 1 history.Fault.BadLine)
  pub no_history_told : fault_line NoHistory ≡ codes "fault: no history\n"
