-- A run's own history replays to its output.
use Rattle.std.proofs.Common.{ℕ, List, ◌++◌, map, codes, refl, sym, subst}
use Rattle.mal_answer.specs.Commands.{AreReplies}
use Rattle.mal_answer.specs.Laws.{RunReplays}
use Rattle.mal_history.specs.Formed.{IsHistory, written_read}
use Rattle.mal_history.specs.Text.{history_text}
use Rattle.mal_account.specs.Accounts.{Account}
use Rattle.mal_account.specs.Grammar.{Spells}
use Rattle.mal_account.proofs.AgainLemmas.{written-is-read}
use Rattle.mal_account.proofs.ReadLemmas.{spelled-is-read}
use Rattle.spec_hall.specs.Events.{bare}
use Rattle.spec_run.proofs.Evidence.{evident_by_law}
use Rattle.spec_run.proofs.RunLemmas.{run-is_formed, run-is_replied}
use Rattle.spec_script.specs.Script.{spelling}

pub run-replays : RunReplays
run-replays workers s log out run formed some bound few =
    let within : IsHistory workers (map bare run.history) = run-is_formed workers s run.history log out some bound run.run few in
    let a : Account = record { script = s; history = written_read workers (map bare run.history) } in
    let spelled : Spells (spelling s ++ (codes "history\n" ++ history_text workers (map bare run.history))) a =
    (spelled-is-read (spelling s ++ (codes "history\n" ++ history_text workers (map bare run.history))) a).1 (written-is-read s workers (map bare run.history) formed within) in
    let told = run-is_replied workers s run.history log out formed run.run in
    let replied : AreReplies a out = record { replied = told; evident = evident_by_law workers told.events told.legal.legal } in
    (a, subst (λ (text : List ℕ). Spells (spelling s ++ (codes "history\n" ++ text)) a) (sym run.run.log_text) spelled, replied, refl)
