use Rattle.std.proofs.Common.{◌≡◌, ℕ, List, ◌∙◌, ap, subst}
use Rattle.spec_hall.specs.Driven.{GrowsByTurns}
use Rattle.spec_hall.specs.Events.{Event}
use Rattle.spec_hall.specs.States.{leases}
use Rattle.spec_run.specs.Complete.{script_events}
use Rattle.spec_run.proofs.CompleteLemmas.{grown-driven}
use Rattle.spec_run.proofs.HomeLemmas.{script-home}
use Rattle.spec_run.proofs.LossLemmas.{grown-loses-none, script-loses-none}
use Rattle.spec_script.specs.Script.{Scripted}
use Rattle.mal_pool.proofs.PoolLemmas.{has-run}
use Rattle.mal_pool.proofs.running.run_in.Goals as goal

pub drive_once-requires : goal.drive_once-requires
drive_once-requires c = record { home = ap (λ (h : List Event). leases h) c.in_ok-post_script.ensures.events ∙ script-home c.args.script.now }

pub returns : goal.returns
returns c =
    let s : Scripted = c.args.script.now in
    let before : c.post_script.new.hall.workers ≡ c.args.hall.now.workers = c.in_ok-post_script.ensures.workers in
    let workers = c.in_ok-drive_once.ensures.workers ∙ before in
    let counted : GrowsByTurns c.args.hall.now.workers c.post_script.new.hall.events c.drive_once.new.hall.events = subst (λ (w : ℕ). GrowsByTurns w c.post_script.new.hall.events c.drive_once.new.hall.events) before c.in_ok-drive_once.ensures.turns in
    let turns : GrowsByTurns c.args.hall.now.workers (script_events s) c.drive_once.new.hall.events = subst (λ (past : List Event). GrowsByTurns c.args.hall.now.workers past c.drive_once.new.hall.events) c.in_ok-post_script.ensures.events counted in
    record {
      workers = workers;
      run = has-run c.args.hall.now.workers s c.drive_once.new.hall workers c.history.ensures.legal turns c.in_ok-drive_once.ensures.answered c.in_ok-drive_once.ensures.home;
      sequential = grown-driven c.args.hall.now.workers s c.drive_once.new.hall.events turns c.in_ok-drive_once.ensures.answered;
      none_lost = grown-loses-none c.args.hall.now.workers (script_events s) c.drive_once.new.hall.events turns (script-loses-none s);
    }
