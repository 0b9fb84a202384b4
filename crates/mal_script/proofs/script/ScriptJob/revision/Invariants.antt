use Rattle.mal_script.proofs.Counted.{IsSought}
use Rattle.mal_script.proofs.script.ScriptJob.revision.Given as goal

abbrev pub invariant-loop-step : goal.invariant-loop-step
invariant-loop-step l = IsSought l.self.steps l.at l.step-index l.left
