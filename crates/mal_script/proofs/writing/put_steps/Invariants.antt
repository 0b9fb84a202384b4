use Rattle.std.proofs.Common.{◌≡◌, ◌++◌, flat_map, take}
use Rattle.spec_text.specs.Lines.{text_of}
use Rattle.spec_script.specs.Script.{step_rows}
use Rattle.mal_script.proofs.writing.put_steps.Given as goal

abbrev pub invariant-loop-step : goal.invariant-loop-step
invariant-loop-step l = l.out.items ≡ l.fn.out.items ++ flat_map (λ s. text_of (step_rows s)) (take l.step-index l.steps)
