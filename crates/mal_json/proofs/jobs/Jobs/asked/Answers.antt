use Rattle.std.proofs.Common.{◌≡◌, ℕ, List, Option, Some, Result, sym, ap, ap₂, ◌∙◌, subst}
use Rattle.mal_base.specs.Asks.{Terms}
use Rattle.mal_base.specs.Limits.{limits}
use Rattle.serde_json.specs.View.{view}
use Rattle.spec_script.specs.Script.{ScriptedJob}
use Rattle.spec_json.specs.Numbers.{ask_in}
use Rattle.spec_json.specs.Reading.{admitted, asked}
use Rattle.spec_json.specs.declared.fault.JsonFault.{JsonFault}
use Rattle.mal_json.specs.ReadResult.{Gives}
use Rattle.mal_json.proofs.jobs.Jobs.asked.Goals as goal

pub returns-in-Some : goal.returns-in-Some
returns-in-Some c =
    let own : ask_in (view c.args.value.now) ≡ Some c.in-Some.ask = sym c.ask.ensures ∙ c.in-Some.is in
    subst (λ (read : Result (List ScriptedJob) JsonFault). Gives (λ j. j) c.admitted.result read)
    (ap₂ (λ (t n : List ℕ). admitted limits c.args.self t n (view c.args.value.now) c.in-Some.ask) c.requires.tenant c.requires.name
    ∙ sym (ap (λ (o : Option Terms). asked limits c.args.self (view c.args.value.now) o) own))
    c.admitted.ensures
