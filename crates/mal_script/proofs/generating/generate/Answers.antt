use Rattle.std.proofs.Common.{◌≡◌, ◌+◌, sym, subst, arith}
use Rattle.spec_script.specs.Generated.{jobs_from}
use Rattle.spec_script.proofs.GeneratedSteps.{jobs-end}
use Rattle.spec_script.specs.Formed.{IsScript}
use Rattle.mal_base.specs.Limits.{limits}
use Rattle.spec_script.specs.Script.{Scripted}
use Rattle.mal_script.proofs.GenerateSteps.{made-formed}
use Rattle.mal_script.proofs.generating.generate.Goals as goal

pub of_form-requires : goal.of_form-requires
of_form-requires c =
    let value : c.loop-number.made.items ≡ jobs_from c.args.jobs 1 c.args.seed =
    jobs-end _ _ (c.args.jobs + 1) c.loop-number.number c.loop-number.draws (omega (arith, c.loop-number-test.false)) c.loop-number.invariant in
    made-formed c.args.seed c.args.jobs c.loop-number.made.items value c.requires.seed c.requires.some c.requires.bound

pub returns-clause-formed : goal.returns-clause-formed
returns-clause-formed c =
    let value : c.loop-number.made.items ≡ jobs_from c.args.jobs 1 c.args.seed =
    jobs-end _ _ (c.args.jobs + 1) c.loop-number.number c.loop-number.draws (omega (arith, c.loop-number-test.false)) c.loop-number.invariant in
    subst (λ (s : Scripted). IsScript limits s) (sym c.of_form.ensures) (made-formed c.args.seed c.args.jobs c.loop-number.made.items value c.requires.seed c.requires.some c.requires.bound)
