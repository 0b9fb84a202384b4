use Rattle.std.proofs.Common.{◌≡◌, List, [], ◌∷◌, ◌++◌, sym, ap, subst, ◌∙◌}
use Rattle.mal_base.specs.Limits.{limits}
use Rattle.spec_job.specs.KeyedJob.{Key}
use Rattle.spec_job.specs.SoloMachine.{Own}
use Rattle.spec_script.specs.Formed.{IsScript, MayAllFollow}
use Rattle.spec_script.specs.Script.{ScriptedJob}
use Rattle.spec_parcel.specs.Packed.{script_of, scripted}
use Rattle.mal_parcel.proofs.FormedLemmas.{script-formed}
use Rattle.mal_parcel.proofs.script.script_of.Goals as goal

pub of_form-requires : goal.of_form-requires
of_form-requires c =
    let k : Key = record { tenant = c.tenant-tenant.result; job = c.name-name.result } in
    let formed : IsScript limits (script_of k c.args.own.now) = script-formed k c.args.own.now c.as_bytes.ensures.form c.as_bytes-2.ensures.form c.requires in
    let one : c.in_ok-scripted.scripted ≡ scripted k c.args.own.now = c.in_ok-scripted.ensures ∙ ap (λ (es : List Own). scripted k es) c.as_slice-events.ensures in
    let same : c.push.new.self.items ≡ (script_of k c.args.own.now).jobs = c.in_ok-push.ensures.items ∙ (ap (λ (js : List ScriptedJob). js ++ c.in_ok-scripted.scripted ∷ []) c.new-jobs.ensures.items ∙ ap (λ (j : ScriptedJob). j ∷ []) one) in
    subst (λ (js : List ScriptedJob). MayAllFollow limits [] js) (sym same) formed
