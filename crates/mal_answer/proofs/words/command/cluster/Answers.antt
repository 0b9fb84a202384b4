use Rattle.std.proofs.Common.{◌≡◌, ◌∙◌, codes, true, ap₂}
use Rattle.std.proofs.lemmas.Result.{IfOk-weaker}
use Rattle.clap.specs.Words.{app_of, with_rule}
use Rattle.mal_answer.specs.CommandLine.{bare_app, option_rule}
use Rattle.mal_answer.proofs.words.command.cluster.Goals as goal

pub returns-clause-app : goal.returns-clause-app
returns-clause-app c =
    let one : app_of c.in_ok-arg.field-0 ≡ with_rule (bare_app (codes "cluster")) (option_rule (codes "halls") true) =
    c.in_ok-arg.ensures.shape c.option.ensures.local ∙ ap₂ with_rule c.bare.ensures.app c.option.ensures.rule in
    let two : app_of c.in_ok-arg-2.field-0 ≡ with_rule (with_rule (bare_app (codes "cluster")) (option_rule (codes "halls") true)) (option_rule (codes "workers") true) =
    c.in_ok-arg-2.ensures.shape c.option-2.ensures.local ∙ ap₂ with_rule one c.option-2.ensures.rule in
    IfOk-weaker c.arg-3.result _ _ (λ r h. h.shape c.option-3.ensures.local ∙ ap₂ with_rule two c.option-3.ensures.rule) c.arg-3.ensures
