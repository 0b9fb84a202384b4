use Rattle.std.proofs.Common.{◌∙◌, map, string_bytes, subst, sym}
use Rattle.std.specs.Prelude.{IfSome, Option}
use Rattle.std.proofs.lemmas.Result.{IfOk-weaker}
use Rattle.clap.specs.Words.{app_of}
use Rattle.mal_answer.specs.Found.{IsMeaning}
use Rattle.mal_answer.specs.Requests.{IsRequest}
use Rattle.mal_answer.specs.declared.words.request.Request.{Request}
use Rattle.mal_answer.proofs.Meanings.{found-of, means-request, refused-of}
use Rattle.mal_answer.proofs.words.reading.request_of.Goals as goal

pub returns-in-Ok-clause-meaning : goal.returns-in-Ok-clause-meaning
returns-in-Ok-clause-meaning c = found-of (app_of c.in_ok-command.command) _ _ _ c.in_ok-command.ensures c.request_in.ensures (λ simple. (c.in-Ok.ensures.matches simple).1) c.in-Ok.ensures.kinds

pub returns-in-Ok-clause-range : goal.returns-in-Ok-clause-range
returns-in-Ok-clause-range c = means-request _ c.request_in.result (returns-in-Ok-clause-meaning c)

pub returns-in-Err-clause-meaning : goal.returns-in-Err-clause-meaning
returns-in-Err-clause-meaning c =
    let words = map string_bytes c.args.words.now in
    IfOk-weaker c.refused.result _ _ (λ o none. subst (λ (x : Option Request). IsMeaning x words) (sym none.0) (refused-of (app_of c.in_ok-command.command) words c.in-Err.error c.in_ok-command.ensures c.in-Err.ensures.kinds (λ e. none.1 (c.kind.ensures ∙ e)))) c.refused.ensures.nothing

pub returns-in-Err-clause-range : goal.returns-in-Err-clause-range
returns-in-Err-clause-range c = IfOk-weaker c.refused.result _ _ (λ o none. subst (λ (x : Option Request). IfSome x (λ r. IsRequest r)) (sym none.0) tt) c.refused.ensures.nothing
