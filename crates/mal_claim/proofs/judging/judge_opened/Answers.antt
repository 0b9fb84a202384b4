use Rattle.std.proofs.Common.{◌∙◌, length, ap}
use Rattle.mal_check.specs.Checked.{held}
use Rattle.mal_claim.specs.ReadResult.{opened_seen}
use Rattle.mal_claim.proofs.JudgedLemmas.{checker-judged}
use Rattle.mal_claim.proofs.judging.judge_opened.Goals as goal

pub returns : goal.returns
returns c =
    checker-judged (opened_seen c.args.opened.now) (held c.in_ok-checker.checker) c.in_ok-checker.checker.added c.as_slice.result.now c.len-last.result c.check_rows.result c.in_ok-checker.ensures.held c.in_ok-checker.ensures.added c.as_slice.ensures.value (c.len-last.ensures ∙ ap length c.clauses.ensures.value) c.check_rows.ensures
