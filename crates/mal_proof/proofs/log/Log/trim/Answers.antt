use Rattle.std.proofs.Common.{◌≡◌, ◌∙◌, ap, nat_le}
use Rattle.spec_proof.specs.Trimmed.{by_id}
use Rattle.mal_proof.specs.Goals.{up_to}
use Rattle.mal_proof.proofs.Bounding.{apart-passing, bounded-trimmed}
use Rattle.mal_proof.proofs.Trimming.{reached-result, reached-is_trimmed, last-result}
use Rattle.mal_proof.proofs.log.Log.trim.Goals as goal

pub sort-requires : goal.sort-requires
sort-requires c = rw c.in_ok-lines.ensures.lines (apart-passing (λ l. nat_le l.id c.args.goal) c.args.self.now.lines c.in_ok-lines.ensures.orderly.apart)

pub trimmed-requires : goal.trimmed-requires
trimmed-requires c =
    let same : c.as_slice.result.now ≡ by_id (up_to c.args.goal c.args.self.now.lines) = c.as_slice.ensures.value ∙ (c.sort.ensures ∙ ap by_id c.in_ok-lines.ensures.lines) in
    rw same (bounded-trimmed c.args.goal c.args.self.now.lines c.in_ok-lines.ensures.orderly)

pub returns-clause-reached : goal.returns-clause-reached
returns-clause-reached c =
    let same : c.as_slice.result.now ≡ by_id (up_to c.args.goal c.args.self.now.lines) = c.as_slice.ensures.value ∙ (c.sort.ensures ∙ ap by_id c.in_ok-lines.ensures.lines) in
    reached-result c.trimmed.result c.args.goal c.args.self.now.lines c.as_slice.result.now c.in_ok-lines.ensures.orderly same c.trimmed.ensures

pub returns-clause-trimmed : goal.returns-clause-trimmed
returns-clause-trimmed c =
    let same : c.as_slice.result.now ≡ by_id (up_to c.args.goal c.args.self.now.lines) = c.as_slice.ensures.value ∙ (c.sort.ensures ∙ ap by_id c.in_ok-lines.ensures.lines) in
    let lines = c.args.self.now.lines in
    reached-is_trimmed c.trimmed.result c.args.goal lines c.in_ok-lines.ensures.orderly (reached-result c.trimmed.result c.args.goal lines c.as_slice.result.now c.in_ok-lines.ensures.orderly same c.trimmed.ensures)

pub returns-clause-goal : goal.returns-clause-goal
returns-clause-goal c =
    let same : c.as_slice.result.now ≡ by_id (up_to c.args.goal c.args.self.now.lines) = c.as_slice.ensures.value ∙ (c.sort.ensures ∙ ap by_id c.in_ok-lines.ensures.lines) in
    let lines = c.args.self.now.lines in
    last-result c.trimmed.result c.args.goal lines c.in_ok-lines.ensures.orderly (reached-result c.trimmed.result c.args.goal lines c.as_slice.result.now c.in_ok-lines.ensures.orderly same c.trimmed.ensures)
