use Rattle.std.proofs.Common.{ℕ, Bool, List, length, sym, ap, arith, ◌∙◌}
use Rattle.std.proofs.lemmas.Option.{none-some, same_Some}
use Rattle.mal_base.specs.NumberedClause.{Line}
use Rattle.spec_job.specs.Models.{variables_through}
use Rattle.mal_parcel.specs.Answered.{given_at}
use Rattle.mal_parcel.proofs.FollowsLemmas.{next-follows, next-given, next-told}
use Rattle.mal_parcel.proofs.TakeLemmas.{never-taken, some-taken}
use Rattle.mal_parcel.proofs.following.follow_next.Goals as goal

pub unreachable-requires : goal.unreachable-requires
unreachable-requires c =
    let told = c.in_ok-lines.ensures ∙ next-told c.args.index c.args.job.now c.args.slices.now c.args.answers.now c.requires c.written_is_read.ensures (omega arith) in
    never-taken _ c.in_ok-lines.field-0 _ told c.in_default.is

pub unreachable-requires-in_default-2 : goal.unreachable-requires-in_default-2
unreachable-requires-in_default-2 c =
    let i = c.args.index in
    let j = c.args.job.now in
    let told = some-taken _ c.in_ok-lines.field-0 _ _ (c.in_ok-lines.ensures ∙ next-told i j c.args.slices.now c.args.answers.now c.requires c.written_is_read.ensures (omega arith)) c.in-Some.is in
    let given = c.in_ok-answer.ensures ∙ (ap (λ (p : List Line × (Bool × List ℕ)). given_at p.1.0 (variables_through j.titled.state.revisions (length j.titled.state.answers)) c.args.answers.now) told ∙ next-given i j c.args.slices.now c.args.answers.now c.requires) in
    none-some _ (sym c.in_default-2.is ∙ given)

pub follow-requires : goal.follow-requires
follow-requires c =
    let i = c.args.index in
    let j = c.args.job.now in
    let told = some-taken _ c.in_ok-lines.field-0 _ _ (c.in_ok-lines.ensures ∙ next-told i j c.args.slices.now c.args.answers.now c.requires c.written_is_read.ensures (omega arith)) c.in-Some.is in
    let given = c.in_ok-answer.ensures ∙ (ap (λ (p : List Line × (Bool × List ℕ)). given_at p.1.0 (variables_through j.titled.state.revisions (length j.titled.state.answers)) c.args.answers.now) told ∙ next-given i j c.args.slices.now c.args.answers.now c.requires) in
    next-follows i j c.args.slices.now c.args.answers.now c.requires c.in-Some.lines.lines c.in-Some-2.answer (ap (λ (p : List Line × (Bool × List ℕ)). p.0) told) (same_Some _ _ (sym c.in-Some-2.is ∙ given))

pub returns-clause-slices : goal.returns-clause-slices
returns-clause-slices c b =
    let told = c.in_ok-lines.ensures ∙ next-told c.args.index c.args.job.now c.args.slices.now c.args.answers.now b c.written_is_read.ensures (omega arith) in
    ap (λ (p : List Line × (Bool × List ℕ)). p.1.1) (some-taken _ c.in_ok-lines.field-0 _ _ told c.in-Some.is)
