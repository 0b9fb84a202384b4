use Rattle.std.proofs.Common.{List, drop, length, ap, ◌∙◌}
use Rattle.std.specs.Prelude.{flat_map}
use Rattle.mal_base.specs.declared.answer.Answer.{Answer}
use Rattle.spec_parcel.specs.Packed.{answer_bytes}
use Rattle.mal_parcel.specs.Owned.{own_of}
use Rattle.mal_parcel.proofs.ReplayedLemmas.{and-replayed}
use Rattle.mal_parcel.proofs.following.again.Goals as goal

pub returns : goal.returns
returns c b =
    and-replayed (own_of c.args.event.now) c.args.job.now c.args.slices.now c.args.answers.now b c.enter.new.job c.in_ok-slices.slices.now c.behind_new-answers.result.now c.in_ok-slices.ensures.job (c.in_ok-slices.ensures.slices b)
    (c.behind_new-answers.ensures ∙ ap (λ (known : List Answer). drop (length (flat_map answer_bytes (drop (length known) c.enter.new.job.titled.state.answers))) c.args.answers.now) c.answers-known.ensures.value)
