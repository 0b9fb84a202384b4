use Rattle.std.proofs.Common.{length, refl, ◌∙◌, arith}
use Rattle.std.proofs.lemmas.Option.{slice_get_read}
use Rattle.mal_hall.proofs.TellingLemmas.{told-all, told-more}
use Rattle.mal_hall.proofs.telling.own_among.Goals as goal

pub loop-at-preserved : goal.loop-at-preserved
loop-at-preserved c =
    let there = slice_get_read c.args.events.now (length c.args.events.now) c.loop-at.at _ refl (omega arith) c.index-events-at.is in
    told-more c.args.key.now c.args.events.now c.args.contents.now c.loop-at.at _ _ c.loop-at.told c.step.new.self c.requires there c.content_at.ensures c.loop-at.invariant c.in_ok-step.ensures

pub returns : goal.returns
returns c = c.into_own.ensures ∙ (c.loop-at.invariant ∙ told-all c.args.key.now c.args.events.now c.args.contents.now c.loop-at.at c.requires (omega arith))
