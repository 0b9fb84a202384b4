use Rattle.std.proofs.Common.{◌≡◌, true, sym, ◌∙◌}
use Rattle.std.specs.List.{list_all}
use Rattle.mal_feed.specs.Coming.{is_inside}
use Rattle.mal_feed.proofs.Pieces.{fails_long}
use Rattle.mal_feed.proofs.feeder.Feeder.keep.Goals as goal

pub returns-then-is_too_long-clause-fails : goal.returns-then-is_too_long-clause-fails
returns-then-is_too_long-clause-fails c =
    let inside : list_all is_inside c.args.self.now.tail ≡ true = rw (← c.self.view_is) c.self.invariant.0 in
    fails_long c.args.self.now c.args.front.now c.too_long.result inside c.requires (sym c.is_too_long.ensures ∙ c.if-is_too_long.true) c.too_long.ensures.fault
