use Rattle.std.proofs.Common.{◌≡◌, ◌<◌, true, length, arith}
use Rattle.std.specs.List.{list_all}
use Rattle.mal_feed.specs.Coming.{is_inside}
use Rattle.mal_feed.proofs.Pieces.{flushed, flushed_fails}
use Rattle.mal_feed.proofs.feeder.Feeder.flush.Goals as goal

pub returns-clause-goes : goal.returns-clause-goes
returns-clause-goes c =
    let inside : list_all is_inside c.args.self.now.tail ≡ true = rw (← c.self.view_is) c.self.invariant.0 in
    let some : 0 < length c.self.inside.tail.items = grind arith in
    let kept : 0 < length c.args.self.now.tail = rw (← c.self.view_is) some in
    flushed c.args.self.now c.take_line.new.self c.take_line.result inside kept c.take_line.ensures.read c.take_line.ensures.tail c.take_line.ensures.lines

pub returns-clause-fails : goal.returns-clause-fails
returns-clause-fails c =
    let inside : list_all is_inside c.args.self.now.tail ≡ true = rw (← c.self.view_is) c.self.invariant.0 in
    let some : 0 < length c.self.inside.tail.items = grind arith in
    let kept : 0 < length c.args.self.now.tail = rw (← c.self.view_is) some in
    flushed_fails c.args.self.now c.take_line.result inside kept c.take_line.ensures.fails
