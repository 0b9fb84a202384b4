use Rattle.std.proofs.Common.{◌≡◌, true}
use Rattle.std.specs.List.{list_all}
use Rattle.mal_feed.specs.Coming.{is_inside}
use Rattle.mal_feed.proofs.Pieces.{keeps, goes, fails, reads_line}
use Rattle.mal_feed.proofs.feeder.Feeder.take.Goals as goal

pub returns-in-Ok-clause-goes : goal.returns-in-Ok-clause-goes
returns-in-Ok-clause-goes c = λ more. keeps c.args.self.now c.keep.new.self c.args.piece.now c.in-Ok.ensures.goes more

pub returns-in-Ok-take_line-clause-goes : goal.returns-in-Ok-take_line-clause-goes
returns-in-Ok-take_line-clause-goes c =
    let inside : list_all is_inside c.args.self.now.tail ≡ true = rw (← c.self.view_is) c.self.invariant.0 in
    goes c.args.self.now c.take_line.new.self c.args.piece.now c.in-Some.front.now c.in-Some.rest.now c.in-Ok-take_line.post
    c.in-Some.ensures.0 inside c.in-Some.ensures.1 c.in-Ok-take_line.ensures.read c.take_line.ensures.tail c.in-Ok-take_line.ensures.lines

pub returns-in-Err-take_line-clause-fails : goal.returns-in-Err-take_line-clause-fails
returns-in-Err-take_line-clause-fails c =
    let inside : list_all is_inside c.args.self.now.tail ≡ true = rw (← c.self.view_is) c.self.invariant.0 in
    fails c.args.self.now c.args.piece.now c.in-Some.front.now c.in-Some.rest.now c.in-Err-take_line.fault
    c.in-Some.ensures.0 inside c.in-Some.ensures.1 c.in-Err-take_line.ensures.fails

pub returns-in-Ok-take_line-clause-line : goal.returns-in-Ok-take_line-clause-line
returns-in-Ok-take_line-clause-line c =
    let inside : list_all is_inside c.args.self.now.tail ≡ true = rw (← c.self.view_is) c.self.invariant.0 in
    reads_line c.args.self.now c.take_line.new.self c.args.piece.now c.in-Some.front.now c.in-Some.rest.now c.in-Ok-take_line.post
    c.in-Some.ensures.0 inside c.in-Some.ensures.1 c.in-Ok-take_line.ensures.read c.take_line.ensures.tail c.in-Ok-take_line.ensures.lines
