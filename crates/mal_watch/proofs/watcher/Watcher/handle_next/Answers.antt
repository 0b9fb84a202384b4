use Rattle.std.proofs.Common.{◌+◌, ◌≤◌, length, take, arith, ◌∙◌}
use Rattle.std.proofs.lemmas.List.{length-take-le}
use Rattle.std.proofs.lemmas.List.Elements.{All-from_recursion}
use Rattle.mal_base.specs.Literals.{var_of}
use Rattle.mal_watch.specs.declared.found.Found.{Found}
use Rattle.mal_watch.specs.FollowLaws.{follows-same}
use Rattle.mal_watch.proofs.BatchLemmas.{pending-handled, pending-within}
use Rattle.mal_watch.proofs.watcher.Watcher.handle_next.Goals as goal

pub handle-requires : goal.handle-requires
handle-requires c =
    let room = c.args.trail.now.room in
    let prefix = take c.processed-count.result c.args.trail.now.entries in
    rw (c.as_slice.ensures.value, c.find.ensures.found) (All-from_recursion (λ (f : Found). var_of f.lit ≤ room) _ (pending-within room prefix c.args.trail.now.entries c.args.self.now.store.clauses c.requires.within))

pub returns-clause-progress : goal.returns-clause-progress
returns-clause-progress c =
    let entries = c.args.trail.now.entries in
    let count = c.processed-count.result in
    let within : count ≤ length entries = omega (arith, c.processed-count.ensures.value, c.requires.left) in
    let some : 1 ≤ length (take count entries) = omega (arith, length-take-le count entries within, c.if-count-eq0.false) in
    rw (← c.processed-count.ensures.value) (pending-handled (take count entries) entries entries c.args.self.now.store.clauses some (λ l h. h) ∙ rw (c.as_slice.ensures.value, c.find.ensures.found) at c.handle.ensures.progress)

pub returns-clause-fits : goal.returns-clause-fits
returns-clause-fits c =
    let entries = c.args.trail.now.entries in
    let s = c.find.new.self in
    follows-same s.store.clauses s.store.long s.lists.keys s.lists.out s.lists.count _ entries c.handle.new.trail.entries (c.processed-count.result + 1) (c.args.trail.now.processed + 1) (omega (arith, c.processed-count.ensures.value)) (λ n h. c.handle.ensures.prefix n (omega (arith, h, c.requires.left))) c.find.ensures.fits
