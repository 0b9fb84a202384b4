use Rattle.std.proofs.Common.{◌<◌, ◌∙◌, ap, length, slice_get}
use Rattle.mal_proof.specs.Logged.{lines_in}
use Rattle.mal_proof.proofs.Placing.{in-chunk, in-last}
use Rattle.mal_proof.proofs.log.Log.place.Goals as goal

pub place_among-requires : goal.place_among-requires
place_among-requires c =
    let s = c.self.inside in
    let clauses = rw c.deref-2.ensures.value at c.chunks_before.ensures in
    let at = rw c.deref.ensures.value at c.in-Some.ensures.lookup in
    (in-chunk s.full.items s.last c.args.n c.chunks_before.result c.self.invariant.ends clauses.before c.in-Some.chunk.now at.3.0 at.1 clauses.behind).has

pub place_among-requires-in-None : goal.place_among-requires-in-None
place_among-requires-in-None c =
    let s = c.self.inside in
    let clauses = rw c.deref-2.ensures.value at c.chunks_before.ensures in
    let at = rw c.deref.ensures.value at c.in-None.ensures.lookup in
    let low : c.args.n < length (lines_in s.full.items s.last) = rw (← c.self.view_is) at c.requires in
    (in-last s.full.items s.last c.args.n c.chunks_before.result c.self.invariant.ends clauses.before s.count at.3 c.self.invariant.counted (rw (← c.self.invariant.counted) at low)).has

pub returns-in-Some-clause-same : goal.returns-in-Some-clause-same
returns-in-Some-clause-same c =
    let s = c.self.inside in
    let clauses = rw c.deref-2.ensures.value at c.chunks_before.ensures in
    let at = rw c.deref.ensures.value at c.in-Some.ensures.lookup in
    let found = in-chunk s.full.items s.last c.args.n c.chunks_before.result c.self.invariant.ends clauses.before c.in-Some.chunk.now at.3.0 at.1 clauses.behind in
    rw (← c.self.view_is) (ap (slice_get c.in-Some.chunk.now.lines.lines) c.place_among.ensures.value ∙ found.same)

pub returns-in-None-clause-same : goal.returns-in-None-clause-same
returns-in-None-clause-same c =
    let s = c.self.inside in
    let clauses = rw c.deref-2.ensures.value at c.chunks_before.ensures in
    let at = rw c.deref.ensures.value at c.in-None.ensures.lookup in
    let low : c.args.n < length (lines_in s.full.items s.last) = rw (← c.self.view_is) at c.requires in
    let found = in-last s.full.items s.last c.args.n c.chunks_before.result c.self.invariant.ends clauses.before s.count at.3 c.self.invariant.counted (rw (← c.self.invariant.counted) at low) in
    rw (← c.self.view_is) (ap (slice_get s.last.lines) c.place_among-in-None.ensures.value ∙ found.same)
