use Rattle.std.proofs.Common.{◌+◌, List, [], drop, refl, sym, ap, ◌∙◌, arith}
use Rattle.mal_base.specs.NumberedClause.{NumberedClause}
use Rattle.spec_node.specs.Batch.{Progress, after_all, batch}
use Rattle.mal_trail.proofs.FoundLemmas.{after_all-in, after_all-ended, calm}
use Rattle.mal_store.specs.Stored.{short_clauses}
use Rattle.mal_watch.proofs.BatchLemmas.{within-short, short-in, short-batch}
use Rattle.mal_watch.proofs.batch.handle_short.Goals as goal

pub loop-place-init : goal.loop-place-init
loop-place-init c = record { progress = ap (λ (cs : List NumberedClause). after_all [] (calm c.args.trail.now.entries) cs) (short-batch c.args.store.now.clauses); longer = omega arith; processed = refl; room = refl }

pub handle_clause-requires-clause-within : goal.handle_clause-requires-clause-within
handle_clause-requires-clause-within c =
    let inv = c.loop-place.invariant in
    rw inv.room (within-short c.args.trail.now.room c.args.store.now.clauses c.loop-place.place _ c.requires c.short_at-id.ensures)

pub returns-in-Some-clause-progress : goal.returns-in-Some-clause-progress
returns-in-Some-clause-progress c =
    let inv = c.loop-place.invariant in
    let short = short_clauses c.args.store.now.clauses in
    let rest = batch [] (drop (c.loop-place.place + 1) short) in
    let found : NumberedClause = record { id = c.short_at-id.result.0; lits = c.short_at-id.result.1.now } in
    let test = short-in c.args.store.now.clauses c.loop-place.place found c.short_at-id.ensures in
    sym inv.progress ∙ (after_all-in [] c.loop-place.trail.entries short c.loop-place.place found c.short_at-id.ensures test ∙ (ap (λ (p : Progress). after_all [] p rest) c.in-Some.ensures.progress ∙ after_all-ended [] c.handle_clause.new.trail.entries c.in-Some.id rest))

pub loop-place-preserved : goal.loop-place-preserved
loop-place-preserved c =
    let inv = c.loop-place.invariant in
    let short = short_clauses c.args.store.now.clauses in
    let rest = batch [] (drop (c.loop-place.place + 1) short) in
    let found : NumberedClause = record { id = c.short_at-id.result.0; lits = c.short_at-id.result.1.now } in
    let test = short-in c.args.store.now.clauses c.loop-place.place found c.short_at-id.ensures in
    record {
      progress = sym (after_all-in [] c.loop-place.trail.entries short c.loop-place.place found c.short_at-id.ensures test ∙ ap (λ (p : Progress). after_all [] p rest) c.in-None.ensures.progress) ∙ inv.progress;
      longer = omega (arith, c.in-None.ensures.grows.longer, inv.longer);
      processed = c.in-None.ensures.grows.processed ∙ inv.processed;
      room = c.in-None.ensures.grows.room ∙ inv.room;
    }
