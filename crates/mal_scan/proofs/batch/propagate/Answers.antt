use Rattle.std.proofs.Common.{◌≡◌, ◌+◌, true, false, take, drop, sym, ap, ◌∙◌, arith}
use Rattle.mal_base.specs.NumberedClause.{NumberedClause}
use Rattle.spec_node.specs.Batch.{Progress, after_all, batch, is_in_batch}
use Rattle.mal_trail.proofs.FoundLemmas.{after_all-in, after_all-out, after_all-ended, calm, within-at}
use Rattle.mal_scan.proofs.batch.propagate.Goals as goal
use Rattle.mal_scan.proofs.batch.propagate.Goals.{then-is_in_batch+in-None, else-is_in_batch}

pub handle_clause-requires-clause-within : goal.handle_clause-requires-clause-within
handle_clause-requires-clause-within c =
    let inv = c.loop-place.invariant in
    rw inv.room (within-at c.args.trail.now.room c.args.store.now.clauses c.loop-place.place _ c.requires.within c.at-id.ensures)

pub returns-in-Some-clause-progress : goal.returns-in-Some-clause-progress
returns-in-Some-clause-progress c =
    let inv = c.loop-place.invariant in
    let prefix = take c.args.count c.args.trail.now.entries in
    let rest = batch prefix (drop (c.loop-place.place + 1) c.args.store.now.clauses) in
    let found : NumberedClause = record { id = c.at-id.result.0; lits = c.at-id.result.1.now } in
    let test : is_in_batch prefix found ≡ true = rw inv.prefix at (sym (c.is_in_batch.ensures c.at-id.result.0) ∙ c.if-is_in_batch.true) in
    let handled = rw inv.prefix at c.in-Some.ensures.progress in
    sym inv.progress ∙ (after_all-in prefix c.loop-place.trail.entries c.args.store.now.clauses c.loop-place.place found c.at-id.ensures test ∙ (ap (λ (p : Progress). after_all prefix p rest) handled ∙ after_all-ended prefix c.handle_clause.new.trail.entries c.in-Some.id rest))

pub loop-place-preserved : goal.loop-place-preserved
loop-place-preserved c =
    let inv = c.loop-place.invariant in
    let prefix = take c.args.count c.args.trail.now.entries in
    let rest = batch prefix (drop (c.loop-place.place + 1) c.args.store.now.clauses) in
    let found : NumberedClause = record { id = c.at-id.result.0; lits = c.at-id.result.1.now } in
    elim c.if-is_in_batch.branch [
      | then-is_in_batch+in-None w ↦
          let test : is_in_batch prefix found ≡ true = rw inv.prefix at (sym (c.is_in_batch.ensures c.at-id.result.0) ∙ w.if-is_in_batch.true) in
          let handled = rw inv.prefix at w.in-None.ensures.progress in
          rw w.trail-is (record {
            progress = sym (after_all-in prefix c.loop-place.trail.entries c.args.store.now.clauses c.loop-place.place found c.at-id.ensures test ∙ ap (λ (p : Progress). after_all prefix p rest) handled) ∙ inv.progress;
            prefix = w.in-None.ensures.prefix c.args.count (omega (arith, c.requires.count, inv.longer)) ∙ inv.prefix;
            longer = omega (arith, w.in-None.ensures.grows.longer, inv.longer);
            processed = w.in-None.ensures.grows.processed ∙ inv.processed;
            room = w.in-None.ensures.grows.room ∙ inv.room;
          })
      | else-is_in_batch w ↦
          let test : is_in_batch prefix found ≡ false = rw inv.prefix at (sym (c.is_in_batch.ensures c.at-id.result.0) ∙ w.if-is_in_batch.false) in
          rw w.trail-is (record {
            progress = sym (after_all-out prefix (calm c.loop-place.trail.entries) c.args.store.now.clauses c.loop-place.place found c.at-id.ensures test) ∙ inv.progress;
            prefix = inv.prefix;
            longer = inv.longer;
            processed = inv.processed;
            room = inv.room;
          })
    ]
