use Rattle.std.proofs.Common.{◌≡◌, ◌+◌, ◌≤◌, ◌++◌, ◌∷◌, [], List, ap, ◌∙◌, vec_len, arith}
use Rattle.mal_base.specs.NumberedClause.{NumberedClause}
use Rattle.mal_learn.specs.declared.dropping.Droppable.{Droppable}
use Rattle.mal_learn.specs.Choosing.{droppable_of}
use Rattle.mal_learn.proofs.ReasonLemmas.{gathered-then, gathered-else}
use Rattle.mal_learn.proofs.dropping.gather.Goals as goal
use Rattle.mal_learn.proofs.dropping.gather.Goals.{then-may_go, else-may_go}

pub loop-place-preserved : goal.loop-place-preserved
loop-place-preserved g c =
    let es = g.T.TrailView.entries c.args.trail.now in
    let cs = g.E.ClauseView.clauses c.args.engine.now in
    let d : NumberedClause = record { id = c.clause_at-id.result.0; lits = c.clause_at-id.result.1.now } in
    let k = c.loop-place.place in
    elim c.if-may_go.branch [
      | then-may_go w ↦
          let long : vec_len w.push_reserved.new.self ≡ vec_len c.loop-place.droppables + 1 = w.push_reserved.ensures.len in
          let before : vec_len c.loop-place.droppables ≤ k = c.loop-place.invariant.short in
          record {
            droppables = rw w.droppables-is (w.push_reserved.ensures.items ∙ (ap (λ (ds : List Droppable). ds ++ droppable_of d ∷ []) c.loop-place.invariant.droppables ∙ gathered-then es cs k d c.clause_at-id.ensures w.if-may_go.ensures));
            capacity = rw w.droppables-is (w.push_reserved.ensures.capacity ∙ c.loop-place.invariant.capacity);
            short = rw w.droppables-is (omega (arith, long, before));
          }
      | else-may_go w ↦
          let before : vec_len c.loop-place.droppables ≤ k = c.loop-place.invariant.short in
          record {
            droppables = rw w.droppables-is (c.loop-place.invariant.droppables ∙ gathered-else es cs k d c.clause_at-id.ensures w.if-may_go.ensures);
            capacity = rw w.droppables-is c.loop-place.invariant.capacity;
            short = rw w.droppables-is (omega (arith, before));
          }
    ]
