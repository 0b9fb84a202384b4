use Rattle.std.proofs.Common.{◌≡◌, ℕ, ◌+◌, ◌∙◌, true, sym, ap, length, drop, set}
use Rattle.std.proofs.lemmas.List.{length-set}
use Rattle.mal_base.specs.Literals.{var_of}
use Rattle.mal_learn.specs.Working.{here_all}
use Rattle.mal_learn.proofs.WalkLemmas.{mark-then, mark-else}
use Rattle.mal_learn.proofs.work.mark_level.Goals as goal
use Rattle.mal_learn.proofs.work.mark_level.Goals.{then-entry-level, else-entry-level}

pub loop-place-preserved : goal.loop-place-preserved
loop-place-preserved g c =
    let es = g.T.TrailView.entries c.args.trail.now in
    let e = c.at-entry.result in
    elim c.if-entry-level.branch [
      | then-entry-level w ↦
          let place : w.number.result ≡ var_of e.lit = w.number.ensures.value ∙ w.var.ensures.value in
          let is : c.if-entry-level.here ≡ set c.loop-place.here (var_of e.lit) true = w.here-is ∙ (w.insert.ensures ∙ ap (λ (k : ℕ). set c.loop-place.here k true) place) in
          record { marks = ap (here_all c.args.level (drop (c.loop-place.place + 1) es)) is ∙ (sym (mark-then c.args.level c.loop-place.place es e c.loop-place.here c.at-entry.ensures w.if-entry-level.true) ∙ c.loop-place.invariant.marks); len = ap length is ∙ (length-set c.loop-place.here (var_of e.lit) true ∙ c.loop-place.invariant.len) }
      | else-entry-level w ↦ record { marks = ap (here_all c.args.level (drop (c.loop-place.place + 1) es)) w.here-is ∙ (sym (mark-else c.args.level c.loop-place.place es e c.loop-place.here c.at-entry.ensures w.if-entry-level.false) ∙ c.loop-place.invariant.marks); len = ap length w.here-is ∙ c.loop-place.invariant.len }
    ]
