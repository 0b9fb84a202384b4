use Rattle.std.proofs.Common.{rules, ◌≡◌, ◌<◌, true, length, take, ap, ◌∙◌, arith}
use Rattle.std.proofs.lemmas.List.{length-set}
use Rattle.mal_base.specs.Literals.{var_of}
use Rattle.spec_node.specs.Sound.{level_in}
use Rattle.spec_guided.specs.Glue.{levels_of}
use Rattle.mal_glue.proofs.EntryLemmas.{level-below}
use Rattle.mal_glue.proofs.GlueLemmas.{levels-next, counted-new, counted-again}
use Rattle.mal_glue.proofs.levels.Levels.glue.Goals as goal
use Rattle.mal_glue.proofs.levels.Levels.glue.Goals.{then-not-has, else-not-has}

pub has-requires : goal.has-requires
has-requires c =
    let b = level-below c.args.trail.now.entries c.var.result c.args.self.now c.requires.some c.requires.room in
    omega (arith, b, c.level_in-level.ensures, c.loop-lit.invariant.long)

pub insert-requires : goal.insert-requires
insert-requires c =
    let b = level-below c.args.trail.now.entries c.var.result c.args.self.now c.requires.some c.requires.room in
    omega (arith, b, c.level_in-level.ensures, c.loop-lit.invariant.long)

pub loop-lit-preserved : goal.loop-lit-preserved
loop-lit-preserved c =
    let b = level-below c.args.trail.now.entries c.var.result c.args.self.now c.requires.some c.requires.room in
    let inside : c.level_in-level.result < length c.loop-lit.self-inside.flags = omega (arith, b, c.level_in-level.ensures, c.loop-lit.invariant.long) in
    let es = c.args.trail.now.entries in
    let same : c.level_in-level.result ≡ level_in es (var_of c.lit-item.result) = c.level_in-level.ensures ∙ ap (level_in es) c.var.ensures.value in
    let next = levels-next es c.args.lits.now c.loop-lit.lit-index c.lit-item.result (omega arith) c.lit-item.is in
    let next2 = rw (← same) at next in
    elim c.if-not-has.branch [
      | then-not-has w ↦ record {
        long = rw (w.self-inside-is, w.insert.ensures) (length-set c.loop-lit.self-inside.flags c.level_in-level.result true ∙ c.loop-lit.invariant.long);
        counted = rw (w.self-inside-is, w.count-is, w.insert.ensures, next2) (counted-new c.loop-lit.self-inside.flags c.loop-lit.count (levels_of es (take c.loop-lit.lit-index c.args.lits.now)) c.level_in-level.result inside (search rules) c.loop-lit.invariant.counted);
        few = rw w.count-is (omega (arith, c.loop-lit.invariant.few));
      }
      | else-not-has w ↦ record {
        long = rw w.self-inside-is c.loop-lit.invariant.long;
        counted = rw (w.self-inside-is, w.count-is, next2) (counted-again c.loop-lit.self-inside.flags c.loop-lit.count (levels_of es (take c.loop-lit.lit-index c.args.lits.now)) c.level_in-level.result inside (search rules) c.loop-lit.invariant.counted);
        few = rw w.count-is (omega (arith, c.loop-lit.invariant.few));
      }
    ]
