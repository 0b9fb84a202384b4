use Rattle.std.proofs.Common.{◌≡◌, ◌+◌, ◌++◌, ℕ, map, min, refl, ◌∙◌, ap, arith}
use Rattle.mal_pool.specs.Parts.{demand_of}
use Rattle.mal_pool.specs.declared.role.Part.TheVariants as parts
use Rattle.mal_pool.proofs.Parting.{none-counted, workers-more}
use Rattle.spec_node.specs.Load.{counted}
use Rattle.mal_pool.proofs.run.parts_of.Goals as goal

pub loop-before-init : goal.loop-before-init
loop-before-init c = (c.in_ok-parts.parts.items, c.in_ok-parts.ensures, none-counted c.in_ok-parts.parts.items, omega arith)

pub loop-before-preserved : goal.loop-before-preserved
loop-before-preserved c =
    let was = c.loop-before.invariant in
    (was.0, was.1, workers-more was.0 c.loop-before.parts.items c.push.new.self.items c.loop-before.before (c.loop-before.before + 1) was.2 refl c.in_ok-push.ensures.items, omega (arith, c.useful-before-end.ensures, c.loop-before-test.true))

pub returns : goal.returns
returns c =
    let was = c.loop-before.invariant in
    let all : c.loop-before.before ≡ min c.args.workers (demand_of c.args.jobs.now) = omega (arith, c.useful-before-end.ensures, was.3) in
    (was.0, was.1, was.2 ∙ ap (λ (n : ℕ). was.0 ++ map parts.Worker (counted 1 n)) all)
