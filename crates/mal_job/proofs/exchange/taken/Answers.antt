use Rattle.std.proofs.Common.{ℕ, List, ◌++◌, length, map, drop, ap, ◌∙◌, arith}
use Rattle.mal_base.specs.NumberedClause.{NumberedClause}
use Rattle.spec_job.specs.SoloMachine.{NodeSlot}
use Rattle.mal_job.specs.Viewed.{place_of}
use Rattle.spec_job.specs.OnePass.{taken_from}
use Rattle.mal_job.proofs.TakenLemmas.{taken-step, taken-end, taken-start}
use Rattle.mal_job.proofs.exchange.taken.Goals as goal

pub loop-n-init : goal.loop-n-init
loop-n-init c =
    let ps : List NodeSlot = map place_of c.args.places.now in
    let volume : ℕ = length c.args.places.now in
    ap (λ (es : List NumberedClause). es ++ taken_from volume ps c.least_mark-n.result (drop c.least_mark-n.result c.args.log.now.lines)) c.new-entries.ensures.items
    ∙ (ap (λ (k : ℕ). taken_from volume ps k (drop k c.args.log.now.lines)) c.least_mark-n.ensures
    ∙ taken-start c.count-count.result c.args.log.now.lines c.args.places.now)

pub loop-n-preserved : goal.loop-n-preserved
loop-n-preserved c = taken-step (length c.args.places.now) (map place_of c.args.places.now) c.loop-n.n c.args.log.now.lines c.loop-n.entries.items c.push_taken.new.entries.items (taken_from (length c.args.places.now) (map place_of c.args.places.now) 0 c.args.log.now.lines) c.loop-n.invariant c.in_ok-push_taken.ensures

pub returns : goal.returns
returns c = taken-end (length c.args.places.now) (map place_of c.args.places.now) c.loop-n.n c.args.log.now.lines (taken_from (length c.args.places.now) (map place_of c.args.places.now) 0 c.args.log.now.lines) c.loop-n.entries.items (omega arith) c.loop-n.invariant
