use Rattle.std.proofs.Common.{refl, ◌+◌, ◌∙◌, arith}
use Rattle.spec_course.specs.Course.Next.{Asks}
use Rattle.spec_inquiry.proofs.SearchLemmas.{underway-ends, underway-few}
use Rattle.mal_inquiry.specs.Searching.{next_by}
use Rattle.mal_inquiry.specs.declared.search.Next.TheVariants as of
use Rattle.mal_inquiry.proofs.SearchLemmas.{goes-on, proves-same}
use Rattle.mal_inquiry.proofs.search.go_on.Goals as goal

pub returns-in-Ends : goal.returns-in-Ends
returns-in-Ends g c = λ terms i.
    underway-ends c.args.inquiry.now.key terms (g.S.Search.step c.args.search.now) (Asks (g.S.Search.start c.args.search.now) (g.S.Search.question c.args.search.now)) (c.loop-asked.asked + 1) c.follow.new.inquiry.events (λ proofs. next_by g.S.Search.stood g.S.Search.proved g.S.Search.reached proofs (of.Ends c.in-Ends.outcome)) (g.S.Search.reached c.in-Ends.outcome) refl
    (goes-on g.S.Search.stood g.S.Search.proved g.S.Search.reached c.loop-asked.inquiry.key c.args.inquiry.now.key terms (g.S.Search.step c.args.search.now) (Asks (g.S.Search.start c.args.search.now) (g.S.Search.question c.args.search.now)) c.loop-asked.asked c.loop-asked.inquiry.events c.follow.new.inquiry.events (λ proofs. Asks (g.S.Search.stood proofs c.loop-asked.state) c.loop-asked.question) c.in_ok-then.field-0 (of.Ends c.in-Ends.outcome) c.loop-asked.invariant.0 c.in-Ends.is c.in_ok-then.ensures.follows (c.loop-asked.invariant.1 terms i))

pub returns-in-Proves : goal.returns-in-Proves
returns-in-Proves g c = λ terms i.
    underway-ends c.args.inquiry.now.key terms (g.S.Search.step c.args.search.now) (Asks (g.S.Search.start c.args.search.now) (g.S.Search.question c.args.search.now)) (c.loop-asked.asked + 1) c.follow.new.inquiry.events (λ proofs. next_by g.S.Search.stood g.S.Search.proved g.S.Search.reached proofs (of.Proves c.in-Proves.outcome c.in-Proves.number)) (g.S.Search.reached c.with_lines.result) (proves-same g.S.Search.proved c.in-Proves.outcome c.in-Proves.number c.follow.new.inquiry.key c.args.inquiry.now.key c.follow.new.inquiry.events c.in_ok-lines-in-Proves.lines.lines (g.S.Search.reached c.with_lines.result) c.with_lines.ensures c.in_ok-lines-in-Proves.ensures (c.follow.ensures.key ∙ c.loop-asked.invariant.0))
    (goes-on g.S.Search.stood g.S.Search.proved g.S.Search.reached c.loop-asked.inquiry.key c.args.inquiry.now.key terms (g.S.Search.step c.args.search.now) (Asks (g.S.Search.start c.args.search.now) (g.S.Search.question c.args.search.now)) c.loop-asked.asked c.loop-asked.inquiry.events c.follow.new.inquiry.events (λ proofs. Asks (g.S.Search.stood proofs c.loop-asked.state) c.loop-asked.question) c.in_ok-then.field-0 (of.Proves c.in-Proves.outcome c.in-Proves.number) c.loop-asked.invariant.0 c.in-Proves.is c.in_ok-then.ensures.follows (c.loop-asked.invariant.1 terms i))

pub loop-asked-preserved : goal.loop-asked-preserved
loop-asked-preserved g c = (
  c.follow.ensures.key ∙ c.loop-asked.invariant.0,
  λ terms i.
      (goes-on g.S.Search.stood g.S.Search.proved g.S.Search.reached c.loop-asked.inquiry.key c.args.inquiry.now.key terms (g.S.Search.step c.args.search.now) (Asks (g.S.Search.start c.args.search.now) (g.S.Search.question c.args.search.now)) c.loop-asked.asked c.loop-asked.inquiry.events c.follow.new.inquiry.events (λ proofs. Asks (g.S.Search.stood proofs c.loop-asked.state) c.loop-asked.question) c.in_ok-then.field-0 (of.Asks c.in-Asks.then c.in-Asks.next) c.loop-asked.invariant.0 c.in-Asks.is c.in_ok-then.ensures.follows (c.loop-asked.invariant.1 terms i)),
)

pub unreachable-requires : goal.unreachable-requires
unreachable-requires g c =
    let few = underway-few c.args.inquiry.now.key c.requires.new.0 (g.S.Search.step c.args.search.now) (g.S.Search.start c.args.search.now) (g.S.Search.question c.args.search.now) c.loop-asked.asked c.loop-asked.inquiry.events (λ proofs. g.S.Search.stood proofs c.loop-asked.state) c.loop-asked.question c.requires.room (c.loop-asked.invariant.1 c.requires.new.0 c.requires.new.1) in
    let many = c.loop-asked-test.false in
    omega (arith, few, many)
