use Rattle.std.proofs.Common.{[], IfOk, sym, subst}
use Rattle.mal_base.specs.Asks.{Terms}
use Rattle.spec_course.specs.Course.Next.{Asks}
use Rattle.spec_hall.specs.Dressed.{keyed}
use Rattle.spec_job.specs.KeyedJob.{Key}
use Rattle.spec_inquiry.specs.Rounds.{IsInquiry}
use Rattle.spec_inquiry.specs.Searches.{IsSearch, one_solver}
use Rattle.mal_inquiry.proofs.search.run.Goals as goal

pub returns : goal.returns
returns g c =
    let terms : Terms = one_solver c.args.slices in
    let key = c.in_ok-inquiry.ensures.key in
    let found = c.go_on.ensures terms (subst (λ (k : Key). IsInquiry k terms [] c.in_ok-inquiry.inquiry.events) (sym key) c.in_ok-inquiry.ensures.inquiry) in
    subst (λ (k : Key). IfOk c.go_on.result (λ o. IsSearch {S = g.S.Search.Stood} {O = g.S.Search.Reached} k terms (g.S.Search.step c.args.search.now) (Asks (g.S.Search.start c.args.search.now) (g.S.Search.question c.args.search.now)) (g.S.Search.reached o))) key found
