use Rattle.std.proofs.lemmas.Result.{IfOk-weaker}
use Rattle.spec_inquiry.proofs.SearchLemmas.{underway-may_ask}
use Rattle.mal_inquiry.specs.Searching.{next_by}
use Rattle.mal_inquiry.proofs.SearchLemmas.{asking-found, asking-next}
use Rattle.mal_inquiry.proofs.search.follow.Goals as goal

pub ask-requires : goal.ask-requires
ask-requires g c =
    let u = c.requires.underway.1 in
    record { may = (c.requires.underway.0, u.rounds, u.inquiry, underway-may_ask c.args.inquiry.now.key c.requires.underway.0 (g.S.Search.step c.args.search.now) (g.S.Search.start c.args.search.now) (g.S.Search.question c.args.search.now) c.args.asked c.args.inquiry.now.events (λ proofs. g.S.Search.stood proofs c.args.state) c.args.question c.requires.room u) }

pub after-requires-clause-found : goal.after-requires-clause-found
after-requires-clause-found g c =
    let u = c.requires.underway.1 in
    asking-found c.args.inquiry.now.key c.requires.underway.0 (g.S.Search.step c.args.search.now) (g.S.Search.start c.args.search.now) (g.S.Search.question c.args.search.now) c.args.asked c.args.inquiry.now.events c.ask.new.self.events (λ proofs. g.S.Search.stood proofs c.args.state) c.args.question c.in_ok-found.found c.requires.room u (c.in_ok-found.ensures.asked c.requires.underway.0 u.rounds u.inquiry)

pub returns-clause-follows : goal.returns-clause-follows
returns-clause-follows g c = λ terms u. IfOk-weaker c.after.result _ _ (λ next e. asking-next c.args.inquiry.now.key terms (g.S.Search.step c.args.search.now) (g.S.Search.start c.args.search.now) (g.S.Search.question c.args.search.now) c.args.asked c.args.inquiry.now.events c.ask.new.self.events (λ proofs. g.S.Search.stood proofs c.args.state) c.args.question c.in_ok-found.found (λ proofs. next_by g.S.Search.stood g.S.Search.proved g.S.Search.reached proofs next) u (c.in_ok-found.ensures.asked terms u.rounds u.inquiry) e) c.after.ensures
