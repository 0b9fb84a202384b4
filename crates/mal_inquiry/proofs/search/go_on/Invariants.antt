use Rattle.std.proofs.Common.{◌≡◌, []}
use Rattle.mal_base.specs.Asks.{Terms}
use Rattle.spec_inquiry.specs.Rounds.{IsInquiry}
use Rattle.mal_inquiry.proofs.SearchLemmas.{Asking}
use Rattle.mal_inquiry.proofs.search.go_on.Given as goal

abbrev pub invariant-loop-asked : goal.invariant-loop-asked
invariant-loop-asked g l =
    (l.inquiry.key ≡ l.fn.inquiry.key)
    × ((terms : Terms) → IsInquiry l.fn.inquiry.key terms [] l.fn.inquiry.events → Asking l.fn.inquiry.key terms (g.S.Search.step l.search) (g.S.Search.start l.search) (g.S.Search.question l.search) l.asked l.inquiry.events (λ proofs. g.S.Search.stood proofs l.state) l.question)
