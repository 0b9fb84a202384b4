-- Small revisions have room one after the other.
use Rattle.std.proofs.Common.{◌≤◌, List, [], ◌∷◌, length, arith}
use Rattle.mal_base.specs.Asks.{Terms}
use Rattle.mal_base.specs.Formulas.{literals_of}
use Rattle.mal_revision.specs.Posted.{Posted}
use Rattle.spec_course.specs.Course.{Asked}
use Rattle.spec_hall.specs.Events.{Event}
use Rattle.spec_job.specs.KeyedJob.{Key}
use Rattle.spec_inquiry.specs.Asking.{HasAsked, MayAsk, round_of}
use Rattle.spec_inquiry.specs.Rounds.{Round, IsInquiry, revisions_in}

-- it may be asked in an inquiry
abbrev pub MayCome : Key → List Event → Posted → Type 0
MayCome k history p = (ask : Terms) × (rounds : List Round) × IsInquiry k ask rounds history × MayAsk (revisions_in rounds) p

pub small-first : (k : Key) (ask : Terms) (history : List Event) (p : Posted) → IsInquiry k ask [] history → length p.clauses ≤ 1000 → literals_of p.clauses ≤ 1000 → MayCome k history p
small-first k ask history p inquiry clauses literals = (ask, [], inquiry, record { room = omega arith; clause_room = omega (arith, clauses); literal_room = omega (arith, literals) })

pub small-second : (k : Key) (ask : Terms) (asked : Asked) (history : List Event) (p : Posted) → HasAsked k ask [] asked history → length asked.revision.clauses ≤ 1000 → literals_of asked.revision.clauses ≤ 1000 → length p.clauses ≤ 1000 → literals_of p.clauses ≤ 1000 → MayCome k history p
small-second k ask asked history p h first few clauses literals = (ask, round_of asked h.turns ∷ [], h.inquiry, record { room = omega arith; clause_room = omega (arith, first, clauses); literal_room = omega (arith, few, literals) })
