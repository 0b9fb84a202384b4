-- Evidence stays where more revisions are posted, so what was told in a round keeps it.
use Rattle.std.proofs.Common.{◌≡◌, ℕ, zero, suc, ◌+◌, ◌<◌, List, [], ◌∷◌, ◌++◌, append_assoc, length, take, Option, Some, refl, sym, ap, subst, arith}
use Rattle.std.specs.Prelude.{slice_get}
use Rattle.std.proofs.lemmas.List.{take-append-le}
use Rattle.std.proofs.lemmas.Option.{slice_get_within}
use Rattle.mal_revision.specs.Posted.{Posted}
use Rattle.spec_report.specs.Replies.{ReplyBody}
use Rattle.spec_job.specs.KeyedJob.{Key}
use Rattle.spec_job.specs.Models.{clauses_of, variables_of}
use Rattle.spec_course.specs.Supported.{IsSupported}
use Rattle.spec_hall.specs.Events.{Event, Open}
use Rattle.spec_hall.specs.Legal.{Legal}
use Rattle.spec_run.specs.Posting.{IsOpen}
use Rattle.spec_inquiry.specs.Evidence.{IsEvidence}
use Rattle.spec_inquiry.specs.Laws.{ToldIsEvident}
use Rattle.spec_inquiry.specs.Rounds.{Round, IsRound, AreRounds, round_events, revisions_in}
use Rattle.spec_inquiry.proofs.EvidenceLemmas.{legal-is_evident}
use Rattle.spec_inquiry.proofs.OpenLemmas.{opened-open, round-open}
use Rattle.spec_inquiry.proofs.RoundLemmas.{round-legal}

-- what stands in a list stands in a longer one
pub get-front : {X : Type 0} (xs ys : List X) (n : ℕ) (x : X) → slice_get xs n ≡ Some x → slice_get (xs ++ ys) n ≡ Some x
get-front [] ys n x e = absurd (cc)
get-front (y ∷ xs) ys zero x e = e
get-front (y ∷ xs) ys (suc n) x e = get-front xs ys n x e

evidence-stays : (rs more : List Posted) (r : ℕ) (told : ReplyBody) → IsEvidence rs r told → IsEvidence (rs ++ more) r told
evidence-stays rs more r told h =
    let within : r < length rs = slice_get_within rs r h.revision h.posted in
    let front : take (r + 1) (rs ++ more) ≡ take (r + 1) rs = take-append-le (r + 1) rs more (omega (arith, within)) in
    record {
      revision = h.revision;
      posted = get-front rs more r h.revision h.posted;
      supported = subst (λ (ps : List Posted). IsSupported (variables_of ps) (clauses_of ps) h.revision.assumptions told) (sym front) h.supported;
    }

-- of a round, where more revisions are posted after it
round-evident : (k : Key) (rs : List Posted) (past : List Event) (x : Round) → IsOpen k rs past → Legal 1 past → IsRound k past (suc (length rs)) x → IsEvidence (rs ++ x.asked.revision ∷ []) (length rs) x.asked.told
round-evident k rs past x is legal round =
    let now : List Event = past ++ round_events k (suc (length rs)) x in
    subst (λ (ps : List Posted). IsEvidence ps (length rs) x.asked.told) (round-open k rs past (suc (length rs)) x is).posted
    (legal-is_evident 1 now k (length rs) x.asked.told (round-legal k past (suc (length rs)) x round legal) round.told)

pub some-same : {X : Type 0} (x y : X) → ◌≡◌ {A = Option X} (Some x) (Some y) → x ≡ y
some-same x y e = cc

length-more : (rs : List Posted) (p : Posted) (n : ℕ) → length (rs ++ p ∷ []) + n ≡ length rs + suc n
length-more [] p n = omega arith
length-more (q ∷ rs) p n = let rest = length-more rs p n in omega (arith, rest)

one-more : (rs : List Posted) (p : Posted) → suc (length rs) ≡ length (rs ++ p ∷ [])
one-more [] p = refl
one-more (q ∷ rs) p = ap suc (one-more rs p)

pub plus-none : (n : ℕ) → n ≡ n + 0
plus-none n = omega arith

rounds-evident : (k : Key) (rs : List Posted) (past : List Event) (xs : List Round) (history : List Event) (r : ℕ) (x : Round) → IsOpen k rs past → Legal 1 past → AreRounds k past (suc (length rs)) xs history → slice_get xs r ≡ Some x → IsEvidence (rs ++ revisions_in xs) (length rs + r) x.asked.told
rounds-evident k rs past [] history r x is legal h e = absurd (cc)
rounds-evident k rs past (y ∷ ys) history zero x is legal h e =
    let here : IsEvidence ((rs ++ y.asked.revision ∷ []) ++ revisions_in ys) (length rs) y.asked.told = evidence-stays (rs ++ y.asked.revision ∷ []) (revisions_in ys) (length rs) y.asked.told (round-evident k rs past y is legal h.0) in
    let whole : IsEvidence (rs ++ revisions_in (y ∷ ys)) (length rs) y.asked.told = subst (λ (ps : List Posted). IsEvidence ps (length rs) y.asked.told) (append_assoc rs (y.asked.revision ∷ []) (revisions_in ys)) here in
    subst (λ (z : Round). IsEvidence (rs ++ revisions_in (y ∷ ys)) (length rs + 0) z.asked.told) (some-same y x e)
    (subst (λ (n : ℕ). IsEvidence (rs ++ revisions_in (y ∷ ys)) n y.asked.told) (plus-none (length rs)) whole)
rounds-evident k rs past (y ∷ ys) history (suc r) x is legal h e =
    let behind : AreRounds k (past ++ round_events k (suc (length rs)) y) (suc (length (rs ++ y.asked.revision ∷ []))) ys history = subst (λ (n : ℕ). AreRounds k (past ++ round_events k (suc (length rs)) y) (suc n) ys history) (one-more rs y.asked.revision) h.1 in
    let rest : IsEvidence ((rs ++ y.asked.revision ∷ []) ++ revisions_in ys) (length (rs ++ y.asked.revision ∷ []) + r) x.asked.told = rounds-evident k (rs ++ y.asked.revision ∷ []) (past ++ round_events k (suc (length rs)) y) ys history r x (round-open k rs past (suc (length rs)) y is) (round-legal k past (suc (length rs)) y h.0 legal) behind e in
    subst (λ (n : ℕ). IsEvidence (rs ++ revisions_in (y ∷ ys)) n x.asked.told) (length-more rs y.asked.revision r)
    (subst (λ (ps : List Posted). IsEvidence ps (length (rs ++ y.asked.revision ∷ []) + r) x.asked.told) (append_assoc rs (y.asked.revision ∷ []) (revisions_in ys)) rest)

none-plus : (n : ℕ) → 0 + n ≡ n
none-plus n = omega arith

pub told-is_evident : ToldIsEvident
told-is_evident k ask rounds history r x i e =
    subst (λ (n : ℕ). IsEvidence (revisions_in rounds) n x.asked.told) (none-plus r)
    (rounds-evident k [] (Open k ask ∷ []) rounds history r x (opened-open k ask) (i.opened, tt) i.asked e)
