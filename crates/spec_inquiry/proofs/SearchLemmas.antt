-- A search goes on question by question.
use Rattle.std.proofs.Common.{◌≡◌, ℕ, zero, suc, ◌+◌, ◌<◌, ◌≤◌, List, [], ◌∷◌, ◌++◌, length, Option, Some, refl, sym, ap, subst, ◌∙◌, arith}
use Rattle.std.specs.Prelude.{All, slice_get}
use Rattle.std.specs.Option.{option_map_or}
use Rattle.std.proofs.lemmas.List.{length-append, length-map, map-append}
use Rattle.std.proofs.lemmas.List.Elements.{All-head, All-tail}
use Rattle.mal_base.specs.Limits.{limits}
use Rattle.mal_base.specs.Asks.{Terms}
use Rattle.mal_base.specs.Formulas.{literals_of}
use Rattle.mal_revision.specs.Posted.{Posted}
use Rattle.spec_report.specs.Replies.{ReplyBody}
use Rattle.spec_job.specs.KeyedJob.{Key}
use Rattle.spec_course.specs.Course.{Asked, Next, Leads}
use Rattle.spec_course.specs.Course.Next.{Asks, Ends}
use Rattle.spec_course.specs.Supported.{IsSupported, AreSupported}
use Rattle.spec_course.proofs.CourseLemmas.{course-goes-on}
use Rattle.spec_hall.specs.Events.{Event}
use Rattle.spec_inquiry.specs.Asking.{MayAsk, HasAsked, round_of}
use Rattle.spec_inquiry.specs.Rounds.{Round, IsInquiry, asked_in, revisions_in}
use Rattle.spec_inquiry.specs.Searches.{AreToldIn, AsksOnly, HasRoom, IsSearch, IsUnderway, Proofs, StepAssumes, lines_in, proofs_in}
use Rattle.spec_inquiry.proofs.FirstLemmas.{assuming-may_ask, course-begins, inquiry-is_supported}
use Rattle.spec_inquiry.proofs.ToldLemmas.{told-stays}

-- nothing was asked yet
pub underway-begins : {S O : Type 0} (k : Key) (ask : Terms) (step : S → ReplyBody → Next S O) (first : Next S O) (history : List Event) (now : Proofs → Next S O) → ((proofs : Proofs) → now proofs ≡ first) → IsInquiry k ask [] history → IsUnderway k ask step first 0 history now
underway-begins k ask step first history now e i = record { rounds = []; inquiry = i; leads = λ proofs told. sym (e proofs); counted = refl }

-- one round more leads on
pub leads-more : {S O : Type 0} (step : S → ReplyBody → Next S O) (first : Next S O) (rounds : List Round) (s : S) (r : Posted) (x : Round) → Leads step first (asked_in rounds) (Asks s r) → x.asked.revision ≡ r → Leads step first (asked_in (rounds ++ x ∷ [])) (step s x.asked.told)
leads-more step first rounds s r x l e = subst (λ (asked : List Asked). Leads step first asked (step s x.asked.told)) (sym (map-append (λ (y : Round). y.asked) rounds (x ∷ []))) (course-goes-on step first (asked_in rounds) s r x.asked l e)

-- the proofs that were told before and in a round more
pub told-before : (rounds later : List Round) (proofs : Proofs) → AreToldIn (rounds ++ later) proofs → AreToldIn rounds proofs
told-before rounds later proofs told r x e = told r x (front rounds r x e)
  where
    front : (xs : List Round) (r : ℕ) (x : Round) → slice_get xs r ≡ Some x → slice_get (xs ++ later) r ≡ Some x
    front [] r x e = absurd (cc)
    front (y ∷ ys) zero x e = e
    front (y ∷ ys) (suc r) x e = front ys r x e

pub told-last : (rounds : List Round) (x : Round) (proofs : Proofs) (n : ℕ) → length rounds ≡ n → AreToldIn (rounds ++ x ∷ []) proofs → proofs (n + 1) ≡ lines_in x.asked.told
told-last rounds x proofs n e told = ap proofs number ∙ told (length rounds) x (last rounds)
  where
    number : n + 1 ≡ suc (length rounds)
    number = omega (arith, e)

    last : (xs : List Round) → slice_get (xs ++ x ∷ []) (length xs) ≡ Some x
    last [] = refl
    last (y ∷ ys) = last ys

-- a machine tells at the end what was told in the rounds
pub proofs-told : (k : Key) (ask : Terms) (rounds : List Round) (history : List Event) → IsInquiry k ask rounds history → AreToldIn rounds (proofs_in k history)
proofs-told k ask rounds history i r x e = ap (λ (o : Option ReplyBody). option_map_or lines_in o []) (told-stays k ask rounds history r x i e)

-- one question more
pub underway-asked : {S O : Type 0} (k : Key) (ask : Terms) (step : S → ReplyBody → Next S O) (first : Next S O) (n : ℕ) (before after : List Event) (s : Proofs → S) (r : Posted) (told : ReplyBody) (next : Proofs → Next S O) → (u : IsUnderway k ask step first n before (λ proofs. Asks (s proofs) r)) → HasAsked k ask u.rounds (record { revision = r; told = told }) after → ((proofs : Proofs) → proofs (n + 1) ≡ lines_in told → next proofs ≡ step (s proofs) told) → IsUnderway k ask step first (n + 1) after next
underway-asked k ask step first n before after s r told next u h e = record {
  rounds = u.rounds ++ x ∷ [];
  inquiry = h.inquiry;
  leads = λ proofs are. subst (Leads step first (asked_in (u.rounds ++ x ∷ []))) (sym (e proofs (told-last u.rounds x proofs n u.counted are))) (leads-more step first u.rounds (s proofs) r x (u.leads proofs (told-before u.rounds (x ∷ []) proofs are)) refl);
  counted = length-append u.rounds (x ∷ []) ∙ ap (λ (m : ℕ). m + 1) u.counted;
}
  where
    x : Round
    x = round_of (record { revision = r; told = told }) h.turns

-- where it ends, the outcome is reached
pub underway-ends : {S O : Type 0} (k : Key) (ask : Terms) (step : S → ReplyBody → Next S O) (first : Next S O) (n : ℕ) (history : List Event) (now : Proofs → Next S O) (outcome : O) → now (proofs_in k history) ≡ Ends outcome → IsUnderway k ask step first n history now → IsSearch k ask step first outcome
underway-ends k ask step first n history now outcome e u = record {
  rounds = u.rounds;
  history = history;
  inquiry = u.inquiry;
  leads = subst (Leads step first (asked_in u.rounds)) e (u.leads (proofs_in k history) (proofs-told k ask u.rounds history u.inquiry));
}

-- where each question after the first only assumes, all that was told has its evidence of the clauses of the first
pub search-supported : {S O : Type 0} (k : Key) (ask : Terms) (step : S → ReplyBody → Next S O) (s : S) (r : Posted) (rounds : List Round) (history : List Event) (now : Next S O) → StepAssumes r.variables step → IsInquiry k ask rounds history → Leads step (Asks s r) (asked_in rounds) now → AreSupported r.variables r.clauses (asked_in rounds)
search-supported k ask step s r rounds history now only i l = inquiry-is_supported k ask rounds history r.variables r.clauses i (course-begins step r.variables r.clauses s r rounds now refl refl only l)

last-told : (P : Asked → Type 0) (rounds : List Round) (x : Round) → All P (asked_in (rounds ++ x ∷ [])) → P x.asked
last-told P [] x h = All-head P x.asked [] h
last-told P (y ∷ ys) x h = last-told P ys x (All-tail P y.asked (asked_in (ys ++ x ∷ [])) h)

-- so has what is told of the next question
pub search-told : {S O : Type 0} (k : Key) (ask : Terms) (step : S → ReplyBody → Next S O) (s : S) (r : Posted) (rounds : List Round) (t : S) (q : Posted) (told : ReplyBody) (after : List Event) → StepAssumes r.variables step → Leads step (Asks s r) (asked_in rounds) (Asks t q) → HasAsked k ask rounds (record { revision = q; told = told }) after → IsSupported r.variables r.clauses q.assumptions told
search-told k ask step s r rounds t q told after only l h =
    last-told (λ (y : Asked). IsSupported r.variables r.clauses y.revision.assumptions y.told) rounds x
    (search-supported k ask step s r (rounds ++ x ∷ []) after (step t told) only h.inquiry (leads-more step (Asks s r) rounds t q x l refl))
  where
    x : Round
    x = round_of (record { revision = q; told = told }) h.turns

last-only : {S O : Type 0} (v : ℕ) (step : S → ReplyBody → Next S O) (now : Next S O) (asked : List Asked) (end : Next S O) → StepAssumes v step → AsksOnly v now → Leads step now asked end → AsksOnly v end
last-only v step now [] end only h l = subst (AsksOnly v) l h
last-only v step (Ends o) (x ∷ xs) end only h l = absurd l
last-only v step (Asks s r) (x ∷ xs) end only h l = last-only v step (step s x.told) xs end only (only s x.told) l.1

-- and there is room for the next question, fewer than 256 after the first
pub search-may_ask : {S O : Type 0} (step : S → ReplyBody → Next S O) (s : S) (r : Posted) (rounds : List Round) (t : S) (q : Posted) → StepAssumes r.variables step → Leads step (Asks s r) (asked_in rounds) (Asks t q) → length rounds < limits.revisions → length r.clauses ≤ limits.clauses → literals_of r.clauses ≤ limits.literals → MayAsk (revisions_in rounds) q
search-may_ask {S} {O} step s r [] t q only l few clauses literals = subst (MayAsk []) (same s r l) (record { room = few; clause_room = none-plus (length r.clauses) limits.clauses clauses; literal_room = none-plus (literals_of r.clauses) limits.literals literals })
  where
    same : (a : S) (p : Posted) → ◌≡◌ {A = Next S O} (Asks a p) (Asks t q) → p ≡ q
    same a p e = cc

    none-plus : (n m : ℕ) → n ≤ m → 0 + n ≤ m
    none-plus n m h = omega (arith, h)
search-may_ask {S} {O} step s r (x ∷ xs) t q only l few clauses literals =
    assuming-may_ask r.variables r.clauses (revisions_in (x ∷ xs)) q (course-begins step r.variables r.clauses s r (x ∷ xs) (Asks t q) refl refl only l)
    (last-only r.variables step (step s x.asked.told) (asked_in xs) (Asks t q) only (only s x.asked.told) l.1)
    (subst (λ (n : ℕ). n < limits.revisions) (sym (length-map (x ∷ xs) (λ (y : Round). y.asked.revision))) few) clauses literals

-- so is there for the next question of a search that a job has room for
pub underway-few : {S O : Type 0} (k : Key) (ask : Terms) (step : S → ReplyBody → Next S O) (s : S) (r : Posted) (n : ℕ) (history : List Event) (t : Proofs → S) (q : Posted) → HasRoom step s r → IsUnderway k ask step (Asks s r) n history (λ proofs. Asks (t proofs) q) → n < limits.revisions
underway-few k ask step s r n history t q room u =
    let told : Proofs = proofs_in k history in
    let leads : Leads step (Asks s r) (asked_in u.rounds) (Asks (t told) q) = u.leads told (proofs-told k ask u.rounds history u.inquiry) in
    let few : length (asked_in u.rounds) < limits.revisions = room.few (asked_in u.rounds) (t told) q (search-supported k ask step s r u.rounds history (Asks (t told) q) room.assumes u.inquiry leads) leads in
    let same : length (asked_in u.rounds) ≡ n = length-map u.rounds (λ (x : Round). x.asked) ∙ u.counted in
    omega (arith, few, same)

pub underway-may_ask : {S O : Type 0} (k : Key) (ask : Terms) (step : S → ReplyBody → Next S O) (s : S) (r : Posted) (n : ℕ) (history : List Event) (t : Proofs → S) (q : Posted) → HasRoom step s r → (u : IsUnderway k ask step (Asks s r) n history (λ proofs. Asks (t proofs) q)) → MayAsk (revisions_in u.rounds) q
underway-may_ask k ask step s r n history t q room u =
    let told : Proofs = proofs_in k history in
    let few : n < limits.revisions = underway-few k ask step s r n history t q room u in
    search-may_ask step s r u.rounds (t told) q room.assumes (u.leads told (proofs-told k ask u.rounds history u.inquiry)) (omega (arith, few, u.counted)) room.clauses room.literals
