-- A search under way: its next question, what is found of it, and its end.
use Rattle.std.proofs.Common.{◌≡◌, ℕ, ◌+◌, List, [], ◌∷◌, ◌++◌, refl, sym, ap, subst, ◌∙◌}
use Rattle.mal_base.specs.Asks.{Terms}
use Rattle.mal_base.specs.NumberedClause.{Line}
use Rattle.mal_job.specs.Findings.{told_by}
use Rattle.mal_job.specs.declared.finding.Finding.{Finding}
use Rattle.mal_job.specs.declared.finding.Finding.TheVariants as found
use Rattle.mal_report.specs.declared.told.Cause.TheVariants as cause
use Rattle.mal_revision.specs.Posted.{Posted}
use Rattle.spec_report.specs.Replies.{ReplyBody, Proof}
use Rattle.spec_job.specs.KeyedJob.{Key}
use Rattle.spec_course.specs.Course.{Next, Leads}
use Rattle.spec_course.specs.Course.Next.{Asks, Ends}
use Rattle.spec_course.specs.Supported.{IsSupported}
use Rattle.spec_hall.specs.Events.{Event}
use Rattle.spec_inquiry.specs.Asking.{round_of}
use Rattle.spec_inquiry.specs.Rounds.{Round, IsInquiry, asked_in}
use Rattle.spec_inquiry.specs.Searches.{AreToldIn, HasRoom, IsUnderway, Proofs, lines_in, proofs_in}
use Rattle.spec_inquiry.proofs.SearchLemmas.{leads-more, proofs-told, search-supported, search-told, told-before, told-last, underway-asked, underway-begins}
use Rattle.mal_inquiry.specs.declared.search.Next as code
use Rattle.mal_inquiry.specs.InquiryView.{HasFound}
use Rattle.mal_inquiry.specs.Searching.{IsFoundIn, next_by}

-- a search is under way to a question
abbrev pub Asking : {S O : Type 0} → Key → Terms → (S → ReplyBody → Next S O) → S → Posted → ℕ → List Event → (Proofs → S) → Posted → Type 0
Asking k ask step s r n history t q = IsUnderway k ask step (Asks s r) n history (λ proofs. Asks (t proofs) q)

-- nothing was asked yet
pub asking-begins : {S O : Type 0} (k : Key) (ask : Terms) (step : S → ReplyBody → Next S O) (s : S) (r : Posted) (history : List Event) (t : Proofs → S) (q : Posted) → ((proofs : Proofs) → t proofs ≡ s) → q ≡ r → IsInquiry k ask [] history → Asking k ask step s r 0 history t q
asking-begins {S} {O} k ask step s r history t q e f i = underway-begins k ask step (Asks s r) history (λ proofs. Asks (t proofs) q) (λ proofs. same (t proofs) (e proofs)) i
  where
    same : (a : S) → a ≡ s → ◌≡◌ {A = Next S O} (Asks a q) (Asks s r)
    same a h = rw (h, f) refl

-- what is found with the lines that were told is what was told
told-again : (given lines : List Line) (x : Finding) → given ≡ lines_in (told_by lines x) → told_by given x ≡ told_by lines x
told-again given lines (found.Model model) e = refl
told-again given lines (found.Failed failed) e = ap (λ (ls : List Line). Proof failed.items ls) e
told-again given lines (found.Unknown (cause.Spent n)) e = refl
told-again given lines (found.Unknown cause.Starved) e = refl

-- what is found of a question has its evidence, and leads on
pub asking-found : {S O : Type 0} (k : Key) (ask : Terms) (step : S → ReplyBody → Next S O) (s : S) (r : Posted) (n : ℕ) (before after : List Event) (t : Proofs → S) (q : Posted) (x : Finding) → HasRoom step s r → (u : Asking k ask step s r n before t q) → HasFound k ask u.rounds q x after → IsFoundIn step s r t (n + 1) x
asking-found {S} {O} k ask step s r n before after t q x room u h = record {
  proofs = told;
  assumptions = q.assumptions;
  evident = subst (IsSupported r.variables r.clauses q.assumptions) same (search-told k ask step s r u.rounds (t told) q (told_by h.0 x) after room.assumes leads h.1);
  asked = asked_in (u.rounds ++ round ∷ []);
  supported = search-supported k ask step s r (u.rounds ++ round ∷ []) after (step (t told) (told_by h.0 x)) room.assumes h.1.inquiry more;
  leads = subst (λ (body : ReplyBody). Leads step (Asks s r) (asked_in (u.rounds ++ round ∷ [])) (step (t told) body)) same more;
}
  where
    round : Round
    round = round_of (record { revision = q; told = told_by h.0 x }) h.1.turns

    told : Proofs
    told = proofs_in k after

    are : AreToldIn (u.rounds ++ round ∷ []) told
    are = proofs-told k ask (u.rounds ++ round ∷ []) after h.1.inquiry

    same : told_by h.0 x ≡ told_by (told (n + 1)) x
    same = sym (told-again (told (n + 1)) h.0 x (told-last u.rounds round told n u.counted are))

    leads : Leads step (Asks s r) (asked_in u.rounds) (Asks (t told) q)
    leads = u.leads told (told-before u.rounds (round ∷ []) told are)

    more : Leads step (Asks s r) (asked_in (u.rounds ++ round ∷ [])) (step (t told) (told_by h.0 x))
    more = leads-more step (Asks s r) u.rounds (t told) q round leads refl

-- and the search goes on to what follows
pub asking-next : {S O : Type 0} (k : Key) (ask : Terms) (step : S → ReplyBody → Next S O) (s : S) (r : Posted) (n : ℕ) (before after : List Event) (t : Proofs → S) (q : Posted) (x : Finding) (next : Proofs → Next S O) → (u : Asking k ask step s r n before t q) → HasFound k ask u.rounds q x after → ((proofs : Proofs) → next proofs ≡ step (t proofs) (told_by (proofs (n + 1)) x)) → IsUnderway k ask step (Asks s r) (n + 1) after next
asking-next k ask step s r n before after t q x next u h e =
    underway-asked k ask step (Asks s r) n before after t q (told_by h.0 x) next u h.1 (λ proofs told. e proofs ∙ ap (step (t proofs)) (told-again (proofs (n + 1)) h.0 x told))

-- the same of a job under the key of an inquiry, by what follows
pub goes-on : {S P O T R : Type 0} (stood : Proofs → S → T) (proved : P → List Line → R) (reached : O → R) (k j : Key) (ask : Terms) (step : T → ReplyBody → Next T R) (first : Next T R) (n : ℕ) (before after : List Event) (now : Proofs → Next T R) (x y : code.Next S P O) → k ≡ j → x ≡ y → ((t : Terms) → IsUnderway k t step first n before now → IsUnderway k t step first (n + 1) after (λ proofs. next_by stood proved reached proofs x)) → IsUnderway j ask step first n before now → IsUnderway j ask step first (n + 1) after (λ proofs. next_by stood proved reached proofs y)
goes-on {S} {P} {O} stood proved reached k j ask step first n before after now x y e f go u =
    subst (λ (z : code.Next S P O). IsUnderway j ask step first (n + 1) after (λ proofs. next_by stood proved reached proofs z)) f
    (subst (λ (i : Key). IsUnderway i ask step first (n + 1) after (λ proofs. next_by stood proved reached proofs x)) e
    (go ask (subst (λ (i : Key). IsUnderway i ask step first n before now) (sym e) u)))

-- an outcome that is told with the lines of the proof of a question
pub proves-same : {P T R : Type 0} (proved : P → List Line → R) (outcome : P) (number : ℕ) (k j : Key) (history : List Event) (lines : List Line) (reached : R) → reached ≡ proved outcome lines → lines ≡ proofs_in k history number → k ≡ j → ◌≡◌ {A = Next T R} (Ends (proved outcome (proofs_in j history number))) (Ends reached)
proves-same {P} {T} {R} proved outcome number k j history lines reached e f g = same (proved outcome (proofs_in j history number)) (sym (e ∙ ap (proved outcome) (f ∙ ap (λ (i : Key). proofs_in i history number) g)))
  where
    same : (r : R) → r ≡ reached → ◌≡◌ {A = Next T R} (Ends r) (Ends reached)
    same r h = rw h refl
