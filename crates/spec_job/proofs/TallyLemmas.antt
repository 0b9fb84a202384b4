-- The starts of a job that have ended, counted revision by revision.
use Rattle.std.proofs.Common.{◌≡◌, ◌≢◌, ℕ, ◌+◌, ◌-◌, ◌<◌, ◌≤◌, Bool, true, false, cond, not, ◌&&◌, ◌==◌, List, [], ◌∷◌, ◌++◌, length, replicate, Option, Some, None, inl, inr, ◌⊎◌, refl, sym, ◌∙◌, ap, subst, arith, append-nil, length-append}
use Rattle.std.specs.Prelude.{All, filter, slice_get}
use Rattle.std.proofs.lemmas.Bool.{and_left, ne_eqb}
use Rattle.std.proofs.lemmas.List.{length-replicate}
use Rattle.std.proofs.lemmas.List.Elements.{All-nil, All-head, All-tail, All-weaker, filter-append}
use Rattle.mal_base.specs.declared.answer.Answer.{Answer}
use Rattle.mal_base.specs.declared.answer.Answer.TheVariants.{Refuted, Spent}
use Rattle.spec_job.specs.SoloMachine.{SoloMachine, answered, settled_by}
use Rattle.spec_job.specs.DemandOne.{had_memory}
use Rattle.spec_job.specs.Unknown.{Ending, has_run, is_slice_of, slices_of, is_starved_of, starved_of, IsAccountedFor}
use Rattle.spec_job.proofs.ElementLemmas.{get-push, get-repeated}
use Rattle.spec_job.proofs.FewLemmas.{outs_for}

-- of one more that has ended, where it passes a test and where it does not
pub filter-more : (f : Ending → Bool) (es : List Ending) (e : Ending) → f e ≡ true → filter f (es ++ e ∷ []) ≡ filter f es ++ e ∷ []
filter-more f es e h = filter-append f es (e ∷ []) ∙ ap (λ (b : Bool). filter f es ++ cond b (e ∷ []) []) h

pub filter-same : (f : Ending → Bool) (es : List Ending) (e : Ending) → f e ≡ false → filter f (es ++ e ∷ []) ≡ filter f es
filter-same f es e h = filter-append f es (e ∷ []) ∙ (ap (λ (b : Bool). filter f es ++ cond b (e ∷ []) []) h ∙ append-nil (filter f es))

filter-none : (f : Ending → Bool) (es : List Ending) → All (λ e. f e ≡ false) es → filter f es ≡ []
filter-none f [] h = refl
filter-none f (e ∷ es) h =
    let here : f e ≡ false = All-head (λ (x : Ending). f x ≡ false) e es h in
    let rest : filter f es ≡ [] = filter-none f es (All-tail (λ (x : Ending). f x ≡ false) e es h) in
    ap (λ (b : Bool). cond b (e ∷ filter f es) (filter f es)) here ∙ rest

-- of another revision
pub no-slice : (r : ℕ) (e : Ending) → e.revision ≢ r → is_slice_of r e ≡ false
no-slice r e other = and_left (e.revision == r) (has_run e.outcome) (ne_eqb e.revision r other)

pub no-starved : (r : ℕ) (e : Ending) → e.revision ≢ r → is_starved_of r e ≡ false
no-starved r e other = and_left (e.revision == r) (not e.late && not (had_memory e.outcome)) (ne_eqb e.revision r other)

-- where all that ended was of earlier revisions
pub slices-none : (r : ℕ) (es : List Ending) → All (λ e. e.revision < r) es → slices_of r es ≡ []
slices-none r es h = filter-none (is_slice_of r) es (All-weaker (λ (e : Ending). e.revision < r) (λ (e : Ending). is_slice_of r e ≡ false) (λ e low. no-slice r e (λ same. absurd (omega (arith, low, same)))) es h)

pub starved-none : (r : ℕ) (es : List Ending) → All (λ e. e.revision < r) es → starved_of r es ≡ []
starved-none r es h = filter-none (is_starved_of r) es (All-weaker (λ (e : Ending). e.revision < r) (λ (e : Ending). is_starved_of r e ≡ false) (λ e low. no-starved r e (λ same. absurd (omega (arith, low, same)))) es h)

-- what has ended was of revisions that were posted, up to the current one; each answer is accounted for; and no start
-- is out for a revision whose budget was spent
pub record IsTallied (slices : ℕ) (es : List Ending) (s : SoloMachine) : Type 0 where
  pub reached : All (λ e. e.revision ≤ length s.answers) es
  pub posted : All (λ e. e.revision < length s.revisions) es
  pub accounted : (r : ℕ) (a : Answer) → slice_get s.answers r ≡ Some a → IsAccountedFor slices es r a
  pub none_out : (r n : ℕ) → slice_get s.answers r ≡ Some (Spent n) → outs_for r s.places ≡ 0

-- and the machine counts the slices and the starved starts of the current revision
pub record HasTally (slices : ℕ) (es : List Ending) (s : SoloMachine) : Type 0 where
  pub tallied : IsTallied slices es s
  pub spent : length (slices_of (length s.answers) es) ≡ s.spent
  pub no_verdict : All (λ e. e.node.verdict ≡ None) (slices_of (length s.answers) es)
  pub starved : length (starved_of (length s.answers) es) ≡ s.starved

none-counted : (es : List Ending) → es ≡ [] → length es ≡ 0
none-counted es e = ap (λ (xs : List Ending). length xs) e

-- a machine that counts from nothing for its current revision
pub fresh-tally : (slices : ℕ) (es : List Ending) (s : SoloMachine) → IsTallied slices es s → All (λ e. e.revision < length s.answers) es → s.spent ≡ 0 → s.starved ≡ 0 → HasTally slices es s
fresh-tally slices es s h early spent starved = record {
  tallied = h;
  spent = none-counted (slices_of (length s.answers) es) (slices-none (length s.answers) es early) ∙ sym spent;
  no_verdict = subst (λ (xs : List Ending). All (λ e. e.node.verdict ≡ None) xs) (sym (slices-none (length s.answers) es early)) (All-nil (λ (e : Ending). e.node.verdict ≡ None));
  starved = none-counted (starved_of (length s.answers) es) (starved-none (length s.answers) es early) ∙ sym starved;
}

-- the current revision gets an answer that is accounted for
pub answered-tally : (slices : ℕ) (es : List Ending) (s : SoloMachine) (a : Answer) → IsTallied slices es s → IsAccountedFor slices es (length s.answers) a → ((n : ℕ) → a ≡ Spent n → outs_for (length s.answers) s.places ≡ 0) → HasTally slices es (answered s a)
answered-tally slices es s a h good none = fresh-tally slices es (answered s a) (record {
  reached = All-weaker (λ (e : Ending). e.revision ≤ length s.answers) (λ (e : Ending). e.revision ≤ length (s.answers ++ a ∷ [])) (λ e low. omega (arith, low, long)) es h.reached;
  posted = h.posted;
  accounted = λ r b e. by_place r b (get-push s.answers a b r e);
  none_out = λ r n e. out_place r n (get-push s.answers a (Spent n) r e);
}) (All-weaker (λ (e : Ending). e.revision ≤ length s.answers) (λ (e : Ending). e.revision < length (s.answers ++ a ∷ [])) (λ e low. omega (arith, low, long)) es h.reached) refl refl
  where
    long : length (s.answers ++ a ∷ []) ≡ length s.answers + 1
    long = length-append s.answers (a ∷ [])

    by_place : (r : ℕ) (b : Answer) → ((r ≡ length s.answers) × (a ≡ b)) ⊎ (slice_get s.answers r ≡ Some b) → IsAccountedFor slices es r b
    by_place r b (inl k) = subst (λ (x : ℕ). IsAccountedFor slices es x b) (sym k.0) (subst (λ (x : Answer). IsAccountedFor slices es (length s.answers) x) k.1 good)
    by_place r b (inr k) = h.accounted r b k

    out_place : (r n : ℕ) → ((r ≡ length s.answers) × (a ≡ Spent n)) ⊎ (slice_get s.answers r ≡ Some (Spent n)) → outs_for r s.places ≡ 0
    out_place r n (inl k) = ap (λ (x : ℕ). outs_for x s.places) k.0 ∙ none n k.1
    out_place r n (inr k) = h.none_out r n k

-- an empty clause answers all that is left
pub settled-tally : (slices : ℕ) (es : List Ending) (o : Option ℕ) (s : SoloMachine) → length s.answers ≤ length s.revisions → HasTally slices es s → HasTally slices es (settled_by o s)
settled-tally slices es None s order h = h
settled-tally slices es (Some goal) s order h = fresh-tally slices es (settled_by (Some goal) s) (record {
  reached = All-weaker (λ (e : Ending). e.revision < length s.revisions) (λ (e : Ending). e.revision ≤ length (s.answers ++ more)) (λ e low. omega (arith, low, all)) es h.tallied.posted;
  posted = h.tallied.posted;
  accounted = λ r b e. by_place r b (get-repeated s.answers (length s.revisions - length s.answers) (Refuted goal) b r e);
  none_out = λ r n e. out_place r n (get-repeated s.answers (length s.revisions - length s.answers) (Refuted goal) (Spent n) r e);
}) (All-weaker (λ (e : Ending). e.revision < length s.revisions) (λ (e : Ending). e.revision < length (s.answers ++ more)) (λ e low. omega (arith, low, all)) es h.tallied.posted) refl refl
  where
    more : List Answer
    more = replicate (length s.revisions - length s.answers) (Refuted goal)

    all : length (s.answers ++ more) ≡ length s.revisions
    all =
        let long : length (s.answers ++ more) ≡ length s.answers + length more = length-append s.answers more in
        let count : length more ≡ length s.revisions - length s.answers = length-replicate (length s.revisions - length s.answers) (Refuted goal) in
        omega arith

    by_place : (r : ℕ) (b : Answer) → ((length s.answers ≤ r) × (Refuted goal ≡ b)) ⊎ (slice_get s.answers r ≡ Some b) → IsAccountedFor slices es r b
    by_place r b (inl k) = subst (λ (x : Answer). IsAccountedFor slices es r x) k.1 tt
    by_place r b (inr k) = h.tallied.accounted r b k

    out_place : (r n : ℕ) → ((length s.answers ≤ r) × (Refuted goal ≡ Spent n)) ⊎ (slice_get s.answers r ≡ Some (Spent n)) → outs_for r s.places ≡ 0
    out_place r n (inl k) = let bad : Refuted goal ≡ Spent n = k.1 in absurd (cc)
    out_place r n (inr k) = h.tallied.none_out r n k
