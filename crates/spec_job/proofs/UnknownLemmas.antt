-- Each answer of a job that is opened once is accounted for by the starts that have ended.
use Rattle.std.proofs.Common.{◌≡◌, ◌≢◌, ℕ, ◌+◌, ◌<◌, ◌≤◌, Bool, true, false, cond, not, ◌&&◌, ◌==◌, List, [], ◌∷◌, ◌++◌, length, Option, Some, None, inl, inr, ◌⊎◌, refl, sym, ◌∙◌, ap, subst, arith, append_assoc, append-nil, length-append}
use Rattle.std.specs.Prelude.{All, slice_get, slice_set}
use Rattle.std.specs.List.{list_all, list_any}
use Rattle.std.specs.Option.{option_map}
use Rattle.std.proofs.lemmas.Bool.{and_parts, or_parts, and_left, and_right, eq-eqb, eqb-true, ne_eqb, ltb-true, cases_lt}
use Rattle.std.proofs.lemmas.List.Elements.{All-nil, All-cons, All-append, All-weaker}
use Rattle.std.proofs.lemmas.List.Sums.{fold_push}
use Rattle.std.proofs.lemmas.Option.{slice_get_within}
use Rattle.mal_base.specs.Asks.{Terms}
use Rattle.mal_base.specs.NumberedClause.{Line}
use Rattle.mal_base.specs.declared.answer.Answer.{Answer}
use Rattle.mal_base.specs.declared.answer.Answer.TheVariants.{Satisfied, Refuted, Spent, OutOfStarts}
use Rattle.mal_base.specs.declared.verdict.Verdict.{Verdict}
use Rattle.mal_base.specs.declared.verdict.Verdict.TheVariants.{Satisfiable, Unsatisfiable}
use Rattle.mal_base.specs.declared.verdict.Outcome.{Outcome}
use Rattle.mal_base.specs.declared.verdict.Outcome.TheVariants.{Ran, Starved, Lost}
use Rattle.spec_node.specs.Model.{model_of}
use Rattle.spec_job.specs.SoloMachine.{Own, Opened, Revised, Reasked, Closed, Volume, Started, Finished, Exchanged, Lease, NodeSlot, Slice, SoloMachine, unopened, solo, solo_step, place_at, answered, spend, starve, conclude, first_empty, settled, is_for, is_late, finished_lease, finished}
use Rattle.spec_job.specs.Counts.{is_opening}
use Rattle.spec_job.specs.DemandOne.{had_memory}
use Rattle.spec_job.specs.Runnable.{MayHappen, IsRunnable}
use Rattle.spec_job.specs.Unknown.{Ending, ending_of, ended_by, with_ending, endings_from, endings, has_run, is_slice_of, slices_of, is_starved_of, starved_of, IsAccountedFor, IsVerdictOrSpent, is_fed, AnswersAccountedFor, FedAnswersDecide, RunnableAnswersAccountedFor, RunnableFedAnswersDecide}
use Rattle.spec_job.proofs.BudgetLemmas.{IsFew}
use Rattle.spec_job.proofs.FinishLemmas.{with_entries, ran_home, by-ran, by-starved}
use Rattle.spec_job.proofs.FewLemmas.{one_if, out_for, outs_for}
use Rattle.spec_job.proofs.PlacesLemmas.{out-within}
use Rattle.spec_job.proofs.RunsLemmas.{IsWithin, step-within, events-within, opened-within}
use Rattle.spec_job.proofs.SolvedLemmas.{in-time, lease-solving}
use Rattle.spec_job.proofs.SolvingLemmas.{IsSolvingSolo, lease_of, out-leased}
use Rattle.spec_job.proofs.SumLemmas.{sum-set, sum-marked, set-beyond}
use Rattle.spec_job.proofs.TallyLemmas.{filter-more, filter-same, no-slice, no-starved, IsTallied, HasTally, answered-tally, settled-tally}

-- an event that ends no start, and leaves answers, counts and the starts that are out
kept-tally : (slices : ℕ) (es : List Ending) (s t : SoloMachine) → t.answers ≡ s.answers → length s.revisions ≤ length t.revisions → t.spent ≡ s.spent → t.starved ≡ s.starved → ((r n : ℕ) → slice_get s.answers r ≡ Some (Spent n) → outs_for r s.places ≡ 0 → outs_for r t.places ≡ 0) → HasTally slices es s → HasTally slices es t
kept-tally slices es s t a more spent starved outs h = record {
  tallied = record {
    reached = subst (λ (xs : List Answer). All (λ e. e.revision ≤ length xs) es) (sym a) h.tallied.reached;
    posted = All-weaker (λ (e : Ending). e.revision < length s.revisions) (λ (e : Ending). e.revision < length t.revisions) (λ e low. omega (arith, low, more)) es h.tallied.posted;
    accounted = subst (λ (xs : List Answer). (r : ℕ) (b : Answer) → slice_get xs r ≡ Some b → IsAccountedFor slices es r b) (sym a) h.tallied.accounted;
    none_out = λ r n e. let old : slice_get s.answers r ≡ Some (Spent n) = ap (λ (xs : List Answer). slice_get xs r) (sym a) ∙ e in outs r n old (h.tallied.none_out r n old);
  };
  spent = ap (λ (xs : List Answer). length (slices_of (length xs) es)) a ∙ (h.spent ∙ sym spent);
  no_verdict = subst (λ (xs : List Answer). All (λ e. e.node.verdict ≡ None) (slices_of (length xs) es)) (sym a) h.no_verdict;
  starved = ap (λ (xs : List Answer). length (starved_of (length xs) es)) a ∙ (h.starved ∙ sym starved);
}

-- a start is for the current revision, which has no answer
started-tally : (slices : ℕ) (es : List Ending) (s : SoloMachine) (i : ℕ) → HasTally slices es s → HasTally slices es (solo_step s (Started i))
started-tally slices es s i h = kept-tally slices es s (solo_step s (Started i)) refl (omega arith) refl refl (λ r n e none. by_place r (slice_get_within s.answers r (Spent n) e) none (cases_lt i (length s.places))) h
  where
    q : NodeSlot
    q = record (place_at s i) { out = Some (lease_of s i); starts = (place_at s i).starts + 1 }

    by_place : (r : ℕ) → r < length s.answers → outs_for r s.places ≡ 0 → (i < length s.places) ⊎ (length s.places ≤ i) → outs_for r (slice_set s.places i q) ≡ 0
    by_place r low none (inl within) =
        let set : outs_for r (slice_set s.places i q) + out_for r (place_at s i) ≡ outs_for r s.places + out_for r q = sum-set (out_for r) s.places i q within in
        let other : out_for r q ≡ 0 = ap one_if (ne_eqb (length s.answers) r (λ e. absurd (omega (arith, e, low)))) in
        omega (arith, set, other, none)
    by_place r low none (inr past) = ap (λ (ps : List NodeSlot). outs_for r ps) (set-beyond s.places i q past) ∙ none

marked-tally : (slices : ℕ) (es : List Ending) (s : SoloMachine) → HasTally slices es s → HasTally slices es (solo_step s Exchanged)
marked-tally slices es s h = kept-tally slices es s (solo_step s Exchanged) refl (omega arith) refl refl (λ r n e none. sum-marked (out_for r) (λ m p. refl) s.volume (length s.log) 0 s.places ∙ none) h

revised-tally : (slices : ℕ) (es : List Ending) (s t : SoloMachine) → t.answers ≡ s.answers → t.places ≡ s.places → length s.revisions ≤ length t.revisions → t.spent ≡ s.spent → t.starved ≡ s.starved → HasTally slices es s → HasTally slices es t
revised-tally slices es s t a places more spent starved h = kept-tally slices es s t a more spent starved (λ r n e none. ap (λ (ps : List NodeSlot). outs_for r ps) places ∙ none) h

-- a start that has ended, with its place at home
module _ (slices i : ℕ) (es : List Ending) (s : SoloMachine) (l : Lease) (o : Outcome) (out : (place_at s i).out ≡ Some l) (k : IsSolvingSolo s) (few : IsFew slices s) (h : HasTally slices es s) where
  abbrev e : Ending
  e = ending_of s i o l

  abbrev all : List Ending
  all = es ++ e ∷ []

  within : i < length s.places
  within = out-within s.places i l out

  reached : l.revision ≤ length s.answers
  reached = (out-leased s i l out k).reached

  posted : l.revision < length s.revisions
  posted = (out-leased s i l out k).posted

  -- one start less is out
  outs : (q : NodeSlot) → q.out ≡ None → (r : ℕ) → outs_for r (slice_set s.places i q) + one_if (l.revision == r) ≡ outs_for r s.places
  outs q none r =
      let set : outs_for r (slice_set s.places i q) + out_for r (place_at s i) ≡ outs_for r s.places + out_for r q = sum-set (out_for r) s.places i q within in
      let old : out_for r (place_at s i) ≡ one_if (l.revision == r) = ap (λ (x : Option Lease). one_if (is_for r x)) out in
      let new : out_for r q ≡ 0 = ap (λ (x : Option Lease). one_if (is_for r x)) none in
      omega (arith, set, old, new)

  -- a revision whose budget was spent is another
  other-spent : (r n : ℕ) → slice_get s.answers r ≡ Some (Spent n) → l.revision ≢ r
  other-spent r n a same =
      let one : one_if (l.revision == r) ≡ 1 = ap one_if (eq-eqb l.revision r same) in
      let less : outs_for r (slice_set s.places i (record (place_at s i) { out = None })) + one_if (l.revision == r) ≡ outs_for r s.places = outs (record (place_at s i) { out = None }) refl r in
      let none : outs_for r s.places ≡ 0 = h.tallied.none_out r n a in
      absurd (omega (arith, one, less, none))

  late-flag : (r : ℕ) (late starved : Bool) (x : Bool) → late ≡ true → (x && (not late && starved)) ≡ false
  late-flag r late starved x is = and_right x (not late && starved) (and_left (not late) starved (ap not is))

  -- a late start that ran out of memory is none of a revision's
  not-starved : (r : ℕ) → r < length s.answers → is_starved_of r e ≡ false
  not-starved r low = by_late (is_late s l) refl
    where
      by_late : (b : Bool) → is_late s l ≡ b → is_starved_of r e ≡ false
      by_late true late = late-flag r (is_late s l) (not (had_memory o)) (l.revision == r) late
      by_late false now = let same : l.revision ≡ length s.answers = in-time s l reached now in no-starved r e (λ is. absurd (omega (arith, is, same, low)))

  still : (r : ℕ) (a : Answer) → slice_get s.answers r ≡ Some a → IsAccountedFor slices es r a → IsAccountedFor slices all r a
  still r (Satisfied model) a good = tt
  still r (Refuted goal) a good = tt
  still r (Spent n) a good = record { budget = good.budget; count = ap (λ (xs : List Ending). length xs) same ∙ good.count; no_verdict = subst (λ (xs : List Ending). All (λ x. x.node.verdict ≡ None) xs) (sym same) good.no_verdict }
    where
      same : slices_of r all ≡ slices_of r es
      same = filter-same (is_slice_of r) es e (no-slice r e (other-spent r n a))
  still r OutOfStarts a good = ap (λ (xs : List Ending). length xs) (filter-same (is_starved_of r) es e (not-starved r (slice_get_within s.answers r OutOfStarts a))) ∙ good

  home-tallied : (q : NodeSlot) (log : List Line) (kept : List Slice) (ran : ℕ) → q.out ≡ None → IsTallied slices all (record s { places = slice_set s.places i q; log = log; slices = kept; ran = ran })
  home-tallied q log kept ran none = record {
    reached = All-append (λ x. x.revision ≤ length s.answers) es (e ∷ []) h.tallied.reached (All-cons (λ x. x.revision ≤ length s.answers) e [] reached (All-nil (λ x. x.revision ≤ length s.answers)));
    posted = All-append (λ x. x.revision < length s.revisions) es (e ∷ []) h.tallied.posted (All-cons (λ x. x.revision < length s.revisions) e [] posted (All-nil (λ x. x.revision < length s.revisions)));
    accounted = λ r a is. still r a is (h.tallied.accounted r a is);
    none_out = λ r n is. let less : outs_for r (slice_set s.places i q) + one_if (l.revision == r) ≡ outs_for r s.places = outs q none r in let zero_out : outs_for r s.places ≡ 0 = h.tallied.none_out r n is in omega (arith, less, zero_out);
  }

  -- it counts for nothing
  home-tally : (q : NodeSlot) (log : List Line) (kept : List Slice) (ran : ℕ) → q.out ≡ None → is_slice_of (length s.answers) e ≡ false → is_starved_of (length s.answers) e ≡ false → HasTally slices all (record s { places = slice_set s.places i q; log = log; slices = kept; ran = ran })
  home-tally q log kept ran none slice starved = record {
    tallied = home-tallied q log kept ran none;
    spent = ap (λ (xs : List Ending). length xs) (filter-same (is_slice_of (length s.answers)) es e slice) ∙ h.spent;
    no_verdict = subst (λ (xs : List Ending). All (λ x. x.node.verdict ≡ None) xs) (sym (filter-same (is_slice_of (length s.answers)) es e slice)) h.no_verdict;
    starved = ap (λ (xs : List Ending). length xs) (filter-same (is_starved_of (length s.answers)) es e starved) ∙ h.starved;
  }

  late-other : is_late s l ≡ true → l.revision ≢ length s.answers
  late-other late same = let low : l.revision < length s.answers = ltb-true l.revision (length s.answers) late in absurd (omega (arith, low, same))

  late-tally : (q : NodeSlot) (log : List Line) (kept : List Slice) (ran : ℕ) → q.out ≡ None → is_late s l ≡ true → HasTally slices all (record s { places = slice_set s.places i q; log = log; slices = kept; ran = ran })
  late-tally q log kept ran none late = home-tally q log kept ran none (no-slice (length s.answers) e (late-other late)) (no-starved (length s.answers) e (late-other late))

  current : is_late s l ≡ false → l.revision ≡ length s.answers
  current now = in-time s l reached now

  -- the slices of the current revision, with this one
  abbrev after : List Ending
  after = slices_of (length s.answers) es ++ e ∷ []

  sliced : o ≡ Ran → is_late s l ≡ false → slices_of (length s.answers) all ≡ after
  sliced ran now = filter-more (is_slice_of (length s.answers)) es e (ap (λ (b : Bool). b && has_run o) (eq-eqb l.revision (length s.answers) (current now)) ∙ ap has_run ran)

  one-more : o ≡ Ran → is_late s l ≡ false → length (slices_of (length s.answers) all) ≡ s.spent + 1
  one-more ran now =
      let long : length after ≡ length (slices_of (length s.answers) es) + 1 = length-append (slices_of (length s.answers) es) (e ∷ []) in
      let same : length (slices_of (length s.answers) all) ≡ length after = ap (λ (xs : List Ending). length xs) (sliced ran now) in
      omega (arith, long, same, h.spent)

  none-yet : o ≡ Ran → is_late s l ≡ false → e.node.verdict ≡ None → All (λ x. x.node.verdict ≡ None) (slices_of (length s.answers) all)
  none-yet ran now none = subst (λ (xs : List Ending). All (λ x. x.node.verdict ≡ None) xs) (sym (sliced ran now)) (All-append (λ x. x.node.verdict ≡ None) (slices_of (length s.answers) es) (e ∷ []) h.no_verdict (All-cons (λ x. x.node.verdict ≡ None) e [] none (All-nil (λ x. x.node.verdict ≡ None))))

  -- the place at home
  module _ (q : NodeSlot) (log : List Line) (kept : List Slice) (count : ℕ) (none : q.out ≡ None) (now : is_late s l ≡ false) where
    abbrev t : SoloMachine
    t = record s { places = slice_set s.places i q; log = log; slices = kept; ran = count }

    tallied : IsTallied slices all t
    tallied = home-tallied q log kept count none

    last-out : s.spent + 1 ≡ s.ask.slices → outs_for (length s.answers) t.places ≡ 0
    last-out full =
        let less : outs_for (length s.answers) (slice_set s.places i q) + one_if (l.revision == length s.answers) ≡ outs_for (length s.answers) s.places = outs q none (length s.answers) in
        let one : one_if (l.revision == length s.answers) ≡ 1 = ap one_if (eq-eqb l.revision (length s.answers) (current now)) in
        omega (arith, less, one, full, few.shared, few.budget)

    -- a slice without a verdict
    spend-tally : o ≡ Ran → e.node.verdict ≡ None → HasTally slices all (spend t)
    spend-tally ran blank = by_test (s.spent + 1 == s.ask.slices) refl
      where
        by_test : (b : Bool) → (s.spent + 1 == s.ask.slices) ≡ b → HasTally slices all (cond b (answered t (Spent s.ask.slices)) (record t { spent = s.spent + 1 }))
        by_test true full = answered-tally slices all t (Spent s.ask.slices) tallied (record { budget = few.budget; count = one-more ran now ∙ eqb-true (s.spent + 1) s.ask.slices full; no_verdict = none-yet ran now blank }) (λ n is. last-out (eqb-true (s.spent + 1) s.ask.slices full))
        by_test false left = record { tallied = record { reached = tallied.reached; posted = tallied.posted; accounted = tallied.accounted; none_out = tallied.none_out }; spent = one-more ran now; no_verdict = none-yet ran now blank; starved = same-starved }
          where
            fed : is_starved_of (length s.answers) e ≡ false
            fed = and_right (l.revision == length s.answers) (not (is_late s l) && not (had_memory o)) (and_right (not (is_late s l)) (not (had_memory o)) (ap (λ (x : Outcome). not (had_memory x)) ran))

            same-starved : length (starved_of (length s.answers) all) ≡ s.starved
            same-starved = ap (λ (xs : List Ending). length xs) (filter-same (is_starved_of (length s.answers)) es e fed) ∙ h.starved

    conclude-tally : o ≡ Ran → (v : Option Verdict) → e.node.verdict ≡ v → HasTally slices all (conclude v e.node t)
    conclude-tally ran None blank = spend-tally ran blank
    conclude-tally ran (Some Satisfiable) is = answered-tally slices all t (Satisfied (model_of e.node)) tallied tt (λ n bad. absurd (cc))
    conclude-tally ran (Some (Unsatisfiable goal)) is = answered-tally slices all t (Refuted goal) tallied tt (λ n bad. absurd (cc))

    -- a start that ran out of memory
    one-starved : o ≡ Starved → length (starved_of (length s.answers) all) ≡ s.starved + 1
    one-starved starved =
        let test : is_starved_of (length s.answers) e ≡ true = ap (λ (b : Bool). b && (not (is_late s l) && not (had_memory o))) (eq-eqb l.revision (length s.answers) (current now)) ∙ (ap (λ (b : Bool). not b && not (had_memory o)) now ∙ ap (λ (x : Outcome). not (had_memory x)) starved) in
        let long : length (starved_of (length s.answers) es ++ e ∷ []) ≡ length (starved_of (length s.answers) es) + 1 = length-append (starved_of (length s.answers) es) (e ∷ []) in
        let same : length (starved_of (length s.answers) all) ≡ length (starved_of (length s.answers) es ++ e ∷ []) = ap (λ (xs : List Ending). length xs) (filter-more (is_starved_of (length s.answers)) es e test) in
        omega (arith, long, same, h.starved)

    starve-tally : o ≡ Starved → HasTally slices all (starve t)
    starve-tally starved = by_test (s.starved + 1 == 3) refl
      where
        no-run : is_slice_of (length s.answers) e ≡ false
        no-run = and_right (l.revision == length s.answers) (has_run o) (ap has_run starved)

        same : slices_of (length s.answers) all ≡ slices_of (length s.answers) es
        same = filter-same (is_slice_of (length s.answers)) es e no-run

        by_test : (b : Bool) → (s.starved + 1 == 3) ≡ b → HasTally slices all (cond b (answered t OutOfStarts) (record t { starved = s.starved + 1 }))
        by_test true third = answered-tally slices all t OutOfStarts tallied (one-starved starved ∙ eqb-true (s.starved + 1) 3 third) (λ n bad. absurd (cc))
        by_test false few-yet = record {
          tallied = record { reached = tallied.reached; posted = tallied.posted; accounted = tallied.accounted; none_out = tallied.none_out };
          spent = ap (λ (xs : List Ending). length xs) same ∙ h.spent;
          no_verdict = subst (λ (xs : List Ending). All (λ x. x.node.verdict ≡ None) xs) (sym same) h.no_verdict;
          starved = one-starved starved;
        }

  -- the start that ended, by its outcome
  pub lease-tally : (x : Outcome) → o ≡ x → HasTally slices all (finished_lease s i (place_at s i) l x)
  lease-tally Ran ran = by-ran (HasTally slices all) s i (place_at s i) l (λ late. late-tally q log kept (s.ran + 1) refl late) (λ now. conclude-tally q log kept (s.ran + 1) refl now ran e.node.verdict refl)
    where
      q : NodeSlot
      q = with_entries (place_at s i) l

      log : List Line
      log = (ran_home s i (place_at s i) l).log

      kept : List Slice
      kept = (ran_home s i (place_at s i) l).slices
  lease-tally Starved starved = by-starved (HasTally slices all) s i (place_at s i) l (λ late. late-tally (record (place_at s i) { out = None }) s.log s.slices s.ran refl late) (λ now. starve-tally (record (place_at s i) { out = None }) s.log s.slices s.ran refl now starved)
  lease-tally Lost lost = home-tally (record (place_at s i) { out = None }) s.log s.slices s.ran refl (and_right (l.revision == length s.answers) (has_run o) (ap has_run lost)) (and_right (l.revision == length s.answers) (not (is_late s l) && not (had_memory o)) (and_right (not (is_late s l)) (not (had_memory o)) (ap (λ (x : Outcome). not (had_memory x)) lost)))

-- the starts that have ended, with what one more event ends
abbrev pub and_ending : List Ending → Option Ending → List Ending
and_ending es x = es ++ with_ending x []

finished-tally : (slices i : ℕ) (es : List Ending) (s : SoloMachine) (out : Option Lease) (o : Outcome) → (place_at s i).out ≡ out → IsSolvingSolo s → IsFew slices s → HasTally slices es s → HasTally slices (and_ending es (option_map (ending_of s i o) out)) (finished s i (place_at s i) out o)
finished-tally slices i es s None o e k few h = subst (λ (xs : List Ending). HasTally slices xs s) (sym (append-nil es)) h
finished-tally slices i es s (Some l) o e k few h =
    let ended : SoloMachine = finished_lease s i (place_at s i) l o in
    settled-tally slices (es ++ ending_of s i o l ∷ []) (first_empty ended.log) ended (lease-solving s i l o e k).order (lease-tally slices i es s l o e k few h o refl)

step-tally : (slices : ℕ) (es : List Ending) (s : SoloMachine) (o : Own) → is_opening o ≡ false → MayHappen s o → IsWithin slices s → HasTally slices es s → HasTally slices (and_ending es (ended_by s o)) (solo_step s o)
step-tally slices es s (Opened ask) once may w h = absurd (cc)
step-tally slices es s (Revised r) once may w h =
    let longer : SoloMachine = record s { revisions = s.revisions ++ r ∷ [] } in
    let long : length (s.revisions ++ r ∷ []) ≡ length s.revisions + 1 = length-append s.revisions (r ∷ []) in
    subst (λ (xs : List Ending). HasTally slices xs (settled longer)) (sym (append-nil es)) (settled-tally slices es (first_empty s.log) longer (omega (arith, long, w.kept.solving.order)) (revised-tally slices es s longer refl refl (omega (arith, long)) refl refl h))
step-tally slices es s (Reasked q) once may w h = subst (λ (xs : List Ending). HasTally slices xs (solo_step s (Reasked q))) (sym (append-nil es)) (revised-tally slices es s (solo_step s (Reasked q)) refl refl (omega arith) refl refl h)
step-tally slices es s Closed once may w h = subst (λ (xs : List Ending). HasTally slices xs (solo_step s Closed)) (sym (append-nil es)) (revised-tally slices es s (solo_step s Closed) refl refl (omega arith) refl refl h)
step-tally slices es s (Volume v) once may w h = subst (λ (xs : List Ending). HasTally slices xs (solo_step s (Volume v))) (sym (append-nil es)) (revised-tally slices es s (solo_step s (Volume v)) refl refl (omega arith) refl refl h)
step-tally slices es s (Started i) once may w h = subst (λ (xs : List Ending). HasTally slices xs (solo_step s (Started i))) (sym (append-nil es)) (started-tally slices es s i h)
step-tally slices es s (Finished i o) once may w h = finished-tally slices i es s (place_at s i).out o refl w.kept.solving w.few h
step-tally slices es s Exchanged once may w h = subst (λ (xs : List Ending). HasTally slices xs (solo_step s Exchanged)) (sym (append-nil es)) (marked-tally slices es s h)

-- what ends after others
ending-first : (es : List Ending) (x : Option Ending) (rest : List Ending) → and_ending es x ++ rest ≡ es ++ with_ending x rest
ending-first es None rest = ap (λ (xs : List Ending). xs ++ rest) (append-nil es)
ending-first es (Some e) rest = append_assoc es (e ∷ []) rest

events-tally : (slices : ℕ) (es : List Ending) (past events : List Own) → IsRunnable past events → list_any is_opening events ≡ false → IsWithin slices (solo past) → HasTally slices es (solo past) → HasTally slices (es ++ endings_from (solo past) events) (solo (past ++ events))
events-tally slices es past [] may once w h = subst (λ (xs : List Ending). HasTally slices xs (solo (past ++ []))) (sym (append-nil es)) (subst (λ (os : List Own). HasTally slices es (solo os)) (sym (append-nil past)) h)
events-tally slices es past (o ∷ os) may once w h =
    let parts = or_parts (is_opening o) (list_any is_opening os) once in
    let push : solo (past ++ o ∷ []) ≡ solo_step (solo past) o = fold_push solo_step unopened past o in
    let within : IsWithin slices (solo (past ++ o ∷ [])) = subst (λ (s : SoloMachine). IsWithin slices s) (sym push) (step-within slices (solo past) o may.0 parts.0 w) in
    let here : HasTally slices (and_ending es (ended_by (solo past) o)) (solo (past ++ o ∷ [])) = subst (λ (s : SoloMachine). HasTally slices (and_ending es (ended_by (solo past) o)) s) (sym push) (step-tally slices es (solo past) o parts.0 may.0 w h) in
    let rest : HasTally slices (and_ending es (ended_by (solo past) o) ++ endings_from (solo (past ++ o ∷ [])) os) (solo ((past ++ o ∷ []) ++ os)) = events-tally slices (and_ending es (ended_by (solo past) o)) (past ++ o ∷ []) os may.1 parts.1 within here in
    let same : and_ending es (ended_by (solo past) o) ++ endings_from (solo (past ++ o ∷ [])) os ≡ es ++ endings_from (solo past) (o ∷ os) = ap (λ (s : SoloMachine). and_ending es (ended_by (solo past) o) ++ endings_from s os) push ∙ ending-first es (ended_by (solo past) o) (endings_from (solo_step (solo past) o) os) in
    subst (λ (xs : List Own). HasTally slices (es ++ endings_from (solo past) (o ∷ os)) (solo xs)) (append_assoc past (o ∷ []) os) (subst (λ (xs : List Ending). HasTally slices xs (solo ((past ++ o ∷ []) ++ os))) same rest)

opened-tally : (ask : Terms) → HasTally ask.slices [] (solo (Opened ask ∷ []))
opened-tally ask = record {
  tallied = record { reached = All-nil (λ e. e.revision ≤ 0); posted = All-nil (λ e. e.revision < 0); accounted = λ r a e. absurd (cc); none_out = λ r n e. absurd (cc) };
  spent = refl;
  no_verdict = All-nil (λ e. e.node.verdict ≡ None);
  starved = refl;
}

-- each answer is accounted for
pub answers-accounted_for : RunnableAnswersAccountedFor
answers-accounted_for ask own h r a e =
    let tally : HasTally ask.slices (endings (Opened ask ∷ own)) (solo (Opened ask ∷ own)) = events-tally ask.slices [] (Opened ask ∷ []) own h.runnable.1 h.once (opened-within ask) (opened-tally ask) in
    let asked : IsWithin ask.slices (solo (Opened ask ∷ own)) = events-within ask.slices (Opened ask ∷ []) own h.runnable.1 h.once (opened-within ask) in
    subst (λ (n : ℕ). IsAccountedFor n (endings (Opened ask ∷ own)) r a) (sym asked.few.budget) (tally.tallied.accounted r a e)

-- where none ran out of memory
none-starved : (s : SoloMachine) (r : ℕ) (events : List Own) → list_all is_fed events ≡ true → starved_of r (endings_from s events) ≡ []
none-starved s r [] h = refl
none-starved s r (o ∷ os) h =
    let parts = and_parts (is_fed o) (list_all is_fed os) h in
    by_ending (ended_by s o) (fed-ending o parts.0) (none-starved (solo_step s o) r os parts.1)
  where
    out-ending : (i : ℕ) (outcome : Outcome) (x : Option Lease) → had_memory outcome ≡ true → (e : Ending) → option_map (ending_of s i outcome) x ≡ Some e → had_memory e.outcome ≡ true
    out-ending i outcome None fed e is = absurd (cc)
    out-ending i outcome (Some l) fed e is = let same : ending_of s i outcome l ≡ e = cc in subst (λ (y : Ending). had_memory y.outcome ≡ true) same fed

    fed-ending : (o : Own) → is_fed o ≡ true → (e : Ending) → ended_by s o ≡ Some e → had_memory e.outcome ≡ true
    fed-ending (Opened ask) fed e is = absurd (cc)
    fed-ending (Revised p) fed e is = absurd (cc)
    fed-ending (Reasked w) fed e is = absurd (cc)
    fed-ending Closed fed e is = absurd (cc)
    fed-ending (Volume v) fed e is = absurd (cc)
    fed-ending (Started i) fed e is = absurd (cc)
    fed-ending (Finished i outcome) fed e is = out-ending i outcome (place_at s i).out fed e is
    fed-ending Exchanged fed e is = absurd (cc)

    by_ending : (x : Option Ending) → ((e : Ending) → x ≡ Some e → had_memory e.outcome ≡ true) → starved_of r (endings_from (solo_step s o) os) ≡ [] → starved_of r (with_ending x (endings_from (solo_step s o) os)) ≡ []
    by_ending None fed rest = rest
    by_ending (Some e) fed rest =
        let test : is_starved_of r e ≡ false = and_right (e.revision == r) (not e.late && not (had_memory e.outcome)) (and_right (not e.late) (not (had_memory e.outcome)) (ap not (fed e refl))) in
        ap (λ (b : Bool). cond b (e ∷ starved_of r (endings_from (solo_step s o) os)) (starved_of r (endings_from (solo_step s o) os))) test ∙ rest

decides : (slices : ℕ) (events : List Own) (r : ℕ) (a : Answer) → list_all is_fed events ≡ true → IsAccountedFor slices (endings events) r a → IsVerdictOrSpent slices (endings events) r a
decides slices events r (Satisfied model) fed h = tt
decides slices events r (Refuted goal) fed h = tt
decides slices events r (Spent n) fed h = h
decides slices events r OutOfStarts fed h =
    let none : length (starved_of r (endings events)) ≡ 0 = ap (λ (xs : List Ending). length xs) (none-starved unopened r events fed) in
    absurd (omega (arith, none, h))

-- answers that are accounted for decide where no start ran out of memory
pub accounted-decides : (events : List Own) → AnswersAccountedFor events → FedAnswersDecide events
accounted-decides events h fed r a e = decides (solo events).ask.slices events r a fed (h r a e)

pub fed-answers_decide : RunnableFedAnswersDecide
fed-answers_decide ask own h = accounted-decides (Opened ask ∷ own) (answers-accounted_for ask own h)
