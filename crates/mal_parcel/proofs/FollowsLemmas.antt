-- What comes next of the slices and of the answers where a start that is out ran a slice.
use Rattle.std.proofs.Common.{◌≡◌, ℕ, zero, suc, ◌<◌, ◌≤◌, ◌^◌, Bool, true, false, cond, not, ◌&&◌, List, [], ◌∷◌, ◌++◌, length, drop, Option, Some, None, refl, sym, ◌∙◌, ap, arith, append_assoc, append-nil}
use Rattle.std.specs.Prelude.{flat_map, is_some, option_and_then, option_map, slice_get}
use Rattle.std.specs.List.{AllByRecursion}
use Rattle.mal_base.specs.NumberedClause.{Line}
use Rattle.mal_base.specs.declared.answer.Answer.{Answer}
use Rattle.mal_base.specs.declared.verdict.Outcome.TheVariants.{Ran}
use Rattle.mal_base.specs.declared.verdict.Verdict.{Verdict}
use Rattle.mal_base.specs.declared.verdict.Verdict.TheVariants.{Satisfiable, Unsatisfiable}
use Rattle.spec_job.specs.Leased.{model_with}
use Rattle.spec_job.specs.Models.{variables_through}
use Rattle.spec_job.specs.SoloMachine.{Finished, Lease, Slice, SoloMachine, solo, place_at, is_late, remembered}
use Rattle.spec_job.specs.Viewed.{JobView}
use Rattle.spec_search.specs.Slice.{Sliced}
use Rattle.spec_lrat.specs.Laws.{WrittenIsRead}
use Rattle.spec_parcel.specs.Packed.{answer_bytes, listed, slice_bytes}
use Rattle.mal_job.specs.Asking.{answer_by}
use Rattle.mal_job.specs.Finishing.{MayFollow, slice_out}
use Rattle.mal_job.proofs.FollowLemmas.{next-slice, next-answer, may-follow}
use Rattle.mal_parcel.specs.Answered.{given_at}
use Rattle.mal_parcel.specs.Replaying.{IsBefore, slices_left}
use Rattle.mal_parcel.specs.Told.{lines_in, slice_at}
use Rattle.mal_parcel.proofs.AnsweredLemmas.{ComesNext, given-again}
use Rattle.mal_parcel.proofs.ReadLemmas.{IsReadable, lines-again}
use Rattle.mal_parcel.proofs.TakeLemmas.{told-again}
use Rattle.mal_parcel.proofs.PassLemmas.{lawful-passes, lease-out, ran-slices, ran-whole, slices-next}
use Rattle.mal_parcel.proofs.ReadableLemmas.{slice-readable, lawful-goal}

-- what stands at a place, and after it
get-drop : {X : Type 0} (xs : List X) (n : ℕ) (x : X) → slice_get xs n ≡ Some x → drop n xs ≡ x ∷ drop (suc n) xs
get-drop {X} [] n x e = absurd (cc)
get-drop {X} (y ∷ ys) zero x e = let same : y ≡ x = cc in ap (λ (z : X). z ∷ ys) same
get-drop {X} (y ∷ ys) (suc n) x e = get-drop ys n x e

module _ (i : ℕ) (j : JobView) (slices answers : List ℕ) (b : IsBefore (Finished i Ran) j slices answers) where
  abbrev s : SoloMachine
  s = solo b.past

  abbrev after : SoloMachine
  after = solo (b.past ++ Finished i Ran ∷ [])

  abbrev whole : SoloMachine
  whole = solo (b.past ++ Finished i Ran ∷ b.later)

  abbrev lease : (l : Lease) × ((place_at s i).out ≡ Some l)
  lease = lease-out (place_at s i).out (lawful-passes b.past (Finished i Ran) b.later refl b.lawful)

  abbrev x : Sliced
  x = slice_out s i lease.0

  -- the next slice
  abbrev pub next : Slice
  next = remembered s lease.0 x

  there : slice_get whole.slices (length s.slices) ≡ Some next
  there = next-slice b.past b.later i lease.0 lease.1

  pub next-readable : AllByRecursion IsReadable next.lines
  next-readable = slice-readable (b.past ++ Finished i Ran ∷ b.later) b.lawful (length s.slices) next there

  pub next-bytes : slices ≡ slice_bytes next ++ slices_left whole after
  next-bytes =
      b.replayed.slices_to_come ∙ (ap (λ (bs : List ℕ). bs ++ listed answer_bytes whole.answers) (slices-next b.past (Finished i Ran) b.later slice_bytes (next ∷ []) (ran-slices s i lease.0 lease.1) ∙ ap (λ (bs : List ℕ). bs ++ flat_map slice_bytes (drop (length after.slices) whole.slices)) (append-nil (slice_bytes next)))
      ∙ append_assoc (slice_bytes next) (flat_map slice_bytes (drop (length after.slices) whole.slices)) (listed answer_bytes whole.answers))

  state-is : j.titled.state ≡ s
  state-is = ap (λ (v : JobView). v.titled.state) b.replayed.job

  -- its lines may be followed, with the answer that comes next where it ends a revision
  pub next-follows : (lines : List Line) (answer : Option Answer) → lines ≡ next.lines → answer ≡ cond next.ends (slice_get whole.answers (length s.answers)) None → MayFollow j i lines answer
  next-follows lines answer told given = may-follow b.past b.later i lease.0 lease.1 j next lines answer state-is there told given

  verdict-is : (v : Verdict) → is_late s lease.0 ≡ false → x.node.verdict ≡ Some v → (a : Answer) × ((slice_get whole.answers (length s.answers) ≡ Some a) × ComesNext (variables_through s.revisions (length s.answers)) answers a)
  verdict-is v now e = (answer_by v (model_with (Some v) x.node), (next-answer b.past b.later i lease.0 lease.1 v now e, by_verdict v refl))
    where
      a : Verdict → Answer
      a w = answer_by w (model_with (Some w) x.node)

      front : (w : Verdict) → v ≡ w → answers ≡ answer_bytes (a w) ++ flat_map answer_bytes (drop (suc (length s.answers)) whole.answers)
      front w is = b.replayed.answers_to_come ∙ ap (λ (given : List Answer). flat_map answer_bytes given) (get-drop whole.answers (length s.answers) (a w) (next-answer b.past b.later i lease.0 lease.1 w now (e ∙ ap (λ (y : Verdict). Some y) is)))

      soon : (w : Verdict) → v ≡ w → slice_get (solo (b.past ++ Finished i Ran ∷ [])).answers (length s.answers) ≡ Some (a w)
      soon w is = next-answer b.past [] i lease.0 lease.1 w now (e ∙ ap (λ (y : Verdict). Some y) is)

      by_verdict : (w : Verdict) → v ≡ w → ComesNext (variables_through s.revisions (length s.answers)) answers (a w)
      by_verdict Satisfiable is = record { verdict = ran-whole b.past i b.later (model_with (Some Satisfiable) x.node) b.lawful (soon Satisfiable is); more = flat_map answer_bytes (drop (suc (length s.answers)) whole.answers); front = front Satisfiable is }
      by_verdict (Unsatisfiable goal) is =
          let low : (1 ≤ goal) × (goal < 2 ^ 62) = lawful-goal (b.past ++ Finished i Ran ∷ b.later) b.lawful (length s.answers) goal (next-answer b.past b.later i lease.0 lease.1 (Unsatisfiable goal) now (e ∙ ap (λ (y : Verdict). Some y) is)) in
          record { verdict = (low.0, omega (arith, low.1)); more = flat_map answer_bytes (drop (suc (length s.answers)) whole.answers); front = front (Unsatisfiable goal) is }

  -- where the slice ends a revision the next answer is its
  pub next-ends : next.ends ≡ true → (a : Answer) × ((slice_get whole.answers (length s.answers) ≡ Some a) × ComesNext (variables_through s.revisions (length s.answers)) answers a)
  next-ends e = by_test (is_late s lease.0) refl x.node.verdict refl e
    where
      by_test : (late : Bool) → is_late s lease.0 ≡ late → (v : Option Verdict) → x.node.verdict ≡ v → (not late && is_some v) ≡ true → (a : Answer) × ((slice_get whole.answers (length s.answers) ≡ Some a) × ComesNext (variables_through s.revisions (length s.answers)) answers a)
      by_test true late v is q = absurd (cc)
      by_test false now None is q = absurd (cc)
      by_test false now (Some v) is q = verdict-is v now is

  -- what was read of it is what has to be given
  pub next-given : given_at next.ends (variables_through j.titled.state.revisions (length j.titled.state.answers)) answers ≡ Some (cond next.ends (slice_get whole.answers (length s.answers)) None)
  next-given = by_ends next.ends refl
    where
      by_ends : (e : Bool) → next.ends ≡ e → given_at e (variables_through j.titled.state.revisions (length j.titled.state.answers)) answers ≡ Some (cond e (slice_get whole.answers (length s.answers)) None)
      by_ends false is = refl
      by_ends true is =
          let found = next-ends is in
          ap (λ (t : SoloMachine). given_at true (variables_through t.revisions (length t.answers)) answers) state-is
          ∙ (given-again (variables_through s.revisions (length s.answers)) answers found.0 found.1.1 ∙ ap (λ (o : Option Answer). Some o) (sym found.1.0))

  -- the slice is read
  pub next-told : WrittenIsRead → length slices < 2 ^ 63 → slice_at slices ≡ Some (next.lines, (next.ends, slices_left whole after))
  next-told written short =
      let rest : List ℕ = slices_left whole after in
      let fits : length (slice_bytes next ++ rest) < 2 ^ 63 = omega (arith, short, ap (λ (bs : List ℕ). length bs) next-bytes) in
      ap slice_at next-bytes
      ∙ (ap (option_and_then (λ (t : Bool × (List ℕ × List ℕ)). option_map (λ (ls : List Line). (ls, (t.0, t.1.1))) (lines_in t.1.0))) (told-again next rest fits)
      ∙ ap (option_map (λ (ls : List Line). (ls, (next.ends, rest)))) (lines-again written next.lines next-readable))
