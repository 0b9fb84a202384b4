-- A job before one of its own events, and after it.
use Rattle.std.proofs.Common.{◌≡◌, ℕ, false, List, [], ◌∷◌, ◌++◌, length, drop, replicate, refl, sym, ◌∙◌, ap, append-nil}
use Rattle.std.specs.Prelude.{flat_map, slice_set}
use Rattle.std.proofs.lemmas.List.{drop_at}
use Rattle.mal_base.specs.declared.answer.Answer.{Answer}
use Rattle.spec_job.specs.KeyedJob.{stepped}
use Rattle.spec_job.specs.Lawful.{MayPass}
use Rattle.spec_job.specs.SoloMachine.{Own, Opened, Revised, Reasked, Closed, Volume, Started, Finished, Exchanged, SoloMachine, solo}
use Rattle.spec_job.specs.Viewed.{JobView, unstarted, and_own, and_start}
use Rattle.spec_job.proofs.PushLemmas.{solo-push}
use Rattle.spec_parcel.specs.Packed.{answer_bytes, listed, slice_bytes}
use Rattle.mal_parcel.specs.Replaying.{IsBefore, IsLow, IsReplayed, is_ran, slices_left, answers_left}
use Rattle.mal_parcel.proofs.PassLemmas.{lawful-passes, out-low, runnable-past, other-slices, slices-next, answers-next, set-same}

-- a start without a number leaves the numbers of starts
pub start-unnumbered : (v : JobView) (i : ℕ) → v.starts ≡ replicate 64 0 → and_start v i 0 ≡ and_own v (Started i)
start-unnumbered v i e = ap (λ (starts : List ℕ). record { number = v.number; titled = stepped v.titled (Started i); starts = starts }) (ap (λ (ns : List ℕ). slice_set ns i 0) e ∙ (set-same 0 64 i ∙ sym e))

module _ (o : Own) (j : JobView) (slices answers : List ℕ) (b : IsBefore o j slices answers) where
  abbrev after : SoloMachine
  after = solo (b.past ++ o ∷ [])

  abbrev whole : SoloMachine
  whole = solo (b.past ++ o ∷ b.later)

  state-is : j.titled.state ≡ solo b.past
  state-is = ap (λ (v : JobView). v.titled.state) b.replayed.job

  -- the event may come
  pub before-passes : MayPass j.titled.state o
  before-passes = rw state-is (lawful-passes b.past o b.later b.other b.lawful)

  -- a start that ends is that of a node
  pub before-low : IsLow o
  before-low = low-by o (lawful-passes b.past o b.later b.other b.lawful)
    where
      low-by : (e : Own) → MayPass (solo b.past) e → IsLow e
      low-by (Opened ask) may = tt
      low-by (Revised r) may = tt
      low-by (Reasked w) may = tt
      low-by Closed may = tt
      low-by (Volume v) may = tt
      low-by (Started i) may = tt
      low-by (Finished i outcome) may = out-low b.past i (runnable-past b.past o b.later b.lawful) may
      low-by Exchanged may = tt

  pub before-starts : j.starts ≡ replicate 64 0
  before-starts = ap (λ (v : JobView). v.starts) b.replayed.job

  -- where it runs no slice the same slices are left
  pub same-left : is_ran o ≡ false → slices ≡ slices_left whole after
  same-left e = b.replayed.slices_to_come ∙ ap (λ (bs : List ℕ). bs ++ listed answer_bytes whole.answers) (slices-next b.past o b.later slice_bytes [] (other-slices (solo b.past) o e ∙ sym (append-nil (solo b.past).slices)))

  -- after it
  pub and-replayed : (next : JobView) (ss rest : List ℕ) → next ≡ and_own j o → ss ≡ slices_left whole after → rest ≡ drop (length (flat_map answer_bytes (drop (length j.titled.state.answers) next.titled.state.answers))) answers → IsReplayed b.number b.key (b.past ++ o ∷ b.later) (b.past ++ o ∷ []) next ss rest
  and-replayed next ss rest e f g = record { job = done; slices_to_come = f; answers_to_come = g ∙ (ap (λ (new : List Answer). drop (length (flat_map answer_bytes new)) answers) come ∙ (ap (λ (bs : List ℕ). drop (length (flat_map answer_bytes new)) bs) (b.replayed.answers_to_come ∙ answers-next b.past o b.later answer_bytes) ∙ drop_at (flat_map answer_bytes new) (answers_left whole after) (length (flat_map answer_bytes new)) refl)) }
    where
      done : next ≡ unstarted b.number (record { key = b.key; state = after })
      done = e ∙ (ap (λ (v : JobView). and_own v o) b.replayed.job ∙ ap (λ (t : SoloMachine). unstarted b.number (record { key = b.key; state = t })) (sym (solo-push b.past o)))

      new : List Answer
      new = drop (length (solo b.past).answers) after.answers

      come : drop (length j.titled.state.answers) next.titled.state.answers ≡ new
      come = ap (λ (t : SoloMachine). drop (length t.answers) next.titled.state.answers) state-is ∙ ap (λ (v : JobView). drop (length (solo b.past).answers) v.titled.state.answers) done
