-- Where a job's machine ran on, the next of its slices and of its answers are those that the job may follow.
use Rattle.std.proofs.Common.{◌≡◌, ℕ, Bool, true, false, cond, not, ◌&&◌, List, [], ◌∷◌, ◌++◌, length, slice_get, Option, Some, None, refl, sym, ◌∙◌, ap, subst, append_assoc}
use Rattle.std.specs.Prelude.{is_some}
use Rattle.mal_base.specs.NumberedClause.{Line}
use Rattle.mal_base.specs.declared.answer.Answer.{Answer}
use Rattle.mal_base.specs.declared.verdict.Outcome.TheVariants.{Ran}
use Rattle.mal_base.specs.declared.verdict.Verdict.{Verdict}
use Rattle.mal_base.specs.declared.verdict.Verdict.TheVariants.{Satisfiable, Unsatisfiable}
use Rattle.spec_node.specs.State.{Node}
use Rattle.spec_search.specs.Slice.{Sliced}
use Rattle.spec_job.specs.Leased.{model_with}
use Rattle.spec_job.specs.Models.{KeepsAnswers}
use Rattle.spec_job.specs.Slices.{KeepsSlices}
use Rattle.spec_job.specs.SoloMachine.{Own, Finished, Lease, NodeSlot, Slice, SoloMachine, solo, place_at, conclude, first_empty, settled, is_late, remembered, finished_ran, finished}
use Rattle.spec_job.specs.Viewed.{JobView}
use Rattle.spec_job.proofs.FinishLemmas.{slice_of, ran_home, by-ran, conclude-leaves, settled-leaves}
use Rattle.spec_job.proofs.PushLemmas.{solo-push}
use Rattle.spec_job.proofs.SlicesLemmas.{slices-stay}
use Rattle.spec_job.proofs.StayLemmas.{settled-stays, answers-stay}
use Rattle.mal_job.specs.Asking.{answer_by, answer_with}
use Rattle.mal_job.specs.Finishing.{MayFollow, slice_out, answer_of}

-- what stands after a front
get-behind : {X : Type 0} (xs more : List X) (y : X) → slice_get ((xs ++ y ∷ []) ++ more) (length xs) ≡ Some y
get-behind [] more y = refl
get-behind (x ∷ xs) more y = get-behind xs more y

-- the slice that is there, or another one
abbrev slice_in : Slice → Option Slice → Slice
slice_in d None = d
slice_in d (Some c) = c

-- what a verdict answers
conclude-answer : (v : Verdict) (n : Node) (t : SoloMachine) → (conclude (Some v) n t).answers ≡ t.answers ++ answer_by v (model_with (Some v) n) ∷ []
conclude-answer Satisfiable n t = refl
conclude-answer (Unsatisfiable goal) n t = refl

-- a slice that was run is remembered
abbrev Remembers : SoloMachine → ℕ → NodeSlot → Lease → SoloMachine → Type 0
Remembers s i p l t = t.slices ≡ s.slices ++ remembered s l (slice_of s i p l) ∷ []

ran-slices : (s : SoloMachine) (i : ℕ) (p : NodeSlot) (l : Lease) → Remembers s i p l (settled (finished_ran s i p l))
ran-slices s i p l =
    let x : Sliced = slice_of s i p l in
    settled-leaves (Remembers s i p l) (λ m answers k. k) (λ m spent starved k. k) (first_empty (finished_ran s i p l).log) (finished_ran s i p l)
    (by-ran (Remembers s i p l) s i p l (λ late. refl) (λ now. conclude-leaves (Remembers s i p l) (λ m answers k. k) (λ m spent starved k. k) x.node.verdict x.node (ran_home s i p l) refl))

-- where it is not late its verdict answers
ran-answers : (s : SoloMachine) (i : ℕ) (p : NodeSlot) (l : Lease) (v : Verdict) → is_late s l ≡ false → (slice_of s i p l).node.verdict ≡ Some v → (finished_ran s i p l).answers ≡ s.answers ++ answer_by v (model_with (Some v) (slice_of s i p l).node) ∷ []
ran-answers s i p l v now e =
    let n : Node = (slice_of s i p l).node in
    let a : Answer = answer_by v (model_with (Some v) n) in
    by-ran (λ t. t.answers ≡ s.answers ++ a ∷ []) s i p l (λ late. absurd (let bad : true ≡ false = sym late ∙ now in cc)) (λ in_time. subst (λ (o : Option Verdict). (conclude o n (ran_home s i p l)).answers ≡ s.answers ++ a ∷ []) (sym e) (conclude-answer v n (ran_home s i p l)))

module _ (past later : List Own) (i : ℕ) (l : Lease) (out : (place_at (solo past) i).out ≡ Some l) where
  abbrev s : SoloMachine
  s = solo past

  abbrev whole : SoloMachine
  whole = solo (past ++ Finished i Ran ∷ later)

  abbrev x : Sliced
  x = slice_out s i l

  abbrev after : SoloMachine
  after = settled (finished_ran s i (place_at s i) l)

  next : solo (past ++ Finished i Ran ∷ []) ≡ after
  next = solo-push past (Finished i Ran) ∙ ap (λ (o : Option Lease). finished s i (place_at s i) o Ran) out

  -- the next slice
  pub next-slice : slice_get whole.slices (length s.slices) ≡ Some (remembered s l x)
  next-slice =
      let stays : KeepsSlices after whole = subst (λ (t : SoloMachine). KeepsSlices t whole) next (subst (λ (es : List Own). KeepsSlices (solo (past ++ Finished i Ran ∷ [])) (solo es)) (append_assoc past (Finished i Ran ∷ []) later) (slices-stay (past ++ Finished i Ran ∷ []) later)) in
      ap (λ (cs : List Slice). slice_get cs (length s.slices)) (stays.kept ∙ ap (λ (cs : List Slice). cs ++ stays.more) (ran-slices s i (place_at s i) l)) ∙ get-behind s.slices stays.more (remembered s l x)

  -- the next answer, where the slice answers
  pub next-answer : (v : Verdict) → is_late s l ≡ false → x.node.verdict ≡ Some v → slice_get whole.answers (length s.answers) ≡ Some (answer_by v (model_with (Some v) x.node))
  next-answer v now e =
      let ran : SoloMachine = finished_ran s i (place_at s i) l in
      let a : Answer = answer_by v (model_with (Some v) x.node) in
      let settles : KeepsAnswers ran after = settled-stays (first_empty ran.log) ran in
      let stays : KeepsAnswers after whole = subst (λ (t : SoloMachine). KeepsAnswers t whole) next (subst (λ (es : List Own). KeepsAnswers (solo (past ++ Finished i Ran ∷ [])) (solo es)) (append_assoc past (Finished i Ran ∷ []) later) (answers-stay (past ++ Finished i Ran ∷ []) later)) in
      let all : whole.answers ≡ (s.answers ++ a ∷ []) ++ (settles.more ++ stays.more) =
      stays.kept ∙ (ap (λ (xs : List Answer). xs ++ stays.more) settles.kept ∙ (append_assoc ran.answers settles.more stays.more ∙ ap (λ (xs : List Answer). xs ++ (settles.more ++ stays.more)) (ran-answers s i (place_at s i) l v now e))) in
      ap (λ (xs : List Answer). slice_get xs (length s.answers)) all ∙ get-behind s.answers (settles.more ++ stays.more) a

  -- they may be followed
  pub may-follow : (j : JobView) (c : Slice) (lines : List Line) (answer : Option Answer) → j.titled.state ≡ s → slice_get whole.slices (length s.slices) ≡ Some c → lines ≡ c.lines → answer ≡ cond c.ends (slice_get whole.answers (length s.answers)) None → MayFollow j i lines answer
  may-follow j c lines answer e at told given = record {
    lease = l;
    out = subst (λ (t : SoloMachine). (place_at t i).out ≡ Some l) (sym e) out;
    told = subst (λ (t : SoloMachine). lines ≡ (slice_out t i l).lines) (sym e) (told ∙ ap (λ (d : Slice). d.lines) same);
    fits = subst (λ (t : SoloMachine). is_late t l ≡ false → answer ≡ answer_of (slice_out t i l).node) (sym e) (λ now. by_verdict now x.node.verdict refl);
  }
    where
      same : c ≡ remembered s l x
      same = ap (λ (o : Option Slice). slice_in c o) (sym at ∙ next-slice)

      ends : is_late s l ≡ false → (v : Option Verdict) → x.node.verdict ≡ v → c.ends ≡ is_some v
      ends now v is = ap (λ (d : Slice). d.ends) same ∙ (ap (λ (b : Bool). not b && is_some x.node.verdict) now ∙ ap (λ (o : Option Verdict). is_some o) is)

      by_verdict : is_late s l ≡ false → (v : Option Verdict) → x.node.verdict ≡ v → answer ≡ answer_of x.node
      by_verdict now None is = given ∙ (ap (λ (b : Bool). cond b (slice_get whole.answers (length s.answers)) None) (ends now None is) ∙ ap (λ (o : Option Verdict). answer_with o (model_with o x.node)) (sym is))
      by_verdict now (Some v) is = given ∙ (ap (λ (b : Bool). cond b (slice_get whole.answers (length s.answers)) None) (ends now (Some v) is) ∙ (next-answer v now is ∙ ap (λ (o : Option Verdict). answer_with o (model_with o x.node)) (sym is)))
