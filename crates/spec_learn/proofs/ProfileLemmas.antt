-- What is learned under each profile.
use Rattle.std.proofs.Common.{◌≡◌, ℕ, ◌+◌, ◌<◌, ◌≤◌, Bool, true, false, cond, List, [], length, reverse, Some, refl, ap}
use Rattle.mal_base.specs.declared.profile.Profile.{Profile}
use Rattle.mal_base.specs.Profiles.{policy}
use Rattle.mal_base.specs.NumberedClause.{NumberedClause}
use Rattle.mal_base.specs.declared.trail_entry.TrailEntry.{TrailEntry}
use Rattle.spec_logic.specs.Derivation.{derivation}
use Rattle.spec_logic.specs.Derivation.Derivation.{Derived}
use Rattle.spec_node.specs.State.{Node}
use Rattle.spec_node.specs.Value.{level_of}
use Rattle.spec_node.specs.Sound.{IsSound}
use Rattle.spec_learn.specs.Analysis.{Analysed, analysed, top}
use Rattle.spec_learn.specs.Analysis.Aim.{Learned}
use Rattle.spec_learn.specs.Learning.{holding, analysed_in, analysis}
use Rattle.spec_learn.specs.Lesson.{IsLesson}
use Rattle.spec_learn.specs.Shorter.{shortened, longer_analysis}
use Rattle.spec_learn.specs.Laws.{LineIsDerived, LearnedAsserts, EmptyAtZero, AnalysisIsSmall, LearnKeepsSound}
use Rattle.spec_learn.specs.ShorterLaws.{LearnedIsLesson, LearnedIsTaught, LearnsByProfile}
use Rattle.spec_learn.proofs.CaseLemmas.{mild-learned}
use Rattle.spec_learn.proofs.LessonLemmas.{lesson-asserts, lesson-sound, walk-lesson}
use Rattle.spec_learn.proofs.WalkLemmas.{conflict-derived, longer-point, walk-fits, walk-empty}
use Rattle.spec_learn.proofs.ShorterLemmas.{shorter-derived, shorter-lesson, shorter-small, shorter-empty}

-- what holds of the longer clause and of the shorter one holds of the one that a profile learns
pub by-profile : (P : Analysed → Type 0) (profile : Profile) (clauses : List NumberedClause) (past : List TrailEntry) (id : ℕ) → P (analysed clauses past id) → P (shortened clauses past id) → P (analysed_in profile clauses past id)
unfolding analysed_in
by-profile P profile clauses past id a b = by_test (policy profile).minimizes
  where
    by_test : (t : Bool) → P (cond t (shortened clauses past id) (analysed clauses past id))
    by_test true = b
    by_test false = a

-- a profile that minimizes learns the shorter clause, any other the longer one
pub in-shorter : (profile : Profile) (clauses : List NumberedClause) (past : List TrailEntry) (id : ℕ) → (policy profile).minimizes ≡ true → analysed_in profile clauses past id ≡ shortened clauses past id
unfolding analysed_in
in-shorter profile clauses past id q = ap (λ (b : Bool). cond b (shortened clauses past id) (analysed clauses past id)) q

pub in-longer : (profile : Profile) (clauses : List NumberedClause) (past : List TrailEntry) (id : ℕ) → (policy profile).minimizes ≡ false → analysed_in profile clauses past id ≡ analysed clauses past id
unfolding analysed_in
in-longer profile clauses past id q = ap (λ (b : Bool). cond b (shortened clauses past id) (analysed clauses past id)) q

pub learns-by_profile : LearnsByProfile
learns-by_profile = record {
  shorter = λ n id q. in-shorter n.profile n.clauses (reverse n.trail) id q;
  longer = λ n id q. in-longer n.profile n.clauses (reverse n.trail) id q;
}

longer-lesson : (n : Node) (id : ℕ) → IsSound n → n.conflict ≡ Some id → 0 < level_of n.trail → IsLesson n (longer_analysis id n)
longer-lesson n id h q some = walk-lesson n id (Learned (top (reverse n.trail))) (longer_analysis id n).hints h (longer-point n id h q some)

pub learned-lesson : LearnedIsLesson
learned-lesson n id h q some = by-profile (IsLesson n) n.profile n.clauses (reverse n.trail) id (longer-lesson n id h q some) (shorter-lesson n id h q some)

pub learned-taught : LearnedIsTaught
learned-taught n id = refl

pub learned-sound : LearnKeepsSound
learned-sound n id h q some = lesson-sound n (analysis id n) h some (learned-lesson n id h q some)

pub sound-asserts : LearnedAsserts
sound-asserts n id h q some = lesson-asserts n (analysis id n) h some (learned-lesson n id h q some)

pub sound-derived : LineIsDerived
sound-derived n id h q = by-profile (λ a. derivation (holding n.clauses) (Some a.lits) a.hints ≡ Derived) n.profile n.clauses (reverse n.trail) id (conflict-derived (Learned (top (reverse n.trail))) n id h q) (shorter-derived n id h q)

pub sound-empty : EmptyAtZero
sound-empty n id h q z = by-profile (λ a. a.lits ≡ []) n.profile n.clauses (reverse n.trail) id (walk-empty (λ level. Learned level) n id (λ level. mild-learned level n.clauses) h z) (shorter-empty n id h q z)

pub sound-small : AnalysisIsSmall
sound-small n id h = by-profile (λ a. length a.lits + length a.hints ≤ n.variables + 1) n.profile n.clauses (reverse n.trail) id (walk-fits (Learned (top (reverse n.trail))) n id h) (shorter-small n id h)
