use Rattle.std.proofs.Common.{◌≡◌, None, refl, arith, [], ◌∷◌}
use Rattle.std.proofs.lemmas.List.Elements.{All-nil, All-cons}
use Rattle.spec_seq.specs.Luby.{luby}
use Rattle.spec_learn.specs.Learning.{analysed_in}
use Rattle.spec_search.specs.Slice.{slice}
use Rattle.spec_job.specs.Unknown.{HasSpent}
use Rattle.spec_job.specs.UnknownExamples.{blank, HasEndings}

less : HasSpent 2 (blank 0 ∷ blank 1 ∷ []) 0 2 → ⊥
less h = let count : 1 ≡ 2 = h.count in absurd (omega (arith, count))

pub ended : HasEndings
unfolding luby slice analysed_in
ended = record { third_answers = refl; three = refl; late_starved = refl; late_slice = refl; late_answers = refl; lost = refl; no_start = refl; first = refl; second = refl; spent = record { budget = refl; count = refl; no_verdict = All-cons (λ e. e.node.verdict ≡ None) (blank 0) (blank 0 ∷ []) refl (All-cons (λ e. e.node.verdict ≡ None) (blank 0) [] refl (All-nil (λ e. e.node.verdict ≡ None))) }; not_less = less }
