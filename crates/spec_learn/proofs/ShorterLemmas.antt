use Rattle.std.proofs.Common.{◌≡◌, ℕ, reverse, sym, ap, ◌∙◌, subst}
use Rattle.std.specs.Prelude.{max}
use Rattle.spec_node.specs.Sound.{IsForced}
use Rattle.spec_learn.specs.Analysis.{Walk, begun, vars_under, walked, jump, top}
use Rattle.spec_learn.specs.Shorter.{shorter_analysis}
use Rattle.spec_learn.specs.Analysis.Aim.{Learned, Shortened}
use Rattle.spec_learn.specs.ShorterLaws.{ShorterIsLesson, ShorterIsDerived, ShorterIsEmptyAtZero, ShorterJumpsAlike, ShorterIsSmall}
use Rattle.spec_learn.proofs.BehindLemmas.{each-reverse}
use Rattle.spec_learn.proofs.UipLemmas.{AreLevelled}
use Rattle.spec_learn.proofs.LawLemmas.{sound-levelled}
use Rattle.spec_learn.proofs.SoundParts.{AreDifferent}
use Rattle.spec_learn.proofs.CaseLemmas.{mild-learned, mild-shortened}
use Rattle.spec_learn.proofs.TurnLemmas.{Turn}
use Rattle.spec_learn.proofs.LevelLemmas.{AreReached, reached-behind, greatest_seen, rest-jump}
use Rattle.spec_learn.proofs.KeepLemmas.{sound-different}
use Rattle.spec_learn.proofs.LessonLemmas.{walk-lesson}
use Rattle.spec_learn.proofs.CoreClauseLemmas.{levelled-back, different-back}
use Rattle.spec_learn.proofs.WalkLemmas.{conflict-derived, sound-turn, reached-back, shorter-point, walk-fits, walk-empty}

pub shorter-derived : ShorterIsDerived
shorter-derived n id h q = conflict-derived (Shortened (top (reverse n.trail)) n.clauses) n id h q

pub shorter-lesson : ShorterIsLesson
shorter-lesson n id h q some = walk-lesson n id (Shortened (top (reverse n.trail)) n.clauses) (shorter_analysis id n).hints h (shorter-point n id h q some)

-- both jump to one level
pub shorter-jumps : ShorterJumpsAlike
shorter-jumps n id h q some =
    let t : Turn (top (reverse n.trail)) n.clauses (reverse n.trail) (begun (vars_under n.clauses id)) = sound-turn n id h q some in
    let level : ℕ = top (reverse n.trail) in
    let levelled : AreLevelled t.rest = levelled-back t.front t.rest (subst AreLevelled t.whole (sound-levelled n h)) in
    let different : AreDifferent t.rest = different-back t.front t.rest (subst AreDifferent t.whole (sound-different n h)) in
    let reached : AreReached n.clauses t.rest = reached-back n.clauses t.front t.rest (subst (AreReached n.clauses) t.whole (reached-behind n.clauses (reverse n.trail) h.ranged.numbers (sound-different n h) (each-reverse (IsForced n.clauses) n.trail h.reasons))) in
    let a : jump level (walked (Shortened level n.clauses) n.clauses t.rest t.at).kept ≡ max (jump level t.at.kept) (greatest_seen t.at.seen t.rest) = rest-jump (Shortened level n.clauses) level n.clauses t.rest t.at (mild-shortened level n.clauses) levelled different reached t.low t.none in
    let b : jump level (walked (Learned level) n.clauses t.rest t.at).kept ≡ max (jump level t.at.kept) (greatest_seen t.at.seen t.rest) = rest-jump (Learned level) level n.clauses t.rest t.at (mild-learned level n.clauses) levelled different reached t.low t.none in
    ap (λ (v : Walk). jump (top (reverse n.trail)) v.kept) t.shortened ∙ (a ∙ (sym b ∙ sym (ap (λ (v : Walk). jump (top (reverse n.trail)) v.kept) t.learned)))

pub shorter-small : ShorterIsSmall
shorter-small n id h = walk-fits (Shortened (top (reverse n.trail)) n.clauses) n id h

pub shorter-empty : ShorterIsEmptyAtZero
shorter-empty n id h q z = walk-empty (λ level. Shortened level n.clauses) n id (λ level. mild-shortened level n.clauses) h z
