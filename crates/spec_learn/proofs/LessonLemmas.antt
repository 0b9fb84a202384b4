use Rattle.std.proofs.Common.{◌≡◌, ℕ, ◌<◌, List, [], ◌∷◌, ◌++◌, reverse, refl, sym, ap, ◌∙◌, subst, arith}
use Rattle.std.specs.Prelude.{All, Contains}
use Rattle.std.proofs.lemmas.List.{reverse-reverse}
use Rattle.std.proofs.lemmas.List.Elements.{All-nil, All-cons, All-head, All-tail, All-contains, All-contains_itself}
use Rattle.mal_base.specs.declared.trail_entry.TrailEntry.{TrailEntry}
use Rattle.spec_node.specs.State.{Node}
use Rattle.spec_node.specs.Value.{level_of}
use Rattle.spec_node.specs.Sound.{IsSound}
use Rattle.spec_learn.specs.Analysis.{Aim, Analysed, begun, vars_under, walked, clause_of, jump, top}
use Rattle.spec_learn.specs.Laws.{IsAsserting}
use Rattle.spec_learn.specs.Lesson.{HaveOwnVariables, IsBetween, IsLesson}
use Rattle.spec_learn.specs.ShorterLaws.{LessonAsserts, LessonKeepsSound}
use Rattle.spec_learn.proofs.UipLemmas.{HasPoint, AreBetween}
use Rattle.spec_learn.proofs.PointLemmas.{AllOf, allof-reverse, allof-kept, IsOn, all-on}
use Rattle.spec_learn.proofs.LawLemmas.{top-trail, Asserts, asserts-from}
use Rattle.spec_learn.proofs.SoundParts.{AreDifferent, kept-different}
use Rattle.spec_learn.proofs.KeepLemmas.{IsOfEntries, entries-sound, sound-different, apart-none}

-- what holds of each entry, in the two ways in which it is said
all-of : (Q : TrailEntry → Type 0) (es : List TrailEntry) → AllOf Q es → All Q es
all-of Q [] h = All-nil Q
all-of Q (e ∷ es) h = All-cons Q e es h.0 (all-of Q es h.1)

of-all : (Q : TrailEntry → Type 0) (es : List TrailEntry) → All Q es → AllOf Q es
of-all Q [] h = tt
of-all Q (e ∷ es) h = (All-head Q e es h, of-all Q es (All-tail Q e es h))

-- entries of a trail are as its entries are
of-contained : (Q : TrailEntry → Type 0) (trail es : List TrailEntry) → AllOf Q (reverse trail) → All (Contains trail) es → AllOf Q es
of-contained Q trail [] h k = tt
of-contained Q trail (e ∷ es) h k = (All-contains Q trail e (all-of Q trail whole) (All-head (Contains trail) e es k), of-contained Q trail es h (All-tail (Contains trail) e es k))
  where
    whole : AllOf Q trail
    whole = subst (AllOf Q) (reverse-reverse trail) (allof-reverse Q (reverse trail) h)

between-of : (level : ℕ) (es : List TrailEntry) → AreBetween level es → All (IsBetween level) es
between-of level [] h = All-nil (IsBetween level)
between-of level (e ∷ es) h = All-cons (IsBetween level) e es (h.0, h.1) (between-of level es h.2)

of-between : (level : ℕ) (es : List TrailEntry) → All (IsBetween level) es → AreBetween level es
of-between level [] h = tt
of-between level (e ∷ es) h = let b = All-head (IsBetween level) e es h in (b.0, b.1, of-between level es (All-tail (IsBetween level) e es h))

own-variables : (es : List TrailEntry) → AreDifferent es → HaveOwnVariables es
own-variables [] d = tt
own-variables (e ∷ es) d = (d.0, own-variables es d.1)

of-own_variables : (es : List TrailEntry) → HaveOwnVariables es → AreDifferent es
of-own_variables [] d = tt
of-own_variables (e ∷ es) d = (d.0, of-own_variables es d.1)

-- a lesson is a clause of entries
entries-of : (n : Node) (a : Analysed) → IsSound n → IsLesson n a → IsOfEntries n a
entries-of n a h k =
    let same : top (reverse n.trail) ≡ level_of n.trail = top-trail n.trail in
    record {
      entries = k.others ++ k.point ∷ [];
      lits = k.literals;
      level = subst (λ (j : ℕ). a.level ≡ jump j (k.others ++ k.point ∷ [])) (sym same) k.jumps;
      point = record { low = k.others; point = k.point; is = refl; own = k.current ∙ sym same; between = subst (λ (j : ℕ). AreBetween j k.others) (sym same) (of-between (level_of n.trail) k.others k.between) };
      on = of-contained (IsOn n.variables n.trail) n.trail (k.others ++ k.point ∷ []) (all-on n.variables n.trail h.consistent.placed h.consistent.levels) k.entries;
      different = of-own_variables (k.others ++ k.point ∷ []) k.different;
    }

pub lesson-asserts : LessonAsserts
lesson-asserts n a h some l =
    let k : IsOfEntries n a = entries-of n a h l in
    let level : top (reverse n.trail) ≡ level_of n.trail = top-trail n.trail in
    let some_top : 0 < top (reverse n.trail) = omega arith in
    let x : Asserts n.trail (top (reverse n.trail)) k.entries = asserts-from n.variables n.trail (top (reverse n.trail)) k.entries some_top level k.point k.on in
    subst (λ (ls : List ℕ). IsAsserting n (record { lits = ls; hints = a.hints; level = a.level })) (sym k.lits)
    (subst (λ (j : ℕ). IsAsserting n (record { lits = clause_of k.entries; hints = a.hints; level = j })) (sym k.level)
    (record { one = x.one; below = x.below; unit = x.unit }))

pub lesson-sound : LessonKeepsSound
lesson-sound n a h some l = entries-sound n a h some (entries-of n a h l)

-- what a walk of any aim keeps is a lesson, where one of the entries has the current level and is the last
pub walk-lesson : (n : Node) (id : ℕ) (aim : Aim) (hints : List ℕ) → IsSound n → HasPoint (top (reverse n.trail)) (walked aim n.clauses (reverse n.trail) (begun (vars_under n.clauses id))).kept → IsLesson n (record { lits = clause_of (walked aim n.clauses (reverse n.trail) (begun (vars_under n.clauses id))).kept; hints = hints; level = jump (top (reverse n.trail)) (walked aim n.clauses (reverse n.trail) (begun (vars_under n.clauses id))).kept })
walk-lesson n id aim hints h p =
    let es : List TrailEntry = (walked aim n.clauses (reverse n.trail) (begun (vars_under n.clauses id))).kept in
    let same : top (reverse n.trail) ≡ level_of n.trail = top-trail n.trail in
    let on : All (Contains n.trail) es = all-of (Contains n.trail) es (allof-kept (Contains n.trail) aim n.clauses (reverse n.trail) (begun (vars_under n.clauses id)) (allof-reverse (Contains n.trail) n.trail (of-all (Contains n.trail) n.trail (All-contains_itself n.trail))) tt) in
    let different : AreDifferent es = kept-different aim n.clauses (reverse n.trail) (begun (vars_under n.clauses id)) (sound-different n h) tt (apart-none (reverse n.trail)) in
    record {
      others = p.low;
      point = p.point;
      literals = ap clause_of p.is;
      jumps = ap (jump (top (reverse n.trail))) p.is ∙ ap (λ (j : ℕ). jump j (p.low ++ p.point ∷ [])) same;
      current = p.own ∙ same;
      between = subst (λ (j : ℕ). All (IsBetween j) p.low) same (between-of (top (reverse n.trail)) p.low p.between);
      entries = subst (All (Contains n.trail)) p.is on;
      different = own-variables (p.low ++ p.point ∷ []) (subst AreDifferent p.is different);
    }
