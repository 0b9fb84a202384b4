use Rattle.std.proofs.Common.{◌≡◌, ℕ, Bool, true, false, cond, List, [], ◌∷◌, ◌++◌, Option, Some, None, refl, sym, subst}
use Rattle.std.specs.Prelude.{All, reverse}
use Rattle.std.specs.Option.{option_map_or}
use Rattle.std.proofs.lemmas.List.Elements.{All-nil, All-cons, All-append}
use Rattle.mal_base.specs.Literals.{var_of}
use Rattle.mal_base.specs.NumberedClause.{NumberedClause}
use Rattle.mal_base.specs.declared.trail_entry.TrailEntry.{TrailEntry}
use Rattle.spec_node.specs.State.{Node}
use Rattle.spec_node.specs.Sound.{IsForced, IsWaiting, IsSound}
use Rattle.spec_learn.specs.Analysis.{Walk, Aim, Analysed, has_var, vars_under, begun, top, walked, after_seen, after_entry, keeping, resolving, is_resolved}
use Rattle.spec_learn.specs.Analysis.Aim.{Final, Learned, Shortened}
use Rattle.spec_learn.specs.Learning.{analysis}
use Rattle.spec_learn.specs.Refuting.{core_analysis}
use Rattle.spec_learn.specs.CoreLaws.{HasFailed}
use Rattle.spec_learn.proofs.BehindLemmas.{EachBehind, each-reverse}
use Rattle.spec_learn.proofs.ProfileLemmas.{by-profile}
use Rattle.spec_learn.proofs.CoreLemmas.{IsFallenAt, behind-back, sound-fallen, core_walk, core-is}
use Rattle.spec_search.specs.Derived.{IsHeld}

-- the hints of a walk over forced entries are held
walked-hints : (aim : Aim) (clauses : List NumberedClause) (past : List TrailEntry) (w : Walk) → EachBehind (IsForced clauses) past → All (IsHeld clauses) w.hints → All (IsHeld clauses) (walked aim clauses past w).hints
walked-hints aim clauses [] w g h = h
walked-hints aim clauses (e ∷ past) w g h = walked-hints aim clauses past (after_entry aim clauses e past w) g.1 (by_seen (has_var w.seen (var_of e.lit)))
  where
    by_resolved : (r : ℕ) → e.reason ≡ Some r → (b : Bool) → All (IsHeld clauses) (cond b (resolving clauses r w) (keeping e w)).hints
    by_resolved r q true = let k = g.0 r q in All-cons (IsHeld clauses) r w.hints (k.0, k.1, k.2) h
    by_resolved r q false = h

    by_reason : (o : Option ℕ) → e.reason ≡ o → All (IsHeld clauses) (option_map_or (λ r. cond (is_resolved aim e w.seen past) (resolving clauses r w) (keeping e w)) o (keeping e w)).hints
    by_reason None q = h
    by_reason (Some r) q = by_resolved r q (is_resolved aim e w.seen past)

    by_seen : (b : Bool) → All (IsHeld clauses) (cond b (after_seen aim clauses e past w) w).hints
    by_seen true = by_reason e.reason refl
    by_seen false = h

-- the hints of a walk from a waiting conflict are held
conflict-hints : (aim : Aim) (n : Node) (id : ℕ) → IsSound n → n.conflict ≡ Some id → All (IsHeld n.clauses) ((walked aim n.clauses (reverse n.trail) (begun (vars_under n.clauses id))).hints ++ id ∷ [])
conflict-hints aim n id h q =
    let k : IsWaiting n.clauses n.trail id = h.waiting id q in
    All-append (IsHeld n.clauses) (walked aim n.clauses (reverse n.trail) (begun (vars_under n.clauses id))).hints (id ∷ [])
    (walked-hints aim n.clauses (reverse n.trail) (begun (vars_under n.clauses id)) (each-reverse (IsForced n.clauses) n.trail h.reasons) (All-nil (IsHeld n.clauses)))
    (All-cons (IsHeld n.clauses) id [] (k.0, k.1, k.2) (All-nil (IsHeld n.clauses)))

-- the hints of the line of a waiting conflict are held
pub sound-hints : (n : Node) (id : ℕ) → IsSound n → n.conflict ≡ Some id → All (IsHeld n.clauses) (analysis id n).hints
sound-hints n id h q = by-profile (λ a. All (IsHeld n.clauses) a.hints) n.profile n.clauses (reverse n.trail) id (conflict-hints (Learned (top (reverse n.trail))) n id h q) (conflict-hints (Shortened (top (reverse n.trail)) n.clauses) n id h q)

-- the hints of a core clause are held
pub core-hints : (n : Node) (a : ℕ) → IsSound n → HasFailed n a → All (IsHeld n.clauses) (core_analysis a n).hints
core-hints n a h f =
    let k : IsFallenAt n a = sound-fallen n a h f in
    let behind : EachBehind (IsForced n.clauses) (k.entry ∷ k.past) = behind-back (IsForced n.clauses) k.front (k.entry ∷ k.past) (subst (EachBehind (IsForced n.clauses)) k.whole (each-reverse (IsForced n.clauses) n.trail h.reasons)) in
    let own = behind.0 k.id k.because in
    subst (λ (x : Analysed). All (IsHeld n.clauses) x.hints) (sym (core-is n a k))
    (All-append (IsHeld n.clauses) (core_walk n.clauses a k.past k.id).hints (k.id ∷ [])
    (walked-hints Final n.clauses k.past (begun (vars_under n.clauses k.id)) behind.1 (All-nil (IsHeld n.clauses)))
    (All-cons (IsHeld n.clauses) k.id [] (own.0, own.1, own.2) (All-nil (IsHeld n.clauses))))
