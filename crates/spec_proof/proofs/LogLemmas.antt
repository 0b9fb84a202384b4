-- What a log holds.
use Rattle.std.proofs.Common.{◌≡◌, ◌≢◌, ℕ, Bool, true, false, cond, List, [], ◌∷◌, ◌==◌, Contains, Option, Some, None, refl, sym, ◌∙◌, subst, ap, inl, inr, ◌⊎◌}
use Rattle.std.proofs.lemmas.Bool.{eqb-true, eq-eqb, ne_eqb}
use Rattle.std.proofs.lemmas.List.Elements.{All-nil}
use Rattle.mal_base.specs.NumberedClause.{Line}
use Rattle.spec_logic.specs.Derivation.{Holding, derivation}
use Rattle.spec_logic.specs.Derivation.Derivation.{Derived}
use Rattle.spec_logic.specs.Refutation.{numbered, with_clause, after_lines, IsProof}
use Rattle.spec_logic.proofs.RefutationLemmas.{IsAccepted, accepted-parts}
use Rattle.spec_proof.specs.Log.{proof_of, IsAbove, AreApart}
use Rattle.spec_proof.specs.Laws.{LogHolds, LogIsOrderly, EmptyIsLog}
use Rattle.spec_proof.specs.Among.{Among}
use Rattle.spec_proof.proofs.Among.{among-from_contains, contains-from_among, all-from_among}
use Rattle.spec_proof.proofs.Deriving.{derived-more}

-- one clause more: what was held stays, and the new one is held
pub with-new : (held : Holding) (new : ℕ) (d : Option (List ℕ)) → with_clause held new d new ≡ Some d
with-new held new d = ap (λ (b : Bool). cond b (Some d) (held new)) (eq-eqb new new refl)

pub with-other : (held : Holding) (new : ℕ) (d : Option (List ℕ)) (id : ℕ) → id ≢ new → with_clause held new d id ≡ held id
with-other held new d id other = ap (λ (b : Bool). cond b (Some d) (held id)) (ne_eqb id new other)

pub with-keeps : (held : Holding) (new : ℕ) (d : Option (List ℕ)) (id : ℕ) (c : Option (List ℕ)) → held new ≡ None → held id ≡ Some c → with_clause held new d id ≡ Some c
with-keeps held new d id c fresh q = by_new (id == new) refl
  where
    by_new : (b : Bool) → (id == new) ≡ b → cond b (Some d) (held id) ≡ Some c
    by_new true e = let same : id ≡ new = eqb-true id new e in absurd (let there : held new ≡ Some c = subst (λ (n : ℕ). held n ≡ Some c) same q in cc)
    by_new false e = q

-- what is held stays held along accepted lines
pub kept-after : (held : Holding) (lines : List Line) → IsProof held (proof_of lines) → (id : ℕ) (c : Option (List ℕ)) → held id ≡ Some c → after_lines held (proof_of lines) id ≡ Some c
kept-after held [] p id c q = q
kept-after held (x ∷ xs) p id c q =
    let is : IsAccepted held x.id (Some x.lits) x.hints = accepted-parts held x.id (Some x.lits) x.hints p.0 in
    kept-after (with_clause held x.id (Some x.lits)) xs p.1 id c (with-keeps held x.id (Some x.lits) id c is.fresh q)

-- the number of an accepted line was not held before
pub fresh-before : (held : Holding) (lines : List Line) → IsProof held (proof_of lines) → (line : Line) → Among line lines → held line.id ≡ None
fresh-before held [] p line h = absurd h
fresh-before held (x ∷ xs) p line (inl e) =
    let is : IsAccepted held x.id (Some x.lits) x.hints = accepted-parts held x.id (Some x.lits) x.hints p.0 in
    subst (λ (l : Line). held l.id ≡ None) e is.fresh
fresh-before held (x ∷ xs) p line (inr h) = by_new (line.id == x.id) (fresh-before (with_clause held x.id (Some x.lits)) xs p.1 line h)
  where
    by_new : (b : Bool) → cond b (Some (Some x.lits)) (held line.id) ≡ None → held line.id ≡ None
    by_new true q = absurd (cc)
    by_new false q = q

pub apart-lines : (held : Holding) (lines : List Line) → IsProof held (proof_of lines) → AreApart lines
apart-lines held [] p = tt
apart-lines held (x ∷ xs) p = (all-from_among (λ y. y.id ≢ x.id) xs others, apart-lines (with_clause held x.id (Some x.lits)) xs p.1)
  where
    others : (y : Line) → Among y xs → y.id ≢ x.id
    others y h e =
        let none : with_clause held x.id (Some x.lits) y.id ≡ None = fresh-before (with_clause held x.id (Some x.lits)) xs p.1 y h in
        let some : with_clause held x.id (Some x.lits) x.id ≡ Some (Some x.lits) = with-new held x.id (Some x.lits) in
        let here : with_clause held x.id (Some x.lits) x.id ≡ None = subst (λ (n : ℕ). with_clause held x.id (Some x.lits) n ≡ None) e none in
        let bad : Some (Some x.lits) ≡ None = sym some ∙ here in
        absurd (cc)

-- each line is derived from all that is held in the end
pub derived-in-end : (held : Holding) (lines : List Line) → IsProof held (proof_of lines) → (line : Line) → Among line lines → derivation (after_lines held (proof_of lines)) (Some line.lits) line.hints ≡ Derived
derived-in-end held [] p line h = absurd h
derived-in-end held (x ∷ xs) p line (inl e) =
    let is : IsAccepted held x.id (Some x.lits) x.hints = accepted-parts held x.id (Some x.lits) x.hints p.0 in
    let here = derived-more held (after_lines held (proof_of (x ∷ xs))) (Some x.lits) x.hints (λ id c q. kept-after held (x ∷ xs) p id c q) is.derived in
    subst (λ (l : Line). derivation (after_lines held (proof_of (x ∷ xs))) (Some l.lits) l.hints ≡ Derived) e here
derived-in-end held (x ∷ xs) p line (inr h) = derived-in-end (with_clause held x.id (Some x.lits)) xs p.1 line h

-- what is held in the end was held before or is a line's clause
abbrev pub HeldBy : List Line → ℕ → Option (List ℕ) → Type 0
HeldBy lines id c = (line : Line) × Among line lines × (line.id ≡ id) × (c ≡ Some line.lits)

pub held-cases : (held : Holding) (lines : List Line) (id : ℕ) (c : Option (List ℕ)) → after_lines held (proof_of lines) id ≡ Some c → (held id ≡ Some c) ⊎ HeldBy lines id c
held-cases held [] id c q = inl q
held-cases held (x ∷ xs) id c q = by_rest (held-cases (with_clause held x.id (Some x.lits)) xs id c q)
  where
    by_new : (b : Bool) → (id == x.id) ≡ b → cond b (Some (Some x.lits)) (held id) ≡ Some c → (held id ≡ Some c) ⊎ HeldBy (x ∷ xs) id c
    by_new true e r = let same : id ≡ x.id = eqb-true id x.id e in let is : c ≡ Some x.lits = cc in inr (x, inl refl, sym same, is)
    by_new false e r = inl r

    by_rest : (with_clause held x.id (Some x.lits) id ≡ Some c) ⊎ HeldBy xs id c → (held id ≡ Some c) ⊎ HeldBy (x ∷ xs) id c
    by_rest (inl r) = by_new (id == x.id) refl r
    by_rest (inr (y, h, e, f)) = inr (y, inr h, e, f)

-- the clause of each line is held in the end
pub line-held : (held : Holding) (lines : List Line) → IsProof held (proof_of lines) → (line : Line) → Among line lines → after_lines held (proof_of lines) line.id ≡ Some (Some line.lits)
line-held held [] p line h = absurd h
line-held held (x ∷ xs) p line (inl e) =
    let here : after_lines held (proof_of (x ∷ xs)) x.id ≡ Some (Some x.lits) = kept-after (with_clause held x.id (Some x.lits)) xs p.1 x.id (Some x.lits) (with-new held x.id (Some x.lits)) in
    subst (λ (l : Line). after_lines held (proof_of (x ∷ xs)) l.id ≡ Some (Some l.lits)) e here
line-held held (x ∷ xs) p line (inr h) = line-held (with_clause held x.id (Some x.lits)) xs p.1 line h

-- what a log holds
pub log-holds : LogHolds
log-holds originals lines is = record {
  originals_held = λ id c q. kept-after (numbered originals) lines is.proof id c q;
  lines_held = λ line h. line-held (numbered originals) lines is.proof line (among-from_contains lines line h);
  none_else = λ id c q. by_cases id c (held-cases (numbered originals) lines id c q);
}
  where
    by_cases : (id : ℕ) (c : Option (List ℕ)) → (numbered originals id ≡ Some c) ⊎ HeldBy lines id c → (numbered originals id ≡ Some c) ⊎ ((line : Line) × Contains lines line × (line.id ≡ id) × (c ≡ Some line.lits))
    by_cases id c (inl q) = inl q
    by_cases id c (inr (l, h, e, f)) = inr (l, contains-from_among lines l h, e, f)

pub log-orderly : LogIsOrderly
log-orderly originals lines is = record { apart = apart-lines (numbered originals) lines is.proof; above = is.above }

pub log-empty : EmptyIsLog
log-empty originals below = record { originals_below = below; proof = tt; above = All-nil IsAbove }
