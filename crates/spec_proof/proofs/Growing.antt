-- Logs that grow by lines and by originals.
use Rattle.std.proofs.Common.{◌≡◌, ◌≢◌, ℕ, zero, suc, ◌-◌, ◌<◌, ◌≤◌, ◌^◌, Bool, true, false, cond, List, [], ◌∷◌, ◌++◌, ◌==◌, length, slice_get, Option, Some, None, refl, sym, ◌∙◌, ap, inl, inr, ◌⊎◌, arith}
use Rattle.std.specs.Prelude.{All}
use Rattle.std.proofs.lemmas.Bool.{ne_eqb}
use Rattle.std.proofs.lemmas.List.Elements.{All-push, All-append}
use Rattle.std.proofs.lemmas.Option.{slice_get_past}
use Rattle.mal_base.specs.NumberedClause.{Line}
use Rattle.spec_logic.specs.Derivation.{Holding, derivation}
use Rattle.spec_logic.specs.Derivation.Derivation.{Derived}
use Rattle.spec_logic.specs.Refutation.{numbered, with_clause, after_lines, refusal, IsProof}
use Rattle.spec_logic.proofs.RefutationLemmas.{IsAccepted, accepted-parts}
use Rattle.spec_proof.specs.Log.{added, proof_of, IsAbove, AreApart, holding}
use Rattle.spec_proof.specs.Laws.{LogGrows, LogTakesProof, LogTakesOriginals}
use Rattle.spec_proof.specs.Among.{Among}
use Rattle.spec_proof.proofs.Among.{of-all}
use Rattle.spec_proof.proofs.Deriving.{derived-more}
use Rattle.spec_proof.proofs.LogLemmas.{HeldBy, with-other, held-cases, apart-lines}

-- no number is held after the last original
pub numbered-past : (xs : List (Option (List ℕ))) (id : ℕ) → length xs < id → numbered xs id ≡ None
numbered-past xs id high = ap (λ (b : Bool). cond b None (slice_get xs (id - 1))) (ne_eqb id 0 (λ e. omega arith)) ∙ slice_get_past xs (id - 1) (omega arith)

-- an original's number is at most their count
pub numbered-within : (xs : List (Option (List ℕ))) (id : ℕ) (c : Option (List ℕ)) → numbered xs id ≡ Some c → length xs < id → ⊥
numbered-within xs id c q high = let none : numbered xs id ≡ None = numbered-past xs id high in let bad : None ≡ Some c = sym none ∙ q in absurd (cc)

pub accepted-from : (held : Holding) (line : Line) → held line.id ≡ None → derivation held (Some line.lits) line.hints ≡ Derived → refusal held (added line) ≡ None
accepted-from held line fresh derived = rw (fresh, derived) refl

proof-push : (held : Holding) (lines : List Line) (line : Line) → IsProof held (proof_of lines) → refusal (after_lines held (proof_of lines)) (added line) ≡ None → IsProof held (proof_of (lines ++ line ∷ []))
proof-push held [] line p a = (a, tt)
proof-push held (x ∷ xs) line p a = (p.0, proof-push (with_clause held x.id (Some x.lits)) xs line p.1 a)

fresh-in-end : (held : Holding) (lines : List Line) (id : ℕ) → held id ≡ None → All (λ other. other.id ≢ id) lines → after_lines held (proof_of lines) id ≡ None
fresh-in-end held lines id fresh others = by_end (after_lines held (proof_of lines) id) refl
  where
    by_source : (c : Option (List ℕ)) → (held id ≡ Some c) ⊎ HeldBy lines id c → ⊥
    by_source c (inl q) = let bad : None ≡ Some c = sym fresh ∙ q in absurd (cc)
    by_source c (inr (l, h, e, f)) = of-all (λ other. other.id ≢ id) lines l others h e

    by_end : (o : Option (Option (List ℕ))) → after_lines held (proof_of lines) id ≡ o → o ≡ None
    by_end None q = refl
    by_end (Some c) q = absurd (by_source c (held-cases held lines id c q))

pub log-grows : LogGrows
log-grows originals lines line is others above derived =
    let high : length originals < line.id = let a : length originals < 2 ^ 32 = is.originals_below in let b : 2 ^ 32 ≤ line.id = above.derived in omega arith in
    let fresh : holding originals lines line.id ≡ None = fresh-in-end (numbered originals) lines line.id (numbered-past originals line.id high) others in
    record {
      originals_below = is.originals_below;
      proof = proof-push (numbered originals) lines line is.proof (accepted-from (holding originals lines) line fresh derived);
      above = All-push IsAbove lines line is.above above;
    }

-- a proof stays one where more is held, under other numbers than those of its lines
proof-more : (held more : Holding) (lines : List Line) → ((id : ℕ) (c : Option (List ℕ)) → held id ≡ Some c → more id ≡ Some c) → ((line : Line) → Among line lines → more line.id ≡ None) → AreApart lines → IsProof held (proof_of lines) → IsProof more (proof_of lines)
proof-more held more [] keeps fresh apart p = tt
proof-more held more (x ∷ xs) keeps fresh apart p =
    let is : IsAccepted held x.id (Some x.lits) x.hints = accepted-parts held x.id (Some x.lits) x.hints p.0 in
    let here : derivation more (Some x.lits) x.hints ≡ Derived = derived-more held more (Some x.lits) x.hints keeps is.derived in
    (accepted-from more x (fresh x (inl refl)) here, proof-more (with_clause held x.id (Some x.lits)) (with_clause more x.id (Some x.lits)) xs keeps-next fresh-next apart.1 p.1)
  where
    keeps-next : (id : ℕ) (c : Option (List ℕ)) → with_clause held x.id (Some x.lits) id ≡ Some c → with_clause more x.id (Some x.lits) id ≡ Some c
    keeps-next id c q = by_new (id == x.id) q
      where
        by_new : (b : Bool) → cond b (Some (Some x.lits)) (held id) ≡ Some c → cond b (Some (Some x.lits)) (more id) ≡ Some c
        by_new true r = r
        by_new false r = keeps id c r

    fresh-next : (line : Line) → Among line xs → with_clause more x.id (Some x.lits) line.id ≡ None
    fresh-next line h = with-other more x.id (Some x.lits) line.id (of-all (λ y. y.id ≢ x.id) xs line apart.0 h) ∙ fresh line (inr h)

get-front : (xs ys : List (Option (List ℕ))) (i : ℕ) (c : Option (List ℕ)) → slice_get xs i ≡ Some c → slice_get (xs ++ ys) i ≡ Some c
get-front [] ys i c q = absurd (cc)
get-front (x ∷ xs) ys zero c q = q
get-front (x ∷ xs) ys (suc i) c q = get-front xs ys i c q

numbered-front : (xs ys : List (Option (List ℕ))) (id : ℕ) (c : Option (List ℕ)) → numbered xs id ≡ Some c → numbered (xs ++ ys) id ≡ Some c
numbered-front xs ys id c q = by_zero (id == 0) q
  where
    by_zero : (b : Bool) → cond b None (slice_get xs (id - 1)) ≡ Some c → cond b None (slice_get (xs ++ ys) (id - 1)) ≡ Some c
    by_zero true r = absurd (cc)
    by_zero false r = get-front xs ys (id - 1) c r

pub log-takes-originals : LogTakesOriginals
log-takes-originals originals more lines is below = record {
  originals_below = below;
  proof = proof-more (numbered originals) (numbered (originals ++ more)) lines (numbered-front originals more) fresh (apart-lines (numbered originals) lines is.proof) is.proof;
  above = is.above;
}
  where
    fresh : (line : Line) → Among line lines → numbered (originals ++ more) line.id ≡ None
    fresh line h = let b : 2 ^ 32 ≤ line.id = (of-all IsAbove lines line is.above h).derived in numbered-past (originals ++ more) line.id (omega arith)

proof-append : (held : Holding) (lines more : List Line) → IsProof held (proof_of lines) → IsProof (after_lines held (proof_of lines)) (proof_of more) → IsProof held (proof_of (lines ++ more))
proof-append held [] more p q = q
proof-append held (x ∷ xs) more p q = (p.0, proof-append (with_clause held x.id (Some x.lits)) xs more p.1 q)

pub log-takes-proof : LogTakesProof
log-takes-proof originals lines more held is keeps proof above others = record {
  originals_below = is.originals_below;
  proof = proof-append (numbered originals) lines more is.proof (proof-more held (holding originals lines) more keeps fresh (apart-lines held more proof) proof);
  above = All-append IsAbove lines more is.above above;
}
  where
    fresh : (line : Line) → Among line more → holding originals lines line.id ≡ None
    fresh line h =
        let a : length originals < 2 ^ 32 = is.originals_below in
        let b : 2 ^ 32 ≤ line.id = (of-all IsAbove more line above h).derived in
        fresh-in-end (numbered originals) lines line.id (numbered-past originals line.id (omega arith)) (of-all (λ l. All (λ other. other.id ≢ l.id) lines) more line others h)
