use Rattle.std.proofs.Common.{◌≡◌, ℕ, Bool, true, false, cond, List, [], ◌∷◌, ◌++◌, reverse, refl, sym, ap, ◌∙◌, inl, inr, ◌⊎◌}
use Rattle.std.specs.Prelude.{◌==◌, ◌||◌}
use Rattle.std.specs.List.{list_any}
use Rattle.std.proofs.lemmas.List.Sorted.{list_any-IsPermutation, IsPermutation-reverse}
use Rattle.std.proofs.lemmas.Bool.{or_cases, or_left, or_right}
use Rattle.mal_base.specs.Literals.{negated}
use Rattle.mal_base.specs.NumberedClause.{NumberedClause}
use Rattle.mal_base.specs.declared.trail_entry.TrailEntry.{TrailEntry}
use Rattle.spec_node.specs.Value.{level_of}
use Rattle.spec_learn.specs.Analysis.{clause_of, walk_of}
use Rattle.spec_learn.proofs.SettleLemmas.{put-own}
use Rattle.spec_learn.specs.Shorter.{shorter_walk, is_redundant, gone_through}
use Rattle.spec_learn.specs.ShorterLaws.{ShorterIsWithin}
use Rattle.spec_learn.proofs.StayLemmas.{stays-gone}

-- a literal is in a clause where an entry's negation is it
clause-in : (es : List TrailEntry) (l : ℕ) → list_any (λ m. m == l) (clause_of es) ≡ list_any (λ e. negated e.lit == l) es
clause-in [] l = refl
clause-in (e ∷ es) l = put-own l (negated e.lit) (clause_of es) ∙ ap (λ (b : Bool). (negated e.lit == l) || b) (clause-in es l)

-- what is left after going through entries was there
gone-within : (p : TrailEntry → Bool) (level : ℕ) (clauses : List NumberedClause) (past ahead stayed : List TrailEntry) → list_any p (gone_through level clauses past ahead stayed) ≡ true → (list_any p ahead ≡ true) ⊎ (list_any p stayed ≡ true)
gone-within p level clauses past [] stayed h = inr h
gone-within p level clauses past (e ∷ ahead) stayed h = by_test (λ xs k. gone-within p level clauses past ahead xs k) (is_redundant level clauses past e (ahead ++ stayed)) h
  where
    by_test : ((xs : List TrailEntry) → list_any p (gone_through level clauses past ahead xs) ≡ true → (list_any p ahead ≡ true) ⊎ (list_any p xs ≡ true)) → (b : Bool) → list_any p (gone_through level clauses past ahead (cond b stayed (e ∷ stayed))) ≡ true → (list_any p (e ∷ ahead) ≡ true) ⊎ (list_any p stayed ≡ true)
    by_test f true k = by_place (f stayed k)
      where
        by_place : (list_any p ahead ≡ true) ⊎ (list_any p stayed ≡ true) → (list_any p (e ∷ ahead) ≡ true) ⊎ (list_any p stayed ≡ true)
        by_place (inl q) = inl (or_right _ _ q)
        by_place (inr q) = inr q
    by_test f false k = by_place (f (e ∷ stayed) k)
      where
        by_here : ((p e ≡ true) ⊎ (list_any p stayed ≡ true)) → (list_any p (e ∷ ahead) ≡ true) ⊎ (list_any p stayed ≡ true)
        by_here (inl q) = inl (or_left _ _ q)
        by_here (inr q) = inr q

        by_place : (list_any p ahead ≡ true) ⊎ (list_any p (e ∷ stayed) ≡ true) → (list_any p (e ∷ ahead) ≡ true) ⊎ (list_any p stayed ≡ true)
        by_place (inl q) = inl (or_right _ _ q)
        by_place (inr q) = by_here (or_cases (p e) (list_any p stayed) q)

pub shorter-within : ShorterIsWithin
shorter-within n id h q some l k =
    by_place (gone-within (λ e. negated e.lit == l) (level_of n.trail) n.clauses (reverse n.trail) (reverse plain) [] (sym (ap (list_any (λ e. negated e.lit == l)) (stays-gone n id h q some)) ∙ (sym (clause-in (shorter_walk n.clauses (reverse n.trail) id).kept l) ∙ k)))
  where
    plain : List TrailEntry
    plain = (walk_of n.clauses (reverse n.trail) id).kept

    by_place : (list_any (λ (e : TrailEntry). negated e.lit == l) (reverse plain) ≡ true) ⊎ (list_any (λ (e : TrailEntry). negated e.lit == l) [] ≡ true) → list_any (λ m. m == l) (clause_of plain) ≡ true
    by_place (inl m) = clause-in plain l ∙ (list_any-IsPermutation (λ e. negated e.lit == l) plain (reverse plain) (IsPermutation-reverse plain) ∙ m)
    by_place (inr m) = absurd (cc)
