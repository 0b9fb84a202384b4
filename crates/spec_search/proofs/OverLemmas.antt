use Rattle.std.proofs.Common.{◌≡◌, ℕ, ◌<◌, List, [], ◌∷◌, ◌++◌, map, Option, Some, None, refl, sym, ap, ◌∙◌, subst, arith}
use Rattle.std.specs.Prelude.{All, Contains, find, ◌==◌, option_map}
use Rattle.std.proofs.lemmas.List.Elements.{All-push, All-weaker, All-contains, All-contains_itself, Contains-append_left, Contains-push}
use Rattle.std.proofs.lemmas.Bool.{eqb-true}
use Rattle.mal_base.specs.Literals.{negated}
use Rattle.mal_base.specs.NumberedClause.{NumberedClause, Line, lits_under}
use Rattle.spec_logic.specs.Derivation.{Holding, Effect, propagation, effect_of, trues_after, ends_or}
use Rattle.spec_logic.specs.Derivation.Effect.{Missing, Passes, Makes, Conflicts, LeavesMore}
use Rattle.spec_logic.specs.Derivation.Derivation.{Derived, Unknown}
use Rattle.spec_node.specs.State.{Node}
use Rattle.spec_node.specs.Sound.{NumbersRise, IsSound}
use Rattle.spec_node.proofs.FindLemmas.{find-passes, find-All}
use Rattle.spec_learn.specs.Learning.{holding, derived_id}
use Rattle.spec_learn.proofs.BehindLemmas.{held-under}
use Rattle.spec_learn.proofs.SoundParts.{with-last, numbers-last, below-derived}
use Rattle.spec_search.specs.Derived.{IsHeld, with_line, IsDerivedFrom}

-- what is derived from some clauses is derived where more are held
pub propagation-more : (held more : Holding) → ((id : ℕ) (c : Option (List ℕ)) → held id ≡ Some c → more id ≡ Some c) → (hints trues : List ℕ) → propagation held trues hints ≡ Derived → propagation more trues hints ≡ Derived
propagation-more held more f [] trues h = absurd (cc)
propagation-more held more f (id ∷ hints) trues h = by_held (held id) refl (λ ts k. propagation-more held more f hints ts k) h
  where
    by_effect : (e : Effect) → ((ts : List ℕ) → propagation held ts hints ≡ Derived → propagation more ts hints ≡ Derived) → ends_or e id (propagation held (trues_after e trues) hints) ≡ Derived → ends_or e id (propagation more (trues_after e trues) hints) ≡ Derived
    by_effect Missing g k = absurd (cc)
    by_effect Passes g k = g trues k
    by_effect (Makes l) g k = g (l ∷ trues) k
    by_effect Conflicts g k = refl
    by_effect LeavesMore g k = absurd (cc)

    by_held : (o : Option (Option (List ℕ))) → held id ≡ o → ((ts : List ℕ) → propagation held ts hints ≡ Derived → propagation more ts hints ≡ Derived) → ends_or (effect_of trues (held id)) id (propagation held (trues_after (effect_of trues (held id)) trues) hints) ≡ Derived → ends_or (effect_of trues (more id)) id (propagation more (trues_after (effect_of trues (more id)) trues) hints) ≡ Derived
    by_held None q g k = absurd (nothing (subst (λ (o : Option (Option (List ℕ))). ends_or (effect_of trues o) id (propagation held (trues_after (effect_of trues o) trues) hints) ≡ Derived) q k))
      where
        nothing : Unknown id ≡ Derived → ⊥
        nothing m = absurd (cc)
    by_held (Some c) q g k = subst (λ (o : Option (Option (List ℕ))). ends_or (effect_of trues o) id (propagation more (trues_after (effect_of trues o) trues) hints) ≡ Derived) (sym (f id c q)) (by_effect (effect_of trues (Some c)) g (subst (λ (o : Option (Option (List ℕ))). ends_or (effect_of trues o) id (propagation held (trues_after (effect_of trues o) trues) hints) ≡ Derived) q k))

-- clauses that were held: they have rising numbers below the node's next one, and what the node holds is among them
pub record IsOver (held : List NumberedClause) (n : Node) : Type 0 where
  pub within : All (Contains held) n.clauses
  pub numbers : NumbersRise 1 held
  pub below : All (λ c. c.id < derived_id n) held

holding-more : (clauses held : List NumberedClause) → All (Contains held) clauses → NumbersRise 1 held → (id : ℕ) (c : Option (List ℕ)) → holding clauses id ≡ Some c → holding held id ≡ Some c
holding-more clauses held w r id c h = by_found (find (λ x. x.id == id) clauses) refl h
  where
    by_found : (o : Option NumberedClause) → find (λ (x : NumberedClause). x.id == id) clauses ≡ o → option_map (λ (ls : List ℕ). Some ls) (option_map (λ (x : NumberedClause). x.lits) o) ≡ Some c → holding held id ≡ Some c
    by_found None q k = absurd (cc)
    by_found (Some d) q k =
        let there : Contains held d = find-All (Contains held) (λ x. x.id == id) clauses d w q in
        let same : d.id ≡ id = eqb-true d.id id (find-passes (λ x. x.id == id) clauses d q) in
        let under : lits_under id held ≡ Some d.lits = subst (λ (x : ℕ). lits_under x held ≡ Some d.lits) same (held-under 1 held d r there) in
        ap (option_map (λ (ls : List ℕ). Some ls)) under ∙ k

pub derived-more : (held : List NumberedClause) (n : Node) (l : Line) → IsOver held n → l.id ≡ derived_id n → IsDerivedFrom n.clauses l → IsDerivedFrom held l
derived-more held n l o q d = record {
  derived = propagation-more (holding n.clauses) (holding held) (holding-more n.clauses held o.within o.numbers) l.hints (map negated l.lits) d.derived;
  hints = All-weaker (IsHeld n.clauses) (IsHeld held) (λ id k. (k.0, All-contains (Contains held) n.clauses k.0 o.within k.1, k.2)) l.hints d.hints;
  above = All-weaker (λ c. c.id < derived_id n) (λ c. c.id < l.id) (λ c m. omega arith) held o.below;
}

-- what a step does to the clauses held
abbrev pub Stepped : Node → Node → Option Line → Type 0
Stepped n m None = All (Contains n.clauses) m.clauses × (derived_id m ≡ derived_id n)
Stepped n m (Some l) = IsDerivedFrom n.clauses l × (l.id ≡ derived_id n) × (m.clauses ≡ with_line n.clauses l) × (derived_id n < derived_id m)

pub over-without_line : (held : List NumberedClause) (n m : Node) → IsOver held n → Stepped n m None → IsOver held m
over-without_line held n m o k = let same : derived_id m ≡ derived_id n = k.1 in record {
  within = All-weaker (Contains n.clauses) (Contains held) (λ c q. All-contains (Contains held) n.clauses c o.within q) m.clauses k.0;
  numbers = o.numbers;
  below = All-weaker (λ c. c.id < derived_id n) (λ c. c.id < derived_id m) (λ c q. omega arith) held o.below;
}

pub over-with_line : (held : List NumberedClause) (n m : Node) (l : Line) → IsSound n → IsOver held n → Stepped n m (Some l) → IsOver (with_line held l) m
over-with_line held n m l h o k =
    subst (λ (cs : List NumberedClause). IsOver cs m) (sym (with-last new held (All-weaker (λ c. c.id < derived_id n) (λ c. c.id < l.id) (λ c q. let same : l.id ≡ derived_id n = k.1 in omega arith) held o.below)))
    (record {
      within = subst (All (Contains (held ++ new ∷ []))) (sym (k.2 ∙ with-last new n.clauses (All-weaker (λ c. c.id < derived_id n) (λ c. c.id < l.id) (λ c q. let same : l.id ≡ derived_id n = k.1 in omega arith) n.clauses (below-derived n.serial n.index n.clauses h.ranged.serial))))
          (All-push (Contains (held ++ new ∷ [])) n.clauses new (All-weaker (Contains held) (Contains (held ++ new ∷ [])) (λ c q. Contains-append_left held (new ∷ []) c q) n.clauses o.within) (Contains-push held new));
      numbers = numbers-last 1 new held (let same : l.id ≡ derived_id n = k.1 in omega arith) o.numbers (All-weaker (λ c. c.id < derived_id n) (λ c. c.id < l.id) (λ c q. let same : l.id ≡ derived_id n = k.1 in omega arith) held o.below);
      below = All-push (λ c. c.id < derived_id m) held new (All-weaker (λ c. c.id < derived_id n) (λ c. c.id < derived_id m) (λ c q. let rise : derived_id n < derived_id m = k.3 in omega arith) held o.below) (let same : l.id ≡ derived_id n = k.1 in let rise : derived_id n < derived_id m = k.3 in omega arith);
    })
  where
    new : NumberedClause
    new = record { id = l.id; lits = l.lits }

pub own-over : (n : Node) → IsSound n → IsOver n.clauses n
own-over n h = record { within = All-contains_itself n.clauses; numbers = h.ranged.numbers; below = below-derived n.serial n.index n.clauses h.ranged.serial }
