use Rattle.std.proofs.Common.{◌≡◌, ℕ, ◌<◌, Bool, true, false, cond, List, [], ◌∷◌, ◌++◌, Some, None, refl, ap, ◌∙◌, arith}
use Rattle.std.specs.Prelude.{All, find, ◌==◌, option_map}
use Rattle.std.proofs.lemmas.List.Elements.{All-head, All-tail}
use Rattle.std.proofs.lemmas.Bool.{eq-eqb, ne_eqb}
use Rattle.mal_base.specs.NumberedClause.{NumberedClause, lits_under}
use Rattle.spec_node.specs.State.{Node}
use Rattle.spec_node.specs.Sound.{IsSound}
use Rattle.spec_learn.specs.Learning.{derived_id}
use Rattle.spec_learn.specs.Refuting.{refuted}
use Rattle.spec_learn.proofs.SoundParts.{with-last, below-derived}

-- a number above all is not held, and a clause after them is under it
none-under : (id : ℕ) (ds : List NumberedClause) → All (λ d. d.id < id) ds → lits_under id ds ≡ None
none-under id [] h = refl
none-under id (d ∷ ds) h =
    let low : d.id < id = All-head (λ x. x.id < id) d ds h in
    let other : (d.id == id) ≡ false = ne_eqb d.id id (λ q. absurd (omega arith)) in
    rw other (none-under id ds (All-tail (λ x. x.id < id) d ds h))

last-under : (c : NumberedClause) (ds : List NumberedClause) → All (λ d. d.id < c.id) ds → lits_under c.id (ds ++ c ∷ []) ≡ Some c.lits
last-under c [] h = let own : (c.id == c.id) ≡ true = eq-eqb c.id c.id refl in ap (λ (b : Bool). option_map (λ (x : NumberedClause). x.lits) (cond b (Some c) None)) own
last-under c (d ∷ ds) h =
    let low : d.id < c.id = All-head (λ x. x.id < c.id) d ds h in
    let other : (d.id == c.id) ≡ false = ne_eqb d.id c.id (λ q. absurd (omega arith)) in
    rw other (last-under c ds (All-tail (λ x. x.id < c.id) d ds h))

front-under : (id : ℕ) (ds : List NumberedClause) (c : NumberedClause) (lits : List ℕ) → lits_under id ds ≡ Some lits → lits_under id (ds ++ c ∷ []) ≡ Some lits
front-under id [] c lits h = absurd (cc)
front-under id (d ∷ ds) c lits h = by_here (front-under id ds c lits) (d.id == id) h
  where
    by_here : (lits_under id ds ≡ Some lits → lits_under id (ds ++ c ∷ []) ≡ Some lits) → (b : Bool) → option_map (λ (x : NumberedClause). x.lits) (cond b (Some d) (find (λ (x : NumberedClause). x.id == id) ds)) ≡ Some lits → option_map (λ (x : NumberedClause). x.lits) (cond b (Some d) (find (λ (x : NumberedClause). x.id == id) (ds ++ c ∷ []))) ≡ Some lits
    by_here f true k = k
    by_here f false k = f k

below : (n : Node) → IsSound n → All (λ (y : NumberedClause). y.id < derived_id n) n.clauses
below n h = below-derived n.serial n.index n.clauses h.ranged.serial

last : (n : Node) (lits : List ℕ) → IsSound n → (refuted lits n).clauses ≡ n.clauses ++ record { id = derived_id n; lits = lits } ∷ []
last n lits h = with-last (record { id = derived_id n; lits = lits }) n.clauses (below n h)

pub number-new : (n : Node) → IsSound n → lits_under (derived_id n) n.clauses ≡ None
number-new n h = none-under (derived_id n) n.clauses (below n h)

pub goal-held : (n : Node) (lits : List ℕ) → IsSound n → lits_under (derived_id n) (refuted lits n).clauses ≡ Some lits
goal-held n lits h = ap (lits_under (derived_id n)) (last n lits h) ∙ last-under (record { id = derived_id n; lits = lits }) n.clauses (below n h)

pub others-held : (n : Node) (lits : List ℕ) (id : ℕ) (others : List ℕ) → IsSound n → lits_under id n.clauses ≡ Some others → lits_under id (refuted lits n).clauses ≡ Some others
others-held n lits id others h q = ap (lits_under id) (last n lits h) ∙ front-under id n.clauses (record { id = derived_id n; lits = lits }) others q
