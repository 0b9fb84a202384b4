-- Of numbers, and of the entries of some of them.
use Rattle.std.proofs.Common.{◌≡◌, ◌≢◌, ℕ, suc, Bool, true, false, List, [], ◌∷◌, ◌++◌, if◌then◌else◌, set, refl, sym, ap, ◌∙◌, subst, ⊎_elim, append_assoc}
use Rattle.std.proofs.lemmas.List.{append-nil}
use mathlib.Core.Option as lean
use lib.ListN.{get_elem?}
use Rattle.atomic_table.proofs.Lists.{at_set}
use Rattle.mal_turn.specs.Numbers.{among, part}
use Rattle.mal_turn.specs.Rule.{Log, At, Begins}

module _ {V : Type 0} where
  pub stay : (K : ℕ → V → Type 0) (vs : List V) (me : ℕ) (w : V) → K me w → ((j : ℕ) (d : V) → j ≢ me → At vs j d → K j d) → (j : ℕ) (d : V) → At (set vs me w) j d → K j d
  stay K vs me w mine others j d e = ⊎_elim (λ (t : (j ≡ me) × (w ≡ d)). subst (λ (x : ℕ × V). K x.0 x.1) (λ i. (sym t.0 i, t.1 i)) mine)
      (λ (t : (j ≢ me) × At vs j d). others j d t.0 t.1) (at_set vs me j w d e)

  -- what is seen at one place is one thing
  pub one_view : (vs : List V) (j k : ℕ) (v w : V) → At vs j v → At vs k w → j ≡ k → v ≡ w
  one_view vs j k v w p q e = lean.some-injective v w (sym p ∙ (ap (λ (z : ℕ). get_elem? vs z) e ∙ q))

module _ {E : Type 0} where
  -- what stands in a list stands in a longer one
  pub behind : (a b : Log E) (i : ℕ) (e : List ℕ × E) → At b i e → (k : ℕ) × At (a ++ b) k e
  behind [] b i e p = (i, p)
  behind (x ∷ a) b i e p = let t = behind a b i e p in (suc t.0, t.1)

  part_step : (b : Bool) (e : List ℕ × E) (p q r : Log E) → p ≡ q ++ r → (if b then e ∷ p else p) ≡ (if b then e ∷ q else q) ++ r
  part_step true e p q r h = ap (λ (l : Log E). e ∷ l) h
  part_step false e p q r h = h

  pub part-append : (ns : List (List ℕ)) (xs ys : Log E) → part ns (xs ++ ys) ≡ part ns xs ++ part ns ys
  part-append ns [] ys = refl
  part-append ns (e ∷ es) ys = part_step (among e.0 ns) e (part ns (es ++ ys)) (part ns es) (part ns ys) (part-append ns es ys)

  none_there : (b : Bool) (e : List ℕ × E) → b ≡ false → (if b then e ∷ [] else []) ≡ []
  none_there true e h = absurd (cc)
  none_there false e h = refl

  pub part-other : (ns : List (List ℕ)) (e : List ℕ × E) → among e.0 ns ≡ false → part ns (e ∷ []) ≡ []
  part-other ns e h = none_there (among e.0 ns) e h

  pub begins_whole : (log seen : Log E) (ns : List (List ℕ)) → seen ≡ log → Begins log ns seen
  begins_whole log seen ns e = ([], sym e ∙ sym (append-nil seen), refl)

  pub begins_longer : (log seen : Log E) (ns : List (List ℕ)) (e : List ℕ × E) → Begins log ns seen → among e.0 ns ≡ false → Begins (log ++ e ∷ []) ns seen
  begins_longer log seen ns e b other = (
    b.0 ++ e ∷ [],
    ap (λ (l : Log E). l ++ e ∷ []) b.1 ∙ append_assoc seen b.0 (e ∷ []),
    part-append ns b.0 (e ∷ []) ∙ (λ i. b.2 i ++ part-other ns e other i),
  )

  mine_there : (b : Bool) (e : List ℕ × E) → b ≡ true → (if b then e ∷ [] else []) ≡ e ∷ []
  mine_there true e h = refl
  mine_there false e h = absurd (cc)

  pub part-mine : (ns : List (List ℕ)) (e : List ℕ × E) → among e.0 ns ≡ true → part ns (e ∷ []) ≡ e ∷ []
  part-mine ns e h = mine_there (among e.0 ns) e h

  -- what goes on with entries of others has the same part
  pub part-begins : (log seen : Log E) (ns : List (List ℕ)) → Begins log ns seen → part ns log ≡ part ns seen
  part-begins log seen ns b = ap (part ns) b.1 ∙ (part-append ns seen b.0 ∙ (ap (λ (l : Log E). part ns seen ++ l) b.2 ∙ append-nil (part ns seen)))
