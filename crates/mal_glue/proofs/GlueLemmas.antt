-- Levels counted one after another.
use Rattle.std.proofs.Common.{◌≡◌, ℕ, ◌+◌, ◌<◌, Bool, true, false, cond, nat_eq, List, [], ◌∷◌, ◌++◌, length, take, set, get_or, refl, sym, ap, ◌∙◌, arith}
use Rattle.std.specs.Prelude.{◌==◌, ◌||◌}
use Rattle.std.specs.List.{list_any}
use Rattle.std.proofs.lemmas.Bool.{eqb-true, eq-eqb}
use Rattle.std.proofs.lemmas.Bool.Decides.{nat_tests}
use Rattle.std.specs.Prelude.{slice_index_or}
use Rattle.std.proofs.lemmas.Bool.{false≢true}
use Rattle.std.proofs.lemmas.List.{take_more, map-append, length-set, get_or-set_same, get_or-set_other}
use Rattle.mal_base.specs.Literals.{var_of}
use Rattle.mal_base.specs.declared.trail_entry.TrailEntry.{TrailEntry}
use Rattle.spec_node.specs.Sound.{level_in}
use Rattle.spec_guided.specs.Glue.{different, levels_of}

-- whether a number is among others
abbrev pub among : ℕ → List ℕ → Bool
among n ns = list_any (λ m. m == n) ns

or-true : (b : Bool) → (b || true) ≡ true
or-true true = refl
or-true false = refl

or-false : (b : Bool) → (b || false) ≡ b
or-false true = refl
or-false false = refl

among-push : (n x : ℕ) (ns : List ℕ) → among n (ns ++ x ∷ []) ≡ (among n ns || (x == n))
among-push n x [] = or-false (x == n)
among-push n x (m ∷ ms) = rw (among-push n x ms) (or-turn (m == n) (among n ms) (x == n))
  where
    or-turn : (a b c : Bool) → (a || (b || c)) ≡ ((a || b) || c)
    or-turn true b c = refl
    or-turn false b c = refl

turned : (a b : ℕ) → nat_eq a b ≡ false → nat_eq b a ≡ false
turned a b = grind (arith, nat_tests)

-- numbers with one more are one more where it is not among them
pub different-push : (ns : List ℕ) (x : ℕ) → length (different (ns ++ x ∷ [])) ≡ length (different ns) + cond (among x ns) 0 1
different-push [] x = refl
different-push (n ∷ ns) x = rw (among-push n x ns) (by_cases (different-push ns x) (among n ns) refl (x == n) refl)
  where
    by_cases : length (different (ns ++ x ∷ [])) ≡ length (different ns) + cond (among x ns) 0 1 → (b : Bool) → among n ns ≡ b → (c : Bool) → (x == n) ≡ c → length (cond (b || c) (different (ns ++ x ∷ [])) (n ∷ different (ns ++ x ∷ []))) ≡ length (cond b (different ns) (n ∷ different ns)) + cond ((n == x) || among x ns) 0 1
    by_cases f true t true s =
        let same : x ≡ n = eqb-true x n s in
        let there : among x ns ≡ true = ap (λ (k : ℕ). among k ns) same ∙ t in
        let yes : (n == x) ≡ true = eq-eqb n x (sym same) in
        rw (there, yes) (rw there at f)
    by_cases f true t false s =
        let other : (n == x) ≡ false = turned x n s in
        rw other f
    by_cases f false t true s =
        let same : x ≡ n = eqb-true x n s in
        let there : among x ns ≡ false = ap (λ (k : ℕ). among k ns) same ∙ t in
        let yes : (n == x) ≡ true = eq-eqb n x (sym same) in
        let g : length (different (ns ++ x ∷ [])) ≡ length (different ns) + 1 = rw there at f in
        rw yes (omega (arith, g))
    by_cases f false t false s =
        let other : (n == x) ≡ false = turned x n s in
        rw other (omega (arith, f))

-- the levels of literals with one more
pub levels-next : (es : List TrailEntry) (lits : List ℕ) (i l : ℕ) → i < length lits → l ≡ get_or lits i l → levels_of es (take (i + 1) lits) ≡ levels_of es (take i lits) ++ level_in es (var_of l) ∷ []
levels-next es lits i l h e =
    ap (levels_of es) (take_more lits i l h) ∙ (map-append (λ k. level_in es (var_of k)) (take i lits) (get_or lits i l ∷ []) ∙ ap (λ (k : ℕ). levels_of es (take i lits) ++ level_in es (var_of k) ∷ []) (sym e))

-- what was counted of some levels, with one more
pub record HasCounted (flags : List Bool) (count : ℕ) (ns : List ℕ) : Type 0 where
  pub seen : (k : ℕ) → k < length flags → slice_index_or flags k false ≡ among k ns
  pub total : count ≡ length (different ns)

pub counted-new : (flags : List Bool) (count : ℕ) (ns : List ℕ) (x : ℕ) → x < length flags → slice_index_or flags x false ≡ false → HasCounted flags count ns → HasCounted (set flags x true) (count + 1) (ns ++ x ∷ [])
counted-new flags count ns x b f h =
    let new : among x ns ≡ false = sym (h.seen x b) ∙ f in
    record {
      seen = λ k l. by_place k (omega (arith, l, length-set flags x true)) (x == k) refl;
      total = let more = different-push ns x in let m : length (different (ns ++ x ∷ [])) ≡ length (different ns) + 1 = rw new at more in omega (arith, h.total, m);
    }
  where
    by_place : (k : ℕ) → k < length flags → (b : Bool) → (x == k) ≡ b → slice_index_or (set flags x true) k false ≡ among k (ns ++ x ∷ [])
    by_place k l true t = let same : x ≡ k = eqb-true x k t in ap (λ (i : ℕ). get_or (set flags x true) i false) (sym same) ∙ get_or-set_same flags x true false b ∙ sym (among-push k x ns ∙ rw t (or-true (among k ns)))
    by_place k l false t = get_or-set_other flags x k true false (λ e. false≢true (sym t ∙ eq-eqb x k (sym e))) ∙ (h.seen k l ∙ sym (among-push k x ns ∙ rw t (or-false (among k ns))))

-- and with one that was seen already
pub counted-again : (flags : List Bool) (count : ℕ) (ns : List ℕ) (x : ℕ) → x < length flags → slice_index_or flags x false ≡ true → HasCounted flags count ns → HasCounted flags count (ns ++ x ∷ [])
counted-again flags count ns x b f h =
    let old : among x ns ≡ true = sym (h.seen x b) ∙ f in
    record {
      seen = λ k l. h.seen k l ∙ (by_place k old (x == k) refl ∙ sym (among-push k x ns));
      total = let more = different-push ns x in let m : length (different (ns ++ x ∷ [])) ≡ length (different ns) + 0 = rw old at more in omega (arith, h.total, m);
    }
  where
    by_place : (k : ℕ) → among x ns ≡ true → (b : Bool) → (x == k) ≡ b → among k ns ≡ (among k ns || b)
    by_place k old true t = let same : x ≡ k = eqb-true x k t in ap (λ (i : ℕ). among i ns) (sym same) ∙ old ∙ sym (or-true (among k ns))
    by_place k old false t = sym (or-false (among k ns))
