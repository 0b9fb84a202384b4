use Rattle.std.proofs.Common.{◌≡◌, ℕ, ◌<◌, ◌≤◌, Bool, true, false, cond, not, eqb, List, [], ◌∷◌, ◌++◌, ◌||◌, filter, get_or, set, length, drop, ◌+◌, Option, Some, None, refl, sym, ap, ◌∙◌, inl, inr, ◌⊎◌, arith}
use Rattle.std.specs.List.{list_any}
use Rattle.std.proofs.Math.Path.{fun_ext}
use Rattle.std.proofs.lemmas.List.{get_or-set_same, get_or-set_other, get_or_past, drop_more}
use Rattle.std.proofs.lemmas.List.Folds.{list_any-append}
use Rattle.std.proofs.lemmas.Bool.{cases_eq, or_cases, eqb-true}
use Rattle.mal_base.specs.Literals.{negated}
use Rattle.spec_logic.specs.Derivation.{Holding, Effect, Derivation, is_true, effect_of, effect_of_left, trues_after, ends_or, propagation}
use Rattle.spec_logic.specs.Derivation.Effect.{Missing, Passes, Makes, Conflicts, LeavesMore}

-- with the mark of the first literal taken away, the marks are those of the others
by_rest : (lit : ℕ) (rest : List ℕ) (code : ℕ) → (code ≡ lit → ⊥) → (eqb lit code ≡ true) ⊎ (is_true rest code ≡ true) → is_true rest code ≡ true
by_rest lit rest code apart (inl e) = absurd (apart (sym (eqb-true lit code e)))
by_rest lit rest code apart (inr k) = k

pub unmarked : (marks : List Bool) (lit : ℕ) (rest : List ℕ) → lit < length marks → ((code : ℕ) → get_or marks code false ≡ true → is_true (lit ∷ rest) code ≡ true) → (code : ℕ) → get_or (set marks lit false) code false ≡ true → is_true rest code ≡ true
unmarked marks lit rest low h code e = by_code (cases_eq code lit)
  where
    by_code : (code ≡ lit) ⊎ (code ≡ lit → ⊥) → is_true rest code ≡ true
    by_code (inl same) =
        let gone : get_or (set marks lit false) code false ≡ false = ap (λ (n : ℕ). get_or (set marks lit false) n false) same ∙ get_or-set_same marks lit false false low in
        absurd (cc)
    by_code (inr apart) = by_rest lit rest code apart (or_cases (eqb lit code) (is_true rest code) (h code (sym (get_or-set_other marks lit code false false apart) ∙ e)))

-- a literal without a mark is passed over
pub unmarked_past : (marks : List Bool) (lit : ℕ) (rest : List ℕ) → length marks ≤ lit → ((code : ℕ) → get_or marks code false ≡ true → is_true (lit ∷ rest) code ≡ true) → (code : ℕ) → get_or marks code false ≡ true → is_true rest code ≡ true
unmarked_past marks lit rest high h code e = by_rest lit rest code apart (or_cases (eqb lit code) (is_true rest code) (h code e))
  where
    apart : code ≡ lit → ⊥
    apart same = let gone : get_or marks code false ≡ false = get_or_past marks code false (omega arith) in absurd (cc)

-- the effect of a clause depends on which literals are true alone
abbrev effect_by : (ℕ → Bool) → Option (Option (List ℕ)) → Effect
effect_by truth None = Missing
effect_by truth (Some None) = Passes
effect_by truth (Some (Some lits)) = cond (list_any truth lits) Passes (effect_of_left (filter (λ l. not (truth (negated l))) lits))

effect_by-is : (trues : List ℕ) (o : Option (Option (List ℕ))) → effect_of trues o ≡ effect_by (is_true trues) o
effect_by-is trues None = refl
effect_by-is trues (Some None) = refl
effect_by-is trues (Some (Some lits)) = refl

abbrev pub AreAlike : List ℕ → List ℕ → Type 0
AreAlike ts us = (l : ℕ) → is_true ts l ≡ is_true us l

effect-alike : (ts us : List ℕ) (o : Option (Option (List ℕ))) → AreAlike ts us → effect_of ts o ≡ effect_of us o
effect-alike ts us o h = effect_by-is ts o ∙ (ap (λ (f : ℕ → Bool). effect_by f o) (fun_ext h) ∙ sym (effect_by-is us o))

after-alike : (e : Effect) (ts us : List ℕ) → AreAlike ts us → AreAlike (trues_after e ts) (trues_after e us)
after-alike Missing ts us h = h
after-alike Passes ts us h = h
after-alike (Makes m) ts us h = λ l. ap (λ (b : Bool). eqb m l || b) (h l)
after-alike Conflicts ts us h = h
after-alike LeavesMore ts us h = h

pub propagation-alike : (held : Holding) (hints ts us : List ℕ) → AreAlike ts us → propagation held ts hints ≡ propagation held us hints
propagation-alike held [] ts us h = refl
propagation-alike held (id ∷ hints) ts us h =
    let e : effect_of ts (held id) ≡ effect_of us (held id) = effect-alike ts us (held id) h in
    let rest : propagation held (trues_after (effect_of ts (held id)) ts) hints ≡ propagation held (trues_after (effect_of ts (held id)) us) hints = propagation-alike held hints (trues_after (effect_of ts (held id)) ts) (trues_after (effect_of ts (held id)) us) (after-alike (effect_of ts (held id)) ts us h) in
    ap (λ (d : Derivation). ends_or (effect_of ts (held id)) id d) rest ∙ ap (λ (f : Effect). ends_or f id (propagation held (trues_after f us) hints)) e

-- a literal put after the others is as good as one in front
or-swap : (a b : Bool) → (a || (b || false)) ≡ (b || a)
or-swap true true = refl
or-swap true false = refl
or-swap false true = refl
or-swap false false = refl

pub pushed-alike : (ts : List ℕ) (m : ℕ) → AreAlike (m ∷ ts) (ts ++ m ∷ [])
pushed-alike ts m l = sym (list_any-append (λ k. eqb k l) ts (m ∷ []) ∙ or-swap (is_true ts l) (eqb m l))

-- after a hint that makes a literal true
pub propagation-made : (held : Holding) (ts : List ℕ) (id m : ℕ) (hints : List ℕ) → effect_of ts (held id) ≡ Makes m → propagation held (ts ++ m ∷ []) hints ≡ propagation held ts (id ∷ hints)
propagation-made held ts id m hints e =
    sym (ap (λ (f : Effect). ends_or f id (propagation held (trues_after f ts) hints)) e ∙ propagation-alike held hints (m ∷ ts) (ts ++ m ∷ []) (pushed-alike ts m))

pub propagation-passed : (held : Holding) (ts : List ℕ) (id : ℕ) (hints : List ℕ) → effect_of ts (held id) ≡ Passes → propagation held ts hints ≡ propagation held ts (id ∷ hints)
propagation-passed held ts id hints e = sym (ap (λ (f : Effect). ends_or f id (propagation held (trues_after f ts) hints)) e)

-- the next hint of a list
next-hint : (held : Holding) (ts hints : List ℕ) (i id : ℕ) → i < length hints → id ≡ get_or hints i id → propagation held ts (drop i hints) ≡ propagation held ts (id ∷ drop (i + 1) hints)
next-hint held ts hints i id low e = ap (propagation held ts) (drop_more hints i id low ∙ ap (λ (x : ℕ). x ∷ drop (i + 1) hints) (sym e))

pub step-passed : (held : Holding) (ts hints : List ℕ) (i id : ℕ) (clause : Option (List ℕ)) (end : Derivation) → i < length hints → id ≡ get_or hints i id → Some clause ≡ held id → Passes ≡ effect_of ts (Some clause) → propagation held ts (drop i hints) ≡ end → propagation held ts (drop (i + 1) hints) ≡ end
step-passed held ts hints i id clause end low e h f so_far = propagation-passed held ts id (drop (i + 1) hints) (ap (effect_of ts) (sym h) ∙ sym f) ∙ (sym (next-hint held ts hints i id low e) ∙ so_far)

pub step-made : (held : Holding) (ts us hints : List ℕ) (i id m : ℕ) (clause : Option (List ℕ)) (end : Derivation) → i < length hints → id ≡ get_or hints i id → Some clause ≡ held id → Makes m ≡ effect_of ts (Some clause) → us ≡ ts ++ m ∷ [] → propagation held ts (drop i hints) ≡ end → propagation held us (drop (i + 1) hints) ≡ end
step-made held ts us hints i id m clause end low e h f more so_far = ap (λ (xs : List ℕ). propagation held xs (drop (i + 1) hints)) more ∙ (propagation-made held ts id m (drop (i + 1) hints) (ap (effect_of ts) (sym h) ∙ sym f) ∙ (sym (next-hint held ts hints i id low e) ∙ so_far))
