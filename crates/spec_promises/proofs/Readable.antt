-- The lines of a refutation that a job's machine tells are read again.
use Rattle.std.proofs.Common.{◌≡◌, ℕ, ◌+◌, ◌/◌, ◌^◌, ◌<◌, ◌≤◌, Bool, true, false, cond, ◌==◌, List, [], ◌∷◌, map, inl, inr, refl, sym, ◌∙◌, ap, subst, arith}
use Rattle.std.specs.Prelude.{Contains}
use Rattle.std.specs.List.{AllByRecursion}
use Rattle.std.proofs.lemmas.Bool.{eq-eqb, eqb-true, ne_eqb}
use Rattle.std.proofs.lemmas.List.Elements.{All-contains}
use Rattle.mal_base.specs.Limits.{limits}
use Rattle.mal_base.specs.NumberedClause.{Line}
use Rattle.mal_base.proofs.Sorting.{Contains-head, Contains-later}
use Rattle.spec_node.specs.Sound.{AreLiteralsOf, IsLiteralOf}
use Rattle.spec_lrat.specs.Grammar.{IsServed}
use Rattle.spec_lrat.specs.Laws.{IsId, IsLine}
use Rattle.spec_proof.specs.Among.{Among}
use Rattle.spec_proof.specs.Log.{added}
use Rattle.spec_proof.specs.Trimmed.{AreRising, ids_of, new_id, renamed, renumbered}
use Rattle.spec_proof.proofs.Among.{of-all}
use Rattle.spec_promises.specs.Taken.{AreReadable}

-- what holds of each member
each-of : (P : ℕ → Type 0) (xs : List ℕ) → ((x : ℕ) → Contains xs x → P x) → AllByRecursion P xs
each-of P [] f = tt
each-of P (x ∷ xs) f = (f x (Contains-head x xs), each-of P xs (λ y k. f y (Contains-later x xs y k)))

each-mapped : (P : ℕ → Type 0) (name : ℕ → ℕ) (xs : List ℕ) → ((x : ℕ) → Contains xs x → P (name x)) → AllByRecursion P (map name xs)
each-mapped P name [] f = tt
each-mapped P name (x ∷ xs) f = (f x (Contains-head x xs), each-mapped P name xs (λ y k. f y (Contains-later x xs y k)))

-- literals of variables that are served
lits-served : (v : ℕ) (lits : List ℕ) → v ≤ limits.variables → AreLiteralsOf v lits → AllByRecursion IsServed lits
lits-served v lits low h = each-of IsServed lits one
  where
    one : (l : ℕ) → Contains lits l → IsServed l
    one l k =
        let of : IsLiteralOf v l = All-contains (IsLiteralOf v) lits l h.within k in
        let some : 1 ≤ l / 2 = of.low in
        let most : l / 2 ≤ v = of.high in
        (omega arith, omega arith)

-- a line whose literals are of these variables, and whose number and hints are within those that are read
pub record IsInForm (v : ℕ) (line : Line) : Type 0 where
  pub lits : AreLiteralsOf v line.lits
  pub id : line.id ≤ 2 ^ 62
  pub hints : (hint : ℕ) → Contains line.hints hint → (1 ≤ hint) × (hint ≤ 2 ^ 62)

-- lines that follow a number, by rising number
abbrev AreAbove : ℕ → List Line → Type 0
AreAbove m xs = (y : Line) → Among y xs → m < y.id

-- a new number counts from 1 and is no greater than the old one
abbrev IsLess : ℕ → ℕ → Type 0
IsLess new old = (1 ≤ new) × (new ≤ old)

new-less : (m : ℕ) (xs : List Line) (h : ℕ) → AreRising xs → AreAbove m xs → 1 ≤ h → IsLess (new_id m (ids_of xs) h) h
new-less m [] h up above some = (some, omega arith)
new-less m (x ∷ xs) h up above some = by_test (x.id == h) refl (new-less (m + 1) xs h up.1 later some)
  where
    over : m < x.id
    over = above x (inl refl)

    later : AreAbove (m + 1) xs
    later y k = let less : x.id < y.id = of-all (λ later. x.id < later.id) xs y up.0 k in omega (arith, over)

    by_test : (b : Bool) → (x.id == h) ≡ b → IsLess (new_id (m + 1) (ids_of xs) h) h → IsLess (cond b (m + 1) (new_id (m + 1) (ids_of xs) h)) h
    by_test true q rest = let same : x.id ≡ h = eqb-true x.id h q in (omega arith, omega (arith, over))
    by_test false q rest = rest

-- lines that are numbered anew from m + 1 on are read after m
renamed-readable : (v m : ℕ) (name : ℕ → ℕ) (xs : List Line) → v ≤ limits.variables → AreRising xs → AreAbove m xs → ((y : Line) → Among y xs → IsInForm v y) → ((y : Line) → Among y xs → name y.id ≡ new_id m (ids_of xs) y.id) → ((h : ℕ) → 1 ≤ h → IsLess (name h) h) → AreReadable m (map (renamed name) xs)
renamed-readable v m name [] low up above formed named less = tt
renamed-readable v m name (x ∷ xs) low up above formed named less = (here, subst (λ (n : ℕ). AreReadable n (map (renamed name) xs)) (sym first) (renamed-readable v (m + 1) name xs low up.1 later (λ y k. formed y (inr k)) rest less))
  where
    form : IsInForm v x
    form = formed x (inl refl)

    over : m < x.id
    over = above x (inl refl)

    same : (a : ℕ) → (a == a) ≡ true
    same a = eq-eqb a a refl

    first : name x.id ≡ m + 1
    first = named x (inl refl) ∙ ap (λ (b : Bool). cond b (m + 1) (new_id (m + 1) (ids_of xs) x.id)) (same x.id)

    later : AreAbove (m + 1) xs
    later y k = let less : x.id < y.id = of-all (λ later. x.id < later.id) xs y up.0 k in omega (arith, over)

    rest : (y : Line) → Among y xs → name y.id ≡ new_id (m + 1) (ids_of xs) y.id
    rest y k =
        let less : x.id < y.id = of-all (λ later. x.id < later.id) xs y up.0 k in
        let other : (x.id == y.id) ≡ false = ne_eqb x.id y.id (λ e. omega arith) in
        named y (inr k) ∙ ap (λ (b : Bool). cond b (m + 1) (new_id (m + 1) (ids_of xs) y.id)) other

    hint : (h : ℕ) → Contains x.hints h → IsId (name h)
    hint h k =
        let old = form.hints h k in
        let new = less h old.0 in
        (new.0, omega (arith, new.1, old.1))

    here : IsLine m (added (renamed name x))
    here = record {
      rising = omega (arith, first);
      is_id = (omega (arith, first), omega (arith, first, over, form.id));
      is_clause = (form.lits.rising, lits-served v x.lits low form.lits);
      are_ids = each-mapped IsId name x.hints hint;
    }

pub renumbered-readable : (v m : ℕ) (xs : List Line) → v ≤ limits.variables → AreRising xs → ((y : Line) → Among y xs → m < y.id) → ((y : Line) → Among y xs → IsInForm v y) → AreReadable m (renumbered m xs)
renumbered-readable v m xs low up above formed = renamed-readable v m (new_id m (ids_of xs)) xs low up above formed (λ y k. refl) (λ h some. new-less m xs h up above some)
