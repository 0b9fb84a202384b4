use Rattle.std.proofs.Common.{◌≡◌, ℕ, zero, suc, ◌+◌, ◌<◌, ◌≤◌, Bool, true, false, nat_lt, nat_eq, cond, List, [], ◌∷◌, length, map, get_or, refl, sym, ◌∙◌, ap, arith}
use Rattle.std.specs.Prelude.{filter, sum_by}
use Rattle.std.proofs.lemmas.Bool.Decides.{nat_tests}
use Rattle.mal_base.specs.NumberedClause.{NumberedClause}
use Rattle.spec_node.specs.Adding.{forgetting}
use Rattle.mal_store.specs.declared.entry.Entry.{Entry}
use Rattle.mal_store.specs.declared.entry.Held.{Held}
use Rattle.mal_store.specs.declared.entry.Held.TheVariants.{Empty, One, Long}
use Rattle.mal_store.specs.Indexed.{is_kept, settled}
use Rattle.mal_store.specs.Arena.{no_clause, is_left}
use Rattle.mal_store.specs.Stored.{Among, entry_clause, held_in, IsPlaced, ArePlaced, settled_in}
use Rattle.mal_store.proofs.AmongLemmas.{among-at, among-place, among-passed, among-passes}
use Rattle.mal_store.proofs.EntryLemmas.{test_lt, test_not, yes_eq}
use Rattle.mal_store.proofs.CountLemmas.{has_number, same-number}

-- the number of the long clause at a place
abbrev id_at : List NumberedClause → ℕ → ℕ
id_at long k = (get_or long k no_clause).id

eq_not : (a b : ℕ) → nat_eq a b ≡ false → a ≡ b → ⊥
eq_not a b = grind (arith, nat_tests)

-- where the first long clauses, so many, stand at their places, a short one is as it was
settled-empty : (now : List NumberedClause) (n id : ℕ) → settled_in now n (record { id = id; held = Empty }) ≡ record { id = id; held = Empty }
settled-empty now zero id = refl
settled-empty now (suc n) id = ap (settled (id_at now n) n) (settled-empty now n id) ∙ by_test (nat_eq id (id_at now n))
  where
    by_test : (b : Bool) → ◌≡◌ {A = Entry} (record { id = id; held = cond b Empty Empty }) (record { id = id; held = Empty })
    by_test true = refl
    by_test false = refl

settled-one : (now : List NumberedClause) (n id : ℕ) (lits : List ℕ) → settled_in now n (record { id = id; held = One lits }) ≡ record { id = id; held = One lits }
settled-one now zero id lits = refl
settled-one now (suc n) id lits = ap (settled (id_at now n) n) (settled-one now n id lits) ∙ by_test (nat_eq id (id_at now n))
  where
    by_test : (b : Bool) → ◌≡◌ {A = Entry} (record { id = id; held = cond b (One lits) (One lits) }) (record { id = id; held = One lits })
    by_test true = refl
    by_test false = refl

-- and a long one is at the last of them that has its number
abbrev place_in : List NumberedClause → ℕ → ℕ → ℕ → ℕ
place_in now zero id was = was
place_in now (suc n) id was = cond (nat_eq id (id_at now n)) n (place_in now n id was)

settled-long : (now : List NumberedClause) (n id was : ℕ) → settled_in now n (record { id = id; held = Long was }) ≡ record { id = id; held = Long (place_in now n id was) }
settled-long now zero id was = refl
settled-long now (suc n) id was = ap (settled (id_at now n) n) (settled-long now n id was) ∙ by_test (nat_eq id (id_at now n))
  where
    by_test : (b : Bool) → ◌≡◌ {A = Entry} (record { id = id; held = cond b (Long n) (Long (place_in now n id was)) }) (record { id = id; held = Long (cond b n (place_in now n id was)) })
    by_test true = refl
    by_test false = refl

place-found : (now : List NumberedClause) (n id was k : ℕ) → n ≤ length now → k < n → id_at now k ≡ id → (place_in now n id was < length now) × (id_at now (place_in now n id was) ≡ id)
place-found now zero id was k l h e = absurd (omega arith)
place-found now (suc n) id was k l h e = by_test (place-found now n id was k (omega arith)) (nat_eq id (id_at now n)) refl
  where
    before : (nat_eq id (id_at now n) ≡ false) → k < n
    before t = by_order (nat_lt k n) refl
      where
        by_order : (b : Bool) → nat_lt k n ≡ b → k < n
        by_order true o = test_lt k n o
        by_order false o =
            let same : k ≡ n = omega (arith, h, test_not k n o) in
            absurd (eq_not id (id_at now n) t (sym e ∙ ap (λ (i : ℕ). id_at now i) same))

    by_test : (k < n → id_at now k ≡ id → (place_in now n id was < length now) × (id_at now (place_in now n id was) ≡ id)) → (b : Bool) → nat_eq id (id_at now n) ≡ b → (cond b n (place_in now n id was) < length now) × (id_at now (cond b n (place_in now n id was)) ≡ id)
    by_test f true t = (omega arith, sym (yes_eq id (id_at now n) t))
    by_test f false t = f (before t) e

-- an entry that stays has the same clause then
abbrev IsSame : List NumberedClause → List NumberedClause → Entry → Entry → Type 0
IsSame long now old new = (entry_clause now new ≡ entry_clause long old) × IsPlaced now new.id new.held

entry-settled : (ids : List ℕ) (long : List NumberedClause) → ((k : ℕ) → sum_by (has_number k) long ≤ 1) → (id : ℕ) (h : Held) → IsPlaced long id h → is_kept ids (record { id = id; held = h }) ≡ true → IsSame long (forgetting ids long) (record { id = id; held = h }) (settled_in (forgetting ids long) (length (forgetting ids long)) (record { id = id; held = h }))
entry-settled ids long u id Empty p t = rw (settled-empty (forgetting ids long) (length (forgetting ids long)) id) (refl, tt)
entry-settled ids long u id (One lits) p t = rw (settled-one (forgetting ids long) (length (forgetting ids long)) id lits) (refl, tt)
entry-settled ids long u id (Long was) p t =
    let now = forgetting ids long in
    let c : NumberedClause = get_or long was no_clause in
    let there : Among c long = among-at long was no_clause p.0 in
    let kept : is_left ids c ≡ true = rw p.1 t in
    let at = among-place c now no_clause (among-passes (is_left ids) c long there kept) in
    let q = place_in now (length now) id was in
    let found = place-found now (length now) id was at.place (omega arith) at.inside (ap (λ (x : NumberedClause). x.id) at.is ∙ p.1) in
    let old : Among (get_or now q no_clause) long = (among-passed (is_left ids) (get_or now q no_clause) long (among-at now q no_clause found.0)).0 in
    let same : get_or now q no_clause ≡ c = same-number long (get_or now q no_clause) c u old there (found.1 ∙ sym p.1) in
    rw (settled-long now (length now) id was) (ap (λ (x : NumberedClause). let d : NumberedClause = record { id = id; lits = x.lits } in d) same, found)

-- and so have all
pub all-settled : (ids : List ℕ) (long : List NumberedClause) → ((k : ℕ) → sum_by (has_number k) long ≤ 1) → (es : List Entry) → ArePlaced long es → (held_in (forgetting ids long) (map (settled_in (forgetting ids long) (length (forgetting ids long))) (filter (is_kept ids) es)) ≡ forgetting ids (held_in long es)) × ArePlaced (forgetting ids long) (map (settled_in (forgetting ids long) (length (forgetting ids long))) (filter (is_kept ids) es))
all-settled ids long u [] p = (refl, tt)
all-settled ids long u (e ∷ es) p = by_test (all-settled ids long u es p.1) (is_kept ids e) refl
  where
    on : List Entry → List Entry
    on xs = map (settled_in (forgetting ids long) (length (forgetting ids long))) xs

    by_test : (held_in (forgetting ids long) (on (filter (is_kept ids) es)) ≡ forgetting ids (held_in long es)) × ArePlaced (forgetting ids long) (on (filter (is_kept ids) es)) → (b : Bool) → is_kept ids e ≡ b → (held_in (forgetting ids long) (on (cond b (e ∷ filter (is_kept ids) es) (filter (is_kept ids) es))) ≡ cond b (entry_clause long e ∷ forgetting ids (held_in long es)) (forgetting ids (held_in long es))) × ArePlaced (forgetting ids long) (on (cond b (e ∷ filter (is_kept ids) es) (filter (is_kept ids) es)))
    by_test f true t =
        let one = entry-settled ids long u e.id e.held p.0 t in
        (rw (one.0, f.0) refl, (one.1, f.1))
    by_test f false t = f

-- one more of them at its place
pub settled-more : (now : List NumberedClause) (n : ℕ) (es : List Entry) → map (settled (id_at now n) n) (map (settled_in now n) es) ≡ map (settled_in now (n + 1)) es
settled-more now n [] = refl
settled-more now n (e ∷ es) =
    let next : n + 1 ≡ suc n = omega arith in
    let one : settled_in now (n + 1) e ≡ settled (id_at now n) n (settled_in now n e) = ap (λ (m : ℕ). settled_in now m e) next in
    rw (one, settled-more now n es) refl

pub settled-start : (now : List NumberedClause) (es : List Entry) → map (settled_in now 0) es ≡ es
settled-start now [] = refl
settled-start now (e ∷ es) = ap (λ (xs : List Entry). e ∷ xs) (settled-start now es)
