-- Reading fields one after another, as a loop does.
use Rattle.std.proofs.Common.{◌≡◌, ℕ, suc, ◌-◌, ◌+◌, ◌≤◌, ◌<◌, List, [], ◌∷◌, ◌++◌, Result, Ok, Err, refl, sym, ap, ◌∙◌, append_assoc, arith}
use Rattle.std.proofs.lemmas.List.{append-nil}
use Rattle.mal_freeze.specs.declared.fault.ThawFault.{ThawFault}
use Rattle.mal_freeze.specs.declared.fault.ThawFault.TheVariants.{BadMagic, Truncated, BadField, NotCanonical, OutOfMemory}
use Rattle.mal_freeze.specs.Reading.{◌>>=◌, Fails, many_at}

-- what was read before, and what is still to be read
abbrev pub with_front : {X : Type 0} → List X → Result (List X × List ℕ) ThawFault → Result (List X × List ℕ) ThawFault
with_front front read = read >>= λ x. Ok (front ++ x.0, x.1)

regroup : {X : Type 0} (front : List X) (n : X) (read : Result (List X × List ℕ) ThawFault) → with_front front (read >>= λ x. Ok (n ∷ x.0, x.1)) ≡ with_front (front ++ n ∷ []) read
regroup {X} front n (Ok x) = ap (λ (ns : List X). Ok (ns, x.1)) (sym (append_assoc front (n ∷ []) x.0))
regroup {X} front n (Err f) = refl

-- one field more was read
pub goes_on : {X : Type 0} (field : List ℕ → Result (X × List ℕ) ThawFault) (front : List X) (count i : ℕ) (bytes : List ℕ) (n : X) (after : List ℕ) (total : Result (List X × List ℕ) ThawFault) → i < count → field bytes ≡ Ok (n, after)
    → with_front front (many_at field (count - i) bytes) ≡ total → with_front (front ++ n ∷ []) (many_at field (count - (i + 1)) after) ≡ total
unfolding many_at
goes_on field front count i bytes n after total lt h so_far =
    let k : count - i ≡ suc (count - (i + 1)) = omega arith in
    let one : with_front front (many_at field (count - i) bytes) ≡ with_front (front ++ n ∷ []) (many_at field (count - (i + 1)) after) = rw (k, h) (regroup front n (many_at field (count - (i + 1)) after)) in
    sym one ∙ so_far

fails_so : {X : Type 0} (e : ThawFault) (field : Result (X × List ℕ) ThawFault) (rest : X × List ℕ → Result (List X × List ℕ) ThawFault) (front : List X) → field ≡ Err e → with_front front (field >>= rest) ≡ Err e
fails_so e field rest front h = rw h refl

-- a field fails, and so all do
pub ends : {X : Type 0} (e : ThawFault) (field : List ℕ → Result (X × List ℕ) ThawFault) (front : List X) (count i : ℕ) (bytes : List ℕ) (total : Result (List X × List ℕ) ThawFault) → i < count → Fails e (field bytes)
    → with_front front (many_at field (count - i) bytes) ≡ total → Fails e total
unfolding many_at
ends {X} e field front count i bytes total lt h so_far =
    let k : count - i ≡ suc (count - (i + 1)) = omega arith in
    by_fault e h
  where
    rest : X × List ℕ → Result (List X × List ℕ) ThawFault
    rest first = many_at field (count - (i + 1)) first.1 >>= λ others. Ok (first.0 ∷ others.0, others.1)

    so : (f : ThawFault) → field bytes ≡ Err f → total ≡ Err f
    so f g =
        let k : count - i ≡ suc (count - (i + 1)) = omega arith in
        sym so_far ∙ (rw k (fails_so f (field bytes) (λ first. many_at field (count - (i + 1)) first.1 >>= λ others. Ok (first.0 ∷ others.0, others.1)) front g))

    by_fault : (f : ThawFault) → Fails f (field bytes) → Fails f total
    by_fault BadMagic g = so BadMagic g
    by_fault Truncated g = so Truncated g
    by_fault (BadField place) g = so (BadField place) g
    by_fault NotCanonical g = so NotCanonical g
    by_fault OutOfMemory g = tt

-- all were read
pub is_done : {X : Type 0} (field : List ℕ → Result (X × List ℕ) ThawFault) (front : List X) (count i : ℕ) (bytes : List ℕ) (total : Result (List X × List ℕ) ThawFault) → count ≤ i → with_front front (many_at field (count - i) bytes) ≡ total → total ≡ Ok (front, bytes)
unfolding many_at
is_done {X} field front count i bytes total le so_far =
    let k : count - i ≡ 0 = omega arith in
    let one : with_front front (many_at field (count - i) bytes) ≡ Ok (front, bytes) = rw k (ap (λ (ns : List X). Ok (ns, bytes)) (append-nil front)) in
    sym so_far ∙ one
