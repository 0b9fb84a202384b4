use Rattle.std.proofs.Common.{◌≡◌, ℕ, ◌<◌, ◌≤◌, min, Bool, true, false, nat_le, List, [], ◌∷◌, length, Option, Some, None, refl, sym, ap, ◌∙◌, arith, if◌then◌else◌}
use Rattle.std.proofs.lemmas.Bool.{leb-true, leb-false}
use Rattle.std.specs.declared.cmp.Ordering.{Ordering}
use Rattle.std.specs.declared.cmp.Ordering.TheVariants.{Less, Equal, Greater}
use Rattle.std.specs.Ordering.{is_eq, nat_cmp, ordering_reverse, ordering_then, MatchOrdering}
use Rattle.std.specs.Cmp.{IsTotalOrder, ranks, tied_itself}
use Rattle.std.specs.Cmp.Lexicographic.{slice_cmp, on_texts}
use Rattle.std.specs.FinMap.{slice_cmp-IsAntisymmetric, nat_cmp-IsAntisymmetric}
use Rattle.mal_base.specs.NumberedClause.{NumberedClause}
use Rattle.spec_exchange.specs.Exchange.{sized, lits_cmp, lesser}
use Rattle.spec_exchange.specs.Order.{IsBefore, IsSorted, least_of, own_id, least_id}

pub cmp_total : IsTotalOrder lits_cmp
cmp_total = on_texts sized

pub cmp_same : (a b : List ℕ) → lits_cmp a b ≡ Equal → a ≡ b
cmp_same a b e = let s : sized a ≡ sized b = slice_cmp-IsAntisymmetric nat_cmp-IsAntisymmetric (sized a) (sized b) e in cc

pub cmp_itself : (a : List ℕ) → lits_cmp a a ≡ Equal
cmp_itself a = tied_itself cmp_total a

pub cmp_back : (a b : List ℕ) → lits_cmp a b ≡ Greater → lits_cmp b a ≡ Less
cmp_back a b e = cmp_total.antisymm b a ∙ ap ordering_reverse e

-- what comes first is not longer
pub less-length : (a b : List ℕ) → lits_cmp a b ≡ Less → length a ≤ length b
less-length a b e = by_rank (nat_cmp (length a) (length b)) (ranks (length a) (length b)) e
  where
    by_rank : (o : Ordering) → MatchOrdering o (length a < length b) (length a ≡ length b) (length b < length a) → ordering_then o (slice_cmp nat_cmp a b) ≡ Less → length a ≤ length b
    by_rank Less h e = omega arith
    by_rank Equal h e = omega arith
    by_rank Greater h e = absurd (cc)

pub least-comm : (a b : Option ℕ) → least_of a b ≡ least_of b a
least-comm None None = refl
least-comm None (Some b) = refl
least-comm (Some a) None = refl
least-comm (Some a) (Some b) = let e : min a b ≡ min b a = omega arith in rw e refl

pub least-assoc : (a b c : Option ℕ) → least_of (least_of a b) c ≡ least_of a (least_of b c)
least-assoc None b c = refl
least-assoc (Some a) None c = refl
least-assoc (Some a) (Some b) None = refl
least-assoc (Some a) (Some b) (Some c) = let e : min (min a b) c ≡ min a (min b c) = omega arith in rw e refl

pub least-swap : (a b c : Option ℕ) → least_of a (least_of b c) ≡ least_of b (least_of a c)
least-swap a b c = sym (least-assoc a b c) ∙ (ap (λ (o : Option ℕ). least_of o c) (least-comm a b) ∙ least-assoc b a c)

pub least-shuffle : (a b c d : Option ℕ) → least_of (least_of a b) (least_of c d) ≡ least_of (least_of a c) (least_of b d)
least-shuffle a b c d = least-assoc a b (least_of c d) ∙ (ap (least_of a) (least-swap b c d) ∙ sym (least-assoc a c (least_of b d)))

-- the literals of the lesser of two entries with the same literals
pub lesser-lits : (e x : NumberedClause) → e.lits ≡ x.lits → (lesser e x).lits ≡ x.lits
lesser-lits e x same = by_test (nat_le e.id x.id)
  where
    by_test : (b : Bool) → (if b then e else x).lits ≡ x.lits
    by_test true = same
    by_test false = refl

-- and its number
pub lesser-id : (e x : NumberedClause) → (lesser e x).id ≡ min e.id x.id
lesser-id e x = by_test (nat_le e.id x.id) refl
  where
    by_test : (b : Bool) → nat_le e.id x.id ≡ b → (if b then e else x).id ≡ min e.id x.id
    by_test true h = let l : e.id ≤ x.id = leb-true e.id x.id h in omega arith
    by_test false h = let l : x.id < e.id = leb-false e.id x.id h in omega arith

pub own-lesser : (lits : List ℕ) (e x : NumberedClause) → e.lits ≡ x.lits → own_id lits (lesser e x) ≡ least_of (own_id lits e) (own_id lits x)
own-lesser lits e x same =
    let l : (lesser e x).lits ≡ x.lits = lesser-lits e x same in
    let i : (lesser e x).id ≡ min e.id x.id = lesser-id e x in
    rw (l, i, same) (by_test (is_eq (lits_cmp lits x.lits)))
  where
    by_test : (b : Bool) → (if b then Some (min e.id x.id) else None) ≡ least_of (if b then Some e.id else None) (if b then Some x.id else None)
    by_test true = refl
    by_test false = refl

pub before-trans : (a : List ℕ) (x : NumberedClause) (xs : List NumberedClause) → lits_cmp a x.lits ≡ Less → IsBefore x.lits xs → IsBefore a xs
before-trans a x [] h b = b
before-trans a x (y ∷ ys) h b = cmp_total.trans a x.lits y.lits h b

-- what comes before a sorted list is not in it
pub absent : (a : List ℕ) (xs : List NumberedClause) → IsSorted xs → IsBefore a xs → least_id a xs ≡ None
absent a [] s b = refl
absent a (x ∷ xs) (c, s) b = rw (b, absent a xs s (before-trans a x xs b c)) refl
