use Rattle.std.proofs.Common.{◌≡◌, ℕ, zero, suc, ◌+◌, ◌<◌, ◌^◌, Bool, true, false, cond, not, ◌||◌, List, [], ◌∷◌, ◌++◌, length, take, drop, get_or, filter, map, bytes_eq, Option, Some, None, refl, sym, ap, ◌∙◌, append_assoc, append-nil, arith, Bor, ◌≤◌, ◌⊎◌, inl, inr}
use Rattle.std.specs.Prelude.{nat_lt}
use Rattle.std.specs.List.{list_any}
use Rattle.std.proofs.Math.Bool.{or_assoc, or_comm}
use Rattle.std.proofs.lemmas.List.Folds.{list_any-append}
use Rattle.std.proofs.lemmas.Bool.{cases_lt, lt-ltb, le-ltb, le-leb, lt-leb}
use Rattle.std.proofs.lemmas.Slice.Eq.{bytes_eq-Decides}
use Rattle.mal_base.specs.NumberedClause.{NumberedClause}
use Rattle.mal_revision.specs.Posted.{Posted}
use Rattle.mal_filter.specs.Noted.{is_noted}
use Rattle.mal_freeze.proofs.ListLemmas.{take-at}
use Rattle.spec_node.specs.State.{Node}
use Rattle.spec_node.specs.Adding.{with_clause}
use Rattle.spec_node.specs.Load.{numbered, with_originals, is_derived, loaded}
use Rattle.spec_node.specs.Import.{has_lits, taken, with_clauses}
use Rattle.spec_node.specs.Laws.{originals}
use Rattle.mal_cdcl.specs.Ready.{readied}
use Rattle.mal_cdcl.specs.Importing.{Sees, lent, picked, is_exported_in, is_posted_in, is_loaded_in}

or-swap : (a b c : Bool) → (a || (b || c)) ≡ (b || (a || c))
or-swap a b c = sym (or_assoc a b c) ∙ (ap (λ (x : Bool). x || c) (or_comm a b) ∙ or_assoc b a c)

or-joined : (a b c : Bool) → (a || (b || c)) ≡ ((b || a) || c)
or-joined a b c = or-swap a b c ∙ sym (or_assoc b a c)

-- what is noted after one element more
pub noted-next : {X : Type 0} (test : X → Bool) (xs : List X) (i : ℕ) (x d : X) → i < length xs → x ≡ get_or xs i d → (before now next : Bool) → now ≡ (list_any test (take i xs) || before) → next ≡ (test x || now) → next ≡ (list_any test (take (i + 1) xs) || before)
noted-next test xs i x d l e before now next h k = rw (take-at xs i x d l e, list_any-append, or_comm (test x) false) (k ∙ (ap (λ (b : Bool). test x || b) h ∙ or-joined (test x) (list_any test (take i xs)) before))

-- whether literals are held does not depend on where clauses stand
lits-with_clause : (lits : List ℕ) (c : NumberedClause) (cs : List NumberedClause) → has_lits lits (with_clause c cs) ≡ (bytes_eq lits c.lits || has_lits lits cs)
lits-with_clause lits c [] = refl
lits-with_clause lits c (d ∷ ds) = by_order (lits-with_clause lits c ds) (nat_lt c.id d.id)
  where
    by_order : has_lits lits (with_clause c ds) ≡ (bytes_eq lits c.lits || has_lits lits ds) → (b : Bool) → has_lits lits (cond b (c ∷ (d ∷ ds)) (d ∷ with_clause c ds)) ≡ (bytes_eq lits c.lits || (bytes_eq lits d.lits || has_lits lits ds))
    by_order k true = refl
    by_order k false = ap (λ (b : Bool). bytes_eq lits d.lits || b) k ∙ or-swap (bytes_eq lits d.lits) (bytes_eq lits c.lits) (has_lits lits ds)

lits-with_clauses : (lits : List ℕ) (new cs : List NumberedClause) → has_lits lits (with_clauses new cs) ≡ (has_lits lits new || has_lits lits cs)
lits-with_clauses lits [] cs = refl
lits-with_clauses lits (c ∷ new) cs = lits-with_clauses lits new (with_clause c cs) ∙ (ap (λ (b : Bool). has_lits lits new || b) (lits-with_clause lits c cs) ∙ or-joined (has_lits lits new) (bytes_eq lits c.lits) (has_lits lits cs))

or-true : (a b : Bool) → b ≡ true → (a || b) ≡ true
or-true true b h = refl
or-true false b h = h

-- literals that are exported were held or are taken
lits-taken : (lits : List ℕ) (exported cs : List NumberedClause) → (has_lits lits (taken exported cs) || has_lits lits cs) ≡ (has_lits lits exported || has_lits lits cs)
lits-taken lits [] cs = refl
lits-taken lits (c ∷ exported) cs = by_test (lits-taken lits exported cs) (has_lits c.lits cs) refl (bytes_eq lits c.lits) refl
  where
    has : bytes_eq lits c.lits ≡ true → has_lits c.lits cs ≡ true → has_lits lits cs ≡ true
    has same h = ap (λ (ls : List ℕ). has_lits ls cs) ((bytes_eq-Decides lits c.lits).0 same) ∙ h

    by_test : (has_lits lits (taken exported cs) || has_lits lits cs) ≡ (has_lits lits exported || has_lits lits cs) → (b : Bool) → has_lits c.lits cs ≡ b → (e : Bool) → bytes_eq lits c.lits ≡ e → (has_lits lits (cond (not b) (c ∷ taken exported cs) (taken exported cs)) || has_lits lits cs) ≡ ((e || has_lits lits exported) || has_lits lits cs)
    by_test k true h true same = or-true (has_lits lits (taken exported cs)) (has_lits lits cs) (has same h)
    by_test k true h false same = k
    by_test k false h true same = rw same refl
    by_test k false h false same = rw same k

-- literals are held after what is exported is taken, where they are exported or held
lits-imported : (lits : List ℕ) (exported cs : List NumberedClause) → has_lits lits (with_clauses (taken exported cs) cs) ≡ (has_lits lits exported || has_lits lits cs)
lits-imported lits exported cs = lits-with_clauses lits (taken exported cs) cs ∙ lits-taken lits exported cs

lits-numbered : (lits : List ℕ) (first : ℕ) (cs : List (Option (List ℕ))) → has_lits lits (numbered first cs) ≡ is_posted_in lits cs
lits-numbered lits first [] = refl
lits-numbered lits first (None ∷ cs) = lits-numbered lits (first + 1) cs
lits-numbered lits first (Some c ∷ cs) = ap (λ (b : Bool). bytes_eq lits c || b) (lits-numbered lits (first + 1) cs)

-- each clause is an original one or derived
parted : (lits : List ℕ) (ds : List NumberedClause) → (has_lits lits (originals ds) || has_lits lits (filter is_derived ds)) ≡ has_lits lits ds
parted lits [] = refl
parted lits (d ∷ ds) = by_kind (parted lits ds) (cases_lt d.id (2 ^ 32))
  where
    by_kind : (has_lits lits (originals ds) || has_lits lits (filter is_derived ds)) ≡ has_lits lits ds → (d.id < 2 ^ 32) ⊎ (2 ^ 32 ≤ d.id) → (has_lits lits (originals (d ∷ ds)) || has_lits lits (filter is_derived (d ∷ ds))) ≡ (bytes_eq lits d.lits || has_lits lits ds)
    by_kind k (inl l) = rw (lt-ltb d.id (2 ^ 32) l, lt-leb (2 ^ 32) d.id l) (or_assoc (bytes_eq lits d.lits) (has_lits lits (originals ds)) (has_lits lits (filter is_derived ds)) ∙ ap (λ (b : Bool). bytes_eq lits d.lits || b) k)
    by_kind k (inr l) = rw (le-ltb d.id (2 ^ 32) l, le-leb (2 ^ 32) d.id l) (or-swap (has_lits lits (originals ds)) (bytes_eq lits d.lits) (has_lits lits (filter is_derived ds)) ∙ ap (λ (b : Bool). bytes_eq lits d.lits || b) k)

lits-parted : (lits : List ℕ) (new cs : List NumberedClause) → has_lits lits (with_originals cs new) ≡ (has_lits lits new || has_lits lits cs)
lits-parted lits new cs = list_any-append (λ (c : NumberedClause). bytes_eq lits c.lits) (originals cs) (new ++ filter is_derived cs) ∙ (ap (λ (b : Bool). has_lits lits (originals cs) || b) (list_any-append (λ (c : NumberedClause). bytes_eq lits c.lits) new (filter is_derived cs)) ∙ (or-swap (has_lits lits (originals cs)) (has_lits lits new) (has_lits lits (filter is_derived cs)) ∙ ap (λ (b : Bool). has_lits lits new || b) (parted lits cs)))

lits-loaded : (lits : List ℕ) (r : Posted) (first : ℕ) (n : Node) → has_lits lits (loaded r first n).clauses ≡ (is_posted_in lits r.clauses || has_lits lits n.clauses)
lits-loaded lits r first n = lits-parted lits (numbered first r.clauses) n.clauses ∙ ap (λ (b : Bool). b || has_lits lits n.clauses) (lits-numbered lits first r.clauses)

pub lits-readied : (lits : List ℕ) (loads : List (Posted × ℕ)) (n : Node) → has_lits lits (readied loads n).clauses ≡ (is_loaded_in lits loads || has_lits lits n.clauses)
lits-readied lits [] n = refl
lits-readied lits (l ∷ ls) n = lits-readied lits ls (loaded l.0 l.1 n) ∙ (ap (λ (b : Bool). is_loaded_in lits ls || b) (lits-loaded lits l.0 l.1 n) ∙ or-joined (is_loaded_in lits ls) (is_posted_in lits l.0.clauses) (has_lits lits n.clauses))

-- what a filter lets pass is taken of a list by a node whose clauses it has seen
taken-seen : (seen : List (List ℕ)) (cs exported : List NumberedClause) → Sees seen cs → filter (λ c. not (is_noted c.lits seen)) exported ≡ taken exported cs
taken-seen seen cs [] h = refl
taken-seen seen cs (c ∷ exported) h = ap (λ (b : Bool). cond (not b) (c ∷ filter (λ d. not (is_noted d.lits seen)) exported) (filter (λ d. not (is_noted d.lits seen)) exported)) (h c.lits) ∙ ap (λ (xs : List NumberedClause). cond (not (has_lits c.lits cs)) (c ∷ xs) xs) (taken-seen seen cs exported h)

-- what is left to be picked of some lists by a node that held these clauses
pub record IsPicking (left all : List (List NumberedClause)) (clauses : List NumberedClause) (picks : List (List NumberedClause)) (seen : List (List ℕ)) : Type 0 where
  pub now : List NumberedClause
  pub sees : Sees seen now
  pub done : picks ++ picked left now ≡ picked all clauses

pub picking-begins : (all : List (List NumberedClause)) (clauses : List NumberedClause) (seen : List (List ℕ)) → Sees seen clauses → IsPicking all all clauses [] seen
picking-begins all clauses seen h = record { now = clauses; sees = h; done = refl }

-- the lists that are left from a place on begin with the one that stands there
drop-exported : (all : List (Bor (List NumberedClause))) (i : ℕ) (x d : Bor (List NumberedClause)) → i < length all → x ≡ get_or all i d → lent (drop i all) ≡ x.now ∷ lent (drop (i + 1) all)
drop-exported [] i x d l e = absurd (omega arith)
drop-exported (y ∷ ys) zero x d l e = rw e refl
drop-exported (y ∷ ys) (suc i) x d l e =
    let more : suc i + 1 ≡ suc (i + 1) = omega arith in
    rw more (drop-exported ys i x d (omega arith) e)

pub picking-next : (all : List (Bor (List NumberedClause))) (i : ℕ) (exported d : Bor (List NumberedClause)) (pick : List NumberedClause) (clauses : List NumberedClause) (picks : List (List NumberedClause)) (seen next : List (List ℕ)) → i < length all → exported ≡ get_or all i d → pick ≡ filter (λ c. not (is_noted c.lits seen)) exported.now → ((lits : List ℕ) → is_noted lits next ≡ (has_lits lits exported.now || is_noted lits seen)) → IsPicking (lent (drop i all)) (lent all) clauses picks seen → IsPicking (lent (drop (i + 1) all)) (lent all) clauses (picks ++ pick ∷ []) next
picking-next all i exported d pick clauses picks seen next l e p noted h =
    let split : lent (drop i all) ≡ exported.now ∷ lent (drop (i + 1) all) = drop-exported all i exported d l e in
    let taking : pick ≡ taken exported.now h.now = p ∙ taken-seen seen h.now exported.now h.sees in
    let done : picks ++ picked (exported.now ∷ lent (drop (i + 1) all)) h.now ≡ picked (lent all) clauses = ap (λ (left : List (List NumberedClause)). picks ++ picked left h.now) (sym split) ∙ h.done in
    record {
      now = with_clauses (taken exported.now h.now) h.now;
      sees = λ lits. noted lits ∙ (ap (λ (b : Bool). has_lits lits exported.now || b) (h.sees lits) ∙ sym (lits-imported lits exported.now h.now));
      done = append_assoc picks (pick ∷ []) (picked (lent (drop (i + 1) all)) (with_clauses (taken exported.now h.now) h.now)) ∙ (ap (λ (x : List NumberedClause). picks ++ x ∷ picked (lent (drop (i + 1) all)) (with_clauses (taken exported.now h.now) h.now)) taking ∙ done);
    }

-- after the last list nothing is left
drop-all : (all : List (Bor (List NumberedClause))) (i : ℕ) → length all ≤ i → lent (drop i all) ≡ []
drop-all [] zero l = refl
drop-all [] (suc i) l = refl
drop-all (x ∷ xs) zero l = absurd (omega arith)
drop-all (x ∷ xs) (suc i) l = drop-all xs i (omega arith)

pub picking-ends : (all : List (Bor (List NumberedClause))) (i : ℕ) (clauses : List NumberedClause) (picks : List (List NumberedClause)) (seen : List (List ℕ)) → length all ≤ i → IsPicking (lent (drop i all)) (lent all) clauses picks seen → picks ≡ picked (lent all) clauses
picking-ends all i clauses picks seen l h = sym (append-nil picks) ∙ (ap (λ (left : List (List NumberedClause)). picks ++ picked left h.now) (sym (drop-all all i l)) ∙ h.done)

-- literals that were not exported are no others' that were
pub unexported : (exported : List (List ℕ)) (lits others : List ℕ) (seen : List (List ℕ)) → not (is_noted lits exported) ≡ true → is_noted others exported ≡ true → is_noted others seen ≡ (bytes_eq others lits || is_noted others seen)
unexported exported lits others seen h k = by_test (bytes_eq others lits) refl
  where
    by_exported : (b : Bool) → not b ≡ true → b ≡ true → is_noted others seen ≡ true
    by_exported true n e = absurd (cc)
    by_exported false n e = absurd (cc)

    by_test : (b : Bool) → bytes_eq others lits ≡ b → is_noted others seen ≡ (b || is_noted others seen)
    by_test true same = by_exported (is_noted lits exported) h (ap (λ (ls : List ℕ). is_noted ls exported) (sym ((bytes_eq-Decides others lits).0 same)) ∙ k)
    by_test false same = refl

-- what is taken of a list is the same of two lists that hold the same of its clauses
taken-alike : (exported cs ds : List NumberedClause) → ((lits : List ℕ) → has_lits lits exported ≡ true → has_lits lits cs ≡ has_lits lits ds) → taken exported cs ≡ taken exported ds
taken-alike [] cs ds h = refl
taken-alike (c ∷ exported) cs ds h =
    let own : has_lits c.lits cs ≡ has_lits c.lits ds = h c.lits (ap (λ (b : Bool). b || has_lits c.lits exported) ((bytes_eq-Decides c.lits c.lits).1 refl)) in
    let more : taken exported cs ≡ taken exported ds = taken-alike exported cs ds (λ lits k. h lits (or-true (bytes_eq lits c.lits) (has_lits lits exported) k)) in
    ap (λ (b : Bool). cond (not b) (c ∷ taken exported cs) (taken exported cs)) own ∙ ap (λ (xs : List NumberedClause). cond (not (has_lits c.lits ds)) (c ∷ xs) xs) more

-- so it is of each of some lists
picked-alike : (exports : List (List NumberedClause)) (cs ds : List NumberedClause) → ((lits : List ℕ) → is_exported_in lits exports ≡ true → has_lits lits cs ≡ has_lits lits ds) → picked exports cs ≡ picked exports ds
picked-alike [] cs ds h = refl
picked-alike (exported ∷ more) cs ds h =
    let here : taken exported cs ≡ taken exported ds = taken-alike exported cs ds (λ lits k. h lits (ap (λ (b : Bool). b || is_exported_in lits more) k)) in
    let rest : picked more (with_clauses (taken exported cs) cs) ≡ picked more (with_clauses (taken exported ds) ds) = picked-alike more (with_clauses (taken exported cs) cs) (with_clauses (taken exported ds) ds) (λ lits k. lits-imported lits exported cs ∙ (ap (λ (b : Bool). has_lits lits exported || b) (h lits (or-true (has_lits lits exported) (is_exported_in lits more) k)) ∙ sym (lits-imported lits exported ds))) in
    ap (λ (xs : List NumberedClause). xs ∷ picked more (with_clauses (taken exported cs) cs)) here ∙ ap (λ (ps : List (List NumberedClause)). taken exported ds ∷ ps) rest

-- clauses of these literals
abbrev clauses_of : List (List ℕ) → List NumberedClause
clauses_of seen = map (λ (lits : List ℕ). record { id = 0; lits = lits }) seen

seen-clauses : (seen : List (List ℕ)) (lits : List ℕ) → is_noted lits seen ≡ has_lits lits (clauses_of seen)
seen-clauses [] lits = refl
seen-clauses (s ∷ seen) lits = ap (λ (b : Bool). bytes_eq lits s || b) (seen-clauses seen lits)

-- a node after loads takes of some lists what passes a filter that has noted those of its clauses and of the loads
-- that are exported
pub picked-readied : (exports : List (List NumberedClause)) (loads : List (Posted × ℕ)) (n : Node) (clauses : List NumberedClause) (picks : List (List NumberedClause)) (nothing exported none all : List (List ℕ)) → n.clauses ≡ clauses → nothing ≡ [] → none ≡ []
    → ((lits : List ℕ) → is_noted lits exported ≡ (is_exported_in lits exports || is_noted lits nothing))
    → ((lits : List ℕ) → is_noted lits exported ≡ true → is_noted lits all ≡ (is_loaded_in lits loads || (has_lits lits clauses || is_noted lits none)))
    → ((cs : List NumberedClause) → Sees all cs → picks ≡ picked exports cs) → picks ≡ picked exports (readied loads n).clauses
picked-readied exports loads n clauses picks nothing exported none all same empty bare g h p = p (clauses_of all) (seen-clauses all) ∙ picked-alike exports (clauses_of all) (readied loads n).clauses (λ lits is. sym (seen-clauses all lits) ∙ sees lits (g lits ∙ ap (λ (b : Bool). b || is_noted lits nothing) is))
  where
    no-more : (b : Bool) → (b || false) ≡ b
    no-more true = refl
    no-more false = refl

    sees : (lits : List ℕ) → is_noted lits exported ≡ true → is_noted lits all ≡ has_lits lits (readied loads n).clauses
    sees lits is =
        let first : (has_lits lits clauses || is_noted lits none) ≡ has_lits lits n.clauses = ap (λ (xs : List (List ℕ)). has_lits lits clauses || is_noted lits xs) bare ∙ (no-more (has_lits lits clauses) ∙ ap (λ (cs : List NumberedClause). has_lits lits cs) (sym same)) in
        h lits is ∙ (ap (λ (b : Bool). is_loaded_in lits loads || b) first ∙ sym (lits-readied lits loads n))
