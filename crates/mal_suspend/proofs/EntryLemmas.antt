-- The entries that the code's entries stand for.
use Rattle.std.proofs.Common.{◌≡◌, ℕ, zero, suc, ◌+◌, ◌*◌, ◌<◌, Bool, true, false, cond, List, [], ◌∷◌, ◌++◌, length, take, drop, get_or, map, fold, flat_map, count_by, sum_by, refl, sym, ◌∙◌, ap, subst, append_assoc, arith}
use Rattle.std.proofs.lemmas.List.{length-map, append-nil}
use Rattle.std.proofs.lemmas.List.Folds.{flat_map-map, sum_by-replicate}
use Rattle.std.proofs.lemmas.List.Sums.{fold-append, sum_by-append, sum_by-cons}
use Rattle.mal_base.specs.NumberedClause.{NumberedClause}
use Rattle.mal_revision.specs.Posted.{Posted}
use Rattle.spec_search.specs.Slice.{Sliced}
use Rattle.spec_job.specs.Journal.{JournalEntry, Load, Import, Run, after_entry, is_load, is_import, loads_in, imports_in}
use Rattle.mal_suspend.specs.declared.entry.Counted.{Counted}
use Rattle.mal_suspend.specs.declared.entry.Entry.{Entry}
use Rattle.mal_suspend.specs.declared.entry.Entry.TheVariants as code
use Rattle.mal_suspend.specs.Starting.{load_entries, import_entries, start_entries}
use Rattle.mal_suspend.specs.Counting.{AreCounts}
use Rattle.mal_suspend.specs.Entries.{entry_of, slices_of, counted_of, entries_of}
use Rattle.mal_suspend.specs.Replaying.{MayAllReplay, variables_with, variables_after}
use Rattle.mal_suspend.proofs.ReplayLemmas.{may-front, may-behind, variables-append}

abbrev Differs : Bool → Type 0
Differs true = ⊥
Differs false = Unit {0}

-- a test has one value
pub differ : {X : Type 0} → false ≡ true → X
differ h = absurd (subst Differs h tt)

-- how many slices stand at the front
abbrev slices_at_front : List JournalEntry → ℕ
slices_at_front [] = 0
slices_at_front (Load r first ∷ es) = 0
slices_at_front (Import told ∷ es) = 0
slices_at_front (Run ∷ es) = suc (slices_at_front es)

-- what stands after these
abbrev behind_slices : List JournalEntry → List JournalEntry
behind_slices [] = []
behind_slices (Load r first ∷ es) = Load r first ∷ es
behind_slices (Import told ∷ es) = Import told ∷ es
behind_slices (Run ∷ es) = behind_slices es

front-entry : (n : ℕ) (e : Entry) (es : List JournalEntry) → slices_at_front (slices_of n ++ entry_of e ∷ es) ≡ n
front-entry zero (code.Load r first) es = refl
front-entry zero (code.Import told) es = refl
front-entry (suc n) e es = ap suc (front-entry n e es)

behind-entry : (n : ℕ) (e : Entry) (es : List JournalEntry) → behind_slices (slices_of n ++ entry_of e ∷ es) ≡ entry_of e ∷ es
behind-entry zero (code.Load r first) es = refl
behind-entry zero (code.Import told) es = refl
behind-entry (suc n) e es = behind-entry n e es

front-slices : (n : ℕ) → slices_at_front (slices_of n) ≡ n
front-slices zero = refl
front-slices (suc n) = ap suc (front-slices n)

behind-slices : (n : ℕ) → behind_slices (slices_of n) ≡ []
behind-slices zero = refl
behind-slices (suc n) = behind-slices n

-- a counted entry is known by what it stands for, whatever follows
record IsOne (n m : ℕ) (e f : Entry) (es fs : List JournalEntry) : Type 0 where
  pub slices : n ≡ m
  pub entry : entry_of e ≡ entry_of f
  pub rest : es ≡ fs

one-known : (n m : ℕ) (e f : Entry) (es fs : List JournalEntry) → slices_of n ++ entry_of e ∷ es ≡ slices_of m ++ entry_of f ∷ fs → IsOne n m e f es fs
one-known n m e f es fs h =
    let front : n ≡ m = sym (front-entry n e es) ∙ (ap (λ (xs : List JournalEntry). slices_at_front xs) h ∙ front-entry m f fs) in
    let behind : entry_of e ∷ es ≡ entry_of f ∷ fs = sym (behind-entry n e es) ∙ (ap (λ (xs : List JournalEntry). behind_slices xs) h ∙ behind-entry m f fs) in
    record { slices = front; entry = cc; rest = cc }

-- the first counted entry stands before all others
parted : (c : Counted) (cs : List Counted) (es : List JournalEntry) → entries_of (c ∷ cs) ++ es ≡ slices_of c.slices ++ entry_of c.entry ∷ (entries_of cs ++ es)
parted c cs es = append_assoc (counted_of c) (entries_of cs) es ∙ append_assoc (slices_of c.slices) (entry_of c.entry ∷ []) (entries_of cs ++ es)

-- counted entries and the slices after them are known by what they stand for
pub record AreKnown (cs ds : List Counted) (n m : ℕ) : Type 0 where
  pub counted : map counted_of cs ≡ map counted_of ds
  pub slices : n ≡ m

pub all-known : (cs ds : List Counted) (n m : ℕ) → entries_of cs ++ slices_of n ≡ entries_of ds ++ slices_of m → AreKnown cs ds n m
all-known [] [] n m h = record { counted = refl; slices = sym (front-slices n) ∙ (ap (λ (xs : List JournalEntry). slices_at_front xs) h ∙ front-slices m) }
all-known [] (d ∷ ds) n m h =
    let none : [] ≡ entry_of d.entry ∷ (entries_of ds ++ slices_of m) = sym (behind-slices n) ∙ (ap (λ (xs : List JournalEntry). behind_slices xs) (h ∙ parted d ds (slices_of m)) ∙ behind-entry d.slices d.entry (entries_of ds ++ slices_of m)) in
    absurd cc
all-known (c ∷ cs) [] n m h =
    let none : entry_of c.entry ∷ (entries_of cs ++ slices_of n) ≡ [] = sym (behind-entry c.slices c.entry (entries_of cs ++ slices_of n)) ∙ (ap (λ (xs : List JournalEntry). behind_slices xs) (sym (parted c cs (slices_of n)) ∙ h) ∙ behind-slices m) in
    absurd cc
all-known (c ∷ cs) (d ∷ ds) n m h =
    let one : IsOne c.slices d.slices c.entry d.entry (entries_of cs ++ slices_of n) (entries_of ds ++ slices_of m) = one-known c.slices d.slices c.entry d.entry (entries_of cs ++ slices_of n) (entries_of ds ++ slices_of m) (sym (parted c cs (slices_of n)) ∙ (h ∙ parted d ds (slices_of m))) in
    let more : AreKnown cs ds n m = all-known cs ds n m one.rest in
    record { counted = cc; slices = more.slices }

pub counted-entries : (cs ds : List Counted) → map counted_of cs ≡ map counted_of ds → entries_of cs ≡ entries_of ds
counted-entries cs ds h = sym (flat_map-map (λ (es : List JournalEntry). es) counted_of cs) ∙ (ap (λ (bs : List (List JournalEntry)). flat_map (λ (es : List JournalEntry). es) bs) h ∙ flat_map-map (λ (es : List JournalEntry). es) counted_of ds)

-- the slices at a place and the entry after them may be replayed after those before
pub may-at : (s : Sliced) (cs : List Counted) (es : List JournalEntry) (k : ℕ) (x d : Counted) → k < length cs → x ≡ get_or cs k d → MayAllReplay s (entries_of cs ++ es) → MayAllReplay (fold after_entry s (entries_of (take k cs))) (counted_of x)
may-at s [] es k x d l e h = absurd (omega arith)
may-at s (y ∷ ys) es zero x d l e h = rw e (may-front s (counted_of y) (entries_of ys ++ es) (subst (λ (xs : List JournalEntry). MayAllReplay s xs) (append_assoc (counted_of y) (entries_of ys) es) h))
may-at s (y ∷ ys) es (suc k) x d l e h =
    let rest : MayAllReplay (fold after_entry s (counted_of y)) (entries_of ys ++ es) = may-behind s (counted_of y) (entries_of ys ++ es) (subst (λ (xs : List JournalEntry). MayAllReplay s xs) (append_assoc (counted_of y) (entries_of ys) es) h) in
    subst (λ (t : Sliced). MayAllReplay t (counted_of x)) (sym (fold-append after_entry s (counted_of y) (entries_of (take k ys)))) (may-at (fold after_entry s (counted_of y)) ys es k x d (omega arith) e rest)

-- the entries up to and with those at a place
entries-take : (cs : List Counted) (k : ℕ) (x d : Counted) → k < length cs → x ≡ get_or cs k d → entries_of (take (k + 1) cs) ≡ entries_of (take k cs) ++ counted_of x
entries-take [] k x d l e = absurd (omega arith)
entries-take (y ∷ ys) zero x d l e = rw e (append-nil (counted_of y))
entries-take (y ∷ ys) (suc k) x d l e =
    let more : suc k + 1 ≡ suc (k + 1) = omega arith in
    rw more (ap (λ (zs : List JournalEntry). counted_of y ++ zs) (entries-take ys k x d (omega arith) e) ∙ sym (append_assoc (counted_of y) (entries_of (take k ys)) (counted_of x)))

pub replay-at : (s : Sliced) (cs : List Counted) (k : ℕ) (x d : Counted) → k < length cs → x ≡ get_or cs k d → fold after_entry s (entries_of (take (k + 1) cs)) ≡ fold after_entry (fold after_entry s (entries_of (take k cs))) (counted_of x)
replay-at s cs k x d l e = ap (λ (es : List JournalEntry). fold after_entry s es) (entries-take cs k x d l e) ∙ fold-append after_entry s (entries_of (take k cs)) (counted_of x)

-- counted entries that are the same are so at each place
pub same-at : (cs ds : List Counted) (k : ℕ) (x y d e : Counted) → k < length cs → k < length ds → x ≡ get_or cs k d → y ≡ get_or ds k e → map counted_of cs ≡ map counted_of ds → counted_of x ≡ counted_of y
same-at [] ds k x y d e l m p q h = absurd (omega arith)
same-at (a ∷ cs) [] k x y d e l m p q h = absurd (omega arith)
same-at (a ∷ cs) (b ∷ ds) zero x y d e l m p q h = rw (p, q) (ap (λ (zs : List (List JournalEntry)). get_or zs 0 []) h)
same-at (a ∷ cs) (b ∷ ds) (suc k) x y d e l m p q h = same-at cs ds k x y d e (omega arith) (omega arith) p q (ap (λ (zs : List (List JournalEntry)). drop 1 zs) h)

pub same-long : (cs ds : List Counted) → map counted_of cs ≡ map counted_of ds → length cs ≡ length ds
same-long cs ds h = sym (length-map cs counted_of) ∙ (ap (λ (xs : List (List JournalEntry)). length xs) h ∙ length-map ds counted_of)

-- slices do not count where entries that are none are counted
none-counted : (p : JournalEntry → Bool) → p Run ≡ false → (n : ℕ) → count_by p (slices_of n) ≡ 0
none-counted p no_run n =
    let times : n * 0 ≡ 0 = grind arith in
    sum_by-replicate (λ (e : JournalEntry). cond (p e) 1 0) n Run ∙ rw no_run times

pub counts : (p : JournalEntry → Bool) → p Run ≡ false → (cs : List Counted) (n : ℕ) → count_by p (entries_of cs ++ slices_of n) ≡ count_by (λ (c : Counted). p (entry_of c.entry)) cs
counts p no_run [] n = none-counted p no_run n
counts p no_run (c ∷ cs) n =
    let rest : List JournalEntry = entries_of cs ++ slices_of n in
    let number = λ (e : JournalEntry). cond (p e) 1 0 in
    let parts : sum_by number (slices_of c.slices ++ entry_of c.entry ∷ rest) ≡ sum_by number (slices_of c.slices) + sum_by number (entry_of c.entry ∷ rest) = sum_by-append number (slices_of c.slices) (entry_of c.entry ∷ rest) in
    let none : sum_by number (slices_of c.slices) ≡ 0 = none-counted p no_run c.slices in
    let first : sum_by number (entry_of c.entry ∷ rest) ≡ cond (p (entry_of c.entry)) 1 0 + sum_by number rest = sum_by-cons number (entry_of c.entry) rest in
    let more : sum_by number rest ≡ count_by (λ (c : Counted). p (entry_of c.entry)) cs = counts p no_run cs n in
    let all : count_by (λ (c : Counted). p (entry_of c.entry)) (c ∷ cs) ≡ cond (p (entry_of c.entry)) 1 0 + count_by (λ (c : Counted). p (entry_of c.entry)) cs = sum_by-cons (λ (c : Counted). cond (p (entry_of c.entry)) 1 0) c cs in
    ap (λ (es : List JournalEntry). count_by p es) (parted c cs (slices_of n)) ∙ (parts ∙ omega (arith, none, first, more, all))

pub counts-behind : (p : JournalEntry → Bool) → p Run ≡ false → (cs : List Counted) (n : ℕ) → count_by p (entries_of cs) ≡ count_by p (entries_of cs ++ slices_of n)
counts-behind p no_run cs n = ap (λ (es : List JournalEntry). count_by p es) (sym (append-nil (entries_of cs))) ∙ (counts p no_run cs 0 ∙ sym (counts p no_run cs n))

-- the entries with one more
pub entries-push : (cs : List Counted) (c : Counted) → entries_of (cs ++ c ∷ []) ≡ entries_of cs ++ counted_of c
entries-push [] c = append-nil (counted_of c)
entries-push (y ∷ ys) c = ap (λ (es : List JournalEntry). counted_of y ++ es) (entries-push ys c) ∙ sym (append_assoc (counted_of y) (entries_of ys) (counted_of c))

pub counts-push : (p : JournalEntry → Bool) → p Run ≡ false → (cs : List Counted) (c : Counted) → count_by p (entries_of (cs ++ c ∷ [])) ≡ count_by p (entries_of cs) + cond (p (entry_of c.entry)) 1 0
counts-push p no_run cs c =
    let q = λ (x : Counted). p (entry_of x.entry) in
    let all : count_by p (entries_of (cs ++ c ∷ [])) ≡ count_by q (cs ++ c ∷ []) = counts-behind p no_run (cs ++ c ∷ []) 0 ∙ counts p no_run (cs ++ c ∷ []) 0 in
    let front : count_by p (entries_of cs) ≡ count_by q cs = counts-behind p no_run cs 0 ∙ counts p no_run cs 0 in
    let parts : count_by q (cs ++ c ∷ []) ≡ count_by q cs + count_by q (c ∷ []) = sum_by-append (λ (x : Counted). cond (q x) 1 0) cs (c ∷ []) in
    let last : count_by q (c ∷ []) ≡ cond (p (entry_of c.entry)) 1 0 + count_by q [] = sum_by-cons (λ (x : Counted). cond (q x) 1 0) c [] in
    let none : count_by q [] ≡ 0 = refl in
    all ∙ omega (arith, parts, front, last, none)

-- each entry that is no slice is a load or an import
one-kind : (e : Entry) → cond (is_load (entry_of e)) 1 0 + cond (is_import (entry_of e)) 1 0 ≡ 1
one-kind (code.Load r first) = refl
one-kind (code.Import told) = refl

kinds : (cs : List Counted) → count_by (λ (c : Counted). is_load (entry_of c.entry)) cs + count_by (λ (c : Counted). is_import (entry_of c.entry)) cs ≡ length cs
kinds [] = refl
kinds (c ∷ cs) =
    let loads : count_by (λ (c : Counted). is_load (entry_of c.entry)) (c ∷ cs) ≡ cond (is_load (entry_of c.entry)) 1 0 + count_by (λ (c : Counted). is_load (entry_of c.entry)) cs = sum_by-cons (λ (c : Counted). cond (is_load (entry_of c.entry)) 1 0) c cs in
    let imports : count_by (λ (c : Counted). is_import (entry_of c.entry)) (c ∷ cs) ≡ cond (is_import (entry_of c.entry)) 1 0 + count_by (λ (c : Counted). is_import (entry_of c.entry)) cs = sum_by-cons (λ (c : Counted). cond (is_import (entry_of c.entry)) 1 0) c cs in
    let more : count_by (λ (c : Counted). is_load (entry_of c.entry)) cs + count_by (λ (c : Counted). is_import (entry_of c.entry)) cs ≡ length cs = kinds cs in
    let one : cond (is_load (entry_of c.entry)) 1 0 + cond (is_import (entry_of c.entry)) 1 0 ≡ 1 = one-kind c.entry in
    omega (arith, loads, imports, more, one)

pub loads-imports : (cs : List Counted) → loads_in (entries_of cs) + imports_in (entries_of cs) ≡ length cs
loads-imports cs =
    let loads : loads_in (entries_of cs) ≡ count_by (λ (c : Counted). is_load (entry_of c.entry)) cs = counts-behind is_load refl cs 0 ∙ counts is_load refl cs 0 in
    let imports : imports_in (entries_of cs) ≡ count_by (λ (c : Counted). is_import (entry_of c.entry)) cs = counts-behind is_import refl cs 0 ∙ counts is_import refl cs 0 in
    let all : count_by (λ (c : Counted). is_load (entry_of c.entry)) cs + count_by (λ (c : Counted). is_import (entry_of c.entry)) cs ≡ length cs = kinds cs in
    omega (arith, loads, imports, all)

-- slices bring no variables
variables-slices : (most n : ℕ) → variables_after most (slices_of n) ≡ most
variables-slices most zero = refl
variables-slices most (suc n) = variables-slices most n

pub variables-push : (cs : List Counted) (c : Counted) → variables_after 0 (entries_of (cs ++ c ∷ [])) ≡ variables_with (variables_after 0 (entries_of cs)) (entry_of c.entry)
variables-push cs c =
    let before : ℕ = variables_after 0 (entries_of cs) in
    let first : variables_after 0 (entries_of (cs ++ c ∷ [])) ≡ variables_after before (counted_of c) = ap (λ (es : List JournalEntry). variables_after 0 es) (entries-push cs c) ∙ variables-append 0 (entries_of cs) (counted_of c) in
    let second : variables_after before (counted_of c) ≡ variables_after (variables_after before (slices_of c.slices)) (entry_of c.entry ∷ []) = variables-append before (slices_of c.slices) (entry_of c.entry ∷ []) in
    first ∙ (second ∙ ap (λ (v : ℕ). variables_with v (entry_of c.entry)) (variables-slices before c.slices))

-- what is kept beside counted entries, with one more
pub counts-with : (cs : List Counted) (c : Counted) (loads variables more most : ℕ) → AreCounts cs loads variables → more ≡ cond (is_load (entry_of c.entry)) (loads + 1) loads → most ≡ variables_with variables (entry_of c.entry) → AreCounts (cs ++ c ∷ []) more most
counts-with cs c loads variables more most before e f = record {
  are_loads = e ∙ (by_test (is_load (entry_of c.entry)) ∙ (ap (λ (n : ℕ). n + cond (is_load (entry_of c.entry)) 1 0) before.are_loads ∙ sym (counts-push is_load refl cs c)));
  are_most = f ∙ (ap (λ (v : ℕ). variables_with v (entry_of c.entry)) before.are_most ∙ sym (variables-push cs c));
}
  where
    by_test : (b : Bool) → cond b (loads + 1) loads ≡ loads + cond b 1 0
    by_test true = refl
    by_test false = omega arith

pub variables-behind : (most : ℕ) (es : List JournalEntry) (n : ℕ) → variables_after most (es ++ slices_of n) ≡ variables_after most es
variables-behind most es n = variables-append most es (slices_of n) ∙ variables-slices (variables_after most es) n

-- the entries with those of a start after them
pub grown-entries : (loads : List (Posted × ℕ)) (tolds : List (List NumberedClause)) (before es fs gs after : List JournalEntry) → es ≡ before → fs ≡ es ++ load_entries loads → gs ≡ fs ++ import_entries tolds → after ≡ gs ++ Run ∷ [] → after ≡ before ++ start_entries loads tolds
grown-entries loads tolds before es fs gs after p q r s =
    let third : gs ≡ (before ++ load_entries loads) ++ import_entries tolds = r ∙ ap (λ (xs : List JournalEntry). xs ++ import_entries tolds) (q ∙ ap (λ (xs : List JournalEntry). xs ++ load_entries loads) p) in
    s ∙ (ap (λ (xs : List JournalEntry). xs ++ Run ∷ []) third ∙ (append_assoc (before ++ load_entries loads) (import_entries tolds) (Run ∷ []) ∙ append_assoc before (load_entries loads) (import_entries tolds ++ Run ∷ [])))
