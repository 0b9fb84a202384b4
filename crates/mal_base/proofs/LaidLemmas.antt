-- Clauses whose literals stand side by side.
use Rattle.std.proofs.Common.{◌≡◌, ℕ, zero, suc, ◌+◌, ◌-◌, ◌*◌, ◌/◌, ◌%◌, ◌<◌, ◌≤◌, ◌==◌, true, false, is_none, get_or, List, [], ◌∷◌, ◌++◌, length, take, drop, slice_get, Option, Some, None, refl, sym, ◌∙◌, ap, arith}
use Rattle.std.specs.List.{list_all}
use Rattle.std.proofs.Math.Seq.{take-append_seam, drop-append_seam, drop-append-add, drop-cons}
use Rattle.std.proofs.lemmas.List.{length-append, append_assoc, append-nil, take_more}
use Rattle.std.proofs.lemmas.List.Sums.{sum_by-cons, sum_by-append, sum_by-take-le}
use Rattle.std.proofs.lemmas.Option.{slice_get-get_or}
use Rattle.mal_base.specs.Clauses.{rises}
use Rattle.mal_base.specs.Formulas.{size_of, literals_of}
use Rattle.mal_base.specs.ClauseLists.{lits_of, laid, mark_of, marks_of, read, is_rising, IsLaid}
use Rattle.mal_base.proofs.Sorting.{and-left, and-right, and-both}

-- clauses that are laid side by side are read again
pub read-laid : (s : ℕ) (cs : List (Option (List ℕ))) → read s (laid cs) (marks_of s cs) ≡ cs
read-laid s [] = refl
read-laid s (None ∷ cs) =
    let odd : (2 * s + 1) % 2 ≡ 1 = omega arith in
    let half : (2 * s + 1) / 2 ≡ s = omega arith in
    let none : s - s ≡ 0 = omega arith in
    let same : s + 0 ≡ s = omega arith in
    let rest : read s (laid cs) (marks_of s cs) ≡ cs = read-laid s cs in
    rw (odd, half, none, same, rest) refl
read-laid s (Some lits ∷ cs) =
    let even : (2 * (s + length lits)) % 2 ≡ 0 = omega arith in
    let half : (2 * (s + length lits)) / 2 ≡ s + length lits = omega arith in
    let less : (s + length lits) - s ≡ length lits = omega arith in
    let front : take (length lits) (lits ++ laid cs) ≡ lits = take-append_seam lits (laid cs) in
    let back : drop (length lits) (lits ++ laid cs) ≡ laid cs = drop-append_seam lits (laid cs) in
    let rest : read (s + length lits) (laid cs) (marks_of (s + length lits) cs) ≡ cs = read-laid (s + length lits) cs in
    rw (even, half, less, front, back, rest) refl

-- with one clause more
laid-more : (cs : List (Option (List ℕ))) (c : Option (List ℕ)) → laid (cs ++ c ∷ []) ≡ laid cs ++ lits_of c
laid-more [] c = append-nil (lits_of c)
laid-more (d ∷ ds) c =
    let rest : laid (ds ++ c ∷ []) ≡ laid ds ++ lits_of c = laid-more ds c in
    rw rest (sym (append_assoc (lits_of d) (laid ds) (lits_of c)))

marks-more : (s : ℕ) (cs : List (Option (List ℕ))) (c : Option (List ℕ)) → marks_of s (cs ++ c ∷ []) ≡ marks_of s cs ++ mark_of (s + length (laid cs)) c ∷ []
marks-more s [] c = let same : s + 0 ≡ s = omega arith in rw same refl
marks-more s (d ∷ ds) c =
    let len : length (lits_of d ++ laid ds) ≡ length (lits_of d) + length (laid ds) = length-append (lits_of d) (laid ds) in
    let same : s + (length (lits_of d) + length (laid ds)) ≡ (s + length (lits_of d)) + length (laid ds) = omega arith in
    let rest : marks_of (s + length (lits_of d)) (ds ++ c ∷ []) ≡ marks_of (s + length (lits_of d)) ds ++ mark_of ((s + length (lits_of d)) + length (laid ds)) c ∷ [] = marks-more (s + length (lits_of d)) ds c in
    rw (len, same, rest) refl

marks-from_start : (cs : List (Option (List ℕ))) (c : Option (List ℕ)) → marks_of 0 (cs ++ c ∷ []) ≡ marks_of 0 cs ++ mark_of (length (laid cs)) c ∷ []
marks-from_start cs c =
    let same : 0 + length (laid cs) ≡ length (laid cs) = omega arith in
    rw (← same) (marks-more 0 cs c)

rising-more : (cs : List (Option (List ℕ))) (c : Option (List ℕ)) → list_all is_rising cs ≡ true → is_rising c ≡ true → list_all is_rising (cs ++ c ∷ []) ≡ true
rising-more [] c h own = and-both _ _ own refl
rising-more (d ∷ ds) c h own = and-both _ _ (and-left _ _ h) (rising-more ds c (and-right _ _ h) own)

-- what is pushed is laid, and read again
pushed-laid : (lits marks : List ℕ) (cs : List (Option (List ℕ))) (c : Option (List ℕ)) → IsLaid lits marks cs → is_rising c ≡ true → length (lits ++ lits_of c) ≤ 2147483647 → IsLaid (lits ++ lits_of c) (marks ++ mark_of (length lits) c ∷ []) (cs ++ c ∷ [])
pushed-laid lits marks cs c is own few = record {
  side_by_side = rw is.side_by_side (sym (laid-more cs c));
  marked = rw (is.marked, is.side_by_side) (sym (marks-from_start cs c));
  rising = rising-more cs c is.rising own;
  few = few;
}

pub pushed-read : (lits marks more behind : List ℕ) (cs : List (Option (List ℕ))) (c : Option (List ℕ)) → IsLaid lits marks (read 0 lits marks) → read 0 lits marks ≡ cs → is_rising c ≡ true → more ≡ lits ++ lits_of c → behind ≡ marks ++ mark_of (length lits) c ∷ [] → length more ≤ 2147483647 → read 0 more behind ≡ cs ++ c ∷ []
pushed-read lits marks more behind cs c is view own e f few =
    let now : IsLaid (lits ++ lits_of c) (marks ++ mark_of (length lits) c ∷ []) (cs ++ c ∷ []) = pushed-laid lits marks cs c (rw (← view) is) own (rw (← e) few) in
    rw (e, f, now.side_by_side, now.marked) (read-laid 0 (cs ++ c ∷ []))

pub pushed-kept : (lits marks more behind : List ℕ) (cs : List (Option (List ℕ))) (c : Option (List ℕ)) → IsLaid lits marks (read 0 lits marks) → read 0 lits marks ≡ cs → is_rising c ≡ true → more ≡ lits ++ lits_of c → behind ≡ marks ++ mark_of (length lits) c ∷ [] → length more ≤ 2147483647 → IsLaid more behind (read 0 more behind)
pushed-kept lits marks more behind cs c is view own e f few =
    let read_is : read 0 more behind ≡ cs ++ c ∷ [] = pushed-read lits marks more behind cs c is view own e f few in
    let now : IsLaid (lits ++ lits_of c) (marks ++ mark_of (length lits) c ∷ []) (cs ++ c ∷ []) = pushed-laid lits marks cs c (rw (← view) is) own (rw (← e) few) in
    rw (read_is, e, f) now

-- the number of the literals
literals-first : (c : Option (List ℕ)) (cs : List (Option (List ℕ))) → literals_of (c ∷ cs) ≡ size_of c + literals_of cs
literals-first c cs = sum_by-cons size_of c cs

size-lits : (c : Option (List ℕ)) → length (lits_of c) ≡ size_of c
size-lits None = refl
size-lits (Some lits) = refl

pub length-laid : (cs : List (Option (List ℕ))) → length (laid cs) ≡ literals_of cs
length-laid [] = refl
length-laid (c ∷ cs) =
    let rest : length (laid cs) ≡ literals_of cs = length-laid cs in
    let len : length (lits_of c ++ laid cs) ≡ length (lits_of c) + length (laid cs) = length-append (lits_of c) (laid cs) in
    rw (len, rest, size-lits c, literals-first c cs) refl

pub literals-laid : (lits marks : List ℕ) (cs : List (Option (List ℕ))) → IsLaid lits marks (read 0 lits marks) → read 0 lits marks ≡ cs → length lits ≡ literals_of cs
literals-laid lits marks cs is view =
    let side : lits ≡ laid cs = rw (← view) is.side_by_side in
    rw side (length-laid cs)

-- there is a mark for each clause
length-read : (s : ℕ) (lits marks : List ℕ) → length (read s lits marks) ≡ length marks
length-read s lits [] = refl
length-read s lits (m ∷ ms) = ap suc (length-read (m / 2) (drop (m / 2 - s) lits) ms)

pub length-marks : (lits marks : List ℕ) (cs : List (Option (List ℕ))) → read 0 lits marks ≡ cs → length marks ≡ length cs
length-marks lits marks cs view = rw (← view) (sym (length-read 0 lits marks))

-- the mark at a place
mark-at : (s : ℕ) (cs : List (Option (List ℕ))) (i d : ℕ) → i < length cs → get_or (marks_of s cs) i d ≡ mark_of (s + literals_of (take i cs)) (get_or cs i None)
mark-at s [] i d h = absurd (omega arith)
mark-at s (c ∷ cs) zero d h = let same : s + 0 ≡ s = omega arith in rw same refl
mark-at s (c ∷ cs) (suc i) d h =
    let rest : get_or (marks_of (s + length (lits_of c)) cs) i d ≡ mark_of ((s + length (lits_of c)) + literals_of (take i cs)) (get_or cs i None) = mark-at (s + length (lits_of c)) cs i d (omega arith) in
    let first : literals_of (c ∷ take i cs) ≡ size_of c + literals_of (take i cs) = literals-first c (take i cs) in
    let own : length (lits_of c) ≡ size_of c = size-lits c in
    let same : (s + length (lits_of c)) + literals_of (take i cs) ≡ s + literals_of (c ∷ take i cs) = omega arith in
    rw (← same) rest

odd-mark : (s : ℕ) (c : Option (List ℕ)) → ((mark_of s c) % 2 == 1) ≡ is_none c
odd-mark s None = let odd : (2 * s + 1) % 2 ≡ 1 = omega arith in rw odd refl
odd-mark s (Some lits) = let even : (2 * (s + length lits)) % 2 ≡ 0 = omega arith in rw even refl

half-mark : (s : ℕ) (c : Option (List ℕ)) → mark_of s c / 2 ≡ s + size_of c
half-mark s None = omega arith
half-mark s (Some lits) = omega arith

literals-more : (cs : List (Option (List ℕ))) (i : ℕ) → i < length cs → literals_of (take (i + 1) cs) ≡ literals_of (take i cs) + size_of (get_or cs i None)
literals-more cs i h =
    let more : take (i + 1) cs ≡ take i cs ++ get_or cs i None ∷ [] = take_more cs i None h in
    let both : literals_of (take i cs ++ get_or cs i None ∷ []) ≡ literals_of (take i cs) + literals_of (get_or cs i None ∷ []) = sum_by-append size_of (take i cs) (get_or cs i None ∷ []) in
    let one : literals_of (get_or cs i None ∷ []) ≡ size_of (get_or cs i None) + literals_of [] = literals-first (get_or cs i None) [] in
    rw (more, both, one) (omega arith)

marked-at : (lits marks : List ℕ) (cs : List (Option (List ℕ))) (i m : ℕ) → IsLaid lits marks (read 0 lits marks) → read 0 lits marks ≡ cs → i < length cs → m ≡ get_or marks i m → m ≡ mark_of (literals_of (take i cs)) (get_or cs i None)
marked-at lits marks cs i m is view h own =
    let marked : marks ≡ marks_of 0 cs = rw (← view) is.marked in
    let at : get_or (marks_of 0 cs) i m ≡ mark_of (0 + literals_of (take i cs)) (get_or cs i None) = mark-at 0 cs i m h in
    let same : 0 + literals_of (take i cs) ≡ literals_of (take i cs) = omega arith in
    let here : get_or marks i m ≡ get_or (marks_of 0 cs) i m = rw marked refl in
    own ∙ here ∙ rw (← same) at

pub tautology-at : (lits marks : List ℕ) (cs : List (Option (List ℕ))) (i m : ℕ) → IsLaid lits marks (read 0 lits marks) → read 0 lits marks ≡ cs → i < length cs → m ≡ get_or marks i m → (m % 2 == 1) ≡ is_none (get_or cs i None)
tautology-at lits marks cs i m is view h own =
    let e : m ≡ mark_of (literals_of (take i cs)) (get_or cs i None) = marked-at lits marks cs i m is view h own in
    rw e (odd-mark (literals_of (take i cs)) (get_or cs i None))

pub end-at : (lits marks : List ℕ) (cs : List (Option (List ℕ))) (i m : ℕ) → IsLaid lits marks (read 0 lits marks) → read 0 lits marks ≡ cs → i < length cs → m ≡ get_or marks i m → m / 2 ≡ literals_of (take (i + 1) cs)
end-at lits marks cs i m is view h own =
    let e : m ≡ mark_of (literals_of (take i cs)) (get_or cs i None) = marked-at lits marks cs i m is view h own in
    let half : mark_of (literals_of (take i cs)) (get_or cs i None) / 2 ≡ literals_of (take i cs) + size_of (get_or cs i None) = half-mark _ _ in
    let more : literals_of (take (i + 1) cs) ≡ literals_of (take i cs) + size_of (get_or cs i None) = literals-more cs i h in
    rw (e, half, more) refl

-- the literals at a place
dropped : (cs : List (Option (List ℕ))) (i : ℕ) → drop (literals_of (take i cs)) (laid cs) ≡ laid (drop i cs)
dropped [] zero = refl
dropped [] (suc i) = refl
dropped (c ∷ cs) zero = refl
dropped (c ∷ cs) (suc i) =
    let first : literals_of (c ∷ take i cs) ≡ size_of c + literals_of (take i cs) = literals-first c (take i cs) in
    let own : size_of c ≡ length (lits_of c) = sym (size-lits c) in
    let over : drop (length (lits_of c) + literals_of (take i cs)) (lits_of c ++ laid cs) ≡ drop (literals_of (take i cs)) (laid cs) = drop-append-add (lits_of c) (laid cs) (literals_of (take i cs)) in
    rw (first, own, over) (dropped cs i)

part-is : (cs : List (Option (List ℕ))) (i : ℕ) → i < length cs → take (literals_of (take (i + 1) cs) - literals_of (take i cs)) (drop (literals_of (take i cs)) (laid cs)) ≡ lits_of (get_or cs i None)
part-is cs i h =
    let more : literals_of (take (i + 1) cs) ≡ literals_of (take i cs) + size_of (get_or cs i None) = literals-more cs i h in
    let less : literals_of (take (i + 1) cs) - literals_of (take i cs) ≡ size_of (get_or cs i None) = omega arith in
    let own : size_of (get_or cs i None) ≡ length (lits_of (get_or cs i None)) = sym (size-lits (get_or cs i None)) in
    let first : drop i cs ≡ get_or cs i None ∷ drop (suc i) cs = drop-cons cs i None h in
    let front : take (length (lits_of (get_or cs i None))) (lits_of (get_or cs i None) ++ laid (drop (suc i) cs)) ≡ lits_of (get_or cs i None) = take-append_seam _ _ in
    rw (less, dropped cs i, own, first) front

some-lits : (c : Option (List ℕ)) → is_none c ≡ false → c ≡ Some (lits_of c)
some-lits None h = absurd (cc h)
some-lits (Some lits) h = refl

rising-at : (cs : List (Option (List ℕ))) (i : ℕ) → list_all is_rising cs ≡ true → rises (lits_of (get_or cs i None)) ≡ true
rising-at [] i all = refl
rising-at (None ∷ cs) zero all = refl
rising-at (Some lits ∷ cs) zero all = and-left _ _ all
rising-at (c ∷ cs) (suc i) all = rising-at cs i (and-right (is_rising c) _ all)

pub at-within : (lits marks : List ℕ) (cs : List (Option (List ℕ))) (i : ℕ) → IsLaid lits marks (read 0 lits marks) → read 0 lits marks ≡ cs → i < length cs → (literals_of (take i cs) ≤ literals_of (take (i + 1) cs)) × (literals_of (take (i + 1) cs) ≤ length lits)
at-within lits marks cs i is view h =
    let more : literals_of (take (i + 1) cs) ≡ literals_of (take i cs) + size_of (get_or cs i None) = literals-more cs i h in
    let part : literals_of (take (i + 1) cs) ≤ literals_of cs = sum_by-take-le size_of cs (i + 1) in
    let side : lits ≡ laid cs = rw (← view) is.side_by_side in
    let all : length lits ≡ literals_of cs = rw side (length-laid cs) in
    (omega arith, omega arith)

pub at-value : (lits marks : List ℕ) (cs : List (Option (List ℕ))) (i : ℕ) → IsLaid lits marks (read 0 lits marks) → read 0 lits marks ≡ cs → i < length cs → is_none (get_or cs i None) ≡ false → slice_get cs i ≡ Some (Some (take (literals_of (take (i + 1) cs) - literals_of (take i cs)) (drop (literals_of (take i cs)) lits)))
at-value lits marks cs i is view h some =
    let side : lits ≡ laid cs = rw (← view) is.side_by_side in
    let got : slice_get cs i ≡ Some (get_or cs i None) = slice_get-get_or cs i None h in
    let own : get_or cs i None ≡ Some (lits_of (get_or cs i None)) = some-lits (get_or cs i None) some in
    rw (side, part-is cs i h) (got ∙ ap (λ (c : Option (List ℕ)). Some c) own)

pub at-rising : (lits marks : List ℕ) (cs : List (Option (List ℕ))) (i : ℕ) → IsLaid lits marks (read 0 lits marks) → read 0 lits marks ≡ cs → i < length cs → rises (take (literals_of (take (i + 1) cs) - literals_of (take i cs)) (drop (literals_of (take i cs)) lits)) ≡ true
at-rising lits marks cs i is view h =
    let side : lits ≡ laid cs = rw (← view) is.side_by_side in
    let all : list_all is_rising cs ≡ true = rw (← view) is.rising in
    rw (side, part-is cs i h) (rising-at cs i all)
