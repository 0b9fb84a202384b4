use Rattle.std.proofs.Common.{◌≡◌, ◌∙◌, ℕ, ◌+◌, ◌-◌, ◌≤◌, List, [], ◌∷◌, ◌++◌, length, drop, slice_range, refl, arith, length-append}
use Rattle.std.proofs.lemmas.List.{take-append-le, drop-append-le, length-drop, map-append}
use Rattle.std.proofs.lemmas.List.Elements.{All-head, All-tail}
use Rattle.std.proofs.Math.Seq.{take-length, drop-append_seam}
use Rattle.mal_base.specs.declared.line_head.LineHead.{LineHead}
use Rattle.mal_base.specs.Lined.{line_at, lines_at, IsWithin, AreWithin}

-- what stands within a list stands there too when more is put after it
slice_range-longer : (xs more : List ℕ) (from to : ℕ) → from ≤ to → to ≤ length xs → slice_range (xs ++ more) from to ≡ slice_range xs from to
slice_range-longer xs more from to forward within =
    let cut : drop from (xs ++ more) ≡ drop from xs ++ more = drop-append-le from xs more (omega arith) in
    rw cut (take-append-le (to - from) (drop from xs) more (omega (arith, length-drop from xs)))

-- what is put after a list stands at its end
slice_range-behind : (xs more : List ℕ) (from to : ℕ) → from ≡ length xs → to ≡ length xs + length more → slice_range (xs ++ more) from to ≡ more
slice_range-behind xs more from to starts ends =
    let count : to - from ≡ length more = omega arith in
    rw (count, starts, drop-append_seam xs more) (take-length more)

-- the lines are the same when more literals and hints are put after theirs
lines-longer : (lits hints more others : List ℕ) (heads : List LineHead) → AreWithin lits hints heads → lines_at (lits ++ more) (hints ++ others) heads ≡ lines_at lits hints heads
lines-longer lits hints more others [] within = refl
lines-longer lits hints more others (e ∷ es) within =
    let here : IsWithin lits hints e = All-head (IsWithin lits hints) e es within in
    let rest : lines_at (lits ++ more) (hints ++ others) es ≡ lines_at lits hints es = lines-longer lits hints more others es (All-tail (IsWithin lits hints) e es within) in
    let a : slice_range (lits ++ more) e.lits.start e.lits.end ≡ slice_range lits e.lits.start e.lits.end = slice_range-longer lits more e.lits.start e.lits.end here.lits_within.forward here.lits_within.within in
    let b : slice_range (hints ++ others) e.hints.start e.hints.end ≡ slice_range hints e.hints.start e.hints.end = slice_range-longer hints others e.hints.start e.hints.end here.hints_within.forward here.hints_within.within in
    cc (rest, a, b)

-- a line put after the others
pub lines-push : (lits hints more others : List ℕ) (heads : List LineHead) (e : LineHead) → AreWithin lits hints heads
    → e.lits.start ≡ length lits → e.lits.end ≡ length (lits ++ more) → e.hints.start ≡ length hints → e.hints.end ≡ length (hints ++ others)
    → lines_at (lits ++ more) (hints ++ others) (heads ++ e ∷ []) ≡ lines_at lits hints heads ++ record { id = e.id; lits = more; hints = others } ∷ []
lines-push lits hints more others heads e within a b c d =
    let old : lines_at (lits ++ more) (hints ++ others) heads ≡ lines_at lits hints heads = lines-longer lits hints more others heads within in
    let x : slice_range (lits ++ more) e.lits.start e.lits.end ≡ more = slice_range-behind lits more e.lits.start e.lits.end a (omega (arith, length-append lits more)) in
    let y : slice_range (hints ++ others) e.hints.start e.hints.end ≡ others = slice_range-behind hints others e.hints.start e.hints.end c (omega (arith, length-append hints others)) in
    let new : line_at (lits ++ more) (hints ++ others) e ≡ record { id = e.id; lits = more; hints = others } = rw (x, y) refl in
    map-append (line_at (lits ++ more) (hints ++ others)) heads (e ∷ []) ∙ rw (old, new) refl
