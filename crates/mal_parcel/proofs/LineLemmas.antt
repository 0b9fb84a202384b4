-- What is written one by one.
use Rattle.std.proofs.Common.{◌≡◌, ℕ, ◌+◌, ◌<◌, List, [], ◌∷◌, ◌++◌, length, take, get_or, slice_get, Some, false, sym, ap, ◌∙◌, append-nil, append_assoc}
use Rattle.std.specs.List.{flat_map}
use Rattle.std.proofs.lemmas.Option.{slice_get-get_or}
use Rattle.std.proofs.lemmas.List.{take_more}
use Rattle.std.proofs.lemmas.Grind.{flat_map-append}
use Rattle.mal_base.specs.NumberedClause.{Line}
use Rattle.spec_text.specs.Lines.{line_of}
use Rattle.spec_proof.specs.Log.{added}
use Rattle.spec_lrat.specs.Written.{row_of}
use Rattle.spec_job.specs.SoloMachine.{Slice}
use Rattle.spec_parcel.specs.Packed.{slice_bytes}

-- the next of them
pub place-next : {X : Type 0} (f : X → List ℕ) (first items out : List ℕ) (xs : List X) (n : ℕ) (none : X) → n < length xs → items ≡ first ++ flat_map f (take n xs) → out ≡ items ++ f (get_or xs n none) → out ≡ first ++ flat_map f (take (n + 1) xs)
place-next {X} f first items out xs n none low e put =
    let x : X = get_or xs n none in
    let more : take (n + 1) xs ≡ take n xs ++ x ∷ [] = take_more xs n none low in
    let one : flat_map f (take n xs ++ x ∷ []) ≡ flat_map f (take n xs) ++ f x = flat_map-append f (take n xs) (x ∷ []) ∙ ap (λ (t : List ℕ). flat_map f (take n xs) ++ t) (append-nil (f x)) in
    put ∙ (ap (λ (t : List ℕ). t ++ f x) e ∙ (append_assoc first (flat_map f (take n xs)) (f x) ∙ ap (λ (t : List ℕ). first ++ t) (sym one ∙ ap (λ (ys : List X). flat_map f ys) (sym more))))

each-next : {X : Type 0} (f : X → List ℕ) (first items out : List ℕ) (xs : List X) (n : ℕ) (none : X) → n < length xs → items ≡ first ++ flat_map f (take n xs) → ((x : X) → slice_get xs n ≡ Some x → out ≡ items ++ f x) → out ≡ first ++ flat_map f (take (n + 1) xs)
each-next f first items out xs n none low e put = place-next f first items out xs n none low e (put (get_or xs n none) (slice_get-get_or xs n none low))

-- the lines of a slice
abbrev pub text_of_line : Line → List ℕ
text_of_line l = line_of (row_of (added l))

pub lines-next : (items out : List ℕ) (lines : List Line) (n : ℕ) → n < length lines → items ≡ flat_map text_of_line (take n lines) → ((line : Line) → slice_get lines n ≡ Some line → out ≡ items ++ text_of_line line) → out ≡ flat_map text_of_line (take (n + 1) lines)
lines-next items out lines n = each-next text_of_line [] items out lines n (record { id = 0; lits = []; hints = [] })

-- the slices of a job
pub slices-next : (first items out : List ℕ) (slices : List Slice) (n : ℕ) → n < length slices → items ≡ first ++ flat_map slice_bytes (take n slices) → ((c : Slice) → slice_get slices n ≡ Some c → out ≡ items ++ slice_bytes c) → out ≡ first ++ flat_map slice_bytes (take (n + 1) slices)
slices-next first items out slices n = each-next slice_bytes first items out slices n (record { lines = []; ends = false })
