-- The chunk of a line.
use Rattle.std.proofs.Common.{◌≡◌, ℕ, false, zero, suc, ◌+◌, ◌-◌, ◌<◌, ◌≤◌, List, [], ◌∷◌, ◌++◌, length, slice_get, get_or, append_assoc, length-append, refl, sym, subst, ◌∙◌, ap, arith}
use Rattle.std.specs.Prelude.{flat_map}
use Rattle.std.specs.List.Sorted.{IsNonDecreasingBy}
use Rattle.mal_base.specs.NumberedClause.{Line}
use Rattle.mal_base.specs.Lined.{Lined}
use Rattle.mal_proof.specs.declared.chunk.Chunk.{Chunk}
use Rattle.mal_proof.specs.Logged.{lines_in, AreCounted, HasPlace}

-- chunks end one after another
ends-above : (before : ℕ) (chunks : List Chunk) → AreCounted before chunks → (k : ℕ) (d : Chunk) → k < length chunks → before ≤ (get_or chunks k d).end
ends-above before [] is k d low = absurd (omega arith)
ends-above before (x ∷ xs) is zero d low = let here : x.end ≡ before + length x.lines.lines = is.0 in omega (arith, here)
ends-above before (x ∷ xs) is (suc k) d low =
    let here : x.end ≡ before + length x.lines.lines = is.0 in
    let later : x.end ≤ (get_or xs k d).end = ends-above x.end xs is.1 k d (omega arith) in
    omega (arith, here, later)

pub ends-rise : (before : ℕ) (chunks : List Chunk) → AreCounted before chunks → IsNonDecreasingBy (λ (c : Chunk). c.end) chunks
ends-rise before [] is i j d up low = absurd (omega arith)
ends-rise before (x ∷ xs) is zero zero d up low = omega arith
ends-rise before (x ∷ xs) is zero (suc j) d up low = ends-above x.end xs is.1 j d (omega arith)
ends-rise before (x ∷ xs) is (suc i) zero d up low = absurd (omega arith)
ends-rise before (x ∷ xs) is (suc i) (suc j) d up low = ends-rise x.end xs is.1 i j d (omega arith) (omega arith)

get-left : (xs ys : List Line) (k : ℕ) → k < length xs → slice_get (xs ++ ys) k ≡ slice_get xs k
get-left [] ys k low = absurd (omega arith)
get-left (x ∷ xs) ys zero low = refl
get-left (x ∷ xs) ys (suc k) low = get-left xs ys k (omega arith)

get-right : (xs ys : List Line) (k j : ℕ) → length xs + j ≡ k → slice_get (xs ++ ys) k ≡ slice_get ys j
get-right [] ys k j e = let same : k ≡ j = omega arith in rw same refl
get-right (x ∷ xs) ys zero j e = absurd (omega arith)
get-right (x ∷ xs) ys (suc k) j e = get-right xs ys k j (omega arith)

lines-first : (chunk : Chunk) (rest : List Chunk) (last : Lined) → lines_in (chunk ∷ rest) last ≡ chunk.lines.lines ++ lines_in rest last
lines-first chunk rest last = append_assoc chunk.lines.lines (flat_map (λ c. c.lines.lines) rest) last.lines

-- lines that end so have the line that stands at this place of all
pub record HasLine (all lines : List Line) (n place end : ℕ) : Type 0 where
  pub has : HasPlace lines end n
  pub same : slice_get lines (n - (end - length lines)) ≡ slice_get all place

-- the first chunk that ends after a line has it
pub found-in : (before : ℕ) (chunks : List Chunk) (last : Lined) (i n : ℕ) (d : Chunk) → AreCounted before chunks → before ≤ n → i < length chunks
    → ((k : ℕ) → k < i → (get_or chunks k d).end ≤ n) → n < (get_or chunks i d).end
    → HasLine (lines_in chunks last) (get_or chunks i d).lines.lines n (n - before) (get_or chunks i d).end
found-in before [] last i n d is past low early late = absurd (omega arith)
found-in before (x ∷ xs) last zero n d is past low early late =
    let here : x.end ≡ before + length x.lines.lines = is.0 in
    let place : n - (x.end - length x.lines.lines) ≡ n - before = omega (arith, here) in
    record {
      has = record { counted = omega (arith, here); begun = omega (arith, here, past); before = late };
      same = ap (λ (k : ℕ). slice_get x.lines.lines k) place ∙ (sym (get-left x.lines.lines (lines_in xs last) (n - before) (omega (arith, here, past, late))) ∙ ap (λ (ls : List Line). slice_get ls (n - before)) (sym (lines-first x xs last)));
    }
found-in before (x ∷ xs) last (suc i) n d is past low early late =
    let here : x.end ≡ before + length x.lines.lines = is.0 in
    let over : x.end ≤ n = early zero (omega arith) in
    let rest = found-in x.end xs last i n d is.1 over (omega arith) (λ k h. early (suc k) (omega arith)) late in
    record {
      has = rest.has;
      same = rest.same ∙ (sym (get-right x.lines.lines (lines_in xs last) (n - before) (n - x.end) (omega (arith, here, over))) ∙ ap (λ (ls : List Line). slice_get ls (n - before)) (sym (lines-first x xs last)));
    }

-- a line after the end of each chunk is among the last ones
pub found-last : (before : ℕ) (chunks : List Chunk) (last : Lined) (n : ℕ) (d : Chunk) → AreCounted before chunks → before ≤ n → n < before + length (lines_in chunks last)
    → ((k : ℕ) → k < length chunks → (get_or chunks k d).end ≤ n)
    → HasLine (lines_in chunks last) last.lines n (n - before) (before + length (lines_in chunks last))
found-last before [] last n d is past within early =
    let place : n - (before + length last.lines - length last.lines) ≡ n - before = omega arith in
    record { has = record { counted = omega arith; begun = omega arith; before = within }; same = ap (λ (k : ℕ). slice_get last.lines k) place }
found-last before (x ∷ xs) last n d is past within early =
    let here : x.end ≡ before + length x.lines.lines = is.0 in
    let over : x.end ≤ n = early zero (omega arith) in
    let whole : length (lines_in (x ∷ xs) last) ≡ length x.lines.lines + length (lines_in xs last) = ap (λ (ls : List Line). length ls) (lines-first x xs last) ∙ length-append x.lines.lines (lines_in xs last) in
    let end : before + length (lines_in (x ∷ xs) last) ≡ x.end + length (lines_in xs last) = omega (arith, here, whole) in
    let rest = found-last x.end xs last n d is.1 over (omega (arith, end, within)) (λ k h. early (suc k) (omega arith)) in
    rw end (record {
      has = rest.has;
      same = rest.same ∙ (sym (get-right x.lines.lines (lines_in xs last) (n - before) (n - x.end) (omega (arith, here, over))) ∙ ap (λ (ls : List Line). slice_get ls (n - before)) (sym (lines-first x xs last)));
    })

-- the same from the front of a log on
module _ (full : List Chunk) (last : Lined) (n i : ℕ) (is : AreCounted 0 full) (before : (k : ℕ) (d : Chunk) → k < i → (get_or full k d).end ≤ n) where
  from-front : n - 0 ≡ n
  from-front = omega arith

  pub in-chunk : (chunk : Chunk) → i < length full → chunk ≡ get_or full i chunk → ((k : ℕ) (d : Chunk) → i ≤ k → k < length full → n < (get_or full k d).end) → HasLine (lines_in full last) chunk.lines.lines n n chunk.end
  in-chunk chunk low at behind =
      let found : HasLine (lines_in full last) (get_or full i chunk).lines.lines n (n - 0) (get_or full i chunk).end = found-in 0 full last i n chunk is (omega arith) low (λ k h. before k chunk h) (behind i chunk (omega arith) low) in
      subst (λ (c : Chunk). HasLine (lines_in full last) c.lines.lines n n c.end) (sym at) (subst (λ (k : ℕ). HasLine (lines_in full last) (get_or full i chunk).lines.lines n k (get_or full i chunk).end) from-front found)

  pub in-last : (count : ℕ) → length full ≤ i → count ≡ length (lines_in full last) → n < count → HasLine (lines_in full last) last.lines n n count
  in-last count high counted low =
      let none : Chunk = record { lines = last; end = 0; ends = false } in
      let found : HasLine (lines_in full last) last.lines n (n - 0) (0 + length (lines_in full last)) = found-last 0 full last n none is (omega arith) (omega (arith, counted, low)) (λ k h. before k none (omega (arith, h, high))) in
      let whole : 0 + length (lines_in full last) ≡ count = omega (arith, counted) in
      subst (λ (e : ℕ). HasLine (lines_in full last) last.lines n n e) whole (subst (λ (k : ℕ). HasLine (lines_in full last) last.lines n k (0 + length (lines_in full last))) from-front found)
