-- The first lines of a text, and the text after them.
use Rattle.std.proofs.Common.{◌≡◌, ℕ, ◌+◌, ◌≤◌, Bool, true, false, cond, ◌==◌, List, [], ◌∷◌, ◌++◌, flat_map, length, take, refl, sym, subst, ap, ap₂, ◌∙◌, eqb-true, append_assoc, append-nil, length-append, take_all, arith}
use Rattle.std.specs.List.{AllByRecursion, onto_first}
use Rattle.std.proofs.lemmas.List.{take-append-le}
use Rattle.std.proofs.lemmas.List.Concat.{flat_map-append}
use Rattle.spec_text.specs.Inputs.{lines_of}
use Rattle.spec_text.proofs.Read.{lines_of_at}

-- the text of lines
abbrev pub unlines : List (List ℕ) → List ℕ
unlines lines = flat_map (λ line. line ++ 10 ∷ []) lines

-- no byte of a line is a line end
abbrev IsLine : List ℕ → Type 0
IsLine line = AllByRecursion (λ b. (b == 10) ≡ false) line

pub lines-are : (text : List ℕ) → AllByRecursion IsLine (lines_of text)
lines-are [] = tt
lines-are (b ∷ bs) = by_byte (b == 10) refl (lines_of bs) (lines-are bs)
  where
    by_byte : (t : Bool) → (b == 10) ≡ t → (lines : List (List ℕ)) → AllByRecursion IsLine lines → AllByRecursion IsLine (cond t ([] ∷ lines) (onto_first b lines))
    by_byte true q lines h = (tt, h)
    by_byte false q [] h = ((q, tt), tt)
    by_byte false q (line ∷ lines) h = ((q, h.0), h.1)

-- a line that others follow ends at a line end
record Cut (text line : List ℕ) (lines : List (List ℕ)) : Type 0 where
  pub rest : List ℕ
  pub whole : text ≡ line ++ 10 ∷ rest
  pub others : lines_of rest ≡ lines

first-cut : (text line next : List ℕ) (lines : List (List ℕ)) → lines_of text ≡ line ∷ next ∷ lines → Cut text line (next ∷ lines)
first-cut [] line next lines e = absurd (cc)
first-cut (b ∷ bs) line next lines e = by_byte (b == 10) refl (lines_of bs) refl (λ l m ms r. first-cut bs l m ms r) e
  where
    by_byte : (t : Bool) → (b == 10) ≡ t → (ls : List (List ℕ)) → lines_of bs ≡ ls → ((l m : List ℕ) (ms : List (List ℕ)) → lines_of bs ≡ l ∷ m ∷ ms → Cut bs l (m ∷ ms)) → cond t ([] ∷ ls) (onto_first b ls) ≡ line ∷ next ∷ lines → Cut (b ∷ bs) line (next ∷ lines)
    by_byte true q ls r ih k =
        let end : b ≡ 10 = eqb-true b 10 q in
        let none : [] ≡ line = cc in
        record { rest = bs; whole = ap₂ (λ (x : ℕ) (xs : List ℕ). xs ++ x ∷ bs) end none; others = r ∙ (let same : ls ≡ next ∷ lines = cc in same) }
    by_byte false q [] r ih k = absurd (cc)
    by_byte false q (l ∷ []) r ih k = absurd (cc)
    by_byte false q (l ∷ m ∷ ms) r ih k =
        let first : b ∷ l ≡ line = cc in
        let more : m ∷ ms ≡ next ∷ lines = cc in
        let c : Cut bs l (m ∷ ms) = ih l m ms r in
        record { rest = c.rest; whole = ap (λ (xs : List ℕ). b ∷ xs) c.whole ∙ ap (λ (xs : List ℕ). xs ++ 10 ∷ c.rest) first; others = c.others ∙ more }

-- lines that others follow
pub record Prefix (text : List ℕ) (before after : List (List ℕ)) : Type 0 where
  pub rest : List ℕ
  pub whole : text ≡ unlines before ++ rest
  pub others : lines_of rest ≡ after

pub prefix-of : (text : List ℕ) (before : List (List ℕ)) (line : List ℕ) (lines : List (List ℕ)) → lines_of text ≡ before ++ line ∷ lines → Prefix text before (line ∷ lines)
prefix-of text [] line lines e = record { rest = text; whole = refl; others = e }
prefix-of text (l ∷ []) line lines e =
    let c : Cut text l (line ∷ lines) = first-cut text l line lines e in
    record { rest = c.rest; whole = c.whole ∙ sym (ap (λ (xs : List ℕ). xs ++ c.rest) (append-nil (l ++ 10 ∷ [])) ∙ append_assoc l (10 ∷ []) c.rest); others = c.others }
prefix-of text (l ∷ m ∷ before) line lines e =
    let c : Cut text l (m ∷ (before ++ line ∷ lines)) = first-cut text l m (before ++ line ∷ lines) e in
    let f : Prefix c.rest (m ∷ before) (line ∷ lines) = prefix-of c.rest (m ∷ before) line lines c.others in
    record {
      rest = f.rest;
      whole = c.whole ∙ ap (λ (xs : List ℕ). l ++ 10 ∷ xs) f.whole ∙ sym (append_assoc (l ++ 10 ∷ []) (unlines (m ∷ before)) f.rest ∙ append_assoc l (10 ∷ []) (unlines (m ∷ before) ++ f.rest));
      others = f.others;
    }

-- the lines of the text of lines
pub lines-again : (lines : List (List ℕ)) → AllByRecursion IsLine lines → lines_of (unlines lines) ≡ lines
lines-again [] h = refl
lines-again (line ∷ lines) h =
    ap lines_of (append_assoc line (10 ∷ []) (unlines lines)) ∙ lines_of_at line (unlines lines) h.0 ∙ ap (λ (ls : List (List ℕ)). line ∷ ls) (lines-again lines h.1)

before-are : (before lines : List (List ℕ)) → AllByRecursion IsLine (before ++ lines) → AllByRecursion IsLine before
before-are [] lines h = tt
before-are (line ∷ before) lines h = (h.0, before-are before lines h.1)

pub prefix-lines : (text : List ℕ) (before lines : List (List ℕ)) → lines_of text ≡ before ++ lines → lines_of (unlines before) ≡ before
prefix-lines text before lines e = lines-again before (before-are before lines (subst (AllByRecursion IsLine) e (lines-are text)))

-- the first bytes of a text are those of its first lines
pub prefix-taken : (text : List ℕ) (before : List (List ℕ)) (line : List ℕ) (lines : List (List ℕ)) → lines_of text ≡ before ++ line ∷ lines → take (length (unlines before)) text ≡ unlines before
prefix-taken text before line lines e =
    let f : Prefix text before (line ∷ lines) = prefix-of text before line lines e in
    ap (take (length (unlines before))) f.whole ∙ take-append-le (length (unlines before)) (unlines before) f.rest (omega arith) ∙ take_all (length (unlines before)) (unlines before) (omega arith)

pub prefix-more : (before : List (List ℕ)) (line : List ℕ) → length (unlines (before ++ line ∷ [])) ≡ length (unlines before) + (length line + 1)
prefix-more before line =
    ap length (flat_map-append (λ l. l ++ 10 ∷ []) before (line ∷ []) ∙ ap (λ (xs : List ℕ). unlines before ++ xs) (append-nil (line ++ 10 ∷ [])))
    ∙ length-append (unlines before) (line ++ 10 ∷ [])
    ∙ ap (λ (n : ℕ). length (unlines before) + n) (length-append line (10 ∷ []))

-- the lines after a line are those of a text
pub record After (lines : List (List ℕ)) : Type 0 where
  pub rest : List ℕ
  pub lines_are : lines_of rest ≡ lines

last-line : (text line : List ℕ) (lines : List (List ℕ)) → lines_of text ≡ line ∷ lines → After lines
last-line text line [] e = record { rest = []; lines_are = refl }
last-line text line (next ∷ lines) e = let c : Cut text line (next ∷ lines) = first-cut text line next lines e in record { rest = c.rest; lines_are = c.others }

pub after-of : (text : List ℕ) (before : List (List ℕ)) (line : List ℕ) (lines : List (List ℕ)) → lines_of text ≡ before ++ line ∷ lines → After lines
after-of text before line lines e = let f : Prefix text before (line ∷ lines) = prefix-of text before line lines e in last-line f.rest line lines f.others

-- a line is no longer than what is left of the text
line-length : (text line : List ℕ) (lines : List (List ℕ)) → lines_of text ≡ line ∷ lines → length line ≤ length text
line-length [] line lines e = absurd (cc)
line-length (b ∷ bs) line lines e = by_byte (b == 10) (lines_of bs) (λ l ls r. line-length bs l ls r) refl e
  where
    by_byte : (t : Bool) (all : List (List ℕ)) → ((l : List ℕ) (ls : List (List ℕ)) → lines_of bs ≡ l ∷ ls → length l ≤ length bs) → lines_of bs ≡ all → cond t ([] ∷ all) (onto_first b all) ≡ line ∷ lines → length line ≤ length (b ∷ bs)
    by_byte true all ih r k = let none : [] ≡ line = cc in omega (arith, ap length none)
    by_byte false [] ih r k = let one : b ∷ [] ≡ line = cc in omega (arith, ap length one)
    by_byte false (l ∷ ls) ih r k = let first : b ∷ l ≡ line = cc in omega (arith, ap length first, ih l ls r)

pub prefix-line : (text : List ℕ) (before : List (List ℕ)) (line : List ℕ) (lines : List (List ℕ)) → lines_of text ≡ before ++ line ∷ lines → length (unlines before) + length line ≤ length text
prefix-line text before line lines e =
    let f : Prefix text before (line ∷ lines) = prefix-of text before line lines e in
    let n : length text ≡ length (unlines before) + length f.rest = ap length f.whole ∙ length-append (unlines before) f.rest in
    omega (arith, n, line-length f.rest line lines f.others)
