-- Lists of ids, as they are read word by word.
use Rattle.std.proofs.Common.{◌≡◌, ℕ, zero, suc, Bool, false, ◌==◌, List, [], ◌∷◌, ◌++◌, length, ◌≤◌, ℤ, pos, negsuc, Option, Some, None, refl, ap, ◌∙◌, sym, append-nil, append_assoc, arith}
use Rattle.std.specs.Prelude.{nat_abs}
use Rattle.std.specs.Option.{option_map}
use Rattle.std.specs.List.{list_any}
use Rattle.std.proofs.lemmas.Bool.{le-leb}
use Rattle.spec_text.specs.Inputs.{words_of}
use Rattle.spec_text.specs.Numbers.{number_in}
use Rattle.mal_text.specs.Numbers.{BeginsWith, BeginsWithDigits}
use Rattle.mal_text.proofs.Fronts.{begins_digits}
use Rattle.spec_lrat.specs.Reading.{greatest_id, is_negative, are_closed, ids_of, number_said, numbers_of, before_all}
use Rattle.mal_lrat.specs.IdLists.{Listed, listed, list_said, continued, negative_behind}

-- words say as many numbers as there are words
abbrev HasLength : ℕ → Option (List ℤ) → Type 0
HasLength n None = Unit {0}
HasLength n (Some zs) = length zs ≡ n

one-each : (ws : List (List ℕ)) → HasLength (length ws) (numbers_of ws)
one-each [] = refl
one-each (w ∷ ws) = with-word (number_said (number_in w greatest_id)) (length ws) (numbers_of ws) (one-each ws)
  where
    with-word : (o : Option ℤ) (n : ℕ) (p : Option (List ℤ)) → HasLength n p → HasLength (suc n) (before_all o p)
    with-word None n p h = tt
    with-word (Some z) n None h = tt
    with-word (Some z) n (Some zs) h = ap suc h

-- after the first 0 only whether there are more numbers counts, and whether one of them is negative
behind-zero : (ids : List ℕ) (before after : Bool) (n : ℕ) (o : Option (List ℤ)) → HasLength n o → option_map (negative_behind before) o ≡ Some after → continued ids before (option_map listed (before_all (Some (pos 0)) o)) ≡ Some (record { ids = ids; negative = after; closed = n == 0 })
behind-zero ids before after n None h e = absurd (cc)
behind-zero ids before after n (Some zs) h e =
    let negative : negative_behind before zs ≡ after = cc in
    rw (append-nil ids, h, negative) refl

pub closed-list : (ids : List ℕ) (before after : Bool) (rows ws : List (List ℕ)) (z : ℤ) → numbers_of rows ≡ before_all (Some z) (numbers_of ws) → nat_abs z ≡ 0 → option_map (negative_behind before) (numbers_of ws) ≡ Some after → continued ids before (list_said rows) ≡ Some (record { ids = ids; negative = after; closed = length ws == 0 })
closed-list ids before after rows ws (pos zero) e k h = ap (λ (o : Option (List ℤ)). continued ids before (option_map listed o)) e ∙ behind-zero ids before after (length ws) (numbers_of ws) (one-each ws) h
closed-list ids before after rows ws (pos (suc m)) e k h = absurd (cc)
closed-list ids before after rows ws (negsuc m) e k h = absurd (cc)

-- a number above 0 is the last of those before, or the first of those after
abbrev with_ids : List ℕ → List ℤ → Option Listed
with_ids ids zs = Some (record { ids = ids; negative = list_any is_negative zs; closed = are_closed zs })

one-more : (ids : List ℕ) (n : ℕ) (o : Option (List ℤ)) → 1 ≤ n → continued (ids ++ n ∷ []) false (option_map listed o) ≡ continued ids false (option_map listed (before_all (Some (pos n)) o))
one-more ids zero o h = absurd (omega arith)
one-more ids (suc m) None h = refl
one-more ids (suc m) (Some zs) h = ap (λ (xs : List ℕ). with_ids xs zs) (append_assoc ids (suc m ∷ []) (ids_of zs))

begins-said : (line : List ℕ) (z : ℤ) (words : List (List ℕ)) → BeginsWith line z words → nat_abs z ≤ greatest_id → numbers_of (words_of line) ≡ before_all (Some z) (numbers_of words)
begins-said line z words (word, e, said) low = rw (e, said greatest_id, le-leb (nat_abs z) greatest_id low) refl

number-more : (line rest : List ℕ) (n : ℕ) (ids : List ℕ) → BeginsWithDigits line n rest → 1 ≤ n → n ≤ greatest_id → continued (ids ++ n ∷ []) false (list_said (words_of rest)) ≡ continued ids false (list_said (words_of line))
number-more line rest n ids begins some low =
    one-more ids n (numbers_of (words_of rest)) some
    ∙ ap (λ (o : Option (List ℤ)). continued ids false (option_map listed o)) (sym (begins-said line (pos n) (words_of rest) (begins_digits line rest n (pos n) begins refl) low))

pub next-id : (line rest : List ℕ) (n : ℕ) (ids longer : List ℕ) (whole : Option Listed) → BeginsWithDigits line n rest → 1 ≤ n → n ≤ greatest_id → longer ≡ ids ++ n ∷ [] → continued ids false (list_said (words_of line)) ≡ whole → continued longer false (list_said (words_of rest)) ≡ whole
next-id line rest n ids longer whole begins some low e so_far = ap (λ (xs : List ℕ). continued xs false (list_said (words_of rest))) e ∙ (number-more line rest n ids begins some low ∙ so_far)
