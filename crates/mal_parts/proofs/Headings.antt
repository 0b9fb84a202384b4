-- The first line of a history, put piece by piece.
use Rattle.std.proofs.Common.{◌≡◌, ℕ, List, [], ◌∷◌, ◌++◌, Option, refl, sym, ◌∙◌, ap, subst, append_assoc}
use Rattle.std.specs.Prelude.{codes}
use Rattle.std.specs.Fmt.{digits}
use Rattle.std.specs.Io.KnownBytes.{Appends}
use Rattle.std.proofs.KnownBytes.{Appends-trans}
use Rattle.mal_io.specs.Moves.{GotPrefix}
use Rattle.spec_text.specs.Numbers.{decimal_word}
use Rattle.spec_live.specs.Live.{first_line}

-- a sink got a prefix of a text
abbrev pub GotSome : Option (List ℕ) → Option (List ℕ) → List ℕ → Type 0
GotSome old new text = (prefix : List ℕ) × GotPrefix old new text prefix

-- which is one of each text that goes on
some-more : (a b : Option (List ℕ)) (text more : List ℕ) → GotSome a b text → GotSome a b (text ++ more)
some-more a b text more got = (got.0, record { gained = got.1.gained; split = (got.1.split.0 ++ more, ap (λ (xs : List ℕ). xs ++ more) got.1.split.1 ∙ append_assoc got.0 got.1.split.0 more) })

-- and after a text it is one of both
some-after : (a b c : Option (List ℕ)) (text more : List ℕ) → Appends a b text → GotSome b c more → GotSome a c (text ++ more)
some-after a b c text more first got = (text ++ got.0, record { gained = Appends-trans a b c text got.0 first got.1.gained; split = (got.1.split.0, ap (λ (xs : List ℕ). text ++ xs) got.1.split.1 ∙ sym (append_assoc text got.0 got.1.split.0)) })

-- the words of the first line up to the number
abbrev pub head : List ℕ
head = codes "h mal 2 "

two : decimal_word 2 ≡ codes "2"
unfolding digits
two = refl

line-split : (workers : ℕ) → first_line workers ≡ head ++ (decimal_word workers ++ 10 ∷ [])
line-split workers = ap (λ (w : List ℕ). codes "h mal " ++ (w ++ 32 ∷ decimal_word workers ++ 10 ∷ [])) two

module _ (workers : ℕ) (a b : Option (List ℕ)) where
  -- of the first line a sink got a prefix where it got one of its first piece
  pub heading-first : GotSome a b head → GotSome a b (first_line workers)
  heading-first got = subst (GotSome a b) (sym (line-split workers)) (some-more a b head (decimal_word workers ++ 10 ∷ []) got)

  module _ (c : Option (List ℕ)) (word : List ℕ) (is : word ≡ decimal_word workers) (first : Appends a b head) where
    -- the line as its pieces are put
    line-is : head ++ (word ++ 10 ∷ []) ≡ first_line workers
    line-is = ap (λ (w : List ℕ). head ++ (w ++ 10 ∷ [])) is ∙ sym (line-split workers)

    -- the same of its second piece
    pub heading-second : GotSome b c word → GotSome a c (first_line workers)
    heading-second got = subst (GotSome a c) line-is (some-after a b c head (word ++ 10 ∷ []) first (some-more b c word (10 ∷ []) got))

    module _ (d : Option (List ℕ)) (second : Appends b c word) where
      -- of its last piece
      pub heading-third : GotSome c d (10 ∷ []) → GotSome a d (first_line workers)
      heading-third got = subst (GotSome a d) line-is (some-after a b d head (word ++ 10 ∷ []) first (some-after b c d word (10 ∷ []) second got))

      -- and it got all of the line where it got all pieces
      pub heading-whole : Appends c d (10 ∷ []) → Appends a d (first_line workers)
      heading-whole third = subst (Appends a d) line-is (Appends-trans a b d head (word ++ 10 ∷ []) first (Appends-trans b c d word (10 ∷ []) second third))
