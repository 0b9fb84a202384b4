-- Lines of a list, one after another.
use Rattle.std.proofs.Common.{◌≡◌, ℕ, ◌+◌, ◌<◌, ◌≤◌, Bool, cond, nat_le, List, [], ◌∷◌, ◌++◌, append-nil, length, take, get_or, slice_get, append_assoc, Option, Some, sym, ◌∙◌, ap}
use Rattle.std.specs.Option.{option_map_or}
use Rattle.std.proofs.lemmas.Option.{slice_get-get_or}
use Rattle.std.proofs.lemmas.Bool.{le-leb, lt-leb}
use Rattle.std.proofs.lemmas.List.{take_more}
use Rattle.std.proofs.lemmas.List.Elements.{filter-append}
use Rattle.mal_base.specs.NumberedClause.{Line}
use Rattle.mal_proof.specs.Goals.{up_to}

-- a line more of the front of a list
module _ (xs : List Line) (n : ℕ) (line : Line) (low : n < length xs) (is : slice_get xs n ≡ Some line) where
  front-more : take (n + 1) xs ≡ take n xs ++ line ∷ []
  front-more =
      let same : line ≡ get_or xs n line = ap (λ (o : Option Line). option_map_or (λ l. l) o line) (sym is ∙ slice_get-get_or xs n line low) in
      take_more xs n line low ∙ ap (λ (l : Line). take n xs ++ l ∷ []) (sym same)

  pub lent-next : (before all now : List Line) → all ≡ before ++ take n xs → now ≡ all ++ line ∷ [] → now ≡ before ++ take (n + 1) xs
  lent-next before all now e f = f ∙ (ap (λ (ls : List Line). ls ++ line ∷ []) e ∙ (append_assoc before (take n xs) (line ∷ []) ∙ ap (λ (ls : List Line). before ++ ls) (sym front-more)))

  up_to-more : (most : ℕ) → up_to most (take (n + 1) xs) ≡ up_to most (take n xs) ++ up_to most (line ∷ [])
  up_to-more most = ap (up_to most) front-more ∙ filter-append (λ l. nat_le l.id most) (take n xs) (line ∷ [])

  pub lent-low : (before all now : List Line) (most : ℕ) → line.id ≤ most → all ≡ before ++ up_to most (take n xs) → now ≡ all ++ line ∷ [] → now ≡ before ++ up_to most (take (n + 1) xs)
  lent-low before all now most low-enough e f =
      let one : up_to most (line ∷ []) ≡ line ∷ [] = ap (λ (b : Bool). cond b (line ∷ []) []) (le-leb line.id most low-enough) in
      f ∙ (ap (λ (ls : List Line). ls ++ line ∷ []) e ∙ (append_assoc before (up_to most (take n xs)) (line ∷ []) ∙ ap (λ (ls : List Line). before ++ ls) (sym (up_to-more most ∙ ap (λ (ls : List Line). up_to most (take n xs) ++ ls) one))))

  pub lent-high : (before all : List Line) (most : ℕ) → most < line.id → all ≡ before ++ up_to most (take n xs) → all ≡ before ++ up_to most (take (n + 1) xs)
  lent-high before all most high e =
      let none : up_to most (line ∷ []) ≡ [] = ap (λ (b : Bool). cond b (line ∷ []) []) (lt-leb line.id most high) in
      e ∙ ap (λ (ls : List Line). before ++ ls) (sym (up_to-more most ∙ (ap (λ (ls : List Line). up_to most (take n xs) ++ ls) none ∙ append-nil (up_to most (take n xs)))))
