use Rattle.std.specs.Prelude.{◌≡◌, [], ◌∷◌, codes, Some, None, Ok, Err}
use Rattle.spec_text.specs.Inputs.{words_of}
use Rattle.spec_logic.specs.Refutation.ProofLine.{Add, Delete}
use Rattle.spec_lrat.specs.Reading.{reading}
use Rattle.spec_lrat.specs.Reading.Fault.{BadNumber, MissingZero, IdNotRising, NegativeHint}

-- what lines are read as after four original clauses
pub record HasLines : Type 0 where
  pub unit : reading 4 (words_of (codes "5 1 0 1 2 0")) ≡ Ok (Add 5 (Some (2 ∷ [])) (1 ∷ 2 ∷ []))
  pub behind_l : reading 4 (words_of (codes "l 5 1 0 1 2 0\r")) ≡ Ok (Add 5 (Some (2 ∷ [])) (1 ∷ 2 ∷ []))
  pub empty : reading 4 (words_of (codes "6 0 0")) ≡ Ok (Add 6 (Some []) [])
  pub repeats : reading 4 (words_of (codes "5 2 -1 02 0 1 0")) ≡ Ok (Add 5 (Some (3 ∷ 4 ∷ [])) (1 ∷ []))
  pub tautology : reading 4 (words_of (codes "5 1 -1 0 0")) ≡ Ok (Add 5 None [])
  pub delete : reading 4 (words_of (codes "1 d 3 4 0")) ≡ Ok (Delete (3 ∷ 4 ∷ []))
  pub l_delete : reading 4 (words_of (codes "l 1 d 0")) ≡ Ok (Delete [])

-- the first faults of lines
pub record HasFaults : Type 0 where
  pub zero_id : reading 0 (words_of (codes "0 1 0 1 0")) ≡ Err BadNumber
  pub no_number : reading 0 (words_of (codes "x")) ≡ Err BadNumber
  pub literal_too_large : reading 0 (words_of (codes "1 65537")) ≡ Err BadNumber
  pub hint_may_be_larger : reading 0 (words_of (codes "1 0 65537")) ≡ Err MissingZero
  pub negative_deleted : reading 0 (words_of (codes "1 d -3")) ≡ Err BadNumber
  pub two_lists_deleted : reading 0 (words_of (codes "1 d 0 0")) ≡ Err MissingZero
  pub l_alone : reading 0 (words_of (codes "l")) ≡ Err MissingZero
  pub open_hints : reading 0 (words_of (codes "2 1 0 1")) ≡ Err MissingZero
  pub three_lists : reading 0 (words_of (codes "2 1 0 1 0 0")) ≡ Err MissingZero
  pub not_rising : reading 4 (words_of (codes "4 1 0 -1 2 0")) ≡ Err (IdNotRising 4 4)
  pub negative_hint : reading 4 (words_of (codes "5 1 0 -1 2 0")) ≡ Err NegativeHint
