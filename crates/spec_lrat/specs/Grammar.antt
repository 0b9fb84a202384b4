-- The grammar of proof lines: which line a row of words spells.
use Rattle.std.specs.Prelude.{◌≡◌, ℕ, ◌+◌, ◌*◌, ◌<◌, ◌≤◌, List, [], ◌∷◌, ◌++◌, map, codes, ℤ, pos, Option}
use Rattle.std.specs.List.{AllByRecursion}
use Rattle.mal_base.specs.Limits.{limits}
use Rattle.spec_text.specs.Numbers.{number_in, number_of}
use Rattle.spec_text.specs.Numbers.NumberWord.{Number}
use Rattle.spec_logic.specs.Refutation.{ProofLine}
use Rattle.spec_logic.specs.Refutation.ProofLine.{Add, Delete}
use Rattle.spec_dimacs.specs.Merged.{IsClauseOf}
use Rattle.spec_lrat.specs.Reading.{greatest_id, behind_l}

-- words say these numbers, of magnitudes up to `max`, and then a 0
abbrev pub SayClosed : ℕ → List (List ℕ) → List ℤ → Type 0
SayClosed max words numbers = map (λ word. number_in word max) words ≡ map (λ z. Number z) (numbers ++ pos 0 ∷ [])

-- a word says an id
abbrev pub SaysId : List ℕ → ℕ → Type 0
SaysId word id = (number_in word greatest_id ≡ Number (pos id)) × (1 ≤ id)

-- words say these ids and then a 0
abbrev pub SayIds : List (List ℕ) → List ℕ → Type 0
SayIds words ids = SayClosed greatest_id words (map pos ids) × AllByRecursion (λ id. 1 ≤ id) ids

-- a code is that of a literal of a variable that is served
abbrev pub IsServed : ℕ → Type 0
IsServed code = (2 ≤ code) × (code < 2 * limits.variables + 2)

-- words say these literals and then a 0
abbrev pub SayLiterals : List (List ℕ) → List ℕ → Type 0
SayLiterals words lits = SayClosed limits.variables words (map number_of lits) × AllByRecursion IsServed lits

-- a line that adds: its id, which is above the last one, the literals of its clause up to a 0, and its hints up to a 0
pub record SpellsAdd (last : ℕ) (words : List (List ℕ)) (id : ℕ) (clause : Option (List ℕ)) (hints : List ℕ) : Type 0 where
  pub id_word : List ℕ
  pub lit_words : List (List ℕ)
  pub hint_words : List (List ℕ)
  pub lits : List ℕ
  pub row : words ≡ id_word ∷ (lit_words ++ hint_words)
  pub says_id : SaysId id_word id
  pub rising : last < id
  pub says_lits : SayLiterals lit_words lits
  pub makes : IsClauseOf lits clause
  pub says_hints : SayIds hint_words hints

-- a line that deletes: an id, the word `d`, and the ids of the deleted clauses up to a 0
pub record SpellsDelete (words : List (List ℕ)) (ids : List ℕ) : Type 0 where
  pub id_word : List ℕ
  pub id : ℕ
  pub id_words : List (List ℕ)
  pub row : words ≡ id_word ∷ codes "d" ∷ id_words
  pub says_id : SaysId id_word id
  pub says_ids : SayIds id_words ids

-- the words after a leading `l` are those of the line; `last` is the greatest id so far
abbrev pub Spells : ℕ → List (List ℕ) → ProofLine → Type 0
Spells last row (Add id clause hints) = SpellsAdd last (behind_l row) id clause hints
Spells last row (Delete ids) = SpellsDelete (behind_l row) ids
