-- What a command of the program is, as one value.
use Rattle.std.specs.Prelude.{◌≡◌, ℕ, List, [], Bool, true, false, Result, Ok, Err}
use Rattle.mal_answer.specs.Forms.{Form}

-- a grammar: what a text spells, what reading it gives, which is the value or the first fault, and the line that tells
-- the fault
pub record Grammar (V E : Type 0) : Type 1 where
  pub Spells : List ℕ → V → Type 0
  pub read : List ℕ → Result V E
  pub line_of : E → List ℕ

-- what a text spells is what reading gives
abbrev pub IsRead : {V E : Type 0} → Grammar V E → Type 0
IsRead {V} {E} g = (text : List ℕ) (v : V) → g.Spells text v → g.read text ≡ Ok v

-- a command: its words; whether it reads an input; the texts in the grammar of its input, and those of them that are as
-- it wants them; what it gives for a text, which is the text for the log and the text for the output; and the lines that
-- tell why it gives nothing, which are those of the first fault of a text, and of why one in the grammar is not as it
-- wants it
pub record Command : Type 1 where
  pub words : Form
  pub has_input : Bool
  pub Takes : List ℕ → Type 0
  pub Meets : List ℕ → Type 0
  pub Gives : List ℕ → List ℕ → List ℕ → Type 0
  pub TellsFirst : List ℕ → List ℕ → Type 0
  pub TellsWhy : List ℕ → List ℕ → Type 0

-- the line tells the first fault of a text
abbrev pub TellsFaultOf : {V E : Type 0} → Grammar V E → List ℕ → List ℕ → Type 0
TellsFaultOf {V} {E} g text line = (fault : E) × (g.read text ≡ Err fault) × (line ≡ g.line_of fault)

-- a command that answers to what its input spells, whatever it is
abbrev pub reading : {V E : Type 0} → Form → Grammar V E → (V → List ℕ → List ℕ → Type 0) → Command
reading {V} {E} words g Answers = record {
  words = words;
  has_input = true;
  Takes = λ text. (v : V) × g.Spells text v;
  Meets = λ text. (v : V) × g.Spells text v;
  Gives = λ text log out. (v : V) × g.Spells text v × Answers v log out;
  TellsFirst = λ text line. TellsFaultOf g text line;
  TellsWhy = λ text line. ⊥;
}

-- a command that wants more of what its input spells, and tells why where it is not so
abbrev pub judging : {V E : Type 0} → Form → Grammar V E → (V → Type 0) → (V → List ℕ → Type 0) → (List ℕ → List ℕ → List ℕ → Type 0) → Command
judging {V} {E} words g IsRight TellsWrong Gives = record {
  words = words;
  has_input = true;
  Takes = λ text. (v : V) × g.Spells text v;
  Meets = λ text. (v : V) × g.Spells text v × IsRight v;
  Gives = Gives;
  TellsFirst = λ text line. TellsFaultOf g text line;
  TellsWhy = λ text line. (v : V) × g.Spells text v × TellsWrong v line;
}

-- a command without an input
abbrev pub making : Form → (List ℕ → List ℕ → Type 0) → Command
making words Answers = record {
  words = words;
  has_input = false;
  Takes = λ text. Unit {0};
  Meets = λ text. Unit {0};
  Gives = λ text log out. Answers log out;
  TellsFirst = λ text line. ⊥;
  TellsWhy = λ text line. ⊥;
}

-- a text is refused: it is not in the grammar, and the line tells its first fault
pub record Refuses (c : Command) (text line : List ℕ) : Type 0 where
  pub outside : c.Takes text → ⊥
  pub told : c.TellsFirst text line

-- a text is denied: it is in the grammar and not as the command wants it, and the line tells why
pub record Denies (c : Command) (text line : List ℕ) : Type 0 where
  pub inside : c.Takes text
  pub unmet : c.Meets text → ⊥
  pub told : c.TellsWhy text line

-- what holds of each command: it gives something only for a text that is as it wants it, and such a text is in its
-- grammar; a text with a first fault is not; and one without an input gives what it gives
pub record IsLawful (c : Command) : Type 0 where
  pub meets : (text log out : List ℕ) → c.Gives text log out → c.Meets text
  pub inside : (text : List ℕ) → c.Meets text → c.Takes text
  pub outside : (text line : List ℕ) → c.TellsFirst text line → c.Takes text → ⊥
  pub made : c.has_input ≡ false → c.Meets []
