-- What a call of the program does to its source, its log and its output.
use Rattle.std.specs.Prelude.{◌≡◌, ◌+◌, ◌^◌, ◌≤◌, ℕ, List, [], ◌∷◌, ◌++◌, ◌⊎◌, length, codes, Option}
use Rattle.std.specs.Io.KnownBytes.{Consumes, Appends, IsAtEnd}
use Rattle.mal_io.specs.Moves.{GotPrefix, Rose}

-- what a device tells of a call: its bytes before and after (those that a source has left, those that a sink has got;
-- maybe none are told), and how many faults it has counted
pub record Device : Type 0 where
  pub bytes : Option (List ℕ)
  pub bytes_now : Option (List ℕ)
  pub faults : ℕ
  pub faults_now : ℕ

-- the same, by how a device of its kind tells its bytes and its faults
abbrev pub device : {A : Type 0} → (A → Option (List ℕ)) → (A → ℕ) → A → A → Device
device bytes faults before now = record { bytes = bytes before; bytes_now = bytes now; faults = faults before; faults_now = faults now }

-- its count of faults rose
abbrev pub Failed : Device → Type 0
Failed d = Rose d.faults d.faults_now

-- a source gave this text to its end, and it is within the limit of 2^26 bytes
pub record Gave (source : Device) (text : List ℕ) : Type 0 where
  pub consumed : Consumes source.bytes source.bytes_now text
  pub ended : IsAtEnd source.bytes_now
  pub short : length text ≤ 2 ^ 26

-- a source gave one byte more than the limit
abbrev pub GaveTooMuch : Device → Type 0
GaveTooMuch source = (taken : List ℕ) × Consumes source.bytes source.bytes_now taken × (length taken ≡ 2 ^ 26 + 1)

-- a sink gained a text; it gained a prefix of a text, and nothing else
abbrev pub Gained : Device → List ℕ → Type 0
Gained sink text = Appends sink.bytes sink.bytes_now text

abbrev pub GainedPrefix : Device → List ℕ → Type 0
GainedPrefix sink text = (prefix : List ℕ) × GotPrefix sink.bytes sink.bytes_now text prefix

-- both sinks gained nothing
abbrev pub AreSilent : Device → Device → Type 0
AreSilent log out = Gained log [] × Gained out []

-- both texts were written whole, the log's first
abbrev pub WroteWhole : Device → Device → List ℕ → List ℕ → Type 0
WroteWhole log out log_text out_text = Gained log log_text × Gained out out_text

-- a prefix of the log's text and nothing else was written, or the log's text and a prefix of the output's
abbrev pub WrotePart : Device → Device → List ℕ → List ℕ → Type 0
WrotePart log out log_text out_text =
    (GainedPrefix log log_text × Gained out []) ⊎ (Gained log log_text × GainedPrefix out out_text)

-- the log gained a prefix of a line, all of it where its count of faults did not rise; the output gained nothing
pub record Complained (log out : Device) (line : List ℕ) : Type 0 where
  pub prefix : GainedPrefix log line
  pub whole : (Failed log → ⊥) → Gained log line
  pub unanswered : Gained out []

-- the line for an input above the limit
abbrev pub too_long_line : List ℕ
too_long_line = codes "fault: input too long" ++ 10 ∷ []
