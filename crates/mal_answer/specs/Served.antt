-- What a call of the program has done, by the status that it answers.
use Rattle.std.specs.Prelude.{◌≡◌, ◌^◌, ◌<◌, ◌≤◌, ℕ, Bool, true, false, List, [], ◌⊎◌, length, Option, Some, None}
use Rattle.mal_answer.specs.Command.{Command, Refuses, Denies}
use Rattle.mal_answer.specs.Devices.{Device, Failed, Gave, GaveTooMuch, AreSilent, WroteWhole, WrotePart, Complained, too_long_line}

-- the source gave an input to its end, for which the command gives these texts
pub record IsGiven (c : Command) (source : Device) : Type 0 where
  pub text : List ℕ
  pub log_text : List ℕ
  pub out_text : List ℕ
  pub gave : Gave source text
  pub gives : c.Gives text log_text out_text

-- status 0: the source gave an input to its end, and what the command gives for it was written whole
pub record IsDone (c : Command) (source log out : Device) : Type 0 where
  pub given : IsGiven c source
  pub wrote : WroteWhole log out given.log_text given.out_text

-- status 5: the same, but a sink failed, and what was written is a prefix of the log's text and then of the output's
pub record IsCutShort (c : Command) (source log out : Device) : Type 0 where
  pub given : IsGiven c source
  pub wrote : WrotePart log out given.log_text given.out_text
  pub failed : Failed log ⊎ Failed out

-- status 3: the source gave more bytes than the limit, or a text to its end that is refused, and the line was written
-- that says so
pub record IsRefused (c : Command) (source log out : Device) : Type 0 where
  pub line : List ℕ
  pub cause : (GaveTooMuch source × (line ≡ too_long_line)) ⊎ ((text : List ℕ) × Gave source text × Refuses c text line)
  pub told : Complained log out line

-- status 7: the source gave a text to its end that is denied, and the line was written that says why
pub record IsDenied (c : Command) (source log out : Device) : Type 0 where
  pub text : List ℕ
  pub line : List ℕ
  pub gave : Gave source text
  pub denies : Denies c text line
  pub told : Complained log out line

-- the status says what was done: 0, 3, 5 and 7 as above; 4 where the source failed, and 6 where memory ran out, and
-- then nothing was written
abbrev pub Says : Command → Device → Device → Device → ℕ → Type 0
Says c source log out status =
    ((status ≡ 0) × IsDone c source log out)
    ⊎ ((status ≡ 3) × IsRefused c source log out)
    ⊎ ((status ≡ 4) × Failed source × AreSilent log out)
    ⊎ ((status ≡ 5) × IsCutShort c source log out)
    ⊎ ((status ≡ 6) × AreSilent log out)
    ⊎ ((status ≡ 7) × IsDenied c source log out)

-- an input is known, is within the limit, and has a property
abbrev pub IsWithin : (List ℕ → Type 0) → Option (List ℕ) → Type 0
IsWithin P None = ⊥
IsWithin P (Some input) = (length input ≤ 2 ^ 26) × P input

-- an input is known, and is within the limit and as the command wants it
abbrev pub IsMet : Command → Option (List ℕ) → Type 0
IsMet c input = IsWithin c.Meets input

-- an input is known, and is within the limit and in the grammar, but not as the command wants it
abbrev pub IsUnmet : Command → Option (List ℕ) → Type 0
IsUnmet c input = IsWithin (λ text. c.Takes text × (c.Meets text → ⊥)) input

-- an input is known, and is above the limit or not in the grammar
abbrev pub IsOutside : Command → Option (List ℕ) → Type 0
IsOutside c None = ⊥
IsOutside c (Some input) = (2 ^ 26 < length input) ⊎ (c.Takes input → ⊥)

-- a command that reads its input: the status says what was done; where the source did not fail, an input outside the
-- grammar or above the limit gives 3, one that is not as the command wants it 7, and one that is, where no sink failed
-- either, 0, unless memory ran out
pub record HasServed (c : Command) (source log out : Device) (status : ℕ) : Type 0 where
  pub says : Says c source log out status
  pub refuses : IsOutside c source.bytes → (Failed source → ⊥) → (status ≡ 3) ⊎ (status ≡ 6)
  pub denies : IsUnmet c source.bytes → (Failed source → ⊥) → (status ≡ 7) ⊎ (status ≡ 6)
  pub complete : IsMet c source.bytes → (Failed source → ⊥) → (Failed log → ⊥) → (Failed out → ⊥) → (status ≡ 0) ⊎ (status ≡ 6)

-- a command without an input: 0, where all was written; 5, where a sink failed; 6, where memory ran out
abbrev pub SaysMade : Command → Device → Device → ℕ → Type 0
SaysMade c log out status =
    ((status ≡ 0) × ((log_text out_text : List ℕ) × c.Gives [] log_text out_text × WroteWhole log out log_text out_text))
    ⊎ ((status ≡ 5) × ((log_text out_text : List ℕ) × c.Gives [] log_text out_text × WrotePart log out log_text out_text × (Failed log ⊎ Failed out)))
    ⊎ ((status ≡ 6) × AreSilent log out)

pub record HasMade (c : Command) (log out : Device) (status : ℕ) : Type 0 where
  pub says : SaysMade c log out status
  pub complete : (Failed log → ⊥) → (Failed out → ⊥) → (status ≡ 0) ⊎ (status ≡ 6)

-- what a call did for a command, by whether it reads an input
abbrev pub done_by : Bool → Command → Device → Device → Device → ℕ → Type 0
done_by true c source log out status = HasServed c source log out status
done_by false c source log out status = HasMade c log out status

abbrev pub HasDone : Command → Device → Device → Device → ℕ → Type 0
HasDone c source log out status = done_by c.has_input c source log out status
