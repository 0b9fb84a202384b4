-- What the answers of the readers say.
use Rattle.std.specs.Prelude.{◌≡◌, ℕ, ℤ, List, [], Option, Some, None, Result, Ok, Err}
use Rattle.mal_lrat.specs.declared.fault.LineFault.{LineFault}
use Rattle.mal_lrat.specs.declared.fault.LineFault.TheVariants as answer
use Rattle.spec_lrat.specs.Reading.{Fault, before_all, numbers_of}
use Rattle.spec_lrat.specs.Reading.Fault.{BadNumber, MissingZero, IdNotRising, NegativeHint}

-- an answer other than out of memory is this fault
abbrev pub Fails : {Y : Type 0} → LineFault → Result Y Fault → Type 0
Fails answer.BadNumber read = read ≡ Err BadNumber
Fails answer.MissingZero read = read ≡ Err MissingZero
Fails (answer.IdNotRising last id) read = read ≡ Err (IdNotRising last id)
Fails answer.NegativeHint read = read ≡ Err NegativeHint
Fails answer.OutOfMemory read = Unit {0}

-- what a function answered, seen by view, is what reading gives, unless memory ran out
abbrev pub Gives : {X Y : Type 0} → (X → Y) → Result X LineFault → Result Y Fault → Type 0
Gives view (Ok x) read = read ≡ Ok (view x)
Gives view (Err e) read = Fails e read

-- the same of what is read word by word, of which the one fault is a word that says nothing
abbrev pub FailsWords : {Y : Type 0} → LineFault → Option Y → Type 0
FailsWords answer.BadNumber read = read ≡ None
FailsWords answer.MissingZero read = ⊥
FailsWords (answer.IdNotRising last id) read = ⊥
FailsWords answer.NegativeHint read = ⊥
FailsWords answer.OutOfMemory read = Unit {0}

abbrev pub GivesWords : {X Y : Type 0} → (X → Y) → Result X LineFault → Option Y → Type 0
GivesWords view (Ok x) read = read ≡ Some (view x)
GivesWords view (Err e) read = FailsWords e read

-- what a function answered of a line's first number, seen by these two views: none where there is no word, else a
-- number and the words after it
abbrev pub CutsNumber : {X : Type 0} → (X → ℤ) → (X → List (List ℕ)) → Result (Option X) LineFault → List (List ℕ) → Type 0
CutsNumber number behind (Ok None) words = words ≡ []
CutsNumber number behind (Ok (Some cut)) words = numbers_of words ≡ before_all (Some (number cut)) (numbers_of (behind cut))
CutsNumber number behind (Err e) words = FailsWords e (numbers_of words)
