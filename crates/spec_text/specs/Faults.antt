-- What is answered where a text is read, and what is told of its fault.
use Rattle.std.specs.Prelude.{◌≡◌, ℕ, List, Option, Some, None, Result, Ok, Err}

-- reading gives this fault; none is out of memory, which claims nothing
abbrev pub Fails : {Y F : Type 0} → Option F → Result Y F → Type 0
Fails None read = Unit {0}
Fails (Some fault) read = read ≡ Err fault

-- what was answered, seen by view, is what reading gives, or the fault of an error is
abbrev pub GivesBy : {X Y E F : Type 0} → (E → Option F) → (X → Y) → Result X E → Result Y F → Type 0
GivesBy fault_of view (Ok x) read = read ≡ Ok (view x)
GivesBy fault_of view (Err e) read = Fails (fault_of e) read

-- the text is the line that tells the fault
abbrev pub TellsBy : {F : Type 0} → (F → List ℕ) → Option F → List ℕ → Type 0
TellsBy line None text = ⊥
TellsBy line (Some fault) text = text ≡ line fault
