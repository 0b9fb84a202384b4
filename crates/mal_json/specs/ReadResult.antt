-- What the answers of the readers of a description's parts say.
use Rattle.std.specs.Prelude.{◌≡◌, ◌≢◌, ℕ, List, Option, Some, None, Result, Ok, Err}
use Rattle.serde_json.specs.Data.{Data}
use Rattle.spec_json.specs.FaultLines.{fault_line}
use Rattle.spec_json.specs.declared.fault.JsonFault.{JsonFault}
use Rattle.spec_json.specs.declared.fault.JsonFault.TheVariants.{NotJson, OutOfMemory}

-- what was answered, seen by view, is what reading gives; out of memory claims nothing
abbrev pub Gives : {X Y : Type 0} → (X → Y) → Result X JsonFault → Result Y JsonFault → Type 0
Gives view (Ok x) read = read ≡ Ok (view x)
Gives view (Err e) read = e ≢ OutOfMemory → read ≡ Err e

-- the value that was parsed is that of the text
abbrev pub Parses : {X : Type 0} → (X → Data) → Result X JsonFault → Option Data → Type 0
Parses view (Ok x) read = read ≡ Some (view x)
Parses view (Err e) read = e ≢ OutOfMemory → (e ≡ NotJson) × (read ≡ None)

-- the text is the line that tells the fault
abbrev pub Tells : JsonFault → List ℕ → Type 0
Tells OutOfMemory text = ⊥
Tells fault text = text ≡ fault_line fault
