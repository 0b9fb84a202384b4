-- What holds of every text, in the form in which the law functions state it.
use Rattle.std.specs.Prelude.{◌≡◌, ℕ, ◌<◌, ◌↔◌, List, [], ◌∷◌, length, take, codes, Ok, Err}
use Rattle.mal_base.specs.Asks.{Terms, Weighed}
use Rattle.mal_base.specs.Formulas.{Formulated}
use Rattle.mal_base.specs.declared.line_fault.LineFault.{LineFault}
use Rattle.spec_text.specs.Inputs.{lines_of}
use Rattle.spec_dimacs.specs.Grammar as block
use Rattle.spec_dimacs.specs.Rows.{counted_rows}
use Rattle.mal_base.specs.declared.limits.Limits.{Limits}
use Rattle.spec_script.specs.Script.{Scripted, spelling}
use Rattle.spec_script.specs.Assumptions.{assumptions_in}
use Rattle.spec_script.specs.Reading.{OpenJob, Reading, admitted, after_tenant, asked, begun, going_on, read_text, revised, weighed, with_revision}
use Rattle.spec_script.specs.Grammar.{Admits, Asks, Assumes, HasRoomFor, Names, Spells, Weighs, formula_of}
use Rattle.spec_script.specs.Within.{IsWithin}
use Rattle.spec_script.specs.Formed.{IsScript}

-- a text spells a script exactly where reading gives it: no text spells two scripts, or has a first fault and spells
-- one
abbrev pub SpelledIsRead : Type 0
SpelledIsRead = (limits : Limits) (text : List ℕ) (s : Scripted) → Spells limits text s ↔ (read_text limits text ≡ Ok s)

-- the lines of a block give a formula exactly where a text of which these are the lines that count spells it
abbrev pub BlockIsSpelled : Type 0
BlockIsSpelled =
    (text : List ℕ) (header : List (List ℕ)) (body : List (List (List ℕ))) (formula : Formulated) → counted_rows text ≡ (codes "p" ∷ header) ∷ body
    → block.Spells text formula ↔ (formula_of header body ≡ Ok formula)

-- reading words gives just the ask that they say
abbrev pub AskIsRead : Type 0
AskIsRead = (p d k : List ℕ) (q : List (List ℕ)) (ask : Terms) → Asks p d k q ask ↔ (asked p d k q ≡ Ok ask)

-- reading words gives just the weight that they say
abbrev pub WeightIsRead : Type 0
WeightIsRead = (p d : List ℕ) (weight : Weighed) → Weighs p d weight ↔ (weighed p d ≡ Ok weight)

-- a tenant's line is read exactly where its word names a tenant
abbrev pub TenantIsRead : Type 0
TenantIsRead = (limits : Limits) (name : List ℕ) (s after : Reading) → Names limits s name after ↔ (after_tenant limits (name ∷ []) s ≡ Ok after)

-- a job begins exactly where its tenant may begin it
abbrev pub JobIsAdmitted : Type 0
JobIsAdmitted = (limits : Limits) (tenant name : List ℕ) (s : Reading) (ask : Terms) (after : Reading)
    → (Admits limits tenant name s.jobs × (after ≡ going_on s (begun tenant name ask))) ↔ (admitted limits tenant name s ask ≡ Ok after)

-- reading the words of a line of assumptions gives just those that they say
abbrev pub AssumptionsAreRead : Type 0
AssumptionsAreRead = (variables : ℕ) (words : List (List ℕ)) (assumptions : List ℕ) → Assumes variables words assumptions ↔ (assumptions_in variables words ≡ Ok assumptions)

-- a job has one revision more exactly where it has room for its formula
abbrev pub RevisionIsRead : Type 0
RevisionIsRead = (o : OpenJob) (formula : Formulated) (assumptions : List ℕ) (after : OpenJob)
    → (HasRoomFor o formula × (after ≡ with_revision o formula assumptions)) ↔ (revised o formula assumptions ≡ Ok after)

-- nothing after a faulty line counts: where the first fault is on a line before the last, each text that begins with
-- the same lines, up to this one, has the same first fault
abbrev pub FaultIsFirst : Type 0
FaultIsFirst = (limits : Limits) (text other : List ℕ) (line : ℕ) (fault : LineFault) → read_text limits text ≡ Err (line, fault) → line < length (lines_of text) → take line (lines_of other) ≡ take line (lines_of text) → read_text limits other ≡ Err (line, fault)

-- what a text spells is within the limits
abbrev pub SpelledIsWithin : Type 0
SpelledIsWithin = (limits : Limits) (text : List ℕ) (s : Scripted) → Spells limits text s → IsWithin limits s

-- a script in form is spelled by the text that it is written as
abbrev pub WrittenIsSpelled : Type 0
WrittenIsSpelled = (limits : Limits) (s : Scripted) → IsScript limits s → Spells limits (spelling s) s

-- a script in form is read again from the text that it is written as
abbrev pub WrittenIsRead : Type 0
WrittenIsRead = (limits : Limits) (s : Scripted) → IsScript limits s → read_text limits (spelling s) ≡ Ok s

-- what a text spells is a script in form
abbrev pub SpelledIsScript : Type 0
SpelledIsScript = (limits : Limits) (text : List ℕ) (s : Scripted) → Spells limits text s → IsScript limits s

-- so what a text spells is read again from the one text that it is written as
abbrev pub SpelledAgain : Type 0
SpelledAgain = (limits : Limits) (text : List ℕ) (s : Scripted) → Spells limits text s → read_text limits (spelling s) ≡ Ok s
