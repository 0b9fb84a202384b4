-- Lines of a job, which are read where the job and its block stand.
use Rattle.std.specs.Prelude.{◌≡◌, ℕ, List, ◌∷◌, codes, bytes_eq, if◌then◌else◌, Option, Some, None, Result, Ok, Err}
use Rattle.mal_base.specs.declared.line_fault.LineFault.{LineFault}
use Rattle.mal_base.specs.declared.line_fault.LineFault.TheVariants.{BadLine}
use Rattle.spec_text.specs.Inputs.{words_of}
use Rattle.spec_dimacs.specs.Reading.{Block, ◌>>=◌}
use Rattle.spec_dimacs.specs.Reading as block
use Rattle.mal_script.specs.ReadResult.{Leaves}
use Rattle.mal_script.specs.declared.fault.LineRefusal.{LineRefusal}
use Rattle.mal_base.specs.declared.limits.Limits.{Limits}
use Rattle.spec_script.specs.Reading.{OpenJob, Reading, in_block, inside_block, with_block, after_header, after_weight, going_on, after_row}

-- the job after these words in its block, if it has one
abbrev pub in_block_of : List (List ℕ) → OpenJob → Option Block → Result OpenJob LineFault
in_block_of words o None = Ok o
in_block_of words o (Some b) = in_block (block.after_row words b) >>= λ after. Ok (with_block o after)

-- the job after a line in its block, if it has one, which is its first word and the others
abbrev pub in_its_block : List ℕ → List (List ℕ) → OpenJob → Option Block → Result OpenJob LineFault
in_its_block first others o None = Ok o
in_its_block first others o (Some b) = inside_block first others o b

-- the job after a line in no block that does not end it
abbrev pub between : Limits → List ℕ → List (List ℕ) → OpenJob → Result OpenJob LineFault
between limits first others o =
    if bytes_eq first (codes "p") then after_header limits (first ∷ others) o else
    if bytes_eq first (codes "q") then after_weight others o else
    Err BadLine

-- the reading whose job goes on as this
abbrev pub of_opened : Reading → Result OpenJob LineFault → Result Reading LineFault
of_opened s after = after >>= λ o. Ok (going_on s o)

-- what is read of the job is read of the script
abbrev pub GoesOn : {U V : Type 0} → Result U LineRefusal → OpenJob → Result V LineRefusal → Reading → Reading → Type 0
GoesOn read o result before after = (made : Result OpenJob LineFault) → Leaves read o made → Leaves result after (of_opened before made)

-- the reading after these words in the block of its job, if there is one
abbrev pub in_job_of : List (List ℕ) → Reading → Option OpenJob → Result Reading LineFault
in_job_of words s None = Ok s
in_job_of words s (Some o) = in_block_of words o o.block >>= λ after. Ok (going_on s after)

-- after this line is what the block makes of it, and nothing else
abbrev pub StaysInBlock : List ℕ → Reading → Type 0
StaysInBlock line s = (limits : Limits) → after_row limits (words_of line) s ≡ in_job_of (words_of line) s s.opened
