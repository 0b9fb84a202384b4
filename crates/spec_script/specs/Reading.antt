-- Reading a script line by line: the script, or the first fault with its line.
use Rattle.std.specs.Prelude.{ℕ, suc, ◌+◌, max, Bool, true, false, ◌&&◌, List, [], ◌∷◌, ◌++◌, length, codes, bytes_eq, nat_lt, nat_le, if◌then◌else◌, pos, Option, Some, None, Result, Ok, Err, count_by}
use Rattle.std.specs.List.{list_any}
use Rattle.mal_base.specs.Limits.{limits}
use Rattle.mal_base.specs.Asks.{Terms, Weighed}
use Rattle.mal_base.specs.Formulas.{Formulated, literals_of}
use Rattle.mal_base.specs.Names.{is_name}
use Rattle.mal_base.specs.declared.limit_kind.LimitKind.TheVariants.{Clauses, Literals, Tenants, Jobs, Revisions}
use Rattle.spec_text.specs.Asks as words
use Rattle.spec_text.specs.Asks.{ask_in, profile_in}
use Rattle.spec_text.specs.declared.ask_fault.AskFault.{AskFault}
use Rattle.spec_text.specs.declared.ask_fault.AskFault.TheVariants.{NotNumbers, OutOfRange}
use Rattle.mal_base.specs.declared.block_fault.BlockFault.{BlockFault}
use Rattle.spec_dimacs.specs.Rows.{is_passed, rows_of}
use Rattle.spec_dimacs.specs.Reading as block
use Rattle.spec_dimacs.specs.Reading.{Block, ◌>>=◌}
use Rattle.mal_base.specs.declared.line_fault.LineFault.{LineFault}
use Rattle.mal_base.specs.declared.line_fault.LineFault.TheVariants.{BadLine, Dimacs, Duplicate, Range, Limit}
use Rattle.mal_base.specs.declared.limits.Limits.{Limits}
use Rattle.spec_script.specs.Script.{ScriptedJob, Scripted, revisions}
use Rattle.spec_script.specs.declared.step.Step.TheVariants.{Revise, Reask}
use Rattle.spec_script.specs.Assumptions.{assumptions_in}

-- a job that has begun: what is read of it, the clauses and the literals of its revisions, and the block that has begun
pub record OpenJob : Type 0 where
  pub job : ScriptedJob
  pub clauses : ℕ
  pub literals : ℕ
  pub block : Option Block

-- a script of which some lines are read: the jobs that have ended, the tenants that were named, the last of them, and
-- the job that has begun
pub record Reading : Type 0 where
  pub jobs : List ScriptedJob
  pub tenants : List (List ℕ)
  pub tenant : Option (List ℕ)
  pub opened : Option OpenJob

-- before the first line
abbrev pub unread : Reading
unread = record { jobs = []; tenants = []; tenant = None; opened = None }

-- a fault of a block's line is one of the script's
abbrev pub in_block : {A : Type 0} → Result A BlockFault → Result A LineFault
in_block (Ok x) = Ok x
in_block (Err fault) = Err (Dimacs fault)

-- after the name of a tenant, which is one of those named before or one more
abbrev pub named : Limits → List ℕ → Reading → Result Reading LineFault
named most name s =
    if list_any (bytes_eq name) s.tenants then Ok (record s { tenant = Some name }) else
    if nat_lt (length s.tenants) most.tenants then Ok (record s { tenants = s.tenants ++ name ∷ []; tenant = Some name }) else
    Err (Limit Tenants)

-- after the words after the `t` of a tenant's line
abbrev pub after_tenant : Limits → List (List ℕ) → Reading → Result Reading LineFault
after_tenant most (name ∷ []) s = if is_name name then named most name s else Err BadLine
after_tenant most others s = Err BadLine

-- what words say, its fault as that of their line
abbrev pub of_words : {A : Type 0} → Result A AskFault → Result A LineFault
of_words (Ok x) = Ok x
of_words (Err NotNumbers) = Err BadLine
of_words (Err OutOfRange) = Err Range

-- the ask of three words and of those after them
abbrev pub asked : List ℕ → List ℕ → List ℕ → List (List ℕ) → Result Terms LineFault
asked p d s words = of_words (ask_in p d s (profile_in words))

-- the weight of two words
abbrev pub weighed : List ℕ → List ℕ → Result Weighed LineFault
weighed p d = of_words (words.weight_in p d)

-- the weight that the words of a line say: there are two
abbrev pub weight_in : List (List ℕ) → Result Weighed LineFault
weight_in (p ∷ d ∷ []) = weighed p d
weight_in others = Err BadLine

-- a job is one of this tenant
abbrev pub is_of : List ℕ → ScriptedJob → Bool
is_of tenant j = bytes_eq tenant j.tenant

-- a job is that of this tenant under this name
abbrev pub is_job : List ℕ → List ℕ → ScriptedJob → Bool
is_job tenant name j = is_of tenant j && bytes_eq name j.name

-- one job more may begin
abbrev pub has_room : Limits → List ℕ → List ScriptedJob → Bool
has_room most tenant jobs = nat_lt (count_by (is_of tenant) jobs) most.jobs_of_tenant && nat_lt (length jobs) most.jobs

-- a job that begins
abbrev pub begun : List ℕ → List ℕ → Terms → OpenJob
begun tenant name ask = record { job = record { tenant = tenant; name = name; ask = ask; steps = [] }; clauses = 0; literals = 0; block = None }

-- this job is the one that has begun
abbrev pub going_on : Reading → OpenJob → Reading
going_on s o = record s { opened = Some o }

-- after a job of this tenant has begun
abbrev pub admitted : Limits → List ℕ → List ℕ → Reading → Terms → Result Reading LineFault
admitted most tenant name s ask =
    if list_any (is_job tenant name) s.jobs then Err (Duplicate tenant name) else
    if has_room most tenant s.jobs then Ok (going_on s (begun tenant name ask)) else
    Err (Limit Jobs)

-- after the words of a job's first line, of the tenant that was named last
abbrev pub of_tenant : Limits → Option (List ℕ) → List ℕ → List ℕ → List ℕ → List ℕ → List (List ℕ) → Reading → Result Reading LineFault
of_tenant most None name p d k words s = Err BadLine
of_tenant most (Some tenant) name p d k words s =
    if is_name name then asked p d k words >>= admitted most tenant name s else Err BadLine

-- after the words after the `j` of a job's first line
abbrev pub after_job : Limits → List (List ℕ) → Reading → Result Reading LineFault
after_job most (name ∷ p ∷ d ∷ k ∷ words) s = of_tenant most s.tenant name p d k words s
after_job most others s = Err BadLine

-- after a line that counts and stands outside a job
abbrev pub outside : Limits → List ℕ → List (List ℕ) → Reading → Result Reading LineFault
outside most first others s =
    if bytes_eq first (codes "t") then after_tenant most others s else
    if bytes_eq first (codes "j") then after_job most others s else
    Err BadLine

-- the job with a block that has begun
abbrev pub with_block : OpenJob → Block → OpenJob
with_block o b = record o { block = Some b }

-- after the header of a block
abbrev pub after_header : Limits → List (List ℕ) → OpenJob → Result OpenJob LineFault
after_header most words o =
    if nat_lt (length (revisions o.job)) most.revisions then in_block (block.opened words) >>= (λ b. Ok (with_block o b)) else
    Err (Limit Revisions)

-- the job with one revision more
abbrev pub with_revision : OpenJob → Formulated → List ℕ → OpenJob
with_revision o f assumptions = record {
  job = record {
    tenant = o.job.tenant;
    name = o.job.name;
    ask = o.job.ask;
    steps = o.job.steps ++ Revise (record { variables = f.variables; clauses = f.clauses; assumptions = assumptions }) ∷ [];
  };
  clauses = o.clauses + length f.clauses;
  literals = o.literals + literals_of f.clauses;
  block = None;
}

-- the clauses and the literals of all revisions of a job are within the limits
abbrev pub revised : OpenJob → Formulated → List ℕ → Result OpenJob LineFault
revised o f assumptions =
    if nat_lt limits.clauses (o.clauses + length f.clauses) then Err (Limit Clauses) else
    if nat_lt limits.literals (o.literals + literals_of f.clauses) then Err (Limit Literals) else
    Ok (with_revision o f assumptions)

-- after the words after the `a` of the line that ends a block
abbrev pub after_assumptions : List (List ℕ) → OpenJob → Block → Result OpenJob LineFault
after_assumptions words o b = in_block (block.ended b) >>= λ f. assumptions_in f.variables words >>= revised o f

-- after a line that counts and stands in a block
abbrev pub inside_block : List ℕ → List (List ℕ) → OpenJob → Block → Result OpenJob LineFault
inside_block first others o b =
    if bytes_eq first (codes "a") then after_assumptions others o b else
    in_block (block.after_row (first ∷ others) b) >>= λ after. Ok (with_block o after)

-- the job with one more change of what it asks for
abbrev pub with_weight : OpenJob → Weighed → OpenJob
with_weight o w = record {
  job = record { tenant = o.job.tenant; name = o.job.name; ask = o.job.ask; steps = o.job.steps ++ Reask w ∷ [] };
  clauses = o.clauses;
  literals = o.literals;
  block = None;
}

-- after the words after the `q` of a line that changes what a job asks for
abbrev pub after_weight : List (List ℕ) → OpenJob → Result OpenJob LineFault
after_weight words o = weight_in words >>= λ w. Ok (with_weight o w)

-- the job that these words after an `e` end
abbrev pub ended_job : List (List ℕ) → OpenJob → Result ScriptedJob LineFault
ended_job [] o = Ok o.job
ended_job (word ∷ words) o = Err BadLine

-- one job more has ended
abbrev pub with_job : Reading → ScriptedJob → Reading
with_job s j = record s { jobs = s.jobs ++ j ∷ []; opened = None }

-- after the line that ends a job
abbrev pub after_end : List (List ℕ) → OpenJob → Reading → Result Reading LineFault
after_end words o s = ended_job words o >>= λ j. Ok (with_job s j)

-- after a line that counts and stands in a job and in no block
abbrev pub inside_job : Limits → List ℕ → List (List ℕ) → OpenJob → Reading → Result Reading LineFault
inside_job most first others o s =
    if bytes_eq first (codes "p") then after_header most (first ∷ others) o >>= (λ after. Ok (going_on s after)) else
    if bytes_eq first (codes "q") then after_weight others o >>= (λ after. Ok (going_on s after)) else
    if bytes_eq first (codes "e") then after_end others o s else
    Err BadLine

-- after a line that counts and stands in a job, of which a block may have begun
abbrev pub inside : Limits → List ℕ → List (List ℕ) → OpenJob → Option Block → Reading → Result Reading LineFault
inside most first others o None s = inside_job most first others o s
inside most first others o (Some b) s = inside_block first others o b >>= λ after. Ok (going_on s after)

-- after a line that counts
abbrev pub after_counted : Limits → List ℕ → List (List ℕ) → Option OpenJob → Reading → Result Reading LineFault
after_counted most first others None s = outside most first others s
after_counted most first others (Some o) s = inside most first others o o.block s

-- after a line, given by its words
abbrev pub after_row : Limits → List (List ℕ) → Reading → Result Reading LineFault
after_row most [] s = Ok s
after_row most (first ∷ others) s = if is_passed (first ∷ others) then Ok s else after_counted most first others s.opened s

-- the end of a block without a line of assumptions: a fault of the block comes first
abbrev pub unended : Option Block → Result Scripted LineFault
unended None = Err BadLine
unended (Some b) = in_block (block.ended b) >>= λ f. Err BadLine

-- the end of the text: no job has begun and not ended
abbrev pub at_end : Option OpenJob → List ScriptedJob → Result Scripted LineFault
at_end None jobs = Ok (record { jobs = jobs })
at_end (Some o) jobs = unended o.block

-- a fault with its line
abbrev pub on_line : {A : Type 0} → ℕ → Result A LineFault → Result A (ℕ × LineFault)
on_line line (Ok x) = Ok x
on_line line (Err fault) = Err (line, fault)

-- the lines that are left, after so many lines; a fault at the end is named with the last line, 1 where there is none
abbrev pub read_rows : Limits → List (List (List ℕ)) → ℕ → Reading → Result Scripted (ℕ × LineFault)
read_rows most [] line s = on_line (max 1 line) (at_end s.opened s.jobs)
read_rows most (row ∷ rows) line s = on_line (suc line) (after_row most row s) >>= read_rows most rows (suc line)

-- the script of a text, or its first fault with its line
abbrev pub read_text : Limits → List ℕ → Result Scripted (ℕ × LineFault)
read_text most text = read_rows most (rows_of text) 0 unread
