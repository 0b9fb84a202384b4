-- What is read of an answer.
use Rattle.std.specs.Prelude.{ℕ, ◌-◌, Bool, false, ◌==◌, List, [], slice_get, Option, None, if◌then◌else◌, not}
use Rattle.std.specs.List.{list_any}
use Rattle.std.specs.Option.{option_map}
use Rattle.mal_base.specs.Literals.{var_of, has_plus}
use Rattle.mal_base.specs.NumberedClause.{Line}
use Rattle.spec_solving.specs.Solving.{Answer}
use Rattle.spec_solving.specs.Solving.Answer.{Open, Unknown, Model, Core}
use Rattle.mal_solving.specs.declared.answer.Stage.{Stage}
use Rattle.mal_solving.specs.declared.answer.Stage.TheVariants as stage

abbrev pub answer_of : Stage → List Bool → List ℕ → List Line → Answer
answer_of stage.Open values failed lines = Open
answer_of stage.Unknown values failed lines = Unknown
answer_of stage.Model values failed lines = Model values
answer_of stage.Core values failed lines = Core failed lines

abbrev pub stage_of : Answer → Stage
stage_of Open = stage.Open
stage_of Unknown = stage.Unknown
stage_of (Model values) = stage.Model
stage_of (Core failed lines) = stage.Core

-- whether a literal is true in the model, if its variable has a value there
abbrev pub value_in : ℕ → Answer → Option Bool
value_in lit Open = None
value_in lit Unknown = None
value_in lit (Model values) = option_map (λ v. if has_plus lit then v else not v) (slice_get values (var_of lit - 1))
value_in lit (Core failed lines) = None

-- whether a literal is one of the failed assumptions
abbrev pub failed_in : ℕ → Answer → Bool
failed_in lit Open = false
failed_in lit Unknown = false
failed_in lit (Model values) = false
failed_in lit (Core failed lines) = list_any (λ f. f == lit) failed

abbrev pub lines_of : Answer → List Line
lines_of Open = []
lines_of Unknown = []
lines_of (Model values) = []
lines_of (Core failed lines) = lines
