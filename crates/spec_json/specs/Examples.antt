-- Small texts, with the scripts that they spell or their first faults.
use Rattle.std.specs.Prelude.{◌≡◌, [], ◌∷◌, ◌++◌, codes, Some, Ok, Err}
use Rattle.mal_base.specs.Limits.{limits}
use Rattle.mal_base.specs.declared.limit_kind.LimitKind.TheVariants.{Variables, Jobs, Revisions}
use Rattle.spec_script.specs.Examples.{asks_anew, few, job_with, second_profile}
use Rattle.spec_json.specs.FaultLines.{fault_line}
use Rattle.spec_json.specs.Reading.{read_text}
use Rattle.spec_json.specs.declared.fault.JsonFault.TheVariants.{NotJson, Shape, Range, Duplicate, VarTooLarge, Opposite, Limit}

pub record ReadingExamples : Type 0 where
  pub no_job : read_text limits (codes "{\"jobs\":[]}") ≡ Ok (record { jobs = [] })
  pub one_job : read_text limits (codes "{\"jobs\":[{\"tenant\":\"a\",\"name\":\"p\",\"priority\":1,\"demand\":1,\"slices\":4,\"steps\":[{\"variables\":2,\"clauses\":[[1,2]],\"assumptions\":[-2]}]}]}")
      ≡ Ok (job_with (record { variables = 2; clauses = Some (2 ∷ 4 ∷ []) ∷ []; assumptions = 5 ∷ [] } ∷ []))
  pub other_order : read_text limits (codes "{\"jobs\":[{\"steps\":[],\"slices\":4,\"profile\":2,\"demand\":1,\"priority\":1,\"name\":\"p\",\"tenant\":\"a\"}]}") ≡ Ok second_profile
  pub last_of_a_key : read_text limits (codes "{\"jobs\":[{\"tenant\":\"b\",\"tenant\":\"a\",\"name\":\"p\",\"priority\":1,\"demand\":1,\"slices\":4,\"steps\":[]}]}") ≡ Ok (job_with [])
  pub changed_ask : read_text limits (codes "{\"jobs\":[{\"tenant\":\"a\",\"name\":\"p\",\"priority\":1,\"demand\":1,\"slices\":4,\"steps\":[{\"variables\":0,\"clauses\":[],\"assumptions\":[]},{\"demand\":2,\"priority\":5}]}]}") ≡ Ok asks_anew

pub record FaultExamples : Type 0 where
  pub cut_short : read_text limits (codes "{") ≡ Err NotJson
  pub no_text : read_text limits (255 ∷ []) ≡ Err NotJson
  pub lone_surrogate : read_text limits (codes "\"\\ud800\"") ≡ Err NotJson
  pub no_object : read_text limits (codes "[]") ≡ Err (Shape 0)
  pub another_key : read_text limits (codes "{\"jobs\":[],\"x\":1}") ≡ Err (Shape 0)
  pub no_list : read_text limits (codes "{\"jobs\":{}}") ≡ Err (Shape 0)
  pub no_job : read_text limits (codes "{\"jobs\":[1]}") ≡ Err (Shape 1)
  pub priority_zero : read_text limits (codes "{\"jobs\":[{\"tenant\":\"a\",\"name\":\"p\",\"priority\":0,\"demand\":1,\"slices\":4,\"steps\":[]}]}") ≡ Err (Range 1)
  pub no_whole_number : read_text limits (codes "{\"jobs\":[{\"tenant\":\"a\",\"name\":\"p\",\"priority\":-0,\"demand\":1,\"slices\":4,\"steps\":[]}]}") ≡ Err (Shape 1)
  pub shape_before_range : read_text limits (codes "{\"jobs\":[{\"tenant\":\"a\",\"name\":\"p\",\"priority\":0,\"demand\":1,\"slices\":4,\"steps\":[1]}]}") ≡ Err (Shape 1)
  pub duplicate : read_text limits (codes "{\"jobs\":[{\"tenant\":\"a\",\"name\":\"p\",\"priority\":1,\"demand\":1,\"slices\":4,\"steps\":[]},{\"tenant\":\"a\",\"name\":\"p\",\"priority\":1,\"demand\":1,\"slices\":4,\"steps\":[]}]}") ≡ Err (Duplicate 2)
  pub negative_variables : read_text limits (codes "{\"jobs\":[{\"tenant\":\"a\",\"name\":\"p\",\"priority\":1,\"demand\":1,\"slices\":4,\"steps\":[{\"variables\":-1,\"clauses\":[],\"assumptions\":[]}]}]}") ≡ Err (Range 1)
  pub literal_zero : read_text limits (codes "{\"jobs\":[{\"tenant\":\"a\",\"name\":\"p\",\"priority\":1,\"demand\":1,\"slices\":4,\"steps\":[{\"variables\":1,\"clauses\":[[2],[0]],\"assumptions\":[]}]}]}") ≡ Err (Range 1)
  pub too_many_variables : read_text limits (codes "{\"jobs\":[{\"tenant\":\"a\",\"name\":\"p\",\"priority\":1,\"demand\":1,\"slices\":4,\"steps\":[{\"variables\":65537,\"clauses\":[[70000]],\"assumptions\":[]}]}]}") ≡ Err (Limit 1 Variables)
  pub variable_too_large : read_text limits (codes "{\"jobs\":[{\"tenant\":\"a\",\"name\":\"p\",\"priority\":1,\"demand\":1,\"slices\":4,\"steps\":[{\"variables\":1,\"clauses\":[[2,-2]],\"assumptions\":[1,-1]}]}]}") ≡ Err (VarTooLarge 1)
  pub assumption_too_large : read_text limits (codes "{\"jobs\":[{\"tenant\":\"a\",\"name\":\"p\",\"priority\":1,\"demand\":1,\"slices\":4,\"steps\":[{\"variables\":1,\"clauses\":[],\"assumptions\":[-2]}]}]}") ≡ Err (VarTooLarge 1)
  pub opposite : read_text limits (codes "{\"jobs\":[{\"tenant\":\"a\",\"name\":\"p\",\"priority\":1,\"demand\":1,\"slices\":4,\"steps\":[{\"variables\":3,\"clauses\":[],\"assumptions\":[3,2,-3,-2]}]}]}") ≡ Err (Opposite 1 2)
  pub change_out_of_range : read_text limits (codes "{\"jobs\":[{\"tenant\":\"a\",\"name\":\"p\",\"priority\":1,\"demand\":1,\"slices\":4,\"steps\":[{\"priority\":5,\"demand\":65}]}]}") ≡ Err (Range 1)
  pub step_of_both : read_text limits (codes "{\"jobs\":[{\"tenant\":\"a\",\"name\":\"p\",\"priority\":1,\"demand\":1,\"slices\":4,\"steps\":[{\"priority\":5,\"demand\":6,\"variables\":1}]}]}") ≡ Err (Shape 1)
  pub line : fault_line (Opposite 1 2) ≡ codes "fault: json job 1 Opposite 2" ++ 10 ∷ []

-- small texts that pass limits
pub record LimitExamples : Type 0 where
  pub second_job_of_tenant : read_text few (codes "{\"jobs\":[{\"tenant\":\"a\",\"name\":\"p\",\"priority\":1,\"demand\":1,\"slices\":4,\"steps\":[]},{\"tenant\":\"a\",\"name\":\"q\",\"priority\":1,\"demand\":1,\"slices\":4,\"steps\":[]}]}") ≡ Err (Limit 2 Jobs)
  pub second_revision : read_text few (codes "{\"jobs\":[{\"tenant\":\"a\",\"name\":\"p\",\"priority\":1,\"demand\":1,\"slices\":4,\"steps\":[{\"variables\":-1,\"clauses\":[],\"assumptions\":[]},{\"variables\":0,\"clauses\":[],\"assumptions\":[]}]}]}") ≡ Err (Limit 1 Revisions)
