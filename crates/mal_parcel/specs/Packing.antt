-- The bytes of a parcel in two parts.
use Rattle.std.specs.Prelude.{ℕ, List, ◌++◌, codes}
use Rattle.spec_job.specs.KeyedJob.{Key}
use Rattle.spec_job.specs.SoloMachine.{Own, SoloMachine}
use Rattle.spec_script.specs.Script.{spelling}
use Rattle.spec_parcel.specs.Packed.{answer_bytes, listed, node_bytes, own_text, ran_indices, script_of, sized, slice_bytes}

-- the sections up to the own events: what each parcel begins with, the script and the own events
abbrev pub front_bytes : Key → List Own → List ℕ
front_bytes k own = codes "MALPACK1" ++ (sized (spelling (script_of k own)) ++ sized (own_text k own))

-- the sections after the own events: nodes, slices and answers of a machine
abbrev pub machine_bytes : SoloMachine → List ℕ
machine_bytes s = listed (node_bytes s) (ran_indices s) ++ (listed slice_bytes s.slices ++ listed answer_bytes s.answers)
