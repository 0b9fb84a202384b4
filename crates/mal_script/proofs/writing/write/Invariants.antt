use Rattle.std.proofs.Common.{◌≡◌, flat_map, take}
use Rattle.spec_text.specs.Lines.{text_of}
use Rattle.spec_script.specs.Script.{job_rows}
use Rattle.mal_script.proofs.writing.write.Given as goal

abbrev pub invariant-loop-job : goal.invariant-loop-job
invariant-loop-job l = l.out.items ≡ flat_map (λ j. text_of (job_rows j)) (take l.job-index l.jobs)
