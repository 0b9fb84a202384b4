use Rattle.std.proofs.Common.{◌≡◌, false, Result, codes, rules, subst, sym}
use Rattle.std.specs.Prelude.{bytes_eq}
use Rattle.mal_base.specs.declared.line_fault.LineFault.{LineFault}
use Rattle.spec_text.specs.Inputs.{words_of}
use Rattle.spec_script.specs.Reading.{Reading}
use Rattle.mal_script.specs.InPlace.{between}
use Rattle.mal_script.specs.ReadResult.{Leaves}
use Rattle.mal_script.proofs.Steps.{in-job-between}
use Rattle.mal_script.proofs.reader.Reader.take_in_job.Goals as goal

pub returns : goal.returns
returns c =
    let first = c.args.split.first.now in
    let others = words_of c.args.split.others.now in
    let other : bytes_eq c.args.split.first.now (codes "e") ≡ false = search rules in
    subst (λ (r : Result Reading LineFault). Leaves c.go_on.result c.go_on.new.self r)
    (sym (in-job-between c.args.limits first others c.args.job c.args.self.now other))
    (c.go_on.ensures (between c.args.limits first others c.args.job) c.take_between-read.ensures)
