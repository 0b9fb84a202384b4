use Rattle.std.proofs.Common.{◌≡◌, true, codes, rules, sym, subst}
use Rattle.std.specs.Prelude.{bytes_eq}
use Rattle.spec_text.specs.Inputs.{words_of}
use Rattle.spec_script.specs.Reading.{OpenJob}
use Rattle.mal_script.specs.InPlace.{in_its_block}
use Rattle.mal_script.specs.ReadResult.{Leaves}
use Rattle.mal_script.proofs.Steps.{block-end}
use Rattle.mal_script.proofs.opened.OpenJob.take_in_block.Goals as goal

pub returns-in-Some : goal.returns-in-Some
returns-in-Some c =
    let first = c.args.split.first.now in
    let others = words_of c.args.split.others.now in
    let is : bytes_eq c.args.split.first.now (codes "a") ≡ true = search rules in
    let job : OpenJob = record { job = c.self.inside.job; clauses = c.self.inside.clauses; literals = c.self.inside.literals; block = c.self.inside.block } in
    subst (λ (o : OpenJob). Leaves c.take_assumptions.result c.take_assumptions.new.self (in_its_block first others o o.block)) c.self.view_is
    (block-end c.take_assumptions.result first others job c.take_assumptions.new.self c.in-Some.block c.take_assumptions.ensures is (sym c.in-Some.ensures.value))
