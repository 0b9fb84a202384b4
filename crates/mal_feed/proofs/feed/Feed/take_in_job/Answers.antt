use Rattle.std.proofs.Common.{◌≡◌, true, false, Result, codes, rules, subst, sym}
use Rattle.std.specs.Prelude.{bytes_eq}
use Rattle.mal_base.specs.declared.line_fault.LineFault.{LineFault}
use Rattle.spec_text.specs.Inputs.{words_of}
use Rattle.spec_feed.specs.Reading.{Fed}
use Rattle.mal_feed.specs.Posting.{Posts}
use Rattle.mal_feed.proofs.Rows.{weight_in_job}
use Rattle.mal_feed.proofs.feed.Feed.take_in_job.Goals as goal

pub returns-then-eq-2 : goal.returns-then-eq-2
returns-then-eq-2 c =
    let no : bytes_eq c.args.split.first.now (codes "p") ≡ false = search rules in
    let is : bytes_eq c.args.split.first.now (codes "q") ≡ true = search rules in
    subst (λ (r : Result Fed LineFault). Posts c.take_between-then-eq-2.result c.take_between-then-eq-2.new.self r)
    (sym (weight_in_job c.args.limits c.args.split.first.now (words_of c.args.split.others.now) c.args.job c.args.self.now no is))
    c.take_between-then-eq-2.ensures
