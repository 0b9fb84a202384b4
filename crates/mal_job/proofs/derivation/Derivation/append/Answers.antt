use Rattle.std.proofs.Common.{List, Option, ℕ, sym, ◌∙◌, ap}
use Rattle.std.specs.Option.{option_or}
use Rattle.mal_base.specs.NumberedClause.{Line}
use Rattle.spec_job.specs.SoloMachine.{first_empty}
use Rattle.mal_job.proofs.LogLemmas.{first-append}
use Rattle.mal_job.proofs.derivation.Derivation.append.Goals as goal

pub invariant_of-self : goal.invariant_of-self
invariant_of-self c =
    c.or-self-inside.ensures
    ∙ (ap (λ (o : Option ℕ). option_or o c.empty_among.result) c.self.invariant
    ∙ (ap (λ (o : Option ℕ). option_or (first_empty c.self.inside.log.lines) o) c.empty_among.ensures
    ∙ (first-append c.self.inside.log.lines c.args.lines.lines ∙ ap (λ (ls : List Line). first_empty ls) (sym c.append_chunk.ensures.lines))))
