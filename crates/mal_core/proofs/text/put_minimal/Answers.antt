use Rattle.std.proofs.Common.{ap, sym, ◌∙◌}
use Rattle.spec_core.specs.Core.{Satisfiable}
use Rattle.mal_core.specs.Seen.{seen}
use Rattle.mal_core.specs.declared.outcome.Minimal.{Minimal}
use Rattle.mal_core.proofs.TextLemmas.{model-put}
use Rattle.mal_core.proofs.text.put_minimal.Goals as goal

pub returns-in_ok-put_line-in-Satisfiable : goal.returns-in_ok-put_line-in-Satisfiable
returns-in_ok-put_line-in-Satisfiable c = model-put c.put_model.result c.args.out.now.items c.put_line.new.out.items c.put_model.new.out.items c.as_slice.result.now (seen c.args.minimal.now) (ap Satisfiable c.as_slice.ensures.value ∙ ap (λ (m : Minimal). seen m) (sym c.in-Satisfiable.is)) c.in_ok-put_line-in-Satisfiable.ensures.written c.put_model.ensures
