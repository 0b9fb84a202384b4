use Rattle.std.proofs.Common.{sym, subst}
use Rattle.mal_answer.specs.Answers.{IsAnswerTo}
use Rattle.mal_answer.specs.Commands.{command_of}
use Rattle.mal_answer.specs.declared.words.request.Request.{Request}
use Rattle.mal_cli.specs.Stopping.{stops_of}
use Rattle.mal_cli.proofs.program.answer.Goals as goal

pub returns-in-Generate : goal.returns-in-Generate
returns-in-Generate g c = subst (λ (r : Request). IsAnswerTo (command_of (stops_of (g.G.Gate.stops c.args.gate.now)) r) c.args.text.items c.generate_text.result) (sym c.in-Generate.is) (c.generate_text.ensures c.args.text.items)

pub returns-in-RunGenerated : goal.returns-in-RunGenerated
returns-in-RunGenerated g c = subst (λ (r : Request). IsAnswerTo (command_of (stops_of (g.G.Gate.stops c.args.gate.now)) r) c.args.text.items c.run_generated.result) (sym c.in-RunGenerated.is) (c.run_generated.ensures c.args.text.items)
