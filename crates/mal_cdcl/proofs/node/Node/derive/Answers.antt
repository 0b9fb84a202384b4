use Rattle.std.proofs.Common.{◌≡◌, ◌+◌, ap, arith}
use Rattle.mal_cdcl.specs.Within.{NodeWithRoom}
use Rattle.mal_cdcl.specs.Sourced.{line_from}
use Rattle.mal_cdcl.proofs.LineLemmas.{line-room, derived-step}
use Rattle.mal_cdcl.proofs.SourceLemmas.{next-from, fit-from}
use Rattle.mal_cdcl.proofs.node.Node.derive.Goals as goal

pub hold-requires-clause-room : goal.hold-requires-clause-room
hold-requires-clause-room g c =
    let n = c.args.self.now.state in
    let variables : c.self.inside.variables ≡ n.variables = ap (λ (s : NodeWithRoom). s.state.variables) c.self.view_is in
    line-room c.args.used (line_from c.args.source.now n) c.args.self.now c.requires.room (omega (arith, c.if-most_numbers-used.false, c.most_numbers.ensures, variables, c.analyse-numbers.ensures.numbers)) (fit-from c.args.source.now n c.requires.sound c.requires.source).within

pub returns-clause-step : goal.returns-clause-step
returns-clause-step g c =
    let n = c.args.self.now.state in
    let variables : c.self.inside.variables ≡ n.variables = ap (λ (s : NodeWithRoom). s.state.variables) c.self.view_is in
    derived-step c.args.used (c.args.used + c.analyse-numbers.result) (line_from c.args.source.now n) c.args.self.now c.hold.new.self c.requires.goes (next-from c.args.source.now n c.requires.source) (omega (arith, c.analyse-numbers.ensures.numbers)) (omega (arith, c.if-most_numbers-used.false, c.most_numbers.ensures, variables)) c.hold.ensures.state c.hold.ensures.lines c.hold.ensures.room
