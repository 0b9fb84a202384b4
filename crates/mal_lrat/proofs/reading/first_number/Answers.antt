use Rattle.std.proofs.Common.{rules, w64}
use Rattle.spec_text.specs.Inputs.{words_of}
use mir.Val.{SFits}
use Rattle.mal_lrat.proofs.Digits.{first-number}
use Rattle.mal_lrat.proofs.reading.first_number.Goals as goal

pub returns-in-Some-clause-number : goal.returns-in-Some-clause-number
returns-in-Some-clause-number c =
    let fits : SFits w64 c.in-Some.number = search rules in
    first-number c.args.line.now c.in-Some.number (words_of c.in-Some.behind.now) c.in-Some.ensures.number c.in-Some.ensures.bound fits
