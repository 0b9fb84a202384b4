use Rattle.mal_answer.proofs.Decimals.{refused-decimal, parsed-decimal}
use Rattle.mal_answer.proofs.words.number.decimal.Goals as goal

pub returns-in_default : goal.returns-in_default
returns-in_default c = λ n small same. refused-decimal c.parse.result c.in_default.field-0 c.args.word.now n small same c.parse.ensures.value.0 c.in_default.is

pub returns-else-is_decimal : goal.returns-else-is_decimal
returns-else-is_decimal c = λ n small same.
    let is = parsed-decimal c.parse.result c.in-Ok.number c.args.word.now n small same c.parse.ensures.value.0 c.in-Ok.is in
    let yes = c.is_decimal.ensures.1 is in
    let no = c.if-is_decimal.false in
    cc
