use Rattle.std.proofs.Common.{◌≡◌, Err, Result, IfOk, refl, sym, subst}
use Rattle.spec_text.specs.Inputs.{words_of}
use Rattle.spec_logic.specs.Refutation.{ProofLine}
use Rattle.spec_lrat.specs.Reading.{Fault, reading}
use Rattle.spec_lrat.specs.Reading.Fault.{BadNumber, MissingZero, IdNotRising, NegativeHint}
use Rattle.mal_parcel.specs.Told.{IsPut, line_read}
use Rattle.mal_parcel.proofs.reading.put_line.Goals as goal

pub returns-in-Ok : goal.returns-in-Ok
returns-in-Ok c = subst (λ (r : Result ProofLine Fault). IfOk c.put_read.result (λ put. IsPut (line_read r) put c.args.lines.now.lines c.put_read.new.lines.lines)) (sym c.in-Ok.ensures.exact) c.put_read.ensures

pub returns-in-Err-BadNumber : goal.returns-in-Err-BadNumber
returns-in-Err-BadNumber c =
    let refused : reading 0 (words_of c.args.line.now) ≡ Err BadNumber = rw c.in-Err-BadNumber.field-0-is at c.in-Err-BadNumber.ensures.exact in
    rw refused (refl, refl)

pub returns-in-Err-MissingZero : goal.returns-in-Err-MissingZero
returns-in-Err-MissingZero c =
    let refused : reading 0 (words_of c.args.line.now) ≡ Err MissingZero = rw c.in-Err-MissingZero.field-0-is at c.in-Err-MissingZero.ensures.exact in
    rw refused (refl, refl)

pub returns-in-Err-NegativeHint : goal.returns-in-Err-NegativeHint
returns-in-Err-NegativeHint c =
    let refused : reading 0 (words_of c.args.line.now) ≡ Err NegativeHint = rw c.in-Err-NegativeHint.field-0-is at c.in-Err-NegativeHint.ensures.exact in
    rw refused (refl, refl)

pub returns-in-Err-IdNotRising : goal.returns-in-Err-IdNotRising
returns-in-Err-IdNotRising c =
    let refused : reading 0 (words_of c.args.line.now) ≡ Err (IdNotRising _ _) = rw c.in-Err-IdNotRising.field-0-is at c.in-Err-IdNotRising.ensures.exact in
    rw refused (refl, refl)
