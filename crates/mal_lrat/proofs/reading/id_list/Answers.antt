use Rattle.std.proofs.Common.{rules, ◌≡◌, ◌∙◌, sym, Some}
use Rattle.std.specs.Prelude.{nat_abs}
use Rattle.spec_text.specs.Inputs.{words_of}
use Rattle.spec_lrat.specs.Reading.{before_all, numbers_of}
use Rattle.mal_lrat.proofs.Listing.{closed-list}
use Rattle.mal_lrat.proofs.reading.id_list.Goals as goal

pub returns-in-None : goal.returns-in-None
returns-in-None c =
    let zero : nat_abs c.in-Some.number ≡ 0 = search rules in
    let cut : numbers_of (words_of c.loop-ids.rest.now) ≡ before_all (Some c.in-Some.number) (numbers_of (words_of c.in-Some.behind.now)) = search rules in
    rw (c.has_no_word.ensures)
    (sym c.loop-ids.invariant
    ∙ closed-list c.loop-ids.ids.items c.loop-ids.has_negative c.in_ok-has_negative_behind-in-None.field-0 (words_of c.loop-ids.rest.now) (words_of c.in-Some.behind.now) c.in-Some.number cut zero c.in_ok-has_negative_behind-in-None.ensures)
