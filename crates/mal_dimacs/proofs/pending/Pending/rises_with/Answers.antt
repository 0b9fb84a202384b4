use Rattle.std.proofs.Common.{◌≡◌, true, false, ◌-◌, ◌/◌, ◌∷◌, ◌++◌, [], length, nat_lt, slice_get, Some, sym, ◌∙◌}
use Rattle.mal_base.specs.Clauses.{rises}
use Rattle.mal_dimacs.proofs.Rising.{no_rise, rise_behind}
use Rattle.mal_dimacs.proofs.pending.Pending.rises_with.Goals as goal

pub returns-then-not-self : goal.returns-then-not-self
returns-then-not-self c =
    let down : rises c.args.self.now ≡ false = cc in
    sym (no_rise c.args.self.now c.args.lit down)

pub returns-in-Some : goal.returns-in-Some
returns-in-Some c =
    let up : rises c.args.self.now ≡ true = cc in
    let seen : c.as_slice.result.now ≡ c.args.self.now = c.as_slice.ensures.value ∙ c.self.view_is in
    let at : slice_get c.args.self.now (length c.args.self.now - 1) ≡ Some c.in-Some.last.now = rw (← seen) (sym c.in-Some.ensures.value) in
    let said : rises (c.args.self.now ++ c.args.lit ∷ []) ≡ nat_lt (c.in-Some.last.now / 2) (c.args.lit / 2) = rise_behind c.args.self.now c.args.lit c.in-Some.last.now up at in
    let one : c.number.result ≡ c.in-Some.last.now / 2 = c.number.ensures.value ∙ c.var.ensures.value in
    let two : c.number-in-Some.result ≡ c.args.lit / 2 = c.number-in-Some.ensures.value ∙ c.var-in-Some.ensures.value in
    rw (one, two) (sym said)
