use Rattle.std.proofs.Common.{◌≡◌, ◌≤◌, length, true, false, sym, ◌∙◌, arith}
use Rattle.std.proofs.lemmas.List.{take_all}
use Rattle.mal_base.specs.Literals.{literal}
use Rattle.spec_node.specs.Value.{is_true}
use Rattle.mal_trail.proofs.PlaceLemmas.{none-has, not-both, value-sign, value-none}
use Rattle.mal_trail.proofs.trail.Trail.value.Goals as goal

pub returns-then-is_true_before : goal.returns-then-is_true_before
returns-then-is_true_before c =
    let t = c.self.inside in
    let all : length t.entries.items ≤ c.len-count.result = omega (arith, c.len-count.ensures) in
    let plus : is_true t.entries.items (literal c.args.var true) ≡ true = rw (← c.self.view_is, c.literal.ensures, take_all c.len-count.result t.entries.items all) at (sym c.is_true_before.ensures ∙ c.if-is_true_before.true) in
    rw (← c.self.view_is) (sym (value-sign t.entries.items c.args.var true plus (not-both t.entries.items c.args.var c.self.invariant.fits.distinct plus)))

pub returns-then-is_true_before-2 : goal.returns-then-is_true_before-2
returns-then-is_true_before-2 c =
    let t = c.self.inside in
    let all : length t.entries.items ≤ c.len-count.result = omega (arith, c.len-count.ensures) in
    let plus : is_true t.entries.items (literal c.args.var true) ≡ false = rw (← c.self.view_is, c.literal.ensures, take_all c.len-count.result t.entries.items all) at (sym c.is_true_before.ensures ∙ c.if-is_true_before.false) in
    let minus : is_true t.entries.items (literal c.args.var false) ≡ true = rw (← c.self.view_is, c.literal-2.ensures, take_all c.len-count.result t.entries.items all) at (sym c.is_true_before-2.ensures ∙ c.if-is_true_before-2.true) in
    rw (← c.self.view_is) (sym (value-sign t.entries.items c.args.var false minus plus))

pub returns : goal.returns
returns c =
    let t = c.self.inside in
    let all : length t.entries.items ≤ c.len-count.result = omega (arith, c.len-count.ensures) in
    let plus : is_true t.entries.items (literal c.args.var true) ≡ false = rw (← c.self.view_is, c.literal.ensures, take_all c.len-count.result t.entries.items all) at (sym c.is_true_before.ensures ∙ c.if-is_true_before.false) in
    let minus : is_true t.entries.items (literal c.args.var false) ≡ false = rw (← c.self.view_is, c.literal-2.ensures, take_all c.len-count.result t.entries.items all) at (sym c.is_true_before-2.ensures ∙ c.if-is_true_before-2.false) in
    rw (← c.self.view_is) (sym (value-none t.entries.items c.args.var (none-has t.entries.items c.args.var plus minus)))
