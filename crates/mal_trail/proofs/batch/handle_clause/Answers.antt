use Rattle.std.proofs.Common.{◌≡◌, ℕ, ◌≤◌, ◌/◌, nat_le, not, ◌&&◌, true, take, arith, sym}
use Rattle.std.proofs.lemmas.Bool.Decides.{nat_tests}
use Rattle.mal_trail.proofs.FoundLemmas.{and_true, found_passes}
use Rattle.spec_node.specs.Value.{is_false}
use Rattle.mal_trail.proofs.batch.handle_clause.Goals as goal

le_from : (a b : ℕ) → nat_le a b ≡ true → a ≤ b
le_from a b = grind (arith, nat_tests)

pub handle_literal-requires : goal.handle_literal-requires
handle_literal-requires c =
    let prefix = take c.args.count c.args.trail.now.entries in
    let lit = c.in-Some.lit in
    let room = c.args.trail.now.room in
    let passes : (nat_le 1 (lit / 2) && nat_le (lit / 2) room) ≡ true = found_passes (λ (l : ℕ). not (is_false prefix l)) (λ (l : ℕ). nat_le 1 (l / 2) && nat_le (l / 2) room) c.args.lits.now lit c.requires.within (sym c.in-Some.ensures) in
    le_from _ _ (and_true (nat_le 1 (lit / 2)) (nat_le (lit / 2) room) passes).1
