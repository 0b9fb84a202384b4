use Rattle.std.proofs.Common.{◌<◌, ◌≤◌, ℕ, length, arith}
use Rattle.mal_claim.proofs.reading.to_proof.Goals as goal

pub returns-then-is_word_line-clause-shorter : goal.returns-then-is_word_line-clause-shorter
returns-then-is_word_line-clause-shorter c = below (length c.in-Some.after.now) (length c.loop-row.rest.now) (length c.args.text.now) c.in-Some.ensures.shorter c.loop-row.invariant.2
  where
    below : (a b d : ℕ) → a < b → b ≤ d → a ≤ d
    below a b d h k = omega arith
