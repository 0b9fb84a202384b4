use Rattle.std.proofs.Common.{◌≡◌, ℕ, List, ◌++◌, take, length, ◌∙◌, arith}
use Rattle.std.proofs.Math.Seq.{take-append_seam}
use Rattle.mal_text.proofs.Written.{written_line}
use Rattle.mal_text.proofs.write.append_line.Goals as goal

pub returns-clause-written : goal.returns-clause-written
returns-clause-written c = written_line c.args.out.now.items c.args.first.now c.loop-word.out.items c.end_line.new.out.items c.args.others.now c.loop-word.word-index (omega arith) c.loop-word.invariant c.in_ok-end_line.ensures.written

-- what a text begins with stands in front of what is written after it
kept : (old more now : List ℕ) (n : ℕ) → n ≡ length old → now ≡ old ++ more → take n now ≡ old
kept old more now n is e = rw (is, e) (take-append_seam old more)

pub returns-clause-kept : goal.returns-clause-kept
returns-clause-kept c = kept c.args.out.now.items _ c.end_line.new.out.items _ (omega arith) (returns-clause-written c)

pub returns-in_err-put_word-clause-kept : goal.returns-in_err-put_word-clause-kept
returns-in_err-put_word-clause-kept c = kept c.args.out.now.items _ c.put_word.new.out.items _ (omega arith) (c.in_err-put_word.ensures.unchanged ∙ c.loop-word.invariant)

pub returns-in_err-end_line-clause-kept : goal.returns-in_err-end_line-clause-kept
returns-in_err-end_line-clause-kept c = kept c.args.out.now.items _ c.end_line.new.out.items _ (omega arith) (c.in_err-end_line.ensures.unchanged ∙ c.loop-word.invariant)
