use Rattle.std.proofs.Common.{refl, arith}
use Rattle.spec_seq.specs.Luby.{luby}
use Rattle.spec_learn.specs.Learning.{analysed_in}
use Rattle.spec_search.specs.Slice.{slice}
use Rattle.spec_job.specs.Examples.{HasExamples, HasExchanges, HasReasked, HasRefutations, HasRunnable}

pub examples : HasExamples
unfolding luby slice analysed_in
examples = record { answered = refl; whole = refl; second_node = refl; budget_spent = refl; budget_left = refl; budget_counts = refl; starved_thrice = refl; lost_counts_nothing = refl; journal = refl; may_start = refl; not_above_volume = refl; not_while_out = refl; not_past_budget = refl; not_when_answered = refl }

pub refutations : HasRefutations
unfolding luby slice analysed_in
refutations = record { refuted_at_once = refl; one_line = refl; numbered = refl; none_failed = refl; two_lines = refl; answered_at_once = refl; after_both = refl; both_refuted = refl; both_failed = refl; core = refl; not_settled = refl }

pub exchanges : HasExchanges
unfolding luby slice analysed_in
exchanges = record { not_due = refl; ran = refl; broadcast = refl; ran_after = refl; moved = refl; moved_too = refl; above_volume = refl; while_out = refl; not_while_out = refl; once = refl; own = refl; other = refl; imported = refl; serial = refl; line_after = refl }

pub reasked : HasReasked
unfolding luby slice analysed_in
reasked = record { changed = refl; rest = refl; twice = refl; before = refl; while_out = refl }

pub runnable : HasRunnable
unfolding luby slice analysed_in
runnable = record {
  two = (refl, (record { posted = refl; room = omega arith }, (tt, (refl, (tt, (record { posted = refl; room = omega arith }, (tt, (refl, (refl, (tt, (tt, tt)))))))))));
  one = record { runnable = (refl, (record { posted = refl; room = omega arith }, (tt, (tt, (refl, (tt, tt)))))); single = refl };
  reasked = record { runnable = (refl, (record { posted = refl; room = omega arith }, (tt, (tt, (refl, (tt, (tt, tt))))))); single = refl };
  not_single = refl;
  once = record { runnable = (refl, (record { posted = refl; room = omega arith }, (tt, (refl, (tt, tt))))); once = refl };
}
