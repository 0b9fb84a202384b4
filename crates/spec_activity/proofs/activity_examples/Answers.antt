use Rattle.std.proofs.Common.{refl}
use Rattle.spec_activity.proofs.activity_examples.Goals as goal

pub returns : goal.returns
returns c =
    record {
      one_is = refl;
      carries = refl;
      nothing_more = refl;
      shifted = refl;
      lost = refl;
      carries_odd = refl;
      grows = refl;
      grows_over = refl;
      out_of_form = refl;
      up = refl;
      down = refl;
      first_conflict = refl;
      limit_rises = refl;
      restarts = refl;
      too_early = refl;
      restarted = refl;
      few_clauses = refl;
      some_clauses = refl;
      many_clauses = refl;
      loaded = refl;
      more_active = refl;
      by_tie = refl;
      by_number = refl;
      not_itself = refl;
    }
