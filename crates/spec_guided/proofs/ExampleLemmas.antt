use Rattle.std.proofs.Common.{refl}
use Rattle.spec_learn.specs.Learning.{analysed_in}
use Rattle.spec_guided.specs.Examples.{HasPieces, HasExamples, HasSearch}

pub examples : HasExamples
unfolding analysed_in
examples = record { lines = refl; verdict = refl; not_before = refl; scores = refl; gain = refl; marks = refl }

pub pieces : HasPieces
unfolding analysed_in
pieces = record { three_levels = refl; unites = refl; unit_line = refl; new_reason = refl; kept_for_good = refl; then_decides = refl; reduces = refl; less_active = refl; fewer_marks = refl; greatest_score = refl; one_level = refl; all_levels = refl }

pub search : HasSearch
unfolding analysed_in
search = record { lines = refl; verdict = refl; not_before = refl }
