use Rattle.std.proofs.Common.{refl}
use Rattle.std.specs.Fmt.{digits}
use Rattle.spec_live.specs.Examples.{HasExamples}
use Rattle.spec_live.specs.Live.{event_lines, posts_in}

pub examples : HasExamples
unfolding posts_in event_lines digits
examples = record { nothing = refl; posts = refl; asked_anew = refl; first = refl; text = refl; mine = refl; others = refl; none = refl }
