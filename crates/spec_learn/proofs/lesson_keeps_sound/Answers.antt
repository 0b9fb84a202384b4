use Rattle.spec_learn.proofs.LessonLemmas.{lesson-asserts, lesson-sound}
use Rattle.spec_learn.proofs.ProfileLemmas.{learned-lesson, learned-taught, learns-by_profile}
use Rattle.spec_learn.proofs.lesson_keeps_sound.Goals as goal

pub returns : goal.returns
returns c = record { asserts = lesson-asserts; sound = lesson-sound; learned = learned-lesson; taught = learned-taught; by_profile = learns-by_profile }
