use Rattle.mal_report.specs.declared.told.Cause.{Cause}
use Rattle.mal_report.specs.declared.told.Cause.TheVariants as cause
use Rattle.spec_course.specs.Course as course

-- why an answer is unknown
abbrev pub cause_of : Cause → course.Cause
cause_of (cause.Spent n) = course.Spent n
cause_of cause.Starved = course.Starved
