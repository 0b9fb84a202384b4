-- What is counted of the jobs of a hall.
use Rattle.std.specs.Prelude.{◌≡◌, ℕ, ◌+◌, ◌<◌, ◌≤◌, ◌^◌, Bool, false, ◌&&◌, not, List, count_by, if◌then◌else◌}
use Rattle.spec_hall.specs.Seats.{Seat, has_changed, is_live_seat}
use Rattle.mal_seats.specs.Filled.{filled_in}
use Rattle.mal_seats.specs.declared.counts.Counts.{Counts}
use Rattle.mal_seats.specs.declared.counts.Marks.{Marks}

-- what counts
abbrev pub one : Bool → ℕ
one b = if b then 1 else 0

-- whether a job is not closed, or not answered
abbrev pub is_unfinished : Seat → Bool
is_unfinished s = not (s.job.titled.state.closed && not (is_live_seat s))

-- what is counted of a job
abbrev pub marks_of : Seat → Marks
marks_of s = record { changed = has_changed s; unfinished = is_unfinished s }

-- the marks of what is not counted
abbrev pub no_marks : Marks
no_marks = record { changed = false; unfinished = false }

-- how many jobs were changed so that a balancing is due, how many are not closed or not answered, and which have a
-- volume
pub record AreCounted (seats : List Seat) (counts : Counts) (filled : List ℕ) : Type 0 where
  pub changed_is : counts.changed ≡ count_by has_changed seats
  pub unfinished_is : counts.unfinished ≡ count_by is_unfinished seats
  pub filled_is : filled ≡ filled_in seats

-- a job with these marks is counted, and there is room to count one more
pub record IsAmong (marks : Marks) (counts : Counts) : Type 0 where
  pub changed : one marks.changed ≤ counts.changed
  pub unfinished : one marks.unfinished ≤ counts.unfinished
  pub changed_room : counts.changed < 2 ^ 63
  pub unfinished_room : counts.unfinished < 2 ^ 63

-- one of the jobs that are counted had the first marks, and now has the others
pub record AreRecounted (before after : Marks) (counts now : Counts) : Type 0 where
  pub changed : now.changed + one before.changed ≡ counts.changed + one after.changed
  pub unfinished : now.unfinished + one before.unfinished ≡ counts.unfinished + one after.unfinished
