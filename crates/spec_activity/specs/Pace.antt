-- When a search restarts and when it reduces its learned clauses. It counts conflicts, and keeps two averages of the glue
-- (the number of levels) of what it learns: a fast and a slow one.
use Rattle.std.specs.Prelude.{ℕ, ◌+◌, ◌-◌, ◌*◌, ◌/◌, ◌==◌, ◌&&◌, nat_lt, nat_le, min, max, Bool, if◌then◌else◌}
use Rattle.spec_activity.specs.Activity.{unit}

-- conflicts ever, and since the last restart; the averages of the glue, times the unit; how many clauses stay at a
-- reduction, by how many conflicts that limit rises next, and at which conflict
pub record Pace : Type 0 where
  pub conflicts : ℕ
  pub since : ℕ
  pub fast : ℕ
  pub slow : ℕ
  pub limit : ℕ
  pub adjust : ℕ
  pub next : ℕ

abbrev pub at_first : Pace
at_first = record { conflicts = 0; since = 0; fast = 0; slow = 0; limit = 100; adjust = 100; next = 100 }

-- from a towards x by an nth of the distance
abbrev pub toward : ℕ → ℕ → ℕ → ℕ
toward a x n = if nat_le a x then a + (x - a) / n else a - (a - x) / n

-- the fast average after a conflict, of so many with it
abbrev pub fast_after : ℕ → ℕ → ℕ → ℕ
fast_after conflicts x fast = if conflicts == 1 then x else toward fast x 32

-- the slow one
abbrev pub slow_after : ℕ → ℕ → ℕ → ℕ
slow_after conflicts x slow = toward slow x (min conflicts 8192)

-- after a conflict of which a clause with this glue is learned
abbrev pub counted : ℕ → Pace → Pace
counted glue p =
    record p {
      conflicts = p.conflicts + 1;
      since = p.since + 1;
      fast = fast_after (p.conflicts + 1) (glue * unit) p.fast;
      slow = slow_after (p.conflicts + 1) (glue * unit) p.slow;
    }

-- more clauses stay, and it takes longer until the next rise
abbrev pub eased : Pace → Pace
eased p =
    record p {
      limit = p.limit + p.limit / 10;
      adjust = p.adjust + p.adjust / 2;
      next = p.next + (p.adjust + p.adjust / 2);
    }

-- the limit rises where it is time
abbrev pub eased_in_time : Pace → Pace
eased_in_time p = if nat_le p.next p.conflicts then eased p else p

abbrev pub after_conflict : ℕ → Pace → Pace
after_conflict glue p = eased_in_time (counted glue p)

-- what was learned lately has more levels than what was learned all along, by a tenth and more
abbrev pub is_restart_due : Pace → Bool
is_restart_due p = nat_le 2 p.since && nat_lt (p.slow * 110) (p.fast * 100)

abbrev pub after_restart : Pace → Pace
after_restart p = record p { since = 0 }

-- a third of so many original clauses, from 100 to 100,000
abbrev pub limit_for : ℕ → ℕ
limit_for originals = min (max (originals / 3) 100) 100000

-- after a load that leaves so many original clauses
abbrev pub after_load : ℕ → Pace → Pace
after_load originals p = record p { limit = max p.limit (limit_for originals) }
