use Rattle.std.specs.Prelude.{ℕ, ◌≤◌, Bool, ◌&&◌, ℤ, pos, ◌≤ℤ◌, int_le, nat_abs, if◌then◌else◌, Option, Some, None}
use Rattle.mal_base.specs.declared.profile.Profile.{Profile}
use Rattle.mal_base.specs.declared.profile.Profile.TheVariants.{Plain}
use Rattle.mal_base.specs.Limits.{limits}
use Rattle.mal_base.specs.Profiles.{profile_of}

-- what a job asks for
pub record Terms : Type 0 where
  pub priority : ℕ
  pub demand : ℕ
  pub slices : ℕ
  pub profile : Profile

-- the priority is 1 to 1,000, the demand 1 to 64, the slices of a revision 1 to 4,096
pub record IsAsk (t : Terms) : Type 0 where
  pub some_priority : 1 ≤ t.priority
  pub priority_bound : t.priority ≤ limits.priority
  pub some_demand : 1 ≤ t.demand
  pub demand_bound : t.demand ≤ limits.demand
  pub some_slices : 1 ≤ t.slices
  pub slices_bound : t.slices ≤ limits.slices

-- the first three numbers are in those ranges
pub record InRange (priority demand slices : ℤ) : Type 0 where
  pub some_priority : pos 1 ≤ℤ priority
  pub priority_bound : priority ≤ℤ pos limits.priority
  pub some_demand : pos 1 ≤ℤ demand
  pub demand_bound : demand ≤ℤ pos limits.demand
  pub some_slices : pos 1 ≤ℤ slices
  pub slices_bound : slices ≤ℤ pos limits.slices

-- what of its ask a job may change while it runs
pub record Weighed : Type 0 where
  pub priority : ℕ
  pub demand : ℕ

-- the priority is 1 to 1,000, the demand 1 to 64
pub record IsWeight (w : Weighed) : Type 0 where
  pub some_priority : 1 ≤ w.priority
  pub priority_bound : w.priority ≤ limits.priority
  pub some_demand : 1 ≤ w.demand
  pub demand_bound : w.demand ≤ limits.demand

-- these two numbers are in those ranges
pub record IsInWeight (priority demand : ℤ) : Type 0 where
  pub some_priority : pos 1 ≤ℤ priority
  pub priority_bound : priority ≤ℤ pos limits.priority
  pub some_demand : pos 1 ≤ℤ demand
  pub demand_bound : demand ≤ℤ pos limits.demand

-- the ask with this priority and this demand in place of its own
abbrev pub reasked : Terms → Weighed → Terms
reasked t w = record { priority = w.priority; demand = w.demand; slices = t.slices; profile = t.profile }

-- the ask for solvers of this profile
abbrev pub with_profile : Terms → Profile → Terms
with_profile t p = record { priority = t.priority; demand = t.demand; slices = t.slices; profile = p }

-- a number is 1 to this one
abbrev pub is_up_to : ℕ → ℤ → Bool
is_up_to max z = int_le (pos 1) z && int_le z (pos max)

-- the ask of a priority, a demand and slices, for solvers of the first profile; none where one is out of its range
abbrev pub ask_of : ℤ → ℤ → ℤ → Option Terms
ask_of p d s =
    if is_up_to limits.priority p && (is_up_to limits.demand d && is_up_to limits.slices s)
    then Some (record { priority = nat_abs p; demand = nat_abs d; slices = nat_abs s; profile = Plain })
    else None

-- an ask, for solvers of a profile
abbrev pub ask_under : Option Terms → Option Profile → Option Terms
ask_under None profile = None
ask_under (Some ask) None = None
ask_under (Some ask) (Some profile) = Some (with_profile ask profile)

-- the ask of a priority, a demand and slices, for solvers of the profile of a number; none where one is out of its range
abbrev pub ask_of_numbers : ℤ → ℤ → ℤ → ℤ → Option Terms
ask_of_numbers p d s q = ask_under (ask_of p d s) (profile_of q)

-- the weight of a priority and a demand; none where one is out of its range
abbrev pub weight_of : ℤ → ℤ → Option Weighed
weight_of p d =
    if is_up_to limits.priority p && is_up_to limits.demand d
    then Some (record { priority = nat_abs p; demand = nat_abs d })
    else None
