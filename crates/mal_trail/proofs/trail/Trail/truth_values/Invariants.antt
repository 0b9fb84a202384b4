use Rattle.std.proofs.Common.{◌≡◌, ℕ, ◌+◌, ◌-◌, ◌≤◌, ◌++◌, map, true, Bool, vec_len, vec_capacity}
use Rattle.mal_base.specs.Literals.{literal}
use Rattle.spec_node.specs.Load.{counted}
use Rattle.spec_node.specs.Value.{is_true}
use Rattle.mal_trail.proofs.trail.Trail.truth_values.Given as goal

abbrev pub invariant-loop-place : goal.invariant-loop-place
invariant-loop-place l =
    let f : ℕ → Bool = λ v. is_true l.self.entries (literal v true) in
    record {
      done : l.values.items ++ map f (counted (1 + l.place) (l.variables - l.place)) ≡ map f (counted 1 l.variables);
      len : vec_len l.values ≡ l.place;
      room : l.variables ≤ vec_capacity l.values;
    }
