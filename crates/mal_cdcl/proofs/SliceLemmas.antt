use Rattle.std.proofs.Common.{◌≡◌, ℕ, zero, suc, ◌+◌, ◌≤◌, true, false, List, [], ◌∷◌, ◌++◌, length, Option, Some, None, refl, sym, ap, ◌∙◌, append_assoc, append-nil, arith}
use Rattle.mal_base.specs.declared.profile.Profile.{Profile}
use Rattle.mal_base.specs.Profiles.{policy}
use Rattle.mal_base.specs.NumberedClause.{Line}
use Rattle.spec_node.specs.State.{Node}
use Rattle.spec_node.specs.Sound.{IsSound}
use Rattle.spec_search.specs.Step.{case_of, step, next_line}
use Rattle.spec_search.specs.Slice.{Sliced, after_line, steps_from, is_over, used_after}
use Rattle.spec_search.proofs.CountLemmas.{Rise, case-rise}
use Rattle.spec_search.proofs.SliceLemmas.{after_line-node}
use Rattle.spec_search.proofs.SoundLemmas.{step-sound}
use Rattle.spec_search.proofs.ModelLemmas.{step-leaves}
use Rattle.mal_learn.specs.Shown.{Shown}
use Rattle.mal_cdcl.specs.Within.{NodeWithRoom}
use Rattle.mal_cdcl.proofs.HeldCountLemmas.{case-held}
use Rattle.mal_cdcl.specs.Sliced.{HasStepRoom, HasIdRoom, and_line, IsStepped}

steps-next : (k used : ℕ) (n : Node) → is_over used n ≡ false → steps_from (suc k) used n ≡ after_line (next_line n) (steps_from k (used_after used (next_line n)) (step n))
steps-next k used n h = rw h refl

steps-ended : (k used : ℕ) (n : Node) → is_over used n ≡ true → steps_from k used n ≡ record { node = n; lines = [] }
steps-ended zero used n h = refl
steps-ended (suc k) used n h = rw h refl

after_line-lines : (ls : List Line) (o : Option Line) (s : Sliced) → ls ++ (after_line o s).lines ≡ and_line ls o ++ s.lines
after_line-lines ls None s = refl
after_line-lines ls (Some l) s = sym (append_assoc ls (l ∷ []) s.lines)

-- what is left of a slice: so many steps, before which so many literals and hints were derived, give what the whole
-- gives
pub record IsSlicing (left used : ℕ) (start now : NodeWithRoom) : Type 0 where
  pub node : (steps_from left used now.state).node ≡ (steps_from 1000 0 start.state).node
  pub lines : now.lines ++ (steps_from left used now.state).lines ≡ (steps_from 1000 0 start.state).lines
  pub sound : IsSound now.state
  pub room : HasStepRoom left used now
  pub variables : now.state.variables ≡ start.state.variables
  pub serial : now.state.serial + left ≤ start.state.serial + 1000
  pub conflicts_since_restart : now.state.conflicts_since_restart + left ≤ start.state.conflicts_since_restart + 1000
  pub restart_number : now.state.restart_number + left ≤ start.state.restart_number + 1000
  pub conflicts_since_dropping : now.state.conflicts_since_dropping + left ≤ start.state.conflicts_since_dropping + 1000
  pub profile : now.state.profile ≡ start.state.profile
  pub held : length now.state.clauses + left ≤ length start.state.clauses + 1000

pub slicing-next : (k used u : ℕ) (start now next : NodeWithRoom) → IsSlicing (suc k) used start now → IsStepped used now u next → IsSlicing k u start next
slicing-next k used u start now next h s =
    let line : Option Line = next_line now.state in
    let rest : Sliced = steps_from k (used_after used line) (step now.state) in
    let whole : steps_from (suc k) used now.state ≡ after_line line rest = steps-next k used now.state s.on in
    let after : steps_from k u next.state ≡ rest = rw (s.numbers, s.state) refl in
    let rises : Rise 1 now.state (step now.state) = case-rise (case_of now.state) now.state in
    record {
      node = rw after (sym (after_line-node line rest) ∙ (sym (ap (λ (x : Sliced). x.node) whole) ∙ h.node));
      lines = rw (after, s.lines) (sym (after_line-lines now.lines line rest) ∙ (sym (ap (λ (x : Sliced). now.lines ++ x.lines) whole) ∙ h.lines));
      sound = rw s.state (step-sound now.state h.sound);
      room = s.room k h.room;
      variables = ap (λ (n : Node). n.variables) s.state ∙ ((step-leaves now.state).variables ∙ h.variables);
      serial = rw s.state (omega (arith, rises.serial, h.serial));
      conflicts_since_restart = rw s.state (omega (arith, rises.conflicts_since_restart, h.conflicts_since_restart));
      restart_number = rw s.state (omega (arith, rises.restart_number, h.restart_number));
      conflicts_since_dropping = rw s.state (omega (arith, rises.conflicts_since_dropping, h.conflicts_since_dropping));
      profile = ap (λ (n : Node). n.profile) s.state ∙ ((step-leaves now.state).profile ∙ h.profile);
      held = rw s.state (omega (arith, case-held (case_of now.state) now.state, h.held));
    }

-- the scratch has room for the numbers of all clauses held in it
pub slicing-ids : (left used : ℕ) (start now : NodeWithRoom) (before after : Shown) → IsSlicing left used start now → after.ids ≡ before.ids → HasIdRoom 1000 start.state before → HasIdRoom 0 now.state after
slicing-ids left used start now before after h same room reduces = omega (arith, h.held, same, room (λ never. reduces (ap (λ (p : Profile). (policy p).reduction) h.profile ∙ never)))

-- where a slice is over, or no step is left, it was made
pub record HasRun (start now : NodeWithRoom) : Type 0 where
  pub node : now.state ≡ (steps_from 1000 0 start.state).node
  pub lines : now.lines ≡ (steps_from 1000 0 start.state).lines

pub slicing-over : (k used : ℕ) (start now : NodeWithRoom) → is_over used now.state ≡ true → IsSlicing k used start now → HasRun start now
slicing-over k used start now o h =
    let none = steps-ended k used now.state o in
    record {
      node = sym (ap (λ (x : Sliced). x.node) none) ∙ h.node;
      lines = sym (append-nil now.lines) ∙ (sym (ap (λ (x : Sliced). now.lines ++ x.lines) none) ∙ h.lines);
    }

pub slicing-ends : (used : ℕ) (start now : NodeWithRoom) → IsSlicing 0 used start now → HasRun start now
slicing-ends used start now h = record { node = h.node; lines = sym (append-nil now.lines) ∙ h.lines }

pub slicing-done : (left used : ℕ) (start now : NodeWithRoom) → left ≡ 0 → IsSlicing left used start now → HasRun start now
slicing-done left used start now e h = slicing-ends used start now (rw e at h)
