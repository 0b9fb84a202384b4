-- What the checker's answers say.
use Rattle.std.specs.Prelude.{◌≡◌, Option, Some, None, Result, Ok, Err}
use Rattle.spec_logic.specs.Derivation as logic
use Rattle.spec_logic.specs.Derivation.{Derivation}
use Rattle.spec_logic.specs.Derivation.Effect.{Passes, Makes, Conflicts, LeavesMore}
use Rattle.spec_logic.specs.Derivation.Derivation.{Derived, Unknown, NotUnit, Unfinished}
use Rattle.spec_logic.specs.Refutation.{Refusal}
use Rattle.spec_logic.specs.Refutation.Refusal.{IdUsed, UnknownHint, HintNotUnit, NoContradiction}
use Rattle.mal_check.specs.declared.effect.Effect.{Effect}
use Rattle.mal_check.specs.declared.effect.Effect.TheVariants as effect
use Rattle.mal_check.specs.declared.fault.CheckFault.{CheckFault}
use Rattle.mal_check.specs.declared.fault.CheckFault.TheVariants as fault

abbrev pub effect_seen : Effect → logic.Effect
effect_seen effect.Passes = Passes
effect_seen (effect.Makes lit) = Makes lit
effect_seen effect.Conflicts = Conflicts
effect_seen effect.LeavesMore = LeavesMore

-- an answer other than out of memory is this end of the hints
abbrev pub Stops : CheckFault → Derivation → Type 0
Stops (fault.IdUsed id) end = ⊥
Stops (fault.UnknownHint id) end = end ≡ Unknown id
Stops (fault.HintNotUnit id) end = end ≡ NotUnit id
Stops fault.NoContradiction end = end ≡ Unfinished
Stops fault.OutOfMemory end = Unit {0}

abbrev pub Ends : {X : Type 0} → Result X CheckFault → Derivation → Type 0
Ends (Ok x) end = end ≡ Derived
Ends (Err e) end = Stops e end

-- an answer other than out of memory is this refusal
abbrev pub Refuses : CheckFault → Option Refusal → Type 0
Refuses (fault.IdUsed id) refusal = refusal ≡ Some (IdUsed id)
Refuses (fault.UnknownHint id) refusal = refusal ≡ Some (UnknownHint id)
Refuses (fault.HintNotUnit id) refusal = refusal ≡ Some (HintNotUnit id)
Refuses fault.NoContradiction refusal = refusal ≡ Some NoContradiction
Refuses fault.OutOfMemory refusal = Unit {0}

abbrev pub Answers : {X : Type 0} → Result X CheckFault → Option Refusal → Type 0
Answers (Ok x) refusal = refusal ≡ None
Answers (Err e) refusal = Refuses e refusal
