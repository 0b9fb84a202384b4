use Rattle.std.proofs.Common.{refl}
use Rattle.spec_logic.specs.Examples.{HasExamples, HasDerivations, HasRefusals, HasGoals, HasRefutations}

pub examples : HasExamples
examples = record { second_true = refl; both_false = refl; past_end = refl; tautology = refl; empty_clause = refl; assumed = refl; contradicted = refl }

pub derivations : HasDerivations
derivations = record { unit = refl; behind = refl; missing = refl; two_left = refl; passed_over = refl; no_hints = refl; tautology = refl; tautology_hint = refl }

pub refusals : HasRefusals
refusals = record { id_used = refl; unknown = refl; not_unit = refl; no_contradiction = refl; deleted = refl; not_held = refl }

pub goals : HasGoals
goals = record { empty_clause = refl; negated = refl; same_sign = refl; one_other = refl; tautology = refl }

pub refutations : HasRefutations
refutations = record { empty = record { proof = (refl, (refl, (refl, tt))); goal = refl }; assumed = record { proof = (refl, (refl, tt)); goal = refl } }
