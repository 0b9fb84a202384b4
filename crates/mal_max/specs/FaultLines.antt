-- The lines that tell why a text is no instance.
use Rattle.std.specs.Prelude.{ℕ, List, codes}
use Rattle.mal_instance.specs.Reading.{Fault}
use Rattle.mal_instance.specs.FaultLines as lits

-- the line that tells a fault
abbrev pub fault_line : Fault → List ℕ
fault_line fault = lits.fault_line (codes "soft") (codes "Softs") fault
