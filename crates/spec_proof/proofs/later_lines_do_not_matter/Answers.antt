use Rattle.spec_proof.proofs.Staying.{later-lines, closed-grows}
use Rattle.spec_proof.proofs.later_lines_do_not_matter.Goals as goal

pub returns-clause-later : goal.returns-clause-later
returns-clause-later c = later-lines

pub returns-clause-closed : goal.returns-clause-closed
returns-clause-closed c = closed-grows
