use Rattle.std.proofs.Common.{sym, ◌∙◌}
use Rattle.mal_marks.proofs.MarkLemmas.{activity-under, activity-none}
use Rattle.mal_marks.proofs.marks.Marks.activity.Goals as goal

pub returns-in-None : goal.returns-in-None
returns-in-None c = c.none.ensures ∙ sym (activity-none c.args.id c.args.self.now.items c.in-None.ensures)

pub returns-in-Some : goal.returns-in-Some
returns-in-Some c = sym (activity-under c.args.id c.args.self.now.items c.in-Some.mark.now c.in-Some.ensures)
