use Rattle.mal_base.proofs.LinesLemmas.{lines-push}
use Rattle.mal_base.proofs.lines.Lines.push_reserved.Goals as goal

pub returns-clause-lines : goal.returns-clause-lines
returns-clause-lines c =
    let lits = c.push_all-lits.ensures in
    let hints = c.push_all-hints.ensures in
    rw (lits.items, hints.items, c.push_reserved.ensures.items, ← c.self.view_is)
    (lines-push c.self.inside.lits.items c.self.inside.hints.items c.args.lits.now c.args.hints.now c.self.inside.heads.items _ c.self.invariant
    lits.start (rw (← lits.items) lits.end) hints.start (rw (← hints.items) hints.end))
