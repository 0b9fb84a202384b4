use Rattle.std.proofs.Common.{rules, List, subst, sym}
use Rattle.std.proofs.lemmas.Fn.{filter_same}
use Rattle.mal_marks.specs.declared.mark.Mark.{Mark}
use Rattle.mal_marks.specs.Marked.{MarksRise, stays}
use Rattle.mal_marks.proofs.MarkLemmas.{rise-filter}
use Rattle.mal_marks.proofs.search.take_away.Goals as goal

pub returns-clause-items : goal.returns-clause-items
returns-clause-items c = filter_same _ (stays c.args.ids.now) _ (λ x b f t. search rules) c.args.marks.now.items c.retain.new.self.items c.retain.ensures.filtered

pub returns-clause-rising : goal.returns-clause-rising
returns-clause-rising c = subst (λ (ms : List Mark). MarksRise 1 ms) (sym (returns-clause-items c)) (rise-filter (stays c.args.ids.now) 1 c.args.marks.now.items c.requires.rising)
