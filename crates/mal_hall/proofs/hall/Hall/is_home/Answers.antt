use Rattle.mal_hall.proofs.ApplyLemmas.{home-test}
use Rattle.mal_hall.proofs.InsideLemmas.{inside-home}
use Rattle.mal_hall.proofs.hall.Hall.is_home.Goals as goal

pub returns-clause-value : goal.returns-clause-value
returns-clause-value c = rw (← c.self.view_is) (home-test _ _ _ c.self.invariant c.deref.ensures.value c.count_out.ensures.value)

pub returns-clause-inside : goal.returns-clause-inside
returns-clause-inside c = λ test none. inside-home c.args.self.now none (rw (← c.self.view_is) ((home-test _ _ _ c.self.invariant c.deref.ensures.value c.count_out.ensures.value).0 test))
