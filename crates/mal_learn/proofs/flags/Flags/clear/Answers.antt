use Rattle.std.proofs.Common.{◌∙◌, sym, ap, length, ℕ, false, replicate, eqb}
use Rattle.std.proofs.lemmas.List.{length-map}
use Rattle.mal_learn.proofs.FlagLemmas.{cleared, wiped}
use Rattle.mal_learn.proofs.flags.Flags.clear.Goals as goal

pub returns-then-self : goal.returns-then-self
returns-then-self c = rw (← c.self.view_is) (wiped (length c.self.inside.stamps.items) c.wipe.new.stamps.items c.wipe.ensures ∙ ap (λ (n : ℕ). replicate n false) (sym (length-map c.self.inside.stamps.items (λ s. eqb s c.self.inside.stamp))))

pub returns-else-self : goal.returns-else-self
returns-else-self c = rw (← c.self.view_is) (cleared c.self.inside.stamp c.self.inside.stamps.items c.self.invariant)
