use Rattle.mal_hall.proofs.MovingLemmas.{hall-go}
use Rattle.mal_hall.proofs.Parts.{parts}
use Rattle.mal_hall.proofs.hall.Hall.parcel_of.Goals as goal

pub brought_by-requires : goal.brought_by-requires
brought_by-requires c = (hall-go (parts c.self.inside) c.args.job.now.titled.key c.args.job.now.titled c.self.invariant (rw (← c.self.view_is) at c.requires.there) c.requires.home).volume

pub packed-requires-clause-lawful : goal.packed-requires-clause-lawful
packed-requires-clause-lawful c = rw c.in_ok-own.ensures (hall-go (parts c.self.inside) c.args.job.now.titled.key c.args.job.now.titled c.self.invariant (rw (← c.self.view_is) at c.requires.there) c.requires.home).lawful

pub packed-requires-clause-home : goal.packed-requires-clause-home
packed-requires-clause-home c = (hall-go (parts c.self.inside) c.args.job.now.titled.key c.args.job.now.titled c.self.invariant (rw (← c.self.view_is) at c.requires.there) c.requires.home).home

pub packed-requires-clause-state : goal.packed-requires-clause-state
packed-requires-clause-state c = rw c.in_ok-own.ensures (hall-go (parts c.self.inside) c.args.job.now.titled.key c.args.job.now.titled c.self.invariant (rw (← c.self.view_is) at c.requires.there) c.requires.home).state

pub returns-in_err-own-clause-may : goal.returns-in_err-own-clause-may
returns-in_err-own-clause-may c = rw (← c.self.view_is) (hall-go (parts c.self.inside) c.args.job.now.titled.key c.args.job.now.titled c.self.invariant (rw (← c.self.view_is) at c.requires.there) c.requires.home).may

pub returns-clause-may : goal.returns-clause-may
returns-clause-may c = rw (← c.self.view_is) (hall-go (parts c.self.inside) c.args.job.now.titled.key c.args.job.now.titled c.self.invariant (rw (← c.self.view_is) at c.requires.there) c.requires.home).may
