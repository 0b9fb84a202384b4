use Rattle.mal_proof.proofs.Keeping.{kept-push}
use Rattle.mal_proof.proofs.log.Log.append_reserved.Goals as goal

pub invariant_of-self : goal.invariant_of-self
invariant_of-self c =
    let ensures = c.push_reserved.ensures in
    let room = rw (← c.self.view_is) at c.requires.room in
    let numbers = rw (← c.self.view_is) at c.requires.number_room in
    let fresh = rw (← c.self.view_is) at c.requires.fresh in
    kept-push c.self.inside.full.items c.self.inside.last c.push_reserved.new.self c.self.inside.count c.self.inside.room c.self.inside.number_room _ c.self.invariant
    room numbers fresh c.requires.above
    ensures.lines ensures.less ensures.less_lits ensures.less_hints
