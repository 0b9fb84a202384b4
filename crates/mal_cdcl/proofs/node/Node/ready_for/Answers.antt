use Rattle.std.proofs.Common.{◌≡◌, [], drop, refl, sym, ap, arith}
use Rattle.mal_cdcl.specs.Within.{NodeWithRoom}
use Rattle.mal_cdcl.specs.Ready.{posted, readied}
use Rattle.mal_cdcl.specs.Importing.{lent, picked}
use Rattle.mal_cdcl.proofs.ImportingLemmas.{importing-begins, importing-here, importing-room, importing-next, importing-ends, importing-ids}
use Rattle.mal_cdcl.proofs.NeedLemmas.{posted-drop, room-head, readying-next, posted-end}
use Rattle.mal_cdcl.proofs.node.Node.ready_for.Goals as goal

pub loop-load-init : goal.loop-load-init
loop-load-init g c =
    record {
      done = rw c.make_room.ensures.state refl;
      new = rw c.make_room.ensures.state c.requires.new;
      room = rw c.as_slice.ensures.value at c.in_ok-make_room.ensures.room;
      fitted = rw c.make_room.ensures.state c.in_ok-make_room.ensures.fitted;
    }

pub load_reserved-requires-clause-new : goal.load_reserved-requires-clause-new
load_reserved-requires-clause-new g c =
    let split = posted-drop c.args.loads.now c.loop-load.load-index c.load-item.result c.load-item.result (omega arith) c.load-item.is in
    (rw split at c.loop-load.invariant).new.0

pub load_reserved-requires-clause-room : goal.load_reserved-requires-clause-room
load_reserved-requires-clause-room g c =
    let split = posted-drop c.args.loads.now c.loop-load.load-index c.load-item.result c.load-item.result (omega arith) c.load-item.is in
    let inv = rw split at c.loop-load.invariant in
    room-head _ _ _ _ c.loop-load.self inv.room

pub loop-load-preserved : goal.loop-load-preserved
loop-load-preserved g c =
    let split = posted-drop c.args.loads.now c.loop-load.load-index c.load-item.result c.load-item.result (omega arith) c.load-item.is in
    let inv = rw split at c.loop-load.invariant in
    readying-next _ _ _ _ _ _ _ c.loop-load.self c.load_reserved.new.self inv c.load_reserved.ensures.state c.load_reserved.ensures.spare

pub loop-pick-init : goal.loop-pick-init
loop-pick-init g c =
    let none : posted (drop c.loop-load.load-index c.args.loads.now) ≡ [] = posted-end c.args.loads.now c.loop-load.load-index (omega arith) in
    let ready = rw none at c.loop-load.invariant in
    let is : c.in_ok-picks.picks.items ≡ picked (lent c.args.imports.now) (readied (posted c.args.loads.now) c.args.self.now.state).clauses = c.in_ok-picks.ensures c.args.self.now.state (sym (ap (λ (s : NodeWithRoom). s.state.clauses) c.self.view_is)) in
    rw c.as_slice-pick-items.ensures.value (importing-begins c.args.steps (posted c.args.loads.now) (lent c.args.imports.now) c.in_ok-picks.picks.items c.args.self.now.state _ c.loop-load.self is c.requires.exported ready)

pub take_pick-requires-clause-new : goal.take_pick-requires-clause-new
take_pick-requires-clause-new g c =
    let left = importing-here c.args.steps c.as_slice-pick-items.result.now c.loop-pick.pick-index c.pick-item.result c.pick-item.result _ _ c.loop-pick.self (omega arith) c.pick-item.is c.loop-pick.invariant in
    rw c.entries.ensures left.new.0

pub take_pick-requires-clause-room : goal.take_pick-requires-clause-room
take_pick-requires-clause-room g c =
    let left = importing-here c.args.steps c.as_slice-pick-items.result.now c.loop-pick.pick-index c.pick-item.result c.pick-item.result _ _ c.loop-pick.self (omega arith) c.pick-item.is c.loop-pick.invariant in
    rw c.entries.ensures (importing-room _ _ _ c.loop-pick.self left.room)

pub loop-pick-preserved : goal.loop-pick-preserved
loop-pick-preserved g c = importing-next c.args.steps c.as_slice-pick-items.result.now c.loop-pick.pick-index c.pick-item.result c.pick-item.result _ _ c.loop-pick.self c.take_pick.new.self (omega arith) c.pick-item.is (rw c.entries.ensures at c.take_pick.ensures.state) (rw c.entries.ensures at c.take_pick.ensures.keeps) c.loop-pick.invariant

pub returns-clause-loaded : goal.returns-clause-loaded
returns-clause-loaded g c = (importing-ends c.args.steps c.as_slice-pick-items.result.now c.loop-pick.pick-index _ _ c.loop-pick.self (omega arith) c.loop-pick.invariant).done

pub returns-clause-stocked : goal.returns-clause-stocked
returns-clause-stocked g c = (importing-ends c.args.steps c.as_slice-pick-items.result.now c.loop-pick.pick-index _ _ c.loop-pick.self (omega arith) c.loop-pick.invariant).room

pub returns-clause-fitted : goal.returns-clause-fitted
returns-clause-fitted g c = (importing-ends c.args.steps c.as_slice-pick-items.result.now c.loop-pick.pick-index _ _ c.loop-pick.self (omega arith) c.loop-pick.invariant).fitted

pub returns-clause-ids : goal.returns-clause-ids
returns-clause-ids g c =
    let is : c.in_ok-picks.picks.items ≡ picked (lent c.args.imports.now) (readied (posted c.args.loads.now) c.args.self.now.state).clauses = c.in_ok-picks.ensures c.args.self.now.state (sym (ap (λ (s : NodeWithRoom). s.state.clauses) c.self.view_is)) in
    let done = (importing-ends c.args.steps c.as_slice-pick-items.result.now c.loop-pick.pick-index _ _ c.loop-pick.self (omega arith) c.loop-pick.invariant).done in
    importing-ids c.args.steps (posted c.args.loads.now) (lent c.args.imports.now) c.in_ok-picks.picks.items c.args.self.now.state c.loop-pick.self.state c.make_room.new.scratch.ids is done (rw c.as_slice.ensures.value at c.in_ok-make_room.ensures.ids)
