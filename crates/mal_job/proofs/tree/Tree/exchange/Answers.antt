use Rattle.std.proofs.Common.{◌≡◌, List, length, map, take, [], ◌∷◌, ◌++◌, ◌∙◌, ap}
use Rattle.std.specs.Arc.{arc_value}
use Rattle.spec_exchange.specs.Exchange.{broadcast}
use Rattle.spec_job.specs.SoloMachine.{exports_from}
use Rattle.mal_job.specs.Viewed.{PlaceView, TreeView, shared, place_of}
use Rattle.mal_job.proofs.TreeLemmas.{tree-exchanged, exchanged-is, shared-push}
use Rattle.mal_job.proofs.tree.Tree.exchange.Goals as goal

pub invariant_of-self-2 : goal.invariant_of-self-2
invariant_of-self-2 c =
    let t : TreeView = record { number = c.self.inside.number; profile = c.self.inside.profile; volume = c.self.inside.volume; places = c.self.inside.places.items; broadcasts = shared c.self.inside.broadcasts.items; ran = c.self.inside.ran } in
    tree-exchanged t c.self.inside.volume c.count.result (shared c.push.new.self.items) c.move_marks.new.places.items c.move_marks.ensures c.self.invariant

pub returns-clause-ok : goal.returns-clause-ok
returns-clause-ok c =
    let t : TreeView = record { number = c.self.inside.number; profile = c.self.inside.profile; volume = c.self.inside.volume; places = c.self.inside.places.items; broadcasts = shared c.self.inside.broadcasts.items; ran = c.self.inside.ran } in
    let now : shared c.push.new.self.items ≡ shared c.self.inside.broadcasts.items ++ arc_value c.in_ok-broadcast.broadcast ∷ [] = ap shared c.in_ok-push.ensures.items ∙ shared-push c.self.inside.broadcasts.items c.in_ok-broadcast.broadcast in
    let all : c.in_ok-exported.exported ≡ broadcast (exports_from (length (take c.self.inside.volume c.self.inside.places.items)) c.args.log.now.lines 0 (map place_of (take c.self.inside.volume c.self.inside.places.items))) = c.in_ok-exported.ensures ∙ ap (λ (ps : List PlaceView). broadcast (exports_from (length (take c.self.inside.volume ps)) c.args.log.now.lines 0 (map place_of (take c.self.inside.volume ps)))) c.deref.ensures.value in
    rw (← c.self.view_is) (exchanged-is t c.args.log.now.lines c.move_marks.new.places.items (shared c.push.new.self.items) (arc_value c.in_ok-broadcast.broadcast) c.count.result c.move_marks.ensures c.count.ensures.value now (c.in_ok-broadcast.ensures.ok ∙ all) (rw (← c.self.view_is) at c.requires.volume))

pub returns-clause-kept : goal.returns-clause-kept
returns-clause-kept c = invariant_of-self-2 c
