use Rattle.std.proofs.Common.{◌≡◌, ℕ, List, [], replicate, sym, ◌∙◌, ap, subst, arith}
use Rattle.std.specs.List.{All}
use Rattle.std.proofs.lemmas.List.Elements.{All-push}
use Rattle.mal_hall.specs.HallView.{HallView}
use Rattle.spec_hall.specs.Events.{Event}
use Rattle.mal_cluster.specs.Kept.{histories}
use Rattle.mal_cluster.proofs.FindingLemmas.{empty-more}
use Rattle.mal_cluster.proofs.cluster.new_halls.Goals as goal

pub loop-init : goal.loop-init
loop-init c = record {
  each = subst (λ (hs : List HallView). All (λ h. h.workers ≡ c.args.workers) hs) (sym c.new-made.ensures.items) (λ k d low. absurd (omega (arith, low)));
  events = ap histories c.new-made.ensures.items;
}

pub loop-preserved : goal.loop-preserved
loop-preserved c = record {
  each = subst (λ (hs : List HallView). All (λ h. h.workers ≡ c.args.workers) hs) (sym c.in_ok-push.ensures.items) (All-push (λ (h : HallView). h.workers ≡ c.args.workers) c.loop.made.items c.in_ok-hall.hall c.loop.invariant.each c.in_ok-hall.ensures.workers);
  events = empty-more c.loop.counter c.loop.made.items c.push.new.self.items c.in_ok-hall.hall c.loop.invariant.events c.in_ok-hall.ensures.events c.in_ok-push.ensures.items;
}

pub returns-clause-each : goal.returns-clause-each
returns-clause-each c = c.loop.invariant.each

pub returns-clause-events : goal.returns-clause-events
returns-clause-events c =
    let all : c.loop.counter ≡ c.args.halls = omega arith in
    c.loop.invariant.events ∙ ap (λ (n : ℕ). let hs : List (List Event) = replicate n [] in hs) all
