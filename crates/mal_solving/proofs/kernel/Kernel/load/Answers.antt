use Rattle.std.proofs.Common.{◌≡◌, ℕ, ◌+◌, ◌≤◌, ◌^◌, List, ◌++◌, length, Option, refl, sym, ◌∙◌, ap, subst, arith, length-append}
use Rattle.mal_revision.specs.Posted.{Posted}
use Rattle.spec_node.specs.State.{Node}
use Rattle.spec_node.specs.Load.{loaded}
use Rattle.spec_node.specs.Laws.{AreNewNumbers}
use Rattle.spec_solving.specs.Holding.{all_given_up}
use Rattle.spec_solving.proofs.ServingLemmas.{load-new, load-serves, give-up-serves, all-given-up-rest}
use Rattle.mal_solving.specs.Loaded.{IsLoaded, given_clauses, lines_kept}
use Rattle.mal_solving.proofs.kernel.Kernel.load.Goals as goal

pub ready-requires-clause-new : goal.ready-requires-clause-new
ready-requires-clause-new c =
    let i = c.self.invariant in
    let r : Posted = c.args.revision.now in
    let len : c.len.result ≡ length r.clauses = c.len.ensures ∙ ap (λ (cs : List (Option (List ℕ))). length cs) c.clauses.ensures.value in
    let low : length (given_clauses c.self.inside.given) + length r.clauses + 1 ≤ 2 ^ 32 = omega (arith, i.counted, len, c.in_ok-count.ensures) in
    let same : 1 + length (given_clauses c.self.inside.given) ≡ c.self.inside.count + 1 = omega (arith, i.counted) in
    (subst (λ (k : ℕ). AreNewNumbers r k c.self.inside.node.state) same (load-new (given_clauses c.self.inside.given) i.log r c.self.inside.node.state i.serves low).new, tt)

pub invariant_of-self-2 : goal.invariant_of-self-2
invariant_of-self-2 c =
    let i = c.self.invariant in
    let r : Posted = c.args.revision.now in
    let before : List (Option (List ℕ)) = given_clauses c.self.inside.given in
    let len : c.len.result ≡ length r.clauses = c.len.ensures ∙ ap (λ (cs : List (Option (List ℕ))). length cs) c.clauses.ensures.value in
    let low : length before + length r.clauses + 1 ≤ 2 ^ 32 = omega (arith, i.counted, len, c.in_ok-count.ensures) in
    let same : 1 + length before ≡ c.self.inside.count + 1 = omega (arith, i.counted) in
    let given : given_clauses c.with_revision.result ≡ before ++ r.clauses = c.with_revision.ensures in
    let readied : c.ready.new.self.state ≡ loaded r (1 + length before) c.self.inside.node.state = c.in_ok-ready.ensures.loaded ∙ ap (λ (k : ℕ). loaded r k c.self.inside.node.state) (sym same) in
    let node : c.give_up_many.new.node.state ≡ all_given_up c.give_up_many.ensures.ids (loaded r (1 + length before) c.self.inside.node.state) = c.give_up_many.ensures.is ∙ ap (λ (n : Node). all_given_up c.give_up_many.ensures.ids n) readied in
    let sum : length (before ++ r.clauses) ≡ length before + length r.clauses = length-append before r.clauses in
    subst (λ (cs : List (Option (List ℕ))). IsLoaded c.in_ok-count.count (record { clauses = cs; node = c.give_up_many.new.node.state; kept = lines_kept c.self.inside.log })) (sym given)
    (subst (λ (n : Node). IsLoaded c.in_ok-count.count (record { clauses = before ++ r.clauses; node = n; kept = lines_kept c.self.inside.log })) (sym node)
    (record { log = i.log; serves = give-up-serves (before ++ r.clauses) i.log c.give_up_many.ensures.ids (loaded r (1 + length before) c.self.inside.node.state) refl refl (load-serves before i.log r c.self.inside.node.state c.clauses.ensures.form low i.serves); counted = omega (arith, i.counted, sum, len, c.in_ok-count.ensures); same = i.same }))

pub returns-clause-assumed : goal.returns-clause-assumed
returns-clause-assumed c =
    ap (λ (n : Node). n.assumptions) c.give_up_many.ensures.is ∙ (all-given-up-rest (λ (n : Node). n.assumptions) (λ n cs. refl) c.give_up_many.ensures.ids c.ready.new.self.state ∙ ap (λ (n : Node). n.assumptions) c.in_ok-ready.ensures.loaded)

pub returns-clause-calm : goal.returns-clause-calm
returns-clause-calm c =
    ap (λ (n : Node). n.verdict) c.give_up_many.ensures.is ∙ (all-given-up-rest (λ (n : Node). n.verdict) (λ n cs. refl) c.give_up_many.ensures.ids c.ready.new.self.state ∙ ap (λ (n : Node). n.verdict) c.in_ok-ready.ensures.loaded)
