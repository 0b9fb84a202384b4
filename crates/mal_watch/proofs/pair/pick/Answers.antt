use Rattle.std.proofs.Common.{◌≡◌, ◌+◌, ◌++◌, [], ◌∷◌, take, sym, ap, ◌∙◌, ℕ, arith}
use Rattle.std.proofs.lemmas.List.{take_more}
use Rattle.mal_watch.specs.WatchLists.{Has}
use Rattle.mal_watch.proofs.HasLemmas.{has-at}
use Rattle.mal_watch.proofs.pair.pick.Goals as goal

pub loop-lit-init : goal.loop-lit-init
loop-lit-init c =
    let first : Has c.args.lits.now c.index-lits-0.result = has-at c.args.lits.now 0 c.index-lits-0.result c.index-lits-0.result (omega (arith, c.requires.long)) c.index-lits-0.is in
    let second : Has c.args.lits.now c.index-lits-1.result = has-at c.args.lits.now 1 c.index-lits-1.result c.index-lits-1.result (omega (arith, c.requires.long)) c.index-lits-1.is in
    c.of-pair.ensures c.args.trail.now.entries c.args.count c.args.lits.now first second c.open_until.ensures c.open_until-2.ensures

pub loop-lit-preserved : goal.loop-lit-preserved
loop-lit-preserved c =
    let lits = c.args.lits.now in
    let i = c.loop-lit.lit-index in
    let here : Has lits c.lit-item.result = has-at lits i c.lit-item.result c.lit-item.result c.loop-lit-test.true c.lit-item.is in
    let longer : take (i + 1) lits ≡ take i lits ++ c.lit-item.result ∷ [] = take_more lits i c.lit-item.result c.loop-lit-test.true ∙ ap (λ (x : ℕ). take i lits ++ x ∷ []) (sym c.lit-item.is) in
    let best = c.with-pair.ensures c.args.trail.now.entries c.args.count lits (take i lits) here c.open_until-in-loop-lit.ensures c.loop-lit.invariant in
    rw longer best
