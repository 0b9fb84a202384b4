use Rattle.std.proofs.Common.{◌≡◌, flat_map, arith}
use Rattle.std.specs.List.{All}
use Rattle.std.proofs.lemmas.List.Sorted.{All-permutation}
use Rattle.std.proofs.lemmas.Result.{IfOk-weaker}
use Rattle.mal_pool.specs.Posts.{replies_at}
use Rattle.mal_pool.specs.declared.answering.Made.{Made}
use Rattle.mal_pool.proofs.PoolLemmas.{all-in}
use Rattle.mal_pool.proofs.answering.made_by.Goals as goal

pub returns : goal.returns
returns g c =
    let IsMade : Made → Type 0 = λ m. m.text.items ≡ replies_at c.args.hall.now.events c.args.script.now.jobs m.place in
    let parts = c.in_ok-parts.parts.items in
    let each : All (λ p. All IsMade p.items) parts = λ k d low. (c.in_ok-parts.ensures.each k d (omega (arith, c.in_ok-parts.ensures.len))).1.met in
    IfOk-weaker c.last_first.result _ _ (λ v moved. All-permutation IsMade (flat_map (λ p. p.items) parts) v.items moved (all-in IsMade (λ p. p.items) parts each)) c.last_first.ensures
