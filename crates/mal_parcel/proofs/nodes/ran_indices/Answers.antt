use Rattle.std.proofs.Common.{◌≡◌, ℕ, ◌+◌, ◌≤◌, Vec, Global, List, [], ◌∷◌, ◌++◌, sym, ap, subst, ◌∙◌, arith}
use Rattle.std.specs.Prelude.{All}
use Rattle.std.proofs.lemmas.List.Elements.{All-nil, All-push}
use Rattle.spec_job.specs.SoloMachine.{SoloMachine}
use Rattle.mal_parcel.proofs.NodeLemmas.{ran_from, ran-first, ran-yes, ran-no}
use Rattle.mal_parcel.proofs.nodes.ran_indices.Goals as goal
use Rattle.mal_parcel.proofs.nodes.ran_indices.Goals.{then-has_run+in_ok-push, else-has_run}

abbrev IsLow : ℕ → Type 0
IsLow i = i ≤ 63

pub loop-index-init : goal.loop-index-init
loop-index-init c = record {
  indices = ap (λ (is : List ℕ). is ++ ran_from c.args.job.now.titled.state 0) c.new-indices.ensures.items ∙ ran-first c.args.job.now.titled.state;
  low = subst (λ (is : List ℕ). All IsLow is) (sym c.new-indices.ensures.items) (All-nil IsLow);
}

pub loop-index-preserved : goal.loop-index-preserved
loop-index-preserved c =
    let s : SoloMachine = c.args.job.now.titled.state in
    let n : ℕ = c.loop-index.index in
    elim c.if-has_run.branch [
      | then-has_run+in_ok-push w ↦
          let items : c.if-has_run.indices.items ≡ c.loop-index.indices.items ++ n ∷ [] = ap (λ (v : Vec ℕ Global). v.items) w.indices-is ∙ w.in_ok-push.ensures.items in
          record {
            indices = ap (λ (is : List ℕ). is ++ ran_from s (n + 1)) items ∙ ran-yes s n c.loop-index.indices.items c.loop-index-test.true (sym c.has_run.ensures ∙ w.if-has_run.true) c.loop-index.invariant.indices;
            low = subst (λ (is : List ℕ). All IsLow is) (sym items) (All-push IsLow c.loop-index.indices.items n c.loop-index.invariant.low (omega (arith, c.loop-index-test.true)));
          }
      | else-has_run w ↦
          let items : c.if-has_run.indices.items ≡ c.loop-index.indices.items = ap (λ (v : Vec ℕ Global). v.items) w.indices-is in
          record {
            indices = ap (λ (is : List ℕ). is ++ ran_from s (n + 1)) items ∙ ran-no s n c.loop-index.indices.items c.loop-index-test.true (sym c.has_run.ensures ∙ w.if-has_run.false) c.loop-index.invariant.indices;
            low = subst (λ (is : List ℕ). All IsLow is) (sym items) c.loop-index.invariant.low;
          }
    ]
