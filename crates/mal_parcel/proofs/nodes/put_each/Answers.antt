use Rattle.std.proofs.lemmas.List.Elements.{All-more}
use Rattle.spec_job.specs.SoloMachine.{SoloMachine}
use Rattle.spec_parcel.specs.Packed.{node_bytes}
use Rattle.mal_parcel.specs.Parcelled.{IsReadBack}
use Rattle.mal_parcel.proofs.LineLemmas.{place-next}
use Rattle.mal_parcel.proofs.nodes.put_each.Goals as goal

pub loop-index-preserved : goal.loop-index-preserved
loop-index-preserved c =
    let s : SoloMachine = c.args.job.now.titled.state in
    record {
      nodes = place-next (node_bytes s) c.args.out.now.items c.loop-index.out.items c.put_at.new.out.items c.args.indices.now c.loop-index.index-index 0 c.loop-index-test.true c.loop-index.invariant.nodes c.in_ok-put_at.ensures.node;
      again = All-more (IsReadBack s) c.args.indices.now c.loop-index.index-index 0 c.loop-index-test.true c.loop-index.invariant.again c.in_ok-put_at.ensures.again;
    }
