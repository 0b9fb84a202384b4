use Rattle.std.proofs.Common.{[], ◌∷◌}
use Rattle.mal_suspend.specs.Entries.{entry_of, slices_of}
use Rattle.mal_suspend.specs.Replaying.{alone}
use Rattle.mal_suspend.proofs.ReplayLemmas.{may-front}
use Rattle.mal_suspend.proofs.RebuildLemmas.{last-may}
use Rattle.mal_suspend.proofs.rebuilding.go_again.Goals as goal

pub run_again-requires : goal.run_again-requires
run_again-requires c =
    let counted = c.args.counted.now in
    may-front (alone c.args.node.now.state) (slices_of counted.slices) (entry_of counted.entry ∷ []) c.requires

pub do_again-requires : goal.do_again-requires
do_again-requires c =
    let counted = c.args.counted.now in
    last-may c.args.node.now.state c.run_again.new.node.state (slices_of counted.slices) (entry_of counted.entry) c.in_ok-run_again.ensures c.requires
