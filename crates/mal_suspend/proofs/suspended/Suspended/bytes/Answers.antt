use Rattle.std.proofs.Common.{sym, subst}
use Rattle.spec_node.specs.State.{Node}
use Rattle.mal_freeze.specs.Imaged.{IsImage}
use Rattle.mal_suspend.proofs.FormLemmas.{journal-form}
use Rattle.mal_suspend.proofs.suspended.Suspended.bytes.Goals as goal

pub image-requires : goal.image-requires
image-requires c =
    let inside = c.self.inside in
    subst (λ (n : Node). IsImage n) (sym c.self.invariant) (journal-form inside.journal.profile inside.journal.index inside.journal.entries c.allocator-alloc.ensures)
