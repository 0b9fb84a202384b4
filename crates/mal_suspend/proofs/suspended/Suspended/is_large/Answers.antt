use Rattle.std.proofs.Common.{◌≡◌, ◌*◌, ◌≤◌, length, ◌∙◌, ap}
use Rattle.std.proofs.lemmas.Bool.{ltb-true}
use Rattle.spec_node.specs.State.{Node}
use Rattle.spec_job.specs.Journaled.{node_of}
use Rattle.mal_freeze.specs.Spelling.{image_bytes}
use Rattle.mal_suspend.proofs.FormLemmas.{journal-form}
use Rattle.mal_suspend.proofs.LengthLemmas.{beyond-5, beyond-12, variables-long, clauses-long}
use Rattle.mal_suspend.proofs.suspended.Suspended.is_large.Goals as goal

pub returns-then-variables-most : goal.returns-then-variables-most
returns-then-variables-most c =
    let inside = c.self.inside in
    let n : Node = node_of inside.journal in
    let same : c.variables.result ≡ n.variables = c.variables.ensures ∙ ap (λ (m : Node). m.variables) c.self.invariant in
    let long : 5 * n.variables ≤ length (image_bytes n) = variables-long n (journal-form inside.journal.profile inside.journal.index inside.journal.entries c.allocator-alloc.ensures) in
    λ t. rw (← c.self.view_is) (beyond-5 c.args.most c.variables.result n.variables (length (image_bytes n)) same c.if-variables-most.true long)

pub returns : goal.returns
returns c =
    let inside = c.self.inside in
    let n : Node = node_of inside.journal in
    let same : c.clause_count.result ≡ length n.clauses = c.clause_count.ensures ∙ ap (λ (m : Node). length m.clauses) c.self.invariant in
    λ t. rw (← c.self.view_is) (beyond-12 c.args.most c.clause_count.result (length n.clauses) (length (image_bytes n)) same (ltb-true _ _ t) (clauses-long n))
