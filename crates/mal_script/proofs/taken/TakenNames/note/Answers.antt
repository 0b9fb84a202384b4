use Rattle.std.proofs.Common.{◌≡◌, ℕ, ◌+◌, List, Some, cond, ap, sym, ◌∙◌}
use Rattle.std.specs.BTreeMap as tree
use Rattle.mal_script.specs.TakenNames.{jobs_at, name_cmp, pair_cmp}
use Rattle.mal_script.proofs.Names.{taken-kept, taken-more, taken-unchanged}
use Rattle.mal_script.proofs.taken.TakenNames.note.Goals as goal

pub returns-in-Err-insert-clause-alike : goal.returns-in-Err-insert-clause-alike
returns-in-Err-insert-clause-alike c jobs taken =
    let kept = taken-kept jobs c.args.self.now.places c.args.self.now.counts c.insert.new.self c.tenant-tenant.result c.jobs_of-place.result taken c.jobs_of-place.ensures c.in-Ok.ensures.updates.0 in
    taken-unchanged jobs c.args.self.now.places c.insert-2.new.self c.insert.new.self kept c.in-Err-insert.ensures.err

pub returns-clause-noted : goal.returns-clause-noted
returns-clause-noted c jobs taken =
    let kept = taken-kept jobs c.args.self.now.places c.args.self.now.counts c.insert.new.self c.tenant-tenant.result c.jobs_of-place.result taken c.jobs_of-place.ensures c.in-Ok.ensures.updates.0 in
    let before : c.jobs_of-place.result ≡ jobs_at c.args.self.now.counts c.args.job.now.tenant = c.jobs_of-place.ensures ∙ ap (jobs_at c.args.self.now.counts) c.tenant-tenant.ensures in
    let place : c.jobs_of-place.result ≡ jobs_at c.insert.new.self c.args.job.now.tenant = before ∙ (taken.counted c.args.job.now.tenant ∙ sym (kept.counted c.args.job.now.tenant)) in
    let noted : (q : List ℕ × List ℕ) → tree.get pair_cmp c.insert-2.new.self q ≡ cond (tree.is_at (pair_cmp (c.tenant-tenant.result, c.name.result)) q) (Some c.jobs_of-place.result) (tree.get pair_cmp c.args.self.now.places q) = c.in-Ok-insert.ensures.updates.0 in
    let told : (q : List ℕ) → tree.get name_cmp c.insert-3.new.self q ≡ cond (tree.is_at (name_cmp c.tenant-tenant.result) q) (Some (c.jobs_of-place.result + 1)) (tree.get name_cmp c.insert.new.self q) = c.in-Ok-insert-2.ensures.updates.0 in
    let named : (q : List ℕ × List ℕ) → tree.get pair_cmp c.insert-2.new.self q ≡ cond (tree.is_at (pair_cmp (c.args.job.now.tenant, c.args.job.now.name)) q) (Some c.jobs_of-place.result) (tree.get pair_cmp c.args.self.now.places q) = rw (c.tenant-tenant.ensures, c.name.ensures) at noted in
    let counted : (q : List ℕ) → tree.get name_cmp c.insert-3.new.self q ≡ cond (tree.is_at (name_cmp c.args.job.now.tenant) q) (Some (c.jobs_of-place.result + 1)) (tree.get name_cmp c.insert.new.self q) = rw c.tenant-tenant.ensures at told in
    taken-more jobs c.args.job.now c.args.self.now.places c.insert-2.new.self c.insert.new.self c.insert-3.new.self c.jobs_of-place.result c.jobs_of-place.result kept place named counted
