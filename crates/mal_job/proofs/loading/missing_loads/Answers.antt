use Rattle.std.proofs.Common.{◌≡◌, ◌+◌, ◌-◌, ◌≤◌, ℕ, List, length, take, drop, IfOk, ◌∙◌, ap, subst, arith}
use Rattle.mal_base.specs.Limits.{limits}
use Rattle.mal_revision.specs.Posted.{Posted}
use Rattle.spec_job.specs.SoloMachine.{clauses_in}
use Rattle.mal_suspend.specs.Starting.{shared_loads}
use Rattle.mal_job.specs.Loads.{paired, lacking}
use Rattle.mal_job.specs.Viewed.{shared}
use Rattle.mal_job.proofs.LoadingLemmas.{few-loads}
use Rattle.mal_job.proofs.TreeLemmas.{shared-drop, shared-take}
use Rattle.mal_job.proofs.loading.missing_loads.Goals as goal

pub loads_of-requires : goal.loads_of-requires
loads_of-requires c =
    let rs : List Posted = c.args.questions.now.revisions in
    let m : ℕ = length c.answers-current.result.now + 1 - c.args.loaded in
    let front : shared c.split_at.result.0.now ≡ take c.args.loaded rs = ap shared c.split_at.ensures.front ∙ (shared-take c.args.loaded c.revisions.result.now ∙ ap (λ (xs : List Posted). take c.args.loaded xs) c.revisions.ensures.value) in
    let back : shared (take m c.split_at.result.1.now) ≡ take m (drop c.args.loaded rs) = shared-take m c.split_at.result.1.now ∙ ap (λ (xs : List Posted). take m xs) (ap shared c.split_at.ensures.back ∙ (shared-drop c.args.loaded c.revisions.result.now ∙ ap (λ (xs : List Posted). drop c.args.loaded xs) c.revisions.ensures.value)) in
    let one : c.count_clauses.result ≡ clauses_in (take c.args.loaded rs) = c.count_clauses.ensures ∙ ap clauses_in front in
    let two : clauses_in (shared (take m c.split_at.result.1.now)) ≡ clauses_in (take m (drop c.args.loaded rs)) = ap clauses_in back in
    let all : clauses_in (take c.args.loaded rs) + clauses_in (take m (drop c.args.loaded rs)) ≤ clauses_in rs = few-loads c.args.loaded m rs in
    let most : clauses_in rs ≤ limits.clauses = c.revisions.ensures.kept.clauses in
    omega (arith, one, two, all, most)

pub returns : goal.returns
returns c =
    let rs : List Posted = c.args.questions.now.revisions in
    let m : ℕ = length c.answers-current.result.now + 1 - c.args.loaded in
    let front : shared c.split_at.result.0.now ≡ take c.args.loaded rs = ap shared c.split_at.ensures.front ∙ (shared-take c.args.loaded c.revisions.result.now ∙ ap (λ (xs : List Posted). take c.args.loaded xs) c.revisions.ensures.value) in
    let back : shared (take m c.split_at.result.1.now) ≡ take m (drop c.args.loaded rs) = shared-take m c.split_at.result.1.now ∙ ap (λ (xs : List Posted). take m xs) (ap shared c.split_at.ensures.back ∙ (shared-drop c.args.loaded c.revisions.result.now ∙ ap (λ (xs : List Posted). drop c.args.loaded xs) c.revisions.ensures.value)) in
    let one : c.count_clauses.result ≡ clauses_in (take c.args.loaded rs) = c.count_clauses.ensures ∙ ap clauses_in front in
    let count : m ≡ length c.args.questions.now.answers + 1 - c.args.loaded = ap (λ xs. length xs + 1 - c.args.loaded) c.answers-current.ensures.value in
    let same : paired (c.count_clauses.result + 1) (shared (take m c.split_at.result.1.now)) ≡ lacking c.args.loaded c.args.questions.now = ap (λ (n : ℕ). paired (n + 1) (shared (take m c.split_at.result.1.now))) one ∙ (ap (λ (xs : List Posted). paired (clauses_in (take c.args.loaded rs) + 1) xs) back ∙ ap (λ (n : ℕ). paired (clauses_in (take c.args.loaded rs) + 1) (take n (drop c.args.loaded rs))) count) in
    subst (λ ls. IfOk c.loads_of.result (λ v. shared_loads v.items ≡ ls)) same c.loads_of.ensures
