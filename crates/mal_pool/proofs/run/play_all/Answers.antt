use Rattle.std.proofs.Common.{◌≡◌, ℕ, List, map, arith, sym, ◌∙◌, ap, subst}
use Rattle.std.specs.List.{All}
use Rattle.mal_pool.specs.Parts.{AreParts, Fits}
use Rattle.mal_pool.specs.declared.role.Part.{Part}
use Rattle.mal_pool.specs.declared.role.Role.{Role}
use Rattle.mal_pool.proofs.Parting.{parts_fit}
use Rattle.mal_pool.proofs.Sharings.{parts-given}
use Rattle.mal_pool.proofs.run.play_all.Goals as goal

pub deal-requires-clause-fits : goal.deal-requires-clause-fits
deal-requires-clause-fits g c κs within =
    let jobs = c.args.jobs.now in
    let fits : All (Fits c.args.workers jobs) c.in_ok-parts.parts.items = parts_fit c.args.workers jobs c.in_ok-parts.parts.items c.in_ok-parts.ensures in
    subst (λ (w : ℕ). All (Fits w jobs) c.as_slice.result.now) (sym c.requires.size)
    (subst (λ (ps : List Part). All (Fits c.args.workers jobs) ps) (sym c.as_slice.ensures.value) fits)

pub returns-clause-parts : goal.returns-clause-parts
returns-clause-parts g c =
    let jobs = c.args.jobs.now in
    let given = c.in_ok-played.ensures in
    let same : map (λ x. x.part) c.in_ok-played.played.items ≡ map (λ x. x.part) c.in_ok-pass.roles.items =
    parts-given (λ x. x.part) (λ x. x.part) c.in_ok-pass.roles.items c.in_ok-played.played.items (omega (arith, given.len))
    (λ i j x low. let k = (given.each i x low).1 in k.call.met.1.0 ∙ ap (λ (r : Role g.row.B-Pass.Denot). r.part) (sym (k.job_is j))) in
    subst (AreParts c.args.workers jobs) (sym (same ∙ (c.in_ok-pass.ensures.parts ∙ c.as_slice.ensures.value))) c.in_ok-parts.ensures

pub returns-clause-played : goal.returns-clause-played
returns-clause-played g c = λ k d low. (c.in_ok-played.ensures.each k d (omega (arith, low, c.in_ok-played.ensures.len))).1.call.met.1.1.0

pub returns-clause-all : goal.returns-clause-all
returns-clause-all g c = λ k d low. let met = (c.in_ok-played.ensures.each k d (omega (arith, low, c.in_ok-played.ensures.len))).1.call.met in (met.0, met.1.1.1)
