use Rattle.std.proofs.Common.{◌≡◌, ◌<◌, ◌++◌, [], ◌∷◌, List, ℕ, bytes_eq, length, sym, ◌∙◌, ap, arith}
use Rattle.std.specs.List.{list_any}
use Rattle.mal_pool.specs.declared.role.Part.TheVariants as parts
use Rattle.mal_pool.proofs.Parting.{drawn-more, names-new, names-same}
use Rattle.mal_pool.proofs.run.posters_of.Goals.{then-not-has_name+in_ok-push+in_ok-push-2, else-not-has_name}
use Rattle.mal_pool.proofs.run.posters_of.Goals as goal

pub loop-place-preserved : goal.loop-place-preserved
loop-place-preserved c =
    let js = c.args.jobs.now in
    let i = c.loop-place.place in
    let j = c.index-jobs-place.result in
    let names : List (List ℕ) = c.loop-place.names.items in
    let low : i < length js = omega arith in
    let told : list_any (bytes_eq j.tenant) names ≡ c.has_name.result = sym (c.has_name.ensures ∙ (ap (λ (t : List ℕ). list_any (bytes_eq t) c.as_slice.result.now) c.tenant-tenant.ensures ∙ ap (λ (ns : List (List ℕ)). list_any (bytes_eq j.tenant) ns) c.as_slice.ensures.value)) in
    elim c.if-not-has_name.branch [
      | then-not-has_name+in_ok-push+in_ok-push-2 w ↦
          (let named : w.push.new.self.items ≡ names ++ j.tenant ∷ [] = w.in_ok-push.ensures.items ∙ ap (λ (t : List ℕ). names ++ t ∷ []) c.tenant-tenant.ensures in
          let grown : w.push-then-not-has_name.new.self.items ≡ c.loop-place.posters.items ++ parts.Poster i ∷ [] = w.in_ok-push-2.ensures.items in
          rw (w.names-is, w.posters-is) (record {
            names = names-new js i j names w.push.new.self.items c.loop-place.invariant.names low c.index-jobs-place.is (told ∙ w.if-not-has_name.true) named;
            drawn = drawn-more js i j names w.push.new.self.items c.loop-place.posters.items w.push-then-not-has_name.new.self.items c.loop-place.invariant.drawn low c.index-jobs-place.is named grown;
          }))
      | else-not-has_name w ↦
          rw (w.names-is, w.posters-is) (record {
            names = names-same js i j names c.loop-place.invariant.names low c.index-jobs-place.is (told ∙ w.if-not-has_name.false);
            drawn = c.loop-place.invariant.drawn;
          })
    ]
