-- Fields that are the one spelling of an image.
use Rattle.std.proofs.Common.{◌≡◌, ℕ, Bool, true, false, ◌&&◌, cond, eqb, List, length, Option, Some, None, Result, Ok, Err, refl, sym, ap, subst, ◌∙◌}
use Rattle.std.specs.Prelude.{IfOk, IfErr, MatchOption}
use Rattle.std.specs.List.{list_all}
use Rattle.std.specs.declared.alloc.AllocError.{AllocError}
use Rattle.std.proofs.lemmas.Bool.{and_from, and_parts, eq-eqb}
use Rattle.spec_node.specs.State.{Node}
use Rattle.mal_freeze.specs.declared.fault.ThawFault.{ThawFault}
use Rattle.mal_freeze.specs.declared.fault.ThawFault.TheVariants.{NotCanonical}
use Rattle.mal_freeze.specs.declared.fields.Fields.{Fields}
use Rattle.mal_freeze.specs.Holding.{can_hold}
use Rattle.mal_freeze.specs.Imaged.{IsImage, is_image}
use Rattle.mal_freeze.specs.Reading.{◌>>=◌, ArePartsOf, fits_goal, fields_at, node_in, is_canonical, image_in}
use Rattle.mal_freeze.proofs.TestLemmas.{not-held, not-image, is-image, image-is}

third_false : (a b c : Bool) → c ≡ false → (a && (b && c)) ≡ false
third_false true true c h = h
third_false true false c h = refl
third_false false b c h = refl

-- clauses that cannot be held are not canonical
pub unheld : (f : Fields) → list_all can_hold f.lists.clauses ≡ false → is_canonical f ≡ false
unheld f h = third_false (eqb f.left 0) (fits_goal f.ended) (is_image (node_in f)) (not-held (node_in f) h)

-- parts that make no image are not canonical, those that make one are
pub image_result : (f : Fields) (n : Node) (r : Result (Option Node) AllocError) → ArePartsOf f n → IfOk r (λ o. MatchOption o (IsImage n → ⊥) (λ i. (i ≡ n) × IsImage n)) → IfOk r (λ o. MatchOption o (is_canonical f ≡ false) (λ i. (i ≡ node_in f) × (is_canonical f ≡ true)))
image_result f n (Err e) p h = tt
image_result f n (Ok None) p h = third_false (eqb f.left 0) (fits_goal f.ended) (is_image (node_in f)) (ap (λ (m : Node). is_image m) (sym p.node) ∙ not-image n h)
image_result f n (Ok (Some i)) p h =
    (h.0 ∙ p.node, and_from (eqb f.left 0) (fits_goal f.ended && is_image (node_in f)) (eq-eqb f.left 0 p.none_left) (and_from (fits_goal f.ended) (is_image (node_in f)) p.goal (ap (λ (m : Node). is_image m) (sym p.node) ∙ is-image n h.1)))

-- bytes that are known to spell an image spell that of their fields
pub known_image : (bytes : List ℕ) (f : Fields) → fields_at (length bytes) bytes ≡ Ok f → IfErr (image_in bytes) (λ e. ⊥) → (image_in bytes ≡ Ok (node_in f)) × IsImage (node_in f)
unfolding image_in
known_image bytes f e h =
    let whole : (fields_at (length bytes) bytes >>= λ g. cond (is_canonical g) (Ok (node_in g)) (Err NotCanonical)) ≡ cond (is_canonical f) (Ok (node_in f)) (Err NotCanonical) = rw e refl in
    by_test (is_canonical f) refl (subst (λ (r : Result Node ThawFault). IfErr r (λ e. ⊥)) whole h)
  where
    by_test : (b : Bool) → is_canonical f ≡ b → IfErr (cond (is_canonical f) (Ok (node_in f)) (Err NotCanonical)) (λ e. ⊥) → (image_in bytes ≡ Ok (node_in f)) × IsImage (node_in f)
    by_test true t k =
        let a = and_parts (eqb f.left 0) (fits_goal f.ended && is_image (node_in f)) t in
        let b = and_parts (fits_goal f.ended) (is_image (node_in f)) a.1 in
        (rw (e, t) refl, image-is (node_in f) b.1)
    by_test false t k = absurd (rw t at k)

-- reading their fields meets no fault
pub known_read : (bytes : List ℕ) (fault : ThawFault) → fields_at (length bytes) bytes ≡ Err fault → IfErr (image_in bytes) (λ e. ⊥) → ⊥
unfolding image_in
known_read bytes fault e h =
    let whole : (fields_at (length bytes) bytes >>= λ g. cond (is_canonical g) (Ok (node_in g)) (Err NotCanonical)) ≡ Err fault = rw e refl in
    subst (λ (r : Result Node ThawFault). IfErr r (λ e. ⊥)) whole h

-- and these are canonical
pub known_canonical : (bytes : List ℕ) (f : Fields) → fields_at (length bytes) bytes ≡ Ok f → IfErr (image_in bytes) (λ e. ⊥) → is_canonical f ≡ false → ⊥
unfolding image_in
known_canonical bytes f e h none =
    let whole : (fields_at (length bytes) bytes >>= λ g. cond (is_canonical g) (Ok (node_in g)) (Err NotCanonical)) ≡ Err NotCanonical = rw (e, none) refl in
    subst (λ (r : Result Node ThawFault). IfErr r (λ e. ⊥)) whole h
