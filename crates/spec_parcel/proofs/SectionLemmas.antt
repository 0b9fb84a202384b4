-- The sections of a parcel, and that its bytes have no others.
use Rattle.std.proofs.Common.{◌≡◌, ℕ, List, [], ◌∷◌, ◌++◌, map, refl, sym, ap, ◌∙◌}
use Rattle.std.specs.List.{flat_map}
use Rattle.std.proofs.lemmas.List.{length-map}
use Rattle.std.specs.Prelude.{codes}
use Rattle.spec_job.specs.SoloMachine.{Slice, solo}
use Rattle.spec_script.specs.Script.{spelling}
use Rattle.spec_parcel.specs.Packed.{Placed, Told, answer_bytes, listed, own_text, parcel_bytes, placed, placed_bytes, ran_indices, script_of, sized, slice_bytes, told, told_bytes}
use Rattle.spec_parcel.specs.Apart.{FitSections, HasSections, Sections, SectionsAreApart, sections_bytes, sections_of}
use Rattle.spec_parcel.proofs.SizedLemmas.{fronts-apart, sized_are_apart}
use Rattle.spec_parcel.proofs.ListedLemmas.{nodes_are_apart, slices_are_apart}

flat_map-map : {X Y : Type 0} (f : X → Y) (bytes_of : Y → List ℕ) (xs : List X) → flat_map (λ x. bytes_of (f x)) xs ≡ flat_map bytes_of (map f xs)
flat_map-map f bytes_of [] = refl
flat_map-map f bytes_of (x ∷ xs) = ap (λ (rest : List ℕ). bytes_of (f x) ++ rest) (flat_map-map f bytes_of xs)

pub listed-map : {X Y : Type 0} (f : X → Y) (bytes_of : Y → List ℕ) (xs : List X) → listed (λ x. bytes_of (f x)) xs ≡ listed bytes_of (map f xs)
listed-map f bytes_of xs = rw (length-map xs f, flat_map-map f bytes_of xs) refl

pub has_sections : HasSections
unfolding parcel_bytes
has_sections k own = by_parts (sized (spelling (script_of k own))) (sized (own_text k own)) (listed answer_bytes (solo own).answers) (placed (solo own)) (ran_indices (solo own)) (solo own).slices
  where
    by_parts : (script events answers : List ℕ) (f : ℕ → Placed) (is : List ℕ) (cs : List Slice) → codes "MALPACK1" ++ (script ++ (events ++ (listed (λ i. placed_bytes (f i)) is ++ (listed slice_bytes cs ++ answers)))) ≡ codes "MALPACK1" ++ (script ++ (events ++ (listed placed_bytes (map f is) ++ (listed told_bytes (map told cs) ++ answers))))
    by_parts script events answers f is cs = rw (listed-map f placed_bytes is, listed-map told told_bytes cs) refl

abbrev sections : List ℕ → List ℕ → List Placed → List Told → List ℕ → Sections
sections script events nodes slices answers = record { script = script; events = events; nodes = nodes; slices = slices; answers = answers }

-- five sections whose bytes are one are the same
sections-same : (s t : Sections) → FitSections s → FitSections t → sections_bytes s ≡ sections_bytes t → s ≡ t
sections-same s t fit fits e =
    let magic = fronts-apart (codes "MALPACK1") (codes "MALPACK1") _ _ refl e in
    let script = sized_are_apart s.script t.script _ _ fit.script fits.script magic.1 in
    let events = sized_are_apart s.events t.events _ _ fit.events fits.events script.1 in
    let nodes = nodes_are_apart s.nodes t.nodes _ _ fit.nodes fits.nodes events.1 in
    let slices = slices_are_apart s.slices t.slices _ _ fit.slices fits.slices nodes.1 in
    same s.script t.script s.events t.events s.nodes t.nodes s.slices t.slices s.answers t.answers script.0 events.0 nodes.0 slices.0 slices.1
  where
    same : (a b c d : List ℕ) (ps qs : List Placed) (ss ts : List Told) (x y : List ℕ) → a ≡ b → c ≡ d → ps ≡ qs → ss ≡ ts → x ≡ y → sections a c ps ss x ≡ sections b d qs ts y
    same a b c d ps qs ss ts x y i j k l m = cc

pub sections_are_apart : SectionsAreApart
sections_are_apart k l os ps fit fits e = sections-same (sections_of k os) (sections_of l ps) fit fits (sym (has_sections k os) ∙ e ∙ has_sections l ps)
