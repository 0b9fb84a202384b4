-- Texts that are written one after the other.
use Rattle.std.proofs.Common.{◌≡◌, ℕ, suc, ◌<◌, List, ◌∷◌, ◌++◌, ◌∙◌, ap, append_assoc, drop, drop-cons, flat_map, get_or, length, sym, take, take-append-drop}
use Rattle.std.specs.Prelude.{Option}
use Rattle.std.specs.Io.KnownBytes.{Appends}
use Rattle.std.proofs.KnownBytes.{Appends-trans}
use Rattle.std.proofs.lemmas.Grind.{flat_map-append}
use Rattle.mal_io.specs.Moves.{GotPrefix}

-- after the texts before it, a prefix of a text is a prefix of them all
pub prefix-behind : {A : Type 0} (f : A → List ℕ) (xs : List A) (i : ℕ) (x d : A) (got mid now : Option (List ℕ)) → i < length xs → x ≡ get_or xs i d → Appends got mid (flat_map f (take i xs)) → (prefix : List ℕ) × GotPrefix mid now (f x) prefix → (prefix : List ℕ) × GotPrefix got now (flat_map f xs) prefix
prefix-behind {A} f xs i x d got mid now low is gained p = (before ++ p.0, record { gained = Appends-trans got mid now before p.0 gained p.1.gained; split = (p.1.split.0 ++ behind, whole) })
  where
    before : List ℕ
    before = flat_map f (take i xs)

    behind : List ℕ
    behind = flat_map f (drop (suc i) xs)

    here : flat_map f (drop i xs) ≡ p.0 ++ (p.1.split.0 ++ behind)
    here = ap (λ (ys : List A). flat_map f ys) (drop-cons xs i d low ∙ ap (λ (y : A). y ∷ drop (suc i) xs) (sym is))
        ∙ (ap (λ (text : List ℕ). text ++ behind) p.1.split.1 ∙ append_assoc p.0 p.1.split.0 behind)

    whole : flat_map f xs ≡ (before ++ p.0) ++ (p.1.split.0 ++ behind)
    whole = ap (λ (ys : List A). flat_map f ys) (sym (take-append-drop i xs))
        ∙ (flat_map-append f (take i xs) (drop i xs) ∙ (ap (λ (text : List ℕ). before ++ text) here ∙ sym (append_assoc before p.0 (p.1.split.0 ++ behind))))
