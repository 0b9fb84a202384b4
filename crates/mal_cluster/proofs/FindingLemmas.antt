-- The hall that has a job, and what is made hall by hall.
use Rattle.std.proofs.Common.{◌≡◌, ℕ, ◌+◌, ◌<◌, ◌≤◌, Bool, true, false, cond, List, [], ◌∷◌, ◌++◌, length, drop, take, map, replicate, get_or, Option, Some, None, option_map, refl, sym, ◌∙◌, ap, arith}
use Rattle.std.proofs.lemmas.List.{drop_all, drop_more, map-append, map_more, replicate-append-replicate}
use Rattle.spec_job.specs.KeyedJob.{Key}
use Rattle.spec_hall.specs.Events.{Event}
use Rattle.spec_hall.specs.Turns.{first_live}
use Rattle.mal_hall.specs.HallView.{HallView}
use Rattle.spec_cluster.specs.Clusters.{home, is_there}
use Rattle.mal_cluster.specs.Kept.{histories}

-- a place after so many halls
abbrev pub later : ℕ → Option ℕ → Option ℕ
later n o = option_map (λ m. m + n) o

pub later-zero : (o : Option ℕ) → o ≡ later 0 o
later-zero None = refl
later-zero (Some m) = ap (λ (n : ℕ). Some n) (none m)
  where
    none : (n : ℕ) → n ≡ n + 0
    none n = omega arith

later-more : (n : ℕ) (o : Option ℕ) → later n (option_map (λ m. m + 1) o) ≡ later (n + 1) o
later-more n None = refl
later-more n (Some m) = ap (λ (a : ℕ). Some a) (more m n)
  where
    more : (a b : ℕ) → a + 1 + b ≡ a + (b + 1)
    more a b = omega arith

-- what the halls from a place on have, by the first of them
home-drop : (k : Key) (halls : List HallView) (n : ℕ) (h : HallView) (b : Bool) → n < length halls → h ≡ get_or halls n h → is_there k h.events ≡ b → home k (histories (drop n halls)) ≡ cond b (Some 0) (option_map (λ m. m + 1) (home k (histories (drop (n + 1) halls))))
home-drop k halls n h b low there q =
    ap (λ (hs : List HallView). home k (histories hs)) (drop_more halls n h low ∙ ap (λ (x : HallView). x ∷ drop (n + 1) halls) (sym there))
    ∙ ap (λ (x : Bool). cond x (Some 0) (option_map (λ m. m + 1) (home k (histories (drop (n + 1) halls))))) q

pub home-here : (k : Key) (halls : List HallView) (n : ℕ) (h : HallView) → n < length halls → h ≡ get_or halls n h → home k (histories halls) ≡ later n (home k (histories (drop n halls))) → is_there k h.events ≡ true → Some n ≡ home k (histories halls)
home-here k halls n h low there rest q = sym (rest ∙ (ap (later n) (home-drop k halls n h true low there q) ∙ ap (λ (m : ℕ). Some m) (none n)))
  where
    none : (m : ℕ) → 0 + m ≡ m
    none m = omega arith

pub home-next : (k : Key) (halls : List HallView) (n : ℕ) (h : HallView) → n < length halls → h ≡ get_or halls n h → home k (histories halls) ≡ later n (home k (histories (drop n halls))) → is_there k h.events ≡ false → home k (histories halls) ≡ later (n + 1) (home k (histories (drop (n + 1) halls)))
home-next k halls n h low there rest q = rest ∙ (ap (later n) (home-drop k halls n h false low there q) ∙ later-more n (home k (histories (drop (n + 1) halls))))

pub home-last : (k : Key) (halls : List HallView) (n : ℕ) → length halls ≤ n → home k (histories halls) ≡ later n (home k (histories (drop n halls))) → None ≡ home k (histories halls)
home-last k halls n most rest = sym (rest ∙ ap (λ (hs : List HallView). later n (home k (histories hs))) (drop_all n halls most))

-- the first live job of each hall
abbrev pub firsts : List HallView → List (Option Key)
firsts halls = map (λ h. first_live h.events) halls

pub firsts-are : (halls : List HallView) → firsts halls ≡ map first_live (histories halls)
firsts-are [] = refl
firsts-are (h ∷ hs) = ap (λ (ks : List (Option Key)). first_live h.events ∷ ks) (firsts-are hs)

pub firsts-more : (halls : List HallView) (n : ℕ) (h : HallView) (one : Option Key) (old now : List (Option Key)) → n < length halls → h ≡ get_or halls n h → one ≡ first_live h.events → old ≡ firsts (take n halls) → now ≡ old ++ one ∷ [] → now ≡ firsts (take (n + 1) halls)
firsts-more halls n h one old now low there is was grown =
    grown
    ∙ (ap (λ (ks : List (Option Key)). ks ++ one ∷ []) was
    ∙ (ap (λ (k : Option Key). firsts (take n halls) ++ k ∷ []) (is ∙ ap (λ (x : HallView). first_live x.events) there)
    ∙ sym (map_more (λ (x : HallView). first_live x.events) halls n h low)))

-- halls without events
pub empty-more : (n : ℕ) (old now : List HallView) (h : HallView) → histories old ≡ replicate n [] → h.events ≡ [] → now ≡ old ++ h ∷ [] → histories now ≡ replicate (n + 1) []
empty-more n old now h was none grown =
    ap histories grown
    ∙ (map-append (λ (x : HallView). x.events) old (h ∷ [])
    ∙ (ap (λ (es : List Event). histories old ++ es ∷ []) none
    ∙ (ap (λ (hs : List (List Event)). hs ++ [] ∷ []) was
    ∙ replicate-append-replicate n 1 [])))
