use Rattle.std.specs.Prelude.{ℕ, zero, suc, min, List, [], ◌∷◌, is_none, if◌then◌else◌}
use Rattle.mal_job.specs.Viewed.{PlaceView}

-- the least of a number and of the marks of those of these places that are at home
abbrev pub least_mark : ℕ → List PlaceView → ℕ
least_mark n [] = n
least_mark n (p ∷ ps) = least_mark (if is_none p.out then min n p.mark else n) ps

-- a place with its mark moved, where it is at home
abbrev pub marked_at : ℕ → PlaceView → PlaceView
marked_at mark p = if is_none p.out then record p { mark = mark } else p

-- places with the marks of those moved that are at home, among the first so many
abbrev pub marked : ℕ → ℕ → List PlaceView → List PlaceView
marked zero mark ps = ps
marked (suc n) mark [] = []
marked (suc n) mark (p ∷ ps) = marked_at mark p ∷ marked n mark ps
