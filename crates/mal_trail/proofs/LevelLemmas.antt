use Rattle.std.proofs.Common.{◌≡◌, ℕ, zero, suc, ◌+◌, ◌-◌, ◌<◌, ◌≤◌, nat_le, List, [], ◌∷◌, ◌++◌, length, take, get_or, Some, refl, arith}
use Rattle.std.specs.List.{slice_get}
use Rattle.std.specs.Option.{option_map_or}
use Rattle.std.specs.List.Sorted.{IsPartitionedBy}
use Rattle.std.proofs.lemmas.Bool.{leb-true, le-leb}
use Rattle.mal_base.specs.declared.trail_entry.TrailEntry.{TrailEntry}
use Rattle.spec_node.specs.Value.{level_of}
use Rattle.mal_trail.specs.Trailed.{LevelsRise}

-- the level of the last entry, or this one where there is none
abbrev level_from : ℕ → List TrailEntry → ℕ
level_from level [] = level
level_from level (e ∷ es) = level_from e.level es

abbrev last_of : TrailEntry → List TrailEntry → TrailEntry
last_of e [] = e
last_of e (f ∷ es) = last_of f es

get-last : (e : TrailEntry) (es : List TrailEntry) → slice_get (e ∷ es) (length (e ∷ es) - 1) ≡ Some (last_of e es)
get-last e [] = refl
get-last e (f ∷ es) =
    let more : length (e ∷ (f ∷ es)) - 1 ≡ suc (length (f ∷ es) - 1) = omega arith in
    rw more (get-last f es)

from-entry : (level : ℕ) (e : TrailEntry) (es : List TrailEntry) → (last_of e es).level ≡ level_from e.level es
from-entry level e [] = refl
from-entry level e (f ∷ es) = from-entry level f es

from-last : (level : ℕ) (es : List TrailEntry) → option_map_or (λ (e : TrailEntry). e.level) (slice_get es (length es - 1)) level ≡ level_from level es
from-last level [] = refl
from-last level (e ∷ es) = rw (get-last e es) (from-entry level e es)

level_from-zero : (es : List TrailEntry) → level_of es ≡ level_from 0 es
level_from-zero es = from-last 0 es

rise_push : (level : ℕ) (es : List TrailEntry) (e : TrailEntry) → LevelsRise level es → level_from level es ≤ e.level → e.level ≤ level_from level es + 1 → LevelsRise level (es ++ e ∷ [])
rise_push level [] e h a b = (a, b, tt)
rise_push level (x ∷ es) e h a b = (h.0, h.1, rise_push x.level es e h.2 a b)

-- one more entry of the last level or the next
pub rise-push : (es : List TrailEntry) (e : TrailEntry) → LevelsRise 0 es → level_of es ≤ e.level → e.level ≤ level_of es + 1 → LevelsRise 0 (es ++ e ∷ [])
rise-push es e h a b = rise_push 0 es e h (omega (arith, level_from-zero es)) (omega (arith, level_from-zero es))

pub rise-take : (k level : ℕ) (es : List TrailEntry) → LevelsRise level es → LevelsRise level (take k es)
rise-take zero level es h = tt
rise-take (suc k) level [] h = tt
rise-take (suc k) level (e ∷ es) h = (h.0, h.1, rise-take k e.level es h.2)

from_length : (level : ℕ) (es : List TrailEntry) → LevelsRise level es → level_from level es ≤ level + length es
from_length level [] h = omega arith
from_length level (e ∷ es) h = omega (arith, from_length e.level es h.2, h.1)

-- there are no more levels than entries
pub level-length : (es : List TrailEntry) → LevelsRise 0 es → level_of es ≤ length es
level-length es h = omega (arith, from_length 0 es h, level_from-zero es)

at_least : (level : ℕ) (es : List TrailEntry) (k : ℕ) (d : TrailEntry) → LevelsRise level es → k < length es → level ≤ (get_or es k d).level
at_least level [] k d h l = absurd (omega arith)
at_least level (e ∷ es) zero d h l = h.0
at_least level (e ∷ es) (suc k) d h l = omega (arith, h.0, at_least e.level es k d h.2 (omega arith))

rising : (level : ℕ) (es : List TrailEntry) (i j : ℕ) (d : TrailEntry) → LevelsRise level es → i ≤ j → j < length es → (get_or es i d).level ≤ (get_or es j d).level
rising level [] i j d h a l = absurd (omega arith)
rising level (e ∷ es) zero zero d h a l = omega arith
rising level (e ∷ es) zero (suc j) d h a l = at_least e.level es j d h.2 (omega arith)
rising level (e ∷ es) (suc i) zero d h a l = absurd (omega arith)
rising level (e ∷ es) (suc i) (suc j) d h a l = rising e.level es i j d h.2 (omega arith) (omega arith)

-- entries up to a level stand in front of those above it
pub levels-part : (most : ℕ) (es : List TrailEntry) → LevelsRise 0 es → IsPartitionedBy (λ (e : TrailEntry). nat_le e.level most) es
levels-part most es h i j d a l t = le-leb (get_or es i d).level most (omega (arith, rising 0 es i j d h a l, leb-true (get_or es j d).level most t))
