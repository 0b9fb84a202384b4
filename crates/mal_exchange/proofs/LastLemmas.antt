use Rattle.std.proofs.Common.{◌≡◌, ◌≤◌, List, [], ◌∷◌, ◌++◌, length, ap, arith, length-append}
use Rattle.mal_base.specs.NumberedClause.{NumberedClause}

-- a list of one buffer at most, with a last one
pub alone : (ts rest : List (List NumberedClause)) (t : List NumberedClause) → ts ≡ rest ++ t ∷ [] → length ts ≤ 1 → ts ≡ t ∷ []
alone ts [] t e h = e
alone ts (x ∷ xs) t e h =
    let long : length ts ≡ length (x ∷ (xs ++ t ∷ [])) = ap length e in
    absurd (omega (arith, length-append xs (t ∷ [])))
