-- The literal that is left so far, as a list.
use Rattle.std.proofs.Common.{ℕ, List, [], ◌∷◌, Option, Some, None}

abbrev pub listed : Option ℕ → List ℕ
listed None = []
listed (Some l) = l ∷ []
