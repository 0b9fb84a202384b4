use Rattle.std.specs.Prelude.{Bool, List, [], ◌∷◌, if◌then◌else◌}

-- a value among others, in front of the first that it goes before
abbrev pub put_by : {A : Type 0} → (A → A → Bool) → A → List A → List A
put_by before x [] = x ∷ []
put_by before x (y ∷ ys) = if before x y then x ∷ (y ∷ ys) else y ∷ put_by before x ys
