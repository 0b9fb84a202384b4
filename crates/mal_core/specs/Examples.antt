-- What small cores and other ends of a search are written as.
use Rattle.std.specs.Prelude.{◌≡◌, [], ◌∷◌, codes}
use Rattle.spec_course.specs.Course.{Spent, Starved}
use Rattle.spec_core.specs.Core.{Core, Satisfiable, Unknown}
use Rattle.spec_core.specs.Examples.{narrowed, one_line, empty_line, second_alone, first_alone}
use Rattle.mal_core.specs.Texts.{minimal_text}

-- a core of two literals, an empty one, a model, and unknown for either cause
pub record HasTexts : Type 0 where
  pub two : minimal_text (Core (narrowed (2 ∷ 4 ∷ []) one_line (second_alone ∷ first_alone ∷ []))) ≡ codes "s UNSATISFIABLE\nk 1 2 0\nl 2 -1 -2 0 1 0\nm 1\nv -1 2 -3 0\nm 2\nv 1 -2 -3 0\n"
  pub none : minimal_text (Core (narrowed [] empty_line [])) ≡ codes "s UNSATISFIABLE\nk 0\nl 3 0 1 2 0\n"
  pub satisfied : minimal_text (Satisfiable second_alone) ≡ codes "s SATISFIABLE\nv -1 2 -3 0\n"
  pub spent : minimal_text (Unknown (Spent 4)) ≡ codes "s UNKNOWN\nu spent 4\n"
  pub starved : minimal_text (Unknown Starved) ≡ codes "s UNKNOWN\nu starved 3\n"
