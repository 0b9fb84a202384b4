use Rattle.std.specs.Prelude.{◌≡◌, ℕ, List, Ok}
use Rattle.spec_job.specs.Journaled.{Journaled, node_of}
use Rattle.mal_freeze.specs.Reading.{image_in}
use Rattle.mal_freeze.specs.Spelling.{image_bytes}

-- bytes are those of the image of a journal's node, and are read to it
pub record IsFrozen (bytes : List ℕ) (j : Journaled) : Type 0 where
  pub spelled : bytes ≡ image_bytes (node_of j)
  pub again : image_in bytes ≡ Ok (node_of j)
