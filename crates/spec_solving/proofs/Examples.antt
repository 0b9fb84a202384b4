use Rattle.std.proofs.Common.{[], ◌∷◌, refl, inr}
use Rattle.std.proofs.lemmas.List.Elements.{All-nil, All-cons}
use Rattle.std.specs.Prelude.{Contains}
use Rattle.mal_base.proofs.Sorting.{Contains-head}
use Rattle.spec_solving.specs.Examples.{HasDialogue, HasPromises, asked}

pub dialogue : HasDialogue
dialogue = record { clauses = refl; closed = refl; assumed = refl; over = refl; stay = refl; next = refl; same = refl }

pub promises : HasPromises
promises = record {
  model = refl;
  not_assumed = refl;
  core = record {
    among = All-cons (Contains asked.assumed) 5 [] (Contains-head 5 []) (All-nil (Contains asked.assumed));
    cause = inr (record { id = 3; lits = 4 ∷ []; hints = 2 ∷ 1 ∷ [] } ∷ [], (λ e. absurd (cc)), record { proof = (refl, tt); goal = refl });
  };
}
