-- The bytes up to the machine and those of the machine are those of the parcel.
use Rattle.std.proofs.Common.{◌≡◌, ℕ, List, ◌++◌, refl, sym, ap, subst, ◌∙◌, append_assoc}
use Rattle.std.specs.Prelude.{codes, All}
use Rattle.spec_job.specs.KeyedJob.{Key}
use Rattle.spec_job.specs.SoloMachine.{Own, SoloMachine, solo}
use Rattle.spec_script.specs.Script.{spelling}
use Rattle.spec_parcel.specs.Packed.{own_text, parcel_bytes, ran_indices, script_of, sized}
use Rattle.mal_parcel.specs.Packing.{front_bytes, machine_bytes}
use Rattle.mal_parcel.specs.Parcelled.{IsReadBack}

-- a machine of which the volume is left after
abbrev still : SoloMachine → SoloMachine
still s = record s { volume = 0 }

-- no bytes tell it
machine-still : (s : SoloMachine) → machine_bytes s ≡ machine_bytes (still s)
unfolding ran_indices
machine-still s = refl

back-still : (s : SoloMachine) → All (IsReadBack s) (ran_indices s) → All (IsReadBack (still s)) (ran_indices (still s))
unfolding ran_indices
back-still s again = again

-- what stands before the machine, and the machine
grouped : (script events machine : List ℕ) → (codes "MALPACK1" ++ (script ++ events)) ++ machine ≡ codes "MALPACK1" ++ (script ++ (events ++ machine))
grouped script events machine = ap (λ (t : List ℕ). codes "MALPACK1" ++ t) (append_assoc script events machine)

pub parcel-whole : (k : Key) (own : List Own) (s : SoloMachine) (front out : List ℕ) → solo own ≡ still s → front ≡ front_bytes k own → out ≡ front ++ machine_bytes s → out ≡ parcel_bytes k own
unfolding parcel_bytes
parcel-whole k own s front out e a b =
    let script : List ℕ = sized (spelling (script_of k own)) in
    let events : List ℕ = sized (own_text k own) in
    let machine : machine_bytes s ≡ machine_bytes (solo own) = machine-still s ∙ ap machine_bytes (sym e) in
    b ∙ ap (λ (t : List ℕ). t ++ machine_bytes s) a ∙ grouped script events (machine_bytes s) ∙ ap (λ (t : List ℕ). codes "MALPACK1" ++ (script ++ (events ++ t))) machine

-- the images that are read back are those of the own events
pub parcel-back : (own : List Own) (s : SoloMachine) → solo own ≡ still s → All (IsReadBack s) (ran_indices s) → All (IsReadBack (solo own)) (ran_indices (solo own))
parcel-back own s e again = subst (λ (t : SoloMachine). All (IsReadBack t) (ran_indices t)) (sym e) (back-still s again)
