-- The sections of the parcel of lawful own events.
use Rattle.std.proofs.Common.{◌≡◌, ℕ, zero, suc, ◌+◌, ◌<◌, ◌≤◌, ◌^◌, Bool, true, false, cond, List, [], ◌∷◌, ◌++◌, length, map, filter, take, Option, Some, None, refl, sym, ◌∙◌, ap, subst, arith, append_assoc, length-append}
use Rattle.std.specs.Int.{w64}
use Rattle.std.specs.Prelude.{All, codes, flat_map, option_and_then, option_map}
use Rattle.std.specs.List.{AllByRecursion}
use Rattle.std.proofs.lemmas.List.{length-map}
use Rattle.std.proofs.lemmas.Option.{none-some, same_Some}
use Rattle.std.proofs.lemmas.List.Elements.{recursion_from_All}
use Rattle.mal_base.specs.declared.answer.Answer.{Answer}
use Rattle.mal_freeze.specs.Spelling.{spelled}
use Rattle.spec_node.specs.Load.{counted}
use Rattle.spec_job.specs.KeyedJob.{Key}
use Rattle.spec_job.specs.Lawful.{IsLawful}
use Rattle.spec_job.specs.SoloMachine.{Own, Opened, Revised, Reasked, Closed, Volume, Started, Finished, Exchanged, Slice, SoloMachine, solo}
use Rattle.spec_job.specs.Viewed.{JobView, unstarted}
use Rattle.spec_script.specs.Script.{spelling}
use Rattle.spec_parcel.specs.Packed.{Placed, answer_bytes, has_run, listed, own_text, parcel_bytes, placed, placed_bytes, ran_indices, script_of, sized, slice_bytes}
use Rattle.spec_parcel.proofs.SectionLemmas.{listed-map}
use Rattle.mal_parcel.specs.Parcelled.{IsReadBack}
use Rattle.mal_parcel.specs.Replaying.{IsReplayed, IsToWake, answers_left, slices_left}
use Rattle.mal_parcel.specs.Taking.{behind_each, behind_node, behind_number, behind_slice, machine_at, machine_in, slices_at}
use Rattle.mal_parcel.proofs.TakeLemmas.{behind_node-again, behind_number-again, behind_slice-again, each-again, number-again, texts-again}

-- of the indices of all places few are taken, and low ones
few-among : (p : ℕ → Bool) (first n : ℕ) → length (filter p (counted first n)) ≤ n
few-among p first zero = omega arith
few-among p first (suc n) = by_test (few-among p (first + 1) n) (p first)
  where
    by_test : length (filter p (counted (first + 1) n)) ≤ n → (b : Bool) → length (cond b (first ∷ filter p (counted (first + 1) n)) (filter p (counted (first + 1) n))) ≤ suc n
    by_test few true = omega (arith, few)
    by_test few false = omega (arith, few)

low-among : (p : ℕ → Bool) (first n : ℕ) → first + n ≤ 64 → AllByRecursion (λ i. i ≤ 63) (filter p (counted first n))
low-among p first zero h = tt
low-among p first (suc n) h = by_test (low-among p (first + 1) n (omega arith)) (p first)
  where
    by_test : AllByRecursion (λ i. i ≤ 63) (filter p (counted (first + 1) n)) → (b : Bool) → AllByRecursion (λ i. i ≤ 63) (cond b (first ∷ filter p (counted (first + 1) n)) (filter p (counted (first + 1) n)))
    by_test low true = (omega (arith, h), low)
    by_test low false = low

ran-few : (s : SoloMachine) → length (ran_indices s) ≤ 64
unfolding ran_indices
ran-few s = few-among (has_run s) 0 64

ran-low : (s : SoloMachine) → AllByRecursion (λ i. i ≤ 63) (ran_indices s)
unfolding ran_indices
ran-low s = low-among (has_run s) 0 64 (omega arith)

-- the sections from the nodes on: nodes, slices and answers, each after its count
abbrev machine_of : List Placed → List Slice → ℕ → List ℕ → List ℕ
machine_of ps cs n answers = spelled w64 (length ps) ++ (flat_map placed_bytes ps ++ (spelled w64 (length cs) ++ (flat_map slice_bytes cs ++ (spelled w64 n ++ answers))))

machine-parts : (f : ℕ → Placed) (is : List ℕ) (cs : List Slice) (given : List Answer) → listed (λ i. placed_bytes (f i)) is ++ (listed slice_bytes cs ++ listed answer_bytes given) ≡ machine_of (map f is) cs (length given) (flat_map answer_bytes given)
machine-parts f is cs given =
    ap (λ (bs : List ℕ). bs ++ (listed slice_bytes cs ++ listed answer_bytes given)) (listed-map f placed_bytes is)
    ∙ (append_assoc (spelled w64 (length (map f is))) (flat_map placed_bytes (map f is)) (listed slice_bytes cs ++ listed answer_bytes given)
    ∙ ap (λ (bs : List ℕ). spelled w64 (length (map f is)) ++ (flat_map placed_bytes (map f is) ++ bs)) (append_assoc (spelled w64 (length cs)) (flat_map slice_bytes cs) (listed answer_bytes given)))

-- the bytes of a parcel from the script on
abbrev parts_of : Key → List Own → List ℕ
parts_of k own = codes "MALPACK1" ++ (sized (spelling (script_of k own)) ++ (sized (own_text k own) ++ machine_of (map (placed (solo own)) (ran_indices (solo own))) (solo own).slices (length (solo own).answers) (flat_map answer_bytes (solo own).answers)))

parcel-parts : (k : Key) (own : List Own) → parcel_bytes k own ≡ parts_of k own
unfolding parcel_bytes
parcel-parts k own = ap (λ (bs : List ℕ). codes "MALPACK1" ++ (sized (spelling (script_of k own)) ++ (sized (own_text k own) ++ bs))) (machine-parts (placed (solo own)) (ran_indices (solo own)) (solo own).slices (solo own).answers)

-- there are no more of a kind than bytes, where each has some
as-many : {X : Type 0} (f : X → List ℕ) → ((x : X) → 1 ≤ length (f x)) → (xs : List X) (more : List ℕ) → length xs ≤ length (flat_map f xs ++ more)
as-many f some [] more = omega arith
as-many f some (x ∷ xs) more = omega (arith, as-many f some xs more, some x, length-append (f x ++ flat_map f xs) more, length-append (f x) (flat_map f xs), length-append (flat_map f xs) more)

-- the sections of a machine are found
slices-again : (cs : List Slice) (n : ℕ) (last : List ℕ) → length (spelled w64 (length cs) ++ (flat_map slice_bytes cs ++ (spelled w64 n ++ last))) < 2 ^ 63 → slices_at (spelled w64 (length cs) ++ (flat_map slice_bytes cs ++ (spelled w64 n ++ last))) ≡ Some (flat_map slice_bytes cs ++ (spelled w64 n ++ last), last)
slices-again cs n last short =
    let rest : List ℕ = flat_map slice_bytes cs ++ (spelled w64 n ++ last) in
    let fits : length rest < 2 ^ 63 = omega (arith, short, length-append (spelled w64 (length cs)) rest) in
    let few : length cs ≤ length rest = as-many slice_bytes (λ c. omega arith) cs (spelled w64 n ++ last) in
    ap (option_and_then (λ (m : ℕ × List ℕ). option_map (λ (answers : List ℕ). (m.1, answers)) (option_and_then behind_number (behind_each behind_slice m.0 m.1)))) (number-again (length cs) rest (omega (arith, few, fits)))
    ∙ (ap (λ (o : Option (List ℕ)). option_map (λ (answers : List ℕ). (rest, answers)) (option_and_then behind_number o)) (each-again slice_bytes behind_slice behind_slice-again cs (spelled w64 n ++ last) fits)
    ∙ ap (option_map (λ (answers : List ℕ). (rest, answers))) (behind_number-again n last))

machine-again : (ps : List Placed) (cs : List Slice) (n : ℕ) (last : List ℕ) → length ps < 2 ^ 64 → length (machine_of ps cs n last) < 2 ^ 63 → machine_at (machine_of ps cs n last) ≡ Some (length ps, (flat_map placed_bytes ps ++ (spelled w64 (length cs) ++ (flat_map slice_bytes cs ++ (spelled w64 n ++ last))), (flat_map slice_bytes cs ++ (spelled w64 n ++ last), last)))
machine-again ps cs n last few short =
    let run : List ℕ = spelled w64 (length cs) ++ (flat_map slice_bytes cs ++ (spelled w64 n ++ last)) in
    let nodes : List ℕ = flat_map placed_bytes ps ++ run in
    let fits : length nodes < 2 ^ 63 = omega (arith, short, length-append (spelled w64 (length ps)) nodes) in
    ap (option_and_then (λ (m : ℕ × List ℕ). option_map (λ (t : List ℕ × List ℕ). (m.0, (m.1, t))) (option_and_then slices_at (behind_each behind_node m.0 m.1)))) (number-again (length ps) nodes few)
    ∙ (ap (λ (o : Option (List ℕ)). option_map (λ (t : List ℕ × List ℕ). (length ps, (nodes, t))) (option_and_then slices_at o)) (each-again placed_bytes behind_node behind_node-again ps run fits)
    ∙ ap (option_map (λ (t : List ℕ × List ℕ). (length ps, (nodes, t)))) (slices-again cs n last (omega (arith, fits, length-append (flat_map placed_bytes ps) run))))

-- four parts that are found are the four
abbrev Four : Type 0
Four = ℕ × (List ℕ × (List ℕ × List ℕ))

same-four : (a b : Four) → ◌≡◌ {A = Option Four} (Some a) (Some b) → (a.0 ≡ b.0) × ((a.1.0 ≡ b.1.0) × ((a.1.1.0 ≡ b.1.1.0) × (a.1.1.1 ≡ b.1.1.1)))
same-four a b e =
    let same : ◌≡◌ {A = Four} a b = same_Some {A = Four} a b e in
    (ap (λ (p : Four). p.0) same, (ap (λ (p : Four). p.1.0) same, (ap (λ (p : Four). p.1.1.0) same, ap (λ (p : Four). p.1.1.1) same)))

-- they are found in a parcel
abbrev found_in : Key → List Own → Four
found_in k own =
    let behind : List ℕ = spelled w64 (length (solo own).slices) ++ (flat_map slice_bytes (solo own).slices ++ listed answer_bytes (solo own).answers) in
    (length (map (placed (solo own)) (ran_indices (solo own))), (flat_map placed_bytes (map (placed (solo own)) (ran_indices (solo own))) ++ behind, (flat_map slice_bytes (solo own).slices ++ listed answer_bytes (solo own).answers, flat_map answer_bytes (solo own).answers)))

parcel-again : (k : Key) (own : List Own) (bytes : List ℕ) → length bytes < 2 ^ 63 → bytes ≡ parcel_bytes k own → machine_in bytes ≡ Some (found_in k own)
parcel-again k own bytes short is =
    let ps : List Placed = map (placed (solo own)) (ran_indices (solo own)) in
    let machine : List ℕ = machine_of ps (solo own).slices (length (solo own).answers) (flat_map answer_bytes (solo own).answers) in
    let script : List ℕ = spelling (script_of k own) in
    let events : List ℕ = own_text k own in
    let parts : bytes ≡ parts_of k own = is ∙ parcel-parts k own in
    let whole : length (parts_of k own) < 2 ^ 63 = omega (arith, short, ap (λ (bs : List ℕ). length bs) parts) in
    let fits : length machine < 2 ^ 63 = omega (arith, whole, length-append (codes "MALPACK1") (sized script ++ (sized events ++ machine)), length-append (sized script) (sized events ++ machine), length-append (sized events) machine) in
    let few : length ps < 2 ^ 64 = omega (arith, length-map (ran_indices (solo own)) (placed (solo own)), ran-few (solo own)) in
    ap machine_in parts
    ∙ (ap (option_and_then machine_at) (texts-again script events machine whole)
    ∙ machine-again ps (solo own).slices (length (solo own).answers) (flat_map answer_bytes (solo own).answers) few fits)

nodes-flat : (f : ℕ → Placed) (is : List ℕ) → flat_map placed_bytes (map f is) ≡ flat_map (λ i. placed_bytes (f i)) is
nodes-flat f [] = refl
nodes-flat f (i ∷ is) = ap (λ (bs : List ℕ). placed_bytes (f i) ++ bs) (nodes-flat f is)

-- what is cut of a parcel: its nodes, and the bytes of its slices and answers after the opening
pub record IsCut (own : List Own) (count : ℕ) (nodes slices answers : List ℕ) : Type 0 where
  pub to_wake : IsToWake (solo own) count nodes
  pub slices_cut : slices ≡ slices_left (solo own) (solo (take 1 own))
  pub answers_cut : answers ≡ answers_left (solo own) (solo (take 1 own))

-- a job that was opened has no slice and no answer
none-yet : (own : List Own) → IsLawful own → ((solo (take 1 own)).slices ≡ []) × ((solo (take 1 own)).answers ≡ [])
none-yet [] lawful = absurd lawful
none-yet (Opened ask ∷ own) lawful = (refl, refl)
none-yet (Revised r ∷ own) lawful = absurd lawful
none-yet (Reasked w ∷ own) lawful = absurd lawful
none-yet (Closed ∷ own) lawful = absurd lawful
none-yet (Volume v ∷ own) lawful = absurd lawful
none-yet (Started i ∷ own) lawful = absurd lawful
none-yet (Finished i o ∷ own) lawful = absurd lawful
none-yet (Exchanged ∷ own) lawful = absurd lawful

-- what is found in a parcel is what is to wake, to follow and to give
pub cut-whole : (k : Key) (own : List Own) → IsLawful own → All (IsReadBack (solo own)) (ran_indices (solo own)) → (count : ℕ) (nodes slices answers bytes : List ℕ) → length bytes < 2 ^ 63 → bytes ≡ parcel_bytes k own → Some (count, (nodes, (slices, answers))) ≡ machine_in bytes → IsCut own count nodes slices answers
cut-whole k own lawful again count nodes slices answers bytes short is found =
    let parts = same-four (count, (nodes, (slices, answers))) (found_in k own) (found ∙ parcel-again k own bytes short is) in
    let behind : List ℕ = spelled w64 (length (solo own).slices) ++ (flat_map slice_bytes (solo own).slices ++ listed answer_bytes (solo own).answers) in
    let none = none-yet own lawful in
    record {
      to_wake = record {
        indices = ran_indices (solo own);
        more = behind;
        counted = sym (parts.0 ∙ length-map (ran_indices (solo own)) (placed (solo own)));
        low = ran-low (solo own);
        again = recursion_from_All (IsReadBack (solo own)) (ran_indices (solo own)) again;
        front = parts.1.0 ∙ ap (λ (bs : List ℕ). bs ++ behind) (nodes-flat (placed (solo own)) (ran_indices (solo own)));
      };
      slices_cut = rw none.0 parts.1.1.0;
      answers_cut = rw none.1 parts.1.1.1;
    }

-- and something is found
pub always-cut : (k : Key) (own : List Own) (bytes : List ℕ) → length bytes < 2 ^ 63 → bytes ≡ parcel_bytes k own → None ≡ machine_in bytes → ⊥
always-cut k own bytes short is none = none-some (found_in k own) (none ∙ parcel-again k own bytes short is)

-- a job that was opened stands after its first event
pub opened-replayed : (number : ℕ) (key : Key) (own : List Own) (made : JobView) (count : ℕ) (nodes slices answers : List ℕ) → made ≡ unstarted number (record { key = key; state = solo (take 1 own) }) → IsCut own count nodes slices answers → IsReplayed made.number made.titled.key own (take 1 own) made slices answers
opened-replayed number key own made count nodes slices answers e cut = record {
  job = subst (λ (v : JobView). v ≡ unstarted v.number (record { key = v.titled.key; state = solo (take 1 own) })) (sym e) refl;
  slices_to_come = cut.slices_cut;
  answers_to_come = cut.answers_cut;
}

-- what was made of it is the job
pub made-whole : (number : ℕ) (key : Key) (own : List Own) (made done last : JobView) → made ≡ unstarted number (record { key = key; state = solo (take 1 own) }) → done ≡ unstarted made.number (record { key = made.titled.key; state = solo own }) → last ≡ done → last ≡ unstarted number (record { key = key; state = solo own })
made-whole number key own made done last e f g = g ∙ (f ∙ ap (λ (v : JobView). unstarted v.number (record { key = v.titled.key; state = solo own })) e)
