-- What is written at the front of bytes is taken from there.
use Rattle.std.proofs.Common.{◌≡◌, ℕ, suc, ◌+◌, ◌-◌, ◌<◌, ◌^◌, Bool, true, false, ltb, List, [], ◌∷◌, ◌++◌, length, take, drop, Option, Some, None, refl, sym, ap, ◌∙◌, arith, append_assoc}
use Rattle.std.specs.Prelude.{◌==◌, codes, flat_map, option_map, option_and_then}
use Rattle.std.specs.Int.{w64, from_be_bytes}
use Rattle.std.proofs.lemmas.Bool.{le-ltb}
use Rattle.std.proofs.lemmas.List.{length-append, take_at, drop_at}
use Rattle.std.proofs.lemmas.Option.{none-some, same_Some}
use Rattle.mal_freeze.specs.Spelling.{spelled, phase_code}
use Rattle.spec_job.specs.SoloMachine.{Slice}
use Rattle.spec_parcel.specs.Packed.{Placed, placed_bytes, sized, slice_bytes}
use Rattle.spec_parcel.proofs.SizedLemmas.{spelled-front}
use Rattle.mal_parcel.specs.Taking.{behind_each, behind_magic, behind_node, behind_number, behind_sized, behind_slice, behind_texts, front_at, number_at, placed_at, sized_at, told_at}
use Rattle.mal_parcel.proofs.ReadLemmas.{text_of_lines}

-- what is known of what was taken, in a view
pub never-taken : {X Y : Type 0} (view : X → Y) (taken : Option X) (y : Y) → option_map view taken ≡ Some y → taken ≡ None → ⊥
never-taken view taken y some none = none-some y (sym (ap (option_map view) none) ∙ some)

pub some-taken : {X Y : Type 0} (view : X → Y) (taken : Option X) (x : X) (y : Y) → option_map view taken ≡ Some y → taken ≡ Some x → view x ≡ y
some-taken view taken x y some is = same_Some (view x) y (sym (ap (option_map view) is) ∙ some)

spelled-length : (n : ℕ) → length (spelled w64 n) ≡ 8
unfolding spelled
spelled-length n = refl

-- a number
number-long : (n : ℕ) (more : List ℕ) → ltb (length (spelled w64 n ++ more)) 8 ≡ false
number-long n more = le-ltb _ _ (omega (arith, length-append (spelled w64 n) more, spelled-length n))

pub number-again : (n : ℕ) (more : List ℕ) → n < 2 ^ 64 → number_at (spelled w64 n ++ more) ≡ Some (n, more)
number-again n more lt =
    let front = spelled-front n more lt in
    rw (number-long n more, front.0, front.1) refl

-- any number is one of 8 bytes
number-some : (n : ℕ) (more : List ℕ) → number_at (spelled w64 n ++ more) ≡ Some (from_be_bytes w64 (take 8 (spelled w64 n ++ more)), more)
number-some n more =
    let behind : drop 8 (spelled w64 n ++ more) ≡ more = drop_at (spelled w64 n) more 8 (spelled-length n) in
    rw (number-long n more, behind) refl

pub behind_number-again : (n : ℕ) (more : List ℕ) → behind_number (spelled w64 n ++ more) ≡ Some more
behind_number-again n more = ap (option_map (λ (x : ℕ × List ℕ). x.1)) (number-some n more)

-- so many bytes
pub front-again : (xs more : List ℕ) → front_at (length xs) (xs ++ more) ≡ Some (xs, more)
front-again xs more =
    let long : ltb (length (xs ++ more)) (length xs) ≡ false = le-ltb _ _ (omega (arith, length-append xs more)) in
    let front : take (length xs) (xs ++ more) ≡ xs = take_at xs more (length xs) refl in
    let behind : drop (length xs) (xs ++ more) ≡ more = drop_at xs more (length xs) refl in
    rw (long, front, behind) refl

-- bytes after their length
sized-length : (xs more : List ℕ) → length (sized xs ++ more) ≡ 8 + (length xs + length more)
sized-length xs more = omega (arith, length-append (sized xs) more, length-append (spelled w64 (length xs)) xs, spelled-length (length xs))

pub sized-again : (xs more : List ℕ) → length (sized xs ++ more) < 2 ^ 63 → sized_at (sized xs ++ more) ≡ Some (xs, more)
sized-again xs more short =
    ap sized_at (append_assoc (spelled w64 (length xs)) xs more)
    ∙ (ap (option_and_then (λ (n : ℕ × List ℕ). front_at n.0 n.1)) (number-again (length xs) (xs ++ more) (omega (arith, short, sized-length xs more)))
    ∙ front-again xs more)

behind_sized-again : (xs more : List ℕ) → length (sized xs ++ more) < 2 ^ 63 → behind_sized (sized xs ++ more) ≡ Some more
behind_sized-again xs more short = ap (option_map (λ (t : List ℕ × List ℕ). t.1)) (sized-again xs more short)

-- a slice begins with its first byte, then the count of its lines, then their text
slice-parts : (c : Slice) (more : List ℕ) → slice_bytes c ++ more ≡ phase_code c.ends ∷ (spelled w64 (length c.lines) ++ (sized (text_of_lines c.lines) ++ more))
slice-parts c more = ap (λ (bs : List ℕ). phase_code c.ends ∷ bs) (append_assoc (spelled w64 (length c.lines)) (sized (text_of_lines c.lines)) more)

pub phase-again : (b : Bool) → (phase_code b == 1) ≡ b
phase-again true = refl
phase-again false = refl

pub told-again : (c : Slice) (more : List ℕ) → length (slice_bytes c ++ more) < 2 ^ 63 → told_at (slice_bytes c ++ more) ≡ Some (c.ends, (text_of_lines c.lines, more))
told-again c more short =
    let text : List ℕ = text_of_lines c.lines in
    let parts : length (slice_bytes c ++ more) ≡ suc (length (spelled w64 (length c.lines) ++ (sized text ++ more))) = ap (λ (bs : List ℕ). length bs) (slice-parts c more) in
    let fits : length (sized text ++ more) < 2 ^ 63 = omega (arith, short, parts, length-append (spelled w64 (length c.lines)) (sized text ++ more)) in
    ap told_at (slice-parts c more)
    ∙ (ap (λ (rest : Option (List ℕ)). option_map (λ (t : List ℕ × List ℕ). (phase_code c.ends == 1, t)) (option_and_then sized_at rest)) (behind_number-again (length c.lines) (sized text ++ more))
    ∙ (ap (option_map (λ (t : List ℕ × List ℕ). (phase_code c.ends == 1, t))) (sized-again text more fits)
    ∙ ap (λ (b : Bool). Some (b, (text, more))) (phase-again c.ends)))

pub behind_slice-again : (c : Slice) (more : List ℕ) → length (slice_bytes c ++ more) < 2 ^ 63 → behind_slice (slice_bytes c ++ more) ≡ Some more
behind_slice-again c more short = ap (option_map (λ (t : Bool × (List ℕ × List ℕ)). t.1.1)) (told-again c more short)

-- a node
placed-short : (p : Placed) (more : List ℕ) → length (placed_bytes p ++ more) < 2 ^ 63 → length (sized p.image ++ more) < 2 ^ 63
placed-short p more short = omega (arith, short, length-append (placed_bytes p) more, length-append (spelled w64 p.index) (sized p.image), length-append (sized p.image) more)

pub placed-again : (p : Placed) (more : List ℕ) → p.index < 2 ^ 64 → length (placed_bytes p ++ more) < 2 ^ 63 → placed_at (placed_bytes p ++ more) ≡ Some (p.index, (p.image, more))
placed-again p more lt short =
    ap placed_at (append_assoc (spelled w64 p.index) (sized p.image) more)
    ∙ (ap (option_and_then (λ (n : ℕ × List ℕ). option_map (λ (t : List ℕ × List ℕ). (n.0, t)) (sized_at n.1))) (number-again p.index (sized p.image ++ more) lt)
    ∙ ap (option_map (λ (t : List ℕ × List ℕ). (p.index, t))) (sized-again p.image more (placed-short p more short)))

pub behind_node-again : (p : Placed) (more : List ℕ) → length (placed_bytes p ++ more) < 2 ^ 63 → behind_node (placed_bytes p ++ more) ≡ Some more
behind_node-again p more short =
    let bytes : List ℕ = sized p.image ++ more in
    ap behind_node (append_assoc (spelled w64 p.index) (sized p.image) more)
    ∙ (ap (λ (n : Option (ℕ × List ℕ)). option_map (λ (q : ℕ × (List ℕ × List ℕ)). q.1.1) (option_and_then (λ (m : ℕ × List ℕ). option_map (λ (t : List ℕ × List ℕ). (m.0, t)) (sized_at m.1)) n)) (number-some p.index bytes)
    ∙ ap (λ (t : Option (List ℕ × List ℕ)). option_map (λ (q : ℕ × (List ℕ × List ℕ)). q.1.1) (option_map (λ (u : List ℕ × List ℕ). (from_be_bytes w64 (take 8 (spelled w64 p.index ++ bytes)), u)) t)) (sized-again p.image more (placed-short p more short)))

-- so many of a kind
pub each-again : {X : Type 0} (f : X → List ℕ) (pass : List ℕ → Option (List ℕ)) → ((x : X) (more : List ℕ) → length (f x ++ more) < 2 ^ 63 → pass (f x ++ more) ≡ Some more) → (xs : List X) (more : List ℕ) → length (flat_map f xs ++ more) < 2 ^ 63 → behind_each pass (length xs) (flat_map f xs ++ more) ≡ Some more
each-again {X} f pass again [] more short = refl
each-again {X} f pass again (x ∷ xs) more short =
    let rest : List ℕ = flat_map f xs ++ more in
    let apart : (f x ++ flat_map f xs) ++ more ≡ f x ++ rest = append_assoc (f x) (flat_map f xs) more in
    let whole : length (f x ++ rest) < 2 ^ 63 = omega (arith, short, ap (λ (bs : List ℕ). length bs) apart) in
    ap (λ (bs : List ℕ). option_and_then (behind_each pass (length xs)) (pass bs)) apart
    ∙ (ap (option_and_then (behind_each pass (length xs))) (again x rest whole)
    ∙ each-again f pass again xs more (omega (arith, whole, length-append (f x) rest)))

-- one of so many is not there, or is passed
one-more : (pass : List ℕ → Option (List ℕ)) (count n : ℕ) (rest : List ℕ) → n < count → behind_each pass (count - n) rest ≡ option_and_then (behind_each pass (count - (n + 1))) (pass rest)
one-more pass count n rest low =
    let more : count - n ≡ suc (count - (n + 1)) = omega (arith, low) in
    ap (λ (k : ℕ). behind_each pass k rest) more

pub each-none : (pass : List ℕ → Option (List ℕ)) (count n : ℕ) (rest : List ℕ) → n < count → pass rest ≡ None → behind_each pass (count - n) rest ≡ None
each-none pass count n rest low none = one-more pass count n rest low ∙ ap (option_and_then (behind_each pass (count - (n + 1)))) none

pub each-next : (pass : List ℕ → Option (List ℕ)) (count n : ℕ) (rest more : List ℕ) → n < count → pass rest ≡ Some more → behind_each pass (count - n) rest ≡ behind_each pass (count - (n + 1)) more
each-next pass count n rest more low some = one-more pass count n rest low ∙ ap (option_and_then (behind_each pass (count - (n + 1)))) some

-- the magic word, the script and the own events
pub texts-again : (script events more : List ℕ) → length (codes "MALPACK1" ++ (sized script ++ (sized events ++ more))) < 2 ^ 63 → behind_texts (codes "MALPACK1" ++ (sized script ++ (sized events ++ more))) ≡ Some more
texts-again script events more short =
    let magic : behind_magic (codes "MALPACK1" ++ (sized script ++ (sized events ++ more))) ≡ Some (sized script ++ (sized events ++ more)) = refl in
    let fits : length (sized script ++ (sized events ++ more)) < 2 ^ 63 = omega (arith, short, length-append (codes "MALPACK1") (sized script ++ (sized events ++ more))) in
    ap (λ (rest : Option (List ℕ)). option_and_then behind_sized (option_and_then behind_sized rest)) magic
    ∙ (ap (option_and_then behind_sized) (behind_sized-again script (sized events ++ more) fits)
    ∙ behind_sized-again events more (omega (arith, fits, length-append (sized script) (sized events ++ more))))
