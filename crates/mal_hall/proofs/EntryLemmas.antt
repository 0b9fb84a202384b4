-- Events that are written down, with what stands at them.
use Rattle.std.proofs.Common.{◌≡◌, ℕ, zero, suc, ◌+◌, ◌≤◌, List, [], ◌∷◌, ◌++◌, map, length, take, get_or, slice_get, Option, Some, None, option_map, refl, sym, ◌∙◌, ap, add-one, arith}
use Rattle.std.specs.declared.boxed.Box.{Box}
use Rattle.std.proofs.lemmas.List.{take_all}
use Rattle.mal_history.specs.declared.event.Event as written
use Rattle.mal_history.specs.declared.event.Event.TheVariants as of
use Rattle.spec_hall.specs.Events.{Event, bare}
use Rattle.mal_hall.specs.declared.content.Content.{Content}
use Rattle.mal_hall.specs.Entered.{filled, full, unboxed}

-- what stands at an event is not written down
bare-full : (e : written.Event) (content : Option Content) → bare (full e content) ≡ e
bare-full (of.Open tenant job ask) content = refl
bare-full (of.Revise tenant job number) content = refl
bare-full (of.Reask tenant job weight) content = refl
bare-full (of.Close tenant job) content = refl
bare-full (of.Balance volumes) content = refl
bare-full (of.Start tenant job index worker) content = refl
bare-full (of.Finish tenant job index worker outcome) content = refl
bare-full (of.Exchange tenant job) content = refl
bare-full (of.Leave tenant job) content = refl
bare-full (of.Arrive tenant job) content = refl

bare-filled : (es : List written.Event) (contents : List (Option Content)) → length contents ≡ length es → map bare (filled es contents) ≡ es
bare-filled [] contents long = refl
bare-filled (e ∷ es) [] long = absurd (omega (arith, long))
bare-filled (e ∷ es) (c ∷ cs) long =
    ap (λ (x : written.Event). x ∷ map bare (filled es cs)) (bare-full e c)
    ∙ ap (λ (xs : List written.Event). e ∷ xs) (bare-filled es cs (omega (arith, long)))

boxes-long : {X Z : Type 0} (boxes : List (Option (Box X Z))) → length (unboxed boxes) ≡ length boxes
boxes-long [] = refl
boxes-long (b ∷ bs) = omega (arith, boxes-long bs)

-- what is written down of events that are filled from boxes
pub written_down : {Z : Type 0} (es : List written.Event) (boxes : List (Option (Box Content Z))) → length boxes ≡ length es → es ≡ map bare (filled es (unboxed boxes))
written_down es boxes long = sym (bare-filled es (unboxed boxes) (boxes-long boxes ∙ long))

-- one more event, with what stands at it
pub one_more : {Z : Type 0} (es : List written.Event) (boxes : List (Option (Box Content Z))) (e : written.Event) (box : Option (Box Content Z)) → length boxes ≡ length es → filled (es ++ e ∷ []) (unboxed (boxes ++ box ∷ [])) ≡ filled es (unboxed boxes) ++ full e (option_map (λ b. b.value) box) ∷ []
one_more [] [] e box long = refl
one_more [] (b ∷ bs) e box long = absurd (omega (arith, long))
one_more (x ∷ es) [] e box long = absurd (omega (arith, long))
one_more (x ∷ es) (b ∷ bs) e box long = ap (λ (xs : List Event). full x (option_map (λ c. c.value) b) ∷ xs) (one_more es bs e box (omega (arith, long)))

-- the events in front of a place and the one there
front-more : (es : List written.Event) (cs : List (Option Content)) (i : ℕ) (e : written.Event) → length cs ≡ length es → slice_get es i ≡ Some e → take (suc i) (filled es cs) ≡ take i (filled es cs) ++ full e (get_or cs i None) ∷ []
front-more [] cs i e long there = absurd (cc)
front-more (x ∷ es) [] i e long there = absurd (omega (arith, long))
front-more (x ∷ es) (c ∷ cs) zero e long there = let same : x ≡ e = cc in ap (λ (y : written.Event). let one : List Event = full y c ∷ [] in one) same
front-more (x ∷ es) (c ∷ cs) (suc i) e long there = ap (λ (ys : List Event). full x c ∷ ys) (front-more es cs i e (omega (arith, long)) there)

pub filled-more : {Z : Type 0} (es : List written.Event) (boxes : List (Option (Box Content Z))) (i : ℕ) (e : written.Event) → length boxes ≡ length es → slice_get es i ≡ Some e → take (i + 1) (filled es (unboxed boxes)) ≡ take i (filled es (unboxed boxes)) ++ full e (get_or (unboxed boxes) i None) ∷ []
filled-more es boxes i e long there = ap (λ (n : ℕ). take n (filled es (unboxed boxes))) (add-one i) ∙ front-more es (unboxed boxes) i e (boxes-long boxes ∙ long) there

-- as many events are filled as are written down
filled-long : (es : List written.Event) (cs : List (Option Content)) → length cs ≡ length es → length (filled es cs) ≡ length es
filled-long [] cs long = refl
filled-long (e ∷ es) [] long = absurd (omega (arith, long))
filled-long (e ∷ es) (c ∷ cs) long = ap suc (filled-long es cs (omega (arith, long)))

pub filled-all : {Z : Type 0} (es : List written.Event) (boxes : List (Option (Box Content Z))) (i : ℕ) → length boxes ≡ length es → length es ≤ i → take i (filled es (unboxed boxes)) ≡ filled es (unboxed boxes)
filled-all es boxes i long all = take_all i (filled es (unboxed boxes)) (omega (arith, all, filled-long es (unboxed boxes) (boxes-long boxes ∙ long)))

-- what stands at a place
pub unboxed-none : {X Z : Type 0} (boxes : List (Option (Box X Z))) (n : ℕ) → slice_get boxes n ≡ None → None ≡ get_or (unboxed boxes) n None
unboxed-none [] n none = refl
unboxed-none (b ∷ bs) zero none = absurd (cc)
unboxed-none (b ∷ bs) (suc n) none = unboxed-none bs n none

pub unboxed-some : {X Z : Type 0} (boxes : List (Option (Box X Z))) (n : ℕ) (box : Option (Box X Z)) → slice_get boxes n ≡ Some box → option_map (λ (b : Box X Z). b.value) box ≡ get_or (unboxed boxes) n None
unboxed-some [] n box there = absurd (cc)
unboxed-some {X} {Z} (b ∷ bs) zero box there =
    let same : b ≡ box = cc in
    ap (option_map (λ (x : Box X Z). x.value)) (sym same)
unboxed-some (b ∷ bs) (suc n) box there = unboxed-some bs n box there
