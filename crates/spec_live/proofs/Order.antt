-- The order of telling: what was told of each job, one part after the other, and numbers counted from 1.
use Rattle.std.proofs.Common.{◌≡◌, ℕ, zero, suc, ◌+◌, Bool, true, false, cond, List, [], ◌∷◌, ◌++◌, length, map, filter, is_some, refl, sym, ◌∙◌, ap, subst, arith, append-nil, length-append}
use Rattle.std.proofs.lemmas.List.{map-append}
use Rattle.std.proofs.lemmas.List.Concat.{flat_map-append}
use Rattle.std.proofs.lemmas.List.Elements.{All-nil, All-push, filter-append}
use Rattle.spec_job.specs.KeyedJob.{Key}
use Rattle.spec_node.specs.Load.{counted}
use Rattle.spec_hall.specs.Events.{Event}
use Rattle.spec_hall.specs.Own.{is_key}
use Rattle.spec_hall.proofs.KeyLemmas.{is_key-Decides, is_key-same}
use Rattle.spec_run.specs.Run.{text_or_none}
use Rattle.spec_live.specs.Live.{AreTold, Told, is_to, reply_in, to, told_text, told_to}

-- numbers from the first on, in two parts
pub counted-append : (first n m : ℕ) → counted first (n + m) ≡ counted first n ++ counted (first + n) m
counted-append first zero m =
    let same : zero + m ≡ m = omega arith in
    let at : first ≡ first + zero = omega arith in
    ap (counted first) same ∙ ap (λ (x : ℕ). counted x m) at
counted-append first (suc n) m =
    let more : suc n + m ≡ suc (n + m) = omega arith in
    let at : (first + 1) + n ≡ first + suc n = omega arith in
    ap (counted first) more ∙ (ap (λ (xs : List ℕ). first ∷ xs) (counted-append (first + 1) n m) ∙ ap (λ (x : ℕ). first ∷ (counted (first + 1) n ++ counted x m)) at)

-- those from 1 on
pub counted-parts : (n m : ℕ) → counted 1 (n + m) ≡ counted 1 n ++ counted (n + 1) m
counted-parts n m =
    let at : 1 + n ≡ n + 1 = omega arith in
    counted-append 1 n m ∙ ap (λ (x : ℕ). counted 1 n ++ counted x m) at

-- one number more
pub counted-push : (n : ℕ) → counted 1 (n + 1) ≡ counted 1 n ++ (n + 1) ∷ []
counted-push n = counted-parts n 1

-- as many as are counted
pub counted-length : (first n : ℕ) → length (counted first n) ≡ n
counted-length first zero = refl
counted-length first (suc n) =
    let rest : length (counted (first + 1) n) ≡ n = counted-length (first + 1) n in
    omega (arith, rest)

-- what was told of a job in two parts
pub told_to-append : (k : Key) (a b : List Told) → told_to k (a ++ b) ≡ told_to k a ++ told_to k b
told_to-append k a b = ap (map (λ (t : Told). t.revision)) (filter-append (is_to k) a b) ∙ map-append (λ (t : Told). t.revision) (filter (is_to k) a) (filter (is_to k) b)

-- one reply is told to its job
pub told_to-mine : (k : Key) (r : ℕ) → told_to k (to k r ∷ []) ≡ r ∷ []
told_to-mine k r = ap (λ (b : Bool). map (λ (t : Told). t.revision) (cond b (to k r ∷ []) [])) (is_key-same k)

-- and to no other
pub told_to-other : (k j : Key) (r : ℕ) → is_key k j ≡ false → told_to k (to j r ∷ []) ≡ []
told_to-other k j r other = ap (λ (b : Bool). map (λ (t : Told). t.revision) (cond b (to j r ∷ []) [])) other

-- what was told of a job with one reply more to it
pub told_to-push : (k : Key) (told : List Told) (r : ℕ) → told_to k (told ++ to k r ∷ []) ≡ told_to k told ++ r ∷ []
told_to-push k told r = told_to-append k told (to k r ∷ []) ∙ ap (λ (rs : List ℕ). told_to k told ++ rs) (told_to-mine k r)

-- and with one to another job
pub told_to-stays : (k j : Key) (told : List Told) (r : ℕ) → is_key k j ≡ false → told_to k (told ++ to j r ∷ []) ≡ told_to k told
told_to-stays k j told r other = told_to-append k told (to j r ∷ []) ∙ (ap (λ (rs : List ℕ). told_to k told ++ rs) (told_to-other k j r other) ∙ append-nil (told_to k told))

-- the text of what was told in two parts
pub told_text-append : (history : List Event) (a b : List Told) → told_text history (a ++ b) ≡ told_text history a ++ told_text history b
unfolding told_text
told_text-append history a b = flat_map-append (λ (t : Told). text_or_none (reply_in history t)) a b

-- nothing was told
pub told-none : (history : List Event) → AreTold history []
told-none history = record { answered = All-nil (λ (t : Told). is_some (reply_in history t) ≡ true); order = λ k. refl }

-- numbers that are counted from 1 stay so with the next one
more-counted : (xs ys : List ℕ) (r : ℕ) → xs ≡ counted 1 (length xs) → r ≡ length xs + 1 → ys ≡ xs ++ r ∷ [] → ys ≡ counted 1 (length ys)
more-counted xs ys r order next same =
    let count : length ys ≡ length xs + 1 = ap (λ (zs : List ℕ). length zs) same ∙ length-append xs (r ∷ []) in
    same
    ∙ (ap (λ (n : ℕ). xs ++ n ∷ []) next
    ∙ (ap (λ (zs : List ℕ). zs ++ (length xs + 1) ∷ []) order
    ∙ (sym (counted-push (length xs)) ∙ ap (counted 1) (sym count))))

-- the reply to the next revision of a job is told after what was told
pub told-more : (history : List Event) (told : List Told) (k : Key) (r : ℕ) → AreTold history told → is_some (reply_in history (to k r)) ≡ true → r ≡ length (told_to k told) + 1 → AreTold history (told ++ to k r ∷ [])
told-more history told k r are there next = record {
  answered = All-push (λ (t : Told). is_some (reply_in history t) ≡ true) told (to k r) are.answered there;
  order = λ j. by_key j (is_key j k) refl;
}
  where
    by_key : (j : Key) (b : Bool) → is_key j k ≡ b → told_to j (told ++ to k r ∷ []) ≡ counted 1 (length (told_to j (told ++ to k r ∷ [])))
    by_key j true same = subst (λ (i : Key). told_to i (told ++ to k r ∷ []) ≡ counted 1 (length (told_to i (told ++ to k r ∷ [])))) (sym ((is_key-Decides j k).0 same)) (more-counted (told_to k told) (told_to k (told ++ to k r ∷ [])) r (are.order k) next (told_to-push k told r))
    by_key j false other = subst (λ (rs : List ℕ). rs ≡ counted 1 (length rs)) (sym (told_to-stays j k told r other)) (are.order j)

-- and its text stands after that of what was told
pub told_text-push : (history : List Event) (told : List Told) (t : Told) → told_text history (told ++ t ∷ []) ≡ told_text history told ++ text_or_none (reply_in history t)
unfolding told_text
told_text-push history told t = told_text-append history told (t ∷ []) ∙ ap (λ (text : List ℕ). told_text history told ++ text) (append-nil (text_or_none (reply_in history t)))
