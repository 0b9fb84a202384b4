-- Which replies a history has, and how many were told of them.
use Rattle.std.proofs.Common.{◌≡◌, ℕ, zero, suc, ◌+◌, ◌<◌, ◌≤◌, Bool, true, false, cond, ◌||◌, nat_lt, List, [], ◌∷◌, ◌++◌, length, map, filter, Option, Some, None, is_some, refl, sym, ◌∙◌, ap, subst, arith}
use Rattle.std.specs.Prelude.{All, slice_get}
use Rattle.std.specs.List.{list_any}
use Rattle.std.specs.Option.{option_map}
use Rattle.std.proofs.lemmas.Bool.Decides.{nat_tests}
use Rattle.std.proofs.lemmas.List.Elements.{All-nil, All-cons, All-head, All-tail}
use Rattle.std.proofs.lemmas.Option.{slice_get_past, slice_get_within}
use Rattle.mal_base.specs.declared.answer.Answer.{Answer}
use Rattle.spec_job.specs.KeyedJob.{Key}
use Rattle.spec_job.specs.Replies.{reply}
use Rattle.spec_job.specs.SoloMachine.{SoloMachine, is_live, solo}
use Rattle.spec_job.proofs.ReplyLemmas.{reply-at}
use Rattle.spec_node.specs.Load.{counted}
use Rattle.spec_hall.specs.Events.{Event, moves}
use Rattle.spec_hall.specs.Legal.{Legal}
use Rattle.spec_hall.specs.Own.{is_key, own}
use Rattle.spec_hall.specs.States.{keys_of, live_of, live_ones, lives, states, titled}
use Rattle.spec_hall.proofs.KeyLemmas.{is_key-Decides}
use Rattle.spec_hall.proofs.RunnableLemmas.{legal-answers_follow}
use Rattle.spec_live.specs.Live.{AreTold, Told, is_to, reply_in, told_to}
use Rattle.spec_live.proofs.Order.{counted-push}
use Rattle.spec_live.proofs.UnknownLemmas.{unknown-has_no_revision}

-- a reply that is there is to one of the revisions that are answered
pub reply-low : (k : Key) (r : ℕ) (s : SoloMachine) (text : List ℕ) → reply k r s ≡ Some text → r ≤ length s.answers
reply-low k zero s text there = omega arith
reply-low k (suc n) s text there =
    let at = reply-at k s n text there in
    let within : n < length s.answers = slice_get_within s.answers n at.0 at.1 in
    omega (arith, within)

-- and one that is not there, to none of them
pub reply-none : (k : Key) (n : ℕ) (s : SoloMachine) → reply k (suc n) s ≡ None → length s.answers ≤ n
reply-none k n s none = past s.answers n (unmapped _ _ (slice_get s.answers n) none)
  where
    past : (xs : List Answer) (i : ℕ) → slice_get xs i ≡ None → length xs ≤ i
    past [] i e = omega arith
    past (x ∷ xs) zero e = absurd (cc)
    past (x ∷ xs) (suc i) e = let rest : length xs ≤ i = past xs i e in omega (arith, rest)

    unmapped : {A B C : Type 0} (f : B → C) (g : A → B) (o : Option A) → option_map f (option_map g o) ≡ None → o ≡ None
    unmapped f g None e = refl
    unmapped f g (Some x) e = absurd (cc)

-- beyond the answers there is none
pub reply-past : (k : Key) (n : ℕ) (s : SoloMachine) → length s.answers ≤ n → reply k (suc n) s ≡ None
reply-past k n s past = mapped _ _ (slice_get s.answers n) (slice_get_past s.answers n past)
  where
    mapped : {A B C : Type 0} (f : B → C) (g : A → B) (o : Option A) → o ≡ None → option_map f (option_map g o) ≡ None
    mapped f g o none = ap (λ x. option_map f (option_map g x)) none

-- so there is none to a later revision either
pub later-none : (k : Key) (s : SoloMachine) (m n : ℕ) → m ≤ n → reply k (m + 1) s ≡ None → reply k (n + 1) s ≡ None
later-none k s m n later none =
    let here : m + 1 ≡ suc m = omega arith in
    let there : suc n ≡ n + 1 = omega arith in
    let past : length s.answers ≤ m = reply-none k m s (ap (λ (r : ℕ). reply k r s) (sym here) ∙ none) in
    ap (λ (r : ℕ). reply k r s) (sym there) ∙ reply-past k n s (omega (arith, past, later))

-- the replies to a job that were told are to revisions that are answered
told-answered : (h : List Event) (k : Key) (told : List Told) → All (λ t. is_some (reply_in h t) ≡ true) told → All (λ r. r ≤ length (solo (own k h)).answers) (told_to k told)
told-answered h k [] answered = All-nil (λ r. r ≤ length (solo (own k h)).answers)
told-answered h k (t ∷ ts) answered = by_key (is_key k t.key) refl (told-answered h k ts (All-tail (λ (x : Told). is_some (reply_in h x) ≡ true) t ts answered))
  where
    here : is_some (reply_in h t) ≡ true
    here = All-head (λ (x : Told). is_some (reply_in h x) ≡ true) t ts answered

    low : (o : Option (List ℕ)) → reply_in h t ≡ o → is_some o ≡ true → t.revision ≤ length (solo (own t.key h)).answers
    low None is there = absurd (cc)
    low (Some text) is there = reply-low t.key t.revision (solo (own t.key h)) text is

    by_key : (b : Bool) → is_key k t.key ≡ b → All (λ r. r ≤ length (solo (own k h)).answers) (map (λ (x : Told). x.revision) (filter (is_to k) ts)) → All (λ r. r ≤ length (solo (own k h)).answers) (map (λ (x : Told). x.revision) (cond b (t ∷ filter (is_to k) ts) (filter (is_to k) ts)))
    by_key true same rest = All-cons (λ r. r ≤ length (solo (own k h)).answers) t.revision (map (λ (x : Told). x.revision) (filter (is_to k) ts)) (subst (λ (j : Key). t.revision ≤ length (solo (own j h)).answers) (sym ((is_key-Decides k t.key).0 same)) (low (reply_in h t) refl here)) rest
    by_key false other rest = rest

-- the last of numbers that are counted from 1
last-counted : (bound n : ℕ) → All (λ r. r ≤ bound) (counted 1 n) → n ≤ bound
last-counted bound zero all = omega arith
last-counted bound (suc n) all = All-last (counted 1 n) (subst (All (λ r. r ≤ bound)) (ap (counted 1) more ∙ counted-push n) all)
  where
    more : suc n ≡ n + 1
    more = omega arith

    All-last : (xs : List ℕ) → All (λ r. r ≤ bound) (xs ++ (n + 1) ∷ []) → suc n ≤ bound
    All-last [] a = let here : n + 1 ≤ bound = All-head (λ r. r ≤ bound) (n + 1) [] a in omega (arith, here)
    All-last (x ∷ xs) a = All-last xs (All-tail (λ r. r ≤ bound) x (xs ++ (n + 1) ∷ []) a)

-- no more replies to a job were told than revisions are answered
pub told-low : (h : List Event) (told : List Told) (k : Key) → AreTold h told → length (told_to k told) ≤ length (solo (own k h)).answers
told-low h told k are = last-counted (length (solo (own k h)).answers) (length (told_to k told)) (subst (All (λ r. r ≤ length (solo (own k h)).answers)) (are.order k) (told-answered h k told are.answered))

not-below : (a b : ℕ) → nat_lt a b ≡ false → b ≤ a
not-below a b e = grind (arith, nat_tests)

-- where no job is live, none of these is
none-live : (h : List Event) (k : Key) (ks : List Key) → list_any (is_key k) ks ≡ true → lives (map (titled h) ks) ≡ [] → is_live (solo (own k h)) ≡ false
none-live h k [] among none = absurd (cc)
none-live h k (j ∷ js) among none = by_live (none-live h k js) (is_live (solo (own j h))) refl none
  where
    by_key : (list_any (is_key k) js ≡ true → is_live (solo (own k h)) ≡ false) → (b : Bool) → is_key k j ≡ b → (b || list_any (is_key k) js) ≡ true → is_live (solo (own j h)) ≡ false → is_live (solo (own k h)) ≡ false
    by_key rest true same there still = subst (λ (i : Key). is_live (solo (own i h)) ≡ false) (sym ((is_key-Decides k j).0 same)) still
    by_key rest false other there still = rest there

    by_live : (list_any (is_key k) js ≡ true → lives (map (titled h) js) ≡ [] → is_live (solo (own k h)) ≡ false) → (b : Bool) → is_live (solo (own j h)) ≡ b → map live_of (cond b (titled h j ∷ live_ones (map (titled h) js)) (live_ones (map (titled h) js))) ≡ [] → is_live (solo (own k h)) ≡ false
    by_live rest true is e = absurd (cc)
    by_live rest false is e = by_key (λ there. rest there e) (is_key k j) refl among is

-- where no job is live, each revision is answered
pub all-answered : (workers : ℕ) (h : List Event) (k : Key) → Legal workers h → list_any moves h ≡ false → lives (states h) ≡ [] → length (solo (own k h)).answers ≡ length (solo (own k h)).revisions
all-answered workers h k legal still none = by_known (list_any (is_key k) (keys_of h)) refl
  where
    s : SoloMachine
    s = solo (own k h)

    follow : length s.answers ≤ length s.revisions
    follow = legal-answers_follow workers h legal k

    by_known : (b : Bool) → list_any (is_key k) (keys_of h) ≡ b → length s.answers ≡ length s.revisions
    by_known true known =
        let all : length s.revisions ≤ length s.answers = not-below (length s.answers) (length s.revisions) (none-live h k (keys_of h) known none) in
        omega (arith, follow, all)
    by_known false unknown =
        let no : length s.revisions ≡ 0 = ap length (unknown-has_no_revision workers h k legal still unknown).0 in
        omega (arith, follow, no)
