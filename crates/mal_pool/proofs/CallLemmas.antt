-- What a call of the service adds to the calls that its pass tells.
use Rattle.std.proofs.Common.{◌≡◌, ℕ, Bool, true, false, ◌||◌, cond, List, [], ◌∷◌, ◌++◌, refl, sym, ap, ◌∙◌, subst, append-nil, true≢false, inl, inr, Option, Some, None, Result, Ok, Err}
use Rattle.std.specs.List.{cons_option, filter_map}
use Rattle.std.proofs.lemmas.List.Elements.{filter_map-append}
use Rattle.mal_turn.specs.declared.view.View.{View}
use Rattle.mal_turn.specs.declared.view.Numbers.{Numbers}
use Rattle.mal_turn.specs.Numbers.{among, part, same}
use Rattle.mal_turn.specs.Rule.{Begins, joined, splitting}
use Rattle.spec_job.specs.Leased.{Finished}
use Rattle.mal_base.specs.declared.hall_fault.PickFault.{PickFault}
use Rattle.spec_hall.specs.Calls.{Offer, Return}
use Rattle.spec_hall.specs.Dressed.{keyed}
use Rattle.mal_service.specs.Passes.{Enters}
use Rattle.mal_service.specs.Record as service
use Rattle.mal_service.specs.Record.{Answered, Opened, Revised, Reasked, Closed, AreAnsweredFrom, Entry, entry, events_of}
use Rattle.mal_service.proofs.OpenedLemmas.{calls-parts}
use Rattle.mal_hall.specs.declared.desk.Post.{Post}
use Rattle.mal_hall.specs.declared.desk.Post.TheVariants as posts
use Rattle.mal_hall.specs.declared.desk.PostFault.{PostFault}
use Rattle.mal_hall.specs.declared.desk.PostFault.TheVariants as faults
use Rattle.mal_hall.specs.Desks.{DeskCall, Picked, Gave, Posted, IsOwn}
use Rattle.mal_pool.proofs.CallLosses.{picked_own}
use Rattle.mal_service.specs.Posts.{HoldsOfPost}
use Rattle.mal_pool.specs.Calls.{calls_of, told, told_by}
use Rattle.mal_pool.specs.Within.{IsWithin}
use Rattle.mal_pool.proofs.Withins.{within-back, within-same}
use Rattle.std.proofs.lemmas.Bool.{or_left, or_right}

-- the entry of a call that a board has is told after those before it
entered-calls : (w : ℕ) (v after : View Entry) (c : Answered) (t : DeskCall) → told c ≡ Some t → Enters w v c after → calls_of after ≡ calls_of v ++ t ∷ []
entered-calls w v after c t is h =
    ap (λ (n : Numbers). filter_map told_by (part n.all after.seen)) h.extends.numbers
    ∙ (ap (filter_map told_by) h.extends.own
    ∙ (filter_map-append told_by (part v.of.all v.seen) ((v.of.first, entry c h.events) ∷ [])
    ∙ ap (λ (o : Option DeskCall). calls_of v ++ cons_option o []) is))

pub picked_calls : (w : ℕ) (v after : View Entry) (worker : ℕ) (answer : Result Offer PickFault) → Enters w v (service.Picked worker answer) after → calls_of after ≡ calls_of v ++ Picked worker answer ∷ []
picked_calls w v after worker answer h = entered-calls w v after (service.Picked worker answer) (Picked worker answer) refl h

pub given_calls : (w : ℕ) (v after : View Entry) (d : Finished) (answer : Return) → Enters w v (service.Gave d answer) after → calls_of after ≡ calls_of v ++ Gave d answer ∷ []
given_calls w v after d answer h = entered-calls w v after (service.Gave d answer) (Gave d answer) refl h

pub posted_calls : (w : ℕ) (v after : View Entry) (p : Post) (r : Result (Unit {0}) PostFault) → HoldsOfPost p r (λ c. Enters w v c after) → calls_of after ≡ calls_of v ++ Posted p r ∷ []
posted_calls w v after (posts.Open tenant job ask) (Ok done) h = entered-calls w v after (Opened (keyed tenant job) ask (Ok done)) (Posted (posts.Open tenant job ask) (Ok done)) refl h
posted_calls w v after (posts.Open tenant job ask) (Err (faults.Open fault)) h = entered-calls w v after (Opened (keyed tenant job) ask (Err fault)) (Posted (posts.Open tenant job ask) (Err (faults.Open fault))) refl h
posted_calls w v after (posts.Open tenant job ask) (Err (faults.Revise fault)) h = absurd h
posted_calls w v after (posts.Open tenant job ask) (Err (faults.Reask fault)) h = absurd h
posted_calls w v after (posts.Open tenant job ask) (Err (faults.Close fault)) h = absurd h
posted_calls w v after (posts.Revise tenant job r) (Ok done) h = entered-calls w v after (Revised (keyed tenant job) r (Ok done)) (Posted (posts.Revise tenant job r) (Ok done)) refl h
posted_calls w v after (posts.Revise tenant job r) (Err (faults.Open fault)) h = absurd h
posted_calls w v after (posts.Revise tenant job r) (Err (faults.Revise fault)) h = entered-calls w v after (Revised (keyed tenant job) r (Err fault)) (Posted (posts.Revise tenant job r) (Err (faults.Revise fault))) refl h
posted_calls w v after (posts.Revise tenant job r) (Err (faults.Reask fault)) h = absurd h
posted_calls w v after (posts.Revise tenant job r) (Err (faults.Close fault)) h = absurd h
posted_calls w v after (posts.Reask tenant job weight) (Ok done) h = entered-calls w v after (Reasked (keyed tenant job) weight (Ok done)) (Posted (posts.Reask tenant job weight) (Ok done)) refl h
posted_calls w v after (posts.Reask tenant job weight) (Err (faults.Open fault)) h = absurd h
posted_calls w v after (posts.Reask tenant job weight) (Err (faults.Revise fault)) h = absurd h
posted_calls w v after (posts.Reask tenant job weight) (Err (faults.Reask fault)) h = entered-calls w v after (Reasked (keyed tenant job) weight (Err fault)) (Posted (posts.Reask tenant job weight) (Err (faults.Reask fault))) refl h
posted_calls w v after (posts.Reask tenant job weight) (Err (faults.Close fault)) h = absurd h
posted_calls w v after (posts.Close tenant job) (Ok done) h = entered-calls w v after (Closed (keyed tenant job) (Ok done)) (Posted (posts.Close tenant job) (Ok done)) refl h
posted_calls w v after (posts.Close tenant job) (Err (faults.Open fault)) h = absurd h
posted_calls w v after (posts.Close tenant job) (Err (faults.Revise fault)) h = absurd h
posted_calls w v after (posts.Close tenant job) (Err (faults.Reask fault)) h = absurd h
posted_calls w v after (posts.Close tenant job) (Err (faults.Close fault)) h = entered-calls w v after (Closed (keyed tenant job) (Err fault)) (Posted (posts.Close tenant job) (Err (faults.Close fault))) refl h

-- a pass that is split tells what it told
pub split_calls : (v after : View Entry) → after.seen ≡ v.seen → after.of ≡ splitting v.of → calls_of after ≡ calls_of v
split_calls v after seen of =
    ap (λ (n : Numbers). filter_map told_by (part n.all after.seen)) of
    ∙ ap (λ (log : List (List ℕ × Entry)). filter_map told_by (part v.of.all log)) seen

-- and none is told where the record has none of a pass
pub split_none : (v : View Entry) → part v.of.all v.seen ≡ [] → calls_of v ≡ []
split_none v none = ap (filter_map told_by) none

-- a lease that is picked is its worker's
pub picked_is_own : (w : ℕ) (v after : View Entry) (worker : ℕ) (answer : Result Offer PickFault) → Enters w v (service.Picked worker answer) after → IsOwn worker answer
picked_is_own w v after worker answer h =
    let parts = calls-parts w [] h.extends.earlier ((v.of.first, entry (service.Picked worker answer) h.events) ∷ []) (subst (AreAnsweredFrom w []) h.extends.seen h.legal.answers) in
    picked_own w (events_of h.extends.earlier) worker answer h.events parts.1.0

-- a part of a record that goes on
part-parts : (ns : List (List ℕ)) (xs ys : List (List ℕ × Entry)) → part ns (xs ++ ys) ≡ part ns xs ++ part ns ys
part-parts ns [] ys = refl
part-parts ns (e ∷ es) ys = by_test (among e.0 ns) (part-parts ns es ys)
  where
    by_test : (b : Bool) → part ns (es ++ ys) ≡ part ns es ++ part ns ys → cond b (e ∷ part ns (es ++ ys)) (part ns (es ++ ys)) ≡ cond b (e ∷ part ns es) (part ns es) ++ part ns ys
    by_test true h = ap (λ (xs : List (List ℕ × Entry)). e ∷ xs) h
    by_test false h = h

among-front : (x : List ℕ) (ns ms : List (List ℕ)) → among x ns ≡ true → among x (ns ++ ms) ≡ true
among-front x [] ms h = absurd (true≢false (sym h))
among-front x (n ∷ ns) ms h = by_test (same x n) h (among-front x ns ms)
  where
    by_test : (b : Bool) → (b || among x ns) ≡ true → (among x ns ≡ true → among x (ns ++ ms) ≡ true) → (b || among x (ns ++ ms)) ≡ true
    by_test true e rest = refl
    by_test false e rest = rest e

among-back : (x : List ℕ) (ns ms : List (List ℕ)) → among x ms ≡ true → among x (ns ++ ms) ≡ true
among-back x [] ms h = h
among-back x (n ∷ ns) ms h = or_right (same x n) (among x (ns ++ ms)) (among-back x ns ms h)

-- the calls of some numbers stand among those of more
fewer-calls : (ns ms : List (List ℕ)) → ((x : List ℕ) → among x ns ≡ true → among x ms ≡ true) → (log : List (List ℕ × Entry)) → IsWithin (filter_map told_by (part ns log)) (filter_map told_by (part ms log))
fewer-calls ns ms more [] = tt
fewer-calls ns ms more (e ∷ es) = by_test (among e.0 ns) (among e.0 ms) (more e.0) (told_by e) (fewer-calls ns ms more es)
  where
    one-more : (o : Option DeskCall) (xs ys : List DeskCall) → IsWithin xs ys → IsWithin (cons_option o xs) (cons_option o ys)
    one-more None xs ys h = h
    one-more (Some c) xs ys h = inl (refl, h)

    one-between : (o : Option DeskCall) (xs ys : List DeskCall) → IsWithin xs ys → IsWithin xs (cons_option o ys)
    one-between None xs ys h = h
    one-between (Some c) xs ys h = within-back (c ∷ []) xs ys h

    by_test : (b d : Bool) → (b ≡ true → d ≡ true) → (o : Option DeskCall) → IsWithin (filter_map told_by (part ns es)) (filter_map told_by (part ms es)) → IsWithin (filter_map told_by (cond b (e ∷ part ns es) (part ns es))) (filter_map told_by (cond d (e ∷ part ms es) (part ms es)))
    by_test true true m o h = one-more (told_by e) _ _ h
    by_test true false m o h = absurd (true≢false (sym (m refl)))
    by_test false true m o h = one-between (told_by e) _ _ h
    by_test false false m o h = h

-- what a pass told stands in what a later one tells that has its numbers
kept-calls : (v after : View Entry) → Begins after.seen v.of.all v.seen → ((x : List ℕ) → among x v.of.all ≡ true → among x after.of.all ≡ true) → IsWithin (calls_of v) (calls_of after)
kept-calls v after begins more =
    let same_part : part v.of.all after.seen ≡ part v.of.all v.seen =
    ap (part v.of.all) begins.1 ∙ (part-parts v.of.all v.seen begins.0 ∙ (ap (λ (xs : List (List ℕ × Entry)). part v.of.all v.seen ++ xs) begins.2 ∙ append-nil (part v.of.all v.seen))) in
    subst (λ (xs : List (List ℕ × Entry)). IsWithin (filter_map told_by xs) (calls_of after)) same_part (fewer-calls v.of.all after.of.all more after.seen)

-- a pass that took in another tells the calls of both
pub one_calls : (v w after : View Entry) → after.of ≡ joined v.of w.of → Begins after.seen v.of.all v.seen → IsWithin (calls_of v) (calls_of after)
one_calls v w after of begins = kept-calls v after begins (λ x h. subst (λ (n : Numbers). among x n.all ≡ true) (sym of) (among-front x v.of.all w.of.all h))

pub both_calls : (v w after : View Entry) → after.of ≡ joined v.of w.of → Begins after.seen w.of.all w.seen → IsWithin (calls_of w) (calls_of after)
both_calls v w after of begins = kept-calls w after begins (λ x h. subst (λ (n : Numbers). among x n.all ≡ true) (sym of) (among-back x v.of.all w.of.all h))
