-- What holds of the hall's call that a post is.
use Rattle.std.proofs.Common.{◌≡◌, ℕ, List, ◌++◌, length, drop, ap, ◌∙◌, Result, Ok, Err}
use Rattle.std.proofs.Math.Seq.{drop-append_seam}
use Rattle.mal_hall.specs.declared.desk.Post.{Post}
use Rattle.mal_hall.specs.declared.desk.Post.TheVariants as posts
use Rattle.mal_hall.specs.declared.desk.PostFault.{PostFault}
use Rattle.mal_hall.specs.declared.desk.PostFault.TheVariants as faults
use Rattle.mal_hall.specs.Desks.{HasPosted}
use Rattle.spec_hall.specs.Events.{Event}
use Rattle.mal_service.specs.Passes.{HasNoted}
use Rattle.mal_service.specs.Record.{Answered, IsAnswered, entry}
use Rattle.mal_service.specs.Posts.{HoldsOfPost, call_of}

-- what follows of any call follows of that one
pub post-follows : (P Q : Answered → Type 0) (p : Post) (r : Result (Unit {0}) PostFault) → ((c : Answered) → P c → Q c) → HoldsOfPost p r P → HoldsOfPost p r Q
post-follows P Q (posts.Open tenant job ask) (Ok done) f h = f _ h
post-follows P Q (posts.Open tenant job ask) (Err (faults.Open fault)) f h = f _ h
post-follows P Q (posts.Open tenant job ask) (Err (faults.Revise fault)) f h = h
post-follows P Q (posts.Open tenant job ask) (Err (faults.Reask fault)) f h = h
post-follows P Q (posts.Open tenant job ask) (Err (faults.Close fault)) f h = h
post-follows P Q (posts.Revise tenant job r) (Ok done) f h = f _ h
post-follows P Q (posts.Revise tenant job r) (Err (faults.Open fault)) f h = h
post-follows P Q (posts.Revise tenant job r) (Err (faults.Revise fault)) f h = f _ h
post-follows P Q (posts.Revise tenant job r) (Err (faults.Reask fault)) f h = h
post-follows P Q (posts.Revise tenant job r) (Err (faults.Close fault)) f h = h
post-follows P Q (posts.Reask tenant job weight) (Ok done) f h = f _ h
post-follows P Q (posts.Reask tenant job weight) (Err (faults.Open fault)) f h = h
post-follows P Q (posts.Reask tenant job weight) (Err (faults.Revise fault)) f h = h
post-follows P Q (posts.Reask tenant job weight) (Err (faults.Reask fault)) f h = f _ h
post-follows P Q (posts.Reask tenant job weight) (Err (faults.Close fault)) f h = h
post-follows P Q (posts.Close tenant job) (Ok done) f h = f _ h
post-follows P Q (posts.Close tenant job) (Err (faults.Open fault)) f h = h
post-follows P Q (posts.Close tenant job) (Err (faults.Revise fault)) f h = h
post-follows P Q (posts.Close tenant job) (Err (faults.Reask fault)) f h = h
post-follows P Q (posts.Close tenant job) (Err (faults.Close fault)) f h = f _ h

-- and so does what does not speak of the call
pub post-tells : (P : Answered → Type 0) (X : Type 0) (p : Post) (r : Result (Unit {0}) PostFault) → ((c : Answered) → P c → X) → HoldsOfPost p r P → X
post-tells P X (posts.Open tenant job ask) (Ok done) f h = f _ h
post-tells P X (posts.Open tenant job ask) (Err (faults.Open fault)) f h = f _ h
post-tells P X (posts.Open tenant job ask) (Err (faults.Revise fault)) f h = absurd h
post-tells P X (posts.Open tenant job ask) (Err (faults.Reask fault)) f h = absurd h
post-tells P X (posts.Open tenant job ask) (Err (faults.Close fault)) f h = absurd h
post-tells P X (posts.Revise tenant job r) (Ok done) f h = f _ h
post-tells P X (posts.Revise tenant job r) (Err (faults.Open fault)) f h = absurd h
post-tells P X (posts.Revise tenant job r) (Err (faults.Revise fault)) f h = f _ h
post-tells P X (posts.Revise tenant job r) (Err (faults.Reask fault)) f h = absurd h
post-tells P X (posts.Revise tenant job r) (Err (faults.Close fault)) f h = absurd h
post-tells P X (posts.Reask tenant job weight) (Ok done) f h = f _ h
post-tells P X (posts.Reask tenant job weight) (Err (faults.Open fault)) f h = absurd h
post-tells P X (posts.Reask tenant job weight) (Err (faults.Revise fault)) f h = absurd h
post-tells P X (posts.Reask tenant job weight) (Err (faults.Reask fault)) f h = f _ h
post-tells P X (posts.Reask tenant job weight) (Err (faults.Close fault)) f h = absurd h
post-tells P X (posts.Close tenant job) (Ok done) f h = f _ h
post-tells P X (posts.Close tenant job) (Err (faults.Open fault)) f h = absurd h
post-tells P X (posts.Close tenant job) (Err (faults.Revise fault)) f h = absurd h
post-tells P X (posts.Close tenant job) (Err (faults.Reask fault)) f h = absurd h
post-tells P X (posts.Close tenant job) (Err (faults.Close fault)) f h = f _ h

-- what is noted of a call that was answered so
noted : (w : ℕ) (past now : List Event) (c : Answered) (events : List Event) → now ≡ past ++ events → IsAnswered w past c events → HasNoted w past c now (entry c (drop (length past) now))
noted w past now c events grown answered = record {
  events = events;
  grown = grown;
  answered = answered;
  noted_is = ap (entry c) (ap (drop (length past)) grown ∙ drop-append_seam past events);
}

-- what is noted of the hall's call that a post is
pub post_noted : (w : ℕ) (past now : List Event) (p : Post) (r : Result (Unit {0}) PostFault) → HasPosted w past p r now → HoldsOfPost p r (λ c. HasNoted w past c now (entry (call_of p r) (drop (length past) now)))
post_noted w past now (posts.Open tenant job ask) (Ok done) h = noted w past now _ h.events h.grown h.call
post_noted w past now (posts.Open tenant job ask) (Err (faults.Open fault)) h = noted w past now _ h.events h.grown h.call
post_noted w past now (posts.Open tenant job ask) (Err (faults.Revise fault)) h = h
post_noted w past now (posts.Open tenant job ask) (Err (faults.Reask fault)) h = h
post_noted w past now (posts.Open tenant job ask) (Err (faults.Close fault)) h = h
post_noted w past now (posts.Revise tenant job r) (Ok done) h = noted w past now _ h.events h.grown h.call
post_noted w past now (posts.Revise tenant job r) (Err (faults.Open fault)) h = h
post_noted w past now (posts.Revise tenant job r) (Err (faults.Revise fault)) h = noted w past now _ h.events h.grown h.call
post_noted w past now (posts.Revise tenant job r) (Err (faults.Reask fault)) h = h
post_noted w past now (posts.Revise tenant job r) (Err (faults.Close fault)) h = h
post_noted w past now (posts.Reask tenant job weight) (Ok done) h = noted w past now _ h.events h.grown h.call
post_noted w past now (posts.Reask tenant job weight) (Err (faults.Open fault)) h = h
post_noted w past now (posts.Reask tenant job weight) (Err (faults.Revise fault)) h = h
post_noted w past now (posts.Reask tenant job weight) (Err (faults.Reask fault)) h = noted w past now _ h.events h.grown h.call
post_noted w past now (posts.Reask tenant job weight) (Err (faults.Close fault)) h = h
post_noted w past now (posts.Close tenant job) (Ok done) h = noted w past now _ h.events h.grown h.call
post_noted w past now (posts.Close tenant job) (Err (faults.Open fault)) h = h
post_noted w past now (posts.Close tenant job) (Err (faults.Revise fault)) h = h
post_noted w past now (posts.Close tenant job) (Err (faults.Reask fault)) h = h
post_noted w past now (posts.Close tenant job) (Err (faults.Close fault)) h = noted w past now _ h.events h.grown h.call
