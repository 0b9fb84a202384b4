-- What was posted with a pass, and by a whole record.
use Rattle.std.proofs.Common.{◌≡◌, ℕ, suc, Bool, true, false, ◌||◌, cond, List, [], ◌∷◌, ◌++◌, drop, map, refl, sym, ap, ◌∙◌, subst, append_assoc, append-nil, true≢false, Option, Some, None, Result, Ok, Err, IfOk, IfSome}
use Rattle.std.specs.Prelude.{Vec}
use Rattle.std.specs.declared.alloc.Global.{Global}
use Rattle.std.specs.List.{list_any}
use Rattle.std.proofs.lemmas.Bool.{or_from}
use Rattle.std.proofs.lemmas.List.{drop-map}
use Rattle.std.proofs.lemmas.List.Concat.{flat_map-append}
use Rattle.std.proofs.lemmas.List.Folds.{flat_map-map, list_any-append}
use Rattle.mal_base.specs.declared.hall_fault.ReplyFault.{ReplyFault}
use Rattle.mal_hall.specs.declared.desk.Post.{Post}
use Rattle.mal_hall.specs.declared.desk.Post.TheVariants as posts
use Rattle.mal_hall.specs.declared.desk.PostFault.{PostFault}
use Rattle.mal_hall.specs.declared.desk.PostFault.TheVariants as faults
use Rattle.mal_history.specs.declared.event.Event as written
use Rattle.mal_history.specs.Text.{event_words}
use Rattle.mal_live.specs.declared.desk.Seen.{Seen}
use Rattle.mal_service.proofs.LossLemmas.{record-loses-none}
use Rattle.mal_service.specs.declared.news.News.{News}
use Rattle.mal_service.specs.News.{AreNews, lines_of_events}
use Rattle.mal_service.specs.Passes.{Enters}
use Rattle.mal_service.specs.Posts.{HoldsOfPost}
use Rattle.mal_service.specs.Record.{Answered, Opened, Revised, Reasked, Closed, Asked, Picked, Gave, AreAnsweredFrom, Entry, IsAnswered, IsLegal, Record, entry, events_of}
use Rattle.mal_service.proofs.OpenedLemmas.{replies-are_solo}
use Rattle.mal_service.proofs.RecordLemmas.{events-append}
use Rattle.mal_serve.specs.Said.{fed, said_by, said_in, said_of}
use Rattle.mal_turn.specs.declared.view.Numbers.{Numbers}
use Rattle.mal_turn.specs.declared.view.View.{View}
use Rattle.mal_turn.specs.Numbers.{among, part, same}
use Rattle.mal_turn.specs.Rule.{At, Begins, Extends, splitting}
use Rattle.spec_feed.specs.declared.post.FeedPost.{FeedPost}
use Rattle.spec_hall.specs.Calls as calls
use Rattle.spec_hall.specs.Dressed.{keyed}
use Rattle.spec_hall.specs.Events.{Event, bare, moves}
use Rattle.spec_hall.specs.Own.{own}
use Rattle.spec_job.specs.KeyedJob.{Key}
use Rattle.spec_live.specs.Live.{IsFront, event_lines, posts_in, reply_in, to}
use Rattle.spec_live.proofs.CallLemmas.{call-moves_none, call-posts_by}
use Rattle.spec_live.proofs.TurnLemmas.{posts-append}
use Rattle.spec_run.proofs.Evidence.{evident_by_law}
use Rattle.spec_run.specs.Losses.{NoneIsLost}
use Rattle.spec_run.specs.Run.{IsEvident}
use Rattle.spec_text.specs.Lines.{line_of}

-- the posts among the events of a call are what the call posts
answered-posts : (w : ℕ) (past : List Event) (c : Answered) (es : List Event) → IsAnswered w past c es → posts_in es ≡ said_by c
answered-posts w past (Opened k ask (Ok done)) es call = call-posts_by w past (calls.Opens k ask) (Ok done) es call
answered-posts w past (Opened k ask (Err fault)) es call = call-posts_by w past (calls.Opens k ask) (Err fault) es call
answered-posts w past (Revised k r (Ok done)) es call = call-posts_by w past (calls.Revises k r) (Ok done) es call
answered-posts w past (Revised k r (Err fault)) es call = call-posts_by w past (calls.Revises k r) (Err fault) es call
answered-posts w past (Reasked k weight (Ok done)) es call = call-posts_by w past (calls.Reasks k weight) (Ok done) es call
answered-posts w past (Reasked k weight (Err fault)) es call = call-posts_by w past (calls.Reasks k weight) (Err fault) es call
answered-posts w past (Closed k (Ok done)) es call = call-posts_by w past (calls.Closes k) (Ok done) es call
answered-posts w past (Closed k (Err fault)) es call = call-posts_by w past (calls.Closes k) (Err fault) es call
answered-posts w past (Asked k r answer) es call = call-posts_by w past (calls.Asks k r) answer es call
answered-posts w past (Picked worker answer) es call = call-posts_by w past (calls.Picks worker) answer es call
answered-posts w past (Gave d answer) es call = call-posts_by w past (calls.Finishes d) answer es call

answers-post : (w : ℕ) (past : List Event) (log : Record) → AreAnsweredFrom w past log → posts_in (events_of log) ≡ said_in log
unfolding posts_in
answers-post w past [] calls = refl
answers-post w past (e ∷ log) calls =
    posts-append e.1.events (events_of log)
    ∙ (ap (λ (ps : List FeedPost). ps ++ posts_in (events_of log)) (answered-posts w past e.1.call e.1.events calls.0)
    ∙ ap (λ (ps : List FeedPost). said_by e.1.call ++ ps) (answers-post w (past ++ e.1.events) log calls.1))

-- of a legal record the posts among its events are what its calls post
pub record-posts : (w : ℕ) (log : Record) → IsLegal w log → posts_in (events_of log) ≡ said_in log
record-posts w log legal = answers-post w [] log legal.answers

-- no call moves a job
answered-moves : (w : ℕ) (past : List Event) (c : Answered) (es : List Event) → IsAnswered w past c es → list_any moves es ≡ false
answered-moves w past (Opened k ask answer) es call = call-moves_none w past (calls.Opens k ask) answer es refl call
answered-moves w past (Revised k r answer) es call = call-moves_none w past (calls.Revises k r) answer es refl call
answered-moves w past (Reasked k weight answer) es call = call-moves_none w past (calls.Reasks k weight) answer es refl call
answered-moves w past (Closed k answer) es call = call-moves_none w past (calls.Closes k) answer es refl call
answered-moves w past (Asked k r answer) es call = call-moves_none w past (calls.Asks k r) answer es refl call
answered-moves w past (Picked worker answer) es call = call-moves_none w past (calls.Picks worker) answer es refl call
answered-moves w past (Gave d answer) es call = call-moves_none w past (calls.Finishes d) answer es refl call

answers-move : (w : ℕ) (past : List Event) (log : Record) → AreAnsweredFrom w past log → list_any moves (events_of log) ≡ false
answers-move w past [] calls = refl
answers-move w past (e ∷ log) calls =
    list_any-append moves e.1.events (events_of log)
    ∙ or_from (list_any moves e.1.events) (list_any moves (events_of log)) (answered-moves w past e.1.call e.1.events calls.0) (answers-move w (past ++ e.1.events) log calls.1)

-- in a legal record no job moves
pub record-stays : (w : ℕ) (log : Record) → IsLegal w log → list_any moves (events_of log) ≡ false
record-stays w log legal = answers-move w [] log legal.answers

-- no lease is lost
pub record-keeps : (w : ℕ) (log : Record) → IsLegal w log → NoneIsLost (events_of log)
record-keeps w log legal = record-loses-none w log legal

-- and the answers of each job are evidence
pub record-is_evident : (w : ℕ) (log : Record) → IsLegal w log → (k : Key) → IsEvident (own k (events_of log))
record-is_evident w log legal k = evident_by_law w (events_of log) legal.history k

-- what is posted in two parts of a record
pub said-append : (a b : Record) → said_in (a ++ b) ≡ said_in a ++ said_in b
said-append a b = flat_map-append (λ (e : List ℕ × Entry). said_by e.1.call) a b

-- what was posted with a pass that made a call more is that and what the call posts
pub extended-said : (v : View Entry) (e : Entry) (after : View Entry) → Extends v e after → said_of after ≡ said_of v ++ said_by e.call
extended-said v e after h =
    ap (λ (n : Numbers). said_in (part n.all after.seen)) h.numbers
    ∙ (ap said_in h.own
    ∙ (said-append (part v.of.all v.seen) ((v.of.first, e) ∷ [])
    ∙ ap (λ (ps : List FeedPost). said_of v ++ ps) (append-nil (said_by e.call))))

-- and its history goes on
pub extended-front : (v : View Entry) (e : Entry) (after : View Entry) → Extends v e after → IsFront (events_of v.seen) (events_of after.seen)
extended-front v e after h =
    let rest : Record = h.begins.0 ++ (v.of.first, e) ∷ [] in (
      events_of rest,
      ap events_of (h.seen ∙ (ap (λ (log : Record). log ++ (v.of.first, e) ∷ []) h.begins.1 ∙ append_assoc v.seen h.begins.0 ((v.of.first, e) ∷ [])))
          ∙ events-append v.seen rest,
    )

-- a call that posts nothing
pub silent_said : (w : ℕ) (v after : View Entry) (c : Answered) → said_by c ≡ [] → Enters w v c after → said_of after ≡ said_of v
silent_said w v after c none h =
    extended-said v (entry c h.events) after h.extends
    ∙ (ap (λ (ps : List FeedPost). said_of v ++ ps) none ∙ append-nil (said_of v))

-- a post that is taken
pub taken_said : (w : ℕ) (v after : View Entry) (p : Post) (done : Unit {0}) → HoldsOfPost p (Ok done) (λ c. Enters w v c after) → said_of after ≡ said_of v ++ fed p ∷ []
taken_said w v after (posts.Open tenant job ask) done h = extended-said v (entry (Opened (keyed tenant job) ask (Ok done)) h.events) after h.extends
taken_said w v after (posts.Revise tenant job r) done h = extended-said v (entry (Revised (keyed tenant job) r (Ok done)) h.events) after h.extends
taken_said w v after (posts.Reask tenant job weight) done h = extended-said v (entry (Reasked (keyed tenant job) weight (Ok done)) h.events) after h.extends
taken_said w v after (posts.Close tenant job) done h = extended-said v (entry (Closed (keyed tenant job) (Ok done)) h.events) after h.extends

-- and one that is refused
pub refused_said : (w : ℕ) (v after : View Entry) (p : Post) (fault : PostFault) → HoldsOfPost p (Err fault) (λ c. Enters w v c after) → said_of after ≡ said_of v
refused_said w v after (posts.Open tenant job ask) (faults.Open fault) h = silent_said w v after (Opened (keyed tenant job) ask (Err fault)) refl h
refused_said w v after (posts.Open tenant job ask) (faults.Revise fault) h = absurd h
refused_said w v after (posts.Open tenant job ask) (faults.Reask fault) h = absurd h
refused_said w v after (posts.Open tenant job ask) (faults.Close fault) h = absurd h
refused_said w v after (posts.Revise tenant job r) (faults.Open fault) h = absurd h
refused_said w v after (posts.Revise tenant job r) (faults.Revise fault) h = silent_said w v after (Revised (keyed tenant job) r (Err fault)) refl h
refused_said w v after (posts.Revise tenant job r) (faults.Reask fault) h = absurd h
refused_said w v after (posts.Revise tenant job r) (faults.Close fault) h = absurd h
refused_said w v after (posts.Reask tenant job weight) (faults.Open fault) h = absurd h
refused_said w v after (posts.Reask tenant job weight) (faults.Revise fault) h = absurd h
refused_said w v after (posts.Reask tenant job weight) (faults.Reask fault) h = silent_said w v after (Reasked (keyed tenant job) weight (Err fault)) refl h
refused_said w v after (posts.Reask tenant job weight) (faults.Close fault) h = absurd h
refused_said w v after (posts.Close tenant job) (faults.Open fault) h = absurd h
refused_said w v after (posts.Close tenant job) (faults.Revise fault) h = absurd h
refused_said w v after (posts.Close tenant job) (faults.Reask fault) h = absurd h
refused_said w v after (posts.Close tenant job) (faults.Close fault) h = silent_said w v after (Closed (keyed tenant job) (Err fault)) refl h

-- a reply that was told is that of the history that the pass has then seen
pub told_reply : (w : ℕ) (v after : View Entry) (k : Key) (r : ℕ) (answer : Result (Option (List ℕ)) ReplyFault) (text : List ℕ) → Enters w v (Asked k r answer) after → answer ≡ Ok (Some text) → reply_in (events_of after.seen) (to k r) ≡ Some text
told_reply w v after k r answer text h is =
    sym (replies-are_solo w v after k r (Some text) (subst (λ (a : Result (Option (List ℕ)) ReplyFault). Enters w v (Asked k r a) after) is h)).told

-- the lines of the news are those of the events since
pub told_lines : (from : ℕ) (history : List Event) → lines_of_events (drop from (map bare history)) ≡ event_lines (drop from history)
unfolding event_lines
told_lines from history =
    ap lines_of_events (drop-map bare from history)
    ∙ flat_map-map (λ (e : written.Event). line_of (event_words e)) bare (drop from history)

-- so where who looks is told a reply, it is that
pub looked_reply : {E : Type 0} (w : ℕ) (v after : View Entry) (k : Key) (r : ℕ) (answer : Result (Option (List ℕ)) ReplyFault) (seen : Result Seen E) → Enters w v (Asked k r answer) after
    → IfOk seen (λ s. IfSome s.reply (λ text. answer ≡ Ok (Some text.items))) → IfOk seen (λ s. IfSome s.reply (λ text. reply_in (events_of after.seen) (to k r) ≡ Some text.items))
looked_reply w v after k r answer (Err error) h told = tt
looked_reply w v after k r answer (Ok s) h told = by_reply s.reply told
  where
    by_reply : (o : Option (Vec ℕ Global)) → IfSome o (λ text. answer ≡ Ok (Some text.items)) → IfSome o (λ text. reply_in (events_of after.seen) (to k r) ≡ Some text.items)
    by_reply None none = tt
    by_reply (Some text) is = told_reply w v after k r answer text.items h is

-- and the news are the lines of the events since
pub looked_lines : {E : Type 0} (from : ℕ) (history : List Event) (n : News) (seen : Result Seen E) → AreNews from history n → IfOk seen (λ s. s.news.text ≡ n.text) → IfOk seen (λ s. s.news.text.items ≡ event_lines (drop from history))
looked_lines from history n (Err error) are told = tt
looked_lines from history n (Ok s) are told = ap (λ (text : Vec ℕ Global). text.items) told ∙ (are.text ∙ told_lines from history)

-- a pass that is split has posted what it had, and has seen the same
pub split_said : (v after : View Entry) → after.seen ≡ v.seen → after.of ≡ splitting v.of → said_of after ≡ said_of v
split_said v after seen of =
    ap (λ (n : Numbers). said_in (part n.all after.seen)) of
    ∙ ap (λ (log : Record). said_in (part v.of.all log)) seen

pub split_seen : (v after : View Entry) → after.seen ≡ v.seen → events_of after.seen ≡ events_of v.seen
split_seen v after seen = ap events_of seen

-- the new pass has posted nothing
pub new_said : (v : View Entry) → part v.of.all v.seen ≡ [] → said_of v ≡ []
new_said v none = ap said_in none

-- a number among two lists is among one of them
among-parts : (x : List ℕ) (ns ms : List (List ℕ)) → among x (ns ++ ms) ≡ (among x ns || among x ms)
among-parts x [] ms = refl
among-parts x (n ∷ ns) ms = by_test (same x n) (among-parts x ns ms)
  where
    by_test : (b : Bool) → among x (ns ++ ms) ≡ (among x ns || among x ms) → (b || among x (ns ++ ms)) ≡ ((b || among x ns) || among x ms)
    by_test true e = refl
    by_test false e = e

empty-front : {A : Type 0} (xs ys : List A) → xs ++ ys ≡ [] → xs ≡ []
empty-front [] ys e = refl
empty-front (x ∷ xs) ys e = absurd (cc)

empty-back : {A : Type 0} (xs ys : List A) → xs ++ ys ≡ [] → ys ≡ []
empty-back [] ys e = e
empty-back (x ∷ xs) ys e = absurd (cc)

module _ (ns ms : List (List ℕ)) where
  -- one entry more, by a number of one list or of both
  one-step : (e : List ℕ × Entry) (log : Record) (a b : Bool) → (a || b) ≡ true
      → said_in (cond b (e ∷ part ms log) (part ms log)) ≡ [] → (said_in (part ms log) ≡ [] → said_in log ≡ said_in (part ns log))
      → said_by e.1.call ++ said_in log ≡ said_in (cond a (e ∷ part ns log) (part ns log))
  one-step e log true true h none rest = ap (λ (ps : List FeedPost). said_by e.1.call ++ ps) (rest (empty-back (said_by e.1.call) (said_in (part ms log)) none))
  one-step e log true false h none rest = ap (λ (ps : List FeedPost). said_by e.1.call ++ ps) (rest none)
  one-step e log false true h none rest =
      ap (λ (ps : List FeedPost). ps ++ said_in log) (empty-front (said_by e.1.call) (said_in (part ms log)) none) ∙ rest (empty-back (said_by e.1.call) (said_in (part ms log)) none)
  one-step e log false false h none rest = absurd (true≢false (sym h))

  -- where each entry is by a number of one of two lists, and those of the second post nothing, what the record posts is
  -- what those of the first post
  pub one-says_all : (log : Record) → ((i : ℕ) (e : List ℕ × Entry) → At log i e → among e.0 (ns ++ ms) ≡ true) → said_in (part ms log) ≡ [] → said_in log ≡ said_in (part ns log)
  one-says_all [] each none = refl
  one-says_all (e ∷ log) each none =
      one-step e log (among e.0 ns) (among e.0 ms) (sym (among-parts e.0 ns ms) ∙ each 0 e refl) none (one-says_all log (λ i d at. each (suc i) d at))

-- entries that post nothing, and one more or not
tail-none : (e : List ℕ × Entry) (log : Record) (b : Bool) → said_in (cond b (e ∷ log) log) ≡ [] → said_in log ≡ []
tail-none e log true none = empty-back (said_by e.1.call) (said_in log) none
tail-none e log false none = none

-- where the entries by numbers of either list post nothing, those of both do not
pub both-say_none : (ns ms : List (List ℕ)) (log : Record) → said_in (part ns log) ≡ [] → said_in (part ms log) ≡ [] → said_in (part (ns ++ ms) log) ≡ []
both-say_none ns ms [] one other = refl
both-say_none ns ms (e ∷ log) one other =
    ap (λ (t : Bool). said_in (cond t (e ∷ part (ns ++ ms) log) (part (ns ++ ms) log))) (among-parts e.0 ns ms)
    ∙ by_tests (among e.0 ns) (among e.0 ms) one other (both-say_none ns ms log (tail-none e (part ns log) (among e.0 ns) one) (tail-none e (part ms log) (among e.0 ms) other))
  where
    by_tests : (a b : Bool) → said_in (cond a (e ∷ part ns log) (part ns log)) ≡ [] → said_in (cond b (e ∷ part ms log) (part ms log)) ≡ []
        → said_in (part (ns ++ ms) log) ≡ [] → said_in (cond (a || b) (e ∷ part (ns ++ ms) log) (part (ns ++ ms) log)) ≡ []
    by_tests true b one other rest = ap (λ (ps : List FeedPost). ps ++ said_in (part (ns ++ ms) log)) (empty-front (said_by e.1.call) (said_in (part ns log)) one) ∙ rest
    by_tests false true one other rest = ap (λ (ps : List FeedPost). ps ++ said_in (part (ns ++ ms) log)) (empty-front (said_by e.1.call) (said_in (part ms log)) other) ∙ rest
    by_tests false false one other rest = rest

-- the entries of some numbers in a record that goes on
pub part-append : (ns : List (List ℕ)) (a b : Record) → part ns (a ++ b) ≡ part ns a ++ part ns b
part-append ns [] b = refl
part-append ns (e ∷ es) b = by_test (among e.0 ns) (part-append ns es b)
  where
    by_test : (is : Bool) → part ns (es ++ b) ≡ part ns es ++ part ns b → cond is (e ∷ part ns (es ++ b)) (part ns (es ++ b)) ≡ cond is (e ∷ part ns es) (part ns es) ++ part ns b
    by_test true h = ap (λ (xs : Record). e ∷ xs) h
    by_test false h = h

-- a record that begins with what was seen has the same entries of these numbers
pub begun-part : (log : Record) (ns : List (List ℕ)) (seen : Record) → Begins log ns seen → part ns log ≡ part ns seen
begun-part log ns seen begins =
    ap (part ns) begins.1
    ∙ (part-append ns seen begins.0
    ∙ (ap (λ (xs : Record). part ns seen ++ xs) begins.2 ∙ append-nil (part ns seen)))

-- so what was posted with a pass is what its entries post in the whole record
pub begun-said : (log : Record) (v : View Entry) → Begins log v.of.all v.seen → said_in (part v.of.all log) ≡ said_of v
begun-said log v begins = ap said_in (begun-part log v.of.all v.seen begins)
