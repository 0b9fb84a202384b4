-- What a live service has done, by its status.
use Rattle.std.proofs.Common.{◌≡◌, ◌⊎◌, ℕ, ◌≤◌, Bool, true, false, List, [], ◌++◌, Option, Some, None, Result, Ok, Err, inl, inr, refl, sym, ap, ◌∙◌, subst, append-nil}
use Rattle.std.proofs.KnownBytes.{Appends-nil, Appends-trans}
use Rattle.std.specs.Io.KnownBytes.{Appends, Consumes}
use Rattle.mal_answer.proofs.Meanings.{one_meaning}
use Rattle.mal_answer.specs.Command.{Command}
use Rattle.mal_answer.specs.Commands.{ReadsNothing, Stops, command_of}
use Rattle.mal_answer.specs.Devices.{AreSilent, Device, Failed, Gained, GainedPrefix}
use Rattle.mal_answer.specs.Requests.{IsRequest, Means}
use Rattle.mal_answer.specs.Served.{done_by}
use Rattle.mal_answer.specs.declared.words.request.Request.{Request}
use Rattle.mal_answer.specs.declared.words.request.Request.TheVariants.{Run, Check, Replay, Generate, RunGenerated, Json, Cluster, Max, Core, Serve}
use Rattle.mal_base.specs.Limits.{limits}
use Rattle.mal_cli.specs.Live.{FeedsAreServed, HasServedLive, HasTold, IsDoneBy, done_as, IsFeed, IsServed, IsServedInPart, IsServedToFault, IsServedWhole, live_workers}
use Rattle.mal_io.specs.Moves.{GotPrefix}
use Rattle.mal_parts.specs.Reading.{IsFirstFault}
use Rattle.mal_parts.specs.declared.reading.ReadEnd.{ReadEnd}
use Rattle.mal_parts.specs.declared.reading.ReadEnd.TheVariants as ends
use Rattle.mal_serve.proofs.ServeLemmas.{nothing-served}
use Rattle.mal_serve.specs.Serving as serving
use Rattle.spec_feed.specs.FaultLines.{fault_line}
use Rattle.spec_feed.specs.Reading.{read_feed}
use Rattle.spec_feed.specs.declared.fault.FeedFault.{FeedFault}
use Rattle.spec_feed.specs.declared.post.FeedPost.{FeedPost}
use Rattle.spec_live.specs.Live.{IsFront, IsServing, IsServingInPart, live_text, told_text}

module _ (workers : ℕ) (source log out : Device) where
  pub whole-served : IsServedWhole workers source log out → HasServedLive workers source log out 0
  whole-served s = inl (refl, s)

  pub failed-served : Failed source → IsServed workers ends.Failed source log out log.bytes_now → HasServedLive workers source log out 4
  failed-served f s = inr (inr (inl (refl, (f, s))))

  pub broken-served : Failed log ⊎ Failed out → IsServedInPart workers source log out → HasServedLive workers source log out 5
  broken-served f s = inr (inr (inr (inl (refl, f, s))))

  pub part-served : IsServedInPart workers source log out → HasServedLive workers source log out 6
  part-served s = inr (inr (inr (inr (refl, s))))

-- the whole of a list is a front of it
whole-front : {A : Type 0} (xs : List A) → IsFront xs xs
whole-front xs = ([], sym (append-nil xs))

-- what was served whole was served in part
serving-in-part : (workers : ℕ) (posts : List FeedPost) (log_text out_text : List ℕ) → IsServing workers posts log_text out_text → IsServingInPart workers posts log_text out_text
serving-in-part workers posts log_text out_text s = record {
  history = s.history;
  told = s.told;
  legal = s.serves.legal;
  posted = subst (λ (xs : List FeedPost). IsFront xs posts) (sym s.serves.posted) (whole-front posts);
  replies = s.replies.some;
  log_text = subst (λ (xs : List ℕ). IsFront xs (live_text workers s.history)) (sym s.log_text) (whole-front (live_text workers s.history));
  out_text = subst (λ (xs : List ℕ). IsFront xs (told_text s.history s.told)) (sym s.out_text) (whole-front (told_text s.history s.told));
}

-- nothing was written after it
served-in-part : (workers : ℕ) (left left_now : Option (List ℕ)) (end : ReadEnd) (log logged log_now out out_now : Option (List ℕ))
    → serving.IsServed workers left left_now end log logged out out_now → Appends logged log_now []
    → serving.IsServedInPart workers left left_now log log_now out out_now
served-in-part workers left left_now end log logged log_now out out_now s more = record {
  end = end;
  posts = s.posts;
  read = s.read;
  log_text = s.log_text;
  out_text = s.out_text;
  serving = serving-in-part workers s.posts s.log_text s.out_text s.serving;
  log_gained = subst (λ (xs : List ℕ). Appends log log_now xs) (append-nil s.log_text) (Appends-trans log logged log_now s.log_text [] s.log_gained more);
  out_gained = s.out_gained;
}

-- the line that tells a fault was written as far as the log took it
pub told-line : (line : ℕ) (fault : FeedFault) (log : Device) (text : List ℕ) → text ≡ fault_line line fault → GainedPrefix log text → ((Failed log → ⊥) → Gained log text) → HasTold line fault log 3
told-line line fault log text is prefix whole = inl (
  refl,
  record {
    prefix = (prefix.0, subst (λ (xs : List ℕ). GotPrefix log.bytes log.bytes_now xs prefix.0) is prefix.1);
    whole = λ calm. subst (λ (xs : List ℕ). Appends log.bytes log.bytes_now xs) is (whole calm);
  },
)

-- what was posted before a fault was served, and then the fault was told, or memory ran out
pub fault-served : (workers line : ℕ) (fault : FeedFault) (source out : Device) (log logged log_now : Option (List ℕ)) (faults faults_now status : ℕ)
    → serving.IsServed workers source.bytes source.bytes_now (ends.Fault line fault) log logged out.bytes out.bytes_now
    → HasTold line fault (record { bytes = logged; bytes_now = log_now; faults = faults; faults_now = faults_now }) status
    → HasServedLive workers source (record { bytes = log; bytes_now = log_now; faults = faults; faults_now = faults_now }) out status
fault-served workers line fault source out log logged log_now faults faults_now status s (inl (is, told)) = inr (inl (
  is,
  record {
    line = line;
    fault = fault;
    logged = logged;
    served = s;
    told = record { prefix = told.prefix; whole = told.whole };
  },
))
fault-served workers line fault source out log logged log_now faults faults_now status s (inr (is, none)) =
    inr (inr (inr (inr (is, served-in-part workers source.bytes source.bytes_now (ends.Fault line fault) log logged log_now out.bytes out.bytes_now s none))))

-- a reading that gives posts gives no fault
no-fault : {E : Type 0} (posts : List FeedPost) (e : E) (read : Result (List FeedPost) E) → read ≡ Ok posts → read ≡ Err e → ⊥
no-fault posts e (Ok given) is isnt = absurd cc
no-fault posts e (Err other) is isnt = absurd cc

-- what was taken of a feed has no fault
feed-faultless : (input : List ℕ) (left : Option (List ℕ)) (taken : List ℕ) (posts : List FeedPost) (line : ℕ) (fault : FeedFault)
    → Consumes (Some input) left taken → read_feed limits input ≡ Ok posts → IsFirstFault taken left line fault → ⊥
feed-faultless input None taken posts line fault took is first = absurd took
feed-faultless input (Some rest) taken posts line fault took is (inl first) =
    no-fault posts (line, fault) (read_feed limits input) is (ap (read_feed limits) took ∙ first rest)
feed-faultless input (Some rest) taken posts line fault took is (inr (ended, first)) =
    no-fault posts (line, fault) (read_feed limits input) is (ap (read_feed limits) (took ∙ (ap (λ (xs : List ℕ). taken ++ xs) ended ∙ append-nil taken)) ∙ first)

not-faulty : (workers : ℕ) (source log out : Device) → (bytes : Option (List ℕ)) → source.bytes ≡ bytes → IsFeed bytes → IsServedToFault workers source log out → ⊥
not-faulty workers source log out None e feed s = absurd feed
not-faulty workers source log out (Some input) e feed s =
    feed-faultless input source.bytes_now s.served.read.taken feed.0 s.line s.fault
    (subst (λ (o : Option (List ℕ)). Consumes o source.bytes_now s.served.read.taken) e s.served.read.consumed)
    feed.1 s.served.read.ends.first

pub feeds-are-served : FeedsAreServed
feeds-are-served workers source log out status (inl (is, s)) feed calm well fine = inl is
feeds-are-served workers source log out status (inr (inl (is, s))) feed calm well fine = absurd (not-faulty workers source log out source.bytes refl feed s)
feeds-are-served workers source log out status (inr (inr (inl (is, (failed, s))))) feed calm well fine = absurd (calm failed)
feeds-are-served workers source log out status (inr (inr (inr (inl (is, inl failed, s))))) feed calm well fine = absurd (well failed)
feeds-are-served workers source log out status (inr (inr (inr (inl (is, inr failed, s))))) feed calm well fine = absurd (fine failed)
feeds-are-served workers source log out status (inr (inr (inr (inr (is, s))))) feed calm well fine = inr is

-- what is done for the one request of the words is done for each that they mean
pub done-by : (stops : Stops) (words : List (List ℕ)) (q r : Request) (source log out : Device) (status : ℕ) → Means words q → Means words r → IsDoneBy stops q source log out status → IsDoneBy stops r source log out status
done-by stops words q r source log out status m n done = subst (λ (x : Request). IsDoneBy stops x source log out status) (one_meaning words q r m n) done

some-number : (a b : ℕ) → Some a ≡ Some b → a ≡ b
some-number a b e = cc

no-service : (w : ℕ) → ◌≡◌ {A = Option ℕ} None (Some w) → ⊥
no-service w e = absurd cc

-- a live service has 1 to 64 workers, and reads its input
pub is-service : (r : Request) (w : ℕ) → live_workers r ≡ Some w → IsRequest r → (1 ≤ w) × (w ≤ 64)
is-service (Run workers) w e is = absurd (no-service w e)
is-service Check w e is = absurd (no-service w e)
is-service Replay w e is = absurd (no-service w e)
is-service (Generate seed jobs) w e is = absurd (no-service w e)
is-service (RunGenerated seed jobs workers) w e is = absurd (no-service w e)
is-service Json w e is = absurd (no-service w e)
is-service (Cluster halls workers every) w e is = absurd (no-service w e)
is-service (Max slices) w e is = absurd (no-service w e)
is-service (Core slices) w e is = absurd (no-service w e)
is-service (Serve workers) w e is = subst (λ (n : ℕ). (1 ≤ n) × (n ≤ 64)) (some-number workers w e) is

pub service-reads : (r : Request) (w : ℕ) → live_workers r ≡ Some w → ReadsNothing r → ⊥
service-reads (Run workers) w e none = no-service w e
service-reads Check w e none = no-service w e
service-reads Replay w e none = no-service w e
service-reads (Generate seed jobs) w e none = no-service w e
service-reads (RunGenerated seed jobs workers) w e none = no-service w e
service-reads Json w e none = no-service w e
service-reads (Cluster halls workers every) w e none = no-service w e
service-reads (Max slices) w e none = no-service w e
service-reads (Core slices) w e none = no-service w e
service-reads (Serve workers) w e none = absurd cc

-- a command for which memory ran out before anything was read or written
undone : (b : Bool) (c : Command) (source log out : Device) → AreSilent log out → done_by b c source log out 6
undone true c source log out silent = record {
  says = inr (inr (inr (inr (inl (refl, silent)))));
  refuses = λ outside calm. inr refl;
  denies = λ unmet calm. inr refl;
  complete = λ met calm well fine. inr refl;
}
undone false c source log out silent = record {
  says = inr (inr (refl, silent));
  complete = λ well fine. inr refl;
}

module _ (left log out : Option (List ℕ)) (source_faults log_faults out_faults : ℕ) where
  abbrev pub the_source : Device
  the_source = record { bytes = left; bytes_now = left; faults = source_faults; faults_now = source_faults }

  abbrev pub the_log : Device
  the_log = record { bytes = log; bytes_now = log; faults = log_faults; faults_now = log_faults }

  abbrev pub the_out : Device
  the_out = record { bytes = out; bytes_now = out; faults = out_faults; faults_now = out_faults }

  done-nothing : (o : Option ℕ) (c : Command) → done_as o c the_source the_log the_out 6
  done-nothing None c = undone c.has_input c the_source the_log the_out (Appends-nil log, Appends-nil out)
  done-nothing (Some workers) c = part-served workers the_source the_log the_out (nothing-served workers left log out)

  pub none-done : (stops : Stops) (r : Request) → IsDoneBy stops r the_source the_log the_out 6
  none-done stops r = done-nothing (live_workers r) (command_of stops r)
