-- Rounds keep the names that came to halls, so each job of a script is in some hall.
use Rattle.std.proofs.Common.{◌≡◌, ◌⊎◌, ℕ, zero, suc, ◌+◌, ◌%◌, ◌<◌, ◌≤◌, Bool, true, false, cond, ◌||◌, List, [], ◌∷◌, ◌++◌, length, map, slice_get, slice_set, Option, Some, None, is_some, inl, inr, refl, sym, ◌∙◌, ap, subst, arith, append_assoc, append-nil}
use Rattle.std.specs.List.{list_all, list_any}
use Rattle.std.proofs.Math.Nat.{mod-lt}
use Rattle.std.proofs.lemmas.Bool.{and_from, and_parts, both_ways, or_from, or_left}
use Rattle.std.proofs.lemmas.Bool.Decides.{Decides-eqb}
use Rattle.std.proofs.lemmas.List.{length-set}
use Rattle.spec_node.specs.Load.{counted}
use Rattle.spec_job.specs.KeyedJob.{Key}
use Rattle.spec_hall.specs.Calls.{arranges}
use Rattle.spec_hall.specs.Events.{Event, Open, Revise, Reask, Close, Balance, Start, Finish, Exchange, Leave, Arrive}
use Rattle.spec_hall.specs.Own.{brought_by}
use Rattle.spec_hall.specs.States.{keys_of}
use Rattle.spec_hall.specs.Turns.{HasWaited, IsSlice, TakesTurn, first_live}
use Rattle.spec_run.specs.Complete.{key_of_job}
use Rattle.spec_script.specs.Formed.{IsScript}
use Rattle.mal_base.specs.Limits.{limits}
use Rattle.spec_script.specs.Script.{ScriptedJob, Scripted}
use Rattle.spec_cluster.specs.Calls.{went}
use Rattle.spec_cluster.specs.Clusters.{Cluster, IsCluster, home, is_had, is_named, is_there}
use Rattle.spec_cluster.specs.Laws.{JobsAreThere}
use Rattle.spec_cluster.specs.Rounds.{AllTurn, AreRounds, IsRound, carried, goes, may_come, next_hall}
use Rattle.spec_cluster.specs.Run.{posted}
use Rattle.spec_cluster.specs.Visits.{hall_at}
use Rattle.spec_cluster.proofs.HallLemmas.{home-none}
use Rattle.spec_cluster.proofs.NameLemmas.{comes, had-at, named-append, named-by, or-none, unnamed-there}
use Rattle.spec_cluster.proofs.PostedLemmas.{IsDealt, dealt-one, one-of_key, posted-halls, posted-named, posted_at, there-of_key}
use Rattle.spec_cluster.proofs.TakenLemmas.{first-key}

-- an event of a turn: nothing is posted, and no job moves
abbrev pub is_quiet : Event → Bool
is_quiet (Balance shares) = true
is_quiet (Start k index worker) = true
is_quiet (Finish k index worker outcome) = true
is_quiet (Exchange k) = true
is_quiet event = false

arrange-quiet : (e : Event) → arranges e ≡ true → is_quiet e ≡ true
arrange-quiet (Open k ask) q = absurd (both_ways false refl q)
arrange-quiet (Revise k number r) q = absurd (both_ways false refl q)
arrange-quiet (Reask k weight) q = absurd (both_ways false refl q)
arrange-quiet (Close k) q = absurd (both_ways false refl q)
arrange-quiet (Balance shares) q = refl
arrange-quiet (Start k index worker) q = refl
arrange-quiet (Finish k index worker outcome) q = refl
arrange-quiet (Exchange k) q = refl
arrange-quiet (Leave k) q = absurd (both_ways false refl q)
arrange-quiet (Arrive k brought) q = absurd (both_ways false refl q)

-- a history has grown so
pub record GrewQuietly (past now : List Event) : Type 0 where
  pub events : List Event
  pub grown : now ≡ past ++ events
  pub quiet : list_all is_quiet events ≡ true

all-join : (p : Event → Bool) (xs ys : List Event) → list_all p xs ≡ true → list_all p ys ≡ true → list_all p (xs ++ ys) ≡ true
all-join p [] ys one other = other
all-join p (x ∷ xs) ys one other = let parts = and_parts (p x) (list_all p xs) one in and_from (p x) (list_all p (xs ++ ys)) parts.0 (all-join p xs ys parts.1 other)

all-quiet : (es : List Event) → list_all arranges es ≡ true → list_all is_quiet es ≡ true
all-quiet [] all = refl
all-quiet (e ∷ es) all = let parts = and_parts (arranges e) (list_all arranges es) all in and_from (is_quiet e) (list_all is_quiet es) (arrange-quiet e parts.0) (all-quiet es parts.1)

grew-none : (past : List Event) → GrewQuietly past past
grew-none past = record { events = []; grown = sym (append-nil past); quiet = refl }

grew-more : (past mid now : List Event) → GrewQuietly past mid → GrewQuietly mid now → GrewQuietly past now
grew-more past mid now one other = record {
  events = one.events ++ other.events;
  grown = other.grown ∙ (ap (λ (h : List Event). h ++ other.events) one.grown ∙ append_assoc past one.events other.events);
  quiet = all-join is_quiet one.events other.events one.quiet other.quiet;
}

wait-quiet : (w : ℕ) (past now : List Event) → HasWaited w past now → GrewQuietly past now
wait-quiet w past now waited = elim waited [
  | inl idle ↦ record { events = idle.events; grown = idle.grown; quiet = all-quiet idle.events idle.call.due.kinds }
  | inr done ↦ record { events = []; grown = done.grown ∙ ap (λ (es : List Event). past ++ es) done.call.1; quiet = refl }
]

slice-quiet : (w : ℕ) (past now : List Event) → IsSlice w past now → GrewQuietly past now
slice-quiet w past now slice =
    let start = slice.picked.call in
    let begun = Start start.key start.index 1 in
    let ended = Finish slice.out.key slice.out.index 1 slice.outcome in
    record {
      events = (start.due ++ begun ∷ []) ++ ended ∷ [];
      grown = slice.grown ∙ (ap (λ (h : List Event). h ++ ended ∷ []) (slice.picked.grown ∙ ap (λ (es : List Event). past ++ es) start.events) ∙ append_assoc past (start.due ++ begun ∷ []) (ended ∷ []));
      quiet = all-join is_quiet (start.due ++ begun ∷ []) (ended ∷ []) (all-join is_quiet start.due (begun ∷ []) (all-quiet start.due start.first.kinds) refl) refl;
    }

pub turn-quiet : (w n : ℕ) (past now : List Event) → TakesTurn w n past now → GrewQuietly past now
turn-quiet w zero past now turn = subst (GrewQuietly past) (sym turn) (grew-none past)
turn-quiet w (suc n) past now turn = elim turn [ inl waited ↦ wait-quiet w past now waited | inr more ↦ grew-more past more.0 now (slice-quiet w past more.0 more.1) (turn-quiet w n more.0 now more.2) ]

-- no job comes in it
quiet-come : (k : Key) (e : Event) → is_quiet e ≡ true → comes k e ≡ false
quiet-come k (Open j ask) q = absurd (both_ways false refl q)
quiet-come k (Revise j number r) q = refl
quiet-come k (Reask j weight) q = refl
quiet-come k (Close j) q = refl
quiet-come k (Balance shares) q = refl
quiet-come k (Start j index worker) q = refl
quiet-come k (Finish j index worker outcome) q = refl
quiet-come k (Exchange j) q = refl
quiet-come k (Leave j) q = refl
quiet-come k (Arrive j brought) q = absurd (both_ways false refl q)

quiet-comes : (k : Key) (es : List Event) → list_all is_quiet es ≡ true → list_any (comes k) es ≡ false
quiet-comes k [] all = refl
quiet-comes k (e ∷ es) all =
    let parts = and_parts (is_quiet e) (list_all is_quiet es) all in
    or_from (comes k e) (list_any (comes k) es) (quiet-come k e parts.0) (quiet-comes k es parts.1)

pub quiet-named : (k : Key) (past now : List Event) → GrewQuietly past now → is_named k now ≡ is_named k past
quiet-named k past now grew = ap (is_named k) grew.grown ∙ (named-append k past grew.events ∙ (ap (λ (b : Bool). is_named k past || b) (quiet-comes k grew.events grew.quiet) ∙ sym (or-none (is_named k past))))

-- the names that came to a hall stay
abbrev pub KeepNames : List (List Event) → List (List Event) → Type 0
KeepNames pasts nows = (k : Key) (n : ℕ) → is_named k (hall_at pasts n) ≡ true → is_named k (hall_at nows n) ≡ true

pub turns-keep_names : (w n : ℕ) (pasts nows : List (List Event)) → AllTurn w n pasts nows → KeepNames pasts nows
turns-keep_names w n [] [] turns k m named = named
turns-keep_names w n [] (now ∷ nows) turns k m named = absurd turns
turns-keep_names w n (past ∷ pasts) [] turns k m named = absurd turns
turns-keep_names w n (past ∷ pasts) (now ∷ nows) turns k zero named = quiet-named k past now (turn-quiet w n past now turns.0) ∙ named
turns-keep_names w n (past ∷ pasts) (now ∷ nows) turns k (suc m) named = turns-keep_names w n pasts nows turns.1 k m named

-- another history in a hall: each is as before, or is that one
pub set-at : (halls : List (List Event)) (a : ℕ) (h : List Event) (n : ℕ) → (hall_at (slice_set halls a h) n ≡ hall_at halls n) ⊎ ((n ≡ a) × (hall_at (slice_set halls a h) n ≡ h))
set-at [] a h n = inl refl
set-at (x ∷ xs) zero h zero = inr (refl, refl)
set-at (x ∷ xs) zero h (suc n) = inl refl
set-at (x ∷ xs) (suc a) h zero = inl refl
set-at (x ∷ xs) (suc a) h (suc n) = elim (set-at xs a h n) [ inl same ↦ inl same | inr here ↦ inr (ap suc here.0, here.1) ]

-- what holds of each history and of those of a move holds of each after it
pub went-each : (P : ℕ → List Event → Type 0) (c : Cluster) (k : Key) (a b : ℕ) → ((n : ℕ) → P n (hall_at c.halls n)) → P a (hall_at c.halls a ++ Leave k ∷ []) → P b (hall_at c.halls b ++ Arrive k (brought_by k (hall_at c.halls a)) ∷ []) → (n : ℕ) → P n (hall_at (went k a b c).halls n)
went-each P c k a b each left come n = elim (set-at mids b to n) [ inl same ↦ subst (P n) (sym same) (mid n) | inr here ↦ subst (P n) (sym here.1) (subst (λ (m : ℕ). P m to) (sym here.0) come) ]
  where
    from : List Event
    from = hall_at c.halls a ++ Leave k ∷ []

    to : List Event
    to = hall_at c.halls b ++ Arrive k (brought_by k (hall_at c.halls a)) ∷ []

    mids : List (List Event)
    mids = slice_set c.halls a from

    mid : (m : ℕ) → P m (hall_at mids m)
    mid m = elim (set-at c.halls a from m) [ inl same ↦ subst (P m) (sym same) (each m) | inr here ↦ subst (P m) (sym here.1) (subst (λ (i : ℕ). P i from) (sym here.0) left) ]

pub went-keeps_names : (c : Cluster) (k : Key) (a b : ℕ) → KeepNames c.halls (went k a b c).halls
went-keeps_names c k a b j n named = went-each (λ m h. is_named j (hall_at c.halls m) ≡ true → is_named j h ≡ true) c k a b (λ m q. q) (λ q. named-append j (hall_at c.halls a) (Leave k ∷ []) ∙ or_left (is_named j (hall_at c.halls a)) _ q) (λ q. named-append j (hall_at c.halls b) _ ∙ or_left (is_named j (hall_at c.halls b)) _ q) n named

pub goes-keeps_names : (c : Cluster) (k : Key) (from : ℕ) → KeepNames c.halls (goes (Some k) from c).halls
goes-keeps_names c k from = by_test (may_come k (hall_at c.halls (next_hall from c)))
  where
    by_test : (b : Bool) → KeepNames c.halls (cond b (went k from (next_hall from c) c) c).halls
    by_test true j n named = went-keeps_names c k from (next_hall from c) j n named
    by_test false j n named = named

-- each chosen job came to its hall; the first was chosen in the hall at this place
abbrev pub AreNamed : List (Option Key) → ℕ → Cluster → Type 0
AreNamed [] from c = Unit {0}
AreNamed (None ∷ rest) from c = AreNamed rest (from + 1) c
AreNamed (Some k ∷ rest) from c = (is_named k (hall_at c.halls from) ≡ true) × AreNamed rest (from + 1) c

named-still : (c d : Cluster) → KeepNames c.halls d.halls → (chosen : List (Option Key)) (from : ℕ) → AreNamed chosen from c → AreNamed chosen from d
named-still c d keep [] from are = tt
named-still c d keep (None ∷ rest) from are = named-still c d keep rest (from + 1) are
named-still c d keep (Some k ∷ rest) from are = (keep k from are.0, named-still c d keep rest (from + 1) are.1)

-- what a cluster has and keeps where a job goes on that came to its hall, it has where all chosen ones went on
pub carried-still : (P : Cluster → Type 0) → ((c : Cluster) (k : Key) (from : ℕ) → is_named k (hall_at c.halls from) ≡ true → P c → P (goes (Some k) from c))
    → (chosen : List (Option Key)) (from : ℕ) (c : Cluster) → AreNamed chosen from c → P c → P (carried chosen from c)
carried-still P stays [] from c are h = h
carried-still P stays (None ∷ rest) from c are h = carried-still P stays rest (from + 1) c are h
carried-still P stays (Some k ∷ rest) from c are h = carried-still P stays rest (from + 1) (goes (Some k) from c) (named-still c (goes (Some k) from c) (goes-keeps_names c k from) rest (from + 1) are.1) (stays c k from are.0 h)

first-named : (hs : List (List Event)) (from : ℕ) (c : Cluster) → ((n : ℕ) → hall_at c.halls (from + n) ≡ hall_at hs n) → AreNamed (map first_live hs) from c
first-named [] from c same = tt
first-named (h ∷ hs) from c same = by_first (first_live h) refl (first-named hs (from + 1) c (λ n. ap (hall_at c.halls) (more from n) ∙ same (suc n)))
  where
    more : (a b : ℕ) → a + 1 + b ≡ a + suc b
    more a b = omega arith

    none : (a : ℕ) → a + 0 ≡ a
    none a = omega arith

    by_first : (o : Option Key) → first_live h ≡ o → AreNamed (map first_live hs) (from + 1) c → AreNamed (o ∷ map first_live hs) from c
    by_first None q rest = rest
    by_first (Some k) q rest = (subst (λ (x : List Event). is_named k x ≡ true) (sym (ap (hall_at c.halls) (sym (none from)) ∙ same 0)) (named-by k h (is_there k h) (unnamed-there k h) (first-key h (keys_of h) k q)), rest)

-- so what turns and moves keep, rounds keep
pub record RoundsLeave (P : Cluster → Type 0) : Type 0 where
  pub turns : (every : ℕ) (c : Cluster) (mids : List (List Event)) → AllTurn c.workers every c.halls mids → P c → P (record c { halls = mids })
  pub goes_on : (c : Cluster) (k : Key) (from : ℕ) → is_named k (hall_at c.halls from) ≡ true → P c → P (goes (Some k) from c)

pub rounds-leave : (P : Cluster → Type 0) → RoundsLeave P → (every : ℕ) (c : Cluster) (rounds : List Cluster) (end : Cluster) → AreRounds every c rounds end → P c → P end
rounds-leave P leave every c [] end are h = subst P (sym are.0) h
rounds-leave P leave every c (next ∷ rest) end are h =
    let round : IsRound every c next = are.1 in
    let mid : Cluster = record c { halls = round.mids } in
    let all : AreNamed (map first_live round.mids) 0 mid = first-named round.mids 0 mid (λ n. ap (hall_at round.mids) (none n)) in
    rounds-leave P leave every next rest end are.2 (subst P (sym round.moved) (carried-still P leave.goes_on (map first_live round.mids) 0 mid all (leave.turns every c round.mids round.turned h)))
  where
    none : (n : ℕ) → 0 + n ≡ n
    none n = omega arith

-- the number of halls
turns-length : (w n : ℕ) (pasts nows : List (List Event)) → AllTurn w n pasts nows → length nows ≡ length pasts
turns-length w n [] [] turns = refl
turns-length w n [] (now ∷ nows) turns = absurd turns
turns-length w n (past ∷ pasts) [] turns = absurd turns
turns-length w n (past ∷ pasts) (now ∷ nows) turns = ap suc (turns-length w n pasts nows turns.1)

goes-length : (c : Cluster) (k : Key) (from : ℕ) → length (goes (Some k) from c).halls ≡ length c.halls
goes-length c k from = by_test (may_come k (hall_at c.halls (next_hall from c)))
  where
    to : ℕ
    to = next_hall from c

    by_test : (b : Bool) → length (cond b (went k from to c) c).halls ≡ length c.halls
    by_test true = length-set (slice_set c.halls from (hall_at c.halls from ++ Leave k ∷ [])) to (hall_at c.halls to ++ Arrive k (brought_by k (hall_at c.halls from)) ∷ []) ∙ length-set c.halls from (hall_at c.halls from ++ Leave k ∷ [])
    by_test false = refl

pub rounds-length : (halls every : ℕ) (c : Cluster) (rounds : List Cluster) (end : Cluster) → AreRounds every c rounds end → length c.halls ≡ halls → length end.halls ≡ halls
rounds-length halls every c rounds end are long =
    rounds-leave (λ d. length d.halls ≡ halls) (record { turns = λ n d mids turns q. turns-length d.workers n d.halls mids turns ∙ q; goes_on = λ d k from named q. goes-length d k from ∙ q }) every c rounds end are long

-- some hall has a name
abbrev pub SomeNamed : Key → Cluster → Type 0
SomeNamed k c = (n : ℕ) × (is_named k (hall_at c.halls n) ≡ true)

pub some-leave : (k : Key) → RoundsLeave (SomeNamed k)
some-leave k = record {
  turns = λ every c mids turns some. (some.0, turns-keep_names c.workers every c.halls mids turns k some.0 some.1);
  goes_on = λ c j from named some. (some.0, goes-keeps_names c j from k some.0 some.1);
}

-- the history at a place among those of some halls
map-at : (f : ℕ → List Event) (first n m : ℕ) → m < n → hall_at (map f (counted first n)) m ≡ f (first + m)
map-at f first zero m low = absurd (omega (arith, low))
map-at f first (suc n) zero low = ap f (none first)
  where
    none : (a : ℕ) → a ≡ a + 0
    none a = omega arith
map-at f first (suc n) (suc m) low = map-at f (first + 1) n m (omega (arith, low)) ∙ ap f (more first m)
  where
    more : (a b : ℕ) → a + 1 + b ≡ a + suc b
    more a b = omega arith

map-length : (f : ℕ → List Event) (ns : List ℕ) → length (map f ns) ≡ length ns
map-length f [] = refl
map-length f (n ∷ ns) = ap suc (map-length f ns)

counted-length : (first n : ℕ) → length (counted first n) ≡ n
counted-length first zero = refl
counted-length first (suc n) = ap suc (counted-length (first + 1) n)

-- a job of the script is named in the hall that it was dealt to
pub posted-some : (halls workers i : ℕ) (s : Scripted) (j : ScriptedJob) → IsScript limits s → 0 < halls → slice_get s.jobs i ≡ Some j → SomeNamed (key_of_job j) (posted halls workers s)
posted-some halls workers i s j formed some at =
    let k = key_of_job j in
    let is : IsDealt k halls 0 s.jobs j = dealt-one k halls 0 s.jobs j (one-of_key s i j formed at) in
    let n = is.place % halls in
    let low : n < halls = mod-lt is.place some in
    let here = posted-named k halls n s ∙ there-of_key k _ j (is.is n ∙ ap (λ (b : Bool). cond b (j ∷ []) []) ((Decides-eqb n n).1 refl)) in
    (n, ap (λ (hs : List (List Event)). is_named k (hall_at hs n)) (posted-halls halls workers s) ∙ (ap (is_named k) (map-at (posted_at halls s) 0 halls n low ∙ ap (posted_at halls s) (none n)) ∙ here))
  where
    none : (a : ℕ) → 0 + a ≡ a
    none a = omega arith

pub some-halls : (halls workers every : ℕ) (s : Scripted) (rounds : List Cluster) (end : Cluster) → AreRounds every (posted halls workers s) rounds end → IsCluster end → 0 < halls
some-halls halls workers every s rounds end are is =
    let long : length (posted halls workers s).halls ≡ halls = ap length (posted-halls halls workers s) ∙ (map-length (posted_at halls s) (counted 0 halls) ∙ counted-length 0 halls) in
    enough (length end.halls) halls is.few (rounds-length halls every (posted halls workers s) rounds end are long)
  where
    enough : (a b : ℕ) → 2 ≤ a → a ≡ b → 0 < b
    enough a b p q = omega arith

-- so some hall has it in the end
pub named-home : (c : Cluster) (k : Key) → IsCluster c → SomeNamed k c → is_some (home k c.halls) ≡ true
named-home c k is some = by_home (home k c.halls) refl
  where
    by_home : (o : Option ℕ) → home k c.halls ≡ o → is_some o ≡ true
    by_home (Some n) q = refl
    by_home None q = absurd (both_ways (is_had k c.halls) (is.unknown k (home-none k c.halls q)).fresh (had-at k c.halls some.0 some.1))

pub jobs-are_there : JobsAreThere
jobs-are_there halls workers every i s rounds end j formed are is at =
    named-home end (key_of_job j) is (rounds-leave (SomeNamed (key_of_job j)) (some-leave (key_of_job j)) every (posted halls workers s) rounds end are (posted-some halls workers i s j formed (some-halls halls workers every s rounds end are is) at))
