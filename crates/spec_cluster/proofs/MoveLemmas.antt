-- A move keeps what holds of a cluster.
use Rattle.std.proofs.Common.{◌≡◌, ◌≢◌, ◌⊎◌, ℕ, ◌+◌, ◌-◌, ◌<◌, ◌≤◌, Bool, true, false, cond, not, ◌||◌, filter, List, [], ◌∷◌, ◌++◌, length, map, drop, slice_set, Some, None, Ok, Err, inl, inr, refl, sym, ◌∙◌, ap, subst, arith, append-nil}
use Rattle.std.specs.List.{list_any}
use Rattle.std.proofs.Math.Seq.{drop-append-add}
use Rattle.std.proofs.lemmas.Bool.{both_ways, false_from_ne_true, or_from, or_left, or_right}
use Rattle.std.proofs.lemmas.List.{get_or-set_same, get_or-set_other, length-set, map-append}
use Rattle.std.proofs.lemmas.List.Elements.{filter-append}
use Rattle.std.proofs.lemmas.List.Folds.{list_any-append}
use Rattle.spec_job.specs.KeyedJob.{Key}
use Rattle.spec_job.specs.SoloMachine.{Own}
use Rattle.spec_hall.specs.Events.{Event, Arrive, Leave}
use Rattle.spec_hall.specs.Legal.{Legal, MayArrive, MayLeave}
use Rattle.spec_hall.specs.Own.{adds_volume, arrives, is_key, leaves, own, brought_by}
use Rattle.spec_hall.specs.States.{keys_of, leases, titled}
use Rattle.spec_hall.proofs.KeyLemmas.{filter-absent, filter-there, is_key-Decides, is_key-back, is_key-same, without}
use Rattle.spec_hall.proofs.MovedLemmas.{volume-joins}
use Rattle.spec_hall.proofs.PushLemmas.{Legal-push, keys-push, leases-push, own-push}
use Rattle.spec_hall.proofs.StatesLemmas.{job_of-states}
use Rattle.spec_cluster.specs.declared.fault.MoveFault.TheVariants as moving
use Rattle.spec_cluster.specs.Calls.{IsMove, MayTry, went}
use Rattle.spec_cluster.specs.Clusters.{Cluster, IsAtHome, IsCluster, IsStay, IsUnknown, done_in, is_named, is_there}
use Rattle.spec_cluster.specs.Laws.{MoveKeeps}
use Rattle.spec_cluster.specs.Visits.{Move, Visit, hall_at, moved_to, opened_in, opens, since, stayed, until_leave}
use Rattle.spec_cluster.proofs.HallLemmas.{IsHome, at-hall, home-found, opened-same}
use Rattle.spec_cluster.proofs.NameLemmas.{fresh-at, had-none, named-append, one-more, or-none}
use Rattle.spec_cluster.proofs.StayLemmas.{AllGrowTo, AreKept, GrewWithout, GrowsTo, IsWhole, all-kept, begins-grows, begins-within, done-push, home-grows, left-push, since-grows, stay-whole}
use Rattle.spec_cluster.proofs.VisitLemmas.{stay-all, stay-left}

-- a key that is taken away is gone
filter-gone : (k : Key) (ks : List Key) → list_any (is_key k) (without k ks) ≡ false
filter-gone k [] = refl
filter-gone k (x ∷ xs) = by_test (is_key k x) refl (filter-gone k xs)
  where
    by_test : (b : Bool) → is_key k x ≡ b → list_any (is_key k) (without k xs) ≡ false → list_any (is_key k) (cond (not b) (x ∷ without k xs) (without k xs)) ≡ false
    by_test true q rest = rest
    by_test false q rest = or_from (is_key k x) (list_any (is_key k) (without k xs)) q rest

-- the moves of a job with one more
moved-mine : (k : Key) (moves : List Move) (v : Visit) → moved_to k (moves ++ record { key = k; visit = v } ∷ []) ≡ moved_to k moves ++ v ∷ []
moved-mine k moves v =
    ap (map (λ (m : Move). m.visit)) (filter-append (λ (m : Move). is_key k m.key) moves (record { key = k; visit = v } ∷ []) ∙ ap (λ (b : Bool). filter (λ (m : Move). is_key k m.key) moves ++ cond b (record { key = k; visit = v } ∷ []) []) (is_key-same k))
    ∙ map-append (λ (m : Move). m.visit) (filter (λ (m : Move). is_key k m.key) moves) (record { key = k; visit = v } ∷ [])

moved-other : (j k : Key) (moves : List Move) (v : Visit) → is_key j k ≡ false → moved_to j (moves ++ record { key = k; visit = v } ∷ []) ≡ moved_to j moves
moved-other j k moves v other =
    ap (map (λ (m : Move). m.visit)) (filter-append (λ (m : Move). is_key j m.key) moves (record { key = k; visit = v } ∷ []) ∙ (ap (λ (b : Bool). filter (λ (m : Move). is_key j m.key) moves ++ cond b (record { key = k; visit = v } ∷ []) []) other ∙ append-nil (filter (λ (m : Move). is_key j m.key) moves)))

-- a stay ends with the job's leave
stay-leaves : (k : Key) (halls others : List (List Event)) (before : List Visit) (v : Visit) → IsStay k halls before v false → hall_at others v.hall ≡ hall_at halls v.hall ++ Leave k ∷ [] → done_in k others before ≡ done_in k halls before → IsStay k others before v true
stay-leaves k halls others before v stay grown same = record {
  begins = begins-grows k halls others before v stay.begins (Leave k ∷ [], grown) same;
  once = ap (list_any (arrives k)) (ap (until_leave k) more ∙ stay-left k (since halls v) stay.ends) ∙ (list_any-append (arrives k) (since halls v) (Leave k ∷ []) ∙ or_from (list_any (arrives k) (since halls v)) false (ap (list_any (arrives k)) (sym (stay-all k (since halls v) stay.ends)) ∙ stay.once) refl);
  ends = ap (list_any (leaves k)) more ∙ (list_any-append (leaves k) (since halls v) (Leave k ∷ []) ∙ or_right (list_any (leaves k) (since halls v)) (is_key k k || false) (or_left (is_key k k) false (is_key-same k)));
}
  where
    more : since others v ≡ since halls v ++ Leave k ∷ []
    more = since-grows halls others v (begins-within k halls before v stay.begins) (Leave k ∷ [], grown)

module _ (c : Cluster) (k : Key) (a b : ℕ) (is : IsCluster c) (home : IsHome k c.halls a) (within : b < length c.halls) (other : b ≢ a) (may : MayArrive (hall_at c.halls b) k (brought_by k (hall_at c.halls a))) where
  abbrev here : List Event
  here = hall_at c.halls a

  abbrev there : List Event
  there = hall_at c.halls b

  -- the histories of both halls, and all of them
  abbrev left : List Event
  left = here ++ Leave k ∷ []

  abbrev come : List Event
  come = there ++ Arrive k (brought_by k here) ∷ []

  abbrev mids : List (List Event)
  mids = slice_set c.halls a left

  abbrev after : Cluster
  after = went k a b c

  abbrev now : List (List Event)
  now = slice_set mids b come

  other-back : a ≢ b
  other-back q = other (sym q)

  within-mids : b < length mids
  within-mids = subst (λ (n : ℕ). b < n) (sym (length-set c.halls a left)) within

  at-now : (P : ℕ → List Event → Type 0) → P a left → P b come → ((m : ℕ) → m ≢ a → m ≢ b → P m (hall_at c.halls m)) → (m : ℕ) → P m (hall_at now m)
  at-now P from to others = at-hall mids b come within-mids P to (λ m behind. at-hall c.halls a left home.within (λ n h. n ≢ b → P n h) (λ x. from) others m behind)

  here-now : hall_at now a ≡ left
  here-now = get_or-set_other mids b a come [] other-back ∙ get_or-set_same c.halls a left [] home.within

  pub there-now : hall_at now b ≡ come
  there-now = get_or-set_same mids b come [] within-mids

  pub there-mids : hall_at mids b ≡ there
  there-mids = get_or-set_other c.halls a b left [] other

  -- the keys of both
  left-keys : (j : Key) → is_there j left ≡ list_any (is_key j) (without k (keys_of here))
  left-keys j = ap (list_any (is_key j)) (keys-push here (Leave k))

  pub come-keys : (j : Key) → is_there j come ≡ (is_there j there || is_key j k)
  come-keys j = ap (list_any (is_key j)) (keys-push there (Arrive k (brought_by k here))) ∙ one-more j k (keys_of there)

  is-mine : (j : Key) → is_key j k ≡ true → j ≡ k
  is-mine j = (is_key-Decides j k).0

  -- a job that is there was there and is another, or is the one that came
  abbrev WasThere : Key → ℕ → Type 0
  WasThere j m = ((is_there j (hall_at c.halls m) ≡ true) × (is_key j k ≡ false)) ⊎ ((m ≡ b) × (is_key j k ≡ true))

  there-in : (j : Key) (m : ℕ) → is_there j (hall_at now m) ≡ true → WasThere j m
  there-in j = at-now (λ m h. is_there j h ≡ true → WasThere j m) from-left from-come from-others
    where
      from-left : is_there j left ≡ true → WasThere j a
      from-left q = inl (old, different)
        where
          old : is_there j here ≡ true
          old = by_test (is_there j here) refl
            where
              by_test : (x : Bool) → is_there j here ≡ x → x ≡ true
              by_test true e = refl
              by_test false e = absurd (both_ways (is_there j left) (left-keys j ∙ filter-absent j k (keys_of here) e) q)

          different : is_key j k ≡ false
          different = false_from_ne_true (is_key j k) (λ e. both_ways (is_there j left) (left-keys j ∙ subst (λ (x : Key). list_any (is_key x) (without k (keys_of here)) ≡ false) (sym (is-mine j e)) (filter-gone k (keys_of here))) q)

      from-come : is_there j come ≡ true → WasThere j b
      from-come q = by_test (is_key j k) refl (sym (come-keys j) ∙ q)
        where
          by_test : (x : Bool) → is_key j k ≡ x → (is_there j there || is_key j k) ≡ true → WasThere j b
          by_test true e f = inr (refl, e)
          by_test false e f = inl (or-none (is_there j there) ∙ (ap (λ (x : Bool). is_there j there || x) (sym e) ∙ f), e)

      from-others : (m : ℕ) → m ≢ a → m ≢ b → is_there j (hall_at c.halls m) ≡ true → WasThere j m
      from-others m away far q = inl (q, false_from_ne_true (is_key j k) (λ e. away (is.one_home k m a (subst (λ (x : Key). is_there x (hall_at c.halls m) ≡ true) (is-mine j e) q) home.there)))

  -- another job stays where it was
  pub there-still : (j : Key) → is_key j k ≡ false → (m : ℕ) → is_there j (hall_at c.halls m) ≡ true → is_there j (hall_at now m) ≡ true
  there-still j different = at-now (λ m h. is_there j (hall_at c.halls m) ≡ true → is_there j h ≡ true)
      (λ q. left-keys j ∙ filter-there j k (keys_of here) q (is_key-back j k different))
      (λ q. come-keys j ∙ or_left (is_there j there) (is_key j k) q)
      (λ m away far q. q)

  -- no job is opened
  open-same : (j : Key) (m : ℕ) → list_any (opens j) (hall_at now m) ≡ list_any (opens j) (hall_at c.halls m)
  open-same j = at-now (λ m h. list_any (opens j) h ≡ list_any (opens j) (hall_at c.halls m))
      (list_any-append (opens j) here (Leave k ∷ []) ∙ sym (or-none (list_any (opens j) here)))
      (list_any-append (opens j) there (Arrive k (brought_by k here) ∷ []) ∙ sym (or-none (list_any (opens j) there)))
      (λ m away far. refl)

  opened-still : (j : Key) → opened_in j now ≡ opened_in j c.halls
  opened-still j =
      opened-same j mids b come (list_any-append (opens j) there (Arrive k (brought_by k here) ∷ []) ∙ (sym (or-none (list_any (opens j) there)) ∙ ap (list_any (opens j)) (sym there-mids)))
      ∙ opened-same j c.halls a left (list_any-append (opens j) here (Leave k ∷ []) ∙ sym (or-none (list_any (opens j) here)))

  -- each history grows
  grows : AllGrowTo c.halls now
  grows = at-now (λ m h. GrowsTo (hall_at c.halls m) h) (Leave k ∷ [], refl) (Arrive k (brought_by k here) ∷ [], refl) (λ m away far. ([], sym (append-nil (hall_at c.halls m))))

  pub grew-other : (j : Key) → is_key j k ≡ false → (m : ℕ) → GrewWithout j (hall_at c.halls m) (hall_at now m)
  grew-other j different = at-now (λ m h. GrewWithout j (hall_at c.halls m) h)
      (record { later = Leave k ∷ []; grown = refl; stays = or_from (is_key j k) false different refl; alone = refl })
      (record { later = Arrive k (brought_by k here) ∷ []; grown = refl; stays = refl; alone = or_from (is_key j k) false different refl })
      (λ m away far. record { later = []; grown = sym (append-nil (hall_at c.halls m)); stays = refl; alone = refl })

  abbrev first : ℕ → Visit
  first o = record { hall = o; from = 0 }

  other-home : (j : Key) (m : ℕ) → is_there j (hall_at c.halls m) ≡ true → is_key j k ≡ false → IsAtHome after j m
  other-home j m q different = home-grows c after j m (is.at_home j m q)
      (ap (λ (o : ℕ). first o ∷ moved_to j after.moves) (opened-still j) ∙ ap (λ (vs : List Visit). first (opened_in j c.halls) ∷ vs) (moved-other j k c.moves (record { hall = b; from = length there + 1 }) different))
      grows (grew-other j different m)

  -- the job that moved is in its new hall
  new-home : IsAtHome after k b
  new-home = record {
    gone = was.gone ++ was.last ∷ [];
    last = new;
    stays = ap (λ (o : ℕ). first o ∷ moved_to k after.moves) (opened-still k) ∙ (ap (λ (vs : List Visit). first (opened_in k c.halls) ∷ vs) (moved-mine k c.moves new) ∙ ap (λ (vs : List Visit). vs ++ new ∷ []) was.stays);
    hall = refl;
    left = left-push k now [] was.gone was.last kept.left (stay-leaves k c.halls now was.gone was.last was.here grown kept.same);
    here = record {
      begins = inr (record { past = there; later = []; parts = there-now ∙ ap (λ (os : List Own). there ++ Arrive k os ∷ []) brings; place = refl });
      once = ap (λ (h : List Event). list_any (arrives k) (until_leave k h)) nothing;
      ends = ap (list_any (leaves k)) nothing;
    };
  }
    where
      was : IsAtHome c k a
      was = is.at_home k a home.there

      new : Visit
      new = record { hall = b; from = length there + 1 }

      kept : AreKept k c.halls now [] was.gone
      kept = all-kept k c.halls now [] was.gone was.left grows refl

      grown : hall_at now was.last.hall ≡ hall_at c.halls was.last.hall ++ Leave k ∷ []
      grown = subst (λ (m : ℕ). hall_at now m ≡ hall_at c.halls m ++ Leave k ∷ []) (sym was.hall) here-now

      nothing : since now new ≡ []
      nothing = ap (drop (length there + 1)) there-now ∙ drop-append-add there (Arrive k (brought_by k here) ∷ []) 1

      whole : IsWhole k c.halls was.gone was.last
      whole = stay-whole c.workers k c.halls was.gone was.last (is.legal was.last.hall) was.here

      stay : List Event
      stay = since c.halls was.last

      did : stayed k now was.last ≡ adds_volume 0 (own k stay)
      did = ap (own k) (ap (until_leave k) (since-grows c.halls now was.last (begins-within k c.halls was.gone was.last was.here.begins) (Leave k ∷ [], grown)) ∙ stay-left k stay was.here.ends)
          ∙ (own-push k stay (Leave k) ∙ ap (λ (x : Bool). cond x (adds_volume 0 (own k stay)) (own k stay)) (is_key-same k))

      -- what it brings is all that it did
      brings : brought_by k here ≡ done_in k now (was.gone ++ was.last ∷ [])
      brings =
          ap (λ (m : ℕ). adds_volume 0 (own k (hall_at c.halls m))) (sym was.hall)
          ∙ (ap (adds_volume 0) whole.own_is
          ∙ (volume-joins 0 (done_in k c.halls was.gone) (own k stay) whole.still
          ∙ (ap (λ (os : List Own). done_in k c.halls was.gone ++ os) (sym did)
          ∙ (ap (λ (os : List Own). os ++ stayed k now was.last) (sym kept.same)
          ∙ sym (done-push k now was.gone was.last)))))

  homes-once : (j : Key) (m n : ℕ) → WasThere j m → WasThere j n → m ≡ n
  homes-once j m n p q = elim p [
    | inl old ↦ elim q [ inl too ↦ is.one_home j m n old.0 too.0 | inr new ↦ absurd (both_ways (is_key j k) old.1 new.1) ]
    | inr new ↦ elim q [ inl old ↦ absurd (both_ways (is_key j k) old.1 new.1) | inr too ↦ new.0 ∙ sym too.0 ]
  ]

  -- a job that is nowhere was nowhere
  still-unknown : (j : Key) → ((m : ℕ) → is_there j (hall_at now m) ≡ false) → IsUnknown after j
  still-unknown j none = record { fresh = had-none j now unnamed; still = moved-other j k c.moves (record { hall = b; from = length there + 1 }) different ∙ was.still }
    where
      different : is_key j k ≡ false
      different = false_from_ne_true (is_key j k) (λ q. both_ways (is_there j (hall_at now b)) (none b) (ap (is_there j) there-now ∙ (come-keys j ∙ or_right (is_there j there) (is_key j k) q)))

      was : IsUnknown c j
      was = is.unknown j (λ m. false_from_ne_true (is_there j (hall_at c.halls m)) (λ q. both_ways (is_there j (hall_at now m)) (none m) (there-still j different m q)))

      unnamed : (m : ℕ) → is_named j (hall_at now m) ≡ false
      unnamed = at-now (λ m h. is_named j h ≡ false)
          (named-append j here (Leave k ∷ []) ∙ or_from (is_named j here) false (fresh-at j c.halls a was.fresh) refl)
          (named-append j there (Arrive k (brought_by k here) ∷ []) ∙ or_from (is_named j there) (is_key j k || false) (fresh-at j c.halls b was.fresh) (or_from (is_key j k) false different refl))
          (λ m away far. fresh-at j c.halls m was.fresh)

  may-leave : MayLeave here k (titled here k)
  may-leave = record {
    job = job_of-states here k ∙ ap (λ (x : Bool). cond x (Some (titled here k)) None) home.there;
    home = ap (list_any (λ l. is_key k l.key)) (is.calm a);
  }

  pub went-is : IsCluster after
  went-is =
      let size = length-set mids b come ∙ length-set c.halls a left in
      record {
        few = subst (λ (m : ℕ). 2 ≤ m) (sym size) is.few;
        bound = subst (λ (m : ℕ). m ≤ 8) (sym size) is.bound;
        some_worker = is.some_worker;
        worker_bound = is.worker_bound;
        legal = at-now (λ m h. Legal c.workers h) (Legal-push c.workers here (Leave k) (is.legal a) (titled here k, may-leave)) (Legal-push c.workers there (Arrive k (brought_by k here)) (is.legal b) may) (λ m away far. is.legal m);
        calm = at-now (λ m h. leases h ≡ []) (leases-push here (Leave k) ∙ is.calm a) (leases-push there (Arrive k (brought_by k here)) ∙ is.calm b) (λ m away far. is.calm m);
        one_home = λ j m n p q. homes-once j m n (there-in j m p) (there-in j n q);
        one_opening = λ j m n p q. is.one_opening j m n (sym (open-same j m) ∙ p) (sym (open-same j n) ∙ q);
        at_home = λ j m q. elim (there-in j m q) [ inl old ↦ other-home j m old.0 old.1 | inr mine ↦ subst (λ (x : Key). IsAtHome after x m) (sym (is-mine j mine.1)) (subst (IsAtHome after k) (sym mine.0) new-home) ];
        unknown = still-unknown;
      }

-- the places of both halls
pub try-places : (c : Cluster) (k : Key) (to from : ℕ) → MayTry c k to from → (to - 1 < length c.halls) × (to - 1 ≢ from)
try-places c k to from may = (within to (length c.halls) may.low may.high, λ q. may.other (back to from may.low q))
  where
    within : (m n : ℕ) → 1 ≤ m → m ≤ n → m - 1 < n
    within m n low high = omega arith

    back : (m n : ℕ) → 1 ≤ m → m - 1 ≡ n → m ≡ n + 1
    back m n low q = omega arith

-- so is it of the call
move-is : (c next : Cluster) (k : Key) (to from : ℕ) → IsCluster c → IsMove c k to from next → IsCluster next
move-is c next k to from is move =
    let places = try-places c k to from move.may in
    subst IsCluster (sym move.went_on) (went-is c k from (to - 1) is (home-found k c.halls from move.may.there) places.0 places.1 move.arrives)

pub move-keeps : MoveKeeps
move-keeps c next k to (Ok done) is call = move-is c next k to call.0 is call.1
move-keeps c next k to (Err moving.NoJob) is call = subst IsCluster (sym call.1) is
move-keeps c next k to (Err moving.NoHall) is call = subst IsCluster (sym call.2) is
move-keeps c next k to (Err moving.Same) is call = subst IsCluster (sym call.3) is
move-keeps c next k to (Err moving.TenantFull) is call = subst IsCluster (sym call.2) is
move-keeps c next k to (Err moving.HallFull) is call = subst IsCluster (sym call.2) is
move-keeps c next k to (Err moving.OutOfMemory) is call = subst IsCluster (sym call.2) is
