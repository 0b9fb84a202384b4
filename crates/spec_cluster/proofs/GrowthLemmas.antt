-- Events of one hall that move no job keep what holds of a cluster.
use Rattle.std.proofs.Common.{◌≡◌, ◌≢◌, ◌⊎◌, ℕ, ◌≤◌, Bool, true, false, ◌||◌, List, [], ◌∷◌, ◌++◌, inl, inr, refl, sym, ◌∙◌, ap, subst, append-nil}
use Rattle.std.specs.List.{list_any}
use Rattle.std.proofs.lemmas.Bool.{both_ways, false_from_ne_true, or_cases, or_from, or_left, or_right}
use Rattle.std.proofs.lemmas.List.{get_or-set_same, length-set}
use Rattle.std.proofs.lemmas.List.Folds.{list_any-append}
use Rattle.spec_job.specs.KeyedJob.{Key}
use Rattle.spec_hall.specs.Events.{Event}
use Rattle.spec_hall.specs.Legal.{Legal}
use Rattle.spec_hall.specs.Own.{arrives, leaves}
use Rattle.spec_hall.specs.States.{leases}
use Rattle.spec_cluster.specs.Clusters.{Cluster, IsAtHome, IsCluster, IsUnknown, is_had, is_named, is_there}
use Rattle.spec_cluster.specs.Laws.{GrowthKeeps, Grows, grown}
use Rattle.spec_cluster.specs.Visits.{Visit, hall_at, moved_to, opened_in, opens, since, until_leave}
use Rattle.spec_cluster.proofs.HallLemmas.{at-hall, opened-at, opened-same}
use Rattle.spec_cluster.proofs.NameLemmas.{all-come, arrive-moves, comes, fresh-at, had-none, leave-moves, named-append, none-moves, open-had, or-none, there-append, there-had, unnamed-arrived, unnamed-left, unnamed-open}
use Rattle.spec_cluster.proofs.StayLemmas.{AllGrowTo, GrewWithout, GrowsTo, home-grows}
use Rattle.spec_cluster.proofs.VisitLemmas.{stay-all}

module _ (c : Cluster) (n : ℕ) (es : List Event) (is : IsCluster c) (g : Grows c n es) where
  -- the history of that hall before and after
  abbrev before : List Event
  before = hall_at c.halls n

  abbrev after : List Event
  after = before ++ es

  abbrev now : List (List Event)
  now = (grown c n es).halls

  at-now : (P : ℕ → List Event → Type 0) → P n after → ((m : ℕ) → m ≢ n → P m (hall_at c.halls m)) → (m : ℕ) → P m (hall_at now m)
  at-now = at-hall c.halls n after g.within

  -- a job that is there was there, or is opened in this hall now
  there-in : (k : Key) (m : ℕ) → is_there k (hall_at now m) ≡ true → (is_there k (hall_at c.halls m) ≡ true) ⊎ ((m ≡ n) × (list_any (opens k) es ≡ true))
  there-in k = at-now (λ m h. is_there k h ≡ true → (is_there k (hall_at c.halls m) ≡ true) ⊎ ((m ≡ n) × (list_any (opens k) es ≡ true)))
      (λ there. elim (or_cases (is_there k before) (list_any (opens k) es) (sym (there-append k before es g.still) ∙ there)) [ inl old ↦ inl old | inr new ↦ inr (refl, new) ])
      (λ m other there. inl there)

  open-in : (k : Key) (m : ℕ) → list_any (opens k) (hall_at now m) ≡ true → (list_any (opens k) (hall_at c.halls m) ≡ true) ⊎ ((m ≡ n) × (list_any (opens k) es ≡ true))
  open-in k = at-now (λ m h. list_any (opens k) h ≡ true → (list_any (opens k) (hall_at c.halls m) ≡ true) ⊎ ((m ≡ n) × (list_any (opens k) es ≡ true)))
      (λ opened. elim (or_cases (list_any (opens k) before) (list_any (opens k) es) (sym (list_any-append (opens k) before es) ∙ opened)) [ inl old ↦ inl old | inr new ↦ inr (refl, new) ])
      (λ m other opened. inl opened)

  -- one that was had is not opened now
  had-not : (k : Key) → is_had k c.halls ≡ true → list_any (opens k) es ≡ false
  had-not k had = false_from_ne_true (list_any (opens k) es) (λ q. both_ways (is_had k c.halls) (g.fresh k q) had)

  stands-once : (k : Key) (i j : ℕ) (P : ℕ → Type 0) → ((m : ℕ) → P m → is_had k c.halls ≡ true) → (P i → P j → i ≡ j) → (P i ⊎ ((i ≡ n) × (list_any (opens k) es ≡ true))) → (P j ⊎ ((j ≡ n) × (list_any (opens k) es ≡ true))) → i ≡ j
  stands-once k i j P had once a b = elim a [
    | inl old ↦ elim b [ inl too ↦ once old too | inr new ↦ absurd (both_ways (list_any (opens k) es) (had-not k (had i old)) new.1) ]
    | inr new ↦ elim b [ inl old ↦ absurd (both_ways (list_any (opens k) es) (had-not k (had j old)) new.1) | inr too ↦ new.0 ∙ sym too.0 ]
  ]

  -- each hall grows, without a leave or an arrival
  grows : AllGrowTo c.halls now
  grows = at-now (λ m h. GrowsTo (hall_at c.halls m) h) (es, refl) (λ m other. ([], sym (append-nil (hall_at c.halls m))))

  pub grew : (k : Key) (m : ℕ) → GrewWithout k (hall_at c.halls m) (hall_at now m)
  grew k = at-now (λ m h. GrewWithout k (hall_at c.halls m) h)
      (record { later = es; grown = refl; stays = none-moves (leaves k) (leave-moves k) es g.still; alone = none-moves (arrives k) (arrive-moves k) es g.still })
      (λ m other. record { later = []; grown = sym (append-nil (hall_at c.halls m)); stays = refl; alone = refl })

  -- a job that was there is at home still
  old-home : (k : Key) (m : ℕ) → is_there k (hall_at c.halls m) ≡ true → IsAtHome (grown c n es) k m
  old-home k m there = home-grows c (grown c n es) k m (is.at_home k m there) (ap (λ (o : ℕ). let v : Visit = record { hall = o; from = 0 } in v ∷ moved_to k c.moves) same) grows (grew k m)
    where
      same : opened_in k now ≡ opened_in k c.halls
      same = opened-same k c.halls n after (list_any-append (opens k) before es ∙ (ap (λ (b : Bool). list_any (opens k) before || b) (had-not k (there-had k c.halls m there)) ∙ sym (or-none (list_any (opens k) before))))

  -- it stays
  pub still-there : (k : Key) (m : ℕ) → is_there k (hall_at c.halls m) ≡ true → is_there k (hall_at now m) ≡ true
  still-there k = at-now (λ m h. is_there k (hall_at c.halls m) ≡ true → is_there k h ≡ true) (λ q. there-append k before es g.still ∙ or_left (is_there k before) (list_any (opens k) es) q) (λ m other q. q)

  -- a job that no hall has was not had before
  was-nowhere : (k : Key) → ((m : ℕ) → is_there k (hall_at now m) ≡ false) → (m : ℕ) → is_there k (hall_at c.halls m) ≡ false
  was-nowhere k none m = false_from_ne_true (is_there k (hall_at c.halls m)) (λ q. both_ways (is_there k (hall_at now m)) (none m) (still-there k m q))

  still-unknown : (k : Key) → ((m : ℕ) → is_there k (hall_at now m) ≡ false) → IsUnknown (grown c n es) k
  still-unknown k none =
      let was = is.unknown k (was-nowhere k none) in
      record { fresh = had-none k now (at-now (λ m h. is_named k h ≡ false) (unnamed (fresh-at k c.halls n was.fresh)) (λ m other. fresh-at k c.halls m was.fresh)); still = was.still }
    where
      unopened : list_any (opens k) es ≡ false
      unopened = false_from_ne_true (list_any (opens k) es) (λ q. both_ways (is_there k (hall_at now n)) (none n) (ap (is_there k) (get_or-set_same c.halls n after [] g.within) ∙ (there-append k before es g.still ∙ or_right (is_there k before) (list_any (opens k) es) q)))

      unnamed : is_named k before ≡ false → is_named k after ≡ false
      unnamed old = named-append k before es ∙ or_from (is_named k before) (list_any (comes k) es) old (all-come k es g.still ∙ unopened)

  -- a job that is opened now is at home in this hall
  new-home : (k : Key) → list_any (opens k) es ≡ true → IsAtHome (grown c n es) k n
  new-home k opened = record {
    gone = [];
    last = first;
    stays = ap (λ (vs : List Visit). first ∷ vs) known.still;
    hall = place;
    left = tt;
    here = record {
      begins = inl (refl, refl);
      once = ap (λ (h : List Event). list_any (arrives k) (until_leave k h)) here ∙ (ap (list_any (arrives k)) (stay-all k after stays) ∙ alone);
      ends = ap (list_any (leaves k)) here ∙ stays;
    };
  }
    where
      fresh : is_had k c.halls ≡ false
      fresh = g.fresh k opened

      known : IsUnknown c k
      known = is.unknown k (λ m. false_from_ne_true (is_there k (hall_at c.halls m)) (λ q. both_ways (is_had k c.halls) fresh (there-had k c.halls m q)))

      first : Visit
      first = record { hall = opened_in k now; from = 0 }

      place : opened_in k now ≡ n
      place = opened-at k now n
          (ap (list_any (opens k)) (get_or-set_same c.halls n after [] g.within) ∙ (list_any-append (opens k) before es ∙ or_right (list_any (opens k) before) (list_any (opens k) es) opened))
          (at-now (λ m h. m ≢ n → list_any (opens k) h ≡ false) (λ other. absurd (other refl)) (λ m other again. unnamed-open k (hall_at c.halls m) (fresh-at k c.halls m fresh)))

      here : since now first ≡ after
      here = ap (λ (m : ℕ). hall_at now m) place ∙ get_or-set_same c.halls n after [] g.within

      stays : list_any (leaves k) after ≡ false
      stays = list_any-append (leaves k) before es ∙ or_from (list_any (leaves k) before) (list_any (leaves k) es) (unnamed-left c.workers k before (is.legal n) (fresh-at k c.halls n fresh)) (none-moves (leaves k) (leave-moves k) es g.still)

      alone : list_any (arrives k) after ≡ false
      alone = list_any-append (arrives k) before es ∙ or_from (list_any (arrives k) before) (list_any (arrives k) es) (unnamed-arrived k before (fresh-at k c.halls n fresh)) (none-moves (arrives k) (arrive-moves k) es g.still)

  grown-is : IsCluster (grown c n es)
  grown-is =
      let size = length-set c.halls n after in
      record {
        few = subst (λ (m : ℕ). 2 ≤ m) (sym size) is.few;
        bound = subst (λ (m : ℕ). m ≤ 8) (sym size) is.bound;
        some_worker = is.some_worker;
        worker_bound = is.worker_bound;
        legal = at-now (λ m h. Legal c.workers h) g.legal (λ m other. is.legal m);
        calm = at-now (λ m h. leases h ≡ []) g.calm (λ m other. is.calm m);
        one_home = λ k i j a b. stands-once k i j (λ m. is_there k (hall_at c.halls m) ≡ true) (there-had k c.halls) (is.one_home k i j) (there-in k i a) (there-in k j b);
        one_opening = λ k i j a b. stands-once k i j (λ m. list_any (opens k) (hall_at c.halls m) ≡ true) (open-had k c.halls) (is.one_opening k i j) (open-in k i a) (open-in k j b);
        at_home = λ k m there. elim (there-in k m there) [ inl old ↦ old-home k m old | inr new ↦ subst (IsAtHome (grown c n es) k) (sym new.0) (new-home k new.1) ];
        unknown = still-unknown;
      }

pub growth-keeps : GrowthKeeps
growth-keeps = grown-is
