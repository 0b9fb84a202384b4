-- In a legal history a job whose name came has lawful own events.
use Rattle.std.proofs.Common.{◌≡◌, ℕ, ◌+◌, ◌≤◌, Bool, true, false, cond, List, [], ◌∷◌, map, find, sum, Some, sym, subst, arith}
use Rattle.std.specs.List.{sum}
use Rattle.std.specs.Option.{option_map_or}
use Rattle.std.proofs.lemmas.List.Sums.{sum_by-cons}
use Rattle.mal_base.specs.Asks.{Weighed}
use Rattle.mal_history.specs.declared.event.Share.{Share}
use Rattle.mal_revision.specs.Posted.{Posted}
use Rattle.spec_job.specs.KeyedJob.{Key, KeyedJob}
use Rattle.spec_job.specs.Lawful.{IsLawful, MayGrow, MayPass, MayWeigh}
use Rattle.spec_job.specs.SoloMachine.{Own, Revised, Reasked, Closed, Volume, Started, Finished, Exchanged, solo, is_exchange_due}
use Rattle.spec_job.proofs.LawfulLemmas.{lawful-push}
use Rattle.spec_hall.specs.Events.{Event, Open, Revise, Reask, Close, Balance, Start, Finish, Exchange, Leave, Arrive, key_of}
use Rattle.spec_hall.specs.Laws.{LegalIsLawful}
use Rattle.spec_hall.specs.Legal.{MayBalance, MayClose, MayReask, MayRevise}
use Rattle.spec_hall.specs.Own.{own, adds, adds_volume, is_key, volume_in}
use Rattle.spec_hall.specs.States.{keys_of}
use Rattle.spec_hall.proofs.KeyLemmas.{is_key-Decides}
use Rattle.spec_hall.proofs.LastingLemmas.{Lasts, legal-named}
use Rattle.spec_hall.proofs.LeasesLemmas.{lease-out}
use Rattle.spec_hall.proofs.OnceLemmas.{exchange-titled}
use Rattle.spec_hall.proofs.PushLemmas.{adds-keeps, adds_volume-keeps}
use Rattle.spec_hall.proofs.RunnableLemmas.{find-titled, picked-may}

-- the volume of a job is no more than all volumes
volume-low : (k : Key) (shares : List Share) → volume_in k shares ≤ sum (map (λ (s : Share). s.volume) shares)
volume-low k [] = omega arith
volume-low k (s ∷ shares) =
    let all : sum (map (λ (x : Share). x.volume) (s ∷ shares)) ≡ s.volume + sum (map (λ (x : Share). x.volume) shares) = sum_by-cons (λ (n : ℕ). n) s.volume (map (λ (x : Share). x.volume) shares) in
    by_test (is_key k (key_of s)) all (volume-low k shares)
  where
    by_test : (b : Bool) → sum (map (λ (x : Share). x.volume) (s ∷ shares)) ≡ s.volume + sum (map (λ (x : Share). x.volume) shares) → volume_in k shares ≤ sum (map (λ (x : Share). x.volume) shares) → option_map_or (λ (x : Share). x.volume) (cond b (Some s) (find (λ (x : Share). is_key k (key_of x)) shares)) 0 ≤ sum (map (λ (x : Share). x.volume) (s ∷ shares))
    by_test true all rest = omega (arith, all)
    by_test false all rest = omega (arith, all, rest)

-- fair volumes are no more than the workers
balance-low : (w : ℕ) (past : List Event) (k : Key) (shares : List Share) → w ≤ 64 → MayBalance w past shares → volume_in k shares ≤ 64
balance-low w past k shares bound may = omega (arith, bound, volume-low k shares, may.fair.total)

-- what may come of a job in the hall may come in its own life
revise-pass : (past : List Event) (k : Key) (number : ℕ) (r : Posted) (t : KeyedJob) → MayRevise past k number r t → MayGrow (solo (own k past)) r
revise-pass past k number r t may = subst (λ (x : KeyedJob). MayGrow x.state r) (sym (find-titled past k (keys_of past) t may.job)) (record {
  open_still = may.open_still;
  posted = may.posted;
  few = omega (arith, may.next, may.room);
  clauses = may.clause_room;
  literals = may.literal_room;
})

reask-pass : (past : List Event) (k : Key) (weight : Weighed) (t : KeyedJob) → MayReask past k weight t → MayWeigh (solo (own k past)) weight
reask-pass past k weight t may = subst (λ (x : KeyedJob). MayWeigh x.state weight) (sym (find-titled past k (keys_of past) t may.job)) (record { open_still = may.open_still; weighed = may.weighed })

close-pass : (past : List Event) (k : Key) (t : KeyedJob) → MayClose past k t → (solo (own k past)).closed ≡ false
close-pass past k t may = subst (λ (x : KeyedJob). x.state.closed ≡ false) (sym (find-titled past k (keys_of past) t may.job)) may.open_still

module _ (w : ℕ) (k : Key) (some : 1 ≤ w) (bound : w ≤ 64) where
  -- an event of a job whose own events are lawful joins them where it may come
  adds-lawful : (past : List Event) (j : Key) (o : Own) → IsLawful (own k past) → MayPass (solo (own j past)) o → IsLawful (adds (is_key k j) (own k past) o)
  adds-lawful past j o h may = adds-keeps IsLawful (is_key k j) (own k past) o h (λ mine. lawful-push (own k past) o h (subst (λ (x : Key). MayPass (solo (own x past)) o) (sym ((is_key-Decides k j).0 mine)) may))

  pub volume-lawful : (v : ℕ) (es : List Own) → v ≤ 64 → IsLawful es → IsLawful (adds_volume v es)
  volume-lawful v es low h = adds_volume-keeps IsLawful v es h (lawful-push es (Volume v) h low)

  lawful-lasts : Lasts w k IsLawful
  lawful-lasts past (Open j ask) legal may named h none = absurd none
  lawful-lasts past (Revise j number r) legal may named h none = adds-lawful past j (Revised r) h (revise-pass past j number r may.0 may.1)
  lawful-lasts past (Reask j weight) legal may named h none = adds-lawful past j (Reasked weight) h (reask-pass past j weight may.0 may.1)
  lawful-lasts past (Close j) legal may named h none = adds-lawful past j Closed h (close-pass past j may.0 may.1)
  lawful-lasts past (Balance shares) legal may named h none = volume-lawful (volume_in k shares) (own k past) (balance-low w past k shares bound may) h
  lawful-lasts past (Start j index worker) legal may named h none = adds-lawful past j (Started index) h (picked-may w past j index worker may.0 may.1)
  lawful-lasts past (Finish j index worker outcome) legal may named h none = adds-lawful past j (Finished index outcome) h (lease-out w past j index worker some bound legal may)
  lawful-lasts past (Exchange j) legal may named h none =
      adds-lawful past j Exchanged h (subst (λ (x : Key). is_exchange_due (solo (own x past)) ≡ true) may.1.key (exchange-titled past (keys_of past) may.0 may.1.first))
  lawful-lasts past (Leave j) legal may named h none = by_test (is_key k j)
    where
      by_test : (b : Bool) → IsLawful (cond b (adds_volume 0 (own k past)) (own k past))
      by_test true = volume-lawful 0 (own k past) (omega arith) h
      by_test false = h
  lawful-lasts past (Arrive j brought) legal may named h none = absurd none

-- the own events of a job whose name came are lawful
pub legal-is_lawful : LegalIsLawful
legal-is_lawful w h some bound legal k named = legal-named w k IsLawful (λ ask asked. (asked, tt)) (λ brought lawful. lawful) (lawful-lasts w k some bound) h legal named
