-- What a job of a script did by the end of a run in a cluster.
use Rattle.std.proofs.Common.{◌≡◌, ℕ, zero, suc, ◌%◌, Bool, true, false, cond, List, [], ◌∷◌, length, map, refl, sym, ◌∙◌, ap, subst, arith}
use Rattle.std.specs.Prelude.{not, slice_get, Option, Some, None, is_some, ◌==◌}
use Rattle.std.specs.List.{list_any}
use Rattle.std.proofs.lemmas.Bool.{both_ways, eqb-true, or_parts}
use Rattle.mal_base.specs.Limits.{limits}
use Rattle.spec_node.specs.Load.{counted}
use Rattle.spec_job.specs.KeyedJob.{Key}
use Rattle.spec_job.specs.SoloMachine.{Own}
use Rattle.spec_hall.specs.Events.{Event}
use Rattle.spec_hall.specs.Own.{own}
use Rattle.spec_hall.specs.States.{lives, states}
use Rattle.spec_run.specs.Complete.{key_of_job}
use Rattle.spec_script.specs.Formed.{IsScript}
use Rattle.spec_script.specs.Script.{ScriptedJob, Scripted}
use Rattle.spec_cluster.specs.Clusters.{Cluster, IsCluster, home, is_named, is_there}
use Rattle.spec_cluster.specs.Rounds.{AreRounds, is_live}
use Rattle.spec_cluster.specs.Run.{posted}
use Rattle.spec_cluster.specs.Visits.{all_of, hall_at}
use Rattle.spec_cluster.proofs.HallLemmas.{IsHome, home-found}
use Rattle.spec_cluster.proofs.NameLemmas.{named-by, unnamed-there}
use Rattle.spec_cluster.proofs.PostedLemmas.{IsDealt, apart-of_key, dealt-one, dealt_at, of_key, one-of_key, posted-halls, posted-named, posted_at}
use Rattle.spec_cluster.proofs.SaidLemmas.{AllSay, Says, all-say, said, says, says-said, script-own}
use Rattle.spec_cluster.proofs.StayedLemmas.{own-is_all}
use Rattle.spec_cluster.proofs.ThereLemmas.{jobs-are_there, rounds-leave}
use Rattle.spec_promises.proofs.Jobs.{Did, all-answered, did}

-- in the end no hall has a live job
empty : {X : Type 0} (xs : List X) → not (length xs == 0) ≡ false → xs ≡ []
empty [] q = refl
empty (x ∷ xs) q = by_test (length (x ∷ xs) == 0) refl q
  where
    by_test : (b : Bool) → (length (x ∷ xs) == 0) ≡ b → not b ≡ false → x ∷ xs ≡ []
    by_test true e p = let none : length (x ∷ xs) ≡ 0 = eqb-true (length (x ∷ xs)) 0 e in absurd (omega (arith, none))
    by_test false e p = absurd (both_ways true p refl)

over-at : (hs : List (List Event)) → list_any (λ h. not (length (lives (states h)) == 0)) hs ≡ false → (n : ℕ) → lives (states (hall_at hs n)) ≡ []
over-at [] none n = refl
over-at (h ∷ hs) none zero = empty (lives (states h)) (or_parts (not (length (lives (states h)) == 0)) (list_any (λ x. not (length (lives (states x)) == 0)) hs) none).0
over-at (h ∷ hs) none (suc n) = over-at hs (or_parts (not (length (lives (states h)) == 0)) (list_any (λ x. not (length (lives (states x)) == 0)) hs) none).1 n

rounds-over : (every : ℕ) (c : Cluster) (rounds : List Cluster) (end : Cluster) → AreRounds every c rounds end → is_live end ≡ false
rounds-over every c [] end are = ap is_live are.0 ∙ are.1
rounds-over every c (next ∷ rest) end are = rounds-over every next rest end are.2

-- each hall says of a job at first what it says
first-say : (halls : ℕ) (s : Scripted) (k : Key) (j : ScriptedJob) → of_key k s.jobs ≡ j ∷ [] → (ns : List ℕ) (m : ℕ) → Says k (says j) (hall_at (map (posted_at halls s) ns) m)
first-say halls s k j one [] m named = absurd (both_ways false refl named)
first-say halls s k j one (n ∷ ns) zero named = by_test (is.place % halls == n) (is.is n)
  where
    is : IsDealt k halls 0 s.jobs j
    is = dealt-one k halls 0 s.jobs j one

    by_test : (b : Bool) → of_key k (dealt_at halls s n) ≡ cond b (j ∷ []) [] → said (own k (posted_at halls s n)) ≡ says j
    by_test true q = ap said (script-own k (dealt_at halls s n) j q) ∙ says-said j
    by_test false q = absurd (both_ways (is_named k (posted_at halls s n)) (posted-named k halls n s ∙ apart-of_key k (dealt_at halls s n) q) named)
first-say halls s k j one (n ∷ ns) (suc m) named = first-say halls s k j one ns m named

posted-say : (halls workers : ℕ) (s : Scripted) (k : Key) (j : ScriptedJob) → of_key k s.jobs ≡ j ∷ [] → AllSay k (says j) (posted halls workers s)
posted-say halls workers s k j one n = subst (λ (hs : List (List Event)). Says k (says j) (hall_at hs n)) (sym (posted-halls halls workers s)) (first-say halls s k j one (counted 0 halls) n)

pub cluster-did : (halls workers every i : ℕ) (s : Scripted) (rounds : List Cluster) (end : Cluster) (j : ScriptedJob) → IsScript limits s → AreRounds every (posted halls workers s) rounds end → IsCluster end → slice_get s.jobs i ≡ Some j → Did (all_of (key_of_job j) end.halls end.moves) j
cluster-did halls workers every i s rounds end j formed are cluster at = by_home (home k end.halls) refl (jobs-are_there halls workers every i s rounds end j formed are cluster at)
  where
    k : Key
    k = key_of_job j

    say : AllSay k (says j) end
    say = rounds-leave (AllSay k (says j)) (all-say k (says j)) every (posted halls workers s) rounds end are (posted-say halls workers s k j (one-of_key s i j formed at))

    by_hall : (n : ℕ) → IsHome k end.halls n → Did (all_of k end.halls end.moves) j
    by_hall n is = subst (λ (os : List Own). Did os j) (own-is_all end k n cluster is.there)
        (did (own k (hall_at end.halls n)) j
        (say n (named-by k (hall_at end.halls n) (is_there k (hall_at end.halls n)) (unnamed-there k (hall_at end.halls n)) is.there))
        (all-answered end.workers (hall_at end.halls n) k (cluster.legal n) (over-at end.halls (rounds-over every (posted halls workers s) rounds end are) n) is.there))

    by_home : (o : Option ℕ) → home k end.halls ≡ o → is_some o ≡ true → Did (all_of k end.halls end.moves) j
    by_home None q some = absurd (both_ways false refl some)
    by_home (Some n) q some = by_hall n (home-found k end.halls n q)
