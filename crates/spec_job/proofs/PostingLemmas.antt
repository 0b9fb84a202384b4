-- Answers, posted revisions, starts and exchanges of a machine that solves.
use Rattle.std.proofs.Common.{◌≡◌, ℕ, ◌+◌, ◌-◌, ◌<◌, ◌≤◌, ◌^◌, Bool, true, List, [], ◌∷◌, ◌++◌, length, take, get_or, replicate, Option, Some, None, inl, inr, ◌⊎◌, sym, subst, arith, length-append}
use Rattle.std.specs.Prelude.{slice_get}
use Rattle.std.proofs.lemmas.List.{length-replicate, take-append-le}
use Rattle.std.proofs.lemmas.List.Elements.{All-nil, All-cons, All-append}
use Rattle.std.proofs.lemmas.Option.{slice_get_within}
use Rattle.mal_base.specs.declared.profile.Profile.{Profile}
use Rattle.mal_base.specs.declared.answer.Answer.{Answer}
use Rattle.mal_base.specs.declared.answer.Answer.TheVariants.{Satisfied, Refuted}
use Rattle.mal_revision.specs.Posted.{Posted}
use Rattle.spec_job.specs.SoloMachine.{Revised, Started, Lease, NodeSlot, vacant, SoloMachine, solo_step, place_at, clauses_in, startable, first_empty, settled_by, exchanged}
use Rattle.spec_job.specs.Runnable.{MayCome}
use Rattle.spec_job.proofs.LoadedLemmas.{IsLoadable, Solves, clauses_in-push}
use Rattle.spec_job.proofs.ElementLemmas.{get-push, get-repeated}
use Rattle.spec_job.proofs.PlacesLemmas.{marked-length, all-marked}
use Rattle.spec_job.proofs.SolvingLemmas.{IsLeased, IsReady, IsSolving, IsSolvingSolo, ready-later, ready-revised, placed-solving, lease_of, MayLease}

-- the current revision is answered, where a satisfiable answer carries a model of it
pub answered-solving : (profile : Profile) (revisions : List Posted) (answers : List Answer) (places : List NodeSlot) (a : Answer) → length answers < length revisions → ((model : List Bool) → a ≡ Satisfied model → Solves (take (length answers + 1) revisions) model) → IsSolving profile revisions answers places → IsSolving profile revisions (answers ++ a ∷ []) places
answered-solving profile revisions answers places a live good h =
    let more : length (answers ++ a ∷ []) ≡ length answers + 1 = length-append answers (a ∷ []) in
    record {
      loadable = h.loadable;
      room = h.room;
      order = omega arith;
      count = h.count;
      ready = λ i low. ready-later profile revisions (length answers) (length (answers ++ a ∷ [])) i (get_or places i vacant) (omega arith) (h.ready i low);
      solved = λ r model e. by_place r model (get-push answers a (Satisfied model) r e);
    }
  where
    by_place : (r : ℕ) (model : List Bool) → ((r ≡ length answers) × (a ≡ Satisfied model)) ⊎ (slice_get answers r ≡ Some (Satisfied model)) → Solves (take (r + 1) revisions) model
    by_place r model (inl k) = subst (λ (x : ℕ). Solves (take (x + 1) revisions) model) (sym k.0) (good model k.1)
    by_place r model (inr k) = h.solved r model k

-- an empty clause answers each revision that has no answer
pub settled-solving : (o : Option ℕ) (s : SoloMachine) → IsSolvingSolo s → IsSolvingSolo (settled_by o s)
settled-solving None s h = h
settled-solving (Some goal) s h =
    let more : ℕ = length s.revisions - length s.answers in
    let order : length s.answers ≤ length s.revisions = h.order in
    let long : length (s.answers ++ replicate more (Refuted goal)) ≡ length s.answers + length (replicate more (Refuted goal)) = length-append s.answers (replicate more (Refuted goal)) in
    let count : length (replicate more (Refuted goal)) ≡ more = length-replicate more (Refuted goal) in
    record {
      loadable = h.loadable;
      room = h.room;
      order = omega arith;
      count = h.count;
      ready = λ i low. ready-later s.ask.profile s.revisions (length s.answers) (length (s.answers ++ replicate more (Refuted goal))) i (get_or s.places i vacant) (omega arith) (h.ready i low);
      solved = λ r model e. by_place r model (get-repeated s.answers more (Refuted goal) (Satisfied model) r e);
    }
  where
    by_place : (r : ℕ) (model : List Bool) → ((length s.answers ≤ r) × (Refuted goal ≡ Satisfied model)) ⊎ (slice_get s.answers r ≡ Some (Satisfied model)) → Solves (take (r + 1) s.revisions) model
    by_place r model (inl k) = let bad : Refuted goal ≡ Satisfied model = k.1 in absurd (cc)
    by_place r model (inr k) = h.solved r model k

-- a further revision that may come
pub posted-solving : (s : SoloMachine) (r : Posted) → MayCome s r → IsSolvingSolo s → IsSolvingSolo (record s { revisions = s.revisions ++ r ∷ [] })
posted-solving s r may h =
    let push : clauses_in (s.revisions ++ r ∷ []) ≡ clauses_in s.revisions + length r.clauses = clauses_in-push s.revisions r in
    let more : length (s.revisions ++ r ∷ []) ≡ length s.revisions + 1 = length-append s.revisions (r ∷ []) in
    let order : length s.answers ≤ length s.revisions = h.order in
    let room : clauses_in s.revisions + length r.clauses < 2 ^ 32 = may.room in
    record {
      loadable = All-append IsLoadable s.revisions (r ∷ []) h.loadable (All-cons IsLoadable r [] may.posted (All-nil IsLoadable));
      room = omega arith;
      order = omega arith;
      count = h.count;
      ready = λ i low. ready-revised s.ask.profile s.revisions r (length s.answers) i (place_at s i) (h.ready i low);
      solved = λ k model e.
          let within : k < length s.answers = slice_get_within s.answers k (Satisfied model) e in
          subst (λ (xs : List Posted). Solves xs model) (sym (take-append-le (k + 1) s.revisions (r ∷ []) (omega arith))) (h.solved k model e);
    }

-- and what an empty clause answers then
pub revised-solving : (s : SoloMachine) (r : Posted) → MayCome s r → IsSolvingSolo s → IsSolvingSolo (solo_step s (Revised r))
revised-solving s r may h = settled-solving (first_empty s.log) (record s { revisions = s.revisions ++ r ∷ [] }) (posted-solving s r may h)

pub started-solving : (s : SoloMachine) (i : ℕ) → startable s i ≡ true → MayLease s → IsSolvingSolo s → IsSolvingSolo (solo_step s (Started i))
started-solving s i may leases h =
    let p : NodeSlot = place_at s i in
    placed-solving s.ask.profile s.revisions s.answers s.places i (record p { out = Some (lease_of s i); starts = p.starts + 1 }) (λ low.
    let ready : IsReady s.ask.profile s.revisions (length s.answers) i p = h.ready i low in
    record {
      early = ready.early;
      posted = ready.posted;
      node = ready.node;
      leased = λ l e. let same : lease_of s i ≡ l = cc in subst (λ (x : Lease). IsLeased s.ask.profile s.revisions (length s.answers) i p.entries x) same (leases i may low);
    }) h

-- an exchange moves marks alone
ready-marked : (profile : Profile) (revisions : List Posted) (c i m : ℕ) (p : NodeSlot) → IsReady profile revisions c i p → IsReady profile revisions c i (record p { mark = m })
ready-marked profile revisions c i m p h = record { early = h.early; posted = h.posted; node = h.node; leased = h.leased }

pub exchanged-solving : (s : SoloMachine) → IsSolvingSolo s → IsSolvingSolo (exchanged s)
exchanged-solving s h = record {
  loadable = h.loadable;
  room = h.room;
  order = h.order;
  count = subst (λ (n : ℕ). n ≤ 64) (sym (marked-length s.volume (length s.log) 0 s.places)) h.count;
  ready = all-marked (λ (i : ℕ) (p : NodeSlot). IsReady s.ask.profile s.revisions (length s.answers) i p) (ready-marked s.ask.profile s.revisions (length s.answers)) s.volume (length s.log) s.places h.ready;
  solved = h.solved;
}
