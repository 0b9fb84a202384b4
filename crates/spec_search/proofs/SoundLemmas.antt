use Rattle.std.proofs.Common.{◌≡◌, ℕ, ◌+◌, ◌<◌, ◌≤◌, true, false, not, ◌||◌, List, [], ◌∷◌, ◌++◌, length, take, drop, Option, Some, None, refl, sym, ap, ◌∙◌, subst, arith}
use Rattle.std.specs.Prelude.{All, Contains, ◌==◌}
use Rattle.std.specs.List.{list_all, list_any}
use Rattle.std.proofs.lemmas.List.{take-append-drop, take_at, take_all, length-take-le, length_push}
use Rattle.std.proofs.lemmas.List.Elements.{All-head, All-tail, All-weaker, All-contains_itself}
use Rattle.std.proofs.lemmas.Bool.{or_left, or_right, not-false}
use Rattle.mal_base.specs.NumberedClause.{NumberedClause}
use Rattle.mal_base.specs.declared.trail_entry.TrailEntry.{TrailEntry}
use Rattle.mal_base.specs.declared.verdict.Verdict.{Verdict}
use Rattle.mal_base.specs.declared.verdict.Verdict.TheVariants.{Satisfiable}
use Rattle.spec_node.specs.State.{Node}
use Rattle.spec_node.specs.Value.{is_true, level_of}
use Rattle.spec_node.specs.Batch.{batch, is_in_batch, propagated}
use Rattle.spec_node.specs.Cut.{cut}
use Rattle.spec_search.specs.Step.{decided, step, after_case}
use Rattle.spec_search.specs.Slice.{slice, is_over}
use Rattle.spec_node.specs.Sound.{EachAfter, IsLevelled, IsForced, IsChosen, IsPassed, IsWaiting, AreLiteralsOf, IsRanged, IsConsistent, IsSound}
use Rattle.spec_node.proofs.TrailLemmas.{each-push, each-front, each-weaker}
use Rattle.spec_node.proofs.BatchLemmas.{PushKeeps, forced, after_all-keeps, all-of}
use Rattle.spec_node.proofs.FindLemmas.{find-none}
use Rattle.spec_search.proofs.StepLemmas.{IsIdle, restarted, ended, phased, by_cases}
use Rattle.spec_search.proofs.SliceLemmas.{steps-keep}
use Rattle.spec_search.proofs.FewerLemmas.{cut-sound, dropped-sound}
use Rattle.spec_learn.proofs.ProfileLemmas.{learned-sound}
use Rattle.spec_learn.proofs.RefuteLemmas.{emptied-sound}
use Rattle.spec_learn.proofs.CoreSoundLemmas.{cored-sound}
use Rattle.spec_search.proofs.ConsistentLemmas.{next_batch, All-batch, push-placed, propagated-consistent, decided-consistent, open-free, phased-free}
use Rattle.spec_node.proofs.LevelLemmas.{levels-rise, level-take, each-behind, found-in}
use Rattle.spec_node.proofs.ReasonLemmas.{IsGoing, IsOfBatch, Handles, handles-going, after_all-conflict}

-- the clauses of a batch, with what is known of each
members : (n : Node) → IsConsistent n → (prefix : List TrailEntry) → All (IsOfBatch n.variables n.clauses prefix) (batch prefix n.clauses)
members n h prefix =
    let known : All (λ c. Contains n.clauses c × AreLiteralsOf n.variables c.lits) n.clauses = (λ k d l. (All-contains_itself n.clauses k d l, h.clauses k d l)) in
    All-weaker (λ c. (Contains n.clauses c × AreLiteralsOf n.variables c.lits) × (is_in_batch prefix c ≡ true)) (IsOfBatch n.variables n.clauses prefix) (λ c m. record { held = m.0.0; literals = m.0.1; batch = m.1 }) (batch prefix n.clauses) (All-batch (λ c. Contains n.clauses c × AreLiteralsOf n.variables c.lits) prefix n.clauses known)

handled-members : (n : Node) → IsConsistent n → (prefix : List TrailEntry) → All (Handles (IsGoing n.variables n.clauses prefix) (λ id t. IsWaiting n.clauses t id) prefix) (batch prefix n.clauses)
handled-members n h prefix = All-weaker (IsOfBatch n.variables n.clauses prefix) (Handles (IsGoing n.variables n.clauses prefix) (λ id t. IsWaiting n.clauses t id) prefix) (λ c m. handles-going n.variables n.clauses prefix c m (push-placed n.variables prefix c m.literals)) (batch prefix n.clauses) (members n h prefix)

start-going : (n : Node) → IsSound n → IsGoing n.variables n.clauses (take n.processed n.trail) n.trail
start-going n h = record { extends = record { rest = drop n.processed n.trail; is = sym (take-append-drop n.processed n.trail) }; placed = h.consistent.placed; levels = h.consistent.levels; reached = h.reached; reasons = h.reasons }

pub batch-going : (n : Node) → IsSound n → IsGoing n.variables n.clauses (take n.processed n.trail) (next_batch n).trail
batch-going n h =
    let prefix = take n.processed n.trail in
    after_all-keeps (IsGoing n.variables n.clauses prefix) prefix (batch prefix n.clauses) (record { trail = n.trail; conflict = None })
    (All-weaker (Handles (IsGoing n.variables n.clauses prefix) (λ id t. IsWaiting n.clauses t id) prefix) (PushKeeps (IsGoing n.variables n.clauses prefix) prefix) (λ c m. m.keeps) (batch prefix n.clauses) (handled-members n h.consistent prefix))
    (start-going n h)

no-conflict : (Q : ℕ → Type 0) (id : ℕ) → None ≡ Some id → Q id
no-conflict Q id e = absurd (cc)

batch-waiting : (n : Node) → IsSound n → (id : ℕ) → (next_batch n).conflict ≡ Some id → IsWaiting n.clauses (next_batch n).trail id
batch-waiting n h =
    let prefix = take n.processed n.trail in
    after_all-conflict (IsGoing n.variables n.clauses prefix) (λ id t. IsWaiting n.clauses t id) prefix (batch prefix n.clauses) (record { trail = n.trail; conflict = None }) (handled-members n h.consistent prefix) (start-going n h) (λ id e. no-conflict (λ i. IsWaiting n.clauses n.trail i) id e)

-- what holds of forced entries wherever they are pushed stays so through a batch
batch-each : (P : List TrailEntry → TrailEntry → Type 0) → ((c : NumberedClause) (t : List TrailEntry) (l : ℕ) → P t (forced l c.id t)) → (n : Node) → EachAfter P [] n.trail → EachAfter P [] (next_batch n).trail
batch-each P holds n h =
    let prefix = take n.processed n.trail in
    after_all-keeps (EachAfter P []) prefix (batch prefix n.clauses) (record { trail = n.trail; conflict = None })
    (all-of (PushKeeps (EachAfter P []) prefix) (λ c t l e a b k. each-push P t [] (forced l c.id t) k (holds c t l)) (batch prefix n.clauses))
    h

batch-chosen : (n : Node) → IsSound n → EachAfter (IsChosen n.assumptions) [] (next_batch n).trail
batch-chosen n h = batch-each (IsChosen n.assumptions) (λ c t l q. absurd (cc)) n h.chosen

batch-passed : (n : Node) → IsSound n → EachAfter (IsPassed n.processed) [] (next_batch n).trail
batch-passed n h = batch-each (IsPassed n.processed) (λ c t l q. absurd (cc)) n h.passed

-- one more entry handled keeps the level reached
batch-reached : (n : Node) → IsSound n → n.processed ≤ length n.trail → level_of (take (n.processed + 1) (next_batch n).trail) ≡ level_of (next_batch n).trail
batch-reached n h low =
    let prefix : List TrailEntry = take n.processed n.trail in
    let t : List TrailEntry = (next_batch n).trail in
    let g : IsGoing n.variables n.clauses prefix t = batch-going n h in
    let long : length prefix ≡ n.processed = length-take-le n.processed n.trail low in
    let front : take n.processed t ≡ prefix = ap (λ (u : List TrailEntry). take n.processed u) g.extends.is ∙ take_at prefix g.extends.rest n.processed long in
    let fronts : (xs ys : List TrailEntry) → EachAfter IsLevelled [] (xs ++ ys) → EachAfter IsLevelled [] xs = (λ xs ys k. each-front IsLevelled xs ys [] k) in
    let up : level_of (take n.processed t) ≤ level_of (take (n.processed + 1) t) = level-take t n.processed (n.processed + 1) (omega arith) g.levels fronts in
    let start : level_of (take n.processed t) ≡ level_of t = ap level_of front ∙ g.reached in
    let split : take (n.processed + 1) t ++ drop (n.processed + 1) t ≡ t = take-append-drop (n.processed + 1) t in
    let rest : EachAfter IsLevelled (take (n.processed + 1) t) (drop (n.processed + 1) t) = each-behind IsLevelled (take (n.processed + 1) t) (drop (n.processed + 1) t) [] (subst (λ (u : List TrailEntry). EachAfter IsLevelled [] u) (sym split) g.levels) in
    let high : level_of (take (n.processed + 1) t) ≤ level_of t = subst (λ (u : List TrailEntry). level_of (take (n.processed + 1) t) ≤ level_of u) split (levels-rise (drop (n.processed + 1) t) (take (n.processed + 1) t) rest) in
    omega arith

pub propagated-sound : (n : Node) → IsSound n → n.conflict ≡ None → n.processed ≤ length n.trail → IsSound (propagated n)
propagated-sound n h calm low =
    let r : IsRanged n = h.ranged in
    record {
      ranged = record { index = r.index; variables = r.variables; restart_number = r.restart_number; phases = r.phases; numbers = r.numbers; serial = r.serial };
      consistent = propagated-consistent n h.consistent calm low;
      reasons = (batch-going n h).reasons;
      chosen = batch-chosen n h;
      passed = each-weaker (IsPassed n.processed) (IsPassed (n.processed + 1)) (λ b e k q. let a : length b < n.processed = k q in omega arith) (next_batch n).trail [] (batch-passed n h);
      reached = batch-reached n h low;
      waiting = batch-waiting n h;
    }

pub decided-sound : (n : Node) → IsSound n → IsIdle n → (l : ℕ) → IsConsistent (decided n l) → (list_any (λ a. a == l) n.assumptions || list_all (is_true n.trail) n.assumptions) ≡ true → IsSound (decided n l)
decided-sound n h idle l c chosen =
    let r : IsRanged n = h.ranged in
    let e : TrailEntry = record { lit = l; reason = None; level = level_of n.trail + 1 } in
    let len : length (n.trail ++ e ∷ []) ≡ length n.trail + 1 = length_push n.trail e in
    let past : length n.trail < n.processed = idle.handled in
    record {
      ranged = record { index = r.index; variables = r.variables; restart_number = r.restart_number; phases = r.phases; numbers = r.numbers; serial = r.serial };
      consistent = c;
      reasons = each-push (IsForced n.clauses) n.trail [] e h.reasons (λ id q. absurd (cc));
      chosen = each-push (IsChosen n.assumptions) n.trail [] e h.chosen (λ q. chosen);
      passed = each-push (IsPassed n.processed) n.trail [] e h.passed (λ q. past);
      reached = ap level_of (take_all n.processed (n.trail ++ e ∷ []) (omega arith));
      waiting = λ id q. let none : n.conflict ≡ None = idle.calm in absurd (cc);
    }

-- the counts of restarts and the verdict are no part of what makes a node sound
counted-sound : (n : Node) (number since : ℕ) (verdict : Option Verdict) → 1 ≤ number → IsSound n → IsSound (record n { restart_number = number; conflicts_since_restart = since; verdict = verdict })
counted-sound n number since verdict some h =
    let r : IsRanged n = h.ranged in
    let c : IsConsistent n = h.consistent in
    record {
      ranged = record { index = r.index; variables = r.variables; restart_number = some; phases = r.phases; numbers = r.numbers; serial = r.serial };
      consistent = record { order = c.order; clauses = c.clauses; assumptions = c.assumptions; placed = c.placed; levels = c.levels; closed = c.closed; handled = c.handled; settled = c.settled };
      reasons = h.reasons;
      chosen = h.chosen;
      passed = h.passed;
      reached = h.reached;
      waiting = h.waiting;
    }

-- a restart keeps a node sound
restarted-sound : (n : Node) → IsSound n → IsIdle n → IsSound (restarted n)
restarted-sound n h idle = counted-sound (cut 0 n) (n.restart_number + 1) 0 n.verdict (omega arith) (cut-sound n h idle)

ended-sound : (n : Node) → IsSound n → IsSound (ended n)
ended-sound n h = counted-sound n n.restart_number n.conflicts_since_restart (Some Satisfiable) h.ranged.restart_number h

-- where no assumption is open all are true
all-assumed : (trail : List TrailEntry) (xs : List ℕ) → All (λ a. not (is_true trail a) ≡ false) xs → list_all (is_true trail) xs ≡ true
all-assumed trail [] h = refl
all-assumed trail (x ∷ xs) h = rw (not-false (is_true trail x) (All-head (λ a. not (is_true trail a) ≡ false) x xs h)) (all-assumed trail xs (All-tail (λ a. not (is_true trail a) ≡ false) x xs h))

pub step-sound : (n : Node) → IsSound n → IsSound (step n)
step-sound n h = by_cases (λ c. IsSound (after_case c n)) n (record {
  learns = λ id q some. learned-sound n id h q some;
  refutes = λ id q zero. emptied-sound n id h q zero;
  propagates = propagated-sound n h;
  drops = λ idle. dropped-sound n h idle.calm idle.handled;
  restarts = restarted-sound n h;
  contradicts = λ idle a e f. cored-sound n a h (record { first = e; fell = f });
  assumes = λ idle a e f. decided-sound n h idle a (decided-consistent n h.consistent idle a (open-free n h.consistent a e f)) (or_left _ _ (found-in (λ x. not (is_true n.trail x)) n.assumptions a e));
  decides = λ idle v e f. decided-sound n h idle (phased n v) (decided-consistent n h.consistent idle (phased n v) (phased-free n h.consistent v f)) (or_right _ _ (all-assumed n.trail n.assumptions (find-none (λ x. not (is_true n.trail x)) n.assumptions e)));
  ends = λ idle e f. ended-sound n h;
})

pub slice-sound : (n : Node) → IsSound n → IsSound (slice n).node
unfolding slice
slice-sound n h = steps-keep IsSound (λ m none. step-sound m) 1000 (is_over 0 n) 0 n refl h
