-- What a job keeps, after each event of its own.
use Rattle.std.proofs.Common.{◌≡◌, ℕ, ◌+◌, ◌*◌, ◌<◌, ◌≤◌, Bool, true, false, ◌||◌, cond, List, [], ◌∷◌, ◌++◌, length, fold, get_or, Option, Some, None, refl, sym, ◌∙◌, ap, arith, subst}
use Rattle.std.specs.Prelude.{All, Result, Ok, Err, OnOk, OnErr, slice_set, is_some}
use Rattle.std.specs.List.{list_any}
use Rattle.std.proofs.lemmas.Bool.{or_parts}
use Rattle.std.proofs.lemmas.Nat.{mul-le}
use Rattle.std.proofs.lemmas.List.Folds.{list_any-append}
use Rattle.mal_base.specs.Limits.{limits}
use Rattle.mal_base.specs.Asks.{Terms, Weighed, reasked}
use Rattle.mal_base.specs.Clauses.{rises}
use Rattle.mal_base.specs.NumberedClause.{Line}
use Rattle.mal_revision.specs.Posted.{Posted, is_posted}
use Rattle.spec_job.specs.Counts.{runs_of, starts_out, is_opening}
use Rattle.spec_job.specs.SoloMachine.{Own, Opened, Revised, Reasked, Closed, Volume, Started, Finished, Exchanged, NodeSlot, SoloMachine, solo, solo_step, vacant, clauses_in, first_empty, settled_by, marked_from, Lease}
use Rattle.spec_job.specs.Runnable.{MayHappen}
use Rattle.spec_job.proofs.KeptLemmas as machine
use Rattle.spec_job.proofs.OwnLemmas.{runnable-clauses_own}
use Rattle.spec_job.proofs.PushLemmas.{solo-push, runnable-push}
use Rattle.spec_job.proofs.RunsLemmas.{runs-are_few}
use Rattle.spec_job.proofs.StepLemmas.{start-keeps, finish-keeps}
use Rattle.spec_job.proofs.SumLemmas.{sum-set, sum-marked}
use Rattle.mal_job.specs.Asking.{IsAsked, and_revision, settled_with}
use Rattle.mal_job.specs.JobInvariant.{IsOwn, JobInvariant}
use Rattle.mal_job.specs.Placing.{IsTree}
use Rattle.mal_job.specs.Viewed.{QuestionsView, TreeView, LogView, Parts, state_of, places_of}
use Rattle.mal_job.proofs.StateLemmas.{settled-by_state}

-- one event more
pub own-next : (s t : SoloMachine) (o : Own) → IsOwn s → MayHappen s o → list_any is_opening (o ∷ []) ≡ false → solo_step s o ≡ t → IsOwn t
own-next s t o k may other e = record {
  ask = k.ask;
  own = k.own ++ o ∷ [];
  once = record {
    runnable = runnable-push (Opened k.ask ∷ k.own) o k.once.runnable (subst (λ (x : SoloMachine). MayHappen x o) k.is may);
    once = list_any-append is_opening k.own (o ∷ []) ∙ (ap (λ (b : Bool). b || list_any is_opening (o ∷ [])) k.once.once ∙ other);
  };
  is = sym e ∙ (ap (λ (x : SoloMachine). solo_step x o) k.is ∙ sym (solo-push (Opened k.ask ∷ k.own) o));
}

-- what is kept of the machine
pub own-kept : (s : SoloMachine) → IsOwn s → machine.MachineInvariant s
own-kept s k = subst (λ (x : SoloMachine). machine.MachineInvariant x) (sym k.is) (machine.runnable-kept (Opened k.ask ∷ k.own) k.once.runnable)

-- the literals of each line of a job's log rise by variable
pub own-rising : (s : SoloMachine) → IsOwn s → All (λ line. rises line.lits ≡ true) s.log
own-rising s k = subst (λ (x : SoloMachine). All (λ line. rises line.lits ≡ true) x.log) (sym k.is) (runnable-clauses_own (Opened k.ask ∷ k.own) k.once.runnable).rising

-- the ask of a job stays but for its weight
settled-ask : (o : Option ℕ) (s : SoloMachine) → (settled_by o s).ask ≡ s.ask
settled-ask None s = refl
settled-ask (Some goal) s = refl

-- a later ask has the budget and the profile of an earlier one
pub record KeepsBudget (before after : Terms) : Type 0 where
  pub slices : after.slices ≡ before.slices
  pub profile : after.profile ≡ before.profile

same-budget : {before after : Terms} → after ≡ before → KeepsBudget before after
same-budget e = record { slices = ap (λ (a : Terms). a.slices) e; profile = ap (λ (a : Terms). a.profile) e }

pub step-budget : (s : SoloMachine) (o : Own) → is_opening o ≡ false → KeepsBudget s.ask (solo_step s o).ask
step-budget s (Opened ask) other = absurd (cc)
step-budget s (Revised r) other = same-budget (settled-ask (first_empty s.log) (record s { revisions = s.revisions ++ r ∷ [] }))
step-budget s (Reasked w) other = record { slices = refl; profile = refl }
step-budget s Closed other = same-budget refl
step-budget s (Volume v) other = same-budget refl
step-budget s (Started i) other = same-budget (start-keeps s i).ask
step-budget s (Finished i o) other = same-budget (finish-keeps s i o).ask
step-budget s Exchanged other = same-budget refl

fold-slices : (s : SoloMachine) (own : List Own) → list_any is_opening own ≡ false → (fold solo_step s own).ask.slices ≡ s.ask.slices
fold-slices s [] other = refl
fold-slices s (o ∷ os) other =
    let parts = or_parts (is_opening o) (list_any is_opening os) other in
    fold-slices (solo_step s o) os parts.1 ∙ (step-budget s o parts.0).slices

own-slices : (s : SoloMachine) (k : IsOwn s) → s.ask.slices ≡ k.ask.slices
own-slices s k = ap (λ (x : SoloMachine). x.ask.slices) k.is ∙ fold-slices (solo (Opened k.ask ∷ [])) k.own k.once.once

-- the slices that were run, and those that are out, are few
pub few-runs : (q : Parts) → IsOwn (state_of q) → IsAsked q.asked → runs_of (places_of q.tree.places) + starts_out (places_of q.tree.places) ≤ (limits.revisions + 1) * limits.slices
few-runs q k h =
    let few : runs_of (places_of q.tree.places) + starts_out (places_of q.tree.places) ≤ (length q.asked.answers + 1) * k.ask.slices = subst (λ (x : SoloMachine). runs_of x.places + starts_out x.places ≤ (length x.answers + 1) * k.ask.slices) (sym k.is) (runs-are_few k.ask k.own k.once) in
    let same : q.asked.ask.slices ≡ k.ask.slices = own-slices (state_of q) k in
    let short : k.ask.slices ≤ limits.slices = omega (arith, same, h.few_slices) in
    let most : (length q.asked.answers + 1) * k.ask.slices ≤ (limits.revisions + 1) * limits.slices = mul-le (length q.asked.answers + 1) k.ask.slices (limits.revisions + 1) limits.slices (omega (arith, h.order, h.few)) short in
    omega arith

-- a job that was just opened
pub kept-fresh : (q : QuestionsView) (t : TreeView) (l : LogView) (number : ℕ) (ask : Terms) → q ≡ record { ask = ask; closed = false; revisions = []; answers = []; spent = 0; starved = 0 } → t ≡ record { number = number; profile = ask.profile; volume = 0; places = []; broadcasts = []; ran = 0 } → l.lines ≡ [] → l.slices ≡ [] → IsAsked q → IsTree t → JobInvariant (record { asked = q; tree = t; log = l })
kept-fresh q t l number ask a b c d h k = record {
  own = subst IsOwn same (record { ask = ask; own = []; once = record { runnable = (refl, tt); once = refl }; is = refl });
  asked = h;
  tree = k;
  solvers = ap (λ (x : TreeView). x.profile) b ∙ sym (ap (λ (x : QuestionsView). x.ask.profile) a);
  ran = omega (arith, ap (λ (x : TreeView). x.ran) b);
  few_lines = omega (arith, ap (λ (ls : List Line). length ls) c);
  chunks = let none : starts_out (places_of t.places) ≡ 0 = ap (λ (x : TreeView). starts_out (places_of x.places)) b in omega arith;
}
  where
    same : solo (Opened ask ∷ []) ≡ state_of (record { asked = q; tree = t; log = l })
    same = rw (a, b, c, d) refl

-- what stays while the places, the log and the count of slices do
pub kept-answered : (q : Parts) (asked : QuestionsView) (o : Own) → MayHappen (state_of q) o → list_any is_opening (o ∷ []) ≡ false → solo_step (state_of q) o ≡ state_of (record q { asked = asked }) → IsAsked asked → JobInvariant q → JobInvariant (record q { asked = asked })
kept-answered q asked o may other e h k = record {
  own = own-next (state_of q) (state_of (record q { asked = asked })) o k.own may other e;
  asked = h;
  tree = k.tree;
  solvers = k.solvers ∙ sym (sym (ap (λ (s : SoloMachine). s.ask.profile) e) ∙ (step-budget (state_of q) o (or_parts (is_opening o) false other).0).profile);
  ran = k.ran;
  few_lines = k.few_lines;
  chunks = k.chunks;
}

pub kept-closed : (q : Parts) → JobInvariant q → JobInvariant (record q { asked = record q.asked { closed = true } })
kept-closed q k = kept-answered q (record q.asked { closed = true }) Closed tt refl refl (record { left = k.asked.left; few_slices = k.asked.few_slices; few_starved = k.asked.few_starved; order = k.asked.order; few = k.asked.few; clauses = k.asked.clauses }) k

pub kept-reasked : (q : Parts) (w : Weighed) → JobInvariant q → JobInvariant (record q { asked = record q.asked { ask = reasked q.asked.ask w } })
kept-reasked q w k = kept-answered q (record q.asked { ask = reasked q.asked.ask w }) (Reasked w) tt refl refl (record { left = k.asked.left; few_slices = k.asked.few_slices; few_starved = k.asked.few_starved; order = k.asked.order; few = k.asked.few; clauses = k.asked.clauses }) k

pub kept-volume : (q : Parts) (t : TreeView) (v : ℕ) → t ≡ record q.tree { volume = v } → IsTree t → JobInvariant q → JobInvariant (record q { tree = t })
kept-volume q t v e h k = record {
  own = own-next (state_of q) (state_of (record q { tree = t })) (Volume v) k.own tt refl (ap (λ (x : TreeView). state_of (record q { tree = x })) (sym e));
  asked = k.asked;
  tree = h;
  solvers = rw e k.solvers;
  ran = rw e k.ran;
  few_lines = rw e k.few_lines;
  chunks = rw e k.chunks;
}

-- a revision more
pub revised-state : (q : Parts) (r : Posted) → solo_step (state_of q) (Revised r) ≡ state_of (record q { asked = settled_with (first_empty q.log.lines) (and_revision q.asked r) })
revised-state q r = settled-by_state (first_empty q.log.lines) (record q { asked = and_revision q.asked r })

pub kept-revised : {T E : Type 0} (result : Result T E) (q : Parts) (asked : QuestionsView) (r : Posted) (goal : Option ℕ) → is_posted r ≡ true → clauses_in q.asked.revisions + length r.clauses ≤ limits.clauses → goal ≡ first_empty q.log.lines → OnOk result (asked ≡ settled_with goal (and_revision q.asked r)) → OnErr result (asked ≡ q.asked) → IsAsked asked → JobInvariant q → JobInvariant (record q { asked = asked })
kept-revised (Ok v) q asked r goal posted room g ok err h k =
    let e : asked ≡ settled_with (first_empty q.log.lines) (and_revision q.asked r) = ok ∙ ap (λ (o : Option ℕ). settled_with o (and_revision q.asked r)) g in
    kept-answered q asked (Revised r) (record { posted = posted; room = omega (arith, room) }) refl (revised-state q r ∙ ap (λ (x : QuestionsView). state_of (record q { asked = x })) (sym e)) h k
kept-revised (Err x) q asked r goal posted room g ok err h k = subst (λ (y : QuestionsView). JobInvariant (record q { asked = y })) (sym err) k

-- places that are out
abbrev counted : NodeSlot → ℕ
counted p = cond (is_some p.out) 1 0

out-counted : (p : NodeSlot) → is_some p.out ≡ true → counted p ≡ 1
out-counted p e = by_test (is_some p.out) e
  where
    by_test : (b : Bool) → b ≡ true → (let n : ℕ = cond b 1 0 in n) ≡ 1
    by_test true f = refl
    by_test false f = absurd (cc)

home-counted : (p : NodeSlot) → p.out ≡ None → counted p ≡ 0
home-counted p e = ap (λ (o : Option Lease). let n : ℕ = cond (is_some o) 1 0 in n) e

outs-set : (ps : List NodeSlot) (i : ℕ) (p : NodeSlot) → i < length ps → starts_out (slice_set ps i p) + counted (get_or ps i vacant) ≡ starts_out ps + counted p
outs-set ps i p low = sum-set counted ps i p low

pub outs-less : (ps : List NodeSlot) (i : ℕ) (p : NodeSlot) → i < length ps → is_some (get_or ps i vacant).out ≡ true → p.out ≡ None → starts_out (slice_set ps i p) + 1 ≡ starts_out ps
outs-less ps i p low out home = omega (arith, out-counted (get_or ps i vacant) out, home-counted p home, outs-set ps i p low)

pub outs-more : (ps : List NodeSlot) (i : ℕ) (p : NodeSlot) → i < length ps → (get_or ps i vacant).out ≡ None → is_some p.out ≡ true → starts_out (slice_set ps i p) ≡ starts_out ps + 1
outs-more ps i p low home out = omega (arith, out-counted p out, home-counted (get_or ps i vacant) home, outs-set ps i p low)

pub outs-marked : (v mark k : ℕ) (ps : List NodeSlot) → starts_out (marked_from v mark k ps) ≡ starts_out ps
outs-marked v mark k ps = sum-marked (λ (p : NodeSlot). cond (is_some p.out) 1 0) (λ m p. refl) v mark k ps
