use Rattle.std.proofs.Common.{◌≡◌, ◌≢◌, ℕ, zero, suc, ◌+◌, ◌^◌, ◌<◌, ◌≤◌, Bool, true, not, List, [], ◌∷◌, length, drop, get_or, refl, sym, ap, ◌∙◌, subst, arith}
use Rattle.std.specs.Prelude.{All}
use Rattle.std.proofs.lemmas.Bool.{leb-true, and_parts}
use Rattle.std.proofs.lemmas.List.Elements.{All-head, All-tail, All-cons, All-nil, All-weaker}
use Rattle.mal_base.specs.declared.profile.Reduction.TheVariants.{Never}
use Rattle.mal_base.specs.Profiles.{policy}
use Rattle.mal_base.specs.Formulas.{is_within}
use Rattle.mal_base.specs.NumberedClause.{NumberedClause}
use Rattle.mal_revision.specs.Posted.{Posted}
use Rattle.mal_trail.specs.Rooms.{HasRoom, are_within}
use Rattle.spec_node.specs.State.{Node}
use Rattle.spec_node.specs.Load.{is_derived}
use Rattle.spec_node.specs.Import.{has_lits, taken, with_clauses, imported}
use Rattle.spec_node.specs.Sound.{AreLiteralsOf, NumbersRise}
use Rattle.spec_node.specs.Laws.{MayImport}
use Rattle.spec_node.proofs.ImportLemmas.{All-passed, All-with_clauses, own-passed, taken-apart, numbers-with_clauses}
use Rattle.mal_cdcl.specs.Within.{NodeWithRoom, NodeRoom}
use Rattle.mal_cdcl.specs.ImportSizes.{lits_in, import_clauses}
use Rattle.mal_cdcl.specs.Ready.{readied, clauses_in, HasRoomFor}
use Rattle.mal_cdcl.specs.Sliced.{HasRunRoom, Keeps}
use Rattle.mal_cdcl.specs.Importing.{all_imported, MayImportAll, picked, with_pick, with_picks, AreNewTo, AreAllNew}
use Rattle.mal_cdcl.proofs.HeldCountLemmas.{pick-clauses, pick-leaves, ready-ids}
use Rattle.mal_cdcl.proofs.NeedLemmas.{IsReadying}
use Rattle.mal_cdcl.proofs.TellingLemmas.{within-literals}

all-within : (v : ℕ) (cs : List NumberedClause) → All (λ c. is_within v c.lits ≡ true) cs → are_within v cs ≡ true
all-within v [] h = refl
all-within v (c ∷ cs) h = rw (All-head (λ x. is_within v x.lits ≡ true) c cs h) (all-within v cs (All-tail (λ x. is_within v x.lits ≡ true) c cs h))

within-all : (v : ℕ) (cs : List NumberedClause) → are_within v cs ≡ true → All (λ c. is_within v c.lits ≡ true) cs
within-all v [] h = All-nil (λ c. is_within v c.lits ≡ true)
within-all v (c ∷ cs) h =
    let parts = and_parts (is_within v c.lits) (are_within v cs) h in
    All-cons (λ x. is_within v x.lits ≡ true) c cs parts.0 (within-all v cs parts.1)

-- the clauses held with new ones are of the same variables
pub within-new : (v : ℕ) (new held : List NumberedClause) → AreNewTo held v new → are_within v held ≡ true → are_within v (with_clauses new held) ≡ true
within-new v new held h w = all-within v (with_clauses new held) (All-with_clauses (λ c. is_within v c.lits ≡ true) new held (All-weaker (λ c. AreLiteralsOf v c.lits) (λ c. is_within v c.lits ≡ true) (λ c k. within-literals v c.lits k.within) new h.within) (within-all v held w))

-- and their numbers rise
pub rising-new : (v : ℕ) (new held : List NumberedClause) → AreNewTo held v new → NumbersRise 1 held → NumbersRise 1 (with_clauses new held)
rising-new v new held h r = numbers-with_clauses 1 new held h.some h.own h.apart r

-- what is taken of what may be imported is new
taken-new : (exported : List NumberedClause) (n : Node) → MayImport exported n → AreNewTo n.clauses n.variables (taken exported n.clauses)
taken-new exported n h =
    let test : NumberedClause → Bool = λ x. not (has_lits x.lits n.clauses) in
    record {
      some = All-passed (λ x. 1 ≤ x.id) test exported (All-weaker (λ x. is_derived x ≡ true) (λ x. 1 ≤ x.id) (λ x k. let high : 2 ^ 32 ≤ x.id = leb-true (2 ^ 32) x.id k in omega arith) exported h.derived);
      within = All-passed (λ x. AreLiteralsOf n.variables x.lits) test exported h.within;
      own = own-passed test exported h.apart;
      apart = taken-apart exported n.clauses h.agree;
    }

picked-new : (imports : List (List NumberedClause)) (n : Node) → MayImportAll imports n → AreAllNew (picked imports n.clauses) n
picked-new [] n h = tt
picked-new (exported ∷ more) n h = (taken-new exported n h.0, subst (λ (cs : List NumberedClause). AreAllNew (picked more cs) (imported exported n)) (pick-clauses (taken exported n.clauses) n) (picked-new more (imported exported n) h.1))

picked-done : (imports : List (List NumberedClause)) (n : Node) → with_picks (picked imports n.clauses) n ≡ all_imported imports n
picked-done [] n = refl
picked-done (exported ∷ more) n = ap (λ (cs : List NumberedClause). with_picks (picked more cs) (imported exported n)) (sym (pick-clauses (taken exported n.clauses) n)) ∙ picked-done more (imported exported n)

-- what is left to import of some picks: this node is reached with them, they are new, and there is room for them, in a
-- scratch of this bound too
pub record IsImporting (steps : ℕ) (left : List (List NumberedClause)) (target : Node) (bound : ℕ) (now : NodeWithRoom) : Type 0 where
  pub done : with_picks left now.state ≡ target
  pub new : AreAllNew left now.state
  pub room : HasRoomFor steps [] left now
  pub fitted : now.state.variables < bound

-- after the loads the picks are left
pub importing-begins : (steps : ℕ) (loads : List (Posted × ℕ)) (imports picks : List (List NumberedClause)) (start : Node) (bound : ℕ) (now : NodeWithRoom) → picks ≡ picked imports (readied loads start).clauses → MayImportAll imports (readied loads start) → IsReadying steps [] loads picks start bound now → IsImporting steps picks (all_imported imports (readied loads start)) bound now
importing-begins steps loads imports picks start bound now is may h =
    let same : picks ≡ picked imports now.state.clauses = is ∙ ap (λ (n : Node). picked imports n.clauses) (sym h.done) in
    record {
      done = ap (λ (ps : List (List NumberedClause)). with_picks ps now.state) same ∙ (picked-done imports now.state ∙ ap (λ (n : Node). all_imported imports n) h.done);
      new = rw same (picked-new imports now.state (rw h.done may));
      room = h.room;
      fitted = h.fitted;
    }

importing-first : (steps : ℕ) (new : List NumberedClause) (more : List (List NumberedClause)) (target : Node) (bound : ℕ) (now next : NodeWithRoom) → next.state ≡ with_pick new now.state → Keeps (length new) (lits_in new) now next → IsImporting steps (new ∷ more) target bound now → IsImporting steps more target bound next
importing-first steps new more target bound now next is k h =
    let v : next.state.variables ≡ now.state.variables = ap (λ (n : Node). n.variables) is ∙ (pick-leaves new now.state).variables in
    let trail : next.spare.trail ≡ now.spare.trail = ap (λ (s : NodeRoom). s.trail) k.spare in
    let order : next.spare.order ≡ now.spare.order = ap (λ (s : NodeRoom). s.order) k.spare in
    let phases : next.spare.phases ≡ now.spare.phases = ap (λ (s : NodeRoom). s.phases) k.spare in
    let assumptions : next.spare.assumptions ≡ now.spare.assumptions = ap (λ (s : NodeRoom). s.assumptions) k.spare in
    let lines : next.spare.lines ≡ now.spare.lines = ap (λ (s : NodeRoom). s.lines) k.spare in
    let line_literals : next.spare.line_literals ≡ now.spare.line_literals = ap (λ (s : NodeRoom). s.line_literals) k.spare in
    let hints : next.spare.hints ≡ now.spare.hints = ap (λ (s : NodeRoom). s.hints) k.spare in
    record {
      done = rw is h.done;
      new = rw is h.new.1;
      room = record {
        trail = omega (arith, v, trail, h.room.trail);
        order = omega (arith, v, order, h.room.order);
        phases = omega (arith, v, phases, h.room.phases);
        assumptions = omega (arith, assumptions, h.room.assumptions);
        variables = omega (arith, v, k.room.variables, h.room.variables);
        clauses = omega (arith, k.room.clauses, h.room.clauses);
        literals = rw v (omega (arith, k.room.literals, h.room.literals));
        none = k.lines ∙ h.room.none;
        lines = omega (arith, lines, h.room.lines);
        line_literals = rw (v, line_literals) h.room.line_literals;
        hints = rw (v, hints) h.room.hints;
      };
      fitted = omega (arith, v, h.fitted);
    }

drop-at : (picks : List (List NumberedClause)) (i : ℕ) (x d : List NumberedClause) → i < length picks → x ≡ get_or picks i d → drop i picks ≡ x ∷ drop (i + 1) picks
drop-at [] i x d l e = absurd (omega arith)
drop-at (y ∷ ys) zero x d l e = rw e refl
drop-at (y ∷ ys) (suc i) x d l e =
    let more : suc i + 1 ≡ suc (i + 1) = omega arith in
    rw more (drop-at ys i x d (omega arith) e)

pub importing-here : (steps : ℕ) (picks : List (List NumberedClause)) (i : ℕ) (x d : List NumberedClause) (target : Node) (bound : ℕ) (now : NodeWithRoom) → i < length picks → x ≡ get_or picks i d → IsImporting steps (drop i picks) target bound now → IsImporting steps (x ∷ drop (i + 1) picks) target bound now
importing-here steps picks i x d target bound now l e h = rw (drop-at picks i x d l e) at h

-- there is room for the first of the picks that are left
pub importing-room : (steps : ℕ) (x : List NumberedClause) (more : List (List NumberedClause)) (now : NodeWithRoom) → HasRoomFor steps [] (x ∷ more) now → HasRoom now.state.variables (length x) (lits_in x) now.spare.engine
importing-room steps x more now h = record { variables = h.variables; clauses = omega (arith, h.clauses); literals = omega (arith, h.literals) }

pub importing-next : (steps : ℕ) (picks : List (List NumberedClause)) (i : ℕ) (x d : List NumberedClause) (target : Node) (bound : ℕ) (now next : NodeWithRoom) → i < length picks → x ≡ get_or picks i d → next.state ≡ with_pick x now.state → Keeps (length x) (lits_in x) now next → IsImporting steps (drop i picks) target bound now → IsImporting steps (drop (i + 1) picks) target bound next
importing-next steps picks i x d target bound now next l e is k h = importing-first steps x (drop (i + 1) picks) target bound now next is k (importing-here steps picks i x d target bound now l e h)

-- where nothing is left the node is reached, with room for these steps
pub record IsImported (steps : ℕ) (target : Node) (bound : ℕ) (now : NodeWithRoom) : Type 0 where
  pub done : now.state ≡ target
  pub room : HasRunRoom steps now
  pub fitted : now.state.variables < bound

drop-all : (picks : List (List NumberedClause)) (i : ℕ) → length picks ≤ i → drop i picks ≡ []
drop-all [] zero l = refl
drop-all [] (suc i) l = refl
drop-all (x ∷ xs) zero l = absurd (omega arith)
drop-all (x ∷ xs) (suc i) l = drop-all xs i (omega arith)

pub importing-ends : (steps : ℕ) (picks : List (List NumberedClause)) (i : ℕ) (target : Node) (bound : ℕ) (now : NodeWithRoom) → length picks ≤ i → IsImporting steps (drop i picks) target bound now → IsImported steps target bound now
importing-ends steps picks i target bound now l h =
    let none : drop i picks ≡ [] = drop-all picks i l in
    let end : IsImporting steps [] target bound now = rw none at h in
    record {
      done = end.done;
      room = record {
        none = end.room.none;
        room = record {
          few = omega arith;
          variables = end.room.variables;
          clauses = omega (arith, end.room.clauses);
          literals = omega (arith, end.room.literals);
          lines = end.room.lines;
          line_literals = omega (arith, end.room.line_literals);
          hints = omega (arith, end.room.hints);
        };
      };
      fitted = end.fitted;
    }

-- the scratch has room for the numbers of all clauses that are held then
pub importing-ids : (steps : ℕ) (loads : List (Posted × ℕ)) (imports picks : List (List NumberedClause)) (start end : Node) (ids : ℕ) → picks ≡ picked imports (readied loads start).clauses → end ≡ all_imported imports (readied loads start) → ((policy start.profile).reduction ≢ Never → length start.clauses + (clauses_in loads + import_clauses picks + steps) ≤ ids) → (policy end.profile).reduction ≢ Never → length end.clauses + steps ≤ ids
importing-ids steps loads imports picks start end ids is done room =
    let same : end ≡ with_picks picks (readied loads start) = done ∙ (sym (picked-done imports (readied loads start)) ∙ ap (λ (ps : List (List NumberedClause)). with_picks ps (readied loads start)) (sym is)) in
    ready-ids steps loads picks start end ids same room
