-- What is read of the steps of a job, they say.
use Rattle.std.proofs.Common.{◌≡◌, ℕ, ◌+◌, ◌≤◌, Bool, true, false, cond, ◌&&◌, ◌||◌, nat_le, int_lt, List, [], ◌∷◌, ◌++◌, length, codes, pos, nat_abs, ◌==◌, Option, Some, None, Ok, refl, sym, ap, ◌∙◌, arith, append_assoc, append-nil}
use Rattle.std.specs.List.{list_all, list_any}
use Rattle.std.proofs.lemmas.Bool.{le-leb}
use Rattle.std.proofs.lemmas.Bool.Decides.{nat_tests}
use Rattle.std.proofs.lemmas.List.Folds.{list_all-append}
use Rattle.std.proofs.lemmas.List.Sums.{sum_by_push}
use Rattle.std.proofs.lemmas.Grind.{flat_map-append}
use Rattle.mal_base.specs.Limits.{limits}
use Rattle.mal_base.specs.Asks.{IsWeight, Weighed}
use Rattle.mal_base.specs.Clauses.{clash}
use Rattle.mal_base.specs.Formulas.{literals_of}
use Rattle.mal_base.proofs.Asked.{AreOfWeight, numbers-of-weight}
use Rattle.mal_base.proofs.Sorting.{and-left, and-right, and-both}
use Rattle.mal_revision.specs.Posted.{Posted, is_posted}
use Rattle.spec_dimacs.specs.Merged.{sorted}
use Rattle.spec_script.specs.Script.{revisions_at, revisions_in}
use Rattle.spec_script.specs.declared.step.Step.{Step}
use Rattle.spec_script.specs.declared.step.Step.TheVariants.{Revise, Reask}
use Rattle.spec_script.specs.Formed.{clauses_of, clause_literals, is_step}
use Rattle.spec_script.proofs.Inversions.{bind_ok, not_refused, ok_is}
use Rattle.serde_json.specs.Data.{Data}
use Rattle.spec_json.specs.Shape.{at, is_revision, is_revision_shape, is_step_shape, is_weight_shape, key_count, whole_in}
use Rattle.spec_json.specs.Numbers.{assumptions_in, clauses_in, has_number, is_above, is_none, variables_in, weight_in}
use Rattle.spec_json.specs.Reading.{all_stepped, literals, reasked, revised, revision_in, stepped, with_consistent, with_revision, with_weight}
use Rattle.spec_json.specs.Grammar.{SaysRevision, SaysStep, SaySteps}
use Rattle.spec_json.proofs.Numbering.{not-above, not-negative, or-none}
use Rattle.spec_json.proofs.Saying.{AllSaid, Assumed, all-said, assumed, say-all, say-assumed}

-- the steps of a job that are read: they are in form, with no more clauses and literals than are served
pub record Low (steps : List Step) : Type 0 where
  pub formed : list_all is_step steps ≡ true
  pub clauses : clauses_of (revisions_in steps) ≤ limits.clauses
  pub literals : clause_literals (revisions_in steps) ≤ limits.literals

pub none-low : Low []
none-low = record { formed = refl; clauses = omega arith; literals = omega arith }

-- the revisions of steps with one more after them
with-one : (steps : List Step) (r : Posted) → revisions_in (steps ++ Revise r ∷ []) ≡ revisions_in steps ++ r ∷ []
with-one steps r = flat_map-append revisions_at steps (Revise r ∷ [])

low-revision : (steps : List Step) (r : Posted) → Low steps → is_posted r ≡ true → clauses_of (revisions_in steps) + length r.clauses ≤ limits.clauses → clause_literals (revisions_in steps) + literals_of r.clauses ≤ limits.literals → Low (steps ++ Revise r ∷ [])
low-revision steps r low form clauses literals =
    let more : clauses_of (revisions_in (steps ++ Revise r ∷ [])) ≡ clauses_of (revisions_in steps) + length r.clauses =
    ap clauses_of (with-one steps r) ∙ sum_by_push (λ (p : Posted). length p.clauses) (revisions_in steps) r in
    let longer : clause_literals (revisions_in (steps ++ Revise r ∷ [])) ≡ clause_literals (revisions_in steps) + literals_of r.clauses =
    ap clause_literals (with-one steps r) ∙ sum_by_push (λ (p : Posted). literals_of p.clauses) (revisions_in steps) r in
    record {
      formed = list_all-append is_step steps (Revise r ∷ []) ∙ and-both _ _ low.formed (and-both _ _ form refl);
      clauses = rw more clauses;
      literals = rw longer literals;
    }

-- a step is after those before
record OneMore (d : Data) (steps after : List Step) : Type 0 where
  step : Step
  parts : after ≡ steps ++ step ∷ []
  says : SaysStep d step
  low : Low after

-- ---- a revision

-- a revision's numbers are in range
record InRange (d : Data) : Type 0 where
  own : variables_in d ≡ pos (nat_abs (variables_in d))
  few : nat_abs (variables_in d) ≤ limits.variables
  clause_some : list_any (list_any is_none) (clauses_in d) ≡ false
  clause_low : list_any (list_any (is_above (nat_abs (variables_in d)))) (clauses_in d) ≡ false
  assumed_some : list_any is_none (assumptions_in d) ≡ false
  assumed_low : list_any (is_above (nat_abs (variables_in d))) (assumptions_in d) ≡ false

says-revision : (d : Data) → is_revision_shape d ≡ true → InRange d → clash (sorted (literals (assumptions_in d))) ≡ None → SaysRevision d (revision_in d)
says-revision d shape is none = record {
  shape = shape;
  variables = is.own;
  few = is.few;
  clauses = say-all (nat_abs (variables_in d)) (clauses_in d) is.clause_some is.clause_low;
  assumptions = say-assumed (nat_abs (variables_in d)) (assumptions_in d) is.assumed_some is.assumed_low none;
}

-- what a value says is in form, where it is not too large
pub revision-form : (d : Data) (r : Posted) → SaysRevision d r → length r.clauses ≤ limits.clauses → literals_of r.clauses ≤ limits.literals → is_posted r ≡ true
revision-form d r is clauses literals =
    let said : AllSaid r.variables (clauses_in d) r.clauses = all-said r.variables (clauses_in d) r.clauses is.clauses in
    let own : Assumed r.variables (assumptions_in d) r.assumptions = assumed r.variables (assumptions_in d) r.assumptions is.assumptions in
    and-both _ _ (and-both _ _ (and-both _ _ (and-both _ _ (le-leb r.variables limits.variables is.few) (le-leb (length r.clauses) limits.clauses clauses)) (le-leb (literals_of r.clauses) limits.literals literals)) said.form) own.form

revision-behind : (job : ℕ) (d : Data) (steps : List Step) (r : Posted) (after : List Step) → SaysRevision d r → Low steps → with_revision job steps r ≡ Ok after → OneMore d steps after
revision-behind job d steps r after says low e =
    let a = not_refused _ _ _ after e in
    let b = not_refused _ _ _ after a.1 in
    let clauses : clauses_of (revisions_in steps) + length r.clauses ≤ limits.clauses = not-above limits.clauses _ a.0 in
    let literals : clause_literals (revisions_in steps) + literals_of r.clauses ≤ limits.literals = not-above limits.literals _ b.0 in
    let form : is_posted r ≡ true = revision-form d r says (omega arith) (omega arith) in
    let parts : steps ++ Revise r ∷ [] ≡ after = ok_is _ _ b.1 in
    record { step = Revise r; parts = sym parts; says = says; low = rw (sym parts) (low-revision steps r low form clauses literals) }

revision-said : (job : ℕ) (d : Data) (steps after : List Step) → is_revision_shape d ≡ true → Low steps → revised job steps d ≡ Ok after → OneMore d steps after
revision-said job d steps after shape low e =
    let a = not_refused _ _ _ after e in
    let b = not_refused _ _ _ after a.1 in
    let c = not_refused _ _ _ after b.1 in
    let some = or-none (int_lt (variables_in d) (pos 0)) (has_number is_none (clauses_in d) (assumptions_in d)) a.0 in
    let each = or-none (list_any (list_any is_none) (clauses_in d)) (list_any is_none (assumptions_in d)) some.1 in
    let under = or-none (list_any (list_any (is_above (nat_abs (variables_in d)))) (clauses_in d)) (list_any (is_above (nat_abs (variables_in d))) (assumptions_in d)) c.0 in
    let range : InRange d = record { own = not-negative (variables_in d) some.0; few = not-above limits.variables _ b.0; clause_some = each.0; clause_low = under.0; assumed_some = each.1; assumed_low = under.1 } in
    by_clash range (clash (sorted (literals (assumptions_in d)))) refl c.1
  where
    by_clash : InRange d → (o : Option ℕ) → clash (sorted (literals (assumptions_in d))) ≡ o → with_consistent job steps (revision_in d) o ≡ Ok after → OneMore d steps after
    by_clash range None q h = revision-behind job d steps (revision_in d) after (says-revision d shape range q) low h
    by_clash range (Some var) q h = absurd (cc)

-- ---- a change of the ask

-- after steps stands a change to a weight that is in form
low-weight : (steps : List Step) (w : Weighed) → Low steps → IsWeight w → Low (steps ++ Reask w ∷ [])
low-weight steps w low is =
    let priority : (nat_le 1 w.priority && nat_le w.priority limits.priority) ≡ true = and-both _ _ (le-leb 1 w.priority is.some_priority) (le-leb w.priority limits.priority is.priority_bound) in
    let demand : (nat_le 1 w.demand && nat_le w.demand limits.demand) ≡ true = and-both _ _ (le-leb 1 w.demand is.some_demand) (le-leb w.demand limits.demand is.demand_bound) in
    let form : is_step (Reask w) ≡ true = and-both _ _ priority demand in
    let same : revisions_in (steps ++ Reask w ∷ []) ≡ revisions_in steps = flat_map-append revisions_at steps (Reask w ∷ []) ∙ append-nil (revisions_in steps) in
    record {
      formed = list_all-append is_step steps (Reask w ∷ []) ∙ and-both _ _ low.formed (and-both _ _ form refl);
      clauses = rw same low.clauses;
      literals = rw same low.literals;
    }

weight-said : (job : ℕ) (d : Data) (steps after : List Step) → is_weight_shape d ≡ true → Low steps → reasked job steps d ≡ Ok after → OneMore d steps after
weight-said job d steps after shape low e = by_weight (weight_in d) refl e
  where
    by_weight : (o : Option Weighed) → weight_in d ≡ o → with_weight job steps o ≡ Ok after → OneMore d steps after
    by_weight None q h = absurd (cc)
    by_weight (Some w) q h =
        let of : AreOfWeight (whole_in (at (codes "priority") d)) (whole_in (at (codes "demand") d)) w = numbers-of-weight _ _ w q in
        let parts : steps ++ Reask w ∷ [] ≡ after = ok_is _ _ h in
        record {
          step = Reask w;
          parts = sym parts;
          says = record { shape = shape; priority = of.priority; demand = of.demand; formed = of.formed };
          low = rw (sym parts) (low-weight steps w low of.formed);
        }

-- ---- the steps of a job

two-three : (n : ℕ) → (n == 2) ≡ true → (n == 3) ≡ true → ⊥
two-three n p q = grind (arith, nat_tests)

-- which of both shapes a step has
pub shape-of : (d : Data) → is_step_shape d ≡ true → is_revision d ≡ true → is_revision_shape d ≡ true
shape-of d h three = by_shape (is_revision_shape d) (is_weight_shape d) refl refl h
  where
    by_shape : (a b : Bool) → is_revision_shape d ≡ a → is_weight_shape d ≡ b → (a || b) ≡ true → a ≡ true
    by_shape true b p q k = refl
    by_shape false true p q k = absurd (two-three (key_count d) (and-left _ _ q) three)
    by_shape false false p q k = absurd (cc)

pub weight-of : (d : Data) → is_step_shape d ≡ true → is_revision d ≡ false → is_weight_shape d ≡ true
weight-of d h other = by_shape (is_revision_shape d) refl h
  where
    by_shape : (a : Bool) → is_revision_shape d ≡ a → (a || is_weight_shape d) ≡ true → is_weight_shape d ≡ true
    by_shape true p k = let three : is_revision d ≡ true = and-left _ _ p in absurd (cc)
    by_shape false p k = k

step-said : (job : ℕ) (d : Data) (steps after : List Step) → is_step_shape d ≡ true → Low steps → stepped job steps d ≡ Ok after → OneMore d steps after
step-said job d steps after shape low e = by_kind (is_revision d) refl e
  where
    by_kind : (b : Bool) → is_revision d ≡ b → cond b (revised job steps d) (reasked job steps d) ≡ Ok after → OneMore d steps after
    by_kind true q h = revision-said job d steps after (shape-of d shape q) low h
    by_kind false q h = weight-said job d steps after (weight-of d shape q) low h

-- steps are after those before
pub record More (ds : List Data) (steps after : List Step) : Type 0 where
  pub more : List Step
  pub parts : after ≡ steps ++ more
  pub say : SaySteps ds more
  pub low : Low after

pub steps-said : (job : ℕ) (ds : List Data) (steps after : List Step) → list_all is_step_shape ds ≡ true → Low steps → all_stepped job steps ds ≡ Ok after → More ds steps after
steps-said job [] steps after shape low e =
    let same : steps ≡ after = ok_is _ _ e in
    record { more = []; parts = sym same ∙ sym (append-nil steps); say = tt; low = rw (sym same) low }
steps-said job (d ∷ ds) steps after shape low e =
    let a = bind_ok (stepped job steps d) (λ next. all_stepped job next ds) after e in
    let one : OneMore d steps a.0 = step-said job d steps a.0 (and-left _ _ shape) low a.1 in
    let rest : More ds a.0 after = steps-said job ds a.0 after (and-right (is_step_shape d) _ shape) one.low a.2 in
    record {
      more = one.step ∷ rest.more;
      parts = rest.parts ∙ ap (λ (xs : List Step). xs ++ rest.more) one.parts ∙ append_assoc steps (one.step ∷ []) rest.more;
      say = (one.says, rest.say);
      low = rest.low;
    }
