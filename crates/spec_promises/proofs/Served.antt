-- The revisions of a lawful job are within what is served, and so is the formula of the first of them.
use Rattle.std.proofs.Common.{◌≡◌, ℕ, zero, suc, ◌+◌, ◌/◌, ◌<◌, ◌≤◌, max, true, ◌&&◌, nat_le, List, [], ◌∷◌, ◌++◌, length, take, fold, Option, Some, None, inl, inr, ◌⊎◌, refl, sym, ◌∙◌, ap, subst, arith, length-append}
use Rattle.std.specs.Prelude.{All, Contains, slice_get}
use Rattle.std.specs.List.{AllByRecursion, list_all}
use Rattle.std.proofs.lemmas.Bool.{and_parts, and_from, leb-true, le-leb}
use Rattle.std.proofs.lemmas.List.Elements.{All-contains}
use Rattle.std.proofs.lemmas.List.Folds.{list_all-append}
use Rattle.std.proofs.lemmas.List.Sums.{sum_by-append, sum_by-cons, sum_by_push, sum_by-take-le}
use Rattle.mal_base.specs.Asks.{Terms}
use Rattle.mal_base.specs.Clauses.{rises}
use Rattle.mal_base.specs.Formulas.{is_clause_of, is_formula, is_within, is_within_limits, literals_of, size_of}
use Rattle.mal_base.specs.Limits.{limits}
use Rattle.mal_base.specs.declared.answer.Answer.{Answer}
use Rattle.mal_base.proofs.Sorting.{Contains-cases, Contains-head, Contains-later}
use Rattle.mal_revision.specs.Posted.{Posted, is_posted}
use Rattle.spec_job.specs.Lawful.{AllPass, IsLawful, MayPass}
use Rattle.spec_job.specs.Models.{clauses_of, variables_of, variables_through}
use Rattle.spec_job.specs.SoloMachine.{Own, Opened, Revised, Reasked, Closed, Volume, Started, Finished, Exchanged, SoloMachine, clauses_in, first_empty, literals_in, place_at, solo, solo_step}
use Rattle.spec_job.proofs.FinishLemmas.{finished-leaves, settled-leaves}
use Rattle.spec_job.proofs.PushLemmas.{events-keep}
use Rattle.spec_promises.specs.Taken.{formula_through}

-- ---- what a machine has

-- each revision is posted
abbrev pub ArePosted : List Posted → Type 0
ArePosted ps = AllByRecursion (λ p. is_posted p ≡ true) ps

-- revisions, clauses, literals and slices within what is served
pub record IsServed (s : SoloMachine) : Type 0 where
  pub posted : ArePosted s.revisions
  pub few : length s.revisions ≤ limits.revisions
  pub clauses : clauses_in s.revisions ≤ limits.clauses
  pub literals : literals_in s.revisions ≤ limits.literals
  pub slices : s.ask.slices ≤ limits.slices

posted-push : (ps : List Posted) (p : Posted) → ArePosted ps → is_posted p ≡ true → ArePosted (ps ++ p ∷ [])
posted-push [] p h k = (k, tt)
posted-push (q ∷ ps) p h k = (h.0, posted-push ps p h.1 k)

more-served : (s : SoloMachine) (answers : List Answer) → IsServed s → IsServed (record s { answers = s.answers ++ answers; spent = 0; starved = 0 })
more-served s answers h = record { posted = h.posted; few = h.few; clauses = h.clauses; literals = h.literals; slices = h.slices }

counted-served : (s : SoloMachine) (spent starved : ℕ) → IsServed s → IsServed (record s { spent = spent; starved = starved })
counted-served s spent starved h = record { posted = h.posted; few = h.few; clauses = h.clauses; literals = h.literals; slices = h.slices }

step-served : (s : SoloMachine) (o : Own) → MayPass s o → IsServed s → IsServed (solo_step s o)
step-served s (Opened ask) may h = absurd may
step-served s (Revised r) may h =
    let longer : SoloMachine = record s { revisions = s.revisions ++ r ∷ [] } in
    let count : length (s.revisions ++ r ∷ []) ≡ length s.revisions + 1 = length-append s.revisions (r ∷ []) in
    let room : length s.revisions < limits.revisions = may.few in
    let clauses : clauses_in (s.revisions ++ r ∷ []) ≡ clauses_in s.revisions + length r.clauses = sum_by_push (λ (p : Posted). length p.clauses) s.revisions r in
    let literals : literals_in (s.revisions ++ r ∷ []) ≡ literals_in s.revisions + literals_of r.clauses = sum_by_push (λ (p : Posted). literals_of p.clauses) s.revisions r in
    settled-leaves IsServed more-served counted-served (first_empty s.log) longer (record {
      posted = posted-push s.revisions r h.posted may.posted;
      few = omega (arith, count, room);
      clauses = omega (arith, clauses, may.clauses);
      literals = omega (arith, literals, may.literals);
      slices = h.slices;
    })
step-served s (Reasked w) may h = record { posted = h.posted; few = h.few; clauses = h.clauses; literals = h.literals; slices = h.slices }
step-served s Closed may h = record { posted = h.posted; few = h.few; clauses = h.clauses; literals = h.literals; slices = h.slices }
step-served s (Volume v) may h = record { posted = h.posted; few = h.few; clauses = h.clauses; literals = h.literals; slices = h.slices }
step-served s (Started i) may h = record { posted = h.posted; few = h.few; clauses = h.clauses; literals = h.literals; slices = h.slices }
step-served s (Finished i o) may h =
    finished-leaves IsServed more-served counted-served s i (place_at s i) (place_at s i).out o h
    (λ l e. record { posted = h.posted; few = h.few; clauses = h.clauses; literals = h.literals; slices = h.slices })
    (record { posted = h.posted; few = h.few; clauses = h.clauses; literals = h.literals; slices = h.slices })
step-served s Exchanged may h = record { posted = h.posted; few = h.few; clauses = h.clauses; literals = h.literals; slices = h.slices }

opened-served : (ask : Terms) (os : List Own) → IsLawful (Opened ask ∷ os) → IsServed (solo (Opened ask ∷ os))
opened-served ask os h = events-keep IsServed AllPass (λ past o later q k. (step-served (solo past) o q.0 k, q.1)) (Opened ask ∷ []) os h.1 (record { posted = tt; few = omega arith; clauses = omega arith; literals = omega arith; slices = h.0.slices_bound })

-- ---- the formula of revisions

-- the variables of revisions, after so many
abbrev most_of : ℕ → List Posted → ℕ
most_of v ps = fold (λ (x : ℕ) (p : Posted). max x p.variables) v ps

no-fewer : (ps : List Posted) (v : ℕ) → v ≤ most_of v ps
no-fewer [] v = omega arith
no-fewer (p ∷ ps) v = let rest : max v p.variables ≤ most_of (max v p.variables) ps = no-fewer ps (max v p.variables) in omega arith

-- what is known of a posted revision
record Parts (p : Posted) : Type 0 where
  low : p.variables ≤ limits.variables
  clauses : list_all (is_clause_of p.variables) p.clauses ≡ true
  within : is_within p.variables p.assumptions ≡ true

parts : (p : Posted) → is_posted p ≡ true → Parts p
parts p h =
    let a = and_parts (is_within_limits p.variables p.clauses && list_all (is_clause_of p.variables) p.clauses) (rises p.assumptions && is_within p.variables p.assumptions) h in
    let b = and_parts (is_within_limits p.variables p.clauses) (list_all (is_clause_of p.variables) p.clauses) a.0 in
    let c = and_parts (rises p.assumptions) (is_within p.variables p.assumptions) a.1 in
    let d = and_parts (nat_le p.variables limits.variables && nat_le (length p.clauses) limits.clauses) (nat_le (literals_of p.clauses) limits.literals) b.0 in
    let e = and_parts (nat_le p.variables limits.variables) (nat_le (length p.clauses) limits.clauses) d.0 in
    record { low = leb-true p.variables limits.variables e.0; clauses = b.1; within = c.1 }

most-low : (ps : List Posted) (v : ℕ) → ArePosted ps → v ≤ limits.variables → most_of v ps ≤ limits.variables
most-low [] v h low = low
most-low (p ∷ ps) v h low = let here : p.variables ≤ limits.variables = (parts p h.0).low in most-low ps (max v p.variables) h.1 (omega arith)

within-wider : (v w : ℕ) (lits : List ℕ) → v ≤ w → is_within v lits ≡ true → is_within w lits ≡ true
within-wider v w [] le h = refl
within-wider v w (l ∷ ls) le h =
    let both = and_parts (nat_le 1 (l / 2) && nat_le (l / 2) v) (is_within v ls) h in
    let here = and_parts (nat_le 1 (l / 2)) (nat_le (l / 2) v) both.0 in
    let high = leb-true (l / 2) v here.1 in
    and_from (nat_le 1 (l / 2) && nat_le (l / 2) w) (is_within w ls) (and_from (nat_le 1 (l / 2)) (nat_le (l / 2) w) here.0 (le-leb (l / 2) w (omega arith))) (within-wider v w ls le both.1)

clause-wider : (v w : ℕ) (c : Option (List ℕ)) → v ≤ w → is_clause_of v c ≡ true → is_clause_of w c ≡ true
clause-wider v w None le h = let low = leb-true 1 v h in le-leb 1 w (omega arith)
clause-wider v w (Some lits) le h =
    let both = and_parts (rises lits) (is_within v lits) h in
    and_from (rises lits) (is_within w lits) both.0 (within-wider v w lits le both.1)

clauses-wider : (v w : ℕ) (cs : List (Option (List ℕ))) → v ≤ w → list_all (is_clause_of v) cs ≡ true → list_all (is_clause_of w) cs ≡ true
clauses-wider v w [] le h = refl
clauses-wider v w (c ∷ cs) le h =
    let both = and_parts (is_clause_of v c) (list_all (is_clause_of v) cs) h in
    and_from (is_clause_of w c) (list_all (is_clause_of w) cs) (clause-wider v w c le both.0) (clauses-wider v w cs le both.1)

-- clauses of revisions are of their variables
clauses-within : (ps : List Posted) (v w : ℕ) → ArePosted ps → most_of v ps ≡ w → list_all (is_clause_of w) (clauses_of ps) ≡ true
clauses-within [] v w h e = refl
clauses-within (p ∷ ps) v w h e =
    let low : max v p.variables ≤ most_of (max v p.variables) ps = no-fewer ps (max v p.variables) in
    let here : p.variables ≤ w = omega (arith, e) in
    list_all-append (is_clause_of w) p.clauses (clauses_of ps) ∙ and_from (list_all (is_clause_of w) p.clauses) (list_all (is_clause_of w) (clauses_of ps)) (clauses-wider p.variables w p.clauses here (parts p h.0).clauses) (clauses-within ps (max v p.variables) w h.1 e)

-- they are as many as the revisions have, with as many literals
pub count-is : (ps : List Posted) → length (clauses_of ps) ≡ clauses_in ps
count-is [] = refl
count-is (p ∷ ps) = length-append p.clauses (clauses_of ps) ∙ (ap (λ (n : ℕ). length p.clauses + n) (count-is ps) ∙ sym (sum_by-cons (λ (q : Posted). length q.clauses) p ps))

literals-are : (ps : List Posted) → literals_of (clauses_of ps) ≡ literals_in ps
literals-are [] = refl
literals-are (p ∷ ps) = sum_by-append size_of p.clauses (clauses_of ps) ∙ (ap (λ (n : ℕ). literals_of p.clauses + n) (literals-are ps) ∙ sym (sum_by-cons (λ (q : Posted). literals_of q.clauses) p ps))

posted-take : (ps : List Posted) (k : ℕ) → ArePosted ps → ArePosted (take k ps)
posted-take ps zero h = tt
posted-take [] (suc k) h = tt
posted-take (p ∷ ps) (suc k) h = (h.0, posted-take ps k h.1)

pub through-formed : (ps : List Posted) (r : ℕ) → ArePosted ps → clauses_in ps ≤ limits.clauses → literals_in ps ≤ limits.literals → is_formula (formula_through ps r) ≡ true
through-formed ps r posted few short =
    let first : List Posted = take (r + 1) ps in
    let low : variables_of first ≤ limits.variables = most-low first 0 (posted-take ps (r + 1) posted) (omega arith) in
    let count : length (clauses_of first) ≡ clauses_in first = count-is first in
    let part : clauses_in first ≤ clauses_in ps = sum_by-take-le (λ (p : Posted). length p.clauses) ps (r + 1) in
    let sizes : literals_of (clauses_of first) ≡ literals_in first = literals-are first in
    let piece : literals_in first ≤ literals_in ps = sum_by-take-le (λ (p : Posted). literals_of p.clauses) ps (r + 1) in
    and_from (is_within_limits (variables_of first) (clauses_of first)) (list_all (is_clause_of (variables_of first)) (clauses_of first))
    (and_from (nat_le (variables_of first) limits.variables && nat_le (length (clauses_of first)) limits.clauses) (nat_le (literals_of (clauses_of first)) limits.literals)
    (and_from (nat_le (variables_of first) limits.variables) (nat_le (length (clauses_of first)) limits.clauses) (le-leb (variables_of first) limits.variables low) (le-leb (length (clauses_of first)) limits.clauses (omega (arith, count, part, few))))
    (le-leb (literals_of (clauses_of first)) limits.literals (omega (arith, sizes, piece, short))))
    (clauses-within first 0 (variables_of first) (posted-take ps (r + 1) posted) refl)

pub variables-low : (ps : List Posted) (k : ℕ) → ArePosted ps → variables_of (take k ps) ≤ limits.variables
variables-low ps k h = most-low (take k ps) 0 (posted-take ps k h) (omega arith)

-- the assumptions of a revision are of the variables up to it
assumed-within : (ps : List Posted) (r v : ℕ) (p : Posted) → ArePosted ps → slice_get ps r ≡ Some p → is_within (most_of v (take (suc r) ps)) p.assumptions ≡ true
assumed-within [] r v p h e = absurd (cc)
assumed-within (q ∷ ps) zero v p h e =
    let same : q ≡ p = cc in
    subst (λ (x : Posted). is_within (max v q.variables) x.assumptions ≡ true) same (within-wider q.variables (max v q.variables) q.assumptions (omega arith) (parts q h.0).within)
assumed-within (q ∷ ps) (suc r) v p h e = assumed-within ps r (max v q.variables) p h.1 e

-- so are some of them
pub some-within : (w : ℕ) (lits all : List ℕ) → ((x : ℕ) → Contains lits x → Contains all x) → is_within w all ≡ true → is_within w lits ≡ true
some-within w [] all from h = refl
some-within w (l ∷ ls) all from h =
    and_from (nat_le 1 (l / 2) && nat_le (l / 2) w) (is_within w ls) (member all h (from l (Contains-head l ls))) (some-within w ls all (λ x k. from x (Contains-later l ls x k)) h)
  where
    member : (xs : List ℕ) → is_within w xs ≡ true → Contains xs l → (nat_le 1 (l / 2) && nat_le (l / 2) w) ≡ true
    member [] q k = let low : k.0 < 0 = k.1 in absurd (omega arith)
    member (x ∷ xs) q k = by_place (Contains-cases x xs l k) (λ c. member xs (and_parts (nat_le 1 (x / 2) && nat_le (x / 2) w) (is_within w xs) q).1 c)
      where
        by_place : (x ≡ l) ⊎ Contains xs l → (Contains xs l → (nat_le 1 (l / 2) && nat_le (l / 2) w) ≡ true) → (nat_le 1 (l / 2) && nat_le (l / 2) w) ≡ true
        by_place (inl e) rest = subst (λ (y : ℕ). (nat_le 1 (y / 2) && nat_le (y / 2) w) ≡ true) e (and_parts (nat_le 1 (x / 2) && nat_le (x / 2) w) (is_within w xs) q).0
        by_place (inr c) rest = rest c

pub failed-within : (ps : List Posted) (r : ℕ) (p : Posted) (failed : List ℕ) → ArePosted ps → slice_get ps r ≡ Some p → All (Contains p.assumptions) failed → is_within (variables_through ps r) failed ≡ true
failed-within ps r p failed h e from = some-within (variables_through ps r) failed p.assumptions (λ x k. All-contains (Contains p.assumptions) failed x from k) (subst (λ (n : ℕ). is_within (variables_of (take n ps)) p.assumptions ≡ true) (next r) (assumed-within ps r 0 p h e))
  where
    next : (n : ℕ) → suc n ≡ n + 1
    next n = omega arith

pub lawful-served : (own : List Own) → IsLawful own → IsServed (solo own)
lawful-served [] h = absurd h
lawful-served (Opened ask ∷ os) h = opened-served ask os h
lawful-served (Revised r ∷ os) h = absurd h
lawful-served (Reasked w ∷ os) h = absurd h
lawful-served (Closed ∷ os) h = absurd h
lawful-served (Volume v ∷ os) h = absurd h
lawful-served (Started i ∷ os) h = absurd h
lawful-served (Finished i o ∷ os) h = absurd h
lawful-served (Exchanged ∷ os) h = absurd h
