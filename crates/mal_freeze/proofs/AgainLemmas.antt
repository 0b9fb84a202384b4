-- What is spelled of an image is read again.
use Rattle.std.proofs.Common.{◌≡◌, ℕ, zero, suc, ◌+◌, ◌-◌, ◌*◌, ◌/◌, ◌^◌, ◌<◌, ◌≤◌, Bool, true, false, ◌&&◌, eqb, nat_le, List, [], ◌∷◌, ◌++◌, length, Option, Some, None, Ok, refl, sym, ap, subst, ◌∙◌, append_assoc, arith, rules}
use Rattle.std.specs.List.{flat_map, AllByRecursion, IsDistinct}
use Rattle.std.specs.Int.{w32, w64}
use Rattle.std.proofs.lemmas.Bool.{false≢true, and_parts, leb-true, ltb-true, eqb-true, lt-ltb}
use Rattle.std.proofs.lemmas.List.{append-nil, length_push}
use Rattle.mal_base.specs.Limits.{greatest_variable, limits}
use Rattle.mal_base.specs.declared.profile.Profile.{Profile}
use Rattle.mal_base.specs.declared.profile.Profile.TheVariants.{Plain, Lean}
use Rattle.mal_base.specs.Profiles.{policy, may_stand}
use Rattle.mal_base.specs.Clauses.{rises, is_below}
use Rattle.mal_base.specs.Formulas.{is_within}
use Rattle.mal_base.specs.NumberedClause.{NumberedClause}
use Rattle.mal_base.specs.declared.trail_entry.TrailEntry.{TrailEntry}
use Rattle.mal_base.specs.declared.verdict.Verdict.{Verdict}
use Rattle.mal_base.specs.declared.verdict.Verdict.TheVariants.{Satisfiable, Unsatisfiable}
use Rattle.spec_node.specs.State.{Node}
use Rattle.mal_trail.specs.Trailed.{Fits as TrailFits}
use Rattle.mal_trail.proofs.TrailLemmas.{Fits-push, length_fits}
use Rattle.mal_freeze.specs.declared.fields.Head.{Head}
use Rattle.mal_freeze.specs.declared.fields.Search.{Search}
use Rattle.mal_freeze.specs.declared.fields.Ended.{Ended}
use Rattle.mal_freeze.specs.declared.fields.Fields.{Fields}
use Rattle.mal_freeze.specs.Fields.{Listing}
use Rattle.mal_freeze.specs.Imaged.{IsImage, is_image, is_new, are_new, may_follow, all_follow, are_literals, are_clauses}
use Rattle.mal_freeze.specs.Spelling.{spelled, dropping_bytes, number_or_0, code_of, goal_of, phase_bytes, counted, entry_bytes, clause_bytes, image_bytes}
use Rattle.mal_freeze.specs.Forms.{form_of}
use Rattle.mal_freeze.specs.Widths.{FitsNumber, FitsGoal, FitsEntry, FitsClause, Fits}
use Rattle.mal_freeze.specs.Reading.{many_at, number_in, literal_at, variable_at, phase_at, entry_at, clause_at, profile_at, dropping_at, head_at, search_at, ended_at, lists_at, fields_at, fits_goal, verdict_in, node_in, image_in}
use Rattle.mal_freeze.proofs.FieldLemmas.{good, four, eight, number_again, ranged_again, byte_again, many_again, counted_again}
use Rattle.mal_freeze.proofs.FollowLemmas.{follow_parts}
use Rattle.mal_freeze.proofs.TestLemmas.{is-image}
use Rattle.mal_freeze.proofs.BeginsLemmas.{head_spelled, search_spelled, ended_spelled, lists_spelled}

-- ---- what the elements of lists in form are

-- a number from low to high
abbrev pub Within : ℕ → ℕ → ℕ → Type 0
Within low high n = (low ≤ n) × (n ≤ high)

code_within : (l greatest : ℕ) → 1 ≤ l / 2 → l / 2 ≤ greatest → Within 2 (2 * greatest + 1) l
code_within l greatest low high = (omega arith, omega arith)

lits_within : (greatest : ℕ) (lits : List ℕ) → is_within greatest lits ≡ true → AllByRecursion (Within 2 (2 * greatest + 1)) lits
lits_within greatest [] h = tt
lits_within greatest (l ∷ ls) h =
    let a = and_parts (nat_le 1 (l / 2) && nat_le (l / 2) greatest) (is_within greatest ls) h in
    let b = and_parts (nat_le 1 (l / 2)) (nat_le (l / 2) greatest) a.0 in
    (code_within l greatest (leb-true 1 (l / 2) b.0) (leb-true (l / 2) greatest b.1), lits_within greatest ls a.1)

-- literals that rise by variable are no more than the greatest
rise_short : (greatest l : ℕ) (ls : List ℕ) → rises (l ∷ ls) ≡ true → is_within greatest (l ∷ ls) ≡ true → length ls + l / 2 ≤ greatest
rise_short greatest l [] h k =
    let a = and_parts (nat_le 1 (l / 2) && nat_le (l / 2) greatest) true k in
    let b = and_parts (nat_le 1 (l / 2)) (nat_le (l / 2) greatest) a.0 in
    let high : l / 2 ≤ greatest = leb-true (l / 2) greatest b.1 in
    omega arith
rise_short greatest l (m ∷ ms) h k =
    let a = and_parts (nat_le 1 (l / 2) && nat_le (l / 2) greatest) (is_within greatest (m ∷ ms)) k in
    let b = and_parts (is_below l (m ∷ ms)) (rises (m ∷ ms)) h in
    let less : l / 2 < m / 2 = ltb-true (l / 2) (m / 2) b.0 in
    let more : length ms + m / 2 ≤ greatest = rise_short greatest m ms b.1 a.1 in
    omega arith

lits_few : (greatest : ℕ) (lits : List ℕ) → are_literals greatest lits ≡ true → length lits ≤ greatest
lits_few greatest [] h = omega arith
lits_few greatest (l ∷ ls) h =
    let p = and_parts (rises (l ∷ ls)) (is_within greatest (l ∷ ls)) h in
    let a = and_parts (nat_le 1 (l / 2) && nat_le (l / 2) greatest) (is_within greatest ls) p.1 in
    let b = and_parts (nat_le 1 (l / 2)) (nat_le (l / 2) greatest) a.0 in
    let low : 1 ≤ l / 2 = leb-true 1 (l / 2) b.0 in
    let short : length ls + l / 2 ≤ greatest = rise_short greatest l ls p.0 p.1 in
    omega arith

order_within : (greatest : ℕ) (before vs : List ℕ) → are_new greatest before vs ≡ true → AllByRecursion (Within 1 greatest) vs
order_within greatest before [] h = tt
order_within greatest before (v ∷ vs) h =
    let a = and_parts (is_new greatest before v) (are_new greatest (before ++ v ∷ []) vs) h in
    let b = and_parts (nat_le 1 v && nat_le v greatest) _ a.0 in
    let d = and_parts (nat_le 1 v) (nat_le v greatest) b.0 in
    ((leb-true 1 v d.0, leb-true v greatest d.1), order_within greatest (before ++ v ∷ []) vs a.1)

-- an entry whose numbers are in their ranges
abbrev pub IsEntryOf : ℕ → TrailEntry → Type 0
IsEntryOf greatest e = Within 2 (2 * greatest + 1) e.lit × FitsEntry e

trail_within : (greatest : ℕ) (before es : List TrailEntry) → all_follow greatest before es ≡ true → AllByRecursion FitsEntry es → AllByRecursion (IsEntryOf greatest) es
trail_within greatest before [] h f = tt
trail_within greatest before (e ∷ es) h f =
    let a = and_parts (may_follow greatest before e) (all_follow greatest (before ++ e ∷ []) es) h in
    let b = follow_parts greatest before e a.0 in
    ((code_within e.lit greatest b.low b.high, f.0), trail_within greatest (before ++ e ∷ []) es a.1 f.1)

trail_fits : (greatest : ℕ) (before es : List TrailEntry) → TrailFits greatest before → all_follow greatest before es ≡ true → length before + length es ≤ greatest
trail_fits greatest before [] f h =
    let short : length before ≤ greatest = length_fits greatest before f in
    omega arith
trail_fits greatest before (e ∷ es) f h =
    let a = and_parts (may_follow greatest before e) (all_follow greatest (before ++ e ∷ []) es) h in
    let b = follow_parts greatest before e a.0 in
    let rest : length (before ++ e ∷ []) + length es ≤ greatest = trail_fits greatest (before ++ e ∷ []) es (Fits-push greatest before e f b.free b.low b.high b.last b.next) a.1 in
    omega (arith, length_push before e)

none_fits : (greatest : ℕ) → greatest ≤ greatest_variable → TrailFits greatest []
unfolding IsDistinct
none_fits greatest h = record { small = h; distinct = search rules; within = λ v k. absurd (false≢true k); levels = tt }

trail_few : (greatest : ℕ) (es : List TrailEntry) → greatest ≤ greatest_variable → all_follow greatest [] es ≡ true → length es ≤ greatest
trail_few greatest es h k =
    let all : length {A = TrailEntry} [] + length es ≤ greatest = trail_fits greatest [] es (none_fits greatest h) k in
    omega arith

-- a clause whose numbers are in their ranges
abbrev pub IsClauseOf : ℕ → NumberedClause → Type 0
IsClauseOf greatest c = (c.id < 2 ^ 64) × AllByRecursion (Within 2 (2 * greatest + 1)) c.lits × (length c.lits ≤ greatest)

clauses_within : (greatest : ℕ) (cs : List NumberedClause) → are_clauses greatest cs ≡ true → AllByRecursion FitsClause cs → AllByRecursion (IsClauseOf greatest) cs
clauses_within greatest [] h f = tt
clauses_within greatest (c ∷ cs) h f =
    let a = and_parts (are_literals greatest c.lits) (are_clauses greatest cs) h in
    let b = and_parts (rises c.lits) (is_within greatest c.lits) a.0 in
    ((f.0, lits_within greatest c.lits b.1, lits_few greatest c.lits a.0), clauses_within greatest cs a.1 f.1)

-- ---- the elements of lists

literal_again : (total greatest : ℕ) → greatest ≤ greatest_variable → (l : ℕ) (rest : List ℕ) → Within 2 (2 * greatest + 1) l → literal_at total greatest (spelled w32 l ++ rest) ≡ Ok (l, rest)
literal_again total greatest h l rest w = ranged_again w32 (2 ^ 32) four total 2 (2 * greatest + 1) l rest (omega (arith, w.1)) w.0 w.1

variable_again : (total greatest : ℕ) → greatest ≤ greatest_variable → (v : ℕ) (rest : List ℕ) → Within 1 greatest v → variable_at total greatest (spelled w32 v ++ rest) ≡ Ok (v, rest)
variable_again total greatest h v rest w = ranged_again w32 (2 ^ 32) four total 1 greatest v rest (omega (arith, w.1)) w.0 w.1

phase_again : (total : ℕ) (b : Bool) (rest : List ℕ) → Unit {0} → phase_at total (phase_bytes b ++ rest) ≡ Ok (b, rest)
unfolding phase_at
phase_again total true rest u = rw (byte_again total 1 1 rest (omega arith)) refl
phase_again total false rest u = rw (byte_again total 1 0 rest (omega arith)) refl

all_phases : (bs : List Bool) → AllByRecursion (λ b. Unit {0}) bs
all_phases [] = tt
all_phases (b ∷ bs) = (tt, all_phases bs)

pub number_in_again : (o : Option ℕ) → FitsNumber o → number_in (number_or_0 o) ≡ o
number_in_again None f = refl
number_in_again (Some zero) f = absurd (omega (arith, f.0))
number_in_again (Some (suc n)) f = refl

number_fits : (o : Option ℕ) → FitsNumber o → number_or_0 o < 2 ^ 64
number_fits None f = omega arith
number_fits (Some n) f = f.1

assoc_3 : (a b c rest : List ℕ) → (a ++ (b ++ c)) ++ rest ≡ a ++ (b ++ (c ++ rest))
assoc_3 a b c rest = append_assoc a (b ++ c) rest ∙ ap (λ (x : List ℕ). a ++ x) (append_assoc b c rest)

assoc_4 : (a b c d rest : List ℕ) → (a ++ (b ++ (c ++ d))) ++ rest ≡ a ++ (b ++ (c ++ (d ++ rest)))
assoc_4 a b c d rest = append_assoc a (b ++ (c ++ d)) rest ∙ ap (λ (x : List ℕ). a ++ x) (assoc_3 b c d rest)

entry_again : (total greatest : ℕ) → greatest ≤ greatest_variable → (e : TrailEntry) (rest : List ℕ) → IsEntryOf greatest e → entry_at total greatest (entry_bytes e ++ rest) ≡ Ok (e, rest)
unfolding entry_at
entry_again total greatest h e rest w =
    ap (entry_at total greatest) (assoc_3 (spelled w32 e.lit) (spelled w64 (number_or_0 e.reason)) (spelled w32 e.level) rest)
    ∙ rw (literal_again total greatest h e.lit (spelled w64 (number_or_0 e.reason) ++ (spelled w32 e.level ++ rest)) w.0, number_again w64 (2 ^ 64) eight (number_or_0 e.reason) (spelled w32 e.level ++ rest) (number_fits e.reason w.1.0), number_again w32 (2 ^ 32) four e.level rest w.1.1, number_in_again e.reason w.1.0) refl

clause_again : (total greatest : ℕ) → greatest ≤ greatest_variable → (c : NumberedClause) (rest : List ℕ) → IsClauseOf greatest c → clause_at total greatest (clause_bytes c ++ rest) ≡ Ok (c, rest)
unfolding clause_at
clause_again total greatest h c rest w =
    ap (clause_at total greatest) (append_assoc (spelled w64 c.id) (counted (spelled w32) c.lits) rest)
    ∙ rw (number_again w64 (2 ^ 64) eight c.id (counted (spelled w32) c.lits ++ rest) w.0, counted_again total greatest (literal_at total greatest) (spelled w32) (Within 2 (2 * greatest + 1)) (literal_again total greatest h) c.lits rest w.1 w.2 (omega (arith, w.2))) refl

-- ---- the parts of an image

profile_again : (profile : Profile) (rest : List ℕ) → profile_at (spelled w64 (form_of profile).magic ++ rest) ≡ Ok (profile, rest)
unfolding profile_at
profile_again Plain rest = rw (number_again w64 (2 ^ 64) eight (form_of Plain).magic rest (omega arith)) refl
profile_again Lean rest = rw (number_again w64 (2 ^ 64) eight (form_of Lean).magic rest (omega arith)) refl

-- a profile whose images do not have the count counts nothing
dropping_again : (profile : Profile) (count : ℕ) (rest : List ℕ) → may_stand (policy profile).reduction count ≡ true → count < 2 ^ 32 → dropping_at profile (dropping_bytes profile count ++ rest) ≡ Ok (count, rest)
unfolding dropping_at
dropping_again Plain count rest h low = ap (λ (c : ℕ). good (c, rest)) (sym (eqb-true count 0 h))
dropping_again Lean count rest h low = number_again w32 (2 ^ 32) four count rest low

head_again : (total : ℕ) (h : Head) (rest : List ℕ) → h.index ≤ 63 → h.variables ≤ limits.variables → h.serial < 2 ^ 57 → h.conflicts_since_restart < 2 ^ 32 → head_at total (head_spelled h ++ rest) ≡ Ok (h, rest)
unfolding head_at
head_again total h rest a b c d =
    ap (head_at total) (assoc_4 (spelled w32 h.index) (spelled w32 h.variables) (spelled w64 h.serial) (spelled w32 h.conflicts_since_restart) rest)
    ∙ rw (ranged_again w32 (2 ^ 32) four total 0 63 h.index (spelled w32 h.variables ++ (spelled w64 h.serial ++ (spelled w32 h.conflicts_since_restart ++ rest))) (omega arith) (omega arith) a, ranged_again w32 (2 ^ 32) four total 0 limits.variables h.variables (spelled w64 h.serial ++ (spelled w32 h.conflicts_since_restart ++ rest)) (omega arith) (omega arith) b, ranged_again w64 (2 ^ 64) eight total 0 (2 ^ 57 - 1) h.serial (spelled w32 h.conflicts_since_restart ++ rest) (omega arith) (omega arith) (omega arith), number_again w32 (2 ^ 32) four h.conflicts_since_restart rest d) refl

search_again : (total : ℕ) (profile : Profile) (s : Search) (rest : List ℕ) → may_stand (policy profile).reduction s.conflicts_since_dropping ≡ true → 1 ≤ s.restart_number → s.restart_number < 2 ^ 32 → s.conflicts_since_dropping < 2 ^ 32 → s.processed < 2 ^ 32 → FitsNumber s.conflict
    → search_at total profile (search_spelled profile s ++ rest) ≡ Ok (s, rest)
unfolding search_at
search_again total profile s rest h a b e c d =
    ap (search_at total profile) (assoc_4 (spelled w32 s.restart_number) (dropping_bytes profile s.conflicts_since_dropping) (spelled w32 s.processed) (spelled w64 (number_or_0 s.conflict)) rest)
    ∙ rw (ranged_again w32 (2 ^ 32) four total 1 (2 ^ 32 - 1) s.restart_number (dropping_bytes profile s.conflicts_since_dropping ++ (spelled w32 s.processed ++ (spelled w64 (number_or_0 s.conflict) ++ rest))) b a (omega arith), dropping_again profile s.conflicts_since_dropping (spelled w32 s.processed ++ (spelled w64 (number_or_0 s.conflict) ++ rest)) h e, number_again w32 (2 ^ 32) four s.processed (spelled w64 (number_or_0 s.conflict) ++ rest) c, number_again w64 (2 ^ 64) eight (number_or_0 s.conflict) rest (number_fits s.conflict d), number_in_again s.conflict d) refl

ended_again : (total : ℕ) (e : Ended) (rest : List ℕ) → e.code ≤ 2 → e.goal < 2 ^ 64 → ended_at total (ended_spelled e ++ rest) ≡ Ok (e, rest)
unfolding ended_at
ended_again total e rest a b = rw (byte_again total 2 e.code (spelled w64 e.goal ++ rest) a, number_again w64 (2 ^ 64) eight e.goal rest b) refl

assoc_5 : (a b c d e rest : List ℕ) → (a ++ (b ++ (c ++ (d ++ e)))) ++ rest ≡ a ++ (b ++ (c ++ (d ++ (e ++ rest))))
assoc_5 a b c d e rest = append_assoc a (b ++ (c ++ (d ++ e))) rest ∙ ap (λ (x : List ℕ). a ++ x) (assoc_4 b c d e rest)

-- lists whose elements are in their ranges
pub record AreLists (greatest : ℕ) (l : Listing) : Type 0 where
  pub bound : greatest ≤ greatest_variable
  pub assumptions : AllByRecursion (Within 2 (2 * greatest + 1)) l.assumptions
  pub few : length l.assumptions ≤ greatest
  pub order : AllByRecursion (Within 1 greatest) l.order
  pub all : length l.order ≡ greatest
  pub phases : length l.phases ≡ greatest
  pub trail : AllByRecursion (IsEntryOf greatest) l.trail
  pub short : length l.trail ≤ greatest
  pub clauses : AllByRecursion (IsClauseOf greatest) l.clauses
  pub count : length l.clauses < 2 ^ 32

lists_again : (total greatest : ℕ) (l : Listing) (rest : List ℕ) → AreLists greatest l → lists_at total greatest (lists_spelled l ++ rest) ≡ Ok (l, rest)
unfolding lists_at
lists_again total greatest l rest a =
    let e = counted clause_bytes l.clauses in
    let d = counted entry_bytes l.trail in
    let c = flat_map phase_bytes l.phases in
    let b = flat_map (spelled w32) l.order in
    let order : many_at (variable_at total greatest) greatest (b ++ (c ++ (d ++ (e ++ rest)))) ≡ Ok (l.order, c ++ (d ++ (e ++ rest))) = subst (λ (k : ℕ). many_at (variable_at total greatest) k (b ++ (c ++ (d ++ (e ++ rest)))) ≡ Ok (l.order, c ++ (d ++ (e ++ rest)))) a.all (many_again (variable_at total greatest) (spelled w32) (Within 1 greatest) (variable_again total greatest a.bound) l.order (c ++ (d ++ (e ++ rest))) a.order) in
    let phases : many_at (phase_at total) greatest (c ++ (d ++ (e ++ rest))) ≡ Ok (l.phases, d ++ (e ++ rest)) = subst (λ (k : ℕ). many_at (phase_at total) k (c ++ (d ++ (e ++ rest))) ≡ Ok (l.phases, d ++ (e ++ rest))) a.phases (many_again (phase_at total) phase_bytes (λ b. Unit {0}) (phase_again total) l.phases (d ++ (e ++ rest)) (all_phases l.phases)) in
    ap (lists_at total greatest) (assoc_5 (counted (spelled w32) l.assumptions) b c d e rest)
    ∙ rw (counted_again total greatest (literal_at total greatest) (spelled w32) (Within 2 (2 * greatest + 1)) (literal_again total greatest a.bound) l.assumptions (b ++ (c ++ (d ++ (e ++ rest)))) a.assumptions a.few (omega (arith, a.few, a.bound)), order, phases, counted_again total greatest (entry_at total greatest) entry_bytes (IsEntryOf greatest) (entry_again total greatest a.bound) l.trail (e ++ rest) a.trail a.short (omega (arith, a.short, a.bound)), counted_again total (2 ^ 32 - 1) (clause_at total greatest) clause_bytes (IsClauseOf greatest) (clause_again total greatest a.bound) l.clauses rest a.clauses (omega (arith, a.count)) a.count) refl

-- ---- the whole

lists_are : (n : Node) → IsImage n → Fits n → AreLists n.variables (record { assumptions = n.assumptions; order = n.order; phases = n.phases; trail = n.trail; clauses = n.clauses })
lists_are n i f =
    let a = and_parts (rises n.assumptions) (is_within n.variables n.assumptions) i.form.assumptions in
    let o = and_parts (eqb (length n.order) n.variables) (are_new n.variables [] n.order) i.form.order in
    let served : n.variables ≤ limits.variables = i.form.ranges.variables in
    let bound : n.variables ≤ greatest_variable = omega arith in
    record {
      bound = bound;
      assumptions = lits_within n.variables n.assumptions a.1;
      few = lits_few n.variables n.assumptions i.form.assumptions;
      order = order_within n.variables [] n.order o.1;
      all = eqb-true (length n.order) n.variables o.0;
      phases = i.form.ranges.phases;
      trail = trail_within n.variables [] n.trail i.form.trail f.lists.trail;
      short = trail_few n.variables n.trail bound i.form.trail;
      clauses = clauses_within n.variables n.clauses i.form.clauses f.lists.clauses;
      count = f.lists.count;
    }

goal_fits : (v : Option Verdict) → FitsGoal v → goal_of v < 2 ^ 64
goal_fits None f = omega arith
goal_fits (Some Satisfiable) f = omega arith
goal_fits (Some (Unsatisfiable goal)) f = f.1

code_fits : (v : Option Verdict) → code_of v ≤ 2
code_fits None = omega arith
code_fits (Some Satisfiable) = omega arith
code_fits (Some (Unsatisfiable goal)) = omega arith

abbrev pub ended_of : Option Verdict → Ended
ended_of v = record { code = code_of v; goal = goal_of v }

goal_goes : (v : Option Verdict) → FitsGoal v → fits_goal (ended_of v) ≡ true
goal_goes None f = refl
goal_goes (Some Satisfiable) f = refl
goal_goes (Some (Unsatisfiable goal)) f = lt-ltb 0 goal (omega (arith, f.0))

verdict_again : (v : Option Verdict) → verdict_in (ended_of v) ≡ v
verdict_again None = refl
verdict_again (Some Satisfiable) = refl
verdict_again (Some (Unsatisfiable goal)) = refl

-- the fields of a node's image
abbrev pub fields_of : Node → Fields
fields_of n = record {
  profile = n.profile;
  head = record { index = n.index; variables = n.variables; serial = n.serial; conflicts_since_restart = n.conflicts_since_restart };
  search = record { restart_number = n.restart_number; conflicts_since_dropping = n.conflicts_since_dropping; processed = n.processed; conflict = n.conflict };
  ended = ended_of n.verdict;
  lists = record { assumptions = n.assumptions; order = n.order; phases = n.phases; trail = n.trail; clauses = n.clauses };
  left = 0;
}

fields_again : (total : ℕ) (n : Node) → IsImage n → Fits n → fields_at total (image_bytes n) ≡ Ok (fields_of n)
unfolding fields_at
fields_again total n i f =
    let h : Head = record { index = n.index; variables = n.variables; serial = n.serial; conflicts_since_restart = n.conflicts_since_restart } in
    let l : Listing = record { assumptions = n.assumptions; order = n.order; phases = n.phases; trail = n.trail; clauses = n.clauses } in
    let found : Search = record { restart_number = n.restart_number; conflicts_since_dropping = n.conflicts_since_dropping; processed = n.processed; conflict = n.conflict } in
    let search = search_spelled n.profile found in
    let lists : lists_at total n.variables (lists_spelled l) ≡ Ok (l, []) = ap (lists_at total n.variables) (sym (append-nil (lists_spelled l))) ∙ lists_again total n.variables l [] (lists_are n i f) in
    rw (
      profile_again n.profile (head_spelled h ++ (search ++ (ended_spelled (ended_of n.verdict) ++ lists_spelled l))),
      head_again total h (search ++ (ended_spelled (ended_of n.verdict) ++ lists_spelled l)) i.form.ranges.index i.form.ranges.variables i.form.ranges.serial f.conflicts_since_restart,
      search_again total n.profile found (ended_spelled (ended_of n.verdict) ++ lists_spelled l) i.profile i.form.ranges.restart_number f.counts.restart_number f.counts.conflicts_since_dropping f.counts.processed f.counts.conflict,
      ended_again total (ended_of n.verdict) (lists_spelled l) (code_fits n.verdict) (goal_fits n.verdict f.goal),
      lists,
    ) refl

node_again : (n : Node) → node_in (fields_of n) ≡ n
node_again n = ap (λ (v : Option Verdict). record n { verdict = v }) (verdict_again n.verdict)

-- the bytes of an image are read to its node
pub image_again : (n : Node) → IsImage n → Fits n → image_in (image_bytes n) ≡ Ok n
unfolding image_in
image_again n i f =
    let good : is_image (node_in (fields_of n)) ≡ true = ap (λ (m : Node). is_image m) (node_again n) ∙ is-image n i in
    rw (fields_again (length (image_bytes n)) n i f, goal_goes n.verdict f.goal, good) (ap (λ (m : Node). Ok m) (node_again n))
