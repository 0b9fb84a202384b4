-- What is read of an image was spelled so.
use Rattle.std.proofs.Common.{◌≡◌, ℕ, zero, suc, ◌+◌, ◌-◌, ◌*◌, ◌^◌, ◌≤◌, Bool, true, false, ◌&&◌, cond, eqb, List, [], ◌∷◌, ◌++◌, length, Option, Some, None, Ok, Err, refl, sym, ap, subst, ◌∙◌, arith}
use Rattle.std.specs.List.{flat_map}
use Rattle.std.specs.Int.{w32, w64}
use Rattle.std.proofs.lemmas.Bool.{and_parts, eqb-true}
use Rattle.std.proofs.lemmas.List.{append-nil, nil_from_length}
use Rattle.mal_base.specs.Limits.{limits}
use Rattle.mal_base.specs.declared.profile.Profile.{Profile}
use Rattle.mal_base.specs.declared.profile.Profile.TheVariants.{Plain, Lean}
use Rattle.mal_base.specs.NumberedClause.{NumberedClause}
use Rattle.mal_base.specs.declared.trail_entry.TrailEntry.{TrailEntry}
use Rattle.spec_node.specs.State.{Node}
use Rattle.mal_freeze.specs.declared.fault.ThawFault.TheVariants.{NotCanonical}
use Rattle.mal_freeze.specs.declared.fields.Head.{Head}
use Rattle.mal_freeze.specs.declared.fields.Search.{Search}
use Rattle.mal_freeze.specs.declared.fields.Ended.{Ended}
use Rattle.mal_freeze.specs.declared.fields.Fields.{Fields}
use Rattle.mal_freeze.specs.Fields.{Listing}
use Rattle.mal_freeze.specs.Imaged.{is_image}
use Rattle.mal_freeze.specs.Spelling.{spelled, dropping_bytes, number_or_0, phase_code, phase_bytes, counted, entry_bytes, clause_bytes, verdict_bytes, image_bytes}
use Rattle.mal_freeze.specs.Forms.{form_of, profile_named}
use Rattle.mal_freeze.specs.Reading.{◌>>=◌, number_at, ranged_at, byte_at, many_at, counted_at, number_in, literal_at, variable_at, phase_at, entry_at, clause_at, named, profile_at, dropping_at, head_at, search_at, ended_at, lists_at, fields_at, fits_goal, verdict_in, node_in, is_canonical, image_in}
use Rattle.mal_freeze.proofs.FieldLemmas.{IsBytes, Begins, begins-more, step_ok, let_when, good, ok_same, four, eight, number_begins, ranged_begins, byte_begins, many_begins, counted_begins}

-- ---- the elements of lists

literal_begins : (total greatest : ℕ) (bytes : List ℕ) (x : ℕ × List ℕ) → IsBytes bytes → literal_at total greatest bytes ≡ Ok x → Begins bytes (spelled w32 x.0) x.1
literal_begins total greatest bytes x are e = ranged_begins w32 (2 ^ 32) four total 2 (2 * greatest + 1) bytes x are e

variable_begins : (total greatest : ℕ) (bytes : List ℕ) (x : ℕ × List ℕ) → IsBytes bytes → variable_at total greatest bytes ≡ Ok x → Begins bytes (spelled w32 x.0) x.1
variable_begins total greatest bytes x are e = ranged_begins w32 (2 ^ 32) four total 1 greatest bytes x are e

phase_coded : (b : ℕ) → b ≤ 1 → phase_code (eqb b 1) ≡ b
phase_coded zero h = refl
phase_coded (suc zero) h = refl
phase_coded (suc (suc b)) h = absurd (omega arith)

phase_begins : (total : ℕ) (bytes : List ℕ) (x : Bool × List ℕ) → IsBytes bytes → phase_at total bytes ≡ Ok x → Begins bytes (phase_bytes x.0) x.1
unfolding phase_at
phase_begins total bytes x are e =
    let a = step_ok (byte_at total 1 bytes) (λ code. Ok (eqb code.0 1, code.1)) x e in
    let b = byte_begins total 1 bytes a.0 are a.1 in
    subst (λ (y : Bool × List ℕ). Begins bytes (phase_bytes y.0) y.1) (ok_same (eqb a.0.0 1, a.0.1) x a.2) (rw (phase_coded a.0.0 b.1) b.0)

number_back : (n : ℕ) → number_or_0 (number_in n) ≡ n
number_back zero = refl
number_back (suc n) = refl

entry_begins : (total greatest : ℕ) (bytes : List ℕ) (x : TrailEntry × List ℕ) → IsBytes bytes → entry_at total greatest bytes ≡ Ok x → Begins bytes (entry_bytes x.0) x.1
unfolding entry_at
entry_begins total greatest bytes x are e =
    let a = step_ok (literal_at total greatest bytes) (λ lit. number_at w64 lit.1 >>= λ reason. number_at w32 reason.1 >>= λ level. Ok (record { lit = lit.0; reason = number_in reason.0; level = level.0 }, level.1)) x e in
    let b = step_ok (number_at w64 a.0.1) (λ reason. number_at w32 reason.1 >>= λ level. Ok (record { lit = a.0.0; reason = number_in reason.0; level = level.0 }, level.1)) x a.2 in
    let d = step_ok (number_at w32 b.0.1) (λ level. Ok (record { lit = a.0.0; reason = number_in b.0.0; level = level.0 }, level.1)) x b.2 in
    let p = literal_begins total greatest bytes a.0 are a.1 in
    let q = number_begins w64 (2 ^ 64) eight a.0.1 b.0 p.are_bytes b.1 in
    let r = number_begins w32 (2 ^ 32) four b.0.1 d.0 q.are_bytes d.1 in
    let qr = begins-more a.0.1 (spelled w64 b.0.0) b.0.1 (spelled w32 d.0.0) d.0.1 q r in
    let all = begins-more bytes (spelled w32 a.0.0) a.0.1 (spelled w64 b.0.0 ++ spelled w32 d.0.0) d.0.1 p qr in
    let made : TrailEntry × List ℕ = (record { lit = a.0.0; reason = number_in b.0.0; level = d.0.0 }, d.0.1) in
    subst (λ (y : TrailEntry × List ℕ). Begins bytes (entry_bytes y.0) y.1) (ok_same made x d.2) (subst (λ (k : ℕ). Begins bytes (spelled w32 a.0.0 ++ (spelled w64 k ++ spelled w32 d.0.0)) d.0.1) (sym (number_back b.0.0)) all)

clause_begins : (total greatest : ℕ) (bytes : List ℕ) (x : NumberedClause × List ℕ) → IsBytes bytes → clause_at total greatest bytes ≡ Ok x → Begins bytes (clause_bytes x.0) x.1
unfolding clause_at
clause_begins total greatest bytes x are e =
    let a = step_ok (number_at w64 bytes) (λ id. counted_at total greatest (literal_at total greatest) id.1 >>= λ lits. Ok (record { id = id.0; lits = lits.0 }, lits.1)) x e in
    let b = step_ok (counted_at total greatest (literal_at total greatest) a.0.1) (λ lits. Ok (record { id = a.0.0; lits = lits.0 }, lits.1)) x a.2 in
    let p = number_begins w64 (2 ^ 64) eight bytes a.0 are a.1 in
    let q = counted_begins total greatest (literal_at total greatest) (spelled w32) (literal_begins total greatest) a.0.1 b.0 p.are_bytes b.1 in
    let all = begins-more bytes (spelled w64 a.0.0) a.0.1 (counted (spelled w32) b.0.0) b.0.1 p q in
    let made : NumberedClause × List ℕ = (record { id = a.0.0; lits = b.0.0 }, b.0.1) in
    subst (λ (y : NumberedClause × List ℕ). Begins bytes (clause_bytes y.0) y.1) (ok_same made x b.2) all

-- ---- the parts of an image

-- a number that names a profile is that of its images
magic-of_named : (n : ℕ) (p : Profile) → profile_named n ≡ Some p → n ≡ (form_of p).magic
magic-of_named n p = by_first (eqb n (form_of Plain).magic) refl
  where
    by_second : (b : Bool) → eqb n (form_of Lean).magic ≡ b → cond {A = Option Profile} b (Some Lean) None ≡ Some p → n ≡ (form_of p).magic
    by_second true t e = let same : Lean ≡ p = cc in eqb-true n (form_of Lean).magic t ∙ ap (λ (q : Profile). (form_of q).magic) same
    by_second false t e = absurd (cc)

    by_first : (b : Bool) → eqb n (form_of Plain).magic ≡ b → cond {A = Option Profile} b (Some Plain) (cond {A = Option Profile} (eqb n (form_of Lean).magic) (Some Lean) None) ≡ Some p → n ≡ (form_of p).magic
    by_first true t e = let same : Plain ≡ p = cc in eqb-true n (form_of Plain).magic t ∙ ap (λ (q : Profile). (form_of q).magic) same
    by_first false t e = by_second (eqb n (form_of Lean).magic) refl e

named-is : (o : Option Profile) (rest : List ℕ) (x : Profile × List ℕ) → named o rest ≡ Ok x → (o ≡ Some x.0) × (rest ≡ x.1)
named-is None rest x e = absurd (cc)
named-is (Some p) rest x e = let same : (p, rest) ≡ x = ok_same (p, rest) x e in (ap (λ (y : Profile × List ℕ). Some y.0) same, ap (λ (y : Profile × List ℕ). y.1) same)

profile_begins : (bytes : List ℕ) (x : Profile × List ℕ) → IsBytes bytes → profile_at bytes ≡ Ok x → Begins bytes (spelled w64 (form_of x.0).magic) x.1
unfolding profile_at
profile_begins bytes x are e =
    let a = step_ok (number_at w64 bytes) (λ n. named (profile_named n.0) n.1) x e in
    let p = number_begins w64 (2 ^ 64) eight bytes a.0 are a.1 in
    let m = named-is (profile_named a.0.0) a.0.1 x a.2 in
    subst (λ (k : ℕ). Begins bytes (spelled w64 k) x.1) (magic-of_named a.0.0 x.0 m.0) (subst (λ (r : List ℕ). Begins bytes (spelled w64 a.0.0) r) m.1 p)

dropping_begins : (profile : Profile) (bytes : List ℕ) (x : ℕ × List ℕ) → IsBytes bytes → dropping_at profile bytes ≡ Ok x → Begins bytes (dropping_bytes profile x.0) x.1
unfolding dropping_at
dropping_begins profile bytes x are = by_test (form_of profile).counts
  where
    by_test : (b : Bool) → cond b (number_at w32 bytes) (good (0, bytes)) ≡ Ok x → Begins bytes (cond b (spelled w32 x.0) []) x.1
    by_test true e = number_begins w32 (2 ^ 32) four bytes x are e
    by_test false e = subst (λ (y : ℕ × List ℕ). Begins bytes [] y.1) (ok_same (0, bytes) x e) (record { parts = refl; are_bytes = are })

abbrev pub head_spelled : Head → List ℕ
head_spelled h = spelled w32 h.index ++ (spelled w32 h.variables ++ (spelled w64 h.serial ++ spelled w32 h.conflicts_since_restart))

head_begins : (total : ℕ) (bytes : List ℕ) (x : Head × List ℕ) → IsBytes bytes → head_at total bytes ≡ Ok x → Begins bytes (head_spelled x.0) x.1
unfolding head_at
head_begins total bytes x are e =
    let a = step_ok (ranged_at total w32 0 63 bytes) (λ index. ranged_at total w32 0 limits.variables index.1 >>= λ variables. ranged_at total w64 0 (2 ^ 57 - 1) variables.1 >>= λ serial. number_at w32 serial.1 >>= λ conflicts_since_restart. Ok (record { index = index.0; variables = variables.0; serial = serial.0; conflicts_since_restart = conflicts_since_restart.0 }, conflicts_since_restart.1)) x e in
    let b = step_ok (ranged_at total w32 0 limits.variables a.0.1) (λ variables. ranged_at total w64 0 (2 ^ 57 - 1) variables.1 >>= λ serial. number_at w32 serial.1 >>= λ conflicts_since_restart. Ok (record { index = a.0.0; variables = variables.0; serial = serial.0; conflicts_since_restart = conflicts_since_restart.0 }, conflicts_since_restart.1)) x a.2 in
    let d = step_ok (ranged_at total w64 0 (2 ^ 57 - 1) b.0.1) (λ serial. number_at w32 serial.1 >>= λ conflicts_since_restart. Ok (record { index = a.0.0; variables = b.0.0; serial = serial.0; conflicts_since_restart = conflicts_since_restart.0 }, conflicts_since_restart.1)) x b.2 in
    let f = step_ok (number_at w32 d.0.1) (λ conflicts_since_restart. Ok (record { index = a.0.0; variables = b.0.0; serial = d.0.0; conflicts_since_restart = conflicts_since_restart.0 }, conflicts_since_restart.1)) x d.2 in
    let p = ranged_begins w32 (2 ^ 32) four total 0 63 bytes a.0 are a.1 in
    let q = ranged_begins w32 (2 ^ 32) four total 0 limits.variables a.0.1 b.0 p.are_bytes b.1 in
    let r = ranged_begins w64 (2 ^ 64) eight total 0 (2 ^ 57 - 1) b.0.1 d.0 q.are_bytes d.1 in
    let s = number_begins w32 (2 ^ 32) four d.0.1 f.0 r.are_bytes f.1 in
    let rs = begins-more b.0.1 (spelled w64 d.0.0) d.0.1 (spelled w32 f.0.0) f.0.1 r s in
    let qs = begins-more a.0.1 (spelled w32 b.0.0) b.0.1 (spelled w64 d.0.0 ++ spelled w32 f.0.0) f.0.1 q rs in
    let all = begins-more bytes (spelled w32 a.0.0) a.0.1 (spelled w32 b.0.0 ++ (spelled w64 d.0.0 ++ spelled w32 f.0.0)) f.0.1 p qs in
    let made : Head × List ℕ = (record { index = a.0.0; variables = b.0.0; serial = d.0.0; conflicts_since_restart = f.0.0 }, f.0.1) in
    subst (λ (y : Head × List ℕ). Begins bytes (head_spelled y.0) y.1) (ok_same made x f.2) all

abbrev pub search_spelled : Profile → Search → List ℕ
search_spelled profile s = spelled w32 s.restart_number ++ (dropping_bytes profile s.conflicts_since_dropping ++ (spelled w32 s.processed ++ spelled w64 (number_or_0 s.conflict)))

search_begins : (total : ℕ) (profile : Profile) (bytes : List ℕ) (x : Search × List ℕ) → IsBytes bytes → search_at total profile bytes ≡ Ok x → Begins bytes (search_spelled profile x.0) x.1
unfolding search_at
search_begins total profile bytes x are e =
    let a = step_ok (ranged_at total w32 1 (2 ^ 32 - 1) bytes) (λ restart_number. dropping_at profile restart_number.1 >>= λ conflicts_since_dropping. number_at w32 conflicts_since_dropping.1 >>= λ processed. number_at w64 processed.1 >>= λ conflict. Ok (record { restart_number = restart_number.0; conflicts_since_dropping = conflicts_since_dropping.0; processed = processed.0; conflict = number_in conflict.0 }, conflict.1)) x e in
    let f = step_ok (dropping_at profile a.0.1) (λ conflicts_since_dropping. number_at w32 conflicts_since_dropping.1 >>= λ processed. number_at w64 processed.1 >>= λ conflict. Ok (record { restart_number = a.0.0; conflicts_since_dropping = conflicts_since_dropping.0; processed = processed.0; conflict = number_in conflict.0 }, conflict.1)) x a.2 in
    let b = step_ok (number_at w32 f.0.1) (λ processed. number_at w64 processed.1 >>= λ conflict. Ok (record { restart_number = a.0.0; conflicts_since_dropping = f.0.0; processed = processed.0; conflict = number_in conflict.0 }, conflict.1)) x f.2 in
    let d = step_ok (number_at w64 b.0.1) (λ conflict. Ok (record { restart_number = a.0.0; conflicts_since_dropping = f.0.0; processed = b.0.0; conflict = number_in conflict.0 }, conflict.1)) x b.2 in
    let p = ranged_begins w32 (2 ^ 32) four total 1 (2 ^ 32 - 1) bytes a.0 are a.1 in
    let o = dropping_begins profile a.0.1 f.0 p.are_bytes f.1 in
    let q = number_begins w32 (2 ^ 32) four f.0.1 b.0 o.are_bytes b.1 in
    let r = number_begins w64 (2 ^ 64) eight b.0.1 d.0 q.are_bytes d.1 in
    let qr = begins-more f.0.1 (spelled w32 b.0.0) b.0.1 (spelled w64 d.0.0) d.0.1 q r in
    let or = begins-more a.0.1 (dropping_bytes profile f.0.0) f.0.1 (spelled w32 b.0.0 ++ spelled w64 d.0.0) d.0.1 o qr in
    let all = begins-more bytes (spelled w32 a.0.0) a.0.1 (dropping_bytes profile f.0.0 ++ (spelled w32 b.0.0 ++ spelled w64 d.0.0)) d.0.1 p or in
    let made : Search × List ℕ = (record { restart_number = a.0.0; conflicts_since_dropping = f.0.0; processed = b.0.0; conflict = number_in d.0.0 }, d.0.1) in
    subst (λ (y : Search × List ℕ). Begins bytes (search_spelled profile y.0) y.1) (ok_same made x d.2) (subst (λ (k : ℕ). Begins bytes (spelled w32 a.0.0 ++ (dropping_bytes profile f.0.0 ++ (spelled w32 b.0.0 ++ spelled w64 k))) d.0.1) (sym (number_back d.0.0)) all)

abbrev pub ended_spelled : Ended → List ℕ
ended_spelled e = e.code ∷ spelled w64 e.goal

ended_begins : (total : ℕ) (bytes : List ℕ) (x : Ended × List ℕ) → IsBytes bytes → ended_at total bytes ≡ Ok x → Begins bytes (ended_spelled x.0) x.1 × (x.0.code ≤ 2)
unfolding ended_at
ended_begins total bytes x are e =
    let a = step_ok (byte_at total 2 bytes) (λ code. number_at w64 code.1 >>= λ goal. Ok (record { code = code.0; goal = goal.0 }, goal.1)) x e in
    let b = step_ok (number_at w64 a.0.1) (λ goal. Ok (record { code = a.0.0; goal = goal.0 }, goal.1)) x a.2 in
    let p = byte_begins total 2 bytes a.0 are a.1 in
    let q = number_begins w64 (2 ^ 64) eight a.0.1 b.0 p.0.are_bytes b.1 in
    let all = begins-more bytes (a.0.0 ∷ []) a.0.1 (spelled w64 b.0.0) b.0.1 p.0 q in
    let made : Ended × List ℕ = (record { code = a.0.0; goal = b.0.0 }, b.0.1) in
    subst (λ (y : Ended × List ℕ). Begins bytes (ended_spelled y.0) y.1 × (y.0.code ≤ 2)) (ok_same made x b.2) (all, p.1)

abbrev pub lists_spelled : Listing → List ℕ
lists_spelled l = counted (spelled w32) l.assumptions ++ (flat_map (spelled w32) l.order ++ (flat_map phase_bytes l.phases ++ (counted entry_bytes l.trail ++ counted clause_bytes l.clauses)))

lists_begins : (total greatest : ℕ) (bytes : List ℕ) (x : Listing × List ℕ) → IsBytes bytes → lists_at total greatest bytes ≡ Ok x → Begins bytes (lists_spelled x.0) x.1
unfolding lists_at
lists_begins total greatest bytes x are e =
    let a = step_ok (counted_at total greatest (literal_at total greatest) bytes) (λ assumptions. many_at (variable_at total greatest) greatest assumptions.1 >>= λ order. many_at (phase_at total) greatest order.1 >>= λ phases. counted_at total greatest (entry_at total greatest) phases.1 >>= λ trail. counted_at total (2 ^ 32 - 1) (clause_at total greatest) trail.1 >>= λ clauses. Ok (record { assumptions = assumptions.0; order = order.0; phases = phases.0; trail = trail.0; clauses = clauses.0 }, clauses.1)) x e in
    let b = step_ok (many_at (variable_at total greatest) greatest a.0.1) (λ order. many_at (phase_at total) greatest order.1 >>= λ phases. counted_at total greatest (entry_at total greatest) phases.1 >>= λ trail. counted_at total (2 ^ 32 - 1) (clause_at total greatest) trail.1 >>= λ clauses. Ok (record { assumptions = a.0.0; order = order.0; phases = phases.0; trail = trail.0; clauses = clauses.0 }, clauses.1)) x a.2 in
    let d = step_ok (many_at (phase_at total) greatest b.0.1) (λ phases. counted_at total greatest (entry_at total greatest) phases.1 >>= λ trail. counted_at total (2 ^ 32 - 1) (clause_at total greatest) trail.1 >>= λ clauses. Ok (record { assumptions = a.0.0; order = b.0.0; phases = phases.0; trail = trail.0; clauses = clauses.0 }, clauses.1)) x b.2 in
    let f = step_ok (counted_at total greatest (entry_at total greatest) d.0.1) (λ trail. counted_at total (2 ^ 32 - 1) (clause_at total greatest) trail.1 >>= λ clauses. Ok (record { assumptions = a.0.0; order = b.0.0; phases = d.0.0; trail = trail.0; clauses = clauses.0 }, clauses.1)) x d.2 in
    let g = step_ok (counted_at total (2 ^ 32 - 1) (clause_at total greatest) f.0.1) (λ clauses. Ok (record { assumptions = a.0.0; order = b.0.0; phases = d.0.0; trail = f.0.0; clauses = clauses.0 }, clauses.1)) x f.2 in
    let p = counted_begins total greatest (literal_at total greatest) (spelled w32) (literal_begins total greatest) bytes a.0 are a.1 in
    let q = many_begins (variable_at total greatest) (spelled w32) (variable_begins total greatest) greatest a.0.1 b.0 p.are_bytes b.1 in
    let r = many_begins (phase_at total) phase_bytes (phase_begins total) greatest b.0.1 d.0 q.0.are_bytes d.1 in
    let s = counted_begins total greatest (entry_at total greatest) entry_bytes (entry_begins total greatest) d.0.1 f.0 r.0.are_bytes f.1 in
    let t = counted_begins total (2 ^ 32 - 1) (clause_at total greatest) clause_bytes (clause_begins total greatest) f.0.1 g.0 s.are_bytes g.1 in
    let st = begins-more d.0.1 (counted entry_bytes f.0.0) f.0.1 (counted clause_bytes g.0.0) g.0.1 s t in
    let rt = begins-more b.0.1 (flat_map phase_bytes d.0.0) d.0.1 (counted entry_bytes f.0.0 ++ counted clause_bytes g.0.0) g.0.1 r.0 st in
    let qt = begins-more a.0.1 (flat_map (spelled w32) b.0.0) b.0.1 (flat_map phase_bytes d.0.0 ++ (counted entry_bytes f.0.0 ++ counted clause_bytes g.0.0)) g.0.1 q.0 rt in
    let all = begins-more bytes (counted (spelled w32) a.0.0) a.0.1 (flat_map (spelled w32) b.0.0 ++ (flat_map phase_bytes d.0.0 ++ (counted entry_bytes f.0.0 ++ counted clause_bytes g.0.0))) g.0.1 p qt in
    let made : Listing × List ℕ = (record { assumptions = a.0.0; order = b.0.0; phases = d.0.0; trail = f.0.0; clauses = g.0.0 }, g.0.1) in
    subst (λ (y : Listing × List ℕ). Begins bytes (lists_spelled y.0) y.1) (ok_same made x g.2) all

abbrev pub fields_spelled : Fields → List ℕ
fields_spelled f = spelled w64 (form_of f.profile).magic ++ (head_spelled f.head ++ (search_spelled f.profile f.search ++ (ended_spelled f.ended ++ lists_spelled f.lists)))

-- the bytes are those of the fields and those left over
pub record AreFields (bytes : List ℕ) (f : Fields) : Type 0 where
  pub left : List ℕ
  pub begins : bytes ≡ fields_spelled f ++ left
  pub count : length left ≡ f.left
  pub code : f.ended.code ≤ 2

pub fields_begin : (total : ℕ) (bytes : List ℕ) (x : Fields) → IsBytes bytes → fields_at total bytes ≡ Ok x → AreFields bytes x
unfolding fields_at
fields_begin total bytes x are e =
    let a = step_ok (profile_at bytes) (λ profile. head_at total profile.1 >>= λ head. search_at total profile.0 head.1 >>= λ search. ended_at total search.1 >>= λ ended. lists_at total head.0.variables ended.1 >>= λ lists. Ok (record { profile = profile.0; head = head.0; search = search.0; ended = ended.0; lists = lists.0; left = length lists.1 })) x e in
    let b = step_ok (head_at total a.0.1) (λ head. search_at total a.0.0 head.1 >>= λ search. ended_at total search.1 >>= λ ended. lists_at total head.0.variables ended.1 >>= λ lists. Ok (record { profile = a.0.0; head = head.0; search = search.0; ended = ended.0; lists = lists.0; left = length lists.1 })) x a.2 in
    let d = step_ok (search_at total a.0.0 b.0.1) (λ search. ended_at total search.1 >>= λ ended. lists_at total b.0.0.variables ended.1 >>= λ lists. Ok (record { profile = a.0.0; head = b.0.0; search = search.0; ended = ended.0; lists = lists.0; left = length lists.1 })) x b.2 in
    let f = step_ok (ended_at total d.0.1) (λ ended. lists_at total b.0.0.variables ended.1 >>= λ lists. Ok (record { profile = a.0.0; head = b.0.0; search = d.0.0; ended = ended.0; lists = lists.0; left = length lists.1 })) x d.2 in
    let g = step_ok (lists_at total b.0.0.variables f.0.1) (λ lists. Ok (record { profile = a.0.0; head = b.0.0; search = d.0.0; ended = f.0.0; lists = lists.0; left = length lists.1 })) x f.2 in
    let p = profile_begins bytes a.0 are a.1 in
    let q = head_begins total a.0.1 b.0 p.are_bytes b.1 in
    let r = search_begins total a.0.0 b.0.1 d.0 q.are_bytes d.1 in
    let s = ended_begins total d.0.1 f.0 r.are_bytes f.1 in
    let t = lists_begins total b.0.0.variables f.0.1 g.0 s.0.are_bytes g.1 in
    let st = begins-more d.0.1 (ended_spelled f.0.0) f.0.1 (lists_spelled g.0.0) g.0.1 s.0 t in
    let rt = begins-more b.0.1 (search_spelled a.0.0 d.0.0) d.0.1 (ended_spelled f.0.0 ++ lists_spelled g.0.0) g.0.1 r st in
    let qt = begins-more a.0.1 (head_spelled b.0.0) b.0.1 (search_spelled a.0.0 d.0.0 ++ (ended_spelled f.0.0 ++ lists_spelled g.0.0)) g.0.1 q rt in
    let all = begins-more bytes (spelled w64 (form_of a.0.0).magic) a.0.1 (head_spelled b.0.0 ++ (search_spelled a.0.0 d.0.0 ++ (ended_spelled f.0.0 ++ lists_spelled g.0.0))) g.0.1 p qt in
    let made : Fields = record { profile = a.0.0; head = b.0.0; search = d.0.0; ended = f.0.0; lists = g.0.0; left = length g.0.1 } in
    subst (λ (y : Fields). AreFields bytes y) (ok_same made x g.2) (record { left = g.0.1; begins = all.parts; count = refl; code = s.1 })

-- ---- the whole

verdict_coded : (e : Ended) (code : ℕ) → e.code ≡ code → code ≤ 2 → fits_goal e ≡ true → verdict_bytes (verdict_in e) ≡ e.code ∷ spelled w64 e.goal
verdict_coded e zero k h g =
    let none : e.goal ≡ 0 = eqb-true e.goal 0 (rw k at g) in
    rw (k, none) refl
verdict_coded e (suc zero) k h g =
    let none : e.goal ≡ 0 = eqb-true e.goal 0 (rw k at g) in
    rw (k, none) refl
verdict_coded e (suc (suc zero)) k h g = rw k refl
verdict_coded e (suc (suc (suc c))) k h g = absurd (omega arith)

-- the node that is read from bytes has these bytes
pub image_spelled : (bytes : List ℕ) (n : Node) → IsBytes bytes → image_in bytes ≡ Ok n → bytes ≡ image_bytes n
unfolding image_in
image_spelled bytes n are e =
    let a = step_ok (fields_at (length bytes) bytes) (λ f. cond (is_canonical f) (Ok (node_in f)) (Err NotCanonical)) n e in
    let f = a.0 in
    let g = let_when (is_canonical f) NotCanonical (node_in f) n a.2 in
    let b = fields_begin (length bytes) bytes f are a.1 in
    let d = and_parts (eqb f.left 0) (fits_goal f.ended && is_image (node_in f)) g.0 in
    let h = and_parts (fits_goal f.ended) (is_image (node_in f)) d.1 in
    let none : f.left ≡ 0 = eqb-true f.left 0 d.0 in
    let nothing : b.left ≡ [] = nil_from_length b.left (b.count ∙ none) in
    let whole : bytes ≡ fields_spelled f = b.begins ∙ ap (λ (r : List ℕ). fields_spelled f ++ r) nothing ∙ append-nil (fields_spelled f) in
    let told = verdict_coded f.ended f.ended.code refl b.code h.0 in
    let same : fields_spelled f ≡ image_bytes (node_in f) = ap (λ (v : List ℕ). spelled w64 (form_of f.profile).magic ++ (head_spelled f.head ++ (search_spelled f.profile f.search ++ (v ++ lists_spelled f.lists)))) (sym told) in
    whole ∙ same ∙ ap (λ (m : Node). image_bytes m) g.1
