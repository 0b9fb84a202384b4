-- What a text spells is what is read of it, and is served.
use Rattle.std.proofs.Common.{◌≡◌, ℕ, ◌≤◌, Bool, true, false, cond, ◌&&◌, nat_le, nat_lt, List, [], length, map, Result, Ok, Err, refl, ap, ◌∙◌, subst, arith}
use Rattle.std.specs.Prelude.{IfOk}
use Rattle.std.proofs.lemmas.Bool.{and_from, leb-true, le-leb}
use Rattle.std.proofs.lemmas.Bool.Decides.{nat_tests}
use Rattle.mal_base.specs.Limits.{limits}
use Rattle.mal_base.specs.Formulas.{Formulated, is_within_limits, literals_of}
use Rattle.mal_base.specs.declared.limit_kind.LimitKind.TheVariants.{Variables, Clauses, Literals}
use Rattle.mal_base.specs.declared.line_fault.LineFault.{LineFault}
use Rattle.mal_base.specs.declared.line_fault.LineFault.TheVariants.{Limit}
use Rattle.spec_text.specs.Numbers.{number_in}
use Rattle.spec_dimacs.specs.Reading.{◌>>=◌}
use Rattle.spec_dimacs.proofs.Laws.{spelled_is_formula}
use Rattle.spec_script.specs.Assumptions.{literals_from}
use Rattle.spec_script.proofs.Inversions.{bind_ok, not_refused, ok_is}
use Rattle.spec_max.specs.Optimum.{Instance, variables_in, clauses_in}
use Rattle.spec_max.specs.Right.{IsServed}
use Rattle.mal_instance.specs.Reading as lits
use Rattle.mal_instance.specs.Reading.{Fault, LitsFault, Wrong, wrong, at_most}
use Rattle.mal_instance.specs.Laws.{LitsAreRead}
use Rattle.mal_instance.specs.ReadResult.{Gives}
use Rattle.mal_instance.specs.declared.fault.InputFault.{InputFault}
use Rattle.mal_instance.proofs.FormulaLemmas.{and-left}
use Rattle.mal_instance.proofs.LitsLemmas.{wrong_ok, few-at_most, at_most-few}
use Rattle.mal_instance.proofs.ReadLemmas.{spelled-is-read}
use Rattle.mal_instance.proofs.WordLemmas.{read-say, say-read}
use Rattle.mal_max.specs.Reading.{word, limited, softs_of, instance_of, read_text}
use Rattle.mal_max.specs.Grammar.{SaySofts, Spells}
use Rattle.mal_max.specs.InputLaws.{SpelledIsRead, SpelledIsServed}
use Rattle.mal_max.specs.ReadResult.{seen_instance}
use Rattle.mal_max.specs.declared.input.Instance as declared

abbrev with_softs : Formulated → List ℕ → Instance
with_softs f softs = record { formula = f; softs = softs }

abbrev softs_read : List ℕ → Result (List ℕ) LitsFault
softs_read softs = Ok softs

not_more : (m n : ℕ) → n ≤ m → nat_lt m n ≡ false
not_more m n low = grind (arith, nat_tests)

no_more : (m n : ℕ) → nat_lt m n ≡ false → n ≤ m
no_more m n low = grind (arith, nat_tests)

-- ---- within the limits

limits-pass : (w : Instance) → is_within_limits (variables_in w) (clauses_in w) ≡ true → limited w ≡ Ok w.softs
limits-pass w h =
    let both = and-left (nat_le (variables_in w) limits.variables && nat_le (length (clauses_in w)) limits.clauses) (nat_le (literals_of (clauses_in w)) limits.literals) h in
    let first = and-left (nat_le (variables_in w) limits.variables) (nat_le (length (clauses_in w)) limits.clauses) both.0 in
    by_tests (nat_lt limits.variables (variables_in w)) (not_more limits.variables (variables_in w) (leb-true (variables_in w) limits.variables first.0))
    (nat_lt limits.clauses (length (clauses_in w))) (not_more limits.clauses (length (clauses_in w)) (leb-true (length (clauses_in w)) limits.clauses first.1))
    (nat_lt limits.literals (literals_of (clauses_in w))) (not_more limits.literals (literals_of (clauses_in w)) (leb-true (literals_of (clauses_in w)) limits.literals both.1))
  where
    by_tests : (a : Bool) → a ≡ false → (b : Bool) → b ≡ false → (c : Bool) → c ≡ false
        → cond a (Err (Wrong (Limit Variables))) (cond b (Err (Wrong (Limit Clauses))) (cond c (Err (Wrong (Limit Literals))) (softs_read w.softs))) ≡ Ok w.softs
    by_tests false p false q false r = refl
    by_tests true p b q c r = absurd (cc)
    by_tests false p true q c r = absurd (cc)
    by_tests false p false q true r = absurd (cc)

pass-limits : (w : Instance) (found : List ℕ) → limited w ≡ Ok found → (is_within_limits (variables_in w) (clauses_in w) ≡ true) × (w.softs ≡ found)
pass-limits w found e =
    let literals : Result (List ℕ) LitsFault = cond (nat_lt limits.literals (literals_of (clauses_in w))) (Err (Wrong (Limit Literals))) (softs_read w.softs) in
    let clauses : Result (List ℕ) LitsFault = cond (nat_lt limits.clauses (length (clauses_in w))) (Err (Wrong (Limit Clauses))) literals in
    let a = not_refused (nat_lt limits.variables (variables_in w)) clauses (Wrong (Limit Variables)) found e in
    let b = not_refused (nat_lt limits.clauses (length (clauses_in w))) literals (Wrong (Limit Clauses)) found a.1 in
    let c = not_refused (nat_lt limits.literals (literals_of (clauses_in w))) (softs_read w.softs) (Wrong (Limit Literals)) found b.1 in
    (and_from _ _ (and_from _ _ (le-leb (variables_in w) limits.variables (no_more limits.variables (variables_in w) a.0)) (le-leb (length (clauses_in w)) limits.clauses (no_more limits.clauses (length (clauses_in w)) b.0))) (le-leb (literals_of (clauses_in w)) limits.literals (no_more limits.literals (literals_of (clauses_in w)) c.0)), ok_is w.softs found c.1)

-- ---- words say soft literals exactly where reading gives them

softs-read : LitsAreRead SaySofts softs_of
softs-read f words found = (there, back)
  where
    there : SaySofts f words found → softs_of f words ≡ Ok found
    there s =
        ap (λ (r : Result (List ℕ) LineFault). wrong r >>= at_most limits.softs >>= λ softs. limited (with_softs f softs)) (say-read f.variables words found (record { says = s.closed; within = s.within }))
        ∙ ap (λ (r : Result (List ℕ) LitsFault). r >>= λ softs. limited (with_softs f softs)) (few-at_most limits.softs found s.few)
        ∙ limits-pass (with_softs f found) s.limits

    back : softs_of f words ≡ Ok found → SaySofts f words found
    back e =
        let raw : Result (List ℕ) LineFault = literals_from [] false (map (λ w. number_in w f.variables) words) in
        let a = bind_ok (wrong raw >>= at_most limits.softs) (λ softs. limited (with_softs f softs)) found e in
        let b = bind_ok (wrong raw) (at_most limits.softs) a.0 a.1 in
        let few = at_most-few limits.softs b.0 a.0 b.2 in
        let within = pass-limits (with_softs f a.0) found a.2 in
        let read : raw ≡ Ok a.0 = wrong_ok raw b.0 b.1 ∙ ap (λ (ls : List ℕ). Ok ls) few.1 in
        let say = read-say f.variables words a.0 read in
        subst (λ (ls : List ℕ). SaySofts f words ls) within.1 (record { closed = say.says; within = say.within; few = subst (λ (ls : List ℕ). length ls ≤ limits.softs) few.1 few.0; limits = within.0 })

abbrev lits_of : Instance → lits.Instance
lits_of w = record { formula = w.formula; literals = w.softs }

pub spelled_read : SpelledIsRead
spelled_read text w = (there, back)
  where
    there : Spells text w → read_text text ≡ Ok w
    there s = ap (λ (r : Result lits.Instance Fault). r >>= λ i. Ok (instance_of i)) ((spelled-is-read SaySofts softs_of softs-read word text (lits_of w)).0 s)

    back : read_text text ≡ Ok w → Spells text w
    back e =
        let i = bind_ok (lits.read_text word softs_of text) (λ i. Ok (instance_of i)) w e in
        let spelled = (spelled-is-read SaySofts softs_of softs-read word text i.0).1 i.1 in
        let same : instance_of i.0 ≡ w = ok_is (instance_of i.0) w i.2 in
        subst (λ (x : Instance). Spells text x) same spelled

pub spelled_served : SpelledIsServed
spelled_served text w s = record { formed = spelled_is_formula s.first w.formula s.formula; within = s.literals.within; few = s.literals.few; limited = s.literals.limits }

-- what is read is spelled so, and is served
pub read_spelled : (text : List ℕ) (r : Result declared.Instance InputFault) → Gives seen_instance r (read_text text) → IfOk r (λ w. Spells text (seen_instance w))
read_spelled text (Ok w) h = (spelled_read text (seen_instance w)).1 h
read_spelled text (Err e) h = tt

pub read_served : (text : List ℕ) (r : Result declared.Instance InputFault) → Gives seen_instance r (read_text text) → IfOk r (λ w. IsServed (seen_instance w))
read_served text (Ok w) h = spelled_served text (seen_instance w) ((spelled_read text (seen_instance w)).1 h)
read_served text (Err e) h = tt
