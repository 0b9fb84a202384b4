-- What a line makes of a job, and of the script that it stands in.
use Rattle.std.proofs.Common.{◌≡◌, ℕ, List, Option, Some, None, Result, Ok, Err, Bool, true, false, cond, ◌∷◌, codes, map, ℤ, pos, refl, sym, ap, subst, ◌∙◌}
use Rattle.std.specs.Prelude.{bytes_eq}
use Rattle.spec_dimacs.specs.Reading.{Block, ◌>>=◌}
use Rattle.mal_base.specs.declared.line_fault.LineFault.{LineFault}
use Rattle.mal_base.specs.declared.line_fault.LineFault.TheVariants.{BadLine}
use Rattle.mal_base.specs.declared.limits.Limits.{Limits}
use Rattle.spec_script.specs.Reading.{OpenJob, Reading, going_on, after_assumptions, after_header, after_weight, inside_job, inside, after_counted}
use Rattle.spec_script.specs.Assumptions.{closed, literals_from}
use Rattle.spec_text.specs.Numbers.{number_in}
use Rattle.spec_text.specs.Numbers.NumberWord.{Number}
use Rattle.mal_script.specs.declared.fault.LineRefusal.{LineRefusal}
use Rattle.mal_script.specs.InPlace.{between, in_its_block}
use Rattle.mal_script.specs.ReadResult.{Leaves}

-- a line in no block that does not end the job is the job's alone
pub in-job-between : (limits : Limits) (first : List ℕ) (others : List (List ℕ)) (o : OpenJob) (s : Reading) → bytes_eq first (codes "e") ≡ false → inside_job limits first others o s ≡ (between limits first others o >>= λ after. Ok (going_on s after))
in-job-between limits first others o s h = rw h (by_tests (bytes_eq first (codes "p")) (bytes_eq first (codes "q")) (after_header limits (first ∷ others) o) (after_weight others o))
  where
    by_tests : (p q : Bool) (x y : Result OpenJob LineFault) → cond p (x >>= λ after. Ok (going_on s after)) (cond q (y >>= λ after. Ok (going_on s after)) (Err BadLine)) ≡ (cond p x (cond q y (Err BadLine)) >>= λ after. Ok (going_on s after))
    by_tests true q x y = refl
    by_tests false true x y = refl
    by_tests false false x y = refl

-- the line that ends a block
pub block-end : {U : Type 0} (result : Result U LineRefusal) (first : List ℕ) (others : List (List ℕ)) (o left : OpenJob) (b : Block) → Leaves result left (after_assumptions others o b) → bytes_eq first (codes "a") ≡ true → o.block ≡ Some b → Leaves result left (in_its_block first others o o.block)
block-end result first others o left b is h e =
    let ends : after_assumptions others o b ≡ in_its_block first others o o.block = rw (e, h) refl in
    subst (λ (r : Result OpenJob LineFault). Leaves result left r) ends is

inside-closed : (limits : Limits) (first : List ℕ) (others : List (List ℕ)) (o : OpenJob) (read : Option Block) (s : Reading)
    → inside limits first others o read s ≡ inside limits first others o read (record s { opened = None })
inside-closed limits first others o None s = refl
inside-closed limits first others o (Some b) s = refl

pub leaves-counted : {U : Type 0} (result : Result U LineRefusal) (limits : Limits) (first : List ℕ) (others : List (List ℕ)) (o : OpenJob) (s t left : Reading) → Leaves result left (inside limits first others o o.block t) → s.opened ≡ Some o → t ≡ record s { opened = None }
    → Leaves result left (after_counted limits first others s.opened s)
leaves-counted result limits first others o s t left h e f =
    let p : Leaves result left (inside limits first others o o.block (record s { opened = None })) = subst (λ (x : Reading). Leaves result left (inside limits first others o o.block x)) f h in
    let q : after_counted limits first others s.opened s ≡ inside limits first others o o.block s = ap (λ (x : Option OpenJob). after_counted limits first others x s) e in
    subst (λ (x : Result Reading LineFault). Leaves result left x) (sym (q ∙ inside-closed limits first others o o.block s)) p

-- the word that closes the literals
pub closed-at : (max : ℕ) (lits : List ℕ) (above : Bool) (words : List (List ℕ)) (word : List ℕ) (behind : List (List ℕ)) (z : ℤ) → words ≡ word ∷ behind → Number z ≡ number_in word max → z ≡ pos 0
    → literals_from lits above (map (λ w. number_in w max) words) ≡ closed lits above (map (λ w. number_in w max) behind)
closed-at max lits above words word behind z e f g = rw (e, ← f, g) refl
