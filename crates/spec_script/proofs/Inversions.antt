-- What is known where a step of reading has no fault.
use Rattle.std.proofs.Common.{◌≡◌, ℕ, Bool, true, false, cond, List, [], ◌∷◌, ◌++◌, length, Some, Result, Ok, Err, refl, sym, ap, ◌⊎◌, inl, inr, nat_lt, ◌+◌}
use Rattle.std.specs.List.{list_any}
use Rattle.std.specs.Str.{bytes_eq}
use Rattle.std.specs.Cmp.Lexicographic.{same_text}
use Rattle.mal_base.specs.Limits.{limits}
use Rattle.mal_base.specs.Asks.{Terms}
use Rattle.mal_base.specs.declared.block_fault.BlockFault.{BlockFault}
use Rattle.spec_dimacs.specs.Reading.{◌>>=◌}
use Rattle.mal_base.specs.declared.line_fault.LineFault.{LineFault}
use Rattle.mal_base.specs.declared.line_fault.LineFault.TheVariants.{Limit, Duplicate}
use Rattle.mal_base.specs.declared.limit_kind.LimitKind.TheVariants.{Clauses, Literals, Tenants, Jobs}
use Rattle.mal_base.specs.Formulas.{Formulated, literals_of}
use Rattle.mal_base.specs.declared.limits.Limits.{Limits}
use Rattle.spec_script.specs.Reading.{Reading, OpenJob, in_block, named, admitted, going_on, begun, is_job, has_room, on_line, revised, with_revision}

pub bind_ok : {A B E : Type 0} (r : Result A E) (f : A → Result B E) (y : B) → (r >>= f) ≡ Ok y → (x : A) × (r ≡ Ok x) × (f x ≡ Ok y)
bind_ok (Ok x) f y e = (x, refl, e)
bind_ok (Err d) f y e = absurd (cc)

pub in_block_ok : {A : Type 0} (r : Result A BlockFault) (x : A) → in_block r ≡ Ok x → r ≡ Ok x
in_block_ok (Ok y) x e = let h : y ≡ x = cc in rw h refl
in_block_ok (Err d) x e = absurd (cc)

pub on_line_ok : {A : Type 0} (line : ℕ) (r : Result A LineFault) (x : A) → on_line line r ≡ Ok x → r ≡ Ok x
on_line_ok line (Ok y) x e = let h : y ≡ x = cc in rw h refl
on_line_ok line (Err d) x e = absurd (cc)

-- which way a test went
pub chosen : {A : Type 0} (b : Bool) (x y z : A) → cond b x y ≡ z → ((b ≡ true) × (x ≡ z)) ⊎ ((b ≡ false) × (y ≡ z))
chosen true x y z e = inl (refl, e)
chosen false x y z e = inr (refl, e)

-- a test that held, where the other way is a fault
pub passed : {A E : Type 0} (b : Bool) (x : Result A E) (d : E) (y : A) → cond b x (Err d) ≡ Ok y → (b ≡ true) × (x ≡ Ok y)
passed true x d y e = (refl, e)
passed false x d y e = absurd (cc)

-- a test that did not hold, where it holding is a fault
pub not_refused : {A E : Type 0} (b : Bool) (x : Result A E) (d : E) (y : A) → cond b (Err d) x ≡ Ok y → (b ≡ false) × (x ≡ Ok y)
not_refused true x d y e = absurd (cc)
not_refused false x d y e = (refl, e)

pub same_bytes : (xs ys : List ℕ) → bytes_eq xs ys ≡ true → xs ≡ ys
same_bytes xs ys e = same_text xs ys (sym e)

pub ok_is : {A E : Type 0} (x y : A) → ◌≡◌ {A = Result A E} (Ok x) (Ok y) → x ≡ y
ok_is x y e = cc

-- the name of a tenant leaves the job
pub named_opened : (most : Limits) (name : List ℕ) (s t : Reading) → named most name s ≡ Ok t → t.opened ≡ s.opened
named_opened most name s t e = by_tests (list_any (bytes_eq name) s.tenants) (nat_lt (length s.tenants) most.tenants) e
  where
    by_tests : (a b : Bool) → cond a (Ok (record s { tenant = Some name })) (cond b (Ok (record s { tenants = s.tenants ++ name ∷ []; tenant = Some name })) (Err (Limit Tenants))) ≡ Ok t → t.opened ≡ s.opened
    by_tests true b h = sym (ap (λ (x : Reading). x.opened) (ok_is (record s { tenant = Some name }) t h))
    by_tests false true h = sym (ap (λ (x : Reading). x.opened) (ok_is (record s { tenants = s.tenants ++ name ∷ []; tenant = Some name }) t h))
    by_tests false false h = absurd (cc)

-- a job that is admitted begins
pub admitted_is : (most : Limits) (tenant name : List ℕ) (s : Reading) (ask : Terms) (t : Reading) → admitted most tenant name s ask ≡ Ok t → going_on s (begun tenant name ask) ≡ t
admitted_is most tenant name s ask t e =
    let h = not_refused (list_any (is_job tenant name) s.jobs) (cond (has_room most tenant s.jobs) (Ok (going_on s (begun tenant name ask))) (Err (Limit Jobs))) (Duplicate tenant name) t e in
    let k = passed (has_room most tenant s.jobs) (Ok (going_on s (begun tenant name ask))) (Limit Jobs) t h.1 in
    ok_is (going_on s (begun tenant name ask)) t k.1

-- a revision that is within the limits of its job is after the others
pub revised_is : (o : OpenJob) (f : Formulated) (assumptions : List ℕ) (after : OpenJob) → revised o f assumptions ≡ Ok after → with_revision o f assumptions ≡ after
revised_is o f assumptions after e =
    let h = not_refused (nat_lt limits.clauses (o.clauses + length f.clauses)) (cond (nat_lt limits.literals (o.literals + literals_of f.clauses)) (Err (Limit Literals)) (Ok (with_revision o f assumptions))) (Limit Clauses) after e in
    let k = not_refused (nat_lt limits.literals (o.literals + literals_of f.clauses)) (Ok (with_revision o f assumptions)) (Limit Literals) after h.1 in
    ok_is (with_revision o f assumptions) after k.1
