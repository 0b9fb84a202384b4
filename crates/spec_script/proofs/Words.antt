-- The words of the grammar say what reading takes of them.
use Rattle.std.proofs.Common.{◌≡◌, ℕ, zero, suc, ◌+◌, ◌<◌, ◌≤◌, Bool, true, false, cond, ◌&&◌, ◌==◌, nat_lt, nat_le, List, [], ◌∷◌, ◌++◌, length, pos, negsuc, nat_abs, Some, Result, Ok, Err, refl, sym, ap, ◌∙◌, subst, ◌⊎◌, inl, inr, arith}
use Rattle.std.specs.Prelude.{count_by}
use Rattle.std.specs.List.{list_any}
use Rattle.std.specs.Str.{bytes_eq}
use Rattle.std.proofs.lemmas.Bool.{lt-ltb, le-ltb, le-leb, leb-true, ltb-true, ltb-false}
use Rattle.std.proofs.lemmas.Bool.Decides.{nat_tests}
use Rattle.mal_base.specs.Limits.{limits}
use Rattle.mal_base.specs.Asks.{Terms, IsAsk, Weighed, IsWeight}
use Rattle.mal_base.specs.Formulas.{Formulated, literals_of}
use Rattle.mal_base.specs.Names.{is_name}
use Rattle.mal_base.specs.declared.limit_kind.LimitKind.TheVariants.{Clauses, Literals, Tenants, Jobs}
use Rattle.mal_base.specs.declared.line_fault.LineFault.{LineFault}
use Rattle.mal_base.specs.declared.line_fault.LineFault.TheVariants.{BadLine, Range, Duplicate, Limit}
use Rattle.mal_base.proofs.Sorting.{and-left, and-right, and-both}
use Rattle.mal_base.specs.Profiles.{number, last_profile}
use Rattle.mal_base.specs.declared.profile.Profile.{Profile}
use Rattle.mal_base.specs.declared.profile.Profile.TheVariants.{Plain}
use Rattle.spec_text.specs.Asks.{profile_in}
use Rattle.spec_text.specs.declared.ask_fault.AskFault.{AskFault}
use Rattle.spec_text.specs.declared.ask_fault.AskFault.TheVariants.{NotNumbers, OutOfRange}
use Rattle.spec_text.specs.Numbers.{NumberWord, is_digit, is_numeral, value_of, magnitude_in, negated, number_in}
use Rattle.spec_text.specs.Numbers.NumberWord.{NotANumber, TooLarge, Number}
use Rattle.spec_text.proofs.Asked.{SayAsk, ask-says, says-ask, SayWeight, weight-says, says-weight, some-number, same-profile}
use Rattle.spec_dimacs.specs.Grammar.{Says}
use Rattle.spec_dimacs.specs.Reading.{◌>>=◌}
use Rattle.spec_dimacs.proofs.Numbers.{same_number}
use Rattle.mal_base.specs.declared.limits.Limits.{Limits}
use Rattle.spec_script.specs.Script.{ScriptedJob}
use Rattle.spec_script.specs.Reading.{OpenJob, Reading, after_tenant, named, of_words, asked, is_of, is_job, has_room, begun, going_on, admitted, with_revision, revised, weighed}
use Rattle.spec_script.specs.Grammar.{SaysUpTo, SayProfile, Asks, Weighs, Names, Admits, HasRoomFor}
use Rattle.spec_script.specs.Laws.{AskIsRead, TenantIsRead, JobIsAdmitted, RevisionIsRead, WeightIsRead}
use Rattle.spec_script.proofs.Inversions.{bind_ok, passed, not_refused, ok_is, admitted_is, revised_is}

-- ---- numbers

not-minus : (b : ℕ) → 48 ≤ b → (b == 45) ≡ false
not-minus b high = grind (arith, nat_tests)

-- a word of digits has no sign
no-sign : (b : ℕ) (bs : List ℕ) → is_numeral (b ∷ bs) ≡ true → (b == 45) ≡ false
no-sign b bs h =
    let digits = and-right (nat_lt 0 (length (b ∷ bs))) _ h in
    let digit : is_digit b ≡ true = and-left _ _ digits in
    not-minus b (leb-true 48 b (and-left _ _ digit))

-- a word that says a number up to the greatest is read as it
pub says-number : (word : List ℕ) (max n : ℕ) → Says word n → n ≤ max → number_in word max ≡ Number (pos n)
says-number [] max n h low = absurd (cc (h.0))
says-number (b ∷ bs) max n h low =
    ap (λ (t : Bool). cond t (negated (magnitude_in bs max)) (magnitude_in (b ∷ bs) max)) (no-sign b bs h.0)
    ∙ ap (λ (t : Bool). cond t (cond (nat_le (value_of (b ∷ bs)) max) (Number (pos (value_of (b ∷ bs)))) TooLarge) NotANumber) h.0
    ∙ ap (λ (m : ℕ). cond (nat_le m max) (Number (pos m)) TooLarge) h.1
    ∙ ap (λ (t : Bool). cond t (Number (pos n)) TooLarge) (le-leb n max low)

magnitude-says : (word : List ℕ) (max n : ℕ) → magnitude_in word max ≡ Number (pos n) → Says word n × (n ≤ max)
magnitude-says word max n e = by_tests (is_numeral word) refl (nat_le (value_of word) max) refl e
  where
    by_tests : (a : Bool) → is_numeral word ≡ a → (b : Bool) → nat_le (value_of word) max ≡ b → cond a (cond b (Number (pos (value_of word))) TooLarge) NotANumber ≡ Number (pos n) → Says word n × (n ≤ max)
    by_tests false p b q e = absurd (cc)
    by_tests true p false q e = absurd (cc)
    by_tests true p true q e =
        let same : value_of word ≡ n = ap nat_abs (same_number (pos (value_of word)) (pos n) e) in
        ((p, same), subst (λ (k : ℕ). k ≤ max) same (leb-true (value_of word) max q))

magnitude-plain : (word : List ℕ) (max k : ℕ) → magnitude_in word max ≡ Number (negsuc k) → ⊥
magnitude-plain word max k e = by_tests (is_numeral word) (nat_le (value_of word) max) e
  where
    by_tests : (a b : Bool) → cond a (cond b (Number (pos (value_of word))) TooLarge) NotANumber ≡ Number (negsuc k) → ⊥
    by_tests false b e = absurd (cc)
    by_tests true false e = absurd (cc)
    by_tests true true e = let same = same_number (pos (value_of word)) (negsuc k) e in absurd (cc)

-- a word with a sign says no number above 0
negated-not : (x : NumberWord) (n : ℕ) → ((k : ℕ) → x ≡ Number (negsuc k) → ⊥) → negated x ≡ Number (pos n) → ⊥
negated-not NotANumber n plain e = absurd (cc)
negated-not TooLarge n plain e = absurd (cc)
negated-not (Number (pos zero)) n plain e = absurd (cc)
negated-not (Number (pos (suc k))) n plain e = let same = same_number (negsuc k) (pos n) e in absurd (cc)
negated-not (Number (negsuc k)) n plain e = plain k refl

number-says : (word : List ℕ) (max n : ℕ) → number_in word max ≡ Number (pos n) → Says word n × (n ≤ max)
number-says [] max n e = absurd (cc)
number-says (b ∷ bs) max n e = by_sign (b == 45) e
  where
    by_sign : (t : Bool) → cond t (negated (magnitude_in bs max)) (magnitude_in (b ∷ bs) max) ≡ Number (pos n) → Says (b ∷ bs) n × (n ≤ max)
    by_sign true e = absurd (negated-not (magnitude_in bs max) n (magnitude-plain bs max) e)
    by_sign false e = magnitude-says (b ∷ bs) max n e

-- ---- an ask

words-ok : {A : Type 0} (r : Result A AskFault) (x : A) → of_words r ≡ Ok x → r ≡ Ok x
words-ok (Ok y) x e = cc
words-ok (Err NotNumbers) x e = absurd (cc)
words-ok (Err OutOfRange) x e = absurd (cc)

-- words that say a profile are read as it
profile-read : (q : List (List ℕ)) (p : Profile) → SayProfile q p → profile_in q ≡ Number (pos (number p))
profile-read [] p is = ap (λ (r : Profile). Number (pos (number r))) (sym is)
profile-read (word ∷ []) p is = says-number word last_profile (number p) is.0 is.2
profile-read (first ∷ second ∷ others) p is = absurd is

read-profile : (q : List (List ℕ)) (p : Profile) → profile_in q ≡ Number (pos (number p)) → SayProfile q p
read-profile [] p e = sym (same-profile Plain p e)
read-profile (word ∷ []) p e = let said = number-says word last_profile (number p) e in (said.0, some-number p, said.1)
read-profile (first ∷ second ∷ others) p e = absurd (cc)

pub asked-formed : (p d k : List ℕ) (q : List (List ℕ)) (ask : Terms) → Asks p d k q ask → IsAsk ask
asked-formed p d k q ask is = record {
  some_priority = is.priority_says.1;
  priority_bound = is.priority_says.2;
  some_demand = is.demand_says.1;
  demand_bound = is.demand_says.2;
  some_slices = is.slices_says.1;
  slices_bound = is.slices_says.2;
}

pub asks-read : (p d k : List ℕ) (q : List (List ℕ)) (ask : Terms) → Asks p d k q ask → asked p d k q ≡ Ok ask
asks-read p d k q ask is =
    ap of_words (says-ask (number_in p limits.priority) (number_in d limits.demand) (number_in k limits.slices) (profile_in q) ask (record {
      priority = says-number p limits.priority ask.priority is.priority_says.0 is.priority_says.2;
      demand = says-number d limits.demand ask.demand is.demand_says.0 is.demand_says.2;
      slices = says-number k limits.slices ask.slices is.slices_says.0 is.slices_says.2;
      profile = profile-read q ask.profile is.profile_say;
      formed = asked-formed p d k q ask is;
    }))

pub read-asks : (p d k : List ℕ) (q : List (List ℕ)) (ask : Terms) → asked p d k q ≡ Ok ask → Asks p d k q ask
read-asks p d k q ask e =
    let is : SayAsk (number_in p limits.priority) (number_in d limits.demand) (number_in k limits.slices) (profile_in q) ask = ask-says _ _ _ _ ask (words-ok _ ask e) in
    let x = number-says p limits.priority ask.priority is.priority in
    let y = number-says d limits.demand ask.demand is.demand in
    let z = number-says k limits.slices ask.slices is.slices in
    record {
      priority_says = (x.0, is.formed.some_priority, x.1);
      demand_says = (y.0, is.formed.some_demand, y.1);
      slices_says = (z.0, is.formed.some_slices, z.1);
      profile_say = read-profile q ask.profile is.profile;
    }

pub ask_is_read : AskIsRead
ask_is_read p d k q ask = (asks-read p d k q ask, read-asks p d k q ask)

-- ---- a priority and a demand

weight-formed : (p d : List ℕ) (w : Weighed) → Weighs p d w → IsWeight w
weight-formed p d w is = record { some_priority = is.priority_says.1; priority_bound = is.priority_says.2; some_demand = is.demand_says.1; demand_bound = is.demand_says.2 }

pub weighs-read : (p d : List ℕ) (w : Weighed) → Weighs p d w → weighed p d ≡ Ok w
weighs-read p d w is =
    ap of_words (says-weight (number_in p limits.priority) (number_in d limits.demand) w (record {
      priority = says-number p limits.priority w.priority is.priority_says.0 is.priority_says.2;
      demand = says-number d limits.demand w.demand is.demand_says.0 is.demand_says.2;
      formed = weight-formed p d w is;
    }))

pub read-weighs : (p d : List ℕ) (w : Weighed) → weighed p d ≡ Ok w → Weighs p d w
read-weighs p d w e =
    let is : SayWeight (number_in p limits.priority) (number_in d limits.demand) w = weight-says _ _ w (words-ok _ w e) in
    let x = number-says p limits.priority w.priority is.priority in
    let y = number-says d limits.demand w.demand is.demand in
    record { priority_says = (x.0, is.formed.some_priority, x.1); demand_says = (y.0, is.formed.some_demand, y.1) }

pub weight_is_read : WeightIsRead
weight_is_read p d w = (weighs-read p d w, read-weighs p d w)

-- ---- the name of a tenant

abbrev named_last : Reading → List ℕ → List (List ℕ) → Reading
named_last s name names = record s { tenants = names; tenant = Some name }

abbrev read : Reading → Result Reading LineFault
read s = Ok s

pub names-read : (most : Limits) (name : List ℕ) (s after : Reading) → Names most s name after → named most name s ≡ Ok after
names-read most name s after is = by_test (list_any (bytes_eq name) s.tenants) refl is.room is.left
  where
    by_test : (a : Bool) → list_any (bytes_eq name) s.tenants ≡ a → (list_any (bytes_eq name) s.tenants ≡ true) ⊎ (length s.tenants < most.tenants) → after ≡ named_last s name (cond a s.tenants (s.tenants ++ name ∷ []))
        → cond a (Ok (named_last s name s.tenants)) (cond (nat_lt (length s.tenants) most.tenants) (Ok (named_last s name (s.tenants ++ name ∷ []))) (Err (Limit Tenants))) ≡ Ok after
    by_test true q room e = ap read (sym e)
    by_test false q (inl h) e = absurd (cc)
    by_test false q (inr low) e =
        ap (λ (b : Bool). cond b (Ok (named_last s name (s.tenants ++ name ∷ []))) (Err (Limit Tenants))) (lt-ltb (length s.tenants) most.tenants low)
        ∙ ap read (sym e)

pub read-names : (most : Limits) (name : List ℕ) (s after : Reading) → is_name name ≡ true → named most name s ≡ Ok after → Names most s name after
read-names most name s after form e = record {
  formed = form;
  room = room_of (list_any (bytes_eq name) s.tenants) refl (nat_lt (length s.tenants) most.tenants) refl e;
  left = left_of (list_any (bytes_eq name) s.tenants) (nat_lt (length s.tenants) most.tenants) e;
}
  where
    room_of : (a : Bool) → list_any (bytes_eq name) s.tenants ≡ a → (b : Bool) → nat_lt (length s.tenants) most.tenants ≡ b
        → cond a (Ok (named_last s name s.tenants)) (cond b (Ok (named_last s name (s.tenants ++ name ∷ []))) (Err (Limit Tenants))) ≡ Ok after
        → (list_any (bytes_eq name) s.tenants ≡ true) ⊎ (length s.tenants < most.tenants)
    room_of true q b r h = inl q
    room_of false q true r h = inr (ltb-true (length s.tenants) most.tenants r)
    room_of false q false r h = absurd (cc)

    left_of : (a b : Bool) → cond a (Ok (named_last s name s.tenants)) (cond b (Ok (named_last s name (s.tenants ++ name ∷ []))) (Err (Limit Tenants))) ≡ Ok after
        → after ≡ named_last s name (cond a s.tenants (s.tenants ++ name ∷ []))
    left_of true b h = sym (ok_is (named_last s name s.tenants) after h)
    left_of false true h = sym (ok_is (named_last s name (s.tenants ++ name ∷ [])) after h)
    left_of false false h = absurd (cc)

pub tenant_is_read : TenantIsRead
tenant_is_read most name s after = (there, back)
  where
    there : Names most s name after → after_tenant most (name ∷ []) s ≡ Ok after
    there is = ap (λ (b : Bool). cond b (named most name s) (Err BadLine)) is.formed ∙ names-read most name s after is

    back : after_tenant most (name ∷ []) s ≡ Ok after → Names most s name after
    back e = let h = passed (is_name name) (named most name s) BadLine after e in read-names most name s after h.0 h.1

-- ---- a job that begins

pub admits-room : (most : Limits) (tenant name : List ℕ) (jobs : List ScriptedJob) → Admits most tenant name jobs → has_room most tenant jobs ≡ true
admits-room most tenant name jobs is = and-both _ _ (lt-ltb (count_by (is_of tenant) jobs) most.jobs_of_tenant is.few_of_tenant) (lt-ltb (length jobs) most.jobs is.few)

pub room-admits : (most : Limits) (tenant name : List ℕ) (jobs : List ScriptedJob) → list_any (is_job tenant name) jobs ≡ false → has_room most tenant jobs ≡ true → Admits most tenant name jobs
room-admits most tenant name jobs new room = record {
  new = new;
  few_of_tenant = ltb-true (count_by (is_of tenant) jobs) most.jobs_of_tenant (and-left _ _ room);
  few = ltb-true (length jobs) most.jobs (and-right (nat_lt (count_by (is_of tenant) jobs) most.jobs_of_tenant) _ room);
}

pub admits-read : (most : Limits) (tenant name : List ℕ) (s : Reading) (ask : Terms) → Admits most tenant name s.jobs → admitted most tenant name s ask ≡ Ok (going_on s (begun tenant name ask))
admits-read most tenant name s ask is =
    ap (λ (b : Bool). cond b (Err (Duplicate tenant name)) (cond (has_room most tenant s.jobs) (Ok (going_on s (begun tenant name ask))) (Err (Limit Jobs)))) is.new
    ∙ ap (λ (b : Bool). cond b (Ok (going_on s (begun tenant name ask))) (Err (Limit Jobs))) (admits-room most tenant name s.jobs is)

pub read-admits : (most : Limits) (tenant name : List ℕ) (s : Reading) (ask : Terms) (after : Reading) → admitted most tenant name s ask ≡ Ok after → Admits most tenant name s.jobs
read-admits most tenant name s ask after e =
    let h = not_refused (list_any (is_job tenant name) s.jobs) (cond (has_room most tenant s.jobs) (Ok (going_on s (begun tenant name ask))) (Err (Limit Jobs))) (Duplicate tenant name) after e in
    let k = passed (has_room most tenant s.jobs) (Ok (going_on s (begun tenant name ask))) (Limit Jobs) after h.1 in
    room-admits most tenant name s.jobs h.0 k.0

pub job_is_admitted : JobIsAdmitted
job_is_admitted most tenant name s ask after = (there, back)
  where
    there : Admits most tenant name s.jobs × (after ≡ going_on s (begun tenant name ask)) → admitted most tenant name s ask ≡ Ok after
    there h = admits-read most tenant name s ask h.0 ∙ ap read (sym h.1)

    back : admitted most tenant name s ask ≡ Ok after → Admits most tenant name s.jobs × (after ≡ going_on s (begun tenant name ask))
    back e = (read-admits most tenant name s ask after e, sym (admitted_is most tenant name s ask after e))

-- ---- a revision of a job

pub room-read : (o : OpenJob) (f : Formulated) (assumptions : List ℕ) → HasRoomFor o f → revised o f assumptions ≡ Ok (with_revision o f assumptions)
room-read o f assumptions is =
    ap (λ (b : Bool). cond b (Err (Limit Clauses)) (cond (nat_lt limits.literals (o.literals + literals_of f.clauses)) (Err (Limit Literals)) (Ok (with_revision o f assumptions)))) (le-ltb limits.clauses (o.clauses + length f.clauses) is.clauses)
    ∙ ap (λ (b : Bool). cond b (Err (Limit Literals)) (Ok (with_revision o f assumptions))) (le-ltb limits.literals (o.literals + literals_of f.clauses) is.literals)

pub read-room : (o : OpenJob) (f : Formulated) (assumptions : List ℕ) (after : OpenJob) → revised o f assumptions ≡ Ok after → HasRoomFor o f
read-room o f assumptions after e =
    let h = not_refused (nat_lt limits.clauses (o.clauses + length f.clauses)) (cond (nat_lt limits.literals (o.literals + literals_of f.clauses)) (Err (Limit Literals)) (Ok (with_revision o f assumptions))) (Limit Clauses) after e in
    let k = not_refused (nat_lt limits.literals (o.literals + literals_of f.clauses)) (Ok (with_revision o f assumptions)) (Limit Literals) after h.1 in
    record { clauses = ltb-false limits.clauses (o.clauses + length f.clauses) h.0; literals = ltb-false limits.literals (o.literals + literals_of f.clauses) k.0 }

abbrev going : OpenJob → Result OpenJob LineFault
going o = Ok o

pub revision_is_read : RevisionIsRead
revision_is_read o f assumptions after = (there, back)
  where
    there : HasRoomFor o f × (after ≡ with_revision o f assumptions) → revised o f assumptions ≡ Ok after
    there h = room-read o f assumptions h.0 ∙ ap going (sym h.1)

    back : revised o f assumptions ≡ Ok after → HasRoomFor o f × (after ≡ with_revision o f assumptions)
    back e = (read-room o f assumptions after e, sym (revised_is o f assumptions after e))
