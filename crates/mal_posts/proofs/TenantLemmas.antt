-- What each tenant posted, where what a script's tenants posted is known.
use Rattle.std.proofs.Common.{◌≡◌, ℕ, ◌+◌, ◌<◌, ◌≤◌, Bool, true, false, ◌||◌, ◌&&◌, cond, List, [], ◌∷◌, ◌++◌, length, map, filter, flat_map, fold, take, get_or, bytes_eq, refl, sym, ◌∙◌, ap, subst}
use Rattle.std.specs.List.{list_all, list_any}
use Rattle.std.specs.Prelude.{IsTrue, ◌↔◌}
use Rattle.std.proofs.lemmas.Bool.{and_parts, both_ways, or_left}
use Rattle.std.proofs.lemmas.List.{take_all}
use Rattle.std.proofs.lemmas.List.Folds.{list_any-append}
use Rattle.std.proofs.lemmas.List.Sums.{fold_push}
use Rattle.mal_history.specs.declared.event.Event as written
use Rattle.mal_history.specs.declared.event.Event.TheVariants as of
use Rattle.mal_posts.specs.Expected.{is_known}
use Rattle.spec_hall.specs.Events.{bare}
use Rattle.spec_hall.specs.Own.{is_text}
use Rattle.spec_hall.proofs.KeyLemmas.{is_text-Decides}
use Rattle.spec_run.specs.PostLines.{HasPosts, HavePosts, is_post_line, post_lines}
use Rattle.spec_run.proofs.PostingLemmas.{take-one}
use Rattle.spec_run.specs.Complete.{job_events, jobs_of_tenant, open_events, posts_of}
use Rattle.spec_script.specs.Formed.{tenants_of, with_name}
use Rattle.spec_script.specs.Script.{ScriptedJob, Scripted}

-- the names of one job more
pub tenants-more : (js : List ScriptedJob) (i : ℕ) (j : ScriptedJob) (names : List (List ℕ)) → names ≡ tenants_of (take i js) → i < length js → j ≡ get_or js i j → with_name names j.tenant ≡ tenants_of (take (i + 1) js)
tenants-more js i j names is low read =
    ap (λ (ns : List (List ℕ)). with_name ns j.tenant) is
    ∙ (sym (fold_push (λ (ns : List (List ℕ)) (k : ScriptedJob). with_name ns k.tenant) [] (take i js) j) ∙ ap tenants_of (sym (take-one js i j low read)))

-- a name that is there stays
with-stays : (n : List ℕ) (names : List (List ℕ)) (name : List ℕ) → list_any (bytes_eq n) names ≡ true → list_any (bytes_eq n) (with_name names name) ≡ true
with-stays n names name e = by_test (list_any (bytes_eq name) names)
  where
    by_test : (b : Bool) → list_any (bytes_eq n) (cond b names (names ++ name ∷ [])) ≡ true
    by_test true = e
    by_test false = list_any-append (bytes_eq n) names (name ∷ []) ∙ or_left (list_any (bytes_eq n) names) (list_any (bytes_eq n) (name ∷ [])) e

with-there : (names : List (List ℕ)) (name : List ℕ) → list_any (bytes_eq name) (with_name names name) ≡ true
with-there names name = by_test (list_any (bytes_eq name) names) refl
  where
    same : bytes_eq name name ≡ true
    same = (is_text-Decides name name).1 refl

    or-true : (a : Bool) → (a || (true || false)) ≡ true
    or-true true = refl
    or-true false = refl

    by_test : (b : Bool) → list_any (bytes_eq name) names ≡ b → list_any (bytes_eq name) (cond b names (names ++ name ∷ [])) ≡ true
    by_test true e = e
    by_test false e = list_any-append (bytes_eq name) names (name ∷ []) ∙ (ap (λ (b : Bool). list_any (bytes_eq name) names || (b || false)) same ∙ or-true (list_any (bytes_eq name) names))

fold-stays : (n : List ℕ) (js : List ScriptedJob) (names : List (List ℕ)) → list_any (bytes_eq n) names ≡ true → list_any (bytes_eq n) (fold (λ ns k. with_name ns k.tenant) names js) ≡ true
fold-stays n [] names e = e
fold-stays n (j ∷ js) names e = fold-stays n js (with_name names j.tenant) (with-stays n names j.tenant e)

-- of a tenant that is not there the script has no job
no-jobs : (n : List ℕ) (js : List ScriptedJob) (names : List (List ℕ)) → list_any (bytes_eq n) (fold (λ ns k. with_name ns k.tenant) names js) ≡ false → filter (λ j. is_text n j.tenant) js ≡ []
no-jobs n [] names e = refl
no-jobs n (j ∷ js) names e = by_test (is_text n j.tenant) refl (no-jobs n js (with_name names j.tenant) e)
  where
    by_test : (b : Bool) → is_text n j.tenant ≡ b → filter (λ k. is_text n k.tenant) js ≡ [] → cond b (j ∷ filter (λ k. is_text n k.tenant) js) (filter (λ k. is_text n k.tenant) js) ≡ []
    by_test true p rest =
        let same : n ≡ j.tenant = (is_text-Decides n j.tenant).0 p in
        let there : list_any (bytes_eq n) (with_name names j.tenant) ≡ true = subst (λ (m : List ℕ). list_any (bytes_eq m) (with_name names j.tenant) ≡ true) (sym same) (with-there names j.tenant) in
        absurd (both_ways (list_any (bytes_eq n) (fold (λ ns k. with_name ns k.tenant) (with_name names j.tenant) js)) e (fold-stays n js (with_name names j.tenant) there))
    by_test false p rest = rest

no-posts : (s : Scripted) (n : List ℕ) → list_any (bytes_eq n) (tenants_of s.jobs) ≡ false → map bare (posts_of n s) ≡ []
no-posts s n e =
    let none : jobs_of_tenant n s ≡ [] = no-jobs n s.jobs [] e in
    ap (λ (js : List ScriptedJob). map bare (open_events js ++ flat_map job_events js)) none

-- a tenant that is not known posted nothing where all posts are known
poster-is : (n : List ℕ) (names : List (List ℕ)) (e : written.Event) → is_known names e ≡ true → list_any (bytes_eq n) names ≡ false → is_post_line n e ≡ false
poster-is n names e known none = by_test (is_post_line n e) refl
  where
    named : (tenant : List ℕ) → list_any (bytes_eq tenant) names ≡ true → is_text n tenant ≡ true → ⊥
    named tenant k p = both_ways (list_any (bytes_eq n) names) none (subst (λ (m : List ℕ). list_any (bytes_eq m) names ≡ true) (sym ((is_text-Decides n tenant).0 p)) k)

    refuses : (x : written.Event) → is_known names x ≡ true → is_post_line n x ≡ true → ⊥
    refuses (of.Open tenant job ask) k p = named tenant k p
    refuses (of.Revise tenant job number) k p = named tenant k p
    refuses (of.Reask tenant job weight) k p = named tenant k p
    refuses (of.Close tenant job) k p = named tenant k p
    refuses (of.Balance volumes) k p = cc
    refuses (of.Start tenant job index worker) k p = cc
    refuses (of.Finish tenant job index worker outcome) k p = cc
    refuses (of.Exchange tenant job) k p = cc
    refuses (of.Leave tenant job) k p = cc
    refuses (of.Arrive tenant job) k p = cc

    by_test : (b : Bool) → is_post_line n e ≡ b → b ≡ false
    by_test false p = refl
    by_test true p = absurd (refuses e known p)

unknown-none : (n : List ℕ) (names : List (List ℕ)) (lines : List written.Event) → list_all (is_known names) lines ≡ true → list_any (bytes_eq n) names ≡ false → post_lines n lines ≡ []
unknown-none n names [] known none = refl
unknown-none n names (e ∷ es) known none =
    let parts = and_parts (is_known names e) (list_all (is_known names) es) known in
    ap (λ (b : Bool). cond b (e ∷ post_lines n es) (post_lines n es)) (poster-is n names e parts.0 none) ∙ unknown-none n names es parts.1 none

-- each of the tenants up to one posted what the script says
abbrev pub HavePosted : Scripted → List written.Event → List (List ℕ) → Type 0
HavePosted s lines [] = Unit {0}
HavePosted s lines (n ∷ ns) = HasPosts s lines n × HavePosted s lines ns

pub posted-push : (s : Scripted) (lines : List written.Event) (names : List (List ℕ)) (n : List ℕ) → HavePosted s lines names → HasPosts s lines n → HavePosted s lines (names ++ n ∷ [])
posted-push s lines [] n are has = (has, tt)
posted-push s lines (m ∷ ms) n are has = (are.0, posted-push s lines ms n are.1 has)

posted-among : (s : Scripted) (lines : List written.Event) (names : List (List ℕ)) (n : List ℕ) → HavePosted s lines names → list_any (bytes_eq n) names ≡ true → HasPosts s lines n
posted-among s lines [] n are e = absurd (cc)
posted-among s lines (m ∷ ms) n are e = by_test (bytes_eq n m) refl e (posted-among s lines ms n are.1)
  where
    by_test : (b : Bool) → bytes_eq n m ≡ b → (b || list_any (bytes_eq n) ms) ≡ true → (list_any (bytes_eq n) ms ≡ true → HasPosts s lines n) → HasPosts s lines n
    by_test true p f rest = subst (HasPosts s lines) (sym ((is_text-Decides n m).0 p)) are.0
    by_test false p f rest = rest f

-- one more of them did
pub posted-more : (s : Scripted) (lines : List written.Event) (names : List (List ℕ)) (i : ℕ) (n : List ℕ) → HavePosted s lines (take i names) → i < length names → n ≡ get_or names i n → HasPosts s lines n → HavePosted s lines (take (i + 1) names)
posted-more s lines names i n are low read has = subst (HavePosted s lines) (sym (take-one names i n low read)) (posted-push s lines (take i names) n are has)

-- so did each tenant, where all were tested
pub posted-all : (s : Scripted) (lines : List written.Event) (names : List (List ℕ)) (i : ℕ) → names ≡ tenants_of s.jobs → list_all (is_known names) lines ≡ true → HavePosted s lines (take i names) → length names ≤ i → HavePosts s lines
posted-all s lines names i is known are all n = by_test (list_any (bytes_eq n) names) refl
  where
    whole : HavePosted s lines names
    whole = subst (HavePosted s lines) (take_all i names all) are

    by_test : (b : Bool) → list_any (bytes_eq n) names ≡ b → HasPosts s lines n
    by_test true e = posted-among s lines names n whole e
    by_test false e = unknown-none n names lines known e ∙ sym (no-posts s n (ap (list_any (bytes_eq n)) (sym is) ∙ e))

-- a post by another tenant is none of the script's
stranger : (s : Scripted) (names : List (List ℕ)) (lines : List written.Event) → list_all (is_known names) lines ≡ false → (n : List ℕ) × (list_any (bytes_eq n) names ≡ false) × (post_lines n lines ≡ [] → ⊥)
stranger s names [] e = absurd (cc)
stranger s names (x ∷ xs) e = by_known (is_known names x) refl e (stranger s names xs)
  where
    kept : (n : List ℕ) (b : Bool) → cond b (x ∷ post_lines n xs) (post_lines n xs) ≡ [] → post_lines n xs ≡ []
    kept n true q = absurd (cc)
    kept n false q = q

    found : (n : List ℕ) → is_post_line n x ≡ true → post_lines n (x ∷ xs) ≡ [] → ⊥
    found n p q = let both : x ∷ post_lines n xs ≡ [] = ap (λ (b : Bool). cond b (x ∷ post_lines n xs) (post_lines n xs)) (sym p) ∙ q in absurd (cc)

    here : (e : written.Event) → is_known names e ≡ false → (n : List ℕ) × (list_any (bytes_eq n) names ≡ false) × (is_post_line n e ≡ true)
    here (of.Open tenant job ask) k = (tenant, k, (is_text-Decides tenant tenant).1 refl)
    here (of.Revise tenant job number) k = (tenant, k, (is_text-Decides tenant tenant).1 refl)
    here (of.Reask tenant job weight) k = (tenant, k, (is_text-Decides tenant tenant).1 refl)
    here (of.Close tenant job) k = (tenant, k, (is_text-Decides tenant tenant).1 refl)
    here (of.Balance volumes) k = absurd (cc)
    here (of.Start tenant job index worker) k = absurd (cc)
    here (of.Finish tenant job index worker outcome) k = absurd (cc)
    here (of.Exchange tenant job) k = absurd (cc)
    here (of.Leave tenant job) k = absurd (cc)
    here (of.Arrive tenant job) k = absurd (cc)

    by_known : (b : Bool) → is_known names x ≡ b → (b && list_all (is_known names) xs) ≡ false → (list_all (is_known names) xs ≡ false → (n : List ℕ) × (list_any (bytes_eq n) names ≡ false) × (post_lines n xs ≡ [] → ⊥)) → (n : List ℕ) × (list_any (bytes_eq n) names ≡ false) × (post_lines n (x ∷ xs) ≡ [] → ⊥)
    by_known true p q rest = let r = rest q in (r.0, r.1, λ none. r.2 (kept r.0 (is_post_line r.0 x) none))
    by_known false p q rest = let r = here x p in (r.0, r.1, found r.0 r.2)

pub unknown-not : (s : Scripted) (names : List (List ℕ)) (lines : List written.Event) → names ≡ tenants_of s.jobs → list_all (is_known names) lines ≡ false → HavePosts s lines → ⊥
unknown-not s names lines is e have =
    let r = stranger s names lines e in
    r.2 (have r.0 ∙ no-posts s r.0 (ap (list_any (bytes_eq r.0)) (sym is) ∙ r.1))

-- what a test says
pub test-false : {P : Type 0} → (P → ⊥) → IsTrue false ↔ P
test-false other = (λ t. absurd (cc), λ p. absurd (other p))

pub test-true : {P : Type 0} → P → IsTrue true ↔ P
test-true p = (λ t. p, λ q. refl)
