-- The parts of a run, one after the other.
use Rattle.std.proofs.Common.{◌≡◌, ℕ, zero, suc, ◌+◌, ◌<◌, ◌≤◌, Bool, true, false, cond, List, [], ◌∷◌, ◌++◌, length, map, min, take, get_or, bytes_eq, Option, Some, None, refl, sym, ◌∙◌, ap, subst, append_assoc, append-nil, arith}
use Rattle.std.specs.List.{All, list_any}
use Rattle.std.specs.Option.{option_map}
use Rattle.std.proofs.lemmas.List.{map-append, take_all}
use Rattle.std.proofs.lemmas.List.Elements.{All-append, All-cons, All-nil}
use Rattle.std.proofs.lemmas.List.Sums.{fold_push}
use Rattle.std.proofs.lemmas.Option.{slice_get-get_or}
use Rattle.mal_pool.specs.Parts.{AreParts, ArePosters, Fits, demand_of, tenant_at, workers_for}
use Rattle.mal_pool.specs.declared.role.Part.{Part}
use Rattle.mal_pool.specs.declared.role.Part.TheVariants as parts
use Rattle.spec_node.specs.Load.{counted}
use Rattle.spec_run.proofs.PostingLemmas.{take-one}
use Rattle.spec_script.specs.Formed.{tenants_of, with_name}
use Rattle.spec_script.specs.Script.{ScriptedJob}

-- the posters of the tenants of these names
pub record AreDrawn (js : List ScriptedJob) (names : List (List ℕ)) (posters : List Part) : Type 0 where
  pub places : List ℕ
  pub are : posters ≡ map parts.Poster places
  pub tenants : map (tenant_at js) places ≡ map Some names

pub none-drawn : (js : List ScriptedJob) → AreDrawn js [] []
none-drawn js = record { places = []; are = refl; tenants = refl }

-- the names of one job more
names-more : (js : List ScriptedJob) (i : ℕ) (j : ScriptedJob) (names : List (List ℕ)) → names ≡ tenants_of (take i js) → i < length js → j ≡ get_or js i j → with_name names j.tenant ≡ tenants_of (take (i + 1) js)
names-more js i j names is low read =
    ap (λ (ns : List (List ℕ)). with_name ns j.tenant) is
    ∙ (sym (fold_push (λ (ns : List (List ℕ)) (k : ScriptedJob). with_name ns k.tenant) [] (take i js) j) ∙ ap tenants_of (sym (take-one js i j low read)))

-- a job of a tenant whose name is there
pub names-same : (js : List ScriptedJob) (i : ℕ) (j : ScriptedJob) (names : List (List ℕ)) → names ≡ tenants_of (take i js) → i < length js → j ≡ get_or js i j → list_any (bytes_eq j.tenant) names ≡ true → names ≡ tenants_of (take (i + 1) js)
names-same js i j names is low read there = sym (ap (λ (b : Bool). cond b names (names ++ j.tenant ∷ [])) there) ∙ names-more js i j names is low read

-- or is not
pub names-new : (js : List ScriptedJob) (i : ℕ) (j : ScriptedJob) (names after : List (List ℕ)) → names ≡ tenants_of (take i js) → i < length js → j ≡ get_or js i j → list_any (bytes_eq j.tenant) names ≡ false → after ≡ names ++ j.tenant ∷ [] → after ≡ tenants_of (take (i + 1) js)
names-new js i j names after is low read new more = more ∙ (sym (ap (λ (b : Bool). cond b names (names ++ j.tenant ∷ [])) new) ∙ names-more js i j names is low read)

pub drawn-more : (js : List ScriptedJob) (i : ℕ) (j : ScriptedJob) (names after : List (List ℕ)) (before now : List Part) → AreDrawn js names before → i < length js → j ≡ get_or js i j → after ≡ names ++ j.tenant ∷ [] → now ≡ before ++ parts.Poster i ∷ [] → AreDrawn js after now
drawn-more js i j names after before now d low read named grown = record {
  places = d.places ++ i ∷ [];
  are = grown ∙ (ap (λ (ps : List Part). ps ++ parts.Poster i ∷ []) d.are ∙ sym (map-append parts.Poster d.places (i ∷ [])));
  tenants =
      map-append (tenant_at js) d.places (i ∷ [])
      ∙ (ap (λ (ts : List (Option (List ℕ))). ts ++ tenant_at js i ∷ []) d.tenants
      ∙ (ap (λ (t : Option (List ℕ)). map Some names ++ t ∷ []) here
      ∙ (sym (map-append Some names (j.tenant ∷ [])) ∙ ap (map Some) (sym named))));
}
  where
    here : tenant_at js i ≡ Some j.tenant
    here = ap (option_map (λ (k : ScriptedJob). k.tenant)) (slice_get-get_or js i j low ∙ ap Some (sym read))

pub drawn-all : (js : List ScriptedJob) (i : ℕ) (names : List (List ℕ)) (posters : List Part) → AreDrawn js names posters → names ≡ tenants_of (take i js) → length js ≤ i → ArePosters js posters
drawn-all js i names posters d is all = record {
  places = d.places;
  are = d.are;
  tenants = d.tenants ∙ ap (map Some) (is ∙ ap tenants_of (take_all i js all));
}

-- one worker more
counted-more : (first n : ℕ) → counted first (suc n) ≡ counted first n ++ (first + n) ∷ []
counted-more first zero = ap (λ (x : ℕ). x ∷ []) (omega arith)
counted-more first (suc n) = ap (λ (xs : List ℕ). first ∷ xs) (counted-more (first + 1) n ∙ ap (λ (x : ℕ). counted (first + 1) n ++ x ∷ []) (omega arith))

pub none-counted : (posters : List Part) → posters ≡ posters ++ map parts.Worker (counted 1 0)
none-counted posters = sym (append-nil posters)

pub workers-more : (posters before now : List Part) (n number : ℕ) → before ≡ posters ++ map parts.Worker (counted 1 n) → number ≡ n + 1 → now ≡ before ++ parts.Worker number ∷ [] → now ≡ posters ++ map parts.Worker (counted 1 (n + 1))
workers-more posters before now n number was is grown =
    grown ∙ (ap (λ (ps : List Part). ps ++ parts.Worker number ∷ []) was
    ∙ (append_assoc posters (map parts.Worker (counted 1 n)) (parts.Worker number ∷ [])
    ∙ ap (λ (ps : List Part). posters ++ ps) (ap (λ (x : ℕ). map parts.Worker (counted 1 n) ++ parts.Worker x ∷ []) next
    ∙ (sym (map-append parts.Worker (counted 1 n) ((1 + n) ∷ [])) ∙ ap (map parts.Worker) (sym (counted-more 1 n) ∙ ap (counted 1) up)))))
  where
    next : number ≡ 1 + n
    next = omega (arith, is)

    up : suc n ≡ n + 1
    up = omega arith

-- the parts of a run fit it
posters-fit : (workers : ℕ) (js : List ScriptedJob) (places : List ℕ) (names : List (List ℕ)) → map (tenant_at js) places ≡ map Some names → All (Fits workers js) (map parts.Poster places)
posters-fit workers js [] names is = All-nil (Fits workers js)
posters-fit workers js (p ∷ ps) [] is = absurd (let no : length (map (tenant_at js) (p ∷ ps)) ≡ 0 = ap length is in omega (arith, no))
posters-fit workers js (p ∷ ps) (n ∷ ns) is = All-cons (Fits workers js) (parts.Poster p) (map parts.Poster ps) (within js p n (first is)) (posters-fit workers js ps ns (rest is))
  where
    first : tenant_at js p ∷ map (tenant_at js) ps ≡ Some n ∷ map Some ns → tenant_at js p ≡ Some n
    first e = cc

    rest : tenant_at js p ∷ map (tenant_at js) ps ≡ Some n ∷ map Some ns → map (tenant_at js) ps ≡ map Some ns
    rest e = cc

    within : (xs : List ScriptedJob) (i : ℕ) (m : List ℕ) → tenant_at xs i ≡ Some m → i < length xs
    within [] i m e = absurd (let no : None ≡ Some m = e in cc)
    within (x ∷ xs) zero m e = omega arith
    within (x ∷ xs) (suc i) m e = let low = within xs i m e in omega (arith, low)

workers-fit : (workers : ℕ) (js : List ScriptedJob) (first n : ℕ) → 1 ≤ first → first + n ≤ workers + 1 → All (Fits workers js) (map parts.Worker (counted first n))
workers-fit workers js first zero low high = All-nil (Fits workers js)
workers-fit workers js first (suc n) low high = All-cons (Fits workers js) (parts.Worker first) (map parts.Worker (counted (first + 1) n)) (low, omega (arith, high)) (workers-fit workers js (first + 1) n (omega arith) (omega (arith, high)))

pub parts_fit : (workers : ℕ) (js : List ScriptedJob) (all : List Part) → AreParts workers js all → All (Fits workers js) all
parts_fit workers js all (posters, are, is) =
    subst (All (Fits workers js)) (sym is)
    (All-append (Fits workers js) posters (workers_for workers js)
    (subst (All (Fits workers js)) (sym are.are) (posters-fit workers js are.places (tenants_of js) are.tenants))
    (workers-fit workers js 1 (min workers (demand_of js)) (omega arith) few))
  where
    few : 1 + min workers (demand_of js) ≤ workers + 1
    few = omega arith
