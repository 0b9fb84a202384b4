use Rattle.std.proofs.Common.{◌≡◌, ℕ, ◌+◌, ◌*◌, ◌/◌, ◌^◌, ◌<◌, ◌≤◌, max, Bool, true, false, cond, ◌&&◌, List, [], ◌∷◌, ◌++◌, length, take, drop, zero, suc, Some, None, Option, refl, sym, ap, ◌∙◌, subst, append-nil, arith}
use Rattle.std.specs.Prelude.{All, filter, nat_le, nat_lt}
use Rattle.std.specs.List.{list_all}
use Rattle.std.specs.List.Sorted.{IsPermutation}
use Rattle.std.specs.Option.{option_map_or}
use Rattle.std.proofs.lemmas.List.{take-append-drop, map-append}
use Rattle.std.proofs.lemmas.List.Elements.{All-nil, All-cons, All-head, All-tail, All-weaker, All-append, filter-append}
use Rattle.std.proofs.lemmas.List.Sorted.{IsPermutation-refl, IsPermutation-append, IsPermutation-append_comm}
use Rattle.std.proofs.lemmas.List.Folds.{list_all-append}
use Rattle.std.proofs.lemmas.Bool.{and_parts, leb-true, lt-ltb, le-ltb}
use Rattle.mal_base.specs.Literals.{var_of}
use Rattle.mal_base.specs.Clauses.{rises}
use Rattle.mal_base.specs.declared.trail_entry.TrailEntry.{TrailEntry}
use Rattle.mal_base.specs.Formulas.{is_within, is_clause_of, is_within_limits}
use Rattle.mal_revision.specs.Posted.{Posted, is_posted}
use Rattle.spec_logic.specs.Logic.{satisfies, satisfies_clause}
use Rattle.mal_base.specs.NumberedClause.{NumberedClause}
use Rattle.mal_base.specs.Limits.{limits}
use Rattle.mal_base.specs.declared.profile.Profile.{Profile}
use Rattle.spec_node.specs.State.{Node, fresh_with}
use Rattle.spec_node.specs.Cut.{kept, removed}
use Rattle.spec_node.specs.Load.{counted, rotated, new_order, numbered, is_derived, with_originals, added, loaded}
use Rattle.spec_node.specs.Sound.{EachAfter, IsPlaced, IsLevelled, IsClosed, own_level, IsLiteralOf, AreLiteralsOf, IsConsistent}
use Rattle.spec_node.specs.Laws.{formula_of, originals, has_variables, has_literals, LoadHolds, NumbersMeanSame}
use Rattle.spec_node.proofs.TrailLemmas.{each-front, each-weaker}
use Rattle.spec_node.proofs.BatchLemmas.{All-filtered, all-of}
use Rattle.spec_node.proofs.CutLemmas.{kept-cons, kept-front}

counted-append : (first m n : ℕ) → counted first (m + n) ≡ counted first m ++ counted (first + m) n
counted-append first zero n = ap (λ (k : ℕ). counted first k) (let s : 0 + n ≡ n = omega arith in s) ∙ ap (λ (k : ℕ). counted k n) (let s : first ≡ first + 0 = omega arith in s)
counted-append first (suc m) n =
    let s : suc m + n ≡ suc (m + n) = omega arith in
    let t : first + 1 + m ≡ first + suc m = omega arith in
    ap (λ (k : ℕ). counted first k) s ∙ ap (λ (xs : List ℕ). first ∷ xs) (counted-append (first + 1) m n ∙ ap (λ (k : ℕ). counted (first + 1) m ++ counted k n) t)

permutation-rotated : (k : ℕ) (xs : List ℕ) → IsPermutation xs (rotated k xs)
permutation-rotated k xs = subst (λ (ys : List ℕ). IsPermutation ys (drop k xs ++ take k xs)) (take-append-drop k xs) (IsPermutation-append_comm (take k xs) (drop k xs))

-- the order stays a permutation of the variables
loaded-order : (r : Posted) (n : Node) → IsPermutation (counted 1 n.variables) n.order → IsPermutation (counted 1 (max n.variables r.variables)) (n.order ++ new_order n.index n.variables (added r n))
loaded-order r n h =
    let k : ℕ = added r n in
    let sum : max n.variables r.variables ≡ n.variables + k = omega arith in
    let next : 1 + n.variables ≡ n.variables + 1 = omega arith in
    let all : counted 1 (max n.variables r.variables) ≡ counted 1 n.variables ++ counted (n.variables + 1) k = ap (λ (m : ℕ). counted 1 m) sum ∙ (counted-append 1 n.variables k ∙ ap (λ (m : ℕ). counted 1 n.variables ++ counted m k) next) in
    subst (λ (xs : List ℕ). IsPermutation xs (n.order ++ new_order n.index n.variables k)) (sym all) (IsPermutation-append (counted 1 n.variables) n.order (counted (n.variables + 1) k) (new_order n.index n.variables k) h (permutation-rotated (n.index * k / 64) (counted (n.variables + 1) k)))

-- literals of some variables are literals of more
pub literal-wider : (v w l : ℕ) → v ≤ w → IsLiteralOf v l → IsLiteralOf w l
literal-wider v w l b h = record { low = h.low; high = let a : var_of l ≤ v = h.high in omega arith }

pub literals-wider : (v w : ℕ) (lits : List ℕ) → v ≤ w → AreLiteralsOf v lits → AreLiteralsOf w lits
literals-wider v w lits b h = record { rising = h.rising; within = All-weaker (IsLiteralOf v) (IsLiteralOf w) (λ l k. literal-wider v w l b k) lits h.within }

literals-from_tests : (v : ℕ) (lits : List ℕ) → is_within v lits ≡ true → has_variables lits ≡ true → All (IsLiteralOf v) lits
literals-from_tests v [] w h = All-nil (IsLiteralOf v)
literals-from_tests v (l ∷ ls) w h =
    let a = and_parts (nat_le 1 (l / 2) && nat_le (l / 2) v) (is_within v ls) w in
    let b = and_parts (nat_le 1 (var_of l)) (has_variables ls) h in
    let c = and_parts (nat_le 1 (l / 2)) (nat_le (l / 2) v) a.0 in
    All-cons (IsLiteralOf v) l ls (record { low = leb-true 1 (var_of l) b.0; high = leb-true (l / 2) v c.1 }) (literals-from_tests v ls a.1 b.1)

-- what holds of each clause of a revision holds of those numbered
numbered-literals : (v first : ℕ) (cs : List (Option (List ℕ))) → list_all (is_clause_of v) cs ≡ true → list_all (λ c. option_map_or has_variables c true) cs ≡ true → All (λ c. AreLiteralsOf v c.lits) (numbered first cs)
numbered-literals v first [] p h = All-nil (λ c. AreLiteralsOf v c.lits)
numbered-literals v first (None ∷ cs) p h = numbered-literals v (first + 1) cs (and_parts (nat_le 1 v) (list_all (is_clause_of v) cs) p).1 h
numbered-literals v first (Some lits ∷ cs) p h =
    let a = and_parts (rises lits && is_within v lits) (list_all (is_clause_of v) cs) p in
    let b = and_parts (has_variables lits) (list_all (λ c. option_map_or has_variables c true) cs) h in
    let c = and_parts (rises lits) (is_within v lits) a.0 in
    All-cons (λ x. AreLiteralsOf v x.lits) (record { id = first; lits = lits }) (numbered (first + 1) cs) (record { rising = c.0; within = literals-from_tests v lits c.1 b.0 }) (numbered-literals v (first + 1) cs a.1 b.1)

-- what holds of the clauses held and of the new ones holds of all
pub All-with_originals : (P : NumberedClause → Type 0) (held new : List NumberedClause) → All P held → All P new → All P (with_originals held new)
All-with_originals P held new h k = All-append P (filter (λ c. nat_lt c.id (2 ^ 32)) held) (new ++ filter is_derived held) (All-weaker (λ c. P c × (nat_lt c.id (2 ^ 32) ≡ true)) P (λ c x. x.0) (filter (λ c. nat_lt c.id (2 ^ 32)) held) (All-filtered P (λ c. nat_lt c.id (2 ^ 32)) held h)) (All-append P new (filter is_derived held) k (All-weaker (λ c. P c × (is_derived c ≡ true)) P (λ c x. x.0) (filter is_derived held) (All-filtered P is_derived held h)))

-- on level 0 each entry is forced
pub kept-forced : (P : List TrailEntry → TrailEntry → Type 0) → ((b : List TrailEntry) (e : TrailEntry) (id : ℕ) → e.reason ≡ Some id → P b e) → (es before : List TrailEntry) → EachAfter IsLevelled before (kept 0 es) → EachAfter P before (kept 0 es)
kept-forced P f [] before h = tt
kept-forced P f (e ∷ es) before h = subst (λ (t : List TrailEntry). EachAfter P before t) (sym (kept-cons 0 e es)) (by_level (kept-forced P f es (before ++ e ∷ [])) (nat_le e.level 0) refl (subst (λ (t : List TrailEntry). EachAfter IsLevelled before t) (kept-cons 0 e es) h))
  where
    by_reason : (o : Option ℕ) → e.reason ≡ o → e.level ≡ own_level before o → e.level ≤ 0 → P before e
    by_reason None q l z = absurd (omega arith)
    by_reason (Some id) q l z = f before e id q

    by_level : (EachAfter IsLevelled (before ++ e ∷ []) (kept 0 es) → EachAfter P (before ++ e ∷ []) (kept 0 es)) → (b : Bool) → nat_le e.level 0 ≡ b → EachAfter IsLevelled before (cond b (e ∷ kept 0 es) []) → EachAfter P before (cond b (e ∷ kept 0 es) [])
    by_level g true q k = (by_reason e.reason refl k.0 (leb-true e.level 0 q), g k.1)
    by_level g false q k = tt

-- the parts of what is posted
pub record IsPostedOf (r : Posted) : Type 0 where
  pub variables : r.variables ≤ limits.variables
  pub clauses : list_all (is_clause_of r.variables) r.clauses ≡ true
  pub assumptions : AreLiteralsOf r.variables r.assumptions
  pub literals : list_all (λ c. option_map_or has_variables c true) r.clauses ≡ true

pub posted-parts : (r : Posted) → is_posted r ≡ true → has_literals r ≡ true → IsPostedOf r
posted-parts r p h =
    let a = and_parts (is_within_limits r.variables r.clauses && list_all (is_clause_of r.variables) r.clauses) (rises r.assumptions && is_within r.variables r.assumptions) p in
    let b = and_parts (is_within_limits r.variables r.clauses) (list_all (is_clause_of r.variables) r.clauses) a.0 in
    let c = and_parts (rises r.assumptions) (is_within r.variables r.assumptions) a.1 in
    let d = and_parts (list_all (λ c. option_map_or has_variables c true) r.clauses) (has_variables r.assumptions) h in
    record { variables = limit b.0; clauses = b.1; assumptions = record { rising = c.0; within = literals-from_tests r.variables r.assumptions c.1 d.1 }; literals = d.0 }
  where
    limit : is_within_limits r.variables r.clauses ≡ true → r.variables ≤ limits.variables
    limit q = leb-true r.variables limits.variables (and_parts (nat_le r.variables limits.variables) (nat_le (length r.clauses) limits.clauses) (and_parts _ _ q).0).0

-- loading keeps the search consistent
pub loaded-consistent : (r : Posted) (first : ℕ) (n : Node) → is_posted r ≡ true → has_literals r ≡ true → IsConsistent n → IsConsistent (loaded r first n)
loaded-consistent r first n p l h =
    let parts : IsPostedOf r = posted-parts r p l in
    let front : kept 0 n.trail ++ removed 0 n.trail ≡ n.trail = kept-front 0 n.trail in
    let levels : EachAfter IsLevelled [] (kept 0 n.trail) = each-front IsLevelled (kept 0 n.trail) (removed 0 n.trail) [] (rw front h.levels) in
    let more : ℕ = max n.variables r.variables in
    let clauses : List NumberedClause = with_originals n.clauses (numbered first r.clauses) in
    record {
      order = loaded-order r n h.order;
      clauses = All-with_originals (λ c. AreLiteralsOf more c.lits) n.clauses (numbered first r.clauses) (All-weaker (λ c. AreLiteralsOf n.variables c.lits) (λ c. AreLiteralsOf more c.lits) (λ c k. literals-wider n.variables more c.lits (omega arith) k) n.clauses h.clauses) (All-weaker (λ c. AreLiteralsOf r.variables c.lits) (λ c. AreLiteralsOf more c.lits) (λ c k. literals-wider r.variables more c.lits (omega arith) k) (numbered first r.clauses) (numbered-literals r.variables first r.clauses parts.clauses parts.literals));
      assumptions = literals-wider r.variables more r.assumptions (omega arith) parts.assumptions;
      placed = each-weaker (IsPlaced n.variables) (IsPlaced more) (λ b e k. record { low = k.low; high = let a : var_of e.lit ≤ n.variables = k.high in omega arith; free = k.free }) (kept 0 n.trail) [] (each-front (IsPlaced n.variables) (kept 0 n.trail) (removed 0 n.trail) [] (rw front h.placed));
      levels = levels;
      closed = kept-forced (IsClosed clauses) (λ b e id q t. absurd (cc)) n.trail [] levels;
      handled = omega arith;
      settled = λ e q k. absurd (omega arith);
    }

pub fresh-consistent : (i : ℕ) (profile : Profile) → IsConsistent (fresh_with i profile)
fresh-consistent i profile = record { order = IsPermutation-refl []; clauses = All-nil (λ c. AreLiteralsOf 0 c.lits); assumptions = record { rising = refl; within = All-nil (IsLiteralOf 0) }; placed = tt; levels = tt; closed = tt; handled = omega arith; settled = λ e q k. absurd (omega arith) }

-- what passes a test passes it again
pub filter-again : {X : Type 0} (test : X → Bool) (xs : List X) → All (λ x. test x ≡ true) xs → filter test xs ≡ xs
filter-again test [] h = refl
filter-again {X} test (x ∷ xs) h =
    let here : test x ≡ true = All-head (λ (y : X). test y ≡ true) x xs h in
    rw here (ap (λ (ys : List X). x ∷ ys) (filter-again test xs (All-tail (λ (y : X). test y ≡ true) x xs h)))

-- where nothing passes nothing is left
pub filter-none : {X : Type 0} (test : X → Bool) (xs : List X) → All (λ x. test x ≡ false) xs → filter test xs ≡ []
filter-none test [] h = refl
filter-none {X} test (x ∷ xs) h =
    let here : test x ≡ false = All-head (λ (y : X). test y ≡ false) x xs h in
    rw here (filter-none test xs (All-tail (λ (y : X). test y ≡ false) x xs h))

pub numbered-below : (bound first : ℕ) (cs : List (Option (List ℕ))) → first + length cs ≤ bound → All (λ c. c.id < bound) (numbered first cs)
numbered-below bound first [] b = All-nil (λ c. c.id < bound)
numbered-below bound first (None ∷ cs) b = numbered-below bound (first + 1) cs (omega arith)
numbered-below bound first (Some lits ∷ cs) b = All-cons (λ c. c.id < bound) (record { id = first; lits = lits }) (numbered (first + 1) cs) (omega arith) (numbered-below bound (first + 1) cs (omega arith))

abbrev is-original : NumberedClause → Bool
is-original c = nat_lt c.id (2 ^ 32)

derived-apart : (cs : List NumberedClause) → All (λ c. is-original c ≡ false) (filter is_derived cs)
derived-apart cs = All-weaker (λ c. (1 ≤ 1) × (is_derived c ≡ true)) (λ c. is-original c ≡ false) (λ c k. le-ltb c.id (2 ^ 32) (leb-true (2 ^ 32) c.id k.1)) (filter is_derived cs) (All-filtered (λ c. 1 ≤ 1) is_derived cs (all-of (λ c. 1 ≤ 1) (λ c. omega arith) cs))

originals-again : (cs : List NumberedClause) → originals (originals cs) ≡ originals cs
originals-again cs = filter-again is-original (originals cs) (All-weaker (λ c. (1 ≤ 1) × (is-original c ≡ true)) (λ c. is-original c ≡ true) (λ c k. k.1) (originals cs) (All-filtered (λ c. 1 ≤ 1) is-original cs (all-of (λ c. 1 ≤ 1) (λ c. omega arith) cs)))

originals-numbered : (first : ℕ) (cs : List (Option (List ℕ))) → first + length cs ≤ 2 ^ 32 → originals (numbered first cs) ≡ numbered first cs
originals-numbered first cs b = filter-again is-original (numbered first cs) (All-weaker (λ c. c.id < 2 ^ 32) (λ c. is-original c ≡ true) (λ c k. lt-ltb c.id (2 ^ 32) k) (numbered first cs) (numbered-below (2 ^ 32) first cs b))

originals-loaded : (r : Posted) (first : ℕ) (n : Node) → first + length r.clauses ≤ 2 ^ 32 → originals (loaded r first n).clauses ≡ originals n.clauses ++ numbered first r.clauses
originals-loaded r first n b =
    let new : List NumberedClause = numbered first r.clauses in
    let derived : List NumberedClause = filter is_derived n.clauses in
    filter-append is-original (originals n.clauses) (new ++ derived)
    ∙ (ap (λ (xs : List NumberedClause). xs ++ originals (new ++ derived)) (originals-again n.clauses)
    ∙ ap (λ (xs : List NumberedClause). originals n.clauses ++ xs) (filter-append is-original new derived
    ∙ (ap (λ (xs : List NumberedClause). originals new ++ xs) (filter-none is-original derived (derived-apart n.clauses))
    ∙ (append-nil (originals new) ∙ originals-numbered first r.clauses b))))

pub load-holds : LoadHolds
load-holds = record {
  originals = originals-loaded;
  assumptions = λ r first n. refl;
  verdict = λ r first n. refl;
  index = λ r first n. refl;
  profile = λ r first n. refl;
}

satisfies-numbered : (a : List Bool) (first : ℕ) (cs : List (Option (List ℕ))) → satisfies a (formula_of (numbered first cs)) ≡ satisfies a cs
satisfies-numbered a first [] = refl
satisfies-numbered a first (None ∷ cs) = satisfies-numbered a (first + 1) cs
satisfies-numbered a first (Some lits ∷ cs) = ap (λ (b : Bool). satisfies_clause a (Some lits) && b) (satisfies-numbered a (first + 1) cs)

pub numbers-mean_same : NumbersMeanSame
numbers-mean_same = record {
  by_number = satisfies-numbered;
  joined = λ a xs ys. ap (λ (cs : List (Option (List ℕ))). satisfies a cs) (map-append (λ (c : NumberedClause). Some c.lits) xs ys) ∙ list_all-append (satisfies_clause a) (formula_of xs) (formula_of ys);
}
