-- A trail on which entries get other reasons: what speaks of literals and levels alone stays.
use Rattle.std.proofs.Common.{◌≡◌, ℕ, zero, suc, max, Bool, true, false, cond, not, List, [], ◌∷◌, ◌++◌, length, map, take, slice_get, find, count_by, Option, Some, refl, ap, ◌∙◌, subst}
use Rattle.std.specs.Prelude.{◌==◌, ◌||◌, ◌-◌, filter}
use Rattle.std.specs.Option.{option_map_or}
use Rattle.std.proofs.lemmas.List.{map-append, length-map, take-map}
use Rattle.mal_base.specs.Literals.{var_of, negated}
use Rattle.mal_base.specs.NumberedClause.{NumberedClause}
use Rattle.mal_base.specs.declared.trail_entry.TrailEntry.{TrailEntry}
use Rattle.spec_node.specs.Value.{is_true, is_false, has_value, level_of, open_count, left_literal}
use Rattle.spec_node.specs.Batch.{batch, is_in_batch, before_last}
use Rattle.spec_node.specs.Sound.{EachAfter, left_is_true, AreSettled, level_in, greatest_level}
use mathlib.Core.Path.{fun_ext}

-- a change of entries that keeps literals and levels
pub record IsKeeping (f : TrailEntry → TrailEntry) : Type 0 where
  pub lit : (e : TrailEntry) → (f e).lit ≡ e.lit
  pub level : (e : TrailEntry) → (f e).level ≡ e.level

pub true-kept : (f : TrailEntry → TrailEntry) (k : IsKeeping f) (t : List TrailEntry) (l : ℕ) → is_true (map f t) l ≡ is_true t l
true-kept f k [] l = refl
true-kept f k (e ∷ t) l = rw (k.lit e) (ap (λ (b : Bool). (e.lit == l) || b) (true-kept f k t l))

pub value-kept : (f : TrailEntry → TrailEntry) (k : IsKeeping f) (t : List TrailEntry) (v : ℕ) → has_value (map f t) v ≡ has_value t v
value-kept f k [] v = refl
value-kept f k (e ∷ t) v = rw (k.lit e) (ap (λ (b : Bool). (v == var_of e.lit) || b) (value-kept f k t v))

pub level_in-kept : (f : TrailEntry → TrailEntry) (k : IsKeeping f) (t : List TrailEntry) (v : ℕ) → level_in (map f t) v ≡ level_in t v
level_in-kept f k [] v = refl
level_in-kept f k (e ∷ t) v = ap (λ (x : ℕ). level_by (v == var_of x) (f e) (map f t)) (k.lit e) ∙ by_here (level_in-kept f k t v) (v == var_of e.lit)
  where
    level_by : Bool → TrailEntry → List TrailEntry → ℕ
    level_by b x xs = option_map_or (λ (y : TrailEntry). y.level) (cond {A = Option TrailEntry} b (Some x) (find (λ (y : TrailEntry). v == var_of y.lit) xs)) 0

    by_here : level_in (map f t) v ≡ level_in t v → (b : Bool) → level_by b (f e) (map f t) ≡ level_by b e t
    by_here g true = k.level e
    by_here g false = g

pub greatest-kept : (f : TrailEntry → TrailEntry) (k : IsKeeping f) (t : List TrailEntry) (lits : List ℕ) → greatest_level (map f t) lits ≡ greatest_level t lits
greatest-kept f k t [] = refl
greatest-kept f k t (l ∷ ls) = rw (level_in-kept f k t (var_of l)) (ap (max (level_in t (var_of l))) (greatest-kept f k t ls))

get-kept : (f : TrailEntry → TrailEntry) (k : IsKeeping f) (t : List TrailEntry) (i : ℕ) → option_map_or (λ (x : TrailEntry). x.level) (slice_get (map f t) i) 0 ≡ option_map_or (λ (x : TrailEntry). x.level) (slice_get t i) 0
get-kept f k [] i = refl
get-kept f k (e ∷ t) zero = k.level e
get-kept f k (e ∷ t) (suc i) = get-kept f k t i

pub level-kept : (f : TrailEntry → TrailEntry) (k : IsKeeping f) (t : List TrailEntry) → level_of (map f t) ≡ level_of t
level-kept f k t = rw (length-map t f) (get-kept f k t (length t - 1))

pub false-kept : (f : TrailEntry → TrailEntry) (k : IsKeeping f) (t : List TrailEntry) → is_false (map f t) ≡ is_false t
false-kept f k t = fun_ext (λ l. true-kept f k t (negated l))

left-kept : (f : TrailEntry → TrailEntry) (k : IsKeeping f) (prefix t : List TrailEntry) → left_is_true (map f prefix) (map f t) ≡ left_is_true prefix t
left-kept f k prefix t = fun_ext (λ c. ap (λ (o : ℕ → Bool). option_map_or (is_true (map f t)) (find (λ l. not (o l)) c.lits) false) (false-kept f k prefix) ∙ ap (λ (o : ℕ → Bool). option_map_or o (left_literal prefix c.lits) false) (fun_ext (λ l. true-kept f k t l)))

batch-kept : (f : TrailEntry → TrailEntry) (k : IsKeeping f) (prefix : List TrailEntry) (cs : List NumberedClause) → batch (map f prefix) cs ≡ batch prefix cs
batch-kept f k prefix cs = ap (λ (g : NumberedClause → Bool). filter g cs) (fun_ext in_kept)
  where
    in_kept : (c : NumberedClause) → is_in_batch (map f prefix) c ≡ is_in_batch prefix c
    in_kept c =
        let opened : (t : List TrailEntry) → open_count (map f t) c.lits ≡ open_count t c.lits = (λ t. ap (λ (o : ℕ → Bool). count_by (λ l. not (o l)) c.lits) (false-kept f k t)) in
        rw (length-map prefix f) (rw (take-map f (length prefix - 1) prefix) (rw (opened prefix) (rw (opened (before_last prefix)) refl)))

pub settled-kept : (f : TrailEntry → TrailEntry) (k : IsKeeping f) (below : ℕ) (t : List TrailEntry) (cs : List NumberedClause) → AreSettled below t cs → AreSettled below (map f t) cs
settled-kept f k below t cs h q l = rw (take-map f q t) (rw (left-kept f k (take q t) t) (rw (batch-kept f k (take q t) cs) (h q l)))

-- a property of each entry, after the change
pub each-kept : (f : TrailEntry → TrailEntry) (P Q : List TrailEntry → TrailEntry → Type 0) → ((b : List TrailEntry) (e : TrailEntry) → P b e → Q (map f b) (f e)) → (es before : List TrailEntry) → EachAfter P before es → EachAfter Q (map f before) (map f es)
each-kept f P Q g [] before h = tt
each-kept f P Q g (e ∷ es) before h = (g before e h.0, subst (λ (b : List TrailEntry). EachAfter Q b (map f es)) (map-append f before (e ∷ [])) (each-kept f P Q g es (before ++ e ∷ []) h.1))
