use Rattle.std.proofs.Common.{◌≡◌, ℕ, Bool, true, false, List, [], ◌∷◌, ◌++◌, reverse, Some, refl, sym, ap, ◌∙◌, subst, inl, inr, ◌⊎◌}
use Rattle.std.specs.Prelude.{◌==◌, ◌||◌}
use Rattle.std.specs.List.{list_any, list_all}
use Rattle.std.proofs.lemmas.Bool.{and_parts, or_cases, or_parts, or_left, or_right, eq-eqb, eqb-true, ne_eqb, both_ways}
use Rattle.mal_base.specs.Literals.{var_of, negated}
use Rattle.mal_base.specs.NumberedClause.{NumberedClause}
use Rattle.mal_base.specs.declared.trail_entry.TrailEntry.{TrailEntry}
use Rattle.spec_node.specs.Value.{is_true, is_false, has_value}
use Rattle.spec_node.proofs.TrailLemmas.{value-from_true}
use Rattle.spec_node.proofs.SettledLemmas.{var_of-negated}
use Rattle.spec_learn.specs.Analysis.{Walk, Aim, begun, vars_under, keeping, resolving, walked, top}
use Rattle.spec_learn.specs.Analysis.Aim.{Shortened}
use Rattle.spec_learn.proofs.HeartLemmas.{IsBy, AreGood}
use Rattle.spec_learn.proofs.BehindLemmas.{true-turned, sound-good, sound-consistent}
use Rattle.spec_learn.proofs.SoundParts.{AreDifferent}
use Rattle.spec_learn.specs.Shorter.{shorter_walk}
use Rattle.spec_learn.specs.ShorterLaws.{AreDistinct, ShorterHintsDiffer}
use Rattle.spec_learn.proofs.CaseLemmas.{after-by}
use Rattle.spec_learn.proofs.KeepLemmas.{sound-different}
use Rattle.spec_learn.proofs.WalkLemmas.{IsOfConflict, sound-conflict}
use Rattle.spec_learn.proofs.StayLemmas.{others-at}

-- no reason of these entries is among these numbers
abbrev AreFresh : List ℕ → List TrailEntry → Type 0
AreFresh ids [] = Unit {0}
AreFresh ids (e ∷ past) = ((r : ℕ) → e.reason ≡ Some r → list_any (λ y. y == r) ids ≡ false) × AreFresh ids past

-- one clause forces one entry only: the literal of the later one would have been false before the earlier one
one-entry : (clauses : List NumberedClause) (e x : TrailEntry) (past before : List TrailEntry) (r : ℕ) → has_value past (var_of e.lit) ≡ false → has_value past (var_of x.lit) ≡ true → ((v : ℕ) → has_value before v ≡ true → has_value past v ≡ true) → IsBy clauses past e r → IsBy clauses before x r → ⊥
one-entry clauses e x past before r free valued within a b = by_place (or_cases (e.lit == x.lit) (is_false before e.lit) (others-at before x.lit b.lits e.lit b.others own))
  where
    same : a.lits ≡ b.lits
    same = some-same (sym a.held ∙ b.held)
      where
        some-same : Some a.lits ≡ Some b.lits → a.lits ≡ b.lits
        some-same q = cc

    own : list_any (λ m. m == e.lit) b.lits ≡ true
    own = subst (λ (ls : List ℕ). list_any (λ (m : ℕ). m == e.lit) ls ≡ true) same a.own

    by_place : ((e.lit == x.lit) ≡ true) ⊎ (is_false before e.lit ≡ true) → ⊥
    by_place (inl q) = both_ways (has_value past (var_of e.lit)) free (subst (λ (l : ℕ). has_value past (var_of l) ≡ true) (sym (eqb-true e.lit x.lit q)) valued)
    by_place (inr q) = both_ways (has_value past (var_of e.lit)) free (within (var_of e.lit) (value-from_true before (negated e.lit) (var_of e.lit) (sym (var_of-negated e.lit)) q))

-- so the reason of an entry is none of the entries before
fresh-more : (clauses : List NumberedClause) (trail : List TrailEntry) (e : TrailEntry) (past : List TrailEntry) (r : ℕ) (ids : List ℕ) → has_value past (var_of e.lit) ≡ false → IsBy clauses past e r → (xs : List TrailEntry) → AreGood clauses trail xs → ((v : ℕ) → has_value xs v ≡ true → has_value past v ≡ true) → AreFresh ids xs → AreFresh (r ∷ ids) xs
fresh-more clauses trail e past r ids free b [] g w f = tt
fresh-more clauses trail e past r ids free b (x ∷ xs) g w f = ((λ y q. by_same y q (r == y) refl), fresh-more clauses trail e past r ids free b xs g.1 (λ v q. w v (or_right _ _ q)) f.1)
  where
    by_same : (y : ℕ) → x.reason ≡ Some y → (t : Bool) → (r == y) ≡ t → (t || list_any (λ (z : ℕ). z == y) ids) ≡ false
    by_same y q false k = f.0 y q
    by_same y q true k = absurd (one-entry clauses e x past xs r free (w (var_of x.lit) (or_left _ _ (eq-eqb (var_of x.lit) (var_of x.lit) refl))) (λ v m. w v (or_right _ _ m)) b (subst (IsBy clauses xs x) (sym (eqb-true r y k)) (g.0.by y q)))

pub walked-distinct : (aim : Aim) (clauses : List NumberedClause) (trail past : List TrailEntry) (w : Walk) → AreGood clauses trail past → AreDifferent past → AreFresh w.hints past → AreDistinct w.hints → AreDistinct (walked aim clauses past w).hints
walked-distinct aim clauses trail [] w g d f h = h
walked-distinct aim clauses trail (e ∷ past) w g d f h = after-by (λ v. AreDistinct (walked aim clauses past v).hints) aim clauses e past w (record {
  unseen = λ s. walked-distinct aim clauses trail past w g.1 d.1 f.1 h;
  stays = λ s o. walked-distinct aim clauses trail past (keeping e w) g.1 d.1 f.1 h;
  goes = λ s r q k. walked-distinct aim clauses trail past (resolving clauses r w) g.1 d.1 (fresh-more clauses trail e past r w.hints d.0 (g.0.by r q) past g.1 (λ v m. m) f.1) (f.0 r q, h);
})

-- the conflict forces no entry: its literals are false
walked-not : (aim : Aim) (clauses : List NumberedClause) (trail past : List TrailEntry) (id : ℕ) (w : Walk) → ((xs : List TrailEntry) (e : TrailEntry) (b : IsBy clauses xs e id) → is_true trail e.lit ≡ true → ⊥) → AreGood clauses trail past → list_any (λ y. y == id) w.hints ≡ false → list_any (λ y. y == id) (walked aim clauses past w).hints ≡ false
walked-not aim clauses trail [] id w n g h = h
walked-not aim clauses trail (e ∷ past) id w n g h = after-by (λ v. list_any (λ y. y == id) (walked aim clauses past v).hints ≡ false) aim clauses e past w (record {
  unseen = λ s. walked-not aim clauses trail past id w n g.1 h;
  stays = λ s o. walked-not aim clauses trail past id (keeping e w) n g.1 h;
  goes = λ s r q k. walked-not aim clauses trail past id (resolving clauses r w) n g.1 (ap (λ (b : Bool). b || list_any (λ y. y == id) w.hints) (ne_eqb r id (λ m. n past e (subst (IsBy clauses past e) m (g.0.by r q)) g.0.true_lit)) ∙ h);
})

push-distinct : (xs : List ℕ) (id : ℕ) → AreDistinct xs → list_any (λ y. y == id) xs ≡ false → AreDistinct (xs ++ id ∷ [])
push-distinct [] id h k = (refl, tt)
push-distinct (x ∷ xs) id h k =
    let parts = or_parts (x == id) (list_any (λ y. y == id) xs) k in
    (later xs h.0 (ne_eqb id x (λ q. both_ways (x == id) parts.0 (eq-eqb x id (sym q)))), push-distinct xs id h.1 parts.1)
  where
    later : (ys : List ℕ) → list_any (λ y. y == x) ys ≡ false → (id == x) ≡ false → list_any (λ y. y == x) (ys ++ id ∷ []) ≡ false
    later [] a b = ap (λ (t : Bool). t || false) b
    later (y ∷ ys) a b = let ps = or_parts (y == x) (list_any (λ z. z == x) ys) a in ap (λ (t : Bool). t || list_any (λ z. z == x) (ys ++ id ∷ [])) ps.0 ∙ later ys ps.1 b

fresh-none : (past : List TrailEntry) → AreFresh [] past
fresh-none [] = tt
fresh-none (e ∷ past) = ((λ r q. refl), fresh-none past)

all-at : (f : ℕ → Bool) (lits : List ℕ) (x : ℕ) → list_all f lits ≡ true → list_any (λ m. m == x) lits ≡ true → f x ≡ true
all-at f [] x a h = absurd (cc)
all-at f (l ∷ ls) x a h = let parts = and_parts (f l) (list_all f ls) a in by_place (all-at f ls x parts.1) parts.0 (or_cases (l == x) (list_any (λ m. m == x) ls) h)
  where
    by_place : (list_any (λ (m : ℕ). m == x) ls ≡ true → f x ≡ true) → f l ≡ true → ((l == x) ≡ true) ⊎ (list_any (λ (m : ℕ). m == x) ls ≡ true) → f x ≡ true
    by_place g p (inl q) = subst (λ (y : ℕ). f y ≡ true) (eqb-true l x q) p
    by_place g p (inr q) = g q

pub shorter-hints : ShorterHintsDiffer
shorter-hints n id h q =
    let aim : Aim = Shortened (top (reverse n.trail)) n.clauses in
    let start : Walk = begun (vars_under n.clauses id) in
    let w : Walk = shorter_walk n.clauses (reverse n.trail) id in
    push-distinct w.hints id (walked-distinct aim n.clauses n.trail (reverse n.trail) start (sound-good n h) (sound-different n h) (fresh-none (reverse n.trail)) tt) (walked-not aim n.clauses n.trail (reverse n.trail) id start none (sound-good n h) refl)
  where
    k : IsOfConflict n id
    k = sound-conflict n id h q

    none : (xs : List TrailEntry) (e : TrailEntry) (b : IsBy n.clauses xs e id) → is_true n.trail e.lit ≡ true → ⊥
    none xs e b t =
        let same : b.lits ≡ k.lits = some-same b (sym b.held ∙ k.held) in
        let fell : is_false (reverse n.trail) e.lit ≡ true = all-at (is_false (reverse n.trail)) k.lits e.lit k.false_lits (subst (λ (ls : List ℕ). list_any (λ (m : ℕ). m == e.lit) ls ≡ true) same b.own) in
        sound-consistent n h e.lit t (sym (true-turned n.trail (negated e.lit)) ∙ fell)
      where
        some-same : (b : IsBy n.clauses xs e id) → Some b.lits ≡ Some k.lits → b.lits ≡ k.lits
        some-same b m = cc
