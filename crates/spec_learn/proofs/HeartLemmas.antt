use Rattle.std.proofs.Common.{◌≡◌, ℕ, Bool, true, false, cond, List, [], ◌∷◌, ◌++◌, map, Option, Some, None, refl, sym, ap, ◌∙◌, subst, inl, inr, ◌⊎◌}
use Rattle.std.specs.Prelude.{◌==◌, ◌||◌}
use Rattle.std.specs.List.{list_any, list_all}
use Rattle.std.specs.Option.{option_map_or}
use Rattle.std.proofs.lemmas.List.Folds.{list_any-append}
use Rattle.std.proofs.lemmas.Bool.{and_parts, and_from, or_cases, or_left, or_right, eq-eqb, eqb-true, false_from_ne_true}
use Rattle.mal_base.specs.Literals.{var_of, negated}
use Rattle.mal_base.specs.Clauses.{rises}
use Rattle.mal_base.specs.NumberedClause.{NumberedClause, lits_under}
use Rattle.mal_base.specs.declared.trail_entry.TrailEntry.{TrailEntry}
use Rattle.spec_node.specs.Value.{is_true, is_false}
use Rattle.spec_node.proofs.SettledLemmas.{var_of-negated}
use Rattle.spec_logic.specs.Derivation.{is_true as has_true, is_false as has_false, propagation, effect_of_lits}
use Rattle.spec_logic.specs.Derivation.Effect.{Passes, Makes, Conflicts}
use Rattle.spec_logic.specs.Derivation.Derivation.{Derived}
use Rattle.spec_learn.specs.Analysis.{Walk, Aim, has_var, vars_in, vars_under, begun, keeping, resolving, is_resolved, after_seen, after_entry, walked, put, clause_of}
use Rattle.spec_learn.specs.Learning.{holding}
use Rattle.spec_learn.proofs.LogicLemmas.{negated-negated, put-any, AreOthersFalse, IsConsistentList, reason-effect, conflict-effect}

-- a held clause forces an entry: its other literals are false before
pub record IsBy (clauses : List NumberedClause) (past : List TrailEntry) (e : TrailEntry) (r : ℕ) : Type 0 where
  pub lits : List ℕ
  pub held : lits_under r clauses ≡ Some lits
  pub rising : rises lits ≡ true
  pub own : list_any (λ l. l == e.lit) lits ≡ true
  pub others : list_all (λ l. (l == e.lit) || is_false past l) lits ≡ true

-- an entry is true on the trail, and its reason forces it
pub record IsGood (clauses : List NumberedClause) (trail past : List TrailEntry) (e : TrailEntry) : Type 0 where
  pub true_lit : is_true trail e.lit ≡ true
  pub by : (r : ℕ) → e.reason ≡ Some r → IsBy clauses past e r

abbrev pub AreGood : List NumberedClause → List TrailEntry → List TrailEntry → Type 0
AreGood clauses trail [] = Unit {0}
AreGood clauses trail (e ∷ past) = IsGood clauses trail past e × AreGood clauses trail past

-- no literal is true and false on a trail
abbrev pub IsConsistentTrail : List TrailEntry → Type 0
IsConsistentTrail trail = (l : ℕ) → is_true trail l ≡ true → is_false trail l ≡ true → ⊥

-- seen entries are among the true literals, and entries are
abbrev pub AreKnown : List ℕ → List ℕ → List TrailEntry → Type 0
AreKnown seen trues [] = Unit {0}
AreKnown seen trues (e ∷ past) = (has_var seen (var_of e.lit) ≡ true → has_true trues e.lit ≡ true) × AreKnown seen trues past

abbrev pub AreHad : List ℕ → List TrailEntry → Type 0
AreHad trues [] = Unit {0}
AreHad trues (e ∷ es) = (has_true trues e.lit ≡ true) × AreHad trues es

pub record Knows (trail past : List TrailEntry) (w : Walk) (trues : List ℕ) : Type 0 where
  pub within : (l : ℕ) → has_true trues l ≡ true → is_true trail l ≡ true
  pub seen : AreKnown w.seen trues past
  pub kept : AreHad trues w.kept

-- from true literals that a walk knows its hints derive the line
abbrev pub IsReady : List NumberedClause → List TrailEntry → ℕ → List TrailEntry → Walk → Type 0
IsReady clauses trail id past w = (trues : List ℕ) → Knows trail past w trues → propagation (holding clauses) trues (w.hints ++ id ∷ []) ≡ Derived

known-fewer : (seen more trues : List ℕ) (past : List TrailEntry) → ((v : ℕ) → has_var seen v ≡ true → has_var more v ≡ true) → AreKnown more trues past → AreKnown seen trues past
known-fewer seen more trues [] f h = tt
known-fewer seen more trues (e ∷ past) f h = ((λ k. h.0 (f (var_of e.lit) k)), known-fewer seen more trues past f h.1)

known-one : (seen trues : List ℕ) (x : ℕ) (past : List TrailEntry) → AreKnown seen trues past → AreKnown seen (x ∷ trues) past
known-one seen trues x [] h = tt
known-one seen trues x (e ∷ past) h = ((λ k. or_right _ _ (h.0 k)), known-one seen trues x past h.1)

had-more : (trues more : List ℕ) (es : List TrailEntry) → ((l : ℕ) → has_true trues l ≡ true → has_true more l ≡ true) → AreHad trues es → AreHad more es
had-more trues more [] f h = tt
had-more trues more (e ∷ es) f h = (f e.lit h.0, had-more trues more es f h.1)

-- a literal false before, whose variable is seen, is false
known-false : (seen trues : List ℕ) (past : List TrailEntry) (m : ℕ) → AreKnown seen trues past → is_false past m ≡ true → has_var seen (var_of m) ≡ true → has_false trues m ≡ true
known-false seen trues [] m h f s = absurd (cc)
known-false seen trues (e ∷ past) m h f s = by_place (λ k. known-false seen trues past m h.1 k s) (or_cases (e.lit == negated m) (is_true past (negated m)) f)
  where
    by_place : (is_true past (negated m) ≡ true → has_false trues m ≡ true) → ((e.lit == negated m) ≡ true) ⊎ (is_true past (negated m) ≡ true) → has_false trues m ≡ true
    by_place g (inl k) =
        let same : e.lit ≡ negated m = eqb-true e.lit (negated m) k in
        let var : var_of e.lit ≡ var_of m = ap var_of same ∙ var_of-negated m in
        subst (λ (x : ℕ). has_true trues x ≡ true) same (h.0 (subst (λ (v : ℕ). has_var seen v ≡ true) (sym var) s))
    by_place g (inr k) = g k

others-known : (seen trues : List ℕ) (past : List TrailEntry) (x : ℕ) (lits : List ℕ) → AreKnown seen trues past → list_all (λ m. has_var seen (var_of m)) lits ≡ true → list_all (λ l. (l == x) || is_false past l) lits ≡ true → AreOthersFalse trues x lits
others-known seen trues past x [] h s o = refl
others-known seen trues past x (l ∷ ls) h s o =
    let parts = and_parts ((l == x) || is_false past l) (list_all (λ m. (m == x) || is_false past m) ls) o in
    let sees = and_parts (has_var seen (var_of l)) (list_all (λ m. has_var seen (var_of m)) ls) s in
    and_from _ _ (by_place (or_cases (l == x) (is_false past l) parts.0) sees.0) (others-known seen trues past x ls h sees.1 parts.1)
  where
    by_place : ((l == x) ≡ true) ⊎ (is_false past l ≡ true) → has_var seen (var_of l) ≡ true → ((l == x) || has_false trues l) ≡ true
    by_place (inl k) m = or_left _ _ k
    by_place (inr k) m = or_right _ _ (known-false seen trues past l h k m)

all-known : (seen trues : List ℕ) (past : List TrailEntry) (lits : List ℕ) → AreKnown seen trues past → list_all (λ m. has_var seen (var_of m)) lits ≡ true → list_all (is_false past) lits ≡ true → list_all (has_false trues) lits ≡ true
all-known seen trues past [] h s o = refl
all-known seen trues past (l ∷ ls) h s o =
    let parts = and_parts (is_false past l) (list_all (is_false past) ls) o in
    let sees = and_parts (has_var seen (var_of l)) (list_all (λ m. has_var seen (var_of m)) ls) s in
    and_from _ _ (known-false seen trues past l h parts.0 sees.0) (all-known seen trues past ls h sees.1 parts.1)

-- a clause's variables are among those seen from it
pub seen-all : (lits seen : List ℕ) → ((v : ℕ) → has_var (vars_in lits) v ≡ true → has_var seen v ≡ true) → list_all (λ m. has_var seen (var_of m)) lits ≡ true
seen-all [] seen f = refl
seen-all (l ∷ ls) seen f = and_from _ _ (f (var_of l) (or_left _ _ (eq-eqb (var_of l) (var_of l) refl))) (seen-all ls seen (λ v k. f v (or_right _ _ k)))

consistent-list : (trail past : List TrailEntry) (w : Walk) (trues : List ℕ) → IsConsistentTrail trail → Knows trail past w trues → IsConsistentList trues
consistent-list trail past w trues c k l a b = c l (k.within l a) (k.within (negated l) b)

pub under-is : (clauses : List NumberedClause) (r : ℕ) (lits : List ℕ) → lits_under r clauses ≡ Some lits → vars_under clauses r ≡ vars_in lits
under-is clauses r lits q = ap (λ (o : Option (List ℕ)). option_map_or vars_in o []) q

-- one hint, where its effect is known
hint-makes : (clauses : List NumberedClause) (trues : List ℕ) (r x : ℕ) (rest : List ℕ) (lits : List ℕ) → lits_under r clauses ≡ Some lits → effect_of_lits trues lits ≡ Makes x → propagation (holding clauses) (x ∷ trues) rest ≡ Derived → propagation (holding clauses) trues (r ∷ rest) ≡ Derived
hint-makes clauses trues r x rest lits q e k = rw (q, e) k

hint-passes : (clauses : List NumberedClause) (trues : List ℕ) (r : ℕ) (rest : List ℕ) (lits : List ℕ) → lits_under r clauses ≡ Some lits → effect_of_lits trues lits ≡ Passes → propagation (holding clauses) trues rest ≡ Derived → propagation (holding clauses) trues (r ∷ rest) ≡ Derived
hint-passes clauses trues r rest lits q e k = rw (q, e) k

hint-ends : (clauses : List NumberedClause) (trues : List ℕ) (r : ℕ) (lits : List ℕ) → lits_under r clauses ≡ Some lits → effect_of_lits trues lits ≡ Conflicts → propagation (holding clauses) trues (r ∷ []) ≡ Derived
hint-ends clauses trues r lits q e = rw (q, e) refl

-- an entry that is passed over, kept, or resolved away
passed-ready : (clauses : List NumberedClause) (trail : List TrailEntry) (id : ℕ) (e : TrailEntry) (past : List TrailEntry) (w : Walk) → has_var w.seen (var_of e.lit) ≡ false → IsReady clauses trail id (e ∷ past) w → IsReady clauses trail id past w
passed-ready clauses trail id e past w unseen h trues k = h trues (record { within = k.within; seen = ((λ q. absurd (cc)), k.seen); kept = k.kept })

pub kept-ready : (clauses : List NumberedClause) (trail : List TrailEntry) (id : ℕ) (e : TrailEntry) (past : List TrailEntry) (w : Walk) → IsReady clauses trail id (e ∷ past) w → IsReady clauses trail id past (keeping e w)
kept-ready clauses trail id e past w h trues k = h trues (record { within = k.within; seen = ((λ q. k.kept.0), k.seen); kept = k.kept.1 })

resolved-ready : (clauses : List NumberedClause) (trail : List TrailEntry) (id r : ℕ) (e : TrailEntry) (past : List TrailEntry) (w : Walk) → IsConsistentTrail trail → is_true trail e.lit ≡ true → IsBy clauses past e r → IsReady clauses trail id (e ∷ past) w → IsReady clauses trail id past (resolving clauses r w)
resolved-ready clauses trail id r e past w c own b h trues k = by_effect (reason-effect trues e.lit b.lits cs b.rising others alive b.own)
  where
    cs : IsConsistentList trues
    cs = consistent-list trail past (resolving clauses r w) trues c k

    more : (v : ℕ) → has_var (vars_in b.lits) v ≡ true → has_var (vars_under clauses r ++ w.seen) v ≡ true
    more v q = list_any-append (λ x. v == x) (vars_under clauses r) w.seen ∙ or_left _ _ (ap (λ (vs : List ℕ). has_var vs v) (under-is clauses r b.lits b.held) ∙ q)

    fewer : (v : ℕ) → has_var w.seen v ≡ true → has_var (vars_under clauses r ++ w.seen) v ≡ true
    fewer v q = list_any-append (λ x. v == x) (vars_under clauses r) w.seen ∙ or_right _ _ q

    others : AreOthersFalse trues e.lit b.lits
    others = others-known (vars_under clauses r ++ w.seen) trues past e.lit b.lits k.seen (seen-all b.lits (vars_under clauses r ++ w.seen) more) b.others

    alive : has_false trues e.lit ≡ false
    alive = false_from_ne_true (has_false trues e.lit) (λ q. c e.lit own (k.within (negated e.lit) q))

    seen : AreKnown w.seen trues past
    seen = known-fewer w.seen (vars_under clauses r ++ w.seen) trues past fewer k.seen

    within : (l : ℕ) → has_true (e.lit ∷ trues) l ≡ true → is_true trail l ≡ true
    within l q = by_place (or_cases (e.lit == l) (has_true trues l) q)
      where
        by_place : ((e.lit == l) ≡ true) ⊎ (has_true trues l ≡ true) → is_true trail l ≡ true
        by_place (inl m) = subst (λ (x : ℕ). is_true trail x ≡ true) (eqb-true e.lit l m) own
        by_place (inr m) = k.within l m

    by_effect : (effect_of_lits trues b.lits ≡ Makes e.lit) ⊎ ((effect_of_lits trues b.lits ≡ Passes) × (has_true trues e.lit ≡ true)) → propagation (holding clauses) trues (r ∷ (w.hints ++ id ∷ [])) ≡ Derived
    by_effect (inl q) = hint-makes clauses trues r e.lit (w.hints ++ id ∷ []) b.lits b.held q (h (e.lit ∷ trues) (record { within = within; seen = ((λ s. or_left _ _ (eq-eqb e.lit e.lit refl)), known-one w.seen trues e.lit past seen); kept = had-more trues (e.lit ∷ trues) w.kept (λ l m. or_right _ _ m) k.kept }))
    by_effect (inr q) = hint-passes clauses trues r (w.hints ++ id ∷ []) b.lits b.held q.0 (h trues (record { within = k.within; seen = ((λ s. q.1), seen); kept = k.kept }))

ready-after : (aim : Aim) (clauses : List NumberedClause) (trail : List TrailEntry) (id : ℕ) (e : TrailEntry) (past : List TrailEntry) (w : Walk) → IsConsistentTrail trail → IsGood clauses trail past e → IsReady clauses trail id (e ∷ past) w → IsReady clauses trail id past (after_entry aim clauses e past w)
ready-after aim clauses trail id e past w c g h = by_seen (has_var w.seen (var_of e.lit)) refl
  where
    by_resolved : (r : ℕ) → e.reason ≡ Some r → (b : Bool) → IsReady clauses trail id past (cond b (resolving clauses r w) (keeping e w))
    by_resolved r q true = resolved-ready clauses trail id r e past w c g.true_lit (g.by r q) h
    by_resolved r q false = kept-ready clauses trail id e past w h

    by_reason : (o : Option ℕ) → e.reason ≡ o → IsReady clauses trail id past (option_map_or (λ r. cond (is_resolved aim e w.seen past) (resolving clauses r w) (keeping e w)) o (keeping e w))
    by_reason None q = kept-ready clauses trail id e past w h
    by_reason (Some r) q = by_resolved r q (is_resolved aim e w.seen past)

    by_seen : (b : Bool) → has_var w.seen (var_of e.lit) ≡ b → IsReady clauses trail id past (cond b (after_seen aim clauses e past w) w)
    by_seen true q = by_reason e.reason refl
    by_seen false q = passed-ready clauses trail id e past w q h

pub ready-walk : (aim : Aim) (clauses : List NumberedClause) (trail : List TrailEntry) (id : ℕ) (past : List TrailEntry) (w : Walk) → IsConsistentTrail trail → AreGood clauses trail past → IsReady clauses trail id past w → IsReady clauses trail id [] (walked aim clauses past w)
ready-walk aim clauses trail id [] w c g h = h
ready-walk aim clauses trail id (e ∷ past) w c g h = ready-walk aim clauses trail id past (after_entry aim clauses e past w) c g.1 (ready-after aim clauses trail id e past w c g.0 h)

-- before the first resolution
pub ready-begun : (clauses : List NumberedClause) (trail past : List TrailEntry) (id : ℕ) (lits : List ℕ) → IsConsistentTrail trail → lits_under id clauses ≡ Some lits → list_all (is_false past) lits ≡ true → IsReady clauses trail id past (begun (vars_under clauses id))
ready-begun clauses trail past id lits c q f trues k =
    let sees : list_all (λ m. has_var (vars_under clauses id) (var_of m)) lits ≡ true = seen-all lits (vars_under clauses id) (λ v m. ap (λ (vs : List ℕ). has_var vs v) (under-is clauses id lits q) ∙ m) in
    hint-ends clauses trues id lits q (conflict-effect trues lits (consistent-list trail past (begun (vars_under clauses id)) trues c k) (all-known (vars_under clauses id) trues past lits k.seen sees f))

-- kept entries are true on the trail
abbrev pub AreTrueOn : List TrailEntry → List TrailEntry → Type 0
AreTrueOn trail [] = Unit {0}
AreTrueOn trail (e ∷ es) = (is_true trail e.lit ≡ true) × AreTrueOn trail es

pub kept-true : (aim : Aim) (clauses : List NumberedClause) (trail past : List TrailEntry) (w : Walk) → AreGood clauses trail past → AreTrueOn trail w.kept → AreTrueOn trail (walked aim clauses past w).kept
kept-true aim clauses trail [] w g h = h
kept-true aim clauses trail (e ∷ past) w g h = kept-true aim clauses trail past (after_entry aim clauses e past w) g.1 (by_seen (has_var w.seen (var_of e.lit)))
  where
    by_resolved : (r : ℕ) (b : Bool) → AreTrueOn trail (cond b (resolving clauses r w) (keeping e w)).kept
    by_resolved r true = h
    by_resolved r false = (g.0.true_lit, h)

    by_reason : (o : Option ℕ) → AreTrueOn trail (option_map_or (λ r. cond (is_resolved aim e w.seen past) (resolving clauses r w) (keeping e w)) o (keeping e w)).kept
    by_reason None = (g.0.true_lit, h)
    by_reason (Some r) = by_resolved r (is_resolved aim e w.seen past)

    by_seen : (b : Bool) → AreTrueOn trail (cond b (after_seen aim clauses e past w) w).kept
    by_seen true = by_reason e.reason
    by_seen false = h

negations-any : (l : ℕ) (ls : List ℕ) → has_true (map negated ls) l ≡ list_any (λ m. negated m == l) ls
negations-any l [] = refl
negations-any l (m ∷ ms) = ap (λ (b : Bool). (negated m == l) || b) (negations-any l ms)

-- the negations of a clause, one of which was put
put-has : (x l : ℕ) (ls : List ℕ) → has_true (map negated (put x ls)) l ≡ ((negated x == l) || has_true (map negated ls) l)
put-has x l ls = negations-any l (put x ls) ∙ put-any (λ (m : ℕ). negated m == l) x ls ∙ ap (λ (b : Bool). (negated x == l) || b) (sym (negations-any l ls))

pub clause-within : (trail es : List TrailEntry) → AreTrueOn trail es → (l : ℕ) → has_true (map negated (clause_of es)) l ≡ true → is_true trail l ≡ true
clause-within trail [] h l q = absurd (cc)
clause-within trail (e ∷ es) h l q = by_place (clause-within trail es h.1 l) (or_cases (negated (negated e.lit) == l) (has_true (map negated (clause_of es)) l) (sym (put-has (negated e.lit) l (clause_of es)) ∙ q))
  where
    by_place : (has_true (map negated (clause_of es)) l ≡ true → is_true trail l ≡ true) → ((negated (negated e.lit) == l) ≡ true) ⊎ (has_true (map negated (clause_of es)) l ≡ true) → is_true trail l ≡ true
    by_place f (inl k) = subst (λ (x : ℕ). is_true trail x ≡ true) (sym (negated-negated e.lit) ∙ eqb-true (negated (negated e.lit)) l k) h.0
    by_place f (inr k) = f k

pub clause-has : (es : List TrailEntry) → AreHad (map negated (clause_of es)) es
clause-has [] = tt
clause-has (e ∷ es) = (put-has (negated e.lit) e.lit (clause_of es) ∙ or_left _ _ (eq-eqb (negated (negated e.lit)) e.lit (negated-negated e.lit)), had-more (map negated (clause_of es)) (map negated (put (negated e.lit) (clause_of es))) es (λ l q. put-has (negated e.lit) l (clause_of es) ∙ or_right _ _ q) (clause-has es))
