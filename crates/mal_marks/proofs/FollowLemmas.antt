-- Marks that are those of clauses held.
use Rattle.std.proofs.Common.{◌≡◌, ℕ, ◌+◌, ◌/◌, ◌^◌, ◌<◌, ◌≤◌, Bool, true, false, cond, not, List, [], ◌∷◌, length, map, take, filter, nat_lt, nat_le, nat_eq, refl, sym, ap, ◌∙◌, arith}
use Rattle.std.specs.Prelude.{find, Option, Some, None, ◌==◌, ◌&&◌}
use Rattle.std.specs.List.{list_any}
use Rattle.std.specs.Option.{option_map}
use Rattle.std.proofs.lemmas.List.{take-map, length-map}
use Rattle.std.proofs.lemmas.Bool.{leb-true, leb-false, ltb-true, eq-eqb, ne_eqb}
use Rattle.mal_base.specs.NumberedClause.{NumberedClause, lits_under}
use Rattle.spec_node.specs.Load.{is_derived}
use Rattle.spec_node.specs.Sound.{NumbersRise}
use Rattle.spec_node.specs.Adding.{with_clause, forgetting}
use Rattle.spec_learn.specs.Insertion.{put_by}
use Rattle.spec_guided.specs.State as guided
use Rattle.spec_guided.specs.Learning.{long_clause}
use Rattle.spec_guided.specs.Reducing as reducing
use Rattle.mal_marks.specs.declared.mark.Mark.{Mark}
use Rattle.mal_marks.specs.declared.choice.Candidate.{Candidate}
use Rattle.mal_marks.specs.Marked.{mark_under, MarksRise, guide_mark, guide_marks, with_mark, stays, resolved, resolved_at, is_counted, counted_in}
use Rattle.mal_marks.specs.Choosing.{may_go, candidate_of, precedes, by_activity, less_active_half, less_active}
use Rattle.mal_marks.specs.Laws.{Shape, shape_of, clause_shape, AreMarksOf, AreReasonsOn, gained}

abbrev shapes : List Mark → List Shape
shapes ms = map shape_of ms

abbrev clause_shapes : List NumberedClause → List Shape
clause_shapes cs = map clause_shape (filter is_derived cs)

-- one more
abbrev put_shape : Shape → List Shape → List Shape
put_shape s ss = put_by (λ (a b : Shape). nat_lt a.id b.id) s ss

shapes-mark : (m : Mark) (ms : List Mark) → shapes (with_mark m ms) ≡ put_shape (shape_of m) (shapes ms)
shapes-mark m [] = refl
shapes-mark m (x ∷ xs) = by_less (shapes-mark m xs) (nat_lt m.id x.id)
  where
    by_less : shapes (with_mark m xs) ≡ put_shape (shape_of m) (shapes xs) → (b : Bool) → shapes (cond b (m ∷ (x ∷ xs)) (x ∷ with_mark m xs)) ≡ cond b (shape_of m ∷ (shape_of x ∷ shapes xs)) (shape_of x ∷ put_shape (shape_of m) (shapes xs))
    by_less g true = refl
    by_less g false = ap (λ (ss : List Shape). shape_of x ∷ ss) g

shapes-clause : (c : NumberedClause) (ds : List NumberedClause) → is_derived c ≡ true → clause_shapes (with_clause c ds) ≡ put_shape (clause_shape c) (clause_shapes ds)
shapes-clause c [] h = rw h refl
shapes-clause c (d ∷ ds) h = by_less (shapes-clause c ds h) (nat_lt c.id d.id) refl (is_derived d) refl
  where
    by_less : clause_shapes (with_clause c ds) ≡ put_shape (clause_shape c) (clause_shapes ds) → (b : Bool) → nat_lt c.id d.id ≡ b → (x : Bool) → is_derived d ≡ x → clause_shapes (cond b (c ∷ (d ∷ ds)) (d ∷ with_clause c ds)) ≡ put_shape (clause_shape c) (map clause_shape (cond x (d ∷ filter is_derived ds) (filter is_derived ds)))
    by_less g true q true k = rw h (rw k (rw q refl))
    by_less g true q false k = let low : d.id < 2 ^ 32 = leb-false (2 ^ 32) d.id k in let high : 2 ^ 32 ≤ c.id = leb-true (2 ^ 32) c.id h in let less : c.id < d.id = ltb-true c.id d.id q in absurd (omega arith)
    by_less g false q true k = rw k (rw q (ap (λ (ss : List Shape). clause_shape d ∷ ss) g))
    by_less g false q false k = rw k g

pub insert-clauses : (m : Mark) (ms : List Mark) (c : NumberedClause) (cs : List NumberedClause) → shape_of m ≡ clause_shape c → is_derived c ≡ true → AreMarksOf cs ms → AreMarksOf (with_clause c cs) (with_mark m ms)
insert-clauses m ms c cs same d h = shapes-mark m ms ∙ (ap (λ (s : Shape). put_shape s (shapes ms)) same ∙ (ap (put_shape (clause_shape c)) h ∙ sym (shapes-clause c cs d)))

pub insert-guide : (m : Mark) (ms : List Mark) → guide_marks (with_mark m ms) ≡ guided.with_mark (guide_mark m) (guide_marks ms)
insert-guide m [] = refl
insert-guide m (x ∷ xs) = by_less (insert-guide m xs) (nat_lt m.id x.id)
  where
    by_less : guide_marks (with_mark m xs) ≡ guided.with_mark (guide_mark m) (guide_marks xs) → (b : Bool) → guide_marks (cond b (m ∷ (x ∷ xs)) (x ∷ with_mark m xs)) ≡ cond b (guide_mark m ∷ (guide_mark x ∷ guide_marks xs)) (guide_mark x ∷ guided.with_mark (guide_mark m) (guide_marks xs))
    by_less g true = refl
    by_less g false = ap (λ (gs : List guided.Mark). guide_mark x ∷ gs) g

-- fewer
abbrev shape_stays : List ℕ → Shape → Bool
shape_stays ids s = not (list_any (λ (i : ℕ). i == s.id) ids)

shapes-stay : (ids : List ℕ) (ms : List Mark) → shapes (filter (stays ids) ms) ≡ filter (shape_stays ids) (shapes ms)
shapes-stay ids [] = refl
shapes-stay ids (m ∷ ms) = by_test (shapes-stay ids ms) (stays ids m)
  where
    by_test : shapes (filter (stays ids) ms) ≡ filter (shape_stays ids) (shapes ms) → (b : Bool) → shapes (cond b (m ∷ filter (stays ids) ms) (filter (stays ids) ms)) ≡ cond b (shape_of m ∷ filter (shape_stays ids) (shapes ms)) (filter (shape_stays ids) (shapes ms))
    by_test g true = ap (λ (ss : List Shape). shape_of m ∷ ss) g
    by_test g false = g

shapes-forgetting : (ids : List ℕ) (cs : List NumberedClause) → clause_shapes (forgetting ids cs) ≡ filter (shape_stays ids) (clause_shapes cs)
shapes-forgetting ids [] = refl
shapes-forgetting ids (c ∷ cs) = by_test (shapes-forgetting ids cs) (shape_stays ids (clause_shape c)) refl (is_derived c) refl
  where
    by_test : clause_shapes (forgetting ids cs) ≡ filter (shape_stays ids) (clause_shapes cs) → (b : Bool) → shape_stays ids (clause_shape c) ≡ b → (x : Bool) → is_derived c ≡ x → clause_shapes (cond b (c ∷ forgetting ids cs) (forgetting ids cs)) ≡ filter (shape_stays ids) (map clause_shape (cond x (c ∷ filter is_derived cs) (filter is_derived cs)))
    by_test g true q true k = rw k (rw q (ap (λ (ss : List Shape). clause_shape c ∷ ss) g))
    by_test g true q false k = rw k g
    by_test g false q true k = rw q g
    by_test g false q false k = g

pub forget-clauses : (ids : List ℕ) (ms : List Mark) (cs : List NumberedClause) → AreMarksOf cs ms → AreMarksOf (forgetting ids cs) (filter (stays ids) ms)
forget-clauses ids ms cs h = shapes-stay ids ms ∙ (ap (filter (shape_stays ids)) h ∙ sym (shapes-forgetting ids cs))

pub forget-guide : (ids : List ℕ) (ms : List Mark) → guide_marks (filter (stays ids) ms) ≡ guided.unmarked ids (guide_marks ms)
forget-guide ids [] = refl
forget-guide ids (m ∷ ms) = by_test (forget-guide ids ms) (stays ids m)
  where
    by_test : guide_marks (filter (stays ids) ms) ≡ guided.unmarked ids (guide_marks ms) → (b : Bool) → guide_marks (cond b (m ∷ filter (stays ids) ms) (filter (stays ids) ms)) ≡ cond b (guide_mark m ∷ guided.unmarked ids (guide_marks ms)) (guided.unmarked ids (guide_marks ms))
    by_test g true = ap (λ (gs : List guided.Mark). guide_mark m ∷ gs) g
    by_test g false = g

-- after a conflict
resolved-shape : (id gain : ℕ) (is_worth : Bool) (ms : List Mark) → shapes (map (resolved_at id gain is_worth) ms) ≡ shapes ms
resolved-shape id gain is_worth [] = refl
resolved-shape id gain is_worth (m ∷ ms) = by_test (nat_eq m.id id) (resolved-shape id gain is_worth ms)
  where
    by_test : (b : Bool) → shapes (map (resolved_at id gain is_worth) ms) ≡ shapes ms → shape_of (cond b (resolved gain is_worth m) m) ∷ shapes (map (resolved_at id gain is_worth) ms) ≡ shape_of m ∷ shapes ms
    by_test true g = ap (λ (ss : List Shape). shape_of m ∷ ss) g
    by_test false g = ap (λ (ss : List Shape). shape_of m ∷ ss) g

pub resolve-clauses : (id gain : ℕ) (is_worth : Bool) (ms : List Mark) (cs : List NumberedClause) → AreMarksOf cs ms → AreMarksOf cs (map (resolved_at id gain is_worth) ms)
resolve-clauses id gain is_worth ms cs h = resolved-shape id gain is_worth ms ∙ h

pub resolve-guide : (id gain : ℕ) (is_worth : Bool) (ms : List Mark) → guide_marks (map (resolved_at id gain is_worth) ms) ≡ map (λ (m : guided.Mark). cond (nat_eq m.id id) (gained gain is_worth m) m) (guide_marks ms)
resolve-guide id gain is_worth [] = refl
resolve-guide id gain is_worth (m ∷ ms) = by_test (nat_eq m.id id) (resolve-guide id gain is_worth ms)
  where
    by_test : (b : Bool) → guide_marks (map (resolved_at id gain is_worth) ms) ≡ map (λ (n : guided.Mark). cond (nat_eq n.id id) (gained gain is_worth n) n) (guide_marks ms) → guide_mark (cond b (resolved gain is_worth m) m) ∷ guide_marks (map (resolved_at id gain is_worth) ms) ≡ cond b (gained gain is_worth (guide_mark m)) (guide_mark m) ∷ map (λ (n : guided.Mark). cond (nat_eq n.id id) (gained gain is_worth n) n) (guide_marks ms)
    by_test true g = ap (λ (gs : List guided.Mark). gained gain is_worth (guide_mark m) ∷ gs) g
    by_test false g = ap (λ (gs : List guided.Mark). guide_mark m ∷ gs) g

-- the mark that clauses and a guide have of a clause
abbrev noted : List guided.Mark → NumberedClause → Mark
noted gs c = record { id = c.id; is_kept = guided.is_kept gs c.id; is_long = nat_le long_clause (length c.lits); activity = guided.activity_under gs c.id }

-- a guide has of each mark what it tells
record IsNoted (gs : List guided.Mark) (m : Mark) : Type 0 where
  kept : guided.is_kept gs m.id ≡ m.is_kept
  activity : guided.activity_under gs m.id ≡ m.activity

abbrev AreNoted : List guided.Mark → List Mark → Type 0
AreNoted gs [] = Unit {0}
AreNoted gs (m ∷ ms) = IsNoted gs m × AreNoted gs ms

noted-behind : (n : Mark) (gs : List guided.Mark) (low : ℕ) (ms : List Mark) → MarksRise low ms → n.id < low → AreNoted gs ms → AreNoted (guide_mark n ∷ gs) ms
noted-behind n gs low [] r l h = tt
noted-behind n gs low (m ∷ ms) r l h =
    let other : nat_eq n.id m.id ≡ false = ne_eqb n.id m.id (λ e. omega (arith, r.0, l, e)) in
    (record { kept = rw other h.0.kept; activity = rw other h.0.activity }, noted-behind n gs (m.id + 1) ms r.1 (omega (arith, r.0, l)) h.1)

all-noted : (low : ℕ) (ms : List Mark) → MarksRise low ms → AreNoted (guide_marks ms) ms
all-noted low [] r = tt
all-noted low (m ∷ ms) r =
    let here : nat_eq m.id m.id ≡ true = eq-eqb m.id m.id refl in
    (record { kept = rw here refl; activity = rw here refl }, noted-behind m (guide_marks ms) (m.id + 1) ms r.1 (omega arith) (all-noted (m.id + 1) ms r.1))

cons-head : (s t : Shape) (ss ts : List Shape) → s ∷ ss ≡ t ∷ ts → s ≡ t
cons-head s t ss ts h = cc

cons-tail : (s t : Shape) (ss ts : List Shape) → s ∷ ss ≡ t ∷ ts → ss ≡ ts
cons-tail s t ss ts h = cc

nil-cons : (s : Shape) (ss : List Shape) → [] ≡ s ∷ ss → ⊥
nil-cons s ss h = cc

mark-same : (i j : ℕ) (k l x y : Bool) (a b : ℕ) → i ≡ j → k ≡ l → x ≡ y → a ≡ b → ◌≡◌ {A = Mark} (record { id = i; is_kept = k; is_long = x; activity = a }) (record { id = j; is_kept = l; is_long = y; activity = b })
mark-same i j k l x y a b p q r s = rw (p, q, r, s) refl

cons-same : (m n : Mark) (ms ns : List Mark) → m ≡ n → ms ≡ ns → m ∷ ms ≡ n ∷ ns
cons-same m n ms ns p q = rw (p, q) refl

marks-noted : (gs : List guided.Mark) (ms : List Mark) (cs : List NumberedClause) → AreNoted gs ms → shapes ms ≡ map clause_shape cs → ms ≡ map (noted gs) cs
marks-noted gs [] [] n h = refl
marks-noted gs [] (c ∷ cs) n h = absurd (nil-cons (clause_shape c) (map clause_shape cs) h)
marks-noted gs (m ∷ ms) [] n h = absurd (nil-cons (shape_of m) (shapes ms) (sym h))
marks-noted gs (m ∷ ms) (c ∷ cs) n h =
    let same : shape_of m ≡ clause_shape c = cons-head (shape_of m) (clause_shape c) (shapes ms) (map clause_shape cs) h in
    let rest : shapes ms ≡ map clause_shape cs = cons-tail (shape_of m) (clause_shape c) (shapes ms) (map clause_shape cs) h in
    let id : m.id ≡ c.id = ap (λ (s : Shape). s.id) same in
    let long : m.is_long ≡ nat_le long_clause (length c.lits) = ap (λ (s : Shape). s.is_long) same in
    cons-same m (noted gs c) ms (map (noted gs) cs) (mark-same m.id c.id m.is_kept (guided.is_kept gs c.id) m.is_long (nat_le long_clause (length c.lits)) m.activity (guided.activity_under gs c.id) id (sym n.0.kept ∙ ap (guided.is_kept gs) id) long (sym n.0.activity ∙ ap (guided.activity_under gs) id)) (marks-noted gs ms cs n.1 rest)

-- numbers of marks rise as those of the clauses do
clauses-lower : (low high : ℕ) (cs : List NumberedClause) → low ≤ high → NumbersRise high cs → NumbersRise low cs
clauses-lower low high [] l h = tt
clauses-lower low high (c ∷ cs) l h = (omega (arith, h.0), h.1)

derived-rise : (low : ℕ) (cs : List NumberedClause) → NumbersRise low cs → NumbersRise low (filter is_derived cs)
derived-rise low [] h = tt
derived-rise low (c ∷ cs) h = by_test (derived-rise (c.id + 1) cs h.1) (is_derived c)
  where
    by_test : NumbersRise (c.id + 1) (filter is_derived cs) → (b : Bool) → NumbersRise low (cond b (c ∷ filter is_derived cs) (filter is_derived cs))
    by_test k true = (h.0, k)
    by_test k false = clauses-lower low (c.id + 1) (filter is_derived cs) (omega (arith, h.0)) k

marks-rise : (low : ℕ) (ms : List Mark) (cs : List NumberedClause) → shapes ms ≡ map clause_shape cs → NumbersRise low cs → MarksRise low ms
marks-rise low [] cs h r = tt
marks-rise low (m ∷ ms) [] h r = absurd (nil-cons (shape_of m) (shapes ms) (sym h))
marks-rise low (m ∷ ms) (c ∷ cs) h r =
    let same : shape_of m ≡ clause_shape c = cons-head (shape_of m) (clause_shape c) (shapes ms) (map clause_shape cs) h in
    let rest : shapes ms ≡ map clause_shape cs = cons-tail (shape_of m) (clause_shape c) (shapes ms) (map clause_shape cs) h in
    let id : m.id ≡ c.id = ap (λ (s : Shape). s.id) same in
    (omega (arith, r.0, id), marks-rise (m.id + 1) ms cs rest (clauses-lower (m.id + 1) (c.id + 1) cs (omega (arith, id)) r.1))

-- so the marks are what the clauses and the guide have
all-marks : (cs : List NumberedClause) (ms : List Mark) → NumbersRise 1 cs → AreMarksOf cs ms → ms ≡ map (noted (guide_marks ms)) (filter is_derived cs)
all-marks cs ms r h = marks-noted (guide_marks ms) ms (filter is_derived cs) (all-noted 1 ms (marks-rise 1 ms (filter is_derived cs) h (derived-rise 1 cs r))) h

-- those of the derived clauses with a property are those of the clauses that are derived and have it
filter-noted : (gs : List guided.Mark) (p : Mark → Bool) (q : NumberedClause → Bool) → ((c : NumberedClause) → q c ≡ (is_derived c && p (noted gs c))) → (cs : List NumberedClause) → filter p (map (noted gs) (filter is_derived cs)) ≡ map (noted gs) (filter q cs)
filter-noted gs p q h [] = refl
filter-noted gs p q h (c ∷ cs) = by_tests (filter-noted gs p q h cs) (is_derived c) (p (noted gs c)) refl (q c) (h c)
  where
    by_tests : filter p (map (noted gs) (filter is_derived cs)) ≡ map (noted gs) (filter q cs) → (d t : Bool) → p (noted gs c) ≡ t → (b : Bool) → b ≡ (d && t) → filter p (map (noted gs) (cond d (c ∷ filter is_derived cs) (filter is_derived cs))) ≡ map (noted gs) (cond b (c ∷ filter q cs) (filter q cs))
    by_tests g true true e b k = rw (k, e) (ap (λ (ms : List Mark). noted gs c ∷ ms) g)
    by_tests g true false e b k = rw (k, e) g
    by_tests g false t e b k = rw k g

pub counts-clauses : (cs : List NumberedClause) (ms : List Mark) → NumbersRise 1 cs → AreMarksOf cs ms → counted_in ms ≡ length (filter (reducing.is_counted (guide_marks ms)) cs)
counts-clauses cs ms r h =
    let gs = guide_marks ms in
    ap counted_in (all-marks cs ms r h) ∙ (ap (λ (xs : List Mark). length xs) (filter-noted gs is_counted (reducing.is_counted gs) (λ c. refl) cs) ∙ length-map (filter (reducing.is_counted gs) cs) (noted gs))

-- the order of candidates is that of clauses
abbrev candidate : List guided.Mark → NumberedClause → Candidate
candidate gs c = candidate_of (noted gs c)

put-candidate : (gs : List guided.Mark) (c : NumberedClause) (ds : List NumberedClause) → put_by precedes (candidate gs c) (map (candidate gs) ds) ≡ map (candidate gs) (put_by (reducing.goes_before gs) c ds)
put-candidate gs c [] = refl
put-candidate gs c (d ∷ ds) = by_order (put-candidate gs c ds) (reducing.goes_before gs c d)
  where
    by_order : put_by precedes (candidate gs c) (map (candidate gs) ds) ≡ map (candidate gs) (put_by (reducing.goes_before gs) c ds) → (b : Bool) → cond b (candidate gs c ∷ (candidate gs d ∷ map (candidate gs) ds)) (candidate gs d ∷ put_by precedes (candidate gs c) (map (candidate gs) ds)) ≡ map (candidate gs) (cond b (c ∷ (d ∷ ds)) (d ∷ put_by (reducing.goes_before gs) c ds))
    by_order g true = refl
    by_order g false = ap (λ (xs : List Candidate). candidate gs d ∷ xs) g

activity-candidates : (gs : List guided.Mark) (cs : List NumberedClause) → by_activity (map (candidate gs) cs) ≡ map (candidate gs) (reducing.by_activity gs cs)
activity-candidates gs [] = refl
activity-candidates gs (c ∷ cs) = ap (put_by precedes (candidate gs c)) (activity-candidates gs cs) ∙ put-candidate gs c (reducing.by_activity gs cs)

map-candidates : (gs : List guided.Mark) (cs : List NumberedClause) → map candidate_of (map (noted gs) cs) ≡ map (candidate gs) cs
map-candidates gs [] = refl
map-candidates gs (c ∷ cs) = ap (λ (xs : List Candidate). candidate gs c ∷ xs) (map-candidates gs cs)

map-numbers : (gs : List guided.Mark) (cs : List NumberedClause) → map (λ (x : Candidate). x.id) (map (candidate gs) cs) ≡ map (λ (c : NumberedClause). c.id) cs
map-numbers gs [] = refl
map-numbers gs (c ∷ cs) = ap (λ (is : List ℕ). c.id ∷ is) (map-numbers gs cs)

half-clauses : (gs : List guided.Mark) (cs : List NumberedClause) → map (λ (x : Candidate). x.id) (less_active_half (map (candidate gs) cs)) ≡ map (λ (c : NumberedClause). c.id) (reducing.less_active_half gs cs)
half-clauses gs cs =
    ap (λ (n : ℕ). map (λ (x : Candidate). x.id) (take (n / 2) (by_activity (map (candidate gs) cs)))) (length-map cs (candidate gs))
    ∙ (ap (λ (xs : List Candidate). map (λ (x : Candidate). x.id) (take (length cs / 2) xs)) (activity-candidates gs cs)
    ∙ (ap (map (λ (x : Candidate). x.id)) (take-map (candidate gs) (length cs / 2) (reducing.by_activity gs cs))
    ∙ map-numbers gs (take (length cs / 2) (reducing.by_activity gs cs))))

and-assoc : (a b c : Bool) → ((a && b) && c) ≡ (a && (b && c))
and-assoc true b c = refl
and-assoc false b c = refl

pub chooses-reduced : (s : guided.Guided) (ms : List Mark) (reasons : List ℕ) → NumbersRise 1 s.node.clauses → AreMarksOf s.node.clauses ms → guide_marks ms ≡ s.guide.marks → AreReasonsOn s.node.trail reasons → less_active reasons ms ≡ reducing.to_reduce s
chooses-reduced s ms reasons r h g are =
    let gs = s.guide.marks in
    let cs = s.node.clauses in
    let marks : ms ≡ map (noted gs) (filter is_derived cs) = all-marks cs ms r h ∙ ap (λ (xs : List guided.Mark). map (noted xs) (filter is_derived cs)) g in
    let go : filter (may_go reasons) ms ≡ map (noted gs) (filter (reducing.may_go s) cs) = ap (filter (may_go reasons)) marks ∙ filter-noted gs (may_go reasons) (reducing.may_go s) same cs in
    ap (λ (xs : List Mark). map (λ (x : Candidate). x.id) (less_active_half (map candidate_of xs))) go
    ∙ (ap (λ (xs : List Candidate). map (λ (x : Candidate). x.id) (less_active_half xs)) (map-candidates gs (filter (reducing.may_go s) cs))
    ∙ half-clauses gs (filter (reducing.may_go s) cs))
  where
    same : (c : NumberedClause) → reducing.may_go s c ≡ (is_derived c && may_go reasons (noted s.guide.marks c))
    same c = ap (λ (b : Bool). reducing.is_counted s.guide.marks c && not b) (sym (are c)) ∙ and-assoc (is_derived c) (is_counted (noted s.guide.marks c)) (not (list_any (λ (i : ℕ). i == c.id) reasons))

-- a number that is free
none-some : (lits : List ℕ) → ◌≡◌ {A = Option (List ℕ)} (Some lits) None → ⊥
none-some lits q = cc

free-first : (id : ℕ) (c : NumberedClause) (cs : List NumberedClause) → lits_under id (c ∷ cs) ≡ None → (nat_eq c.id id ≡ false) × (lits_under id cs ≡ None)
free-first id c cs n = by_test (nat_eq c.id id) refl n
  where
    by_test : (b : Bool) → nat_eq c.id id ≡ b → option_map (λ (d : NumberedClause). d.lits) (cond b (Some c) (find (λ (d : NumberedClause). nat_eq d.id id) cs)) ≡ None → (nat_eq c.id id ≡ false) × (lits_under id cs ≡ None)
    by_test true q k = absurd (none-some c.lits k)
    by_test false q k = (q, k)

free-derived : (id : ℕ) (cs : List NumberedClause) → lits_under id cs ≡ None → lits_under id (filter is_derived cs) ≡ None
free-derived id [] n = refl
free-derived id (c ∷ cs) n = by_test (free-derived id cs (free-first id c cs n).1) (is_derived c)
  where
    by_test : lits_under id (filter is_derived cs) ≡ None → (b : Bool) → lits_under id (cond b (c ∷ filter is_derived cs) (filter is_derived cs)) ≡ None
    by_test g true = rw (free-first id c cs n).0 g
    by_test g false = g

free-mark : (id : ℕ) (ms : List Mark) (cs : List NumberedClause) → shapes ms ≡ map clause_shape cs → lits_under id cs ≡ None → mark_under id ms ≡ None
free-mark id [] cs h n = refl
free-mark id (m ∷ ms) [] h n = absurd (nil-cons (shape_of m) (shapes ms) (sym h))
free-mark id (m ∷ ms) (c ∷ cs) h n =
    let same : shape_of m ≡ clause_shape c = cons-head (shape_of m) (clause_shape c) (shapes ms) (map clause_shape cs) h in
    let rest : shapes ms ≡ map clause_shape cs = cons-tail (shape_of m) (clause_shape c) (shapes ms) (map clause_shape cs) h in
    let other : nat_eq m.id id ≡ false = ap (λ (s : Shape). nat_eq s.id id) same ∙ (free-first id c cs n).0 in
    rw other (free-mark id ms cs rest (free-first id c cs n).1)

pub free-unmarked : (id : ℕ) (cs : List NumberedClause) (ms : List Mark) → AreMarksOf cs ms → lits_under id cs ≡ None → mark_under id ms ≡ None
free-unmarked id cs ms h n = free-mark id ms (filter is_derived cs) h (free-derived id cs n)
