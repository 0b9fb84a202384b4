-- A step keeps a guided node sound.
use Rattle.std.proofs.Common.{◌≡◌, ℕ, ◌+◌, ◌-◌, ◌^◌, ◌<◌, ◌≤◌, max, Bool, true, false, cond, not, List, [], ◌∷◌, ◌++◌, length, map, fold, replicate, Option, Some, None, refl, sym, ap, ◌∙◌, subst, arith}
use Rattle.std.specs.Prelude.{All, ◌==◌, ◌||◌, ◌&&◌, nat_lt, nat_le, filter}
use Rattle.std.specs.List.{list_any, list_all}
use Rattle.std.specs.Option.{option_map_or}
use Rattle.std.proofs.lemmas.List.{length-map, length-append, length-replicate}
use Rattle.std.proofs.lemmas.List.Elements.{All-nil, All-cons, All-head, All-tail, All-take, All-weaker, filter_passes, filter-append}
use Rattle.std.proofs.lemmas.Bool.{and_parts, and_from, or_left, or_right, not-true, not-false, eqb-true, ltb-true, lt-leb}
use Rattle.mal_base.specs.Literals.{var_of, literal}
use Rattle.mal_base.specs.NumberedClause.{NumberedClause}
use Rattle.mal_base.specs.declared.trail_entry.TrailEntry.{TrailEntry}
use Rattle.mal_base.specs.declared.verdict.Verdict.TheVariants.{Satisfiable}
use Rattle.spec_node.specs.State.{Node}
use Rattle.spec_node.specs.Value.{is_true, is_false, has_value, next_assumption}
use Rattle.spec_node.specs.Load.{counted, is_derived, added, loaded, numbered, with_originals}
use Rattle.spec_node.specs.Import.{taken, with_new, with_clauses, is_left_off}
use Rattle.spec_node.specs.Adding.{forgetting}
use Rattle.spec_node.specs.Sound.{IsLiteralOf, IsSound}
use Rattle.spec_node.specs.Laws.{originals}
use Rattle.spec_node.proofs.BatchLemmas.{All-filtered}
use Rattle.spec_node.proofs.ImportLemmas.{All-passed, by-taking, import-keeps_sound, import-holds}
use Rattle.spec_node.proofs.LoadLemmas.{filter-again, filter-none, numbered-below}
use Rattle.spec_node.proofs.SoundLemmas.{fresh-with_sound, loaded-sound}
use Rattle.spec_node.proofs.FindLemmas.{find-passes, find-All, find-none, IsBetween, counted-All, var_of-literal}
use Rattle.spec_node.proofs.LevelLemmas.{found-in}
use Rattle.spec_node.proofs.TrailLemmas.{free_from_open}
use Rattle.spec_learn.specs.Dropping.{is_reason}
use Rattle.spec_learn.specs.Learning.{derived_id, learned}
use Rattle.spec_learn.proofs.InsertionLemmas.{put-All}
use Rattle.spec_learn.proofs.ProfileLemmas.{learned-sound}
use Rattle.spec_learn.proofs.RefuteLemmas.{emptied-sound}
use Rattle.spec_learn.proofs.CoreSoundLemmas.{cored-sound}
use Rattle.spec_search.specs.Dropping.{given_up}
use Rattle.spec_search.proofs.SoundLemmas.{propagated-sound}
use Rattle.spec_search.proofs.FewerLemmas.{gives-up}
use Rattle.spec_node.specs.Adding.{with_clause}
use Rattle.spec_guided.specs.State.{Mark, Guide, Guided, with_mark}
use Rattle.spec_guided.specs.Learning.{after_use, kept_mark, learned_mark, used}
use Rattle.spec_guided.specs.Resolved.{resolved}
use Rattle.spec_guided.specs.Reducing.{is_counted, may_go, goes_before, by_activity, less_active_half, to_reduce}
use Rattle.spec_guided.specs.Deciding.{goes_first, first_of_two, first_among, free, first_free, levels_kept}
use Rattle.spec_guided.specs.Step.{phase_of, step, after_case}
use Rattle.spec_guided.specs.Load.{imported_mark}
use Rattle.spec_guided.specs.Laws.{IsUnordered, Fits, IsGuided, FreshIsGuided, LoadKeepsGuided, ImportKeepsGuided}
use Rattle.spec_guided.proofs.CaseLemmas.{by_cases}
use Rattle.spec_guided.proofs.MarkLemmas.{mark_ids, clause_ids, marks-with, marks-with_all, own-derived, marks-without, marks-changed, length-counted}
use Rattle.spec_guided.proofs.NodeLemmas.{unordered-sound, verdict-sound, MayDecide, decided-sound, cut-sound}
use Rattle.spec_guided.proofs.UnitLemmas.{united-sound}

-- a number that a node may give up where it holds it
abbrev IsSpare : Node → ℕ → Type 0
IsSpare n id = (nat_le (2 ^ 32) id && not (is_reason n.trail (record { id = id; lits = [] }))) ≡ true

forget-none : (cs : List NumberedClause) → forgetting [] cs ≡ cs
forget-none [] = refl
forget-none (c ∷ cs) = ap (λ (ds : List NumberedClause). c ∷ ds) (forget-none cs)

forget-one : (i : ℕ) (ids : List ℕ) (cs : List NumberedClause) → forgetting ids (forgetting (i ∷ []) cs) ≡ forgetting (i ∷ ids) cs
forget-one i ids [] = refl
forget-one i ids (c ∷ cs) = by_test (forget-one i ids cs) (i == c.id)
  where
    by_test : forgetting ids (forgetting (i ∷ []) cs) ≡ forgetting (i ∷ ids) cs → (b : Bool) → forgetting ids (cond (not (b || false)) (c ∷ forgetting (i ∷ []) cs) (forgetting (i ∷ []) cs)) ≡ cond (not (b || list_any (λ j. j == c.id) ids)) (c ∷ forgetting (i ∷ ids) cs) (forgetting (i ∷ ids) cs)
    by_test g true = g
    by_test g false = by_rest (not (list_any (λ j. j == c.id) ids))
      where
        by_rest : (b : Bool) → cond b (c ∷ forgetting ids (forgetting (i ∷ []) cs)) (forgetting ids (forgetting (i ∷ []) cs)) ≡ cond b (c ∷ forgetting (i ∷ ids) cs) (forgetting (i ∷ ids) cs)
        by_rest true = ap (λ (ds : List NumberedClause). c ∷ ds) g
        by_rest false = g

-- clauses that may be given up one by one may be given up together
forgotten-sound : (ids : List ℕ) (n : Node) → IsSound n → n.conflict ≡ None → All (IsSpare n) ids → IsSound (record n { clauses = forgetting ids n.clauses })
forgotten-sound [] n h calm spare = subst (λ (cs : List NumberedClause). IsSound (record n { clauses = cs })) (sym (forget-none n.clauses)) h
forgotten-sound (i ∷ ids) n h calm spare =
    let one : given_up i n ≡ record n { clauses = forgetting (i ∷ []) n.clauses } = ap (λ (b : Bool). cond {A = Node} b (record n { clauses = forgetting (i ∷ []) n.clauses }) n) (All-head (IsSpare n) i ids spare) in
    let first : IsSound (record n { clauses = forgetting (i ∷ []) n.clauses }) = subst (λ (m : Node). IsSound m) one ((gives-up i n).sound h calm) in
    subst (λ (cs : List NumberedClause). IsSound (record n { clauses = cs })) (forget-one i ids n.clauses) (forgotten-sound ids (record n { clauses = forgetting (i ∷ []) n.clauses }) first calm (All-tail (IsSpare n) i ids spare))

-- and the originals stay
pub forgotten-originals : (ids : List ℕ) (n : Node) → All (IsSpare n) ids → originals (forgetting ids n.clauses) ≡ originals n.clauses
forgotten-originals [] n spare = ap originals (forget-none n.clauses)
forgotten-originals (i ∷ ids) n spare =
    let one : given_up i n ≡ record n { clauses = forgetting (i ∷ []) n.clauses } = ap (λ (b : Bool). cond {A = Node} b (record n { clauses = forgetting (i ∷ []) n.clauses }) n) (All-head (IsSpare n) i ids spare) in
    ap originals (sym (forget-one i ids n.clauses)) ∙ (forgotten-originals ids (record n { clauses = forgetting (i ∷ []) n.clauses }) (All-tail (IsSpare n) i ids spare) ∙ (ap (λ (m : Node). originals m.clauses) (sym one) ∙ (gives-up i n).originals))

-- what goes may be given up
pub may-go-spare : (s : Guided) → All (IsSpare s.node) (to_reduce s)
may-go-spare s = ids-of (less_active_half s.guide.marks goers) (All-take (λ c. may_go s c ≡ true) _ (by_activity s.guide.marks goers) (sorted goers (filter_passes (may_go s) s.node.clauses)))
  where
    goers : List NumberedClause
    goers = filter (may_go s) s.node.clauses

    sorted : (cs : List NumberedClause) → All (λ c. may_go s c ≡ true) cs → All (λ c. may_go s c ≡ true) (by_activity s.guide.marks cs)
    sorted [] h = h
    sorted (c ∷ cs) h = put-All (goes_before s.guide.marks) (λ x. may_go s x ≡ true) c (by_activity s.guide.marks cs) (All-head (λ x. may_go s x ≡ true) c cs h) (sorted cs (All-tail (λ x. may_go s x ≡ true) c cs h))

    one : (c : NumberedClause) → may_go s c ≡ true → IsSpare s.node c.id
    one c h =
        let parts = and_parts (is_counted s.guide.marks c) (not (is_reason s.node.trail c)) h in
        let counts = and_parts (is_derived c) _ parts.0 in
        and_from _ _ counts.0 parts.1

    ids-of : (cs : List NumberedClause) → All (λ c. may_go s c ≡ true) cs → All (IsSpare s.node) (map (λ c. c.id) cs)
    ids-of [] h = All-nil (IsSpare s.node)
    ids-of (c ∷ cs) h = All-cons (IsSpare s.node) c.id (map (λ x. x.id) cs) (one c (All-head (λ x. may_go s x ≡ true) c cs h)) (ids-of cs (All-tail (λ x. may_go s x ≡ true) c cs h))

-- a free variable of the node
record IsFreeOf (n : Node) (v : ℕ) : Type 0 where
  range : IsBetween 1 (1 + n.variables) v
  free : not (has_value n.trail v) ≡ true

first-free : (s : Guided) (v : ℕ) → first_free s ≡ Some v → IsFreeOf s.node v
first-free s v q = among (free s.node) all q
  where
    all : All (IsFreeOf s.node) (free s.node)
    all = All-weaker (λ w. IsBetween 1 (1 + s.node.variables) w × (not (has_value s.node.trail w) ≡ true)) (IsFreeOf s.node) (λ w x. record { range = x.0; free = x.1 }) (free s.node) (All-filtered (IsBetween 1 (1 + s.node.variables)) (λ w. not (has_value s.node.trail w)) (counted 1 s.node.variables) (counted-All 1 s.node.variables))

    two : (x y : ℕ) → IsFreeOf s.node x → IsFreeOf s.node y → IsFreeOf s.node (first_of_two s x y)
    two x y a b = by_test (goes_first s y x)
      where
        by_test : (t : Bool) → IsFreeOf s.node (cond {A = ℕ} t y x)
        by_test true = b
        by_test false = a

    folded : (ws : List ℕ) (x : ℕ) → IsFreeOf s.node x → All (IsFreeOf s.node) ws → IsFreeOf s.node (fold (first_of_two s) x ws)
    folded [] x a h = a
    folded (w ∷ ws) x a h = folded ws (first_of_two s x w) (two x w a (All-head (IsFreeOf s.node) w ws h)) (All-tail (IsFreeOf s.node) w ws h)

    among : (ws : List ℕ) → All (IsFreeOf s.node) ws → first_among s ws ≡ Some v → IsFreeOf s.node v
    among [] h k = absurd (cc)
    among (w ∷ ws) h k = subst (IsFreeOf s.node) (ap (λ (o : Option ℕ). option_map_or (λ x. x) o 0) k) (folded ws w (All-head (IsFreeOf s.node) w ws h) (All-tail (IsFreeOf s.node) w ws h))

-- a literal of a free variable may be decided where all assumptions are true
may-decide : (s : Guided) (v : ℕ) (b : Bool) → next_assumption s.node.trail s.node.assumptions ≡ None → first_free s ≡ Some v → MayDecide s.node (literal v b)
may-decide s v b none q =
    let f : IsFreeOf s.node v = first-free s v q in
    let same : var_of (literal v b) ≡ v = var_of-literal v b in
    let low : 1 ≤ v = f.range.from in
    let high : v < 1 + s.node.variables = f.range.below in
    record {
      range = record { low = omega arith; high = omega arith };
      free = subst (λ (x : ℕ). has_value s.node.trail x ≡ false) (sym same) (not-true (has_value s.node.trail v) f.free);
      chosen = or_right _ _ (all-assumed s.node.trail s.node.assumptions (find-none (λ a. not (is_true s.node.trail a)) s.node.assumptions none));
    }
  where
    all-assumed : (trail : List TrailEntry) (xs : List ℕ) → All (λ a. not (is_true trail a) ≡ false) xs → list_all (is_true trail) xs ≡ true
    all-assumed trail [] h = refl
    all-assumed trail (x ∷ xs) h = rw (not-false (is_true trail x) (All-head (λ a. not (is_true trail a) ≡ false) x xs h)) (all-assumed trail xs (All-tail (λ a. not (is_true trail a) ≡ false) x xs h))

-- so may the first assumption that is not true, where it is not false
may-assume : (n : Node) (a : ℕ) → IsSound n → next_assumption n.trail n.assumptions ≡ Some a → is_false n.trail a ≡ false → MayDecide n a
may-assume n a h e f = record {
  range = find-All (IsLiteralOf n.variables) (λ x. not (is_true n.trail x)) n.assumptions a h.consistent.assumptions.within e;
  free = free_from_open n.trail a (not-true (is_true n.trail a) (find-passes (λ x. not (is_true n.trail x)) n.assumptions a e)) f;
  chosen = or_left _ _ (found-in (λ x. not (is_true n.trail x)) n.assumptions a e);
}

-- one more clause, and a mark for it
fits-more : (n : Node) (g : Guide) (m : Mark) (ms : List Mark) (lits : List ℕ) → m.id ≡ derived_id n → mark_ids ms ≡ mark_ids g.marks → Fits n g → mark_ids (with_mark m ms) ≡ clause_ids (with_clause (record { id = derived_id n; lits = lits }) n.clauses)
fits-more n g m ms lits same kept fits = marks-with m ms (record { id = derived_id n; lits = lits }) n.clauses same (own-derived n) (kept ∙ fits.marks)

-- a conflict changes no number of a mark
used-ids : (id : ℕ) (n : Node) (gain : ℕ) (ms : List Mark) → mark_ids (used id n gain ms) ≡ mark_ids ms
used-ids id n gain ms = marks-changed (λ m. cond {A = Mark} (list_any (λ r. r == m.id) (resolved id n)) (after_use n gain m) m) (λ m. by_test m (list_any (λ r. r == m.id) (resolved id n))) ms
  where
    by_test : (m : Mark) (b : Bool) → (cond {A = Mark} b (after_use n gain m) m).id ≡ m.id
    by_test m true = refl
    by_test m false = refl

pub step-guided : (s : Guided) → IsGuided s → IsGuided (step s)
step-guided s h =
    let f : Fits s.node s.guide = h.fits in
    by_cases (λ c. IsGuided (after_case c s)) s (record {
      learns = λ id q some. record {
        sound = unordered-sound (learned id s.node) (learned-sound s.node id h.sound q some);
        unordered = (refl, refl, refl, refl);
        fits = record { scores = length-map (counted 1 s.node.variables) _ ∙ length-counted 1 s.node.variables; marks = fits-more s.node s.guide (learned_mark (derived_id s.node) _ s.guide.clause_gain) (used id s.node s.guide.clause_gain s.guide.marks) _ refl (used-ids id s.node s.guide.clause_gain s.guide.marks) f };
      };
      refutes = λ id q z. record {
        sound = emptied-sound s.node id h.sound q z;
        unordered = h.unordered;
        fits = record { scores = f.scores; marks = fits-more s.node s.guide (kept_mark (derived_id s.node)) s.guide.marks _ refl refl f };
      };
      propagates = λ calm low. record {
        sound = propagated-sound s.node h.sound calm low;
        unordered = h.unordered;
        fits = record { scores = f.scores; marks = f.marks };
      };
      unites = λ idle e q. record {
        sound = united-sound s.node e h.sound idle q;
        unordered = h.unordered;
        fits = record { scores = f.scores; marks = fits-more s.node s.guide (kept_mark (derived_id s.node)) s.guide.marks _ refl refl f };
      };
      reduces = λ idle. record {
        sound = forgotten-sound (to_reduce s) s.node h.sound idle.calm (may-go-spare s);
        unordered = h.unordered;
        fits = record { scores = f.scores; marks = marks-without (to_reduce s) s.guide.marks s.node.clauses f.marks };
      };
      restarts = λ idle v. record {
        sound = cut-sound (levels_kept s v) s.node h.sound idle;
        unordered = h.unordered;
        fits = record { scores = f.scores; marks = f.marks };
      };
      contradicts = λ idle a e k. record {
        sound = cored-sound s.node a h.sound (record { first = e; fell = k });
        unordered = h.unordered;
        fits = record { scores = f.scores; marks = fits-more s.node s.guide (kept_mark (derived_id s.node)) s.guide.marks _ refl refl f };
      };
      assumes = λ idle a e k. record {
        sound = decided-sound s.node a h.sound idle (may-assume s.node a h.sound e k);
        unordered = h.unordered;
        fits = record { scores = f.scores; marks = f.marks };
      };
      decides = λ idle v e k. record {
        sound = decided-sound s.node (literal v (phase_of s.node v)) h.sound idle (may-decide s v (phase_of s.node v) e k);
        unordered = h.unordered;
        fits = record { scores = f.scores; marks = f.marks };
      };
      ends = λ idle e k. record {
        sound = verdict-sound s.node (Some Satisfiable) h.sound;
        unordered = h.unordered;
        fits = record { scores = f.scores; marks = f.marks };
      };
    })

pub fresh-guided : FreshIsGuided
fresh-guided i profile low = record { sound = fresh-with_sound i profile low; unordered = (refl, refl, refl, refl); fits = record { scores = refl; marks = refl } }

-- the derived clauses are those that were held before a load
loaded-derived : (held new : List NumberedClause) → All (λ c. c.id < 2 ^ 32) new → filter is_derived (with_originals held new) ≡ filter is_derived held
loaded-derived held new low =
    let front : filter is_derived (filter (λ c. nat_lt c.id (2 ^ 32)) held) ≡ [] = filter-none is_derived (filter (λ c. nat_lt c.id (2 ^ 32)) held) (All-weaker (λ c. nat_lt c.id (2 ^ 32) ≡ true) (λ c. is_derived c ≡ false) (λ c q. lt-leb (2 ^ 32) c.id (ltb-true c.id (2 ^ 32) q)) _ (filter_passes (λ c. nat_lt c.id (2 ^ 32)) held)) in
    let middle : filter is_derived new ≡ [] = filter-none is_derived new (All-weaker (λ c. c.id < 2 ^ 32) (λ c. is_derived c ≡ false) (λ c l. lt-leb (2 ^ 32) c.id l) new low) in
    let last : filter is_derived (filter is_derived held) ≡ filter is_derived held = filter-again is_derived (filter is_derived held) (filter_passes is_derived held) in
    filter-append is_derived (filter (λ c. nat_lt c.id (2 ^ 32)) held) (new ++ filter is_derived held) ∙ (ap (λ (cs : List NumberedClause). cs ++ filter is_derived (new ++ filter is_derived held)) front ∙ (filter-append is_derived new (filter is_derived held) ∙ (ap (λ (cs : List NumberedClause). cs ++ filter is_derived (filter is_derived held)) middle ∙ last)))

pub load-guided : LoadKeepsGuided
load-guided r first s posted has new h =
    let sound : IsSound (loaded r first s.node) = loaded-sound r first s.node posted has new h.sound in
    let below : first + length r.clauses ≤ 2 ^ 32 = new.below in
    let zeros : List ℕ = replicate (added r s.node) 0 in
    let long : length (s.guide.scores ++ zeros) ≡ length s.guide.scores + length zeros = length-append s.guide.scores zeros in
    let more : length zeros ≡ r.variables - s.node.variables = length-replicate (added r s.node) 0 in
    let before : length s.guide.scores ≡ s.node.variables = h.fits.scores in
    let after : length (s.guide.scores ++ zeros) ≡ max s.node.variables r.variables = omega arith in
    record {
      sound = unordered-sound (loaded r first s.node) sound;
      unordered = (refl, refl, refl, refl);
      fits = record { scores = after; marks = h.fits.marks ∙ sym (ap (map (λ c. c.id)) (loaded-derived s.node.clauses (numbered first r.clauses) (numbered-below (2 ^ 32) first r.clauses below))) };
    }

pub import-guided : ImportKeepsGuided
import-guided exported s may h = record {
  sound = import-keeps_sound exported s.node may h.sound;
  unordered = by-taking IsUnordered exported s.node h.unordered h.unordered;
  fits = record {
    scores = h.fits.scores ∙ sym (import-holds.variables exported s.node);
    marks = by_left (is_left_off s.node.profile new) refl;
  };
}
  where
    new : List NumberedClause
    new = taken exported s.node.clauses

    marks_of : List Mark
    marks_of = fold (λ ms c. with_mark (imported_mark s.guide.clause_gain c) ms) s.guide.marks new

    all : mark_ids marks_of ≡ clause_ids (with_clauses new s.node.clauses)
    all = marks-with_all s.guide.clause_gain new s.guide.marks s.node.clauses (All-passed (λ c. is_derived c ≡ true) _ exported may.derived) h.fits.marks

    none_from : (cs : List NumberedClause) → length cs ≡ 0 → cs ≡ []
    none_from [] q = refl
    none_from (c ∷ cs) q = absurd (omega arith)

    by_left : (b : Bool) → is_left_off s.node.profile new ≡ b → mark_ids marks_of ≡ clause_ids (cond {A = Node} b s.node (with_new new s.node)).clauses
    by_left true q = let none : length new ≡ 0 = eqb-true (length new) 0 (and_parts _ (length new == 0) q).1 in subst (λ (cs : List NumberedClause). mark_ids (fold (λ ms c. with_mark (imported_mark s.guide.clause_gain c) ms) s.guide.marks cs) ≡ clause_ids s.node.clauses) (sym (none_from new none)) h.fits.marks
    by_left false q = all
