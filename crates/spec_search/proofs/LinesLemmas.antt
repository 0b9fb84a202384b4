-- A log takes the lines of a slice.
use Rattle.std.proofs.Common.{◌≡◌, ◌≢◌, ℕ, zero, suc, ◌+◌, ◌-◌, ◌*◌, ◌<◌, ◌≤◌, ◌^◌, Bool, true, false, cond, nat_lt, ◌==◌, List, [], ◌∷◌, ◌++◌, Contains, length, Option, Some, None, refl, sym, ◌∙◌, subst, ap, inl, inr, ◌⊎◌, arith, append_assoc, append-nil}
use Rattle.std.specs.Prelude.{All, find, slice_get}
use Rattle.std.specs.Option.{option_map}
use Rattle.std.proofs.lemmas.Bool.{eqb-true, ne_eqb, cases_lt}
use Rattle.std.proofs.lemmas.List.Elements.{All-nil, All-cons, All-head, All-tail, All-weaker, All-contains}
use Rattle.mal_base.specs.NumberedClause.{NumberedClause, Line}
use Rattle.spec_logic.specs.Derivation.{Holding, derivation}
use Rattle.spec_logic.specs.Derivation.Derivation.{Derived}
use Rattle.spec_logic.specs.Refutation.{numbered}
use Rattle.spec_node.specs.Load.{numbered as numbered_from}
use Rattle.spec_node.specs.Laws.{originals}
use Rattle.spec_node.proofs.ImportLemmas.{All-with_clause}
use Rattle.spec_learn.specs.Learning.{holding as holding_of}
use Rattle.spec_search.specs.Derived.{IsHeld, with_line, with_lines, IsDerivedFrom, AreDerivedFrom}
use Rattle.spec_search.specs.Laws.{AreNumbered}
use Rattle.spec_search.specs.Covering.{IsOfLine, IsKnown, Covers}
use Rattle.spec_proof.specs.Log.{IsAbove, IsLog, holding}
use Rattle.spec_proof.specs.Among.{Among, HasNumber, IsClosed}
use Rattle.spec_proof.proofs.Among.{among-append, among-left, among-right, contains-from_among, all-from_among}
use Rattle.spec_proof.proofs.Deriving.{derived-more}
use Rattle.spec_proof.proofs.LogLemmas.{log-holds}
use Rattle.spec_proof.proofs.Growing.{log-grows, numbered-within}

pub of-line-later : (log more : List Line) (c : NumberedClause) → IsOfLine log c → IsOfLine (log ++ more) c
of-line-later log more c (line, h, e, f) = (line, among-left log more line h, e, f)

pub known-later : (clauses : List (Option (List ℕ))) (log more : List Line) (c : NumberedClause) → IsKnown clauses log c → IsKnown clauses (log ++ more) c
known-later clauses log more c (inl e) = inl e
known-later clauses log more c (inr k) = inr (of-line-later log more c k)

-- what is held of clauses under their numbers is held of all that they hold
held-there : (clauses : List NumberedClause) (more : Holding) → All (λ c. more c.id ≡ Some (Some c.lits)) clauses → (id : ℕ) (c : Option (List ℕ)) → holding_of clauses id ≡ Some c → more id ≡ Some c
held-there [] more h id c e = absurd (cc)
held-there (x ∷ xs) more h id c e = by_first (held-there xs more (All-tail (λ (d : NumberedClause). more d.id ≡ Some (Some d.lits)) x xs h) id c) (x.id == id) refl e
  where
    by_first : (holding_of xs id ≡ Some c → more id ≡ Some c) → (b : Bool) → (x.id == id) ≡ b → option_map (λ (lits : List ℕ). Some lits) (option_map (λ (d : NumberedClause). d.lits) (cond b (Some x) (find (λ (d : NumberedClause). d.id == id) xs))) ≡ Some c → more id ≡ Some c
    by_first rest true q f =
        let here : more x.id ≡ Some (Some x.lits) = All-head (λ (d : NumberedClause). more d.id ≡ Some (Some d.lits)) x xs h in
        subst (λ (n : ℕ). more n ≡ Some c) (eqb-true x.id id q) (here ∙ f)
    by_first rest false q f = rest f

-- a log holds what it knows
known-held : (clauses : List (Option (List ℕ))) (log : List Line) → IsLog clauses log → (c : NumberedClause) → IsKnown clauses log c → holding clauses log c.id ≡ Some (Some c.lits)
known-held clauses log is c (inl e) = (log-holds clauses log is).originals_held c.id (Some c.lits) e
known-held clauses log is c (inr (line, h, e, f)) =
    let there : holding clauses log line.id ≡ Some (Some line.lits) = (log-holds clauses log is).lines_held line (contains-from_among log line h) in
    subst (λ (n : ℕ). holding clauses log n ≡ Some (Some c.lits)) e (there ∙ ap (λ (lits : List ℕ). Some (Some lits)) f)

-- a known clause has the number of an original or of a line
known-number : (clauses : List (Option (List ℕ))) (log : List Line) (c : NumberedClause) → length clauses < 2 ^ 32 → IsKnown clauses log c → (c.id < 2 ^ 32) ⊎ HasNumber log c.id
known-number clauses log c low (inl e) = by_size (cases_lt (length clauses) c.id)
  where
    by_size : (length clauses < c.id) ⊎ (c.id ≤ length clauses) → (c.id < 2 ^ 32) ⊎ HasNumber log c.id
    by_size (inl high) = absurd (numbered-within clauses c.id (Some c.lits) e high)
    by_size (inr k) = inl (omega arith)
known-number clauses log c low (inr (line, h, e, f)) = inr (line, h, e)

-- one line
take-line : (clauses : List (Option (List ℕ))) (log : List Line) (index serial : ℕ) (held : List NumberedClause) (l : Line) → index ≤ 63 → Covers clauses log index serial held → IsDerivedFrom held l → l.id ≡ 2 ^ 32 + serial * 64 + index → Covers clauses (log ++ l ∷ []) index (serial + 1) (with_line held l)
take-line clauses log index serial held l low h d e = record {
  derived = log-grows clauses log l h.derived (all-from_among (λ other. other.id ≢ l.id) log others) above derived;
  closed = closed;
  known = All-with_clause (IsKnown clauses (log ++ l ∷ [])) (record { id = l.id; lits = l.lits }) held (inr (l, among-right log (l ∷ []) l (inl refl), refl, refl)) (All-weaker (IsKnown clauses log) (IsKnown clauses (log ++ l ∷ [])) (λ c k. known-later clauses log (l ∷ []) c k) held h.known);
  before = λ line k m q. by_side line k q (among-append log (l ∷ []) line m);
}
  where
    others : (other : Line) → Among other log → other.id ≢ l.id
    others other m q = let small : serial < serial = h.before other serial m (q ∙ e) in omega arith

    hint-held : (hint : ℕ) → Contains l.hints hint → (c : NumberedClause) × IsKnown clauses log c × (c.id ≡ hint) × (c.id < l.id)
    hint-held hint m =
        let there : IsHeld held hint = All-contains (IsHeld held) l.hints hint d.hints m in
        (there.0, All-contains (IsKnown clauses log) held there.0 h.known there.1, there.2, All-contains (λ c. c.id < l.id) held there.0 d.above there.1)

    below : (hint : ℕ) → IsHeld held hint → hint < l.id
    below hint (c, m, q) = let less : c.id < l.id = All-contains (λ x. x.id < l.id) held c d.above m in omega arith

    above : IsAbove l
    above = record { derived = omega arith; above = All-weaker (IsHeld held) (λ hint. hint < l.id) below l.hints d.hints }

    derived : derivation (holding clauses log) (Some l.lits) l.hints ≡ Derived
    derived = derived-more (holding_of held) (holding clauses log) (Some l.lits) l.hints (held-there held (holding clauses log) (All-weaker (IsKnown clauses log) (λ c. holding clauses log c.id ≡ Some (Some c.lits)) (known-held clauses log h.derived) held h.known)) d.derived

    wider : (hint : ℕ) → (hint < 2 ^ 32) ⊎ HasNumber log hint → (hint < 2 ^ 32) ⊎ HasNumber (log ++ l ∷ []) hint
    wider hint (inl k) = inl k
    wider hint (inr (o, m, q)) = inr (o, among-left log (l ∷ []) o m, q)

    own : (hint : ℕ) → Contains l.hints hint → (hint < 2 ^ 32) ⊎ HasNumber log hint
    own hint m =
        let there = hint-held hint m in
        subst (λ (n : ℕ). (n < 2 ^ 32) ⊎ HasNumber log n) there.2 (known-number clauses log there.0 h.derived.originals_below there.1)

    closed : IsClosed (log ++ l ∷ [])
    closed line hint m k = by_side (among-append log (l ∷ []) line m)
      where
        by_side : Among line log ⊎ Among line (l ∷ []) → (hint < 2 ^ 32) ⊎ HasNumber (log ++ l ∷ []) hint
        by_side (inl n) = wider hint (h.closed line hint n k)
        by_side (inr (inl q)) = wider hint (own hint (subst (λ (x : Line). Contains x.hints hint) (sym q) k))
        by_side (inr (inr n)) = absurd n

    by_side : (line : Line) (k : ℕ) → line.id ≡ 2 ^ 32 + k * 64 + index → Among line log ⊎ Among line (l ∷ []) → k < serial + 1
    by_side line k q (inl m) = let small : k < serial = h.before line k m q in omega arith
    by_side line k q (inr (inl r)) = let same : l.id ≡ line.id = ap (λ (x : Line). x.id) r in omega arith
    by_side line k q (inr (inr m)) = absurd m

-- all the lines of a slice
pub take-lines : (clauses : List (Option (List ℕ))) (log : List Line) (index serial : ℕ) (held : List NumberedClause) (lines : List Line) → index ≤ 63 → Covers clauses log index serial held → AreDerivedFrom held lines → AreNumbered serial index lines → Covers clauses (log ++ lines) index (serial + length lines) (with_lines held lines)
take-lines clauses log index serial held [] low h d e = subst (λ (ls : List Line). Covers clauses ls index (serial + 0) held) (sym (append-nil log)) (subst (λ (n : ℕ). Covers clauses log index n held) (let same : serial ≡ serial + 0 = omega arith in same) h)
take-lines clauses log index serial held (l ∷ ls) low h d e =
    let one : Covers clauses (log ++ l ∷ []) index (serial + 1) (with_line held l) = take-line clauses log index serial held l low h d.0 e.0 in
    let all : Covers clauses ((log ++ l ∷ []) ++ ls) index (serial + 1 + length ls) (with_lines (with_line held l) ls) = take-lines clauses (log ++ l ∷ []) index (serial + 1) (with_line held l) ls low one d.1 e.1 in
    let same : serial + 1 + length ls ≡ serial + suc (length ls) = omega arith in
    subst (λ (xs : List Line). Covers clauses xs index (serial + suc (length ls)) (with_lines held (l ∷ ls))) (append_assoc log (l ∷ []) ls) (subst (λ (n : ℕ). Covers clauses ((log ++ l ∷ []) ++ ls) index n (with_lines held (l ∷ ls))) same all)

-- lines with the numbers of a node of one index have not those of one of another
pub numbers-apart : (serial i j : ℕ) (lines : List Line) → i ≤ 63 → j ≤ 63 → j ≢ i → AreNumbered serial i lines → (line : Line) (k : ℕ) → Among line lines → line.id ≢ 2 ^ 32 + k * 64 + j
numbers-apart serial i j [] a b other e line k h = absurd h
numbers-apart serial i j (l ∷ ls) a b other e line k (inl q) = λ r. let same : l.id ≡ line.id = ap (λ (x : Line). x.id) q in let number : l.id ≡ 2 ^ 32 + serial * 64 + i = e.0 in omega arith
numbers-apart serial i j (l ∷ ls) a b other e line k (inr h) = numbers-apart (serial + 1) i j ls a b other e.1 line k h

-- numbered clauses are held under their numbers
numbered-at : (first : ℕ) (cs : List (Option (List ℕ))) → All (λ c. (first ≤ c.id) × (slice_get cs (c.id - first) ≡ Some (Some c.lits))) (numbered_from first cs)
numbered-at first [] = All-nil (λ c. (first ≤ c.id) × (slice_get [] (c.id - first) ≡ Some (Some c.lits)))
numbered-at first (x ∷ cs) = by_clause x (numbered-at (first + 1) cs)
  where
    later : (y : Option (List ℕ)) (c : NumberedClause) → (first + 1 ≤ c.id) × (slice_get cs (c.id - (first + 1)) ≡ Some (Some c.lits)) → (first ≤ c.id) × (slice_get (y ∷ cs) (c.id - first) ≡ Some (Some c.lits))
    later y c (low, e) =
        let next : c.id - first ≡ suc (c.id - (first + 1)) = omega arith in
        (omega arith, ap (λ (n : ℕ). slice_get (y ∷ cs) n) next ∙ e)

    by_clause : (y : Option (List ℕ)) → All (λ c. (first + 1 ≤ c.id) × (slice_get cs (c.id - (first + 1)) ≡ Some (Some c.lits))) (numbered_from (first + 1) cs) → All (λ c. (first ≤ c.id) × (slice_get (y ∷ cs) (c.id - first) ≡ Some (Some c.lits))) (numbered_from first (y ∷ cs))
    by_clause None rest = All-weaker (λ c. (first + 1 ≤ c.id) × (slice_get cs (c.id - (first + 1)) ≡ Some (Some c.lits))) (λ c. (first ≤ c.id) × (slice_get (None ∷ cs) (c.id - first) ≡ Some (Some c.lits))) (later None) (numbered_from (first + 1) cs) rest
    by_clause (Some lits) rest =
        let zero-off : first - first ≡ 0 = omega arith in
        All-cons (λ c. (first ≤ c.id) × (slice_get (Some lits ∷ cs) (c.id - first) ≡ Some (Some c.lits))) (record { id = first; lits = lits }) (numbered_from (first + 1) cs)
        (omega arith, ap (λ (n : ℕ). slice_get (Some lits ∷ cs) n) zero-off)
        (All-weaker (λ c. (first + 1 ≤ c.id) × (slice_get cs (c.id - (first + 1)) ≡ Some (Some c.lits))) (λ c. (first ≤ c.id) × (slice_get (Some lits ∷ cs) (c.id - first) ≡ Some (Some c.lits))) (later (Some lits)) (numbered_from (first + 1) cs) rest)

get-longer : (xs ys : List (Option (List ℕ))) (i : ℕ) (c : Option (List ℕ)) → slice_get xs i ≡ Some c → slice_get (xs ++ ys) i ≡ Some c
get-longer [] ys i c q = absurd (cc)
get-longer (x ∷ xs) ys zero c q = q
get-longer (x ∷ xs) ys (suc i) c q = get-longer xs ys i c q

-- clauses that a node has numbered are the originals of more clauses too
pub numbered-known : (cs more : List (Option (List ℕ))) → All (λ c. numbered (cs ++ more) c.id ≡ Some (Some c.lits)) (numbered_from 1 cs)
numbered-known cs more = All-weaker (λ c. (1 ≤ c.id) × (slice_get cs (c.id - 1) ≡ Some (Some c.lits))) (λ c. numbered (cs ++ more) c.id ≡ Some (Some c.lits)) there (numbered_from 1 cs) (numbered-at 1 cs)
  where
    there : (c : NumberedClause) → (1 ≤ c.id) × (slice_get cs (c.id - 1) ≡ Some (Some c.lits)) → numbered (cs ++ more) c.id ≡ Some (Some c.lits)
    there c (low, e) =
        let some : (c.id == 0) ≡ false = ne_eqb c.id 0 (λ q. omega arith) in
        rw some (get-longer cs more (c.id - 1) (Some c.lits) e)

-- what holds of the originals of a node holds of each of its clauses below 2^32
pub of-originals : (P : NumberedClause → Type 0) (xs : List NumberedClause) → All P (originals xs) → All (λ c. nat_lt c.id (2 ^ 32) ≡ true → P c) xs
of-originals P [] h = All-nil (λ c. nat_lt c.id (2 ^ 32) ≡ true → P c)
of-originals P (x ∷ xs) h = by_test (of-originals P xs) (nat_lt x.id (2 ^ 32)) refl h
  where
    by_test : (All P (originals xs) → All (λ c. nat_lt c.id (2 ^ 32) ≡ true → P c) xs) → (b : Bool) → nat_lt x.id (2 ^ 32) ≡ b → All P (cond b (x ∷ originals xs) (originals xs)) → All (λ c. nat_lt c.id (2 ^ 32) ≡ true → P c) (x ∷ xs)
    by_test f true q k = All-cons (λ c. nat_lt c.id (2 ^ 32) ≡ true → P c) x xs (λ t. All-head P x (originals xs) k) (f (All-tail P x (originals xs) k))
    by_test f false q k = All-cons (λ c. nat_lt c.id (2 ^ 32) ≡ true → P c) x xs (λ t. absurd (cc)) (f k)
