-- What the log of a job knows of its nodes.
use Rattle.std.proofs.Common.{◌≡◌, ◌≢◌, ℕ, zero, suc, ◌+◌, ◌-◌, ◌*◌, ◌<◌, ◌≤◌, ◌^◌, true, nat_lt, List, [], ◌∷◌, ◌++◌, length, take, drop, fold, Option, Some, None, refl, sym, ◌∙◌, subst, ap, inl, inr, ◌⊎◌, arith, take-add}
use Rattle.std.specs.Prelude.{All, Contains}
use Rattle.std.proofs.lemmas.Bool.{lt-ltb, cases_lt}
use Rattle.std.proofs.lemmas.List.{take-append-drop}
use Rattle.std.proofs.lemmas.List.Concat.{flat_map-append}
use Rattle.std.proofs.lemmas.List.Elements.{All-weaker, All-contains}
use Rattle.std.proofs.lemmas.List.Sums.{sum_by-take-le}
use Rattle.mal_base.specs.declared.profile.Profile.{Profile}
use Rattle.mal_base.specs.NumberedClause.{NumberedClause, Line}
use Rattle.mal_revision.specs.Posted.{Posted}
use Rattle.spec_logic.specs.Refutation.{numbered}
use Rattle.spec_node.specs.State.{Node, fresh_with}
use Rattle.spec_node.specs.Load.{loaded, numbered as numbered_from}
use Rattle.spec_node.specs.Sound.{IsSound}
use Rattle.spec_node.specs.Laws.{originals}
use Rattle.spec_node.proofs.LoadLemmas.{All-with_originals, numbered-below}
use Rattle.spec_search.specs.Slice.{Sliced, slice}
use Rattle.spec_search.specs.Derived.{with_lines}
use Rattle.spec_search.specs.Laws.{IsCounted, AreNumbered}
use Rattle.spec_search.proofs.LineLemmas.{lines-derived, held-of_lines, lines-counted}
use Rattle.spec_proof.specs.Log.{IsLog}
use Rattle.spec_proof.specs.Among.{Among, IsClosed}
use Rattle.spec_proof.proofs.Among.{among-append}
use Rattle.spec_proof.proofs.Growing.{log-takes-originals, numbered-within}
use Rattle.spec_job.specs.Journal.{Load, after_entry, loads_of}
use Rattle.spec_job.specs.SoloMachine.{clauses_in}
use Rattle.spec_job.specs.Models.{clauses_of}
use Rattle.spec_job.proofs.LoadedLemmas.{clauses-length, clauses_in-cons}
use Rattle.spec_search.specs.Covering.{IsOfLine, IsKnown, Covers}
use Rattle.spec_search.proofs.LinesLemmas.{of-line-later, numbered-known, of-originals, take-lines}

-- a log of a job's first revisions stays one for more of them
log-longer : (xs ys : List Posted) (log : List Line) → IsLog (clauses_of xs) log → clauses_in (xs ++ ys) < 2 ^ 32 → IsLog (clauses_of (xs ++ ys)) log
log-longer xs ys log is room =
    let joined : clauses_of (xs ++ ys) ≡ clauses_of xs ++ clauses_of ys = flat_map-append (λ (p : Posted). p.clauses) xs ys in
    let count : length (clauses_of (xs ++ ys)) ≡ clauses_in (xs ++ ys) = clauses-length (xs ++ ys) in
    let size : length (clauses_of xs ++ clauses_of ys) ≡ length (clauses_of (xs ++ ys)) = ap (λ (cs : List (Option (List ℕ))). length cs) (sym joined) in
    subst (λ (cs : List (Option (List ℕ))). IsLog cs log) (sym joined) (log-takes-originals (clauses_of xs) (clauses_of ys) log is (omega arith))

pub take-split : (revisions : List Posted) (k m : ℕ) → k ≤ m → take m revisions ≡ take k revisions ++ take (m - k) (drop k revisions)
take-split revisions k m low = let sum : m ≡ k + (m - k) = omega arith in ap (λ (n : ℕ). take n revisions) sum ∙ take-add k (m - k) revisions

pub log-later : (revisions : List Posted) (k m : ℕ) (log : List Line) → k ≤ m → clauses_in revisions < 2 ^ 32 → IsLog (clauses_of (take k revisions)) log → IsLog (clauses_of (take m revisions)) log
log-later revisions k m log low room is =
    let split : take m revisions ≡ take k revisions ++ take (m - k) (drop k revisions) = take-split revisions k m low in
    let count : clauses_in (take m revisions) ≤ clauses_in revisions = sum_by-take-le (λ (r : Posted). length r.clauses) revisions m in
    let same : clauses_in (take k revisions ++ take (m - k) (drop k revisions)) ≡ clauses_in (take m revisions) = ap clauses_in (sym split) in
    subst (λ (ps : List Posted). IsLog (clauses_of ps) log) (sym split) (log-longer (take k revisions) (take (m - k) (drop k revisions)) log is (omega arith))

pub log-all : (revisions : List Posted) (k : ℕ) (log : List Line) → clauses_in revisions < 2 ^ 32 → IsLog (clauses_of (take k revisions)) log → IsLog (clauses_of revisions) log
log-all revisions k log room is =
    let split : take k revisions ++ drop k revisions ≡ revisions = take-append-drop k revisions in
    let same : clauses_in (take k revisions ++ drop k revisions) ≡ clauses_in revisions = ap clauses_in split in
    subst (λ (ps : List Posted). IsLog (clauses_of ps) log) split (log-longer (take k revisions) (drop k revisions) log is (omega arith))

pub take-more : (k : ℕ) (xs ys : List Posted) → take k (xs ++ ys) ≡ take k xs ++ take (k - length xs) ys
take-more zero xs ys = let none : 0 ≡ 0 - length xs = omega arith in ap (λ (n : ℕ). take n ys) none
take-more (suc k) [] ys = let all : suc k ≡ suc k - 0 = omega arith in ap (λ (n : ℕ). take n ys) all
take-more (suc k) (x ∷ xs) ys =
    let fewer : k - length xs ≡ suc k - suc (length xs) = omega arith in
    ap (λ (ps : List Posted). x ∷ ps) (take-more k xs ys ∙ ap (λ (n : ℕ). take k xs ++ take n ys) fewer)

pub log-revised : (revisions more : List Posted) (k : ℕ) (log : List Line) → clauses_in (revisions ++ more) < 2 ^ 32 → IsLog (clauses_of (take k revisions)) log → IsLog (clauses_of (take k (revisions ++ more))) log
log-revised revisions more k log room is =
    let split : take k (revisions ++ more) ≡ take k revisions ++ take (k - length revisions) more = take-more k revisions more in
    let count : clauses_in (take k (revisions ++ more)) ≤ clauses_in (revisions ++ more) = sum_by-take-le (λ (r : Posted). length r.clauses) (revisions ++ more) k in
    let same : clauses_in (take k revisions ++ take (k - length revisions) more) ≡ clauses_in (take k (revisions ++ more)) = ap clauses_in (sym split) in
    subst (λ (ps : List Posted). IsLog (clauses_of ps) log) (sym split) (log-longer (take k revisions) (take (k - length revisions) more) log is (omega arith))

-- a node whose derived clauses are those of lines of the log, where the log's lines of its index have lesser serials
pub record IsLogged (log : List Line) (i : ℕ) (n : Node) : Type 0 where
  pub index : n.index ≡ i
  pub held : All (λ c. 2 ^ 32 ≤ c.id → IsOfLine log c) n.clauses
  pub before : (line : Line) (k : ℕ) → Among line log → line.id ≡ 2 ^ 32 + k * 64 + i → k < n.serial

-- lines of other nodes change nothing
pub logged-later : (log more : List Line) (i : ℕ) (n : Node) → ((line : Line) (k : ℕ) → Among line more → line.id ≢ 2 ^ 32 + k * 64 + i) → IsLogged log i n → IsLogged (log ++ more) i n
logged-later log more i n others h = record {
  index = h.index;
  held = All-weaker (λ c. 2 ^ 32 ≤ c.id → IsOfLine log c) (λ c. 2 ^ 32 ≤ c.id → IsOfLine (log ++ more) c) (λ c f d. of-line-later log more c (f d)) n.clauses h.held;
  before = λ line k m q. by_side line k q (among-append log more line m);
}
  where
    by_side : (line : Line) (k : ℕ) → line.id ≡ 2 ^ 32 + k * 64 + i → Among line log ⊎ Among line more → k < n.serial
    by_side line k q (inl m) = h.before line k m q
    by_side line k q (inr m) = absurd (others line k m q)

-- the node at its first start
pub fresh-logged : (profile : Profile) (i : ℕ) → IsLogged [] i (fresh_with i profile)
fresh-logged profile i = record { index = refl; held = λ k d h. absurd (omega arith); before = λ line k m q. absurd m }

-- a load changes nothing
loaded-logged : (log : List Line) (i : ℕ) (r : Posted) (first : ℕ) (n : Node) → first + length r.clauses ≤ 2 ^ 32 → IsLogged log i n → IsLogged log i (loaded r first n)
loaded-logged log i r first n room h = record {
  index = h.index;
  held = All-with_originals (λ c. 2 ^ 32 ≤ c.id → IsOfLine log c) n.clauses (numbered_from first r.clauses) h.held (All-weaker (λ c. c.id < 2 ^ 32) (λ c. 2 ^ 32 ≤ c.id → IsOfLine log c) low (numbered_from first r.clauses) (numbered-below (2 ^ 32) first r.clauses room));
  before = h.before;
}
  where
    low : (c : NumberedClause) → c.id < 2 ^ 32 → 2 ^ 32 ≤ c.id → IsOfLine log c
    low c less more = absurd (omega arith)

pub loads-logged : (log : List Line) (i : ℕ) (rs : List Posted) (first : ℕ) (s : Sliced) → first + clauses_in rs ≤ 2 ^ 32 → IsLogged log i s.node → IsLogged log i (fold after_entry s (loads_of first rs)).node
loads-logged log i [] first s room h = h
loads-logged log i (r ∷ rs) first s room h =
    let cons : clauses_in (r ∷ rs) ≡ length r.clauses + clauses_in rs = clauses_in-cons r rs in
    loads-logged log i rs (first + length r.clauses) (after_entry s (Load r first)) (omega arith) (loaded-logged log i r first s.node (omega arith) h)

-- after a load no verdict stands
pub loads-calm : (rs : List Posted) (first : ℕ) (s : Sliced) → (length rs ≡ 0 → s.node.verdict ≡ None) → (fold after_entry s (loads_of first rs)).node.verdict ≡ None
loads-calm [] first s h = h refl
loads-calm (r ∷ rs) first s h = loads-calm rs (first + length r.clauses) (after_entry s (Load r first)) (λ e. refl)

-- what a node holds that has loaded the first of these revisions is an original, or the clause of a line
pub node-known : (front more : List Posted) (log : List Line) (i : ℕ) (n : Node) → originals n.clauses ≡ numbered_from 1 (clauses_of front) → IsLogged log i n → All (IsKnown (clauses_of (front ++ more)) log) n.clauses
node-known front more log i n held h = λ j d b. by_size _ (below j d b) (h.held j d b) (cases_lt _ (2 ^ 32))
  where
    split : clauses_of (front ++ more) ≡ clauses_of front ++ clauses_of more
    split = flat_map-append (λ (p : Posted). p.clauses) front more

    known-originals : All (λ c. numbered (clauses_of (front ++ more)) c.id ≡ Some (Some c.lits)) (originals n.clauses)
    known-originals = subst (λ (cs : List (Option (List ℕ))). All (λ (c : NumberedClause). numbered cs c.id ≡ Some (Some c.lits)) (originals n.clauses)) (sym split) (subst (λ (hs : List NumberedClause). All (λ (c : NumberedClause). numbered (clauses_of front ++ clauses_of more) c.id ≡ Some (Some c.lits)) hs) (sym held) (numbered-known (clauses_of front) (clauses_of more)))

    below : All (λ c. nat_lt c.id (2 ^ 32) ≡ true → numbered (clauses_of (front ++ more)) c.id ≡ Some (Some c.lits)) n.clauses
    below = of-originals (λ c. numbered (clauses_of (front ++ more)) c.id ≡ Some (Some c.lits)) n.clauses known-originals

    by_size : (c : NumberedClause) → (nat_lt c.id (2 ^ 32) ≡ true → numbered (clauses_of (front ++ more)) c.id ≡ Some (Some c.lits)) → (2 ^ 32 ≤ c.id → IsOfLine log c) → (c.id < 2 ^ 32) ⊎ (2 ^ 32 ≤ c.id) → IsKnown (clauses_of (front ++ more)) log c
    by_size c f g (inl less) = inl (f (lt-ltb c.id (2 ^ 32) less))
    by_size c f g (inr high) = inr (g high)

-- the log of the current revision covers a node that has loaded this revision or an earlier one
covers-node : (revisions : List Posted) (log : List Line) (m k i : ℕ) (n : Node) → m ≤ k → IsLog (clauses_of (take k revisions)) log → IsClosed log → originals n.clauses ≡ numbered_from 1 (clauses_of (take m revisions)) → IsLogged log i n → Covers (clauses_of (take k revisions)) log i n.serial n.clauses
covers-node revisions log m k i n low is closed held h = record {
  derived = is;
  closed = closed;
  known = subst (λ (ps : List Posted). All (IsKnown (clauses_of ps) log) n.clauses) (sym (take-split revisions m k low)) (node-known (take m revisions) (take (k - m) (drop m revisions)) log i n held h);
  before = h.before;
}

-- after a slice the log with its lines covers the node
pub slice-covers : (revisions : List Posted) (log : List Line) (m k i : ℕ) (n : Node) → i ≤ 63 → m ≤ k → IsLog (clauses_of (take k revisions)) log → IsClosed log → IsSound n → originals n.clauses ≡ numbered_from 1 (clauses_of (take m revisions)) → IsLogged log i n → Covers (clauses_of (take k revisions)) (log ++ (slice n).lines) i (slice n).node.serial (slice n).node.clauses
slice-covers revisions log m k i n few low is closed sound held h =
    let counted : IsCounted n = lines-counted n in
    let all : Covers (clauses_of (take k revisions)) (log ++ (slice n).lines) i (n.serial + length (slice n).lines) (with_lines n.clauses (slice n).lines) =
    take-lines (clauses_of (take k revisions)) log i n.serial n.clauses (slice n).lines few (covers-node revisions log m k i n low is closed held h) (lines-derived n sound) (subst (λ (j : ℕ). AreNumbered n.serial j (slice n).lines) h.index counted.numbered) in
    let known : NumberedClause → Type 0 = IsKnown (clauses_of (take k revisions)) (log ++ (slice n).lines) in
    record {
      derived = all.derived;
      closed = all.closed;
      known = All-weaker (Contains (with_lines n.clauses (slice n).lines)) known (λ c m. All-contains known (with_lines n.clauses (slice n).lines) c all.known m) (slice n).node.clauses (held-of_lines n sound);
      before = subst (λ (x : ℕ). (line : Line) (m : ℕ) → Among line (log ++ (slice n).lines) → line.id ≡ 2 ^ 32 + m * 64 + i → m < x) (sym counted.serial) all.before;
    }

pub covers-logged : (clauses : List (Option (List ℕ))) (log : List Line) (i : ℕ) (n : Node) → n.index ≡ i → Covers clauses log i n.serial n.clauses → IsLogged log i n
covers-logged clauses log i n e h = record {
  index = e;
  held = All-weaker (IsKnown clauses log) (λ c. 2 ^ 32 ≤ c.id → IsOfLine log c) by_source n.clauses h.known;
  before = h.before;
}
  where
    by_source : (c : NumberedClause) → IsKnown clauses log c → 2 ^ 32 ≤ c.id → IsOfLine log c
    by_source c (inl q) high = absurd (let low : length clauses < 2 ^ 32 = h.derived.originals_below in numbered-within clauses c.id (Some c.lits) q (omega arith))
    by_source c (inr k) high = k
