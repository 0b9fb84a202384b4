-- What places export are clauses of lines of the log, and so is what is told to all.
use Rattle.std.proofs.Common.{◌≡◌, ◌≢◌, ℕ, zero, suc, ◌+◌, ◌-◌, Bool, true, false, cond, nat_le, List, [], ◌∷◌, length, map, drop, refl, sym, ◌∙◌, subst, inl, inr}
use Rattle.std.specs.Prelude.{All, filter}
use Rattle.std.specs.declared.cmp.Ordering.{Ordering}
use Rattle.std.specs.declared.cmp.Ordering.TheVariants.{Less, Equal, Greater}
use Rattle.std.proofs.lemmas.List.Elements.{All-nil, All-cons, All-head, All-tail, All-append}
use Rattle.mal_base.specs.NumberedClause.{NumberedClause, Line}
use Rattle.spec_node.specs.Laws.{HaveOwnNumbers}
use Rattle.spec_exchange.specs.Exchange.{lits_cmp, lesser, put_by, put, union, prefix, most_literals, broadcast}
use Rattle.spec_exchange.specs.Order.{IsBefore, IsSorted}
use Rattle.spec_exchange.proofs.OrderLemmas.{cmp_itself, before-trans}
use Rattle.spec_exchange.proofs.UnionLemmas.{union-sorted}
use Rattle.spec_proof.specs.Log.{AreApart}
use Rattle.spec_proof.specs.Among.{Among}
use Rattle.spec_job.specs.SoloMachine.{NodeSlot, is_exported, exports_of, takes_part, exports_from}
use Rattle.spec_search.specs.Covering.{IsOfLine}
use Rattle.spec_job.proofs.ImportingLemmas.{IsSaid, told-same, clause_of}

-- what holds of one entry and of others holds of their union
All-put : (P : NumberedClause → Type 0) (e : NumberedClause) (xs : List NumberedClause) → P e → All P xs → All P (put e xs)
All-put P e [] h k = All-cons P e [] h k
All-put P e (x ∷ xs) h k = by_order (lits_cmp e.lits x.lits) (All-put P e xs h (All-tail P x xs k))
  where
    by_least : (b : Bool) → P (cond b e x)
    by_least true = h
    by_least false = All-head P x xs k

    by_order : (o : Ordering) → All P (put e xs) → All P (put_by o e x xs (put e xs))
    by_order Less rest = All-cons P e (x ∷ xs) h k
    by_order Equal rest = All-cons P (lesser e x) xs (by_least (nat_le e.id x.id)) (All-tail P x xs k)
    by_order Greater rest = All-cons P x (put e xs) (All-head P x xs k) rest

All-union : (P : NumberedClause → Type 0) (es : List NumberedClause) → All P es → All P (union es)
All-union P [] h = h
All-union P (e ∷ es) h = All-put P e (union es) (All-head P e es h) (All-union P es (All-tail P e es h))

-- what holds of all entries holds of those of a prefix
All-prefix : (P : NumberedClause → Type 0) (room : ℕ) (es : List NumberedClause) → All P es → All P (prefix room es)
All-prefix P room [] h = h
All-prefix P room (e ∷ es) h = by_fit (nat_le (length e.lits) room) (All-prefix P (room - length e.lits) es (All-tail P e es h))
  where
    by_fit : (b : Bool) → All P (prefix (room - length e.lits) es) → All P (cond b (e ∷ prefix (room - length e.lits) es) [])
    by_fit true rest = All-cons P e (prefix (room - length e.lits) es) (All-head P e es h) rest
    by_fit false rest = All-nil P

-- what holds of all exports holds of what is told to all
pub All-broadcast : (P : NumberedClause → Type 0) (exports : List NumberedClause) → All P exports → All P (broadcast exports)
All-broadcast P exports h = All-prefix P most_literals (union exports) (All-union P exports h)

own-prefix : (room : ℕ) (es : List NumberedClause) → HaveOwnNumbers es → HaveOwnNumbers (prefix room es)
own-prefix room [] h = h
own-prefix room (e ∷ es) h = by_fit (nat_le (length e.lits) room) (own-prefix (room - length e.lits) es h.1)
  where
    by_fit : (b : Bool) → HaveOwnNumbers (prefix (room - length e.lits) es) → HaveOwnNumbers (cond b (e ∷ prefix (room - length e.lits) es) [])
    by_fit true rest = (All-prefix (λ d. e.id ≢ d.id) (room - length e.lits) es h.0, rest)
    by_fit false rest = tt

-- the first of sorted entries comes before each other
before-all : (a : List ℕ) (xs : List NumberedClause) → IsSorted xs → IsBefore a xs → All (λ d. lits_cmp a d.lits ≡ Less) xs
before-all a [] s b = All-nil (λ d. lits_cmp a d.lits ≡ Less)
before-all a (x ∷ xs) (c, s) b = All-cons (λ d. lits_cmp a d.lits ≡ Less) x xs b (before-all a xs s (before-trans a x xs b c))

-- sorted clauses of lines have numbers of their own
own-sorted : (log : List Line) (xs : List NumberedClause) → AreApart log → All (IsOfLine log) xs → IsSorted xs → HaveOwnNumbers xs
own-sorted log [] apart h s = tt
own-sorted log (x ∷ xs) apart h (b, s) = (others xs (All-tail (IsOfLine log) x xs h) (before-all x.lits xs s b), own-sorted log xs apart (All-tail (IsOfLine log) x xs h) s)
  where
    differ : (d : NumberedClause) → IsOfLine log d → lits_cmp x.lits d.lits ≡ Less → x.id ≢ d.id
    differ d k less e =
        let same : x.lits ≡ d.lits = told-same log apart x d (All-head (IsOfLine log) x xs h) k e in
        let equal : lits_cmp x.lits d.lits ≡ Equal = subst (λ (l : List ℕ). lits_cmp x.lits l ≡ Equal) same (cmp_itself x.lits) in
        let bad : Less ≡ Equal = sym less ∙ equal in
        absurd (cc)

    others : (ds : List NumberedClause) → All (IsOfLine log) ds → All (λ d. lits_cmp x.lits d.lits ≡ Less) ds → All (λ d. x.id ≢ d.id) ds
    others [] k l = All-nil (λ d. x.id ≢ d.id)
    others (d ∷ ds) k l = All-cons (λ y. x.id ≢ y.id) d ds (differ d (All-head (IsOfLine log) d ds k) (All-head (λ y. lits_cmp x.lits y.lits ≡ Less) d ds l)) (others ds (All-tail (IsOfLine log) d ds k) (All-tail (λ y. lits_cmp x.lits y.lits ≡ Less) d ds l))

-- a broadcast of clauses of lines may be told
pub broadcast-said : (log : List Line) (exports : List NumberedClause) → AreApart log → All (IsOfLine log) exports → IsSaid log (broadcast exports)
broadcast-said log exports apart h =
    let all : All (IsOfLine log) (union exports) = All-union (IsOfLine log) exports h in
    record { lines = All-prefix (IsOfLine log) most_literals (union exports) all; apart = own-prefix most_literals (union exports) (own-sorted log (union exports) apart all (union-sorted exports)) }

among-dropped : (k : ℕ) (log : List Line) (line : Line) → Among line (drop k log) → Among line log
among-dropped zero log line m = m
among-dropped (suc k) [] line m = m
among-dropped (suc k) (x ∷ xs) line m = inr (among-dropped k xs line m)

exported-lines : (log : List Line) (test : Line → Bool) (lines : List Line) → ((line : Line) → Among line lines → Among line log) → All (IsOfLine log) (map clause_of (filter test lines))
exported-lines log test [] h = All-nil (IsOfLine log)
exported-lines log test (l ∷ ls) h = by_test (test l) (exported-lines log test ls (λ line m. h line (inr m)))
  where
    by_test : (b : Bool) → All (IsOfLine log) (map clause_of (filter test ls)) → All (IsOfLine log) (map clause_of (cond b (l ∷ filter test ls) (filter test ls)))
    by_test true rest = All-cons (IsOfLine log) (clause_of l) (map clause_of (filter test ls)) (l, h l (inl refl), refl, refl) rest
    by_test false rest = rest

-- the exports of a place
pub exports-lines : (log : List Line) (i : ℕ) (p : NodeSlot) → All (IsOfLine log) (exports_of log i p)
exports-lines log i p = exported-lines log (is_exported i) (drop p.mark log) (λ line m. among-dropped p.mark log line m)

-- the exports of all that take part
pub all-exports : (volume : ℕ) (log : List Line) (i : ℕ) (ps : List NodeSlot) → All (IsOfLine log) (exports_from volume log i ps)
all-exports volume log i [] = All-nil (IsOfLine log)
all-exports volume log i (p ∷ ps) = All-append (IsOfLine log) (cond (takes_part volume i p) (exports_of log i p) []) (exports_from volume log (i + 1) ps) (by_part (takes_part volume i p)) (all-exports volume log (i + 1) ps)
  where
    by_part : (b : Bool) → All (IsOfLine log) (cond b (exports_of log i p) [])
    by_part true = exports-lines log i p
    by_part false = All-nil (IsOfLine log)
