-- One pass over the log finds the exports of all places.
use Rattle.std.proofs.Common.{◌≡◌, ℕ, zero, suc, ◌+◌, ◌-◌, ◌%◌, ◌<◌, ◌≤◌, Bool, true, false, cond, ◌==◌, ◌&&◌, nat_le, List, [], ◌∷◌, ◌++◌, map, drop, slice_get, Option, Some, None, refl, sym, ◌∙◌, ap, arith}
use Rattle.std.specs.Prelude.{filter}
use Rattle.std.specs.Option.{option_map_or}
use Rattle.std.proofs.lemmas.Bool.{leb-true, leb-false, lt-leb, eq-eqb, ne_eqb}
use Rattle.mal_base.specs.NumberedClause.{NumberedClause, Line}
use Rattle.spec_exchange.specs.Exchange.{union, prefix, most_literals}
use Rattle.spec_exchange.specs.Order.{least_of, least_id}
use Rattle.spec_exchange.proofs.OrderLemmas.{least-shuffle}
use Rattle.spec_exchange.proofs.UnionLemmas.{union-sorted, union-least, append-least, decided}
use Rattle.spec_job.specs.SoloMachine.{NodeSlot, is_short, is_exported, exports_of, takes_part, exports_from}
use Rattle.spec_job.specs.OnePass.{awaits, is_taken, taken_from, OnePassFindsAll, NoneBeforeMarks}

abbrev clause_of : Line → NumberedClause
clause_of l = record { id = l.id; lits = l.lits }

-- what a place exports of lines of which the first stands so far in the log
abbrev exports_at : ℕ → ℕ → NodeSlot → List Line → List NumberedClause
exports_at n i p lines = map clause_of (filter (is_exported i) (drop (p.mark - n) lines))

-- the same of all places that take part, of which the first has this index
abbrev all_at : ℕ → ℕ → ℕ → List NodeSlot → List Line → List NumberedClause
all_at volume n i [] lines = []
all_at volume n i (p ∷ ps) lines = cond (takes_part volume i p) (exports_at n i p lines) [] ++ all_at volume n (i + 1) ps lines

-- of one line
abbrev one_at : ℕ → ℕ → Line → ℕ → NodeSlot → List NumberedClause
one_at volume n l i p = cond ((takes_part volume i p && nat_le p.mark n) && is_exported i l) (clause_of l ∷ []) []

abbrev ones_at : ℕ → ℕ → Line → ℕ → List NodeSlot → List NumberedClause
ones_at volume n l i [] = []
ones_at volume n l i (p ∷ ps) = one_at volume n l i p ++ ones_at volume n l (i + 1) ps

all-start : (volume i : ℕ) (ps : List NodeSlot) (log : List Line) → all_at volume 0 i ps log ≡ exports_from volume log i ps
all-start volume i [] log = refl
all-start volume i (p ∷ ps) log =
    let whole : p.mark - 0 ≡ p.mark = omega arith in
    ap (λ (k : ℕ). cond (takes_part volume i p) (map clause_of (filter (is_exported i) (drop k log))) [] ++ all_at volume 0 (i + 1) ps log) whole
    ∙ ap (λ (es : List NumberedClause). cond (takes_part volume i p) (exports_of log i p) [] ++ es) (all-start volume (i + 1) ps log)

all-nothing : (volume n i : ℕ) (ps : List NodeSlot) → all_at volume n i ps [] ≡ []
all-nothing volume n i [] = refl
all-nothing volume n i (p ∷ ps) =
    ap (λ (es : List NumberedClause). es ++ all_at volume n (i + 1) ps []) (by_test (takes_part volume i p) (p.mark - n))
    ∙ all-nothing volume n (i + 1) ps
  where
    by_test : (b : Bool) (k : ℕ) → cond b (map clause_of (filter (is_exported i) (drop k []))) [] ≡ []
    by_test false k = refl
    by_test true zero = refl
    by_test true (suc k) = refl

-- a place's exports of a line and of those after it
place-next : (volume n i : ℕ) (p : NodeSlot) (l : Line) (ls : List Line) → cond (takes_part volume i p) (exports_at n i p (l ∷ ls)) [] ≡ one_at volume n l i p ++ cond (takes_part volume i p) (exports_at (n + 1) i p ls) []
place-next volume n i p l ls = by_part (takes_part volume i p)
  where
    one_more : (b : Bool) → map clause_of (cond b (l ∷ filter (is_exported i) ls) (filter (is_exported i) ls)) ≡ cond b (clause_of l ∷ []) [] ++ map clause_of (filter (is_exported i) ls)
    one_more true = refl
    one_more false = refl

    by_mark : (b : Bool) → nat_le p.mark n ≡ b → exports_at n i p (l ∷ ls) ≡ cond (b && is_exported i l) (clause_of l ∷ []) [] ++ exports_at (n + 1) i p ls
    by_mark true h =
        let low : p.mark ≤ n = leb-true p.mark n h in
        let here : p.mark - n ≡ 0 = omega arith in
        let next : p.mark - (n + 1) ≡ 0 = omega arith in
        ap (λ (k : ℕ). map clause_of (filter (is_exported i) (drop k (l ∷ ls)))) here
        ∙ (one_more (is_exported i l)
        ∙ ap (λ (k : ℕ). cond (is_exported i l) (clause_of l ∷ []) [] ++ map clause_of (filter (is_exported i) (drop k ls))) (sym next))
    by_mark false h =
        let high : n < p.mark = leb-false p.mark n h in
        let here : p.mark - n ≡ suc (p.mark - (n + 1)) = omega arith in
        ap (λ (k : ℕ). map clause_of (filter (is_exported i) (drop k (l ∷ ls)))) here

    by_part : (b : Bool) → cond b (exports_at n i p (l ∷ ls)) [] ≡ cond ((b && nat_le p.mark n) && is_exported i l) (clause_of l ∷ []) [] ++ cond b (exports_at (n + 1) i p ls) []
    by_part true = by_mark (nat_le p.mark n) refl
    by_part false = refl

-- those of all places, in any order
all-next : (lits : List ℕ) (volume n i : ℕ) (ps : List NodeSlot) (l : Line) (ls : List Line) → least_id lits (all_at volume n i ps (l ∷ ls)) ≡ least_of (least_id lits (ones_at volume n l i ps)) (least_id lits (all_at volume (n + 1) i ps ls))
all-next lits volume n i [] l ls = refl
all-next lits volume n i (p ∷ ps) l ls =
    let one : List NumberedClause = one_at volume n l i p in
    let own : List NumberedClause = cond (takes_part volume i p) (exports_at (n + 1) i p ls) [] in
    let ones : List NumberedClause = ones_at volume n l (i + 1) ps in
    let others : List NumberedClause = all_at volume (n + 1) (i + 1) ps ls in
    append-least (cond (takes_part volume i p) (exports_at n i p (l ∷ ls)) []) (all_at volume n (i + 1) ps (l ∷ ls)) lits
    ∙ (ap (λ (o : Option ℕ). least_of o (least_id lits (all_at volume n (i + 1) ps (l ∷ ls)))) (ap (least_id lits) (place-next volume n i p l ls) ∙ append-least one own lits)
    ∙ (ap (least_of (least_of (least_id lits one) (least_id lits own))) (all-next lits volume n (i + 1) ps l ls)
    ∙ (least-shuffle (least_id lits one) (least_id lits own) (least_id lits ones) (least_id lits others)
    ∙ (ap (λ (o : Option ℕ). least_of o (least_of (least_id lits own) (least_id lits others))) (sym (append-least one ones lits))
    ∙ ap (least_of (least_id lits (one ++ ones))) (sym (append-least own others lits))))))

-- only the place that a line's number names exports it
other-place : (volume n i : ℕ) (l : Line) (p : NodeSlot) → (l.id % 64 ≡ i → ⊥) → one_at volume n l i p ≡ []
other-place volume n i l p differs = by_part (takes_part volume i p && nat_le p.mark n)
  where
    other : (l.id % 64 == i) ≡ false
    other = ne_eqb (l.id % 64) i differs

    by_part : (b : Bool) → cond (b && ((l.id % 64 == i) && is_short l)) (clause_of l ∷ []) [] ≡ []
    by_part true = ap (λ (t : Bool). cond (t && is_short l) (clause_of l ∷ []) []) other
    by_part false = refl

none-beyond : (volume n i : ℕ) (l : Line) (ps : List NodeSlot) → l.id % 64 < i → ones_at volume n l i ps ≡ []
none-beyond volume n i l [] low = refl
none-beyond volume n i l (p ∷ ps) low = ap (λ (es : List NumberedClause). es ++ ones_at volume n l (i + 1) ps) (other-place volume n i l p (λ e. absurd (omega (arith, e, low)))) ∙ none-beyond volume n (i + 1) l ps (omega arith)

ones-found : (volume n i j : ℕ) (l : Line) (ps : List NodeSlot) → i + j ≡ l.id % 64 → ones_at volume n l i ps ≡ cond (option_map_or (λ (p : NodeSlot). takes_part volume (l.id % 64) p && nat_le p.mark n) (slice_get ps j) false && is_short l) (clause_of l ∷ []) []
ones-found volume n i zero l [] e = refl
ones-found volume n i (suc j) l [] e = refl
ones-found volume n i zero l (p ∷ ps) e =
    let here : i ≡ l.id % 64 = omega (arith, e) in
    let own : (l.id % 64 == l.id % 64) ≡ true = eq-eqb (l.id % 64) (l.id % 64) refl in
    ap (λ (es : List NumberedClause). one_at volume n l i p ++ es) (none-beyond volume n (i + 1) l ps (omega (arith, here)))
    ∙ (ap (λ (k : ℕ). one_at volume n l k p ++ []) here
    ∙ (ap (λ (t : Bool). cond ((takes_part volume (l.id % 64) p && nat_le p.mark n) && (t && is_short l)) (clause_of l ∷ []) [] ++ []) own
    ∙ by_test ((takes_part volume (l.id % 64) p && nat_le p.mark n) && is_short l)))
  where
    by_test : (b : Bool) → cond b (clause_of l ∷ []) [] ++ [] ≡ cond b (clause_of l ∷ []) []
    by_test true = refl
    by_test false = refl
ones-found volume n i (suc j) l (p ∷ ps) e =
    ap (λ (es : List NumberedClause). es ++ ones_at volume n l (i + 1) ps) (other-place volume n i l p (λ k. absurd (omega (arith, e, k))))
    ∙ ones-found volume n (i + 1) j l ps (omega (arith, e))

-- line by line the least numbers are those of all places
taken-least : (lits : List ℕ) (volume n : ℕ) (ps : List NodeSlot) (lines : List Line) → least_id lits (taken_from volume ps n lines) ≡ least_id lits (all_at volume n 0 ps lines)
taken-least lits volume n ps [] = ap (least_id lits) (sym (all-nothing volume n 0 ps))
taken-least lits volume n ps (l ∷ ls) =
    let one : List NumberedClause = cond (is_taken volume ps n l) (clause_of l ∷ []) [] in
    append-least one (taken_from volume ps (n + 1) ls) lits
    ∙ (ap (least_of (least_id lits one)) (taken-least lits volume (n + 1) ps ls)
    ∙ (ap (λ (es : List NumberedClause). least_of (least_id lits es) (least_id lits (all_at volume (n + 1) 0 ps ls))) (sym (ones-found volume n 0 (l.id % 64) l ps (omega arith)))
    ∙ sym (all-next lits volume n 0 ps l ls)))

pub one-pass : OnePassFindsAll
one-pass volume log places =
    ap (prefix most_literals) (decided (union (taken_from volume places 0 log)) (union (exports_from volume log 0 places)) (union-sorted (taken_from volume places 0 log)) (union-sorted (exports_from volume log 0 places)) (λ lits.
    union-least (taken_from volume places 0 log) lits
    ∙ (taken-least lits volume 0 places log
    ∙ (ap (least_id lits) (all-start volume 0 places log)
    ∙ sym (union-least (exports_from volume log 0 places) lits)))))

-- before all marks
module _ (volume first : ℕ) (places : List NodeSlot) (low : (i : ℕ) (p : NodeSlot) → slice_get places i ≡ Some p → takes_part volume i p ≡ true → first ≤ p.mark) where
  not-awaited : (i n : ℕ) → n < first → awaits volume places i n ≡ false
  not-awaited i n before = by_place (slice_get places i) refl
    where
      by_mark : (p : NodeSlot) (b : Bool) → takes_part volume i p ≡ b → slice_get places i ≡ Some p → (b && nat_le p.mark n) ≡ false
      by_mark p true part e = let high : first ≤ p.mark = low i p e part in lt-leb p.mark n (omega arith)
      by_mark p false part e = refl

      by_place : (o : Option NodeSlot) → slice_get places i ≡ o → option_map_or (λ (p : NodeSlot). takes_part volume i p && nat_le p.mark n) o false ≡ false
      by_place None e = refl
      by_place (Some p) e = by_mark p (takes_part volume i p) refl e

  skipped : (j n : ℕ) (lines : List Line) → n + j ≤ first → taken_from volume places n lines ≡ taken_from volume places (n + j) (drop j lines)
  skipped zero n lines h = let same : n ≡ n + 0 = omega arith in ap (λ (k : ℕ). taken_from volume places k lines) same
  skipped (suc j) n [] h = refl
  skipped (suc j) n (l ∷ ls) h =
      let next : (n + 1) + j ≡ n + suc j = omega arith in
      ap (λ (b : Bool). cond (b && is_short l) (clause_of l ∷ []) [] ++ taken_from volume places (n + 1) ls) (not-awaited (l.id % 64) n (omega (arith, h)))
      ∙ (skipped j (n + 1) ls (omega (arith, h)) ∙ ap (λ (k : ℕ). taken_from volume places k (drop j ls)) next)

pub none-before : NoneBeforeMarks
none-before volume first log places low =
    let all : 0 + first ≡ first = omega arith in
    skipped volume first places low first 0 log (omega arith) ∙ ap (λ (k : ℕ). taken_from volume places k (drop first log)) all
