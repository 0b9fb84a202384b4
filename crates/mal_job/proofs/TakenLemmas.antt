-- What is taken of the log, line by line, and the marks that are moved one by one.
use Rattle.std.proofs.Common.{◌≡◌, ℕ, zero, suc, ◌+◌, ◌%◌, ◌<◌, ◌≤◌, min, Bool, true, false, cond, ◌&&◌, List, [], ◌∷◌, ◌++◌, length, map, take, drop, get_or, slice_get, Option, Some, None, refl, sym, ◌∙◌, ap, subst, arith, append_assoc}
use Rattle.std.specs.Prelude.{All, slice_set, nat_le, nat_lt, is_none, option_map}
use Rattle.std.proofs.lemmas.Option.{slice_get-map, slice_get_within}
use Rattle.std.proofs.lemmas.List.{append-nil}
use Rattle.std.proofs.lemmas.List.Elements.{All-head, All-tail}
use Rattle.mal_base.specs.Clauses.{rises}
use Rattle.mal_base.specs.NumberedClause.{NumberedClause, Line}
use Rattle.spec_job.specs.SoloMachine.{NodeSlot, is_short, takes_part}
use Rattle.mal_job.specs.Viewed.{PlaceView, place_of}
use Rattle.spec_job.specs.OnePass.{awaits, is_taken, taken_from}
use Rattle.mal_job.specs.Exports.{least_mark, marked_at, marked}
use Rattle.spec_job.proofs.OnePassLemmas.{none-before}

drop-both : (n m : ℕ) (xs : List Line) → drop m (drop n xs) ≡ drop (n + m) xs
drop-both zero m xs = let same : m ≡ 0 + m = omega arith in ap (λ (k : ℕ). drop k xs) same
drop-both (suc n) zero [] = let same : suc n ≡ suc n + 0 = omega arith in ap (λ (k : ℕ). drop k []) same
drop-both (suc n) (suc m) [] = let same : suc (n + suc m) ≡ suc n + suc m = omega arith in ap (λ (k : ℕ). drop k []) same
drop-both (suc n) m (x ∷ xs) = let same : suc (n + m) ≡ suc n + m = omega arith in drop-both n m xs ∙ ap (λ (k : ℕ). drop k (x ∷ xs)) same

-- one line more
module _ (volume : ℕ) (ps : List NodeSlot) where
  taken-next : (n : ℕ) (xs : List Line) → taken_from volume ps n (take 1 xs) ++ taken_from volume ps (n + 1) (drop 1 xs) ≡ taken_from volume ps n xs
  taken-next n [] = refl
  taken-next n (x ∷ xs) = ap (λ (es : List NumberedClause). es ++ taken_from volume ps (n + 1) xs) (append-nil (cond (is_taken volume ps n x) (record { id = x.id; lits = x.lits } ∷ []) []))

  pub taken-step : (n : ℕ) (log : List Line) (before after all : List NumberedClause) → before ++ taken_from volume ps n (drop n log) ≡ all → after ≡ before ++ taken_from volume ps n (take 1 (drop n log)) → after ++ taken_from volume ps (n + 1) (drop (n + 1) log) ≡ all
  taken-step n log before after all e f =
      let rest : List Line = drop n log in
      ap (λ (es : List NumberedClause). es ++ taken_from volume ps (n + 1) (drop (n + 1) log)) f
      ∙ (ap (λ (ls : List Line). (before ++ taken_from volume ps n (take 1 rest)) ++ taken_from volume ps (n + 1) ls) (sym (drop-both n 1 log))
      ∙ (append_assoc before (taken_from volume ps n (take 1 rest)) (taken_from volume ps (n + 1) (drop 1 rest))
      ∙ (ap (λ (es : List NumberedClause). before ++ es) (taken-next n rest) ∙ e)))

  -- no line is left
  pub taken-end : (n : ℕ) (log : List Line) (all entries : List NumberedClause) → length log ≤ n → entries ++ taken_from volume ps n (drop n log) ≡ all → entries ≡ all
  taken-end n log all entries low e = sym (append-nil entries) ∙ (ap (λ (ls : List Line). entries ++ taken_from volume ps n ls) (sym (none n log low)) ∙ e)
    where
      none : (n : ℕ) (xs : List Line) → length xs ≤ n → drop n xs ≡ []
      none zero [] low = refl
      none (suc n) [] low = refl
      none zero (x ∷ xs) low = absurd (omega arith)
      none (suc n) (x ∷ xs) low = none n xs (omega arith)

  -- a line that its place does not wait for
  pub taken-none : (k n id : ℕ) (log : List Line) → k < length log → ((line : Line) → slice_get log k ≡ Some line → id ≡ line.id) → awaits volume ps (id % 64) n ≡ false → taken_from volume ps n (take 1 (drop k log)) ≡ []
  taken-none k n id [] low same_id e = absurd (omega arith)
  taken-none zero n id (x ∷ xs) low same_id e =
      let own : awaits volume ps (x.id % 64) n ≡ false = ap (λ (i : ℕ). awaits volume ps (i % 64) n) (sym (same_id x refl)) ∙ e in
      ap (λ (b : Bool). cond (b && is_short x) (record { id = x.id; lits = x.lits } ∷ []) [] ++ []) own
  taken-none (suc k) n id (x ∷ xs) low same_id e = taken-none k n id xs (omega arith) (λ line g. same_id line g) e

  -- one line: its number tells whose it is, and its length whether it is exported
  pub taken-one : (k n id : ℕ) (log : List Line) (lits : List ℕ) (due short : Bool) → k < length log → ((line : Line) → slice_get log k ≡ Some line → id ≡ line.id) → ((line : Line) → slice_get log k ≡ Some line → lits ≡ line.lits) → awaits volume ps (id % 64) n ≡ due → (nat_le 1 (length lits) && nat_le (length lits) 16) ≡ short → taken_from volume ps n (take 1 (drop k log)) ≡ cond (due && short) (record { id = id; lits = lits } ∷ []) []
  taken-one k n id [] lits due short low same_id same_lits e f = absurd (omega arith)
  taken-one zero n id (x ∷ xs) lits due short low same_id same_lits e f = by_line (same_id x refl) (same_lits x refl)
    where
      entry : ℕ → List ℕ → NumberedClause
      entry i ls = record { id = i; lits = ls }

      by_line : id ≡ x.id → lits ≡ x.lits → taken_from volume ps n (x ∷ []) ≡ cond (due && short) (record { id = id; lits = lits } ∷ []) []
      by_line g h = subst (λ (i : ℕ). awaits volume ps (i % 64) n ≡ due → taken_from volume ps n (x ∷ []) ≡ cond (due && short) (record { id = i; lits = lits } ∷ []) []) (sym g)
          (subst (λ (ls : List ℕ). (nat_le 1 (length ls) && nat_le (length ls) 16) ≡ short → awaits volume ps (x.id % 64) n ≡ due → taken_from volume ps n (x ∷ []) ≡ cond (due && short) (record { id = x.id; lits = ls } ∷ []) []) (sym h) (λ s o. rw (o, s) (append-nil (cond (due && short) (record { id = x.id; lits = x.lits } ∷ []) []))) f) e
  taken-one (suc k) n id (x ∷ xs) lits due short low same_id same_lits e f = taken-one k n id xs lits due short (omega arith) (λ line g. same_id line g) (λ line g. same_lits line g) e f

-- where the literals of each line rise by variable, so do those of the line at a place
pub rising-at : (n : ℕ) (log : List Line) (lits : List ℕ) → n < length log → ((line : Line) → slice_get log n ≡ Some line → lits ≡ line.lits) → All (λ line. rises line.lits ≡ true) log → rises lits ≡ true
rising-at n [] lits low same up = absurd (omega arith)
rising-at zero (x ∷ xs) lits low same up = ap rises (same x refl) ∙ All-head (λ line. rises line.lits ≡ true) x xs up
rising-at (suc n) (x ∷ xs) lits low same up = rising-at n xs lits (omega arith) (λ line e. same line e) (All-tail (λ line. rises line.lits ≡ true) x xs up)

-- the least mark is none above that of a place at home
least-below : (most : ℕ) (ps : List PlaceView) → least_mark most ps ≤ most
least-below most [] = omega arith
least-below most (p ∷ ps) = by_test (is_none p.out) (least-below (min most p.mark) ps) (least-below most ps)
  where
    by_test : (b : Bool) → least_mark (min most p.mark) ps ≤ min most p.mark → least_mark most ps ≤ most → least_mark (cond b (min most p.mark) most) ps ≤ most
    by_test true there here = omega (arith, there)
    by_test false there here = here

least-at : (most i : ℕ) (ps : List PlaceView) (p : PlaceView) → slice_get ps i ≡ Some p → is_none p.out ≡ true → least_mark most ps ≤ p.mark
least-at most i [] p e home = absurd (omega (arith, slice_get_within [] i p e))
least-at most zero (q ∷ ps) p e home =
    let same : q ≡ p = some-same q p e in
    let here : is_none q.out ≡ true = ap (λ (x : PlaceView). is_none x.out) same ∙ home in
    let low : least_mark (min most q.mark) ps ≤ min most q.mark = least-below (min most q.mark) ps in
    let mark : q.mark ≡ p.mark = ap (λ (x : PlaceView). x.mark) same in
    subst (λ (b : Bool). least_mark (cond b (min most q.mark) most) ps ≤ p.mark) (sym here) (omega (arith, low, mark))
  where
    some-same : (x y : PlaceView) → Some x ≡ Some y → x ≡ y
    some-same x y k = cc
least-at most (suc i) (q ∷ ps) p e home = least-at (cond (is_none q.out) (min most q.mark) most) i ps p e home

pub taken-start : (most : ℕ) (log : List Line) (ps : List PlaceView) → taken_from (length ps) (map place_of ps) (least_mark most ps) (drop (least_mark most ps) log) ≡ taken_from (length ps) (map place_of ps) 0 log
taken-start most log ps = sym (none-before (length ps) (least_mark most ps) log (map place_of ps) (λ i s e part. by_place i s (slice_get ps i) refl (sym (slice_get-map place_of ps i) ∙ e) part))
  where
    by_place : (i : ℕ) (s : NodeSlot) (o : Option PlaceView) → slice_get ps i ≡ o → option_map place_of o ≡ Some s → takes_part (length ps) i s ≡ true → least_mark most ps ≤ s.mark
    by_place i s None e f part = absurd (cc)
    by_place i s (Some p) e f part =
        let same : place_of p ≡ s = cc in
        let here : (nat_lt i (length ps) && is_none p.out) ≡ true = ap (λ (x : NodeSlot). takes_part (length ps) i x) same ∙ part in
        let mark : p.mark ≡ s.mark = ap (λ (x : NodeSlot). x.mark) same in
        let low : least_mark most ps ≤ p.mark = least-at most i ps p e (second (nat_lt i (length ps)) (is_none p.out) here) in
        omega (arith, low, mark)
      where
        second : (a b : Bool) → (a && b) ≡ true → b ≡ true
        second true b h = h
        second false b h = absurd (cc)

-- one mark more is moved
pub marked-next : (k mark : ℕ) (ps : List PlaceView) (d : PlaceView) → k < length ps → slice_set (marked k mark ps) k (marked_at mark (get_or (marked k mark ps) k d)) ≡ marked (suc k) mark ps
marked-next zero mark [] d low = absurd (omega arith)
marked-next zero mark (p ∷ ps) d low = refl
marked-next (suc k) mark [] d low = absurd (omega arith)
marked-next (suc k) mark (p ∷ ps) d low = ap (λ (xs : List PlaceView). marked_at mark p ∷ xs) (marked-next k mark ps d (omega arith))

pub marked-step : (k mark : ℕ) (ps qs : List PlaceView) (old new : PlaceView) → k < length ps → qs ≡ marked k mark ps → old ≡ get_or qs k old → new ≡ marked_at mark old → slice_set qs k new ≡ marked (k + 1) mark ps
marked-step k mark ps qs old new low e f g =
    let same : suc k ≡ k + 1 = omega arith in
    ap (λ (p : PlaceView). slice_set qs k p) (g ∙ ap (λ (p : PlaceView). marked_at mark p) f)
    ∙ (ap (λ (xs : List PlaceView). slice_set xs k (marked_at mark (get_or xs k old))) e
    ∙ (marked-next k mark ps old low ∙ ap (λ (n : ℕ). marked n mark ps) same))
