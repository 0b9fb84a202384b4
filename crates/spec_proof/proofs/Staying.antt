-- What is trimmed does not change when more lines are entered.
use Rattle.std.proofs.Common.{◌≡◌, ◌≢◌, ℕ, true, ◌<◌, ◌≤◌, ◌^◌, List, [], ◌∷◌, ◌++◌, Contains, map, refl, sym, ◌∙◌, subst, ap, inl, inr}
use Rattle.std.specs.Prelude.{All, Any}
use Rattle.std.proofs.lemmas.List.Elements.{All-contains, All-map, All-append, All-cons, All-nil, All-weaker, Contains-append_left}
use Rattle.std.proofs.lemmas.List.{map-append}
use Rattle.mal_base.specs.NumberedClause.{Line}
use Rattle.spec_proof.specs.Log.{IsAbove, AreApart, IsOrderly, AreClosed}
use Rattle.spec_proof.specs.Trimmed.{by_id, AreRising, reached, ids_of, new_id, renamed, renumbered}
use Rattle.spec_proof.specs.Laws.{GoalStaysLast, LaterLinesDoNotMatter, ClosedLinesGrow, LitsStay}
use Rattle.spec_proof.specs.Among.{Among}
use Rattle.spec_proof.proofs.Among.{among-from_contains, of-all, all-from_among}
use Rattle.spec_proof.proofs.Reaching.{sorted-among, among-sorted, sorted-rising, reached-among, reached-rising, reached-goal, reached-hints, reached-least, goal-is-last}
use Rattle.spec_proof.proofs.OrderLemmas.{rising-same}

among-left : (xs ys : List Line) (y : Line) → Among y xs → Among y (xs ++ ys)
among-left [] ys y h = absurd h
among-left (x ∷ xs) ys y (inl e) = inl e
among-left (x ∷ xs) ys y (inr h) = inr (among-left xs ys y h)

-- lines with numbers of their own are equal where their numbers are
same-line : (lines : List Line) → AreApart lines → (y z : Line) → Among y lines → Among z lines → y.id ≡ z.id → y ≡ z
same-line [] apart y z h k e = absurd h
same-line (x ∷ xs) apart y z (inl p) (inl q) e = sym p ∙ q
same-line (x ∷ xs) apart y z (inl p) (inr k) e = absurd (of-all (λ other. other.id ≢ x.id) xs z apart.0 k (sym e ∙ sym (ap (λ (l : Line). l.id) p)))
same-line (x ∷ xs) apart y z (inr h) (inl q) e = absurd (of-all (λ other. other.id ≢ x.id) xs y apart.0 h (e ∙ sym (ap (λ (l : Line). l.id) q)))
same-line (x ∷ xs) apart y z (inr h) (inr k) e = same-line xs apart.1 y z h k e

-- a line with this number
abbrev HasId : List Line → ℕ → Type 0
HasId lines id = (line : Line) × Among line lines × (line.id ≡ id)

has-id : (lines : List Line) (id : ℕ) → Any (λ line. line.id ≡ id) lines → HasId lines id
has-id lines id (k, x, h, e, q) = (x, among-from_contains lines x (k, h, e), q)

module _ (goal : ℕ) (lines more : List Line) (is : IsOrderly (lines ++ more)) (closed : AreClosed lines) (has : Any (λ line. line.id ≡ goal) lines) where
  -- a line of all that has the number of an early one is that one
  early : (y : Line) → Among y (lines ++ more) → HasId lines y.id → Among y lines
  early y h (z, k, e) = subst (λ (l : Line). Among l lines) (same-line (lines ++ more) is.apart z y (among-left lines more z k) h e) k

  below : (y o : Line) → Among y (lines ++ more) → Contains y.hints o.id → o.id < y.id
  below y o h c = All-contains (λ hint. hint < y.id) y.hints o.id (of-all IsAbove (lines ++ more) y is.above h).above c

  apart-early : (xs ys : List Line) → AreApart (xs ++ ys) → AreApart xs
  apart-early [] ys apart = tt
  apart-early (x ∷ xs) ys apart = (all-from_among (λ other. other.id ≢ x.id) xs (λ y h. of-all (λ other. other.id ≢ x.id) (xs ++ ys) y apart.0 (among-left xs ys y h)), apart-early xs ys apart.1)

  rising-all : AreRising (by_id (lines ++ more))
  rising-all = sorted-rising (lines ++ more) is.apart

  rising-early : AreRising (by_id lines)
  rising-early = sorted-rising lines (apart-early lines more is.apart)

  in-early : (y : Line) → Among y (reached goal lines) → Among y lines
  in-early y h = among-sorted lines y (reached-among goal (by_id lines) y h)

  in-all : (y : Line) → Among y (reached goal (lines ++ more)) → Among y (lines ++ more)
  in-all y h = among-sorted (lines ++ more) y (reached-among goal (by_id (lines ++ more)) y h)

  there : (y : Line) → Among y (reached goal (lines ++ more)) → Among y (reached goal lines)
  there y h = reached-least goal (by_id (lines ++ more)) (λ l. Among l (reached goal lines)) first next y h
    where
      first : (z : Line) → Among z (by_id (lines ++ more)) → z.id ≡ goal → Among z (reached goal lines)
      first z k e = reached-goal goal (by_id lines) z (sorted-among lines z (early z (among-sorted (lines ++ more) z k) (subst (HasId lines) (sym e) (has-id lines goal has)))) e

      next : (z o : Line) → Among z (reached goal lines) → Among o (by_id (lines ++ more)) → Contains z.hints o.id → Among o (reached goal lines)
      next z o k m c =
          let all-o : Among o (lines ++ more) = among-sorted (lines ++ more) o m in
          let high : 2 ^ 32 ≤ o.id = (of-all IsAbove (lines ++ more) o is.above all-o).derived in
          let stands : Any (λ other. other.id ≡ o.id) lines = All-contains (λ hint. 2 ^ 32 ≤ hint → Any (λ other. other.id ≡ hint) lines) z.hints o.id (of-all (λ line. All (λ hint. 2 ^ 32 ≤ hint → Any (λ other. other.id ≡ hint) lines) line.hints) lines z closed (in-early z k)) c high in
          reached-hints goal (by_id lines) rising-early z o k (sorted-among lines o (early o all-o (has-id lines o.id stands))) c (below z o (among-left lines more z (in-early z k)) c)

  back : (y : Line) → Among y (reached goal lines) → Among y (reached goal (lines ++ more))
  back y h = reached-least goal (by_id lines) (λ l. Among l (reached goal (lines ++ more))) first next y h
    where
      first : (z : Line) → Among z (by_id lines) → z.id ≡ goal → Among z (reached goal (lines ++ more))
      first z k e = reached-goal goal (by_id (lines ++ more)) z (sorted-among (lines ++ more) z (among-left lines more z (among-sorted lines z k))) e

      next : (z o : Line) → Among z (reached goal (lines ++ more)) → Among o (by_id lines) → Contains z.hints o.id → Among o (reached goal (lines ++ more))
      next z o k m c = reached-hints goal (by_id (lines ++ more)) rising-all z o k (sorted-among (lines ++ more) o (among-left lines more o (among-sorted lines o m))) c (below z o (in-all z k) c)

  stays : reached goal (lines ++ more) ≡ reached goal lines
  stays = rising-same (reached goal (lines ++ more)) (reached goal lines) (reached-rising goal (by_id (lines ++ more)) rising-all) (reached-rising goal (by_id lines) rising-early) there back

pub later-lines : LaterLinesDoNotMatter
later-lines goal lines more is closed has = stays goal lines more is closed has

any-left : (lines : List Line) (line : Line) (hint : ℕ) → Any (λ other. other.id ≡ hint) lines → Any (λ other. other.id ≡ hint) (lines ++ line ∷ [])
any-left lines line hint (k, x, h, e, q) = let at : Contains (lines ++ line ∷ []) x = Contains-append_left lines (line ∷ []) x (k, h, e) in (at.0, x, at.1, at.2, q)

stand-left : (lines : List Line) (line : Line) (hints : List ℕ) → All (λ hint. 2 ^ 32 ≤ hint → Any (λ other. other.id ≡ hint) lines) hints → All (λ hint. 2 ^ 32 ≤ hint → Any (λ other. other.id ≡ hint) (lines ++ line ∷ [])) hints
stand-left lines line hints all = All-weaker (λ hint. 2 ^ 32 ≤ hint → Any (λ other. other.id ≡ hint) lines) (λ hint. 2 ^ 32 ≤ hint → Any (λ other. other.id ≡ hint) (lines ++ line ∷ [])) (λ hint k h. any-left lines line hint (k h)) hints all

pub closed-grows : ClosedLinesGrow
closed-grows lines line closed stand =
    All-append (λ l. All (λ hint. 2 ^ 32 ≤ hint → Any (λ other. other.id ≡ hint) (lines ++ line ∷ [])) l.hints) lines (line ∷ [])
    (All-weaker (λ l. All (λ hint. 2 ^ 32 ≤ hint → Any (λ other. other.id ≡ hint) lines) l.hints) (λ l. All (λ hint. 2 ^ 32 ≤ hint → Any (λ other. other.id ≡ hint) (lines ++ line ∷ [])) l.hints) (λ l k. stand-left lines line l.hints k) lines closed)
    (All-cons (λ l. All (λ hint. 2 ^ 32 ≤ hint → Any (λ other. other.id ≡ hint) (lines ++ line ∷ [])) l.hints) line [] (stand-left lines line line.hints stand) (All-nil (λ l. All (λ hint. 2 ^ 32 ≤ hint → Any (λ other. other.id ≡ hint) (lines ++ line ∷ [])) l.hints)))

pub lits-stay : LitsStay
lits-stay good m goal lines all =
    All-map (λ l. good l.lits ≡ true) (renamed (new_id m (ids_of (reached goal lines)))) (reached goal lines)
    (all-from_among (λ l. good l.lits ≡ true) (reached goal lines) (λ y h. of-all (λ l. good l.lits ≡ true) lines y all (among-sorted lines y (reached-among goal (by_id lines) y h))))

-- the goal's line is the last one, also under a new number
pub goal-stays_last : GoalStaysLast
goal-stays_last m goal lines line is h e = by_front (goal-is-last goal lines line is h e)
  where
    by_front : (front : List Line) × (reached goal lines ≡ front ++ line ∷ []) → (front : List Line) × (last : Line) × (renumbered m (reached goal lines) ≡ front ++ last ∷ []) × (last.lits ≡ line.lits)
    by_front (front, q) = (
      map (renamed (new_id m (ids_of (reached goal lines)))) front,
      renamed (new_id m (ids_of (reached goal lines))) line,
      ap (λ (ls : List Line). map (renamed (new_id m (ids_of (reached goal lines)))) ls) q ∙ map-append (renamed (new_id m (ids_of (reached goal lines)))) front (line ∷ []),
      refl,
    )
