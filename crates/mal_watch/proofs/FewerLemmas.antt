use Rattle.std.proofs.Common.{◌≡◌, ◌≢◌, ℕ, zero, suc, ◌+◌, ◌-◌, ◌/◌, ◌%◌, ◌<◌, ◌≤◌, ◌⊎◌, inl, inr, Bool, true, false, cond, nat_lt, List, [], ◌∷◌, length, get_or, refl, sym, ap, ◌∙◌, subst, arith}
use Rattle.std.specs.Prelude.{filter, ◌==◌, slice_index}
use Rattle.std.proofs.lemmas.Bool.{ltb-true, ltb-false}
use Rattle.std.proofs.lemmas.List.{get_or_past}
use Rattle.mal_base.specs.NumberedClause.{NumberedClause}
use Rattle.mal_base.specs.declared.trail_entry.TrailEntry.{TrailEntry}
use Rattle.spec_node.specs.Adding.{forgetting}
use Rattle.mal_store.specs.Arena.{is_left}
use Rattle.mal_watch.specs.Leaving.{pairs_left}
use Rattle.mal_watch.specs.WatchLists.{Has}
use Rattle.mal_store.specs.Arena.{no_clause}
use Rattle.mal_watch.specs.Watching.{clause_of, partner, other_key}
use Rattle.mal_store.specs.Stored.{Among}
use Rattle.mal_watch.specs.Following.{AreSingle, Follows}
use Rattle.mal_watch.proofs.HasLemmas.{has-none}
use Rattle.mal_store.proofs.AmongLemmas.{among-at, among-place, among-passed, among-passes, rise-passed}

-- two watches further, and a clause further
shift-clause : (c : NumberedClause) (watched : List NumberedClause) (k : ℕ) → clause_of (c ∷ watched) (suc (suc k)) ≡ clause_of watched k
shift-clause c watched k = let e : suc (suc k) / 2 ≡ suc (k / 2) = omega arith in ap (λ (n : ℕ). get_or (c ∷ watched) n no_clause) e

shift-partner : (k : ℕ) → partner (suc (suc k)) ≡ suc (suc (partner k))
shift-partner zero = refl
shift-partner (suc k) = by_even (suc k % 2 == 0)
  where
    same : suc (suc (suc k)) % 2 ≡ suc k % 2
    same = omega arith

    by_even : (t : Bool) → partner (suc (suc (suc k))) ≡ suc (suc (partner (suc k)))
    by_even t = rw same (either (suc k % 2 == 0))
      where
        either : (b : Bool) → cond b (suc (suc (suc k)) + 1) (suc (suc (suc k)) - 1) ≡ suc (suc (cond b (suc k + 1) (suc k - 1)))
        either true = omega arith
        either false = omega arith

shift-other : (a b : ℕ) (keys : List ℕ) (k : ℕ) → other_key (a ∷ (b ∷ keys)) (suc (suc k)) ≡ other_key keys k
shift-other a b keys k = ap (λ (n : ℕ). get_or (a ∷ (b ∷ keys)) n 0) (shift-partner k)

-- a watch stands for one that was there
record IsOld (watched now : List NumberedClause) (keys left : List ℕ) (k : ℕ) : Type 0 where
  was : ℕ
  inside : was < length keys
  clause : clause_of now k ≡ clause_of watched was
  key : slice_index left k ≡ slice_index keys was
  other : other_key left k ≡ other_key keys was

old-watch : (ids : List ℕ) (watched : List NumberedClause) (keys : List ℕ) → length keys ≡ length watched + length watched → (k : ℕ) → k < length (pairs_left ids watched keys) → IsOld watched (forgetting ids watched) keys (pairs_left ids watched keys) k
old-watch ids [] keys p k l = absurd (omega arith)
old-watch ids (c ∷ cs) [] p k l = absurd (omega arith)
old-watch ids (c ∷ cs) (a ∷ []) p k l = absurd (omega arith)
old-watch ids (c ∷ cs) (a ∷ (b ∷ ks)) p k l = by_test (old-watch ids cs ks (omega arith)) (is_left ids c) k l
  where
    left : List ℕ
    left = pairs_left ids cs ks

    now : List NumberedClause
    now = forgetting ids cs

    by_test : ((k : ℕ) → k < length left → IsOld cs now ks left k) → (t : Bool) → (k : ℕ) → k < length (cond t (a ∷ (b ∷ left)) left) → IsOld (c ∷ cs) (cond t (c ∷ now) now) (a ∷ (b ∷ ks)) (cond t (a ∷ (b ∷ left)) left) k
    by_test f true zero l = record { was = 0; inside = omega arith; clause = refl; key = refl; other = refl }
    by_test f true (suc zero) l = record { was = 1; inside = omega arith; clause = refl; key = refl; other = refl }
    by_test f true (suc (suc k)) l =
        let o = f k (omega arith) in
        record { was = suc (suc o.was); inside = omega (arith, o.inside); clause = shift-clause c now k ∙ (o.clause ∙ sym (shift-clause c cs o.was)); key = o.key; other = shift-other a b left k ∙ (o.other ∙ sym (shift-other a b ks o.was)) }
    by_test f false k l =
        let o = f k l in
        record { was = suc (suc o.was); inside = omega (arith, o.inside); clause = o.clause ∙ sym (shift-clause c cs o.was); key = o.key; other = o.other ∙ sym (shift-other a b ks o.was) }

pairs-paired : (ids : List ℕ) (watched : List NumberedClause) (keys : List ℕ) → length keys ≡ length watched + length watched → length (pairs_left ids watched keys) ≡ length (forgetting ids watched) + length (forgetting ids watched)
pairs-paired ids [] keys p = refl
pairs-paired ids (c ∷ cs) [] p = absurd (omega arith)
pairs-paired ids (c ∷ cs) (a ∷ []) p = absurd (omega arith)
pairs-paired ids (c ∷ cs) (a ∷ (b ∷ ks)) p = by_test (pairs-paired ids cs ks (omega arith)) (is_left ids c)
  where
    by_test : length (pairs_left ids cs ks) ≡ length (forgetting ids cs) + length (forgetting ids cs) → (t : Bool) → length (cond t (a ∷ (b ∷ pairs_left ids cs ks)) (pairs_left ids cs ks)) ≡ length (cond t (c ∷ forgetting ids cs) (forgetting ids cs)) + length (cond t (c ∷ forgetting ids cs) (forgetting ids cs))
    by_test f true = omega (arith, f)
    by_test f false = f

-- fewer clauses are no more, and have different numbers still
pub fewer-length : (test : NumberedClause → Bool) (cs : List NumberedClause) → length (filter test cs) ≤ length cs
fewer-length test [] = omega arith
fewer-length test (c ∷ cs) = by_test (fewer-length test cs) (test c)
  where
    by_test : length (filter test cs) ≤ length cs → (t : Bool) → length (cond t (c ∷ filter test cs) (filter test cs)) ≤ length (c ∷ cs)
    by_test l true = omega (arith, l)
    by_test l false = omega (arith, l)

-- the first of clauses has another number than each after it
single-apart : (c : NumberedClause) (cs : List NumberedClause) (d : NumberedClause) → AreSingle (c ∷ cs) → Among d cs → c.id ≢ d.id
single-apart c cs d h m e =
    let p = among-place d cs no_clause m in
    absurd (omega (arith, h 0 (suc p.place) (omega arith) (omega (arith, p.inside)) (e ∙ ap (λ (x : NumberedClause). x.id) (sym p.is))))

single-tail : (c : NumberedClause) (cs : List NumberedClause) → AreSingle (c ∷ cs) → AreSingle cs
single-tail c cs h i j l m e = omega (arith, h (suc i) (suc j) (omega arith) (omega arith) e)

single-fewer : (test : NumberedClause → Bool) (cs : List NumberedClause) → AreSingle cs → AreSingle (filter test cs)
single-fewer test [] h = λ i j l m e. absurd (omega arith)
single-fewer test (c ∷ cs) h = by_test (single-fewer test cs (single-tail c cs h)) (test c)
  where
    left : List NumberedClause
    left = filter test cs

    apart : (i : ℕ) → i < length left → c.id ≢ (get_or left i no_clause).id
    apart i l = single-apart c cs (get_or left i no_clause) h (among-passed test (get_or left i no_clause) cs (among-at left i no_clause l)).0

    by_test : AreSingle left → (t : Bool) → AreSingle (cond t (c ∷ left) left)
    by_test f false i j l m e = f i j l m e
    by_test f true zero zero l m e = refl
    by_test f true zero (suc j) l m e = absurd (apart j (omega arith) e)
    by_test f true (suc i) zero l m e = absurd (apart i (omega arith) (sym e))
    by_test f true (suc i) (suc j) l m e = ap suc (f i j (omega arith) (omega arith) e)

-- what follows a trail follows it where clauses are given up
pub follows-fewer : (ids : List ℕ) (clauses watched : List NumberedClause) (keys out : List ℕ) (lists capacity : ℕ) (entries : List TrailEntry) (processed : ℕ) → Follows clauses watched keys out lists capacity entries processed → Follows (forgetting ids clauses) (forgetting ids watched) (pairs_left ids watched keys) [] lists capacity entries processed
follows-fewer ids clauses watched keys out lists capacity entries processed f =
    let old = old-watch ids watched keys f.watching.paired in
    record {
      numbers = rise-passed (is_left ids) 0 clauses f.numbers;
      held = λ c m. let a = among-passed (is_left ids) c watched m in among-passes (is_left ids) c clauses (f.held c a.0) a.1;
      each = λ c m. let a = among-passed (is_left ids) c clauses m in either c a.1 (f.each c a.0);
      single = single-fewer (is_left ids) watched f.single;
      form = λ c m. f.form c (among-passed (is_left ids) c watched m).0;
      watching = record {
        paired = pairs-paired ids watched keys f.watching.paired;
        own = λ k l. let o = old k l in rw (o.clause, o.key) (f.watching.own o.was o.inside);
        below = λ k l h. below k l h (nat_lt (k / 2) (length (forgetting ids watched))) refl;
      };
      apart = λ k l e. let o = old k l in f.apart o.was o.inside (sym o.key ∙ (e ∙ o.other));
      idle = refl;
      room = omega (arith, f.room, fewer-length (is_left ids) watched);
      kept = λ n k h l. let o = old k l in rw (o.clause, o.key, o.other) (f.kept n o.was h o.inside);
    }
  where
    either : (c : NumberedClause) → is_left ids c ≡ true → (length c.lits ≤ 1) ⊎ Among c watched → (length c.lits ≤ 1) ⊎ Among c (forgetting ids watched)
    either c t (inl l) = inl l
    either c t (inr m) = inr (among-passes (is_left ids) c watched m t)

    below : (k l : ℕ) → Has (clause_of (forgetting ids watched) k).lits l → (b : Bool) → nat_lt (k / 2) (length (forgetting ids watched)) ≡ b → l < lists
    below k l h true q =
        let m = among-passed (is_left ids) (clause_of (forgetting ids watched) k) watched (among-at (forgetting ids watched) (k / 2) no_clause (ltb-true (k / 2) (length (forgetting ids watched)) q)) in
        let p = among-place (clause_of (forgetting ids watched) k) watched no_clause m.0 in
        let half : (p.place + p.place) / 2 ≡ p.place = omega arith in
        let is : clause_of (forgetting ids watched) k ≡ clause_of watched (p.place + p.place) = sym p.is ∙ ap (λ (n : ℕ). get_or watched n no_clause) (sym half) in
        f.watching.below (p.place + p.place) l (subst (λ (c : NumberedClause). Has c.lits l) is h)
    below k l h false q =
        let none : clause_of (forgetting ids watched) k ≡ no_clause = get_or_past (forgetting ids watched) (k / 2) no_clause (ltb-false (k / 2) (length (forgetting ids watched)) q) in
        absurd (has-none l (subst (λ (c : NumberedClause). Has c.lits l) none h))
