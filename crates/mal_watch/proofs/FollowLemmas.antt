use Rattle.std.proofs.Common.{◌≡◌, ◌≢◌, ℕ, ◌+◌, ◌-◌, ◌/◌, ◌%◌, ◌<◌, ◌≤◌, ◌↔◌, ◌⊎◌, ◌&&◌, inl, inr, Bool, true, false, not, List, [], ◌∷◌, ◌++◌, length, take, map, get_or, None, refl, sym, ap, ◌∙◌, arith}
use Rattle.std.specs.Prelude.{nat_le, nat_lt, filter}
use Rattle.std.specs.List.Sorted.{IsPermutation, IsNonDecreasingBy}
use Rattle.std.proofs.lemmas.Bool.{false≢true, cases_eq, ltb-true, ltb-false}
use Rattle.std.proofs.lemmas.Bool.Decides.{nat_tests}
use Rattle.std.proofs.lemmas.List.{length_push, get_or_append_left, get_or_at, get_or_past}
use Rattle.std.proofs.lemmas.List.Sums.{count_by-le-length}
use Rattle.mal_base.specs.Formulas.{is_within}
use Rattle.mal_base.specs.NumberedClause.{NumberedClause, lits_under}
use Rattle.mal_base.specs.Literals.{negated}
use Rattle.mal_base.specs.declared.trail_entry.TrailEntry.{TrailEntry}
use Rattle.spec_node.specs.Adding.{with_clause}
use Rattle.spec_node.specs.Batch.{is_in_batch}
use Rattle.spec_node.specs.Value.{is_true, is_false, open_count}
use Rattle.mal_watch.specs.WatchLists.{Has, AreOnce, IsAt}
use Rattle.mal_watch.specs.Pairs.{ArePicked}
use Rattle.mal_store.specs.Arena.{no_clause}
use Rattle.mal_watch.specs.Watching.{clause_of, partner, other_key, AreOthersFalse, IsWatchKept}
use Rattle.mal_watch.specs.Going.{Turns, Goes}
use Rattle.mal_watch.specs.Finding.{is_pending, found_of, pending, found_in}
use Rattle.mal_watch.specs.declared.found.Found.{Found}
use Rattle.mal_store.specs.Stored.{Among, is_long, with_long}
use Rattle.mal_watch.specs.Following.{AreSingle, Follows}
use Rattle.mal_watch.proofs.HasLemmas.{has-none, has-cases}
use Rattle.mal_store.proofs.AmongLemmas.{among-at, among-with, with-among, under-none, rise-with}
use Rattle.mal_watch.specs.FollowLaws.{follows-with}
use Rattle.mal_watch.proofs.TurnLemmas.{partner-even, partner-odd, only-last, goes-start, goes-end, goes-apart}
use Rattle.mal_watch.proofs.FoundLemmas.{found-is}
use Rattle.mal_watch.proofs.FalseLemmas.{true-more, false-more, open-less}
use Rattle.mal_watch.proofs.WalkLemmas.{partner-below}
use Rattle.mal_watch.proofs.CountLemmas.{count-same, batch-before, batch-no}

-- what follows a trail follows it with more room for the numbers found and more lists
pub follows-more : (clauses watched : List NumberedClause) (keys out : List ℕ) (lists more capacity wider : ℕ) (entries : List TrailEntry) (processed : ℕ) → lists ≤ more → length watched ≤ wider → Follows clauses watched keys out lists capacity entries processed → Follows clauses watched keys out more wider entries processed
follows-more clauses watched keys out lists more capacity wider entries processed l c f = follows-with clauses watched keys out keys out lists more capacity wider entries entries processed processed f (record { paired = f.watching.paired; own = f.watching.own; below = λ k x h. omega (arith, f.watching.below k x h, l) }) f.apart f.idle c f.kept

-- a clause of at most one literal more
pub with-short : (c : NumberedClause) (long : List NumberedClause) → length c.lits ≤ 1 → with_long c long ≡ long
with-short c long l =
    let test : is_long c ≡ false = ltb-not 1 (length c.lits) l in
    rw test refl
  where
    ltb-not : (a b : ℕ) → b ≤ a → nat_lt a b ≡ false
    ltb-not a b = grind (arith, nat_tests)

pub with-behind : (c : NumberedClause) (long : List NumberedClause) → 2 ≤ length c.lits → with_long c long ≡ long ++ c ∷ []
with-behind c long l =
    let test : is_long c ≡ true = ltb-yes 1 (length c.lits) (omega (arith, l)) in
    rw test refl
  where
    ltb-yes : (a b : ℕ) → a < b → nat_lt a b ≡ true
    ltb-yes a b = grind (arith, nat_tests)

pub follows-short : (clauses watched : List NumberedClause) (keys out : List ℕ) (lists capacity : ℕ) (entries : List TrailEntry) (processed : ℕ) (c : NumberedClause) → lits_under c.id clauses ≡ None → length c.lits ≤ 1 → Follows clauses watched keys out lists capacity entries processed → Follows (with_clause c clauses) watched keys out lists capacity entries processed
follows-short clauses watched keys out lists capacity entries processed c n s f =
    record {
      numbers = rise-with 0 c clauses (omega arith) (λ d h. under-none c.id clauses d n h) f.numbers;
      held = λ d h. with-among d c clauses (inr (f.held d h));
      each = λ d h. elim (among-with d c clauses h) [
        | inl e ↦ inl (rw e s)
        | inr m ↦ f.each d m
      ];
      single = f.single;
      form = f.form;
      watching = f.watching;
      apart = f.apart;
      idle = f.idle;
      room = f.room;
      kept = f.kept;
    }

among-push : (c d : NumberedClause) (cs : List NumberedClause) → Among c (cs ++ d ∷ []) → Among c cs ⊎ (c ≡ d)
among-push c d [] (inl e) = inr e
among-push c d [] (inr h) = absurd h
among-push c d (x ∷ xs) (inl e) = inl (inl e)
among-push c d (x ∷ xs) (inr h) = elim (among-push c d xs h) [
  | inl m ↦ inl (inr m)
  | inr e ↦ inr e
]

push-among : (c d : NumberedClause) (cs : List NumberedClause) → Among c cs → Among c (cs ++ d ∷ [])
push-among c d [] h = absurd h
push-among c d (x ∷ xs) (inl e) = inl e
push-among c d (x ∷ xs) (inr h) = inr (push-among c d xs h)

push-last : (d : NumberedClause) (cs : List NumberedClause) → Among d (cs ++ d ∷ [])
push-last d [] = inl refl
push-last d (x ∷ xs) = inr (push-last d xs)

-- the watched with one more
clause-old : (watched : List NumberedClause) (c : NumberedClause) (i : ℕ) → i < length watched → get_or (watched ++ c ∷ []) i no_clause ≡ get_or watched i no_clause
clause-old watched c i l = get_or_append_left watched (c ∷ []) no_clause i l

clause-new : (watched : List NumberedClause) (c : NumberedClause) (i : ℕ) → length watched ≡ i → get_or (watched ++ c ∷ []) i no_clause ≡ c
clause-new watched c i e = get_or_at watched c [] no_clause i e

single-push : (watched : List NumberedClause) (c : NumberedClause) → ((d : NumberedClause) → Among d watched → d.id ≢ c.id) → AreSingle watched → AreSingle (watched ++ c ∷ [])
single-push watched c n s i j a b e = by_places (cases_eq i (length watched)) (cases_eq j (length watched))
  where
    long : length (watched ++ c ∷ []) ≡ length watched + 1
    long = length_push watched c

    same : (x y : NumberedClause) → get_or (watched ++ c ∷ []) i no_clause ≡ x → get_or (watched ++ c ∷ []) j no_clause ≡ y → x.id ≡ y.id
    same x y p q = ap (λ (h : NumberedClause). h.id) (sym p) ∙ (e ∙ ap (λ (h : NumberedClause). h.id) q)

    by_places : (i ≡ length watched) ⊎ (i ≡ length watched → ⊥) → (j ≡ length watched) ⊎ (j ≡ length watched → ⊥) → i ≡ j
    by_places (inl p) (inl q) = p ∙ sym q
    by_places (inl p) (inr q) =
        let l : j < length watched = omega (arith, b, long, q) in
        absurd (n (get_or watched j no_clause) (among-at watched j no_clause l) (sym (same c (get_or watched j no_clause) (clause-new watched c i (sym p)) (clause-old watched c j l))))
    by_places (inr p) (inl q) =
        let l : i < length watched = omega (arith, a, long, p) in
        absurd (n (get_or watched i no_clause) (among-at watched i no_clause l) (same (get_or watched i no_clause) c (clause-old watched c i l) (clause-new watched c j (sym q))))
    by_places (inr p) (inr q) =
        let l : i < length watched = omega (arith, a, long, p) in
        let m : j < length watched = omega (arith, b, long, q) in
        s i j l m (same (get_or watched i no_clause) (get_or watched j no_clause) (clause-old watched c i l) (clause-old watched c j m))

-- the watches with two more
pub record HasPair (keys now : List ℕ) (first second : ℕ) : Type 0 where
  pub long : length now ≡ length keys + 2
  pub old : (k : ℕ) → k < length keys → get_or now k 0 ≡ get_or keys k 0
  pub first_is : get_or now (length keys) 0 ≡ first
  pub second_is : get_or now (length keys + 1) 0 ≡ second

pub pair-push : (keys : List ℕ) (first second : ℕ) → HasPair keys ((keys ++ first ∷ []) ++ second ∷ []) first second
pair-push keys first second =
    let one : length (keys ++ first ∷ []) ≡ length keys + 1 = length_push keys first in
    let two : length ((keys ++ first ∷ []) ++ second ∷ []) ≡ length (keys ++ first ∷ []) + 1 = length_push (keys ++ first ∷ []) second in
    record {
      long = omega (arith, one, two);
      old = λ k l. get_or_append_left (keys ++ first ∷ []) (second ∷ []) 0 k (omega (arith, l, one)) ∙ get_or_append_left keys (first ∷ []) 0 k l;
      first_is = get_or_append_left (keys ++ first ∷ []) (second ∷ []) 0 (length keys) (omega (arith, one)) ∙ get_or_at keys first [] 0 (length keys) refl;
      second_is = get_or_at (keys ++ first ∷ []) second [] 0 (length keys + 1) one;
    }

-- what holds of a watch, by what it and its partner watch and by its clause
kept-as : (prefix : List TrailEntry) (watched : List NumberedClause) (keys : List ℕ) (k a b : ℕ) (c : NumberedClause) → get_or keys k 0 ≡ a → other_key keys k ≡ b → clause_of watched k ≡ c → (is_false prefix a ≡ true → AreOthersFalse prefix b c.lits ⊎ (is_true prefix b ≡ true)) → IsWatchKept prefix watched keys k
kept-as prefix watched keys k a b c e f g h = rw (e, f, g) h

-- a watch is an old one, or one of the two new ones
split : (n k : ℕ) → k < n + 2 → (k < n) ⊎ ((k ≡ n) ⊎ (k ≡ n + 1))
split n k l = by_case (cases_eq k n) (cases_eq k (n + 1))
  where
    by_case : (k ≡ n) ⊎ (k ≡ n → ⊥) → (k ≡ n + 1) ⊎ (k ≡ n + 1 → ⊥) → (k < n) ⊎ ((k ≡ n) ⊎ (k ≡ n + 1))
    by_case (inl e) c = inr (inl e)
    by_case (inr d) (inl e) = inr (inr e)
    by_case (inr d) (inr c) = inl (omega arith)

-- each literal of a clause that there is room for has a list
below-push : (lists : ℕ) (watched : List NumberedClause) (c : NumberedClause) → ((k l : ℕ) → Has (clause_of watched k).lits l → l < lists) → ((l : ℕ) → Has c.lits l → l < lists) → (k l : ℕ) → Has (clause_of (watched ++ c ∷ []) k).lits l → l < lists
below-push lists watched c old new k l h = by_place (cases_eq (k / 2) (length watched)) (nat_lt (k / 2) (length watched)) refl
  where
    by_place : (k / 2 ≡ length watched) ⊎ (k / 2 ≡ length watched → ⊥) → (b : Bool) → nat_lt (k / 2) (length watched) ≡ b → l < lists
    by_place (inl e) b t = new l (rw (clause-new watched c (k / 2) (sym e)) at h)
    by_place (inr d) true t = old k l (rw (clause-old watched c (k / 2) (ltb-true (k / 2) (length watched) t)) at h)
    by_place (inr d) false t =
        let beyond : length (watched ++ c ∷ []) ≤ k / 2 = omega (arith, length_push watched c, ltb-false (k / 2) (length watched) t, d) in
        absurd (has-none l (rw (get_or_past (watched ++ c ∷ []) (k / 2) no_clause beyond) at h))

-- a clause of two or more literals more, which watches the two that were picked
pub follows-long : (clauses watched : List NumberedClause) (keys out : List ℕ) (lists capacity : ℕ) (entries : List TrailEntry) (processed : ℕ) (c : NumberedClause) (first second : ℕ) → lits_under c.id clauses ≡ None → AreOnce c.lits → ArePicked entries (processed - 1) c.lits first second → ((l : ℕ) → Has c.lits l → l < lists) → length watched + 1 ≤ capacity → Follows clauses watched keys out lists capacity entries processed → Follows (with_clause c clauses) (watched ++ c ∷ []) ((keys ++ first ∷ []) ++ second ∷ []) out lists capacity entries processed
follows-long clauses watched keys out lists capacity entries processed c first second fresh once p below room f =
    let n = length keys in
    let now = (keys ++ first ∷ []) ++ second ∷ [] in
    let next = watched ++ c ∷ [] in
    let pair = pair-push keys first second in
    let paired : n ≡ length watched + length watched = f.watching.paired in
    let even : n % 2 ≡ 0 = omega arith in
    let odd : (n + 1) % 2 ≡ 1 = omega arith in
    let other_n : partner n ≡ n + 1 = partner-even n even in
    let other_m : partner (n + 1) ≡ n = let e = partner-odd (n + 1) odd in omega arith in
    let row_n : clause_of next n ≡ c = clause-new watched c (n / 2) (omega arith) in
    let row_m : clause_of next (n + 1) ≡ c = clause-new watched c ((n + 1) / 2) (omega arith) in
    let row_k : (k : ℕ) → k < n → clause_of next k ≡ clause_of watched k = λ k l. clause-old watched c (k / 2) (omega (arith, l, paired)) in
    let key_other_n : other_key now n ≡ second = ap (λ (i : ℕ). get_or now i 0) other_n ∙ pair.second_is in
    let key_other_m : other_key now (n + 1) ≡ first = ap (λ (i : ℕ). get_or now i 0) other_m ∙ pair.first_is in
    let key_other_k : (k : ℕ) → k < n → other_key now k ≡ other_key keys k = λ k l. pair.old (partner k) (partner-below lists watched keys k f.watching l) in
    let places : (k : ℕ) → k < length now → (k < n) ⊎ ((k ≡ n) ⊎ (k ≡ n + 1)) = λ k l. split n k (omega (arith, l, pair.long)) in
    record {
      numbers = rise-with 0 c clauses (omega arith) (λ d h. under-none c.id clauses d fresh h) f.numbers;
      held = λ d h. elim (among-push d c watched h) [
        | inl m ↦ with-among d c clauses (inr (f.held d m))
        | inr e ↦ with-among d c clauses (inl e)
      ];
      each = λ d h. elim (among-with d c clauses h) [
        | inl e ↦ inr (rw e (push-last c watched))
        | inr m ↦ elim (f.each d m) [
          | inl s ↦ inl s
          | inr r ↦ inr (push-among d c watched r)
        ]
      ];
      single = single-push watched c (λ d h. under-none c.id clauses d fresh (f.held d h)) f.single;
      form = λ d h. elim (among-push d c watched h) [
        | inl m ↦ f.form d m
        | inr e ↦ rw e once
      ];
      watching = record {
        paired = omega (arith, pair.long, paired, length_push watched c);
        own = λ k l. elim (places k l) [
          | inl o ↦ rw (row_k k o, pair.old k o) (f.watching.own k o)
          | inr (inl e) ↦ rw e (rw (row_n, pair.first_is) p.first_in)
          | inr (inr e) ↦ rw e (rw (row_m, pair.second_is) p.second_in)
        ];
        below = below-push lists watched c f.watching.below below;
      };
      apart = λ k l. elim (places k l) [
        | inl o ↦ rw (pair.old k o, key_other_k k o) (f.apart k o)
        | inr (inl e) ↦ rw e (rw (pair.first_is, key_other_n) p.apart)
        | inr (inr e) ↦ rw e (rw (pair.second_is, key_other_m) (λ s. p.apart (sym s)))
      ];
      idle = f.idle;
      room = omega (arith, room, length_push watched c);
      kept = λ m k h l. elim (places k l) [
        | inl o ↦ kept-as (take m entries) next now k (get_or keys k 0) (other_key keys k) (clause_of watched k) (pair.old k o) (key_other_k k o) (row_k k o) (f.kept m k h o)
        | inr (inl e) ↦ rw e (kept-as (take m entries) next now n first second c pair.first_is key_other_n row_n (λ z. inl (λ x i d. elim (cases_eq x first) [
          | inl s ↦ rw s z
          | inr u ↦ p.others x i u m h (p.order m h z)
        ])))
        | inr (inr e) ↦ rw e (kept-as (take m entries) next now (n + 1) second first c pair.second_is key_other_m row_m (λ z. inl (λ x i d. p.others x i d m h z)))
      ];
    }

le_true : (a b : ℕ) → nat_le a b ≡ true → a ≤ b
le_true a b = grind (arith, nat_tests)

and_true : (a b : Bool) → (a && b) ≡ true → (a ≡ true) × (b ≡ true)
and_true true b h = (refl, h)
and_true false b h = absurd (false≢true h)

-- literals of variables that there is room for have lists
pub lists-within : (lists : ℕ) (lits : List ℕ) → is_within (lists / 2 - 1) lits ≡ true → (l : ℕ) → Has lits l → l < lists
lists-within lists [] w l h = absurd (has-none l h)
lists-within lists (x ∷ xs) w l h =
    let parts = and_true (nat_le 1 (x / 2) && nat_le (x / 2) (lists / 2 - 1)) (is_within (lists / 2 - 1) xs) w in
    let here = and_true (nat_le 1 (x / 2)) (nat_le (x / 2) (lists / 2 - 1)) parts.0 in
    let low = le_true 1 (x / 2) here.0 in
    let high = le_true (x / 2) (lists / 2 - 1) here.1 in
    elim (has-cases l x xs h) [
      | inl e ↦ let s : l ≡ x = e in omega arith
      | inr m ↦ lists-within lists xs parts.1 l m
    ]

-- the watched' literals stand once each
pub watched-once : (watched : List NumberedClause) → ((c : NumberedClause) → Among c watched → AreOnce c.lits) → (k : ℕ) → AreOnce (clause_of watched k).lits
watched-once watched form k = by_place (nat_lt (k / 2) (length watched)) refl
  where
    by_place : (b : Bool) → nat_lt (k / 2) (length watched) ≡ b → AreOnce (clause_of watched k).lits
    by_place true t = form (clause_of watched k) (among-at watched (k / 2) no_clause (ltb-true (k / 2) (length watched) t))
    by_place false t = rw (get_or_past watched (k / 2) no_clause (ltb-false (k / 2) (length watched) t)) tt

-- the batch is of watched alone
pub batch-watched : (clauses watched : List NumberedClause) (entries : List TrailEntry) (q : ℕ) → 1 ≤ q → q ≤ length entries → ((c : NumberedClause) → Among c clauses → (length c.lits ≤ 1) ⊎ Among c watched) → (c : NumberedClause) → Among c clauses → is_in_batch (take q entries) c ≡ true → Among c watched
batch-watched clauses watched entries q s l each c h t = elim (each c h) [
  | inl short ↦
      let few : open_count (take (q - 1) entries) c.lits ≤ 1 = omega (arith, short, count_by-le-length (λ x. not (is_false (take (q - 1) entries) x)) c.lits) in
      absurd (false≢true (sym (batch-before entries q c s l few) ∙ t))
  | inr m ↦ m
]

-- before the walk the watches of the literal are left
pub before-walk : (clauses watched : List NumberedClause) (keys out idle : List ℕ) (lists capacity : ℕ) (entries : List TrailEntry) (count f : ℕ) → Follows clauses watched keys idle lists capacity entries count → Turns entries count f → ((k : ℕ) → Has out k ↔ IsAt keys k f) → AreOnce out → Goes entries count f lists watched keys out
before-walk clauses watched keys out idle lists capacity entries count f w t watches once = goes-start entries count f lists watched keys out t w.watching w.apart (watched-once watched w.form) w.kept watches once

-- after the walk: what is watched follows the trail with one batch more, and what was found is what is pending
pub record IsFound (clauses watched : List NumberedClause) (keys : List ℕ) (found : List Found) (lists capacity : ℕ) (entries : List TrailEntry) (count : ℕ) : Type 0 where
  pub follows : Follows clauses watched keys [] lists capacity entries (count + 1)
  pub found_is : found ≡ pending (take count entries) entries clauses

pub after-walk : (clauses watched : List NumberedClause) (keys out idle now : List ℕ) (found : List Found) (lists capacity : ℕ) (entries : List TrailEntry) (count : ℕ) (f : ℕ) → Follows clauses watched keys idle lists capacity entries count → Turns entries count f → ((k : ℕ) → Has out k ↔ IsAt keys k f) → AreOnce out → Goes entries count f lists watched now [] → IsPermutation (found_in (take count entries) entries watched out) found → IsNonDecreasingBy (λ (x : Found). x.id) found → IsFound clauses watched now found lists capacity entries count
after-walk clauses watched keys out idle now found lists capacity entries count f w t watches once goes moved s =
    record {
      follows = follows-with clauses watched keys idle now [] lists lists capacity capacity entries entries count (count + 1) w goes.watching goes.apart refl w.room (goes-end entries count f lists watched now goes);
      found_is = found-is (take count entries) entries f lists clauses watched keys out found w.numbers w.held w.single w.watching w.apart watches once (batch-watched clauses watched entries count t.some t.within w.each) (λ k l d e. goes-apart entries count f lists watched keys k t w.watching w.apart (watched-once watched w.form) w.kept l d e) moved s;
    }

passed-none : (p : NumberedClause → Bool) → ((c : NumberedClause) → p c ≡ false) → (cs : List NumberedClause) → filter p cs ≡ []
passed-none p h [] = refl
passed-none p h (c ∷ cs) = rw (h c) (passed-none p h cs)

-- an entry whose literal was true before makes no batch
pub no-walk : (clauses watched : List NumberedClause) (keys : List ℕ) (lists capacity : ℕ) (entries : List TrailEntry) (count : ℕ) (e : TrailEntry) (idle : List ℕ) → 1 ≤ count → count ≤ length entries → e ≡ get_or entries (count - 1) e → is_false (take (count - 1) entries) (negated e.lit) ≡ true → Follows clauses watched keys idle lists capacity entries count → Follows clauses watched keys idle lists capacity entries (count + 1) × ([] ≡ pending (take count entries) entries clauses)
no-walk clauses watched keys lists capacity entries count e idle s l is was f = (
  follows-with clauses watched keys idle keys idle lists lists capacity capacity entries entries count (count + 1) f f.watching f.apart f.idle f.room (λ n k h m. elim (cases_eq n count) [
    | inl q ↦ rw q (λ z. elim (f.kept (count - 1) k (omega arith) m (back (get_or keys k 0) z)) [
      | inl closed ↦ inl (λ x i d. false-more (count - 1) count entries x (omega arith) (closed x i d))
      | inr holds ↦ inr (true-more (count - 1) count entries (other_key keys k) (omega arith) holds)
    ])
    | inr d ↦ f.kept n k (omega (arith, h, d)) m
  ]),
  ap (λ (cs : List NumberedClause). map (found_of (take count entries)) cs) (sym (passed-none (is_pending (take count entries) entries) (λ c. rw (never c) refl) clauses)),
)
  where
    back : (x : ℕ) → is_false (take count entries) x ≡ true → is_false (take (count - 1) entries) x ≡ true
    back x z = elim (cases_eq x (negated e.lit)) [
      | inl q ↦ rw q was
      | inr d ↦ only-last entries count e s l is x z d
    ]

    same : (x : ℕ) → is_false (take count entries) x ≡ is_false (take (count - 1) entries) x
    same x = by_value (is_false (take count entries) x) refl
      where
        by_value : (b : Bool) → is_false (take count entries) x ≡ b → is_false (take count entries) x ≡ is_false (take (count - 1) entries) x
        by_value true z = z ∙ sym (back x z)
        by_value false z = z ∙ sym (open-less (count - 1) count entries x (omega arith) z)

    never : (c : NumberedClause) → is_in_batch (take count entries) c ≡ false
    never c = by_many (nat_lt 1 (open_count (take (count - 1) entries) c.lits)) refl
      where
        alike : open_count (take count entries) c.lits ≡ open_count (take (count - 1) entries) c.lits
        alike = count-same (λ x. not (is_false (take count entries) x)) (λ x. not (is_false (take (count - 1) entries) x)) (λ x. ap not (same x)) c.lits

        by_many : (b : Bool) → nat_lt 1 (open_count (take (count - 1) entries) c.lits) ≡ b → is_in_batch (take count entries) c ≡ false
        by_many true t = batch-no entries count c s l (λ o. omega (arith, o, alike, ltb-true 1 (open_count (take (count - 1) entries) c.lits) t))
        by_many false t = batch-before entries count c s l (ltb-false 1 (open_count (take (count - 1) entries) c.lits) t)
