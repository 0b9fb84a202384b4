use Rattle.std.proofs.Common.{◌≡◌, ◌≢◌, ℕ, zero, suc, ◌+◌, ◌<◌, ◌≤◌, ◌↔◌, ◌⊎◌, inl, inr, Bool, true, false, cond, eqb, List, [], ◌∷◌, ◌++◌, length, drop, set, get_or, Option, Some, None, refl, sym, ap, subst, ◌∙◌, append_assoc, arith}
use Rattle.std.specs.Prelude.{option_to_list}
use Rattle.std.proofs.lemmas.Bool.{eqb-true, eqb-false, eq-eqb, ne_eqb, cases_eq}
use Rattle.std.proofs.lemmas.List.{length-set, length_push, get_or-set_same, get_or-set_other, get_or_append_left, get_or_push, get_or_past}
use Rattle.mal_watch.specs.WatchLists.{Has, AreOnce, IsAt, link_at, list_from, IsList, AreLinked, IsWalk}
use Rattle.mal_watch.proofs.HasLemmas.{has-none, has-head, has-tail, has-cases, has-other, long-below}

none_some : (x : ℕ) → ◌≡◌ {A = Option ℕ} None (Some x) → ⊥
none_some x e = cc

-- watches that are linked are those that the links lead to
pub list_from-is : (links : List (Option ℕ)) (n : ℕ) (from : Option ℕ) (ks : List ℕ) → IsList links from ks → length ks ≤ n → list_from links n from ≡ ks
list_from-is links zero from [] h l = refl
list_from-is links (suc n) from [] h l = rw h refl
list_from-is links zero from (k ∷ ks) h l = absurd (omega arith)
list_from-is links (suc n) from (k ∷ ks) h l = rw h.0 (ap (λ (xs : List ℕ). k ∷ xs) (list_from-is links n (link_at links k) ks h.2 (omega arith)))

-- each of them is a watch
pub list_from-below : (links : List (Option ℕ)) (from : Option ℕ) (ks : List ℕ) (k : ℕ) → IsList links from ks → Has ks k → k < length links
list_from-below links from [] k h m = absurd (has-none k m)
list_from-below links from (x ∷ xs) k h m = by_side (list_from-below links (link_at links x) xs k h.2) (has-cases k x xs m)
  where
    by_side : (Has xs k → k < length links) → (k ≡ x) ⊎ Has xs k → k < length links
    by_side rest (inl e) = rw e h.1
    by_side rest (inr r) = rest r

-- they stay linked where another watch is linked anew
pub list_from-set : (links : List (Option ℕ)) (watch : ℕ) (to from : Option ℕ) (ks : List ℕ) → (Has ks watch → ⊥) → IsList links from ks → IsList (set links watch to) from ks
list_from-set links watch to from [] n h = h
list_from-set links watch to from (k ∷ ks) n h =
    let other : k ≡ watch → ⊥ = λ e. n (has-head watch k ks (sym e)) in
    let same : link_at (set links watch to) k ≡ link_at links k = get_or-set_other links watch k to None other in
    let inside : k < length (set links watch to) = rw (length-set links watch to) h.1 in
    (h.0, inside, rw same (list_from-set links watch to (link_at links k) ks (λ m. n (has-tail watch k ks m)) h.2))

-- and where there is one watch more
pub list_from-push : (links : List (Option ℕ)) (to from : Option ℕ) (ks : List ℕ) → IsList links from ks → IsList (links ++ to ∷ []) from ks
list_from-push links to from [] h = h
list_from-push links to from (k ∷ ks) h =
    let same : link_at (links ++ to ∷ []) k ≡ link_at links k = get_or_append_left links (to ∷ []) None k h.1 in
    let inside : k < length (links ++ to ∷ []) = omega (arith, h.1, length_push links to) in
    (h.0, inside, rw same (list_from-push links to (link_at links k) ks h.2))

-- from none on there is none
pub from-none : (links : List (Option ℕ)) (n : ℕ) → list_from links n None ≡ []
from-none links zero = refl
from-none links (suc n) = refl

-- what is in the lists
pub record Linked (heads links : List (Option ℕ)) (keys : List ℕ) (lists : ℕ → List ℕ) : Type 0 where
  pub linked : (key : ℕ) → IsList links (link_at heads key) (lists key)
  pub home : (key k : ℕ) → Has (lists key) k → get_or keys k 0 ≡ key
  pub each : (k : ℕ) → k < length links → Has (lists (get_or keys k 0)) k
  pub once : (key : ℕ) → AreOnce (lists key)
  pub long : length keys ≡ length links

to-linked : (heads links : List (Option ℕ)) (keys : List ℕ) (c : AreLinked heads links keys) → Linked heads links keys c.lists
to-linked heads links keys c = record { linked = c.linked; home = c.home; each = c.each; once = c.once; long = c.long }

from-linked : (heads links : List (Option ℕ)) (keys : List ℕ) (lists : ℕ → List ℕ) → Linked heads links keys lists → AreLinked heads links keys
from-linked heads links keys lists c = record { lists = lists; linked = c.linked; home = c.home; each = c.each; once = c.once; long = c.long }

once-is : (links : List (Option ℕ)) (from : Option ℕ) (ks : List ℕ) → IsList links from ks → AreOnce ks → list_from links (length links) from ≡ ks
once-is links from ks h o = list_from-is links (length links) from ks h (long-below (length links) ks o (λ k m. list_from-below links from ks k h m))

list-is : (heads links : List (Option ℕ)) (keys : List ℕ) (lists : ℕ → List ℕ) → Linked heads links keys lists → (key : ℕ) → list_from links (length links) (link_at heads key) ≡ lists key
list-is heads links keys lists c key = once-is links (link_at heads key) (lists key) (c.linked key) (c.once key)

-- the lists with a watch in front of that of a literal
pub put_in : (ℕ → List ℕ) → ℕ → ℕ → ℕ → List ℕ
put_in lists key n i = cond (eqb i key) (n ∷ lists i) (lists i)

put-new : (lists : ℕ → List ℕ) (key n : ℕ) → Has (put_in lists key n key) n
unfolding put_in
put-new lists key n = let e : eqb key key ≡ true = eq-eqb key key refl in rw e (has-head n n (lists key) refl)

put-old : (lists : ℕ → List ℕ) (key n i k : ℕ) → Has (lists i) k → Has (put_in lists key n i) k
unfolding put_in
put-old lists key n i k h = by_key (eqb i key)
  where
    by_key : (b : Bool) → Has (cond b (n ∷ lists i) (lists i)) k
    by_key true = has-tail k n (lists i) h
    by_key false = h

put-from : (lists : ℕ → List ℕ) (key n i k : ℕ) → Has (put_in lists key n i) k → ((k ≡ n) × (i ≡ key)) ⊎ Has (lists i) k
unfolding put_in
put-from lists key n i k h = by_key (eqb i key) refl h
  where
    by_side : i ≡ key → (k ≡ n) ⊎ Has (lists i) k → ((k ≡ n) × (i ≡ key)) ⊎ Has (lists i) k
    by_side e (inl s) = inl (s, e)
    by_side e (inr r) = inr r

    by_key : (b : Bool) → eqb i key ≡ b → Has (cond b (n ∷ lists i) (lists i)) k → ((k ≡ n) × (i ≡ key)) ⊎ Has (lists i) k
    by_key true e m = by_side (eqb-true i key e) (has-cases k n (lists i) m)
    by_key false e m = inr m

put-once : (lists : ℕ → List ℕ) (key n i : ℕ) → (Has (lists i) n → ⊥) → AreOnce (lists i) → AreOnce (put_in lists key n i)
unfolding put_in
put-once lists key n i h o = by_key (eqb i key)
  where
    by_key : (b : Bool) → AreOnce (cond b (n ∷ lists i) (lists i))
    by_key true = (h, o)
    by_key false = o

-- lists whose heads are these but for one, at which a watch stands in front
put-linked : (heads links : List (Option ℕ)) (lists : ℕ → List ℕ) (key n : ℕ) → key < length heads → n < length links → link_at links n ≡ link_at heads key → ((i : ℕ) → IsList links (link_at heads i) (lists i)) → (i : ℕ) → IsList links (link_at (set heads key (Some n)) i) (put_in lists key n i)
unfolding put_in
put-linked heads links lists key n l m e h i = by_key (eqb i key) refl
  where
    by_key : (b : Bool) → eqb i key ≡ b → IsList links (link_at (set heads key (Some n)) i) (cond b (n ∷ lists i) (lists i))
    by_key true q =
        let same : i ≡ key = eqb-true i key q in
        let here : link_at (set heads key (Some n)) i ≡ Some n = rw same (get_or-set_same heads key (Some n) None l) in
        (here, m, rw e (subst (λ (j : ℕ). IsList links (link_at heads j) (lists i)) same (h i)))
    by_key false q =
        let there : link_at (set heads key (Some n)) i ≡ link_at heads i = get_or-set_other heads key i (Some n) None (eqb-false i key q) in
        rw there (h i)

-- a watch more, in the list of a literal
add-linked : (heads links : List (Option ℕ)) (keys : List ℕ) (lists : ℕ → List ℕ) (key : ℕ) → key < length heads → Linked heads links keys lists → Linked (set heads key (Some (length links))) (links ++ link_at heads key ∷ []) (keys ++ key ∷ []) (put_in lists key (length links))
add-linked heads links keys lists key l c =
    let n = length links in
    let more = links ++ link_at heads key ∷ [] in
    let longer : length more ≡ n + 1 = length_push links (link_at heads key) in
    let last : link_at more n ≡ link_at heads key = get_or_push links (link_at heads key) None n refl in
    let new_key : get_or (keys ++ key ∷ []) n 0 ≡ key = get_or_push keys key 0 n c.long in
    let old_key : (k : ℕ) → k < n → get_or (keys ++ key ∷ []) k 0 ≡ get_or keys k 0 = λ k h. get_or_append_left keys (key ∷ []) 0 k (omega (arith, h, c.long)) in
    let in_list : (i k : ℕ) → Has (lists i) k → k < n = λ i k h. list_from-below links (link_at heads i) (lists i) k (c.linked i) h in
    record {
      linked = put-linked heads more lists key n l (omega arith) last (λ i. list_from-push links (link_at heads key) (link_at heads i) (lists i) (c.linked i));
      home = λ i k h. elim (put-from lists key n i k h) [
        | inl p ↦ rw p.0 (new_key ∙ sym p.1)
        | inr r ↦ old_key k (in_list i k r) ∙ c.home i k r
      ];
      each = λ k h. elim (cases_eq k n) [
        | inl e ↦ rw e (rw new_key (put-new lists key n))
        | inr d ↦
            let below : k < n = omega (arith, h, longer, d) in
            rw (old_key k below) (put-old lists key n (get_or keys k 0) k (c.each k below))
      ];
      once = λ i. put-once lists key n i (λ m. let below : n < n = in_list i n m in omega arith) (c.once i);
      long = omega (arith, length_push keys key, longer, c.long);
    }

-- a list with a watch in the middle, and without it
has-front : (k : ℕ) (xs ys : List ℕ) → Has xs k → Has (xs ++ ys) k
has-front k [] ys h = absurd (has-none k h)
has-front k (x ∷ xs) ys h = elim (has-cases k x xs h) [
  | inl e ↦ has-head k x (xs ++ ys) e
  | inr m ↦ has-tail k x (xs ++ ys) (has-front k xs ys m)
]

has-middle : (w : ℕ) (xs ys : List ℕ) → Has (xs ++ w ∷ ys) w
has-middle w [] ys = has-head w w ys refl
has-middle w (x ∷ xs) ys = has-tail w x (xs ++ w ∷ ys) (has-middle w xs ys)

has-with : (k w : ℕ) (xs ys : List ℕ) → Has (xs ++ ys) k → Has (xs ++ w ∷ ys) k
has-with k w [] ys h = has-tail k w ys h
has-with k w (x ∷ xs) ys h = elim (has-cases k x (xs ++ ys) h) [
  | inl e ↦ has-head k x (xs ++ w ∷ ys) e
  | inr m ↦ has-tail k x (xs ++ w ∷ ys) (has-with k w xs ys m)
]

has-without : (k w : ℕ) (xs ys : List ℕ) → (k ≡ w → ⊥) → Has (xs ++ w ∷ ys) k → Has (xs ++ ys) k
has-without k w [] ys d h = has-other k w ys d h
has-without k w (x ∷ xs) ys d h = elim (has-cases k x (xs ++ w ∷ ys) h) [
  | inl e ↦ has-head k x (xs ++ ys) e
  | inr m ↦ has-tail k x (xs ++ ys) (has-without k w xs ys d m)
]

once-without : (w : ℕ) (xs ys : List ℕ) → AreOnce (xs ++ w ∷ ys) → AreOnce (xs ++ ys) × (Has (xs ++ ys) w → ⊥)
once-without w [] ys o = (o.1, o.0)
once-without w (x ∷ xs) ys o =
    let r = once-without w xs ys o.1 in (
      ((λ m. o.0 (has-with x w xs ys m)), r.0),
      λ m. elim (has-cases w x (xs ++ ys) m) [
        | inl e ↦ o.0 (subst (λ (k : ℕ). Has (xs ++ w ∷ ys) k) e (has-middle w xs ys))
        | inr n ↦ r.1 n
      ],
    )

-- the lists with another for a literal
with_list : (ℕ → List ℕ) → ℕ → List ℕ → ℕ → List ℕ
with_list lists key now i = cond (eqb i key) now (lists i)

with-here : (lists : ℕ → List ℕ) (key : ℕ) (now : List ℕ) → with_list lists key now key ≡ now
unfolding with_list
with-here lists key now = let e : eqb key key ≡ true = eq-eqb key key refl in rw e refl

with-other : (lists : ℕ → List ℕ) (key : ℕ) (now : List ℕ) (i : ℕ) → (i ≡ key → ⊥) → with_list lists key now i ≡ lists i
unfolding with_list
with-other lists key now i d = let e : eqb i key ≡ false = ne_eqb i key d in rw e refl

-- a watch that is in no list, and the lists of all others; of one literal these are its list, and from a link on along
-- the links these
record IsApart (heads links : List (Option ℕ)) (keys : List ℕ) (w key : ℕ) (xs ys : List ℕ) (next : Option ℕ) (lists : ℕ → List ℕ) : Type 0 where
  inside : w < length links
  linked : (i : ℕ) → IsList links (link_at heads i) (lists i)
  apart : (i : ℕ) → Has (lists i) w → ⊥
  home : (i k : ℕ) → Has (lists i) k → get_or keys k 0 ≡ i
  each : (k : ℕ) → k < length links → (k ≡ w → ⊥) → Has (lists (get_or keys k 0)) k
  once : (i : ℕ) → AreOnce (lists i)
  long : length keys ≡ length links
  list : lists key ≡ xs ++ ys
  rest : IsList links next ys

-- the links lead past a watch
cut : (heads links now nexts : List (Option ℕ)) (keys : List ℕ) (lists : ℕ → List ℕ) (w key : ℕ) (xs ys : List ℕ) → Linked heads links keys lists → lists key ≡ xs ++ w ∷ ys → length nexts ≡ length links → ((i : ℕ) → (i ≡ key → ⊥) → IsList nexts (link_at now i) (lists i)) → IsList nexts (link_at now key) (xs ++ ys) → IsList nexts (link_at links w) ys → IsApart now nexts keys w key xs ys (link_at links w) (with_list lists key (xs ++ ys))
cut heads links now nexts keys lists w key xs ys c e n others here rest =
    let less = with_list lists key (xs ++ ys) in
    let is : less key ≡ xs ++ ys = with-here lists key (xs ++ ys) in
    let same : (i : ℕ) → (i ≡ key → ⊥) → less i ≡ lists i = λ i d. with-other lists key (xs ++ ys) i d in
    let was : Has (lists key) w = rw e (has-middle w xs ys) in
    let once = once-without w xs ys (rw e at (c.once key)) in
    record {
      inside = rw n (list_from-below links (link_at heads key) (lists key) w (c.linked key) was);
      linked = λ i. elim (cases_eq i key) [
        | inl s ↦ rw (s, is) here
        | inr d ↦ rw (same i d) (others i d)
      ];
      apart = λ i m. elim (cases_eq i key) [
        | inl s ↦ once.1 (rw (s, is) at m)
        | inr d ↦ d (sym (c.home i w (rw (same i d) at m)) ∙ c.home key w was)
      ];
      home = λ i k m. elim (cases_eq i key) [
        | inl s ↦ rw s (c.home key k (rw e (has-with k w xs ys (rw (s, is) at m))))
        | inr d ↦ c.home i k (rw (same i d) at m)
      ];
      each = λ k l d. elim (cases_eq (get_or keys k 0) key) [
        | inl s ↦ rw (s, is) (has-without k w xs ys d (rw (s, e) at (c.each k (omega (arith, l, n)))))
        | inr o ↦ rw (same (get_or keys k 0) o) (c.each k (omega (arith, l, n)))
      ];
      once = λ i. elim (cases_eq i key) [
        | inl s ↦ rw (s, is) once.0
        | inr d ↦ rw (same i d) (c.once i)
      ];
      long = omega (arith, c.long, n);
      list = is;
      rest = rest;
    }

-- past the watch after another
list-past : (links : List (Option ℕ)) (l w : ℕ) (from : Option ℕ) (xs ys : List ℕ) → AreOnce ((xs ++ l ∷ []) ++ w ∷ ys) → IsList links from ((xs ++ l ∷ []) ++ w ∷ ys) → IsList (set links l (link_at links w)) from ((xs ++ l ∷ []) ++ ys) × IsList (set links l (link_at links w)) (link_at links w) ys
list-past links l w from [] ys o h =
    let next = link_at links w in
    let to : link_at (set links l next) l ≡ next = get_or-set_same links l next None h.1 in
    let inside : l < length (set links l next) = rw (length-set links l next) h.1 in
    let rest : IsList (set links l next) next ys = list_from-set links l next next ys (λ m. o.0 (has-tail l w ys m)) h.2.2 in
    ((h.0, inside, rw to rest), rest)
list-past links l w from (x ∷ xs) ys o h =
    let next = link_at links w in
    let other : x ≡ l → ⊥ = λ e. o.0 (subst (λ (k : ℕ). Has ((xs ++ l ∷ []) ++ w ∷ ys) k) (sym e) (has-front l (xs ++ l ∷ []) (w ∷ ys) (has-middle l xs []))) in
    let same : link_at (set links l next) x ≡ link_at links x = get_or-set_other links l x next None other in
    let inside : x < length (set links l next) = rw (length-set links l next) h.1 in
    let r = list-past links l w (link_at links x) xs ys o.1 h.2 in
    ((h.0, inside, rw same r.0), r.1)

-- the heads and the links where a list leads past the watch after the last that stayed, or past the first
abbrev pub heads_past : List (Option ℕ) → ℕ → Option ℕ → Option ℕ → List (Option ℕ)
heads_past heads key None next = set heads key next
heads_past heads key (Some l) next = heads

abbrev pub links_past : List (Option ℕ) → Option ℕ → Option ℕ → List (Option ℕ)
links_past links None next = links
links_past links (Some l) next = set links l next

pub heads-past-length : (heads : List (Option ℕ)) (key : ℕ) (last next : Option ℕ) → length (heads_past heads key last next) ≡ length heads
heads-past-length heads key None next = length-set heads key next
heads-past-length heads key (Some l) next = refl

past : (heads links : List (Option ℕ)) (keys : List ℕ) (lists : ℕ → List ℕ) (w key : ℕ) (before : List ℕ) (last : Option ℕ) (ys : List ℕ) → key < length heads → (last ≡ None → before ≡ []) → Linked heads links keys lists → lists key ≡ (before ++ option_to_list last) ++ w ∷ ys → IsApart (heads_past heads key last (link_at links w)) (links_past links last (link_at links w)) keys w key (before ++ option_to_list last) ys (link_at links w) (with_list lists key ((before ++ option_to_list last) ++ ys))
past heads links keys lists w key before None ys l none c e =
    let next = link_at links w in
    let first : lists key ≡ w ∷ ys = e ∙ ap (λ (xs : List ℕ). (xs ++ []) ++ w ∷ ys) (none refl) in
    let list : IsList links (link_at heads key) (w ∷ ys) = rw first at (c.linked key) in
    let now : link_at (set heads key next) key ≡ next = get_or-set_same heads key next None l in
    cut heads links (set heads key next) links keys lists w key (before ++ []) ys c e refl (λ i d. rw (get_or-set_other heads key i next None d) (c.linked i)) (rw (now, none refl) list.2) list.2
past heads links keys lists w key before (Some l) ys inside none c e =
    let next = link_at links w in
    let was : Has (lists key) l = rw e (has-front l (before ++ l ∷ []) (w ∷ ys) (has-middle l before [])) in
    let now = list-past links l w (link_at heads key) before ys (rw e at (c.once key)) (rw e at (c.linked key)) in
    cut heads links heads (set links l next) keys lists w key (before ++ l ∷ []) ys c e (length-set links l next) (λ i d. list_from-set links l next (link_at heads i) (lists i) (λ m. d (sym (c.home i l m) ∙ c.home key l was)) (c.linked i)) now.0 now.1

-- a watch that is in no list goes into that of a literal
put-apart : (heads links : List (Option ℕ)) (keys : List ℕ) (w key walked : ℕ) (xs ys : List ℕ) (next : Option ℕ) (lists : ℕ → List ℕ) → key < length heads → IsApart heads links keys w walked xs ys next lists → Linked (set heads key (Some w)) (set links w (link_at heads key)) (set keys w key) (put_in lists key w)
put-apart heads links keys w key walked xs ys next lists l c =
    let to = link_at heads key in
    let longer : length (set links w to) ≡ length links = length-set links w to in
    let last : link_at (set links w to) w ≡ to = get_or-set_same links w to None c.inside in
    let new_key : get_or (set keys w key) w 0 ≡ key = get_or-set_same keys w key 0 (omega (arith, c.inside, c.long)) in
    let old_key : (k : ℕ) → (k ≡ w → ⊥) → get_or (set keys w key) k 0 ≡ get_or keys k 0 = λ k h. get_or-set_other keys w k key 0 h in
    let differs : (i k : ℕ) → Has (lists i) k → k ≡ w → ⊥ = λ i k m e. c.apart i (rw e at m) in
    record {
      linked = put-linked heads (set links w to) lists key w l (omega (arith, c.inside, longer)) last (λ i. list_from-set links w to (link_at heads i) (lists i) (c.apart i) (c.linked i));
      home = λ i k h. elim (put-from lists key w i k h) [
        | inl p ↦ rw p.0 (new_key ∙ sym p.1)
        | inr r ↦ old_key k (differs i k r) ∙ c.home i k r
      ];
      each = λ k h. elim (cases_eq k w) [
        | inl e ↦ rw e (rw new_key (put-new lists key w))
        | inr d ↦ rw (old_key k d) (put-old lists key w (get_or keys k 0) k (c.each k (omega (arith, h, longer)) d))
      ];
      once = λ i. put-once lists key w i (c.apart i) (c.once i);
      long = length-set keys w key ∙ (c.long ∙ sym longer);
    }

put-other : (lists : ℕ → List ℕ) (key n i : ℕ) → (i ≡ key → ⊥) → put_in lists key n i ≡ lists i
unfolding put_in
put-other lists key n i d = let e : eqb i key ≡ false = ne_eqb i key d in rw e refl

has-back : (k : ℕ) (xs ys : List ℕ) → Has ys k → Has (xs ++ ys) k
has-back k [] ys h = h
has-back k (x ∷ xs) ys h = has-tail k x (xs ++ ys) (has-back k xs ys h)

once-back : (xs ys : List ℕ) → AreOnce (xs ++ ys) → AreOnce ys
once-back [] ys o = o
once-back (x ∷ xs) ys o = once-back xs ys o.1

-- the watches of a literal are those of its list
taken-are : (heads links : List (Option ℕ)) (keys : List ℕ) (lists : ℕ → List ℕ) (key : ℕ) → Linked heads links keys lists → (k : ℕ) → Has (lists key) k ↔ IsAt keys k key
taken-are heads links keys lists key c k = (
  λ h. (omega (arith, list_from-below links (link_at heads key) (lists key) k (c.linked key) h, c.long), c.home key k h),
  λ h. rw h.1 at (c.each k (omega (arith, h.0, c.long))),
)

-- a literal without a list has no watches
none-beyond : (heads links : List (Option ℕ)) (keys : List ℕ) (lists : ℕ → List ℕ) (key : ℕ) → length heads ≤ key → Linked heads links keys lists → lists key ≡ []
none-beyond heads links keys lists key l c = by_list (lists key) (c.linked key)
  where
    by_list : (ks : List ℕ) → IsList links (link_at heads key) ks → ks ≡ []
    by_list [] h = refl
    by_list (k ∷ ks) h = absurd (none_some k (sym (get_or_past heads key None l) ∙ h.0))

-- where none is out, no list is walked
pub idle : (links : List (Option ℕ)) (head taken last : Option ℕ) → taken ≡ None → IsWalk links head taken last
idle links head taken last e =
    let none : list_from links (length links) taken ≡ [] = rw e (from-none links (length links)) in
    record {
      before = [];
      out = rw (none, e) refl;
      rest = λ n. absurd (n e);
      none = λ n. refl;
    }

pub idle-out : (links : List (Option ℕ)) (head taken last : Option ℕ) → IsWalk links head taken last → list_from links (length links) taken ≡ [] → taken ≡ None
idle-out links head taken last c f = subst (λ (xs : List ℕ). IsList links taken xs) f c.out

some_one : (x y : ℕ) → Some x ≡ Some y → x ≡ y
some_one x y e = cc

from-length : (links : List (Option ℕ)) (n : ℕ) (from : Option ℕ) → length (list_from links n from) ≤ n
from-length links zero from = omega arith
from-length links (suc n) None = omega arith
from-length links (suc n) (Some k) = omega (arith, from-length links n (link_at links k))

-- the watches from one on, of which that is the first
pub record IsNext (links : List (Option ℕ)) (from : Option ℕ) (watch : ℕ) : Type 0 where
  pub below : watch < length links
  pub list : list_from links (length links) from ≡ watch ∷ list_from links (length links) (link_at links watch)
  pub rest : IsList links (link_at links watch) (list_from links (length links) (link_at links watch))

pub next-from : (links : List (Option ℕ)) (from : Option ℕ) (watch : ℕ) → from ≡ Some watch → IsList links from (list_from links (length links) from) → IsNext links from watch
next-from links from watch e h = by_list (list_from links (length links) from) refl h
  where
    by_list : (ks : List ℕ) → list_from links (length links) from ≡ ks → IsList links from ks → IsNext links from watch
    by_list [] q i = absurd (none_some watch (sym i ∙ e))
    by_list (k ∷ ks) q i =
        let same : k ≡ watch = some_one k watch (sym i.0 ∙ e) in
        let few : length (k ∷ ks) ≤ length links = rw q at (from-length links (length links) from) in
        let linked : IsList links (link_at links watch) ks = rw same at i.2 in
        let is : list_from links (length links) (link_at links watch) ≡ ks = list_from-is links (length links) (link_at links watch) ks linked (omega (arith, few)) in
        record {
          below = rw same at i.1;
          list = q ∙ (ap (λ (x : ℕ). x ∷ ks) same ∙ ap (λ (xs : List ℕ). watch ∷ xs) (sym is));
          rest = rw is linked;
        }

-- the walk goes on after the first watch that is out
pub walk-on : (links : List (Option ℕ)) (head from last next : Option ℕ) (watch : ℕ) → from ≡ Some watch → next ≡ link_at links watch → IsWalk links head from last → IsWalk links head next from
walk-on links head from last next watch e n w =
    let f = next-from links from watch e w.out in
    let xs = w.before ++ option_to_list last in
    let rest = list_from links (length links) (link_at links watch) in
    let some : from ≢ None = λ z. none_some watch (sym z ∙ e) in
    let list : list_from links (length links) head ≡ (xs ++ watch ∷ []) ++ rest = w.rest some ∙ (ap (λ (ys : List ℕ). xs ++ ys) f.list ∙ sym (append_assoc xs (watch ∷ []) rest)) in
    let one : option_to_list from ≡ watch ∷ [] = ap (λ (o : Option ℕ). option_to_list o) e in
    record {
      before = xs;
      out = rw n f.rest;
      rest = λ m. list ∙ (ap (λ (ys : List ℕ). (xs ++ ys) ++ rest) (sym one) ∙ ap (λ (o : Option ℕ). (xs ++ option_to_list from) ++ list_from links (length links) o) (sym n));
      none = λ m. absurd (some m);
    }

-- the code's values after a watch was added
pub added : (heads links more : List (Option ℕ)) (keys longer : List ℕ) (key list watch : ℕ) (to : Option ℕ) → AreLinked heads links keys → list ≡ key → watch ≡ length links → key < length heads → to ≡ link_at heads list → more ≡ links ++ to ∷ [] → longer ≡ keys ++ key ∷ [] → AreLinked (set heads list (Some watch)) more longer
added heads links more keys longer key list watch to c e n l t m k = rw (m, k, t, n, e) (from-linked _ _ _ _ (add-linked heads links keys c.lists key l (to-linked heads links keys c)))

-- after the walk of the list of a literal began
pub record IsTaken (links : List (Option ℕ)) (keys : List ℕ) (key : ℕ) (next : Option ℕ) : Type 0 where
  pub walk : (last : Option ℕ) → last ≡ None → IsWalk links next next last
  pub watches : (k : ℕ) → Has (list_from links (length links) next) k ↔ IsAt keys k key
  pub once : AreOnce (list_from links (length links) next)

pub took : (heads links : List (Option ℕ)) (keys : List ℕ) (key list : ℕ) (next : Option ℕ) → AreLinked heads links keys → list ≡ key → next ≡ link_at heads list → IsTaken links keys key next
took heads links keys key list next c e n =
    let was = to-linked heads links keys c in
    let is : list_from links (length links) (link_at heads key) ≡ c.lists key = list-is heads links keys c.lists was key in
    rw (n, e) (record {
      walk = λ last z. record {
        before = [];
        out = rw is (c.linked key);
        rest = λ m. rw z refl;
        none = λ m. refl;
      };
      watches = rw is (taken-are heads links keys c.lists key was);
      once = rw is (c.once key);
    })

-- after none was, as the literal has no list
pub took-none : (heads links : List (Option ℕ)) (keys : List ℕ) (key : ℕ) (out : List ℕ) → AreLinked heads links keys → length heads ≤ key → out ≡ [] → (k : ℕ) → Has out k ↔ IsAt keys k key
took-none heads links keys key out c l o k =
    let was = to-linked heads links keys c in
    let none : c.lists key ≡ [] = none-beyond heads links keys c.lists key l was in
    let are = taken-are heads links keys c.lists key was k in
    rw o (rw none at are)

-- the first watch that is out, and the list that it is in
pub record IsFirst (heads links : List (Option ℕ)) (keys : List ℕ) (walked watch : ℕ) (taken last : Option ℕ) (c : AreLinked heads links keys) (w : IsWalk links (link_at heads walked) taken last) (out : List ℕ) : Type 0 where
  pub is : taken ≡ Some watch
  pub below : watch < length links
  pub list : c.lists walked ≡ (w.before ++ option_to_list last) ++ watch ∷ out
  pub home : get_or keys watch 0 ≡ walked
  pub rest : IsList links (link_at links watch) out

pub first-is : (heads links : List (Option ℕ)) (keys : List ℕ) (walked watch : ℕ) (taken last : Option ℕ) (out : List ℕ) (c : AreLinked heads links keys) (w : IsWalk links (link_at heads walked) taken last) → list_from links (length links) taken ≡ watch ∷ out → IsFirst heads links keys walked watch taken last c w out
first-is heads links keys walked watch taken last out c w f =
    let linked : IsList links taken (watch ∷ out) = subst (λ (xs : List ℕ). IsList links taken xs) f w.out in
    let some : taken ≢ None = λ n. none_some watch (sym n ∙ linked.0) in
    let list : c.lists walked ≡ (w.before ++ option_to_list last) ++ watch ∷ out = sym (list-is heads links keys c.lists (to-linked heads links keys c) walked) ∙ (w.rest some ∙ ap (λ (xs : List ℕ). (w.before ++ option_to_list last) ++ xs) f) in
    record {
      is = linked.0;
      below = linked.1;
      list = list;
      home = c.home walked watch (rw list (has-middle watch (w.before ++ option_to_list last) out));
      rest = linked.2;
    }

pub last-below : (heads links : List (Option ℕ)) (keys : List ℕ) (walked watch : ℕ) (taken last : Option ℕ) (out : List ℕ) (l : ℕ) → AreLinked heads links keys → IsWalk links (link_at heads walked) taken last → list_from links (length links) taken ≡ watch ∷ out → last ≡ Some l → l < length links
last-below heads links keys walked watch taken last out l c w f e =
    let first = first-is heads links keys walked watch taken last out c w f in
    let one : Has (option_to_list last) l = rw e (has-head l l [] refl) in
    list_from-below links (link_at heads walked) (c.lists walked) l (c.linked walked) (rw first.list (has-front l (w.before ++ option_to_list last) (watch ∷ out) (has-back l w.before (option_to_list last) one)))

-- after the first watch that was out was put back
pub record IsPut (heads links : List (Option ℕ)) (keys : List ℕ) (walked : ℕ) (taken last : Option ℕ) (out : List ℕ) : Type 0 where
  pub linked : AreLinked heads links keys
  pub walk : IsWalk links (link_at heads walked) taken last
  pub out_is : list_from links (length links) taken ≡ out

pub stayed : (heads links : List (Option ℕ)) (keys : List ℕ) (walked watch : ℕ) (taken last next : Option ℕ) (out : List ℕ) → AreLinked heads links keys → IsWalk links (link_at heads walked) taken last → list_from links (length links) taken ≡ watch ∷ out → next ≡ link_at links watch → IsPut heads links keys walked next taken out
stayed heads links keys walked watch taken last next out c w f n =
    let first = first-is heads links keys walked watch taken last out c w f in
    let list : watch ∷ list_from links (length links) (link_at links watch) ≡ watch ∷ out = sym (next-from links taken watch first.is w.out).list ∙ f in
    record {
      linked = c;
      walk = walk-on links (link_at heads walked) taken last next watch first.is n w;
      out_is = ap (λ (o : Option ℕ). list_from links (length links) o) n ∙ ap (λ (xs : List ℕ). drop 1 xs) list;
    }

pub moved : (heads links : List (Option ℕ)) (keys : List ℕ) (walked watch key : ℕ) (taken last next to : Option ℕ) (out : List ℕ) → AreLinked heads links keys → IsWalk links (link_at heads walked) taken last → list_from links (length links) taken ≡ watch ∷ out → next ≡ link_at links watch → (key ≡ walked → ⊥) → key < length heads → walked < length heads → to ≡ link_at (heads_past heads walked last next) key → IsPut (set (heads_past heads walked last next) key (Some watch)) (set (links_past links last next) watch to) (set keys watch key) walked next last out
moved heads links keys walked watch key taken last next to out c w f n d l m t =
    let first = first-is heads links keys walked watch taken last out c w f in
    let xs = w.before ++ option_to_list last in
    let heads_now = heads_past heads walked last (link_at links watch) in
    let links_now = links_past links last (link_at links watch) in
    let lists = with_list c.lists walked (xs ++ out) in
    let apart = past heads links keys c.lists watch walked w.before last out m w.none (to-linked heads links keys c) first.list in
    let inside : key < length heads_now = omega (arith, l, heads-past-length heads walked last (link_at links watch)) in
    let links_then = set links_now watch (link_at heads_now key) in
    let now : Linked (set heads_now key (Some watch)) links_then (set keys watch key) (put_in lists key watch) = put-apart heads_now links_now keys watch key walked xs out (link_at links watch) lists inside apart in
    let list : put_in lists key watch walked ≡ xs ++ out = put-other lists key watch walked (λ e. d (sym e)) ∙ apart.list in
    let loose : Has out watch → ⊥ = λ h. apart.apart walked (rw apart.list (has-back watch xs out h)) in
    let rest : IsList links_then (link_at links watch) out = list_from-set links_now watch (link_at heads_now key) (link_at links watch) out loose apart.rest in
    let once : AreOnce out = once-back xs out (rw apart.list at (apart.once walked)) in
    let is : list_from links_then (length links_then) (link_at links watch) ≡ out = once-is links_then (link_at links watch) out rest once in
    rw (t, n) (record {
      linked = from-linked _ _ _ _ now;
      walk = record {
        before = w.before;
        out = rw is rest;
        rest = λ z. rw is (list-is _ _ _ _ now walked ∙ list);
        none = w.none;
      };
      out_is = is;
    })
