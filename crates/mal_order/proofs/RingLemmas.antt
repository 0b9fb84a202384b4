use Rattle.std.proofs.Common.{◌≡◌, ◌≢◌, ℕ, zero, suc, ◌<◌, ◌≤◌, Bool, true, false, List, [], ◌∷◌, ◌++◌, length, take, get_or, set, replicate, eqb, refl, sym, ap, ◌∙◌, subst, arith}
use Rattle.std.specs.Prelude.{◌||◌, ◌==◌}
use Rattle.std.specs.List.{list_any}
use Rattle.std.proofs.lemmas.List.{get_or-set_same, get_or-set_other, length-set}
use Rattle.std.proofs.lemmas.Bool.{eqb-true}
use Rattle.spec_learn.specs.Order.{without, moved}
use Rattle.mal_order.specs.Rings.{Linked, link, walk, Leads, IsApart, AreOnce, ArePlaced, IsRing}

-- the walk along links that lead over numbers
pub walk-leads : (after before : List ℕ) (a z : ℕ) (vs : List ℕ) → Leads after before a vs z → walk after a (length vs) ≡ vs
walk-leads after before a z [] h = refl
walk-leads after before a z (v ∷ vs) h = rw h.0 (ap (λ (xs : List ℕ). v ∷ xs) (walk-leads after before v z vs h.2))

pub length-walk : (after : List ℕ) (a n : ℕ) → length (walk after a n) ≡ n
length-walk after a zero = refl
length-walk after a (suc n) = ap (λ (k : ℕ). suc k) (length-walk after (link after a) n)

-- one pair of links more does not touch a way that goes by
pub tied-apart : (after before : List ℕ) (i x a z : ℕ) (vs : List ℕ) → IsApart i (a ∷ vs) → IsApart x vs → z ≢ x → Leads after before a vs z → Leads (set after i x) (set before x i) a vs z
tied-apart after before i x a z [] p q r h = (get_or-set_other after i a x 0 p.0 ∙ h.0, get_or-set_other before x z i 0 r ∙ h.1)
tied-apart after before i x a z (v ∷ vs) p q r h = (get_or-set_other after i a x 0 p.0 ∙ h.0, get_or-set_other before x v i 0 q.0 ∙ h.1, tied-apart after before i x v z vs p.1 q.1 r h.2)

flip : (a b : ℕ) → a ≢ b → b ≢ a
flip a b h q = h (sym q)

-- what stands before the end of a way, and before and after a number on it
last-apart : (after before : List ℕ) (x z k : ℕ) (vs : List ℕ) → Leads after before x vs z → IsApart k (x ∷ vs) → link before z ≢ k
last-apart after before x z k [] h p q = p.0 (sym h.1 ∙ q)
last-apart after before x z k (v ∷ vs) h p q = last-apart after before v z k vs h.2 p.1 q

left-apart : (after before : List ℕ) (x v z k : ℕ) (xs ys : List ℕ) → Leads after before x (xs ++ v ∷ ys) z → IsApart k (x ∷ (xs ++ v ∷ ys)) → link before v ≢ k
left-apart after before x v z k [] ys h p q = p.0 (sym h.1 ∙ q)
left-apart after before x v z k (y ∷ xs) ys h p q = left-apart after before y v z k xs ys h.2 p.1 q

right-apart : (after before : List ℕ) (x v z k : ℕ) (xs ys : List ℕ) → Leads after before x (xs ++ v ∷ ys) z → IsApart k (xs ++ v ∷ ys) → z ≢ k → link after v ≢ k
right-apart after before x v z k [] [] h p r q = r (sym h.2.0 ∙ q)
right-apart after before x v z k [] (y ∷ ys) h p r q = p.1.0 (sym h.2.0 ∙ q)
right-apart after before x v z k (y ∷ xs) ys h p r q = right-apart after before y v z k xs ys h.2 p.1 r q

-- a number is taken out of a way
taken : (after before : List ℕ) (a v z : ℕ) (xs ys : List ℕ) → a < length after → z < length before → ArePlaced (length after) (xs ++ v ∷ ys) → length before ≡ length after → AreOnce (a ∷ (xs ++ v ∷ ys)) → IsApart z (xs ++ v ∷ ys) → Leads after before a (xs ++ v ∷ ys) z → Leads (set after (link before v) (link after v)) (set before (link after v) (link before v)) a (xs ++ ys) z
taken after before a v z [] [] la lz w s o p h = rw (h.1, h.2.0) (get_or-set_same after a z 0 la, get_or-set_same before z a 0 lz)
taken after before a v z [] (f ∷ ys) la lz w s o p h =
    let one : Leads (set after a f) (set before f a) a (f ∷ ys) z = (
      get_or-set_same after a f 0 la,
      get_or-set_same before f a 0 (omega (arith, w.2.1, s)),
      tied-apart after before a f f z ys o.0.1 o.1.1.0 (flip f z p.1.0) h.2.2,
    ) in
    let two : Leads (set after a (link after v)) (set before (link after v) a) a (f ∷ ys) z = subst (λ (g : ℕ). Leads (set after a g) (set before g a) a (f ∷ ys) z) (sym h.2.0) one in
    subst (λ (b : ℕ). Leads (set after b (link after v)) (set before (link after v) b) a (f ∷ ys) z) (sym h.1) two
taken after before a v z (x ∷ xs) ys la lz w s o p h =
    let left : a ≢ link before v = flip (link before v) a (left-apart after before x v z a xs ys h.2 o.0) in
    let right : x ≢ link after v = flip (link after v) x (right-apart after before x v z x xs ys h.2 o.1.0 (flip x z p.0)) in (
      get_or-set_other after (link before v) a (link after v) 0 left ∙ h.0,
      get_or-set_other before (link after v) x (link before v) 0 right ∙ h.1,
      taken after before x v z xs ys w.1 lz w.2 s o.1 p.1 h.2,
    )

-- a number is put to the front of a way
fronted : (after before : List ℕ) (a v z : ℕ) (ms : List ℕ) → a < length after → v < length after → v < length before → z < length before → ArePlaced (length before) ms → v ≢ a → z ≢ v → IsApart a ms → IsApart v ms → IsApart z ms → AreOnce ms → Leads after before a ms z → Leads (set (set after v (link after a)) a v) (set (set before (link after a) v) v a) a (v ∷ ms) z
fronted after before a v z [] la lv mv lz w va zv pa pv pz o h =
    rw h.0 (
      get_or-set_same (set after v z) a v 0 (rw (length-set after v z) la),
      get_or-set_same (set before z v) v a 0 (rw (length-set before z v) mv),
      (
        get_or-set_other (set after v z) a v v 0 va ∙ get_or-set_same after v z 0 lv,
        get_or-set_other (set before z v) v z a 0 zv ∙ get_or-set_same before z v 0 lz,
      ),
    )
fronted after before a v z (f ∷ ms) la lv mv lz w va zv pa pv pz o h =
    subst (λ (g : ℕ). Leads (set (set after v g) a v) (set (set before g v) v a) a (v ∷ (f ∷ ms)) z) (sym h.0) (
      get_or-set_same (set after v f) a v 0 (rw (length-set after v f) la),
      get_or-set_same (set before f v) v a 0 (rw (length-set before f v) mv),
      (
        get_or-set_other (set after v f) a v v 0 va ∙ get_or-set_same after v f 0 lv,
        get_or-set_other (set before f v) v f a 0 pv.0 ∙ get_or-set_same before f v 0 w.1,
        tied-apart (set after v f) (set before f v) a v f z ms pa pv.1 zv (tied-apart after before v f f z ms pv o.0 (flip f z pz.0) h.2),
      ),
    )

-- a number is put to the end of a way
ended : (after before : List ℕ) (a v z : ℕ) (ms : List ℕ) → a < length after → v < length after → v < length before → z < length before → ArePlaced (length after) ms → v ≢ z → IsApart v (a ∷ ms) → IsApart z ms → AreOnce (a ∷ ms) → Leads after before a ms z → Leads (set (set after (link before z) v) v z) (set (set before v (link before z)) z v) a (ms ++ v ∷ []) z
ended after before a v z [] la lv mv lz w vz pv pz o h =
    rw h.1 (
      get_or-set_other (set after a v) v a z 0 pv.0 ∙ get_or-set_same after a v 0 la,
      get_or-set_other (set before v a) z v v 0 vz ∙ get_or-set_same before v a 0 mv,
      (
        get_or-set_same (set after a v) v z 0 (rw (length-set after a v) lv),
        get_or-set_same (set before v a) z v 0 (rw (length-set before v a) lz),
      ),
    )
ended after before a v z (x ∷ ms) la lv mv lz w vz pv pz o h =
    let b = link before z in
    let other : a ≢ b = flip b a (last-apart after before x z a ms h.2 o.0) in (
      get_or-set_other (set after b v) v a z 0 pv.0 ∙ (get_or-set_other after b a v 0 other ∙ h.0),
      get_or-set_other (set before v b) z x v 0 pz.0 ∙ (get_or-set_other before v x b 0 pv.1.0 ∙ h.1),
      ended after before x v z ms w.1 lv mv lz w.2 vz pv.1 pz.1 o.1 h.2,
    )

-- lists that have a number in the middle, and without it
pub apart-at : (k v : ℕ) (xs ys : List ℕ) → IsApart k (xs ++ v ∷ ys) → v ≢ k
apart-at k v [] ys h = h.0
apart-at k v (x ∷ xs) ys h = apart-at k v xs ys h.1

pub apart-out : (k v : ℕ) (xs ys : List ℕ) → IsApart k (xs ++ v ∷ ys) → IsApart k (xs ++ ys)
apart-out k v [] ys h = h.1
apart-out k v (x ∷ xs) ys h = (h.0, apart-out k v xs ys h.1)

apart-in : (k v : ℕ) (xs ys : List ℕ) → v ≢ k → IsApart k (xs ++ ys) → IsApart k (xs ++ v ∷ ys)
apart-in k v [] ys d h = (d, h)
apart-in k v (x ∷ xs) ys d h = (h.0, apart-in k v xs ys d h.1)

apart-front : (k : ℕ) (xs ys : List ℕ) → IsApart k (xs ++ ys) → IsApart k xs
apart-front k [] ys h = tt
apart-front k (x ∷ xs) ys h = (h.0, apart-front k xs ys h.1)

once-out : (v : ℕ) (xs ys : List ℕ) → AreOnce (xs ++ v ∷ ys) → AreOnce (v ∷ (xs ++ ys))
once-out v [] ys h = h
once-out v (x ∷ xs) ys h =
    let r = once-out v xs ys h.1 in
    ((flip v x (apart-at x v xs ys h.0), r.0), (apart-out x v xs ys h.0, r.1))

placed-out : (n v : ℕ) (xs ys : List ℕ) → ArePlaced n (xs ++ v ∷ ys) → ArePlaced n (v ∷ (xs ++ ys))
placed-out n v [] ys h = h
placed-out n v (x ∷ xs) ys h =
    let r = placed-out n v xs ys h.2 in
    (r.0, r.1, (h.0, h.1, r.2))

length-out : (v : ℕ) (xs ys : List ℕ) → length (v ∷ (xs ++ ys)) ≡ length (xs ++ v ∷ ys)
length-out v [] ys = refl
length-out v (x ∷ xs) ys = ap (λ (k : ℕ). suc k) (length-out v xs ys)

pub placed-apart : (n k : ℕ) (vs : List ℕ) → n ≤ k → ArePlaced n vs → IsApart k vs
placed-apart n k [] l h = tt
placed-apart n k (v ∷ vs) l h = ((λ q. omega (arith, q, l, h.1)), placed-apart n k vs l h.2)

pub zero-apart : (n : ℕ) (vs : List ℕ) → ArePlaced n vs → IsApart 0 vs
zero-apart n [] h = tt
zero-apart n (v ∷ vs) h = ((λ q. omega (arith, q, h.0)), zero-apart n vs h.2)

pub placed-more : (n m : ℕ) (vs : List ℕ) → n ≤ m → ArePlaced n vs → ArePlaced m vs
placed-more n m [] l h = tt
placed-more n m (v ∷ vs) l h = (h.0, omega (arith, h.1, l), placed-more n m vs l h.2)

-- a list in which a number stands, cut at it
record IsCut (v : ℕ) (ws xs ys : List ℕ) : Type 0 where
  whole : ws ≡ xs ++ v ∷ ys
  rest : without v ws ≡ xs ++ ys

cut-at : (v : ℕ) (ws : List ℕ) → list_any (λ w. w == v) ws ≡ true → (xs : List ℕ) × (ys : List ℕ) × IsCut v ws xs ys
cut-at v [] h = absurd (cc)
cut-at v (w ∷ ws) h = by_here (cut-at v ws) (eqb w v) refl h
  where
    by_here : (list_any (λ x. x == v) ws ≡ true → (xs : List ℕ) × (ys : List ℕ) × IsCut v ws xs ys) → (b : Bool) → eqb w v ≡ b → (b || list_any (λ x. x == v) ws) ≡ true → (xs : List ℕ) × (ys : List ℕ) × IsCut v (w ∷ ws) xs ys
    by_here f true e k = ([], ws, record { whole = ap (λ (x : ℕ). x ∷ ws) (eqb-true w v e); rest = rw e refl })
    by_here f false e k =
        let r = f k in
        (w ∷ r.0, r.1, record { whole = ap (λ (x : List ℕ). w ∷ x) r.2.whole; rest = rw e (ap (λ (x : List ℕ). w ∷ x) r.2.rest) })

-- what stands before and after a number, at the end and at the front of a way, has a place
last-below : (after before : List ℕ) (a z n : ℕ) (vs : List ℕ) → a < n → ArePlaced n vs → Leads after before a vs z → link before z < n
last-below after before a z n [] l w h = rw h.1 l
last-below after before a z n (v ∷ vs) l w h = last-below after before v z n vs w.1 w.2 h.2

first-below : (after before : List ℕ) (a z n : ℕ) (vs : List ℕ) → z < n → ArePlaced n vs → Leads after before a vs z → link after a < n
first-below after before a z n [] l w h = rw h.0 l
first-below after before a z n (v ∷ vs) l w h = rw h.0 w.1

left-below : (after before : List ℕ) (a v z n : ℕ) (xs ys : List ℕ) → a < n → ArePlaced n (xs ++ v ∷ ys) → Leads after before a (xs ++ v ∷ ys) z → link before v < n
left-below after before a v z n [] ys l w h = rw h.1 l
left-below after before a v z n (x ∷ xs) ys l w h = left-below after before x v z n xs ys w.1 w.2 h.2

right-below : (after before : List ℕ) (a v z n : ℕ) (xs ys : List ℕ) → z < n → ArePlaced n (xs ++ v ∷ ys) → Leads after before a (xs ++ v ∷ ys) z → link after v < n
right-below after before a v z n [] ys l w h = first-below after before v z n ys l w.2 h.2
right-below after before a v z n (x ∷ xs) ys l w h = right-below after before x v z n xs ys l w.2 h.2

-- a number of a ring, cut out
pub record IsTaken (after before : Linked) (v : ℕ) (list : List ℕ) : Type 0 where
  pub here : v < length after.numbers
  pub left : link before.numbers v < length after.numbers
  pub right : link after.numbers v < length before.numbers
  pub leads : Leads (set after.numbers (link before.numbers v) (link after.numbers v)) (set before.numbers (link after.numbers v) (link before.numbers v)) 0 (without v list) 0
  pub once : AreOnce (moved v list)
  pub placed : ArePlaced (length after.numbers) (moved v list)
  pub others : (k : ℕ) → k ≢ 0 → IsApart k (moved v list) → link (set after.numbers (link before.numbers v) (link after.numbers v)) k ≡ 0
  pub long : length (moved v list) ≡ length list

pub ring-taken : (after before : Linked) (v s : ℕ) (list : List ℕ) → IsRing after before list s → list_any (λ w. w == v) list ≡ true → IsTaken after before v list
ring-taken after before v s list r h =
    let k = cut-at v list h in
    let xs = k.0 in
    let ys = k.1 in
    let w : ArePlaced (length after.numbers) (xs ++ v ∷ ys) = rw k.2.whole at r.placed in
    let o : AreOnce (xs ++ v ∷ ys) = rw k.2.whole at r.once in
    let l : Leads after.numbers before.numbers 0 (xs ++ v ∷ ys) 0 = rw k.2.whole at r.leads in
    let z : IsApart 0 (xs ++ v ∷ ys) = zero-apart (length after.numbers) (xs ++ v ∷ ys) w in
    let out = placed-out (length after.numbers) v xs ys w in
    let la : 0 < length after.numbers = omega (arith, r.some) in
    let lb : 0 < length before.numbers = omega (arith, r.some, r.same) in
    let same : length after.numbers ≡ length before.numbers = sym r.same in
    record {
      here = out.1;
      left = left-below after.numbers before.numbers 0 v 0 (length after.numbers) xs ys la w l;
      right = rw r.same (right-below after.numbers before.numbers 0 v 0 (length after.numbers) xs ys la w l);
      leads = rw k.2.rest (taken after.numbers before.numbers 0 v 0 xs ys la lb w r.same (z, o) z l);
      once = rw k.2.rest (once-out v xs ys o);
      placed = rw k.2.rest out;
      others = λ n d a.
          let apart : IsApart n (xs ++ v ∷ ys) = apart-in n v xs ys a.0 (rw k.2.rest at a.1) in
          let left : n ≢ link before.numbers v = flip (link before.numbers v) n (left-apart after.numbers before.numbers 0 v 0 n xs ys l (flip n 0 d, apart)) in
          get_or-set_other after.numbers (link before.numbers v) n (link after.numbers v) 0 left ∙ r.others n d (rw k.2.whole apart);
      long = ap (λ (ws : List ℕ). length (v ∷ ws)) k.2.rest ∙ (length-out v xs ys ∙ sym (ap (λ (ws : List ℕ). length ws) k.2.whole));
    }

-- a number that was cut out, put to the front
pub ring-fronted : (after before : List ℕ) (v n : ℕ) (ms : List ℕ) → length after ≡ n → length before ≡ n → Leads after before 0 ms 0 → AreOnce (v ∷ ms) → ArePlaced n (v ∷ ms) → (link after 0 < n) × Leads (set (set after v (link after 0)) 0 v) (set (set before (link after 0) v) v 0) 0 (v ∷ ms) 0
ring-fronted after before v n ms p q h o w =
    let z : IsApart 0 (v ∷ ms) = zero-apart n (v ∷ ms) w in
    let low : 0 < n = omega (arith, w.0, w.1) in (
      first-below after before 0 0 n ms low w.2 h,
      fronted after before 0 v 0 ms (rw p low) (rw p w.1) (rw q w.1) (rw q low) (rw q w.2) z.0 (flip v 0 z.0) z.1 o.0 z.1 o.1 h,
    )

pub apart-back : (k v : ℕ) (ms : List ℕ) → IsApart k ms → v ≢ k → IsApart k (ms ++ v ∷ [])
apart-back k v [] p q = (q, tt)
apart-back k v (x ∷ ms) p q = (p.0, apart-back k v ms p.1 q)

once-back : (v : ℕ) (ms : List ℕ) → AreOnce ms → IsApart v ms → AreOnce (ms ++ v ∷ [])
once-back v [] o p = (tt, tt)
once-back v (x ∷ ms) o p = (apart-back x v ms o.0 (flip x v p.0), once-back v ms o.1 p.1)

placed-back : (n v : ℕ) (ms : List ℕ) → ArePlaced n ms → 1 ≤ v → v < n → ArePlaced n (ms ++ v ∷ [])
placed-back n v [] w l h = (l, h, tt)
placed-back n v (x ∷ ms) w l h = (w.0, w.1, placed-back n v ms w.2 l h)

-- a number put after the others of a ring
pub record IsEnded (after before : Linked) (v : ℕ) (list : List ℕ) : Type 0 where
  pub last : link before.numbers 0 < length after.numbers
  pub leads : Leads (set (set after.numbers (link before.numbers 0) v) v 0) (set (set before.numbers v (link before.numbers 0)) 0 v) 0 (list ++ v ∷ []) 0
  pub once : AreOnce (list ++ v ∷ [])
  pub placed : ArePlaced (length after.numbers) (list ++ v ∷ [])
  pub others : (k : ℕ) → k ≢ 0 → IsApart k (list ++ v ∷ []) → link (set (set after.numbers (link before.numbers 0) v) v 0) k ≡ 0

pub ring-ended : (after before : Linked) (v s : ℕ) (list : List ℕ) → IsRing after before list s → 1 ≤ v → v < length after.numbers → IsApart v list → IsEnded after before v list
ring-ended after before v s list r some here p =
    let z : IsApart 0 list = zero-apart (length after.numbers) list r.placed in
    let la : 0 < length after.numbers = omega (arith, r.some) in
    let lb : 0 < length before.numbers = omega (arith, r.some, r.same) in
    let vz : v ≢ 0 = λ q. omega (arith, q, some) in
    record {
      last = last-below after.numbers before.numbers 0 0 (length after.numbers) list la r.placed r.leads;
      leads = ended after.numbers before.numbers 0 v 0 list la here (rw r.same here) lb r.placed vz (flip v 0 vz, p) z (z, r.once) r.leads;
      once = once-back v list r.once p;
      placed = placed-back (length after.numbers) v list r.placed some here;
      others = λ k n a.
          let apart : IsApart k list = apart-front k list (v ∷ []) a in
          let behind : k ≢ link before.numbers 0 = flip (link before.numbers 0) k (last-apart after.numbers before.numbers 0 0 k list r.leads (flip k 0 n, apart)) in
          get_or-set_other (set after.numbers (link before.numbers 0) v) v k 0 0 (flip v k (apart-at k v list [] a)) ∙ (get_or-set_other after.numbers (link before.numbers 0) k v 0 behind ∙ r.others k n apart);
    }

-- what stands after a number of a ring
pub next-leads : (after before : List ℕ) (a z n : ℕ) (vs : List ℕ) (p : ℕ) → Leads after before a vs z → ArePlaced n vs → p < length vs → (link after (get_or (a ∷ vs) p 0) ≡ get_or vs p 0) × (1 ≤ get_or vs p 0) × (get_or vs p 0 < n)
next-leads after before a z n [] p h w l = absurd (omega (arith, l))
next-leads after before a z n (v ∷ vs) zero h w l = (h.0, w.0, w.1)
next-leads after before a z n (v ∷ vs) (suc p) h w l = next-leads after before v z n vs p h.2 w.2 (omega (arith, l))

-- and after the last one
pub next-last : (after before : List ℕ) (a z : ℕ) (vs : List ℕ) → Leads after before a vs z → link after (get_or (a ∷ vs) (length vs) 0) ≡ z
next-last after before a z [] h = h.0
next-last after before a z (v ∷ vs) h = next-last after before v z vs h.2

-- more places, with the number 0, leave a way as it is
pub link-more : (xs : List ℕ) (n k : ℕ) → link (xs ++ replicate n 0) k ≡ link xs k
link-more [] zero k = refl
link-more [] (suc n) zero = refl
link-more [] (suc n) (suc k) = link-more [] n k
link-more (x ∷ xs) n zero = refl
link-more (x ∷ xs) n (suc k) = link-more xs n k

pub leads-more : (after before : List ℕ) (a z n : ℕ) (vs : List ℕ) → Leads after before a vs z → Leads (after ++ replicate n 0) (before ++ replicate n 0) a vs z
leads-more after before a z n [] h = (link-more after n a ∙ h.0, link-more before n z ∙ h.1)
leads-more after before a z n (v ∷ vs) h = (link-more after n a ∙ h.0, link-more before n v ∙ h.1, leads-more after before v z n vs h.2)

-- a number moved to the front of a ring, over three pairs of links
pub ring-bumped : (after before : Linked) (v s : ℕ) (list a b : List ℕ) → IsRing after before list s → list_any (λ w. w == v) list ≡ true → a ≡ set after.numbers (link before.numbers v) (link after.numbers v) → b ≡ set before.numbers (link after.numbers v) (link before.numbers v) → (link a 0 < length before.numbers) × Leads (set (set a v (link a 0)) 0 v) (set (set b (link a 0) v) v 0) 0 (moved v list) 0
ring-bumped after before v s list a b r h p q =
    let t = ring-taken after before v s list r h in
    let leads : Leads a b 0 (without v list) 0 = rw (p, q) t.leads in
    let long_a : length a ≡ length after.numbers = rw p (length-set after.numbers (link before.numbers v) (link after.numbers v)) in
    let long_b : length b ≡ length after.numbers = rw q (length-set before.numbers (link after.numbers v) (link before.numbers v)) ∙ r.same in
    let f = ring-fronted a b v (length after.numbers) (without v list) long_a long_b leads t.once t.placed in
    (rw r.same f.0, f.1)

-- links that are equal lead the same way
pub leads-same : (a a2 b b2 : List ℕ) (x z : ℕ) (vs : List ℕ) → a ≡ a2 → b ≡ b2 → Leads a2 b2 x vs z → Leads a b x vs z
leads-same a a2 b b2 x z vs p q h =
    let one : Leads a2 b x vs z = subst (λ (t : List ℕ). Leads a2 t x vs z) (sym q) h in
    subst (λ (t : List ℕ). Leads t b x vs z) (sym p) one

pub apart-append : (k : ℕ) (xs ys : List ℕ) → IsApart k xs → IsApart k ys → IsApart k (xs ++ ys)
apart-append k [] ys p q = q
apart-append k (x ∷ xs) ys p q = (p.0, apart-append k xs ys p.1 q)

-- a number of a list that stands once is not among those before it
apart-read : (k : ℕ) (xs : List ℕ) (p : ℕ) → p < length xs → IsApart k xs → get_or xs p 0 ≢ k
apart-read k [] p l h = absurd (omega (arith, l))
apart-read k (x ∷ xs) zero l h = h.0
apart-read k (x ∷ xs) (suc p) l h = apart-read k xs p (omega (arith, l)) h.1

pub once-read : (xs : List ℕ) (p : ℕ) → p < length xs → AreOnce xs → IsApart (get_or xs p 0) (take p xs)
once-read [] p l h = absurd (omega (arith, l))
once-read (x ∷ xs) zero l h = tt
once-read (x ∷ xs) (suc p) l h = (flip (get_or xs p 0) x (apart-read x xs p (omega (arith, l)) h.0), once-read xs p (omega (arith, l)) h.1)

pub placed-read : (n : ℕ) (xs : List ℕ) (p : ℕ) → p < length xs → ArePlaced n xs → get_or xs p 0 < n
placed-read n [] p l h = absurd (omega (arith, l))
placed-read n (x ∷ xs) zero l h = h.1
placed-read n (x ∷ xs) (suc p) l h = placed-read n xs p (omega (arith, l)) h.2
