-- Trails with the same literals, in the same order, at the same levels.
use Rattle.std.proofs.Common.{◌≡◌, ℕ, zero, suc, List, [], ◌∷◌, length, map, take, get_or, set, Option, Some, refl, sym, ap, ◌∙◌, arith}
use Rattle.std.specs.Prelude.{slice_get}
use Rattle.std.specs.Option.{unwrap_or}
use Rattle.std.proofs.lemmas.List.{length-set}
use Rattle.mal_base.specs.Literals.{var_of, negated}
use Rattle.mal_base.specs.declared.trail_entry.TrailEntry.{TrailEntry}
use Rattle.spec_node.specs.Value.{is_true, is_false, vars_of}
use Rattle.mal_trail.specs.Trailed.{LevelsRise, Fits, Stand, false_place}

abbrev pub lits_of : List TrailEntry → List ℕ
lits_of entries = map (λ e. e.lit) entries

head-same : (x y : ℕ) (xs ys : List ℕ) → x ∷ xs ≡ y ∷ ys → x ≡ y
head-same x y xs ys h = ap (λ (zs : List ℕ). get_or zs 0 x) h

rest-same : (x y : ℕ) (xs ys : List ℕ) → x ∷ xs ≡ y ∷ ys → xs ≡ ys
rest-same x y xs ys h = ap (λ (zs : List ℕ). rest zs) h
  where
    rest : List ℕ → List ℕ
    rest [] = []
    rest (z ∷ zs) = zs

rest-cons : (e : TrailEntry) (es : List TrailEntry) (f : TrailEntry) (fs : List TrailEntry) → lits_of (e ∷ es) ≡ lits_of (f ∷ fs) → lits_of es ≡ lits_of fs
rest-cons e es f fs h = rest-same e.lit f.lit (lits_of es) (lits_of fs) h

empty-cons : {X : Type 0} (e : TrailEntry) (es : List TrailEntry) → lits_of (e ∷ es) ≡ [] → X
empty-cons e es h = absurd (omega (arith, ap (λ (xs : List ℕ). length xs) h))

-- a literal is true under the first of these where it is under the first of those
pub true-alike : (n l : ℕ) (entries others : List TrailEntry) → lits_of others ≡ lits_of entries → is_true (take n others) l ≡ is_true (take n entries) l
true-alike zero l entries others h = refl
true-alike (suc n) l [] [] h = refl
true-alike (suc n) l (e ∷ es) [] h = empty-cons e es (sym h)
true-alike (suc n) l [] (f ∷ fs) h = empty-cons f fs h
true-alike (suc n) l (e ∷ es) (f ∷ fs) h =
    rw (head-same f.lit e.lit (lits_of fs) (lits_of es) h, true-alike n l es fs (rest-cons f fs e es h)) refl

pub false-alike : (n l : ℕ) (entries others : List TrailEntry) → lits_of others ≡ lits_of entries → is_false (take n others) l ≡ is_false (take n entries) l
false-alike n l entries others h = true-alike n (negated l) entries others h

pub entry-is : (x e : TrailEntry) → Some x ≡ Some e → x ≡ e
entry-is x e h = ap (λ (o : Option TrailEntry). unwrap_or o x) h

-- literals and levels stay where an entry's reason alone is another
pub lits-set : (entries : List TrailEntry) (k : ℕ) (e f : TrailEntry) → slice_get entries k ≡ Some e → f.lit ≡ e.lit → lits_of (set entries k f) ≡ lits_of entries
lits-set [] k e f h l = refl
lits-set (x ∷ es) zero e f h l = rw (l, entry-is x e h) refl
lits-set (x ∷ es) (suc k) e f h l = rw (lits-set es k e f h l) refl

levels-set : (entries : List TrailEntry) (k : ℕ) (e f : TrailEntry) → slice_get entries k ≡ Some e → f.level ≡ e.level → (level : ℕ) → LevelsRise level entries → LevelsRise level (set entries k f)
levels-set [] k e f h l level r = r
levels-set (x ∷ es) zero e f h l level r = rw (l, ← entry-is x e h) r
levels-set (x ∷ es) (suc k) e f h l level r = (r.0, r.1, levels-set es k e f h l x.level r.2)

vars-alike : (entries others : List TrailEntry) → lits_of others ≡ lits_of entries → vars_of others ≡ vars_of entries
vars-alike entries others h = map-twice others ∙ (ap (λ (ls : List ℕ). map var_of ls) h ∙ sym (map-twice entries))
  where
    map-twice : (es : List TrailEntry) → vars_of es ≡ map var_of (lits_of es)
    map-twice [] = refl
    map-twice (e ∷ es) = rw (map-twice es) refl

-- a trail fits its room, and stands, where an entry's reason alone is another
pub Fits-set : (most : ℕ) (entries : List TrailEntry) (k : ℕ) (e f : TrailEntry) → slice_get entries k ≡ Some e → f.lit ≡ e.lit → f.level ≡ e.level → Fits most entries → Fits most (set entries k f)
Fits-set most entries k e f h l v t =
    let vars : vars_of (set entries k f) ≡ vars_of entries = vars-alike entries (set entries k f) (lits-set entries k e f h l) in
    record { small = t.small; distinct = rw vars t.distinct; within = rw vars t.within; levels = levels-set entries k e f h v 0 t.levels }

lit-at : (entries others : List TrailEntry) (k : ℕ) (d : TrailEntry) → lits_of others ≡ lits_of entries → (get_or others k d).lit ≡ (get_or entries k d).lit
lit-at [] [] k d h = refl
lit-at [] (f ∷ fs) k d h = empty-cons f fs h
lit-at (e ∷ es) [] k d h = empty-cons e es (sym h)
lit-at (e ∷ es) (f ∷ fs) zero d h = head-same f.lit e.lit (lits_of fs) (lits_of es) h
lit-at (e ∷ es) (f ∷ fs) (suc k) d h = lit-at es fs k d (rest-cons f fs e es h)

pub Stand-set : (places : List ℕ) (entries : List TrailEntry) (k : ℕ) (e f : TrailEntry) → slice_get entries k ≡ Some e → f.lit ≡ e.lit → Stand places entries → Stand places (set entries k f)
Stand-set places entries k e f h l s =
    let lits = lits-set entries k e f h l in
    let long : length (set entries k f) ≡ length entries = length-set entries k f in
    record {
      placed = λ j d b. rw (lit-at entries (set entries k f) j d lits) (s.placed j d (omega (arith, b, long)));
      there = λ m d. rw (long, lit-at entries (set entries k f) (false_place places m) d lits) (s.there m d);
    }
