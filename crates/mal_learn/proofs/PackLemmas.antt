-- Lines that are copied one after another.
use Rattle.std.proofs.Common.{◌≡◌, ℕ, suc, ◌+◌, ◌<◌, ◌≤◌, List, [], ◌∷◌, ◌++◌, length, take, drop, drop-cons, get_or, slice_get, Some, refl, sym, ◌∙◌, ap, arith}
use Rattle.std.proofs.lemmas.Option.{slice_get-get_or}
use Rattle.std.proofs.lemmas.List.{take_more}
use Rattle.mal_base.specs.NumberedClause.{Line}
use Rattle.mal_base.specs.Lined.{Lined}
use Rattle.mal_learn.specs.Packed.{literals_of, hints_of}

-- the lines from a place on begin with the one there
rest-at : (xs : List Line) (n : ℕ) (d : Line) → n < length xs → drop n xs ≡ get_or xs n d ∷ drop (n + 1) xs
rest-at xs n d low = let next : n + 1 ≡ suc n = omega arith in rw next (drop-cons xs n d low)

no_line : Line
no_line = record { id = 0; lits = []; hints = [] }

-- counting literals and hints goes on
pub literals-next : (xs : List Line) (n count now : ℕ) (lits : List ℕ) → n < length xs → ((l : Line) → slice_get xs n ≡ Some l → lits ≡ l.lits) → count + literals_of (drop n xs) ≡ literals_of xs → now ≡ count + length lits → now + literals_of (drop (n + 1) xs) ≡ literals_of xs
literals-next xs n count now lits low a h e =
    let own : lits ≡ (get_or xs n no_line).lits = a (get_or xs n no_line) (slice_get-get_or xs n no_line low) in
    let split : literals_of (drop n xs) ≡ length lits + literals_of (drop (n + 1) xs) = ap literals_of (rest-at xs n no_line low) ∙ ap (λ (ls : List ℕ). length ls + literals_of (drop (n + 1) xs)) (sym own) in
    omega (arith, h, e, split)

pub hints-next : (xs : List Line) (n count now : ℕ) (hints : List ℕ) → n < length xs → ((l : Line) → slice_get xs n ≡ Some l → hints ≡ l.hints) → count + hints_of (drop n xs) ≡ hints_of xs → now ≡ count + length hints → now + hints_of (drop (n + 1) xs) ≡ hints_of xs
hints-next xs n count now hints low a h e =
    let own : hints ≡ (get_or xs n no_line).hints = a (get_or xs n no_line) (slice_get-get_or xs n no_line low) in
    let split : hints_of (drop n xs) ≡ length hints + hints_of (drop (n + 1) xs) = ap hints_of (rest-at xs n no_line low) ∙ ap (λ (hs : List ℕ). length hs + hints_of (drop (n + 1) xs)) (sym own) in
    omega (arith, h, e, split)

-- the lines before a place are copied, and there is room for the others
pub record IsCopying (xs : List Line) (n : ℕ) (copy : Lined) : Type 0 where
  pub done : copy.lines ≡ take n xs
  pub room : length (drop n xs) ≤ copy.room
  pub lit_room : literals_of (drop n xs) ≤ copy.lit_room
  pub hint_room : hints_of (drop n xs) ≤ copy.hint_room

-- so there is room for the one there
pub record HasLineRoom (xs : List Line) (n : ℕ) (lits hints : List ℕ) (copy : Lined) : Type 0 where
  pub room : 1 + length (drop (n + 1) xs) ≤ copy.room
  pub lit_room : length lits + literals_of (drop (n + 1) xs) ≤ copy.lit_room
  pub hint_room : length hints + hints_of (drop (n + 1) xs) ≤ copy.hint_room

pub copying-room : (xs : List Line) (n : ℕ) (lits hints : List ℕ) (copy : Lined) → n < length xs
    → ((l : Line) → slice_get xs n ≡ Some l → lits ≡ l.lits) → ((l : Line) → slice_get xs n ≡ Some l → hints ≡ l.hints)
    → IsCopying xs n copy → HasLineRoom xs n lits hints copy
copying-room xs n lits hints copy low b c h =
    let is : slice_get xs n ≡ Some (get_or xs n no_line) = slice_get-get_or xs n no_line low in
    let room : suc (length (drop (n + 1) xs)) ≤ copy.room = rw (rest-at xs n no_line low) at h.room in
    let lit_room : length (get_or xs n no_line).lits + literals_of (drop (n + 1) xs) ≤ copy.lit_room = rw (rest-at xs n no_line low) at h.lit_room in
    let hint_room : length (get_or xs n no_line).hints + hints_of (drop (n + 1) xs) ≤ copy.hint_room = rw (rest-at xs n no_line low) at h.hint_room in
    record {
      room = omega (arith, room);
      lit_room = rw (b (get_or xs n no_line) is) lit_room;
      hint_room = rw (c (get_or xs n no_line) is) hint_room;
    }

-- one line more is copied
pub copying-next : (xs : List Line) (n id : ℕ) (lits hints : List ℕ) (copy next : Lined) → n < length xs
    → ((l : Line) → slice_get xs n ≡ Some l → id ≡ l.id) → ((l : Line) → slice_get xs n ≡ Some l → lits ≡ l.lits) → ((l : Line) → slice_get xs n ≡ Some l → hints ≡ l.hints)
    → next.lines ≡ copy.lines ++ record { id = id; lits = lits; hints = hints } ∷ []
    → next.room + 1 ≡ copy.room → next.lit_room + length lits ≡ copy.lit_room → next.hint_room + length hints ≡ copy.hint_room
    → IsCopying xs n copy → IsCopying xs (n + 1) next
copying-next xs n id lits hints copy next low a b c e less less_lits less_hints h =
    let here = copying-room xs n lits hints copy low b c h in
    let is : slice_get xs n ≡ Some (get_or xs n no_line) = slice_get-get_or xs n no_line low in
    let line : record { id = id; lits = lits; hints = hints } ≡ get_or xs n no_line = rw (a (get_or xs n no_line) is, b (get_or xs n no_line) is, c (get_or xs n no_line) is) refl in
    let room : 1 + length (drop (n + 1) xs) ≤ copy.room = here.room in
    let lit_room : length lits + literals_of (drop (n + 1) xs) ≤ copy.lit_room = here.lit_room in
    let hint_room : length hints + hints_of (drop (n + 1) xs) ≤ copy.hint_room = here.hint_room in
    record {
      done = e ∙ (ap (λ (ls : List Line). ls ++ record { id = id; lits = lits; hints = hints } ∷ []) h.done ∙ (ap (λ (l : Line). take n xs ++ l ∷ []) line ∙ sym (take_more xs n no_line low)));
      room = omega (arith, room, less);
      lit_room = omega (arith, lit_room, less_lits);
      hint_room = omega (arith, hint_room, less_hints);
    }
