-- What is kept beside the seats after a change.
use Rattle.std.proofs.Common.{◌≡◌, ℕ, suc, ◌+◌, ◌<◌, ◌^◌, cond, List, [], ◌∷◌, ◌++◌, length, take, drop, get_or, slice_get, slice_set, Some, Result, Ok, Err, refl, sym, ◌∙◌, ap, arith}
use Rattle.std.specs.Prelude.{OnErr, OnOk}
use Rattle.std.specs.List.{remove}
use Rattle.std.proofs.lemmas.List.{set-get_or, take_at}
use Rattle.std.proofs.lemmas.List.Sums.{count_by-le-length}
use Rattle.std.proofs.lemmas.Option.{slice_get_read, get_or_from_slice_get}
use Rattle.spec_hall.specs.Seats.{Seat, balanced_by, balanced_from, has_changed, is_live_seat}
use Rattle.mal_seats.specs.Changed.{HasStepped, IsChanged, IsSteady}
use Rattle.mal_seats.specs.Counted.{AreCounted, AreRecounted, IsAmong, is_unfinished, marks_of, no_marks, one}
use Rattle.mal_seats.specs.Kept.{AreKept}
use Rattle.mal_seats.specs.declared.counts.Counts.{Counts}
use Rattle.mal_seats.specs.Filled.{closed_up, filled_in}
use Rattle.mal_seats.specs.Numbered.{IsAbove}
use Rattle.mal_seats.proofs.CountLemmas.{count-at, count-push, count-remove, count-set, none-changed, unfinished-balanced}
use Rattle.mal_seats.proofs.FilledLemmas.{filled-push, filled-remove, filled-set, volume_of}
use Rattle.mal_seats.proofs.NumberLemmas.{number_of, rise-push, rise-remove, rise-set}

-- the seat that is read at a place
pub seat-at : (ss : List Seat) (at : ℕ) (s : Seat) → at < length ss → s ≡ get_or ss at s → slice_get ss at ≡ Some s
seat-at ss at s low read = slice_get_read ss (length ss) at s refl low read

-- a seat that made a step
pub stepped-is : (Step : Seat → Seat → Type 0) (change : Seat → Seat) (at : ℕ) (ss now : List Seat) → HasStepped Step at ss now → ((s t : Seat) → Step s t → t ≡ change s) → IsChanged change at ss now
stepped-is Step change at ss now has is s there =
    let both : Some s ≡ Some has.seat = sym there ∙ has.there in
    let same : has.seat ≡ s = cc in
    has.set ∙ ap (slice_set ss at) (is has.seat has.now has.step ∙ ap change same)

-- a step that leaves the seat as it was where it is refused
pub stepped-same : {T E : Type 0} (r : Result T E) (Step : Seat → Seat → Type 0) (at : ℕ) (ss now : List Seat) → HasStepped Step at ss now → ((s t : Seat) → Step s t → OnErr r (t ≡ s)) → OnErr r (now ≡ ss)
stepped-same (Ok x) Step at ss now has is = tt
stepped-same (Err e) Step at ss now has is =
    has.set ∙ (ap (slice_set ss at) (is has.seat has.now has.step ∙ sym (get_or_from_slice_get ss at has.seat has.seat has.there)) ∙ set-get_or ss at has.seat)

-- a step that is taken or refused
pub steady-if : {T E : Type 0} (r : Result T E) (s now t : Seat) → IsSteady s t → OnOk r (now ≡ t) → OnErr r (now ≡ s) → IsSteady s now
steady-if (Ok x) s now t steady ok err = record { number = ap number_of ok ∙ steady.number; volume = ap volume_of ok ∙ steady.volume }
steady-if (Err e) s now t steady ok err = record { number = ap number_of err; volume = ap volume_of err }

-- each seat is counted
pub is-among : (ss : List Seat) (counts : Counts) (filled : List ℕ) (at : ℕ) (s : Seat) → AreCounted ss counts filled → slice_get ss at ≡ Some s → length ss < 2 ^ 63 → IsAmong (marks_of s) counts
is-among ss counts filled at s kept there few = record {
  changed = omega (arith, kept.changed_is, count-at has_changed ss at s there);
  unfinished = omega (arith, kept.unfinished_is, count-at is_unfinished ss at s there);
  changed_room = omega (arith, kept.changed_is, count_by-le-length has_changed ss);
  unfinished_room = omega (arith, kept.unfinished_is, count_by-le-length is_unfinished ss);
}

-- and there is room to count one more
pub is-room : (ss : List Seat) (counts : Counts) (filled : List ℕ) → AreCounted ss counts filled → length ss < 2 ^ 63 → IsAmong no_marks counts
is-room ss counts filled kept few = record {
  changed = omega arith;
  unfinished = omega arith;
  changed_room = omega (arith, kept.changed_is, count_by-le-length has_changed ss);
  unfinished_room = omega (arith, kept.unfinished_is, count_by-le-length is_unfinished ss);
}

-- one seat has changed, and its number and volume stayed
pub kept-change : (ss : List Seat) (counts : Counts) (filled : List ℕ) (at : ℕ) (s now : Seat) (recounted : Counts) → AreKept ss counts filled → slice_get ss at ≡ Some s → IsSteady s now → AreRecounted (marks_of s) (marks_of now) counts recounted → AreKept (slice_set ss at now) recounted filled
kept-change ss counts filled at s now recounted kept there steady are = record {
  counted = record {
    changed_is = omega (arith, kept.counted.changed_is, count-set has_changed ss at s now there, are.changed);
    unfinished_is = omega (arith, kept.counted.unfinished_is, count-set is_unfinished ss at s now there, are.unfinished);
    filled_is = kept.counted.filled_is ∙ sym (filled-set 0 ss at s now there steady.volume);
  };
  rising = rise-set ss at s now kept.rising there steady.number;
}

-- a job comes without a volume
pub kept-push : (ss : List Seat) (counts : Counts) (filled : List ℕ) (s : Seat) (recounted : Counts) → AreKept ss counts filled → IsAbove s.job.number ss → volume_of s ≡ 0 → AreRecounted no_marks (marks_of s) counts recounted → AreKept (ss ++ s ∷ []) recounted filled
kept-push ss counts filled s recounted kept above still are =
    let changed : recounted.changed + 0 ≡ counts.changed + one (has_changed s) = are.changed in
    let unfinished : recounted.unfinished + 0 ≡ counts.unfinished + one (is_unfinished s) = are.unfinished in
    record {
      counted = record {
        changed_is = omega (arith, kept.counted.changed_is, count-push has_changed ss s, changed);
        unfinished_is = omega (arith, kept.counted.unfinished_is, count-push is_unfinished ss s, unfinished);
        filled_is = kept.counted.filled_is ∙ sym (filled-push 0 ss s still);
      };
      rising = rise-push ss s kept.rising above;
    }

-- a job leaves
pub kept-leave : (ss : List Seat) (counts : Counts) (filled now : List ℕ) (at : ℕ) (s : Seat) (recounted : Counts) → AreKept ss counts filled → slice_get ss at ≡ Some s → AreRecounted (marks_of s) no_marks counts recounted → now ≡ closed_up at filled → AreKept (remove ss at) recounted now
kept-leave ss counts filled now at s recounted kept there are is =
    let changed : recounted.changed + one (has_changed s) ≡ counts.changed + 0 = are.changed in
    let unfinished : recounted.unfinished + one (is_unfinished s) ≡ counts.unfinished + 0 = are.unfinished in
    record {
      counted = record {
        changed_is = omega (arith, kept.counted.changed_is, count-remove has_changed ss at s there, changed);
        unfinished_is = omega (arith, kept.counted.unfinished_is, count-remove is_unfinished ss at s there, unfinished);
        filled_is = is ∙ (ap (closed_up at) kept.counted.filled_is ∙ sym (filled-remove 0 at at ss (omega arith)));
      };
      rising = rise-remove ss at kept.rising;
    }

-- a balancing
pub kept-balance : (ss : List Seat) (vs : List ℕ) (counts : Counts) (filled now : List ℕ) → AreCounted ss counts filled → now ≡ filled_in (balanced_by vs ss) → AreCounted (balanced_by vs ss) (record counts { changed = 0 }) now
kept-balance ss vs counts filled now kept is = record {
  changed_is = none-changed 0 vs ss;
  unfinished_is = kept.unfinished_is ∙ unfinished-balanced 0 vs ss;
  filled_is = is;
}

-- the seats that a balancing wrote through a slice of them
pub written-back : (ss now : List Seat) (len : ℕ) (vs : List ℕ) → len ≡ length ss → now ≡ balanced_by vs ss → take len (now ++ drop (length now) ss) ≡ balanced_by vs ss
written-back ss now len vs whole is =
    let same : length now ≡ len = ap length is ∙ (length-balanced 0 ss ∙ sym whole) in
    take_at now (drop (length now) ss) len same ∙ is
  where
    length-balanced : (n : ℕ) (xs : List Seat) → length (balanced_from n vs xs) ≡ length xs
    length-balanced n [] = refl
    length-balanced n (x ∷ xs) = ap suc (length-balanced (cond (is_live_seat x) (n + 1) n) xs)
