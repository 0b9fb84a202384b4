-- Nothing after a faulty field of an image counts.
use Rattle.std.proofs.Common.{◌≡◌, ◌⊎◌, ℕ, zero, suc, ◌+◌, ◌-◌, ◌*◌, ◌^◌, ◌<◌, ◌≤◌, Bool, true, false, ◌||◌, cond, ltb, nat_lt, eqb, List, [], ◌∷◌, ◌++◌, length, take, drop, Option, Some, None, Result, Ok, Err, inl, inr, refl, sym, ap, subst, ◌∙◌, append_assoc, arith}
use Rattle.std.specs.Int.{Width, w32, w64, byte_len, from_be_bytes}
use Rattle.std.proofs.lemmas.Bool.{ltb-false, le-ltb}
use Rattle.std.proofs.lemmas.List.{take_at, drop_at, take-append-drop, length-append, length-take}
use Rattle.mal_base.specs.Limits.{limits}
use Rattle.mal_base.specs.declared.profile.Profile.{Profile}
use Rattle.mal_base.specs.NumberedClause.{NumberedClause}
use Rattle.mal_base.specs.declared.trail_entry.TrailEntry.{TrailEntry}
use Rattle.mal_freeze.specs.declared.fault.ThawFault.{ThawFault}
use Rattle.mal_freeze.specs.declared.fault.ThawFault.TheVariants.{BadMagic, Truncated, BadField, NotCanonical, OutOfMemory}
use Rattle.mal_freeze.specs.declared.fields.Head.{Head}
use Rattle.mal_freeze.specs.declared.fields.Search.{Search}
use Rattle.mal_freeze.specs.declared.fields.Ended.{Ended}
use Rattle.mal_freeze.specs.declared.fields.Fields.{Fields}
use Rattle.mal_freeze.specs.Fields.{Listing}
use Rattle.mal_freeze.specs.Laws.{EndsWithField, FaultIsFirst, HasFaultyFront}
use Rattle.mal_freeze.specs.Forms.{form_of, profile_named}
use Rattle.mal_freeze.specs.Reading.{◌>>=◌, place_of, number_at, ranged_at, byte_at, many_at, counted_at, number_in, phase_at, entry_at, clause_at, named, profile_at, dropping_at, head_at, search_at, ended_at, lists_at, fields_at, node_in, is_canonical, image_in}
use Rattle.mal_freeze.proofs.FieldLemmas.{ok_same, step_ok}

-- reading a value, of the length of the whole text and the bytes that are left
abbrev Reads : Type 0 → Type 0
Reads Z = ℕ → List ℕ → Result Z ThawFault

-- reading a field, and the bytes after it
abbrev ReadsField : Type 0 → Type 0
ReadsField X = Reads (X × List ℕ)

-- what is read of bytes after so many others
abbrev read : {Z : Type 0} → Reads Z → ℕ → List ℕ → Result Z ThawFault
read f n bytes = f (n + length bytes) bytes

-- bytes after so many others end with the faulty field
abbrev EndsAt : ℕ → ThawFault → List ℕ → Type 0
EndsAt n BadMagic front = n + length front ≡ 8
EndsAt n Truncated front = ⊥
EndsAt n (BadField place) front = (place < n + length front) × (n + length front ≤ place + 8)
EndsAt n NotCanonical front = ⊥
EndsAt n OutOfMemory front = ⊥

-- a field is read of the front alone
record Goes {X : Type 0} (f : ReadsField X) (n : ℕ) (bytes : List ℕ) (x : X × List ℕ) : Type 0 where
  front : List ℕ
  parts : bytes ≡ front ++ x.1
  same : (others : List ℕ) → read f n (front ++ others) ≡ Ok (x.0, others)

-- and so is a fault
record Stops {Z : Type 0} (f : Reads Z) (n : ℕ) (bytes : List ℕ) (fault : ThawFault) : Type 0 where
  front : List ℕ
  behind : List ℕ
  parts : bytes ≡ front ++ behind
  ends : EndsAt n fault front
  same : (others : List ℕ) → read f n (front ++ others) ≡ Err fault

-- each fault of a reading is that the bytes end, or is read of a front
abbrev StopsFirst : {Z : Type 0} → Reads Z → ℕ → Type 0
StopsFirst f n = (bytes : List ℕ) (fault : ThawFault) → read f n bytes ≡ Err fault → (fault ≡ Truncated) ⊎ Stops f n bytes fault

record IsFieldAt {X : Type 0} (f : ReadsField X) (n : ℕ) : Type 0 where
  goes : (bytes : List ℕ) (x : X × List ℕ) → read f n bytes ≡ Ok x → Goes f n bytes x
  stops : StopsFirst f n

abbrev IsField : {X : Type 0} → ReadsField X → Type 0
IsField f = (n : ℕ) → IsFieldAt f n

-- one reading after another
abbrev followed : {X Z : Type 0} → ReadsField X → (X → Reads Z) → Reads Z
followed f g total bytes = f total bytes >>= λ r. g r.0 total r.1

more-length : (n : ℕ) (front rest : List ℕ) → n + length (front ++ rest) ≡ (n + length front) + length rest
more-length n front rest = let both = length-append front rest in omega (arith, both)

ends-more : (n : ℕ) (front next : List ℕ) (fault : ThawFault) → EndsAt (n + length front) fault next → EndsAt n fault (front ++ next)
ends-more n front next BadMagic ends = more-length n front next ∙ ends
ends-more n front next Truncated ends = ends
ends-more n front next (BadField place) ends = let long = more-length n front next in (omega (arith, long, ends.0), omega (arith, long, ends.1))
ends-more n front next NotCanonical ends = ends
ends-more n front next OutOfMemory ends = ends

-- what is read after a field
behind-field : {X Z : Type 0} (f : ReadsField X) (g : X → Reads Z) (n : ℕ) (bytes : List ℕ) (x : X × List ℕ) (one : Goes f n bytes x) (others : List ℕ) → read (followed f g) n (one.front ++ others) ≡ read (g x.0) (n + length one.front) others
behind-field {X} {Z} f g n bytes x one others =
    ap (λ (r : Result (X × List ℕ) ThawFault). r >>= λ y. g y.0 (n + length (one.front ++ others)) y.1) (one.same others)
    ∙ ap (λ total. g x.0 total others) (more-length n one.front others)

-- what is read of all bytes is read of what the field leaves
left-of : {X Z : Type 0} (f : ReadsField X) (g : X → Reads Z) (n : ℕ) (bytes : List ℕ) (x : X × List ℕ) (one : Goes f n bytes x) → read (followed f g) n bytes ≡ read (g x.0) (n + length one.front) x.1
left-of f g n bytes x one = ap (λ (bs : List ℕ). read (followed f g) n bs) one.parts ∙ behind-field f g n bytes x one x.1

next-stops : {X Z : Type 0} (f : ReadsField X) (g : X → Reads Z) (n : ℕ) → IsFieldAt f n → ((x : X) (m : ℕ) → StopsFirst (g x) m) → StopsFirst (followed f g) n
next-stops {X} {Z} f g n one next bytes fault e = by_field (read f n bytes) refl e
  where
    by_next : (x : X × List ℕ) (here : Goes f n bytes x) → (fault ≡ Truncated) ⊎ Stops (g x.0) (n + length here.front) x.1 fault → (fault ≡ Truncated) ⊎ Stops (followed f g) n bytes fault
    by_next x here (inl short) = inl short
    by_next x here (inr s) = inr (record {
      front = here.front ++ s.front;
      behind = s.behind;
      parts = here.parts ∙ (ap (λ (bs : List ℕ). here.front ++ bs) s.parts ∙ sym (append_assoc here.front s.front s.behind));
      ends = ends-more n here.front s.front fault s.ends;
      same = λ others. ap (λ (bs : List ℕ). read (followed f g) n bs) (append_assoc here.front s.front others) ∙ (behind-field f g n bytes x here (s.front ++ others) ∙ s.same others);
    })

    by_stop : (fault ≡ Truncated) ⊎ Stops f n bytes fault → (fault ≡ Truncated) ⊎ Stops (followed f g) n bytes fault
    by_stop (inl short) = inl short
    by_stop (inr s) = inr (record {
      front = s.front;
      behind = s.behind;
      parts = s.parts;
      ends = s.ends;
      same = λ others. ap (λ (r : Result (X × List ℕ) ThawFault). r >>= λ y. g y.0 (n + length (s.front ++ others)) y.1) (s.same others);
    })

    by_field : (r : Result (X × List ℕ) ThawFault) → read f n bytes ≡ r → (r >>= λ y. g y.0 (n + length bytes) y.1) ≡ Err fault → (fault ≡ Truncated) ⊎ Stops (followed f g) n bytes fault
    by_field (Ok x) q p =
        let here : Goes f n bytes x = one.goes bytes x q in
        by_next x here (next x.0 (n + length here.front) x.1 fault (sym (left-of f g n bytes x here) ∙ e))
    by_field (Err d) q p = let same : d ≡ fault = cc in by_stop (one.stops bytes fault (q ∙ ap (λ (x : ThawFault). Err x) same))

next-goes : {X Y : Type 0} (f : ReadsField X) (g : X → ReadsField Y) (n : ℕ) → IsFieldAt f n → ((x : X) → IsField (g x)) → (bytes : List ℕ) (y : Y × List ℕ) → read (followed f g) n bytes ≡ Ok y → Goes (followed f g) n bytes y
next-goes {X} {Y} f g n one next bytes y e =
    let a = step_ok (read f n bytes) (λ r. g r.0 (n + length bytes) r.1) y e in
    let here : Goes f n bytes a.0 = one.goes bytes a.0 a.1 in
    let there : Goes (g a.0.0) (n + length here.front) a.0.1 y = (next a.0.0 (n + length here.front)).goes a.0.1 y (sym (left-of f g n bytes a.0 here) ∙ e) in
    record {
      front = here.front ++ there.front;
      parts = here.parts ∙ (ap (λ (bs : List ℕ). here.front ++ bs) there.parts ∙ sym (append_assoc here.front there.front y.1));
      same = λ others. ap (λ (bs : List ℕ). read (followed f g) n bs) (append_assoc here.front there.front others) ∙ (behind-field f g n bytes a.0 here (there.front ++ others) ∙ there.same others);
    }

next-field : {X Y : Type 0} (f : ReadsField X) (g : X → ReadsField Y) (n : ℕ) → IsFieldAt f n → ((x : X) → IsField (g x)) → IsFieldAt (followed f g) n
next-field f g n one next = record { goes = next-goes f g n one next; stops = next-stops f g n one (λ x m. (next x m).stops) }

-- a value that is made of what was read
abbrev makes : {X : Type 0} → X → ReadsField X
makes x total bytes = Ok (x, bytes)

makes-field : {X : Type 0} (x : X) → IsField (makes x)
makes-field {X} x n = record {
  goes = λ bytes y e. subst (λ (z : X × List ℕ). Goes (makes x) n bytes z) (ok_same (x, bytes) y e) (record { front = []; parts = refl; same = λ others. refl });
  stops = λ bytes fault e. absurd (cc);
}

-- ---- the fields

-- a number that is read, with the bytes that it is read of
record IsRead (w : Width) (bytes : List ℕ) : Type 0 where
  front : List ℕ
  rest : List ℕ
  parts : bytes ≡ front ++ rest
  len : length front ≡ byte_len w
  is : number_at w bytes ≡ Ok (from_be_bytes w front, rest)

number-front : (w : Width) (front others : List ℕ) → length front ≡ byte_len w → number_at w (front ++ others) ≡ Ok (from_be_bytes w front, others)
unfolding number_at
number-front w front others len =
    let long : ltb (length (front ++ others)) (byte_len w) ≡ false = le-ltb _ _ (omega (arith, length-append front others, len)) in
    rw (long, take_at front others (byte_len w) len, drop_at front others (byte_len w) len) refl

number-cases : (w : Width) (bytes : List ℕ) → (number_at w bytes ≡ Err Truncated) ⊎ IsRead w bytes
unfolding number_at
number-cases w bytes = by_test (ltb (length bytes) (byte_len w)) refl
  where
    by_test : (b : Bool) → ltb (length bytes) (byte_len w) ≡ b → (cond {A = Result (ℕ × List ℕ) ThawFault} b (Err Truncated) (Ok (from_be_bytes w (take (byte_len w) bytes), drop (byte_len w) bytes)) ≡ Err Truncated) ⊎ IsRead w bytes
    by_test true q = inl refl
    by_test false q =
        let low : byte_len w ≤ length bytes = ltb-false (length bytes) (byte_len w) q in
        let len : length (take (byte_len w) bytes) ≡ byte_len w = omega (arith, length-take (byte_len w) bytes, low) in
        inr (record {
          front = take (byte_len w) bytes;
          rest = drop (byte_len w) bytes;
          parts = sym (take-append-drop (byte_len w) bytes);
          len = len;
          is = ap (λ (bs : List ℕ). number_at w bs) (sym (take-append-drop (byte_len w) bytes)) ∙ number-front w (take (byte_len w) bytes) (drop (byte_len w) bytes) len;
        })

abbrev a_number : Width → ReadsField ℕ
a_number w total bytes = number_at w bytes

number-field : (w : Width) → IsField (a_number w)
number-field w n = record { goes = goes; stops = stops }
  where
    goes : (bytes : List ℕ) (x : ℕ × List ℕ) → number_at w bytes ≡ Ok x → Goes (a_number w) n bytes x
    goes bytes x e = by_case (number-cases w bytes)
      where
        by_case : (number_at w bytes ≡ Err Truncated) ⊎ IsRead w bytes → Goes (a_number w) n bytes x
        by_case (inl short) = let none : ◌≡◌ {A = Result (ℕ × List ℕ) ThawFault} (Err Truncated) (Ok x) = sym short ∙ e in absurd (cc)
        by_case (inr r) =
            subst (λ (y : ℕ × List ℕ). Goes (a_number w) n bytes y) (ok_same (from_be_bytes w r.front, r.rest) x (sym r.is ∙ e)) (record { front = r.front; parts = r.parts; same = λ others. number-front w r.front others r.len })

    stops : StopsFirst (a_number w) n
    stops bytes fault e = by_case (number-cases w bytes)
      where
        by_case : (number_at w bytes ≡ Err Truncated) ⊎ IsRead w bytes → (fault ≡ Truncated) ⊎ Stops (a_number w) n bytes fault
        by_case (inl short) = let same : ◌≡◌ {A = Result (ℕ × List ℕ) ThawFault} (Err Truncated) (Err fault) = sym short ∙ e in inl (cc)
        by_case (inr r) = let none : ◌≡◌ {A = Result (ℕ × List ℕ) ThawFault} (Ok (from_be_bytes w r.front, r.rest)) (Err fault) = sym r.is ∙ e in absurd (cc)

-- a field begins after the bytes before it
its-place : (n : ℕ) (bytes : List ℕ) → place_of (n + length bytes) bytes ≡ n
its-place n bytes = omega arith

abbrev ranged : Width → ℕ → ℕ → ReadsField ℕ
ranged w low high total bytes = ranged_at total w low high bytes

-- after the number was read
ranged-front : (w : Width) (low high total : ℕ) (front others : List ℕ) (b : Bool) → length front ≡ byte_len w → (nat_lt (from_be_bytes w front) low || nat_lt high (from_be_bytes w front)) ≡ b → ranged_at total w low high (front ++ others) ≡ cond b (Err (BadField (place_of total (front ++ others)))) (Ok (from_be_bytes w front, others))
unfolding ranged_at
ranged-front w low high total front others b len q = rw (number-front w front others len, q) refl

ranged-short : (w : Width) (low high total : ℕ) (bytes : List ℕ) → number_at w bytes ≡ Err Truncated → ranged_at total w low high bytes ≡ Err Truncated
unfolding ranged_at
ranged-short w low high total bytes short = rw short refl

ranged-field : (w : Width) (low high : ℕ) → 1 ≤ byte_len w → byte_len w ≤ 8 → IsField (ranged w low high)
ranged-field w low high some few n = record { goes = goes; stops = stops }
  where
    goes : (bytes : List ℕ) (x : ℕ × List ℕ) → read (ranged w low high) n bytes ≡ Ok x → Goes (ranged w low high) n bytes x
    goes bytes x e = by_case (number-cases w bytes)
      where
        by_test : (r : IsRead w bytes) (b : Bool) → (nat_lt (from_be_bytes w r.front) low || nat_lt high (from_be_bytes w r.front)) ≡ b → Goes (ranged w low high) n bytes x
        by_test r true q =
            let none : ◌≡◌ {A = Result (ℕ × List ℕ) ThawFault} (Err (BadField (place_of (n + length bytes) (r.front ++ r.rest)))) (Ok x) = sym (ap (ranged w low high (n + length bytes)) r.parts ∙ ranged-front w low high (n + length bytes) r.front r.rest true r.len q) ∙ e in
            absurd (cc)
        by_test r false q =
            let same : (from_be_bytes w r.front, r.rest) ≡ x = ok_same (from_be_bytes w r.front, r.rest) x (sym (ap (ranged w low high (n + length bytes)) r.parts ∙ ranged-front w low high (n + length bytes) r.front r.rest false r.len q) ∙ e) in
            subst (λ (y : ℕ × List ℕ). Goes (ranged w low high) n bytes y) same (record { front = r.front; parts = r.parts; same = λ others. ranged-front w low high (n + length (r.front ++ others)) r.front others false r.len q })

        by_case : (number_at w bytes ≡ Err Truncated) ⊎ IsRead w bytes → Goes (ranged w low high) n bytes x
        by_case (inl short) = let none : ◌≡◌ {A = Result (ℕ × List ℕ) ThawFault} (Err Truncated) (Ok x) = sym (ranged-short w low high (n + length bytes) bytes short) ∙ e in absurd (cc)
        by_case (inr r) = by_test r (nat_lt (from_be_bytes w r.front) low || nat_lt high (from_be_bytes w r.front)) refl

    stops : StopsFirst (ranged w low high) n
    stops bytes fault e = by_case (number-cases w bytes)
      where
        by_test : (r : IsRead w bytes) (b : Bool) → (nat_lt (from_be_bytes w r.front) low || nat_lt high (from_be_bytes w r.front)) ≡ b → Stops (ranged w low high) n bytes fault
        by_test r true q =
            let is : read (ranged w low high) n bytes ≡ Err (BadField (place_of (n + length bytes) (r.front ++ r.rest))) = ap (ranged w low high (n + length bytes)) r.parts ∙ ranged-front w low high (n + length bytes) r.front r.rest true r.len q in
            let place : place_of (n + length bytes) (r.front ++ r.rest) ≡ n = ap (λ (bs : List ℕ). place_of (n + length bytes) bs) (sym r.parts) ∙ its-place n bytes in
            let both : ◌≡◌ {A = Result (ℕ × List ℕ) ThawFault} (Err (BadField n)) (Err fault) = sym (is ∙ ap (λ (p : ℕ). Err (BadField p)) place) ∙ e in
            let same : BadField n ≡ fault = cc in
            subst (λ (x : ThawFault). Stops (ranged w low high) n bytes x) same (record {
              front = r.front;
              behind = r.rest;
              parts = r.parts;
              ends = (omega (arith, some, r.len), omega (arith, few, r.len));
              same = λ others. ranged-front w low high (n + length (r.front ++ others)) r.front others true r.len q ∙ ap (λ (p : ℕ). Err (BadField p)) (its-place n (r.front ++ others));
            })
        by_test r false q =
            let none : ◌≡◌ {A = Result (ℕ × List ℕ) ThawFault} (Ok (from_be_bytes w r.front, r.rest)) (Err fault) = sym (ap (ranged w low high (n + length bytes)) r.parts ∙ ranged-front w low high (n + length bytes) r.front r.rest false r.len q) ∙ e in
            absurd (cc)

        by_case : (number_at w bytes ≡ Err Truncated) ⊎ IsRead w bytes → (fault ≡ Truncated) ⊎ Stops (ranged w low high) n bytes fault
        by_case (inl short) = let same : ◌≡◌ {A = Result (ℕ × List ℕ) ThawFault} (Err Truncated) (Err fault) = sym (ranged-short w low high (n + length bytes) bytes short) ∙ e in inl (cc)
        by_case (inr r) = inr (by_test r (nat_lt (from_be_bytes w r.front) low || nat_lt high (from_be_bytes w r.front)) refl)

ranged_4 : (low high : ℕ) → IsField (ranged w32 low high)
ranged_4 low high = let bytes : byte_len w32 ≡ 4 = refl in ranged-field w32 low high (omega (arith, bytes)) (omega (arith, bytes))

ranged_8 : (low high : ℕ) → IsField (ranged w64 low high)
ranged_8 low high = let bytes : byte_len w64 ≡ 8 = refl in ranged-field w64 low high (omega (arith, bytes)) (omega (arith, bytes))

abbrev a_byte : ℕ → ReadsField ℕ
a_byte high total bytes = byte_at total high bytes

byte-front : (total high b : ℕ) (others : List ℕ) (t : Bool) → nat_lt high b ≡ t → byte_at total high (b ∷ others) ≡ cond t (Err (BadField (place_of total (b ∷ others)))) (Ok (b, others))
unfolding byte_at
byte-front total high b others t q = rw q refl

byte-none : (total high : ℕ) → byte_at total high [] ≡ Err Truncated
unfolding byte_at
byte-none total high = refl

byte-field : (high : ℕ) → IsField (a_byte high)
byte-field high n = record { goes = goes; stops = stops }
  where
    goes : (bytes : List ℕ) (x : ℕ × List ℕ) → read (a_byte high) n bytes ≡ Ok x → Goes (a_byte high) n bytes x
    goes [] x e = let none : ◌≡◌ {A = Result (ℕ × List ℕ) ThawFault} (Err Truncated) (Ok x) = sym (byte-none (n + 0) high) ∙ e in absurd (cc)
    goes (b ∷ rest) x e = by_test (nat_lt high b) refl
      where
        by_test : (t : Bool) → nat_lt high b ≡ t → Goes (a_byte high) n (b ∷ rest) x
        by_test true q = let none : ◌≡◌ {A = Result (ℕ × List ℕ) ThawFault} (Err (BadField (place_of (n + length (b ∷ rest)) (b ∷ rest)))) (Ok x) = sym (byte-front (n + length (b ∷ rest)) high b rest true q) ∙ e in absurd (cc)
        by_test false q =
            let same : (b, rest) ≡ x = ok_same (b, rest) x (sym (byte-front (n + length (b ∷ rest)) high b rest false q) ∙ e) in
            subst (λ (y : ℕ × List ℕ). Goes (a_byte high) n (b ∷ rest) y) same (record { front = b ∷ []; parts = refl; same = λ others. byte-front (n + length (b ∷ others)) high b others false q })

    stops : StopsFirst (a_byte high) n
    stops [] fault e = let same : ◌≡◌ {A = Result (ℕ × List ℕ) ThawFault} (Err Truncated) (Err fault) = sym (byte-none (n + 0) high) ∙ e in inl (cc)
    stops (b ∷ rest) fault e = inr (by_test (nat_lt high b) refl)
      where
        by_test : (t : Bool) → nat_lt high b ≡ t → Stops (a_byte high) n (b ∷ rest) fault
        by_test true q =
            let is : read (a_byte high) n (b ∷ rest) ≡ Err (BadField n) = byte-front (n + length (b ∷ rest)) high b rest true q ∙ ap (λ (p : ℕ). Err (BadField p)) (its-place n (b ∷ rest)) in
            let both : ◌≡◌ {A = Result (ℕ × List ℕ) ThawFault} (Err (BadField n)) (Err fault) = sym is ∙ e in
            let same : BadField n ≡ fault = cc in
            subst (λ (x : ThawFault). Stops (a_byte high) n (b ∷ rest) x) same (record {
              front = b ∷ [];
              behind = rest;
              parts = refl;
              ends = (omega arith, omega arith);
              same = λ others. byte-front (n + length (b ∷ others)) high b others true q ∙ ap (λ (p : ℕ). Err (BadField p)) (its-place n (b ∷ others));
            })
        by_test false q = let none : ◌≡◌ {A = Result (ℕ × List ℕ) ThawFault} (Ok (b, rest)) (Err fault) = sym (byte-front (n + length (b ∷ rest)) high b rest false q) ∙ e in absurd (cc)

abbrev many : {X : Type 0} → ReadsField X → ℕ → ReadsField (List X)
many field count total bytes = many_at (field total) count bytes

many-field : {X : Type 0} (field : ReadsField X) → IsField field → (count : ℕ) → IsField (many field count)
unfolding many_at
many-field {X} field one zero n = makes-field {X = List X} [] n
many-field {X} field one (suc count) n =
    next-field field (λ (x : X). followed (many field count) (λ (xs : List X). makes (x ∷ xs))) n (one n)
    (λ x m. next-field (many field count) (λ (xs : List X). makes (x ∷ xs)) m (many-field field one count m) (λ xs. makes-field (x ∷ xs)))

abbrev counts : {X : Type 0} → ℕ → ReadsField X → ReadsField (List X)
counts most field total bytes = counted_at total most (field total) bytes

counts-field : {X : Type 0} (most : ℕ) (field : ReadsField X) → IsField field → IsField (counts most field)
unfolding counted_at
counts-field {X} most field one n = next-field (ranged w32 0 most) (λ (count : ℕ). many field count) n (ranged_4 0 most n) (λ count. many-field field one count)

abbrev a_literal : ℕ → ReadsField ℕ
a_literal greatest = ranged w32 2 (2 * greatest + 1)

abbrev a_phase : ReadsField Bool
a_phase total bytes = phase_at total bytes

phase-field : IsField a_phase
unfolding phase_at
phase-field n = next-field (a_byte 1) (λ (code : ℕ). makes (eqb code 1)) n (byte-field 1 n) (λ code. makes-field (eqb code 1))

abbrev an_entry : ℕ → ReadsField TrailEntry
an_entry greatest total bytes = entry_at total greatest bytes

abbrev entry_of : ℕ → ℕ → ℕ → TrailEntry
entry_of lit reason level = record { lit = lit; reason = number_in reason; level = level }

entry-field : (greatest : ℕ) → IsField (an_entry greatest)
unfolding entry_at
entry-field greatest n =
    next-field (a_literal greatest) (λ (lit : ℕ). followed (a_number w64) (λ (reason : ℕ). followed (a_number w32) (λ (level : ℕ). makes (entry_of lit reason level)))) n (ranged_4 2 (2 * greatest + 1) n)
    (λ lit m. next-field (a_number w64) (λ (reason : ℕ). followed (a_number w32) (λ (level : ℕ). makes (entry_of lit reason level))) m (number-field w64 m)
    (λ reason k. next-field (a_number w32) (λ (level : ℕ). makes (entry_of lit reason level)) k (number-field w32 k) (λ level. makes-field (entry_of lit reason level))))

abbrev a_clause : ℕ → ReadsField NumberedClause
a_clause greatest total bytes = clause_at total greatest bytes

abbrev clause_with : ℕ → List ℕ → NumberedClause
clause_with id lits = record { id = id; lits = lits }

clause-field : (greatest : ℕ) → IsField (a_clause greatest)
unfolding clause_at
clause-field greatest n =
    next-field (a_number w64) (λ (id : ℕ). followed (counts greatest (a_literal greatest)) (λ (lits : List ℕ). makes (clause_with id lits))) n (number-field w64 n)
    (λ id m. next-field (counts greatest (a_literal greatest)) (λ (lits : List ℕ). makes (clause_with id lits)) m (counts-field greatest (a_literal greatest) (ranged_4 2 (2 * greatest + 1)) m) (λ lits. makes-field (clause_with id lits)))

-- ---- the parts of an image

abbrev a_profile : ReadsField Profile
a_profile total bytes = profile_at bytes

profile-front : (front others : List ℕ) (o : Option Profile) → length front ≡ 8 → profile_named (from_be_bytes w64 front) ≡ o → profile_at (front ++ others) ≡ named o others
unfolding profile_at
profile-front front others o len p = rw (number-front w64 front others len) (ap (λ (q : Option Profile). named q others) p)

profile-short : (bytes : List ℕ) → number_at w64 bytes ≡ Err Truncated → profile_at bytes ≡ Err Truncated
unfolding profile_at
profile-short bytes short = rw short refl

profile-field : IsFieldAt a_profile 0
profile-field = record { goes = goes; stops = stops }
  where
    goes : (bytes : List ℕ) (x : Profile × List ℕ) → profile_at bytes ≡ Ok x → Goes a_profile 0 bytes x
    goes bytes x e = by_case (number-cases w64 bytes)
      where
        by_name : (r : IsRead w64 bytes) (o : Option Profile) → profile_named (from_be_bytes w64 r.front) ≡ o → named o r.rest ≡ Ok x → Goes a_profile 0 bytes x
        by_name r None q f = absurd (cc)
        by_name r (Some p) q f = subst (λ (y : Profile × List ℕ). Goes a_profile 0 bytes y) (ok_same (p, r.rest) x f) (record { front = r.front; parts = r.parts; same = λ others. profile-front r.front others (Some p) r.len q })

        by_case : (number_at w64 bytes ≡ Err Truncated) ⊎ IsRead w64 bytes → Goes a_profile 0 bytes x
        by_case (inl short) = let none : ◌≡◌ {A = Result (Profile × List ℕ) ThawFault} (Err Truncated) (Ok x) = sym (profile-short bytes short) ∙ e in absurd (cc)
        by_case (inr r) =
            by_name r (profile_named (from_be_bytes w64 r.front)) refl
            (sym (ap (λ (bs : List ℕ). profile_at bs) r.parts ∙ profile-front r.front r.rest (profile_named (from_be_bytes w64 r.front)) r.len refl) ∙ e)

    stops : StopsFirst a_profile 0
    stops bytes fault e = by_case (number-cases w64 bytes)
      where
        by_name : (r : IsRead w64 bytes) (o : Option Profile) → profile_named (from_be_bytes w64 r.front) ≡ o → named o r.rest ≡ Err fault → Stops a_profile 0 bytes fault
        by_name r None q f =
            let same : BadMagic ≡ fault = cc in
            let len : length r.front ≡ 8 = r.len in
            subst (λ (x : ThawFault). Stops a_profile 0 bytes x) same (record { front = r.front; behind = r.rest; parts = r.parts; ends = omega (arith, len); same = λ others. profile-front r.front others None r.len q })
        by_name r (Some p) q f = absurd (cc)

        by_case : (number_at w64 bytes ≡ Err Truncated) ⊎ IsRead w64 bytes → (fault ≡ Truncated) ⊎ Stops a_profile 0 bytes fault
        by_case (inl short) = let same : ◌≡◌ {A = Result (Profile × List ℕ) ThawFault} (Err Truncated) (Err fault) = sym (profile-short bytes short) ∙ e in inl (cc)
        by_case (inr r) =
            inr (by_name r (profile_named (from_be_bytes w64 r.front)) refl
            (sym (ap (λ (bs : List ℕ). profile_at bs) r.parts ∙ profile-front r.front r.rest (profile_named (from_be_bytes w64 r.front)) r.len refl) ∙ e))

abbrev a_head : ReadsField Head
a_head total bytes = head_at total bytes

abbrev head_of : ℕ → ℕ → ℕ → ℕ → Head
head_of index variables serial conflicts = record { index = index; variables = variables; serial = serial; conflicts_since_restart = conflicts }

head-field : IsField a_head
unfolding head_at
head-field n =
    next-field (ranged w32 0 63) (λ (i : ℕ). followed (ranged w32 0 limits.variables) (λ (v : ℕ). followed (ranged w64 0 (2 ^ 57 - 1)) (λ (s : ℕ). followed (a_number w32) (λ (c : ℕ). makes (head_of i v s c))))) n (ranged_4 0 63 n)
    (λ i m. next-field (ranged w32 0 limits.variables) (λ (v : ℕ). followed (ranged w64 0 (2 ^ 57 - 1)) (λ (s : ℕ). followed (a_number w32) (λ (c : ℕ). makes (head_of i v s c)))) m (ranged_4 0 limits.variables m)
    (λ v k. next-field (ranged w64 0 (2 ^ 57 - 1)) (λ (s : ℕ). followed (a_number w32) (λ (c : ℕ). makes (head_of i v s c))) k (ranged_8 0 (2 ^ 57 - 1) k)
    (λ s l. next-field (a_number w32) (λ (c : ℕ). makes (head_of i v s c)) l (number-field w32 l) (λ c. makes-field (head_of i v s c)))))

abbrev a_dropping : Profile → ReadsField ℕ
a_dropping profile total bytes = dropping_at profile bytes

dropping-field : (profile : Profile) → IsField (a_dropping profile)
unfolding dropping_at
dropping-field profile n = by_test (form_of profile).counts
  where
    by_test : (b : Bool) → IsFieldAt {X = ℕ} (λ total bytes. cond {A = Result (ℕ × List ℕ) ThawFault} b (number_at w32 bytes) (Ok (0, bytes))) n
    by_test true = number-field w32 n
    by_test false = makes-field {X = ℕ} 0 n

abbrev a_search : Profile → ReadsField Search
a_search profile total bytes = search_at total profile bytes

abbrev search_of : ℕ → ℕ → ℕ → ℕ → Search
search_of restart dropping processed conflict = record { restart_number = restart; conflicts_since_dropping = dropping; processed = processed; conflict = number_in conflict }

search-field : (profile : Profile) → IsField (a_search profile)
unfolding search_at
search-field profile n =
    next-field (ranged w32 1 (2 ^ 32 - 1)) (λ (r : ℕ). followed (a_dropping profile) (λ (d : ℕ). followed (a_number w32) (λ (p : ℕ). followed (a_number w64) (λ (c : ℕ). makes (search_of r d p c))))) n (ranged_4 1 (2 ^ 32 - 1) n)
    (λ r m. next-field (a_dropping profile) (λ (d : ℕ). followed (a_number w32) (λ (p : ℕ). followed (a_number w64) (λ (c : ℕ). makes (search_of r d p c)))) m (dropping-field profile m)
    (λ d k. next-field (a_number w32) (λ (p : ℕ). followed (a_number w64) (λ (c : ℕ). makes (search_of r d p c))) k (number-field w32 k)
    (λ p l. next-field (a_number w64) (λ (c : ℕ). makes (search_of r d p c)) l (number-field w64 l) (λ c. makes-field (search_of r d p c)))))

abbrev an_end : ReadsField Ended
an_end total bytes = ended_at total bytes

abbrev end_of : ℕ → ℕ → Ended
end_of code goal = record { code = code; goal = goal }

end-field : IsField an_end
unfolding ended_at
end-field n =
    next-field (a_byte 2) (λ (code : ℕ). followed (a_number w64) (λ (goal : ℕ). makes (end_of code goal))) n (byte-field 2 n)
    (λ code m. next-field (a_number w64) (λ (goal : ℕ). makes (end_of code goal)) m (number-field w64 m) (λ goal. makes-field (end_of code goal)))

abbrev the_lists : ℕ → ReadsField Listing
the_lists greatest total bytes = lists_at total greatest bytes

abbrev listing : List ℕ → List ℕ → List Bool → List TrailEntry → List NumberedClause → Listing
listing assumptions order phases trail clauses = record { assumptions = assumptions; order = order; phases = phases; trail = trail; clauses = clauses }

abbrev with_clauses : ℕ → List ℕ → List ℕ → List Bool → List TrailEntry → ReadsField Listing
with_clauses greatest a o p t = followed (counts (2 ^ 32 - 1) (a_clause greatest)) (λ (c : List NumberedClause). makes (listing a o p t c))

abbrev with_trail : ℕ → List ℕ → List ℕ → List Bool → ReadsField Listing
with_trail greatest a o p = followed (counts greatest (an_entry greatest)) (λ (t : List TrailEntry). with_clauses greatest a o p t)

abbrev with_phases : ℕ → List ℕ → List ℕ → ReadsField Listing
with_phases greatest a o = followed (many a_phase greatest) (λ (p : List Bool). with_trail greatest a o p)

abbrev with_order : ℕ → List ℕ → ReadsField Listing
with_order greatest a = followed (many (ranged w32 1 greatest) greatest) (λ (o : List ℕ). with_phases greatest a o)

lists-field : (greatest : ℕ) → IsField (the_lists greatest)
unfolding lists_at
lists-field greatest n =
    next-field (counts greatest (a_literal greatest)) (λ (a : List ℕ). with_order greatest a) n (counts-field greatest (a_literal greatest) (ranged_4 2 (2 * greatest + 1)) n)
    (λ a m. next-field (many (ranged w32 1 greatest) greatest) (λ (o : List ℕ). with_phases greatest a o) m (many-field (ranged w32 1 greatest) (ranged_4 1 greatest) greatest m)
    (λ o k. next-field (many a_phase greatest) (λ (p : List Bool). with_trail greatest a o p) k (many-field a_phase phase-field greatest k)
    (λ p l. next-field (counts greatest (an_entry greatest)) (λ (t : List TrailEntry). with_clauses greatest a o p t) l (counts-field greatest (an_entry greatest) (entry-field greatest) l)
    (λ t j. next-field (counts (2 ^ 32 - 1) (a_clause greatest)) (λ (c : List NumberedClause). makes (listing a o p t c)) j (counts-field (2 ^ 32 - 1) (a_clause greatest) (clause-field greatest) j)
    (λ c. makes-field (listing a o p t c))))))

-- ---- the whole

abbrev to_fields : Profile → Head → Search → Ended → Listing → Reads Fields
to_fields p h s e l total bytes = Ok (record { profile = p; head = h; search = s; ended = e; lists = l; left = length bytes })

abbrev from_ended : Profile → Head → Search → Ended → Reads Fields
from_ended p h s e = followed (the_lists h.variables) (λ (l : Listing). to_fields p h s e l)

abbrev from_search : Profile → Head → Search → Reads Fields
from_search p h s = followed an_end (λ (e : Ended). from_ended p h s e)

abbrev from_head : Profile → Head → Reads Fields
from_head p h = followed (a_search p) (λ (s : Search). from_search p h s)

abbrev from_profile : Profile → Reads Fields
from_profile p = followed a_head (λ (h : Head). from_head p h)

abbrev all_fields : Reads Fields
all_fields total bytes = fields_at total bytes

fields-stop : StopsFirst all_fields 0
unfolding fields_at
fields-stop =
    next-stops a_profile from_profile 0 profile-field
    (λ p m. next-stops a_head (λ (h : Head). from_head p h) m (head-field m)
    (λ h k. next-stops (a_search p) (λ (s : Search). from_search p h s) k (search-field p k)
    (λ s l. next-stops an_end (λ (e : Ended). from_ended p h s e) l (end-field l)
    (λ e j. next-stops (the_lists h.variables) (λ (x : Listing). to_fields p h s e x) j (lists-field h.variables j) (λ x i bytes fault q. absurd (cc))))))

from_start : (bytes : List ℕ) → 0 + length bytes ≡ length bytes
from_start bytes = omega arith

ends-field : (fault : ThawFault) (front : List ℕ) → EndsAt 0 fault front → EndsWithField fault front
ends-field BadMagic front ends = omega (arith, ends)
ends-field Truncated front ends = ends
ends-field (BadField place) front ends = (omega (arith, ends.0), omega (arith, ends.1))
ends-field NotCanonical front ends = ends
ends-field OutOfMemory front ends = ends

pub fault-is_first : FaultIsFirst
unfolding image_in
fault-is_first bytes fault e short whole = by_fields (fields_at (length bytes) bytes) refl e
  where
    by_stop : (fault ≡ Truncated) ⊎ Stops all_fields 0 bytes fault → HasFaultyFront bytes fault
    by_stop (inl q) = absurd (short q)
    by_stop (inr s) = record {
      front = s.front;
      behind = s.behind;
      parts = s.parts;
      ends = ends-field fault s.front s.ends;
      first = λ others. ap (λ (r : Result Fields ThawFault). r >>= λ f. cond (is_canonical f) (Ok (node_in f)) (Err NotCanonical)) (ap (λ total. fields_at total (s.front ++ others)) (sym (from_start (s.front ++ others))) ∙ s.same others);
    }

    by_form : (f : Fields) (b : Bool) → cond b (Ok (node_in f)) (Err NotCanonical) ≡ Err fault → HasFaultyFront bytes fault
    by_form f true q = absurd (cc)
    by_form f false q = let same : NotCanonical ≡ fault = cc in absurd (whole (sym same))

    by_fields : (r : Result Fields ThawFault) → fields_at (length bytes) bytes ≡ r → (r >>= λ f. cond (is_canonical f) (Ok (node_in f)) (Err NotCanonical)) ≡ Err fault → HasFaultyFront bytes fault
    by_fields (Ok f) q p = by_form f (is_canonical f) p
    by_fields (Err d) q p =
        let same : d ≡ fault = cc in
        by_stop (fields-stop bytes fault (ap (λ total. fields_at total bytes) (from_start bytes) ∙ (q ∙ ap (λ (x : ThawFault). Err x) same)))
