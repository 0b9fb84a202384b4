-- What is answered and written serves a command.
use Rattle.std.proofs.Common.{◌≡◌, ◌⊎◌, ℕ, ◌≤◌, ◌<◌, ◌+◌, ◌^◌, Bool, true, false, List, [], ◌++◌, ◌∙◌, ap, sym, inl, inr, append-nil, length, length-append, arith, subst, refl, Ok, Err, Result}
use Rattle.std.specs.Prelude.{Option, Some, None}
use Rattle.std.specs.Io.KnownBytes.{Consumes, IsAtEnd}
use Rattle.mal_answer.specs.Answers.{IsAnswer, IsAnswerTo, IsConcluded, IsInput, IsMissed, answer_by, logged}
use Rattle.mal_answer.specs.Command.{Command, IsLawful, Refuses, Denies}
use Rattle.mal_answer.specs.Devices.{Device, Failed, Gave, GaveTooMuch}
use Rattle.mal_answer.specs.Served.{Says, IsGiven, IsWithin, IsMet, IsUnmet, IsOutside, HasServed, SaysMade, HasMade, HasDone, done_by}
use Rattle.mal_answer.specs.declared.answer.Complaint.{Complaint}
use Rattle.mal_answer.specs.declared.answer.Complaint.TheVariants as complaint
use Rattle.mal_answer.specs.declared.answer.Texts.{Texts}

abbrev given-by : (k : Command) (source : Device) (text : List ℕ) (texts : Texts) → Gave source text → k.Gives text (logged texts.log.items) texts.out.items → IsGiven k source
given-by k source text texts gave gives = record { text = text; log_text = logged texts.log.items; out_text = texts.out.items; gave = gave; gives = gives }

-- the status says what was done
says : (k : Command) (source log out : Device) (answer : Result Texts Complaint) (status : ℕ) → answer_by true k source answer → IsConcluded log out answer status → Says k source log out status
says k source log out (Ok texts) status (inl a) (inl c) = inl (c.0, record { given = given-by k source a.0 texts a.1 a.2; wrote = c.1 })
says k source log out (Ok texts) status (inl a) (inr c) = inr (inr (inr (inl (c.0, record { given = given-by k source a.0 texts a.1 a.2; wrote = c.2; failed = c.1 }))))
says k source log out (Ok texts) status (inr a) c = absurd a
says k source log out (Err complaint.Unread) status (inl a) c = absurd a.2
says k source log out (Err complaint.Unread) status (inr a) c = inr (inr (inl (c.0, a, c.1)))
says k source log out (Err complaint.TooLong) status (inl a) c = absurd a.2
says k source log out (Err complaint.TooLong) status (inr a) c = inr (inl (c.0, record { line = _; cause = inl (a, refl); told = c.1 }))
says k source log out (Err (complaint.Refused line)) status (inl a) c = inr (inl (c.0, record { line = line.items; cause = inr (a.0, a.1, a.2); told = c.1 }))
says k source log out (Err (complaint.Refused line)) status (inr a) c = absurd a
says k source log out (Err (complaint.Denied line)) status (inl a) c = inr (inr (inr (inr (inr (c.0, record { text = a.0; line = line.items; gave = a.1; denies = a.2; told = c.1 })))))
says k source log out (Err (complaint.Denied line)) status (inr a) c = absurd a
says k source log out (Err complaint.OutOfMemory) status a c = inr (inr (inr (inr (inl (c.0, c.1)))))

-- what a source gave to its end is its whole input
whole-input : (input rest text : List ℕ) → input ≡ text ++ rest → rest ≡ [] → input ≡ text
whole-input input rest text taken ended = taken ∙ ap (λ (left : List ℕ). text ++ left) ended ∙ append-nil text

given-known : (P : List ℕ → Type 0) (before now : Option (List ℕ)) (text : List ℕ) → Consumes before now text → IsAtEnd now → IsWithin P before → P text
given-known P None now text taken ended known = absurd known
given-known P (Some input) None text taken ended known = absurd taken
given-known P (Some input) (Some rest) text taken ended known = subst P (whole-input input rest text taken ended) known.1

given : (P : List ℕ → Type 0) (source : Device) (text : List ℕ) → Gave source text → IsWithin P source.bytes → P text
given P source text g known = given-known P source.bytes source.bytes_now text g.consumed g.ended known

too-many : (input text rest : ℕ) → input ≡ text + rest → input ≤ 2 ^ 26 → text ≡ 2 ^ 26 + 1 → ⊥
too-many input text rest sum short long = omega arith

known-short : (P : List ℕ → Type 0) (before now : Option (List ℕ)) (text : List ℕ) → Consumes before now text → length text ≡ 2 ^ 26 + 1 → IsWithin P before → ⊥
known-short P None now text taken long known = absurd known
known-short P (Some input) None text taken long known = absurd taken
known-short P (Some input) (Some rest) text taken long known =
    too-many (length input) (length text) (length rest) (ap (λ (bytes : List ℕ). length bytes) taken ∙ length-append text rest) known.0 long

short : (P : List ℕ → Type 0) (source : Device) → GaveTooMuch source → IsWithin P source.bytes → ⊥
short P source g known = known-short P source.bytes source.bytes_now g.0 g.1 g.2 known

longer-than : (input text : ℕ) → input ≡ text → text ≤ 2 ^ 26 → 2 ^ 26 < input → ⊥
longer-than input text same short long = omega arith

not-outside : (k : Command) (before now : Option (List ℕ)) (text : List ℕ) → Consumes before now text → IsAtEnd now → length text ≤ 2 ^ 26 → k.Takes text → IsOutside k before → ⊥
not-outside k None now text taken ended short inside outside = absurd outside
not-outside k (Some input) None text taken ended short inside outside = absurd taken
not-outside k (Some input) (Some rest) text taken ended short inside (inl long) =
    longer-than (length input) (length text) (ap (λ (bytes : List ℕ). length bytes) (whole-input input rest text taken ended)) short long
not-outside k (Some input) (Some rest) text taken ended short inside (inr none) = none (subst (λ (x : List ℕ). k.Takes x) (sym (whole-input input rest text taken ended)) inside)

inside-given : (k : Command) (source : Device) (text : List ℕ) → Gave source text → k.Takes text → IsOutside k source.bytes → ⊥
inside-given k source text g inside outside = not-outside k source.bytes source.bytes_now text g.consumed g.ended g.short inside outside

refused : (k : Command) → IsLawful k → (source log out : Device) (answer : Result Texts Complaint) (status : ℕ) → answer_by true k source answer → IsConcluded log out answer status → IsOutside k source.bytes → (Failed source → ⊥) → (status ≡ 3) ⊎ (status ≡ 6)
refused k law source log out (Ok texts) status (inl a) c outside calm = absurd (inside-given k source a.0 a.1 (law.inside a.0 (law.meets a.0 _ _ a.2)) outside)
refused k law source log out (Ok texts) status (inr a) c outside calm = absurd a
refused k law source log out (Err complaint.Unread) status (inl a) c outside calm = absurd a.2
refused k law source log out (Err complaint.Unread) status (inr a) c outside calm = absurd (calm a)
refused k law source log out (Err complaint.TooLong) status a c outside calm = inl c.0
refused k law source log out (Err (complaint.Refused line)) status a c outside calm = inl c.0
refused k law source log out (Err (complaint.Denied line)) status (inl a) c outside calm = absurd (inside-given k source a.0 a.1 a.2.inside outside)
refused k law source log out (Err (complaint.Denied line)) status (inr a) c outside calm = absurd a
refused k law source log out (Err complaint.OutOfMemory) status a c outside calm = inr c.0

denied : (k : Command) → IsLawful k → (source log out : Device) (answer : Result Texts Complaint) (status : ℕ) → answer_by true k source answer → IsConcluded log out answer status → IsUnmet k source.bytes → (Failed source → ⊥) → (status ≡ 7) ⊎ (status ≡ 6)
denied k law source log out (Ok texts) status (inl a) c unmet calm = absurd ((given _ source a.0 a.1 unmet).1 (law.meets a.0 _ _ a.2))
denied k law source log out (Ok texts) status (inr a) c unmet calm = absurd a
denied k law source log out (Err complaint.Unread) status (inl a) c unmet calm = absurd a.2
denied k law source log out (Err complaint.Unread) status (inr a) c unmet calm = absurd (calm a)
denied k law source log out (Err complaint.TooLong) status (inl a) c unmet calm = absurd a.2
denied k law source log out (Err complaint.TooLong) status (inr a) c unmet calm = absurd (short _ source a unmet)
denied k law source log out (Err (complaint.Refused line)) status (inl a) c unmet calm = absurd (a.2.outside (given _ source a.0 a.1 unmet).0)
denied k law source log out (Err (complaint.Refused line)) status (inr a) c unmet calm = absurd a
denied k law source log out (Err (complaint.Denied line)) status a c unmet calm = inl c.0
denied k law source log out (Err complaint.OutOfMemory) status a c unmet calm = inr c.0

completed : (k : Command) → IsLawful k → (source log out : Device) (answer : Result Texts Complaint) (status : ℕ) → answer_by true k source answer → IsConcluded log out answer status → IsMet k source.bytes → (Failed source → ⊥) → (Failed log → ⊥) → (Failed out → ⊥) → (status ≡ 0) ⊎ (status ≡ 6)
completed k law source log out (Ok texts) status a (inl c) met calm quiet still = inl c.0
completed k law source log out (Ok texts) status a (inr c) met calm quiet still = elim c.1 [ inl x ↦ absurd (quiet x) | inr y ↦ absurd (still y) ]
completed k law source log out (Err complaint.Unread) status (inl a) c met calm quiet still = absurd a.2
completed k law source log out (Err complaint.Unread) status (inr a) c met calm quiet still = absurd (calm a)
completed k law source log out (Err complaint.TooLong) status (inl a) c met calm quiet still = absurd a.2
completed k law source log out (Err complaint.TooLong) status (inr a) c met calm quiet still = absurd (short _ source a met)
completed k law source log out (Err (complaint.Refused line)) status (inl a) c met calm quiet still = absurd (a.2.outside (law.inside a.0 (given _ source a.0 a.1 met)))
completed k law source log out (Err (complaint.Refused line)) status (inr a) c met calm quiet still = absurd a
completed k law source log out (Err (complaint.Denied line)) status (inl a) c met calm quiet still = absurd (a.2.unmet (given _ source a.0 a.1 met))
completed k law source log out (Err (complaint.Denied line)) status (inr a) c met calm quiet still = absurd a
completed k law source log out (Err complaint.OutOfMemory) status a c met calm quiet still = inr c.0

-- a command that reads its input has served
pub served : (k : Command) → IsLawful k → (source log out : Device) (answer : Result Texts Complaint) (status : ℕ) → answer_by true k source answer → IsConcluded log out answer status → HasServed k source log out status
served k law source log out answer status a c = record {
  says = says k source log out answer status a c;
  refuses = refused k law source log out answer status a c;
  denies = denied k law source log out answer status a c;
  complete = completed k law source log out answer status a c;
}

-- a command without an input has made what it makes
unrefused : (k : Command) → IsLawful k → k.has_input ≡ false → (line : List ℕ) → Refuses k [] line → ⊥
unrefused k law none line r = r.outside (law.inside [] (law.made none))

undenied : (k : Command) → IsLawful k → k.has_input ≡ false → (line : List ℕ) → Denies k [] line → ⊥
undenied k law none line d = d.unmet (law.made none)

says-made : (k : Command) → IsLawful k → k.has_input ≡ false → (log out : Device) (answer : Result Texts Complaint) (status : ℕ) → IsAnswerTo k [] answer → IsConcluded log out answer status → SaysMade k log out status
says-made k law none log out (Ok texts) status a (inl c) = inl (c.0, (logged texts.log.items, texts.out.items, a, c.1))
says-made k law none log out (Ok texts) status a (inr c) = inr (inl (c.0, (logged texts.log.items, texts.out.items, a, c.2, c.1)))
says-made k law none log out (Err complaint.Unread) status a c = absurd a
says-made k law none log out (Err complaint.TooLong) status a c = absurd a
says-made k law none log out (Err (complaint.Refused line)) status a c = absurd (unrefused k law none line.items a)
says-made k law none log out (Err (complaint.Denied line)) status a c = absurd (undenied k law none line.items a)
says-made k law none log out (Err complaint.OutOfMemory) status a c = inr (inr (c.0, c.1))

complete-made : (k : Command) (log out : Device) (status : ℕ) → SaysMade k log out status → (Failed log → ⊥) → (Failed out → ⊥) → (status ≡ 0) ⊎ (status ≡ 6)
complete-made k log out status (inl s) quiet still = inl s.0
complete-made k log out status (inr (inl s)) quiet still = elim s.1.4 [ inl x ↦ absurd (quiet x) | inr y ↦ absurd (still y) ]
complete-made k log out status (inr (inr s)) quiet still = inr s.0

made : (k : Command) → IsLawful k → k.has_input ≡ false → (source log out : Device) (answer : Result Texts Complaint) (status : ℕ) → answer_by false k source answer → IsConcluded log out answer status → HasMade k log out status
made k law none source log out answer status (inl a) c =
    let s = says-made k law none log out answer status (subst (λ (text : List ℕ). IsAnswerTo k text answer) a.1 a.2) c in
    record { says = s; complete = complete-made k log out status s }
made k law none source log out (Ok texts) status (inr a) c = absurd a
made k law none source log out (Err e) status (inr a) c = absurd a

-- what a command answered was written, so it is done
pub done : (k : Command) → IsLawful k → (source log out : Device) (answer : Result Texts Complaint) (status : ℕ) → IsAnswer k source answer → IsConcluded log out answer status → HasDone k source log out status
done k law source log out answer status a c = by-input k.has_input refl a
  where
    by-input : (b : Bool) → k.has_input ≡ b → answer_by b k source answer → done_by b k source log out status
    by-input true is a = served k law source log out answer status a c
    by-input false is a = made k law is source log out answer status a c

-- a command answers to what it has read
pub answered : (k : Command) (source : Device) (text : List ℕ) (answer : Result Texts Complaint) → IsInput k.has_input source text → IsAnswerTo k text answer → IsAnswer k source answer
answered k source text answer g a = inl (text, g, a)

pub unanswered : (k : Command) (source : Device) (e : Complaint) → IsMissed k.has_input source e → IsAnswer k source (Err e)
unanswered k source e u = inr u

pub ruleset answer_lemmas = (answered, unanswered)
