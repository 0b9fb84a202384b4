-- The script and the text of own events tell a job's own events.
use Rattle.std.proofs.Common.{◌≡◌, ℕ, ◌+◌, ◌<◌, ◌≤◌, ◌^◌, List, [], ◌∷◌, ◌++◌, map, length, codes, refl, sym, ◌∙◌, ap, ap₂, subst, arith, append_assoc, length-append}
use Rattle.std.specs.Prelude.{◌&&◌, nat_lt, flat_map, is_none, Result, Ok}
use Rattle.std.specs.List.{AllByRecursion}
use Rattle.std.proofs.lemmas.Bool.{and_parts, ltb-true}
use Rattle.mal_base.specs.Asks.{Terms}
use Rattle.mal_base.specs.Limits.{limits}
use Rattle.mal_base.specs.declared.line_fault.LineFault.{LineFault}
use Rattle.mal_base.specs.declared.verdict.Outcome.{Outcome}
use Rattle.mal_base.specs.declared.verdict.Outcome.TheVariants.{Ran, Starved, Lost}
use Rattle.spec_text.specs.Lines.{IsClean, IsRow, AreRows}
use Rattle.spec_text.specs.Numbers.{decimal_word}
use Rattle.spec_text.proofs.Again.{texts_differ}
use Rattle.spec_text.proofs.Clean.{decimals_are_clean, decimals_differ}
use Rattle.spec_text.proofs.Names.{name-clean, profile-clean}
use Rattle.spec_job.specs.KeyedJob.{Key}
use Rattle.spec_job.specs.Lawful.{IsLawful, MayPass}
use Rattle.spec_job.specs.Runnable.{IsRunnable}
use Rattle.spec_job.specs.SoloMachine.{Own, Opened, Revised, Reasked, Closed, Volume, Started, Finished, Exchanged, SoloMachine, solo, solo_step, is_live, place_at, out_count}
use Rattle.spec_job.proofs.PushLemmas.{solo-push}
use Rattle.spec_job.proofs.StepLemmas.{finish-keeps, start-keeps}
use Rattle.mal_history.specs.Text.{event_words, outcome_word}
use Rattle.spec_hall.proofs.VolumeLemmas.{revise-keeps}
use Rattle.spec_script.specs.Script.{ScriptedJob, Scripted, spelling}
use Rattle.spec_script.specs.declared.step.Step.{Step}
use Rattle.spec_script.specs.Reading.{read_text}
use Rattle.spec_script.proofs.Again.{written-read}
use Rattle.spec_parcel.specs.Apart.{Sections, sections_of}
use Rattle.spec_parcel.specs.Packed.{own_text, revisions_after, script_of, scripted, steps_at, written_at, written_from}
use Rattle.spec_parcel.proofs.SectionLemmas.{sections_are_apart}
use Rattle.mal_parcel.proofs.FormedLemmas.{script-formed}
use Rattle.mal_parcel.proofs.PassLemmas.{lawful-passes, never-again, out-low, runnable-past}
use Rattle.spec_promises.specs.Parcels.{ParcelIsTold}
use Rattle.spec_promises.proofs.Lines.{tested}
use Rattle.spec_promises.proofs.Words.{head-same, tail-same}

-- the number in an own event after the opening has 64 bits
abbrev Fits : Own → Type 0
Fits (Opened ask) = ⊥
Fits (Revised r) = Unit {0}
Fits (Reasked w) = Unit {0}
Fits Closed = Unit {0}
Fits (Volume v) = v < 2 ^ 64
Fits (Started i) = i < 2 ^ 64
Fits (Finished i outcome) = i < 2 ^ 64
Fits Exchanged = Unit {0}

one-fits : (past : List Own) (o : Own) → IsRunnable [] past → (solo past).volume ≤ 64 → MayPass (solo past) o → Fits o
one-fits past (Opened ask) may low pass = pass
one-fits past (Revised r) may low pass = tt
one-fits past (Reasked w) may low pass = tt
one-fits past Closed may low pass = tt
one-fits past (Volume v) may low pass = omega (arith, pass)
one-fits past (Started i) may low pass =
    let s : SoloMachine = solo past in
    let parts = and_parts (is_live s && nat_lt i s.volume) (is_none (place_at s i).out && nat_lt (s.spent + out_count s) s.ask.slices) pass in
    let below : i < s.volume = ltb-true i s.volume (and_parts (is_live s) (nat_lt i s.volume) parts.0).1 in
    omega (arith, low, below)
one-fits past (Finished i outcome) may low pass = let below : i ≤ 63 = out-low past i may pass in omega (arith, below)
one-fits past Exchanged may low pass = tt

-- the volume stays below 65
low-step : (s : SoloMachine) (o : Own) → MayPass s o → s.volume ≤ 64 → (solo_step s o).volume ≤ 64
low-step s (Opened ask) pass low = absurd pass
low-step s (Revised r) pass low = omega (arith, low, (revise-keeps s r).volume)
low-step s (Reasked w) pass low = low
low-step s Closed pass low = low
low-step s (Volume v) pass low = pass
low-step s (Started i) pass low = omega (arith, low, (start-keeps s i).volume)
low-step s (Finished i outcome) pass low = omega (arith, low, (finish-keeps s i outcome).volume)
low-step s Exchanged pass low = low

all-fit : (past os : List Own) → 1 ≤ length past → IsLawful (past ++ os) → (solo past).volume ≤ 64 → AllByRecursion Fits os
all-fit past [] some lawful low = tt
all-fit past (o ∷ os) some lawful low =
    let pass : MayPass (solo past) o = lawful-passes past o os (never-again past o os some lawful) lawful in
    let long : length (past ++ o ∷ []) ≡ length past + 1 = length-append past (o ∷ []) in (
      one-fits past o (runnable-past past o os lawful) low pass,
      all-fit (past ++ o ∷ []) os (omega (arith, long)) (subst IsLawful (sym (append_assoc past (o ∷ []) os)) lawful) (subst (λ (s : SoloMachine). s.volume ≤ 64) (sym (solo-push past o)) (low-step (solo past) o pass low)),
    )

-- the lines of own events can be written
abbrev own_words : Key → ℕ → Own → List (List ℕ)
own_words k n o = event_words (written_at k n o)

outcome-clean : (o : Outcome) → IsClean (outcome_word o)
outcome-clean Ran = tested (codes "ran") refl
outcome-clean Starved = tested (codes "starved") refl
outcome-clean Lost = tested (codes "lost") refl

own-row : (k : Key) (n : ℕ) (o : Own) → IsClean k.tenant → IsClean k.job → IsRow (own_words k n o)
own-row k n (Opened ask) t j = (omega arith, (tested (codes "o") refl, (t, (j, (decimals_are_clean ask.priority, (decimals_are_clean ask.demand, (decimals_are_clean ask.slices, profile-clean ask.profile)))))))
own-row k n (Revised r) t j = (omega arith, (tested (codes "r") refl, (t, (j, (decimals_are_clean (n + 1), tt)))))
own-row k n (Reasked w) t j = (omega arith, (tested (codes "q") refl, (t, (j, (decimals_are_clean w.priority, (decimals_are_clean w.demand, tt))))))
own-row k n Closed t j = (omega arith, (tested (codes "c") refl, (t, (j, tt))))
own-row k n (Volume v) t j = (omega arith, (tested (codes "b") refl, (t, (j, (decimals_are_clean v, tt)))))
own-row k n (Started i) t j = (omega arith, (tested (codes "s") refl, (t, (j, (decimals_are_clean i, (decimals_are_clean 1, tt))))))
own-row k n (Finished i outcome) t j = (omega arith, (tested (codes "f") refl, (t, (j, (decimals_are_clean i, (decimals_are_clean 1, (outcome-clean outcome, tt)))))))
own-row k n Exchanged t j = (omega arith, (tested (codes "x") refl, (t, (j, tt))))

own-rows : (k : Key) (n : ℕ) (os : List Own) → IsClean k.tenant → IsClean k.job → AreRows (map event_words (written_from k n os))
own-rows k n [] t j = tt
own-rows k n (o ∷ os) t j = (own-row k n o t j, own-rows k (revisions_after n o) os t j)

-- the letter of an own event
letter_of : Own → ℕ
letter_of (Opened ask) = 111
letter_of (Revised r) = 114
letter_of (Reasked w) = 113
letter_of Closed = 99
letter_of (Volume v) = 98
letter_of (Started i) = 115
letter_of (Finished i outcome) = 102
letter_of Exchanged = 120

first_letter : List (List ℕ) → ℕ
first_letter [] = 0
first_letter ([] ∷ words) = 0
first_letter ((b ∷ bs) ∷ words) = b

letter-first : (k : Key) (n : ℕ) (o : Own) → first_letter (own_words k n o) ≡ letter_of o
unfolding letter_of first_letter
letter-first k n (Opened ask) = refl
letter-first k n (Revised r) = refl
letter-first k n (Reasked w) = refl
letter-first k n Closed = refl
letter-first k n (Volume v) = refl
letter-first k n (Started i) = refl
letter-first k n (Finished i outcome) = refl
letter-first k n Exchanged = refl

outcomes-same : (a b : Outcome) → outcome_word a ≡ outcome_word b → a ≡ b
outcomes-same Ran Ran e = refl
outcomes-same Starved Starved e = refl
outcomes-same Lost Lost e = refl
outcomes-same a b e = let same : length (outcome_word a) ≡ length (outcome_word b) = ap (λ (xs : List ℕ). length xs) e in absurd (omega (arith, same))

-- an own event is told by its line and by what it posts
abbrev AreSame : Own → Own → List Step → List Step → Type 0
AreSame o p ss ts = (o ≡ p) × (ss ≡ ts)

finish-same : (k : Key) (n i h : ℕ) (a b : Outcome) → i < 2 ^ 64 → h < 2 ^ 64 → own_words k n (Finished i a) ≡ own_words k n (Finished h b) → Finished i a ≡ Finished h b
finish-same k n i h a b low high e =
    let index : decimal_word i ≡ decimal_word h = cc in
    let word : outcome_word a ≡ outcome_word b = cc in
    ap₂ (λ (x : ℕ) (o : Outcome). Finished x o) (decimals_differ i h low high index) (outcomes-same a b word)

event-same : (k : Key) (n : ℕ) (o p : Own) (ss ts : List Step) → Fits o → Fits p → letter_of o ≡ letter_of p → own_words k n o ≡ own_words k n p → steps_at o ++ ss ≡ steps_at p ++ ts → AreSame o p ss ts
unfolding letter_of
event-same k n (Opened ask) p ss ts h g q e f = absurd h
event-same k n (Revised r) (Revised s) ss ts h g q e f =
    let same : r ≡ s = cc in
    let rest : ss ≡ ts = cc in
    (ap Revised same, rest)
event-same k n (Reasked v) (Reasked w) ss ts h g q e f =
    let same : v ≡ w = cc in
    let rest : ss ≡ ts = cc in
    (ap Reasked same, rest)
event-same k n Closed Closed ss ts h g q e f = (refl, f)
event-same k n (Volume v) (Volume w) ss ts h g q e f = let word : decimal_word v ≡ decimal_word w = cc in (ap Volume (decimals_differ v w h g word), f)
event-same k n (Started i) (Started j) ss ts h g q e f = let word : decimal_word i ≡ decimal_word j = cc in (ap Started (decimals_differ i j h g word), f)
event-same k n (Finished i a) (Finished j b) ss ts h g q e f = (finish-same k n i j a b h g e, f)
event-same k n Exchanged Exchanged ss ts h g q e f = (refl, f)
event-same k n o (Opened ask) ss ts h g q e f = absurd g
event-same k n o p ss ts h g q e f = absurd (omega (arith, q))

own-same : (k : Key) (n : ℕ) (os ps : List Own) → AllByRecursion Fits os → AllByRecursion Fits ps → map event_words (written_from k n os) ≡ map event_words (written_from k n ps) → flat_map steps_at os ≡ flat_map steps_at ps → os ≡ ps
own-same k n [] [] h g e f = refl
own-same k n [] (p ∷ ps) h g e f = absurd (cc)
own-same k n (o ∷ os) [] h g e f = absurd (cc)
own-same k n (o ∷ os) (p ∷ ps) h g e f =
    let words : own_words k n o ≡ own_words k n p = head-same (own_words k n o) (own_words k n p) (map event_words (written_from k (revisions_after n o) os)) (map event_words (written_from k (revisions_after n p) ps)) e in
    let rest : map event_words (written_from k (revisions_after n o) os) ≡ map event_words (written_from k (revisions_after n p) ps) = tail-same (own_words k n o) (own_words k n p) (map event_words (written_from k (revisions_after n o) os)) (map event_words (written_from k (revisions_after n p) ps)) e in
    let one = event-same k n o p (flat_map steps_at os) (flat_map steps_at ps) h.0 g.0 (sym (letter-first k n o) ∙ (ap first_letter words ∙ letter-first k n p)) words f in
    ap₂ (λ (x : Own) (xs : List Own). x ∷ xs) one.0 (own-same k (revisions_after n o) os ps h.1 g.1 (rest ∙ ap (λ (x : Own). map event_words (written_from k (revisions_after n x) ps)) (sym one.0)) one.1)

-- lawful own events begin with an opening
record Begins (own : List Own) : Type 0 where
  ask : Terms
  rest : List Own
  is : own ≡ Opened ask ∷ rest

begins : (own : List Own) → IsLawful own → Begins own
begins [] lawful = absurd lawful
begins (Opened ask ∷ os) lawful = record { ask = ask; rest = os; is = refl }
begins (Revised r ∷ os) lawful = absurd lawful
begins (Reasked w ∷ os) lawful = absurd lawful
begins (Closed ∷ os) lawful = absurd lawful
begins (Volume v ∷ os) lawful = absurd lawful
begins (Started i ∷ os) lawful = absurd lawful
begins (Finished i outcome ∷ os) lawful = absurd lawful
begins (Exchanged ∷ os) lawful = absurd lawful

-- two such jobs of one script and one text of own events are one
opened-same : (k l : Key) (a b : Terms) (os ps : List Own) → IsClean k.tenant → IsClean k.job → IsLawful (Opened a ∷ os) → IsLawful (Opened b ∷ ps) → scripted k (Opened a ∷ os) ≡ scripted l (Opened b ∷ ps) → own_text k (Opened a ∷ os) ≡ own_text l (Opened b ∷ ps) → (k ≡ l) × (Opened a ∷ os ≡ Opened b ∷ ps)
opened-same k l a b os ps t j h g script text =
    let tenant : k.tenant ≡ l.tenant = ap (λ (x : ScriptedJob). x.tenant) script in
    let job : k.job ≡ l.job = ap (λ (x : ScriptedJob). x.name) script in
    let key : k ≡ l = ap₂ (λ (x y : List ℕ). keyed x y) tenant job in
    let ask : a ≡ b = ap (λ (x : ScriptedJob). x.ask) script in
    let posted : flat_map steps_at os ≡ flat_map steps_at ps = ap (λ (x : ScriptedJob). x.steps) script in
    let same : own_text k (Opened a ∷ os) ≡ own_text k (Opened b ∷ ps) = text ∙ ap (λ (x : Key). own_text x (Opened b ∷ ps)) (sym key) in
    let rows : map event_words (written_from k 0 (Opened a ∷ os)) ≡ map event_words (written_from k 0 (Opened b ∷ ps)) = texts_differ _ _ (own-rows k 0 (Opened a ∷ os) t j) (own-rows k 0 (Opened b ∷ ps) t j) same in
    let rest = tail-same (own_words k 0 (Opened a)) (own_words k 0 (Opened b)) (map event_words (written_from k 0 os)) (map event_words (written_from k 0 ps)) rows in
    (key, ap₂ (λ (x : Terms) (xs : List Own). Opened x ∷ xs) ask (own-same k 0 os ps (all-fit (Opened a ∷ []) os (omega arith) h (omega arith)) (all-fit (Opened b ∷ []) ps (omega arith) g (omega arith)) rest posted))
  where
    keyed : List ℕ → List ℕ → Key
    keyed tenant job = record { tenant = tenant; job = job }

lawful-same : (k l : Key) (one other : List Own) → IsClean k.tenant → IsClean k.job → IsLawful one → IsLawful other → scripted k one ≡ scripted l other → own_text k one ≡ own_text l other → (k ≡ l) × (one ≡ other)
lawful-same k l one other t j h g script text =
    let x : Begins one = begins one h in
    let y : Begins other = begins other g in
    let same = opened-same k l x.ask y.ask x.rest y.rest t j (subst IsLawful x.is h) (subst IsLawful y.is g) (ap (scripted k) (sym x.is) ∙ (script ∙ ap (scripted l) y.is)) (ap (own_text k) (sym x.is) ∙ (text ∙ ap (own_text l) y.is)) in
    (same.0, x.is ∙ (same.1 ∙ sym y.is))

-- so a parcel is told by its bytes
read-same : (a b : Scripted) → ◌≡◌ {A = Result Scripted (ℕ × LineFault)} (Ok a) (Ok b) → a ≡ b
read-same a b e = cc

first-same : (a b : ScriptedJob) → ◌≡◌ {A = Scripted} (record { jobs = a ∷ [] }) (record { jobs = b ∷ [] }) → a ≡ b
first-same a b e = head-same a b [] [] (ap (λ (s : Scripted). s.jobs) e)

pub parcel_is_told : ParcelIsTold
parcel_is_told k l one other h g e =
    let sections : sections_of k one ≡ sections_of l other = sections_are_apart k l one other h.sized g.sized e in
    let spelled : spelling (script_of k one) ≡ spelling (script_of l other) = ap (λ (s : Sections). s.script) sections in
    let text : own_text k one ≡ own_text l other = ap (λ (s : Sections). s.events) sections in
    let script : script_of k one ≡ script_of l other = read-same (script_of k one) (script_of l other) (sym (written-read limits (script_of k one) (script-formed k one h.tenant h.job h.lawful)) ∙ (ap (read_text limits) spelled ∙ written-read limits (script_of l other) (script-formed l other g.tenant g.job g.lawful))) in
    lawful-same k l one other (name-clean k.tenant h.tenant) (name-clean k.job h.job) h.lawful g.lawful (first-same (scripted k one) (scripted l other) script) text
