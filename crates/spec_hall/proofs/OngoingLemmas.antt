-- What an opening begins and each other own event keeps holds of each job whose name came, wherever it was before.
use Rattle.std.proofs.Common.{◌≡◌, ℕ, Bool, true, false, cond, List, [], ◌∷◌, ◌++◌, refl, sym, subst, append_assoc, append-nil}
use Rattle.spec_job.specs.Counts.{is_opening}
use Rattle.spec_job.specs.KeyedJob.{Key}
use Rattle.spec_job.specs.Lawful.{AllPass}
use Rattle.spec_job.proofs.LawfulLemmas.{pass-other}
use Rattle.spec_job.specs.SoloMachine.{Own, Opened, Revised, Reasked, Closed, Volume, Started, Finished, Exchanged, solo}
use Rattle.spec_hall.specs.Events.{Event, Open, Revise, Reask, Close, Balance, Start, Finish, Exchange, Leave, Arrive}
use Rattle.spec_hall.specs.Legal.{Legal}
use Rattle.spec_hall.specs.Own.{own, adds_volume, is_key, volume_in}
use Rattle.spec_hall.proofs.LastingLemmas.{Begins, Comes, Lasts, legal-named}
use Rattle.spec_hall.proofs.OrderlyLemmas.{was_named}
use Rattle.spec_hall.proofs.PushLemmas.{adds-keeps, adds_volume-keeps}

-- each own event that is no opening keeps it
abbrev pub KeepsOn : (List Own → Type 0) → Type 0
KeepsOn P = (es : List Own) (o : Own) → is_opening o ≡ false → P es → P (es ++ o ∷ [])

pass-kept : (P : List Own → Type 0) → KeepsOn P → (past os : List Own) → AllPass past os → P past → P (past ++ os)
pass-kept P keeps past [] all h = subst P (sym (append-nil past)) h
pass-kept P keeps past (o ∷ os) all h = subst P (append_assoc past (o ∷ []) os) (pass-kept P keeps (past ++ o ∷ []) os all.1 (keeps past o (pass-other (solo past) o all.0) h))

-- so what is lawful has it
pub lawful-kept : (P : List Own → Type 0) → Begins P → KeepsOn P → Comes P
lawful-kept P begins keeps [] lawful = absurd lawful
lawful-kept P begins keeps (Opened ask ∷ os) lawful = pass-kept P keeps (Opened ask ∷ []) os lawful.1 (begins ask lawful.0)
lawful-kept P begins keeps (Revised r ∷ os) lawful = absurd lawful
lawful-kept P begins keeps (Reasked w ∷ os) lawful = absurd lawful
lawful-kept P begins keeps (Closed ∷ os) lawful = absurd lawful
lawful-kept P begins keeps (Volume v ∷ os) lawful = absurd lawful
lawful-kept P begins keeps (Started i ∷ os) lawful = absurd lawful
lawful-kept P begins keeps (Finished i outcome ∷ os) lawful = absurd lawful
lawful-kept P begins keeps (Exchanged ∷ os) lawful = absurd lawful

-- and an event of the hall that is no coming keeps it
kept-lasts : (w : ℕ) (k : Key) (P : List Own → Type 0) → KeepsOn P → Lasts w k P
kept-lasts w k P keeps past (Open j ask) legal may named h none = absurd none
kept-lasts w k P keeps past (Revise j number r) legal may named h none = adds-keeps P (is_key k j) (own k past) (Revised r) h (λ mine. keeps (own k past) (Revised r) refl h)
kept-lasts w k P keeps past (Reask j weight) legal may named h none = adds-keeps P (is_key k j) (own k past) (Reasked weight) h (λ mine. keeps (own k past) (Reasked weight) refl h)
kept-lasts w k P keeps past (Close j) legal may named h none = adds-keeps P (is_key k j) (own k past) Closed h (λ mine. keeps (own k past) Closed refl h)
kept-lasts w k P keeps past (Balance shares) legal may named h none = adds_volume-keeps P (volume_in k shares) (own k past) h (keeps (own k past) (Volume (volume_in k shares)) refl h)
kept-lasts w k P keeps past (Start j index worker) legal may named h none = adds-keeps P (is_key k j) (own k past) (Started index) h (λ mine. keeps (own k past) (Started index) refl h)
kept-lasts w k P keeps past (Finish j index worker outcome) legal may named h none = adds-keeps P (is_key k j) (own k past) (Finished index outcome) h (λ mine. keeps (own k past) (Finished index outcome) refl h)
kept-lasts w k P keeps past (Exchange j) legal may named h none = adds-keeps P (is_key k j) (own k past) Exchanged h (λ mine. keeps (own k past) Exchanged refl h)
kept-lasts w k P keeps past (Leave j) legal may named h none = by_test (is_key k j)
  where
    by_test : (b : Bool) → P (cond b (adds_volume 0 (own k past)) (own k past))
    by_test true = adds_volume-keeps P 0 (own k past) h (keeps (own k past) (Volume 0) refl h)
    by_test false = h
kept-lasts w k P keeps past (Arrive j brought) legal may named h none = absurd none

-- it holds of a job whose name came in a legal history
pub legal-kept : (w : ℕ) (k : Key) (P : List Own → Type 0) → Begins P → KeepsOn P → (h : List Event) → Legal w h → was_named h k ≡ true → P (own k h)
legal-kept w k P begins keeps h legal named = legal-named w k P begins (lawful-kept P begins keeps) (kept-lasts w k P keeps) h legal named
