use Rattle.std.proofs.Common.{◌≡◌, ℕ, Bool, true, false, cond, ◌==◌, List, [], ◌∷◌, ◌++◌, refl, sym, ◌∙◌, ap, append_assoc, append-nil, Option, Some}
use Rattle.std.proofs.lemmas.List.Sums.{fold_push}
use Rattle.spec_job.specs.KeyedJob.{Key}
use Rattle.spec_job.specs.SoloMachine.{Own, Opened, Revised, Reasked, Closed, Volume, Started, Finished, Exchanged, solo, solo_step, unopened}
use Rattle.spec_hall.specs.Events.{Event, Open, Revise, Reask, Close, Balance, Start, Finish, Exchange, Leave, Arrive}
use Rattle.spec_hall.specs.Own.{own, own_step, adds, adds_volume, is_key, volume_in, volume_after}
use Rattle.spec_hall.specs.States.{Live, keys_of, keys_step, balanced, balanced_from, last_after, names_of, names_step, leases, leases_step}
use Rattle.spec_hall.specs.Legal.{Allowed, LegalFrom, Legal}
use Rattle.spec_hall.proofs.KeyLemmas.{is_key-Decides}

-- a job's own events after one more event
pub own-push : (k : Key) (h : List Event) (e : Event) → own k (h ++ e ∷ []) ≡ own_step k (own k h) e
own-push k h e = fold_push (own_step k) [] h e

-- the machine after one more event
pub solo-push : (es : List Own) (o : Own) → solo (es ++ o ∷ []) ≡ solo_step (solo es) o
solo-push es o = fold_push solo_step unopened es o

-- what a job's own events have, they have with one that joins
pub adds-keeps : (P : List Own → Type 0) (mine : Bool) (es : List Own) (o : Own) → P es → (mine ≡ true → P (es ++ o ∷ [])) → P (adds mine es o)
adds-keeps P true es o h more = more refl
adds-keeps P false es o h more = h

-- after a balancing
pub adds_volume-keeps : (P : List Own → Type 0) (v : ℕ) (es : List Own) → P es → P (es ++ Volume v ∷ []) → P (adds_volume v es)
adds_volume-keeps P v es h more = by_test (v == volume_after es)
  where
    by_test : (b : Bool) → P (cond b es (es ++ Volume v ∷ []))
    by_test true = h
    by_test false = more

-- and after any event of the hall, where each own event leaves it, and what is brought has it
pub own_step-keeps : (P : List Own → Type 0) (j : Key) (es : List Own) (e : Event) → P es → ((o : Own) → P (es ++ o ∷ [])) → ((brought : List Own) → e ≡ Arrive j brought → P brought) → P (own_step j es e)
own_step-keeps P j es (Open k ask) h more arrived = adds-keeps P (is_key j k) es (Opened ask) h (λ mine. more (Opened ask))
own_step-keeps P j es (Revise k number r) h more arrived = adds-keeps P (is_key j k) es (Revised r) h (λ mine. more (Revised r))
own_step-keeps P j es (Reask k weight) h more arrived = adds-keeps P (is_key j k) es (Reasked weight) h (λ mine. more (Reasked weight))
own_step-keeps P j es (Close k) h more arrived = adds-keeps P (is_key j k) es Closed h (λ mine. more Closed)
own_step-keeps P j es (Balance shares) h more arrived = adds_volume-keeps P (volume_in j shares) es h (more (Volume (volume_in j shares)))
own_step-keeps P j es (Start k index worker) h more arrived = adds-keeps P (is_key j k) es (Started index) h (λ mine. more (Started index))
own_step-keeps P j es (Finish k index worker outcome) h more arrived = adds-keeps P (is_key j k) es (Finished index outcome) h (λ mine. more (Finished index outcome))
own_step-keeps P j es (Exchange k) h more arrived = adds-keeps P (is_key j k) es Exchanged h (λ mine. more Exchanged)
own_step-keeps P j es (Leave k) h more arrived = by_test (is_key j k)
  where
    by_test : (b : Bool) → P (cond b (adds_volume 0 es) es)
    by_test true = adds_volume-keeps P 0 es h (more (Volume 0))
    by_test false = h
own_step-keeps P j es (Arrive k brought) h more arrived = by_test (is_key j k) refl
  where
    by_test : (b : Bool) → is_key j k ≡ b → P (cond b brought es)
    by_test true q = arrived brought (ap (λ (x : Key). Arrive x brought) (sym ((is_key-Decides j k).0 q)))
    by_test false q = h

-- the keys after one more event
pub keys-push : (h : List Event) (e : Event) → keys_of (h ++ e ∷ []) ≡ keys_step (keys_of h) e
keys-push h e = fold_push keys_step [] h e

-- the starts that are out after one more event
pub leases-push : (h : List Event) (e : Event) → leases (h ++ e ∷ []) ≡ leases_step (leases h) e
leases-push h e = fold_push leases_step [] h e

-- the names after one more event
pub names-push : (h : List Event) (e : Event) → names_of (h ++ e ∷ []) ≡ names_step (names_of h) e
names-push h e = fold_push names_step [] h e

-- the live jobs at the last balancing after one more event
pub balanced_from-push : (past : List Event) (last : Option (List Live)) (es : List Event) (e : Event) → balanced_from past last (es ++ e ∷ []) ≡ last_after (past ++ es) (balanced_from past last es) e
balanced_from-push past last [] e = ap (λ (p : List Event). last_after p last e) (sym (append-nil past))
balanced_from-push past last (x ∷ xs) e =
    balanced_from-push (past ++ x ∷ []) (last_after past last x) xs e
    ∙ ap (λ (p : List Event). last_after p (balanced_from (past ++ x ∷ []) (last_after past last x) xs) e) (append_assoc past (x ∷ []) xs)

pub balanced-push : (h : List Event) (e : Event) → balanced (h ++ e ∷ []) ≡ last_after h (balanced h) e
balanced-push h e = balanced_from-push [] (Some []) h e

-- a legal history with one more event that is allowed
pub LegalFrom-push : (w : ℕ) (past es : List Event) (e : Event) → LegalFrom w past es → Allowed w (past ++ es) e → LegalFrom w past (es ++ e ∷ [])
LegalFrom-push w past [] e legal allowed = (rw append-nil at allowed, tt)
LegalFrom-push w past (x ∷ xs) e legal allowed = (legal.0, LegalFrom-push w (past ++ x ∷ []) xs e legal.1 (rw (← append_assoc past (x ∷ []) xs) at allowed))

pub Legal-push : (w : ℕ) (h : List Event) (e : Event) → Legal w h → Allowed w h e → Legal w (h ++ e ∷ [])
Legal-push w h e legal allowed = LegalFrom-push w [] h e legal allowed
