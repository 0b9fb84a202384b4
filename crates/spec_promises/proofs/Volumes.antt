-- The first live jobs have volumes from each balancing to the next.
use Rattle.std.proofs.Common.{◌≡◌, ℕ, zero, suc, ◌<◌, ◌≤◌, Bool, true, false, cond, ◌==◌, List, [], ◌∷◌, ◌++◌, length, map, Option, Some, refl, sym, ◌∙◌, ap, subst, arith, append_assoc, append-nil}
use Rattle.std.specs.Prelude.{slice_get}
use Rattle.std.specs.Option.{option_map}
use Rattle.std.proofs.lemmas.Bool.{both_ways, eqb-true}
use Rattle.std.proofs.lemmas.List.{length-map}
use Rattle.std.proofs.lemmas.List.Sums.{fold_push}
use Rattle.std.proofs.lemmas.Option.{slice_get-map}
use Rattle.mal_history.specs.declared.event.Share.{Share}
use Rattle.spec_balance.specs.Fair.{volume_at}
use Rattle.spec_job.specs.KeyedJob.{Key}
use Rattle.spec_job.specs.SoloMachine.{Own, Opened, Revised, Reasked, Closed, Volume, Started, Finished, Exchanged}
use Rattle.spec_hall.specs.Events.{Event, Open, Revise, Reask, Close, Balance, Start, Finish, Exchange, Leave, Arrive, key_of}
use Rattle.spec_hall.specs.Legal.{Allowed, LegalFrom, MayBalance}
use Rattle.spec_hall.specs.Own.{adds, adds_volume, is_key, own, own_step, volume_after, volume_in, volume_step}
use Rattle.spec_hall.specs.States.{Live, balanced, last_after, live_asks, lives, states}
use Rattle.spec_hall.proofs.KeyLemmas.{is_key-same}
use Rattle.spec_hall.proofs.PushLemmas.{balanced-push, own-push}
use Rattle.spec_hall.proofs.VolumeLemmas.{solo-volume}
use Rattle.spec_promises.specs.Waiting.{FirstHaveVolumes}

-- the volume after one more own event
after-push : (os : List Own) (o : Own) → volume_after (os ++ o ∷ []) ≡ volume_step (volume_after os) o
after-push os o = fold_push volume_step 0 os o

adds-same : (mine : Bool) (os : List Own) (o : Own) → volume_step (volume_after os) o ≡ volume_after os → volume_after (adds mine os o) ≡ volume_after os
adds-same true os o same = after-push os o ∙ same
adds-same false os o same = refl

-- what a balancing gives
given-volume : (v : ℕ) (os : List Own) → volume_after (adds_volume v os) ≡ v
given-volume v os = by_test (v == volume_after os) refl
  where
    by_test : (b : Bool) → (v == volume_after os) ≡ b → volume_after (cond b os (os ++ Volume v ∷ [])) ≡ v
    by_test true q = sym (eqb-true v (volume_after os) q)
    by_test false q = after-push os (Volume v)

-- a key that is listed has the volume of a place no later
record IsGiven (k : Key) (shares : List Share) (place : ℕ) : Type 0 where
  at : ℕ
  early : at ≤ place
  inside : at < length shares
  is : volume_in k shares ≡ volume_at (map (λ (s : Share). s.volume) shares) at

given-at : (k : Key) (shares : List Share) (place : ℕ) → slice_get (map key_of shares) place ≡ Some k → IsGiven k shares place
given-at k [] place e = absurd (cc)
given-at k (s ∷ ss) place e = by_key (is_key k (key_of s)) refl place e (λ n f. given-at k ss n f)
  where
    by_key : (b : Bool) → is_key k (key_of s) ≡ b → (n : ℕ) → slice_get (map key_of (s ∷ ss)) n ≡ Some k → ((m : ℕ) → slice_get (map key_of ss) m ≡ Some k → IsGiven k ss m) → IsGiven k (s ∷ ss) n
    by_key true q n f rest = record { at = 0; early = omega arith; inside = omega arith; is = rw q refl }
    by_key false q zero f rest = let same : key_of s ≡ k = cc in absurd (both_ways (is_key k k) (subst (λ (x : Key). is_key k x ≡ false) same q) (is_key-same k))
    by_key false q (suc n) f rest =
        let later = rest n f in
        record { at = suc later.at; early = omega (arith, later.early); inside = omega (arith, later.inside); is = rw q later.is }

-- the first jobs of those at the last balancing have a volume
abbrev HaveVolumes : ℕ → List Event → Option (List Live) → Type 0
HaveVolumes w h last = (ls : List Live) → last ≡ Some ls → (place : ℕ) (l : Live) → slice_get ls place ≡ Some l → place < w → 1 ≤ volume_after (own l.key h)

balance-volumes : (w : ℕ) (h : List Event) (shares : List Share) → MayBalance w h shares → HaveVolumes w (h ++ Balance shares ∷ []) (Some (lives (states h)))
balance-volumes w h shares may ls e place l at low =
    let same : lives (states h) ≡ ls = cc in
    let here : slice_get (lives (states h)) place ≡ Some l = subst (λ (xs : List Live). slice_get xs place ≡ Some l) (sym same) at in
    let key : slice_get (map key_of shares) place ≡ Some l.key = ap (λ (ks : List Key). slice_get ks place) may.keys ∙ (slice_get-map (λ (x : Live). x.key) (lives (states h)) place ∙ ap (option_map (λ (x : Live). x.key)) here) in
    let given = given-at l.key shares place key in
    let count : length (map (λ (s : Share). s.volume) shares) ≡ length shares = length-map shares (λ (s : Share). s.volume) in
    let asks : length (map (λ (s : Share). s.volume) shares) ≡ length (live_asks (states h)) = may.fair.same_length in
    let some : 1 ≤ volume_at (map (λ (s : Share). s.volume) shares) given.at = may.fair.some given.at (omega (arith, given.inside, count, asks)) (omega (arith, given.early, low)) in
    let volume : volume_after (own l.key (h ++ Balance shares ∷ [])) ≡ volume_in l.key shares = ap volume_after (own-push l.key h (Balance shares)) ∙ given-volume (volume_in l.key shares) (own l.key h) in
    omega (arith, volume, given.is, some)

-- events that are no balancing, leave or arrival change no volume
kept-volumes : (w : ℕ) (h : List Event) (e : Event) (last : Option (List Live)) → ((k : Key) → volume_after (own_step k (own k h) e) ≡ volume_after (own k h)) → HaveVolumes w h last → HaveVolumes w (h ++ e ∷ []) last
kept-volumes w h e last same h-has ls q place l at low =
    let volume : volume_after (own l.key (h ++ e ∷ [])) ≡ volume_after (own l.key h) = ap volume_after (own-push l.key h e) ∙ same l.key in
    omega (arith, volume, h-has ls q place l at low)

event-volumes : (w : ℕ) (h : List Event) (e : Event) → Allowed w h e → HaveVolumes w h (balanced h) → HaveVolumes w (h ++ e ∷ []) (last_after h (balanced h) e)
event-volumes w h (Open k ask) may has = kept-volumes w h (Open k ask) (balanced h) (λ j. adds-same (is_key j k) (own j h) (Opened ask) refl) has
event-volumes w h (Revise k number r) may has = kept-volumes w h (Revise k number r) (balanced h) (λ j. adds-same (is_key j k) (own j h) (Revised r) refl) has
event-volumes w h (Reask k weight) may has = kept-volumes w h (Reask k weight) (balanced h) (λ j. adds-same (is_key j k) (own j h) (Reasked weight) refl) has
event-volumes w h (Close k) may has = kept-volumes w h (Close k) (balanced h) (λ j. adds-same (is_key j k) (own j h) Closed refl) has
event-volumes w h (Balance shares) may has = balance-volumes w h shares may
event-volumes w h (Start k index worker) may has = kept-volumes w h (Start k index worker) (balanced h) (λ j. adds-same (is_key j k) (own j h) (Started index) refl) has
event-volumes w h (Finish k index worker outcome) may has = kept-volumes w h (Finish k index worker outcome) (balanced h) (λ j. adds-same (is_key j k) (own j h) (Finished index outcome) refl) has
event-volumes w h (Exchange k) may has = kept-volumes w h (Exchange k) (balanced h) (λ j. adds-same (is_key j k) (own j h) Exchanged refl) has
event-volumes w h (Leave k) may has = λ ls q place l at low. absurd (cc)
event-volumes w h (Arrive k brought) may has = λ ls q place l at low. absurd (cc)

all-volumes : (w : ℕ) (past es : List Event) → LegalFrom w past es → HaveVolumes w past (balanced past) → HaveVolumes w (past ++ es) (balanced (past ++ es))
all-volumes w past [] from has = subst (λ (x : List Event). HaveVolumes w x (balanced x)) (sym (append-nil past)) has
all-volumes w past (e ∷ es) from has =
    let here : HaveVolumes w (past ++ e ∷ []) (balanced (past ++ e ∷ [])) = subst (HaveVolumes w (past ++ e ∷ [])) (sym (balanced-push past e)) (event-volumes w past e from.0 has) in
    subst (λ (x : List Event). HaveVolumes w x (balanced x)) (append_assoc past (e ∷ []) es) (all-volumes w (past ++ e ∷ []) es from.1 here)

pub first_have_volumes : FirstHaveVolumes
first_have_volumes w place h live legal calm at low =
    let some : 1 ≤ volume_after (own live.key h) = all-volumes w [] h legal (none w) (lives (states h)) (sym calm) place live at low in
    omega (arith, some, solo-volume (own live.key h))
  where
    none : (w : ℕ) → HaveVolumes w [] (balanced [])
    none w ls q place l at low = let same : [] ≡ ls = cc in absurd (nothing ls place l (sym same) at)
      where
        nothing : (xs : List Live) (n : ℕ) (x : Live) → xs ≡ [] → slice_get xs n ≡ Some x → ⊥
        nothing [] n x e f = cc
        nothing (y ∷ ys) n x e f = cc
