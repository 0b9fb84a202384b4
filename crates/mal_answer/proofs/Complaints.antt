-- Complaints, and what reading a text gives of which they tell.
use Rattle.std.proofs.Common.{◌≡◌, ℕ, List, Option, Some, None, sym, ◌∙◌, Ok, Err, Result}
use Rattle.spec_text.specs.Faults.{Fails, TellsBy}
use Rattle.mal_answer.specs.Answers.{Complains, NoLine}
use Rattle.mal_answer.specs.declared.answer.Complaint.{Complaint}
use Rattle.mal_answer.specs.declared.answer.Complaint.TheVariants as complaint

-- a complaint is one of those too whose lines say as much
pub complains-as : (Refused Denied Refuses Denies : List ℕ → Type 0) → ((line : List ℕ) → Refused line → Refuses line) → ((line : List ℕ) → Denied line → Denies line) → (c : Complaint) → Complains Refused Denied c → Complains Refuses Denies c
complains-as Refused Denied Refuses Denies refuses denies complaint.Unread h = h
complains-as Refused Denied Refuses Denies refuses denies complaint.TooLong h = h
complains-as Refused Denied Refuses Denies refuses denies (complaint.Refused line) h = refuses line.items h
complains-as Refused Denied Refuses Denies refuses denies (complaint.Denied line) h = denies line.items h
complains-as Refused Denied Refuses Denies refuses denies complaint.OutOfMemory h = tt

-- what is refused is told, and what is denied
pub refused-as : (Told Refuses Denies : List ℕ → Type 0) → ((line : List ℕ) → Told line → Refuses line) → (c : Complaint) → Complains Told NoLine c → Complains Refuses Denies c
refused-as Told Refuses Denies refuses c h = complains-as Told NoLine Refuses Denies refuses (λ line k. absurd k) c h

pub denied-as : (Told Refuses Denies : List ℕ → Type 0) → ((line : List ℕ) → Told line → Denies line) → (c : Complaint) → Complains NoLine Told c → Complains Refuses Denies c
denied-as Told Refuses Denies denies c h = complains-as NoLine Told Refuses Denies (λ line k. absurd k) denies c h

-- the fault that reading gives is told
pub fault-refused : {X F : Type 0} (line_of : F → List ℕ) (read : Result X F) (Refuses Denies : List ℕ → Type 0) → ((line : List ℕ) (fault : F) → read ≡ Err fault → line ≡ line_of fault → Refuses line) → (fault : Option F) (c : Complaint) → Fails fault read → Complains (TellsBy line_of fault) NoLine c → Complains Refuses Denies c
fault-refused line_of read Refuses Denies refuses None c h k = refused-as (TellsBy line_of None) Refuses Denies (λ line t. absurd t) c k
fault-refused line_of read Refuses Denies refuses (Some fault) c h k = refused-as (TellsBy line_of (Some fault)) Refuses Denies (λ line t. refuses line fault h t) c k

-- a text that is read has no fault, and is read as one
pub read-faulty : {X F : Type 0} (read : Result X F) (x : X) (fault : F) → read ≡ Ok x → read ≡ Err fault → ⊥
read-faulty {X} {F} read x fault e f = differ (sym e ∙ f)
  where
    differ : ◌≡◌ {A = Result X F} (Ok x) (Err fault) → ⊥
    differ h = cc

pub read-once : {X F : Type 0} (read : Result X F) (x y : X) → read ≡ Ok x → read ≡ Ok y → x ≡ y
read-once {X} {F} read x y e f = same (sym e ∙ f)
  where
    same : ◌≡◌ {A = Result X F} (Ok x) (Ok y) → x ≡ y
    same h = cc
