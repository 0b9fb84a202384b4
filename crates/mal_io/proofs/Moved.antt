-- Texts that are put one after the other.
use Rattle.std.proofs.Common.{◌≡◌, ◌≤◌, ℕ, Bool, true, false, List, [], ◌++◌, inl, inr, ⊎_elim, true≢false, refl, sym, ap, ◌∙◌, subst, append_assoc, append-nil, le_trans, arith}
use Rattle.std.specs.Prelude.{Option}
use Rattle.std.specs.Io.KnownBytes.{Appends}
use Rattle.std.proofs.KnownBytes.{Appends-nil, Appends-trans}
use Rattle.mal_io.specs.Moves.{Rose, GotPrefix}
use Rattle.mal_io.specs.Pieces.{Waiting, Moves, Puts}

-- what is left of a text waits after what was handed on, and so does another text
more : (got mid now : Option (List ℕ)) (before between rest text other : List ℕ) → Moves got mid before text between → Moves mid now between other rest → Moves got now before (text ++ other) rest
more got mid now before between rest text other m n = (
  m.0 ++ n.0,
  Appends-trans got mid now m.0 n.0 m.1 n.1,
  sym (append_assoc before text other) ∙ ap (λ (bytes : List ℕ). bytes ++ other) m.2
      ∙ append_assoc m.0 between other ∙ ap (λ (bytes : List ℕ). m.0 ++ bytes) n.2 ∙ sym (append_assoc m.0 n.0 rest),
)

-- a sink that has failed has got a prefix of the text with any other after it
kept : (got mid now : Option (List ℕ)) (before rest text other : List ℕ) → Moves got mid before text rest → Appends mid now [] → Moves got now before (text ++ other) (rest ++ other)
kept got mid now before rest text other m still = (
  m.0,
  subst (λ (bytes : List ℕ). Appends got now bytes) (append-nil m.0) (Appends-trans got mid now m.0 [] m.1 still),
  sym (append_assoc before text other) ∙ ap (λ (bytes : List ℕ). bytes ++ other) m.2 ∙ append_assoc m.0 rest other,
)

rose-later : (a b c : ℕ) → Rose a b → b ≤ c → Rose a c
rose-later a b c r l = le_trans r l

later-rose : (a b c : ℕ) → a ≤ b → Rose b c → Rose a c
later-rose a b c l r = omega arith

-- a text after a text
pub puts-more : {A : Type 0} {got : A → Option (List ℕ)} {faults : A → ℕ} {sink mid now : A} {before between after : Waiting} {text other : List ℕ} → Puts got faults sink mid before between text → Puts got faults mid now between after other → Puts got faults sink now before after (text ++ other)
puts-more {A} {got} {faults} {sink} {mid} {now} {before} {between} {after} {text} {other} p q = record {
  whole = λ calm. let y = q.whole calm in let x = p.whole y.0 in (x.0, more (got sink) (got mid) (got now) before.bytes between.bytes after.bytes text other x.1 y.1);
  prefix = by_fault between.failed refl;
  still = λ failed. Appends-trans (got sink) (got mid) (got now) [] [] (p.still failed) (q.still (by_first between.failed refl failed));
  later = le_trans p.later q.later;
  cause = λ failed. ⊎_elim (λ at. ⊎_elim (λ first. inl first) (λ rose. inr (rose-later (faults sink) (faults mid) (faults now) rose q.later)) (p.cause at)) (λ rose. inr (later-rose (faults sink) (faults mid) (faults now) p.later rose)) (q.cause failed);
  counted = λ calm. q.counted calm ∙ p.counted (q.whole calm).0;
}
  where
    by_first : (b : Bool) → between.failed ≡ b → before.failed ≡ true → between.failed ≡ true
    by_first true e failed = e
    by_first false e failed = absurd (true≢false (sym failed ∙ (p.whole e).0))

    by_fault : (b : Bool) → between.failed ≡ b → (rest : List ℕ) × Moves (got sink) (got now) before.bytes (text ++ other) rest
    by_fault true e = (p.prefix.0 ++ other, kept (got sink) (got mid) (got now) before.bytes p.prefix.0 text other p.prefix.1 (q.still e))
    by_fault false e = (q.prefix.0, more (got sink) (got mid) (got now) before.bytes between.bytes q.prefix.0 text other (p.whole e).1 q.prefix.1)

-- nothing is put
pub puts-none : {A : Type 0} (got : A → Option (List ℕ)) (faults : A → ℕ) (sink : A) (before : Waiting) → Puts got faults sink sink before before []
puts-none got faults sink before =
    let none : Moves (got sink) (got sink) before.bytes [] before.bytes = ([], Appends-nil (got sink), append-nil before.bytes) in
    record {
      whole = λ calm. (calm, none);
      prefix = (before.bytes, none);
      still = λ failed. Appends-nil (got sink);
      later = omega arith;
      cause = λ failed. inl failed;
      counted = λ calm. refl;
    }

-- a sink that has failed gets nothing
pub puts-failed : {A : Type 0} (got : A → Option (List ℕ)) (faults : A → ℕ) (sink : A) (before after : Waiting) (text : List ℕ) → before.failed ≡ true → after.failed ≡ true → Puts got faults sink sink before after text
puts-failed got faults sink before after text was is = record {
  whole = λ calm. absurd (true≢false (sym is ∙ calm));
  prefix = (before.bytes ++ text, ([], Appends-nil (got sink), refl));
  still = λ failed. Appends-nil (got sink);
  later = omega arith;
  cause = λ failed. inl was;
  counted = λ calm. refl;
}

-- a text waits after what waited
pub puts-kept : {A : Type 0} (got : A → Option (List ℕ)) (faults : A → ℕ) (sink : A) (before after : Waiting) (text : List ℕ) → after.bytes ≡ before.bytes ++ text → after.failed ≡ before.failed → Puts got faults sink sink before after text
puts-kept got faults sink before after text bytes same = record {
  whole = λ calm. (sym same ∙ calm, ([], Appends-nil (got sink), sym bytes));
  prefix = (before.bytes ++ text, ([], Appends-nil (got sink), refl));
  still = λ failed. Appends-nil (got sink);
  later = omega arith;
  cause = λ failed. inl (sym same ∙ failed);
  counted = λ calm. refl;
}

-- the same text
pub puts-as : {A : Type 0} {got : A → Option (List ℕ)} {faults : A → ℕ} {sink now : A} {before after : Waiting} {text other : List ℕ} → Puts got faults sink now before after text → text ≡ other → Puts got faults sink now before after other
puts-as {got = got} {faults} {sink} {now} {before} {after} p e = subst (λ (t : List ℕ). Puts got faults sink now before after t) e p

-- what is left is handed on at the end
pub puts-end : {A : Type 0} {got : A → Option (List ℕ)} {faults : A → ℕ} {sink mid now : A} {before between after : Waiting} {text : List ℕ} → Puts got faults sink mid before between text → Puts got faults mid now between after [] → Puts got faults sink now before after text
puts-end {text = text} p q = puts-as (puts-more p q) (append-nil text)

-- where nothing waited a sink got a prefix of the text
pub prefix-of : {A : Type 0} {got : A → Option (List ℕ)} {faults : A → ℕ} {sink now : A} {before after : Waiting} {text : List ℕ} → before.bytes ≡ [] → Puts got faults sink now before after text → (prefix : List ℕ) × GotPrefix (got sink) (got now) text prefix
prefix-of {text = text} e p = (p.prefix.1.0, record { gained = p.prefix.1.1; split = (p.prefix.0, ap (λ (bytes : List ℕ). bytes ++ text) (sym e) ∙ p.prefix.1.2) })
