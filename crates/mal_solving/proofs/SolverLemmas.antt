-- What the calls of a solver do to its value.
use Rattle.std.proofs.Common.{◌≡◌, ◌≢◌, ℕ, true, false, List, [], ◌∷◌, Contains, Option, Some, None, refl, sym, ◌∙◌, ap, subst, inl, inr, ◌⊎◌}
use Rattle.std.specs.Prelude.{All, is_some}
use Rattle.std.proofs.lemmas.List.Elements.{All-nil, All-cons}
use Rattle.mal_base.specs.Clauses.{climbs, clash, HaveSame, IsLeastOpposite}
use Rattle.mal_base.specs.Literals.{literal}
use Rattle.mal_base.proofs.Tautologies.{opposite-from_sorted}
use Rattle.spec_solving.specs.declared.refusal.Refusal.{Refusal}
use Rattle.spec_solving.specs.Solving.{Answer, Solving, reopened, reopened_by}
use Rattle.spec_solving.specs.Solving.Answer.{Open, Unknown, Model, Core}
use Rattle.spec_solving.specs.Calls.{IsBegun, IsRun}
use Rattle.mal_solving.specs.Loaded.{Loaded}
use Rattle.mal_solving.specs.Steps.{solving_of, IsSolving}

pub same-itself : (xs : List ℕ) → HaveSame xs xs
same-itself xs = record { there = λ x k. k; back = λ x k. k }

same-on : (xs ys zs : List ℕ) → HaveSame xs ys → HaveSame ys zs → HaveSame xs zs
same-on xs ys zs h k = record { there = λ x m. k.there x (h.there x m); back = λ x m. h.back x (k.back x m) }

-- a solver without an answer is as it is when it is reopened
pub reopened-open : (s : Solving) → s.answer ≡ Open → reopened s ≡ s
reopened-open s e = ap (λ (a : Answer). reopened_by a s) e

open-by : (a : Answer) (s : Solving) → s.answer ≡ a → (reopened_by a s).answer ≡ Open
open-by Open s e = e
open-by Unknown s e = refl
open-by (Model values) s e = refl
open-by (Core failed lines) s e = refl

pub reopened-is_open : (s : Solving) → (reopened s).answer ≡ Open
reopened-is_open s = open-by s.answer s refl

-- both signs of a variable were assumed
pub both-assumed : (sorted : List ℕ) (var : ℕ) → climbs sorted ≡ true → clash sorted ≡ Some var → Contains sorted (literal var true) × Contains sorted (literal var false)
both-assumed sorted var up e = let is : IsLeastOpposite sorted var = opposite-from_sorted sorted sorted var (same-itself sorted) up e in (is.plus, is.minus)

-- what answers with both signs of a variable is a solver
pub core-solving : (k : Loaded) (pending : List (Option (List ℕ))) (opened assumed failed : List ℕ) (refused : Option Refusal) (var : ℕ) → refused ≡ None → failed ≡ literal var true ∷ literal var false ∷ [] → Contains assumed (literal var true) × Contains assumed (literal var false) → IsSolving k pending (solving_of k pending opened assumed refused (Core failed []))
core-solving k pending opened assumed failed refused var taken both there = record {
  promises = record {
    among = subst (λ (ls : List ℕ). All (Contains assumed) ls) (sym both) (All-cons (Contains assumed) (literal var true) (literal var false ∷ []) there.0 (All-cons (Contains assumed) (literal var false) [] there.1 (All-nil (Contains assumed))));
    cause = inl (var, both);
  };
  silent = λ f. absurd (f taken);
  whole = λ e. absurd (cc);
  goes = λ e. absurd (cc);
  same = λ e. absurd (cc);
}

-- an answer was begun of a solver that had none
pub asked-as : (old new : Solving) (assumed : List ℕ) (answer : Answer) → old.answer ≡ Open → HaveSame old.assumed assumed → new ≡ record old { assumed = assumed; answer = answer } → (answer ≡ Unknown) ⊎ ((var : ℕ) × (answer ≡ Core (literal var true ∷ literal var false ∷ []) [])) → IsBegun old new
asked-as old new assumed answer none same next known = inl (record {
  assumed = assumed;
  same = subst (λ (s : Solving). HaveSame s.assumed assumed) (sym (reopened-open old none)) same;
  answer = answer;
  next = next ∙ ap (λ (s : Solving). record s { assumed = assumed; answer = answer }) (sym (reopened-open old none));
  known = known;
})

-- it was begun of one whose assumptions were sorted
pub begun-sorted : (old new : Solving) (sorted : List ℕ) → old.refused ≡ None → HaveSame (reopened old).assumed sorted → IsBegun (record (reopened old) { assumed = sorted }) new → IsBegun old new
begun-sorted old new sorted taken same (inl a) =
    let mid : Solving = record (reopened old) { assumed = sorted } in
    let is : reopened mid ≡ mid = reopened-open mid (reopened-is_open old) in
    inl (record {
      assumed = a.assumed;
      same = same-on (reopened old).assumed sorted a.assumed same (subst (λ (s : Solving). HaveSame s.assumed a.assumed) is a.same);
      answer = a.answer;
      next = a.next ∙ ap (λ (s : Solving). record s { assumed = a.assumed; answer = a.answer }) is;
      known = a.known;
    })
begun-sorted old new sorted taken same (inr r) = inr (record { refused = r.refused; first = λ f. absurd (f taken) })

-- slices were run after slices
pub run-on : (a b c : Solving) → IsRun a b → IsRun b c → IsRun a c
run-on a b c h k = record { kept = by_mid b.refused refl; first = λ f. by_mid_first f }
  where
    by_mid_first : a.refused ≢ None → c.refused ≡ a.refused
    by_mid_first f = k.first (λ e. f (sym (h.first f) ∙ e)) ∙ h.first f

    by_mid : (r : Option Refusal) → b.refused ≡ r → c.refused ≡ None → c ≡ record a { answer = c.answer }
    by_mid None e q =
        let next : c ≡ record b { answer = c.answer } = k.kept q in
        let before : b ≡ record a { answer = b.answer } = h.kept e in
        next ∙ ap (λ (s : Solving). record s { answer = c.answer }) before
    by_mid (Some x) e q =
        let there : c.refused ≡ b.refused = k.first (λ n. absurd (cc)) in
        absurd (cc)

pub run-not : (a : Solving) → IsRun a a
run-not a = record { kept = λ e. refl; first = λ f. refl }

pub none-by : (refused : Option Refusal) → is_some refused ≡ false → refused ≡ None
none-by None e = refl
none-by (Some x) e = absurd (cc)
