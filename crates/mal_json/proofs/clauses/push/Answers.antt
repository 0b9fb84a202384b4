use Rattle.std.proofs.Common.{◌≡◌, ◌∷◌, ◌++◌, [], ℕ, List, Option, Some, OnOk, true≢false, sym, ap, ◌∙◌, subst}
use Rattle.spec_dimacs.specs.Merged.{clause_of}
use Rattle.mal_json.proofs.Merged.{merged_rising, merged_tautology}
use Rattle.mal_json.proofs.clauses.push.Goals as goal

pub returns-then-merge : goal.returns-then-merge
returns-then-merge c =
    let own : Some c.as_slice.result.now ≡ clause_of c.args.lits.now.items =
    ap (λ (lits : List ℕ). Some lits) c.as_slice.ensures.value ∙ merged_rising c.args.lits.now.items c.merge.new.lits.items (sym c.merge.ensures.value ∙ c.if-merge.true) c.merge.ensures.same in
    subst (λ (x : Option (List ℕ)). OnOk c.push_rising.result (c.push_rising.new.self ≡ c.args.clauses.now ++ x ∷ [])) own c.push_rising.ensures.ok

pub returns-else-merge : goal.returns-else-merge
returns-else-merge c =
    let both = c.merge.ensures.tautology (λ up. true≢false (sym up ∙ sym c.merge.ensures.value ∙ c.if-merge.false)) in
    subst (λ (x : Option (List ℕ)). OnOk c.push_tautology.result (c.push_tautology.new.self ≡ c.args.clauses.now ++ x ∷ [])) (merged_tautology c.args.lits.now.items both) c.push_tautology.ensures.ok
