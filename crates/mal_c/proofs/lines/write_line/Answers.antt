use Rattle.std.proofs.Common.{rules, ◌≡◌, ◌+◌, [], ◌∷◌, ℕ, pos, length, map, w64, to_z, of_z, sym, ap, ◌∙◌, arith}
use Rattle.std.proofs.lemmas.List.{length-map}
use Rattle.mal_base.specs.Literals.{dimacs_of}
use Rattle.mal_c.specs.Numbers.{number_of_clause, laid}
use Rattle.mal_c.proofs.LaidLemmas.{laid-pieces, length-numbers}
use Rattle.mal_c.proofs.lines.write_line.Goals as goal

pub returns : goal.returns
returns c = λ line at.
    let lits : c.lits-lits.result.now ≡ line.lits = c.lits-lits.ensures line at in
    let hints : c.hints-hints.result.now ≡ line.hints = c.hints-hints.ensures line at in
    let same : to_z w64 (of_z w64 c.clause_number.result) ≡ c.clause_number.result = search rules in
    let id : to_z w64 (of_z w64 c.clause_number.result) ≡ number_of_clause line.id = same ∙ c.clause_number.ensures ∙ ap number_of_clause (c.id.ensures line at) in
    let lit_count : length c.lits-lits.result.now ≡ length (map dimacs_of line.lits) = ap length lits ∙ sym (length-map line.lits dimacs_of) in
    let hint_count : length c.hints-hints.result.now ≡ length (map number_of_clause line.hints) = ap length hints ∙ sym (length-map line.hints number_of_clause) in
    let middle : ℕ = 1 + length c.lits-lits.result.now in
    let end : ℕ = middle + 1 + length c.hints-hints.result.now in (
      omega (arith, length-numbers line, ap length lits, ap length hints),
      c.write-3.ensures
          ∙ laid-pieces (number_of_clause line.id) (map dimacs_of line.lits) (map number_of_clause line.hints) (pos 0 ∷ [])
          c.args.out.now c.write.new.out c.write_lits.new.out c.write-2.new.out c.write_hints.new.out middle end
          (omega (arith, lit_count)) (omega (arith, hint_count))
          (c.write.ensures ∙ (λ i. laid 0 (id i ∷ []) c.args.out.now))
          (c.write_lits.ensures ∙ (λ i. laid 1 (map dimacs_of (lits i)) c.write.new.out))
          c.write-2.ensures
          (c.write_hints.ensures ∙ (λ i. laid (middle + 1) (map number_of_clause (hints i)) c.write-2.new.out)),
    )
