use Rattle.std.proofs.Common.{◌≡◌, ◌++◌, ◌∷◌, [], None, length, append-nil, sym, refl, arith}
use Rattle.mal_base.specs.ClauseLists.{mark_of}
use Rattle.mal_base.proofs.LaidLemmas.{pushed-read, pushed-kept}
use Rattle.mal_base.proofs.clause_list.ClauseList.push_tautology.Goals as goal

pub invariant_of-self-2 : goal.invariant_of-self-2
invariant_of-self-2 c =
    pushed-kept c.self.inside.literals.items c.self.inside.marks.items _ _ _ None c.self.invariant c.self.view_is refl (sym (append-nil _)) (behind c) c.self.invariant.few
  where
    behind : (c : goal.After-push_reserved) → c.push_reserved.new.self.items ≡ c.self.inside.marks.items ++ mark_of (length c.self.inside.literals.items) None ∷ []
    behind c =
        let same : c.len.result ≡ length c.self.inside.literals.items = omega (arith, c.len.ensures) in
        rw (c.push_reserved.ensures.items, c.in_ok-reserve.ensures.items, same) refl

pub returns-clause-ok : goal.returns-clause-ok
returns-clause-ok c =
    pushed-read c.self.inside.literals.items c.self.inside.marks.items _ _ _ None c.self.invariant c.self.view_is refl (sym (append-nil _)) (behind c) c.self.invariant.few
  where
    behind : (c : goal.After-push_reserved) → c.push_reserved.new.self.items ≡ c.self.inside.marks.items ++ mark_of (length c.self.inside.literals.items) None ∷ []
    behind c =
        let same : c.len.result ≡ length c.self.inside.literals.items = omega (arith, c.len.ensures) in
        rw (c.push_reserved.ensures.items, c.in_ok-reserve.ensures.items, same) refl
