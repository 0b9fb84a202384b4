use Rattle.std.proofs.Common.{◌≡◌, ◌≤◌, ◌+◌, ◌++◌, ◌∷◌, [], Some, length, refl, arith}
use Rattle.mal_base.specs.ClauseLists.{mark_of}
use Rattle.mal_base.proofs.LaidLemmas.{pushed-read, pushed-kept}
use Rattle.mal_base.proofs.clause_list.ClauseList.push_rising.Goals as goal

pub invariant_of-self-2 : goal.invariant_of-self-2
invariant_of-self-2 c =
    let few : length c.extend_from_slice.new.self.items ≤ 2147483647 = omega (arith, c.in_ok-grown.ensures.fits, c.len.ensures, c.in_ok-extend_from_slice.ensures.len, c.self.invariant.few) in
    pushed-kept c.self.inside.literals.items c.self.inside.marks.items _ _ _ (Some c.args.lits.now) c.self.invariant c.self.view_is c.requires c.in_ok-extend_from_slice.ensures.items (behind c) few
  where
    behind : (c : goal.After-push_reserved) → c.push_reserved.new.self.items ≡ c.self.inside.marks.items ++ mark_of (length c.self.inside.literals.items) (Some c.args.lits.now) ∷ []
    behind c =
        let sum : c.len-2.result ≡ length c.self.inside.literals.items + length c.args.lits.now = omega (arith, c.len-2.ensures, c.in_ok-extend_from_slice.ensures.len) in
        rw (c.push_reserved.ensures.items, c.in_ok-reserve.ensures.items, sum) refl

pub returns-clause-ok : goal.returns-clause-ok
returns-clause-ok c =
    let few : length c.extend_from_slice.new.self.items ≤ 2147483647 = omega (arith, c.in_ok-grown.ensures.fits, c.len.ensures, c.in_ok-extend_from_slice.ensures.len, c.self.invariant.few) in
    pushed-read c.self.inside.literals.items c.self.inside.marks.items _ _ _ (Some c.args.lits.now) c.self.invariant c.self.view_is c.requires c.in_ok-extend_from_slice.ensures.items (behind c) few
  where
    behind : (c : goal.After-push_reserved) → c.push_reserved.new.self.items ≡ c.self.inside.marks.items ++ mark_of (length c.self.inside.literals.items) (Some c.args.lits.now) ∷ []
    behind c =
        let sum : c.len-2.result ≡ length c.self.inside.literals.items + length c.args.lits.now = omega (arith, c.len-2.ensures, c.in_ok-extend_from_slice.ensures.len) in
        rw (c.push_reserved.ensures.items, c.in_ok-reserve.ensures.items, sum) refl
