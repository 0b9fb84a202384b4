use Rattle.std.proofs.Common.{List, [], ◌∷◌, ◌++◌, append_assoc, sym, ◌∙◌, ap, subst}
use Rattle.std.specs.List.{All}
use Rattle.std.specs.Vec.Iter.{into_iter_items}
use Rattle.std.proofs.lemmas.List.Elements.{All-nil, All-tail}
use Rattle.mal_pool.specs.Within.{IsWithin}
use Rattle.mal_pool.specs.declared.role.Played.{Played}
use Rattle.mal_pool.proofs.Sharings.{joined-next, within-within}
use Rattle.mal_pool.proofs.Withins.{within-same}
use Rattle.mal_pool.proofs.run.join_all.Goals as goal

pub loop-one-init : goal.loop-one-init
loop-one-init g c =
    let all = c.into_iter-one-iterator.ensures.into_iter_gives.0 in
    record {
      of = c.requires.of;
      rest = subst (All (λ x. g.B.Desk.is_of c.args.board.now x.pass)) (sym all) c.requires.all;
      mine = within-same (g.B.Desk.calls c.args.pass);
      told = ([], (sym all, All-nil (λ x. IsWithin (g.B.Desk.calls x.pass) (g.B.Desk.calls c.args.pass))));
    }

pub loop-one-preserved : goal.loop-one-preserved
loop-one-preserved g c =
    let was = c.loop-one.invariant in
    let new = c.join-pass.ensures in
    let one : Played g.row.B-Pass.Denot = c.in-Some.one in
    let rest : List (Played g.row.B-Pass.Denot) = into_iter_items c.next.new.self in
    let done : List (Played g.row.B-Pass.Denot) = was.told.0 in
    let more = c.in-Some.ensures.steps.0 in
    record {
      of = new.of;
      rest = All-tail (λ x. g.B.Desk.is_of c.args.board.now x.pass) one rest (subst (All (λ x. g.B.Desk.is_of c.args.board.now x.pass)) more was.rest);
      mine = within-within (g.B.Desk.calls c.args.pass) (g.B.Desk.calls c.loop-one.pass) (g.B.Desk.calls c.join-pass.result) was.mine new.one;
      told = (
        done ++ one ∷ [],
        (
          was.told.1.0 ∙ (ap (λ (xs : List (Played g.row.B-Pass.Denot)). done ++ xs) more ∙ sym (append_assoc done (one ∷ []) rest)),
          joined-next (λ x. g.B.Desk.calls x.pass) done one (g.B.Desk.calls c.loop-one.pass) (g.B.Desk.calls c.join-pass.result) was.told.1.1 new.one new.both,
        ),
      );
    }
