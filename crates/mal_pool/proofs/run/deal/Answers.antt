use Rattle.std.proofs.Common.{◌≡◌, ◌++◌, [], ◌∷◌, List, map, get_or, sym, ◌∙◌, ap, subst}
use Rattle.std.specs.List.{All}
use Rattle.std.proofs.lemmas.List.{map-append, take_more}
use Rattle.std.proofs.lemmas.List.Elements.{All-push}
use Rattle.mal_pool.specs.Parts.{Fits}
use Rattle.mal_pool.specs.declared.role.Part.{Part}
use Rattle.mal_pool.specs.declared.role.Part.TheVariants as parts
use Rattle.mal_pool.specs.declared.role.Role.{Role}
use Rattle.mal_pool.proofs.run.deal.Goals as goal

pub loop-part-preserved : goal.loop-part-preserved
loop-part-preserved g c =
    let was = c.loop-part.invariant in
    let new = c.split-mine.ensures in
    let all : List Part = c.args.parts.now in
    let part : Part = get_or all c.loop-part.part-index (parts.Poster 0) in
    let role : Role g.row.B-Pass.Denot = record { pass = c.split-mine.result.1; part = part } in
    let IsDealt : Role g.row.B-Pass.Denot → Type 0 = λ x. g.B.Desk.is_of c.args.board.now x.pass × (Fits (g.B.Desk.workers c.args.board.now) c.args.jobs.now x.part × (g.B.Desk.calls x.pass ≡ [])) in
    let grown : c.push.new.self.items ≡ c.loop-part.roles.items ++ role ∷ [] = c.in_ok-push.ensures.items in
    record {
      of = new.of;
      calls = new.calls ∙ was.calls;
      roles = subst (All IsDealt) (sym grown) (All-push IsDealt c.loop-part.roles.items role was.roles (new.other, (c.requires.fits c.loop-part.part-index (parts.Poster 0) c.loop-part-test.true, new.none)));
      parts =
          ap (map (λ x. x.part)) grown
          ∙ (map-append (λ x. x.part) c.loop-part.roles.items (role ∷ [])
          ∙ (ap (λ (ps : List Part). ps ++ part ∷ []) was.parts ∙ sym (take_more all c.loop-part.part-index (parts.Poster 0) c.loop-part-test.true)));
    }
