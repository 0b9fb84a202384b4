use Rattle.std.proofs.Common.{◌≡◌, ◌≤◌, true, List, [], ◌∷◌, ◌++◌, length, sym, ◌∙◌, ap, subst, arith, refl}
use Rattle.std.specs.Prelude.{All, OnOk}
use Rattle.spec_exchange.specs.Exchange.{broadcast}
use Rattle.mal_base.specs.Clauses.{rises}
use Rattle.mal_base.specs.NumberedClause.{Line}
use Rattle.spec_job.specs.SoloMachine.{Exchanged, exports_from}
use Rattle.spec_job.specs.Viewed.{JobView, and_own}
use Rattle.mal_job.specs.Exports.{marked}
use Rattle.mal_job.specs.JobInvariant.{JobInvariant}
use Rattle.mal_job.specs.Placing.{IsTree}
use Rattle.mal_job.specs.Viewed.{TreeView, Parts, places_of, viewed}
use Rattle.mal_job.proofs.KeptLemmas.{own-rising}
use Rattle.mal_job.proofs.PartLemmas.{HasGrown, grown-view, grown-kept, on-both, then-ok, then-err}
use Rattle.mal_job.proofs.StartLemmas.{told, exchange-view, exchange-kept}
use Rattle.mal_job.proofs.job.Job.exchange.Goals as goal
use Rattle.mal_job.proofs.job.Job.exchange.Goals.{After-exchange}

pub exchange-requires-clause-rising : goal.exchange-requires-clause-rising
exchange-requires-clause-rising c = subst (λ (ls : List Line). All (λ line. rises line.lits ≡ true) ls) (sym c.log.ensures) (own-rising _ c.self.invariant.own)

made : (c : After-exchange) → HasGrown (record { asked = c.self.inside.questions; tree = c.self.inside.tree; log = c.self.inside.log }) c.grow.new.self c.self.inside.log
made c = record { places = c.in_ok-grow.ensures.places; rest = c.in_ok-grow.ensures.rest; tree = c.in_ok-grow.ensures.kept; lines = refl; slices = refl; room = omega arith }

pub invariant_of-self-2 : goal.invariant_of-self-2
invariant_of-self-2 c =
    let q : Parts = record { asked = c.self.inside.questions; tree = c.self.inside.tree; log = c.self.inside.log } in
    let g : Parts = record { asked = c.self.inside.questions; tree = c.grow.new.self; log = c.self.inside.log } in
    let k : JobInvariant g = grown-kept q c.grow.new.self c.self.inside.log (made c) c.self.invariant in
    let wide : g.tree.volume ≤ length g.tree.places = omega (arith, ap (λ (t : TreeView). t.volume) c.in_ok-grow.ensures.rest, c.in_ok-grow.ensures.enough, c.volume-volume.ensures.value) in
    let ok : OnOk c.exchange.result (c.exchange.new.self ≡ told g k wide) = then-ok c.exchange.result c.exchange.ensures.ok (λ e. e ∙ ap (λ (ls : List Line). let t : TreeView = record g.tree { broadcasts = g.tree.broadcasts ++ broadcast (exports_from g.tree.volume ls 0 (places_of g.tree.places)) ∷ []; places = marked g.tree.volume (length ls) g.tree.places; ran = 0 } in t) c.log.ensures) in
    on-both c.exchange.result (λ (t : TreeView). IsTree t → JobInvariant (record g { tree = t })) c.exchange.new.self (told g k wide) c.grow.new.self ok c.exchange.ensures.err (exchange-kept g k wide) (λ h. k) c.exchange.ensures.kept

pub returns-clause-ok : goal.returns-clause-ok
returns-clause-ok c =
    let q : Parts = record { asked = c.self.inside.questions; tree = c.self.inside.tree; log = c.self.inside.log } in
    let g : Parts = record { asked = c.self.inside.questions; tree = c.grow.new.self; log = c.self.inside.log } in
    let k : JobInvariant g = grown-kept q c.grow.new.self c.self.inside.log (made c) c.self.invariant in
    let wide : g.tree.volume ≤ length g.tree.places = omega (arith, ap (λ (t : TreeView). t.volume) c.in_ok-grow.ensures.rest, c.in_ok-grow.ensures.enough, c.volume-volume.ensures.value) in
    let same : viewed c.self.inside.tenant c.self.inside.name g ≡ c.args.self.now = grown-view q c.grow.new.self c.self.inside.log (made c) c.self.inside.tenant c.self.inside.name ∙ c.self.view_is in
    let ok : OnOk c.exchange.result (c.exchange.new.self ≡ told g k wide) = then-ok c.exchange.result c.exchange.ensures.ok (λ e. e ∙ ap (λ (ls : List Line). let t : TreeView = record g.tree { broadcasts = g.tree.broadcasts ++ broadcast (exports_from g.tree.volume ls 0 (places_of g.tree.places)) ∷ []; places = marked g.tree.volume (length ls) g.tree.places; ran = 0 } in t) c.log.ensures) in
    then-ok c.exchange.result ok (λ e. ap (λ (t : TreeView). viewed c.self.inside.tenant c.self.inside.name (record g { tree = t })) e ∙ (exchange-view g k wide c.self.inside.tenant c.self.inside.name ∙ ap (λ (v : JobView). and_own v Exchanged) same))

pub returns-clause-err : goal.returns-clause-err
returns-clause-err c =
    let q : Parts = record { asked = c.self.inside.questions; tree = c.self.inside.tree; log = c.self.inside.log } in
    let g : Parts = record { asked = c.self.inside.questions; tree = c.grow.new.self; log = c.self.inside.log } in
    let same : viewed c.self.inside.tenant c.self.inside.name g ≡ c.args.self.now = grown-view q c.grow.new.self c.self.inside.log (made c) c.self.inside.tenant c.self.inside.name ∙ c.self.view_is in
    then-err c.exchange.result c.exchange.ensures.err (λ e. ap (λ (t : TreeView). viewed c.self.inside.tenant c.self.inside.name (record g { tree = t })) e ∙ same)
