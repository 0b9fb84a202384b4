use Rattle.std.proofs.Common.{◌≡◌, ℕ, ◌%◌, List, [], ◌∷◌, ◌++◌, true, false, length, map, sym, ◌∙◌, ap}
use Rattle.std.proofs.lemmas.List.{append-nil}
use Rattle.mal_base.specs.NumberedClause.{NumberedClause}
use Rattle.spec_job.specs.SoloMachine.{NodeSlot}
use Rattle.mal_job.specs.Viewed.{place_of}
use Rattle.spec_job.specs.OnePass.{awaits}
use Rattle.mal_job.proofs.TakenLemmas.{taken-none, taken-one, rising-at}
use Rattle.mal_job.proofs.exchange.push_taken.Goals as goal

pub returns-then-not-awaits : goal.returns-then-not-awaits
returns-then-not-awaits c =
    let ps : List NodeSlot = map place_of c.args.places.now in
    let volume : ℕ = length c.args.places.now in
    let due : awaits volume ps (c.id-id.result % 64) c.args.n ≡ false = ap (λ (i : ℕ). awaits volume ps i c.args.n) (sym c.node_of.ensures) ∙ sym c.if-not-awaits.ensures in
    sym (append-nil c.args.entries.now.items) ∙ ap (λ (es : List NumberedClause). c.args.entries.now.items ++ es) (sym (taken-none volume ps c.args.n c.args.n c.id-id.result c.args.log.now.lines c.requires.within c.id-id.ensures due))

pub returns-then-not-may_export : goal.returns-then-not-may_export
returns-then-not-may_export c =
    let ps : List NodeSlot = map place_of c.args.places.now in
    let volume : ℕ = length c.args.places.now in
    let due : awaits volume ps (c.id-id.result % 64) c.args.n ≡ true = ap (λ (i : ℕ). awaits volume ps i c.args.n) (sym c.node_of.ensures) ∙ sym c.if-not-awaits.ensures in
    sym (append-nil c.args.entries.now.items) ∙ ap (λ (es : List NumberedClause). c.args.entries.now.items ++ es) (sym (taken-one volume ps c.args.n c.args.n c.id-id.result c.args.log.now.lines c.lits-lits.result.now true false c.requires.within c.id-id.ensures c.lits-lits.ensures due (sym c.if-not-may_export.ensures)))

pub clause_of-requires : goal.clause_of-requires
clause_of-requires c = rising-at c.args.n c.args.log.now.lines c.lits-lits.result.now c.requires.within c.lits-lits.ensures c.requires.rising

pub returns : goal.returns
returns c =
    let ps : List NodeSlot = map place_of c.args.places.now in
    let volume : ℕ = length c.args.places.now in
    let due : awaits volume ps (c.id-id.result % 64) c.args.n ≡ true = ap (λ (i : ℕ). awaits volume ps i c.args.n) (sym c.node_of.ensures) ∙ sym c.if-not-awaits.ensures in
    let taken = taken-one volume ps c.args.n c.args.n c.id-id.result c.args.log.now.lines c.lits-lits.result.now true true c.requires.within c.id-id.ensures c.lits-lits.ensures due (sym c.if-not-may_export.ensures) in
    let clause : c.new.result ≡ record { id = c.id-id.result; lits = c.lits-lits.result.now } = c.new.ensures ∙ ap (λ (xs : List ℕ). let e : NumberedClause = record { id = c.id-id.result; lits = xs } in e) c.in_ok-clause.ensures in
    c.in_ok-push.ensures.items ∙ (ap (λ (e : NumberedClause). c.args.entries.now.items ++ e ∷ []) clause ∙ ap (λ (es : List NumberedClause). c.args.entries.now.items ++ es) (sym taken))
