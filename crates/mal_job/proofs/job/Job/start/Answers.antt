use Rattle.std.proofs.Common.{◌≡◌, ℕ, List, length, ◌∙◌, ap, arith}
use Rattle.mal_base.specs.declared.answer.Answer.{Answer}
use Rattle.mal_suspend.specs.Starting.{shared_loads}
use Rattle.mal_job.specs.Loads.{lacking}
use Rattle.mal_job.specs.Viewed.{Parts}
use Rattle.mal_job.proofs.PartLemmas.{HasGrown, grown-view, grown-kept, on-err}
use Rattle.mal_job.proofs.StartLemmas.{HasSent, ready-early, ready-home, ready-replays, start-sent}
use Rattle.mal_job.proofs.job.Job.start.Goals as goal
use Rattle.mal_job.proofs.job.Job.start.Goals.{After-start}

pub invariant_of-self-in_err-reserve : goal.invariant_of-self-in_err-reserve
invariant_of-self-in_err-reserve c =
    let q : Parts = record { asked = c.self.inside.questions; tree = c.self.inside.tree; log = c.self.inside.log } in
    grown-kept q c.grow.new.self c.reserve.new.self (record { places = c.in_ok-grow.ensures.places; rest = c.in_ok-grow.ensures.rest; tree = c.in_ok-grow.ensures.kept; lines = c.in_err-reserve.ensures.lines; slices = c.in_err-reserve.ensures.slices; room = c.in_err-reserve.ensures.more }) c.self.invariant

pub returns-in_err-reserve-clause-err : goal.returns-in_err-reserve-clause-err
returns-in_err-reserve-clause-err c =
    let q : Parts = record { asked = c.self.inside.questions; tree = c.self.inside.tree; log = c.self.inside.log } in
    let g : HasGrown q c.grow.new.self c.reserve.new.self = record { places = c.in_ok-grow.ensures.places; rest = c.in_ok-grow.ensures.rest; tree = c.in_ok-grow.ensures.kept; lines = c.in_err-reserve.ensures.lines; slices = c.in_err-reserve.ensures.slices; room = c.in_err-reserve.ensures.more } in
    on-err c.from_residual-in_err-reserve.result (grown-view q c.grow.new.self c.reserve.new.self g c.self.inside.tenant c.self.inside.name ∙ c.self.view_is)

pub invariant_of-self-in_err-loads : goal.invariant_of-self-in_err-loads
invariant_of-self-in_err-loads c = grown-kept (record { asked = c.self.inside.questions; tree = c.self.inside.tree; log = c.self.inside.log }) c.grow.new.self c.reserve.new.self (record { places = c.in_ok-grow.ensures.places; rest = c.in_ok-grow.ensures.rest; tree = c.in_ok-grow.ensures.kept; lines = c.in_ok-reserve.ensures.lines; slices = c.in_ok-reserve.ensures.slices; room = c.in_ok-reserve.ensures.more }) c.self.invariant

pub returns-in_err-loads-clause-err : goal.returns-in_err-loads-clause-err
returns-in_err-loads-clause-err c = on-err c.from_residual-in_err-loads.result (grown-view (record { asked = c.self.inside.questions; tree = c.self.inside.tree; log = c.self.inside.log }) c.grow.new.self c.reserve.new.self (record { places = c.in_ok-grow.ensures.places; rest = c.in_ok-grow.ensures.rest; tree = c.in_ok-grow.ensures.kept; lines = c.in_ok-reserve.ensures.lines; slices = c.in_ok-reserve.ensures.slices; room = c.in_ok-reserve.ensures.more }) c.self.inside.tenant c.self.inside.name ∙ c.self.view_is)

pub missing_loads-requires-clause-early : goal.missing_loads-requires-clause-early
missing_loads-requires-clause-early c = omega (arith, c.loads.ensures, ready-early c.self.inside.tenant c.self.inside.name c.args.self.now (record { asked = c.self.inside.questions; tree = c.self.inside.tree; log = c.self.inside.log }) c.args.index c.grow.new.self c.reserve.new.self (record { places = c.in_ok-grow.ensures.places; rest = c.in_ok-grow.ensures.rest; tree = c.in_ok-grow.ensures.kept; lines = c.in_ok-reserve.ensures.lines; slices = c.in_ok-reserve.ensures.slices; room = c.in_ok-reserve.ensures.more }) c.self.invariant c.self.view_is c.requires (omega (arith, c.in_ok-grow.ensures.enough)))

pub start-requires-clause-home : goal.start-requires-clause-home
start-requires-clause-home c = ready-home c.self.inside.tenant c.self.inside.name c.args.self.now (record { asked = c.self.inside.questions; tree = c.self.inside.tree; log = c.self.inside.log }) c.args.index c.grow.new.self c.reserve.new.self (record { places = c.in_ok-grow.ensures.places; rest = c.in_ok-grow.ensures.rest; tree = c.in_ok-grow.ensures.kept; lines = c.in_ok-reserve.ensures.lines; slices = c.in_ok-reserve.ensures.slices; room = c.in_ok-reserve.ensures.more }) c.self.invariant c.self.view_is c.requires (omega (arith, c.in_ok-grow.ensures.enough))

pub start-requires-clause-replays : goal.start-requires-clause-replays
start-requires-clause-replays c =
    let loads = c.in_ok-loads.ensures ∙ ap (λ (n : ℕ). lacking n c.self.inside.questions) c.loads.ensures in
    ready-replays c.self.inside.tenant c.self.inside.name c.args.self.now (record { asked = c.self.inside.questions; tree = c.self.inside.tree; log = c.self.inside.log }) c.args.index c.grow.new.self c.reserve.new.self (record { places = c.in_ok-grow.ensures.places; rest = c.in_ok-grow.ensures.rest; tree = c.in_ok-grow.ensures.kept; lines = c.in_ok-reserve.ensures.lines; slices = c.in_ok-reserve.ensures.slices; room = c.in_ok-reserve.ensures.more }) c.self.invariant c.self.view_is c.requires (omega (arith, c.in_ok-grow.ensures.enough)) (shared_loads c.in_ok-loads.loads.items) loads

away : (c : After-start) → HasSent c.self.inside.tenant c.self.inside.name c.args.self.now c.args.index c.args.start c.args.worker (record { asked = c.self.inside.questions; tree = c.start.new.self; log = c.reserve.new.self }) c.start.result
away c =
    let loads = c.in_ok-loads.ensures ∙ ap (λ (n : ℕ). lacking n c.self.inside.questions) c.loads.ensures in
    let current : length c.answers-current.result.now ≡ length c.self.inside.questions.answers = ap (λ (xs : List Answer). length xs) c.answers-current.ensures.value in
    start-sent c.self.inside.tenant c.self.inside.name c.args.self.now (record { asked = c.self.inside.questions; tree = c.self.inside.tree; log = c.self.inside.log }) c.args.index c.grow.new.self c.reserve.new.self (record { places = c.in_ok-grow.ensures.places; rest = c.in_ok-grow.ensures.rest; tree = c.in_ok-grow.ensures.kept; lines = c.in_ok-reserve.ensures.lines; slices = c.in_ok-reserve.ensures.slices; room = c.in_ok-reserve.ensures.more }) c.self.invariant c.self.view_is c.requires (omega (arith, c.in_ok-grow.ensures.enough)) c.args.start c.args.worker (shared_loads c.in_ok-loads.loads.items) (length c.answers-current.result.now) c.start.new.self c.start.result loads current (omega (arith, c.starts_out.ensures.value, c.in_ok-reserve.ensures.room)) c.start.ensures.ok c.start.ensures.err c.start.ensures.kept c.start.ensures.journal c.start.ensures.adds c.start.ensures.worker

pub invariant_of-self-2 : goal.invariant_of-self-2
invariant_of-self-2 c = (away c).kept

pub returns-clause-ok : goal.returns-clause-ok
returns-clause-ok c = (away c).ok

pub returns-clause-lease : goal.returns-clause-lease
returns-clause-lease c = (away c).lease

pub returns-clause-err : goal.returns-clause-err
returns-clause-err c = (away c).err
