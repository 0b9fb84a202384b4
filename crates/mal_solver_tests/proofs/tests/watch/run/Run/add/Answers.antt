use Rattle.std.proofs.Common.{◌≡◌, true}
use Rattle.mal_base.specs.Formulas.{is_within}
use Rattle.mal_solver_tests.proofs.RoomLemmas.{within-more, within-with}
use Rattle.mal_solver_tests.proofs.tests.watch.run.Run.add.Goals as goal

pub load-requires-clause-room : goal.load-requires-clause-room
load-requires-clause-room g c =
    let room = c.in_ok-reserve.ensures.room in
    let same : is_within 16 c.lits-lits.result.now ≡ true = rw c.lits-lits.ensures.value c.in_ok-check_new.ensures.few in
    record {
      within = within-more 16 _ c.lits-lits.result.now room.variables same;
      clauses = room.clauses;
      literals = room.literals;
    }

pub invariant_of-self-2 : goal.invariant_of-self-2
invariant_of-self-2 g c =
    let n = c.self.inside in
    let same : is_within 16 c.lits-lits.result.now ≡ true = rw c.lits-lits.ensures.value c.in_ok-check_new.ensures.few in
    let within = within-with n.trail.room (record { id = c.args.id; lits = c.lits-lits.result.now }) (g.E.ClauseView.clauses n.engine) (within-more 16 n.trail.room c.lits-lits.result.now c.self.invariant.0 same) c.self.invariant.1 in
    (c.self.invariant.0, rw (c.load.ensures.clauses, c.reserve.ensures.clauses) within, c.load.ensures.fits)
