use Rattle.std.proofs.Common.{◌≤◌, arith}
use Rattle.mal_hall.proofs.Parts.{parts}
use Rattle.mal_hall.proofs.PhaseLemmas.{back-not, kept-is, kept-none, may-return, none-out, spot-is, spot-seat, spot-there, spot-within, strange-none, test-not, test-yes, zero-none}
use Rattle.mal_hall.proofs.hall.Hall.compare.Goals as goal

pub returns-then-worker-eq0-clause-strange : goal.returns-then-worker-eq0-clause-strange
returns-then-worker-eq0-clause-strange c = rw (← c.self.view_is) (strange-none _ c.args.back.now (zero-none _ c.args.back.now.worker _ c.self.invariant c.worker-worker.ensures c.if-worker-eq0.true))

pub returns-then-worker-eq0-clause-kept : goal.returns-then-worker-eq0-clause-kept
returns-then-worker-eq0-clause-kept c = rw (← c.self.view_is) (kept-none c.self.inside.entries.events c.args.back.now.worker (zero-none _ c.args.back.now.worker _ c.self.invariant c.worker-worker.ensures c.if-worker-eq0.true))

pub returns-in_default-clause-strange : goal.returns-in_default-clause-strange
returns-in_default-clause-strange c =
    let low : 1 ≤ c.worker-worker.result = omega (arith, c.if-worker-eq0.false) in
    let none = rw c.worker-worker.ensures at (none-out _ _ c.worker-worker.result _ c.self.invariant c.deref.ensures.value low c.spot_of.ensures c.in_default.is) in
    rw (← c.self.view_is) (strange-none _ c.args.back.now none)

pub returns-in_default-clause-kept : goal.returns-in_default-clause-kept
returns-in_default-clause-kept c =
    let low : 1 ≤ c.worker-worker.result = omega (arith, c.if-worker-eq0.false) in
    let none = rw c.worker-worker.ensures at (none-out _ _ c.worker-worker.result _ c.self.invariant c.deref.ensures.value low c.spot_of.ensures c.in_default.is) in
    rw (← c.self.view_is) (kept-none c.self.inside.entries.events c.args.back.now.worker none)

pub at-requires : goal.at-requires
at-requires c = omega (arith, spot-within (parts c.self.inside) c.in-Some.spot _ c.in-Some-place_of_number.at (rw c.job.ensures at c.place_of_number.ensures) c.in-Some-place_of_number.is)

pub unreachable-requires : goal.unreachable-requires
unreachable-requires c =
    let low : 1 ≤ c.worker-worker.result = omega (arith, c.if-worker-eq0.false) in
    let is = spot-is (parts c.self.inside) _ c.worker-worker.result _ c.in-Some.spot c.self.invariant c.deref.ensures.value low c.spot_of.ensures c.in-Some.is in
    spot-there (parts c.self.inside) _ c.in-Some.spot _ is (rw c.job.ensures at c.place_of_number.ensures) c.in_default-place_of_number.is

pub is_back-requires : goal.is_back-requires
is_back-requires c =
    let low : 1 ≤ c.worker-worker.result = omega (arith, c.if-worker-eq0.false) in
    let is = spot-is _ _ c.worker-worker.result _ c.in-Some.spot c.self.invariant c.deref.ensures.value low c.spot_of.ensures c.in-Some.is in
    omega (arith, c.index.ensures, is.low)

pub returns-then-not-is_back-clause-strange : goal.returns-then-not-is_back-clause-strange
returns-then-not-is_back-clause-strange c =
    let low : 1 ≤ c.worker-worker.result = omega (arith, c.if-worker-eq0.false) in
    let at = rw c.worker-worker.ensures at (spot-seat _ _ c.worker-worker.result _ c.in-Some.spot _ c.in-Some-place_of_number.at c.at.result.now c.self.invariant c.deref.ensures.value low c.spot_of.ensures c.in-Some.is (rw c.job.ensures at c.place_of_number.ensures) c.in-Some-place_of_number.is c.at.ensures) in
    rw (← c.self.view_is) (back-not _ c.in-Some.spot _ c.at.result.now c.args.back.now c.self.invariant at (test-not c.is_back.result (rw c.index.ensures at c.is_back.ensures) c.if-not-is_back.true))

pub returns-then-not-is_back-clause-kept : goal.returns-then-not-is_back-clause-kept
returns-then-not-is_back-clause-kept c =
    let low : 1 ≤ c.worker-worker.result = omega (arith, c.if-worker-eq0.false) in
    let at = rw c.worker-worker.ensures at (spot-seat _ _ c.worker-worker.result _ c.in-Some.spot _ c.in-Some-place_of_number.at c.at.result.now c.self.invariant c.deref.ensures.value low c.spot_of.ensures c.in-Some.is (rw c.job.ensures at c.place_of_number.ensures) c.in-Some-place_of_number.is c.at.ensures) in
    rw (← c.self.view_is, c.start.ensures) (kept-is _ c.in-Some.spot _ c.at.result.now c.args.back.now.worker c.self.invariant at)

pub returns-clause-ok : goal.returns-clause-ok
returns-clause-ok c =
    let low : 1 ≤ c.worker-worker.result = omega (arith, c.if-worker-eq0.false) in
    let at = rw c.worker-worker.ensures at (spot-seat _ _ c.worker-worker.result _ c.in-Some.spot _ c.in-Some-place_of_number.at c.at.result.now c.self.invariant c.deref.ensures.value low c.spot_of.ensures c.in-Some.is (rw c.job.ensures at c.place_of_number.ensures) c.in-Some-place_of_number.is c.at.ensures) in
    rw (← c.self.view_is) (may-return _ c.in-Some.spot _ c.at.result.now c.args.back.now c.self.invariant at (test-yes c.is_back.result (rw c.index.ensures at c.is_back.ensures) c.if-not-is_back.false))

pub returns-clause-worker : goal.returns-clause-worker
returns-clause-worker c = omega (arith, c.if-worker-eq0.false, c.worker-worker.ensures)
