use Rattle.std.proofs.Common.{sym, subst, arith}
use Rattle.spec_job.specs.Viewed.{JobView}
use Rattle.mal_parcel.specs.Owned.{owned}
use Rattle.mal_parcel.specs.Replaying.{IsToWake}
use Rattle.mal_parcel.proofs.CutLemmas.{always-cut, cut-whole, opened-replayed}
use Rattle.mal_parcel.proofs.unpacking.unpacked.Goals as goal

pub unreachable-requires : goal.unreachable-requires
unreachable-requires c =
    absurd (always-cut (record { tenant = c.args.tenant; job = c.args.job }) (owned c.args.own.now) c.args.bytes.now (omega arith) c.requires.spelled c.in_default.ensures)

pub replay-requires-clause-opened : goal.replay-requires-clause-opened
replay-requires-clause-opened c =
    let m = c.in-Some.machine in
    opened-replayed c.args.number (record { tenant = c.args.tenant; job = c.args.job }) (owned c.args.own.now) c.in_ok-made.made m.count m.nodes.now m.slices.now m.answers.now c.in_ok-made.ensures
    (cut-whole (record { tenant = c.args.tenant; job = c.args.job }) (owned c.args.own.now) c.requires.lawful c.requires.again m.count m.nodes.now m.slices.now m.answers.now c.args.bytes.now (omega arith) c.requires.spelled c.in-Some.ensures)

pub wake-requires : goal.wake-requires
wake-requires c =
    let m = c.in-Some.machine in
    subst (λ (v : JobView). IsToWake v.titled.state m.count m.nodes.now) (sym c.in_ok-replay.ensures)
    (cut-whole (record { tenant = c.args.tenant; job = c.args.job }) (owned c.args.own.now) c.requires.lawful c.requires.again m.count m.nodes.now m.slices.now m.answers.now c.args.bytes.now (omega arith) c.requires.spelled c.in-Some.ensures).to_wake
