use Rattle.std.proofs.Common.{refl}
use Rattle.mal_base.specs.declared.hall_fault.OpenFault.TheVariants as opening
use Rattle.spec_hall.specs.Dressed.{keyed}
use Rattle.mal_inquiry.proofs.InquiryLemmas.{opening-wanted}
use Rattle.mal_inquiry.proofs.inquiry.open.Goals as goal

pub unreachable-requires : goal.unreachable-requires
unreachable-requires c = opening-wanted _ _ (keyed c.args.tenant c.args.job) c.args.ask opening.Duplicate _ c.requires.new (rw c.in-Err-Duplicate.field-0-is at c.in-Err-Duplicate.ensures.call) refl

pub unreachable-requires-in-Err-TenantFull : goal.unreachable-requires-in-Err-TenantFull
unreachable-requires-in-Err-TenantFull c = opening-wanted _ _ (keyed c.args.tenant c.args.job) c.args.ask opening.TenantFull _ c.requires.new (rw c.in-Err-TenantFull.field-0-is at c.in-Err-TenantFull.ensures.call) refl

pub unreachable-requires-in-Err-HallFull : goal.unreachable-requires-in-Err-HallFull
unreachable-requires-in-Err-HallFull c = opening-wanted _ _ (keyed c.args.tenant c.args.job) c.args.ask opening.HallFull _ c.requires.new (rw c.in-Err-HallFull.field-0-is at c.in-Err-HallFull.ensures.call) refl
