use Rattle.spec_hall.proofs.RepliesLemmas.{job_replies-stay, replies}
use Rattle.spec_hall.proofs.job_replies_stay.Goals as goal

pub returns : goal.returns
returns c = record { stay = job_replies-stay; example = replies }
