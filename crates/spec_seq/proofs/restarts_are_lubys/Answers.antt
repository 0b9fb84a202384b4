use Rattle.spec_seq.proofs.LubyLemmas.{peaks, repeats}
use Rattle.spec_seq.proofs.restarts_are_lubys.Goals as goal

pub returns : goal.returns
returns c = record { peaks = peaks; repeats = repeats }
