use Rattle.std.proofs.Common.{refl}
use Rattle.spec_seq.specs.Luby.{luby}
use Rattle.spec_learn.specs.Learning.{analysed_in}
use Rattle.spec_search.specs.Slice.{slice}
use Rattle.spec_job.specs.Exported.{HasUnexported}

pub unexported-known : HasUnexported
unfolding luby slice analysed_in
unexported-known = record { first = refl; other = refl; after = refl; while_out = refl }
