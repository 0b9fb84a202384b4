use Rattle.std.proofs.Common.{◌≡◌, ◌+◌, ◌-◌, length, arith}
use Rattle.spec_job.specs.Journal.{loads_in, imports_in}
use Rattle.mal_suspend.specs.Entries.{entries_of}
use Rattle.mal_suspend.proofs.EntryLemmas.{loads-imports}
use Rattle.mal_suspend.proofs.listed.Listed.imports.Goals as goal

pub overflow_sub-result : goal.overflow_sub-result
overflow_sub-result c =
    let all : loads_in (entries_of c.self.inside.counted.items) + imports_in (entries_of c.self.inside.counted.items) ≡ length c.self.inside.counted.items = loads-imports c.self.inside.counted.items in
    omega (arith, all, c.self.invariant.are_loads, c.len.ensures)

pub returns : goal.returns
returns c =
    let all : loads_in (entries_of c.self.inside.counted.items) + imports_in (entries_of c.self.inside.counted.items) ≡ length c.self.inside.counted.items = loads-imports c.self.inside.counted.items in
    let rest : c.len.result - c.self.inside.loads ≡ imports_in (entries_of c.self.inside.counted.items) = omega (arith, all, c.self.invariant.are_loads, c.len.ensures) in
    rw (← c.self.view_is) rest
