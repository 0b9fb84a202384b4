-- what this crate alone cites
mod KernelLemmas
mod SolverLemmas
