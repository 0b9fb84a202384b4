-- what crates above cite
pub mod LubyLemmas
