-- what crates above cite
pub mod Far
pub mod RankLemmas
