-- The laws of a script's words that those of a feed rest on.
use Rattle.spec_script.specs.Laws.{AskIsRead, WeightIsRead, RevisionIsRead}

pub record WordLaws : Type 0 where
  pub ask : AskIsRead
  pub weight : WeightIsRead
  pub revision : RevisionIsRead
