mod FirstLemmas
mod GoingLemmas
