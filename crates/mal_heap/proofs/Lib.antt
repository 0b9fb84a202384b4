mod RowLemmas
mod HeapLemmas
mod HeapedLemmas
