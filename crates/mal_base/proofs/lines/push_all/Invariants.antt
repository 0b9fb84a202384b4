use Rattle.std.proofs.Common.{◌≡◌, ◌+◌, ◌++◌, take, vec_len, vec_capacity}
use Rattle.mal_base.proofs.lines.push_all.Given as goal

abbrev pub invariant-loop-item : goal.invariant-loop-item
invariant-loop-item g l = record { items : l.all.items ≡ l.fn.all.items ++ take l.item-index l.more; len : vec_len l.all ≡ vec_len l.fn.all + l.item-index; capacity : vec_capacity l.all ≡ vec_capacity l.fn.all }
