use Rattle.std.proofs.Common.{◌≡◌, ◌≤◌, ◌^◌, true, take}
use Rattle.std.specs.List.{list_all}
use Rattle.spec_text.specs.Numbers.{is_digit, value_of}
use Rattle.mal_lrat.proofs.reading.plain_number.Given as goal

abbrev pub invariant-loop-index : goal.invariant-loop-index
invariant-loop-index l =
    (list_all is_digit (take l.index l.line) ≡ true)
    × (l.value ≡ value_of (take l.index l.line))
    × (l.value ≤ 2 ^ 62)
    × (l.index ≡ 0 → l.value ≡ 0)
