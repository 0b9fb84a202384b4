-- What a log keeps.
use Rattle.std.proofs.Common.{◌≡◌, ◌≢◌, ℕ, ◌+◌, ◌-◌, ◌<◌, ◌≤◌, ◌^◌, Bool, List, [], ◌∷◌, ◌++◌, length, append_assoc, length-append, sym, ◌∙◌, subst, ap, arith}
use Rattle.std.specs.Prelude.{All, flat_map}
use Rattle.std.proofs.lemmas.List.{flat_map_more}
use Rattle.mal_base.specs.NumberedClause.{Line}
use Rattle.mal_base.specs.Lined.{Lined}
use Rattle.spec_proof.specs.Log.{IsAbove, IsOrderly}
use Rattle.spec_proof.proofs.OrderLemmas.{orderly-push}
use Rattle.mal_proof.specs.declared.chunk.Chunk.{Chunk}
use Rattle.mal_proof.specs.Logged.{lines_in, AreCounted, LogInvariant}

-- a line put after those of the last chunk stands after all
pub lines-push : (full : List Chunk) (last now : Lined) (line : Line) → now.lines ≡ last.lines ++ line ∷ [] → lines_in full now ≡ lines_in full last ++ line ∷ []
lines-push full last now line e = ap (λ (ls : List Line). flat_map (λ chunk. chunk.lines.lines) full ++ ls) e ∙ sym (append_assoc (flat_map (λ chunk. chunk.lines.lines) full) last.lines (line ∷ []))

pub kept-push : (full : List Chunk) (last now : Lined) (count room number_room : ℕ) (line : Line) → LogInvariant full last count room number_room
    → 1 ≤ room → length line.lits + length line.hints ≤ number_room → All (λ other. other.id ≢ line.id) (lines_in full last) → IsAbove line
    → now.lines ≡ last.lines ++ line ∷ [] → now.room + 1 ≡ last.room → now.lit_room + length line.lits ≡ last.lit_room → now.hint_room + length line.hints ≡ last.hint_room
    → LogInvariant full now (count + 1) (room - 1) (number_room - (length line.lits + length line.hints))
kept-push full last now count room number_room line is some numbers fresh above e a b c =
    let all : lines_in full now ≡ lines_in full last ++ line ∷ [] = lines-push full last now line e in
    let one = is.line_room in
    let two = is.lit_room in
    let three = is.hint_room in
    let four = is.countable in
    record {
      orderly = subst IsOrderly (sym all) (orderly-push (lines_in full last) line is.orderly fresh above);
      counted = let old = is.counted in let longer : length (lines_in full now) ≡ length (lines_in full last) + 1 = ap (λ (ls : List Line). length ls) all ∙ length-append (lines_in full last) (line ∷ []) in omega arith;
      ends = is.ends;
      countable = omega arith;
      line_room = omega arith;
      lit_room = omega arith;
      hint_room = omega arith;
    }

-- one chunk more, which knows how many lines there are up to its end
counted-push : (before : ℕ) (chunks : List Chunk) (chunk : Chunk) → AreCounted before chunks → chunk.end ≡ before + length (lines_in chunks chunk.lines) → AreCounted before (chunks ++ chunk ∷ [])
counted-push before [] chunk is e = (e, tt)
counted-push before (x ∷ xs) chunk is e =
    let front : length (lines_in (x ∷ xs) chunk.lines) ≡ length x.lines.lines + length (lines_in xs chunk.lines) = ap (λ (ls : List Line). length ls) (append_assoc x.lines.lines (flat_map (λ c. c.lines.lines) xs) chunk.lines.lines) ∙ length-append x.lines.lines (lines_in xs chunk.lines) in
    let here : x.end ≡ before + length x.lines.lines = is.0 in
    let rest : chunk.end ≡ x.end + length (lines_in xs chunk.lines) = omega (arith, front, here, e) in
    (is.0, counted-push x.end xs chunk is.1 rest)

lines-pushed : (full : List Chunk) (chunk : Chunk) (now : Lined) → lines_in (full ++ chunk ∷ []) now ≡ lines_in full chunk.lines ++ now.lines
lines-pushed full chunk now = ap (λ (ls : List Line). ls ++ now.lines) (sym (flat_map_more (λ (c : Chunk). c.lines.lines) [] full chunk))

-- the last chunk becomes one of those before it, and a new one stands last
pub kept-chunk : (full items : List Chunk) (last moved now : Lined) (count room number_room more_count more_room more_numbers : ℕ) (mark : Bool) → LogInvariant full last count room number_room
    → moved ≡ last → items ≡ full ++ record { lines = moved; end = count; ends = mark } ∷ [] → IsOrderly (lines_in full last ++ now.lines) → more_count ≡ count + length now.lines
    → more_count + more_room < 2 ^ 64 → more_room ≤ now.room → more_numbers ≤ now.lit_room → more_numbers ≤ now.hint_room
    → LogInvariant items now more_count more_room more_numbers
kept-chunk full items last moved now count room number_room more_count more_room more_numbers mark is same pushed orderly counted countable a b d =
    let chunk : Chunk = record { lines = moved; end = count; ends = mark } in
    let all : lines_in items now ≡ lines_in full last ++ now.lines =
    ap (λ (cs : List Chunk). lines_in cs now) pushed ∙ (lines-pushed full chunk now ∙ ap (λ (l : Lined). lines_in full l ++ now.lines) same) in
    let whole : count ≡ 0 + length (lines_in full moved) = let old = is.counted in let moves : length (lines_in full moved) ≡ length (lines_in full last) = ap (λ (l : Lined). length (lines_in full l)) same in omega (arith, old, moves) in
    record {
      orderly = subst IsOrderly (sym all) orderly;
      counted = let old = is.counted in let longer : length (lines_in items now) ≡ length (lines_in full last) + length now.lines = ap (λ (ls : List Line). length ls) all ∙ length-append (lines_in full last) now.lines in omega (arith, counted, old, longer);
      ends = subst (AreCounted 0) (sym pushed) (counted-push 0 full chunk is.ends whole);
      countable = countable;
      line_room = a;
      lit_room = b;
      hint_room = d;
    }
