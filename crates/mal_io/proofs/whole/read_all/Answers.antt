use Rattle.std.proofs.Common.{◌≡◌, ◌+◌, ◌≤◌, ℕ, ◌++◌, length, take, arith, length-append, length-take, refl}
use Rattle.mal_io.proofs.Gains.{takes_more}
use Rattle.mal_io.proofs.whole.read_all.Goals as goal

pub returns-then-len-count-clause-taken : goal.returns-then-len-count-clause-taken
returns-then-len-count-clause-taken g c =
    let piece = take c.in-Ok.count c.take.new.into in
    let all = takes_more _ _ _ c.pieces.out.items piece c.pieces.invariant.taken c.in-Ok.ensures.bytes.0 in
    let bound = c.in-Ok.ensures.bound.0 in
    let whole : length (c.pieces.out.items ++ piece) ≡ c.args.max + 1 =
    omega (arith, bound, length-append c.pieces.out.items piece, length-take {A = ℕ}) in
    (c.pieces.out.items ++ piece, record { consumed = all; bounded = omega (arith, whole); exact = (λ _. whole, λ _. refl) })

pub returns-then-is_err-clause-taken : goal.returns-then-is_err-clause-taken
returns-then-is_err-clause-taken g c =
    let piece = take c.in-Ok.count c.take.new.into in
    let all = takes_more _ _ _ c.pieces.out.items piece c.pieces.invariant.taken c.in-Ok.ensures.bytes.0 in
    let bound = c.in-Ok.ensures.bound.0 in
    let short : length (c.pieces.out.items ++ piece) ≤ c.args.max =
    omega (arith, bound, length-append c.pieces.out.items piece, length-take {A = ℕ}) in
    (c.pieces.out.items ++ piece, record { consumed = all; bounded = omega (arith, short); exact = (λ p. cc, λ p. absurd (omega arith)) })
