use Rattle.std.specs.Prelude.{◌≡◌, ◌<◌, ℕ, Bool, true, false, eqb, if◌then◌else◌, Some, None}
use Rattle.std.proofs.Common.{refl, sym, arith}
use Rattle.std.proofs.lemmas.Bool.{eqb-true, ne_eqb}
use Rattle.mal_watch.specs.Links.{nowhere, watch_of, code_of}

-- a link's code is that of its watch
pub code-back : (code : ℕ) → code_of (watch_of code) ≡ code
code-back code = by_test (eqb code nowhere) refl
  where
    by_test : (b : Bool) → eqb code nowhere ≡ b → code_of (if b then None else Some code) ≡ code
    by_test true e = sym (eqb-true code nowhere e)
    by_test false e = refl

-- a watch that is not the number of none is that of its own number
pub watch-some : (watch : ℕ) → watch < nowhere → watch_of watch ≡ Some watch
watch-some watch l = let other : eqb watch nowhere ≡ false = ne_eqb watch nowhere (λ e. omega arith) in rw other refl
