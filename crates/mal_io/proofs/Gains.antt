-- Lemmas on what sinks gain, on what sources give, and on counts of faults.
use Rattle.std.proofs.Common.{◌≡◌, ℕ, List, ◌++◌, ◌∙◌, ap, sym, append_assoc, take, drop, take-append-drop}
use Rattle.std.proofs.KnownBytes.{Appends-trans, Consumes-trans}
use Rattle.std.specs.declared.option.Option.{Option}
use Rattle.std.specs.Io.KnownBytes.{Appends, Consumes}

-- two gains, one after the other
pub gains_more : (old mid new : Option (List ℕ)) (prefix rest : List ℕ) → Appends old mid prefix → Appends mid new rest → Appends old new (prefix ++ rest)
gains_more = Appends-trans

-- two pieces taken, one after the other
pub takes_more : (old mid new : Option (List ℕ)) (prefix rest : List ℕ) → Consumes old mid prefix → Consumes mid new rest → Consumes old new (prefix ++ rest)
takes_more = Consumes-trans

-- cutting a piece off what is left of a text moves it to the prefix that was seen
pub prefix_grows : (text prefix rest : List ℕ) (count : ℕ) → text ≡ prefix ++ rest → text ≡ (prefix ++ take count rest) ++ drop count rest
prefix_grows text prefix rest count split =
    split ∙ ap (λ (left : List ℕ). prefix ++ left) (sym (take-append-drop count rest)) ∙ sym (append_assoc prefix (take count rest) (drop count rest))
