-- The grammar of accounts: which account a text spells.
use Rattle.std.specs.Prelude.{◌≡◌, ℕ, false, List, [], ◌∷◌, ◌++◌, codes}
use Rattle.std.specs.List.{list_any}
use Rattle.spec_dimacs.specs.Rows.{rows_of}
use Rattle.mal_base.specs.Limits.{limits}
use Rattle.spec_script.specs.Grammar as script
use Rattle.mal_history.specs.Grammar as history
use Rattle.mal_account.specs.Accounts.{Account, is_history_line}

-- a text spells an account: its lines are those of a text that spells the script, of which none is the line `history`,
-- that line, and those of a text that spells the history
pub record Spells (text : List ℕ) (a : Account) : Type 0 where
  pub first : List ℕ
  pub last : List ℕ
  pub rows : rows_of text ≡ rows_of first ++ (codes "history" ∷ []) ∷ rows_of last
  pub inside : list_any is_history_line (rows_of first) ≡ false
  pub script : script.Spells limits first a.script
  pub history : history.Spells last a.history
