use Rattle.std.specs.Prelude.{◌≡◌, ◌≢◌, ℕ, ◌+◌, ◌≤◌, Bool, not, ◌==◌, if◌then◌else◌, List, [], ◌∷◌, length, take, drop, map, sum_by}
use Rattle.std.specs.List.{list_any}
use Rattle.mal_base.specs.NumberedClause.{NumberedClause}
use Rattle.mal_store.specs.declared.clause_arena.Header.{Header}
use Rattle.mal_store.specs.declared.clause_arena.Body.{Body}
use Rattle.mal_store.specs.declared.clause_arena.Body.TheVariants.{Three, Listed}

-- clauses in the order in which they came, and how many clauses and literals there is room for
pub record Arena : Type 0 where
  pub clauses : List NumberedClause
  pub clause_room : ℕ
  pub literal_room : ℕ

-- no clause
abbrev pub no_clause : NumberedClause
no_clause = record { id = 0; lits = [] }

-- a clause stays where these numbers go
abbrev pub is_left : List ℕ → NumberedClause → Bool
is_left ids c = not (list_any (λ i. i == c.id) ids)

-- the literals of a clause: its three, or so many from a place on
abbrev pub lits_in : List ℕ → Body → List ℕ
lits_in literals (Three lits) = lits
lits_in literals (Listed start len search_start) = take len (drop start literals)

-- the clause of a header
abbrev pub clause_in : List ℕ → Header → NumberedClause
clause_in literals r = record { id = r.id; lits = lits_in literals r.body }

-- the clauses of the headers
abbrev pub clauses_in : List ℕ → List Header → List NumberedClause
clauses_in literals headers = map (clause_in literals) headers

-- so many literals have those of a clause among them
abbrev pub IsBody : ℕ → Body → Type 0
IsBody count (Three lits) = Unit {0}
IsBody count (Listed start len search_start) = start + len ≤ count

-- and those of each header
abbrev pub AreHeaders : ℕ → List Header → Type 0
AreHeaders count [] = Unit {0}
AreHeaders count (r ∷ rs) = IsBody count r.body × AreHeaders count rs

-- the literals of a clause stand from a place on, and what is after them begins there
abbrev pub IsFrom : ℕ → Body → Type 0
IsFrom low (Three lits) = Unit {0}
IsFrom low (Listed start len search_start) = low ≤ start

abbrev pub end_of : ℕ → Body → ℕ
end_of low (Three lits) = low
end_of low (Listed start len search_start) = start + len

-- the literals of headers stand from one place to another, those of each after those of the ones before
abbrev pub AreLaid : ℕ → ℕ → List Header → Type 0
AreLaid low high [] = low ≤ high
AreLaid low high (r ∷ rs) = IsFrom low r.body × AreLaid (end_of low r.body) high rs

-- how many literals of clauses stand in the list of all: those of each clause, unless they are three
abbrev pub listed : List ℕ → ℕ
listed lits = if length lits == 3 then 0 else length lits

abbrev pub listed_len : NumberedClause → ℕ
listed_len c = listed c.lits

abbrev pub listed_count : List NumberedClause → ℕ
listed_count clauses = sum_by listed_len clauses

-- how many literals of a header stand there
abbrev pub len_of : Body → ℕ
len_of (Three lits) = 0
len_of (Listed start len search_start) = len

-- a header has three literals exactly where they do not stand there
abbrev pub IsFit : Body → Type 0
IsFit (Three lits) = length lits ≡ 3
IsFit (Listed start len search_start) = len ≢ 3

abbrev pub AreFit : List Header → Type 0
AreFit [] = Unit {0}
AreFit (r ∷ rs) = IsFit r.body × AreFit rs
