use Rattle.std.specs.Prelude.{◌≡◌, ℕ, ◌+◌, ◌*◌, ◌^◌, Bool, true, false, List, [], ◌∷◌, length, replicate, Option, Some, None}
use Rattle.mal_base.specs.NumberedClause.{NumberedClause, Line}
use Rattle.mal_base.specs.declared.trail_entry.TrailEntry.{TrailEntry}
use Rattle.mal_base.specs.declared.profile.Profile.TheVariants.{Lean}
use Rattle.mal_base.specs.declared.verdict.Verdict.TheVariants.{Unsatisfiable}
use Rattle.mal_revision.specs.Posted.{Posted}
use Rattle.spec_node.specs.State.{fresh_with}
use Rattle.spec_node.specs.Load.{counted}
use Rattle.spec_activity.specs.Activity.{one, grown}
use Rattle.spec_activity.specs.Pace.{at_first}
use Rattle.spec_guided.specs.State.{Mark, Guided, first_guide, fresh_guided}
use Rattle.spec_guided.specs.Glue.{glue}
use Rattle.spec_guided.specs.Reducing.{to_reduce}
use Rattle.spec_guided.specs.Deciding.{first_free, levels_kept}
use Rattle.spec_guided.specs.Step.{Unites, Reduces, Decides, case_of, next_line, step}
use Rattle.spec_guided.specs.Load.{loaded_guided}
use Rattle.spec_guided.specs.Slice.{Sliced, steps}

-- the clauses 1 2 3, 1 2 -3, 1 -2 4, 1 -2 -4, -1 2 3, -1 2 -3, -1 -2 4 and -1 -2 -4
abbrev pub eight : Posted
eight = record { variables = 4; clauses = Some (2 ∷ 4 ∷ 6 ∷ []) ∷ Some (2 ∷ 4 ∷ 7 ∷ []) ∷ Some (2 ∷ 5 ∷ 8 ∷ []) ∷ Some (2 ∷ 5 ∷ 9 ∷ []) ∷ Some (3 ∷ 4 ∷ 6 ∷ []) ∷ Some (3 ∷ 4 ∷ 7 ∷ []) ∷ Some (3 ∷ 5 ∷ 8 ∷ []) ∷ Some (3 ∷ 5 ∷ 9 ∷ []) ∷ []; assumptions = [] }

-- a clause of three literals
abbrev pub three : ℕ → ℕ → ℕ → Option (List ℕ)
three k l m = Some (k ∷ l ∷ m ∷ [])

-- clauses of three literals over seven variables, which nothing satisfies
abbrev pub many : List (Option (List ℕ))
many =
    three 2 9 15 ∷ three 5 10 12 ∷ three 11 13 14 ∷ three 2 7 12 ∷ three 2 7 15 ∷ three 3 6 12 ∷
    three 2 5 13 ∷ three 5 6 8 ∷ three 7 12 14 ∷ three 5 8 13 ∷ three 4 9 13 ∷ three 8 11 12 ∷
    three 2 9 15 ∷ three 8 10 12 ∷ three 3 6 15 ∷ three 2 5 9 ∷ three 4 11 13 ∷ three 3 13 15 ∷
    three 8 13 15 ∷ three 6 11 14 ∷ three 9 11 14 ∷ three 3 10 13 ∷ three 7 9 14 ∷ three 4 6 12 ∷
    three 4 6 11 ∷ three 3 9 11 ∷ three 6 8 10 ∷ three 7 8 10 ∷ three 8 11 14 ∷ three 2 8 15 ∷
    three 11 13 14 ∷ three 6 9 10 ∷ three 3 10 12 ∷ three 6 10 12 ∷ []

abbrev pub seven : Posted
seven = record { variables = 7; clauses = many; assumptions = [] }

-- so many steps of guided node 0 with a revision
abbrev pub begun : ℕ → Posted → Sliced
begun k r = steps k (loaded_guided r 1 (fresh_guided 0 Lean))

-- the number of the derived clause of node 0 with this serial
abbrev pub own_id : ℕ → ℕ
own_id serial = 2 ^ 32 + serial * 64

abbrev pub line : ℕ → List ℕ → List ℕ → Line
line serial lits hints = record { id = own_id serial; lits = lits; hints = hints }

-- a guided node of four variables at which nothing waits, on this trail, with these clauses, marks and scores
abbrev pub idle : List TrailEntry → List NumberedClause → List Mark → List ℕ → Guided
idle trail clauses marks scores = record {
  node = record (fresh_with 0 Lean) { variables = 4; serial = 9; processed = length trail + 1; phases = replicate 4 false; order = counted 1 4; trail = trail; clauses = clauses };
  guide = record first_guide { scores = scores; marks = marks; pace = record at_first { limit = 2 } };
}

abbrev pub entry : ℕ → Option ℕ → ℕ → TrailEntry
entry lit reason level = record { lit = lit; reason = reason; level = level }

abbrev pub clause : ℕ → List ℕ → NumberedClause
clause id lits = record { id = id; lits = lits }

abbrev pub mark : ℕ → Bool → ℕ → Mark
mark serial kept activity = record { id = own_id serial; kept = kept; activity = activity }

-- the clauses 1 and -1 2, and what they force at level 0
abbrev pub forced : Guided
forced = idle (entry 2 (Some 1) 0 ∷ entry 4 (Some 2) 0 ∷ []) (clause 1 (2 ∷ []) ∷ clause 2 (3 ∷ 4 ∷ []) ∷ []) [] (replicate 4 0)

-- four derived clauses of three literals, one of them kept for good, and one of two literals
abbrev pub five : Guided
five = idle [] (clause (own_id 0) (2 ∷ 4 ∷ 6 ∷ []) ∷ clause (own_id 1) (2 ∷ 4 ∷ 8 ∷ []) ∷ clause (own_id 2) (2 ∷ 6 ∷ 8 ∷ []) ∷ clause (own_id 3) (4 ∷ 6 ∷ 8 ∷ []) ∷ clause (own_id 4) (3 ∷ 5 ∷ []) ∷ []) (mark 0 false 30 ∷ mark 1 true 10 ∷ mark 2 false 20 ∷ mark 3 false 20 ∷ mark 4 false 0 ∷ []) (replicate 4 0)

-- decisions of 3 and then of 1, where 4 is next by score
abbrev pub decided : Guided
decided = idle (entry 7 None 1 ∷ entry 3 None 2 ∷ []) [] [] (1 ∷ 0 ∷ 9 ∷ 5 ∷ [])

-- worked examples of each piece: levels are counted once; a literal of level 0 gets a clause of its own, by the reasons of
-- the others and its own; of three clauses that may go the less active one goes, the later one of two that are alike; the
-- variable of the greatest score is next, and a restart keeps the decisions before it
pub record HasPieces : Type 0 where
  pub three_levels : glue (entry 2 (Some 1) 0 ∷ entry 4 None 1 ∷ entry 6 (Some 2) 1 ∷ entry 8 None 2 ∷ []) (3 ∷ 5 ∷ 7 ∷ 9 ∷ []) ≡ 3
  pub unites : case_of forced ≡ Unites (entry 4 (Some 2) 0)
  pub unit_line : next_line forced ≡ Some (line 9 (4 ∷ []) (1 ∷ 2 ∷ []))
  pub new_reason : (step forced).node.trail ≡ entry 2 (Some 1) 0 ∷ entry 4 (Some (own_id 9)) 0 ∷ []
  pub kept_for_good : (step forced).guide.marks ≡ mark 9 true 0 ∷ []
  pub then_decides : case_of (step forced) ≡ Decides 3
  pub reduces : case_of five ≡ Reduces
  pub less_active : to_reduce five ≡ own_id 3 ∷ []
  pub fewer_marks : (step five).guide.marks ≡ mark 0 false 30 ∷ mark 1 true 10 ∷ mark 2 false 20 ∷ mark 4 false 0 ∷ []
  pub greatest_score : first_free decided ≡ Some 4
  pub one_level : levels_kept decided 4 ≡ 1
  pub all_levels : levels_kept decided 2 ≡ 2

-- worked examples of a whole search: its lines, its verdict, and what guided it after the first conflict, in which the
-- variables 1, 2 and 3 were met
pub record HasExamples : Type 0 where
  pub lines : (begun 15 eight).lines ≡ line 0 (2 ∷ 4 ∷ []) (1 ∷ 2 ∷ []) ∷ line 1 (2 ∷ []) (own_id 0 ∷ 3 ∷ 4 ∷ []) ∷ line 2 (5 ∷ []) (own_id 1 ∷ 7 ∷ 8 ∷ []) ∷ line 3 [] (own_id 1 ∷ own_id 2 ∷ 5 ∷ 6 ∷ []) ∷ []
  pub verdict : (begun 15 eight).guided.node.verdict ≡ Some (Unsatisfiable (own_id 3))
  pub not_before : (begun 14 eight).guided.node.verdict ≡ None
  pub scores : (begun 6 eight).guided.guide.scores ≡ one ∷ one ∷ one ∷ 0 ∷ []
  pub gain : (begun 6 eight).guided.guide.gain ≡ grown one 19
  pub marks : (begun 6 eight).guided.guide.marks ≡ record { id = own_id 0; kept = true; activity = one } ∷ []

-- worked examples of a longer search, in which it restarts and derives a unit clause: its lines, in order, and its verdict
abbrev pub seven_lines : List Line
seven_lines =
    line 0 (4 ∷ 6 ∷ []) (24 ∷ 25 ∷ 11 ∷ 27 ∷ []) ∷
    line 1 (2 ∷ 4 ∷ []) (own_id 0 ∷ 4 ∷ 11 ∷ 17 ∷ 28 ∷ []) ∷
    line 2 (2 ∷ []) (own_id 1 ∷ 7 ∷ 16 ∷ 4 ∷ 8 ∷ []) ∷
    line 3 (5 ∷ 6 ∷ []) (own_id 2 ∷ 6 ∷ 8 ∷ 22 ∷ 26 ∷ []) ∷
    line 4 (5 ∷ 9 ∷ []) (own_id 2 ∷ own_id 3 ∷ 23 ∷ 26 ∷ 18 ∷ 2 ∷ []) ∷
    line 5 (5 ∷ []) (own_id 3 ∷ own_id 4 ∷ 10 ∷ 28 ∷ 12 ∷ []) ∷
    line 6 (6 ∷ []) (own_id 5 ∷ own_id 0 ∷ []) ∷
    line 7 (8 ∷ []) (own_id 5 ∷ own_id 6 ∷ 28 ∷ 12 ∷ 17 ∷ []) ∷
    line 8 [] (own_id 2 ∷ own_id 5 ∷ own_id 7 ∷ 11 ∷ 26 ∷ 33 ∷ []) ∷ []

pub record HasSearch : Type 0 where
  pub lines : (begun 48 seven).lines ≡ seven_lines
  pub verdict : (begun 48 seven).guided.node.verdict ≡ Some (Unsatisfiable (own_id 8))
  pub not_before : (begun 47 seven).guided.node.verdict ≡ None
