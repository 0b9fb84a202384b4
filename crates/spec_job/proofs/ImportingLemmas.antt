-- What is told to a node that the log knows: clauses of lines of the log. A node that has loaded its revisions may
-- import them.
use Rattle.std.proofs.Common.{◌≡◌, ℕ, ◌<◌, ◌≤◌, ◌^◌, true, not, List, [], ◌∷◌, map, fold, Some, None, sym, ◌∙◌, subst, arith}
use Rattle.std.specs.Prelude.{All}
use Rattle.std.proofs.lemmas.Bool.{le-leb}
use Rattle.std.proofs.lemmas.List.Elements.{All-head, All-tail, All-weaker, All-contains}
use Rattle.mal_base.specs.NumberedClause.{NumberedClause, Line}
use Rattle.mal_base.specs.declared.verdict.Verdict.TheVariants.{Satisfiable}
use Rattle.mal_revision.specs.Posted.{Posted}
use Rattle.spec_node.specs.State.{Node}
use Rattle.spec_node.specs.Load.{is_derived}
use Rattle.spec_node.specs.Import.{has_lits, taken, serial_above, imported}
use Rattle.spec_node.specs.Sound.{AreLiteralsOf}
use Rattle.spec_node.specs.Laws.{HaveOwnNumbers, MayImport}
use Rattle.spec_node.proofs.ImportLemmas.{All-with_clauses, All-passed, serial-least, by-taking, import-keeps_sound, import-holds}
use Rattle.spec_search.specs.Slice.{Sliced}
use Rattle.spec_proof.specs.Log.{IsAbove, AreApart}
use Rattle.spec_proof.specs.Among.{Among}
use Rattle.spec_proof.proofs.Among.{of-all}
use Rattle.spec_job.specs.Journal.{Import, after_entry}
use Rattle.spec_job.specs.Models.{variables_of}
use Rattle.spec_job.proofs.LoadedLemmas.{HasLoaded}
use Rattle.spec_job.proofs.ReachedLemmas.{lits-found}
use Rattle.spec_search.specs.Covering.{IsOfLine}
use Rattle.spec_job.proofs.TrackedLemmas.{IsLogged}

-- clauses that are told: each is the clause of a line of the log, and no two have one number
pub record IsSaid (log : List Line) (told : List NumberedClause) : Type 0 where
  pub lines : All (IsOfLine log) told
  pub apart : HaveOwnNumbers told

-- the literals of each line are of these variables
abbrev pub AreWithin : ℕ → List Line → Type 0
AreWithin variables log = (line : Line) → Among line log → AreLiteralsOf variables line.lits

-- what a log has that may be told: numbers of derived clauses, each once, and literals of these variables
pub record IsTellable (variables : ℕ) (log : List Line) : Type 0 where
  pub apart : AreApart log
  pub above : All IsAbove log
  pub within : AreWithin variables log

-- one number names one line
pub told-same : (log : List Line) → AreApart log → (c d : NumberedClause) → IsOfLine log c → IsOfLine log d → c.id ≡ d.id → c.lits ≡ d.lits
told-same log apart c d (x, a, i, l) (y, b, j, m) e = sym l ∙ (sym (lits-found log apart d.id x a (i ∙ e)) ∙ (lits-found log apart d.id y b j ∙ m))

of-derived : (log : List Line) → All IsAbove log → (c : NumberedClause) → IsOfLine log c → 2 ^ 32 ≤ c.id
of-derived log above c (line, m, i, l) = let high : 2 ^ 32 ≤ line.id = (of-all IsAbove log line above m).derived in omega arith

of-within : (variables : ℕ) (log : List Line) → AreWithin variables log → (c : NumberedClause) → IsOfLine log c → AreLiteralsOf variables c.lits
of-within variables log within c (line, m, i, l) = subst (λ (lits : List ℕ). AreLiteralsOf variables lits) l (within line m)

pub may-import : (log : List Line) (i : ℕ) (told : List NumberedClause) (n : Node) → IsTellable n.variables log → IsLogged log i n → IsSaid log told → MayImport told n
may-import log i told n may logged said = record {
  derived = All-weaker (IsOfLine log) (λ c. is_derived c ≡ true) (λ c k. le-leb (2 ^ 32) c.id (of-derived log may.above c k)) told said.lines;
  within = All-weaker (IsOfLine log) (λ c. AreLiteralsOf n.variables c.lits) (of-within n.variables log may.within) told said.lines;
  apart = said.apart;
  agree = λ c d m k e.
      let line : IsOfLine log c = All-contains (IsOfLine log) told c said.lines m in
      let high : 2 ^ 32 ≤ c.id = of-derived log may.above c line in
      told-same log may.apart c d line (All-contains (λ x. 2 ^ 32 ≤ x.id → IsOfLine log x) n.clauses d logged.held k (omega arith)) e;
}

-- a node that is ready for a slice: it has loaded these revisions, the log knows it, and no verdict stands
pub record IsPrepared (revisions : List Posted) (log : List Line) (i : ℕ) (n : Node) : Type 0 where
  pub loaded : HasLoaded revisions n
  pub logged : IsLogged log i n
  pub calm : n.verdict ≡ None

imported-loaded : (revisions : List Posted) (told : List NumberedClause) (n : Node) → n.verdict ≡ None → MayImport told n → HasLoaded revisions n → HasLoaded revisions (imported told n)
imported-loaded revisions told n calm may h = record {
  sound = import-keeps_sound told n may h.sound;
  variables = import-holds.variables told n ∙ h.variables;
  model = λ v. absurd (let bad : None ≡ Some Satisfiable = sym calm ∙ (sym (import-holds.verdict told n) ∙ v) in cc);
  held = import-holds.originals told n may.derived ∙ h.held;
  assumed = import-holds.assumptions told n ∙ h.assumed;
}

imported-logged : (log : List Line) (i : ℕ) (told : List NumberedClause) (n : Node) → IsSaid log told → IsLogged log i n → IsLogged log i (imported told n)
imported-logged log i told n said h = by-taking (IsLogged log i) told n h (record {
  index = h.index;
  held = All-with_clauses (λ c. 2 ^ 32 ≤ c.id → IsOfLine log c) (taken told n.clauses) n.clauses (All-passed (λ c. 2 ^ 32 ≤ c.id → IsOfLine log c) (λ c. not (has_lits c.lits n.clauses)) told (All-weaker (IsOfLine log) (λ c. 2 ^ 32 ≤ c.id → IsOfLine log c) (λ c k high. k) told said.lines)) h.held;
  before = λ line k m q.
      let less : k < n.serial = h.before line k m q in
      let most : n.serial ≤ serial_above n.serial (taken told n.clauses) = serial-least n.serial (taken told n.clauses) in
      omega arith;
})

pub import-prepared : (revisions : List Posted) (log : List Line) (i : ℕ) (told : List NumberedClause) (n : Node) → IsTellable (variables_of revisions) log → IsSaid log told → IsPrepared revisions log i n → IsPrepared revisions log i (imported told n)
import-prepared revisions log i told n may said h = record {
  loaded = imported-loaded revisions told n h.calm (may-import log i told n (subst (λ (v : ℕ). IsTellable v log) (sym h.loaded.variables) may) h.logged said) h.loaded;
  logged = imported-logged log i told n said h.logged;
  calm = import-holds.verdict told n ∙ h.calm;
}

-- imports of all that is told, one after another
pub imports-prepared : (tolds : List (List NumberedClause)) (revisions : List Posted) (log : List Line) (i : ℕ) (s : Sliced) → IsTellable (variables_of revisions) log → All (IsSaid log) tolds → IsPrepared revisions log i s.node → IsPrepared revisions log i (fold after_entry s (map Import tolds)).node
imports-prepared [] revisions log i s may said h = h
imports-prepared (t ∷ ts) revisions log i s may said h = imports-prepared ts revisions log i (after_entry s (Import t)) may (All-tail (IsSaid log) t ts said) (import-prepared revisions log i t s.node may (All-head (IsSaid log) t ts said) h)

-- the clause of a line
abbrev pub clause_of : Line → NumberedClause
clause_of l = record { id = l.id; lits = l.lits }
