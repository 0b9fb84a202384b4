-- What is read is spelled so, and what is spelled so is read.
use Rattle.std.proofs.Common.{◌≡◌, ℕ, zero, suc, ◌-◌, ◌^◌, ◌≤◌, min, Bool, true, false, cond, ◌&&◌, ◌==◌, nat_lt, nat_le, List, [], ◌∷◌, ◌++◌, map, flat_map, length, take, codes, Option, Result, Ok, Err, refl, sym, ap, ap₂, ◌∙◌, subst, arith, append-nil, take_all, eqb-true}
use Rattle.std.specs.List.{list_all, AllByRecursion}
use Rattle.std.specs.Str.{bytes_eq}
use Rattle.std.proofs.lemmas.Bool.{leb-true, le-leb}
use Rattle.std.proofs.lemmas.Bool.Decides.{nat_tests}
use Rattle.std.proofs.lemmas.List.{length-map}
use Rattle.std.proofs.lemmas.Slice.Eq.{bytes_eq-Decides}
use Rattle.mal_base.specs.Limits.{limits}
use Rattle.mal_base.specs.Formulas.{Formulated, literals_of, is_within}
use Rattle.mal_base.specs.declared.limit_kind.LimitKind.TheVariants.{Variables, Clauses}
use Rattle.mal_base.proofs.Sorting.{and-left, and-right, and-both}
use Rattle.spec_text.specs.Numbers.{is_numeral, value_of}
use Rattle.spec_text.specs.Numbers.NumberWord.{Number}
use Rattle.mal_base.specs.declared.block_fault.BlockFault.{BlockFault}
use Rattle.mal_base.specs.declared.block_fault.BlockFault.TheVariants.{BadHeader, ClauseCount, Limit}
use Rattle.mal_base.specs.declared.stage.Stage.TheVariants as stage
use Rattle.spec_dimacs.specs.Rows.{is_passed, rows_of, counted_rows}
use Rattle.spec_dimacs.specs.Merged.{clause_of, AreClausesOf}
use Rattle.spec_dimacs.specs.Grammar.{IsHeader, closed_numbers, words_in, AreClosed, IsTail, Spells}
use Rattle.spec_dimacs.specs.Reading.{Block, ◌>>=◌, after_rows, block_of, within_limits, opened_with, opened, formula_of, ended, read_text}
use Rattle.spec_dimacs.proofs.Merging.{clause_of-made, clause_of-unique}
use Rattle.spec_dimacs.proofs.Steps.{block_after, read_block, ok_block, said, Gathers, gathers, filled}
use Rattle.spec_dimacs.proofs.Behind.{all_counted, Leads, whole_leads, leads_whole, Splits, splits, say_numbers, number_rows, TailLeads, tail_leads}

-- what a header that opens a block is
pub record Opens (words : List (List ℕ)) (b : Block) : Type 0 where
  pub variables : ℕ
  pub declared : ℕ
  pub header : IsHeader words variables declared
  pub few_variables : variables ≤ limits.variables
  pub few_clauses : declared ≤ limits.clauses
  pub is : block_of variables declared ≡ b

opens-limits : (p cnf v c : List ℕ) (b : Block) → p ≡ codes "p" → cnf ≡ codes "cnf" → is_numeral v ≡ true → is_numeral c ≡ true → within_limits (value_of v) (value_of c) ≡ Ok b → Opens (p ∷ cnf ∷ v ∷ c ∷ []) b
opens-limits p cnf v c b h k m n e = by_tests (nat_lt limits.variables (value_of v)) refl (nat_lt limits.clauses (value_of c)) refl e
  where
    by_tests : (s : Bool) → nat_lt limits.variables (value_of v) ≡ s → (t : Bool) → nat_lt limits.clauses (value_of c) ≡ t → cond s (Err (Limit Variables)) (cond t (Err (Limit Clauses)) (read_block (block_of (value_of v) (value_of c)))) ≡ Ok b → Opens (p ∷ cnf ∷ v ∷ c ∷ []) b
    by_tests true q t r e = absurd (cc)
    by_tests false q true r e = absurd (cc)
    by_tests false q false r e = record {
      variables = value_of v;
      declared = value_of c;
      header = (v, c, ap₂ (λ (x y : List ℕ). x ∷ y ∷ v ∷ c ∷ []) h k, (m, refl), (n, refl));
      few_variables = grind (arith, nat_tests);
      few_clauses = grind (arith, nat_tests);
      is = ok_block (block_of (value_of v) (value_of c)) b e;
    }

opens-counts : (p cnf v c : List ℕ) (b : Block) → p ≡ codes "p" → cnf ≡ codes "cnf" → opened_with v c ≡ Ok b → Opens (p ∷ cnf ∷ v ∷ c ∷ []) b
opens-counts p cnf v c b h k e = by_tests (is_numeral v) refl (is_numeral c) refl e
  where
    by_tests : (s : Bool) → is_numeral v ≡ s → (t : Bool) → is_numeral c ≡ t → cond (s && t) (within_limits (value_of v) (value_of c)) (Err BadHeader) ≡ Ok b → Opens (p ∷ cnf ∷ v ∷ c ∷ []) b
    by_tests false q t r e = absurd (cc)
    by_tests true q false r e = absurd (cc)
    by_tests true q true r e = opens-limits p cnf v c b h k q r e

pub opens : (words : List (List ℕ)) (b : Block) → opened words ≡ Ok b → Opens words b
opens [] b e = absurd (cc)
opens (p ∷ []) b e = absurd (cc)
opens (p ∷ cnf ∷ []) b e = absurd (cc)
opens (p ∷ cnf ∷ v ∷ []) b e = absurd (cc)
opens (p ∷ cnf ∷ v ∷ c ∷ w ∷ ws) b e = absurd (cc)
opens (p ∷ cnf ∷ v ∷ c ∷ []) b e = by_tests (bytes_eq p (codes "p")) refl (bytes_eq cnf (codes "cnf")) refl e
  where
    by_tests : (s : Bool) → bytes_eq p (codes "p") ≡ s → (t : Bool) → bytes_eq cnf (codes "cnf") ≡ t → cond (s && t) (opened_with v c) (Err BadHeader) ≡ Ok b → Opens (p ∷ cnf ∷ v ∷ c ∷ []) b
    by_tests false q t r e = absurd (cc)
    by_tests true q false r e = absurd (cc)
    by_tests true q true r e = opens-counts p cnf v c b ((bytes_eq-Decides p (codes "p")).0 q) ((bytes_eq-Decides cnf (codes "cnf")).0 r) e

-- a header within the limits opens a block
header_opens : (words : List (List ℕ)) (variables declared : ℕ) → IsHeader words variables declared → variables ≤ limits.variables → declared ≤ limits.clauses → opened words ≡ Ok (block_of variables declared)
header_opens words variables declared (v, c, e, said_v, said_c) low few =
    let test_v : nat_lt limits.variables variables ≡ false = grind (arith, nat_tests) in
    let test_c : nat_lt limits.clauses declared ≡ false = grind (arith, nat_tests) in
    ap opened e
    ∙ ap₂ (λ (s t : Bool). cond (s && t) (within_limits (value_of v) (value_of c)) (Err BadHeader)) said_v.0 said_c.0
    ∙ ap₂ within_limits said_v.1 said_c.1
    ∙ ap₂ (λ (s t : Bool). cond s (Err (Limit Variables)) (cond t (Err (Limit Clauses)) (read_block (block_of variables declared)))) test_v test_c

take-nothing : (n : ℕ) → take {A = Option (List ℕ)} n [] ≡ []
take-nothing zero = refl
take-nothing (suc n) = refl

-- the block after a header has no list yet
pub block_of-after : (v c : ℕ) → block_of v c ≡ block_after v c [] []
block_of-after v c = ap (λ (cs : List (Option (List ℕ))). record { variables = v; declared = c; clauses = cs; found = 0; literals = 0; pending = []; stage = stage.Clauses }) (sym (take-nothing c))

-- the formula of closed lists
unfoldable pub formula_at : ℕ → List (List ℕ) → Formulated
formula_at v lists = record { variables = v; clauses = map clause_of lists }

-- what the end of closed lists says
pub record Ends (v c : ℕ) (lists : List (List ℕ)) (pending : List ℕ) (f : Formulated) : Type 0 where
  pub none : pending ≡ []
  pub count : length lists ≡ c
  pub is : formula_at v lists ≡ f

the_formula : Formulated → Result Formulated BlockFault → Formulated
the_formula f (Ok g) = g
the_formula f (Err e) = f

pub ends : (v c : ℕ) (lists : List (List ℕ)) (pending : List ℕ) (f : Formulated) → c ≤ limits.clauses → ended (block_after v c lists pending) ≡ Ok f → Ends v c lists pending f
unfolding formula_at the_formula
ends v c lists pending f few e = by_test (min (length lists) (2 ^ 64 - 1) == c) refl pending e
  where
    by_test : (t : Bool) → (min (length lists) (2 ^ 64 - 1) == c) ≡ t → (p : List ℕ) → cond t (formula_of p (block_after v c lists pending)) (Err (ClauseCount c (min (length lists) (2 ^ 64 - 1)))) ≡ Ok f → Ends v c lists p f
    by_test false q p e = absurd (cc)
    by_test true q (l ∷ ls) e = absurd (cc)
    by_test true q [] e =
        let count : min (length lists) (2 ^ 64 - 1) ≡ c = eqb-true (min (length lists) (2 ^ 64 - 1)) c q in
        let all : length lists ≡ c = omega arith in
        let whole : take c (map clause_of lists) ≡ map clause_of lists = take_all c (map clause_of lists) (omega (arith, length-map lists clause_of)) in
        record { none = refl; count = all; is = ap (λ (cs : List (Option (List ℕ))). record { variables = v; clauses = cs }) (sym whole) ∙ ap (the_formula f) e }

lists_end : (v : ℕ) (lists : List (List ℕ)) → length lists ≤ limits.clauses → ended (block_after v (length lists) lists []) ≡ Ok (formula_at v lists)
unfolding formula_at
lists_end v lists few =
    let count : min (length lists) (2 ^ 64 - 1) ≡ length lists = omega arith in
    let test : (min (length lists) (2 ^ 64 - 1) == length lists) ≡ true = grind (arith, nat_tests) in
    let whole : take (length lists) (map clause_of lists) ≡ map clause_of lists = take_all (length lists) (map clause_of lists) (omega (arith, length-map lists clause_of)) in
    ap (λ (t : Bool). cond t (formula_of [] (block_after v (length lists) lists [])) (Err (ClauseCount (length lists) (min (length lists) (2 ^ 64 - 1))))) test
    ∙ ap (λ (cs : List (Option (List ℕ))). formula_read (record { variables = v; clauses = cs })) whole
  where
    formula_read : Formulated → Result Formulated BlockFault
    formula_read f = Ok f

-- lists of literals and the clauses that they make
pub clauses_made : (lists : List (List ℕ)) → AreClausesOf lists (map clause_of lists)
clauses_made [] = tt
clauses_made (l ∷ ls) = (clause_of-made l, clauses_made ls)

clauses_unique : (lists : List (List ℕ)) (clauses : List (Option (List ℕ))) → AreClausesOf lists clauses → clauses ≡ map clause_of lists
clauses_unique [] [] h = refl
clauses_unique [] (c ∷ cs) h = absurd h
clauses_unique (l ∷ ls) [] h = absurd h
clauses_unique (l ∷ ls) (c ∷ cs) h = ap₂ (λ (x : Option (List ℕ)) (xs : List (Option (List ℕ))). x ∷ xs) (clause_of-unique l c h.0) (clauses_unique ls cs h.1)

-- a text of which a header and lines are read to the end of a formula spells it
spelled-parts : (text : List ℕ) (header : List (List ℕ)) (rest : List (List (List ℕ))) (v c : ℕ) (f : Formulated) (d : Block) → counted_rows text ≡ header ∷ rest → IsHeader header v c → v ≤ limits.variables → c ≤ limits.clauses → AllByRecursion (λ row. is_passed row ≡ false) rest → after_rows rest (block_after v c [] []) ≡ Ok d → ended d ≡ Ok f → Spells text f
unfolding formula_at
spelled-parts text header rest v c f d rows opens low few counted reads ended_ok =
    let split : Splits rest (block_after v c [] []) d = splits rest (block_after v c [] []) d counted refl reads in
    let g : Gathers v c [] [] (words_in split.body) split.last = gathers v c (words_in split.body) split.last [] [] refl refl (omega arith) split.reads in
    let last : ended (block_after v c g.all g.left) ≡ Ok f = ap ended (sym g.is) ∙ sym split.same ∙ ended_ok in
    let end : Ends v c g.all g.left f = ends v c g.all g.left f few last in
    let count : length (map clause_of g.all) ≡ c = length-map g.all clause_of ∙ end.count in
    subst (Spells text) end.is (record {
      header = header;
      body = split.body;
      tail = split.tail;
      lists = g.all;
      rows = rows ∙ ap (λ (rs : List (List (List ℕ))). header ∷ rs) split.halves;
      opens = subst (IsHeader header v) (sym count) opens;
      closed = g.says ∙ ap (said g.all) end.none ∙ ap (map (λ z. Number z)) (append-nil (flat_map closed_numbers g.all));
      within = g.within;
      ends = split.ends;
      clauses = clauses_made g.all;
      limits = and-both _ _ (and-both _ _ (le-leb v limits.variables low) (le-leb (length (map clause_of g.all)) limits.clauses (omega arith))) (le-leb (literals_of (map clause_of g.all)) limits.literals g.few);
    })

pub read_is_spelled : (text : List ℕ) (f : Formulated) → read_text text ≡ Ok f → Spells text f
read_is_spelled text f e =
    let lead : Leads (counted_rows text) f = whole_leads (rows_of text) 0 f e in
    let start : Opens lead.header lead.first = opens lead.header lead.first lead.opens in
    let same : lead.first ≡ block_after start.variables start.declared [] [] = sym start.is ∙ block_of-after start.variables start.declared in
    let counted : AllByRecursion (λ row. is_passed row ≡ false) (lead.header ∷ lead.others) = subst (AllByRecursion (λ row. is_passed row ≡ false)) lead.halves (all_counted (rows_of text)) in
    spelled-parts text lead.header lead.others start.variables start.declared f lead.rest.behind lead.halves start.header start.few_variables start.few_clauses counted.1
    (ap (after_rows lead.others) (sym same) ∙ lead.rest.reads) lead.rest.ends

-- the lines of a spelled text lead to its formula
spelled-leads : (v : ℕ) (lists : List (List ℕ)) (header : List (List ℕ)) (body tail : List (List (List ℕ))) → IsHeader header v (length lists) → AreClosed v body lists → list_all (is_within v) lists ≡ true → IsTail tail → v ≤ limits.variables → length lists ≤ limits.clauses → literals_of (map clause_of lists) ≤ limits.literals → Leads (header ∷ (body ++ tail)) (formula_at v lists)
spelled-leads v lists header body tail opens closed within ends low few literals =
    let first : Block = block_after v (length lists) [] [] in
    let last : Block = block_after v (length lists) lists [] in
    let behind : TailLeads tail last = tail_leads tail last ends refl in
    record {
      header = header;
      others = body ++ tail;
      first = first;
      halves = refl;
      opens = header_opens header v (length lists) opens low few ∙ ap read_block (block_of-after v (length lists));
      rest = record {
        behind = behind.behind;
        reads = number_rows body tail first (say_numbers v (words_in body) (flat_map closed_numbers lists) closed) refl
            ∙ ap (λ (r : Result Block BlockFault). r >>= after_rows tail) (filled v (length lists) (words_in body) lists within closed literals)
            ∙ behind.reads;
        ends = behind.same ∙ lists_end v lists few;
      };
    }

pub spelled_is_read : (text : List ℕ) (f : Formulated) → Spells text f → read_text text ≡ Ok f
unfolding formula_at
spelled_is_read text f is =
    let cs : f.clauses ≡ map clause_of is.lists = clauses_unique is.lists f.clauses is.clauses in
    let count : length f.clauses ≡ length is.lists = ap length cs ∙ length-map is.lists clause_of in
    let same : formula_at f.variables is.lists ≡ f = ap (λ (xs : List (Option (List ℕ))). record { variables = f.variables; clauses = xs }) (sym cs) in
    let low : f.variables ≤ limits.variables = leb-true f.variables limits.variables (and-left _ _ (and-left _ _ is.limits)) in
    let few : length f.clauses ≤ limits.clauses = leb-true (length f.clauses) limits.clauses (and-right (nat_le f.variables limits.variables) _ (and-left _ _ is.limits)) in
    let literals : literals_of f.clauses ≤ limits.literals = leb-true (literals_of f.clauses) limits.literals (and-right (nat_le f.variables limits.variables && nat_le (length f.clauses) limits.clauses) _ is.limits) in
    let leads : Leads (is.header ∷ (is.body ++ is.tail)) (formula_at f.variables is.lists) = spelled-leads f.variables is.lists is.header is.body is.tail
    (subst (IsHeader is.header f.variables) count is.opens) is.closed is.within is.ends low (omega arith) (subst (λ (xs : List (Option (List ℕ))). literals_of xs ≤ limits.literals) cs literals) in
    leads_whole (rows_of text) 0 f (subst (λ (rs : List (List (List ℕ))). Leads rs f) (sym is.rows) (subst (Leads (is.header ∷ (is.body ++ is.tail))) same leads))
