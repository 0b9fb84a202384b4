-- The lines of a text that count, one after another: the header, the lines of the clauses, and those after them.
use Rattle.std.proofs.Common.{◌≡◌, ℕ, zero, suc, ◌+◌, max, Bool, true, false, not, cond, ◌==◌, nat_lt, List, [], ◌∷◌, ◌++◌, map, filter, get_or, drop, codes, ℤ, pos, negsuc, Option, Some, None, Result, Ok, Err, ◌⊎◌, inl, inr, refl, sym, ap, ap₂, ◌∙◌, subst}
use Rattle.std.specs.List.{AllByRecursion}
use Rattle.std.specs.Str.{bytes_eq}
use Rattle.std.proofs.lemmas.Slice.Eq.{bytes_eq-Decides}
use Rattle.mal_base.specs.Limits.{limits}
use Rattle.mal_base.specs.Formulas.{Formulated, size_of}
use Rattle.mal_base.specs.declared.limit_kind.LimitKind.TheVariants.{Literals}
use Rattle.spec_text.specs.Numbers.{NumberWord, number_in}
use Rattle.spec_text.specs.Numbers.NumberWord.{NotANumber, TooLarge, Number}
use Rattle.mal_base.specs.declared.block_fault.BlockFault.{BlockFault}
use Rattle.mal_base.specs.declared.block_fault.BlockFault.TheVariants.{BadHeader, Trailing, Limit, ClauseCount}
use Rattle.mal_base.specs.declared.stage.Stage.{Stage}
use Rattle.mal_base.specs.declared.stage.Stage.TheVariants as stage
use Rattle.spec_dimacs.specs.Rows.{is_comment, is_passed}
use Rattle.spec_dimacs.specs.Merged.{clause_of}
use Rattle.spec_dimacs.specs.Grammar.{words_in, IsTail}
use Rattle.spec_dimacs.specs.Reading.{Block, ◌>>=◌, with_clause, closed, after_number, after_words, after_percent, after_zero, after_counted, after_row, after_rows, opened, formula_of, ended, as_some, on_line, read_rows}
use Rattle.spec_dimacs.proofs.Numbers.{number-no_comment, number-not_word}
use Rattle.spec_dimacs.proofs.Steps.{read_block, ok_block}

-- the lines that count
abbrev pub counted_of : List (List (List ℕ)) → List (List (List ℕ))
counted_of rows = filter (λ row. not (is_passed row)) rows

-- a line that is passed over changes nothing
passed_row : (row : List (List ℕ)) (b : Block) → is_passed row ≡ true → after_row row b ≡ Ok b
passed_row [] b h = refl
passed_row (first ∷ others) b h = rw h refl

pub keeps_row : (row : List (List ℕ)) (rows : List (List (List ℕ))) → is_passed row ≡ false → counted_of (row ∷ rows) ≡ row ∷ counted_of rows
keeps_row row rows h = ap (λ (t : Bool). cond (not t) (row ∷ counted_of rows) (counted_of rows)) h

drops_row : (row : List (List ℕ)) (rows : List (List (List ℕ))) → is_passed row ≡ true → counted_of (row ∷ rows) ≡ counted_of rows
drops_row row rows h = ap (λ (t : Bool). cond (not t) (row ∷ counted_of rows) (counted_of rows)) h

-- each line that counts is not passed over
pub all_counted : (rows : List (List (List ℕ))) → AllByRecursion (λ row. is_passed row ≡ false) (counted_of rows)
all_counted [] = tt
all_counted (row ∷ rows) = by_test (is_passed row) refl (all_counted rows)
  where
    by_test : (t : Bool) → is_passed row ≡ t → AllByRecursion (λ r. is_passed r ≡ false) (counted_of rows) → AllByRecursion (λ r. is_passed r ≡ false) (cond (not t) (row ∷ counted_of rows) (counted_of rows))
    by_test true h rest = rest
    by_test false h rest = (h, rest)

-- lines that lead from a block to the formula
pub record LeadTo (rows : List (List (List ℕ))) (b : Block) (f : Formulated) : Type 0 where
  pub behind : Block
  pub reads : after_rows rows b ≡ Ok behind
  pub ends : ended behind ≡ Ok f

-- an answer on its line
on_line_ok : (line : ℕ) (r : Result Formulated BlockFault) (f : Formulated) → on_line line r ≡ Ok f → r ≡ Ok f
on_line_ok line (Ok x) f e = ap (unlined x) e
  where
    unlined : Formulated → Result Formulated (ℕ × BlockFault) → Result Formulated BlockFault
    unlined x (Ok y) = Ok y
    unlined x (Err z) = Ok x
on_line_ok line (Err x) f e = absurd (cc)

-- what is left of a text after its header
pub left_leads : (rows : List (List (List ℕ))) (line : ℕ) (b : Block) (f : Formulated) → read_rows rows line (Some b) ≡ Ok f → LeadTo (counted_of rows) b f
left_leads [] line b f e = record { behind = b; reads = refl; ends = on_line_ok (max 1 line) (ended b) f e }
left_leads (row ∷ rows) line b f e = by_test (is_passed row) refl (λ d. left_leads rows (suc line) d f) e
  where
    by_answer : ((d : Block) → read_rows rows (suc line) (Some d) ≡ Ok f → LeadTo (counted_of rows) d f) → is_passed row ≡ false → (r : Result Block BlockFault) → after_row row b ≡ r → (on_line (suc line) (as_some r) >>= read_rows rows (suc line)) ≡ Ok f → LeadTo (counted_of (row ∷ rows)) b f
    by_answer ih h (Err x) q e = absurd (cc)
    by_answer ih h (Ok d) q e =
        let rest : LeadTo (counted_of rows) d f = ih d e in
        subst (λ (rs : List (List (List ℕ))). LeadTo rs b f) (sym (keeps_row row rows h)) (record {
          behind = rest.behind;
          reads = ap (λ (r : Result Block BlockFault). r >>= after_rows (counted_of rows)) q ∙ rest.reads;
          ends = rest.ends;
        })

    by_test : (t : Bool) → is_passed row ≡ t → ((d : Block) → read_rows rows (suc line) (Some d) ≡ Ok f → LeadTo (counted_of rows) d f) → (on_line (suc line) (as_some (after_row row b)) >>= read_rows rows (suc line)) ≡ Ok f → LeadTo (counted_of (row ∷ rows)) b f
    by_test false h ih e = by_answer ih h (after_row row b) refl e
    by_test true h ih e =
        subst (λ (rs : List (List (List ℕ))). LeadTo rs b f) (sym (drops_row row rows h))
        (ih b (ap (λ (r : Result Block BlockFault). on_line (suc line) (as_some r) >>= read_rows rows (suc line)) (sym (passed_row row b h)) ∙ e))

pub leads_left : (rows : List (List (List ℕ))) (line : ℕ) (b : Block) (f : Formulated) → LeadTo (counted_of rows) b f → read_rows rows line (Some b) ≡ Ok f
leads_left [] line b f is =
    let same : b ≡ is.behind = ok_block b is.behind is.reads in
    let ends : ended b ≡ Ok f = rw same is.ends in
    ap (on_line (max 1 line)) ends
leads_left (row ∷ rows) line b f is = by_test (is_passed row) refl (λ d. leads_left rows (suc line) d f)
  where
    by_answer : ((d : Block) → LeadTo (counted_of rows) d f → read_rows rows (suc line) (Some d) ≡ Ok f) → (r : Result Block BlockFault) → (d : Block) → (r >>= after_rows (counted_of rows)) ≡ Ok d → ended d ≡ Ok f → (on_line (suc line) (as_some r) >>= read_rows rows (suc line)) ≡ Ok f
    by_answer ih (Err x) d e g = absurd (cc)
    by_answer ih (Ok c) d e g = ih c (record { behind = d; reads = e; ends = g })

    by_test : (t : Bool) → is_passed row ≡ t → ((d : Block) → LeadTo (counted_of rows) d f → read_rows rows (suc line) (Some d) ≡ Ok f) → (on_line (suc line) (as_some (after_row row b)) >>= read_rows rows (suc line)) ≡ Ok f
    by_test true h ih =
        ap (λ (r : Result Block BlockFault). on_line (suc line) (as_some r) >>= read_rows rows (suc line)) (passed_row row b h)
        ∙ ih b (subst (λ (rs : List (List (List ℕ))). LeadTo rs b f) (drops_row row rows h) is)
    by_test false h ih =
        let kept : LeadTo (row ∷ counted_of rows) b f = subst (λ (rs : List (List (List ℕ))). LeadTo rs b f) (keeps_row row rows h) is in
        by_answer ih (after_row row b) kept.behind kept.reads kept.ends

-- a text that leads to a formula has a header first, and lines that lead on from there
pub record Leads (rows : List (List (List ℕ))) (f : Formulated) : Type 0 where
  pub header : List (List ℕ)
  pub others : List (List (List ℕ))
  pub first : Block
  pub halves : rows ≡ header ∷ others
  pub opens : opened header ≡ Ok first
  pub rest : LeadTo others first f

pub whole_leads : (rows : List (List (List ℕ))) (line : ℕ) (f : Formulated) → read_rows rows line None ≡ Ok f → Leads (counted_of rows) f
whole_leads [] line f e = absurd (cc)
whole_leads (row ∷ rows) line f e = by_test (is_passed row) refl (λ k. whole_leads rows (suc line) f k) e
  where
    by_answer : is_passed row ≡ false → (r : Result Block BlockFault) → opened row ≡ r → (on_line (suc line) (as_some r) >>= read_rows rows (suc line)) ≡ Ok f → Leads (counted_of (row ∷ rows)) f
    by_answer h (Err x) q e = absurd (cc)
    by_answer h (Ok d) q e = record { header = row; others = counted_of rows; first = d; halves = keeps_row row rows h; opens = q; rest = left_leads rows (suc line) d f e }

    by_test : (t : Bool) → is_passed row ≡ t → (read_rows rows (suc line) None ≡ Ok f → Leads (counted_of rows) f) → (on_line (suc line) (cond t (Ok None) (as_some (opened row))) >>= read_rows rows (suc line)) ≡ Ok f → Leads (counted_of (row ∷ rows)) f
    by_test true h ih e = subst (λ (rs : List (List (List ℕ))). Leads rs f) (sym (drops_row row rows h)) (ih e)
    by_test false h ih e = by_answer h (opened row) refl e

same_first : (x y : List (List ℕ)) (xs ys : List (List (List ℕ))) → x ∷ xs ≡ y ∷ ys → x ≡ y
same_first x y xs ys e = ap (λ (zs : List (List (List ℕ))). get_or zs 0 []) e

same_rest : (x y : List (List ℕ)) (xs ys : List (List (List ℕ))) → x ∷ xs ≡ y ∷ ys → xs ≡ ys
same_rest x y xs ys e = ap (drop 1) e

pub leads_whole : (rows : List (List (List ℕ))) (line : ℕ) (f : Formulated) → Leads (counted_of rows) f → read_rows rows line None ≡ Ok f
leads_whole [] line f is = let none : [] ≡ is.header ∷ is.others = is.halves in absurd (cc)
leads_whole (row ∷ rows) line f is = by_test (is_passed row) refl (λ k. leads_whole rows (suc line) f k)
  where
    by_test : (t : Bool) → is_passed row ≡ t → (Leads (counted_of rows) f → read_rows rows (suc line) None ≡ Ok f) → (on_line (suc line) (cond t (Ok None) (as_some (opened row))) >>= read_rows rows (suc line)) ≡ Ok f
    by_test true h ih = ih (subst (λ (rs : List (List (List ℕ))). Leads rs f) (drops_row row rows h) is)
    by_test false h ih =
        let halves : row ∷ counted_of rows ≡ is.header ∷ is.others = sym (keeps_row row rows h) ∙ is.halves in
        let head : opened row ≡ Ok is.first = ap opened (same_first _ _ _ _ halves) ∙ is.opens in
        let rest : LeadTo (counted_of rows) is.first f = subst (λ (rs : List (List (List ℕ))). LeadTo rs is.first f) (sym (same_rest _ _ _ _ halves)) is.rest in
        ap (λ (r : Result Block BlockFault). on_line (suc line) (as_some r) >>= read_rows rows (suc line)) head ∙ leads_left rows (suc line) is.first f rest

-- the parts of an answer that went on
bind_block : (r : Result Block BlockFault) (g : Block → Result Block BlockFault) (d : Block) → (r >>= g) ≡ Ok d → (x : Block) × (r ≡ Ok x) × (g x ≡ Ok d)
bind_block (Ok x) g d e = (x, refl, e)
bind_block (Err x) g d e = absurd (cc)

-- a line that counts and is read does not begin with `p`
counted_row : (first : List ℕ) (others : List (List ℕ)) (b d : Block) → is_comment first ≡ false → after_row (first ∷ others) b ≡ Ok d → after_counted b.stage first others b ≡ Ok d
counted_row first others b d h e = by_tests (is_comment first) (bytes_eq first (codes "p")) h e
  where
    by_tests : (s t : Bool) → s ≡ false → cond s (Ok b) (cond t (Err BadHeader) (after_counted b.stage first others b)) ≡ Ok d → after_counted b.stage first others b ≡ Ok d
    by_tests true t q e = absurd (cc)
    by_tests false true q e = absurd (cc)
    by_tests false false q e = e

-- where a reader is does not count at the end
at_stage : Stage → Block → Block
at_stage s b = record b { stage = s }

formula_at : (lits : List ℕ) (s : Stage) (b : Block) → formula_of lits (at_stage s b) ≡ formula_of lits b
unfolding at_stage
formula_at [] s b = refl
formula_at (l ∷ ls) s b = refl

pub ended_at : (s : Stage) (b : Block) → ended (record b { stage = s }) ≡ ended b
unfolding at_stage
ended_at s b = ap (λ (r : Result Formulated BlockFault). cond (b.found == b.declared) r (Err (ClauseCount b.declared b.found))) (formula_at b.pending s b)

-- after the lines `%` and `0` nothing counts
none_behind : (rows : List (List (List ℕ))) (b d : Block) → AllByRecursion (λ row. is_passed row ≡ false) rows → b.stage ≡ stage.Zero → after_rows rows b ≡ Ok d → (rows ≡ []) × (d ≡ b)
none_behind [] b d h q e = (refl, sym (ok_block b d e))
none_behind ([] ∷ rows) b d h q e = absurd (cc (h.0))
none_behind ((first ∷ others) ∷ rows) b d h q e =
    let step = bind_block (after_row (first ∷ others) b) (after_rows rows) d e in
    let read : after_counted b.stage first others b ≡ Ok step.0 = counted_row first others b step.0 h.0 step.1 in
    let zero : after_counted stage.Zero first others b ≡ Ok step.0 = ap (λ (s : Stage). after_counted s first others b) (sym q) ∙ read in
    absurd (cc)

-- after the line `%` at most one line counts
one_behind : (rows : List (List (List ℕ))) (b d : Block) → AllByRecursion (λ row. is_passed row ≡ false) rows → b.stage ≡ stage.Percent → after_rows rows b ≡ Ok d → ((rows ≡ []) ⊎ (rows ≡ (codes "0" ∷ []) ∷ [])) × (ended d ≡ ended b)
one_behind [] b d h q e = (inl refl, ap ended (sym (ok_block b d e)))
one_behind ([] ∷ rows) b d h q e = absurd (cc (h.0))
one_behind ((first ∷ others) ∷ rows) b d h q e =
    let step = bind_block (after_row (first ∷ others) b) (after_rows rows) d e in
    let read : after_counted b.stage first others b ≡ Ok step.0 = counted_row first others b step.0 h.0 step.1 in
    let percent : after_zero first others b ≡ Ok step.0 = ap (λ (s : Stage). after_counted s first others b) (sym q) ∙ read in
    by_words others step.0 percent step.2
  where
    at_zero : Block → Block
    at_zero b = record b { stage = stage.Zero }

    by_test : (t : Bool) → bytes_eq first (codes "0") ≡ t → (x : Block) → cond t (Ok (at_zero b)) (Err Trailing) ≡ Ok x → after_rows rows x ≡ Ok d → (((first ∷ []) ∷ rows ≡ []) ⊎ ((first ∷ []) ∷ rows ≡ (codes "0" ∷ []) ∷ [])) × (ended d ≡ ended b)
    by_test false t x e g = absurd (cc)
    by_test true t x e g =
        let same : at_zero b ≡ x = ok_block (at_zero b) x e in
        let word : first ≡ codes "0" = (bytes_eq-Decides first (codes "0")).0 t in
        let nothing = none_behind rows (at_zero b) d h.1 refl (ap (after_rows rows) same ∙ g) in
        (inr (ap₂ (λ (w : List ℕ) (rs : List (List (List ℕ))). (w ∷ []) ∷ rs) word nothing.0), ap ended nothing.1 ∙ ended_at stage.Zero b)

    by_words : (ws : List (List ℕ)) (x : Block) → after_zero first ws b ≡ Ok x → after_rows rows x ≡ Ok d → (((first ∷ ws) ∷ rows ≡ []) ⊎ ((first ∷ ws) ∷ rows ≡ (codes "0" ∷ []) ∷ [])) × (ended d ≡ ended b)
    by_words [] x e g = by_test (bytes_eq first (codes "0")) refl x e g
    by_words (w ∷ ws) x e g = absurd (cc)

-- words do not change where a reader is, nor the variables
record Keeps (b d : Block) : Type 0 where
  variables : d.variables ≡ b.variables
  place : d.stage ≡ b.stage

keeps : (b d : Block) → b ≡ d → Keeps b d
keeps b d e = record { variables = ap (λ (x : Block). x.variables) (sym e); place = ap (λ (x : Block). x.stage) (sym e) }

keeps-closed : (clause : Option (List ℕ)) (b d : Block) → closed clause b ≡ Ok d → Keeps b d
keeps-closed clause b d e = by_test (nat_lt limits.literals (b.literals + size_of clause)) e
  where
    by_test : (t : Bool) → cond t (Err (Limit Literals)) (Ok (with_clause clause b)) ≡ Ok d → Keeps b d
    by_test true e = absurd (cc)
    by_test false e = let k = keeps (with_clause clause b) d (ok_block (with_clause clause b) d e) in record { variables = k.variables; place = k.place }

keeps-number : (x : NumberWord) (b d : Block) → after_number x b ≡ Ok d → Keeps b d
keeps-number NotANumber b d e = absurd (cc)
keeps-number TooLarge b d e = absurd (cc)
keeps-number (Number (pos zero)) b d e = keeps-closed (clause_of b.pending) b d e
keeps-number (Number (pos (suc n))) b d e = let k = keeps _ d (ok_block _ d e) in record { variables = k.variables; place = k.place }
keeps-number (Number (negsuc n)) b d e = let k = keeps _ d (ok_block _ d e) in record { variables = k.variables; place = k.place }

keeps-words : (ws : List (List ℕ)) (b d : Block) → after_words ws b ≡ Ok d → Keeps b d
keeps-words [] b d e = keeps b d (ok_block b d e)
keeps-words (w ∷ ws) b d e =
    let step = bind_block (after_number (number_in w b.variables) b) (after_words ws) d e in
    let one = keeps-number (number_in w b.variables) b step.0 step.1 in
    let two = keeps-words ws step.0 d step.2 in
    record { variables = two.variables ∙ one.variables; place = two.place ∙ one.place }

-- words and then more words
words-append : (xs ys : List (List ℕ)) (b : Block) → after_words (xs ++ ys) b ≡ (after_words xs b >>= after_words ys)
words-append [] ys b = refl
words-append (x ∷ xs) ys b = by_answer (after_number (number_in x b.variables) b)
    (λ d. words-append xs ys d)
  where
    by_answer : (r : Result Block BlockFault) → ((d : Block) → after_words (xs ++ ys) d ≡ (after_words xs d >>= after_words ys)) → (r >>= after_words (xs ++ ys)) ≡ ((r >>= after_words xs) >>= after_words ys)
    by_answer (Ok d) ih = ih d
    by_answer (Err e) ih = refl

-- the lines of the clauses, and those after them
pub record Splits (rows : List (List (List ℕ))) (b d : Block) : Type 0 where
  pub body : List (List (List ℕ))
  pub tail : List (List (List ℕ))
  pub last : Block
  pub halves : rows ≡ body ++ tail
  pub ends : IsTail tail
  pub reads : after_words (words_in body) b ≡ Ok last
  pub same : ended d ≡ ended last

splits-percent : (others : List (List ℕ)) (rows : List (List (List ℕ))) (b x d : Block) (first : List ℕ) → first ≡ codes "%" → AllByRecursion (λ row. is_passed row ≡ false) rows → after_percent others b ≡ Ok x → after_rows rows x ≡ Ok d → Splits ((first ∷ others) ∷ rows) b d
unfolding at_stage
splits-percent (w ∷ ws) rows b x d first p h e g = absurd (cc)
splits-percent [] rows b x d first p h e g =
    let same : at_stage stage.Percent b ≡ x = ok_block (at_stage stage.Percent b) x e in
    let behind = one_behind rows (at_stage stage.Percent b) d h refl (ap (after_rows rows) same ∙ g) in
    record {
      body = [];
      tail = (first ∷ []) ∷ rows;
      last = b;
      halves = refl;
      ends = by_rest behind.0;
      reads = refl;
      same = behind.1 ∙ ended_at stage.Percent b;
    }
  where
    by_rest : (rows ≡ []) ⊎ (rows ≡ (codes "0" ∷ []) ∷ []) → IsTail ((first ∷ []) ∷ rows)
    by_rest (inl q) = inr (inl (ap₂ (λ (w : List ℕ) (rs : List (List (List ℕ))). (w ∷ []) ∷ rs) p q))
    by_rest (inr q) = inr (inr (ap₂ (λ (w : List ℕ) (rs : List (List (List ℕ))). (w ∷ []) ∷ rs) p q))

splits-words : (row : List (List ℕ)) (rows : List (List (List ℕ))) (b x d : Block) → after_words row b ≡ Ok x → Splits rows x d → Splits (row ∷ rows) b d
splits-words row rows b x d e rest = record {
  body = row ∷ rest.body;
  tail = rest.tail;
  last = rest.last;
  halves = ap (λ (rs : List (List (List ℕ))). row ∷ rs) rest.halves;
  ends = rest.ends;
  reads = words-append row (words_in rest.body) b ∙ ap (λ (r : Result Block BlockFault). r >>= after_words (words_in rest.body)) e ∙ rest.reads;
  same = rest.same;
}

-- lines that are read among the clauses are those of clauses, and what may stand after them
pub splits : (rows : List (List (List ℕ))) (b d : Block) → AllByRecursion (λ row. is_passed row ≡ false) rows → b.stage ≡ stage.Clauses → after_rows rows b ≡ Ok d → Splits rows b d
splits [] b d h q e = record { body = []; tail = []; last = b; halves = refl; ends = inl refl; reads = refl; same = ap ended (sym (ok_block b d e)) }
splits ([] ∷ rows) b d h q e = absurd (cc (h.0))
splits ((first ∷ others) ∷ rows) b d h q e =
    let step = bind_block (after_row (first ∷ others) b) (after_rows rows) d e in
    let read : after_counted b.stage first others b ≡ Ok step.0 = counted_row first others b step.0 h.0 step.1 in
    let among : after_counted stage.Clauses first others b ≡ Ok step.0 = ap (λ (s : Stage). after_counted s first others b) (sym q) ∙ read in
    by_test (λ x p. splits rows x d h.1 p) (bytes_eq first (codes "%")) refl step.0 among step.2
  where
    by_test : ((x : Block) → x.stage ≡ stage.Clauses → after_rows rows x ≡ Ok d → Splits rows x d) → (t : Bool) → bytes_eq first (codes "%") ≡ t → (x : Block) → cond t (after_percent others b) (after_words (first ∷ others) b) ≡ Ok x → after_rows rows x ≡ Ok d → Splits ((first ∷ others) ∷ rows) b d
    by_test ih true t x e g = splits-percent others rows b x d first ((bytes_eq-Decides first (codes "%")).0 t) h.1 e g
    by_test ih false t x e g = let k = keeps-words (first ∷ others) b x e in splits-words (first ∷ others) rows b x d e (ih x (k.place ∙ q) g)

-- each word says a number
abbrev pub SayNumbers : ℕ → List (List ℕ) → Type 0
SayNumbers v words = AllByRecursion (λ w. (z : ℤ) × (number_in w v ≡ Number z)) words

pub say_numbers : (v : ℕ) (words : List (List ℕ)) (zs : List ℤ) → map (λ w. number_in w v) words ≡ map (λ z. Number z) zs → SayNumbers v words
say_numbers v [] zs e = tt
say_numbers v (w ∷ ws) [] e = absurd (cc)
say_numbers v (w ∷ ws) (z ∷ zs) e = ((z, ap (λ (xs : List NumberWord). get_or xs 0 NotANumber) e), say_numbers v ws zs (ap (drop 1) e))

say-left : (v : ℕ) (xs ys : List (List ℕ)) → SayNumbers v (xs ++ ys) → SayNumbers v xs
say-left v [] ys h = tt
say-left v (x ∷ xs) ys h = (h.0, say-left v xs ys h.1)

say-right : (v : ℕ) (xs ys : List (List ℕ)) → SayNumbers v (xs ++ ys) → SayNumbers v ys
say-right v [] ys h = h
say-right v (x ∷ xs) ys h = say-right v xs ys h.1

-- a line of numbers among the clauses is read word by word
number_row : (row : List (List ℕ)) (b : Block) → SayNumbers b.variables row → b.stage ≡ stage.Clauses → after_row row b ≡ after_words row b
number_row [] b h q = refl
number_row (first ∷ others) b h q =
    let comment : is_comment first ≡ false = number-no_comment first b.variables h.0.0 h.0.1 in
    let header : bytes_eq first (codes "p") ≡ false = number-not_word first b.variables h.0.0 112 refl refl h.0.1 in
    let percent : bytes_eq first (codes "%") ≡ false = number-not_word first b.variables h.0.0 37 refl refl h.0.1 in
    ap₂ (λ (s t : Bool). cond s (read_block b) (cond t (Err BadHeader) (after_counted b.stage first others b))) comment header
    ∙ ap (λ (s : Stage). after_counted s first others b) q
    ∙ ap (λ (t : Bool). cond t (after_percent others b) (after_words (first ∷ others) b)) percent

-- lines of numbers among the clauses, and then other lines
pub number_rows : (rows tail : List (List (List ℕ))) (b : Block) → SayNumbers b.variables (words_in rows) → b.stage ≡ stage.Clauses → after_rows (rows ++ tail) b ≡ (after_words (words_in rows) b >>= after_rows tail)
number_rows [] tail b h q = refl
number_rows (row ∷ rows) tail b h q =
    ap (λ (r : Result Block BlockFault). r >>= after_rows (rows ++ tail)) (number_row row b (say-left b.variables row (words_in rows) h) q)
    ∙ by_answer (after_words row b) refl (λ d k p. number_rows rows tail d k p)
    ∙ ap (λ (r : Result Block BlockFault). r >>= after_rows tail) (sym (words-append row (words_in rows) b))
  where
    by_answer : (r : Result Block BlockFault) → after_words row b ≡ r → ((d : Block) → SayNumbers d.variables (words_in rows) → d.stage ≡ stage.Clauses → after_rows (rows ++ tail) d ≡ (after_words (words_in rows) d >>= after_rows tail)) → (r >>= after_rows (rows ++ tail)) ≡ ((r >>= after_words (words_in rows)) >>= after_rows tail)
    by_answer (Err x) e ih = refl
    by_answer (Ok d) e ih =
        let k = keeps-words row b d e in
        ih d (subst (λ (v : ℕ). SayNumbers v (words_in rows)) (sym k.variables) (say-right b.variables row (words_in rows) h)) (k.place ∙ q)

-- what may stand after the clauses leads to the same end
pub record TailLeads (rows : List (List (List ℕ))) (b : Block) : Type 0 where
  pub behind : Block
  pub reads : after_rows rows b ≡ Ok behind
  pub same : ended behind ≡ ended b

pub tail_leads : (rows : List (List (List ℕ))) (b : Block) → IsTail rows → b.stage ≡ stage.Clauses → TailLeads rows b
unfolding at_stage
tail_leads rows b (inl e) q = record { behind = b; reads = ap (λ (rs : List (List (List ℕ))). after_rows rs b) e; same = refl }
tail_leads rows b (inr (inl e)) q = record {
  behind = at_stage stage.Percent b;
  reads = ap (λ (rs : List (List (List ℕ))). after_rows rs b) e ∙ ap (λ (s : Stage). after_counted s (codes "%") [] b >>= after_rows []) q;
  same = ended_at stage.Percent b;
}
tail_leads rows b (inr (inr e)) q = record {
  behind = at_stage stage.Zero (at_stage stage.Percent b);
  reads = ap (λ (rs : List (List (List ℕ))). after_rows rs b) e ∙ ap (λ (s : Stage). after_counted s (codes "%") [] b >>= after_rows ((codes "0" ∷ []) ∷ [])) q;
  same = ended_at stage.Zero (at_stage stage.Percent b) ∙ ended_at stage.Percent b;
}
