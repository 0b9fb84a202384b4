-- A block after closed lists of literals, and what the words of its lines make of it.
use Rattle.std.proofs.Common.{◌≡◌, ◌≢◌, ℕ, zero, suc, ◌+◌, ◌-◌, ◌^◌, ◌<◌, ◌≤◌, min, Bool, true, false, cond, ◌&&◌, nat_lt, nat_le, ◌/◌, List, [], ◌∷◌, ◌++◌, map, flat_map, length, take, drop, get_or, ℤ, pos, negsuc, Option, Result, Ok, Err, refl, sym, ap, ◌∙◌, subst, arith, append_assoc, append-nil, take_all}
use Rattle.std.specs.List.{list_all}
use Rattle.std.proofs.lemmas.Bool.{ltb-true, leb-true, le-leb}
use Rattle.std.proofs.lemmas.Bool.Decides.{nat_tests}
use Rattle.std.proofs.lemmas.List.{take-append-le, length-take-le, map-append, length-append}
use Rattle.std.proofs.lemmas.List.Concat.{flat_map-append}
use Rattle.std.proofs.lemmas.List.Folds.{list_all-append}
use Rattle.std.proofs.lemmas.List.Sums.{sum_by-append, sum_by-cons}
use Rattle.mal_base.specs.Limits.{limits}
use Rattle.mal_base.specs.Literals.{literal}
use Rattle.mal_base.specs.Formulas.{size_of, literals_of, is_within}
use Rattle.mal_base.specs.declared.limit_kind.LimitKind.TheVariants.{Literals}
use Rattle.mal_base.proofs.Sorting.{and-left, and-right, and-both}
use Rattle.spec_text.specs.Numbers.{NumberWord, number_in, number_of}
use Rattle.spec_text.specs.Numbers.NumberWord.{NotANumber, TooLarge, Number}
use Rattle.mal_base.specs.declared.block_fault.BlockFault.{BlockFault}
use Rattle.mal_base.specs.declared.block_fault.BlockFault.TheVariants.{Limit}
use Rattle.mal_base.specs.declared.stage.Stage.TheVariants as stage
use Rattle.spec_dimacs.specs.Merged.{clause_of}
use Rattle.spec_dimacs.specs.Grammar.{closed_numbers}
use Rattle.spec_dimacs.specs.Reading.{Block, ◌>>=◌, code_of, with_clause, closed, after_number, after_words}
use Rattle.spec_dimacs.proofs.Numbers.{number_bound, number_of-positive, number_of-negative, code_of-number_of}

-- a block among its clauses, by its parts
abbrev pub block : ℕ → ℕ → List (Option (List ℕ)) → ℕ → ℕ → List ℕ → Block
block v c clauses found literals pending = record { variables = v; declared = c; clauses = clauses; found = found; literals = literals; pending = pending; stage = stage.Clauses }

-- the block after closed lists of literals, and literals that wait for a 0
abbrev pub block_after : ℕ → ℕ → List (List ℕ) → List ℕ → Block
block_after v c lists pending = block v c (take c (map clause_of lists)) (min (length lists) (2 ^ 64 - 1)) (literals_of (map clause_of lists)) pending

same_block : (v c : ℕ) (cs ds : List (Option (List ℕ))) (m n a b : ℕ) (p : List ℕ) → cs ≡ ds → m ≡ n → a ≡ b → block v c cs m a p ≡ block v c ds n b p
same_block v c cs ds m n a b p e f g = rw (e, f, g) refl

-- one more of a list, as far as its first elements are wanted
take-grow : {X : Type 0} (n : ℕ) (xs : List X) (x : X) → cond (nat_lt (length (take n xs)) n) (take n xs ++ x ∷ []) (take n xs) ≡ take n (xs ++ x ∷ [])
take-grow n xs x = by_test (nat_lt (length xs) n) refl
  where
    by_test : (b : Bool) → nat_lt (length xs) n ≡ b → cond (nat_lt (length (take n xs)) n) (take n xs ++ x ∷ []) (take n xs) ≡ take n (xs ++ x ∷ [])
    by_test true e =
        let low : length xs < n = ltb-true (length xs) n e in
        let whole : take n xs ≡ xs = take_all n xs (omega arith) in
        let more : take n (xs ++ x ∷ []) ≡ xs ++ x ∷ [] = take_all n (xs ++ x ∷ []) (omega (arith, length-append xs (x ∷ []))) in
        rw (whole, e, more) refl
    by_test false e =
        let low : n ≤ length xs = grind (arith, nat_tests) in
        let front : take n (xs ++ x ∷ []) ≡ take n xs = take-append-le n xs (x ∷ []) low in
        let all : length (take n xs) ≡ n = length-take-le n xs low in
        let same : nat_lt n n ≡ false = grind (arith, nat_tests) in
        rw (front, all, same) refl

-- the literals of lists and one more
literals-grow : (lists : List (List ℕ)) (pending : List ℕ) → literals_of (map clause_of lists) + size_of (clause_of pending) ≡ literals_of (map clause_of (lists ++ pending ∷ []))
literals-grow lists pending =
    ap (λ (n : ℕ). literals_of (map clause_of lists) + n) (sym (sum_by-cons size_of (clause_of pending) [] ∙ omega arith))
    ∙ sym (sum_by-append size_of (map clause_of lists) (clause_of pending ∷ []))
    ∙ ap literals_of (sym (map-append clause_of lists (pending ∷ [])))

-- closing the literals that wait
pub closed_block : (v c : ℕ) (lists : List (List ℕ)) (pending : List ℕ) → with_clause (clause_of pending) (block_after v c lists pending) ≡ block_after v c (lists ++ pending ∷ []) []
closed_block v c lists pending =
    same_block v c _ _ _ _ _ _ []
    (take-grow c (map clause_of lists) (clause_of pending) ∙ ap (take c) (sym (map-append clause_of lists (pending ∷ []))))
    (omega (arith, length-append lists (pending ∷ [])))
    (literals-grow lists pending)

-- what is said by closed lists of literals, and literals after them
abbrev pub said : List (List ℕ) → List ℕ → List NumberWord
said lists pending = map (λ z. Number z) (flat_map closed_numbers lists ++ map number_of pending)

said-literal : (lists : List (List ℕ)) (pending : List ℕ) (lit : ℕ) → said lists (pending ++ lit ∷ []) ≡ said lists pending ++ Number (number_of lit) ∷ []
said-literal lists pending lit =
    ap (λ (zs : List ℤ). map (λ z. Number z) (flat_map closed_numbers lists ++ zs)) (map-append number_of pending (lit ∷ []))
    ∙ ap (map (λ z. Number z)) (sym (append_assoc (flat_map closed_numbers lists) (map number_of pending) (number_of lit ∷ [])))
    ∙ map-append (λ z. Number z) (flat_map closed_numbers lists ++ map number_of pending) (number_of lit ∷ [])

said-closed : (lists : List (List ℕ)) (pending : List ℕ) → said (lists ++ pending ∷ []) [] ≡ said lists pending ++ Number (pos 0) ∷ []
said-closed lists pending =
    ap (map (λ z. Number z)) (
    append-nil (flat_map closed_numbers (lists ++ pending ∷ []))
    ∙ flat_map-append closed_numbers lists (pending ∷ [])
    ∙ ap (λ (zs : List ℤ). flat_map closed_numbers lists ++ zs) (append-nil (closed_numbers pending))
    ∙ sym (append_assoc (flat_map closed_numbers lists) (map number_of pending) (pos 0 ∷ [])))
    ∙ map-append (λ z. Number z) (flat_map closed_numbers lists ++ map number_of pending) (pos 0 ∷ [])

-- what words have made of a block: more closed lists, which with the literals after them say what the words say
pub record Gathers (v c : ℕ) (lists : List (List ℕ)) (pending : List ℕ) (words : List (List ℕ)) (d : Block) : Type 0 where
  pub all : List (List ℕ)
  pub left : List ℕ
  pub is : d ≡ block_after v c all left
  pub says : said lists pending ++ map (λ w. number_in w v) words ≡ said all left
  pub within : list_all (is_within v) all ≡ true
  pub few : literals_of (map clause_of all) ≤ limits.literals

-- a word more
gathers-word : (v c : ℕ) (lists others : List (List ℕ)) (pending waiting : List ℕ) (w : List ℕ) (ws : List (List ℕ)) (d : Block) (x : NumberWord) → number_in w v ≡ x → said others waiting ≡ said lists pending ++ x ∷ [] → Gathers v c others waiting ws d → Gathers v c lists pending (w ∷ ws) d
gathers-word v c lists others pending waiting w ws d x q e g = record {
  all = g.all;
  left = g.left;
  is = g.is;
  says = ap (λ (y : NumberWord). said lists pending ++ y ∷ map (λ u. number_in u v) ws) q
      ∙ sym (append_assoc (said lists pending) (x ∷ []) (map (λ u. number_in u v) ws))
      ∙ ap (λ (ys : List NumberWord). ys ++ map (λ u. number_in u v) ws) (sym e)
      ∙ g.says;
  within = g.within;
  few = g.few;
}

-- a literal more of the variables
pub within-more : (v : ℕ) (pending : List ℕ) (lit : ℕ) → is_within v pending ≡ true → 1 ≤ lit / 2 → lit / 2 ≤ v → is_within v (pending ++ lit ∷ []) ≡ true
within-more v pending lit h low high =
    list_all-append (λ l. nat_le 1 (l / 2) && nat_le (l / 2) v) pending (lit ∷ [])
    ∙ and-both _ _ h (and-both _ _ (and-both _ _ (le-leb 1 (lit / 2) low) (le-leb (lit / 2) v high)) refl)

lists-more : (v : ℕ) (lists : List (List ℕ)) (pending : List ℕ) → list_all (is_within v) lists ≡ true → is_within v pending ≡ true → list_all (is_within v) (lists ++ pending ∷ []) ≡ true
lists-more v lists pending h k = list_all-append (is_within v) lists (pending ∷ []) ∙ and-both _ _ h (and-both _ _ k refl)

-- what the words after a word make of the block after it
Rest : ℕ → ℕ → List (List ℕ) → Block → Type 0
Rest v c ws d = (lists : List (List ℕ)) (pending : List ℕ) → list_all (is_within v) lists ≡ true → is_within v pending ≡ true → literals_of (map clause_of lists) ≤ limits.literals → after_words ws (block_after v c lists pending) ≡ Ok d → Gathers v c lists pending ws d

gathers-literal : (v c : ℕ) (lists : List (List ℕ)) (pending : List ℕ) (w : List ℕ) (ws : List (List ℕ)) (d : Block) (lit : ℕ) (z : ℤ) → number_in w v ≡ Number z → number_of lit ≡ z → 1 ≤ lit / 2 → lit / 2 ≤ v → list_all (is_within v) lists ≡ true → is_within v pending ≡ true → literals_of (map clause_of lists) ≤ limits.literals → Rest v c ws d → after_words ws (block_after v c lists (pending ++ lit ∷ [])) ≡ Ok d → Gathers v c lists pending (w ∷ ws) d
unfolding Rest
gathers-literal v c lists pending w ws d lit z q n low high h k few rest e =
    gathers-word v c lists lists pending (pending ++ lit ∷ []) w ws d (Number z) q
    (said-literal lists pending lit ∙ ap (λ (y : ℤ). said lists pending ++ Number y ∷ []) n)
    (rest lists (pending ++ lit ∷ []) h (within-more v pending lit k low high) few e)

gathers-closed : (v c : ℕ) (lists : List (List ℕ)) (pending : List ℕ) (w : List ℕ) (ws : List (List ℕ)) (d : Block) → number_in w v ≡ Number (pos 0) → list_all (is_within v) lists ≡ true → is_within v pending ≡ true → literals_of (map clause_of lists) ≤ limits.literals → Rest v c ws d → (closed (clause_of pending) (block_after v c lists pending) >>= after_words ws) ≡ Ok d → Gathers v c lists pending (w ∷ ws) d
unfolding Rest
gathers-closed v c lists pending w ws d q h k few rest e = by_limit (nat_lt limits.literals (literals_of (map clause_of lists) + size_of (clause_of pending))) refl e
  where
    by_limit : (t : Bool) → nat_lt limits.literals (literals_of (map clause_of lists) + size_of (clause_of pending)) ≡ t → (cond t (Err (Limit Literals)) (Ok (with_clause (clause_of pending) (block_after v c lists pending))) >>= after_words ws) ≡ Ok d → Gathers v c lists pending (w ∷ ws) d
    by_limit true t e = absurd (cc)
    by_limit false t e =
        let low : literals_of (map clause_of lists) + size_of (clause_of pending) ≤ limits.literals = grind (arith, nat_tests) in
        let grown = literals-grow lists pending in
        gathers-word v c lists (lists ++ pending ∷ []) pending [] w ws d (Number (pos 0)) q (said-closed lists pending)
        (rest (lists ++ pending ∷ []) [] (lists-more v lists pending h k) refl (subst (λ (n : ℕ). n ≤ limits.literals) grown low)
        (ap (after_words ws) (sym (closed_block v c lists pending)) ∙ e))

gathers-cases : (v c : ℕ) (lists : List (List ℕ)) (pending : List ℕ) (w : List ℕ) (ws : List (List ℕ)) (d : Block) (x : NumberWord) → number_in w v ≡ x → list_all (is_within v) lists ≡ true → is_within v pending ≡ true → literals_of (map clause_of lists) ≤ limits.literals → Rest v c ws d → (after_number x (block_after v c lists pending) >>= after_words ws) ≡ Ok d → Gathers v c lists pending (w ∷ ws) d
gathers-cases v c lists pending w ws d NotANumber q h k few rest e = absurd (cc)
gathers-cases v c lists pending w ws d TooLarge q h k few rest e = absurd (cc)
gathers-cases v c lists pending w ws d (Number (pos zero)) q h k few rest e = gathers-closed v c lists pending w ws d q h k few rest e
gathers-cases v c lists pending w ws d (Number (pos (suc n))) q h k few rest e =
    let bound : suc n ≤ v = number_bound w v (pos (suc n)) q in
    gathers-literal v c lists pending w ws d (literal (suc n) true) (pos (suc n)) q (number_of-positive (suc n)) (omega arith) (omega arith) h k few rest e
gathers-cases v c lists pending w ws d (Number (negsuc n)) q h k few rest e =
    let bound : suc n ≤ v = number_bound w v (negsuc n) q in
    gathers-literal v c lists pending w ws d (literal (suc n) false) (negsuc n) q (number_of-negative n) (omega arith) (omega arith) h k few rest e

-- an answer with a block
abbrev pub read_block : Block → Result Block BlockFault
read_block b = Ok b

the_block : Block → Result Block BlockFault → Block
the_block b (Ok x) = x
the_block b (Err f) = b

pub ok_block : (b d : Block) → read_block b ≡ read_block d → b ≡ d
unfolding the_block
ok_block b d e = ap (the_block b) e

-- words that are read make of a block what they say
pub gathers : (v c : ℕ) (words : List (List ℕ)) (d : Block) (lists : List (List ℕ)) (pending : List ℕ) → list_all (is_within v) lists ≡ true → is_within v pending ≡ true → literals_of (map clause_of lists) ≤ limits.literals → after_words words (block_after v c lists pending) ≡ Ok d → Gathers v c lists pending words d
unfolding Rest
gathers v c [] d lists pending h k few e = record { all = lists; left = pending; is = sym (ok_block _ d e); says = append-nil (said lists pending); within = h; few = few }
gathers v c (w ∷ ws) d lists pending h k few e = gathers-cases v c lists pending w ws d (number_in w v) refl h k few (λ ls p. gathers v c ws d ls p) e

-- the first of some words and the words after it, as they say what is said
first_said : (x y : NumberWord) (xs ys : List NumberWord) → x ∷ xs ≡ y ∷ ys → x ≡ y
first_said x y xs ys e = ap (λ (zs : List NumberWord). get_or zs 0 NotANumber) e

rest_said : (x y : NumberWord) (xs ys : List NumberWord) → x ∷ xs ≡ y ∷ ys → xs ≡ ys
rest_said x y xs ys e = ap (drop 1) e

-- reading a literal's number
literal_read : (v c : ℕ) (lists : List (List ℕ)) (pending : List ℕ) (z : ℤ) → z ≢ pos 0 → after_number (Number z) (block_after v c lists pending) ≡ Ok (block_after v c lists (pending ++ code_of z ∷ []))
literal_read v c lists pending (pos zero) apart = absurd (apart refl)
literal_read v c lists pending (pos (suc n)) apart = refl
literal_read v c lists pending (negsuc n) apart = refl

not_zero : (lit : ℕ) → 2 ≤ lit → number_of lit ≢ pos 0
not_zero lit low e =
    let same : code_of (number_of lit) ≡ lit = code_of-number_of lit low in
    let none : code_of (number_of lit) ≡ 0 = ap code_of e in
    omega arith

code_read : (v c : ℕ) (lists : List (List ℕ)) (pending : List ℕ) (lit : ℕ) → 2 ≤ lit → after_number (Number (number_of lit)) (block_after v c lists pending) ≡ Ok (block_after v c lists (pending ++ lit ∷ []))
code_read v c lists pending lit low =
    literal_read v c lists pending (number_of lit) (not_zero lit low)
    ∙ ap (λ (code : ℕ). read_block (block_after v c lists (pending ++ code ∷ []))) (code_of-number_of lit low)

-- closing, where the literals are few
closed_read : (v c : ℕ) (lists : List (List ℕ)) (pending : List ℕ) → literals_of (map clause_of (lists ++ pending ∷ [])) ≤ limits.literals → closed (clause_of pending) (block_after v c lists pending) ≡ Ok (block_after v c (lists ++ pending ∷ []) [])
closed_read v c lists pending few =
    let low : literals_of (map clause_of lists) + size_of (clause_of pending) ≤ limits.literals = rw (literals-grow lists pending) few in
    let test : nat_lt limits.literals (literals_of (map clause_of lists) + size_of (clause_of pending)) ≡ false = grind (arith, nat_tests) in
    ap (λ (t : Bool). the_answer t) test ∙ ap read_block (closed_block v c lists pending)
  where
    the_answer : Bool → Result Block BlockFault
    the_answer t = cond t (Err (Limit Literals)) (Ok (with_clause (clause_of pending) (block_after v c lists pending)))

-- what literals and then closed lists say, the literals being the rest of a list that is not closed yet
abbrev pub says_behind : List ℕ → List (List ℕ) → List NumberWord
says_behind rest lists = map (λ z. Number z) (map number_of rest ++ pos 0 ∷ flat_map closed_numbers lists)

says-list : (lits : List ℕ) (lists : List (List ℕ)) → map (λ z. Number z) (flat_map closed_numbers (lits ∷ lists)) ≡ says_behind lits lists
says-list lits lists = ap (map (λ z. Number z)) (append_assoc (map number_of lits) (pos 0 ∷ []) (flat_map closed_numbers lists))

-- fewer lists have fewer literals
fewer : (lists others : List (List ℕ)) → literals_of (map clause_of (lists ++ others)) ≤ limits.literals → literals_of (map clause_of lists) ≤ limits.literals
fewer lists others few =
    let sum : literals_of (map clause_of (lists ++ others)) ≡ literals_of (map clause_of lists) + literals_of (map clause_of others) = ap literals_of (map-append clause_of lists others) ∙ sum_by-append size_of (map clause_of lists) (map clause_of others) in
    omega arith

low_code : (v lit : ℕ) (lits : List ℕ) → is_within v (lit ∷ lits) ≡ true → 2 ≤ lit
low_code v lit lits h = let low : 1 ≤ lit / 2 = leb-true 1 (lit / 2) (and-left _ _ (and-left _ _ h)) in omega arith

-- what words make of a block, where they say the rest of a list and more closed lists
Fills : ℕ → ℕ → List (List ℕ) → Type 0
Fills v c words = (lists : List (List ℕ)) (pending rest : List ℕ) (others : List (List ℕ)) → is_within v rest ≡ true → list_all (is_within v) others ≡ true → map (λ w. number_in w v) words ≡ says_behind rest others → literals_of (map clause_of (lists ++ (pending ++ rest) ∷ others)) ≤ limits.literals → after_words words (block_after v c lists pending) ≡ Ok (block_after v c (lists ++ (pending ++ rest) ∷ others) [])

fills-literal : (v c : ℕ) (w : List ℕ) (ws : List (List ℕ)) → Fills v c ws → (lists : List (List ℕ)) (pending : List ℕ) (lit : ℕ) (rest : List ℕ) (others : List (List ℕ)) → is_within v (lit ∷ rest) ≡ true → list_all (is_within v) others ≡ true → number_in w v ∷ map (λ u. number_in u v) ws ≡ says_behind (lit ∷ rest) others → literals_of (map clause_of (lists ++ (pending ++ lit ∷ rest) ∷ others)) ≤ limits.literals → (after_number (number_in w v) (block_after v c lists pending) >>= after_words ws) ≡ Ok (block_after v c (lists ++ (pending ++ lit ∷ rest) ∷ others) [])
unfolding Fills
fills-literal v c w ws ih lists pending lit rest others h k e few =
    let longer : (pending ++ lit ∷ []) ++ rest ≡ pending ++ lit ∷ rest = append_assoc pending (lit ∷ []) rest in
    ap (λ (x : NumberWord). after_number x (block_after v c lists pending) >>= after_words ws) (first_said _ _ _ _ e)
    ∙ ap (λ (r : Result Block BlockFault). r >>= after_words ws) (code_read v c lists pending lit (low_code v lit rest h))
    ∙ ih lists (pending ++ lit ∷ []) rest others (and-right _ _ h) k (rest_said _ _ _ _ e) (subst (λ (l : List ℕ). literals_of (map clause_of (lists ++ l ∷ others)) ≤ limits.literals) (sym longer) few)
    ∙ ap (λ (l : List ℕ). read_block (block_after v c (lists ++ l ∷ others) [])) longer

nothing_said : (words : List (List ℕ)) (v : ℕ) → map (λ w. number_in w v) words ≡ [] → words ≡ []
nothing_said [] v e = refl
nothing_said (w ∷ ws) v e = absurd (cc)

fills-closed : (v c : ℕ) (w : List ℕ) (ws : List (List ℕ)) → Fills v c ws → (lists : List (List ℕ)) (pending : List ℕ) (others : List (List ℕ)) → list_all (is_within v) others ≡ true → number_in w v ∷ map (λ u. number_in u v) ws ≡ says_behind [] others → literals_of (map clause_of (lists ++ pending ∷ others)) ≤ limits.literals → (after_number (number_in w v) (block_after v c lists pending) >>= after_words ws) ≡ Ok (block_after v c (lists ++ pending ∷ others) [])
unfolding Fills
fills-closed v c w ws ih lists pending others k e few =
    ap (λ (x : NumberWord). after_number x (block_after v c lists pending) >>= after_words ws) (first_said _ _ _ _ e)
    ∙ ap (λ (r : Result Block BlockFault). r >>= after_words ws) (closed_read v c lists pending (fewer (lists ++ pending ∷ []) others (subst (λ (ls : List (List ℕ)). literals_of (map clause_of ls) ≤ limits.literals) (sym longer) few)))
    ∙ by_others others k (rest_said _ _ _ _ e) few
  where
    longer : (lists ++ pending ∷ []) ++ others ≡ lists ++ pending ∷ others
    longer = append_assoc lists (pending ∷ []) others

    by_others : (os : List (List ℕ)) → list_all (is_within v) os ≡ true → map (λ u. number_in u v) ws ≡ map (λ z. Number z) (flat_map closed_numbers os) → literals_of (map clause_of (lists ++ pending ∷ os)) ≤ limits.literals → after_words ws (block_after v c (lists ++ pending ∷ []) []) ≡ Ok (block_after v c (lists ++ pending ∷ os) [])
    by_others [] k e few = ap (λ (us : List (List ℕ)). after_words us (block_after v c (lists ++ pending ∷ []) [])) (nothing_said ws v e)
    by_others (o ∷ os) k e few =
        let more : (lists ++ pending ∷ []) ++ o ∷ os ≡ lists ++ pending ∷ o ∷ os = append_assoc lists (pending ∷ []) (o ∷ os) in
        ih (lists ++ pending ∷ []) [] o os (and-left _ _ k) (and-right _ _ k) (e ∙ says-list o os) (subst (λ (ls : List (List ℕ)). literals_of (map clause_of ls) ≤ limits.literals) (sym more) few)
        ∙ ap (λ (ls : List (List ℕ)). read_block (block_after v c ls [])) more

fills : (v c : ℕ) (words : List (List ℕ)) → Fills v c words
unfolding Fills
fills v c [] lists pending [] others h k e few = absurd (cc)
fills v c [] lists pending (l ∷ ls) others h k e few = absurd (cc)
fills v c (w ∷ ws) lists pending [] others h k e few =
    let whole : pending ++ [] ≡ pending = append-nil pending in
    fills-closed v c w ws (fills v c ws) lists pending others k e (subst (λ (l : List ℕ). literals_of (map clause_of (lists ++ l ∷ others)) ≤ limits.literals) whole few)
    ∙ ap (λ (l : List ℕ). read_block (block_after v c (lists ++ l ∷ others) [])) (sym whole)
fills v c (w ∷ ws) lists pending (l ∷ ls) others h k e few = fills-literal v c w ws (fills v c ws) lists pending l ls others h k e few

-- words that say closed lists are read, and the lists are closed
pub filled : (v c : ℕ) (words : List (List ℕ)) (lists : List (List ℕ)) → list_all (is_within v) lists ≡ true → map (λ w. number_in w v) words ≡ map (λ z. Number z) (flat_map closed_numbers lists) → literals_of (map clause_of lists) ≤ limits.literals → after_words words (block_after v c [] []) ≡ Ok (block_after v c lists [])
unfolding Fills
filled v c words [] h e few = ap (λ (us : List (List ℕ)). after_words us (block_after v c [] [])) (nothing_said words v e)
filled v c words (l ∷ ls) h e few = fills v c words [] [] l ls (and-left _ _ h) (and-right _ _ h) (e ∙ says-list l ls) few
