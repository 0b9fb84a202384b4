-- Words spell the line that they are read as, and no other.
use Rattle.std.proofs.Common.{◌≡◌, ℕ, zero, suc, ◌<◌, ◌≤◌, Bool, true, false, cond, leb, List, [], ◌∷◌, ◌++◌, map, length, ℤ, pos, negsuc, Option, Some, None, Ok, Err, refl, sym, ap, ap₂, ◌∙◌, subst, arith, codes, append_assoc}
use Rattle.std.specs.Prelude.{bytes_eq}
use Rattle.std.specs.List.{list_any, AllByRecursion}
use Rattle.std.proofs.lemmas.Slice.Eq.{bytes_eq-Decides}
use Rattle.std.proofs.lemmas.List.{map-append}
use Rattle.std.proofs.lemmas.Bool.{eqb-true, lt-leb, leb-false}
use Rattle.mal_base.specs.Limits.{limits}
use Rattle.spec_text.specs.Numbers.{NumberWord, number_of, number_in}
use Rattle.spec_text.specs.Numbers.NumberWord.{NotANumber, TooLarge, Number}
use Rattle.spec_logic.specs.Refutation.{ProofLine}
use Rattle.spec_logic.specs.Refutation.ProofLine.{Add, Delete}
use Rattle.spec_dimacs.specs.Merged.{clause_of}
use Rattle.spec_lrat.specs.Reading.{greatest_id, behind_l, is_negative, says_zero, is_end, before_end, behind_end, before_all, number_said, numbers_of, literal_said, literals_of, id_said, are_closed, ids_of, deleting, adding, added, behind_id, with_id, reading_of, reading}
use Rattle.spec_lrat.specs.Reading.Fault.{BadNumber, MissingZero, IdNotRising, NegativeHint}
use Rattle.spec_lrat.specs.Grammar.{IsServed, SayClosed, SaysId, SayLiterals, SpellsAdd, SpellsDelete, Spells}
use Rattle.spec_lrat.specs.Laws.{SpellsWhatIsRead}
use Rattle.spec_lrat.proofs.MergedLemmas.{one_clause}
use Rattle.spec_lrat.proofs.WordLemmas.{zero-any, zero-said, number-bound, no-d, id-said, id-back, literal-said, literal-back, literal-no_zero}

-- the numbers that words say are read
numbers-read : (words : List (List ℕ)) (zs : List ℤ) → map (λ w. number_in w greatest_id) words ≡ map (λ z. Number z) zs → numbers_of words ≡ Some zs
numbers-read [] [] e = refl
numbers-read [] (z ∷ zs) e = absurd (cc)
numbers-read (w ∷ ws) [] e = absurd (cc)
numbers-read (w ∷ ws) (z ∷ zs) e =
    let first : number_in w greatest_id ≡ Number z = cc in
    let others : map (λ w. number_in w greatest_id) ws ≡ map (λ z. Number z) zs = cc in
    let rest : numbers_of ws ≡ Some zs = numbers-read ws zs others in
    rw (first, rest) refl

-- and what is read are the numbers that they say
number-back : (n : NumberWord) (z : ℤ) → number_said n ≡ Some z → n ≡ Number z
number-back NotANumber z e = absurd (cc)
number-back TooLarge z e = absurd (cc)
number-back (Number y) z e = let same : y ≡ z = cc in ap (λ (x : ℤ). Number x) same

pub record Both {A : Type 0} (o : Option A) (p : Option (List A)) (xs : List A) : Type 0 where
  pub first : A
  pub rest : List A
  pub one : o ≡ Some first
  pub others : p ≡ Some rest
  pub all : first ∷ rest ≡ xs

both-read : {A : Type 0} (o : Option A) (p : Option (List A)) (xs : List A) → before_all o p ≡ Some xs → Both o p xs
both-read None p xs e = absurd (cc)
both-read (Some x) None xs e = absurd (cc)
both-read (Some x) (Some ys) xs e = record { first = x; rest = ys; one = refl; others = refl; all = cc }

numbers-back : (words : List (List ℕ)) (zs : List ℤ) → numbers_of words ≡ Some zs → map (λ w. number_in w greatest_id) words ≡ map (λ z. Number z) zs
numbers-back [] zs e = let none : [] ≡ zs = cc in ap (map (λ z. Number z)) none
numbers-back (w ∷ ws) zs e =
    let b : Both (number_said (number_in w greatest_id)) (numbers_of ws) zs = both-read (number_said (number_in w greatest_id)) (numbers_of ws) zs e in
    let one : number_in w greatest_id ≡ Number b.first = number-back (number_in w greatest_id) b.first b.one in
    let rest : map (λ w. number_in w greatest_id) ws ≡ map (λ z. Number z) b.rest = numbers-back ws b.rest b.others in
    subst (λ (xs : List ℤ). map (λ w. number_in w greatest_id) (w ∷ ws) ≡ map (λ z. Number z) xs) b.all (ap₂ (λ (x : NumberWord) (xs : List NumberWord). x ∷ xs) one rest)

-- ids with a 0 after them
ids-closed : (ids : List ℕ) → AllByRecursion (λ id. 1 ≤ id) ids → are_closed (map pos ids ++ pos 0 ∷ []) ≡ true
ids-closed [] h = refl
ids-closed (zero ∷ ids) h = absurd (omega (arith, h.0))
ids-closed (suc k ∷ ids) h = ids-closed ids h.1

ids-same : (ids : List ℕ) → AllByRecursion (λ id. 1 ≤ id) ids → ids_of (map pos ids ++ pos 0 ∷ []) ≡ ids
ids-same [] h = refl
ids-same (zero ∷ ids) h = absurd (omega (arith, h.0))
ids-same (suc k ∷ ids) h = ap (λ (xs : List ℕ). suc k ∷ xs) (ids-same ids h.1)

ids-plus : (ids : List ℕ) → list_any is_negative (map pos ids ++ pos 0 ∷ []) ≡ false
ids-plus [] = refl
ids-plus (k ∷ ids) = ids-plus ids

pub record AreIds (zs : List ℤ) : Type 0 where
  pub are : zs ≡ map pos (ids_of zs) ++ pos 0 ∷ []
  pub some : AllByRecursion (λ id. 1 ≤ id) (ids_of zs)

closed-ids : (zs : List ℤ) → are_closed zs ≡ true → list_any is_negative zs ≡ false → AreIds zs
closed-ids [] e n = absurd (cc)
closed-ids (pos zero ∷ []) e n = record { are = refl; some = tt }
closed-ids (pos zero ∷ y ∷ zs) e n = let bad = eqb-true (length (y ∷ zs)) 0 e in absurd (omega arith)
closed-ids (pos (suc k) ∷ zs) e n =
    let rest : AreIds zs = closed-ids zs e n in
    record { are = ap (λ (xs : List ℤ). pos (suc k) ∷ xs) rest.are; some = (omega arith, rest.some) }
closed-ids (negsuc k ∷ zs) e n = absurd (cc)

-- the literals that words say up to a 0 are read, and the words after are left
pub record LitsRead (ls : List ℕ) (words rest : List (List ℕ)) : Type 0 where
  pub lits : literals_of (before_end (words ++ rest)) ≡ Some ls
  pub behind : behind_end (words ++ rest) ≡ rest

lits-read : (ls : List ℕ) (words rest : List (List ℕ)) → SayLiterals words ls → LitsRead ls words rest
lits-read [] [] rest h = let bad = h.0 in absurd (cc)
lits-read [] (w ∷ v ∷ ws) rest h = let bad = h.0 in absurd (cc)
lits-read [] (w ∷ []) rest h =
    let e = h.0 in
    let says : number_in w limits.variables ≡ Number (pos 0) = cc in
    let end : is_end w ≡ true = zero-any w limits.variables ∙ ap says_zero says in
    record { lits = rw end refl; behind = rw end refl }
lits-read (l ∷ ls) [] rest h = let bad = h.0 in absurd (cc)
lits-read (l ∷ ls) (w ∷ ws) rest h =
    let e = h.0 in
    let says : number_in w limits.variables ≡ Number (number_of l) = cc in
    let others : SayClosed limits.variables ws (map number_of ls) = cc in
    let lit : literal_said (number_in w limits.variables) ≡ Some l = literal-said (number_in w limits.variables) l says h.1.0.0 in
    let end : is_end w ≡ false = zero-any w limits.variables ∙ literal-no_zero (number_in w limits.variables) l lit in
    let tail : LitsRead ls ws rest = lits-read ls ws rest (others, h.1.1) in
    record { lits = rw (end, lit, tail.lits) refl; behind = rw end tail.behind }

-- and what is read are the literals that they say
lits-back : (words : List (List ℕ)) (ls : List ℕ) → literals_of words ≡ Some ls → (map (λ w. number_in w limits.variables) words ≡ map (λ z. Number z) (map number_of ls)) × AllByRecursion IsServed ls
lits-back [] ls e = let none : [] ≡ ls = cc in subst (λ (xs : List ℕ). (map (λ w. number_in w limits.variables) [] ≡ map (λ z. Number z) (map number_of xs)) × AllByRecursion IsServed xs) none (refl, tt)
lits-back (w ∷ ws) ls e =
    let b : Both (literal_said (number_in w limits.variables)) (literals_of ws) ls = both-read (literal_said (number_in w limits.variables)) (literals_of ws) ls e in
    let one = literal-back (number_in w limits.variables) b.first (number-bound w limits.variables) b.one in
    let rest = lits-back ws b.rest b.others in
    subst (λ (xs : List ℕ). (map (λ w. number_in w limits.variables) (w ∷ ws) ≡ map (λ z. Number z) (map number_of xs)) × AllByRecursion IsServed xs) b.all (ap₂ (λ (x : NumberWord) (xs : List NumberWord). x ∷ xs) one.0 rest.0, (one.1, rest.1))

-- words that have a 0 are those before it, it, and those after it
pub record HasEnd (words : List (List ℕ)) : Type 0 where
  pub end : List ℕ
  pub is : is_end end ≡ true
  pub cut : words ≡ before_end words ++ end ∷ behind_end words

has-end : (words : List (List ℕ)) → 0 < length (behind_end words) → HasEnd words
has-end [] h = absurd (omega arith)
has-end (w ∷ ws) h = by_end (has-end ws) (is_end w) refl h
  where
    by_end : (0 < length (behind_end ws) → HasEnd ws) → (b : Bool) → is_end w ≡ b → 0 < length (cond b ws (behind_end ws)) → HasEnd (w ∷ ws)
    by_end rest true e k = record { end = w; is = e; cut = rw e refl }
    by_end rest false e k = let r : HasEnd ws = rest k in record { end = r.end; is = r.is; cut = rw e (ap (λ (xs : List (List ℕ)). w ∷ xs) r.cut) }

some-behind : (words : List (List ℕ)) (zs : List ℤ) → numbers_of words ≡ Some zs → are_closed zs ≡ true → 0 < length words
some-behind [] zs e k = let none : [] ≡ zs = cc in absurd (cc)
some-behind (w ∷ ws) zs e k = omega arith

-- a deletion that is spelled is read
delete-read : (last : ℕ) (words : List (List ℕ)) (ids : List ℕ) → SpellsDelete words ids → reading_of last words ≡ Ok (Delete ids)
delete-read last words ids s =
    let id : id_said (number_in s.id_word greatest_id) ≡ Some s.id = id-said (number_in s.id_word greatest_id) s.id s.says_id.0 s.says_id.1 in
    let numbers : numbers_of s.id_words ≡ Some (map pos ids ++ pos 0 ∷ []) = numbers-read s.id_words (map pos ids ++ pos 0 ∷ []) s.says_ids.0 in
    ap (reading_of last) s.row ∙ rw (id, numbers, ids-plus ids, ids-closed ids s.says_ids.1, ids-same ids s.says_ids.1) refl

-- a line that adds and is spelled is read
added-read : (last id : ℕ) (words : List (List ℕ)) (lits : List ℕ) (hints : List ℕ) (clause : Option (List ℕ)) → literals_of (before_end words) ≡ Some lits → numbers_of (behind_end words) ≡ Some (map pos hints ++ pos 0 ∷ []) → AllByRecursion (λ h. 1 ≤ h) hints → last < id → clause_of lits ≡ clause → added last id words ≡ Ok (Add id clause hints)
added-read last id words lits hints clause l n some rising makes = rw (l, n, ids-closed hints some, lt-leb id last rising, ids-plus hints, ids-same hints some, makes) refl

first-not_d : (last id : ℕ) (words lit_words rest : List (List ℕ)) (lits : List ℕ) → SayLiterals lit_words lits → words ≡ lit_words ++ rest → behind_id last id words ≡ added last id words
first-not_d last id words [] rest [] says e = let bad = says.0 in absurd (cc)
first-not_d last id words [] rest (l ∷ ls) says e = let bad = says.0 in absurd (cc)
first-not_d last id words (w ∷ ws) rest [] says e =
    let h = says.0 in
    let one : number_in w limits.variables ≡ Number (pos 0) = cc in
    ap (behind_id last id) e ∙ (rw (no-d w limits.variables (pos 0) one) refl ∙ sym (ap (added last id) e))
first-not_d last id words (w ∷ ws) rest (l ∷ ls) says e =
    let h = says.0 in
    let one : number_in w limits.variables ≡ Number (number_of l) = cc in
    ap (behind_id last id) e ∙ (rw (no-d w limits.variables (number_of l) one) refl ∙ sym (ap (added last id) e))

add-read : (last : ℕ) (words : List (List ℕ)) (id : ℕ) (clause : Option (List ℕ)) (hints : List ℕ) → SpellsAdd last words id clause hints → reading_of last words ≡ Ok (Add id clause hints)
add-read last words id clause hints s =
    let says : id_said (number_in s.id_word greatest_id) ≡ Some id = id-said (number_in s.id_word greatest_id) id s.says_id.0 s.says_id.1 in
    let lits : LitsRead s.lits s.lit_words s.hint_words = lits-read s.lits s.lit_words s.hint_words s.says_lits in
    let numbers : numbers_of s.hint_words ≡ Some (map pos hints ++ pos 0 ∷ []) = numbers-read s.hint_words (map pos hints ++ pos 0 ∷ []) s.says_hints.0 in
    ap (reading_of last) s.row
    ∙ (ap (λ (o : Option ℕ). with_id last o (s.lit_words ++ s.hint_words)) says
    ∙ (first-not_d last id (s.lit_words ++ s.hint_words) s.lit_words s.hint_words s.lits s.says_lits refl
    ∙ added-read last id (s.lit_words ++ s.hint_words) s.lits hints clause lits.lits (ap numbers_of lits.behind ∙ numbers) s.says_hints.1 s.rising ((one_clause s.lits clause).0 s.makes)))

spelled-read : (last : ℕ) (row : List (List ℕ)) (line : ProofLine) → Spells last row line → reading last row ≡ Ok line
spelled-read last row (Add id clause hints) s = add-read last (behind_l row) id clause hints s
spelled-read last row (Delete ids) s = delete-read last (behind_l row) ids s

-- a deletion that is read is spelled
delete-spelled : (last : ℕ) (words : List (List ℕ)) (w d : List ℕ) (rest : List (List ℕ)) (id : ℕ) (line : ProofLine) → words ≡ w ∷ d ∷ rest → bytes_eq d (codes "d") ≡ true → SaysId w id → deleting (numbers_of rest) ≡ Ok line → (row : List (List ℕ)) → behind_l row ≡ words → Spells last row line
delete-spelled last words w d rest id line e is says read row same = by_numbers (numbers_of rest) refl read
  where
    by_form : (zs : List ℤ) → numbers_of rest ≡ Some zs → (n c : Bool) → list_any is_negative zs ≡ n → are_closed zs ≡ c → cond n (Err BadNumber) (cond c (Ok (Delete (ids_of zs))) (Err MissingZero)) ≡ Ok line → Spells last row line
    by_form zs q true c f g k = absurd (cc)
    by_form zs q false false f g k = absurd (cc)
    by_form zs q false true f g k =
        let are : AreIds zs = closed-ids zs g f in
        let gives : Delete (ids_of zs) ≡ line = cc in
        let word : d ≡ codes "d" = (bytes_eq-Decides d (codes "d")).0 is in
        let spelled : SpellsDelete (behind_l row) (ids_of zs) = record {
          id_word = w;
          id = id;
          id_words = rest;
          row = same ∙ (e ∙ ap (λ (x : List ℕ). w ∷ x ∷ rest) word);
          says_id = says;
          says_ids = (numbers-back rest zs q ∙ ap (map (λ z. Number z)) are.are, are.some);
        } in
        subst (Spells last row) gives spelled

    by_numbers : (o : Option (List ℤ)) → numbers_of rest ≡ o → deleting o ≡ Ok line → Spells last row line
    by_numbers None q k = absurd (cc)
    by_numbers (Some zs) q k = by_form zs q (list_any is_negative zs) (are_closed zs) refl refl k

-- a line that adds and is read is spelled
add-spelled : (last : ℕ) (words : List (List ℕ)) (w : List ℕ) (rest : List (List ℕ)) (id : ℕ) (line : ProofLine) → words ≡ w ∷ rest → SaysId w id → added last id rest ≡ Ok line → (row : List (List ℕ)) → behind_l row ≡ words → Spells last row line
add-spelled last words w rest id line e says read row same = by_lits (literals_of (before_end rest)) refl read
  where
    by_form : (ls : List ℕ) (zs : List ℤ) → literals_of (before_end rest) ≡ Some ls → numbers_of (behind_end rest) ≡ Some zs → (c r n : Bool) → are_closed zs ≡ c → leb id last ≡ r → list_any is_negative zs ≡ n → cond c (cond r (Err (IdNotRising last id)) (cond n (Err NegativeHint) (Ok (Add id (clause_of ls) (ids_of zs))))) (Err MissingZero) ≡ Ok line → Spells last row line
    by_form ls zs l q false r n f g h k = absurd (cc)
    by_form ls zs l q true true n f g h k = absurd (cc)
    by_form ls zs l q true false true f g h k = absurd (cc)
    by_form ls zs l q true false false f g h k =
        let are : AreIds zs = closed-ids zs f h in
        let end : HasEnd rest = has-end rest (some-behind (behind_end rest) zs q f) in
        let lits : (map (λ x. number_in x limits.variables) (before_end rest) ≡ map (λ z. Number z) (map number_of ls)) × AllByRecursion IsServed ls = lits-back (before_end rest) ls l in
        let zero_word : number_in end.end limits.variables ≡ Number (pos 0) = zero-said (number_in end.end limits.variables) (sym (zero-any end.end limits.variables) ∙ end.is) in
        let gives : Add id (clause_of ls) (ids_of zs) ≡ line = cc in
        let spelled : SpellsAdd last (behind_l row) id (clause_of ls) (ids_of zs) = record {
          id_word = w;
          lit_words = before_end rest ++ end.end ∷ [];
          hint_words = behind_end rest;
          lits = ls;
          row = same ∙ (e ∙ ap (λ (xs : List (List ℕ)). w ∷ xs) (end.cut ∙ sym (append_assoc (before_end rest) (end.end ∷ []) (behind_end rest))));
          says_id = says;
          rising = leb-false id last g;
          says_lits = (map-append (λ x. number_in x limits.variables) (before_end rest) (end.end ∷ []) ∙ (ap₂ (λ (xs ys : List NumberWord). xs ++ ys) lits.0 (ap (λ (x : NumberWord). x ∷ []) zero_word) ∙ sym (map-append (λ z. Number z) (map number_of ls) (pos 0 ∷ []))), lits.1);
          makes = (one_clause ls (clause_of ls)).1 refl;
          says_hints = (numbers-back (behind_end rest) zs q ∙ ap (map (λ z. Number z)) are.are, are.some);
        } in
        subst (Spells last row) gives spelled

    by_hints : (ls : List ℕ) → literals_of (before_end rest) ≡ Some ls → (o : Option (List ℤ)) → numbers_of (behind_end rest) ≡ o → adding last id (Some ls) o ≡ Ok line → Spells last row line
    by_hints ls l None q k = absurd (cc)
    by_hints ls l (Some zs) q k = by_form ls zs l q (are_closed zs) (leb id last) (list_any is_negative zs) refl refl refl k

    by_lits : (o : Option (List ℕ)) → literals_of (before_end rest) ≡ o → adding last id o (numbers_of (behind_end rest)) ≡ Ok line → Spells last row line
    by_lits None l k = absurd (cc)
    by_lits (Some ls) l k = by_hints ls l (numbers_of (behind_end rest)) refl k

read-spelled : (last : ℕ) (row : List (List ℕ)) (line : ProofLine) → reading last row ≡ Ok line → Spells last row line
read-spelled last row line read = by_words (behind_l row) refl read
  where
    by_first : (w : List ℕ) (rest : List (List ℕ)) (id : ℕ) → behind_l row ≡ w ∷ rest → SaysId w id → behind_id last id rest ≡ Ok line → Spells last row line
    by_first w [] id e says k = add-spelled last (w ∷ []) w [] id line refl says k row e
    by_first w (d ∷ rest) id e says k = by_d (bytes_eq d (codes "d")) refl k
      where
        by_d : (b : Bool) → bytes_eq d (codes "d") ≡ b → cond b (deleting (numbers_of rest)) (added last id (d ∷ rest)) ≡ Ok line → Spells last row line
        by_d true is q = delete-spelled last (w ∷ d ∷ rest) w d rest id line refl is says q row e
        by_d false is q = add-spelled last (w ∷ d ∷ rest) w (d ∷ rest) id line refl says q row e

    by_id : (w : List ℕ) (rest : List (List ℕ)) → behind_l row ≡ w ∷ rest → (o : Option ℕ) → id_said (number_in w greatest_id) ≡ o → with_id last o rest ≡ Ok line → Spells last row line
    by_id w rest e None q k = absurd (cc)
    by_id w rest e (Some id) q k = by_first w rest id e (id-back (number_in w greatest_id) id q) k

    by_words : (words : List (List ℕ)) → behind_l row ≡ words → reading_of last words ≡ Ok line → Spells last row line
    by_words [] e k = absurd (cc)
    by_words (w ∷ rest) e k = by_id w rest e (id_said (number_in w greatest_id)) refl k

pub spells-read : SpellsWhatIsRead
spells-read last row line = (spelled-read last row line, read-spelled last row line)
