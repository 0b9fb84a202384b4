-- The lines of what is told: they can be written, and tell it.
use Rattle.std.proofs.Common.{◌≡◌, ℕ, ◌+◌, ◌<◌, ◌≤◌, ◌^◌, Bool, true, false, List, [], ◌∷◌, ◌++◌, map, length, codes, refl, sym, ap, ap₂, ◌∙◌, subst, arith, append_assoc}
use Rattle.std.specs.Prelude.{◌&&◌, nat_le, nat_lt}
use Rattle.std.specs.List.{AllByRecursion, list_all}
use Rattle.std.proofs.lemmas.Bool.{leb-true, ltb-true, and_parts}
use Rattle.std.proofs.lemmas.List.{append_cancel_right}
use Rattle.mal_base.specs.Limits.{greatest_variable}
use Rattle.mal_base.specs.Literals.{IsLiteral, literal}
use Rattle.mal_base.specs.NumberedClause.{Line}
use Rattle.spec_text.specs.Lines.{IsClean, AreClean, IsRow, AreRows}
use Rattle.spec_text.specs.Numbers.{decimal_word, literal_word}
use Rattle.spec_text.proofs.Clean.{decimals_are_clean, decimals_differ, literals_are_clean}
use Rattle.spec_report.specs.Replies.{ReplyBody, Model, Proof, AllSpent, AllStarved, model_words, proof_row, told_rows}
use Rattle.spec_promises.specs.Tells.{IsWritable, CanBeTold}
use Rattle.spec_promises.proofs.Words.{head-same, tail-same, literal-same, numbers-same, literals-same, zero-clean, numbers-clean, literals-clean}

-- each line can be written
pub model-clean : (var : ℕ) (bs : List Bool) (rest : List (List ℕ)) → AreClean rest → AreClean (model_words var bs ++ rest)
model-clean var [] rest h = h
model-clean var (b ∷ bs) rest h = (literals_are_clean (literal var b), model-clean (var + 1) bs rest h)

-- words whose bytes are tested
by_test : (word : List ℕ) → list_all (λ b. nat_le 33 b) word ≡ true → AllByRecursion (λ b. 33 ≤ b) word
by_test [] h = tt
by_test (b ∷ bs) h = let both = and_parts (nat_le 33 b) (list_all (λ b. nat_le 33 b) bs) h in (leb-true 33 b both.0, by_test bs both.1)

pub tested : (word : List ℕ) → (nat_lt 0 (length word) && list_all (λ b. nat_le 33 b) word) ≡ true → IsClean word
tested word h = let both = and_parts (nat_lt 0 (length word)) (list_all (λ b. nat_le 33 b) word) h in (ltb-true 0 (length word) both.0, by_test word both.1)

line-row : (line : Line) → IsRow (proof_row line)
line-row line = (omega arith, (tested (codes "l") refl, (decimals_are_clean line.id, subst AreClean (sym (append_assoc (map literal_word line.lits) (codes "0" ∷ []) (map decimal_word line.hints ++ codes "0" ∷ []))) (literals-clean line.lits (codes "0" ∷ (map decimal_word line.hints ++ codes "0" ∷ [])) (zero-clean, numbers-clean line.hints (codes "0" ∷ []) (zero-clean, tt))))))

pub line-rows : (lines : List Line) → AreRows (map proof_row lines)
line-rows [] = tt
line-rows (line ∷ lines) = (line-row line, line-rows lines)

said-row : (word : List ℕ) → IsClean word → IsRow (codes "s" ∷ word ∷ [])
said-row word h = (omega arith, (tested (codes "s") refl, (h, tt)))

pub told-are_rows : (told : ReplyBody) → AreRows (told_rows told)
told-are_rows (Model model) = (said-row (codes "SATISFIABLE") (tested (codes "SATISFIABLE") refl), ((omega arith, (tested (codes "v") refl, model-clean 1 model (codes "0" ∷ []) (zero-clean, tt))), tt))
told-are_rows (Proof failed lines) = (said-row (codes "UNSATISFIABLE") (tested (codes "UNSATISFIABLE") refl), ((omega arith, (tested (codes "k") refl, literals-clean failed (codes "0" ∷ []) (zero-clean, tt))), line-rows lines))
told-are_rows (AllSpent n) = (said-row (codes "UNKNOWN") (tested (codes "UNKNOWN") refl), ((omega arith, (tested (codes "u") refl, (tested (codes "spent") refl, (decimals_are_clean n, tt)))), tt))
told-are_rows AllStarved = (said-row (codes "UNKNOWN") (tested (codes "UNKNOWN") refl), ((omega arith, (tested (codes "u") refl, (tested (codes "starved") refl, (tested (codes "3") refl, tt)))), tt))

-- the values of a model are told by its words
pub model-same : (var : ℕ) (bs cs : List Bool) → 1 ≤ var → var + length bs ≤ greatest_variable + 1 → var + length cs ≤ greatest_variable + 1 → model_words var bs ≡ model_words var cs → bs ≡ cs
model-same var [] [] some low high e = refl
model-same var [] (c ∷ cs) some low high e = absurd (cc)
model-same var (b ∷ bs) [] some low high e = absurd (cc)
model-same var (b ∷ bs) (c ∷ cs) some low high e =
    let short : length (b ∷ bs) ≡ length bs + 1 = omega arith in
    let words : literal_word (literal var b) ≡ literal_word (literal var c) = head-same (literal_word (literal var b)) (literal_word (literal var c)) (model_words (var + 1) bs) (model_words (var + 1) cs) e in
    ap₂ (λ (x : Bool) (xs : List Bool). x ∷ xs)
    (sign-same b c (literal-same (literal var b) (literal var c) (in_form b (omega arith)) (in_form c (omega arith)) words))
    (model-same (var + 1) bs cs (omega arith) (omega arith) (omega arith) (tail-same (literal_word (literal var b)) (literal_word (literal var c)) (model_words (var + 1) bs) (model_words (var + 1) cs) e))
  where
    in_form : (x : Bool) → var ≤ greatest_variable → IsLiteral (literal var x)
    in_form true h = (omega arith, omega arith)
    in_form false h = (omega arith, omega arith)

    sign-same : (x y : Bool) → literal var x ≡ literal var y → x ≡ y
    sign-same true true q = refl
    sign-same true false q = absurd (omega (arith, q))
    sign-same false true q = absurd (omega (arith, q))
    sign-same false false q = refl

-- a line of a proof is told by its words
line-same : (a b : Line) → IsWritable a → IsWritable b → proof_row a ≡ proof_row b → a ≡ b
line-same a b h k e =
    let words : decimal_word a.id ∷ ((map literal_word a.lits ++ codes "0" ∷ []) ++ (map decimal_word a.hints ++ codes "0" ∷ [])) ≡ decimal_word b.id ∷ ((map literal_word b.lits ++ codes "0" ∷ []) ++ (map decimal_word b.hints ++ codes "0" ∷ [])) = cc in
    let rest : (map literal_word a.lits ++ codes "0" ∷ []) ++ (map decimal_word a.hints ++ codes "0" ∷ []) ≡ (map literal_word b.lits ++ codes "0" ∷ []) ++ (map decimal_word b.hints ++ codes "0" ∷ []) = cc in
    let parts = literals-same a.lits b.lits (map decimal_word a.hints ++ codes "0" ∷ []) (map decimal_word b.hints ++ codes "0" ∷ []) h.lits k.lits (sym (append_assoc (map literal_word a.lits) (codes "0" ∷ []) (map decimal_word a.hints ++ codes "0" ∷ [])) ∙ (rest ∙ append_assoc (map literal_word b.lits) (codes "0" ∷ []) (map decimal_word b.hints ++ codes "0" ∷ []))) in
    let hints : a.hints ≡ b.hints = numbers-same a.hints b.hints h.hints k.hints (append_cancel_right _ _ _ parts.1) in
    let lits : a.lits ≡ b.lits = parts.0 in
    let word : decimal_word a.id ≡ decimal_word b.id = cc in
    let id : a.id ≡ b.id = decimals_differ a.id b.id h.id k.id word in
    made id lits hints
  where
    line : ℕ → List ℕ → List ℕ → Line
    line id lits hints = record { id = id; lits = lits; hints = hints }

    made : a.id ≡ b.id → a.lits ≡ b.lits → a.hints ≡ b.hints → a ≡ b
    made x y z = ap (λ (n : ℕ). line n a.lits a.hints) x ∙ (ap (λ (ls : List ℕ). line b.id ls a.hints) y ∙ ap (λ (hs : List ℕ). line b.id b.lits hs) z)

-- lines that do not begin with one of a proof
unfoldable pub first_byte : List (List (List ℕ)) → ℕ
first_byte [] = 0
first_byte ([] ∷ rows) = 0
first_byte (([] ∷ words) ∷ rows) = 0
first_byte (((b ∷ bs) ∷ words) ∷ rows) = b

abbrev pub NoLine : List (List (List ℕ)) → Type 0
NoLine rows = first_byte rows ≡ 108 → ⊥

line-first : (line : Line) (rows : List (List (List ℕ))) → first_byte (proof_row line ∷ rows) ≡ 108
unfolding first_byte
line-first line rows = refl

-- lines of a proof before such lines are told, and so are these
pub lines-same : (ls ms : List Line) (rest others : List (List (List ℕ))) → AllByRecursion IsWritable ls → AllByRecursion IsWritable ms → NoLine rest → NoLine others → map proof_row ls ++ rest ≡ map proof_row ms ++ others → (ls ≡ ms) × (rest ≡ others)
lines-same [] [] rest others h k p q e = (refl, e)
lines-same [] (m ∷ ms) rest others h k p q e = absurd (p (ap first_byte e ∙ line-first m (map proof_row ms ++ others)))
lines-same (l ∷ ls) [] rest others h k p q e = absurd (q (sym (ap first_byte e) ∙ line-first l (map proof_row ls ++ rest)))
lines-same (l ∷ ls) (m ∷ ms) rest others h k p q e =
    let one : l ≡ m = line-same l m h.0 k.0 (head-same (proof_row l) (proof_row m) (map proof_row ls ++ rest) (map proof_row ms ++ others) e) in
    let more = lines-same ls ms rest others h.1 k.1 p q (tail-same (proof_row l) (proof_row m) (map proof_row ls ++ rest) (map proof_row ms ++ others) e) in
    (ap₂ (λ (x : Line) (xs : List Line). x ∷ xs) one more.0, more.1)

-- what tells lines of one kind from those of another
unfoldable pub second_length : List (List (List ℕ)) → ℕ
second_length [] = 0
second_length ([] ∷ rows) = 0
second_length ((first ∷ []) ∷ rows) = 0
second_length ((first ∷ second ∷ words) ∷ rows) = length second

unfoldable pub head_length : List (List (List ℕ)) → ℕ
head_length [] = 0
head_length (row ∷ rows) = length row

unfoldable pub after_first : List (List (List ℕ)) → List (List (List ℕ))
after_first [] = []
after_first (row ∷ rows) = rows

-- what is told is told by its lines, before lines of another kind: those of a model, of a proof, of spent slices
pub models-same : (x y : List Bool) (rest others : List (List (List ℕ))) → CanBeTold (Model x) → CanBeTold (Model y) → told_rows (Model x) ++ rest ≡ told_rows (Model y) ++ others → (Model x ≡ Model y) × (rest ≡ others)
models-same x y rest others h k e =
    let words : model_words 1 x ++ codes "0" ∷ [] ≡ model_words 1 y ++ codes "0" ∷ [] = cc in
    let same : rest ≡ others = cc in
    (ap Model (model-same 1 x y (omega arith) (omega (arith, h)) (omega (arith, k)) (append_cancel_right _ _ _ words)), same)

pub proofs-same : (f g : List ℕ) (x y : List Line) (rest others : List (List (List ℕ))) → CanBeTold (Proof f x) → CanBeTold (Proof g y) → NoLine rest → NoLine others → told_rows (Proof f x) ++ rest ≡ told_rows (Proof g y) ++ others → (f ≡ g) × (x ≡ y) × (rest ≡ others)
proofs-same f g x y rest others h k p q e =
    let words : map literal_word f ++ codes "0" ∷ [] ≡ map literal_word g ++ codes "0" ∷ [] = cc in
    let same : map proof_row x ++ rest ≡ map proof_row y ++ others = cc in
    let failed = literals-same f g [] [] h.0 k.0 words in
    let lines = lines-same x y rest others h.1 k.1 p q same in
    (failed.0, lines.0, lines.1)

pub spent-same : (m n : ℕ) (rest others : List (List (List ℕ))) → m < 2 ^ 64 → n < 2 ^ 64 → told_rows (AllSpent m) ++ rest ≡ told_rows (AllSpent n) ++ others → (m ≡ n) × (rest ≡ others)
spent-same m n rest others h k e =
    let word : decimal_word m ≡ decimal_word n = cc in
    let same : rest ≡ others = cc in
    (decimals_differ m n h k word, same)

-- and these begin otherwise
pub told-same : (x y : ReplyBody) (rest others : List (List (List ℕ))) → CanBeTold x → CanBeTold y → NoLine rest → NoLine others → told_rows x ++ rest ≡ told_rows y ++ others → (x ≡ y) × (rest ≡ others)
unfolding second_length after_first
told-same (Model x) (Model y) rest others h k p q e = models-same x y rest others h k e
told-same (Model x) (Proof g y) rest others h k p q e = let same : 11 ≡ 13 = ap second_length e in absurd (omega (arith, same))
told-same (Model x) (AllSpent n) rest others h k p q e = let same : 11 ≡ 7 = ap second_length e in absurd (omega (arith, same))
told-same (Model x) AllStarved rest others h k p q e = let same : 11 ≡ 7 = ap second_length e in absurd (omega (arith, same))
told-same (Proof f x) (Model y) rest others h k p q e = let same : 13 ≡ 11 = ap second_length e in absurd (omega (arith, same))
told-same (Proof f x) (Proof g y) rest others h k p q e = (let same = proofs-same f g x y rest others h k p q e in (ap₂ (λ (ls : List ℕ) (xs : List Line). Proof ls xs) same.0 same.1, same.2))
told-same (Proof f x) (AllSpent n) rest others h k p q e = let same : 13 ≡ 7 = ap second_length e in absurd (omega (arith, same))
told-same (Proof f x) AllStarved rest others h k p q e = let same : 13 ≡ 7 = ap second_length e in absurd (omega (arith, same))
told-same (AllSpent m) (Model y) rest others h k p q e = let same : 7 ≡ 11 = ap second_length e in absurd (omega (arith, same))
told-same (AllSpent m) (Proof g y) rest others h k p q e = let same : 7 ≡ 13 = ap second_length e in absurd (omega (arith, same))
told-same (AllSpent m) (AllSpent n) rest others h k p q e = (let same = spent-same m n rest others h k e in (ap AllSpent same.0, same.1))
told-same (AllSpent m) AllStarved rest others h k p q e = let same : 5 ≡ 7 = ap (λ (rows : List (List (List ℕ))). second_length (after_first rows)) e in absurd (omega (arith, same))
told-same AllStarved (Model y) rest others h k p q e = let same : 7 ≡ 11 = ap second_length e in absurd (omega (arith, same))
told-same AllStarved (Proof g y) rest others h k p q e = let same : 7 ≡ 13 = ap second_length e in absurd (omega (arith, same))
told-same AllStarved (AllSpent n) rest others h k p q e = let same : 7 ≡ 5 = ap (λ (rows : List (List (List ℕ))). second_length (after_first rows)) e in absurd (omega (arith, same))
told-same AllStarved AllStarved rest others h k p q e = let same : rest ≡ others = cc in (refl, same)
