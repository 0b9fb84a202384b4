-- The text of a reply has one line that tells what kind it is.
use Rattle.std.proofs.Common.{◌≡◌, ℕ, ◌+◌, ◌≤◌, Bool, true, false, cond, ◌&&◌, ◌==◌, List, [], ◌∷◌, ◌++◌, map, length, arith, refl, sym, ap, ◌∙◌, append_assoc, zero-lt-suc, flat_map}
use Rattle.std.specs.Prelude.{codes, bytes_eq, count_by, nat_le, nat_lt, Option, Some, None, option_map, option_to_list}
use Rattle.std.specs.List.{AllByRecursion, join_with_byte, list_all}
use Rattle.std.proofs.lemmas.Bool.{and_parts, leb-true, ltb-true}
use Rattle.std.proofs.lemmas.List.Concat.{flat_map-cons}
use Rattle.std.proofs.lemmas.List.Sums.{sum_by-cons, sum_by-append}
use Rattle.mal_base.specs.Literals.{literal}
use Rattle.mal_base.specs.Names.{is_name}
use Rattle.mal_base.specs.NumberedClause.{Line}
use Rattle.mal_revision.specs.Posted.{Posted}
use Rattle.spec_hall.specs.Events.{Event}
use Rattle.spec_hall.specs.Own.{own}
use Rattle.spec_job.specs.KeyedJob.{Key}
use Rattle.spec_job.specs.Replies.{body_of}
use Rattle.spec_job.specs.SoloMachine.{SoloMachine, solo}
use Rattle.spec_lrat.specs.Written.{words_of_ids, words_of_lits}
use Rattle.mal_base.specs.declared.profile.Profile.{Profile}
use Rattle.mal_base.specs.declared.profile.Profile.TheVariants.{Plain, Lean}
use Rattle.spec_text.specs.Asks.{profile_words}
use Rattle.spec_report.specs.Replies.{ReplyBody, Model, Proof, AllSpent, AllStarved, head_words, model_words, proof_row, reply_text, told_rows}
use Rattle.spec_run.specs.Complete.{key_of_job}
use Rattle.spec_run.specs.Run.{job_replies, replies, replies_from, text_or_none}
use Rattle.spec_script.specs.Formed.{IsScript, MayAllFollow}
use Rattle.mal_base.specs.Limits.{limits}
use Rattle.spec_script.specs.Script.{ScriptedJob, Scripted, revisions}
use Rattle.spec_text.specs.Inputs.{lines_of}
use Rattle.spec_text.specs.Lines.{AreClean, AreRows, IsClean, IsRow, text_of}
use Rattle.spec_text.specs.Numbers.{decimal_word, literal_word}
use Rattle.spec_text.proofs.Again.{no_end_in_line, text_of-cons}
use Rattle.spec_text.proofs.Clean.{decimals_are_clean, literals_are_clean}
use Rattle.spec_text.proofs.Names.{name-clean}
use Rattle.spec_text.proofs.Read.{lines_of_at}
use Rattle.mal_answer.specs.Summaries.{AreCounted, RepliesAreCounted, all_told, is_model, is_refutation, is_unknown, lines_summary, lines_that_are, summary_line, told_from, told_to}

-- a word whose bytes are no blanks
bytes-clean : (word : List ℕ) → list_all (λ b. nat_le 33 b) word ≡ true → AllByRecursion (λ b. 33 ≤ b) word
bytes-clean [] h = tt
bytes-clean (b ∷ bs) h =
    let both = and_parts (nat_le 33 b) (list_all (λ x. nat_le 33 x) bs) h in
    (leb-true 33 b both.0, bytes-clean bs both.1)

word-clean : (word : List ℕ) → nat_lt 0 (length word) ≡ true → list_all (λ b. nat_le 33 b) word ≡ true → IsClean word
word-clean word some h = (ltb-true 0 (length word) some, bytes-clean word h)

zero-clean : IsClean (codes "0")
zero-clean = word-clean (codes "0") refl refl

-- lists of words one after the other
both-clean : (xs ys : List (List ℕ)) → AreClean xs → AreClean ys → AreClean (xs ++ ys)
both-clean [] ys h k = k
both-clean (x ∷ xs) ys h k = (h.0, both-clean xs ys h.1 k)

-- the words of numbers with the word 0 after them
closed-clean : (word : ℕ → List ℕ) → ((n : ℕ) → IsClean (word n)) → (ns : List ℕ) → AreClean (map word ns ++ codes "0" ∷ [])
closed-clean word each [] = (zero-clean, tt)
closed-clean word each (n ∷ ns) = (each n, closed-clean word each ns)

model-clean : (var : ℕ) (values : List Bool) → AreClean (model_words var values ++ codes "0" ∷ [])
model-clean var [] = (zero-clean, tt)
model-clean var (b ∷ bs) = (literals_are_clean (literal var b), model-clean (var + 1) bs)

-- the words of the rows of what is told, after the first of each
abbrev line_words : Line → List (List ℕ)
line_words l = decimal_word l.id ∷ (words_of_lits l.lits ++ words_of_ids l.hints)

abbrev values_words : List Bool → List (List ℕ)
values_words values = model_words 1 values ++ codes "0" ∷ []

abbrev failed_words : List ℕ → List (List ℕ)
failed_words failed = map literal_word failed ++ codes "0" ∷ []

abbrev spent_words : ℕ → List (List ℕ)
spent_words n = codes "spent" ∷ decimal_word n ∷ []

abbrev starved_words : List (List ℕ)
starved_words = codes "starved" ∷ codes "3" ∷ []

-- a row of one word and others
row-of : (word : List ℕ) (words : List (List ℕ)) → IsClean word → AreClean words → IsRow (word ∷ words)
row-of word words h k = (zero-lt-suc (length words), (h, k))

lines-rows : (lines : List Line) → AreRows (map proof_row lines)
lines-rows [] = tt
lines-rows (l ∷ ls) =
    let words : AreClean (line_words l) = (decimals_are_clean l.id, both-clean (words_of_lits l.lits) (words_of_ids l.hints) (closed-clean literal_word literals_are_clean l.lits) (closed-clean decimal_word decimals_are_clean l.hints)) in
    (row-of (codes "l") (line_words l) (word-clean (codes "l") refl refl) words, lines-rows ls)

-- the row that tells a kind
kind-row : (kind : List ℕ) → IsClean kind → IsRow (codes "s" ∷ kind ∷ [])
kind-row kind h = row-of (codes "s") (kind ∷ []) (word-clean (codes "s") refl refl) (h, tt)

unknown-row : IsRow (codes "s" ∷ codes "UNKNOWN" ∷ [])
unknown-row = kind-row (codes "UNKNOWN") (word-clean (codes "UNKNOWN") refl refl)

told-rows : (told : ReplyBody) → AreRows (told_rows told)
told-rows (Model values) =
    (kind-row (codes "SATISFIABLE") (word-clean (codes "SATISFIABLE") refl refl), (row-of (codes "v") (values_words values) (word-clean (codes "v") refl refl) (model-clean 1 values), tt))
told-rows (Proof failed lines) =
    (kind-row (codes "UNSATISFIABLE") (word-clean (codes "UNSATISFIABLE") refl refl), (row-of (codes "k") (failed_words failed) (word-clean (codes "k") refl refl) (closed-clean literal_word literals_are_clean failed), lines-rows lines))
told-rows (AllSpent n) =
    (unknown-row, (row-of (codes "u") (spent_words n) (word-clean (codes "u") refl refl) (word-clean (codes "spent") refl refl, (decimals_are_clean n, tt)), tt))
told-rows AllStarved =
    (unknown-row, (row-of (codes "u") starved_words (word-clean (codes "u") refl refl) (word-clean (codes "starved") refl refl, (word-clean (codes "3") refl refl, tt)), tt))

profile-clean : (profile : Profile) → AreClean (profile_words profile)
profile-clean Plain = tt
profile-clean Lean = (decimals_are_clean 2, tt)

-- the lines of a text before another text
lines-before : (rows : List (List (List ℕ))) (rest : List ℕ) → AreRows rows → lines_of (text_of rows ++ rest) ≡ map (join_with_byte 32) rows ++ lines_of rest
lines-before [] rest h = refl
lines-before (row ∷ rows) rest h =
    ap (λ (text : List ℕ). lines_of (text ++ rest)) (text_of-cons row rows)
    ∙ ap lines_of (append_assoc (join_with_byte 32 row) (10 ∷ text_of rows) rest)
    ∙ lines_of_at (join_with_byte 32 row) (text_of rows ++ rest) (no_end_in_line row h.0.1)
    ∙ ap (λ (lines : List (List ℕ)). join_with_byte 32 row ∷ lines) (lines-before rows rest h.1)

-- how many rows are a line
abbrev rows_that_are : List ℕ → List (List (List ℕ)) → ℕ
rows_that_are line rows = count_by (bytes_eq line) (map (join_with_byte 32) rows)

text-counted : (line : List ℕ) (rows : List (List (List ℕ))) (rest : List ℕ) → AreRows rows → lines_that_are line (text_of rows ++ rest) ≡ rows_that_are line rows + lines_that_are line rest
text-counted line rows rest h =
    ap (λ (lines : List (List ℕ)). count_by (bytes_eq line) lines) (lines-before rows rest h)
    ∙ sum_by-append (λ (x : List ℕ). cond (bytes_eq line x) 1 0) (map (join_with_byte 32) rows) (lines_of rest)

row-counted : (line : List ℕ) (row : List (List ℕ)) (rows : List (List (List ℕ))) → rows_that_are line (row ∷ rows) ≡ cond (bytes_eq line (join_with_byte 32 row)) 1 0 + rows_that_are line rows
row-counted line row rows = sum_by-cons (λ (x : List ℕ). cond (bytes_eq line x) 1 0) (join_with_byte 32 row) (map (join_with_byte 32) rows)

-- a line that begins with the letter s is no row that begins with another
other-row : (tail word : List ℕ) (b : ℕ) (words : List (List ℕ)) → (115 == b) ≡ false → bytes_eq (115 ∷ tail) (join_with_byte 32 ((b ∷ word) ∷ words)) ≡ false
other-row tail word b [] e = ap (λ (t : Bool). t && bytes_eq tail word) e
other-row tail word b (w ∷ ws) e = ap (λ (t : Bool). t && bytes_eq tail (word ++ 32 ∷ join_with_byte 32 (w ∷ ws))) e

none-more : (n : ℕ) → 0 + n ≡ n
none-more n = omega arith

other-passed : (tail word : List ℕ) (b : ℕ) (words : List (List ℕ)) (rows : List (List (List ℕ))) → (115 == b) ≡ false → rows_that_are (115 ∷ tail) (((b ∷ word) ∷ words) ∷ rows) ≡ rows_that_are (115 ∷ tail) rows
other-passed tail word b words rows e =
    row-counted (115 ∷ tail) ((b ∷ word) ∷ words) rows
    ∙ ap (λ (t : Bool). cond t 1 0 + rows_that_are (115 ∷ tail) rows) (other-row tail word b words e)
    ∙ none-more (rows_that_are (115 ∷ tail) rows)

lines-passed : (tail : List ℕ) (lines : List Line) → rows_that_are (115 ∷ tail) (map proof_row lines) ≡ 0
lines-passed tail [] = refl
lines-passed tail (l ∷ ls) = other-passed tail [] 108 (line_words l) (map proof_row ls) refl ∙ lines-passed tail ls

-- the word that tells the kind of a reply, in the line `s ..`
abbrev kind_of : ReplyBody → List ℕ
kind_of (Model values) = codes "SATISFIABLE"
kind_of (Proof failed lines) = codes "UNSATISFIABLE"
kind_of (AllSpent n) = codes "UNKNOWN"
kind_of AllStarved = codes "UNKNOWN"

abbrev line_for : List ℕ → List ℕ
line_for word = 115 ∷ 32 ∷ word

abbrev one_if : List ℕ → ReplyBody → ℕ
one_if word told = cond (bytes_eq word (kind_of told)) 1 0

-- the first of the rows of a reply tells its kind, and no other begins with its letter
kind-counted : (word kind : List ℕ) (rows : List (List (List ℕ))) → rows_that_are (line_for word) rows ≡ 0 → rows_that_are (line_for word) ((codes "s" ∷ kind ∷ []) ∷ rows) ≡ cond (bytes_eq word kind) 1 0
kind-counted word kind rows none = let one = row-counted (line_for word) (codes "s" ∷ kind ∷ []) rows in omega arith

told-counted : (word : List ℕ) (told : ReplyBody) → rows_that_are (line_for word) (told_rows told) ≡ one_if word told
told-counted word (Model values) = kind-counted word (codes "SATISFIABLE") ((codes "v" ∷ values_words values) ∷ []) (other-passed (32 ∷ word) [] 118 (values_words values) [] refl)
told-counted word (Proof failed lines) =
    kind-counted word (codes "UNSATISFIABLE") ((codes "k" ∷ failed_words failed) ∷ map proof_row lines) (other-passed (32 ∷ word) [] 107 (failed_words failed) (map proof_row lines) refl ∙ lines-passed (32 ∷ word) lines)
told-counted word (AllSpent n) = kind-counted word (codes "UNKNOWN") ((codes "u" ∷ spent_words n) ∷ []) (other-passed (32 ∷ word) [] 117 (spent_words n) [] refl)
told-counted word AllStarved = kind-counted word (codes "UNKNOWN") ((codes "u" ∷ starved_words) ∷ []) (other-passed (32 ∷ word) [] 117 starved_words [] refl)

reply-counted : (word tenant job : List ℕ) (r : ℕ) (profile : Profile) (told : ReplyBody) (rest : List ℕ) → is_name tenant ≡ true → is_name job ≡ true → lines_that_are (line_for word) (reply_text tenant job r profile told ++ rest) ≡ one_if word told + lines_that_are (line_for word) rest
unfolding reply_text head_words
reply-counted word tenant job r profile told rest h k =
    let head : List (List ℕ) = tenant ∷ job ∷ decimal_word r ∷ profile_words profile in
    let clean : AreClean head = (name-clean tenant h, (name-clean job k, (decimals_are_clean r, profile-clean profile))) in
    let rows : AreRows ((codes "r" ∷ head) ∷ told_rows told) = (row-of (codes "r") head (word-clean (codes "r") refl refl) clean, told-rows told) in
    text-counted (line_for word) ((codes "r" ∷ head) ∷ told_rows told) rest rows
    ∙ ap (λ (n : ℕ). n + lines_that_are (line_for word) rest) (other-passed (32 ∷ word) [] 114 head (told_rows told) refl ∙ told-counted word told)

-- a kind of replies, by the word of their line
pub record IsKind (word : List ℕ) (is : ReplyBody → Bool) : Type 0 where
  pub tells : (told : ReplyBody) → bytes_eq word (kind_of told) ≡ is told

models : IsKind (codes "SATISFIABLE") is_model
models = record { tells = λ told. by told }
  where
    by : (told : ReplyBody) → bytes_eq (codes "SATISFIABLE") (kind_of told) ≡ is_model told
    by (Model values) = refl
    by (Proof failed lines) = refl
    by (AllSpent n) = refl
    by AllStarved = refl

refutations : IsKind (codes "UNSATISFIABLE") is_refutation
refutations = record { tells = λ told. by told }
  where
    by : (told : ReplyBody) → bytes_eq (codes "UNSATISFIABLE") (kind_of told) ≡ is_refutation told
    by (Model values) = refl
    by (Proof failed lines) = refl
    by (AllSpent n) = refl
    by AllStarved = refl

unknowns : IsKind (codes "UNKNOWN") is_unknown
unknowns = record { tells = λ told. by told }
  where
    by : (told : ReplyBody) → bytes_eq (codes "UNKNOWN") (kind_of told) ≡ is_unknown told
    by (Model values) = refl
    by (Proof failed lines) = refl
    by (AllSpent n) = refl
    by AllStarved = refl

moved : (one many rest : ℕ) → one + (many + rest) ≡ one + many + rest
moved one many rest = omega arith

-- the replies of a machine, before another text
from-counted : (word : List ℕ) (is : ReplyBody → Bool) → IsKind word is → (k : Key) → is_name k.tenant ≡ true → is_name k.job ≡ true → (r : ℕ) (s : SoloMachine) (ps : List Posted) (rest : List ℕ) → lines_that_are (line_for word) (replies_from k r s ps ++ rest) ≡ count_by is (told_from r s ps) + lines_that_are (line_for word) rest
from-counted word is kind k h i r s [] rest = sym (none-more (lines_that_are (line_for word) rest))
from-counted word is kind k h i r s (p ∷ ps) rest = by-answer (body_of r s) (from-counted word is kind k h i (r + 1) s ps rest)
  where
    by-answer : (o : Option ReplyBody) → lines_that_are (line_for word) (replies_from k (r + 1) s ps ++ rest) ≡ count_by is (told_from (r + 1) s ps) + lines_that_are (line_for word) rest → lines_that_are (line_for word) ((text_or_none (option_map (reply_text k.tenant k.job r s.ask.profile) o) ++ replies_from k (r + 1) s ps) ++ rest) ≡ count_by is (option_to_list o ++ told_from (r + 1) s ps) + lines_that_are (line_for word) rest
    by-answer None behind = behind
    by-answer (Some told) behind =
        ap (λ (text : List ℕ). lines_that_are (line_for word) text) (append_assoc (reply_text k.tenant k.job r s.ask.profile told) (replies_from k (r + 1) s ps) rest)
        ∙ reply-counted word k.tenant k.job r s.ask.profile told (replies_from k (r + 1) s ps ++ rest) h i
        ∙ ap (λ (b : Bool). cond b 1 0 + lines_that_are (line_for word) (replies_from k (r + 1) s ps ++ rest)) (kind.tells told)
        ∙ ap (λ (n : ℕ). cond (is told) 1 0 + n) behind
        ∙ moved (cond (is told) 1 0) (count_by is (told_from (r + 1) s ps)) (lines_that_are (line_for word) rest)
        ∙ ap (λ (n : ℕ). n + lines_that_are (line_for word) rest) (sym (sum_by-cons (λ (x : ReplyBody). cond (is x) 1 0) told (told_from (r + 1) s ps)))

-- those to the jobs of a script
jobs-counted : (word : List ℕ) (is : ReplyBody → Bool) → IsKind word is → (history : List Event) (before js : List ScriptedJob) → MayAllFollow limits before js → lines_that_are (line_for word) (flat_map (job_replies history) js) ≡ count_by is (flat_map (told_to history) js)
jobs-counted word is kind history before [] h = refl
jobs-counted word is kind history before (j ∷ js) h =
    ap (λ (text : List ℕ). lines_that_are (line_for word) text) (flat_map-cons (job_replies history) j js)
    ∙ from-counted word is kind (key_of_job j) h.0.formed.tenant h.0.formed.name 1 (solo (own (key_of_job j) history)) (revisions j) (flat_map (job_replies history) js)
    ∙ ap (λ (n : ℕ). count_by is (told_to history j) + n) (jobs-counted word is kind history (before ++ j ∷ []) js h.1)
    ∙ sym (sum_by-append (λ (x : ReplyBody). cond (is x) 1 0) (told_to history j) (flat_map (told_to history) js))
    ∙ ap (λ (told : List ReplyBody). count_by is told) (sym (flat_map-cons (told_to history) j js))

-- each reply is of one kind
one-kind : (told : ReplyBody) → cond (is_model told) 1 0 + cond (is_refutation told) 1 0 + cond (is_unknown told) 1 0 ≡ 1
one-kind (Model values) = refl
one-kind (Proof failed lines) = refl
one-kind (AllSpent n) = refl
one-kind AllStarved = refl

kinds-summed : (told : List ReplyBody) → count_by is_model told + count_by is_refutation told + count_by is_unknown told ≡ length told
kinds-summed [] = refl
kinds-summed (b ∷ bs) =
    let model = sum_by-cons (λ (x : ReplyBody). cond (is_model x) 1 0) b bs in
    let refutation = sum_by-cons (λ (x : ReplyBody). cond (is_refutation x) 1 0) b bs in
    let unknown = sum_by-cons (λ (x : ReplyBody). cond (is_unknown x) 1 0) b bs in
    let one = one-kind b in
    let rest = kinds-summed bs in
    omega arith

pub replies-counted : RepliesAreCounted
unfolding replies
replies-counted s history formed = record {
  models = jobs-counted (codes "SATISFIABLE") is_model models history [] s.jobs formed;
  refutations = jobs-counted (codes "UNSATISFIABLE") is_refutation refutations history [] s.jobs formed;
  unknowns = jobs-counted (codes "UNKNOWN") is_unknown unknowns history [] s.jobs formed;
  all = kinds-summed (all_told s history);
}

-- so the summary of the text is that of the replies
pub summaries-agree : (jobs : ℕ) (s : Scripted) (history : List Event) → IsScript limits s → lines_summary jobs (replies s history) ≡ summary_line jobs (all_told s history)
unfolding lines_summary summary_line
summaries-agree jobs s history formed =
    let counted : AreCounted (replies s history) (all_told s history) = replies-counted s history formed in
    rw (counted.models, counted.refutations, counted.unknowns) refl
