-- What a line makes of a feed.
use Rattle.std.proofs.Common.{◌≡◌, ℕ, ◌≤◌, true, false, ◌==◌, ◌||◌, List, [], ◌∷◌, length, map, Option, Some, None, Result, Ok, Err, refl, ap, arith}
use Rattle.std.specs.Prelude.{◌≢◌, bytes_eq, codes, is_some, option_to_list}
use Rattle.std.proofs.lemmas.Bool.Decides.{nat_tests}
use Rattle.std.proofs.lemmas.Option.{slice_get_past}
use Rattle.mal_base.specs.Formulas.{Formulated}
use Rattle.mal_base.specs.declared.limits.Limits.{Limits}
use Rattle.mal_base.specs.declared.line_fault.LineFault.{LineFault}
use Rattle.mal_base.specs.declared.line_fault.LineFault.TheVariants.{BadLine}
use Rattle.spec_text.specs.Numbers.{is_digit}
use Rattle.mal_text.specs.Numbers.{begins_number}
use Rattle.mal_text.proofs.Fronts.{first_of_number}
use Rattle.spec_dimacs.specs.Reading as block
use Rattle.spec_dimacs.specs.Reading.{Block, ◌>>=◌}
use Rattle.spec_script.specs.Script.{Scripted}
use Rattle.spec_script.specs.Reading.{OpenJob, ended_job, in_block, unended, with_block}
use Rattle.spec_script.specs.declared.step.Step.{Step}
use Rattle.mal_script.specs.InPlace.{between}
use Rattle.mal_script.specs.ReadResult.{Fails}
use Rattle.mal_script.specs.declared.fault.LineRefusal.{LineRefusal}
use Rattle.mal_script.specs.declared.fault.LineRefusal.TheVariants as refusal
use Rattle.spec_feed.specs.Reading.{Fed, Feeding, after_row, ended, going_on, in_open_block, inside_job, key_of, of_tenant, outside, put_aside, quiet}
use Rattle.spec_feed.specs.declared.post.FeedPost.{FeedPost}
use Rattle.spec_feed.specs.declared.post.FeedPost.TheVariants.{Takes}
use Rattle.mal_feed.specs.Posting.{StaysInBlock, in_job_of, posting, with_current}

abbrev bad_line : Result Fed LineFault
bad_line = Err BadLine

-- words that are neither one nor four or more
pub other_words : (limits : Limits) (tenant : List ℕ) (words : List (List ℕ)) (s : Feeding) → ((word : List ℕ) → words ≢ word ∷ []) → ((a b c d : List ℕ) (rest : List (List ℕ)) → words ≢ a ∷ b ∷ c ∷ d ∷ rest) → of_tenant limits tenant words s ≡ bad_line
other_words limits tenant [] s one four = refl
other_words limits tenant (a ∷ []) s one four = absurd (one a refl)
other_words limits tenant (a ∷ b ∷ []) s one four = refl
other_words limits tenant (a ∷ b ∷ c ∷ []) s one four = refl
other_words limits tenant (a ∷ b ∷ c ∷ d ∷ rest) s one four = absurd (four a b c d rest refl)

not_c : (byte : ℕ) → (byte == 45 || is_digit byte) ≡ true → (byte == 99) ≡ false
not_c byte h = grind (arith, nat_tests)

not_a : (byte : ℕ) → (byte == 45 || is_digit byte) ≡ true → (byte == 97) ≡ false
not_a byte h = grind (arith, nat_tests)

abbrev fed : Feeding → OpenJob → OpenJob → Option Step → Result Fed LineFault
fed s before after got = Ok (record { left = with_current s after; posts = map (Takes (key_of before.job)) (option_to_list got) })

-- a line of numbers gives the job no step
numbers-quiet : (read : Result Block LineFault) (o : OpenJob) (s : Feeding)
    → ((read >>= λ b. Ok (with_block o b)) >>= λ after. Ok (going_on s o after)) ≡ ((read >>= λ b. Ok (with_block o b)) >>= λ after. Ok (quiet (with_current s after)))
numbers-quiet (Err fault) o s = refl
numbers-quiet (Ok b) o s = ap (fed s o (with_block o b)) (slice_get_past o.job.steps (length o.job.steps) (no_more (length o.job.steps)))
  where
    no_more : (n : ℕ) → n ≤ n
    no_more n = omega arith

number_row : (limits : Limits) (byte : ℕ) (word : List ℕ) (others : List (List ℕ)) (s : Feeding) (o : OpenJob) (b : Block) → (byte == 45 || is_digit byte) ≡ true → s.current ≡ Some o → o.block ≡ Some b → after_row limits ((byte ∷ word) ∷ others) s ≡ in_job_of ((byte ∷ word) ∷ others) s s.current
number_row limits byte word others s o b h current begun = rw (not_c byte h, current, begun, not_a byte h) (numbers-quiet (in_block (block.after_row ((byte ∷ word) ∷ others) b)) o s)

with_its_block : (line : List ℕ) (s : Feeding) (o : OpenJob) (held : Option Block) → o.block ≡ held → is_some held ≡ true → s.current ≡ Some o → begins_number line ≡ true → StaysInBlock line s
with_its_block line s o None begun some current h = absurd (cc)
with_its_block line s o (Some b) begun some current h = λ limits.
    let (byte, led, first) = first_of_number line h in
    let (word, others, e) = first in
    rw e (number_row limits byte word others s o b led current begun)

-- where a block has begun, a line that begins with a digit or a minus sign is the block's alone
pub stays_in_block : (line : List ℕ) (s : Feeding) (o : OpenJob) → s.current ≡ Some o → is_some o.block ≡ true → begins_number line ≡ true → StaysInBlock line s
stays_in_block line s o current some h = with_its_block line s o o.block refl some current h

-- where the text ends in a block, the fault is that of the script's reader
pub unended_at_end : (refused : LineRefusal) (held : Option Block) (s : Feeding) → is_some held ≡ true → Fails refused (unended held) → Fails refused (in_open_block held s)
unended_at_end refused None s some fails = absurd (cc)
unended_at_end refusal.OutOfMemory (Some b) s some fails = tt
unended_at_end (refusal.Fault fault) (Some b) s some fails = by_end (in_block (block.ended b)) fails
  where
    same : (x y : LineFault) → ◌≡◌ {A = Result Scripted LineFault} (Err x) (Err y) → ◌≡◌ {A = Result (List FeedPost) LineFault} (Err x) (Err y)
    same x y e = cc

    by_end : (read : Result Formulated LineFault) → ◌≡◌ {A = Result Scripted LineFault} (read >>= λ f. Err BadLine) (Err fault) → ◌≡◌ {A = Result (List FeedPost) LineFault} (read >>= λ f. Err BadLine) (Err fault)
    by_end (Ok f) e = same BadLine fault e
    by_end (Err x) e = same x fault e

-- a line in a job and in no block, by its first word
pub header_in_job : (limits : Limits) (first : List ℕ) (others : List (List ℕ)) (o : OpenJob) (s : Feeding) → bytes_eq first (codes "p") ≡ true → inside_job limits first others o (with_current s o) ≡ posting s o (between limits first others o)
header_in_job limits first others o s p = rw p refl

pub weight_in_job : (limits : Limits) (first : List ℕ) (others : List (List ℕ)) (o : OpenJob) (s : Feeding) → bytes_eq first (codes "p") ≡ false → bytes_eq first (codes "q") ≡ true → inside_job limits first others o (with_current s o) ≡ posting s o (between limits first others o)
weight_in_job limits first others o s p q = rw (p, q) refl

pub end_of_job : (limits : Limits) (first : List ℕ) (others : List (List ℕ)) (o : OpenJob) (s : Feeding) → bytes_eq first (codes "p") ≡ false → bytes_eq first (codes "q") ≡ false → bytes_eq first (codes "e") ≡ true → inside_job limits first others o (with_current s o) ≡ (ended_job others o >>= λ j. Ok (ended s j))
end_of_job limits first others o s p q e = rw (p, q, e) refl

pub beside_job : (limits : Limits) (first : List ℕ) (others : List (List ℕ)) (o : OpenJob) (s : Feeding) → bytes_eq first (codes "p") ≡ false → bytes_eq first (codes "q") ≡ false → bytes_eq first (codes "e") ≡ false → inside_job limits first others o (with_current s o) ≡ outside limits first others (put_aside (with_current s o))
beside_job limits first others o s p q e = rw (p, q, e) refl
