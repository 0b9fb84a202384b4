-- What is spelled is read, and what is read is spelled.
use Rattle.std.proofs.Common.{◌≡◌, ℕ, suc, max, Bool, true, false, cond, not, List, [], ◌∷◌, ◌++◌, length, map, filter, nat_lt, nat_le, Result, Ok, Err, refl, sym, ap, ◌∙◌}
use Rattle.std.specs.List.{list_all}
use Rattle.std.proofs.lemmas.Bool.{ltb-false, leb-true, le-leb, le-ltb}
use Rattle.mal_base.proofs.Sorting.{and-both, and-left, and-right}
use Rattle.mal_base.specs.declared.line_fault.LineFault.{LineFault}
use Rattle.mal_base.specs.declared.limits.Limits.{Limits}
use Rattle.spec_text.specs.Inputs.{lines_of, words_of}
use Rattle.spec_dimacs.specs.Rows.{is_passed, counted_rows}
use Rattle.spec_dimacs.specs.Reading.{◌>>=◌}
use Rattle.spec_script.proofs.Inversions.{bind_ok, not_refused, ok_is}
use Rattle.spec_feed.specs.declared.post.FeedPost.{FeedPost}
use Rattle.spec_feed.specs.declared.fault.FeedFault.{FeedFault}
use Rattle.spec_feed.specs.declared.fault.FeedFault.TheVariants.{TooLong}
use Rattle.spec_feed.specs.Reading.{Fed, Feeding, after_counted, after_line, after_row, at_end, in_feed, longest_line, on_feed_line, quiet, read_feed, read_lines, unfed}
use Rattle.spec_feed.specs.Grammar.{Spells, is_short}
use Rattle.spec_feed.specs.Laws.{SpelledIsRead}
use Rattle.spec_feed.proofs.Parsing.{Free, counted, parsed, run}
use Rattle.spec_feed.proofs.Running.{after_posts, run-parts}
use Rattle.spec_feed.proofs.WordLaws.{WordLaws}

-- ---- lines and their numbers

on_line_ok : {A : Type 0} (n : ℕ) (r : Result A FeedFault) (x : A) → on_feed_line n r ≡ Ok x → r ≡ Ok x
on_line_ok n (Ok y) x e = let h : y ≡ x = cc in rw h refl
on_line_ok n (Err d) x e = absurd (cc)

pub in_feed_ok : {A : Type 0} (r : Result A LineFault) (x : A) → in_feed r ≡ Ok x → r ≡ Ok x
in_feed_ok (Ok y) x e = let h : y ≡ x = cc in rw h refl
in_feed_ok (Err d) x e = absurd (cc)

-- the lines that count, by their words
abbrev counting : List (List ℕ) → List (List (List ℕ))
counting lines = filter (λ row. not (is_passed row)) (map words_of lines)

passed-row : (most : Limits) (row : List (List ℕ)) (s : Feeding) → is_passed row ≡ true → after_row most row s ≡ Ok (quiet s)
passed-row most [] s e = refl
passed-row most (first ∷ others) s e = ap (λ (b : Bool). cond b (Ok (quiet s)) (after_counted most first others s.current s)) e

short-line : (n : ℕ) → nat_lt longest_line n ≡ false → nat_le n longest_line ≡ true
short-line n e = le-leb n longest_line (ltb-false longest_line n e)

line-short : (n : ℕ) → nat_le n longest_line ≡ true → nat_lt longest_line n ≡ false
line-short n e = le-ltb longest_line n (leb-true n longest_line e)

-- what is read with numbers is read without them, of short lines
record Unnumbered (most : Limits) (lines : List (List ℕ)) (s : Feeding) (posts : List FeedPost) : Type 0 where
  short : list_all is_short lines ≡ true
  runs : run most (counting lines) s ≡ Ok posts

numbers-away : (most : Limits) (lines : List (List ℕ)) (n : ℕ) (s : Feeding) (posts : List FeedPost) → read_lines most lines n s ≡ Ok posts → Unnumbered most lines s posts
numbers-away most [] n s posts e = record { short = refl; runs = in_feed_ok (at_end s.current s) posts (on_line_ok (max 1 n) (in_feed (at_end s.current s)) posts e) }
numbers-away most (line ∷ lines) n s posts e =
    let a = bind_ok (on_feed_line (suc n) (after_line most line s)) (λ fed. read_lines most lines (suc n) fed.left >>= λ later. Ok (fed.posts ++ later)) posts e in
    let b = bind_ok (read_lines most lines (suc n) a.0.left) (λ later. Ok (a.0.posts ++ later)) posts a.2 in
    let c = not_refused (nat_lt longest_line (length line)) (in_feed (after_row most (words_of line) s)) TooLong a.0 (on_line_ok (suc n) (after_line most line s) a.0 a.1) in
    let rest : Unnumbered most lines a.0.left b.0 = numbers-away most lines (suc n) a.0.left b.0 b.1 in
    record {
      short = and-both _ _ (short-line (length line) c.0) rest.short;
      runs = by_test (is_passed (words_of line)) refl a.0 b.0 (in_feed_ok (after_row most (words_of line) s) a.0 c.1) rest.runs b.2;
    }
  where
    by_test : (b : Bool) → is_passed (words_of line) ≡ b → (fed : Fed) (later : List FeedPost) → after_row most (words_of line) s ≡ Ok fed → run most (counting lines) fed.left ≡ Ok later → ◌≡◌ {A = Result (List FeedPost) (ℕ × FeedFault)} (Ok (fed.posts ++ later)) (Ok posts)
        → run most (cond (not b) (words_of line ∷ counting lines) (counting lines)) s ≡ Ok posts
    by_test true p fed later step rest all =
        let same : quiet s ≡ fed = ok_is (quiet s) fed (sym (passed-row most (words_of line) s p) ∙ step) in
        let left : s ≡ fed.left = ap (λ (x : Fed). x.left) same in
        let none : [] ≡ fed.posts = ap (λ (x : Fed). x.posts) same in
        ap (λ (t : Feeding). run most (counting lines) t) left ∙ rest ∙ ap (λ (ps : List FeedPost). Ok ps) (ap (λ (ps : List FeedPost). ps ++ later) none ∙ ok_is (fed.posts ++ later) posts all)
    by_test false p fed later step rest all =
        ap (λ (x : Result Fed LineFault). x >>= λ fed. run most (counting lines) fed.left >>= λ later. Ok (fed.posts ++ later)) step
        ∙ ap (after_posts fed.posts) rest
        ∙ ap (λ (ps : List FeedPost). Ok ps) (ok_is (fed.posts ++ later) posts all)

-- a short line is read as its words
line-read : (most : Limits) (line : List ℕ) (s : Feeding) (fed : Fed) → is_short line ≡ true → after_row most (words_of line) s ≡ Ok fed → after_line most line s ≡ Ok fed
line-read most line s fed short e =
    ap (λ (b : Bool). cond b (Err TooLong) (in_feed (after_row most (words_of line) s))) (line-short (length line) short)
    ∙ ap (λ (x : Result Fed LineFault). in_feed x) e

-- a line and those after it
lines-read : (most : Limits) (line : List ℕ) (lines : List (List ℕ)) (n : ℕ) (s : Feeding) (fed : Fed) (later : List FeedPost) → is_short line ≡ true → after_row most (words_of line) s ≡ Ok fed → read_lines most lines (suc n) fed.left ≡ Ok later → read_lines most (line ∷ lines) n s ≡ Ok (fed.posts ++ later)
lines-read most line lines n s fed later short e rest =
    ap (λ (x : Result Fed FeedFault). on_feed_line (suc n) x >>= λ fed. read_lines most lines (suc n) fed.left >>= λ later. Ok (fed.posts ++ later)) (line-read most line s fed short e)
    ∙ ap (λ (x : Result (List FeedPost) (ℕ × FeedFault)). x >>= λ later. Ok (fed.posts ++ later)) rest

numbers-back : (most : Limits) (lines : List (List ℕ)) (n : ℕ) (s : Feeding) (posts : List FeedPost) → list_all is_short lines ≡ true → run most (counting lines) s ≡ Ok posts → read_lines most lines n s ≡ Ok posts
numbers-back most [] n s posts short e = ap (λ (x : Result (List FeedPost) LineFault). on_feed_line (max 1 n) (in_feed x)) e
numbers-back most (line ∷ lines) n s posts short e = by_test (λ t later h. numbers-back most lines (suc n) t later (and-right (is_short line) _ short) h) (is_passed (words_of line)) refl e
  where
    own : is_short line ≡ true
    own = and-left _ _ short

    by_test : ((t : Feeding) (later : List FeedPost) → run most (counting lines) t ≡ Ok later → read_lines most lines (suc n) t ≡ Ok later) → (b : Bool) → is_passed (words_of line) ≡ b → run most (cond (not b) (words_of line ∷ counting lines) (counting lines)) s ≡ Ok posts → read_lines most (line ∷ lines) n s ≡ Ok posts
    by_test ih true p h = lines-read most line lines n s (quiet s) posts own (passed-row most (words_of line) s p) (ih s posts h)
    by_test ih false p h =
        let a = bind_ok (after_row most (words_of line) s) (λ fed. run most (counting lines) fed.left >>= λ later. Ok (fed.posts ++ later)) posts h in
        let b = bind_ok (run most (counting lines) a.0.left) (λ later. Ok (a.0.posts ++ later)) posts a.2 in
        lines-read most line lines n s a.0 b.0 own a.1 (ih a.0.left b.0 b.1) ∙ ap (λ (ps : List FeedPost). Ok ps) (ok_is (a.0.posts ++ b.0) posts b.2)

-- the lines that are left count
filter-counted : (rows : List (List (List ℕ))) → counted (filter (λ row. not (is_passed row)) rows) ≡ true
filter-counted [] = refl
filter-counted (row ∷ rows) = by_test (filter-counted rows) (not (is_passed row)) refl
  where
    by_test : counted (filter (λ row. not (is_passed row)) rows) ≡ true → (b : Bool) → not (is_passed row) ≡ b → counted (cond b (row ∷ filter (λ row. not (is_passed row)) rows) (filter (λ row. not (is_passed row)) rows)) ≡ true
    by_test ih true p = and-both _ _ p ih
    by_test ih false p = ih

pub read-spelled : (laws : WordLaws) (most : Limits) (text : List ℕ) (posts : List FeedPost) → read_feed most text ≡ Ok posts → Spells most text posts
unfolding read_feed
read-spelled laws most text posts e =
    let away : Unnumbered most (lines_of text) unfed posts = numbers-away most (lines_of text) 0 unfed posts e in
    let free : Free most (counted_rows text) unfed posts = parsed laws most (counted_rows text) unfed posts tt (filter-counted (map words_of (lines_of text))) away.runs in
    record { parts = free.parts; after = free.after; made_posts = free.made_posts; short = away.short; lines = free.lines; made = free.made; posted = free.posted }

pub spelled-read : (laws : WordLaws) (most : Limits) (text : List ℕ) (posts : List FeedPost) → Spells most text posts → read_feed most text ≡ Ok posts
unfolding read_feed
spelled-read laws most text posts is =
    numbers-back most (lines_of text) 0 unfed posts is.short (ap (λ (x : List (List (List ℕ))). run most x unfed) is.lines ∙ run-parts laws most is.parts unfed is.after is.made_posts posts (tt, tt) is.made is.posted)

pub spelled-is_read : WordLaws → SpelledIsRead
spelled-is_read laws most text posts = (spelled-read laws most text posts, read-spelled laws most text posts)
