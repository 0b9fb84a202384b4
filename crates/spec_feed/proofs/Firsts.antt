-- Nothing after a faulty line of a feed counts.
use Rattle.std.proofs.Common.{◌≡◌, ℕ, zero, suc, ◌+◌, ◌<◌, ◌≤◌, max, List, [], ◌∷◌, ◌++◌, length, take, drop, get_or, Result, Ok, Err, refl, sym, ap, ◌∙◌, arith}
use Rattle.mal_base.specs.declared.limits.Limits.{Limits}
use Rattle.spec_text.specs.Inputs.{lines_of}
use Rattle.spec_dimacs.specs.Reading.{◌>>=◌}
use Rattle.spec_dimacs.proofs.FirstLine.{same-line}
use Rattle.spec_feed.specs.declared.post.FeedPost.{FeedPost}
use Rattle.spec_feed.specs.declared.fault.FeedFault.{FeedFault}
use Rattle.spec_feed.specs.Reading.{Fed, Feeding, after_line, at_end, in_feed, on_feed_line, read_feed, read_lines, unfed}
use Rattle.spec_feed.specs.Laws.{FaultIsFirst}

-- what reading answers, of which a fault has its line
abbrev Answer : Type 0
Answer = Result (List FeedPost) (ℕ × FeedFault)

-- posts before those of the lines that are left
abbrev after_posts : List FeedPost → Answer → Answer
after_posts first r = r >>= λ posts. Ok (first ++ posts)

-- a line that is read leads on, and one that is not stops, whatever follows
leads : (most : Limits) (line : List ℕ) (lines : List (List ℕ)) (k : ℕ) (s : Feeding) (fed : Fed) → after_line most line s ≡ Ok fed → read_lines most (line ∷ lines) k s ≡ after_posts fed.posts (read_lines most lines (suc k) fed.left)
leads most line lines k s fed e = ap (λ (r : Result Fed FeedFault). on_feed_line (suc k) r >>= λ fed. read_lines most lines (suc k) fed.left >>= λ posts. Ok (fed.posts ++ posts)) e

stops : (most : Limits) (line : List ℕ) (lines : List (List ℕ)) (k : ℕ) (s : Feeding) (fault : FeedFault) → after_line most line s ≡ Err fault → read_lines most (line ∷ lines) k s ≡ Err (suc k, fault)
stops most line lines k s fault e = ap (λ (r : Result Fed FeedFault). on_feed_line (suc k) r >>= λ fed. read_lines most lines (suc k) fed.left >>= λ posts. Ok (fed.posts ++ posts)) e

-- a fault after posts is that of the lines that are left
fault-after : (first : List FeedPost) (r : Answer) (x : ℕ × FeedFault) → after_posts first r ≡ Err x → r ≡ Err x
fault-after first (Ok posts) x e = absurd (cc)
fault-after first (Err y) x e = e

end : (k : ℕ) (r : Result (List FeedPost) FeedFault) (line : ℕ) (fault : FeedFault) → on_feed_line (max 1 k) r ≡ Err (line, fault) → k ≤ line
end k (Ok f) line fault e = absurd (cc)
end k (Err x) line fault e = let same : max 1 k ≡ line = same-line {T = List FeedPost} (max 1 k) line x fault e in omega arith

-- the line of a fault is not before those that were read
at_least : (most : Limits) (lines : List (List ℕ)) (k : ℕ) (s : Feeding) (n : ℕ) (fault : FeedFault) → read_lines most lines k s ≡ Err (n, fault) → k ≤ n
at_least most [] k s n fault e = end k (in_feed (at_end s.current s)) n fault e
at_least most (line ∷ lines) k s n fault e = by_answer (λ t q. at_least most lines (suc k) t n fault q) (after_line most line s) refl
  where
    by_answer : ((t : Feeding) → read_lines most lines (suc k) t ≡ Err (n, fault) → suc k ≤ n) → (r : Result Fed FeedFault) → after_line most line s ≡ r → k ≤ n
    by_answer ih (Ok fed) q = let low : suc k ≤ n = ih fed.left (fault-after fed.posts (read_lines most lines (suc k) fed.left) (n, fault) (sym (leads most line lines k s fed q) ∙ e)) in omega arith
    by_answer ih (Err x) q = let same : suc k ≡ n = same-line {T = List FeedPost} (suc k) n x fault (sym (stops most line lines k s x q) ∙ e) in omega arith

-- where lines are left, the line of a fault is one of them or one after them
later : (most : Limits) (lines : List (List ℕ)) (k : ℕ) (s : Feeding) (n : ℕ) (fault : FeedFault) → 0 < length lines → read_lines most lines k s ≡ Err (n, fault) → k < n
later most [] k s n fault some e = absurd (omega arith)
later most (line ∷ lines) k s n fault some e = by_answer (after_line most line s) refl
  where
    by_answer : (r : Result Fed FeedFault) → after_line most line s ≡ r → k < n
    by_answer (Ok fed) q = let low : suc k ≤ n = at_least most lines (suc k) fed.left n fault (fault-after fed.posts (read_lines most lines (suc k) fed.left) (n, fault) (sym (leads most line lines k s fed q) ∙ e)) in omega arith
    by_answer (Err x) q = let same : suc k ≡ n = same-line {T = List FeedPost} (suc k) n x fault (sym (stops most line lines k s x q) ∙ e) in omega arith

head_same : (x y : List ℕ) (xs ys : List (List ℕ)) → x ∷ xs ≡ y ∷ ys → x ≡ y
head_same x y xs ys e = ap (λ (zs : List (List ℕ)). get_or zs 0 []) e

tail_same : (x y : List ℕ) (xs ys : List (List ℕ)) → x ∷ xs ≡ y ∷ ys → xs ≡ ys
tail_same x y xs ys e = ap (drop 1) e

-- a fault before the last line is that of all lines which begin with the same ones up to it
first_lines : (most : Limits) (lines others : List (List ℕ)) (k d : ℕ) (s : Feeding) (n : ℕ) (fault : FeedFault) → read_lines most lines k s ≡ Err (n, fault) → n ≡ k + suc d → n < k + length lines → take (suc d) others ≡ take (suc d) lines → read_lines most others k s ≡ Err (n, fault)
first_lines most [] others k d s n fault e at low same = absurd (omega arith)
first_lines most (line ∷ lines) [] k d s n fault e at low same = absurd (cc)
first_lines most (line ∷ lines) (other ∷ others) k zero s n fault e at low same = by_answer (after_line most line s) refl
  where
    head : other ≡ line
    head = head_same other line _ _ same

    by_answer : (r : Result Fed FeedFault) → after_line most line s ≡ r → read_lines most (other ∷ others) k s ≡ Err (n, fault)
    by_answer (Ok fed) q =
        let above : suc k < n = later most lines (suc k) fed.left n fault (omega arith) (fault-after fed.posts (read_lines most lines (suc k) fed.left) (n, fault) (sym (leads most line lines k s fed q) ∙ e)) in absurd (omega arith)
    by_answer (Err x) q = ap (λ (w : List ℕ). read_lines most (w ∷ others) k s) head ∙ stops most line others k s x q ∙ sym (stops most line lines k s x q) ∙ e
first_lines most (line ∷ lines) (other ∷ others) k (suc d) s n fault e at low same =
    by_answer (λ t p. first_lines most lines others (suc k) d t n fault p (omega arith) (omega arith) (tail_same other line _ _ same)) (after_line most line s) refl
  where
    head : other ≡ line
    head = head_same other line _ _ same

    by_answer : ((t : Feeding) → read_lines most lines (suc k) t ≡ Err (n, fault) → read_lines most others (suc k) t ≡ Err (n, fault)) → (r : Result Fed FeedFault) → after_line most line s ≡ r → read_lines most (other ∷ others) k s ≡ Err (n, fault)
    by_answer ih (Ok fed) q =
        ap (λ (w : List ℕ). read_lines most (w ∷ others) k s) head
        ∙ leads most line others k s fed q
        ∙ ap (after_posts fed.posts) (ih fed.left (fault-after fed.posts (read_lines most lines (suc k) fed.left) (n, fault) (sym (leads most line lines k s fed q) ∙ e)))
    by_answer ih (Err x) q = let here : suc k ≡ n = same-line {T = List FeedPost} (suc k) n x fault (sym (stops most line lines k s x q) ∙ e) in absurd (omega arith)

pub fault_is_first : FaultIsFirst
unfolding read_feed
fault_is_first most text other line fault e low same = by_line line refl
  where
    some : 0 < line
    some = later most (lines_of text) 0 unfed line fault (omega arith) e

    by_line : (n : ℕ) → line ≡ n → read_lines most (lines_of other) 0 unfed ≡ Err (line, fault)
    by_line zero q = absurd (omega (arith, some))
    by_line (suc d) q =
        let lines : take (suc d) (lines_of other) ≡ take (suc d) (lines_of text) = ap (λ (n : ℕ). take n (lines_of other)) (sym q) ∙ same ∙ ap (λ (n : ℕ). take n (lines_of text)) q in
        first_lines most (lines_of text) (lines_of other) 0 d unfed line fault e (omega arith) (omega arith) lines
