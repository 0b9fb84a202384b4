-- Lines of a text that comes in pieces.
use Rattle.std.proofs.Common.{◌≡◌, ℕ, suc, ◌+◌, ◌<◌, ◌≤◌, max, Bool, true, false, cond, ◌&&◌, ◌==◌, List, [], ◌∷◌, ◌++◌, length, Option, arith, append_assoc, append-nil, add-one, length-append, refl, ap, sym, ◌∙◌, subst}
use Rattle.std.specs.Prelude.{Result, Ok, Err, IfOk, IfErr, OnOk, nat_lt, option_to_list}
use Rattle.std.specs.List.{list_all, onto_first}
use Rattle.std.proofs.lemmas.Bool.Decides.{nat_tests}
use Rattle.std.proofs.lemmas.List.Folds.{list_all-append}
use Rattle.mal_base.specs.Limits.{limits}
use Rattle.mal_base.specs.declared.line_fault.LineFault.{LineFault}
use Rattle.mal_script.specs.ReadResult.{Fails}
use Rattle.mal_script.specs.declared.fault.LineRefusal.{LineRefusal}
use Rattle.mal_script.specs.declared.fault.LineRefusal.TheVariants as refused
use Rattle.spec_text.specs.Inputs.{before_lines, lines_of}
use Rattle.spec_dimacs.specs.Reading.{◌>>=◌}
use Rattle.spec_feed.specs.Reading.{Fed, Feeding, after_line, at_end, closings, in_feed, longest_line, on_feed_line, read_feed, read_lines}
use Rattle.spec_feed.specs.declared.post.FeedPost.{FeedPost}
use Rattle.spec_feed.specs.declared.fault.FeedFault.{FeedFault}
use Rattle.spec_feed.specs.declared.fault.FeedFault.TheVariants as feed
use Rattle.mal_feed.specs.declared.fault.FeedError.{FeedError}
use Rattle.mal_feed.specs.declared.fault.FeedError.TheVariants as error
use Rattle.mal_feed.specs.Coming.{Coming, FailsAt, FailsOn, GoesOn, IsBy, IsTooLong, ReadsLine, RefusedAt, after_posts, is_inside, nothing_came, reading_on}
use Rattle.mal_feed.proofs.Apart.{and_left, and_right, was_false}

-- reading on before the first piece is reading the text
pub from_the_start : (text : List ℕ) → reading_on nothing_came text ≡ read_feed limits text
from_the_start text = unfold reading_on in unfold read_feed in refl

before-no : (byte : ℕ) (lines : List (List ℕ)) → (byte == 10) ≡ false → before_lines byte lines ≡ onto_first byte lines
before-no byte lines e = ap (λ (b : Bool). cond b ([] ∷ lines) (onto_first byte lines)) e

inside_first : (b : ℕ) (bs : List ℕ) → list_all is_inside (b ∷ bs) ≡ true → (b == 10) ≡ false
inside_first b bs h = was_false (b == 10) (and_left (is_inside b) (list_all is_inside bs) h)

-- the first line ends at the first line end
line_at : (line rest : List ℕ) → list_all is_inside line ≡ true → lines_of (line ++ 10 ∷ rest) ≡ line ∷ lines_of rest
line_at [] rest h = refl
line_at (b ∷ bs) rest h =
    before-no b (lines_of (bs ++ 10 ∷ rest)) (inside_first b bs h)
    ∙ ap (onto_first b) (line_at bs rest (and_right (is_inside b) (list_all is_inside bs) h))

-- bytes without a line end are one line
last_line : (b : ℕ) (bs : List ℕ) → list_all is_inside (b ∷ bs) ≡ true → lines_of (b ∷ bs) ≡ (b ∷ bs) ∷ []
last_line b [] h = before-no b [] (inside_first b [] h)
last_line b (x ∷ xs) h =
    before-no b (lines_of (x ∷ xs)) (inside_first b (x ∷ xs) h)
    ∙ ap (onto_first b) (last_line x xs (and_right (is_inside b) (list_all is_inside (x ∷ xs)) h))

-- the lines of a text of which the first begins with these bytes
pub record BeginsWith (front text : List ℕ) : Type 0 where
  pub rest : List ℕ
  pub others : List (List ℕ)
  pub is : lines_of text ≡ (front ++ rest) ∷ others

-- any lines after a byte that ends none
onto : (b : ℕ) (lines : List (List ℕ)) → (rest : List ℕ) × (others : List (List ℕ)) × (onto_first b lines ≡ (b ∷ rest) ∷ others)
onto b [] = ([], [], refl)
onto b (line ∷ lines) = (line, lines, refl)

-- bytes without a line end are the front of the first line, whatever follows
front_of : (b : ℕ) (bs more : List ℕ) → list_all is_inside (b ∷ bs) ≡ true → BeginsWith (b ∷ bs) ((b ∷ bs) ++ more)
front_of b [] more h =
    let (rest, others, e) = onto b (lines_of more) in
    record { rest = rest; others = others; is = before-no b (lines_of more) (inside_first b [] h) ∙ e }
front_of b (x ∷ xs) more h =
    let after = front_of x xs more (and_right (is_inside b) (list_all is_inside (x ∷ xs)) h) in
    record { rest = after.rest; others = after.others; is = before-no b (lines_of ((x ∷ xs) ++ more)) (inside_first b (x ∷ xs) h) ∙ ap (onto_first b) after.is }

both_inside : (tail front : List ℕ) → list_all is_inside tail ≡ true → list_all is_inside front ≡ true → list_all is_inside (tail ++ front) ≡ true
both_inside tail front one other = list_all-append is_inside tail front ∙ (ap (λ (b : Bool). b && list_all is_inside front) one ∙ other)

spread : (tail front rest more : List ℕ) → tail ++ ((front ++ 10 ∷ rest) ++ more) ≡ (tail ++ front) ++ 10 ∷ (rest ++ more)
spread tail front rest more = ap (λ (xs : List ℕ). tail ++ xs) (append_assoc front (10 ∷ rest) more) ∙ sym (append_assoc tail front (10 ∷ (rest ++ more)))

abbrev Posted : Type 0
Posted = Result (List FeedPost) (ℕ × FeedFault)

-- what is posted after a line
abbrev next : ℕ → List (List ℕ) → Result Fed (ℕ × FeedFault) → Posted
next n lines read = read >>= λ fed. read_lines limits lines n fed.left >>= λ posts. Ok (fed.posts ++ posts)

-- reading on with a piece in which a line ends reads this line first
at_line : (c : Coming) (front rest more : List ℕ) → list_all is_inside c.tail ≡ true → list_all is_inside front ≡ true
    → reading_on c ((front ++ 10 ∷ rest) ++ more) ≡ next (suc c.lines) (lines_of (rest ++ more)) (on_feed_line (suc c.lines) (after_line limits (c.tail ++ front) c.feed))
at_line c front rest more one other = unfold reading_on in
    ap (λ (xs : List ℕ). read_lines limits (lines_of xs) c.lines c.feed) (spread c.tail front rest more)
    ∙ ap (λ (xs : List (List ℕ)). read_lines limits xs c.lines c.feed) (line_at (c.tail ++ front) (rest ++ more) (both_inside c.tail front one other))

abbrev fed : Feeding → Option FeedPost → Fed
fed left post = record { left = left; posts = option_to_list post }

abbrev came : Feeding → List ℕ → ℕ → Coming
came s tail n = record { feed = s; tail = tail; lines = n }

-- a line that is read
pub goes : (c left : Coming) (piece front rest : List ℕ) (post : Option FeedPost) → piece ≡ front ++ 10 ∷ rest → list_all is_inside c.tail ≡ true → list_all is_inside front ≡ true
    → after_line limits (c.tail ++ front) c.feed ≡ Ok (record { left = left.feed; posts = option_to_list post }) → left.tail ≡ [] → left.lines ≡ c.lines + 1
    → GoesOn c piece (option_to_list post) left rest
goes c left piece front rest post e one other read q r = λ more.
    ap (λ (xs : List ℕ). reading_on c (xs ++ more)) e
    ∙ at_line c front rest more one other
    ∙ ap (λ (x : Result Fed FeedFault). next (suc c.lines) (lines_of (rest ++ more)) (on_feed_line (suc c.lines) x)) read
    ∙ sym (ap (after_posts (option_to_list post)) (as_came left (rest ++ more) (suc c.lines) q (r ∙ add-one c.lines)))
  where
    as_came : (x : Coming) (text : List ℕ) (n : ℕ) → x.tail ≡ [] → x.lines ≡ n → reading_on x text ≡ read_lines limits (lines_of text) n x.feed
    as_came x text n q r = unfold reading_on in ap (λ (t : List ℕ). read_lines limits (lines_of (t ++ text)) x.lines x.feed) q ∙ ap (λ (k : ℕ). read_lines limits (lines_of text) k x.feed) r

-- the same, and the line is cut off
pub reads_line : (c left : Coming) (piece front rest : List ℕ) (post : Option FeedPost) → piece ≡ front ++ 10 ∷ rest → list_all is_inside c.tail ≡ true → list_all is_inside front ≡ true
    → after_line limits (c.tail ++ front) c.feed ≡ Ok (record { left = left.feed; posts = option_to_list post }) → left.tail ≡ [] → left.lines ≡ c.lines + 1
    → ReadsLine c piece (option_to_list post) left rest
reads_line c left piece front rest post e one other read q r = record {
  line = front ++ 10 ∷ [];
  cut = e ∙ sym (append_assoc front (10 ∷ []) rest);
  goes = goes c left (front ++ 10 ∷ []) front [] post refl one other read q r;
}

-- the line of a fault, as reading names it
pub line_named : {A : Type 0} (n : ℕ) (read : Result A FeedFault) (fault : FeedError) → FailsAt fault (on_feed_line n read) → IsBy n fault
line_named n (Ok x) (error.Line m f) is = absurd (cc)
line_named n (Err g) (error.Line m f) is = at_most m n (sym (ap line_of is))
  where
    line_of : {A : Type 0} → Result A (ℕ × FeedFault) → ℕ
    line_of (Ok x) = 0
    line_of (Err (n, f)) = n

    at_most : (m n : ℕ) → m ≡ n → m ≤ n
    at_most m n e = omega arith
line_named n read error.OutOfMemory is = tt

-- a line up to which a fault stands
pub by_later : (n m : ℕ) (fault : FeedError) → n ≤ m → IsBy n fault → IsBy m fault
by_later n m (error.Line line f) low is = omega arith
by_later n m error.OutOfMemory low is = tt

-- the same of a refusal
pub refused_by : (line n : ℕ) (refusal : LineRefusal) (fault : FeedError) → line ≤ n → RefusedAt line refusal fault → IsBy n fault
refused_by line n refused.OutOfMemory fault low e = subst (IsBy n) (sym e) tt
refused_by line n (refused.Fault f) fault low e = subst (IsBy n) (sym e) low

-- a fault stops the reading
stops : {A : Type 0} (fault : FeedError) (read : Result A (ℕ × FeedFault)) (go : A → Posted) → FailsAt fault read → FailsAt fault (read >>= go)
stops {A = A} (error.Line n f) read go e = ap (λ (r : Result A (ℕ × FeedFault)). r >>= go) e
stops error.OutOfMemory read go e = tt

pub fails : (c : Coming) (piece front rest : List ℕ) (fault : FeedError) → piece ≡ front ++ 10 ∷ rest → list_all is_inside c.tail ≡ true → list_all is_inside front ≡ true
    → FailsAt fault (on_feed_line (c.lines + 1) (after_line limits (c.tail ++ front) c.feed))
    → FailsOn c piece fault
fails c piece front rest fault e one other is = λ more.
    subst (FailsAt fault) (sym (ap (λ (xs : List ℕ). reading_on c (xs ++ more)) e ∙ at_line c front rest more one other))
    (stops fault (on_feed_line (suc c.lines) (after_line limits (c.tail ++ front) c.feed)) (λ x. read_lines limits (lines_of (rest ++ more)) (suc c.lines) x.left >>= λ posts. Ok (x.posts ++ posts))
    (subst (λ (n : ℕ). FailsAt fault (on_feed_line n (after_line limits (c.tail ++ front) c.feed))) (add-one c.lines) is))

nothing_more : (read : Posted) → read ≡ (read >>= λ posts. Ok ([] ++ posts))
nothing_more (Ok posts) = refl
nothing_more (Err e) = refl

-- a piece in which no line ends is kept
pub keeps : (c left : Coming) (piece : List ℕ) → left ≡ record c { tail = c.tail ++ piece } → (more : List ℕ) → reading_on c (piece ++ more) ≡ (reading_on left ([] ++ more) >>= λ posts. Ok ([] ++ posts))
keeps c left piece e more = kept ∙ ap (λ (x : Coming). reading_on x more) (sym e) ∙ nothing_more (reading_on left more)
  where
    kept : reading_on c (piece ++ more) ≡ reading_on (record c { tail = c.tail ++ piece }) more
    kept = unfold reading_on in ap (λ (xs : List ℕ). read_lines limits (lines_of xs) c.lines c.feed) (sym (append_assoc c.tail piece more))

-- a line is too long
long_line : (line : List ℕ) (s : Feeding) → nat_lt longest_line (length line) ≡ true → after_line limits line s ≡ Err feed.TooLong
long_line line s h = rw h refl

longer : (front rest : List ℕ) → nat_lt longest_line (length front) ≡ true → nat_lt longest_line (length (front ++ rest)) ≡ true
longer front rest h = let e = length-append front rest in rw e (more (length front) (length rest) h)
  where
    more : (m n : ℕ) → nat_lt longest_line m ≡ true → nat_lt longest_line (m + n) ≡ true
    more m n h = grind (arith, nat_tests)

abbrev too_long : ℕ → Posted
too_long n = Err (n, feed.TooLong)

-- reading on with a line that is too long gives its fault
long_lines : (c : Coming) (more line : List ℕ) (others : List (List ℕ)) → lines_of (c.tail ++ more) ≡ line ∷ others → nat_lt longest_line (length line) ≡ true → reading_on c more ≡ too_long (suc c.lines)
long_lines c more line others e long = unfold reading_on in
    ap (λ (xs : List (List ℕ)). read_lines limits xs c.lines c.feed) e
    ∙ ap (λ (r : Result Fed FeedFault). next (suc c.lines) others (on_feed_line (suc c.lines) r)) (long_line line c.feed long)

-- and so with a front of it
long_front : (c : Coming) (text more : List ℕ) → text ≡ c.tail ++ more → (front rest : List ℕ) → text ≡ front ++ rest → list_all is_inside front ≡ true → nat_lt longest_line (length front) ≡ true → reading_on c more ≡ too_long (suc c.lines)
long_front c text more e [] rest f inside long = absurd (cc)
long_front c text more e (b ∷ bs) rest f inside long =
    let begins = front_of b bs rest inside in
    long_lines c more ((b ∷ bs) ++ begins.rest) begins.others (ap lines_of (sym e ∙ f) ∙ begins.is) (longer (b ∷ bs) begins.rest long)

pub fails_long : (c : Coming) (piece : List ℕ) (fault : FeedError) → list_all is_inside c.tail ≡ true → list_all is_inside piece ≡ true → nat_lt longest_line (length (c.tail ++ piece)) ≡ true → IsTooLong (c.lines + 1) fault → FailsOn c piece fault
fails_long c piece error.OutOfMemory one other long is = λ more. tt
fails_long c piece (error.Line n f) one other long is = λ more.
    long_front c ((c.tail ++ piece) ++ more) (piece ++ more) (append_assoc c.tail piece more) (c.tail ++ piece) more refl (both_inside c.tail piece one other) long
    ∙ at_suc c.lines ∙ again n f (c.lines + 1) is
  where
    at_suc : (m : ℕ) → too_long (suc m) ≡ too_long (m + 1)
    at_suc m = ap too_long (sym (add-one m))

    again : (n : ℕ) (f : FeedFault) (m : ℕ) → ◌≡◌ {A = Result (List ℕ) (ℕ × FeedFault)} (Err (m, feed.TooLong)) (Err (n, f)) → ◌≡◌ {A = Posted} (Err (m, feed.TooLong)) (Err (n, f))
    again n f m e = cc

-- the same where the line ends there
pub fails_long_line : (c : Coming) (line : List ℕ) (fault : FeedError) → nat_lt longest_line (length line) ≡ true → IsTooLong (c.lines + 1) fault → FailsAt fault (on_feed_line (c.lines + 1) (after_line limits line c.feed))
fails_long_line c line error.OutOfMemory long is = tt
fails_long_line c line (error.Line n f) long is = ap (on_feed_line (c.lines + 1)) (long_line line c.feed long) ∙ again n f (c.lines + 1) is
  where
    again : (n : ℕ) (f : FeedFault) (m : ℕ) → ◌≡◌ {A = Result (List ℕ) (ℕ × FeedFault)} (Err (m, feed.TooLong)) (Err (n, f)) → ◌≡◌ {A = Result Fed (ℕ × FeedFault)} (Err (m, feed.TooLong)) (Err (n, f))
    again n f m e = cc

at_last : (c : Coming) (tail : List ℕ) → c.tail ≡ tail → list_all is_inside tail ≡ true → 0 < length tail
    → reading_on c [] ≡ next (suc c.lines) [] (on_feed_line (suc c.lines) (after_line limits (tail ++ []) c.feed))
at_last c [] e inside some = absurd (omega arith)
at_last c (b ∷ bs) e inside some = unfold reading_on in
    ap (λ (xs : List ℕ). read_lines limits (lines_of (xs ++ [])) c.lines c.feed) e
    ∙ ap (λ (xs : List ℕ). read_lines limits (lines_of xs) c.lines c.feed) (append-nil (b ∷ bs))
    ∙ ap (λ (xs : List (List ℕ)). read_lines limits xs c.lines c.feed) (last_line b bs inside)
    ∙ ap (λ (xs : List ℕ). next (suc c.lines) [] (on_feed_line (suc c.lines) (after_line limits xs c.feed))) (sym (append-nil (b ∷ bs)))

-- what was kept is the last line
pub flushes : (c left : Coming) (post : Option FeedPost) → list_all is_inside c.tail ≡ true → 0 < length c.tail
    → after_line limits (c.tail ++ []) c.feed ≡ Ok (record { left = left.feed; posts = option_to_list post }) → left.tail ≡ [] → left.lines ≡ c.lines + 1
    → reading_on c [] ≡ after_posts (option_to_list post) (reading_on left [])
flushes c left post inside some read q r =
    at_last c c.tail refl inside some
    ∙ ap (λ (x : Result Fed FeedFault). next (suc c.lines) [] (on_feed_line (suc c.lines) x)) read
    ∙ sym (ap (after_posts (option_to_list post)) (as_came left (suc c.lines) q (r ∙ add-one c.lines)))
  where
    as_came : (x : Coming) (n : ℕ) → x.tail ≡ [] → x.lines ≡ n → reading_on x [] ≡ read_lines limits [] n x.feed
    as_came x n q r = unfold reading_on in ap (λ (t : List ℕ). read_lines limits (lines_of (t ++ [])) x.lines x.feed) q ∙ ap (λ (k : ℕ). read_lines limits [] k x.feed) r

pub nothing_kept : (c left : Coming) → left ≡ c → reading_on c [] ≡ (reading_on left [] >>= λ posts. Ok ([] ++ posts))
nothing_kept c left e = nothing_more (reading_on c []) ∙ ap (λ (x : Coming). reading_on x [] >>= λ posts. Ok ([] ++ posts)) (sym e)

pub faulty_last : (c : Coming) (fault : FeedError) → list_all is_inside c.tail ≡ true → 0 < length c.tail
    → FailsAt fault (on_feed_line (c.lines + 1) (after_line limits (c.tail ++ []) c.feed)) → FailsAt fault (reading_on c [])
faulty_last c fault inside some is =
    subst (FailsAt fault) (sym (at_last c c.tail refl inside some))
    (stops fault (on_feed_line (suc c.lines) (after_line limits (c.tail ++ []) c.feed)) (λ x. read_lines limits [] (suc c.lines) x.left >>= λ posts. Ok (x.posts ++ posts))
    (subst (λ (n : ℕ). FailsAt fault (on_feed_line n (after_line limits (c.tail ++ []) c.feed))) (add-one c.lines) is))

-- the end of the text, all of which was read
at_its_end : (c : Coming) → c.tail ≡ [] → reading_on c [] ≡ on_feed_line (max 1 c.lines) (in_feed (at_end c.feed.current c.feed))
at_its_end c e = unfold reading_on in ap (λ (xs : List ℕ). read_lines limits (lines_of (xs ++ [])) c.lines c.feed) e

pub ends : (c : Coming) → c.tail ≡ [] → at_end c.feed.current c.feed ≡ Ok (closings c.feed) → reading_on c [] ≡ Ok (closings c.feed)
ends c e f = at_its_end c e ∙ ap (λ (r : Result (List FeedPost) LineFault). on_feed_line (max 1 c.lines) (in_feed r)) f

abbrev err_at : ℕ → FeedFault → Posted
err_at n f = Err (n, f)

-- the refusal of the end of the text is that of the text
pub refuses : (c : Coming) (line : ℕ) (refusal : LineRefusal) (fault : FeedError) → c.tail ≡ [] → line ≡ max 1 c.lines → Fails refusal (at_end c.feed.current c.feed) → RefusedAt line refusal fault → FailsAt fault (reading_on c [])
refuses c line refused.OutOfMemory fault q n is e = subst (λ (f : FeedError). FailsAt f (reading_on c [])) (sym e) tt
refuses c line (refused.Fault f) fault q n is e =
    subst (λ (x : FeedError). FailsAt x (reading_on c [])) (sym e)
    (at_its_end c q ∙ (ap (λ (r : Result (List FeedPost) LineFault). on_feed_line (max 1 c.lines) (in_feed r)) is ∙ ap (λ (k : ℕ). err_at k (feed.Line f)) (sym n)))

-- the end of the text after its last line
pub ends_after : (read : Posted) (post : Option FeedPost) (rest : Posted) (closed : List FeedPost) → read ≡ after_posts (option_to_list post) rest → rest ≡ Ok closed → read ≡ Ok (option_to_list post ++ closed)
ends_after read post rest closed e f = e ∙ ap (after_posts (option_to_list post)) f

pub fails_after : (read : Posted) (post : Option FeedPost) (rest : Posted) (fault : FeedError) → read ≡ after_posts (option_to_list post) rest → FailsAt fault rest → FailsAt fault read
fails_after read post rest fault e is = subst (FailsAt fault) (sym e) (stops fault rest (λ posts. Ok (option_to_list post ++ posts)) is)

-- The same, as the calls leave what they change.
pub flushed : (c left : Coming) (result : Result (Option FeedPost) FeedError) → list_all is_inside c.tail ≡ true → 0 < length c.tail
    → IfOk result (λ post. after_line limits (c.tail ++ []) c.feed ≡ Ok (record { left = left.feed; posts = option_to_list post })) → left.tail ≡ [] → OnOk result (left.lines ≡ c.lines + 1)
    → IfOk result (λ post. reading_on c [] ≡ after_posts (option_to_list post) (reading_on left []))
flushed c left (Ok post) inside some read q r = flushes c left post inside some read q r
flushed c left (Err e) inside some read q r = tt

pub flushed_fails : (c : Coming) (result : Result (Option FeedPost) FeedError) → list_all is_inside c.tail ≡ true → 0 < length c.tail
    → IfErr result (λ fault. FailsAt fault (on_feed_line (c.lines + 1) (after_line limits (c.tail ++ []) c.feed))) → IfErr result (λ fault. FailsAt fault (reading_on c []))
flushed_fails c (Ok post) inside some is = tt
flushed_fails c (Err fault) inside some is = faulty_last c fault inside some is

pub ended : (c : Coming) (s after : Feeding) → c.feed ≡ s → c.tail ≡ [] → after ≡ s → at_end s.current s ≡ Ok (closings s) → reading_on c [] ≡ Ok (closings after)
ended c s after e q f is =
    ends c q (subst (λ (x : Feeding). at_end x.current x ≡ Ok (closings x)) (sym e) is) ∙ ap closed (e ∙ sym f)
  where
    closed : Feeding → Posted
    closed x = Ok (closings x)

pub refused_at_end : (c : Coming) (s : Feeding) (n line : ℕ) (refusal : LineRefusal) (fault : FeedError) → c.feed ≡ s → c.lines ≡ n → c.tail ≡ [] → line ≡ max 1 n → Fails refusal (at_end s.current s) → RefusedAt line refusal fault → FailsAt fault (reading_on c [])
refused_at_end c s n line refusal fault e k q m is r =
    refuses c line refusal fault q (m ∙ ap (max 1) (sym k)) (subst (λ (x : Feeding). Fails refusal (at_end x.current x)) (sym e) is) r
