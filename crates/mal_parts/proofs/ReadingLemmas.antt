-- What comes of a feed that is read as it comes, and what is posted.
use Rattle.std.proofs.Common.{◌≡◌, inl, inr, ℕ, ◌+◌, true, List, [], ◌∷◌, ◌++◌, map, fold, take, drop, append_assoc, append-nil, take-append-drop, refl, ap, sym, ◌∙◌, subst}
use Rattle.std.specs.Prelude.{Result, Ok, Err, IfErr, OnOk, OnErr, Option, Some, MatchOption}
use Rattle.std.specs.List.{list_all}
use Rattle.std.specs.Io.KnownBytes.{Consumes, IsAtEnd, Keeps}
use Rattle.std.proofs.KnownBytes.{Consumes-nil, Consumes-trans, Consumes-kept}
use Rattle.std.proofs.lemmas.List.{map-append}
use Rattle.std.proofs.lemmas.List.Sums.{fold-append}
use Rattle.mal_base.specs.Limits.{limits}
use Rattle.mal_base.specs.declared.key.Key.{Key}
use Rattle.mal_feed.specs.Coming.{Coming, FailsAt, FailsOn, GoesOn, IsBy, ReadsLine, after_posts, is_inside, nothing_came, reading_on}
use Rattle.mal_feed.specs.declared.fault.FeedError.{FeedError}
use Rattle.mal_feed.specs.declared.fault.FeedError.TheVariants as error
use Rattle.mal_parts.specs.Reading.{EndsBy, EndsSo, HasCome, HasPosted, HasRead, StopsIn, WasPosted, WentOn, closed, end_by, left_open, open_after}
use Rattle.mal_parts.specs.declared.reading.ReadEnd.{ReadEnd}
use Rattle.mal_parts.specs.declared.reading.ReadEnd.TheVariants as stop
use Rattle.spec_feed.specs.Reading.{read_feed}
use Rattle.spec_feed.specs.declared.post.FeedPost.{FeedPost}
use Rattle.spec_feed.specs.declared.post.FeedPost.TheVariants.{Closes}
use Rattle.spec_feed.specs.declared.fault.FeedFault.{FeedFault}
use Rattle.spec_live.specs.Live.{IsFront}

abbrev Posted : Type 0
Posted = Result (List FeedPost) (ℕ × FeedFault)

-- that reading on before the first piece is reading the text
abbrev pub FromTheStart : Type 0
FromTheStart = (text : List ℕ) → reading_on nothing_came text ≡ read_feed limits text

after_none : (read : Posted) → read ≡ after_posts [] read
after_none (Ok posts) = refl
after_none (Err e) = refl

after_both : (first second : List FeedPost) (read : Posted) → after_posts first (after_posts second read) ≡ after_posts (first ++ second) read
after_both first second (Ok posts) = ap ok (sym (append_assoc first second posts))
  where
    ok : List FeedPost → Posted
    ok xs = Ok xs
after_both first second (Err e) = refl

-- two pieces, one after the other
goes_twice : (a b c : Coming) (one other : List ℕ) (first second : List FeedPost) → GoesOn a one first b [] → GoesOn b other second c [] → GoesOn a (one ++ other) (first ++ second) c []
goes_twice a b c one other first second p q = λ more.
    ap (reading_on a) (append_assoc one other more)
    ∙ p (other ++ more)
    ∙ ap (after_posts first) (q more)
    ∙ after_both first second (reading_on c more)

-- no bytes
pub nothing_more : (c : Coming) (keys : List Key) → list_all is_inside c.tail ≡ true → WentOn c keys [] [] c keys
nothing_more c keys h = record { goes = λ more. after_none (reading_on c more); inside = h; noted = refl }

pub went_twice : (a b c : Coming) (ka kb kc : List Key) (one other : List ℕ) (first second : List FeedPost)
    → WentOn a ka one first b kb → WentOn b kb other second c kc → WentOn a ka (one ++ other) (first ++ second) c kc
went_twice a b c ka kb kc one other first second p q = record {
  goes = goes_twice a b c one other first second p.goes q.goes;
  inside = q.inside;
  noted = q.noted ∙ (ap (λ (keys : List Key). fold open_after keys second) p.noted ∙ sym (fold-append open_after ka first second));
}

-- How a loop over the lines of a piece stands: some of the piece was read, and this is what is left of it.
pub record StandsIn (before : Coming) (keys : List Key) (piece rest : List ℕ) (said said_now : List FeedPost) (now : Coming) (keys_now : List Key) : Type 0 where
  pub read : List ℕ
  pub posts : List FeedPost
  pub cut : piece ≡ read ++ rest
  pub posted : said_now ≡ said ++ posts
  pub went : WentOn before keys read posts now keys_now

pub stands_first : (c : Coming) (keys : List Key) (piece : List ℕ) (said : List FeedPost) → list_all is_inside c.tail ≡ true → StandsIn c keys piece piece said said c keys
stands_first c keys piece said h = record { read = []; posts = []; cut = refl; posted = sym (append-nil said); went = nothing_more c keys h }

posted_more : (said one two first second : List FeedPost) → one ≡ said ++ first → two ≡ one ++ second → two ≡ said ++ (first ++ second)
posted_more said one two first second e f = f ∙ (ap (λ (xs : List FeedPost). xs ++ second) e ∙ append_assoc said first second)

cut_more : (piece read rest line behind : List ℕ) → piece ≡ read ++ rest → rest ≡ line ++ behind → piece ≡ (read ++ line) ++ behind
cut_more piece read rest line behind e f = e ∙ (ap (λ (xs : List ℕ). read ++ xs) f ∙ sym (append_assoc read line behind))

-- a line more was read and posted
pub stands_next : (before c d : Coming) (keys kc kd : List Key) (piece rest behind : List ℕ) (said one two post : List FeedPost)
    → StandsIn before keys piece rest said one c kc → ReadsLine c rest post d behind → list_all is_inside d.tail ≡ true
    → two ≡ one ++ post → kd ≡ fold open_after kc post → StandsIn before keys piece behind said two d kd
stands_next before c d keys kc kd piece rest behind said one two post s l h e n = record {
  read = s.read ++ l.line;
  posts = s.posts ++ post;
  cut = cut_more piece s.read rest l.line behind s.cut l.cut;
  posted = posted_more said one two s.posts post s.posted e;
  went = went_twice before c d keys kc kd s.read l.line s.posts post s.went (record { goes = l.goes; inside = h; noted = n });
}

-- all of the piece was read
pub stands_last : (before c d : Coming) (keys kc kd : List Key) (piece rest : List ℕ) (said one two post : List FeedPost)
    → StandsIn before keys piece rest said one c kc → GoesOn c rest post d [] → list_all is_inside d.tail ≡ true
    → two ≡ one ++ post → kd ≡ fold open_after kc post → (posts : List FeedPost) × (two ≡ said ++ posts) × WentOn before keys piece posts d kd
stands_last before c d keys kc kd piece rest said one two post s g h e n = (
  s.posts ++ post,
  posted_more said one two s.posts post s.posted e,
  subst (λ (bytes : List ℕ). WentOn before keys bytes (s.posts ++ post) d kd) (sym s.cut)
      (went_twice before c d keys kc kd s.read rest s.posts post s.went (record { goes = g; inside = h; noted = n })),
)

-- it stops there
pub stands_stop : (before c : Coming) (keys kc : List Key) (piece rest : List ℕ) (said one : List FeedPost) (fault : FeedError)
    → StandsIn before keys piece rest said one c kc → IsBy (c.lines + 1) fault → FailsOn c rest fault
    → (posts : List FeedPost) × (one ≡ said ++ posts) × StopsIn before keys piece fault posts kc
stands_stop before c keys kc piece rest said one fault s n f = (
  s.posts,
  s.posted,
  record { read = s.read; rest = rest; after = c; bytes_are = s.cut; went = s.went; next = n; fails = f },
)

-- a post was refused: nothing was posted by the line, and nothing noted
pub stands_refused : (before c : Coming) (keys kc k : List Key) (piece rest : List ℕ) (said one two : List FeedPost)
    → StandsIn before keys piece rest said one c kc → two ≡ one → k ≡ kc
    → (posts : List FeedPost) × (two ≡ said ++ posts) × StopsIn before keys piece error.OutOfMemory posts k
stands_refused before c keys kc k piece rest said one two s e n =
    let (posts, posted, stops) = stands_stop before c keys kc piece rest said one error.OutOfMemory s tt (λ more. tt) in
    (posts, e ∙ posted, subst (λ (keys_now : List Key). StopsIn before keys piece error.OutOfMemory posts keys_now) (sym n) stops)

-- before the first piece
pub nothing_has_come : (said : List FeedPost) (left : Option (List ℕ)) (c : Coming) (keys : List Key) → c ≡ nothing_came → keys ≡ [] → HasCome said said left left c keys
nothing_has_come said left c keys e n = record {
  taken = [];
  posts = [];
  consumed = Consumes-nil left;
  posted = sym (append-nil said);
  came = subst (HasPosted [] []) (sym e) (record { goes = λ more. after_none (reading_on nothing_came more); inside = refl });
  noted = n;
}

abbrev as_went : (text : List ℕ) (posts : List FeedPost) (c : Coming) (keys : List Key) → HasPosted text posts c → keys ≡ left_open posts → WentOn nothing_came [] text posts c keys
as_went text posts c keys h n = record { goes = h.goes; inside = h.inside; noted = n }

-- a piece more was read
pub more_has_come : (said one two : List FeedPost) (left mid now : Option (List ℕ)) (c d : Coming) (kc kd : List Key) (piece : List ℕ) (posts : List FeedPost)
    → HasCome said one left mid c kc → Consumes mid now piece → two ≡ one ++ posts → WentOn c kc piece posts d kd → HasCome said two left now d kd
more_has_come said one two left mid now c d kc kd piece posts h t e w =
    let all = went_twice nothing_came c d [] kc kd h.taken piece h.posts posts (as_went h.taken h.posts c kc h.came h.noted) w in record {
      taken = h.taken ++ piece;
      posts = h.posts ++ posts;
      consumed = Consumes-trans left mid now h.taken piece h.consumed t;
      posted = posted_more said one two h.posts posts h.posted e;
      came = record { goes = all.goes; inside = all.inside };
      noted = all.noted;
    }

front_of_closed : (before front rest closing : List FeedPost) → closing ≡ front ++ rest → before ++ closing ≡ (before ++ front) ++ rest
front_of_closed before front rest closing e = ap (λ (xs : List FeedPost). before ++ xs) e ∙ sym (append_assoc before front rest)

-- what is open was closed, or memory ran out for it
ends_closed : (said one two : List FeedPost) (left now : Option (List ℕ)) (taken : List ℕ) (before : List FeedPost) (keys : List Key) (end is : ReadEnd)
    → WasPosted taken before → Consumes left now taken → one ≡ said ++ before → keys ≡ left_open before → EndsSo taken now (closed before) end
    → EndsBy end is one two (map Closes keys) → HasRead said two left now is
ends_closed said one two left now taken before keys end is w t e n so (inl (same, f)) = record {
  taken = taken;
  posts = closed before;
  consumed = t;
  posted = posted_more said one two before (map Closes (left_open before)) e (f ∙ ap (λ (ks : List Key). one ++ map Closes ks) n);
  ends = subst (EndsSo taken now (closed before)) (sym same) so;
}
ends_closed said one two left now taken before keys end is w t e n so (inr (same, (front, (rest, q), f))) = record {
  taken = taken;
  posts = before ++ front;
  consumed = t;
  posted = posted_more said one two before front e f;
  ends = subst (EndsSo taken now (before ++ front)) (sym same)
      (inl (before, w, (rest, front_of_closed before front rest (map Closes (left_open before)) (sym (ap (map Closes) n) ∙ q))));
}

all_read : (taken : List ℕ) (posts : List FeedPost) (c : Coming) → HasPosted taken posts c → WasPosted taken posts
all_read taken posts c h = record { read = taken; rest = []; taken_is = sym (append-nil taken); after = c; posted = h }

-- the source failed
pub ends_failed : (said one two : List FeedPost) (left mid now : Option (List ℕ)) (c : Coming) (keys : List Key) (is : ReadEnd)
    → HasCome said one left mid c keys → Keeps mid now → EndsBy stop.Failed is one two (map Closes keys) → HasRead said two left now is
ends_failed said one two left mid now c keys is h k by =
    ends_closed said one two left now h.taken h.posts keys stop.Failed is (all_read h.taken h.posts c h.came)
    (Consumes-kept left mid now h.taken h.consumed k) h.posted h.noted (h.posts, c, h.came, refl) by

-- a sink failed
pub ends_broken : (said one : List FeedPost) (left now : Option (List ℕ)) (c : Coming) (keys : List Key) → HasCome said one left now c keys → HasRead said one left now stop.Broken
ends_broken said one left now c keys h = record {
  taken = h.taken;
  posts = h.posts;
  consumed = h.consumed;
  posted = h.posted;
  ends = inl (h.posts, all_read h.taken h.posts c h.came, (map Closes (left_open h.posts), refl));
}

-- memory ran out after all that came had been read
pub ends_short : (said one two : List FeedPost) (left now : Option (List ℕ)) (c : Coming) (keys : List Key) (is : ReadEnd)
    → HasCome said one left now c keys → EndsBy stop.OutOfMemory is one two (map Closes keys) → HasRead said two left now is
ends_short said one two left now c keys is h by =
    let w = all_read h.taken h.posts c h.came in
    ends_closed said one two left now h.taken h.posts keys stop.OutOfMemory is w h.consumed h.posted h.noted
    (inl (h.posts, w, ([], sym (append-nil (closed h.posts))))) by

abbrev err_at : ℕ → FeedFault → Posted
err_at n f = Err (n, f)

-- a fault after what was read is the first one
fault_on : (taken read rest more : List ℕ) (posts : List FeedPost) (c : Coming) (n : ℕ) (f : FeedFault) → FromTheStart → taken ≡ read ++ rest → HasPosted read posts c
    → reading_on c (rest ++ more) ≡ err_at n f → read_feed limits (taken ++ more) ≡ err_at n f
fault_on taken read rest more posts c n f law e h is =
    sym (law (taken ++ more))
    ∙ (ap (λ (xs : List ℕ). reading_on nothing_came (xs ++ more)) e
    ∙ (ap (reading_on nothing_came) (append_assoc read rest more)
    ∙ (h.goes (rest ++ more) ∙ ap (after_posts posts) is)))

-- a piece has a fault, or memory ran out in it
pub ends_in : (said one two three : List FeedPost) (left mid now : Option (List ℕ)) (c : Coming) (kc kd : List Key) (piece : List ℕ) (posts : List FeedPost) (fault : FeedError) (is : ReadEnd)
    → FromTheStart → HasCome said one left mid c kc → Consumes mid now piece → two ≡ one ++ posts → StopsIn c kc piece fault posts kd
    → EndsBy (end_by fault) is two three (map Closes kd) → HasRead said three left now is
ends_in said one two three left mid now c kc kd piece posts fault is law h t e s by =
    let went = went_twice nothing_came c s.after [] kc kd h.taken s.read h.posts posts (as_went h.taken h.posts c kc h.came h.noted) s.went in
    let came : HasPosted (h.taken ++ s.read) (h.posts ++ posts) s.after = record { goes = went.goes; inside = went.inside } in
    let cut = cut_more (h.taken ++ piece) h.taken piece s.read s.rest refl s.bytes_are in
    ends_closed said two three left now (h.taken ++ piece) (h.posts ++ posts) kd (end_by fault) is
    (record { read = h.taken ++ s.read; rest = s.rest; taken_is = cut; after = s.after; posted = came })
    (Consumes-trans left mid now h.taken piece h.consumed t) (posted_more said one two h.posts posts h.posted e) went.noted
    (so (h.taken ++ piece) (h.taken ++ s.read) s.rest (h.posts ++ posts) s.after now fault cut came s.next s.fails) by
  where
    so : (taken read rest : List ℕ) (before : List FeedPost) (d : Coming) (left : Option (List ℕ)) (fault : FeedError)
        → taken ≡ read ++ rest → HasPosted read before d → IsBy (d.lines + 1) fault → FailsOn d rest fault → EndsSo taken left (closed before) (end_by fault)
    so taken read rest before d left (error.Line n f) cut came next fails = record {
      read = read;
      rest = rest;
      after = d;
      before = before;
      taken_is = cut;
      posted = came;
      all = next;
      closed = refl;
      first = inl (λ more. fault_on taken read rest more before d n f law cut came (fails more));
    }
    so taken read rest before d left error.OutOfMemory cut came next fails =
        inl (before, record { read = read; rest = rest; taken_is = cut; after = d; posted = came }, ([], sym (append-nil (closed before))))

-- the end of the input is refused
pub ends_at_fault : (said one two : List FeedPost) (left now : Option (List ℕ)) (c : Coming) (keys : List Key) (fault : FeedError) (is : ReadEnd)
    → FromTheStart → IsAtEnd now → HasCome said one left now c keys → IsBy (c.lines + 1) fault → FailsAt fault (reading_on c [])
    → EndsBy (end_by fault) is one two (map Closes keys) → HasRead said two left now is
ends_at_fault said one two left now c keys fault is law at h next fails by =
    ends_closed said one two left now h.taken h.posts keys (end_by fault) is (all_read h.taken h.posts c h.came) h.consumed h.posted h.noted
    (so h.taken h.posts c now fault at h.came next fails) by
  where
    so : (taken : List ℕ) (before : List FeedPost) (d : Coming) (left : Option (List ℕ)) (fault : FeedError)
        → IsAtEnd left → HasPosted taken before d → IsBy (d.lines + 1) fault → FailsAt fault (reading_on d []) → EndsSo taken left (closed before) (end_by fault)
    so taken before d left (error.Line n f) at came next fails = record {
      read = taken;
      rest = [];
      after = d;
      before = before;
      taken_is = sym (append-nil taken);
      posted = came;
      all = next;
      closed = refl;
      first = inr (at, ap (read_feed limits) (sym (append-nil taken)) ∙ fault_on taken taken [] [] before d n f law (sym (append-nil taken)) came fails);
    }
    so taken before d left error.OutOfMemory at came next fails = inl (before, all_read taken before d came, ([], sym (append-nil (closed before))))

abbrev ok_of : List FeedPost → Posted
ok_of posts = Ok posts

-- the input is a feed, and what is left to post is posted, or a front of it
pub ends_whole : (said one two three : List FeedPost) (left now : Option (List ℕ)) (c : Coming) (keys : List Key) (post closing : List FeedPost) (is : ReadEnd)
    → FromTheStart → IsAtEnd now → HasCome said one left now c keys → reading_on c [] ≡ ok_of (post ++ closing)
    → two ≡ one ++ post → EndsBy stop.AtEnd is two three closing → HasRead said three left now is
ends_whole said one two three left now c keys post closing is law at h read e by = ends by
  where
    all : List FeedPost
    all = (h.posts ++ post) ++ closing

    is_all : read_feed limits h.taken ≡ ok_of all
    is_all =
        sym (law h.taken)
        ∙ (ap (reading_on nothing_came) (sym (append-nil h.taken))
        ∙ (h.came.goes [] ∙ (ap (after_posts h.posts) read ∙ ap ok_of (sym (append_assoc h.posts post closing)))))

    posted : two ≡ said ++ (h.posts ++ post)
    posted = posted_more said one two h.posts post h.posted e

    ends : EndsBy stop.AtEnd is two three closing → HasRead said three left now is
    ends (inl (same, f)) = record {
      taken = h.taken;
      posts = all;
      consumed = h.consumed;
      posted = posted_more said two three (h.posts ++ post) closing posted f;
      ends = subst (EndsSo h.taken now all) (sym same) (at, is_all);
    }
    ends (inr (same, (front, (rest, q), f))) = record {
      taken = h.taken;
      posts = (h.posts ++ post) ++ front;
      consumed = h.consumed;
      posted = posted_more said two three (h.posts ++ post) front posted f;
      ends = subst (EndsSo h.taken now ((h.posts ++ post) ++ front)) (sym same)
          (inr (at, (all, is_all, (rest, front_of_closed (h.posts ++ post) front rest closing q))));
    }

-- what was closed of some jobs, one after another
pub closed_one_more : (keys : List Key) (i : ℕ) (said one two : List FeedPost) (key : Key)
    → one ≡ said ++ map Closes (take i keys) → two ≡ one ++ Closes key ∷ [] → take (i + 1) keys ≡ take i keys ++ key ∷ [] → two ≡ said ++ map Closes (take (i + 1) keys)
closed_one_more keys i said one two key e f n =
    posted_more said one two (map Closes (take i keys)) (Closes key ∷ []) e f
    ∙ ap (λ (xs : List FeedPost). said ++ xs) (sym (ap (map Closes) n ∙ map-append Closes (take i keys) (key ∷ [])))

-- the first of them were closed
pub closed_some : (keys : List Key) (i : ℕ) → IsFront (map Closes (take i keys)) (map Closes keys)
closed_some keys i = (map Closes (drop i keys), sym (ap (map Closes) (take-append-drop i keys)) ∙ map-append Closes (take i keys) (drop i keys))

-- What an answer says, where it is known.
pub on_ok : {A E X : Type 0} (r : Result A E) (x : A) → r ≡ Ok x → OnOk r X → X
on_ok {X = X} r x e h = subst (λ answer. OnOk answer X) e h

pub on_err : {A E X : Type 0} (r : Result A E) (x : E) → r ≡ Err x → OnErr r X → X
on_err {X = X} r x e h = subst (λ answer. OnErr answer X) e h

pub if_err : {A E : Type 0} (P : E → Type 0) (r : Result A E) (x : E) → r ≡ Err x → IfErr r P → P x
if_err P r x e h = subst (λ answer. IfErr answer P) e h

-- closings, where nothing was posted before them and these are the keys
pub by_same : (end is : ReadEnd) (one same two : List FeedPost) (keys given : List Key) → same ≡ one → given ≡ keys → EndsBy end is same two (map Closes given) → EndsBy end is one two (map Closes keys)
by_same end is one same two keys given e n by =
    subst (λ (ks : List Key). EndsBy end is one two (map Closes ks)) n (subst (λ (said : List FeedPost). EndsBy end is said two (map Closes given)) e by)

pub if_some : {A : Type 0} (none : Type 0) (P : A → Type 0) (o : Option A) (x : A) → o ≡ Some x → MatchOption o none P → P x
if_some none P o x e h = subst (λ answer. MatchOption answer none P) e h

-- the same by the fault of a piece
pub by_fault : (end given is : ReadEnd) (one two : List FeedPost) (keys same : List Key) → given ≡ end → same ≡ keys → EndsBy given is one two (map Closes same) → EndsBy end is one two (map Closes keys)
by_fault end given is one two keys same e n by =
    subst (λ (ends : ReadEnd). EndsBy ends is one two (map Closes keys)) e (subst (λ (ks : List Key). EndsBy given is one two (map Closes ks)) n by)
