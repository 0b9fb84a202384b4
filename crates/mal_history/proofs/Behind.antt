-- What is left to read, after what was read before.
use Rattle.std.proofs.Common.{◌≡◌, ℕ, suc, Bool, true, false, cond, ◌&&◌, List, [], ◌∷◌, ◌++◌, ◌+◌, map, length, Result, Ok, Err, refl, sym, ap, ap₂, subst, ◌∙◌, append_assoc, length-append, arith}
use Rattle.mal_base.specs.Limits.{limits}
use Rattle.mal_base.specs.Names.{is_name}
use Rattle.spec_text.specs.Inputs.{lines_of, words_of}
use Rattle.spec_dimacs.specs.Rows.{rows_of}
use Rattle.spec_dimacs.specs.Reading.{◌>>=◌}
use Rattle.mal_history.specs.declared.event.Event.{Event}
use Rattle.mal_history.specs.declared.event.Event.TheVariants.{Balance}
use Rattle.mal_history.specs.declared.event.Share.{Share}
use Rattle.mal_history.specs.Reading.{Read, Fault, in_range, are_shares, shares_of, next_event, on_line, with_event, events_from}
use Rattle.mal_history.specs.Reading.Fault.{BadLine, BadNumber}
use Rattle.mal_history.specs.Written.{Written}

-- the balancing of volumes and of words after them, where the volumes before were in range or not
abbrev pub balance_behind : List Share → Bool → List (List ℕ) → Result Event Fault
balance_behind front true words = cond (are_shares words) (shares_of words >>= λ shares. Ok (Balance (front ++ shares))) (Err BadLine)
balance_behind front false words = cond (are_shares words) (Err BadNumber) (Err BadLine)

-- events and their lines before those that are read
abbrev pub behind : List Event → List ℕ → Result Read (ℕ × Fault) → Result Read (ℕ × Fault)
behind events lines (Ok h) = Ok (record { workers = h.workers; events = events ++ h.events; lines = lines ++ h.lines })
behind events lines (Err e) = Err e

share-of : List ℕ → List ℕ → ℕ → Share
share-of tenant job volume = record { tenant = tenant; job = job; volume = volume }

both-true : (a b c : Bool) → (a && b) ≡ true → (a && b && c) ≡ c
both-true true true c e = refl
both-true true false c e = absurd (cc)
both-true false b c e = absurd (cc)

-- the words of one more volume
are-shares : (tenant job volume : List ℕ) (words : List (List ℕ)) → (is_name tenant && is_name job) ≡ true → are_shares (tenant ∷ job ∷ volume ∷ words) ≡ are_shares words
are-shares tenant job volume words h = both-true (is_name tenant) (is_name job) (are_shares words) h

-- one that is in range stands after those before
share-in : (front : List Share) (ok : Bool) (tenant job volume : List ℕ) (words : List (List ℕ)) (v : ℕ) → (is_name tenant && is_name job) ≡ true → in_range 0 limits.demand volume ≡ Ok v
    → balance_behind (front ++ share-of tenant job v ∷ []) ok words ≡ balance_behind front ok (tenant ∷ job ∷ volume ∷ words)
unfolding share-of
share-in front false tenant job volume words v h e = ap (λ (b : Bool). cond b (Err BadNumber) (Err BadLine)) (sym (are-shares tenant job volume words h))
share-in front true tenant job volume words v h e =
    sym (ap (λ (b : Bool). cond b (shares_of (tenant ∷ job ∷ volume ∷ words) >>= λ shares. Ok (Balance (front ++ shares))) (Err BadLine)) (are-shares tenant job volume words h)
    ∙ ap (λ (r : Result ℕ Fault). cond (are_shares words) ((r >>= λ n. shares_of words >>= λ shares. Ok (share-of tenant job n ∷ shares)) >>= λ shares. Ok (Balance (front ++ shares))) (Err BadLine)) e
    ∙ ap (λ (r : Result Event Fault). cond (are_shares words) r (Err BadLine)) (moved (shares_of words)))
  where
    moved : (r : Result (List Share) Fault) → ((r >>= λ shares. Ok (share-of tenant job v ∷ shares)) >>= λ shares. Ok (Balance (front ++ shares))) ≡ (r >>= λ shares. Ok (Balance ((front ++ share-of tenant job v ∷ []) ++ shares)))
    moved (Err fault) = refl
    moved (Ok shares) = ap (λ (ss : List Share). Ok (Balance ss)) (sym (append_assoc front (share-of tenant job v ∷ []) shares))

-- one that is not makes the line wrong
share-out : (front : List Share) (ok : Bool) (tenant job volume : List ℕ) (words : List (List ℕ)) → (is_name tenant && is_name job) ≡ true → in_range 0 limits.demand volume ≡ Err BadNumber
    → balance_behind front false words ≡ balance_behind front ok (tenant ∷ job ∷ volume ∷ words)
share-out front false tenant job volume words h e = ap (λ (b : Bool). cond b (Err BadNumber) (Err BadLine)) (sym (are-shares tenant job volume words h))
share-out front true tenant job volume words h e =
    sym (ap (λ (b : Bool). cond b (shares_of (tenant ∷ job ∷ volume ∷ words) >>= λ shares. Ok (Balance (front ++ shares))) (Err BadLine)) (are-shares tenant job volume words h)
    ∙ ap (λ (r : Result ℕ Fault). cond (are_shares words) ((r >>= λ n. shares_of words >>= λ shares. Ok (record { tenant = tenant; job = job; volume = n } ∷ shares)) >>= λ shares. Ok (Balance (front ++ shares))) (Err BadLine)) e)

-- the words of a line are those of one more volume, and others
shared : (words words1 words2 : List (List ℕ)) (tenant job volume : List ℕ) → words ≡ tenant ∷ words1 → words1 ≡ job ∷ volume ∷ words2 → words ≡ tenant ∷ job ∷ volume ∷ words2
shared words words1 words2 tenant job volume e f = e ∙ ap (λ (ws : List (List ℕ)). tenant ∷ ws) f

pub next-in : (front new : List Share) (ok : Bool) (words words1 words2 : List (List ℕ)) (tenant job t j volume : List ℕ) (v : ℕ) (read : Result Event Fault)
    → words ≡ tenant ∷ words1 → words1 ≡ job ∷ volume ∷ words2 → (t ≡ tenant) × (j ≡ job) × ((is_name tenant && is_name job) ≡ true) → in_range 0 limits.demand volume ≡ Ok v
    → new ≡ front ++ record { tenant = t; job = j; volume = v } ∷ [] → balance_behind front ok words ≡ read → balance_behind new ok words2 ≡ read
unfolding share-of
next-in front new ok words words1 words2 tenant job t j volume v read e f names r n h =
    ap (λ (ss : List Share). balance_behind ss ok words2) (n ∙ ap₂ (λ (a b : List ℕ). front ++ share-of a b v ∷ []) names.0 names.1)
    ∙ share-in front ok tenant job volume words2 v names.2 r
    ∙ ap (balance_behind front ok) (sym (shared words words1 words2 tenant job volume e f))
    ∙ h

pub next-out : (front : List Share) (ok : Bool) (words words1 words2 : List (List ℕ)) (tenant job t j volume : List ℕ) (read : Result Event Fault)
    → words ≡ tenant ∷ words1 → words1 ≡ job ∷ volume ∷ words2 → (t ≡ tenant) × (j ≡ job) × ((is_name tenant && is_name job) ≡ true) → in_range 0 limits.demand volume ≡ Err BadNumber
    → balance_behind front ok words ≡ read → balance_behind front false words2 ≡ read
next-out front ok words words1 words2 tenant job t j volume read e f names r h =
    share-out front ok tenant job volume words2 names.2 r
    ∙ ap (balance_behind front ok) (sym (shared words words1 words2 tenant job volume e f))
    ∙ h

-- one more event and its line stand after those before
more-behind : (events : List Event) (lines : List ℕ) (e : Event) (line : ℕ) (r : Result Read (ℕ × Fault)) → behind events lines (r >>= λ h. Ok (with_event line e h)) ≡ behind (events ++ e ∷ []) (lines ++ line ∷ []) r
more-behind events lines e line (Err fault) = refl
more-behind events lines e line (Ok h) = ap₂ (λ (es : List Event) (ls : List ℕ). Ok (record { workers = h.workers; events = es; lines = ls })) (sym (append_assoc events (e ∷ []) h.events)) (sym (append_assoc lines (line ∷ []) h.lines))

-- the event of a line that was read
pub next-read : (max version workers line : ℕ) (events now : List Event) (lines numbers : List ℕ) (word : List ℕ) (words : List (List ℕ)) (rows : List (List (List ℕ))) (e : Event)
    → on_line (suc line) (next_event max version workers (length events) (word ∷ words)) ≡ Ok e → now ≡ events ++ e ∷ [] → numbers ≡ lines ++ suc line ∷ []
    → behind now numbers (events_from max version workers (suc line) (length now) rows) ≡ behind events lines (events_from max version workers line (length events) ((word ∷ words) ∷ rows))
next-read max version workers line events now lines numbers word words rows e read es ls =
    ap₂ (λ (xs : List Event) (ns : List ℕ). behind xs ns (events_from max version workers (suc line) (length xs) rows)) es ls
    ∙ ap (λ (n : ℕ). behind (events ++ e ∷ []) (lines ++ suc line ∷ []) (events_from max version workers (suc line) n rows)) (omega (arith, length-append events (e ∷ [])))
    ∙ sym (more-behind events lines e (suc line) (events_from max version workers (suc line) (suc (length events)) rows))
    ∙ ap (λ (r : Result Event (ℕ × Fault)). behind events lines (r >>= λ x. events_from max version workers (suc line) (suc (length events)) rows >>= λ h. Ok (with_event (suc line) x h))) (sym read)

-- an event was put after those before
pub record Grown (old new : Written) (max version workers line : ℕ) (words : List (List ℕ)) : Type 0 where
  pub event : Event
  pub read : on_line line (next_event max version workers (length old.events) words) ≡ Ok event
  pub events : new.events ≡ old.events ++ event ∷ []
  pub lines : new.lines ≡ old.lines ++ line ∷ []

pub grown-read : (max version workers line after : ℕ) (old new : Written) (word : List ℕ) (words : List (List ℕ)) (rows left : List (List (List ℕ))) (all : Result Read (ℕ × Fault))
    → Grown old new max version workers after (word ∷ words) → after ≡ suc line → rows ≡ (word ∷ words) ∷ left
    → behind old.events old.lines (events_from max version workers line (length old.events) rows) ≡ all → behind new.events new.lines (events_from max version workers after (length new.events) left) ≡ all
grown-read max version workers line after old new word words rows left all g a r h =
    ap (λ (n : ℕ). behind new.events new.lines (events_from max version workers n (length new.events) left)) a
    ∙ next-read max version workers line old.events new.events old.lines new.lines word words left g.event (subst (λ (n : ℕ). on_line n (next_event max version workers (length old.events) (word ∷ words)) ≡ Ok g.event) a g.read) g.events (subst (λ (n : ℕ). new.lines ≡ old.lines ++ n ∷ []) a g.lines)
    ∙ ap (λ (rs : List (List (List ℕ))). behind old.events old.lines (events_from max version workers line (length old.events) rs)) (sym r)
    ∙ h

pub grown-lengths : (max version workers line : ℕ) (old new : Written) (words : List (List ℕ)) → Grown old new max version workers line words → length old.lines ≡ length old.events → length new.lines ≡ length new.events
grown-lengths max version workers line old new words g e =
    ap length g.lines ∙ length-append old.lines (line ∷ []) ∙ ap (λ (n : ℕ). n + 1) e ∙ sym (length-append old.events (g.event ∷ [])) ∙ sym (ap length g.events)

pub row-first : (rest behind row others : List ℕ) (word : List ℕ) → lines_of rest ≡ row ∷ lines_of behind → words_of row ≡ word ∷ words_of others → rows_of rest ≡ (word ∷ words_of others) ∷ rows_of behind
row-first rest behind row others word e f = ap (map words_of) e ∙ ap (λ (r : List (List ℕ)). r ∷ rows_of behind) f
