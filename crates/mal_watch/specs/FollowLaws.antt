use Rattle.std.specs.Prelude.{◌≡◌, ◌≢◌, ℕ, ◌+◌, ◌-◌, ◌<◌, ◌≤◌, min, List, [], ◌∷◌, ◌++◌, length, map, take, slice_index}
use Rattle.std.proofs.Common.{refl, sym, ap, ◌∙◌, arith, inl, inr, ⊎_elim}
use Rattle.std.proofs.lemmas.List.{take-append-le, take-take}
use Rattle.mal_base.specs.NumberedClause.{NumberedClause}
use Rattle.mal_base.specs.declared.trail_entry.TrailEntry.{TrailEntry}
use Rattle.mal_trail.proofs.CutLemmas.{kept-take}
use Rattle.mal_trail.proofs.AlikeLemmas.{true-alike, false-alike}
use Rattle.spec_node.specs.Cut.{kept}
use Rattle.mal_watch.specs.Following.{Follows}
use Rattle.mal_watch.specs.Watching.{other_key, IsWatching, IsWatchKept}

-- what follows a trail follows another where its watches are so, also others
pub follows-with : (clauses watched : List NumberedClause) (keys out now_keys now_out : List ℕ) (lists more capacity wider : ℕ) (entries now : List TrailEntry) (processed less : ℕ) → Follows clauses watched keys out lists capacity entries processed → IsWatching more watched now_keys → ((k : ℕ) → k < length now_keys → slice_index now_keys k ≢ other_key now_keys k) → now_out ≡ [] → length watched ≤ wider → ((n k : ℕ) → n ≤ less - 1 → k < length now_keys → IsWatchKept (take n now) watched now_keys k) → Follows clauses watched now_keys now_out more wider now less
follows-with clauses watched keys out now_keys now_out lists more capacity wider entries now processed less f watching apart idle room kept =
    record {
      numbers = f.numbers;
      held = f.held;
      each = f.each;
      single = f.single;
      form = f.form;
      watching = watching;
      apart = apart;
      idle = idle;
      room = room;
      kept = kept;
    }

-- so it follows each of the same handled entries
pub follows-same : (clauses watched : List NumberedClause) (keys out : List ℕ) (lists capacity : ℕ) (entries now : List TrailEntry) (processed less : ℕ) → less - 1 ≤ processed - 1 → ((n : ℕ) → n ≤ less - 1 → take n now ≡ take n entries) → Follows clauses watched keys out lists capacity entries processed → Follows clauses watched keys out lists capacity now less
follows-same clauses watched keys out lists capacity entries now processed less l e f = follows-with clauses watched keys out keys out lists lists capacity capacity entries now processed less f f.watching f.apart f.idle f.room (λ n k h m. rw (e n h) (f.kept n k (omega (arith, h, l)) m))

pub follows-push : (clauses watched : List NumberedClause) (keys out : List ℕ) (lists capacity : ℕ) (entries : List TrailEntry) (entry : TrailEntry) (processed : ℕ) → processed ≤ length entries + 1 → Follows clauses watched keys out lists capacity entries processed → Follows clauses watched keys out lists capacity (entries ++ entry ∷ []) processed
follows-push clauses watched keys out lists capacity entries entry processed b f = follows-same clauses watched keys out lists capacity entries (entries ++ entry ∷ []) processed processed (omega arith) (λ n h. take-append-le n entries (entry ∷ []) (omega arith)) f

pub follows-less : (clauses watched : List NumberedClause) (keys out : List ℕ) (lists capacity : ℕ) (entries : List TrailEntry) (processed less : ℕ) → less ≤ processed → Follows clauses watched keys out lists capacity entries processed → Follows clauses watched keys out lists capacity entries less
follows-less clauses watched keys out lists capacity entries processed less l f = follows-same clauses watched keys out lists capacity entries entries processed less (omega arith) (λ n h. refl) f

pub follows-cut : (clauses watched : List NumberedClause) (keys out : List ℕ) (lists capacity : ℕ) (entries : List TrailEntry) (processed level : ℕ) → Follows clauses watched keys out lists capacity entries processed → Follows clauses watched keys out lists capacity (kept level entries) (min processed (length (kept level entries) + 1))
follows-cut clauses watched keys out lists capacity entries processed level f =
    follows-same clauses watched keys out lists capacity entries (kept level entries) processed (min processed (length (kept level entries) + 1)) (omega arith) (λ n h.
    let within : n ≤ length (kept level entries) = omega arith in
    ap (λ (es : List TrailEntry). take n es) (sym (kept-take level entries)) ∙ take-take n (length (kept level entries)) entries within) f

-- and each trail with the same literals
pub follows-alike : (clauses watched : List NumberedClause) (keys out : List ℕ) (lists capacity : ℕ) (entries others : List TrailEntry) (processed : ℕ) → map (λ (e : TrailEntry). e.lit) others ≡ map (λ (e : TrailEntry). e.lit) entries → Follows clauses watched keys out lists capacity entries processed → Follows clauses watched keys out lists capacity others processed
follows-alike clauses watched keys out lists capacity entries others processed alike f =
    follows-with clauses watched keys out keys out lists lists capacity capacity entries others processed processed f f.watching f.apart f.idle f.room (λ n k h m. kept-alike n k (f.kept n k h m))
  where
    kept-alike : (n k : ℕ) → IsWatchKept (take n entries) watched keys k → IsWatchKept (take n others) watched keys k
    kept-alike n k w h = ⊎_elim
        (λ a. inl (λ x has apart. false-alike n x entries others alike ∙ a x has apart))
        (λ t. inr (true-alike n (other_key keys k) entries others alike ∙ t))
        (w (sym (false-alike n (slice_index keys k) entries others alike) ∙ h))
