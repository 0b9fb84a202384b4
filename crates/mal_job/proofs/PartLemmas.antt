-- The parts of a job and its view: the journals of its nodes, and places that are made.
use Rattle.std.proofs.Common.{◌≡◌, ℕ, zero, suc, ◌-◌, ◌*◌, ◌<◌, ◌≤◌, List, [], ◌∷◌, ◌++◌, length, map, replicate, get_or, refl, sym, ◌∙◌, ap, subst, arith}
use Rattle.std.specs.Prelude.{Result, Ok, Err, OnOk, OnErr, IfOk, slice_set}
use Rattle.mal_base.specs.declared.profile.Profile.TheVariants.{Plain}
use Rattle.mal_base.specs.declared.profile.Profile.{Profile}
use Rattle.mal_base.specs.NumberedClause.{NumberedClause, Line}
use Rattle.spec_job.specs.Counts.{runs_of, starts_out}
use Rattle.spec_job.specs.Journal.{JournalEntry}
use Rattle.spec_job.specs.Journaled.{Journaled}
use Rattle.spec_job.specs.SoloMachine.{NodeSlot, Slice, SoloMachine, place_at}
use Rattle.spec_job.specs.Viewed.{JobView, journal_at}
use Rattle.mal_job.specs.JobInvariant.{IsOwn, JobInvariant}
use Rattle.mal_job.specs.Placing.{IsGrown, IsTree, placed, fresh_place}
use Rattle.mal_job.specs.Viewed.{PlaceView, TreeView, LogView, Parts, places_of, starts_of, state_of, viewed}
use Rattle.mal_job.proofs.PlaceLemmas.{placed-at, own-at, grown-places, grown-starts}

-- what holds of the outcome of a call that is refused or not
pub on-both : {T E X : Type 0} (result : Result T E) (P : X → Type 0) (x a b : X) → OnOk result (x ≡ a) → OnErr result (x ≡ b) → P a → P b → P x
on-both (Ok v) P x a b ok err p q = subst P (sym ok) p
on-both (Err e) P x a b ok err p q = subst P (sym err) q

pub then-ok : {T E A B : Type 0} (result : Result T E) → OnOk result A → (A → B) → OnOk result B
then-ok (Ok v) a f = f a
then-ok (Err e) a f = tt

pub then-err : {T E A B : Type 0} (result : Result T E) → OnErr result A → (A → B) → OnErr result B
then-err (Ok v) a f = tt
then-err (Err e) a f = f a

pub on-err : {T E P : Type 0} (result : Result T E) → P → OnErr result P
on-err (Ok v) p = tt
on-err (Err e) p = p

-- what holds of the result where a call was not refused, by the tree that it leaves
pub lease-of : {T E : Type 0} (Q : T → Type 0) (result : Result T E) (t u : TreeView) → OnOk result (u ≡ t) → IsTree u → (IsTree t → IfOk result Q) → IfOk result Q
lease-of Q (Ok v) t u e h f = f (subst IsTree e h)
lease-of Q (Err x) t u e h f = tt

-- the number of the last start of a node
starts-front : (ps : List PlaceView) (rest : List ℕ) (i : ℕ) (d : PlaceView) → i < length ps → get_or (map (λ (p : PlaceView). p.journal.start) ps ++ rest) i 0 ≡ (get_or ps i d).journal.start
starts-front [] rest i d low = absurd (omega arith)
starts-front (p ∷ ps) rest zero d low = refl
starts-front (p ∷ ps) rest (suc i) d low = starts-front ps rest i d (omega arith)

set-rear : (ps : List PlaceView) (rest : List ℕ) (i : ℕ) (p : PlaceView) → i < length ps → map (λ (x : PlaceView). x.journal.start) (slice_set ps i p) ++ rest ≡ slice_set (map (λ (x : PlaceView). x.journal.start) ps ++ rest) i p.journal.start
set-rear [] rest i p low = absurd (omega arith)
set-rear (x ∷ xs) rest zero p low = refl
set-rear (x ∷ xs) rest (suc i) p low = ap (λ (ns : List ℕ). x.journal.start ∷ ns) (set-rear xs rest i p (omega arith))

set-length : (ps : List PlaceView) (i : ℕ) (p : PlaceView) → length (slice_set ps i p) ≡ length ps
set-length [] i p = refl
set-length (x ∷ xs) zero p = refl
set-length (x ∷ xs) (suc i) p = ap (λ (n : ℕ). suc n) (set-length xs i p)

pub starts-set : (ps : List PlaceView) (i : ℕ) (p : PlaceView) → i < length ps → starts_of (slice_set ps i p) ≡ slice_set (starts_of ps) i p.journal.start
starts-set ps i p low = ap (λ (n : ℕ). map (λ (x : PlaceView). x.journal.start) (slice_set ps i p) ++ replicate (64 - n) 0) (set-length ps i p) ∙ set-rear ps (replicate (64 - length ps) 0) i p low

-- the start of a node that is set is that of the new place
same-front : (ps : List PlaceView) (rest : List ℕ) (i : ℕ) (d p : PlaceView) → i < length ps → p.journal.start ≡ (get_or ps i d).journal.start → map (λ (x : PlaceView). x.journal.start) (slice_set ps i p) ++ rest ≡ map (λ (x : PlaceView). x.journal.start) ps ++ rest
same-front [] rest i d p low e = absurd (omega arith)
same-front (x ∷ xs) rest zero d p low e = ap (λ (n : ℕ). n ∷ (map (λ (y : PlaceView). y.journal.start) xs ++ rest)) e
same-front (x ∷ xs) rest (suc i) d p low e = ap (λ (ns : List ℕ). x.journal.start ∷ ns) (same-front xs rest i d p (omega arith) e)

pub starts-same : (ps : List PlaceView) (i : ℕ) (d p : PlaceView) → i < length ps → p.journal.start ≡ (get_or ps i d).journal.start → starts_of (slice_set ps i p) ≡ starts_of ps
starts-same ps i d p low e = ap (λ (n : ℕ). map (λ (x : PlaceView). x.journal.start) (slice_set ps i p) ++ replicate (64 - n) 0) (set-length ps i p) ∙ same-front ps (replicate (64 - length ps) 0) i d p low e

-- the journal at an index
pub journal-parts : (j : Journaled) (job : ℕ) (profile : Profile) (index start : ℕ) (entries : List JournalEntry) → job ≡ j.job → profile ≡ j.profile → index ≡ j.index → start ≡ j.start → entries ≡ j.entries → record { job = job; profile = profile; index = index; start = start; entries = entries } ≡ j
journal-parts j job profile index start entries a p b c d = rw (a, p, b, c, d) refl

pub journal-same : (tenant job : List ℕ) (q : Parts) (i : ℕ) → i < length q.tree.places → IsTree q.tree → q.tree.profile ≡ q.asked.ask.profile → journal_at (viewed tenant job q) i ≡ (placed q.tree i).journal
journal-same tenant job q i low k solvers =
    let own = own-at q.tree.number q.tree.profile q.tree.places 0 i (fresh_place 0 Plain 0) low k.own in
    journal-parts (placed q.tree i).journal q.tree.number q.asked.ask.profile i (get_or (starts_of q.tree.places) i 0) (place_at (state_of q) i).entries (sym own.0) (sym (own.2 ∙ solvers)) (sym (own.1 ∙ omega arith)) (starts-front q.tree.places (replicate (64 - length q.tree.places) 0) i (fresh_place 0 Plain 0) low) (ap (λ (p : NodeSlot). p.entries) (placed-at q.tree.places i (fresh_place 0 Plain 0) low))

-- a view of parts
abbrev pub view_of : List ℕ → List ℕ → ℕ → SoloMachine → List ℕ → JobView
view_of tenant job number s starts = record { number = number; titled = record { key = record { tenant = tenant; job = job }; state = s }; starts = starts }

pub view-same : (tenant job : List ℕ) (number other : ℕ) (s t : SoloMachine) (starts others : List ℕ) → number ≡ other → s ≡ t → starts ≡ others → view_of tenant job number s starts ≡ view_of tenant job other t others
view-same tenant job number other s t starts others a b c = ap (λ (n : ℕ). view_of tenant job n s starts) a ∙ (ap (λ (x : SoloMachine). view_of tenant job other x starts) b ∙ ap (λ (ns : List ℕ). view_of tenant job other t ns) c)

-- places were made, and there is no less room for chunks
pub record HasGrown (q : Parts) (t : TreeView) (l : LogView) : Type 0 where
  pub places : IsGrown q.tree.number q.tree.profile q.tree.places t.places
  pub rest : (let x : TreeView = record t { places = [] } in x) ≡ record q.tree { places = [] }
  pub tree : IsTree t
  pub lines : l.lines ≡ q.log.lines
  pub slices : l.slices ≡ q.log.slices
  pub room : q.log.chunk_room ≤ l.chunk_room

module _ (q : Parts) (t : TreeView) (l : LogView) (g : HasGrown q t l) where
  abbrev pub grown : Parts
  grown = record { asked = q.asked; tree = t; log = l }

  pub grown-state : state_of grown ≡ state_of q
  grown-state =
      let volume : t.volume ≡ q.tree.volume = ap (λ (x : TreeView). x.volume) g.rest in
      let tolds : t.broadcasts ≡ q.tree.broadcasts = ap (λ (x : TreeView). x.broadcasts) g.rest in
      let ran : t.ran ≡ q.tree.ran = ap (λ (x : TreeView). x.ran) g.rest in
      let places : places_of t.places ≡ places_of q.tree.places = grown-places q.tree.number q.tree.profile q.tree.places t.places g.places g.tree.few in
      parts-same places volume tolds ran
    where
      parts-same : places_of t.places ≡ places_of q.tree.places → t.volume ≡ q.tree.volume → t.broadcasts ≡ q.tree.broadcasts → t.ran ≡ q.tree.ran → state_of grown ≡ state_of q
      parts-same a b c d = by_parts (places_of t.places) t.volume t.broadcasts t.ran l.lines l.slices a b c d g.lines g.slices
        where
          by_parts : (ps : List NodeSlot) (v : ℕ) (ts : List (List NumberedClause)) (n : ℕ) (ls : List Line) (cs : List Slice) → ps ≡ places_of q.tree.places → v ≡ q.tree.volume → ts ≡ q.tree.broadcasts → n ≡ q.tree.ran → ls ≡ q.log.lines → cs ≡ q.log.slices → (let s : SoloMachine = record (state_of q) { places = ps; volume = v; broadcasts = ts; ran = n; log = ls; slices = cs } in s) ≡ state_of q
          by_parts ps v ts n ls cs a b c d e f = rw (a, b, c, d, e, f) refl

  pub grown-view : (tenant job : List ℕ) → viewed tenant job grown ≡ viewed tenant job q
  grown-view tenant job = view-same tenant job t.number q.tree.number (state_of grown) (state_of q) (starts_of t.places) (starts_of q.tree.places) (ap (λ (x : TreeView). x.number) g.rest) grown-state (grown-starts q.tree.number q.tree.profile q.tree.places t.places g.places g.tree.few)

  pub grown-kept : JobInvariant q → JobInvariant grown
  grown-kept k =
      let ran : t.ran ≡ q.tree.ran = ap (λ (x : TreeView). x.ran) g.rest in
      let places : places_of t.places ≡ places_of q.tree.places = ap (λ (s : SoloMachine). s.places) grown-state in
      record {
        own = subst IsOwn (sym grown-state) k.own;
        asked = k.asked;
        tree = g.tree;
        solvers = ap (λ (x : TreeView). x.profile) g.rest ∙ k.solvers;
        ran = subst (λ (ps : List NodeSlot). t.ran ≤ runs_of ps) (sym places) (omega (arith, ran, k.ran));
        few_lines = subst (λ (ps : List NodeSlot). length l.lines ≤ runs_of ps * 1000) (sym places) (subst (λ (ls : List Line). length ls ≤ runs_of (places_of q.tree.places) * 1000) (sym g.lines) k.few_lines);
        chunks = subst (λ (ps : List NodeSlot). starts_out ps ≤ l.chunk_room) (sym places) (omega (arith, k.chunks, g.room));
      }
