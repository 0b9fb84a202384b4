-- A job's machine after each event of its own, by its parts.
use Rattle.std.proofs.Common.{◌≡◌, ℕ, ◌+◌, ◌<◌, Bool, true, false, cond, ◌==◌, nat_lt, List, [], ◌∷◌, ◌++◌, length, Option, Some, None, refl, sym, ◌∙◌, ap}
use Rattle.mal_base.specs.declared.profile.Profile.TheVariants.{Plain}
use Rattle.mal_base.specs.declared.answer.Answer.TheVariants.{Spent, OutOfStarts}
use Rattle.mal_base.specs.declared.verdict.Outcome.{Outcome}
use Rattle.mal_base.specs.declared.verdict.Outcome.TheVariants.{Ran, Starved, Lost}
use Rattle.mal_base.specs.declared.verdict.Verdict.{Verdict}
use Rattle.mal_base.specs.declared.verdict.Verdict.TheVariants.{Satisfiable, Unsatisfiable}
use Rattle.spec_node.specs.State.{Node}
use Rattle.spec_search.specs.Slice.{Sliced}
use Rattle.spec_job.specs.Journal.{replay}
use Rattle.spec_job.specs.Leased.{model_with}
use Rattle.spec_job.specs.SoloMachine.{Started, Finished, NodeSlot, Lease, Slice, SoloMachine, solo_step, place_at, start_entries, with_place, finished, remembered, first_empty, settled_by, settled, conclude, starve, answered}
use Rattle.mal_job.specs.Asking.{replied, answer_with, concluded, concluded_by, starved_once, starved_by, settled_with}
use Rattle.mal_job.specs.Placing.{placed, with_placed, sent, ran_home, came_home, one_more_ran, fresh_place, adds_of}
use Rattle.mal_job.specs.Viewed.{PlaceView, Parts, place_of, state_of}
use Rattle.mal_job.proofs.PlaceLemmas.{set-placed, placed-at}

-- what an empty clause answers
pub settled-by_state : (o : Option ℕ) (q : Parts) → settled_by o (state_of q) ≡ state_of (record q { asked = settled_with o q.asked })
settled-by_state None q = refl
settled-by_state (Some goal) q = refl

pub settled-state : (q : Parts) → settled (state_of q) ≡ state_of (record q { asked = settled_with (first_empty q.log.lines) q.asked })
settled-state q = settled-by_state (first_empty q.log.lines) q

-- what a slice answers
pub conclude-state : (v : Option Verdict) (n : Node) (q : Parts) → conclude v n (state_of q) ≡ state_of (record q { asked = concluded (answer_with v (model_with v n)) q.asked })
conclude-state None n q = by_test (q.asked.spent + 1 == q.asked.ask.slices)
  where
    by_test : (b : Bool) → cond b (answered (state_of q) (Spent q.asked.ask.slices)) (record (state_of q) { spent = q.asked.spent + 1 }) ≡ state_of (record q { asked = cond b (replied q.asked (Spent q.asked.ask.slices)) (record q.asked { spent = q.asked.spent + 1 }) })
    by_test true = refl
    by_test false = refl
conclude-state (Some Satisfiable) n q = refl
conclude-state (Some (Unsatisfiable goal)) n q = refl

-- what a start answers that ran out of memory
pub starve-state : (q : Parts) → starve (state_of q) ≡ state_of (record q { asked = starved_once q.asked })
starve-state q = by_test (q.asked.starved + 1 == 3)
  where
    by_test : (b : Bool) → cond b (answered (state_of q) OutOfStarts) (record (state_of q) { starved = q.asked.starved + 1 }) ≡ state_of (record q { asked = cond b (replied q.asked OutOfStarts) (record q.asked { starved = q.asked.starved + 1 }) })
    by_test true = refl
    by_test false = refl

-- a place that is set
pub with-state : (q : Parts) (i : ℕ) (p : PlaceView) → i < length q.tree.places → with_place (state_of q) i (place_of p) ≡ state_of (record q { tree = with_placed q.tree i p })
with-state q i p low = ap (λ (ps : List NodeSlot). let s : SoloMachine = record (state_of q) { places = ps } in s) (set-placed q.tree.places i p low)

-- a start
pub started-state : (q : Parts) (i start : ℕ) → i < length q.tree.places → solo_step (state_of q) (Started i) ≡ state_of (record q { tree = with_placed q.tree i (sent (length q.asked.answers) (start_entries (state_of q) (place_at (state_of q) i)) start (placed q.tree i)) })
started-state q i start low =
    ap (λ (p : NodeSlot). with_place (state_of q) i (record p { out = Some (record { revision = length q.asked.answers; adds = start_entries (state_of q) (place_at (state_of q) i) }); starts = p.starts + 1 })) (placed-at q.tree.places i (fresh_place 0 Plain 0) low)
    ∙ with-state q i (sent (length q.asked.answers) (start_entries (state_of q) (place_at (state_of q) i)) start (placed q.tree i)) low

-- the parts of a job whose start ran, with these lines and this verdict, and so much room for chunks
abbrev pub with_run : Parts → ℕ → Lease → Sliced → ℕ → Parts
with_run q i l x room = record {
  asked = concluded_by l.revision (answer_with x.node.verdict (model_with x.node.verdict x.node)) q.asked;
  tree = one_more_ran (with_placed q.tree i (ran_home (placed q.tree i)));
  log = record { lines = q.log.lines ++ x.lines; slices = q.log.slices ++ remembered (state_of q) l x ∷ []; chunk_room = room };
}

module _ (q : Parts) (i : ℕ) (l : Lease) (low : i < length q.tree.places) (out : (placed q.tree i).out ≡ Some l) where
  abbrev p : PlaceView
  p = placed q.tree i

  finished-is : (o : Outcome) → finished (state_of q) i (place_at (state_of q) i) (place_at (state_of q) i).out o ≡ finished (state_of q) i (place_of p) (Some l) o
  finished-is o =
      ap (λ (x : NodeSlot). finished (state_of q) i x x.out o) (placed-at q.tree.places i (fresh_place 0 Plain 0) low)
      ∙ ap (λ (x : Option Lease). finished (state_of q) i (place_of p) x o) out

  -- the place after a start that ran
  ran-place : (room : ℕ) (x : Sliced) (c : Slice) → record (with_place (state_of q) i (record (place_of p) { entries = p.journal.entries ++ l.adds; out = None })) { log = q.log.lines ++ x.lines; slices = q.log.slices ++ c ∷ []; ran = q.tree.ran + 1 } ≡ state_of (record { asked = q.asked; tree = one_more_ran (with_placed q.tree i (ran_home p)); log = record { lines = q.log.lines ++ x.lines; slices = q.log.slices ++ c ∷ []; chunk_room = room } })
  ran-place room x c =
      ap (λ (o : Option Lease). record (with_place (state_of q) i (record (place_of p) { entries = p.journal.entries ++ adds_of o; out = None })) { log = q.log.lines ++ x.lines; slices = q.log.slices ++ c ∷ []; ran = q.tree.ran + 1 }) (sym out)
      ∙ ap (λ (s : SoloMachine). let t : SoloMachine = record s { log = q.log.lines ++ x.lines; slices = q.log.slices ++ c ∷ []; ran = q.tree.ran + 1 } in t) (with-state q i (ran_home p) low)

  pub ran-state : (room : ℕ) → solo_step (state_of q) (Finished i Ran) ≡ settled (state_of (with_run q i l (replay q.asked.ask.profile i (p.journal.entries ++ l.adds)) room))
  ran-state room = finished-is Ran ∙ ap settled (by_test (replay q.asked.ask.profile i (p.journal.entries ++ l.adds)) (nat_lt l.revision (length q.asked.answers)))
    where
      home : Sliced → SoloMachine
      home x = record (with_place (state_of q) i (record (place_of p) { entries = p.journal.entries ++ l.adds; out = None })) { log = q.log.lines ++ x.lines; slices = q.log.slices ++ remembered (state_of q) l x ∷ []; ran = q.tree.ran + 1 }

      by_test : (x : Sliced) (b : Bool) → cond b (home x) (conclude x.node.verdict x.node (home x)) ≡ state_of (record { asked = cond b q.asked (concluded (answer_with x.node.verdict (model_with x.node.verdict x.node)) q.asked); tree = one_more_ran (with_placed q.tree i (ran_home p)); log = record { lines = q.log.lines ++ x.lines; slices = q.log.slices ++ remembered (state_of q) l x ∷ []; chunk_room = room } })
      by_test x true = ran-place room x (remembered (state_of q) l x)
      by_test x false = ap (λ (s : SoloMachine). conclude x.node.verdict x.node s) (ran-place room x (remembered (state_of q) l x)) ∙ conclude-state x.node.verdict x.node (record { asked = q.asked; tree = one_more_ran (with_placed q.tree i (ran_home p)); log = record { lines = q.log.lines ++ x.lines; slices = q.log.slices ++ remembered (state_of q) l x ∷ []; chunk_room = room } })

  -- a start that ran out of memory
  pub starved-state : solo_step (state_of q) (Finished i Starved) ≡ settled (state_of (record q { asked = starved_by l.revision q.asked; tree = with_placed q.tree i (came_home p) }))
  starved-state = finished-is Starved ∙ ap settled (by_test (nat_lt l.revision (length q.asked.answers)))
    where
      home : SoloMachine
      home = with_place (state_of q) i (record (place_of p) { out = None })

      by_test : (b : Bool) → cond b home (starve home) ≡ state_of (record q { asked = cond b q.asked (starved_once q.asked); tree = with_placed q.tree i (came_home p) })
      by_test true = with-state q i (came_home p) low
      by_test false = ap starve (with-state q i (came_home p) low) ∙ starve-state (record q { tree = with_placed q.tree i (came_home p) })

  -- a start that is lost
  pub lost-state : solo_step (state_of q) (Finished i Lost) ≡ settled (state_of (record q { tree = with_placed q.tree i (came_home p) }))
  lost-state = finished-is Lost ∙ ap settled (with-state q i (came_home p) low)
