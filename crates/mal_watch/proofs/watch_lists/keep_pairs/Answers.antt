use Rattle.std.proofs.Common.{◌≡◌, ℕ, ◌+◌, ◌<◌, ◌≤◌, ◌⊎◌, length, not, refl, sym, ap, ◌∙◌, arith, get_or}
use Rattle.std.specs.Prelude.{◌==◌}
use Rattle.std.specs.List.{list_any}
use Rattle.mal_store.specs.Arena.{is_left}
use Rattle.mal_store.specs.Arena.{no_clause}
use Rattle.mal_watch.proofs.ListedLemmas.{keep-pass, keep-both, keep-last}
use Rattle.mal_watch.proofs.watch_lists.keep_pairs.Goals.{then-not-is_among, else-not-is_among}
use Rattle.mal_watch.proofs.watch_lists.keep_pairs.Goals as goal

pub loop-place-init : goal.loop-place-init
loop-place-init c = record { keeping = record { pairs = refl; behind = omega arith }; len = refl; capacity = refl }

pub loop-place-preserved : goal.loop-place-preserved
loop-place-preserved c =
    let s = c.loop-place in
    let cs = c.args.store.now.long in
    let inside : s.place < length cs = omega (arith, c.count_long.ensures, c.min-place-end.ensures) in
    let there : s.place + s.place + 1 < length s.watches.items = omega (arith, c.len.ensures, c.min-place-end.ensures, s.invariant.len) in
    let test : is_left c.args.ids.now (get_or cs s.place no_clause) ≡ not c.is_among.result = ap not (ap (λ (id : ℕ). list_any (λ (i : ℕ). i == id) c.args.ids.now) (sym c.long_id.ensures) ∙ sym c.is_among.ensures) in
    elim c.if-not-is_among.branch [
      | then-not-is_among w ↦ rw (w.watches-is, w.kept-is) (record { keeping = keep-both c.args.ids.now cs c.args.watches.now.items s.watches.items s.kept s.place _ _ no_clause w.index-first.result.now w.index-second.result.now inside there (omega arith) (omega arith) w.index-first.ensures w.index-second.ensures (test ∙ ap not w.if-not-is_among.true) s.invariant.keeping; len = s.invariant.len; capacity = s.invariant.capacity })
      | else-not-is_among w ↦ rw (w.watches-is, w.kept-is) (record { keeping = keep-pass c.args.ids.now cs c.args.watches.now.items s.watches.items s.kept s.place no_clause inside there (test ∙ ap not w.if-not-is_among.false) s.invariant.keeping; len = s.invariant.len; capacity = s.invariant.capacity })
    ]

pub returns-clause-items : goal.returns-clause-items
returns-clause-items c =
    let s = c.loop-place in
    let cs = c.args.store.now.long in
    let few : (length cs ≤ s.place) ⊎ (length s.watches.items ≤ s.place + s.place + 1) = grind (arith, c.count_long.ensures, c.len.ensures, c.min-place-end.ensures, s.invariant.len) in
    c.truncate.ensures.items ∙ keep-last c.args.ids.now cs c.args.watches.now.items s.watches.items s.kept s.place few s.invariant.keeping
