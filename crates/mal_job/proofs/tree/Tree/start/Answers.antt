use Rattle.std.proofs.Common.{◌≡◌, ℕ, List, drop, IfOk, sym, ◌∙◌, ap, subst}
use Rattle.mal_base.specs.declared.profile.Profile.TheVariants.{Plain}
use Rattle.mal_base.specs.NumberedClause.{NumberedClause}
use Rattle.spec_job.specs.Journal.{imports_in}
use Rattle.spec_job.specs.Journaled.{Journaled, replayed}
use Rattle.mal_suspend.specs.Replaying.{MayAllReplay}
use Rattle.mal_suspend.specs.Starting.{shared_loads, shared_imports, start_entries}
use Rattle.mal_job.specs.Placing.{placed, fresh_place}
use Rattle.mal_job.specs.Viewed.{PlaceView, TreeView, shared}
use Rattle.mal_job.proofs.PlaceLemmas.{get-within}
use Rattle.mal_job.proofs.TreeLemmas.{tree-set}
use Rattle.mal_job.proofs.tree.Tree.start.Goals as goal

pub start-requires-clause-replays : goal.start-requires-clause-replays
start-requires-clause-replays c =
    let t : TreeView = record { number = c.self.inside.number; profile = c.self.inside.profile; volume = c.self.inside.volume; places = c.self.inside.places.items; broadcasts = shared c.self.inside.broadcasts.items; ran = c.self.inside.ran } in
    let may = rw (← c.self.view_is) at c.requires.replays in
    let here : c.index_mut.result.now ≡ placed t c.args.index = c.index_mut.ensures.value ∙ get-within c.self.inside.places.items c.args.index c.index_mut.result.now (fresh_place 0 Plain 0) (rw (← c.self.view_is) at c.requires.place) in
    let first : c.index.result.now ≡ placed t c.args.index = c.index.ensures ∙ get-within c.self.inside.places.items c.args.index c.index.result.now (fresh_place 0 Plain 0) (rw (← c.self.view_is) at c.requires.place) in
    let count : c.imports-imported.result ≡ imports_in (placed t c.args.index).journal.entries = c.imports-imported.ensures ∙ (ap (λ (j : Journaled). imports_in j.entries) c.journal.ensures ∙ ap (λ (p : PlaceView). imports_in p.journal.entries) first) in
    let tolds : shared_imports c.in_ok-imports.imports.items ≡ drop (imports_in (placed t c.args.index).journal.entries) t.broadcasts = c.in_ok-imports.ensures ∙ (ap (λ (n : ℕ). drop n (shared_imports c.as_slice.result.now)) count ∙ ap (λ ts. drop (imports_in (placed t c.args.index).journal.entries) (shared_imports ts)) c.as_slice.ensures.value) in
    subst (λ (p : PlaceView). MayAllReplay (replayed p.journal) (start_entries (shared_loads c.args.loads.items) (shared_imports c.in_ok-imports.imports.items))) (sym here) (subst (λ (ts : List (List NumberedClause)). MayAllReplay (replayed (placed t c.args.index).journal) (start_entries (shared_loads c.args.loads.items) ts)) (sym tolds) may)

pub invariant_of-self : goal.invariant_of-self
invariant_of-self c =
    let t : TreeView = record { number = c.self.inside.number; profile = c.self.inside.profile; volume = c.self.inside.volume; places = c.self.inside.places.items; broadcasts = shared c.self.inside.broadcasts.items; ran = c.self.inside.ran } in
    let k = tree-set t c.args.index c.index_mut.result.now c.start.new.self (rw (← c.self.view_is) at c.requires.place) c.index_mut.ensures.value c.start.ensures.own_job c.start.ensures.own_index c.start.ensures.own_profile c.self.invariant in
    record { few = k.few; volume = k.volume; own = k.own }

pub returns-clause-adds : goal.returns-clause-adds
returns-clause-adds c =
    let t : TreeView = record { number = c.self.inside.number; profile = c.self.inside.profile; volume = c.self.inside.volume; places = c.self.inside.places.items; broadcasts = shared c.self.inside.broadcasts.items; ran = c.self.inside.ran } in
    let first : c.index.result.now ≡ placed t c.args.index = c.index.ensures ∙ get-within c.self.inside.places.items c.args.index c.index.result.now (fresh_place 0 Plain 0) (rw (← c.self.view_is) at c.requires.place) in
    let count : c.imports-imported.result ≡ imports_in (placed t c.args.index).journal.entries = c.imports-imported.ensures ∙ (ap (λ (j : Journaled). imports_in j.entries) c.journal.ensures ∙ ap (λ (p : PlaceView). imports_in p.journal.entries) first) in
    let tolds : shared_imports c.in_ok-imports.imports.items ≡ drop (imports_in (placed t c.args.index).journal.entries) t.broadcasts = c.in_ok-imports.ensures ∙ (ap (λ (n : ℕ). drop n (shared_imports c.as_slice.result.now)) count ∙ ap (λ ts. drop (imports_in (placed t c.args.index).journal.entries) (shared_imports ts)) c.as_slice.ensures.value) in
    rw (← c.self.view_is) (subst (λ (ts : List (List NumberedClause)). IfOk c.start.result (λ l. l.adds ≡ start_entries (shared_loads c.args.loads.items) ts)) tolds c.start.ensures.adds)

pub returns-clause-kept : goal.returns-clause-kept
returns-clause-kept c = invariant_of-self c
