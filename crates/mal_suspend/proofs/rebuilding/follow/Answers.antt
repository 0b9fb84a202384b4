use Rattle.std.proofs.Common.{List, [], ◌++◌, take, take_all, arith, sym, ◌∙◌, ap, subst}
use Rattle.std.proofs.lemmas.Result.{on_ok_weaker}
use Rattle.spec_node.specs.State.{Node}
use Rattle.spec_search.specs.Slice.{Sliced}
use Rattle.spec_job.specs.Journal.{JournalEntry, replay}
use Rattle.mal_suspend.specs.Entries.{slices_of, counted_of, entries_of}
use Rattle.mal_suspend.specs.Replaying.{MayAllReplay, alone, after_entries}
use Rattle.mal_suspend.proofs.EntryLemmas.{may-at, replay-at}
use Rattle.mal_suspend.proofs.ReplayLemmas.{may-alone, may-behind}
use Rattle.mal_suspend.proofs.RebuildLemmas.{nodes-alone, replay-ends}
use Rattle.mal_suspend.proofs.rebuilding.follow.Goals as goal

pub go_again-requires : goal.go_again-requires
go_again-requires c =
    let items = c.parts-slices.result.0.now in
    let start : Sliced = replay c.args.journal.now.profile c.args.journal.now.index [] in
    let front : Sliced = replay c.args.journal.now.profile c.args.journal.now.index (entries_of (take c.loop-one.one-index items)) in
    let all : MayAllReplay start (entries_of items ++ slices_of c.parts-slices.result.1) = rw (c.parts-slices.ensures, c.entries.ensures.value) c.entries.ensures.keeps.replays in
    let here : MayAllReplay front (counted_of c.one-item.result) = may-at start items (slices_of c.parts-slices.result.1) c.loop-one.one-index c.one-item.result c.one-item.result (omega (arith, c.loop-one-test.true)) c.one-item.is all in
    subst (λ (n : Node). MayAllReplay (alone n) (counted_of c.one-item.result)) (sym c.loop-one.invariant) (may-alone front (counted_of c.one-item.result) here)

pub loop-one-preserved : goal.loop-one-preserved
loop-one-preserved c =
    let items = c.parts-slices.result.0.now in
    let start : Sliced = replay c.args.journal.now.profile c.args.journal.now.index [] in
    let front : Sliced = replay c.args.journal.now.profile c.args.journal.now.index (entries_of (take c.loop-one.one-index items)) in
    let next = replay-at start items c.loop-one.one-index c.one-item.result c.one-item.result (omega (arith, c.loop-one-test.true)) c.one-item.is in
    c.in_ok-go_again.ensures
    ∙ (ap (λ (n : Node). (after_entries n (counted_of c.one-item.result)).node) c.loop-one.invariant
    ∙ (nodes-alone front (counted_of c.one-item.result)
    ∙ sym (ap (λ (t : Sliced). t.node) next)))

pub run_again-requires : goal.run_again-requires
run_again-requires c =
    let items = c.parts-slices.result.0.now in
    let start : Sliced = replay c.args.journal.now.profile c.args.journal.now.index [] in
    let whole : Sliced = replay c.args.journal.now.profile c.args.journal.now.index (entries_of items) in
    let done = take_all c.loop-one.one-index items (omega arith) in
    let all : MayAllReplay start (entries_of items ++ slices_of c.parts-slices.result.1) = rw (c.parts-slices.ensures, c.entries.ensures.value) c.entries.ensures.keeps.replays in
    let last : MayAllReplay whole (slices_of c.parts-slices.result.1) = may-behind start (entries_of items) (slices_of c.parts-slices.result.1) all in
    subst (λ (n : Node). MayAllReplay (alone n) (slices_of c.parts-slices.result.1)) (sym (rw done at c.loop-one.invariant)) (may-alone whole (slices_of c.parts-slices.result.1) last)

pub returns : goal.returns
returns c =
    let items = c.parts-slices.result.0.now in
    let journal = c.args.journal.now in
    let done = take_all c.loop-one.one-index items (omega arith) in
    on_ok_weaker c.run_again.result (λ ran. replay-ends journal.profile journal.index (entries_of items) c.loop-one.node.state c.run_again.new.node.state c.parts-slices.result.1 (rw done at c.loop-one.invariant) ran ∙ ap (λ (es : List JournalEntry). (replay journal.profile journal.index es).node) (c.parts-slices.ensures ∙ c.entries.ensures.value)) c.run_again.ensures
