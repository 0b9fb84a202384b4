use Rattle.std.proofs.Common.{List, refl, sym, ◌∙◌, ap}
use Rattle.std.specs.Prelude.{map}
use Rattle.mal_store.specs.declared.entry.Entry.{Entry}
use Rattle.mal_store.specs.Indexed.{settled}
use Rattle.mal_store.proofs.SettledLemmas.{settled-start, settled-more}
use Rattle.mal_store.proofs.store.renumber.Goals as goal

pub loop-place-init : goal.loop-place-init
loop-place-init c = record { entries = sym (settled-start c.args.long.now.clauses c.args.index.now.entries); room = refl }

pub loop-place-preserved : goal.loop-place-preserved
loop-place-preserved c =
    let s = c.loop-place in
    record {
      entries = c.settle.ensures.entries ∙ (ap (λ (es : List Entry). map (settled c.id.result s.place) es) s.invariant.entries ∙ rw c.id.ensures (settled-more c.args.long.now.clauses s.place c.args.index.now.entries));
      room = c.settle.ensures.room ∙ s.invariant.room;
    }
