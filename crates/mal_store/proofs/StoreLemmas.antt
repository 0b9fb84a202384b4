use Rattle.std.proofs.Common.{◌≡◌, ℕ, ◌+◌, ◌-◌, ◌≤◌, None, List, length, sym, ◌∙◌, ap, subst, arith}
use Rattle.mal_base.specs.NumberedClause.{NumberedClause, lits_under}
use Rattle.spec_node.specs.Sound.{NumbersRise}
use Rattle.spec_node.specs.Adding.{with_clause, forgetting}
use Rattle.std.specs.Prelude.{filter, map}
use Rattle.mal_store.specs.declared.entry.Entry.{Entry}
use Rattle.mal_store.specs.declared.entry.Held.{Held}
use Rattle.mal_store.specs.Indexed.{EntriesRise, with_entry, is_kept}
use Rattle.mal_store.specs.Arena.{is_left, listed_count}
use Rattle.mal_store.specs.Stored.{lits_held, held_in, IsPlaced, settled_in, literal_count, with_long, short_ids, AreLong, IsStore}
use Rattle.mal_store.proofs.AmongLemmas.{rise-with, rise-passed, under-none}
use Rattle.mal_store.proofs.ShortLemmas.{is_other, short-fewer}
use Rattle.mal_store.proofs.HeldLemmas.{placed-added, held-added}
use Rattle.mal_store.proofs.CountLemmas.{count-with, long-with, count-fewer, long-fewer, long-single}
use Rattle.mal_store.proofs.SettledLemmas.{all-settled}

-- a store with a clause more
pub count-added : (long new : List NumberedClause) (id : ℕ) (held : Held) (lits : List ℕ) (room : ℕ) (es : List Entry) (short : List ℕ) → new ≡ with_long (record { id = id; lits = lits }) long → lits_held new held ≡ lits → IsStore long room es short → literal_count (held_in new (with_entry (record { id = id; held = held }) es)) ≡ length lits + literal_count (held_in long es)
count-added long new id held lits room es short n l s = ap literal_count (held-added long new id held lits es n l s.placed) ∙ count-with (record { id = id; lits = lits }) (held_in long es)

pub store-added : (long new : List NumberedClause) (id : ℕ) (held : Held) (lits : List ℕ) (room left : ℕ) (es : List Entry) (short now : List ℕ) → new ≡ with_long (record { id = id; lits = lits }) long → lits_held new held ≡ lits → IsPlaced new id held → length lits ≤ listed_count long + room - literal_count (held_in long es) → listed_count long + room ≤ listed_count new + left → lits_under id (held_in long es) ≡ None → now ≡ short_ids (with_clause (record { id = id; lits = lits }) (held_in long es)) → IsStore long room es short → IsStore new left (with_entry (record { id = id; held = held }) es) now
store-added long new id held lits room left es short now n l p f t fresh shorts s =
    let c : NumberedClause = record { id = id; lits = lits } in
    let e : Entry = record { id = id; held = held } in
    let held_now = held-added long new id held lits es n l s.placed in
    let rising : NumbersRise 0 (with_clause c (held_in long es)) = rise-with 0 c (held_in long es) (omega arith) (λ d h. under-none id (held_in long es) d fresh h) s.rising in
    let once : AreLong new (with_clause c (held_in long es)) = subst (λ (xs : List NumberedClause). AreLong xs (with_clause c (held_in long es))) (sym n) (long-with c long (held_in long es) s.once) in
    record {
      rising = rw held_now rising;
      short_is = rw held_now shorts;
      placed = placed-added long new c e es n p s.placed;
      once = subst (λ (cs : List NumberedClause). AreLong new cs) (sym held_now) once;
      enough = omega (arith, count-added long new id held lits room es short n l s, s.enough, f, t);
    }

-- a store with fewer
pub held-fewer : (ids : List ℕ) (long : List NumberedClause) (room : ℕ) (es : List Entry) (short : List ℕ) → EntriesRise 1 es → IsStore long room es short → held_in (forgetting ids long) (map (settled_in (forgetting ids long) (length (forgetting ids long))) (filter (is_kept ids) es)) ≡ forgetting ids (held_in long es)
held-fewer ids long room es short r s = (all-settled ids long (long-single long es r s.once) es s.placed).0

pub store-fewer : (ids : List ℕ) (long : List NumberedClause) (room left : ℕ) (es : List Entry) (short now : List ℕ) → EntriesRise 1 es → listed_count long + room ≤ listed_count (forgetting ids long) + left → now ≡ filter (is_other ids) short → IsStore long room es short → IsStore (forgetting ids long) left (map (settled_in (forgetting ids long) (length (forgetting ids long))) (filter (is_kept ids) es)) now
store-fewer ids long room left es short now r t shorts s =
    let held_now = held-fewer ids long room es short r s in
    record {
      rising = rw held_now (rise-passed (is_left ids) 0 (held_in long es) s.rising);
      short_is = shorts ∙ (ap (λ (ns : List ℕ). filter (is_other ids) ns) s.short_is ∙ (sym (short-fewer ids (held_in long es)) ∙ ap short_ids (sym held_now)));
      placed = (all-settled ids long (long-single long es r s.once) es s.placed).1;
      once = subst (λ (cs : List NumberedClause). AreLong (forgetting ids long) cs) (sym held_now) (long-fewer ids long (held_in long es) s.once);
      enough = omega (arith, ap literal_count held_now, count-fewer ids (held_in long es), s.enough, t);
    }
