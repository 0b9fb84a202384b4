-- What events tell of a job.
use Rattle.std.proofs.Common.{◌≡◌, ℕ, ◌+◌, ◌≤◌, List, [], length, take, fold, get_or, slice_get, Option, Some, None, sym, ◌∙◌, ap}
use Rattle.std.specs.declared.boxed.Box.{Box}
use Rattle.std.proofs.lemmas.List.Sums.{fold_push}
use Rattle.mal_history.specs.declared.event.Event as written
use Rattle.spec_job.specs.KeyedJob.{Key}
use Rattle.spec_job.specs.SoloMachine.{Own}
use Rattle.spec_hall.specs.Own.{own_step}
use Rattle.mal_hall.specs.declared.content.Content.{Content}
use Rattle.mal_hall.specs.Entered.{filled, full, unboxed}
use Rattle.mal_hall.proofs.EntryLemmas.{filled-all, filled-more}

-- what is told in front of a place
abbrev pub told_before : {Z : Type 0} → Key → List written.Event → List (Option (Box Content Z)) → ℕ → List Own
told_before k es boxes i = fold (own_step k) [] (take i (filled es (unboxed boxes)))

-- and with the event there
pub told-more : {Z : Type 0} (k : Key) (es : List written.Event) (boxes : List (Option (Box Content Z))) (i : ℕ) (e : written.Event) (content : Option Content) (before now : List Own) → length boxes ≡ length es → slice_get es i ≡ Some e → content ≡ get_or (unboxed boxes) i None → before ≡ told_before k es boxes i → now ≡ own_step k before (full e content) → now ≡ told_before k es boxes (i + 1)
told-more k es boxes i e content before now long there stands was is =
    is
    ∙ (ap (λ (c : Option Content). own_step k before (full e c)) stands
    ∙ (ap (λ (o : List Own). own_step k o (full e (get_or (unboxed boxes) i None))) was
    ∙ sym (ap (fold (own_step k) []) (filled-more es boxes i e long there) ∙ fold_push (own_step k) [] (take i (filled es (unboxed boxes))) (full e (get_or (unboxed boxes) i None)))))

-- all that is told
pub told-all : {Z : Type 0} (k : Key) (es : List written.Event) (boxes : List (Option (Box Content Z))) (i : ℕ) → length boxes ≡ length es → length es ≤ i → told_before k es boxes i ≡ fold (own_step k) [] (filled es (unboxed boxes))
told-all k es boxes i long all = ap (fold (own_step k) []) (filled-all es boxes i long all)
