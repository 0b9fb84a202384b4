use Rattle.std.proofs.Common.{◌≡◌, ℕ, true, List, [], ◌∷◌, ◌++◌, map, flat_map, refl, sym, ◌∙◌, ap}
use Rattle.std.specs.List.{list_all}
use Rattle.std.proofs.lemmas.Bool.{and_parts}
use Rattle.std.proofs.lemmas.List.Folds.{list_all-append}
use Rattle.mal_base.specs.declared.verdict.Outcome.TheVariants.{Ran, Starved, Lost}
use Rattle.mal_history.specs.Text.{history_text}
use Rattle.spec_hall.specs.Events.{Event, Balance, Start, Finish, Exchange, bare}
use Rattle.spec_hall.specs.Driven.{Turn, Balances, Exchanges, Slices, events_in, has_run, AreTurns, GrowsByTurns}
use Rattle.spec_hall.proofs.DrivenLemmas.{driven-is_decided}
use Rattle.spec_run.specs.Complete.{script_events}
use Rattle.spec_run.specs.Run.{IsFed, is_fed, RunIsDecided, replies}

-- where no start of turns runs out of memory, all of them ran: no turn loses a start
turns-ran : (workers : ℕ) (past : List Event) (ts : List Turn) → AreTurns workers past ts → IsFed (flat_map events_in ts) → list_all has_run ts ≡ true
turns-ran w past [] turns fed = refl
turns-ran w past (Balances shares ∷ ts) turns fed = turns-ran w (past ++ Balance shares ∷ []) ts turns.3 fed
turns-ran w past (Exchanges k ∷ ts) turns fed = turns-ran w (past ++ Exchange k ∷ []) ts turns.3 fed
turns-ran w past (Slices k index Ran ∷ ts) turns fed = turns-ran w (past ++ Start k index 1 ∷ Finish k index 1 Ran ∷ []) ts turns.3 fed
turns-ran w past (Slices k index Starved ∷ ts) turns fed = absurd (cc)
turns-ran w past (Slices k index Lost ∷ ts) turns fed = let lost = turns.1 in absurd (cc)

-- so it is with a history that grew by turns
grown-ran : (workers : ℕ) (past history : List Event) (grows : GrowsByTurns workers past history) → IsFed history → list_all has_run grows.turns ≡ true
grown-ran w past history grows fed =
    turns-ran w past grows.turns grows.allowed
    (and_parts (list_all is_fed past) (list_all is_fed (flat_map events_in grows.turns))
    (sym (list_all-append is_fed past (flat_map events_in grows.turns)) ∙ (ap (λ (h : List Event). list_all is_fed h) (sym grows.grown) ∙ fed))).1

-- two sequential runs of a script by as many workers, in which no start ran out of memory, are the same run
pub run-is_decided : RunIsDecided
run-is_decided workers s one other log_one log_other out_one out_other first second fed well =
    let ran = grown-ran workers (script_events s) one first.driven.turned fed in
    let run = grown-ran workers (script_events s) other second.driven.turned well in
    let same : one ≡ other = driven-is_decided workers (script_events s) one other first.driven second.driven ran run in
    record {
      histories = same;
      logs = first.run.log_text ∙ (ap (λ (h : List Event). history_text workers (map bare h)) same ∙ sym second.run.log_text);
      outs = first.run.out_text ∙ (ap (replies s) same ∙ sym second.run.out_text);
    }
