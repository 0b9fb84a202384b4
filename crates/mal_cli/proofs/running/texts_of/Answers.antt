use Rattle.std.proofs.Common.{◌≡◌, List, ℕ, [], ◌∷◌, ◌++◌, ◌∙◌, append-nil, map, subst, ap}
use Rattle.mal_answer.specs.Answers.{hall_text, logged}
use Rattle.mal_hall.specs.HallView.{HallView}
use Rattle.mal_history.specs.Text.{history_text}
use Rattle.spec_hall.specs.Events.{Event, bare}
use Rattle.spec_hall.specs.Legal.{Legal}
use Rattle.spec_run.proofs.Evidence.{evident_by_law}
use Rattle.mal_cli.proofs.running.texts_of.Goals as goal

pub returns : goal.returns
returns c = λ workers s ran told.
    let hall : HallView = c.args.hall in
    let history : List Event = hall.events in
    let legal : Legal workers history = subst (λ (w : ℕ). Legal w history) ran.workers_are ran.legal in
    let one : c.push.new.self.items ≡ hall ∷ [] = c.in_ok-push.ensures.items ∙ ap (λ (halls : List HallView). halls ++ hall ∷ []) c.new-log.ensures.items in
    record {
      legal = legal;
      complete = ran.complete;
      log_text = ap (λ (halls : List HallView). logged halls) one ∙ (append-nil (hall_text hall) ∙ ap (λ (w : ℕ). history_text w (map bare history)) ran.workers_are);
      out_text = told;
      evident = evident_by_law workers history legal;
    }
