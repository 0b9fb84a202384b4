use Rattle.std.proofs.Common.{◌≡◌, ◌∙◌, codes, ap, ap₂}
use Rattle.std.proofs.lemmas.Result.{IfOk-weaker}
use Rattle.clap.specs.Words.{App, with_subcommand}
use Rattle.mal_answer.specs.CommandLine.{app_with, bare_app, bare_mal, cluster_app, gen_app}
use Rattle.mal_answer.proofs.words.command.command.Goals as goal

-- a program with one command more
added : (a b c d e : App) → a ≡ with_subcommand b c.top → b ≡ d → c ≡ e → a ≡ with_subcommand d e.top
added a b c d e shape program own = shape ∙ ap₂ with_subcommand program (ap (λ (x : App). x.top) own)

pub returns : goal.returns
returns c =
    let one = added _ _ _ bare_mal (app_with (codes "run") (codes "workers")) (c.in_ok-subcommand.ensures.shape c.in_ok-with_number.ensures.local) c.program.ensures.app c.in_ok-with_number.ensures.app in
    let two = added _ _ _ _ (bare_app (codes "check")) (c.in_ok-subcommand-2.ensures.shape c.bare.ensures.local) one c.bare.ensures.app in
    let three = added _ _ _ _ (bare_app (codes "replay")) (c.in_ok-subcommand-3.ensures.shape c.bare-2.ensures.local) two c.bare-2.ensures.app in
    let four = added _ _ _ _ gen_app (c.in_ok-subcommand-4.ensures.shape c.in_ok-generate.ensures.local) three c.in_ok-generate.ensures.app in
    let five = added _ _ _ _ (bare_app (codes "json")) (c.in_ok-subcommand-5.ensures.shape c.bare-3.ensures.local) four c.bare-3.ensures.app in
    let six = added _ _ _ _ cluster_app (c.in_ok-subcommand-6.ensures.shape c.in_ok-cluster.ensures.local) five c.in_ok-cluster.ensures.app in
    let seven = added _ _ _ _ (app_with (codes "max") (codes "slices")) (c.in_ok-subcommand-7.ensures.shape c.in_ok-with_number-2.ensures.local) six c.in_ok-with_number-2.ensures.app in
    let eight = added _ _ _ _ (app_with (codes "core") (codes "slices")) (c.in_ok-subcommand-8.ensures.shape c.in_ok-with_number-3.ensures.local) seven c.in_ok-with_number-3.ensures.app in
    IfOk-weaker c.subcommand-9.result _ _ (λ r h. added _ _ _ _ (app_with (codes "serve") (codes "workers")) (h.shape c.in_ok-with_number-4.ensures.local) eight c.in_ok-with_number-4.ensures.app) c.subcommand-9.ensures
