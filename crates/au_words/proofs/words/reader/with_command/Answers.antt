-- One command more.
use Rattle.std.proofs.Common.{◌∙◌, ap}
use Rattle.std.proofs.lemmas.Result.{IfOk-weaker}
use Rattle.clap.specs.Words.{App, app_of, with_subcommand}
use Rattle.au_words.proofs.words.reader.with_command.Goals as goal

pub returns : goal.returns
returns c =
    let top = λ (a : App). a.top in
    IfOk-weaker c.subcommand.result _ _ (λ r adds. adds.shape c.in_ok-command.ensures.local ∙ ap (with_subcommand (app_of c.args.line)) (ap top c.in_ok-command.ensures.app)) c.subcommand.ensures
