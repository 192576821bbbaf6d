-- The commands are added one after the other.
use Rattle.std.proofs.Common.{◌∙◌, ap, codes}
use Rattle.std.proofs.lemmas.Result.{IfOk-weaker}
use Rattle.clap.specs.Words.{with_subcommand}
use Rattle.au_words.specs.CommandLine.{command_line}
use Rattle.au_words.proofs.words.reader.program_line.Goals as goal

pub returns : goal.returns
returns c =
    let line1 = c.in_ok-line.ensures ∙ ap (λ a. with_subcommand a (command_line (codes "answer")).top) c.bare_line.ensures in
    let line2 = c.in_ok-line-2.ensures ∙ ap (λ a. with_subcommand a (command_line (codes "direct")).top) line1 in
    let line3 = c.in_ok-line-3.ensures ∙ ap (λ a. with_subcommand a (command_line (codes "guess")).top) line2 in
    let line4 = c.in_ok-line-4.ensures ∙ ap (λ a. with_subcommand a (command_line (codes "ua")).top) line3 in
    let line5 = c.in_ok-line-5.ensures ∙ ap (λ a. with_subcommand a (command_line (codes "demo")).top) line4 in
    let line6 = c.in_ok-line-6.ensures ∙ ap (λ a. with_subcommand a (command_line (codes "rewrite")).top) line5 in
    let line7 = c.in_ok-line-7.ensures ∙ ap (λ a. with_subcommand a (command_line (codes "explain")).top) line6 in
    let line8 = c.in_ok-line-8.ensures ∙ ap (λ a. with_subcommand a (command_line (codes "encode")).top) line7 in
    IfOk-weaker c.with_command-9.result _ _ (λ r is. is ∙ ap (λ a. with_subcommand a (command_line (codes "plain")).top) line8) c.with_command-9.ensures
