-- The command line that is made is the program's, so it takes the words.
use Rattle.std.proofs.Common.{◌≡◌, ◌∙◌, rules, ap, subst}
use Rattle.clap.specs.Words.{is_simple, subcommand_of, subcommand_rows_of, takes}
use Rattle.au_words.specs.CommandLine.{texts}
use Rattle.au_words.proofs.Takes.{simple}
use Rattle.au_words.proofs.words.reader.parse.Goals as goal

pub unreachable-requires : goal.unreachable-requires
unreachable-requires c =
    let taken = ap (λ a. takes a (texts c.args.words.now)) c.in_ok-line.ensures ∙ c.requires in
    let kind = c.in-Err.ensures.passes taken in
    search (rules, kind)

pub returns-in-Ok : goal.returns-in-Ok
returns-in-Ok c =
    let is = c.in_ok-line.ensures in
    subst (λ a. subcommand_rows_of c.in-Ok.matches ≡ subcommand_of a (texts c.args.words.now)) is (c.in-Ok.ensures.matches (ap is_simple is ∙ simple)).1
