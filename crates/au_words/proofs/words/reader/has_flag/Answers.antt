use Rattle.std.proofs.Common.{◌∙◌}
use Rattle.clap.specs.Words.{found_of, one_of, rows_of}
use Rattle.clap.proofs.WalkLemmas.{one_text-rows}
use Rattle.au_words.proofs.Found.{flag_is}
use Rattle.au_words.proofs.words.reader.has_flag.Goals as goal

pub returns : goal.returns
returns c given is =
    let same = one_text-rows (found_of c.args.matches.now) c.args.id.now in
    let got = c.get_flag.ensures in
    flag_is given (one_of c.args.id.now (rows_of (found_of c.args.matches.now))) c.get_flag.result (λ e. got.value (same ∙ e)) (λ e. got.other (same ∙ e)) is
