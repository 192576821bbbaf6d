use Rattle.std.proofs.Common.{◌∙◌, sym, ap}
use Rattle.std.specs.Prelude.{is_some, option_map}
use Rattle.std.proofs.lemmas.Bool.{true≢false}
use Rattle.au_words.specs.CommandLine.{texts}
use Rattle.clap.specs.Words.{found_of}
use Rattle.clap.proofs.WalkLemmas.{raw_values-rows}
use Rattle.au_words.proofs.words.reader.texts_at.Goals as goal

pub unreachable-requires : goal.unreachable-requires
unreachable-requires c =
    let same = raw_values-rows (found_of c.args.matches.now) c.args.id.now in
    true≢false (sym c.requires ∙ ap is_some (sym (c.get_strs.ensures ∙ same) ∙ ap (option_map (λ s. texts s.now)) c.in-None.is))

pub returns : goal.returns
returns c =
    let same = raw_values-rows (found_of c.args.matches.now) c.args.id.now in
    sym (c.get_strs.ensures ∙ same) ∙ ap (option_map (λ s. texts s.now)) c.in-Some.is
