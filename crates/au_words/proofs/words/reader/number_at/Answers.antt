-- The number is that of the option's text, if there is one.
use Rattle.std.proofs.Common.{◌∙◌, sym, ap}
use Rattle.std.specs.Prelude.{option_and_then, option_map}
use Rattle.clap.specs.Words.{found_of}
use Rattle.clap.proofs.WalkLemmas.{first_value-rows}
use Rattle.au_words.proofs.AskedWords.{read}
use Rattle.au_words.proofs.words.reader.number_at.Goals as goal

pub returns-in-Some : goal.returns-in-Some
returns-in-Some c =
    let same = first_value-rows (found_of c.args.matches.now) c.args.id.now in
    c.read_number.ensures ∙ sym (ap (option_and_then (read c.args.most)) (sym (c.get_str.ensures ∙ same) ∙ ap (option_map (λ s. s.now)) c.in-Some.is))

pub returns-in-None : goal.returns-in-None
returns-in-None c =
    let same = first_value-rows (found_of c.args.matches.now) c.args.id.now in
    sym (ap (option_and_then (read c.args.most)) (sym (c.get_str.ensures ∙ same) ∙ ap (option_map (λ s. s.now)) c.in-None.is))
