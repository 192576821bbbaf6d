-- The path and the tables are what the matches hold.
use Rattle.std.proofs.Common.{◌≡◌, ◌∙◌, ap, drop, Some, map, subst}
use Rattle.std.specs.Prelude.{is_some}
use Rattle.au_words.specs.Words.{first_word, later_words, named_path, table_fault}
use Rattle.au_words.specs.CommandLine.{IsUsage, texts}
use Rattle.au_words.proofs.AskedWords.{several_plain, text_is, texts_are}
use Rattle.au_words.proofs.words.asking.read_plain.Goals as goal

pub texts_at-requires : goal.texts_at-requires
texts_at-requires c = ap is_some (c.in-Ok.ensures.later (several_plain (texts c.args.words.now) c.requires))

pub returns-in-Ok-read_tables-clause-plan : goal.returns-in-Ok-read_tables-clause-plan
returns-in-Ok-read_tables-clause-plan c =
    text_is _ (first_word (drop 1 (texts c.args.words.now))) c.text_at-plan.result.now c.in-Ok.ensures.first c.text_at-plan.ensures

pub returns-in-Ok-read_tables-clause-tables : goal.returns-in-Ok-read_tables-clause-tables
returns-in-Ok-read_tables-clause-tables c =
    let line = texts c.args.words.now in
    let later = texts_are _ (later_words (drop 1 line)) (texts c.texts_at.result.now) (c.in-Ok.ensures.later (several_plain line c.requires)) c.texts_at.ensures in
    c.in-Ok-read_tables.ensures.tables ∙ ap (map named_path) later

pub returns-clause-refused : goal.returns-clause-refused
returns-clause-refused c =
    let line = texts c.args.words.now in
    let later = texts_are _ (later_words (drop 1 line)) (texts c.texts_at.result.now) (c.in-Ok.ensures.later (several_plain line c.requires)) c.texts_at.ensures in
    subst (λ ws. IsUsage c.in-Err.fault (λ fault. table_fault ws ≡ Some fault)) later c.in-Err.ensures.refused
