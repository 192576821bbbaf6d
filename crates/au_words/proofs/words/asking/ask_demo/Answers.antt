-- The two numbers of a demonstration, and its workers.
use Rattle.std.proofs.Common.{◌∙◌, sym, ap, drop, List, [], ℕ, Ok, codes}
use Rattle.std.specs.Prelude.{is_some, option_and_then, slice_get, slice_index_or, unwrap_or}
use Rattle.clap.specs.Words.{found_of, rows_of}
use Rattle.au_words.specs.Words.{demo, first_word, later_words, positionals}
use Rattle.au_words.specs.CommandLine.{texts}
use Rattle.au_words.specs.declared.words.form.Verb.TheVariants as verb
use Rattle.au_words.proofs.AskedWords.{blocks_of, no_blocks, read, second, start_of, text_is, two_numbers, two_words, workers_read}
use Rattle.au_words.proofs.Found.{first_of_all}
use Rattle.au_words.proofs.words.asking.ask_demo.Goals as goal

pub text_at-requires-2 : goal.text_at-requires-2
text_at-requires-2 c =
    let several = two_words (texts c.args.words.now) c.requires in
    let rest = drop 1 (texts c.args.words.now) in
    ap is_some (first_of_all (codes "LATER") (rows_of (found_of c.in-Ok.matches)) ∙ ap (option_and_then (λ (vs : List (List ℕ)). slice_get vs 0)) (c.in-Ok.ensures.later several) ∙ second (positionals rest) several)

pub returns-in_default-read_number-2-clause-refused : goal.returns-in_default-read_number-2-clause-refused
returns-in_default-read_number-2-clause-refused c =
    let line = texts c.args.words.now in
    let rest = drop 1 line in
    let several = two_words line c.requires in
    let there = first_of_all (codes "LATER") (rows_of (found_of c.in-Ok.matches)) ∙ ap (option_and_then (λ (vs : List (List ℕ)). slice_get vs 0)) (c.in-Ok.ensures.later several) ∙ second (positionals rest) several in
    let blocks = text_is _ (slice_index_or (later_words rest) 0 []) c.text_at-2.result.now there c.text_at-2.ensures in
    no_blocks (first_word rest) (slice_index_or (later_words rest) 0 []) _ (sym c.in_default-read_number-2.is ∙ c.read_number-2.ensures ∙ ap blocks_of blocks)

pub returns-clause-asked : goal.returns-clause-asked
returns-clause-asked c =
    let line = texts c.args.words.now in
    let rest = drop 1 line in
    let several = two_words line c.requires in
    let there = first_of_all (codes "LATER") (rows_of (found_of c.in-Ok.matches)) ∙ ap (option_and_then (λ (vs : List (List ℕ)). slice_get vs 0)) (c.in-Ok.ensures.later several) ∙ second (positionals rest) several in
    let start = text_is _ (first_word rest) c.text_at.result.now c.in-Ok.ensures.first c.text_at.ensures in
    let blocks = text_is _ (slice_index_or (later_words rest) 0 []) c.text_at-2.result.now there c.text_at-2.ensures in
    let workers = c.workers_at-workers.ensures ∙ ap (λ o. unwrap_or (option_and_then (read 64) o) 1) c.in-Ok.ensures.workers ∙ ap (λ o. unwrap_or o 1) (workers_read verb.Demo line c.requires) in
    two_numbers (first_word rest) (slice_index_or (later_words rest) 0 []) c.in-Some.start c.in-Some-read_number.blocks _
    (sym c.in-Some.is ∙ c.read_number.ensures ∙ ap start_of start) (sym c.in-Some-read_number.is ∙ c.read_number-2.ensures ∙ ap blocks_of blocks)
    ∙ ap (λ n. Ok (demo c.in-Some.start c.in-Some-read_number.blocks n)) (sym workers)
