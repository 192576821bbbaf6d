-- The request is what the matches hold.
use Rattle.std.proofs.Common.{◌≡◌, ◌∙◌, ap, drop, Some, map, subst}
use Rattle.std.specs.Prelude.{is_some, option_and_then, unwrap_or}
use Rattle.au_words.specs.Words.{first_word, form_asked, later_words, named_path, table_fault}
use Rattle.au_words.specs.CommandLine.{IsUsage, texts}
use Rattle.au_words.specs.declared.words.form.Verb.TheVariants as verb
use Rattle.au_words.proofs.AskedWords.{compress_read, read, several_query, text_is, texts_are, workers_read}
use Rattle.au_words.proofs.words.asking.read_query.Goals as goal

pub texts_at-requires : goal.texts_at-requires
texts_at-requires c =
    ap is_some (c.in-Ok.ensures.later (several_query c.args.command (texts c.args.words.now) c.requires))

pub returns-in-Ok-read_tables-clause-request : goal.returns-in-Ok-read_tables-clause-request
returns-in-Ok-read_tables-clause-request c =
    let line = texts c.args.words.now in
    let rest = drop 1 line in
    let found = c.in-Ok.ensures in
    let several = several_query c.args.command line c.requires in
    let first = text_is _ (first_word rest) c.text_at-query.result.now found.first c.text_at-query.ensures in
    let later = texts_are _ (later_words rest) (texts c.texts_at.result.now) (found.later several) c.texts_at.ensures in
    let form = c.form_asked-form.ensures ∙ ap form_asked (c.has_flag.ensures _ found.table) in
    let combine = c.has_flag-combine.ensures _ found.combine in
    let points = c.has_flag-points.ensures _ found.points in
    let workers = c.workers_at-workers.ensures ∙ ap (λ o. unwrap_or (option_and_then (read 64) o) 1) found.workers ∙ ap (λ o. unwrap_or o 1) (workers_read (verb.Query c.args.command) line c.requires) in
    let compress = c.number_at-compress.ensures ∙ ap (option_and_then (read 1000)) found.compress ∙ compress_read (verb.Query c.args.command) line c.requires in
    let tables = c.in-Ok-read_tables.ensures.tables ∙ ap (map named_path) later in
    λ i. record {
      command = c.args.command;
      form = form i;
      combine = combine i;
      points = points i;
      workers = workers i;
      compress = compress i;
      query = first i;
      tables = tables i;
    }

pub returns-clause-refused : goal.returns-clause-refused
returns-clause-refused c =
    let line = texts c.args.words.now in
    let later = texts_are _ (later_words (drop 1 line)) (texts c.texts_at.result.now) (c.in-Ok.ensures.later (several_query c.args.command line c.requires)) c.texts_at.ensures in
    subst (λ ws. IsUsage c.in-Err.fault (λ fault. table_fault ws ≡ Some fault)) later c.in-Err.ensures.refused
