use Rattle.std.proofs.Common.{◌∙◌, sym, ap, []}
use Rattle.au_words.specs.Words.{is_bad_table, same_names}
use Rattle.au_words.specs.CommandLine.{texts}
use Rattle.au_words.proofs.Places.{position-map}
use Rattle.au_words.proofs.TableFaults.{bad, fine, names_of, same}
use Rattle.au_words.proofs.words.table_words.read_tables.Goals as goal

pub returns-in-Some-clause-refused : goal.returns-in-Some-clause-refused
returns-in-Some-clause-refused c = bad (texts c.args.words.now) c.in-Some.place (position-map is_bad_table (λ word. word.now) c.args.words.now ∙ sym c.in-Some.ensures)

pub returns-in-Some-same_names-clause-refused : goal.returns-in-Some-same_names-clause-refused
returns-in-Some-same_names-clause-refused c =
    let words = texts c.args.words.now in
    let named = names_of c.in-Ok.tables.items words c.in-Ok.ensures in
    let found = sym c.in-Some-same_names.ensures in
    same words c.in-Some-same_names.first c.in-Some-same_names.second (position-map is_bad_table (λ word. word.now) c.args.words.now ∙ sym c.in_default.ensures)
    (ap (same_names []) (sym named) ∙ rw c.as_slice.ensures.value at found)

pub returns-clause-taken : goal.returns-clause-taken
returns-clause-taken c =
    let words = texts c.args.words.now in
    let named = names_of c.in-Ok.tables.items words c.in-Ok.ensures in
    let found = sym c.in-None.ensures in
    fine words (position-map is_bad_table (λ word. word.now) c.args.words.now ∙ sym c.in_default.ensures)
    (ap (same_names []) (sym named) ∙ rw c.as_slice.ensures.value at found)
