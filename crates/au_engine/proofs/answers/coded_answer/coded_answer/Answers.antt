-- What holds of the answer of a typed tree holds of the statement's.
use Rattle.std.specs.Prelude.{is_some}
use Rattle.std.proofs.Common.{◌≡◌, ℕ, ap, length, map, refl, subst, sym, ◌∙◌}
use Rattle.std.proofs.lemmas.List.{length-map}
use Rattle.std.specs.List.{AllByRecursion}
use Rattle.au_value.specs.Order.{data_kind}
use Rattle.au_parse.specs.Views.{statement_tree}
use Rattle.au_algebra.specs.Laws.{IsRelation}
use Rattle.au_algebra.specs.Trees.{tree}
use Rattle.au_translate.specs.Headline.{HoldsInEveryWorld}
use Rattle.au_typing.specs.Queries.{typing}
use Rattle.au_engine.specs.Answers.{AnswerCause, blocks_of, relations_of, statement_defects, tree_asked, tree_asked_fits}
use Rattle.au_engine.specs.CodedAnswers.{Encodes}
use Rattle.au_engine.specs.Options.{rules_of}
use Rattle.au_engine.proofs.AskedAnswers.{asked_answered}
use Rattle.au_engine.proofs.CodedAnswers.{encodes_wide}
use Rattle.au_engine.proofs.Shown.{as_wide}
use Rattle.au_engine.proofs.AnswerRows.{rows_cause, made_rows_hold}
use Rattle.au_engine.proofs.answers.coded_answer.coded_answer.Goals as goal

pub asked_by_plan-rows-requires-clause-typed : goal.asked_by_plan-rows-requires-clause-typed
asked_by_plan-rows-requires-clause-typed g c κs within = ap is_some c.in-Ok.ensures.tree_kinds

pub returns-in-Ok-answer_of_codes-clause-rows : goal.returns-in-Ok-answer_of_codes-clause-rows
returns-in-Ok-answer_of_codes-clause-rows g c =
    let ts = c.args.tables.now in
    let q = tree c.in-Ok.typed.query in
    let ks = map data_kind c.in-Ok.typed.kinds.items in
    let asked = tree_asked (rules_of c.args.options) c.args.options.combine ts q in
    let made = made_rows_hold (λ rows. (columns : ℕ) × Encodes columns rows asked) c.asked_by_plan-rows.result c.in-Ok-answer_of_codes.answer.rows c.in-Ok-answer_of_codes.ensures.rows c.asked_by_plan-rows.ensures.rows in
    let held = asked_answered c.args.options.combine ts q ks c.in-Ok.ensures.tables c.in-Ok.ensures.tree_kinds (rules_of c.args.options) asked c.requires.compression refl in
    let wide = encodes_wide ks made.0 c.in-Ok-answer_of_codes.answer.rows asked made.1 held.relation in
    let long : length ks ≡ length c.in-Ok-answer_of_codes.answer.kinds.items = length-map c.in-Ok.typed.kinds.items data_kind ∙ ap length (sym c.in-Ok-answer_of_codes.ensures.kinds) in
    subst (λ m. Encodes (length c.in-Ok-answer_of_codes.answer.kinds.items) c.in-Ok-answer_of_codes.answer.rows (tree_asked (rules_of c.args.options) c.args.options.combine ts m)) c.in-Ok.ensures.query
    (subst (λ n. Encodes n c.in-Ok-answer_of_codes.answer.rows asked) long wide)

pub returns-in-Ok-answer_of_codes-clause-relation : goal.returns-in-Ok-answer_of_codes-clause-relation
returns-in-Ok-answer_of_codes-clause-relation g c =
    let ts = c.args.tables.now in
    let q = tree c.in-Ok.typed.query in
    let asked = tree_asked (rules_of c.args.options) c.args.options.combine ts q in
    let held = asked_answered c.args.options.combine ts q (map data_kind c.in-Ok.typed.kinds.items) c.in-Ok.ensures.tables c.in-Ok.ensures.tree_kinds (rules_of c.args.options) asked c.requires.compression refl in
    subst (λ m. IsRelation (map data_kind c.in-Ok-answer_of_codes.answer.kinds.items) (tree_asked (rules_of c.args.options) c.args.options.combine ts m)) c.in-Ok.ensures.query
    (subst (λ ks. IsRelation ks asked) (ap (map data_kind) (sym c.in-Ok-answer_of_codes.ensures.kinds)) held.relation)

pub returns-in-Ok-answer_of_codes-clause-holds : goal.returns-in-Ok-answer_of_codes-clause-holds
returns-in-Ok-answer_of_codes-clause-holds g c =
    let ts = c.args.tables.now in
    let q = tree c.in-Ok.typed.query in
    let asked = tree_asked (rules_of c.args.options) c.args.options.combine ts q in
    let held = asked_answered c.args.options.combine ts q (map data_kind c.in-Ok.typed.kinds.items) c.in-Ok.ensures.tables c.in-Ok.ensures.tree_kinds (rules_of c.args.options) asked c.requires.compression refl in
    subst (λ m. HoldsInEveryWorld m (blocks_of ts) (tree_asked (rules_of c.args.options) c.args.options.combine ts m)) c.in-Ok.ensures.query held.holds

pub returns-in-Ok-answer_of_codes-clause-widths : goal.returns-in-Ok-answer_of_codes-clause-widths
returns-in-Ok-answer_of_codes-clause-widths g c =
    let ts = c.args.tables.now in
    let q = tree c.in-Ok.typed.query in
    let asked = tree_asked (rules_of c.args.options) c.args.options.combine ts q in
    let held = asked_answered c.args.options.combine ts q (map data_kind c.in-Ok.typed.kinds.items) c.in-Ok.ensures.tables c.in-Ok.ensures.tree_kinds (rules_of c.args.options) asked c.requires.compression refl in
    subst (λ m. AllByRecursion (λ r. length r.cells ≡ length c.in-Ok-answer_of_codes.answer.names.items) (tree_asked (rules_of c.args.options) c.args.options.combine ts m)) c.in-Ok.ensures.query
    (as_wide (map data_kind c.in-Ok.typed.kinds.items) c.in-Ok-answer_of_codes.answer.names.items (typing (relations_of ts) (statement_tree c.args.statement.now)).columns asked
    (c.in-Ok-answer_of_codes.ensures.names ∙ c.in-Ok.ensures.names) (ap (map data_kind) c.in-Ok.ensures.kinds) held.relation)

pub returns-in-Err-answer_of_codes-clause-refused : goal.returns-in-Err-answer_of_codes-clause-refused
returns-in-Err-answer_of_codes-clause-refused g c =
    let ts = c.args.tables.now in
    let s = statement_tree c.args.statement.now in
    let fit = tree_asked_fits (rules_of c.args.options) c.args.options.combine ts (tree c.in-Ok.typed.query) in
    subst (λ b. AnswerCause (statement_defects ts s) b c.in-Err-answer_of_codes.fault) (ap (tree_asked_fits (rules_of c.args.options) c.args.options.combine ts) c.in-Ok.ensures.query)
    (rows_cause (statement_defects ts s) fit c.in-Err-answer_of_codes.fault c.in-Ok.ensures.typed (c.in-Err-answer_of_codes.ensures.refused fit c.asked_by_plan-rows.ensures.overflow))
