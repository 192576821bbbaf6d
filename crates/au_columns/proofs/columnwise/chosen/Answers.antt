-- The chosen one of the values of two parts.
use Rattle.std.proofs.Common.{subst, sym, ◌∙◌}
use Rattle.std.proofs.lemmas.Result.{IfOk-at_ok}
use Rattle.au_plain.specs.PTerms.{pterm}
use Rattle.au_codes.specs.Careful.{careful}
use Rattle.au_columns.specs.Evaluated.{Gives}
use Rattle.au_columns.proofs.Made.{made_chosen}
use Rattle.au_columns.proofs.columnwise.chosen.Goals as goal

pub choose-requires-clause-a : goal.choose-requires-clause-a
choose-requires-clause-a c =
    let rows = c.args.batch.now in
    let parts = c.both.ensures.values in
    let inner = IfOk-at_ok _ c.in_ok-flags.ensures.values.1 parts in
    let flags = subst (Gives (careful (pterm c.args.c.now)) rows) (sym c.column.ensures) (IfOk-at_ok _ c.in_ok-flags.ensures.values.0 c.requires.flags) in
    let x = subst (Gives (careful (pterm c.args.a.now)) rows) (sym c.column-2.ensures) (IfOk-at_ok _ inner.0 c.requires.x) in
    x.len ∙ sym flags.len

pub choose-requires-clause-b : goal.choose-requires-clause-b
choose-requires-clause-b c =
    let rows = c.args.batch.now in
    let parts = c.both.ensures.values in
    let inner = IfOk-at_ok _ c.in_ok-flags.ensures.values.1 parts in
    let flags = subst (Gives (careful (pterm c.args.c.now)) rows) (sym c.column.ensures) (IfOk-at_ok _ c.in_ok-flags.ensures.values.0 c.requires.flags) in
    let y = subst (Gives (careful (pterm c.args.b.now)) rows) (sym c.column-3.ensures) (IfOk-at_ok _ inner.1 c.requires.y) in
    y.len ∙ sym flags.len

pub returns : goal.returns
returns c =
    let rows = c.args.batch.now in
    let parts = c.both.ensures.values in
    let inner = IfOk-at_ok _ c.in_ok-flags.ensures.values.1 parts in
    let flags = subst (Gives (careful (pterm c.args.c.now)) rows) (sym c.column.ensures) (IfOk-at_ok _ c.in_ok-flags.ensures.values.0 c.requires.flags) in
    let x = subst (Gives (careful (pterm c.args.a.now)) rows) (sym c.column-2.ensures) (IfOk-at_ok _ inner.0 c.requires.x) in
    let y = subst (Gives (careful (pterm c.args.b.now)) rows) (sym c.column-3.ensures) (IfOk-at_ok _ inner.1 c.requires.y) in
    made_chosen (careful (pterm c.args.a.now)) (careful (pterm c.args.b.now)) rows c.column-2.result.now c.column-3.result.now c.in_ok-made.made x y (careful (pterm c.args.c.now)) c.column.result.now flags c.in_ok-made.ensures
