-- The rows in all places are these rows.
use Rattle.std.proofs.Common.{◌∙◌, ap, map}
use Rattle.std.proofs.lemmas.Result.{IfOk-weaker}
use Rattle.au_plain.specs.Meaning.{kept}
use Rattle.au_engine.specs.CountedTables.{counted_guesses}
use Rattle.au_engine.proofs.GuessPlans.{all_guessed}
use Rattle.au_engine.proofs.running.guessed.all_guesses.Goals as goal

pub returns-clause-rows : goal.returns-clause-rows
returns-clause-rows g c =
    let whole = counted_guesses c.args.blocks in
    IfOk-weaker c.kept_guesses.result _ _
    (λ rows is. is ∙ ap (λ ps. map (kept ps) whole) (c.deref.ensures.value ∙ c.in_ok-places.ensures) ∙ all_guessed c.args.columns.now c.args.blocks c.requires.table)
    c.kept_guesses.ensures.rows
