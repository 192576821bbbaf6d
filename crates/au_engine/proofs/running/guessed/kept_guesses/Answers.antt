-- The plan is run over the encoded rows, and finds the rows of the guess world; no number of it leaves the range.
use Rattle.std.proofs.Common.{[], ◌∷◌, ap, ◌∙◌}
use Rattle.std.proofs.lemmas.Result.{IfOk-at_ok}
use Rattle.au_physical.specs.Physicals.{physical_tree}
use Rattle.au_batches.specs.BlockRows.{block_rows}
use Rattle.au_engine.proofs.GuessPlans.{guesses_fit, run_finds, run_starts, run_stays}
use Rattle.au_engine.proofs.running.guessed.kept_guesses.Goals as goal

pub run_coded-requires-clause-plan : goal.run_coded-requires-clause-plan
run_coded-requires-clause-plan g c κs within =
    let blocks = c.args.blocks in
    run_starts c.args.columns.now blocks c.requires.table c.args.places.now (physical_tree c.in_ok-plan.plan) c.in_ok-plan.read.items (c.of_blocks.result ∷ [])
    (IfOk-at_ok _ c.in_ok-plan.ensures.values.0 c.guess_plan.ensures) (IfOk-at_ok _ c.in_ok-plan.ensures.values.1 c.guess_places.ensures)
    (ap (λ rows. rows ∷ []) (c.of_blocks.ensures ∙ ap (λ qs. block_rows qs blocks) c.deref.ensures.value))

pub returns-in-Ok-clause-rows : goal.returns-in-Ok-clause-rows
returns-in-Ok-clause-rows g c =
    let blocks = c.args.blocks in
    c.of_coded.ensures ∙ c.in-Ok.ensures.rows
    ∙ run_finds c.args.columns.now blocks c.requires.table c.args.places.now (physical_tree c.in_ok-plan.plan) c.in_ok-plan.read.items (c.of_blocks.result ∷ [])
    (IfOk-at_ok _ c.in_ok-plan.ensures.values.0 c.guess_plan.ensures) (IfOk-at_ok _ c.in_ok-plan.ensures.values.1 c.guess_places.ensures)
    (ap (λ rows. rows ∷ []) (c.of_blocks.ensures ∙ ap (λ qs. block_rows qs blocks) c.deref.ensures.value))

pub returns-in-Ok-clause-fit : goal.returns-in-Ok-clause-fit
returns-in-Ok-clause-fit g c = guesses_fit c.args.columns.now c.args.blocks c.requires.table c.read_numbers.ensures

pub unreachable-requires : goal.unreachable-requires
unreachable-requires g c =
    let blocks = c.args.blocks in
    run_stays c.args.columns.now blocks c.requires.table c.args.places.now (physical_tree c.in_ok-plan.plan) c.in_ok-plan.read.items (c.of_blocks.result ∷ [])
    (IfOk-at_ok _ c.in_ok-plan.ensures.values.0 c.guess_plan.ensures) (IfOk-at_ok _ c.in_ok-plan.ensures.values.1 c.guess_places.ensures)
    (ap (λ rows. rows ∷ []) (c.of_blocks.ensures ∙ ap (λ qs. block_rows qs blocks) c.deref.ensures.value))
    c.read_numbers.ensures (c.in-Err-Overflow.ensures.overflow c.in-Err-Overflow.field-0-is)
