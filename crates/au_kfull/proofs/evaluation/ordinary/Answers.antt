-- What the guesses over the embedded tables are.
use Rattle.std.proofs.Common.{◌≡◌, map, ap}
use Rattle.au_algebra.specs.Bounded.{bounded}
use Rattle.au_algebra.specs.Fits.{numbers}
use Rattle.au_algebra.specs.Positive.{guessed_rows}
use Rattle.au_algebra.specs.Trees.{tree}
use Rattle.au_kfull.specs.Embedding.{embedded}
use Rattle.au_kfull.specs.TreeFits.{tree_fits}
use Rattle.au_kfull.specs.Typed.{HasValueKinds}
use Rattle.au_kfull.proofs.CertainTables.{stands_for, has_value_kinds, present_rows}
use Rattle.au_kfull.proofs.GivesMore.{gives_ok, gives_fits, gives_overflow}
use Rattle.au_kfull.proofs.TreeNumbers.{tree_numbers}
use Rattle.au_kfull.proofs.evaluation.ordinary.Goals as goal

pub returns-clause-stands : goal.returns-clause-stands
returns-clause-stands c =
    let q = tree c.args.query.now in
    let ts = c.args.tables.now in
    gives_ok c.guessed.result (λ rel. rel ≡ guessed_rows (bounded q (map embedded ts))) (tree_fits q (map embedded ts)) c.guessed.ensures _ (λ rel same. stands_for q ts rel same c.requires)

pub returns-clause-kinds : goal.returns-clause-kinds
returns-clause-kinds c =
    let q = tree c.args.query.now in
    let ts = c.args.tables.now in
    gives_ok c.guessed.result (λ rel. rel ≡ guessed_rows (bounded q (map embedded ts))) (tree_fits q (map embedded ts)) c.guessed.ensures (HasValueKinds q ts) (has_value_kinds q ts)

pub returns-clause-fits : goal.returns-clause-fits
returns-clause-fits c =
    let q = tree c.args.query.now in
    let ts = map embedded c.args.tables.now in
    gives_fits c.guessed.result (λ rel. rel ≡ guessed_rows (bounded q ts)) (tree_fits q ts) c.guessed.ensures _ (tree_numbers ts q)

pub returns-clause-overflow : goal.returns-clause-overflow
returns-clause-overflow c =
    let q = tree c.args.query.now in
    let ts = map embedded c.args.tables.now in
    gives_overflow c.guessed.result (λ rel. rel ≡ guessed_rows (bounded q ts)) (tree_fits q ts) c.guessed.ensures _ (tree_numbers ts q)

pub returns-clause-present : goal.returns-clause-present
returns-clause-present c = λ e. ap (numbers (tree c.args.query.now)) (present_rows c.args.tables.now e)
