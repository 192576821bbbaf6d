-- What is promised of the bounded relation.
use Rattle.std.proofs.Common.{◌≡◌}
use Rattle.au_algebra.specs.Bounded.{bounded}
use Rattle.au_algebra.specs.Trees.{tree}
use Rattle.au_kfull.specs.TreeFits.{tree_fits}
use Rattle.au_kfull.specs.Typed.{HasTreeKinds}
use Rattle.au_kfull.proofs.GivesMore.{gives_ok, gives_fits, gives_overflow}
use Rattle.au_kfull.proofs.TreeNumbers.{tree_numbers}
use Rattle.au_kfull.proofs.TreeRows.{has_kinds, has_bounds, has_guesses}
use Rattle.au_kfull.proofs.evaluation.direct.Goals as goal

pub returns-clause-relation : goal.returns-clause-relation
returns-clause-relation c =
    let q = tree c.args.query.now in
    let ts = c.args.tables.now in
    gives_ok c.evaluated.result (λ rel. rel ≡ bounded q ts) (tree_fits q ts) c.evaluated.ensures (HasTreeKinds q ts) (has_kinds q ts)

pub returns-clause-fits : goal.returns-clause-fits
returns-clause-fits c =
    let q = tree c.args.query.now in
    let ts = c.args.tables.now in
    gives_fits c.evaluated.result (λ rel. rel ≡ bounded q ts) (tree_fits q ts) c.evaluated.ensures _ (tree_numbers ts q)

pub returns-clause-overflow : goal.returns-clause-overflow
returns-clause-overflow c =
    let q = tree c.args.query.now in
    let ts = c.args.tables.now in
    gives_overflow c.evaluated.result (λ rel. rel ≡ bounded q ts) (tree_fits q ts) c.evaluated.ensures _ (tree_numbers ts q)

pub returns-clause-bounds : goal.returns-clause-bounds
returns-clause-bounds c =
    let q = tree c.args.query.now in
    let ts = c.args.tables.now in
    gives_ok c.evaluated.result (λ rel. rel ≡ bounded q ts) (tree_fits q ts) c.evaluated.ensures _ (λ rel same. has_bounds q ts rel same c.requires)

pub returns-clause-guesses : goal.returns-clause-guesses
returns-clause-guesses c =
    let q = tree c.args.query.now in
    let ts = c.args.tables.now in
    gives_ok c.evaluated.result (λ rel. rel ≡ bounded q ts) (tree_fits q ts) c.evaluated.ensures _ (λ rel same. has_guesses q ts rel same c.requires)
