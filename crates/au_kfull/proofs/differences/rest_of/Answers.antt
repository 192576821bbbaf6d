-- The row at hand is ready, and the rows that were found are those with its guesses.
use Rattle.std.proofs.Common.{◌≡◌, ◌∙◌, map, subst, sym}
use Rattle.std.specs.List.{AllByRecursion}
use Rattle.au_value.specs.Ranges.{guesses}
use Rattle.au_algebra.specs.Bounded.{RangeRow, guessing}
use Rattle.au_algebra.specs.Entries.{entry}
use Rattle.au_kfull.specs.Numbers.{IsFound, IsReady}
use Rattle.au_kfull.specs.SameGuesses.{beside}
use Rattle.au_kfull.proofs.FoundRows.{rows_beside_key}
use Rattle.au_kfull.proofs.differences.rest_of.Goals as goal

pub less-requires-clause-ready : goal.less-requires-clause-ready
less-requires-clause-ready c =
    let right = c.args.right.now in
    let all = subst (λ rows. AllByRecursion (IsReady right) (map (λ r. entry r.0.items r.1) rows)) c.in-Some.ensures.steps.0 c.loop-cells.invariant.ready in
    subst (λ cells. IsReady right (entry cells c.in-Some.triple)) (sym c.deref-in-loop-cells.ensures.value) all.0

pub less-requires-clause-found : goal.less-requires-clause-found
less-requires-clause-found c =
    let right = c.args.right.now in
    let cells = c.in-Some.cells.items in
    let same = c.deref-in-loop-cells-2.result.now in
    let all = subst (λ rows. AllByRecursion (IsReady right) (map (λ r. entry r.0.items r.1) rows)) c.in-Some.ensures.steps.0 c.loop-cells.invariant.ready in
    let are : same ≡ guessing (guesses cells) right =
    c.deref-in-loop-cells-2.ensures.value
    ∙ c.in_ok-same.ensures
    ∙ (λ i. beside (c.requires.index.keys i) (c.requires.index.groups i) (guesses (c.deref.ensures.value i)))
    ∙ rows_beside_key (λ (r : RangeRow). guesses r.cells) right (entry cells c.in-Some.triple) in
    let found : IsFound right same cells = record { like = all.0.like; same_are = are } in
    subst (IsFound right same) (sym c.deref-in-loop-cells.ensures.value) found
