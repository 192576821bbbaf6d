-- The group at the place that the search found, and none where it found none.
use Rattle.std.proofs.Common.{◌≡◌, ◌∙◌, [], ap, get_or, subst, sym}
use Rattle.std.specs.Prelude.{IfOk}
use Rattle.au_value.specs.Ranges.{guesses}
use Rattle.au_algebra.specs.Keys.{key_values}
use Rattle.au_kfull.specs.SameGuesses.{beside, groups_held}
use Rattle.au_kfull.proofs.FoundRows.{beside_at, beside_none}
use Rattle.au_kfull.proofs.same_guesses.rows_guessing.Goals as goal

pub returns-in-Some : goal.returns-in-Some
returns-in-Some c =
    let keys = key_values c.args.index.now.seen.keys in
    let groups = groups_held c.args.index.now.groups.items in
    let found : get_or (groups_held c.deref-in-Some.result.now) c.in-Some.place [] ≡ beside keys groups (guesses c.args.cells.now) =
    (λ i. get_or (groups_held (c.deref-in-Some.ensures.value i)) (c.in-Some.ensures.place i) [])
    ∙ beside_at c.deref.result.now keys groups (sym c.in-Some.ensures.found)
    ∙ ap (beside keys groups) (c.deref.ensures.value ∙ c.in_ok-key.ensures) in
    subst (λ rows. IfOk c.group_at.result (λ v. v.items ≡ rows)) found c.group_at.ensures

pub returns : goal.returns
returns c =
    let keys = key_values c.args.index.now.seen.keys in
    let groups = groups_held c.args.index.now.groups.items in
    c.new.ensures.items
    ∙ beside_none c.deref.result.now keys groups (sym c.in-None.ensures.found)
    ∙ ap (beside keys groups) (c.deref.ensures.value ∙ c.in_ok-key.ensures)
