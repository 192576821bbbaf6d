-- A label that isn't the one before, by its bytes.
use Rattle.std.proofs.Common.{◌∙◌, ◌++◌, ◌∷◌, [], Bool, List, Bor, ℕ, cond, map, refl, ap}
use Rattle.au_blocks.specs.Tallies.{nothing}
use Rattle.au_blocks.proofs.LabelKeys.{any-label, insert-bytes, key-place}
use Rattle.au_blocks.proofs.gather.place_near.Goals as goal

abbrev text : Bor (List ℕ) → List ℕ
text k = k.now

pub returns-clause-labels : goal.returns-clause-labels
returns-clause-labels c =
    ap (map text) c.in_ok-at.ensures.labels ∙ insert-bytes text c.args.label.now c.args.label c.args.labels.now.keys refl

pub returns-clause-tallies : goal.returns-clause-tallies
returns-clause-tallies c =
    c.in_ok-at.ensures.tallies ∙ ap (λ (known : Bool). c.args.tallies.now.items ++ cond known [] (nothing ∷ [])) (any-label text c.args.label.now c.args.label c.args.labels.now.keys refl)

pub returns-clause-place : goal.returns-clause-place
returns-clause-place c = c.in_ok-at.ensures.place ∙ key-place text c.args.label.now c.args.label c.args.labels.now.keys refl
