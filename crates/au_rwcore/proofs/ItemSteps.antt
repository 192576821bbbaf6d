-- One item more among columns.
use Rattle.std.specs.Prelude.{◌≡◌, ℕ, ◌+◌, ◌<◌, List, ◌∷◌, ◌++◌, length, map, drop}
use Rattle.std.proofs.Common.{arith, get_or, sym, ◌∙◌, append_assoc, add-one, drop-cons}
use Rattle.au_expr.specs.Terms.{Term}
use Rattle.au_plain.specs.declared.expr.PExpr.{PExpr}
use Rattle.au_plain.specs.PTerms.{pterm}
use Rattle.au_rwexpr.specs.Cells.{three_places}
use Rattle.au_rwexpr.specs.Flatten.{before, flatten, flatten_items, item_places}
use Rattle.au_rwexpr.specs.Nodes.{AddsColumns}
use Rattle.au_rwexpr.proofs.Flattening.{adds_long}

-- the item at hand, and those that are left
pub split_at : {A : Type 0} (xs : List A) (i : ℕ) (x : A) → i < length xs → x ≡ get_or xs i x → drop i xs ≡ x ∷ drop (i + 1) xs
split_at xs i x h e = drop-cons xs i x h ∙ (λ j. sym e j ∷ drop (sym (add-one i) j) xs)

module _ (w : ℕ) (e : Term) (es : List Term) (old new : List PExpr) (at : ℕ) (x : AddsColumns w e old new at) where
  wider : w + length new ≡ w + length old + (before e + 3)
  wider = omega (arith, adds_long w e old new at x)

  -- the columns of an item, and then of the others
  pub columns_step : map pterm new ++ flatten_items (w + length new) es ≡ map pterm old ++ flatten_items (w + length old) (e ∷ es)
  columns_step =
      (λ i. x.columns i ++ flatten_items (wider i) es)
      ∙ append_assoc (map pterm old) (flatten (w + length old) e) (flatten_items (w + length old + (before e + 3)) es)

  pub places_step : (ps : List ℕ) → (ps ++ three_places at) ++ item_places (w + length new) es ≡ ps ++ item_places (w + length old) (e ∷ es)
  places_step ps =
      (λ i. (ps ++ three_places (x.place i)) ++ item_places (wider i) es)
      ∙ append_assoc ps (three_places (w + length old + before e)) (item_places (w + length old + (before e + 3)) es)
