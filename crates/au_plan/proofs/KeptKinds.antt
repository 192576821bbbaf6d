-- Rows of known kinds have, in the columns that are kept, the kinds of these columns.
use Rattle.std.specs.Prelude.{◌≡◌, ℕ, zero, suc, List, [], ◌∷◌, map, Some, slice_get}
use Rattle.std.proofs.Common.{sym, ◌∙◌, ap}
use Rattle.au_value.specs.declared.kinds.Kind.{Kind}
use Rattle.au_value.specs.declared.value.Value.{Value}
use Rattle.au_value.specs.Order.{kind_of}
use Rattle.au_algebra.specs.Lists.{value_at}
use Rattle.au_algebra.specs.Ordinary.{Rows}
use Rattle.au_algebra.proofs.AggregateKinds.{kinds_parts}
use Rattle.au_algebra.proofs.Items.{some_is}
use Rattle.au_plain.specs.Meaning.{kept}
use Rattle.au_plain.specs.PlanKinds.{HaveKinds, kept_kinds}

cell_kind : (row : List Value) (i : ℕ) (k : Kind) → slice_get (map kind_of row) i ≡ Some k → kind_of (value_at row i) ≡ k
cell_kind [] i k h = cc
cell_kind (v ∷ row) zero k h = some_is (kind_of v) k h
cell_kind (v ∷ row) (suc i) k h = cell_kind row i k h

module _ (ks : List Kind) where
  kept_row : (ps : List ℕ) (js : List Kind) (row : List Value) → map kind_of row ≡ ks → kept_kinds ps ks ≡ Some js → map kind_of (kept ps row) ≡ js
  kept_row [] js row h t = some_is [] js t
  kept_row (i ∷ ps) js row h t =
      let p = kinds_parts (slice_get ks i) (map (slice_get ks) ps) js t in
      let first = cell_kind row i p.first (ap (λ ms. slice_get ms i) h ∙ p.first_is) in
      let others = kept_row ps p.others row h p.others_are in
      (λ j. first j ∷ others j) ∙ sym p.whole

  pub have_kept : (ps : List ℕ) (js : List Kind) (rows : Rows) → HaveKinds ks rows → kept_kinds ps ks ≡ Some js → HaveKinds js (map (kept ps) rows)
  have_kept ps js [] h t = tt
  have_kept ps js (row ∷ rows) h t = (kept_row ps js row h.0 t, have_kept ps js rows h.1 t)
