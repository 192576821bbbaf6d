-- What the sources of a plan hold, from what was read of tables and formed of the sides of products.
use Rattle.std.specs.Prelude.{◌≡◌, ℕ, List, [], ◌∷◌, ◌++◌, Option, Some, slice_get, Vec}
use Rattle.std.specs.declared.alloc.Global.{Global}
use Rattle.std.proofs.Common.{refl, sym, subst}
use Rattle.au_algebra.specs.Bounded.{Bounded}
use Rattle.au_algebra.specs.Ordinary.{Rows}
use Rattle.au_blocks.specs.Tables.{BlockTable, IsBlockTable}
use Rattle.au_translate.specs.Translate.{bounded_table}
use Rattle.au_plain.specs.PlanKinds.{FitRows, FitTables}
use Rattle.au_encode.specs.Encode.{encode}
use Rattle.au_program.specs.KeptRows.{kept_rows}
use Rattle.au_program.specs.Sources.{AreParts, Behind, IsRead, PairsOver, left_side, part_rows, right_side}
use Rattle.au_program.specs.Stages.{HaveSides}
use Rattle.au_program.specs.declared.sources.Pairing.{Pairing}
use Rattle.au_engine.specs.Finding.{IsAppended}

-- rows that were put behind others
pub put_behind : (First Last : List Rows → Type 0) (old new : List Rows) → First old → IsAppended Last old new → Behind First Last new
put_behind First Last old new first a = record { front = old; back = a.0; before = first; here = a.1.0; are = a.1.1 }

-- what is read of a table
pub one_read :
    (ts : List BlockTable) (i : ℕ) (places : Option (Vec ℕ Global)) (t : BlockTable) (old new : List Rows) → slice_get ts i ≡ Some t → IsBlockTable t → FitRows (encode (bounded_table t)) →
    new ≡ old ++ kept_rows places (encode (bounded_table t)) ∷ [] → IsAppended (IsRead ts i places) old new
one_read ts i places t old new there is_table fit is =
    (kept_rows places (encode (bounded_table t)) ∷ [], (record { table = t; at = record { there = there; is_table = is_table; fit = fit }; are = refl }, is))

-- ---- both sides of a product

-- the relation that a side's plan gives over something that its sources hold
abbrev pub IsOfSide : (List Rows → Type 0) → (List Rows → Bounded) → Bounded → Type 0
IsOfSide Own side rel = (held : List Rows) × (Own held × (rel ≡ side held))

module _ (Left Right : List Rows → Type 0) (pairing : Pairing) (l r : Bounded) (of_left : IsOfSide Left (left_side pairing) l) (of_right : IsOfSide Right (right_side pairing) r) where
  pub sides_are : PairsOver Left Right pairing → HaveSides l pairing.left_columns r pairing.right_columns
  sides_are over =
      subst (λ (x : Bounded). HaveSides x pairing.left_columns r pairing.right_columns) (sym of_left.1.1)
      (subst (λ (y : Bounded). HaveSides (left_side pairing of_left.0) pairing.left_columns y pairing.right_columns) (sym of_right.1.1)
      (over.sides of_left.0 of_right.0 of_left.1.0 of_right.1.0))

  pub parts_put : (old new : List Rows) → new ≡ old ++ part_rows pairing.size l r → FitTables (part_rows pairing.size l r) → IsAppended (AreParts Left Right pairing) old new
  parts_put old new is fit = (
    part_rows pairing.size l r,
    (
      record {
        lefts = of_left.0;
        rights = of_right.0;
        of_left = of_left.1.0;
        of_right = of_right.1.0;
        fit = fit;
        are = λ i. part_rows pairing.size (of_left.1.1 i) (of_right.1.1 i);
      },
      is,
    ),
  )
