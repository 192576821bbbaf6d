-- The records of a table file that was read in one pass: what is held of them while they come, and of all of them.
use Rattle.std.specs.Prelude.{◌≡◌, ℕ, true, None, List, ◌∷◌, Option, Ok, length, filter, map}
use Rattle.std.specs.List.{list_all}
use Rattle.au_value.specs.declared.kinds.Kind.{Kind}
use Rattle.au_csv.specs.Texts.{Record, text_records}
use Rattle.au_blocks.specs.declared.extent.Extent.{Extent}
use Rattle.au_blocks.specs.declared.format.Format.{Format}
use Rattle.au_blocks.specs.declared.intake.Intake.{Intake}
use Rattle.au_blocks.specs.Blocks.{Candidate}
use Rattle.au_blocks.specs.Columns.{alternatives_of}
use Rattle.au_blocks.specs.Defects.{blocks_defects, rows_defects}
use Rattle.au_blocks.specs.Entries.{entry_blocks, entries_of}
use Rattle.au_blocks.specs.Headers.{format_of}
use Rattle.au_blocks.specs.Inferring.{inferred_kinds, is_alternative}
use Rattle.au_blocks.specs.BlockPlaces.{Lays}
use Rattle.au_blocks.specs.OnePass.{columns_over, is_fitting}
use Rattle.au_blocks.specs.Order.{chosen}
use Rattle.au_blocks.specs.Read.{first}
use Rattle.au_blocks.specs.Tallies.{extents_from, tally_of}

-- these records are of this format and width, and fit columns of these kinds; their blocks lie as is held, and so do the
-- cells of those that are alternatives
pub record TakesIn (f : Format) (width : ℕ) (kinds : List Kind) (rows : List Record) (intake : Intake) : Type 0 where
  pub format : intake.format ≡ f
  pub wide : intake.width ≡ width
  pub columns : intake.columns.items ≡ columns_over f (filter (is_alternative f) rows) 0 kinds
  pub blocks : Lays f rows intake.blocks
  pub count : intake.count ≡ length (filter (is_alternative f) rows)
  pub fitting : list_all (is_fitting f width kinds) rows ≡ true

-- all records of a text that stand below this header were taken in
pub record TakesAll (bytes : List ℕ) (header : Record) (kinds : List Kind) (intake : Intake) : Type 0 where
  pub rows : List Record
  pub read : text_records bytes ≡ Ok (header ∷ rows)
  pub taken : TakesIn (format_of header) (length header) kinds rows intake

-- the blocks of some records have no defect, and lie at these places among the alternatives
pub record LaysAll (f : Format) (kinds : List Kind) (rows : List Record) (alternatives : List Candidate) (extents : List Extent) : Type 0 where
  pub sound : first (blocks_defects (entry_blocks f rows)) ≡ None
  pub made : alternatives ≡ alternatives_of f kinds (chosen f rows)
  pub placed : extents ≡ extents_from 0 (map tally_of (entry_blocks f rows))

-- the records of a text below this header have no defect either, and the columns, with these written kinds, have these kinds
pub record ReadsAll (bytes : List ℕ) (header : Record) (written : List (Option Kind)) (kinds : List Kind) (alternatives : List Candidate) (extents : List Extent) : Type 0 where
  pub rows : List Record
  pub read : text_records bytes ≡ Ok (header ∷ rows)
  pub sound : first (rows_defects (format_of header) (length header) written rows) ≡ None
  pub found : inferred_kinds (entries_of (format_of header) rows) written ≡ kinds
  pub lies : LaysAll (format_of header) kinds rows alternatives extents
