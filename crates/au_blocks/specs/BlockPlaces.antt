-- Where the blocks lie of records that come one after the other, of which none is kept: those that are whole,
-- and what the records of the last one amount to so far.
use Rattle.std.specs.Prelude.{ℕ, ◌≡◌, ◌+◌, ◌++◌, ⊤, Bool, true, false, List, [], ◌∷◌, map, flat_map, sum_by, None, string_bytes}
use Rattle.std.specs.declared.cmp.Ordering.TheVariants.{Less}
use Rattle.au_csv.specs.Texts.{Record}
use Rattle.au_blocks.specs.declared.block_places.BlockPlaces.{BlockPlaces}
use Rattle.au_blocks.specs.declared.format.Format.{Format}
use Rattle.au_blocks.specs.declared.role.Role.{Role}
use Rattle.au_blocks.specs.declared.tally.Tally.{Tally}
use Rattle.au_blocks.specs.Entries.{entries_of, labelled}
use Rattle.au_blocks.specs.Headers.{has_blocks}
use Rattle.au_blocks.specs.Order.{labels, record_blocks}
use Rattle.au_blocks.specs.Runs.{label_order}
use Rattle.au_blocks.specs.Tallies.{extent_of, extents_from, nothing, tallies_defect, tally_defect, tally_of, with_role}

-- each of these labels comes before one
abbrev pub Before : List (List ℕ) → List ℕ → Type 0
Before [] l = ⊤
Before (k ∷ ks) l = (label_order k l ≡ Less) × Before ks l

-- of records in which no label descends: the runs before the last one, the last one, and its label, with the labels before it
pub record Parted (rows : List Record) (done : List (List Record)) (run : List Record) (last : List ℕ) : Type 0 where
  pub known : List (List ℕ)
  pub all : labels rows ≡ known ++ last ∷ []
  pub before : Before known last
  pub others : done ≡ map (λ l. labelled l rows) known
  pub own : run ≡ labelled last rows

-- what the records of each block amount to, and how many alternatives there are
abbrev pub tallies_in : Format → List (List Record) → List Tally
tallies_in f blocks = map tally_of (map (entries_of f) blocks)

abbrev pub count_in : List Tally → ℕ
count_in ts = sum_by (λ t. t.count) ts

-- the records of a last block, behind those of whole ones, with their label and what they amount to
pub record Begun (f : Format) (rows : List Record) (done : List (List Record)) (last : List ℕ) (t : Tally) : Type 0 where
  pub run : List Record
  pub blocks : has_blocks f ≡ true
  pub parted : Parted rows done run last
  pub together : flat_map (λ block. block) done ++ run ≡ rows
  pub amount : t ≡ tally_of (entries_of f run)

-- whether a last block is begun: where none is, all blocks are whole, and no record has a label
abbrev pub Ends : Bool → Format → List Record → List (List Record) → List ℕ → Tally → Type 0
Ends true f rows done last t = Begun f rows done last t
Ends false f rows done last t = (done ≡ record_blocks f rows) × (has_blocks f ≡ true → rows ≡ [])

-- what is held of the blocks of these records
pub record Lays (f : Format) (rows : List Record) (held : BlockPlaces) : Type 0 where
  pub done : List (List Record)
  pub own : held.format ≡ f
  pub places : held.extents.items ≡ extents_from 0 (tallies_in f done)
  pub sound : tallies_defect 0 (tallies_in f done) ≡ None
  pub count : held.first ≡ count_in (tallies_in f done)
  pub ends : Ends held.begun f rows done (string_bytes held.label) held.tally

-- one whole block more, without a defect
pub record Placed (t : Tally) (was held : BlockPlaces) : Type 0 where
  pub sound : tally_defect 0 t ≡ None
  pub places : held.extents.items ≡ was.extents.items ++ extent_of was.first t ∷ []
  pub count : held.first ≡ was.first + t.count
  pub own : held.format ≡ was.format
  pub begun_as : held.begun ≡ was.begun
  pub label_as : string_bytes held.label ≡ string_bytes was.label
  pub amount : held.tally ≡ was.tally

-- the last block begun, and one record more of it
pub record Starts (last : List ℕ) (x : Role) (was held : BlockPlaces) : Type 0 where
  pub places : held.extents.items ≡ was.extents.items
  pub count : held.first ≡ was.first
  pub own : held.format ≡ was.format
  pub begins : held.begun ≡ true
  pub label_is : string_bytes held.label ≡ last
  pub amount : held.tally ≡ with_role nothing x

pub record Grows (x : Role) (was held : BlockPlaces) : Type 0 where
  pub places : held.extents.items ≡ was.extents.items
  pub count : held.first ≡ was.first
  pub own : held.format ≡ was.format
  pub begun_as : held.begun ≡ was.begun
  pub label_as : string_bytes held.label ≡ string_bytes was.label
  pub amount : held.tally ≡ with_role was.tally x
