-- The keys of a set of rows, whichever form they are held in: of one column the numbers alone, of several one number into
-- which each key is packed, and else lists.
use Rattle.std.specs.Prelude.{ℕ, List, [], ◌∷◌, ℤ, map, Vec}
use Rattle.std.specs.declared.alloc.Global.{Global}
use Rattle.au_codes.specs.Codes.{CellRows}
use Rattle.au_folds.specs.declared.held.KeyLists.{KeyLists}
use Rattle.au_folds.specs.declared.held.KeyLists.TheVariants.{Packed, Free}
use Rattle.au_folds.specs.declared.seen.Seen.{Seen}
use Rattle.au_folds.specs.declared.seen.Seen.TheVariants.{One, Several}
use Rattle.au_folds.specs.Packed.{unpacked, width_of}

-- keys of one number each
abbrev pub singles : List ℤ → CellRows
singles zs = map (λ z. z ∷ []) zs

-- lists of numbers
abbrev pub lists : List (Vec ℤ Global) → CellRows
lists vs = map (λ v. v.items) vs

-- keys of several numbers
abbrev pub key_lists : KeyLists → CellRows
key_lists (Packed deep known) = map (unpacked (width_of deep) deep) known.keys
key_lists (Free known) = lists known.keys

-- the key columns, and the keys
abbrev pub key_places : Seen → List ℕ
key_places (One place known) = place ∷ []
key_places (Several places known) = places.items

abbrev pub key_cells : Seen → CellRows
key_cells (One place known) = singles known.keys
key_cells (Several places known) = key_lists known
