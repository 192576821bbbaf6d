-- What the records of a block amount to, one after another, and where the blocks lie.
use Rattle.std.specs.Prelude.{ℕ, zero, suc, ◌+◌, ◌==◌, not, Bool, true, false, List, [], ◌∷◌, length, Option, Some, None, if◌then◌else◌, count_by, position}
use Rattle.std.specs.Option.{option_or}
use Rattle.au_blocks.specs.declared.extent.Extent.{Extent}
use Rattle.au_blocks.specs.declared.faults.TableFault.{TableFault}
use Rattle.au_blocks.specs.declared.faults.TableFault.TheVariants as fault
use Rattle.au_blocks.specs.declared.role.Role.{Role}
use Rattle.au_blocks.specs.declared.seen.Seen.{Seen}
use Rattle.au_blocks.specs.declared.seen.Seen.TheVariants as seen
use Rattle.au_blocks.specs.declared.tally.Tally.{Tally}
use Rattle.au_blocks.specs.Entries.{BlockEntry, is_marked, is_absent, alternatives}

-- never, once, or again
abbrev pub seen_of : ℕ → Seen
seen_of zero = seen.Never
seen_of (suc zero) = seen.Once
seen_of (suc (suc n)) = seen.Again

abbrev pub more : Seen → Seen
more seen.Never = seen.Once
more seen.Once = seen.Again
more seen.Again = seen.Again

abbrev pub is_never : Seen → Bool
is_never seen.Never = true
is_never seen.Once = false
is_never seen.Again = false

abbrev pub is_again : Seen → Bool
is_again seen.Never = false
is_again seen.Once = false
is_again seen.Again = true

abbrev pub nothing : Tally
nothing = record { count = 0; marked = seen.Never; absent = seen.Never; guess = None }

-- one marked alternative
abbrev pub certain : Tally
certain = record { count = 1; marked = seen.Once; absent = seen.Never; guess = Some 0 }

-- one alternative more, and one absence
abbrev pub with_row : Tally → Bool → Tally
with_row t marked = record {
  count = t.count + 1;
  marked = if marked then more t.marked else t.marked;
  absent = t.absent;
  guess = option_or t.guess (if marked then Some t.count else None);
}

abbrev pub with_absence : Tally → Bool → Tally
with_absence t marked = record { count = t.count; marked = if marked then more t.marked else t.marked; absent = more t.absent; guess = t.guess }

-- one record more, of this role
abbrev pub with_role : Tally → Role → Tally
with_role t x = if is_absent x then with_absence t (is_marked x) else with_row t (is_marked x)

-- what these entries amount to
abbrev pub tally_of : List BlockEntry → Tally
tally_of entries = record {
  count = length (alternatives entries);
  marked = seen_of (count_by (λ e. is_marked e.role) entries);
  absent = seen_of (count_by (λ e. is_absent e.role) entries);
  guess = position (λ e. is_marked e.role) (alternatives entries);
}

-- the first defect of a block
abbrev pub tally_defect : ℕ → Tally → Option TableFault
tally_defect n t =
    if is_again t.marked then Some (fault.TwoGuesses n)
    else if is_never t.marked then Some (fault.NoGuess n)
    else if t.count == 0 then Some (fault.OnlyAbsent n)
    else if is_again t.absent then Some (fault.TwoAbsent n)
    else None

-- the first defect of blocks, numbered from n
abbrev pub tallies_defect : ℕ → List Tally → Option TableFault
tallies_defect n [] = None
tallies_defect n (t ∷ ts) = option_or (tally_defect n t) (tallies_defect (n + 1) ts)

-- where the block lies whose first alternative has this place
abbrev pub extent_of : ℕ → Tally → Extent
extent_of first t = record { first = first; count = t.count; optional = not (is_never t.absent); guess = t.guess }

-- where the blocks lie, one behind the other from a place on
abbrev pub extents_from : ℕ → List Tally → List Extent
extents_from first [] = []
extents_from first (t ∷ ts) = extent_of first t ∷ extents_from (first + t.count) ts
