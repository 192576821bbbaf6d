-- What the fields of a table file write: values of the kinds, ranges of numbers, and numbers of copies.
-- A range and numbers of copies are three parts with `..` between them.
use Rattle.std.specs.Prelude.{ℕ, ◌^◌, ◌&&◌, Bool, true, false, List, [], ◌∷◌, length, drop, ℤ, Option, Some, None, option_map, option_and_then, if◌then◌else◌, nat_lt, nat_le, nat_eq, codes, bytes_eq}
use Rattle.std.specs.List.{list_all, starts_with}
use Rattle.std.specs.Char.{is_ascii_digit}
use Rattle.std.specs.Option.{option_or}
use Rattle.std.specs.Str.Parse.{digits_value}
use Rattle.au_value.specs.declared.kinds.Kind.{Kind}
use Rattle.au_value.specs.declared.kinds.Kind.TheVariants as kind
use Rattle.au_value.specs.declared.value.Value.{Value}
use Rattle.au_value.specs.declared.value.Value.TheVariants as value
use Rattle.au_value.specs.Decimal.{decimal_value}
use Rattle.au_value.specs.Numeral.{numeral_value}
use Rattle.au_value.specs.Order.{is_scale, at_most}
use Rattle.au_value.specs.Ranges.{Span, range, certain}
use Rattle.au_blocks.specs.Blocks.{Copies, copies_of}

-- whether the values of a kind are numbers
abbrev pub is_number_kind : Kind → Bool
is_number_kind kind.Int = true
is_number_kind (kind.Dec scale) = true
is_number_kind kind.Text = false
is_number_kind kind.Flag = false

-- the number that a field writes in a column of this kind: of units, where the kind has a scale
abbrev pub number_written : Kind → List ℕ → Option ℤ
number_written kind.Int field = numeral_value field
number_written (kind.Dec scale) field = if is_scale scale then decimal_value scale field else None
number_written kind.Text field = None
number_written kind.Flag field = None

abbrev pub flag_written : List ℕ → Option Value
flag_written field =
    if bytes_eq field (codes "true") then Some (value.Flag true)
    else if bytes_eq field (codes "false") then Some (value.Flag false)
    else None

-- the value of a field, if it is one of this kind
abbrev pub value_written : Kind → List ℕ → Option Value
value_written kind.Int field = option_map value.Int (number_written kind.Int field)
value_written (kind.Dec scale) field = option_map value.Int (number_written (kind.Dec scale) field)
value_written kind.Text field = Some (value.Text field)
value_written kind.Flag field = flag_written field

-- what stands before and behind the first `..`
abbrev pub cut_dots : List ℕ → Option (List ℕ × List ℕ)
cut_dots [] = None
cut_dots (x ∷ xs) =
    if starts_with nat_eq (x ∷ xs) (codes "..") then Some ([], drop 1 xs)
    else option_map (λ p. (x ∷ p.0, p.1)) (cut_dots xs)

-- the three parts of a field
pub record Parts : Type 0 where
  pub first : List ℕ
  pub second : List ℕ
  pub third : List ℕ

abbrev pub part_texts : List ℕ → List ℕ → List ℕ → Parts
part_texts first second third = record { first = first; second = second; third = third }

abbrev pub parts : List ℕ → Option Parts
parts field = option_and_then (λ p. option_map (λ q. part_texts p.0 q.0 q.1) (cut_dots p.1)) (cut_dots field)

-- three numbers, if all are there
abbrev pub three : {N T : Type 0} → (N → N → N → Option T) → Option N → Option N → Option N → Option T
three f (Some a) (Some b) (Some c) = f a b c
three f (Some a) (Some b) None = None
three f (Some a) None c = None
three f None b c = None

-- the range of three values in order
abbrev pub ordered_range : Value → Value → Value → Option Span
ordered_range lo guess hi = if at_most lo guess && at_most guess hi then Some (range lo guess hi) else None

abbrev pub number_range : ℤ → ℤ → ℤ → Option Span
number_range lo guess hi = ordered_range (value.Int lo) (value.Int guess) (value.Int hi)

-- the range that a field writes in a column of numbers
abbrev pub range_written : Kind → List ℕ → Option Span
range_written k field =
    option_and_then (λ p. three number_range (number_written k p.first) (number_written k p.second) (number_written k p.third)) (parts field)

-- the range of the value that a field writes, or else the range that it writes
abbrev pub field_written : Kind → List ℕ → Option Span
field_written k field = option_or (option_map certain (value_written k field)) (range_written k field)

-- the number of copies that 1 to 13 digits write, if it is at most 10^12
abbrev pub is_count : List ℕ → Bool
is_count field = nat_lt 0 (length field) && nat_le (length field) 13 && list_all is_ascii_digit field

abbrev pub count_written : List ℕ → Option ℕ
count_written field = if is_count field && nat_le (digits_value 10 field) (10 ^ 12) then Some (digits_value 10 field) else None

-- three numbers of copies in order
abbrev pub ordered_copies : ℕ → ℕ → ℕ → Option Copies
ordered_copies least guess most = if nat_le least guess && nat_le guess most then Some (copies_of least guess most) else None

-- the numbers of copies that a field writes: one number for all three, or three
abbrev pub copies_written : List ℕ → Option Copies
copies_written field =
    option_or (option_map (λ n. copies_of n n n) (count_written field))
    (option_and_then (λ p. three ordered_copies (count_written p.first) (count_written p.second) (count_written p.third)) (parts field))
