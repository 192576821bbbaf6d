-- The value of a kind that a number stands for.
use Rattle.std.specs.Prelude.{ℕ, zero, suc, ◌-◌, ◌/◌, ◌%◌, ◌^◌, List, [], ◌∷◌, take, ℤ, pos, negsuc, unwrap_or, slice_get, nat_le, if◌then◌else◌}
use Rattle.std.specs.Str.{is_utf8}
use Rattle.au_value.specs.declared.kinds.Kind.{Kind}
use Rattle.au_value.specs.declared.kinds.Kind.TheVariants as kind
use Rattle.au_value.specs.declared.value.Value.{Value}
use Rattle.au_value.specs.declared.value.Value.TheVariants.{Int, Text, Flag}
use Rattle.au_codes.specs.Codes.{Cells}
use Rattle.au_codes.specs.CellMeaning.{truth}
use Rattle.au_codes.specs.Books.{Book}

-- the last n digits of a number in base 256, before what follows
abbrev pub unpacked : ℕ → ℕ → List ℕ → List ℕ
unpacked zero m rest = rest
unpacked (suc n) m rest = unpacked n (m / 256) (m % 256 ∷ rest)

-- the bytes, if they are a text, and else the empty text
abbrev pub text_or_none : List ℕ → List ℕ
text_or_none w = if is_utf8 w then w else []

-- the text of 12 bytes and a tag
abbrev pub text_of : Book → ℕ → ℕ → List ℕ
text_of book front tag =
    if nat_le tag 12 then text_or_none (take tag (unpacked 12 front [])) else unwrap_or (slice_get book (tag - 13)) []

-- the text of a number, and the empty text where it is that of none
abbrev pub decoded_text : Book → ℤ → List ℕ
decoded_text book (pos n) = text_of book (n / 2 ^ 31) (n % 2 ^ 31)
decoded_text book (negsuc n) = []

-- the value of a kind
abbrev pub decoded : Book → Kind → ℤ → Value
decoded book kind.Int z = Int z
decoded book (kind.Dec scale) z = Int z
decoded book kind.Text z = Text (decoded_text book z)
decoded book kind.Flag z = Flag (truth z)

-- the row of these kinds
abbrev pub decoded_row : Book → List Kind → Cells → List Value
decoded_row book [] zs = []
decoded_row book (k ∷ ks) [] = []
decoded_row book (k ∷ ks) (z ∷ zs) = decoded book k z ∷ decoded_row book ks zs
