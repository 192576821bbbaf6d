-- The code of texts. A short text, of at most 12 bytes, is a number by itself: its bytes, zeros behind them, and its
-- length. A long one has its first 12 bytes, and then 13 and its rank among the long texts of a book.
use Rattle.std.specs.Prelude.{ℕ, zero, suc, ◌+◌, ◌*◌, ◌^◌, Bool, ◌&&◌, ◌||◌, List, [], ◌∷◌, length, ℤ, pos, nat_le, Option, Some, None, if◌then◌else◌}
use Rattle.std.specs.Str.{is_utf8}
use Rattle.au_codes.specs.Codes.{Code}
use Rattle.au_codes.specs.Books.{Book, rank, has}

-- whether a text is a number by itself
abbrev pub is_short : List ℕ → Bool
is_short w = nat_le (length w) 12

-- the next n bytes of a text, behind a number, as digits in base 256; past the text's end they are 0
abbrev pub packed : ℕ → ℕ → List ℕ → ℕ
packed zero m w = m
packed (suc n) m [] = packed n (m * 256) []
packed (suc n) m (b ∷ w) = packed n (m * 256 + b) w

-- what tells apart the texts whose first 12 bytes are alike: 0 to 12 for short ones, 13 and more for long ones
abbrev pub tag : Book → List ℕ → ℕ
tag book w = if is_short w then length w else 13 + rank book w

-- the number of a text: 96 bits of bytes, and 31 bits of tag, so that none is negative, and the empty text is 0
abbrev pub text_number : Book → List ℕ → ℕ
text_number book w = packed 12 0 w * 2 ^ 31 + tag book w

-- that of a short text, for which no book is needed
abbrev pub short_number : List ℕ → Option ℤ
short_number w = if is_short w then Some (pos (packed 12 0 w * 2 ^ 31 + length w)) else None

-- whether a text is short, or one of the book
abbrev pub knows_text : Book → List ℕ → Bool
knows_text book w = (is_utf8 w && is_short w) || has book w

-- the code that a book gives
abbrev pub text_code : Book → Code
text_code book = record { knows = knows_text book; number = λ w. pos (text_number book w) }
