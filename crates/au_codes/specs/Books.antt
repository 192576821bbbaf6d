-- Codebooks: texts in order, each once. In such a book the rank of a text is its place.
use Rattle.std.specs.Prelude.{◌≡◌, ℕ, suc, ◌+◌, ◌<◌, ◌^◌, Bool, List, [], ◌∷◌, length, Option, Some, None, bytes_eq, if◌then◌else◌}
use Rattle.std.specs.List.{AllByRecursion, list_any}
use Rattle.std.specs.Str.{IsUtf8}
use Rattle.std.specs.declared.cmp.Ordering.TheVariants.{Less}
use Rattle.std.specs.Ordering.{nat_cmp, is_lt}
use Rattle.std.specs.Cmp.Lexicographic.{slice_cmp}

-- texts, each by its bytes
abbrev pub Book : Type 0
Book = List (List ℕ)

-- whether the first text is below the second, by bytes
abbrev pub text_below : List ℕ → List ℕ → Bool
text_below s t = is_lt (slice_cmp nat_cmp s t)

-- the rank of a text: how many texts of the book are below it
abbrev pub rank : Book → List ℕ → ℕ
rank [] w = 0
rank (t ∷ book) w = if text_below t w then suc (rank book w) else rank book w

-- whether the book has the text
abbrev pub has : Book → List ℕ → Bool
has book w = list_any (bytes_eq w) book

-- the rank of a text that the book has
abbrev pub rank_if_any : Book → List ℕ → Option ℕ
rank_if_any book w = if has book w then Some (rank book w) else None

-- each text stands before all that follow it, so none stands twice
abbrev pub IsRising : Book → Type 0
IsRising [] = Unit {0}
IsRising (t ∷ book) = AllByRecursion (λ s. slice_cmp nat_cmp t s ≡ Less) book × IsRising book

-- a book: texts of UTF-8 in order, so few that 13 and a rank take 31 bits
pub record IsCodebook (book : Book) : Type 0 where
  pub rising : IsRising book
  pub texts : AllByRecursion IsUtf8 book
  pub few : length book + 13 < 2 ^ 31

-- a book of these texts, and of no others
pub record IsBookOf (texts : List (List ℕ)) (book : Book) : Type 0 where
  pub is_book : IsCodebook book
  pub same : (w : List ℕ) → has book w ≡ has texts w
