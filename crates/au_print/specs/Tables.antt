-- The text of an answer as a table: a column for each name, as wide as its widest text, and last one of multiplicities.
-- Texts are UTF-8, where each byte but those of the form 10xxxxxx begins a character.
use Rattle.std.specs.Prelude.{ℕ, zero, suc, ◌-◌, Bool, ◌||◌, ◌==◌, nat_lt, nat_le, max, List, [], ◌∷◌, ◌++◌, map, flat_map, fold, replicate, count_by, codes, decimal, if◌then◌else◌}
use Rattle.au_value.specs.declared.kinds.Kind.{Kind}
use Rattle.au_value.specs.declared.value.Value.{Value}
use Rattle.au_value.specs.Ranges.{Span, is_certain}
use Rattle.au_annot.specs.Triples.{Counts}
use Rattle.au_algebra.specs.Bounded.{Bounded}
use Rattle.au_print.specs.Texts.{value_text}

-- control characters, those below U+0020 and U+007F, are shown as question marks
abbrev pub printable_byte : ℕ → ℕ
printable_byte b = if nat_lt b 0x20 || b == 0x7F then 63 else b

abbrev pub printable : List ℕ → List ℕ
printable text = map printable_byte text

-- whether a byte begins a character, and how many characters there are
abbrev pub begins_character : ℕ → Bool
begins_character b = nat_lt b 0x80 || nat_le 0xC0 b

abbrev pub characters : List ℕ → ℕ
characters text = count_by begins_character text

-- the value of a certain range, and else the three values
abbrev pub printable_value : Kind → Value → List ℕ
printable_value k v = printable (value_text k v)

abbrev pub cell_text : Kind → Span → List ℕ
cell_text k r =
    if is_certain r
    then printable_value k r.sg
    else codes "[" ++ printable_value k r.lo ++ codes "/" ++ printable_value k r.sg ++ codes "/" ++ printable_value k r.hi ++ codes "]"

-- the cells of a row, in columns of these kinds
abbrev pub cell_texts : List Kind → List Span → List (List ℕ)
cell_texts (k ∷ kinds) (r ∷ ranges) = cell_text k r ∷ cell_texts kinds ranges
cell_texts _ _ = []

abbrev pub triple_text : Counts → List ℕ
triple_text t = decimal t.least ++ codes "/" ++ decimal t.guess ++ codes "/" ++ decimal t.most

-- each width, or the number of a text's characters where that is greater
abbrev pub widened : List ℕ → List (List ℕ) → List ℕ
widened [] texts = []
widened (w ∷ widths) [] = w ∷ widths
widened (w ∷ widths) (t ∷ texts) = max w (characters t) ∷ widened widths texts

-- the widths with the one at a place made at least as great as another
abbrev pub widened_at : List ℕ → ℕ → ℕ → List ℕ
widened_at [] i n = []
widened_at (w ∷ widths) zero n = max w n ∷ widths
widened_at (w ∷ widths) (suc i) n = w ∷ widened_at widths i n

-- the widths of the names' columns, and of the multiplicities' column
abbrev pub column_widths : List (List ℕ) → List Kind → Bounded → List ℕ
column_widths names kinds rows =
    fold (λ widths r. widened widths (cell_texts kinds r.cells)) (map (λ n. characters (printable n)) names) rows

abbrev pub triple_width : Bounded → ℕ
triple_width rows = fold (λ w r. max w (characters (triple_text r.annot))) (characters (codes "row")) rows

-- a text with spaces behind it, up to a width
abbrev pub filled : ℕ → List ℕ → List ℕ
filled w text = text ++ replicate (w - characters text) 32

-- texts, each filled and before a bar
abbrev pub barred : List ℕ → List (List ℕ) → List ℕ
barred (w ∷ widths) (t ∷ texts) = filled w t ++ codes " | " ++ barred widths texts
barred _ _ = []

-- a line of texts, and the line below the header
abbrev pub line : List ℕ → ℕ → List (List ℕ) → List ℕ → List ℕ
line widths last texts text = barred widths texts ++ filled last text ++ codes "\n"

abbrev pub rule : List ℕ → ℕ → List ℕ
rule widths last = flat_map (λ w. replicate w 45 ++ codes "-+-") widths ++ replicate last 45 ++ codes "\n"

-- the table of an answer with columns of these names and kinds and with these rows, in this order
abbrev pub table_text : List (List ℕ) → List Kind → Bounded → List ℕ
table_text names kinds rows =
    let widths = column_widths names kinds rows in
    let last = triple_width rows in
    line widths last (map printable names) (codes "row")
    ++ rule widths last
    ++ flat_map (λ r. line widths last (cell_texts kinds r.cells) (triple_text r.annot)) rows
