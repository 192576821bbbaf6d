-- The lexemes: which texts spell one, as a whole.
use Rattle.std.specs.Prelude.{ℕ, ◌+◌, ◌==◌, ◌&&◌, ◌||◌, nat_lt, Bool, true, false, List, [], ◌∷◌, ◌++◌, length, drop, take_while, pos, Option, Some, None, option_map, if◌then◌else◌, codes, find, bytes_eq}
use Rattle.std.specs.List.{list_all, prefix_len}
use Rattle.std.specs.Char.{is_ascii_digit, is_ascii_alphabetic}
use Rattle.std.specs.Str.{str_eq_ignore_ascii_case}
use Rattle.std.specs.Str.Parse.{digits_value}
use Rattle.au_lex.specs.declared.Keyword.{Keyword}
use Rattle.au_lex.specs.declared.Keyword.TheVariants as key
use Rattle.au_lex.specs.declared.Symbol.{Symbol}
use Rattle.au_lex.specs.declared.Symbol.TheVariants as sym
use Rattle.au_lex.specs.declared.Lexeme.{Lexeme}
use Rattle.au_lex.specs.declared.Lexeme.TheVariants as lex

-- the reserved words
abbrev pub keywords : List (List ℕ × Keyword)
keywords = (codes "SELECT", key.Select) ∷ (codes "DISTINCT", key.Distinct) ∷ (codes "ALL", key.All) ∷ (codes "FROM", key.From)
    ∷ (codes "WHERE", key.Where) ∷ (codes "GROUP", key.Group) ∷ (codes "BY", key.By) ∷ (codes "HAVING", key.Having)
    ∷ (codes "UNION", key.Union) ∷ (codes "EXCEPT", key.Except) ∷ (codes "AS", key.As) ∷ (codes "AND", key.And)
    ∷ (codes "OR", key.Or) ∷ (codes "NOT", key.Not) ∷ (codes "CASE", key.Case) ∷ (codes "WHEN", key.When)
    ∷ (codes "THEN", key.Then) ∷ (codes "ELSE", key.Else) ∷ (codes "END", key.End) ∷ (codes "TRUE", key.True)
    ∷ (codes "FALSE", key.False) ∷ []

-- the symbols
abbrev pub symbols : List (List ℕ × Symbol)
symbols = (codes "(", sym.Open) ∷ (codes ")", sym.Close) ∷ (codes ",", sym.Comma) ∷ (codes ".", sym.Dot) ∷ (codes "*", sym.Star)
    ∷ (codes "+", sym.Plus) ∷ (codes "-", sym.Minus) ∷ (codes "=", sym.Equal) ∷ (codes "<>", sym.Differs) ∷ (codes "!=", sym.Differs)
    ∷ (codes "<", sym.Less) ∷ (codes "<=", sym.AtMost) ∷ (codes ">", sym.Greater) ∷ (codes ">=", sym.AtLeast) ∷ (codes ";", sym.Semicolon) ∷ []

-- what a table has beside a text, in any ASCII case
abbrev pub entry_of : {A : Type 0} → List (List ℕ × A) → List ℕ → Option A
entry_of table text = option_map (λ entry. entry.1) (find (λ entry. str_eq_ignore_ascii_case entry.0 text) table)

-- whether a byte may begin a name, and whether it may stand in one
abbrev pub begins_name : ℕ → Bool
begins_name b = is_ascii_alphabetic b || (b == 95)

abbrev pub continues_name : ℕ → Bool
continues_name b = begins_name b || is_ascii_digit b

-- the quotes of a text and of a quoted name
abbrev pub single_quote : ℕ
single_quote = 39

abbrev pub double_quote : ℕ
double_quote = 34

-- the point of a fixed-point number
abbrev pub point : ℕ
point = 46

-- the digits behind a point that begins a text
abbrev pub fraction : List ℕ → List ℕ
fraction [] = []
fraction (b ∷ rest) = if b == point then take_while is_ascii_digit rest else []

-- how many bytes digits take together with the point before them, if there are any
abbrev pub fraction_length : List ℕ → ℕ
fraction_length [] = 0
fraction_length (d ∷ ds) = length (d ∷ ds) + 1

-- the digits that a text begins with, those behind a point that follows them, and how many bytes these are with it
abbrev pub whole_digits : List ℕ → List ℕ
whole_digits text = take_while is_ascii_digit text

abbrev pub fraction_digits : List ℕ → List ℕ
fraction_digits text = fraction (drop (prefix_len is_ascii_digit text) text)

abbrev pub number_length : List ℕ → ℕ
number_length text = prefix_len is_ascii_digit text + fraction_length (fraction_digits text)

-- the lexeme of the digits before and behind a point: a fixed-point number where there are some behind it
abbrev pub number_lexeme : List ℕ → List ℕ → Lexeme
number_lexeme whole [] = lex.Number (pos (digits_value 10 whole))
number_lexeme whole (d ∷ ds) = lex.Decimal (pos (digits_value 10 (whole ++ d ∷ ds))) (length (d ∷ ds))

-- how many digits may stand behind a point
abbrev pub is_scale : ℕ → Bool
is_scale digits = nat_lt 0 digits && nat_lt digits 10

-- whether a byte begins a name, a number, a text or a quoted name
abbrev pub begins_run : ℕ → Bool
begins_run b = begins_name b || is_ascii_digit b || (b == single_quote) || (b == double_quote)

-- the bytes before a quote that ends a text, a doubled quote read as one; after a quote that is not yet doubled: `after`
unfoldable pub unquoted : ℕ → Bool → List ℕ → Option (List ℕ)
unquoted q after [] = if after then Some [] else None
unquoted q true (b ∷ rest) = if b == q then option_map (λ text. q ∷ text) (unquoted q false rest) else None
unquoted q false (b ∷ rest) = elim (b == q) [ true ↦ unquoted q true rest | false ↦ option_map (λ text. b ∷ text) (unquoted q false rest) ]

-- the lexeme of a word
abbrev pub word_lexeme : List ℕ → Option Keyword → Lexeme
word_lexeme word None = lex.Name word
word_lexeme word (Some k) = lex.Key k

-- the symbol of a text
abbrev pub symbol_named : List ℕ → Option Symbol
symbol_named text = option_map (λ entry. entry.1) (find (λ entry. bytes_eq entry.0 text) symbols)

-- the lexeme that a text spells as a whole, by its first byte
abbrev pub spelled : List ℕ → Option Lexeme
spelled [] = None
spelled (b ∷ rest) =
    if begins_name b then (if list_all continues_name rest then Some (word_lexeme (b ∷ rest) (entry_of keywords (b ∷ rest))) else None)
    else if b == double_quote then option_map lex.Quoted (unquoted b false rest)
    else if b == single_quote then option_map lex.Text (unquoted b false rest)
    else if is_ascii_digit b then (if number_length (b ∷ rest) == length (b ∷ rest) then Some (number_lexeme (whole_digits (b ∷ rest)) (fraction_digits (b ∷ rest))) else None)
    else option_map lex.Symbol (symbol_named (b ∷ rest))

-- whether a whole text is a name
abbrev pub names : Option Lexeme → Bool
names (Some (lex.Name word)) = true
names _ = false

abbrev pub is_name : List ℕ → Bool
is_name text = names (spelled text)
