-- The tokens of a text, and the faults in their place.
use Rattle.std.specs.Prelude.{◌≡◌, ◌⊎◌, ◌<◌, ◌≤◌, ℕ, zero, suc, ◌+◌, ◌-◌, ◌^◌, ◌==◌, ◌&&◌, ◌||◌, Bool, IsTrue, true, false, not, List, [], ◌∷◌, ◌++◌, length, drop, take, Option, Some, None, Result, Ok, Err, if◌then◌else◌, nat_eq, nat_lt, slice_index, slice_range, codes}
use Rattle.std.specs.List.{starts_with}
use Rattle.std.specs.Char.{is_ascii_digit}
use Rattle.std.specs.Str.{IsUtf8}
use Rattle.std.specs.Str.Parse.{digits_value}
use Rattle.au_lex.specs.declared.Lexeme.{Lexeme}
use Rattle.au_lex.specs.declared.Lexeme.TheVariants.{Decimal}
use Rattle.au_lex.specs.declared.Token.{Token}
use Rattle.au_lex.specs.declared.LexFault.{LexFault}
use Rattle.au_lex.specs.declared.LexFault.TheVariants.{BadChar, OpenText, BadNumber, TooManyTokens}
use Rattle.au_lex.specs.Lexemes.{spelled, single_quote, double_quote, begins_name, is_scale, whole_digits, fraction_digits, number_length}

-- space, tab, line feed and carriage return
abbrev pub is_space : ℕ → Bool
is_space b = (b == 32) || (b == 9) || (b == 10) || (b == 13)

-- whether the bytes behind a text's first are in a comment, if the first is blank: a comment ends with its line
abbrev pub after_blank : Bool → List ℕ → Option Bool
after_blank inside [] = None
after_blank true (b ∷ rest) = Some (not (b == 10))
after_blank false (b ∷ rest) = if is_space b then Some false else if starts_with nat_eq (b ∷ rest) (codes "--") then Some true else None

-- how many bytes of blanks a text begins with, `inside` a comment or not
unfoldable pub blank_length : Bool → List ℕ → ℕ
blank_length inside [] = 0
blank_length inside (b ∷ rest) = elim (after_blank inside (b ∷ rest)) [ Some now_inside ↦ blank_length now_inside rest + 1 | None ↦ 0 ]

-- whether a quote that stands alone is among these bytes, doubled ones passed; after a quote that is not yet doubled: `after`
unfoldable pub has_end : ℕ → Bool → List ℕ → Bool
has_end q after [] = after
has_end q true (b ∷ rest) = elim (b == q) [ true ↦ has_end q false rest | false ↦ true ]
has_end q false (b ∷ rest) = has_end q (b == q) rest

-- whether a text or a quoted name begins here and has no end
abbrev pub is_unclosed : List ℕ → Bool
is_unclosed [] = false
is_unclosed (b ∷ rest) = ((b == single_quote) || (b == double_quote)) && not (has_end b false rest)

-- whether digits begin here, perhaps with a point among them, that are too many, too many behind the point or too great, or run into a letter or `_`
abbrev pub is_bad_number : List ℕ → Bool
is_bad_number text =
    let whole = whole_digits text in
    let fraction = fraction_digits text in
    nat_lt 0 (length whole)
    && (nat_lt 39 (length (whole ++ fraction)) || nat_lt 9 (length fraction) || nat_lt (2 ^ 127 - 1) (digits_value 10 (whole ++ fraction))
    || begins_name (slice_index text (number_length text)))

-- the longest front of a text, of n bytes at most, that spells a lexeme: its length and the lexeme
abbrev pub or_shorter : ℕ → Option Lexeme → Option (ℕ × Lexeme) → Option (ℕ × Lexeme)
or_shorter n (Some what) shorter = Some (n, what)
or_shorter n None shorter = shorter

unfoldable pub longest : ℕ → List ℕ → Option (ℕ × Lexeme)
longest zero text = None
longest (suc n) text = or_shorter (suc n) (spelled (take (suc n) text)) (longest n text)

-- the token or the fault of a place: whether a text is open here, whether a number is bad, and the longest lexeme
abbrev pub token_or_fault : ℕ → Bool → Bool → Option (ℕ × Lexeme) → Result (ℕ × Lexeme) LexFault
token_or_fault at true bad found = Err (OpenText at)
token_or_fault at false true found = Err (BadNumber at)
token_or_fault at false false None = Err (BadChar at)
token_or_fault at false false (Some found) = Ok found

-- the length and the lexeme of the token that begins here, or the fault, of a place
abbrev pub token_at : ℕ → List ℕ → Result (ℕ × Lexeme) LexFault
token_at at text = token_or_fault at (is_unclosed text) (is_bad_number text) (longest (length text) text)

-- a token is found here: its length and its lexeme; its last byte is ASCII
pub record Finds (at : ℕ) (text : List ℕ) (count : ℕ) (what : Lexeme) : Type 0 where
  pub is : token_at at text ≡ Ok (count, what)
  pub some : 0 < count
  pub within : count ≤ length text
  pub ascii : slice_index text (count - 1) < 128

-- a byte that begins a text or a quoted name, and one that begins neither these nor a name or a number
abbrev pub IsQuote : ℕ → Type 0
IsQuote b = (b ≡ single_quote) ⊎ (b ≡ double_quote)

abbrev pub IsOther : ℕ → Type 0
IsOther b = (begins_name b ≡ false) × (is_ascii_digit b ≡ false) × ((b == double_quote) ≡ false) × ((b == single_quote) ≡ false)

-- a token before others, or the fault in their place
abbrev pub token_then : Token → Result (List Token) LexFault → Result (List Token) LexFault
token_then t (Ok ts) = Ok (t ∷ ts)
token_then t (Err fault) = Err fault

-- the token that was found at a place, and the tokens behind it
abbrev pub token_step : (ℕ → List ℕ → Result (List Token) LexFault) → ℕ → List ℕ → Result (ℕ × Lexeme) LexFault → Result (List Token) LexFault
token_step more at text (Err fault) = Err fault
token_step more at text (Ok found) = token_then (record { what = found.1; from = at; to = at + found.0 }) (more (at + found.0) (drop found.0 text))

-- the tokens of a text that begins with none of the blanks
abbrev pub tokens_at : (ℕ → List ℕ → Result (List Token) LexFault) → ℕ → List ℕ → Result (List Token) LexFault
tokens_at more at [] = Ok []
tokens_at more at (b ∷ rest) = token_step more at (b ∷ rest) (token_at at (b ∷ rest))

-- the fault where no more tokens may come: what begins no token is refused as ever, and what begins one is one too many
abbrev pub one_too_many : Result (ℕ × Lexeme) LexFault → LexFault
one_too_many (Err (BadChar at)) = BadChar at
one_too_many _ = TooManyTokens

abbrev pub none_may_come : ℕ → List ℕ → Result (List Token) LexFault
none_may_come at [] = Ok []
none_may_come at (b ∷ rest) = Err (one_too_many (token_at at (b ∷ rest)))

-- the tokens of a text that begins at a place of the query and may still have so many, or the first fault
unfoldable pub tokens_from : ℕ → ℕ → List ℕ → Result (List Token) LexFault
tokens_from zero at text = none_may_come (at + blank_length false text) (drop (blank_length false text) text)
tokens_from (suc left) at text = tokens_at (tokens_from left) (at + blank_length false text) (drop (blank_length false text) text)

-- the tokens of a query, or the first fault from the left
abbrev pub tokens_of : List ℕ → Result (List Token) LexFault
tokens_of text = tokens_from 4096 0 text

-- the spans of tokens from a place on: in order, and each token is what its slice of the text spells
abbrev pub Spans : List ℕ → ℕ → List Token → Type 0
Spans text from [] = Unit {0}
Spans text from (t ∷ ts) = (from ≤ t.from) × (t.from < t.to) × (t.to ≤ length text) × (spelled (slice_range text t.from t.to) ≡ Some t.what) × Spans text t.to ts

-- 1 to 9 digits stand behind each point
abbrev pub HasScale : Lexeme → Type 0
HasScale (Decimal n digits) = IsTrue (is_scale digits)
HasScale _ = Unit {0}

abbrev pub HaveScales : List Token → Type 0
HaveScales [] = Unit {0}
HaveScales (t ∷ ts) = HasScale t.what × HaveScales ts

-- tokens that stand before others, or the fault in their place
abbrev pub tokens_then : List Token → Result (List Token) LexFault → Result (List Token) LexFault
tokens_then ts (Ok others) = Ok (ts ++ others)
tokens_then ts (Err fault) = Err fault

-- these many bytes are blanks and this token, and the tokens of what is left follow it
pub record GoesOn (room at : ℕ) (text : List ℕ) (token : Token) (passed : ℕ) : Type 0 where
  pub may : 0 < room
  pub some : 0 < passed
  pub within : passed ≤ length text
  pub utf8 : IsUtf8 (drop passed text)
  pub tokens : tokens_from room at text ≡ token_then token (tokens_from (room - 1) (at + passed) (drop passed text))
