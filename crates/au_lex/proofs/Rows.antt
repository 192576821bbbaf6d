-- The definitions at some queries.
use Rattle.std.proofs.Common.{◌≡◌, ℕ, codes, refl, Ok, Err, [], ◌∷◌, pos}
use Rattle.au_lex.specs.declared.Lexeme.{Lexeme}
use Rattle.au_lex.specs.declared.Lexeme.TheVariants as lex
use Rattle.au_lex.specs.declared.Keyword.TheVariants as key
use Rattle.au_lex.specs.declared.Symbol.TheVariants as sym
use Rattle.au_lex.specs.declared.Token.{Token}
use Rattle.au_lex.specs.declared.LexFault.TheVariants.{BadChar, OpenText, BadNumber, TooManyTokens}
use Rattle.au_lex.specs.Lexemes.{unquoted}
use Rattle.au_lex.specs.Tokens.{tokens_of, tokens_from, longest, has_end, blank_length}

-- a token, by its place and its end
abbrev tok : ℕ → ℕ → Lexeme → Token
tok from to what = record { what = what; from = from; to = to }

left_difference : tokens_of (codes "SELECT a - b - c FROM t") ≡ Ok (
    tok 0 6 (lex.Key key.Select) ∷ tok 7 8 (lex.Name (codes "a")) ∷ tok 9 10 (lex.Symbol sym.Minus) ∷ tok 11 12 (lex.Name (codes "b"))
    ∷ tok 13 14 (lex.Symbol sym.Minus) ∷ tok 15 16 (lex.Name (codes "c")) ∷ tok 17 21 (lex.Key key.From) ∷ tok 22 23 (lex.Name (codes "t")) ∷ [])
unfolding unquoted tokens_from longest has_end blank_length
left_difference = refl

-- a doubled quote is one, `!=` is `<>`, a reserved word in any case, and blanks with comments
quotes_and_blanks : tokens_of (codes "'it''s'\t-- x'\n\"a\"\"b\"<=!=12 from_ FROM--") ≡ Ok (
    tok 0 7 (lex.Text (codes "it's")) ∷ tok 14 20 (lex.Quoted (codes "a\"b")) ∷ tok 20 22 (lex.Symbol sym.AtMost) ∷ tok 22 24 (lex.Symbol sym.Differs)
    ∷ tok 24 26 (lex.Number (pos 12)) ∷ tok 27 32 (lex.Name (codes "from_")) ∷ tok 33 37 (lex.Key key.From) ∷ [])
unfolding unquoted tokens_from longest has_end blank_length
quotes_and_blanks = refl

bad_char : tokens_of (codes "SELECT id ? 1 FROM orders") ≡ Err (BadChar 10)
unfolding unquoted tokens_from longest has_end blank_length
bad_char = refl

lone_mark : tokens_of (codes "a ! b") ≡ Err (BadChar 2)
unfolding unquoted tokens_from longest has_end blank_length
lone_mark = refl

open_text : tokens_of (codes "SELECT 'a") ≡ Err (OpenText 7)
unfolding unquoted tokens_from longest has_end blank_length
open_text = refl

-- the text goes on after a doubled quote
open_after_doubled : tokens_of (codes "SELECT 'a''") ≡ Err (OpenText 7)
unfolding unquoted tokens_from longest has_end blank_length
open_after_doubled = refl

letter_follows : tokens_of (codes "1 + 2x") ≡ Err (BadNumber 4)
unfolding unquoted tokens_from longest has_end blank_length
letter_follows = refl

too_great : tokens_of (codes "170141183460469231731687303715884105728") ≡ Err (BadNumber 0)
unfolding unquoted tokens_from longest has_end blank_length
too_great = refl

forty_digits : tokens_of (codes "x=0000000000000000000000000000000000000001") ≡ Err (BadNumber 2)
unfolding unquoted tokens_from longest has_end blank_length
forty_digits = refl

-- the limit, at two tokens
too_many : tokens_from 2 0 (codes "a b 'c") ≡ Err TooManyTokens
unfolding unquoted tokens_from longest has_end blank_length
too_many = refl

no_token_too_many : tokens_from 2 0 (codes "a b ?") ≡ Err (BadChar 4)
unfolding unquoted tokens_from longest has_end blank_length
no_token_too_many = refl

-- a long query
longer_query : tokens_from 64 0 (codes "SELECT city, SUM(amount) AS s FROM orders GROUP BY city HAVING SUM(amount) > 10 AND city <> 'Oslo, Nord' OR NOT TRUE")
    ≡ tokens_of (codes "select city, SUM(amount) as s from orders group by city having SUM(amount) > 10 and city != 'Oslo, Nord' or not true")
unfolding unquoted tokens_from longest has_end blank_length
longer_query = refl
