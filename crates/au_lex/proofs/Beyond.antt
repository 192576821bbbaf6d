-- Where no more tokens may come, whatever begins a token is one too many.
use Rattle.std.proofs.Common.{◌≡◌, ℕ, ◌<◌, ◌||◌, Bool, true, false, List, ◌∷◌, length, Some, None, refl, ap, arith}
use Rattle.std.specs.Prelude.{◌==◌, Option, slice_index}
use Rattle.std.proofs.lemmas.Bool.{eqb-true}
use Rattle.std.specs.Char.{is_ascii_digit}
use Rattle.au_lex.specs.declared.Lexeme.{Lexeme}
use Rattle.au_lex.specs.declared.Lexeme.TheVariants as lex
use Rattle.au_lex.specs.declared.Symbol.{Symbol}
use Rattle.au_lex.specs.declared.LexFault.TheVariants.{BadChar, TooManyTokens}
use Rattle.au_lex.specs.Lexemes.{begins_name, begins_run}
use Rattle.au_lex.specs.Tokens.{token_at, token_or_fault, one_too_many, is_unclosed, is_bad_number, IsOther}
use Rattle.au_lex.specs.Fronts.{quoted_front, symbol_front}
use Rattle.au_lex.proofs.Longest.{name_longest}
use Rattle.au_lex.proofs.Numbers.{digits_longest}
use Rattle.au_lex.proofs.Quotes.{IsKind, single_kind, double_kind, quote_found, quote_open}
use Rattle.au_lex.proofs.Symbols.{symbol_found, symbol_none}

begins_one : (at : ℕ) (whole bad : Bool) (found : ℕ × Lexeme) → one_too_many (token_or_fault at whole bad (Some found)) ≡ TooManyTokens
begins_one at true bad found = refl
begins_one at false true found = refl
begins_one at false false found = refl

word_begins : (at b : ℕ) (rest : List ℕ) → begins_name b ≡ true → one_too_many (token_at at (b ∷ rest)) ≡ TooManyTokens
word_begins at b rest is = rw (name_longest b rest is) (begins_one at (is_unclosed (b ∷ rest)) (is_bad_number (b ∷ rest)) _)

number_begins : (at b : ℕ) (rest : List ℕ) → is_ascii_digit b ≡ true → one_too_many (token_at at (b ∷ rest)) ≡ TooManyTokens
number_begins at b rest is = rw (digits_longest b rest is) (begins_one at (is_unclosed (b ∷ rest)) (is_bad_number (b ∷ rest)) _)

quote_begins : (at q : ℕ) (kind : List ℕ → Lexeme) (rest : List ℕ) → IsKind q kind → (found : Option (ℕ × List ℕ)) → quoted_front q false rest ≡ found → one_too_many (token_at at (q ∷ rest)) ≡ TooManyTokens
quote_begins at q kind rest is None none = ap one_too_many (quote_open at q kind rest is none)
quote_begins at q kind rest is (Some f) found = ap one_too_many ((quote_found at q kind rest f.0 f.1 is found).is)

run_by : (at b : ℕ) (rest : List ℕ) (name digit single double : Bool) → begins_name b ≡ name → is_ascii_digit b ≡ digit → (b == 39) ≡ single → (b == 34) ≡ double
    → (name || digit || single || double) ≡ true → one_too_many (token_at at (b ∷ rest)) ≡ TooManyTokens
run_by at b rest true digit single double n d s q is = word_begins at b rest n
run_by at b rest false true single double n d s q is = number_begins at b rest d
run_by at b rest false false true double n d s q is = let e : b ≡ 39 = eqb-true b 39 s in rw e (quote_begins at 39 lex.Text rest single_kind _ refl)
run_by at b rest false false false true n d s q is = let e : b ≡ 34 = eqb-true b 34 q in rw e (quote_begins at 34 lex.Quoted rest double_kind _ refl)
run_by at b rest false false false false n d s q is = cc

other_by : (b : ℕ) (name digit single double : Bool) → begins_name b ≡ name → is_ascii_digit b ≡ digit → (b == 39) ≡ single → (b == 34) ≡ double
    → (name || digit || single || double) ≡ false → IsOther b
other_by b false false false false n d s q is = (n, d, q, s)
other_by b true digit single double n d s q is = cc
other_by b false true single double n d s q is = cc
other_by b false false true double n d s q is = cc
other_by b false false false true n d s q is = cc

pub run_begins : (at b : ℕ) (text rest : List ℕ) → text ≡ b ∷ rest → begins_run b ≡ true → one_too_many (token_at at text) ≡ TooManyTokens
run_begins at b text rest text_is is = rw text_is (run_by at b rest _ _ _ _ refl refl refl refl is)

is_other : (b : ℕ) (text rest : List ℕ) → text ≡ b ∷ rest → begins_run b ≡ false → IsOther (slice_index text 0)
is_other b text rest text_is is = rw text_is (other_by b _ _ _ _ refl refl refl refl is)

pub symbol_begins : (at b : ℕ) (text rest : List ℕ) (found : ℕ × Symbol) → text ≡ b ∷ rest → begins_run b ≡ false → symbol_front text ≡ Some found → one_too_many (token_at at text) ≡ TooManyTokens
symbol_begins at b text rest found text_is is some =
    let long : 0 < length text = omega (arith, ap length text_is) in
    ap one_too_many ((symbol_found at text found.0 found.1 long (is_other b text rest text_is is) some).is)

pub nothing_begins : (at b : ℕ) (text rest : List ℕ) → text ≡ b ∷ rest → begins_run b ≡ false → symbol_front text ≡ None → one_too_many (token_at at text) ≡ BadChar at
nothing_begins at b text rest text_is is none =
    let long : 0 < length text = omega (arith, ap length text_is) in
    ap one_too_many (symbol_none at text long (is_other b text rest text_is is) none)
