-- Behind the point of each number that is a token stand 1 to 9 digits.
use Rattle.std.proofs.Common.{◌≡◌, ℕ, zero, suc, ◌+◌, ◌<◌, ◌||◌, Bool, true, false, List, [], ◌∷◌, length, take, drop, Some, None, Ok, Err, refl, sym, ◌∙◌, subst, arith}
use Rattle.std.specs.Prelude.{◌==◌, Option, Result, IfSome, option_map, if◌then◌else◌, nat_lt}
use Rattle.std.proofs.lemmas.Bool.Decides.{nat_tests}
use Rattle.std.specs.Char.{is_ascii_digit}
use Rattle.au_lex.specs.declared.Keyword.{Keyword}
use Rattle.au_lex.specs.declared.Lexeme.{Lexeme}
use Rattle.au_lex.specs.declared.Lexeme.TheVariants as lex
use Rattle.au_lex.specs.declared.LexFault.{LexFault}
use Rattle.au_lex.specs.declared.Token.{Token}
use Rattle.au_lex.specs.Lexemes.{begins_name, fraction_digits, number_lexeme, spelled, symbol_named, unquoted, whole_digits, word_lexeme, entry_of, keywords}
use Rattle.au_lex.specs.Tokens.{HasScale, HaveScales, blank_length, is_bad_number, is_unclosed, longest, none_may_come, token_at, token_or_fault, token_step, token_then, tokens_at, tokens_from, tokens_of}
use Rattle.au_lex.proofs.Numbers.{digits_longest, bad_is}
use Rattle.au_lex.proofs.Spans.{IsLexeme, is_found, token_lexeme}

-- what begins with no digit
abbrev Scaled : Option Lexeme → Type 0
Scaled found = IfSome found HasScale

scaled_map : {A : Type 0} (f : A → Lexeme) → ((x : A) → HasScale (f x)) → (o : Option A) → Scaled (option_map f o)
scaled_map f is None = tt
scaled_map f is (Some x) = is x

scaled_word : (all : Bool) (word : List ℕ) (key : Option Keyword) → Scaled (if all then Some (word_lexeme word key) else None)
scaled_word false word key = tt
scaled_word true word None = tt
scaled_word true word (Some k) = tt

scaled_other : (b : ℕ) (rest : List ℕ) (name double single : Bool) → begins_name b ≡ name → (b == 34) ≡ double → (b == 39) ≡ single → is_ascii_digit b ≡ false → Scaled (spelled (b ∷ rest))
scaled_other b rest true double single n d s other = rw n (scaled_word _ (b ∷ rest) (entry_of keywords (b ∷ rest)))
scaled_other b rest false true single n d s other = rw (n, d) (scaled_map lex.Quoted (λ w. tt) (unquoted b false rest))
scaled_other b rest false false true n d s other = rw (n, d, s) (scaled_map lex.Text (λ w. tt) (unquoted b false rest))
scaled_other b rest false false false n d s other = rw (n, d, s, other) (scaled_map lex.Symbol (λ w. tt) (symbol_named (b ∷ rest)))

-- a number that is not bad
scaled_number : (whole fraction : List ℕ) → nat_lt 9 (length fraction) ≡ false → HasScale (number_lexeme whole fraction)
scaled_number whole [] few = tt
scaled_number whole (d ∷ ds) few = grind (arith, nat_tests)

few_of : (a b c d : Bool) → (a || b || c || d) ≡ false → b ≡ false
few_of false false c d is = refl
few_of false true c d is = cc
few_of true b c d is = cc

not_bad : (at : ℕ) (whole bad : Bool) (here : Option (ℕ × Lexeme)) (found : ℕ × Lexeme) → token_or_fault at whole bad here ≡ Ok found → bad ≡ false
not_bad at true bad here found is = cc
not_bad at false true here found is = cc
not_bad at false false here found is = refl

same_found : (x y : ℕ × Lexeme) → Some x ≡ Some y → x.1 ≡ y.1
same_found x y is = cc

scaled_front : (b n : ℕ) (rest : List ℕ) (what : Lexeme) → 0 < n → is_ascii_digit b ≡ false → spelled (take n (b ∷ rest)) ≡ Some what → HasScale what
scaled_front b zero rest what some other is = absurd (omega arith)
scaled_front b (suc n) rest what some other is = subst Scaled is (scaled_other b (take n rest) _ _ _ refl refl refl other)

scaled_token : (at : ℕ) (text : List ℕ) (found : ℕ × Lexeme) → token_at at text ≡ Ok found → HasScale found.1
scaled_token at [] found is = let lexeme : IsLexeme [] 0 found = token_lexeme at [] found is in absurd (omega (arith, lexeme.some, lexeme.within))
scaled_token at (b ∷ rest) found is = by_digit (is_ascii_digit b) refl
  where
    by_digit : (v : Bool) → is_ascii_digit b ≡ v → HasScale found.1
    by_digit false other =
        let lexeme : IsLexeme (b ∷ rest) (length (b ∷ rest)) found = token_lexeme at (b ∷ rest) found is in
        scaled_front b found.0 rest found.1 lexeme.some other lexeme.spells
    by_digit true digit =
        let here : longest (suc (length rest)) (b ∷ rest) ≡ Some found = is_found at (is_unclosed (b ∷ rest)) (is_bad_number (b ∷ rest)) _ found is in
        let good : is_bad_number (b ∷ rest) ≡ false = not_bad at (is_unclosed (b ∷ rest)) (is_bad_number (b ∷ rest)) _ found is in
        let few : nat_lt 9 (length (fraction_digits (b ∷ rest))) ≡ false = few_of _ _ _ _ (sym (bad_is b rest digit) ∙ good) in
        subst HasScale (same_found _ found (sym (digits_longest b rest digit) ∙ here)) (scaled_number (whole_digits (b ∷ rest)) (fraction_digits (b ∷ rest)) few)

-- all tokens of a text
abbrev Gives : (ℕ → List ℕ → Result (List Token) LexFault) → Type 0
Gives more = (at : ℕ) (text : List ℕ) (ts : List Token) → more at text ≡ Ok ts → HaveScales ts

rest_step : (t : Token) (rest : Result (List Token) LexFault) (ts : List Token) → HasScale t.what → ((us : List Token) → rest ≡ Ok us → HaveScales us) → token_then t rest ≡ Ok ts → HaveScales ts
rest_step t (Err e) ts scale more is = cc
rest_step t (Ok us) ts scale more is = let e : t ∷ us ≡ ts = cc in subst HaveScales e (scale, more us refl)

found_step : (more : ℕ → List ℕ → Result (List Token) LexFault) (at : ℕ) (text : List ℕ) (found : Result (ℕ × Lexeme) LexFault) (ts : List Token) → Gives more
    → token_at at text ≡ found → token_step more at text found ≡ Ok ts → HaveScales ts
found_step more at text (Err e) ts next found_is is = cc
found_step more at text (Ok found) ts next found_is is =
    rest_step (record { what = found.1; from = at; to = at + found.0 }) _ ts (scaled_token at text found found_is) (next (at + found.0) (drop found.0 text)) is

at_step : (more : ℕ → List ℕ → Result (List Token) LexFault) → Gives more → Gives (tokens_at more)
at_step more next at [] ts is = let e : [] ≡ ts = cc in subst HaveScales e tt
at_step more next at (b ∷ rest) ts is = found_step more at (b ∷ rest) (token_at at (b ∷ rest)) ts next refl is

none_step : Gives none_may_come
none_step at [] ts is = let e : [] ≡ ts = cc in subst HaveScales e tt
none_step at (b ∷ rest) ts is = cc

scales_from : (room : ℕ) → Gives (tokens_from room)
unfolding tokens_from
scales_from zero at text ts is = none_step (at + blank_length false text) (drop (blank_length false text) text) ts is
scales_from (suc room) at text ts is = at_step (tokens_from room) (scales_from room) (at + blank_length false text) (drop (blank_length false text) text) ts is

pub scales : (text : List ℕ) (ts : List Token) → tokens_of text ≡ Ok ts → HaveScales ts
scales text ts is = scales_from 4096 0 text ts is
