-- The spans of the tokens of a text.
use Rattle.std.proofs.Common.{◌≡◌, ℕ, zero, suc, ◌+◌, ◌-◌, ◌≤◌, ◌<◌, Bool, true, false, List, [], ◌∷◌, length, take, drop, Some, None, Ok, Err, refl, sym, ap, ◌∙◌, subst, arith, length-drop}
use Rattle.std.proofs.lemmas.List.{drop-drop}
use Rattle.std.specs.Prelude.{Option, Result}
use Rattle.au_lex.specs.declared.Lexeme.{Lexeme}
use Rattle.au_lex.specs.declared.Token.{Token}
use Rattle.au_lex.specs.declared.LexFault.{LexFault}
use Rattle.au_lex.specs.Lexemes.{spelled}
use Rattle.au_lex.specs.Tokens.{longest, or_shorter, token_at, token_or_fault, token_step, token_then, tokens_at, tokens_from, tokens_of, none_may_come, blank_length, is_unclosed, is_bad_number, Spans}

-- the longest lexeme is the lexeme of a front
pub record IsLexeme (text : List ℕ) (n : ℕ) (found : ℕ × Lexeme) : Type 0 where
  pub some : 0 < found.0
  pub within : found.0 ≤ n
  pub spells : spelled (take found.0 text) ≡ Some found.1

longest_step : (n : ℕ) (text : List ℕ) (here : Option Lexeme) (shorter : Option (ℕ × Lexeme)) (found : ℕ × Lexeme) → spelled (take (suc n) text) ≡ here
    → (shorter ≡ Some found → IsLexeme text n found) → or_shorter (suc n) here shorter ≡ Some found → IsLexeme text (suc n) found
longest_step n text None shorter found here_is more is = let less : IsLexeme text n found = more is in record { some = less.some; within = omega (arith, less.within); spells = less.spells }
longest_step n text (Some what) shorter found here_is more is =
    let e : (suc n, what) ≡ found = cc in
    subst (IsLexeme text (suc n)) e (record { some = omega arith; within = omega arith; spells = here_is })

longest_lexeme : (n : ℕ) (text : List ℕ) (found : ℕ × Lexeme) → longest n text ≡ Some found → IsLexeme text n found
unfolding longest
longest_lexeme zero text found is = cc
longest_lexeme (suc n) text found is = longest_step n text _ _ found refl (longest_lexeme n text found) is

pub is_found : (at : ℕ) (whole bad : Bool) (here : Option (ℕ × Lexeme)) (found : ℕ × Lexeme) → token_or_fault at whole bad here ≡ Ok found → here ≡ Some found
is_found at true bad here found is = cc
is_found at false true here found is = cc
is_found at false false None found is = cc
is_found at false false (Some x) found is = cc

pub token_lexeme : (at : ℕ) (text : List ℕ) (found : ℕ × Lexeme) → token_at at text ≡ Ok found → IsLexeme text (length text) found
token_lexeme at text found is = longest_lexeme (length text) text found (is_found at (is_unclosed text) (is_bad_number text) _ found is)

-- the tokens behind a place of the text
module _ (text : List ℕ) where
  abbrev FromHere : (ℕ → List ℕ → Result (List Token) LexFault) → Type 0
  FromHere more = (at : ℕ) (ts : List Token) → at ≤ length text → more at (drop at text) ≡ Ok ts → Spans text at ts

  rest_step : (place at n : ℕ) (what : Lexeme) (rest : Result (List Token) LexFault) (ts : List Token) → place ≤ at → 0 < n → at + n ≤ length text → spelled (take n (drop at text)) ≡ Some what
      → ((us : List Token) → rest ≡ Ok us → Spans text (at + n) us)
      → token_then (record { what = what; from = at; to = at + n }) rest ≡ Ok ts → Spans text place ts
  rest_step place at n what (Err e) ts low some within spells more is = cc
  rest_step place at n what (Ok us) ts low some within spells more is =
      let e : record { what = what; from = at; to = at + n } ∷ us ≡ ts = cc in
      let k : at + n - at ≡ n = omega arith in
      subst (Spans text place) e (low, omega arith, within, rw k spells, more us refl)

  found_step : (place at : ℕ) (more : ℕ → List ℕ → Result (List Token) LexFault) (found : Result (ℕ × Lexeme) LexFault) (ts : List Token) → place ≤ at → at ≤ length text → FromHere more
      → token_at at (drop at text) ≡ found → token_step more at (drop at text) found ≡ Ok ts → Spans text place ts
  found_step place at more (Err e) ts low within next found_is is = cc
  found_step place at more (Ok found) ts low within next found_is is =
      let lexeme : IsLexeme (drop at text) (length (drop at text)) found = token_lexeme at (drop at text) found found_is in
      let fits : at + found.0 ≤ length text = omega (arith, lexeme.within, length-drop at text) in
      rest_step place at found.0 found.1 _ ts low lexeme.some fits lexeme.spells
      (λ us us_is. next (at + found.0) us fits (ap (more (at + found.0)) (sym (drop-drop found.0 at text)) ∙ us_is)) is

  at_step : (place at : ℕ) (more : ℕ → List ℕ → Result (List Token) LexFault) (rest : List ℕ) (ts : List Token) → place ≤ at → FromHere more
      → rest ≡ drop at text → tokens_at more at rest ≡ Ok ts → Spans text place ts
  at_step place at more [] ts low next rest_is is = let e : [] ≡ ts = cc in subst (Spans text place) e tt
  at_step place at more (b ∷ rest) ts low next rest_is is =
      let within : at ≤ length text = omega (arith, ap length rest_is, length-drop at text) in
      found_step place at more (token_at at (drop at text)) ts low within next refl (ap (λ xs. token_step more at xs (token_at at xs)) (sym rest_is) ∙ is)

  none_step : (place at : ℕ) (rest : List ℕ) (ts : List Token) → none_may_come at rest ≡ Ok ts → Spans text place ts
  none_step place at [] ts is = let e : [] ≡ ts = cc in subst (Spans text place) e tt
  none_step place at (b ∷ rest) ts is = cc

  spans_from : (room : ℕ) → FromHere (tokens_from room)
  unfolding tokens_from
  spans_from zero at ts within is = none_step at _ _ ts is
  spans_from (suc room) at ts within is =
      let gap = blank_length false (drop at text) in
      at_step at (at + gap) (tokens_from room) (drop gap (drop at text)) ts (omega arith) (spans_from room) (drop-drop gap at text) is

pub spans : (text : List ℕ) (ts : List Token) → tokens_of text ≡ Ok ts → Spans text 0 ts
spans text ts is = spans_from text 4096 0 ts (omega arith) is
