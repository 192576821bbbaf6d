-- The tokens of a text, token by token.
use Rattle.std.proofs.Common.{◌≡◌, ℕ, zero, suc, ◌+◌, ◌-◌, ◌<◌, false, List, [], ◌∷◌, ◌++◌, length, drop, Ok, Err, refl, arith, sym, ap, ◌∙◌, append_assoc}
use Rattle.std.proofs.Common.{add_assoc}
use Rattle.std.proofs.lemmas.List.{drop-drop}
use native.Mathlib.Numerals.{unary_clauses}
use Rattle.std.specs.Prelude.{Result}
use Rattle.au_lex.specs.declared.Lexeme.{Lexeme}
use Rattle.au_lex.specs.declared.Token.{Token}
use Rattle.au_lex.specs.declared.LexFault.{LexFault}
use Rattle.au_lex.specs.Tokens.{tokens_from, token_at, token_then, token_step, tokens_at, tokens_then, blank_length, none_may_come, one_too_many}

pub at_end : (room at : ℕ) (text : List ℕ) → length (drop (blank_length false text) text) ≡ 0 → tokens_from room at text ≡ Ok []
unfolding tokens_from
at_end zero at text is = ended (drop (blank_length false text) text) is
  where
    ended : (xs : List ℕ) → length xs ≡ 0 → none_may_come (at + blank_length false text) xs ≡ Ok []
    ended [] is = refl
    ended (x ∷ xs) is = absurd (omega arith)
at_end (suc room) at text is = ended (drop (blank_length false text) text) is
  where
    ended : (xs : List ℕ) → length xs ≡ 0 → tokens_at (tokens_from room) (at + blank_length false text) xs ≡ Ok []
    ended [] is = refl
    ended (x ∷ xs) is = absurd (omega arith)

pub too_many : (at : ℕ) (text : List ℕ) → 0 < length (drop (blank_length false text) text)
    → tokens_from 0 at text ≡ Err (one_too_many (token_at (at + blank_length false text) (drop (blank_length false text) text)))
unfolding tokens_from
too_many at text more = left (drop (blank_length false text) text) more
  where
    left : (xs : List ℕ) → 0 < length xs → none_may_come (at + blank_length false text) xs ≡ Err (one_too_many (token_at (at + blank_length false text) xs))
    left [] more = absurd (omega arith)
    left (x ∷ xs) more = refl

step_at : (more : ℕ → List ℕ → Result (List Token) LexFault) (at : ℕ) (xs : List ℕ) → 0 < length xs → tokens_at more at xs ≡ token_step more at xs (token_at at xs)
step_at more at [] some = absurd (omega arith)
step_at more at (x ∷ xs) some = refl

-- where a token may still come, it is the one that begins behind the blanks
pub next_is : (room at : ℕ) (text : List ℕ) → 0 < room → 0 < length (drop (blank_length false text) text)
    → tokens_from room at text
    ≡ token_step (tokens_from (room - 1)) (at + blank_length false text) (drop (blank_length false text) text) (token_at (at + blank_length false text) (drop (blank_length false text) text))
unfolding tokens_from
next_is zero at text may some = absurd (omega arith)
next_is (suc room) at text may some = simp unary_clauses (step_at (tokens_from room) (at + blank_length false text) (drop (blank_length false text) text) some)

-- a token joins those before it
pub tokens_then-token : (ts : List Token) (t : Token) (more : Result (List Token) LexFault) → tokens_then ts (token_then t more) ≡ tokens_then (ts ++ t ∷ []) more
tokens_then-token ts t (Ok others) = ap (λ xs. Ok xs) (sym (append_assoc ts (t ∷ []) others))
tokens_then-token ts t (Err fault) = refl

-- What a token's call has found: the blanks, what is behind them, and the answer of the lexeme's call.
module _ (room at gap : ℕ) (text rest : List ℕ) (gap_is : gap ≡ blank_length false text) (rest_is : rest ≡ drop gap text) where
  pub ended : length rest ≡ 0 → tokens_from room at text ≡ Ok []
  ended is = at_end room at text (rw (← gap_is, ← rest_is) is)

  pub full : room ≡ 0 → 0 < length rest → tokens_from room at text ≡ Err (one_too_many (token_at (at + gap) rest))
  full is some = rw is (too_many at text (rw (← gap_is, ← rest_is) some) ∙ rw (← gap_is, ← rest_is))

  next_here : 0 < room → 0 < length rest → tokens_from room at text ≡ token_step (tokens_from (room - 1)) (at + gap) rest (token_at (at + gap) rest)
  next_here may some = next_is room at text may (rw (← gap_is, ← rest_is) some) ∙ rw (← gap_is, ← rest_is)

  pub faulty : (fault : LexFault) → 0 < room → 0 < length rest → token_at (at + gap) rest ≡ Err fault → tokens_from room at text ≡ Err fault
  faulty fault may some is = next_here may some ∙ ap (token_step (tokens_from (room - 1)) (at + gap) rest) is

  pub goes : (len : ℕ) (what : Lexeme) → 0 < room → 0 < length rest → token_at (at + gap) rest ≡ Ok (len, what)
      → tokens_from room at text ≡ token_then (record { what = what; from = at + gap; to = at + gap + len }) (tokens_from (room - 1) (at + (gap + len)) (drop (gap + len) text))
  goes len what may some is =
      next_here may some ∙ ap (token_step (tokens_from (room - 1)) (at + gap) rest) is ∙ rw (rest_is, drop-drop, ← add_assoc)
