-- Why the text of a query is not read, from why its tokens or its statement are not.
use Rattle.std.proofs.Common.{◌≡◌, ◌≤◌, ◌<◌, ◌⊎◌, inl, inr, ℕ, true, false, List, None, Ok, Err, refl, sym, ◌∙◌, ap, subst, arith, length}
use Rattle.std.specs.Prelude.{nat_lt}
use Rattle.au_lex.specs.declared.Token.{Token}
use Rattle.au_lex.specs.declared.LexFault.{LexFault}
use Rattle.au_lex.specs.declared.LexFault.TheVariants as lex
use Rattle.au_lex.specs.Tokens.{tokens_of}
use Rattle.au_parse.specs.declared.ParseFault.{ParseFault}
use Rattle.au_parse.specs.declared.ParseFault.TheVariants as fault
use Rattle.au_parse.specs.Parsing as parsing
use Rattle.au_engine.specs.declared.faults.EngineFault.{EngineFault}
use Rattle.au_engine.specs.declared.faults.EngineFault.TheVariants as engine
use Rattle.au_engine.specs.declared.faults.LimitFault.TheVariants as limit
use Rattle.au_value.specs.Texts.{Text}
use Rattle.au_engine.specs.Reading.{IsRefusalIn, TextCause, TokensCause, greatest_length, refused_text, refused_tokens, token_fault, parse_fault}
use Rattle.au_engine.specs.Reading.TextRefusal.{exactly, no_statement}

pub parsed_cause : (n : ℕ) (tokens : List Token) (f : ParseFault) → parsing.HasCause n tokens f → TokensCause n tokens (parse_fault f)
parsed_cause n tokens (fault.Syntax at) h = inr (no_statement, rw (h.0, h.1), (at, refl, h.2))
parsed_cause n tokens fault.NoMemory h = inl refl
parsed_cause n tokens (fault.TooDeep at) h = inr (exactly _, rw h, refl)
parsed_cause n tokens (fault.TooManyFrom at) h = inr (exactly _, rw h, refl)
parsed_cause n tokens (fault.TooManyItems at) h = inr (exactly _, rw h, refl)

-- a text within the length is refused by its tokens
within : (text : Text) → length text ≤ greatest_length → refused_text text ≡ refused_tokens (length text) (tokens_of text)
within text short = let e : nat_lt greatest_length (length text) ≡ false = grind arith in rw e

pub allowed_text : (text : Text) (tokens : List Token) → length text ≤ greatest_length → tokens_of text ≡ Ok tokens → refused_tokens (length text) (Ok tokens) ≡ None → refused_text text ≡ None
allowed_text text tokens short e h = within text short ∙ ap (refused_tokens (length text)) e ∙ h

pub long_cause : (text : Text) → greatest_length < length text → TextCause text (engine.Limit (limit.QueryLength (length text)))
long_cause text long = let e : nat_lt greatest_length (length text) ≡ true = grind arith in inr (exactly _, rw e, refl)

pub lexed_cause : (text : Text) (f : LexFault) → length text ≤ greatest_length → (f ≡ lex.NoMemory) ⊎ (tokens_of text ≡ Err f) → TextCause text (token_fault f)
lexed_cause text f short h = elim h [ inl e ↦ inl (ap token_fault e) | inr e ↦ inr (exactly (token_fault f), within text short ∙ ap (refused_tokens (length text)) e, refl) ]

pub tokens_cause : (text : Text) (tokens : List Token) (o : EngineFault) → length text ≤ greatest_length → tokens_of text ≡ Ok tokens → TokensCause (length text) tokens o → TextCause text o
tokens_cause text tokens o short e h = elim h [ inl m ↦ inl m | inr k ↦ inr (k.0, within text short ∙ ap (refused_tokens (length text)) e ∙ k.1, subst (λ t. IsRefusalIn (length text) t k.0 o) (sym e) k.2) ]
