-- How the text of a query is refused, and the statement of a text.
use Rattle.std.specs.Prelude.{ℕ, ◌≡◌, ◌⊎◌, List, length, Option, Some, None, option_and_then, Result, Ok, Err, if◌then◌else◌, nat_lt}
use Rattle.std.specs.Result.{result_ok}
use Rattle.au_value.specs.Texts.{Text}
use Rattle.au_lex.specs.declared.Token.{Token}
use Rattle.au_lex.specs.declared.LexFault.{LexFault}
use Rattle.au_lex.specs.declared.LexFault.TheVariants as lex
use Rattle.au_lex.specs.Tokens.{tokens_of}
use Rattle.au_parse.specs.declared.ParseFault.{ParseFault}
use Rattle.au_parse.specs.declared.ParseFault.TheVariants as parse
use Rattle.au_parse.specs.Limits.{limit_fault}
use Rattle.au_parse.specs.Parsing.{IsPlace}
use Rattle.au_parse.specs.Queries.{parsed_tree}
use Rattle.au_parse.specs.Tree.{QueryTree}
use Rattle.au_engine.specs.declared.faults.EngineFault.{EngineFault}
use Rattle.au_engine.specs.declared.faults.EngineFault.TheVariants as engine
use Rattle.au_engine.specs.declared.faults.LimitFault.TheVariants as limit
use Rattle.au_engine.specs.declared.faults.QueryFault.TheVariants as query

-- A refusal: one fault, or that there is no statement, at whichever place is named.
pub data TextRefusal : Type 0 where
  exactly : EngineFault → TextRefusal
  no_statement : TextRefusal

-- the greatest length of a query, in bytes
abbrev pub greatest_length : ℕ
greatest_length = 65536

-- what a fault of the tokens is to the engine
abbrev pub token_fault : LexFault → EngineFault
token_fault (lex.BadChar at) = engine.Query (query.BadChar at)
token_fault (lex.OpenText at) = engine.Query (query.OpenText at)
token_fault (lex.BadNumber at) = engine.Query (query.BadNumber at)
token_fault lex.TooManyTokens = engine.Limit limit.Tokens
token_fault lex.NoMemory = engine.NoMemory

-- what a fault of the statement is to the engine
abbrev pub parse_fault : ParseFault → EngineFault
parse_fault (parse.Syntax at) = engine.Query (query.Syntax at)
parse_fault (parse.TooDeep at) = engine.Limit (limit.Depth at)
parse_fault (parse.TooManyFrom at) = engine.Limit (limit.FromItems at)
parse_fault (parse.TooManyItems at) = engine.Limit (limit.SelectItems at)
parse_fault parse.NoMemory = engine.NoMemory

-- the first refusal of a query's text: by its length, its tokens, its limits, or because there is no statement
abbrev pub refused_tree : Option ParseFault → Option QueryTree → Option TextRefusal
refused_tree (Some passed) tree = Some (TextRefusal.exactly (parse_fault passed))
refused_tree None None = Some TextRefusal.no_statement
refused_tree None (Some tree) = None

abbrev pub refused_tokens : ℕ → Result (List Token) LexFault → Option TextRefusal
refused_tokens n (Err fault) = Some (TextRefusal.exactly (token_fault fault))
refused_tokens n (Ok tokens) = refused_tree (limit_fault n tokens) (parsed_tree tokens)

abbrev pub refused_text : Text → Option TextRefusal
refused_text text =
    if nat_lt greatest_length (length text) then Some (TextRefusal.exactly (engine.Limit (limit.QueryLength (length text))))
    else refused_tokens (length text) (tokens_of text)

-- a place of the text: where a token begins, or its length
abbrev pub PlaceIn : ℕ → Result (List Token) LexFault → ℕ → Type 0
PlaceIn n (Ok tokens) at = IsPlace n tokens at
PlaceIn n (Err fault) at = ⊥

-- a fault is that of a refusal, in a text of so many bytes with these tokens
abbrev pub IsRefusalIn : ℕ → Result (List Token) LexFault → TextRefusal → EngineFault → Type 0
IsRefusalIn n tokens (TextRefusal.exactly wanted) f = f ≡ wanted
IsRefusalIn n tokens TextRefusal.no_statement f = (at : ℕ) × (f ≡ engine.Query (query.Syntax at)) × PlaceIn n tokens at

-- a fault is that of a refusal of the text
abbrev pub IsRefusalOf : Text → TextRefusal → EngineFault → Type 0
IsRefusalOf text r f = IsRefusalIn (length text) (tokens_of text) r f

-- the statement of a text
abbrev pub statement_of : Text → Option QueryTree
statement_of text = option_and_then parsed_tree (result_ok (tokens_of text))

-- why the text of a query is not read: memory, or its first refusal
abbrev pub TextCause : Text → EngineFault → Type 0
TextCause text f = (f ≡ engine.NoMemory) ⊎ ((r : TextRefusal) × (refused_text text ≡ Some r) × IsRefusalOf text r f)

-- why tokens are not read
abbrev pub TokensCause : ℕ → List Token → EngineFault → Type 0
TokensCause n tokens f = (f ≡ engine.NoMemory) ⊎ ((r : TextRefusal) × (refused_tokens n (Ok tokens) ≡ Some r) × IsRefusalIn n (Ok tokens) r f)
