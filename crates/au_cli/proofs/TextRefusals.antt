-- Which outcomes a request can end in before any file is read.
use Rattle.std.proofs.Common.{◌≡◌, ◌<◌, ◌≤◌, arith, inl, inr, ℕ, Bool, true, false, List, Option, Some, None, Result, Ok, Err, refl, sym, ◌∙◌, ap, subst, length, nat_lt, if◌then◌else◌}
use Rattle.std.specs.Prelude.{option_map}
use Rattle.std.specs.Option.{option_or}
use Rattle.std.proofs.lemmas.Bool.{true≢false}
use Rattle.au_lex.specs.declared.Token.{Token}
use Rattle.au_lex.specs.declared.LexFault.{LexFault}
use Rattle.au_lex.specs.declared.LexFault.TheVariants as lex
use Rattle.au_lex.specs.Tokens.{tokens_of}
use Rattle.au_parse.specs.declared.ParseFault.{ParseFault}
use Rattle.au_parse.specs.declared.ParseFault.TheVariants as parse
use Rattle.au_parse.specs.Limits.{limit_fault}
use Rattle.au_parse.specs.Queries.{parsed_tree}
use Rattle.au_parse.specs.Tree.{QueryTree}
use Rattle.au_engine.specs.declared.faults.EngineFault.{EngineFault}
use Rattle.au_engine.specs.declared.faults.EngineFault.TheVariants as engine
use Rattle.au_engine.specs.declared.faults.LimitFault.{LimitFault}
use Rattle.au_engine.specs.declared.faults.LimitFault.TheVariants as limit
use Rattle.au_engine.specs.declared.faults.QueryFault.TheVariants as query
use Rattle.au_engine.specs.Reading as reading
use Rattle.au_engine.specs.Reading.{TextCause, greatest_length, refused_text, refused_tokens, refused_tree, statement_of, token_fault, parse_fault}
use Rattle.au_ua.specs.NotPositive.{not_positive}
use Rattle.au_words.specs.Words.{Request}
use Rattle.au_words.specs.declared.words.Command.{Command}
use Rattle.au_words.specs.declared.words.Command.TheVariants.{Answer, Direct, Guess, Ua, Rewrite, Explain}
use Rattle.au_io.specs.Files.{File}
use Rattle.au_cli.specs.declared.outcome.Outcome.{Outcome}
use Rattle.au_cli.specs.declared.outcome.Outcome.TheVariants as outcome
use Rattle.au_value.specs.Texts.{Text}
use Rattle.au_cli.specs.Files.{greatest_files}
use Rattle.au_cli.specs.Requests.{IsRefusal, Refusal, ended, place_refusal, refused_place, refused_request, refused_statement, text_refusal}
use Rattle.au_cli.specs.Requests.Refusal.{exactly, no_statement, defects}
use Rattle.au_cli.specs.Causes.{IsNotPositive, IsRefusedBefore, RequestCause, StageCause, StatementCause, is_query_limit, is_text_fault, is_text_limit}

-- whether an outcome can come before any file is read
abbrev is_early : Outcome → Bool
is_early (outcome.Query fault) = is_text_fault fault
is_early (outcome.Limit fault) = is_text_limit fault
is_early outcome.NoMemory = true
is_early _ = false

token_is_early : (fault : LexFault) → is_early (ended (token_fault fault)) ≡ true
token_is_early (lex.BadChar at) = refl
token_is_early (lex.OpenText at) = refl
token_is_early (lex.BadNumber at) = refl
token_is_early lex.TooManyTokens = refl
token_is_early lex.NoMemory = refl

parse_is_early : (fault : ParseFault) → is_early (ended (parse_fault fault)) ≡ true
parse_is_early (parse.Syntax at) = refl
parse_is_early (parse.TooDeep at) = refl
parse_is_early (parse.TooManyFrom at) = refl
parse_is_early (parse.TooManyItems at) = refl
parse_is_early parse.NoMemory = refl

-- a refusal's outcomes are early
IsEarly : Option Refusal → Type 0
IsEarly None = Unit {0}
IsEarly (Some (exactly wanted)) = is_early wanted ≡ true
IsEarly (Some (no_statement text)) = Unit {0}
IsEarly (Some (defects found)) = ⊥

tree_early : (text : Text) (limits : Option ParseFault) (tree : Option QueryTree) → IsEarly (option_map (text_refusal text) (refused_tree limits tree))
unfolding IsEarly
tree_early text (Some fault) tree = parse_is_early fault
tree_early text None None = tt
tree_early text None (Some tree) = tt

tokens_early : (text : Text) (n : ℕ) (tokens : Result (List Token) LexFault) → IsEarly (option_map (text_refusal text) (refused_tokens n tokens))
unfolding IsEarly
tokens_early text n (Err fault) = token_is_early fault
tokens_early text n (Ok tokens) = tree_early text (limit_fault n tokens) (parsed_tree tokens)

text_early_if : (long : Bool) (text : Text) (n : ℕ) (tokens : Result (List Token) LexFault)
    → IsEarly (option_map (text_refusal text) (if long then Some (reading.TextRefusal.exactly (engine.Limit (limit.QueryLength n))) else refused_tokens n tokens))
unfolding IsEarly
text_early_if true text n tokens = refl
text_early_if false text n tokens = tokens_early text n tokens

or_early : (a b : Option Refusal) → IsEarly a → IsEarly b → IsEarly (option_or a b)
unfolding IsEarly
or_early None b h k = k
or_early (Some refusal) b h k = h

place_early : (place : Option ℕ) → IsEarly (option_map place_refusal place)
unfolding IsEarly
place_early None = tt
place_early (Some at) = refl

statement_early : (command : Command) (s : Option QueryTree) → IsEarly (refused_statement command s)
unfolding IsEarly
statement_early command None = tt
statement_early command (Some s) = place_early (refused_place command s)

request_early_if : (many : Bool) (n : ℕ) (others : Option Refusal) → IsEarly others
    → IsEarly (if many then Some (exactly (outcome.Limit (limit.Files n))) else others)
unfolding IsEarly
request_early_if true n others h = refl
request_early_if false n others h = h

request_early : (r : Request) → IsEarly (refused_request r)
request_early r =
    request_early_if (nat_lt greatest_files (length r.tables)) (length r.tables) (option_or (option_map (text_refusal r.query) (refused_text r.query)) (refused_statement r.command (statement_of r.query)))
    (or_early (option_map (text_refusal r.query) (refused_text r.query)) (refused_statement r.command (statement_of r.query))
    (text_early_if (nat_lt greatest_length (length r.query)) r.query (length r.query) (tokens_of r.query)) (statement_early r.command (statement_of r.query)))

outcome_early : (found : Option Refusal) (refusal : Refusal) (o : Outcome) → IsEarly found → found ≡ Some refusal → IsRefusal refusal o → is_early o ≡ true
unfolding IsEarly
outcome_early None refusal o is e of = cc
outcome_early (Some (exactly v)) (exactly w) o is e of = let same : v ≡ w = cc in ap is_early (of ∙ sym same) ∙ is
outcome_early (Some (exactly v)) (no_statement t) o is e of = cc
outcome_early (Some (exactly v)) (defects ds) o is e of = cc
outcome_early (Some (no_statement u)) (exactly w) o is e of = cc
outcome_early (Some (no_statement u)) (no_statement t) o is e of = ap is_early (of.2 ∙ ap ended of.1.1)
outcome_early (Some (no_statement u)) (defects ds) o is e of = cc
outcome_early (Some (defects ds)) refusal o is e of = absurd is

staged : (stage : Bool) (told : Option (List File)) (r : Request) (o : Outcome) → stage ≡ true → IsRefusedBefore r o → StageCause stage told r o
staged true told r o e h = h
staged false told r o e h = cc

text_is_query : (fault : LimitFault) → is_text_limit fault ≡ true → is_query_limit fault ≡ true
text_is_query (limit.EncodeColumns columns) e = cc
text_is_query (limit.PlainRows file) e = cc
text_is_query _ e = refl

early_cause : (r : Request) (told : Option (List File)) (f fn a an : ℕ) (o : Outcome) → is_early o ≡ true → IsRefusedBefore r o → RequestCause r told f fn a an o
early_cause r told f fn a an (outcome.Query fault) e h = staged (is_text_fault fault) told r (outcome.Query fault) e h
early_cause r told f fn a an (outcome.Limit fault) e h = (text_is_query fault e, staged (is_text_limit fault) told r (outcome.Limit fault) e h)
early_cause r told f fn a an outcome.NoMemory e h = tt
early_cause r told f fn a an outcome.Done e h = cc
early_cause r told f fn a an (outcome.Usage fault) e h = cc
early_cause r told f fn a an (outcome.Table i fault) e h = cc
early_cause r told f fn a an outcome.Overflow e h = cc
early_cause r told f fn a an (outcome.ReadFault i) e h = cc
early_cause r told f fn a an outcome.WriteFault e h = cc
early_cause r told f fn a an (outcome.NoFile i) e h = cc
early_cause r told f fn a an (outcome.Plan fault) e h = cc

-- the cause of the statement is the cause of the request
pub statement_cause : (r : Request) (told : Option (List File)) (f fn a an : ℕ) (o : Outcome) → StatementCause r o → RequestCause r told f fn a an o
statement_cause r told f fn a an o cause = elim cause [
  | inl e ↦ subst (λ x. RequestCause r told f fn a an x) (sym e) tt
  | inr h ↦ early_cause r told f fn a an o (outcome_early (refused_request r) h.0 o (request_early r) h.1 h.2) h
]

-- the cause of the text is the cause of the statement, where the table words are few enough
few_tables : (r : Request) → nat_lt greatest_files (length r.tables) ≡ false
    → refused_request r ≡ option_or (option_map (text_refusal r.query) (refused_text r.query)) (refused_statement r.command (statement_of r.query))
few_tables r e = rw e refl

refusal_ends : (text : Text) (found : reading.TextRefusal) (fault : EngineFault) → reading.IsRefusalOf text found fault → IsRefusal (text_refusal text found) (ended fault)
refusal_ends text (reading.TextRefusal.exactly wanted) fault h = ap ended h
refusal_ends text reading.TextRefusal.no_statement fault h = (fault, h, refl)

pub text_cause : (r : Request) (fault : EngineFault) → nat_lt greatest_files (length r.tables) ≡ false → TextCause r.query fault → StatementCause r (ended fault)
text_cause r fault few cause = elim cause [
  | inl e ↦ inl (ap ended e)
  | inr h ↦ inr (text_refusal r.query h.0, few_tables r few ∙ ap (λ o. option_or (option_map (text_refusal r.query) o) (refused_statement r.command (statement_of r.query))) h.1, refusal_ends r.query h.0 fault h.2)
]

-- the refusal of a statement that is read is that of its command
read_request : (r : Request) (s : QueryTree) → nat_lt greatest_files (length r.tables) ≡ false → refused_text r.query ≡ None → statement_of r.query ≡ Some s
    → refused_request r ≡ option_map place_refusal (refused_place r.command s)
read_request r s few e is = few_tables r few ∙ (λ i. option_or (option_map (text_refusal r.query) (e i)) (refused_statement r.command (is i)))

pub allowed_request : (r : Request) (s : QueryTree) → nat_lt greatest_files (length r.tables) ≡ false → refused_text r.query ≡ None → statement_of r.query ≡ Some s
    → refused_place r.command s ≡ None → refused_request r ≡ None
allowed_request r s few e is taken = read_request r s few e is ∙ ap (option_map place_refusal) taken

pub place_cause : (r : Request) (s : QueryTree) (at : ℕ) → nat_lt greatest_files (length r.tables) ≡ false → refused_text r.query ≡ None → statement_of r.query ≡ Some s
    → refused_place r.command s ≡ Some at → StatementCause r (outcome.Query (query.NotPositive at))
place_cause r s at few e is place = inr (place_refusal at, read_request r s few e is ∙ ap (option_map place_refusal) place, refl)

pub many_tables : (r : Request) (n : ℕ) → n ≡ length r.tables → greatest_files < n → StatementCause r (outcome.Limit (limit.Files n))
many_tables r n e many =
    let over : nat_lt greatest_files (length r.tables) ≡ true = grind arith in
    inr (exactly (outcome.Limit (limit.Files (length r.tables))), rw over refl, ap (λ x. outcome.Limit (limit.Files x)) e)

pub few : (r : Request) (n : ℕ) → n ≡ length r.tables → n ≤ greatest_files → nat_lt greatest_files (length r.tables) ≡ false
few r n e below = grind arith

-- ---- which refusals are of a statement that is not positive

abbrev is_placed : Outcome → Bool
is_placed (outcome.Query (query.NotPositive at)) = true
is_placed _ = false

token_not_placed : (fault : LexFault) → is_placed (ended (token_fault fault)) ≡ false
token_not_placed (lex.BadChar at) = refl
token_not_placed (lex.OpenText at) = refl
token_not_placed (lex.BadNumber at) = refl
token_not_placed lex.TooManyTokens = refl
token_not_placed lex.NoMemory = refl

parse_not_placed : (fault : ParseFault) → is_placed (ended (parse_fault fault)) ≡ false
parse_not_placed (parse.Syntax at) = refl
parse_not_placed (parse.TooDeep at) = refl
parse_not_placed (parse.TooManyFrom at) = refl
parse_not_placed (parse.TooManyItems at) = refl
parse_not_placed parse.NoMemory = refl

-- a refusal of the text
IsTextual : Option Refusal → Type 0
IsTextual None = Unit {0}
IsTextual (Some (exactly wanted)) = is_placed wanted ≡ false
IsTextual (Some (no_statement text)) = Unit {0}
IsTextual (Some (defects found)) = ⊥

tree_textual : (text : Text) (limits : Option ParseFault) (tree : Option QueryTree) → IsTextual (option_map (text_refusal text) (refused_tree limits tree))
unfolding IsTextual
tree_textual text (Some fault) tree = parse_not_placed fault
tree_textual text None None = tt
tree_textual text None (Some tree) = tt

tokens_textual : (text : Text) (n : ℕ) (tokens : Result (List Token) LexFault) → IsTextual (option_map (text_refusal text) (refused_tokens n tokens))
unfolding IsTextual
tokens_textual text n (Err fault) = token_not_placed fault
tokens_textual text n (Ok tokens) = tree_textual text (limit_fault n tokens) (parsed_tree tokens)

text_textual_if : (long : Bool) (text : Text) (n : ℕ) (tokens : Result (List Token) LexFault)
    → IsTextual (option_map (text_refusal text) (if long then Some (reading.TextRefusal.exactly (engine.Limit (limit.QueryLength n))) else refused_tokens n tokens))
unfolding IsTextual
text_textual_if true text n tokens = refl
text_textual_if false text n tokens = tokens_textual text n tokens

not_textual : (found : Option Refusal) (refusal : Refusal) (at : ℕ) → IsTextual found → found ≡ Some refusal → IsRefusal refusal (outcome.Query (query.NotPositive at)) → ⊥
unfolding IsTextual
not_textual None refusal at is e of = cc
not_textual (Some (exactly v)) (exactly w) at is e of = let same : v ≡ w = cc in true≢false (ap is_placed (of ∙ sym same) ∙ is)
not_textual (Some (exactly v)) (no_statement t) at is e of = cc
not_textual (Some (exactly v)) (defects ds) at is e of = cc
not_textual (Some (no_statement u)) (exactly w) at is e of = cc
not_textual (Some (no_statement u)) (no_statement t) at is e of = true≢false (ap is_placed (of.2 ∙ ap ended of.1.1))
not_textual (Some (no_statement u)) (defects ds) at is e of = cc
not_textual (Some (defects ds)) refusal at is e of = is

-- the place is that of the statement
place_is : (place : Option ℕ) (refusal : Refusal) (at : ℕ) → option_map place_refusal place ≡ Some refusal → IsRefusal refusal (outcome.Query (query.NotPositive at)) → place ≡ Some at
place_is None refusal at e of = cc
place_is (Some k) (exactly w) at e of = let same : outcome.Query (query.NotPositive k) ≡ w = cc in let both : outcome.Query (query.NotPositive k) ≡ outcome.Query (query.NotPositive at) = same ∙ sym of in cc
place_is (Some k) (no_statement t) at e of = cc
place_is (Some k) (defects ds) at e of = cc

record Placed (command : Command) (found : Option QueryTree) (at : ℕ) : Type 0 where
  is_ua : command ≡ Ua
  statement : QueryTree
  is : found ≡ Some statement
  place : not_positive statement ≡ Some at

statement_placed : (command : Command) (found : Option QueryTree) (refusal : Refusal) (at : ℕ) → refused_statement command found ≡ Some refusal
    → IsRefusal refusal (outcome.Query (query.NotPositive at)) → Placed command found at
statement_placed command None refusal at e of = cc
statement_placed Answer (Some s) refusal at e of = cc
statement_placed Direct (Some s) refusal at e of = cc
statement_placed Guess (Some s) refusal at e of = cc
statement_placed Rewrite (Some s) refusal at e of = cc
statement_placed Explain (Some s) refusal at e of = cc
statement_placed Ua (Some s) refusal at e of = record { is_ua = refl; statement = s; is = refl; place = place_is (not_positive s) refusal at e of }

placed_if : (many : Bool) (n : ℕ) (text : Option Refusal) (command : Command) (found : Option QueryTree) (refusal : Refusal) (at : ℕ) → IsTextual text
    → (if many then Some (exactly (outcome.Limit (limit.Files n))) else option_or text (refused_statement command found)) ≡ Some refusal
    → IsRefusal refusal (outcome.Query (query.NotPositive at)) → (many ≡ false) × (text ≡ None) × Placed command found at
unfolding IsTextual
placed_if true n text command found refusal at is e of = absurd (not_textual (Some (exactly (outcome.Limit (limit.Files n)))) refusal at refl e of)
placed_if false n (Some refused) command found refusal at is e of = absurd (not_textual (Some refused) refusal at is e of)
placed_if false n None command found refusal at is e of = (refl, refl, statement_placed command found refusal at e of)

none_mapped : {A B : Type 0} (f : A → B) (o : Option A) → option_map f o ≡ None → o ≡ None
none_mapped f None e = refl
none_mapped f (Some x) e = cc

at_most_eight : (n : ℕ) → nat_lt greatest_files n ≡ false → n ≤ greatest_files
at_most_eight n e = grind arith

pub refused_not_positive : (r : Request) (at : ℕ) → IsRefusedBefore r (outcome.Query (query.NotPositive at)) → IsNotPositive r at
refused_not_positive r at h =
    let text = option_map (text_refusal r.query) (refused_text r.query) in
    let p = placed_if (nat_lt greatest_files (length r.tables)) (length r.tables) text r.command (statement_of r.query) h.0 at
    (text_textual_if (nat_lt greatest_length (length r.query)) r.query (length r.query) (tokens_of r.query)) h.1 h.2 in
    record {
      command = p.2.is_ua;
      few = at_most_eight (length r.tables) p.0;
      text = none_mapped (text_refusal r.query) (refused_text r.query) p.1;
      statement = p.2.statement;
      is = p.2.is;
      place = p.2.place;
    }
