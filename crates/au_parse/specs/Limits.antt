-- Where a token list passes a limit: the depth of its brackets, and the commas of one FROM or SELECT word.
use Rattle.std.specs.Prelude.{ℕ, zero, suc, ◌+◌, ◌-◌, ◌==◌, ◌&&◌, Bool, true, false, List, [], ◌∷◌, length, Option, Some, None, option_map, if◌then◌else◌, nat_lt}
use Rattle.std.specs.List.{filter}
use Rattle.au_lex.specs.declared.Keyword.TheVariants as key
use Rattle.au_lex.specs.declared.Lexeme.{Lexeme}
use Rattle.au_lex.specs.declared.Lexeme.TheVariants as lex
use Rattle.au_lex.specs.declared.Token.{Token}
use Rattle.au_parse.specs.declared.limits.Limit.{Limit}
use Rattle.au_parse.specs.declared.limits.Limit.TheVariants as over
use Rattle.au_parse.specs.declared.ParseFault.{ParseFault}
use Rattle.au_parse.specs.declared.ParseFault.TheVariants as fault
use Rattle.au_parse.specs.Words.{depth_after, is_open, is_group_open, is_group_close, is_select, is_comma}

-- the place of the first bracket that makes the depth exceed the limit
unfoldable pub too_deep : ℕ → ℕ → List Token → Option ℕ
too_deep limit depth [] = None
too_deep limit depth (t ∷ ts) =
    elim (is_open t.what && nat_lt limit (depth_after depth t.what)) [ true ↦ Some t.from | false ↦ too_deep limit (depth_after depth t.what) ts ]

-- how many tokens one goes back from a `)` to pass its `(`, where so many others are open on the way; the tokens nearest first
unfoldable pub back_to_match : ℕ → List Token → Option ℕ
back_to_match pending [] = None
back_to_match pending (t ∷ before) =
    elim (is_group_open t.what && (pending == 0)) [
      | true ↦ Some 1
      | false ↦ option_map (λ n. n + 1) (back_to_match (if is_group_close t.what then pending + 1 else if is_group_open t.what then pending - 1 else pending) before)
    ]

-- the words that begin a part of a query
abbrev pub begins_part : Lexeme → Bool
begins_part (lex.Key key.Select) = true
begins_part (lex.Key key.From) = true
begins_part (lex.Key key.Where) = true
begins_part (lex.Key key.Group) = true
begins_part (lex.Key key.Having) = true
begins_part (lex.Key key.Union) = true
begins_part (lex.Key key.Except) = true
begins_part _ = false

abbrev pub unless_none : Option ℕ → ℕ
unless_none None = 0
unless_none (Some n) = n

-- The tokens from the word on at which one stops who goes back over these, the nearest first, or none: a `)` is passed together with its match.
unfoldable pub stop : ℕ → List Token → List Token
stop skipped [] = []
stop (suc skipped) (t ∷ before) = stop skipped before
stop zero (t ∷ before) =
    elim (is_group_open t.what) [
      | true ↦ []
      | false ↦ elim (begins_part t.what) [
        | true ↦ t ∷ before
        | false ↦ stop (if is_group_close t.what then unless_none (back_to_match 0 before) else 0) before
      ]
    ]

-- the word at which one has stopped, if it is one that the test wants: how many tokens stand before it
abbrev pub wanted : (Lexeme → Bool) → List Token → Option ℕ
wanted word [] = None
wanted word (t ∷ before) = if word t.what then Some (length before) else None

-- the word for which a comma counts
abbrev pub counts_for : (Lexeme → Bool) → Token → List Token → Option ℕ
counts_for word t before = if is_comma t.what then wanted word (stop 0 before) else None

-- the place of the first token, or the end
abbrev pub token_place : ℕ → List Token → ℕ
token_place end [] = end
token_place end (t ∷ ts) = t.from

-- how many of the commas so far count for a word; `seen` has the word of each
abbrev pub commas_of : ℕ → List ℕ → ℕ
commas_of word seen = length (filter (λ other. other == word) seen)

-- the place after the comma that is the `limit`-th of one word
unfoldable pub passes_limit : (Lexeme → Bool) → ℕ → ℕ → List ℕ → List Token → List Token → Option ℕ
passes_limit word limit end seen before [] = None
passes_limit word limit end seen before (t ∷ ts) =
    elim (counts_for word t before) [
      | None ↦ passes_limit word limit end seen (t ∷ before) ts
      | Some at ↦ elim (commas_of at seen + 1 == limit) [
        | true ↦ Some (token_place end ts)
        | false ↦ passes_limit word limit end (at ∷ seen) (t ∷ before) ts
      ]
    ]

abbrev pub is_from : Lexeme → Bool
is_from (lex.Key key.From) = true
is_from _ = false

-- the earlier of two faults, each with its place, and the first where both have one place
abbrev pub earlier : Option (ℕ × ParseFault) → Option (ℕ × ParseFault) → Option (ℕ × ParseFault)
earlier None other = other
earlier (Some a) None = Some a
earlier (Some a) (Some b) = if nat_lt b.0 a.0 then Some b else Some a

-- the fault of a limit that is passed at a place
abbrev pub fault_of : Limit → ℕ → ParseFault
fault_of over.Depth at = fault.TooDeep at
fault_of over.Sources at = fault.TooManyFrom at
fault_of over.Items at = fault.TooManyItems at

abbrev pub placed : Limit → Option ℕ → Option (ℕ × ParseFault)
placed limit found = option_map (λ at. (at, fault_of limit at)) found

-- the fault of the least place, where these have been found
abbrev pub first_fault : Option ℕ → Option ℕ → Option ℕ → Option ParseFault
first_fault deep sources items = option_map (λ found. found.1) (earlier (placed over.Depth deep) (earlier (placed over.Sources sources) (placed over.Items items)))

-- the limit that a token list passes, the one of the least place, for a query of this length
abbrev pub limit_fault : ℕ → List Token → Option ParseFault
limit_fault end ts = first_fault (too_deep 32 0 ts) (passes_limit is_from 8 end [] [] ts) (passes_limit is_select 64 end [] [] ts)
