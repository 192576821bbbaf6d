-- A SELECT cut at its clause words, taken from the left.
use Rattle.std.proofs.Common.{◌≡◌, ℕ, Bool, true, false, List, [], ◌∷◌, length, take, drop, Some, None, refl, sym, ap, ◌∙◌, arith}
use Rattle.std.specs.Prelude.{Option, option_map, is_some}
use Rattle.au_lex.specs.declared.Lexeme.{Lexeme}
use Rattle.au_lex.specs.declared.Lexeme.TheVariants as lex
use Rattle.au_lex.specs.declared.Keyword.TheVariants as key
use Rattle.au_lex.specs.declared.Token.{Token}
use Rattle.au_parse.specs.declared.pieces.Mark.TheVariants as at
use Rattle.au_parse.specs.declared.queries.ClauseWord.{ClauseWord}
use Rattle.au_parse.specs.declared.queries.ClauseWord.TheVariants as word
use Rattle.au_parse.specs.Words.{Clause, clause_word, ends_operand, depth_after}
use Rattle.au_parse.specs.Cuts.{Part, cut, anywhere}
use Rattle.au_parse.specs.Levels.{front_length, is_mark, part_before}
use Rattle.au_parse.specs.Queries.{ClauseTokens, clauses, condition_clause, group_clause, having_clause}
use Rattle.au_parse.specs.Statements.{TakesClause, all_clauses, begins_with, clause_of, clause_parts, has_parts, is_clause, same_clause, with_clause}
use Rattle.au_parse.proofs.Cutting.{IsMark, cut_by}

pub clause_mark : IsMark (anywhere clause_word) (is_mark at.Clause)
clause_mark = record { same = λ after what. refl; always = λ what m is. is; no_end = λ after what m is. ends what m is; flat = λ after what m is. flat what m is }
  where
    ends : (what : Lexeme) (m : Clause) → clause_word what ≡ Some m → ends_operand what ≡ false
    ends (lex.Key key.From) m is = refl
    ends (lex.Key key.Where) m is = refl
    ends (lex.Key key.Group) m is = refl
    ends (lex.Key key.Having) m is = refl
    ends _ m is = cc

    flat : (what : Lexeme) (m : Clause) → clause_word what ≡ Some m → depth_after 0 what ≡ 0
    flat (lex.Key key.From) m is = refl
    flat (lex.Key key.Where) m is = refl
    flat (lex.Key key.Group) m is = refl
    flat (lex.Key key.Having) m is = refl
    flat _ m is = cc

same_is : (c d : Clause) → same_clause c d ≡ true → d ≡ c
same_is Clause.from Clause.from is = refl
same_is Clause.condition Clause.condition is = refl
same_is Clause.group Clause.group is = refl
same_is Clause.having Clause.having is = refl
same_is _ _ is = cc

-- one clause
pub takes_nothing : (w : ClauseWord) (ts : List Token) → length ts ≡ 0 → TakesClause w ts None ts
takes_nothing w [] is = record { parts = refl; none = λ none. refl }
takes_nothing w (t ∷ ts) is = absurd (omega arith)

pub takes_none : (w : ClauseWord) (ts others : List Token) (t : Token) → ts ≡ t ∷ others → is_clause w t.what ≡ false → TakesClause w ts None ts
takes_none w ts others t is fails = rw is (record { parts = refl; none = λ none. by_word (clause_word t.what) fails })
  where
    by_word : (found : Option Clause) → (elim found as (λ o. Bool) [ None ↦ false | Some c ↦ same_clause (clause_of w) c ]) ≡ false
        → begins_with (clause_of w) (part_before t found (cut clause_word others)) ≡ false
    by_word None fails = refl
    by_word (Some c) fails = fails

pub takes_some : (w : ClauseWord) (ts others piece behind : List Token) (t : Token) (k : ℕ) → ts ≡ t ∷ others → is_clause w t.what ≡ true → k ≡ front_length (is_mark at.Clause) false 0 others
    → piece ≡ take k others → behind ≡ drop k others → TakesClause w ts (Some (t.from, piece)) behind
takes_some w ts others piece behind t k is holds k_is piece_is behind_is = record { parts = ap clause_parts is ∙ by_word (clause_word t.what) holds; none = λ none. cc }
  where
    by_word : (found : Option Clause) → (elim found as (λ o. Bool) [ None ↦ false | Some c ↦ same_clause (clause_of w) c ]) ≡ true
        → part_before t found (cut clause_word others) ≡ Part.part (clause_of w) t.from piece ∷ clause_parts behind
    by_word None holds = cc
    by_word (Some c) holds =
        let same : c ≡ clause_of w = same_is (clause_of w) c holds in
        rw (same, cut_by (anywhere clause_word) (is_mark at.Clause) clause_mark false 0 others, ← k_is, ← piece_is, ← behind_is)

-- the items of a SELECT, and its clauses
pub cut_at_clauses : (ts first behind : List Token) (k : ℕ) → k ≡ front_length (is_mark at.Clause) false 0 ts → first ≡ take k ts → behind ≡ drop k ts
    → cut clause_word ts ≡ record { first = first; others = clause_parts behind }
cut_at_clauses ts first behind k k_is first_is behind_is = cut_by (anywhere clause_word) (is_mark at.Clause) clause_mark false 0 ts ∙ rw (← k_is, ← first_is, ← behind_is)

-- the clauses in their order
abbrev only : List Token → Option (ℕ × List Token) → Option (List Token) → Option (ℕ × List Token) → ClauseTokens
only from condition group having = record { from = from; condition = condition; group = group; having = having }

abbrev ended : List (Part Clause) → ClauseTokens → Option ClauseTokens
ended [] done = Some done
ended (p ∷ parts) done = None

last_clause : (ts : List Token) (condition : Option (ℕ × List Token)) (group : Option (List Token)) (having : Option (ℕ × List Token)) (parts rest : List (Part Clause)) → parts ≡ with_clause Clause.having having rest
    → (having ≡ None → begins_with Clause.having parts ≡ false) → having_clause parts (only ts condition group None) ≡ ended rest (only ts condition group having)
last_clause ts condition group (Some h) parts [] is none = rw is
last_clause ts condition group (Some h) parts (p ∷ rest) is none = rw is
last_clause ts condition group None parts rest is none = rw is (by_part rest (rw is at (none refl)))
  where
    by_part : (xs : List (Part Clause)) → begins_with Clause.having xs ≡ false → having_clause xs (only ts condition group None) ≡ ended xs (only ts condition group None)
    by_part [] fails = refl
    by_part (Part.part Clause.having p us ∷ xs) fails = cc
    by_part (Part.part Clause.from p us ∷ xs) fails = refl
    by_part (Part.part Clause.condition p us ∷ xs) fails = refl
    by_part (Part.part Clause.group p us ∷ xs) fails = refl

third_clause : (ts : List Token) (condition group : Option (ℕ × List Token)) (parts rest : List (Part Clause)) → parts ≡ with_clause Clause.group group rest
    → (group ≡ None → begins_with Clause.group parts ≡ false) → group_clause parts (only ts condition None None) ≡ having_clause rest (only ts condition (option_map (λ g. g.1) group) None)
third_clause ts condition (Some g) parts rest is none = rw is
third_clause ts condition None parts rest is none = rw is (by_part rest (rw is at (none refl)))
  where
    by_part : (xs : List (Part Clause)) → begins_with Clause.group xs ≡ false → group_clause xs (only ts condition None None) ≡ having_clause xs (only ts condition None None)
    by_part [] fails = refl
    by_part (Part.part Clause.group p us ∷ xs) fails = cc
    by_part (Part.part Clause.from p us ∷ xs) fails = refl
    by_part (Part.part Clause.condition p us ∷ xs) fails = refl
    by_part (Part.part Clause.having p us ∷ xs) fails = refl

second_clause : (ts : List Token) (condition : Option (ℕ × List Token)) (parts rest : List (Part Clause)) → parts ≡ with_clause Clause.condition condition rest
    → (condition ≡ None → begins_with Clause.condition parts ≡ false) → condition_clause parts (only ts None None None) ≡ group_clause rest (only ts condition None None)
second_clause ts (Some c) parts rest is none = rw is
second_clause ts None parts rest is none = rw is (by_part rest (rw is at (none refl)))
  where
    by_part : (xs : List (Part Clause)) → begins_with Clause.condition xs ≡ false → condition_clause xs (only ts None None None) ≡ group_clause xs (only ts None None None)
    by_part [] fails = refl
    by_part (Part.part Clause.condition p us ∷ xs) fails = cc
    by_part (Part.part Clause.from p us ∷ xs) fails = refl
    by_part (Part.part Clause.group p us ∷ xs) fails = refl
    by_part (Part.part Clause.having p us ∷ xs) fails = refl

pub no_from : (parts : List (Part Clause)) → begins_with Clause.from parts ≡ false → None ≡ clauses parts
no_from [] fails = refl
no_from (Part.part Clause.from p us ∷ xs) fails = cc
no_from (Part.part Clause.condition p us ∷ xs) fails = refl
no_from (Part.part Clause.group p us ∷ xs) fails = refl
no_from (Part.part Clause.having p us ∷ xs) fails = refl

module _ (ts r1 r2 r3 r4 : List Token) (from : ℕ × List Token) (condition group having : Option (ℕ × List Token))
    (first : TakesClause word.From ts (Some from) r1) (second : TakesClause word.Where r1 condition r2) (third : TakesClause word.Group r2 group r3) (last : TakesClause word.Having r3 having r4) where
  clauses_are : clauses (clause_parts ts) ≡ ended (clause_parts r4) (all_clauses from.1 condition group having)
  clauses_are =
      ap clauses first.parts ∙ second_clause from.1 condition (clause_parts r1) (clause_parts r2) second.parts second.none
      ∙ third_clause from.1 condition group (clause_parts r2) (clause_parts r3) third.parts third.none
      ∙ last_clause from.1 condition (option_map (λ g. g.1) group) having (clause_parts r3) (clause_parts r4) last.parts last.none

  pub clauses_more : has_parts (clause_parts r4) ≡ true → None ≡ clauses (clause_parts ts)
  clauses_more more = sym (clauses_are ∙ by_parts (clause_parts r4) more)
    where
      by_parts : (xs : List (Part Clause)) → has_parts xs ≡ true → ended xs (all_clauses from.1 condition group having) ≡ None
      by_parts [] more = cc
      by_parts (x ∷ xs) more = refl

  pub clauses_all : has_parts (clause_parts r4) ≡ false → Some (all_clauses from.1 condition group having) ≡ clauses (clause_parts ts)
  clauses_all none = sym (clauses_are ∙ by_parts (clause_parts r4) none)
    where
      by_parts : (xs : List (Part Clause)) → has_parts xs ≡ false → ended xs (all_clauses from.1 condition group having) ≡ Some (all_clauses from.1 condition group having)
      by_parts [] none = refl
      by_parts (x ∷ xs) none = cc

pub begins_parts : (ts others : List Token) (t : Token) → ts ≡ t ∷ others → has_parts (clause_parts ts) ≡ is_some (clause_word t.what)
begins_parts ts others t is = ap (λ xs. has_parts (clause_parts xs)) is ∙ by_word (clause_word t.what)
  where
    by_word : (found : Option Clause) → has_parts (part_before t found (cut clause_word others)) ≡ is_some found
    by_word None = refl
    by_word (Some c) = refl

pub begins_none : (ts : List Token) → length ts ≡ 0 → has_parts (clause_parts ts) ≡ false
begins_none [] is = refl
begins_none (t ∷ ts) is = absurd (omega arith)
