-- A list that is split at its last operator, again and again, is grouped from the left over its parts.
use Rattle.std.proofs.Common.{◌≡◌, ℕ, zero, suc, ◌≤◌, Bool, false, List, [], ◌∷◌, ◌++◌, length, Some, None, refl, ap, ◌∙◌, subst, arith, length-append}
use Rattle.std.specs.Prelude.{Option}
use Rattle.au_lex.specs.declared.Lexeme.{Lexeme}
use Rattle.au_lex.specs.declared.Token.{Token}
use Rattle.au_parse.specs.Tree.{TermTree, Operator}
use Rattle.au_parse.specs.Words.{depth_after, ends_operand, set_word}
use Rattle.au_parse.specs.Cuts.{Split, Part, Parts, last_split, split_step, cut_from, cut_step, mark_at, cut, anywhere}
use Rattle.au_parse.specs.Expressions.{Reader, chain, split_tree}
use Rattle.au_parse.specs.Queries.{QueryReader, operand, set_chain}
use Rattle.au_parse.specs.Levels.{grouped, joins, from_left}
use Rattle.au_parse.specs.Statements.{joins_sets, sets_from_left}

abbrev pub parts_tree : Reader → Parts Operator → Option TermTree
parts_tree next parts = from_left next (next parts.first) parts.others

-- a list with no mark is one part
no_mark_step : {A : Type 0} (t : Token) (ts : List Token) (later : Option (Split A)) (here : Option A) (more : Parts A)
    → (later ≡ None → more ≡ record { first = ts; others = [] }) → split_step t ts later here ≡ None → cut_step t more here ≡ record { first = t ∷ ts; others = [] }
no_mark_step t ts (Some s) here more whole none = cc
no_mark_step t ts None (Some m) more whole none = cc
no_mark_step t ts None None more whole none = rw (whole refl)

pub no_mark : {A : Type 0} (mark : Bool → Lexeme → Option A) (after : Bool) (depth : ℕ) (ts : List Token)
    → last_split mark after depth ts ≡ None → cut_from mark after depth ts ≡ record { first = ts; others = [] }
unfolding last_split cut_from
no_mark mark after depth [] none = refl
no_mark mark after depth (t ∷ ts) none = no_mark_step t ts _ _ _ (no_mark mark (ends_operand t.what) (depth_after depth t.what) ts) none

-- a list that is split is the left part's parts, and then the right part
abbrev pub with_last : {A : Type 0} → Parts A → Part A → Parts A
with_last parts p = record { first = parts.first; others = parts.others ++ p ∷ [] }

abbrev last_part : {A : Type 0} → Split A → Part A
last_part s = Part.part s.mark s.place s.right

pub step_with_last : {A : Type 0} (t : Token) (parts : Parts A) (p : Part A) (here : Option A) → cut_step t (with_last parts p) here ≡ with_last (cut_step t parts here) p
step_with_last t parts p None = refl
step_with_last t parts p (Some m) = refl

module _ {A : Type 0} (mark : Bool → Lexeme → Option A) (after : Bool) (depth : ℕ) (t : Token) (ts : List Token) where
  abbrev rest_parts : List Token → Parts A
  rest_parts xs = cut_from mark (ends_operand t.what) (depth_after depth t.what) xs

  marked_step : (later : Option (Split A)) (here : Option A) (s : Split A)
      → here ≡ mark_at mark after depth t.what
      → ((x : Split A) → later ≡ Some x → rest_parts ts ≡ with_last (rest_parts x.left) (last_part x))
      → (later ≡ None → rest_parts ts ≡ record { first = ts; others = [] })
      → split_step t ts later here ≡ Some s
      → cut_step t (rest_parts ts) here ≡ with_last (cut_from mark after depth s.left) (last_part s)
  unfolding cut_from
  marked_step (Some x) here s here_is split none is =
      let e : record x { left = t ∷ x.left } ≡ s = cc in
      subst (λ y. cut_step t (rest_parts ts) here ≡ with_last (cut_from mark after depth y.left) (last_part y)) e
      (rw (split x refl, step_with_last, here_is))
  marked_step None (Some m) s here_is split none is =
      let e : record { left = []; mark = m; place = t.from; right = ts } ≡ s = cc in
      subst (λ y. cut_step t (rest_parts ts) (Some m) ≡ with_last (cut_from mark after depth y.left) (last_part y)) e (rw (none refl))
  marked_step None None s here_is split none is = cc

pub marked : {A : Type 0} (mark : Bool → Lexeme → Option A) (after : Bool) (depth : ℕ) (ts : List Token) (s : Split A)
    → last_split mark after depth ts ≡ Some s → cut_from mark after depth ts ≡ with_last (cut_from mark after depth s.left) (last_part s)
unfolding last_split cut_from
marked mark after depth [] s is = cc
marked mark after depth (t ∷ ts) s is =
    marked_step mark after depth t ts _ _ s refl (λ x. marked mark (ends_operand t.what) (depth_after depth t.what) ts x)
    (no_mark mark (ends_operand t.what) (depth_after depth t.what) ts) is

-- one more part comes last
grouped-last : {A R : Type 0} (join : R → Part A → R) (so_far : R) (parts : List (Part A)) (p : Part A) → grouped join so_far (parts ++ p ∷ []) ≡ join (grouped join so_far parts) p
grouped-last join so_far [] p = refl
grouped-last join so_far (q ∷ more) p = grouped-last join (join so_far q) more p

-- what a list is split into again and again at its last mark, by a number of splits that is enough
pub record IsSplitting {A R : Type 0} (mark : Bool → Lexeme → Option A) (next : List Token → R) (join : R → Part A → R) (reads : ℕ → List Token → R) : Type 0 where
  pub none_left : (ts : List Token) → reads zero ts ≡ next ts
  pub whole : (n : ℕ) (ts : List Token) → last_split mark false zero ts ≡ None → reads (suc n) ts ≡ next ts
  pub at_last : (n : ℕ) (ts : List Token) (s : Split A) → last_split mark false zero ts ≡ Some s → reads (suc n) ts ≡ join (reads n s.left) (last_part s)

module _ {A R : Type 0} (mark : Bool → Lexeme → Option A) (next : List Token → R) (join : R → Part A → R) (reads : ℕ → List Token → R) (is : IsSplitting mark next join reads) where
  abbrev Groups : ℕ → List Token → Type 0
  Groups n ts = let parts = cut_from mark false zero ts in reads n ts ≡ grouped join (next parts.first) parts.others

  -- it is grouped from the left
  group_step : (n : ℕ) (ts : List Token) (found : Option (Split A)) → last_split mark false zero ts ≡ found
      → ((us : List Token) → length (cut_from mark false zero us).others ≤ n → Groups n us)
      → length (cut_from mark false zero ts).others ≤ suc n → Groups (suc n) ts
  group_step n ts None found again fits = is.whole n ts found ∙ rw (no_mark mark false zero ts found)
  group_step n ts (Some s) found again fits =
      let cut_is : cut_from mark false zero ts ≡ with_last (cut_from mark false zero s.left) (last_part s) = marked mark false zero ts s found in
      let fewer : length (cut_from mark false zero s.left).others ≤ n =
      omega (arith, ap (λ p. length p.others) cut_is, length-append (cut_from mark false zero s.left).others (last_part s ∷ [])) in
      is.at_last n ts s found ∙ rw (cut_is, grouped-last) (ap (λ r. join r (last_part s)) (again s.left fewer))

  none_step : (ts : List Token) (found : Option (Split A)) → last_split mark false zero ts ≡ found → length (cut_from mark false zero ts).others ≤ zero → Groups zero ts
  none_step ts None found fits = is.none_left ts ∙ rw (no_mark mark false zero ts found)
  none_step ts (Some s) found fits =
      let cut_is : cut_from mark false zero ts ≡ with_last (cut_from mark false zero s.left) (last_part s) = marked mark false zero ts s found in
      absurd (omega (arith, ap (λ p. length p.others) cut_is, length-append (cut_from mark false zero s.left).others (last_part s ∷ [])))

  splits : (n : ℕ) (ts : List Token) → length (cut_from mark false zero ts).others ≤ n → Groups n ts
  splits zero ts fits = none_step ts _ refl fits
  splits (suc n) ts fits = group_step n ts _ refl (splits n) fits

-- there are no more marks than tokens
step_length : {A : Type 0} (t : Token) (parts : Parts A) (here : Option A) (n : ℕ) → length parts.others ≤ n → length (cut_step t parts here).others ≤ suc n
step_length t parts None n fits = omega arith
step_length t parts (Some m) n fits = omega arith

pub length-cut_from : {A : Type 0} (mark : Bool → Lexeme → Option A) (after : Bool) (depth : ℕ) (ts : List Token) → length (cut_from mark after depth ts).others ≤ length ts
unfolding cut_from
length-cut_from mark after depth [] = omega arith
length-cut_from mark after depth (t ∷ ts) =
    step_length t _ (mark_at mark after depth t.what) (length ts) (length-cut_from mark (ends_operand t.what) (depth_after depth t.what) ts)

-- the laws, with the number that a step takes
splits-length : {A R : Type 0} (mark : Bool → Lexeme → Option A) (next : List Token → R) (join : R → Part A → R) (reads : ℕ → List Token → R) → IsSplitting mark next join reads
    → (ts : List Token) → let parts = cut_from mark false zero ts in reads (length ts) ts ≡ grouped join (next parts.first) parts.others
splits-length mark next join reads is ts = splits mark next join reads is (length ts) ts (length-cut_from mark false zero ts)

chain_splits : (mark : Bool → Lexeme → Option Operator) (next : Reader) → IsSplitting mark next (joins next) (chain mark next)
unfolding chain
chain_splits mark next = record {
  none_left = λ ts. refl;
  whole = λ n ts found. ap (split_tree (chain mark next n) next ts) found;
  at_last = λ n ts s found. ap (split_tree (chain mark next n) next ts) found;
}

pub chain-length : (mark : Bool → Lexeme → Option Operator) (next : Reader) (ts : List Token) → chain mark next (length ts) ts ≡ parts_tree next (cut_from mark false zero ts)
chain-length mark next ts = splits-length mark next (joins next) (chain mark next) (chain_splits mark next) ts

sets_split : (query : QueryReader) → IsSplitting (anywhere set_word) (operand query) (joins_sets query) (set_chain query)
unfolding set_chain
sets_split query = record {
  none_left = λ ts. refl;
  whole = λ n ts found. rw (found, set_chain);
  at_last = λ n ts s found. rw (found, set_chain);
}

pub set_chain-length : (query : QueryReader) (ts : List Token) → let parts = cut set_word ts in set_chain query (length ts) ts ≡ sets_from_left query (operand query parts.first) parts.others
set_chain-length query ts = splits-length (anywhere set_word) (operand query) (joins_sets query) (set_chain query) (sets_split query) ts
