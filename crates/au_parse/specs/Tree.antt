-- A statement as a tree, without where it lies in memory. Each number is the place of a word, a symbol or a first token.
use Rattle.std.specs.Prelude.{ℕ, ℤ, Bool, List, Option}
use Rattle.au_value.specs.declared.comparison.Comparison.{Comparison}
use Rattle.au_parse.specs.declared.AggWord.{AggWord}
use Rattle.au_parse.specs.declared.Name.{Name}

pub data Operator : Type 0 where
  add : Operator
  subtract : Operator
  multiply : Operator
  compare : Comparison → Operator
  and : Operator
  or : Operator

pub data TermTree : Type 0 where
  column : Name → TermTree
  number : ℕ → ℤ → TermTree
  -- a number without its point, and how many digits stand behind the point
  decimal : ℕ → ℤ → ℕ → TermTree
  text : ℕ → List ℕ → TermTree
  flag : ℕ → Bool → TermTree
  binary : ℕ → Operator → TermTree → TermTree → TermTree
  negate : ℕ → TermTree → TermTree
  not : ℕ → TermTree → TermTree
  case : ℕ → TermTree → TermTree
  -- a part of a CASE: its condition, its value, and the next part, which is `when` again or the value of ELSE
  when : TermTree → TermTree → TermTree → TermTree
  count_rows : ℕ → TermTree
  aggregate : ℕ → AggWord → TermTree → TermTree

pub data ItemTree : Type 0 where
  star : ℕ → ItemTree
  star_of : ℕ → List ℕ → ItemTree
  value : TermTree → Option (List ℕ) → ItemTree

pub data SetWord : Type 0 where
  union : SetWord
  except : SetWord

mutual
  pub data QueryTree : Type 0 where
    -- the place, DISTINCT, items, sources, condition, keys, GROUP BY, HAVING
    select : ℕ → Bool → List ItemTree → Sources → Option (ℕ × TermTree) → List Name → Bool → Option (ℕ × TermTree) → QueryTree
    -- the set word, ALL, the place, both sides
    set : SetWord → Bool → ℕ → QueryTree → QueryTree → QueryTree

  pub data Sources : Type 0 where
    no_sources : Sources
    table : ℕ → List ℕ → Option (List ℕ) → Sources → Sources
    inner : ℕ → QueryTree → List ℕ → Sources → Sources
