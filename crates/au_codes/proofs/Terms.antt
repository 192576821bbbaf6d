-- The value of an expression over cells is the number of its value.
use Rattle.std.specs.Prelude.{◌≡◌, ℕ, zero, suc, Bool, true, false, ◌&&◌, ◌||◌, not, List, [], ◌∷◌, ◌++◌, map, slice_get, Some, if◌then◌else◌, ℤ, ◌+ℤ◌, ◌-ℤ◌, ◌*ℤ◌, neg_ℤ}
use Rattle.std.specs.Ordering.{int_cmp, int_eq, is_le, is_lt, is_eq}
use Rattle.std.proofs.Common.{refl, sym, ap, ◌∙◌}
use Rattle.au_value.specs.declared.kinds.Kind.{Kind}
use Rattle.au_value.specs.declared.kinds.Kind.TheVariants as kind
use Rattle.au_value.specs.declared.value.Value.{Value}
use Rattle.au_value.specs.declared.value.Value.TheVariants.{Int, Text, Flag}
use Rattle.au_value.specs.Order.{kind_of, order, at_most, below, equal}
use Rattle.au_value.specs.Ranges.{lesser, greater}
use Rattle.au_expr.specs.Ordinary.{number, is_true}
use Rattle.au_expr.proofs.Along.{agreed_is, both_of, is_kind_is, kind_if_is, one_of, only_if_is, some_agreed}
use Rattle.au_algebra.specs.Lists.{value_at}
use Rattle.au_plain.specs.declared.expr.Comparison2.{Comparison2}
use Rattle.au_plain.specs.declared.expr.Comparison2.TheVariants as how
use Rattle.au_plain.specs.PTerms.{PTerm, PTerms, nil, cons, plain_value, least_value, greatest_value, plainly}
use Rattle.au_plain.specs.PTerms as term
use Rattle.au_plain.specs.PlanKinds.{plain_kind, common_kind}
use Rattle.au_codes.specs.Codes.{Code, KeepsOrder, code, coded_row, flag, number_at_most, Knows, KnowsRow}
use Rattle.au_codes.specs.CodedPlans.{coded_literal, coded_term, coded_terms, literals, all_literals, KnowsTerm}
use Rattle.au_codes.specs.CellMeaning.{cell, cell_value, least_cell, greatest_cell, cell_in, truth, numbers_compare, number_below, lesser_number, greater_number}
use Rattle.au_codes.proofs.KeptOrder.{values_order}
use Rattle.au_codes.proofs.Lists.{all_parts}

-- a value of a kind that the code knows
pub record IsCell (c : Code) (k : Kind) (v : Value) : Type 0 where
  pub kind : kind_of v ≡ k
  pub known : Knows c v

-- a row of values of these kinds that the code knows
pub record IsRow (c : Code) (ks : List Kind) (row : List Value) : Type 0 where
  pub kinds : map kind_of row ≡ ks
  pub known : KnowsRow c row

-- a value of a kind that the code knows, and its number
pub record HasCell (c : Code) (k : Kind) (v : Value) (z : ℤ) : Type 0 where
  pub kind : kind_of v ≡ k
  pub known : Knows c v
  pub is : z ≡ code c v

module _ (c : Code) (keeps : KeepsOrder c) where
  module _ (k : Kind) (u v : Value) (a : IsCell c k u) (b : IsCell c k v) where
    ordered : int_cmp (code c u) (code c v) ≡ order u v
    ordered = values_order c keeps u v (a.kind ∙ sym b.kind) a.known b.known

    pub at_most_number : number_at_most (code c u) (code c v) ≡ at_most u v
    at_most_number = ap is_le ordered

    pub below_number : number_below (code c u) (code c v) ≡ below u v
    below_number = ap is_lt ordered

    pub equal_number : int_eq (code c u) (code c v) ≡ equal u v
    equal_number = ap is_eq ordered

    pub compare_number : (op : Comparison2) → numbers_compare op (code c u) (code c v) ≡ plainly op u v
    compare_number how.Equal = equal_number
    compare_number how.Less = below_number
    compare_number how.AtMost = at_most_number

  -- the value in a column
  pub cell_at : (row : List Value) (ks : List Kind) (i : ℕ) (k : Kind) → map kind_of row ≡ ks → KnowsRow c row → slice_get ks i ≡ Some k → IsCell c k (value_at row i)
  cell_at [] [] i k e h s = cc
  cell_at [] (j ∷ ks) i k e h s = cc
  cell_at (v ∷ row) [] i k e h s = cc
  cell_at (v ∷ row) (j ∷ ks) zero k e h s = record { kind = (let own : kind_of v ≡ k = cc in own); known = h.0 }
  cell_at (v ∷ row) (j ∷ ks) (suc i) k e h s = cell_at row ks i k (let own : map kind_of row ≡ ks = cc in own) h.1 s

  -- the number in a column
  pub cell_in_row : (row : List Value) (i : ℕ) → cell_in (coded_row c row) i ≡ code c (value_at row i)
  cell_in_row [] i = refl
  cell_in_row (v ∷ row) zero = refl
  cell_in_row (v ∷ row) (suc i) = cell_in_row row i

  -- a value that is written out
  pub literal_cell : (v : Value) → cell (coded_literal c v) ≡ code c v
  literal_cell (Int n) = refl
  literal_cell (Text w) = refl
  literal_cell (Flag b) = refl

  -- whole numbers and flags
  pub whole_cell : (v : Value) → kind_of v ≡ kind.Int → code c v ≡ number v
  whole_cell (Int n) h = refl
  whole_cell (Text w) h = cc
  whole_cell (Flag b) h = cc

  flag_truth : (b : Bool) → truth (flag b) ≡ b
  flag_truth true = refl
  flag_truth false = refl

  truth_of : (v : Value) → kind_of v ≡ kind.Flag → truth (code c v) ≡ is_true v
  truth_of (Int n) h = cc
  truth_of (Text w) h = cc
  truth_of (Flag b) h = flag_truth b

  number_of : (v : Value) (z : ℤ) → HasCell c kind.Int v z → z ≡ number v
  number_of v z h = h.is ∙ whole_cell v h.kind

  pub truth_is : (v : Value) (z : ℤ) → HasCell c kind.Flag v z → truth z ≡ is_true v
  truth_is v z h = ap truth h.is ∙ truth_of v h.kind

  -- one of two
  chosen_cell : (b t : Bool) (k : Kind) (u v : Value) (y z : ℤ) → t ≡ b → HasCell c k u y → HasCell c k v z → HasCell c k (if b then u else v) (if t then y else z)
  chosen_cell true t k u v y z e h g = record { kind = h.kind; known = h.known; is = (λ i. if e i then y else z) ∙ h.is }
  chosen_cell false t k u v y z e h g = record { kind = g.kind; known = g.known; is = (λ i. if e i then y else z) ∙ g.is }

  cell_of : (k : Kind) (v : Value) (z : ℤ) → HasCell c k v z → IsCell c k v
  cell_of k v z h = record { kind = h.kind; known = h.known }

  at_most_is : (k : Kind) (u v : Value) (y z : ℤ) → HasCell c k u y → HasCell c k v z → number_at_most y z ≡ at_most u v
  at_most_is k u v y z h g = (λ i. number_at_most (h.is i) (g.is i)) ∙ at_most_number k u v (cell_of k u y h) (cell_of k v z g)

  compare_is : (op : Comparison2) (k : Kind) (u v : Value) (y z : ℤ) → HasCell c k u y → HasCell c k v z → numbers_compare op y z ≡ plainly op u v
  compare_is op k u v y z h g = (λ i. numbers_compare op (h.is i) (g.is i)) ∙ compare_number k u v (cell_of k u y h) (cell_of k v z g) op

  pub lesser_has : (k : Kind) (u v : Value) (y z : ℤ) → HasCell c k u y → HasCell c k v z → HasCell c k (lesser u v) (lesser_number y z)
  lesser_has k u v y z h g = chosen_cell (at_most u v) (number_at_most y z) k u v y z (at_most_is k u v y z h g) h g

  pub greater_has : (k : Kind) (u v : Value) (y z : ℤ) → HasCell c k u y → HasCell c k v z → HasCell c k (greater u v) (greater_number y z)
  greater_has k u v y z h g = chosen_cell (at_most u v) (number_at_most y z) k v u z y (at_most_is k u v y z h g) g h

  int_has : (k : Kind) (m z : ℤ) → kind.Int ≡ k → z ≡ m → HasCell c k (Int m) z
  int_has k m z same e = record { kind = same; known = tt; is = e }

  flag_has : (k : Kind) (b d : Bool) → kind.Flag ≡ k → d ≡ b → HasCell c k (Flag b) (flag d)
  flag_has k b d same e = record { kind = same; known = tt; is = ap flag e }

  module _ (ks : List Kind) (row : List Value) (has : map kind_of row ≡ ks) (knows : KnowsRow c row) where
    mutual
      pub term_cell : (e : PTerm) (k : Kind) → plain_kind ks e ≡ Some k → KnowsTerm c e → HasCell c k (plain_value e row) (cell_value (coded_term c e) (coded_row c row))
      term_cell (term.Column i) k h w =
          let own = cell_at row ks i k has knows h in
          record { kind = own.kind; known = own.known; is = cell_in_row row i }
      term_cell (term.Literal v) k h w = record { kind = (let own : kind_of v ≡ k = cc in own); known = w.0; is = literal_cell v }
      term_cell (term.Add a b) k h w =
          let p = both_of kind.Int kind.Int _ _ k h in
          let q = all_parts (Knows c) (literals a) (literals b) w in
          let x = number_of _ _ (term_cell a kind.Int p.0 q.0) in
          let y = number_of _ _ (term_cell b kind.Int p.1 q.1) in
          int_has k _ _ p.2 (λ i. x i +ℤ y i)
      term_cell (term.Subtract a b) k h w =
          let p = both_of kind.Int kind.Int _ _ k h in
          let q = all_parts (Knows c) (literals a) (literals b) w in
          let x = number_of _ _ (term_cell a kind.Int p.0 q.0) in
          let y = number_of _ _ (term_cell b kind.Int p.1 q.1) in
          int_has k _ _ p.2 (λ i. x i -ℤ y i)
      term_cell (term.Multiply a b) k h w =
          let p = both_of kind.Int kind.Int _ _ k h in
          let q = all_parts (Knows c) (literals a) (literals b) w in
          let x = number_of _ _ (term_cell a kind.Int p.0 q.0) in
          let y = number_of _ _ (term_cell b kind.Int p.1 q.1) in
          int_has k _ _ p.2 (λ i. x i *ℤ y i)
      term_cell (term.Negate a) k h w =
          let p = one_of kind.Int kind.Int _ k h in
          let x = number_of _ _ (term_cell a kind.Int p.0 w) in
          int_has k _ _ p.1 (λ i. neg_ℤ (x i))
      term_cell (term.Compare op a b) k h w =
          let p = kind_if_is _ _ _ h in
          let s = some_agreed _ _ p.0 in
          let q = all_parts (Knows c) (literals a) (literals b) w in
          flag_has k _ _ p.1 (compare_is op s.0 _ _ _ _ (term_cell a s.0 s.1 q.0) (term_cell b s.0 s.2 q.1))
      term_cell (term.And a b) k h w =
          let p = both_of kind.Flag kind.Flag _ _ k h in
          let q = all_parts (Knows c) (literals a) (literals b) w in
          let x = truth_is _ _ (term_cell a kind.Flag p.0 q.0) in
          let y = truth_is _ _ (term_cell b kind.Flag p.1 q.1) in
          flag_has k _ _ p.2 (λ i. x i && y i)
      term_cell (term.Or a b) k h w =
          let p = both_of kind.Flag kind.Flag _ _ k h in
          let q = all_parts (Knows c) (literals a) (literals b) w in
          let x = truth_is _ _ (term_cell a kind.Flag p.0 q.0) in
          let y = truth_is _ _ (term_cell b kind.Flag p.1 q.1) in
          flag_has k _ _ p.2 (λ i. x i || y i)
      term_cell (term.Not a) k h w =
          let p = one_of kind.Flag kind.Flag _ k h in
          let x = truth_is _ _ (term_cell a kind.Flag p.0 w) in
          flag_has k _ _ p.1 (λ i. not (x i))
      term_cell (term.Case f a b) k h w =
          let p = only_if_is _ _ _ h in
          let s = agreed_is _ _ _ p.1 in
          let q = all_parts (Knows c) (literals f) (literals a ++ literals b) w in
          let r = all_parts (Knows c) (literals a) (literals b) q.1 in
          let x = truth_is _ _ (term_cell f kind.Flag (is_kind_is kind.Flag _ p.0) q.0) in
          chosen_cell _ _ k _ _ _ _ x (term_cell a k s.0 r.0) (term_cell b k s.1 r.1)
      term_cell (term.Least es) k h w = least_has es k h w
      term_cell (term.Greatest es) k h w = greatest_has es k h w

      least_has : (es : PTerms) (k : Kind) → common_kind ks es ≡ Some k → KnowsRow c (all_literals es) → HasCell c k (least_value es row) (least_cell (coded_terms c es) (coded_row c row))
      least_has nil k h w = cc
      least_has (cons e nil) k h w = term_cell e k h (all_parts (Knows c) (literals e) [] w).0
      least_has (cons e (cons f es)) k h w =
          let s = agreed_is (plain_kind ks e) (common_kind ks (cons f es)) k h in
          let q = all_parts (Knows c) (literals e) (all_literals (cons f es)) w in
          lesser_has k _ _ _ _ (term_cell e k s.0 q.0) (least_has (cons f es) k s.1 q.1)

      greatest_has : (es : PTerms) (k : Kind) → common_kind ks es ≡ Some k → KnowsRow c (all_literals es) → HasCell c k (greatest_value es row) (greatest_cell (coded_terms c es) (coded_row c row))
      greatest_has nil k h w = cc
      greatest_has (cons e nil) k h w = term_cell e k h (all_parts (Knows c) (literals e) [] w).0
      greatest_has (cons e (cons f es)) k h w =
          let s = agreed_is (plain_kind ks e) (common_kind ks (cons f es)) k h in
          let q = all_parts (Knows c) (literals e) (all_literals (cons f es)) w in
          greater_has k _ _ _ _ (term_cell e k s.0 q.0) (greatest_has (cons f es) k s.1 q.1)
