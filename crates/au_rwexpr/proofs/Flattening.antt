-- How the columns of an expression are added to others: first those of its parts, then its own three.
use Rattle.std.specs.Prelude.{◌≡◌, ℕ, ◌+◌, ◌*◌, List, ◌++◌, length, map}
use Rattle.std.proofs.Common.{arith, refl, sym, ◌∙◌, ap, append_assoc}
use Rattle.std.proofs.lemmas.List.{length-append, length-map}
use Rattle.au_value.specs.declared.comparison.Comparison.{Comparison}
use Rattle.au_value.specs.declared.comparison.Comparison.TheVariants.{Equal, Differs, Less, AtMost, Greater, AtLeast}
use Rattle.au_expr.specs.Terms.{Term, Column, Literal, Add, Subtract, Multiply, Negate, Compare, And, Or, Not, Case}
use Rattle.au_plain.specs.declared.expr.PExpr.{PExpr}
use Rattle.au_plain.specs.PTerms.{PTerm, pterm}
use Rattle.au_rwexpr.specs.Flatten as plain
use Rattle.au_rwexpr.specs.Flatten.{before, flatten}
use Rattle.au_rwexpr.specs.Nodes.{AddsColumns, nodes, operator_step}

compare_long : (how : Comparison) (i j : ℕ) → length (plain.compare_step how i j) ≡ 3
compare_long Equal i j = refl
compare_long Differs i j = refl
compare_long Less i j = refl
compare_long AtMost i j = refl
compare_long Greater i j = refl
compare_long AtLeast i j = refl

one_long : (xs own : List PTerm) (n : ℕ) → length xs ≡ n → length own ≡ 3 → length (xs ++ own) ≡ n + 3
one_long xs own n p q = length-append xs own ∙ (λ i. p i + q i)

two_long : (xs ys own : List PTerm) (n m : ℕ) → length xs ≡ n → length ys ≡ m → length own ≡ 3 → length (xs ++ (ys ++ own)) ≡ n + m + 3
two_long xs ys own n m p q r = omega (arith, length-append xs (ys ++ own), length-append ys own, p, q, r)

three_long : (xs ys zs own : List PTerm) (n m k : ℕ) → length xs ≡ n → length ys ≡ m → length zs ≡ k → length own ≡ 3 → length (xs ++ (ys ++ (zs ++ own))) ≡ n + (m + k) + 3
three_long xs ys zs own n m k p q r s = omega (arith, length-append xs (ys ++ (zs ++ own)), two_long ys zs own m k q r s, p)

-- three columns for each node
pub flatten_long : (n : ℕ) (e : Term) → length (flatten n e) ≡ before e + 3
flatten_long n (Column i) = refl
flatten_long n (Literal v) = refl
flatten_long n (Add a b) = two_long (flatten n a) (flatten (n + (before a + 3)) b) (plain.add_step (n + before a) (n + (before a + 3) + before b)) (before a + 3) (before b + 3) (flatten_long n a) (flatten_long (n + (before a + 3)) b) refl
flatten_long n (Subtract a b) = two_long (flatten n a) (flatten (n + (before a + 3)) b) (plain.subtract_step (n + before a) (n + (before a + 3) + before b)) (before a + 3) (before b + 3) (flatten_long n a) (flatten_long (n + (before a + 3)) b) refl
flatten_long n (Multiply a b) = two_long (flatten n a) (flatten (n + (before a + 3)) b) (plain.multiply_step (n + before a) (n + (before a + 3) + before b)) (before a + 3) (before b + 3) (flatten_long n a) (flatten_long (n + (before a + 3)) b) refl
flatten_long n (Negate a) = one_long (flatten n a) (plain.negate_step (n + before a)) (before a + 3) (flatten_long n a) refl
flatten_long n (Compare how a b) = two_long (flatten n a) (flatten (n + (before a + 3)) b) (plain.compare_step how (n + before a) (n + (before a + 3) + before b)) (before a + 3) (before b + 3) (flatten_long n a) (flatten_long (n + (before a + 3)) b) (compare_long how (n + before a) (n + (before a + 3) + before b))
flatten_long n (And a b) = two_long (flatten n a) (flatten (n + (before a + 3)) b) (plain.and_step (n + before a) (n + (before a + 3) + before b)) (before a + 3) (before b + 3) (flatten_long n a) (flatten_long (n + (before a + 3)) b) refl
flatten_long n (Or a b) = two_long (flatten n a) (flatten (n + (before a + 3)) b) (plain.or_step (n + before a) (n + (before a + 3) + before b)) (before a + 3) (before b + 3) (flatten_long n a) (flatten_long (n + (before a + 3)) b) refl
flatten_long n (Not a) = one_long (flatten n a) (plain.not_step (n + before a)) (before a + 3) (flatten_long n a) refl
flatten_long n (Case c a b) =
    let i = n + (before c + 3) in
    let j = i + (before a + 3) in
    three_long (flatten n c) (flatten i a) (flatten j b) (plain.case_step (n + before c) (i + before a) (j + before b)) (before c + 3) (before a + 3) (before b + 3) (flatten_long n c) (flatten_long i a) (flatten_long j b) refl

pub before_is : (e : Term) → before e + 3 ≡ 3 * nodes e
before_is (Column i) = refl
before_is (Literal v) = refl
before_is (Add a b) = omega (arith, before_is a, before_is b)
before_is (Subtract a b) = omega (arith, before_is a, before_is b)
before_is (Multiply a b) = omega (arith, before_is a, before_is b)
before_is (Negate a) = omega (arith, before_is a)
before_is (Compare how a b) = omega (arith, before_is a, before_is b)
before_is (And a b) = omega (arith, before_is a, before_is b)
before_is (Or a b) = omega (arith, before_is a, before_is b)
before_is (Not a) = omega (arith, before_is a)
before_is (Case c a b) = omega (arith, before_is c, before_is a, before_is b)

-- how many columns there are then
pub adds_long : (w : ℕ) (e : Term) (old new : List PExpr) (at : ℕ) → AddsColumns w e old new at → length new ≡ length old + (before e + 3)
adds_long w e old new at x =
    sym (length-map new pterm) ∙ ap length x.columns ∙ length-append (map pterm old) (flatten (w + length old) e)
    ∙ (λ i. length-map old pterm i + flatten_long (w + length old) e i)

-- an operator with its two parts, and with its one part
pub data TwoParts : Term → Term → Term → Type 0 where
  sum : {a b : Term} → TwoParts (Add a b) a b
  difference : {a b : Term} → TwoParts (Subtract a b) a b
  product : {a b : Term} → TwoParts (Multiply a b) a b
  comparison : {a b : Term} (how : Comparison) → TwoParts (Compare how a b) a b
  conjunction : {a b : Term} → TwoParts (And a b) a b
  disjunction : {a b : Term} → TwoParts (Or a b) a b

pub data OnePart : Term → Term → Type 0 where
  negation : {a : Term} → OnePart (Negate a) a
  opposite : {a : Term} → OnePart (Not a) a

module _ (w : ℕ) (old new : List PExpr) (own : List PTerm) (at : ℕ) where
  leaf : (e : Term) → before e ≡ 0 → own ≡ flatten (w + length old) e → map pterm new ≡ map pterm old ++ own → at ≡ w + length old → AddsColumns w e old new at
  leaf e none is h p = record { columns = h ∙ ap (λ xs. map pterm old ++ xs) is; place = omega (arith, p, none) }

  pub column_adds : (i k : ℕ) → k ≡ 3 * i → own ≡ plain.column_step k → map pterm new ≡ map pterm old ++ own → at ≡ w + length old → AddsColumns w (Column i) old new at
  column_adds i k e is h p = leaf (Column i) refl (is ∙ ap plain.column_step e) h p

  pub literal_adds : (v : _) → own ≡ flatten 0 (Literal v) → map pterm new ≡ map pterm old ++ own → at ≡ w + length old → AddsColumns w (Literal v) old new at
  literal_adds v is h p = leaf (Literal v) refl is h p

  abbrev n : ℕ
  n = w + length old

  one : (step : ℕ → List PTerm) (e a : Term) → flatten n e ≡ flatten n a ++ step (n + before a) → before e ≡ before a + 3 → (c1 : List PExpr) (i : ℕ) → AddsColumns w a old c1 i → own ≡ step i → map pterm new ≡ map pterm c1 ++ own → at ≡ w + length c1 → AddsColumns w e old new at
  one step e a flat bf c1 i x is h p = record {
    columns =
        h
        ∙ (λ k. x.columns k ++ (is ∙ ap step x.place) k)
        ∙ append_assoc (map pterm old) (flatten n a) (step (n + before a))
        ∙ ap (λ xs. map pterm old ++ xs) (sym flat);
    place = omega (arith, p, bf, adds_long w a old c1 i x);
  }

  two : (step : ℕ → ℕ → List PTerm) (e a b : Term) → flatten n e ≡ flatten n a ++ (flatten (n + (before a + 3)) b ++ step (n + before a) (n + (before a + 3) + before b)) → before e ≡ before a + 3 + (before b + 3) → (c1 c2 : List PExpr) (i j : ℕ) → AddsColumns w a old c1 i → AddsColumns w b c1 c2 j → own ≡ step i j → map pterm new ≡ map pterm c2 ++ own → at ≡ w + length c2 → AddsColumns w e old new at
  two step e a b flat bf c1 c2 i j x y is h p =
      let m = n + (before a + 3) in
      let wide : w + length c1 ≡ m = omega (arith, adds_long w a old c1 i x) in
      let second : map pterm c2 ≡ map pterm c1 ++ flatten m b = y.columns ∙ ap (λ k. map pterm c1 ++ flatten k b) wide in
      let place : j ≡ m + before b = y.place ∙ ap (λ k. k + before b) wide in
      let last : own ≡ step (n + before a) (m + before b) = is ∙ (λ k. step (x.place k) (place k)) in
      record {
        columns =
            h
            ∙ (λ k. second k ++ last k)
            ∙ ap (λ xs. (xs ++ flatten m b) ++ step (n + before a) (m + before b)) x.columns
            ∙ append_assoc (map pterm old ++ flatten n a) (flatten m b) (step (n + before a) (m + before b))
            ∙ append_assoc (map pterm old) (flatten n a) (flatten m b ++ step (n + before a) (m + before b))
            ∙ ap (λ xs. map pterm old ++ xs) (sym flat);
        place = omega (arith, p, bf, adds_long w a old c1 i x, adds_long w b c1 c2 j y);
      }

  pub two_adds : (e a b : Term) → TwoParts e a b → (c1 c2 : List PExpr) (i j : ℕ) → AddsColumns w a old c1 i → AddsColumns w b c1 c2 j → own ≡ operator_step e i j → map pterm new ≡ map pterm c2 ++ own → at ≡ w + length c2 → AddsColumns w e old new at
  two_adds e a b sum = two plain.add_step e a b refl refl
  two_adds e a b difference = two plain.subtract_step e a b refl refl
  two_adds e a b product = two plain.multiply_step e a b refl refl
  two_adds e a b (comparison how) = two (plain.compare_step how) e a b refl refl
  two_adds e a b conjunction = two plain.and_step e a b refl refl
  two_adds e a b disjunction = two plain.or_step e a b refl refl

  pub one_adds : (e a : Term) → OnePart e a → (c1 : List PExpr) (i : ℕ) → AddsColumns w a old c1 i → own ≡ operator_step e i i → map pterm new ≡ map pterm c1 ++ own → at ≡ w + length c1 → AddsColumns w e old new at
  one_adds e a negation = one plain.negate_step e a refl refl
  one_adds e a opposite = one plain.not_step e a refl refl

  pub case_adds : (c a b : Term) (c1 c2 c3 : List PExpr) (m i j : ℕ) → AddsColumns w c old c1 m → AddsColumns w a c1 c2 i → AddsColumns w b c2 c3 j → own ≡ plain.case_step m i j → map pterm new ≡ map pterm c3 ++ own → at ≡ w + length c3 → AddsColumns w (Case c a b) old new at
  case_adds c a b c1 c2 c3 m i j z x y is h p =
      let k1 = n + (before c + 3) in
      let k2 = k1 + (before a + 3) in
      let wide1 : w + length c1 ≡ k1 = omega (arith, adds_long w c old c1 m z) in
      let wide2 : w + length c2 ≡ k2 = omega (arith, wide1, adds_long w a c1 c2 i x) in
      let second : map pterm c2 ≡ map pterm c1 ++ flatten k1 a = x.columns ∙ ap (λ k. map pterm c1 ++ flatten k a) wide1 in
      let third : map pterm c3 ≡ map pterm c2 ++ flatten k2 b = y.columns ∙ ap (λ k. map pterm c2 ++ flatten k b) wide2 in
      let place1 : i ≡ k1 + before a = x.place ∙ ap (λ k. k + before a) wide1 in
      let place2 : j ≡ k2 + before b = y.place ∙ ap (λ k. k + before b) wide2 in
      let step = plain.case_step (n + before c) (k1 + before a) (k2 + before b) in
      let last : own ≡ step = is ∙ (λ k. plain.case_step (z.place k) (place1 k) (place2 k)) in
      record {
        columns =
            h
            ∙ (λ k. third k ++ last k)
            ∙ ap (λ xs. (xs ++ flatten k2 b) ++ step) (second ∙ ap (λ xs. xs ++ flatten k1 a) z.columns)
            ∙ append_assoc ((map pterm old ++ flatten n c) ++ flatten k1 a) (flatten k2 b) step
            ∙ append_assoc (map pterm old ++ flatten n c) (flatten k1 a) (flatten k2 b ++ step)
            ∙ append_assoc (map pterm old) (flatten n c) (flatten k1 a ++ (flatten k2 b ++ step));
        place = omega (arith, p, adds_long w c old c1 m z, adds_long w a c1 c2 i x, adds_long w b c2 c3 j y);
      }
