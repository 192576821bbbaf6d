-- The columns of a flattened expression, for any reading that goes along with the columns of each node.
use Rattle.std.specs.Prelude.{◌≡◌, ℕ, ◌+◌, ◌*◌, List, [], ◌∷◌, ◌++◌, length, map, Option, Some}
use Rattle.std.specs.List.{AllByRecursion}
use Rattle.std.proofs.Common.{refl, sym, ◌∙◌, ap, subst, append_assoc}
use Rattle.std.proofs.lemmas.List.{length-append, append-nil}
use Rattle.au_value.specs.declared.kinds.Kind.{Kind}
use Rattle.au_value.specs.declared.kinds.Kind.TheVariants.{Int, Flag}
use Rattle.au_value.specs.declared.value.Value.{Value}
use Rattle.au_value.specs.declared.comparison.Comparison.{Comparison}
use Rattle.au_expr.specs.Terms.{Term, Column, Literal, Add, Subtract, Multiply, Negate, Compare, And, Or, Not, Case}
use Rattle.au_expr.specs.Kinds.{kind_in}
use Rattle.au_expr.proofs.Along.{is_kind_is, kind_if_is, only_if_is, some_agreed, agreed_is, both_of, one_of}
use Rattle.au_plain.specs.PTerms.{PTerm}
use Rattle.au_rwexpr.specs.Flatten as plain
use Rattle.au_rwexpr.specs.Flatten.{before, flatten}
use Rattle.au_rwexpr.proofs.Places.{Ends, EndsOfAll, ends, ends_more, last_ends, all_ends, all_ends_more}
use Rattle.au_algebra.specs.Typing.{items_kinds, all_kinds}
use Rattle.au_algebra.proofs.Items.{and_then_is}
use Rattle.au_rwexpr.specs.Flatten.{flatten_items, item_places}
use Rattle.au_rwexpr.specs.Cells.{three_places}
use Rattle.au_rwexpr.proofs.Picks.{Picks, picks_more, pick_three}
use Rattle.au_rwexpr.proofs.Columns.{AllMean, add_columns, adds, then_adds}
use Rattle.au_rwexpr.proofs.Coded.{own}

-- what holds of an expression holds of its parts
pub record Below (Fine : Term → Type 0) : Type 0 where
  pub add : (a b : Term) → Fine (Add a b) → Fine a × Fine b
  pub subtract : (a b : Term) → Fine (Subtract a b) → Fine a × Fine b
  pub multiply : (a b : Term) → Fine (Multiply a b) → Fine a × Fine b
  pub negate : (a : Term) → Fine (Negate a) → Fine a
  pub compare : (how : Comparison) (a b : Term) → Fine (Compare how a b) → Fine a × Fine b
  pub and : (a b : Term) → Fine (And a b) → Fine a × Fine b
  pub or : (a b : Term) → Fine (Or a b) → Fine a × Fine b
  pub not : (a : Term) → Fine (Not a) → Fine a
  pub choose : (c a b : Term) → Fine (Case c a b) → Fine c × Fine a × Fine b

abbrev pub Any : Term → Type 0
Any e = Unit {0}

pub below_any : Below Any
below_any = record {
  add = λ a b z. (tt, tt);
  subtract = λ a b z. (tt, tt);
  multiply = λ a b z. (tt, tt);
  negate = λ a z. tt;
  compare = λ how a b z. (tt, tt);
  and = λ a b z. (tt, tt);
  or = λ a b z. (tt, tt);
  not = λ a z. tt;
  choose = λ c a b z. (tt, tt, tt);
}

pub any_of : (es : List Term) → AllByRecursion Any es
any_of [] = tt
any_of (e ∷ es) = (tt, any_of es)

module _ {A X : Type 0} (l s h : X → A) (f : List A → PTerm → Option A) (ks : List Kind) (xs : List X) (result : Term → X) where
  abbrev pub Own : List A → List PTerm → Term → Type 0
  Own row es e = AllMean f row es (ends l s h (result e))

  abbrev pub Found : List A → ℕ → Term → Type 0
  Found row i e = Ends l s h row i (result e)

  abbrev pub Kinded : Term → Kind → Type 0
  Kinded e k = kind_in ks e ≡ Some k

  -- the columns before an expression's own, and all
  abbrev pub all_of : List A → Term → List A
  all_of p e = p ++ ends l s h (result e)

  abbrev pub parts : Term → List A
  parts (Column i) = []
  parts (Literal v) = []
  parts (Add a b) = all_of (parts a) a ++ all_of (parts b) b
  parts (Subtract a b) = all_of (parts a) a ++ all_of (parts b) b
  parts (Multiply a b) = all_of (parts a) a ++ all_of (parts b) b
  parts (Negate a) = all_of (parts a) a
  parts (Compare how a b) = all_of (parts a) a ++ all_of (parts b) b
  parts (And a b) = all_of (parts a) a ++ all_of (parts b) b
  parts (Or a b) = all_of (parts a) a ++ all_of (parts b) b
  parts (Not a) = all_of (parts a) a
  parts (Case c a b) = all_of (parts c) c ++ (all_of (parts a) a ++ all_of (parts b) b)

  abbrev pub added : Term → List A
  added e = all_of (parts e) e

  one_long : (a : Term) → length (parts a) ≡ before a → length (added a) ≡ before a + 3
  one_long a p = length-append (parts a) (ends l s h (result a)) ∙ ap (λ n. n + 3) p

  two_long : (a b : Term) → length (parts a) ≡ before a → length (parts b) ≡ before b → length (added a ++ added b) ≡ before a + 3 + (before b + 3)
  two_long a b p q = length-append (added a) (added b) ∙ (λ i. one_long a p i + one_long b q i)

  pub parts_long : (e : Term) → length (parts e) ≡ before e
  parts_long (Column i) = refl
  parts_long (Literal v) = refl
  parts_long (Add a b) = two_long a b (parts_long a) (parts_long b)
  parts_long (Subtract a b) = two_long a b (parts_long a) (parts_long b)
  parts_long (Multiply a b) = two_long a b (parts_long a) (parts_long b)
  parts_long (Negate a) = one_long a (parts_long a)
  parts_long (Compare how a b) = two_long a b (parts_long a) (parts_long b)
  parts_long (And a b) = two_long a b (parts_long a) (parts_long b)
  parts_long (Or a b) = two_long a b (parts_long a) (parts_long b)
  parts_long (Not a) = one_long a (parts_long a)
  parts_long (Case c a b) =
      length-append (added c) (added a ++ added b) ∙ (λ i. one_long c (parts_long c) i + two_long a b (parts_long a) (parts_long b) i)

  pub added_long : (e : Term) → length (added e) ≡ before e + 3
  added_long e = one_long e (parts_long e)

  abbrev pub Law : Term → Type 0
  Law e = (row : List A) (n : ℕ) → length row ≡ n → EndsOfAll l s h row 0 xs → add_columns f (flatten n e) row ≡ Some (row ++ added e)

  -- the own columns are the last three
  pub found : (row : List A) (n : ℕ) (e : Term) → length row ≡ n → Found (row ++ added e) (n + before e) e
  found row n e en = last_ends l s h row (parts e) n (before e) (result e) en (parts_long e)

  wider : (row : List A) (n : ℕ) (e : Term) → length row ≡ n → length (row ++ added e) ≡ n + (before e + 3)
  wider row n e en = length-append row (added e) ∙ (λ i. en i + added_long e i)

  last_step : (row es : List A) (gs : List PTerm) (e : Term) → Own (row ++ es) gs e → add_columns f gs (row ++ es) ≡ Some (row ++ all_of es e)
  last_step row es gs e own = adds f (row ++ es) gs (ends l s h (result e)) own ∙ ap Some (append_assoc row es (ends l s h (result e)))

  one_part : (step : ℕ → List PTerm) (e a : Term) → Law a → ((row : List A) (i : ℕ) → Found row i a → Own row (step i) e) → (row : List A) (n : ℕ) → length row ≡ n → EndsOfAll l s h row 0 xs → add_columns f (flatten n a ++ step (n + before a)) row ≡ Some (row ++ all_of (added a) e)
  one_part step e a law own row n en cells =
      then_adds f (flatten n a) (step (n + before a)) row (row ++ added a) _ (law row n en cells)
      (last_step row (added a) (step (n + before a)) e (own (row ++ added a) (n + before a) (found row n a en)))

  two_parts : (step : ℕ → ℕ → List PTerm) (e a b : Term) → Law a → Law b → ((row : List A) (i j : ℕ) → Found row i a → Found row j b → Own row (step i j) e) → (row : List A) (n : ℕ) → length row ≡ n → EndsOfAll l s h row 0 xs → add_columns f (flatten n a ++ (flatten (n + (before a + 3)) b ++ step (n + before a) (n + (before a + 3) + before b))) row ≡ Some (row ++ all_of (added a ++ added b) e)
  two_parts step e a b law_a law_b own row n en cells =
      let m = n + (before a + 3) in
      let i = n + before a in
      let j = m + before b in
      let one = row ++ added a in
      let two = one ++ added b in
      let turned : two ≡ row ++ (added a ++ added b) = append_assoc row (added a) (added b) in
      let cells_one = all_ends_more l s h row (added a) 0 xs cells in
      let at_a = ends_more l s h one (added b) i (result a) (found row n a en) in
      let at_b = found one m b (wider row n a en) in
      then_adds f (flatten n a) (flatten m b ++ step i j) row one _ (law_a row n en cells)
      (then_adds f (flatten m b) (step i j) one two _ (law_b one m (wider row n a en) cells_one)
      (adds f two (step i j) (ends l s h (result e)) (own two i j at_a at_b)
      ∙ ap Some (ap (λ r. r ++ ends l s h (result e)) turned ∙ append_assoc row (added a ++ added b) (ends l s h (result e)))))

  abbrev pub items_added : List Term → List A
  items_added [] = []
  items_added (e ∷ es) = added e ++ items_added es

  -- the own columns of each
  pub items_picked : (items : List Term) (row : List A) (n : ℕ) → length row ≡ n → Picks (row ++ items_added items) (item_places n items) (all_ends l s h (map result items))
  items_picked [] row n en = tt
  items_picked (e ∷ es) row n en =
      let next = row ++ added e in
      let rest = items_added es in
      let turned : next ++ rest ≡ row ++ (added e ++ rest) = append_assoc row (added e) rest in
      let own = pick_three l s h (next ++ rest) (n + before e) (result e) (ends_more l s h next rest (n + before e) (result e) (found row n e en)) in
      let others = items_picked es next (n + (before e + 3)) (wider row n e en) in
      subst (λ r. Picks r (item_places n (e ∷ es)) (all_ends l s h (map result (e ∷ es)))) turned
      (picks_more (next ++ rest) (three_places (n + before e)) (item_places (n + (before e + 3)) es) (ends l s h (result e)) (all_ends l s h (map result es)) own others)

  -- where of each expression that is flattened something holds that holds of its parts too
  module _ (Fine : Term → Type 0) where
    -- the columns of a node with two parts of this kind read its result
    abbrev pub TwoParts : (Term → Term → Term) → (ℕ → ℕ → List PTerm) → Kind → Type 0
    TwoParts node step k =
        (a b : Term) → Fine (node a b) → Kinded a k → Kinded b k → (row : List A) (i j : ℕ) → Found row i a → Found row j b → Own row (step i j) (node a b)

    abbrev pub OnePart : (Term → Term) → (ℕ → List PTerm) → Kind → Type 0
    OnePart node step k = (a : Term) → Fine (node a) → Kinded a k → (row : List A) (i : ℕ) → Found row i a → Own row (step i) (node a)

    -- what each node's columns read
    pub record Steps : Type 0 where
      pub column : (i : ℕ) (k : Kind) → Fine (Column i) → Kinded (Column i) k → (row : List A) → EndsOfAll l s h row 0 xs → Own row (plain.column_step (3 * i)) (Column i)
      pub literal : (v : Value) → Fine (Literal v) → (row : List A) → Own row (flatten 0 (Literal v)) (Literal v)
      pub add : TwoParts Add plain.add_step Int
      pub subtract : TwoParts Subtract plain.subtract_step Int
      pub multiply : TwoParts Multiply plain.multiply_step Int
      pub negate : OnePart Negate plain.negate_step Int
      pub compare : (how : Comparison) (k : Kind) → TwoParts (Compare how) (plain.compare_step how) k
      pub and : TwoParts And plain.and_step Flag
      pub or : TwoParts Or plain.or_step Flag
      pub not : OnePart Not plain.not_step Flag
      pub choose : (k : Kind) (c a b : Term) → Fine (Case c a b) → Kinded c Flag → Kinded a k → Kinded b k → (row : List A) (m i j : ℕ) → Found row m c → Found row i a → Found row j b → Own row (plain.case_step m i j) (Case c a b)

    module _ (below : Below Fine) (steps : Steps) where
      three_parts : (k : Kind) (c a b : Term) → Fine (Case c a b) → Kinded c Flag → Kinded a k → Kinded b k → Law c → Law a → Law b → Law (Case c a b)
      three_parts k c a b fine kc ka kb law_c law_a law_b row n en cells =
          let i = n + (before c + 3) in
          let j = i + (before a + 3) in
          let zero_row = row ++ added c in
          let one = zero_row ++ added a in
          let two = one ++ added b in
          let long_zero = wider row n c en in
          let long_one = wider zero_row i a long_zero in
          let cells_zero = all_ends_more l s h row (added c) 0 xs cells in
          let cells_one = all_ends_more l s h zero_row (added a) 0 xs cells_zero in
          let at_c = ends_more l s h one (added b) (n + before c) (result c) (ends_more l s h zero_row (added a) (n + before c) (result c) (found row n c en)) in
          let at_a = ends_more l s h one (added b) (i + before a) (result a) (found zero_row i a long_zero) in
          let at_b = found one j b long_one in
          let e = Case c a b in
          let all = added c ++ (added a ++ added b) in
          let turned : two ≡ row ++ all =
          append_assoc zero_row (added a) (added b) ∙ append_assoc row (added c) (added a ++ added b) in
          let step = plain.case_step (n + before c) (i + before a) (j + before b) in
          then_adds f (flatten n c) (flatten i a ++ (flatten j b ++ step)) row zero_row _ (law_c row n en cells)
          (then_adds f (flatten i a) (flatten j b ++ step) zero_row one _ (law_a zero_row i long_zero cells_zero)
          (then_adds f (flatten j b) step one two _ (law_b one j long_one cells_one)
          (adds f two step (ends l s h (result e)) (steps.choose k c a b fine kc ka kb two (n + before c) (i + before a) (j + before b) at_c at_a at_b)
          ∙ ap Some (ap (λ r. r ++ ends l s h (result e)) turned ∙ append_assoc row all (ends l s h (result e))))))

      -- Flattening adds the parts' columns, and then the expression's own three.
      pub flattened : (e : Term) (k : Kind) → Fine e → Kinded e k → Law e
      flattened (Column i) k z t = λ row n en cells.
          adds f row (plain.column_step (3 * i)) (ends l s h (result (Column i))) (steps.column i k z t row cells)
      flattened (Literal v) k z t = λ row n en cells. adds f row (flatten 0 (Literal v)) (ends l s h (result (Literal v))) (steps.literal v z row)
      flattened (Add a b) k z t =
          let y = below.add a b z in
          let p = both_of Int Int _ _ k t in
          two_parts plain.add_step (Add a b) a b (flattened a Int y.0 p.0) (flattened b Int y.1 p.1) (steps.add a b z p.0 p.1)
      flattened (Subtract a b) k z t =
          let y = below.subtract a b z in
          let p = both_of Int Int _ _ k t in
          two_parts plain.subtract_step (Subtract a b) a b (flattened a Int y.0 p.0) (flattened b Int y.1 p.1) (steps.subtract a b z p.0 p.1)
      flattened (Multiply a b) k z t =
          let y = below.multiply a b z in
          let p = both_of Int Int _ _ k t in
          two_parts plain.multiply_step (Multiply a b) a b (flattened a Int y.0 p.0) (flattened b Int y.1 p.1) (steps.multiply a b z p.0 p.1)
      flattened (Negate a) k z t =
          let p = one_of Int Int _ k t in one_part plain.negate_step (Negate a) a (flattened a Int (below.negate a z) p.0) (steps.negate a z p.0)
      flattened (Compare how a b) k z t =
          let y = below.compare how a b z in
          let p = kind_if_is _ _ _ t in
          let q = some_agreed _ _ p.0 in
          two_parts (plain.compare_step how) (Compare how a b) a b (flattened a q.0 y.0 q.1) (flattened b q.0 y.1 q.2) (steps.compare how q.0 a b z q.1 q.2)
      flattened (And a b) k z t =
          let y = below.and a b z in
          let p = both_of Flag Flag _ _ k t in
          two_parts plain.and_step (And a b) a b (flattened a Flag y.0 p.0) (flattened b Flag y.1 p.1) (steps.and a b z p.0 p.1)
      flattened (Or a b) k z t =
          let y = below.or a b z in
          let p = both_of Flag Flag _ _ k t in
          two_parts plain.or_step (Or a b) a b (flattened a Flag y.0 p.0) (flattened b Flag y.1 p.1) (steps.or a b z p.0 p.1)
      flattened (Not a) k z t =
          let p = one_of Flag Flag _ k t in one_part plain.not_step (Not a) a (flattened a Flag (below.not a z) p.0) (steps.not a z p.0)
      flattened (Case c a b) k z t =
          let y = below.choose c a b z in
          let p = only_if_is _ _ _ t in
          let q = agreed_is _ _ _ p.1 in
          let pc = is_kind_is Flag _ p.0 in
          three_parts k c a b z pc q.0 q.1 (flattened c Flag y.0 pc) (flattened a k y.1 q.0) (flattened b k y.2 q.1)

      -- ---- several expressions

      pub items_law : (items : List Term) (js : List Kind) → AllByRecursion Fine items → items_kinds ks items ≡ Some js → (row : List A) (n : ℕ) → length row ≡ n → EndsOfAll l s h row 0 xs → add_columns f (flatten_items n items) row ≡ Some (row ++ items_added items)
      items_law [] js z t row n en cells = ap Some (sym (append-nil row))
      items_law (e ∷ es) js z t row n en cells =
          let p = and_then_is _ (kind_in ks e) js t in
          let q = and_then_is _ (all_kinds (map (kind_in ks) es)) js p.2 in
          let next = row ++ added e in
          let m = n + (before e + 3) in
          then_adds f (flatten n e) (flatten_items m es) row next _ (flattened e p.0 z.0 p.1 row n en cells)
          (items_law es q.0 z.1 q.1 next m (wider row n e en) (all_ends_more l s h row (added e) 0 xs cells)
          ∙ ap Some (append_assoc row (added e) (items_added es)))
