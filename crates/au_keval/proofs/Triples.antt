-- At valid triples the general reading is the bounded relation, and its condition says that the numbers lie in the range.
use Rattle.std.specs.Prelude.{◌≡◌, ℕ, ◌+◌, ◌-◌, ◌*◌, ◌^◌, ◌≤◌, ◌==◌, Bool, true, false, not, ◌&&◌, cond, nat_le, nat_lt, List, [], ◌∷◌, ◌++◌, map, flat_map, Some, pos}
use Rattle.std.specs.List.{list_all, AllZip}
use Rattle.std.proofs.Common.{arith, refl, sym, ◌∙◌, ap, subst}
use Rattle.std.proofs.lemmas.Bool.{and_parts, and_from, true≢false, eqb-true, eq-eqb}
use Rattle.std.proofs.lemmas.List.Folds.{list_all-append}
use borrow.Author.Tests.{leb-true, le-leb, lt-ltb, ltb-true}
use Rattle.au_value.specs.declared.kinds.Kind.{Kind}
use Rattle.au_value.specs.declared.kinds.Kind.TheVariants.{Flag}
use Rattle.au_value.specs.Ranges.{Span}
use Rattle.au_value.specs.Numeral.{is_i128}
use Rattle.au_annot.specs.Triples.{Counts, IsTriple, times, none, at_most, is_none, in_range as counts_in_range}
use Rattle.au_expr.specs.Terms.{Term}
use Rattle.au_expr.specs.Kinds.{kind_in}
use Rattle.au_expr.specs.Numbers.{of_ranges, expr_numbers}
use Rattle.au_expr.specs.OnRanges.{on_ranges, range_of}
use Rattle.au_expr.specs.Ordinary.{ordinary, is_true}
use Rattle.au_expr.specs.Truths.{three_way}
use Rattle.au_expr.proofs.Along.{is_kind_is}
use Rattle.au_algebra.specs.Bounded as bounded
use Rattle.au_algebra.specs.Bounded.{RangeRow, Bounded, bounded, truth, weight}
use Rattle.au_algebra.specs.Entries.{entry}
use Rattle.au_algebra.specs.Fits as ints
use Rattle.au_algebra.specs.Laws.{IsRelation}
use Rattle.au_algebra.specs.Positive as positive
use Rattle.au_algebra.specs.Trees.{Tree, Table, Select, Project, Product, Union, Difference, Distinct, Group, Total}
use Rattle.au_algebra.specs.Typing.{kinds_of}
use Rattle.au_algebra.proofs.Each.{all_append}
use Rattle.au_algebra.proofs.Items.{and_then_is, chosen_is}
use Rattle.au_algebra.proofs.KeptBySelect.{selected}
use Rattle.au_algebra.proofs.PositiveRelation.{same_kinds_is, select_loose, project_loose, product_loose}
use Rattle.au_algebra.proofs.RelationRows.{IsLooseRow, IsLoose, relation_loose}
use Rattle.au_algebra.proofs.TreeRelation.{its_kinds, tree_relation}
use Rattle.au_keval.specs.Links.{over_ranges, tables_fit, ReadingIsBounded, ReadingIsCounted, ConditionIsNumbers}
use Rattle.au_keval.specs.Reading.{fits, select_fits, project_fits, product_fits}
use Rattle.au_keval.specs.Weights.{truth_count, truth_triple}

-- two tests that follow from each other
both_ways : (p q : Bool) → (p ≡ true → q ≡ true) → (q ≡ true → p ≡ true) → p ≡ q
both_ways true q f g = sym (f refl)
both_ways false true f g = g refl
both_ways false false f g = refl

-- a truth weighs as its range does
weight_same : (r : Span) → truth_triple (three_way r) ≡ weight r
weight_same r = refl

no_more : (k : Counts) → IsTriple k → k.most ≡ 0 → (k.least ≤ 0) × (k.guess ≤ 0)
no_more k ok e = (omega (arith, ok.least_guess, ok.guess_most, e), omega (arith, ok.guess_most, e))

-- a triple is at most none where it has no copy
pub zero_same : (k : Counts) → IsTriple k → at_most k none ≡ is_none k
zero_same k ok =
    both_ways (at_most k none) (is_none k)
    (λ h. let p = and_parts (nat_le k.least 0 && nat_le k.guess 0) (nat_le k.most 0) h in let m = leb-true k.most 0 p.1 in eq-eqb k.most 0 (omega (arith, m)))
    (λ h. let e = eqb-true k.most 0 h in let n = no_more k ok e in
    and_from (nat_le k.least 0 && nat_le k.guess 0) (nat_le k.most 0) (and_from (nat_le k.least 0) (nat_le k.guess 0) (le-leb k.least 0 n.0) (le-leb k.guess 0 n.1)) (le-leb k.most 0 (omega (arith, e))))

abbrev pub keeping : Bounded → Bounded
keeping rows = positive.present on_ranges over_ranges rows

-- the same rows are present
pub present_same : (ks : List Kind) (rows : Bounded) → IsLoose ks rows → keeping rows ≡ bounded.present rows
present_same ks [] l = refl
present_same ks (r ∷ rows) l = λ i. cond (not (zero_same r.annot l.0.triple i)) (r ∷ present_same ks rows l.1 i) (present_same ks rows l.1 i)

weighed_same : (e : Term) (rows : Bounded) → map (λ r. entry r.cells (times r.annot (truth_triple (three_way (range_of e r.cells))))) rows ≡ map (λ r. entry r.cells (times r.annot (weight (range_of e r.cells)))) rows
weighed_same e [] = refl
weighed_same e (r ∷ rows) = λ i. entry r.cells (times r.annot (weight_same (range_of e r.cells) i)) ∷ weighed_same e rows i

pub select_same : (ks : List Kind) (e : Term) (rows : Bounded) → kind_in ks e ≡ Some Flag → IsRelation ks rows → positive.select on_ranges over_ranges e rows ≡ bounded.select e rows
unfolding selected
select_same ks e rows typed ok = ap keeping (weighed_same e rows) ∙ present_same ks _ (select_loose ks e typed rows ok)

module _ (kinds : List (List Kind)) (ts : List Bounded) (ok : AllZip IsRelation kinds ts) where
  reading_same : (q : Tree) (ks : List Kind) → positive.is_positive q ≡ true → kinds_of kinds q ≡ Some ks → positive.positive on_ranges over_ranges q ts ≡ bounded q ts
  reading_same (Table i) ks p h = refl
  reading_same (Select e q) ks p h =
      let k = and_then_is _ (kinds_of kinds q) ks h in
      let s = chosen_is _ (Some k.0) ks k.2 in
      ap (positive.select on_ranges over_ranges e) (reading_same q k.0 p k.1)
      ∙ select_same k.0 e (bounded q ts) (is_kind_is Flag (kind_in k.0 e) s.0) (tree_relation kinds ts ok q k.0 k.1)
  reading_same (Project items q) ks p h =
      let k = and_then_is _ (kinds_of kinds q) ks h in
      ap (positive.project on_ranges over_ranges items) (reading_same q k.0 p k.1)
      ∙ present_same ks _ (project_loose k.0 items ks k.2 (bounded q ts) (tree_relation kinds ts ok q k.0 k.1))
  reading_same (Product a b) ks p h =
      let t = and_parts (positive.is_positive a) (positive.is_positive b) p in
      let k = and_then_is _ (kinds_of kinds a) ks h in
      let s = and_then_is _ (kinds_of kinds b) ks k.2 in
      (λ i. positive.product on_ranges over_ranges (reading_same a k.0 t.0 k.1 i) (reading_same b s.0 t.1 s.1 i))
      ∙ present_same (k.0 ++ s.0) _ (product_loose k.0 s.0 (bounded a ts) (bounded b ts) (tree_relation kinds ts ok a k.0 k.1) (tree_relation kinds ts ok b s.0 s.1))
  reading_same (Union a b) ks p h =
      let t = and_parts (positive.is_positive a) (positive.is_positive b) p in
      let k = and_then_is _ (kinds_of kinds a) ks h in
      let s = and_then_is _ (kinds_of kinds b) ks k.2 in
      let u = chosen_is _ (Some k.0) ks s.2 in
      let right = subst (λ js. IsRelation js (bounded b ts)) (sym (same_kinds_is k.0 s.0 u.0)) (tree_relation kinds ts ok b s.0 s.1) in
      (λ i. positive.union on_ranges over_ranges (reading_same a k.0 t.0 k.1 i) (reading_same b s.0 t.1 s.1 i))
      ∙ present_same k.0 _ (all_append (IsLooseRow k.0) (bounded a ts) (bounded b ts) (relation_loose k.0 _ (tree_relation kinds ts ok a k.0 k.1)) (relation_loose k.0 _ right))
  reading_same (Difference a b) ks p h = absurd (true≢false (sym p))
  reading_same (Distinct q) ks p h = absurd (true≢false (sym p))
  reading_same (Group keys aggs q) ks p h = absurd (true≢false (sym p))
  reading_same (Total aggs q) ks p h = absurd (true≢false (sym p))

-- the general reading is the bounded relation
pub reading_is_bounded : ReadingIsBounded
reading_is_bounded q kinds ts p typed ok = let k = its_kinds (kinds_of kinds q) typed in reading_same kinds ts ok q k.0 p k.1

-- ---- values and counts

none_same : (n : ℕ) → nat_le n 0 ≡ (n == 0)
none_same n = both_ways (nat_le n 0) (n == 0) (λ h. let m = leb-true n 0 h in eq-eqb n 0 (omega (arith, m))) (λ h. let e = eqb-true n 0 h in le-leb n 0 (omega (arith, e)))

-- the general reading is the counted answer
pub reading_is_counted : ReadingIsCounted
reading_is_counted q ts = λ i. positive.positive ordinary (record { zero = 0; one = 1; plus = λ m n. m + n; times = λ m n. m * n; is_zero = λ n. none_same n i; weight = λ v. truth_count (is_true v) }) q ts

-- ---- the numbers of the bounded relation

count_in : (n : ℕ) → is_i128 (pos n) ≡ nat_lt n (2 ^ 127)
count_in n =
    both_ways (is_i128 (pos n)) (nat_lt n (2 ^ 127))
    (λ h. let m = leb-true n (2 ^ 127 - 1) h in lt-ltb n (2 ^ 127) (omega (arith, m)))
    (λ h. let m = ltb-true n (2 ^ 127) h in let le : n ≤ 2 ^ 127 - 1 = omega (arith, m) in le-leb n (2 ^ 127 - 1) le)

three : (a b c : Bool) → (a && (b && (c && true))) ≡ (a && b && c)
three true true true = refl
three true true false = refl
three true false c = refl
three false b c = refl

triple_in : (k : Counts) → list_all is_i128 (pos k.least ∷ pos k.guess ∷ pos k.most ∷ []) ≡ counts_in_range k
triple_in k =
    three (is_i128 (pos k.least)) (is_i128 (pos k.guess)) (is_i128 (pos k.most))
    ∙ (λ i. count_in k.least i && count_in k.guess i && count_in k.most i)

-- a triple with no copy lies in the range
none_in : (k : Counts) → IsTriple k → k.most ≡ 0 → counts_in_range k ≡ true
none_in k ok e =
    let n = no_more k ok e in
    and_from (nat_lt k.least (2 ^ 127) && nat_lt k.guess (2 ^ 127)) (nat_lt k.most (2 ^ 127))
    (and_from (nat_lt k.least (2 ^ 127)) (nat_lt k.guess (2 ^ 127)) (lt-ltb k.least (2 ^ 127) (omega (arith, n.0))) (lt-ltb k.guess (2 ^ 127) (omega (arith, n.1))))
    (lt-ltb k.most (2 ^ 127) (omega (arith, e)))

module _ {A B : Type 0} where
  pub all_flat : (p : B → Bool) (f : A → List B) (xs : List A) → list_all p (flat_map f xs) ≡ list_all (λ x. list_all p (f x)) xs
  all_flat p f [] = refl
  all_flat p f (x ∷ xs) = list_all-append p (f x) (flat_map f xs) ∙ ap (λ b. list_all p (f x) && b) (all_flat p f xs)

  all_map : (p : B → Bool) (f : A → B) (xs : List A) → list_all p (map f xs) ≡ list_all (λ x. p (f x)) xs
  all_map p f [] = refl
  all_map p f (x ∷ xs) = ap (λ b. p (f x) && b) (all_map p f xs)

crossed : (a b c d : Bool) → ((a && b) && (c && d)) ≡ ((a && c) && (b && d))
crossed true b true d = refl
crossed true true false d = refl
crossed true false false d = refl
crossed false b c d = refl

all_both : {A : Type 0} (p q : A → Bool) (xs : List A) → list_all (λ x. p x && q x) xs ≡ (list_all p xs && list_all q xs)
all_both p q [] = refl
all_both p q (x ∷ xs) = ap (λ b. (p x && q x) && b) (all_both p q xs) ∙ crossed (p x) (q x) (list_all p xs) (list_all q xs)

abbrev within : RangeRow → Bool
within r = counts_in_range r.annot

present_if : (b : Bool) (r : RangeRow) (rest : Bounded) → is_none r.annot ≡ b → IsTriple r.annot → ints.triples_fit (cond (not b) (r ∷ rest) rest) ≡ (within r && ints.triples_fit rest)
present_if true r rest e ok = sym (ap (λ t. t && ints.triples_fit rest) (none_in r.annot ok (eqb-true r.annot.most 0 e)))
present_if false r rest e ok =
    list_all-append is_i128 (pos r.annot.least ∷ pos r.annot.guess ∷ pos r.annot.most ∷ []) (ints.triple_numbers rest)
    ∙ ap (λ t. t && ints.triples_fit rest) (triple_in r.annot)

-- the triples that are present lie in the range where all do
present_in : (ks : List Kind) (rows : Bounded) → IsLoose ks rows → ints.triples_fit (bounded.present rows) ≡ list_all within rows
present_in ks [] l = refl
present_in ks (r ∷ rows) l = present_if (is_none r.annot) r (bounded.present rows) refl l.0.triple ∙ ap (λ t. within r && t) (present_in ks rows l.1)

pub select_numbers : (ks : List Kind) (e : Term) (rows : Bounded) → kind_in ks e ≡ Some Flag → IsRelation ks rows → list_all is_i128 (flat_map (λ r. expr_numbers e r.cells) rows ++ ints.triple_numbers (bounded.select e rows)) ≡ list_all (select_fits on_ranges of_ranges over_ranges counts_in_range e) rows
unfolding selected
select_numbers ks e rows typed ok =
    let sel : RangeRow → RangeRow = λ r. entry r.cells (times r.annot (weight (range_of e r.cells))) in
    list_all-append is_i128 (flat_map (λ r. expr_numbers e r.cells) rows) (ints.triple_numbers (bounded.select e rows))
    ∙ (λ i. all_flat is_i128 (λ r. expr_numbers e r.cells) rows i && present_in ks (map sel rows) (select_loose ks e typed rows ok) i)
    ∙ (λ i. list_all (λ r. list_all is_i128 (expr_numbers e r.cells)) rows && all_map within sel rows i)
    ∙ sym (all_both (λ r. list_all is_i128 (expr_numbers e r.cells)) (λ r. within (sel r)) rows)
    ∙ (λ i. list_all (λ r. list_all is_i128 (expr_numbers e r.cells) && counts_in_range (times r.annot (sym (weight_same (range_of e r.cells)) i))) rows)

pub project_numbers : (items : List Term) (rows : Bounded) → list_all is_i128 (flat_map (λ r. flat_map (λ e. expr_numbers e r.cells) items) rows) ≡ list_all (project_fits on_ranges of_ranges over_ranges counts_in_range items) rows
project_numbers items rows =
    all_flat is_i128 (λ r. flat_map (λ e. expr_numbers e r.cells) items) rows
    ∙ (λ i. list_all (λ r. all_flat is_i128 (λ e. expr_numbers e r.cells) items i) rows)

pub product_numbers : (ks js : List Kind) (xs ys : Bounded) → IsRelation ks xs → IsRelation js ys → ints.triples_fit (bounded.product xs ys) ≡ list_all (product_fits on_ranges of_ranges over_ranges counts_in_range ys) xs
product_numbers ks js xs ys p q =
    present_in (ks ++ js) (flat_map (λ x. map (λ y. entry (x.cells ++ y.cells) (times x.annot y.annot)) ys) xs) (product_loose ks js xs ys p q)
    ∙ all_flat within (λ x. map (λ y. entry (x.cells ++ y.cells) (times x.annot y.annot)) ys) xs
    ∙ (λ i. list_all (λ x. all_map within (λ y. entry (x.cells ++ y.cells) (times x.annot y.annot)) ys i) xs)

behind : (f l x : Bool) → ((f && l) && x) ≡ ((f && x) && l)
behind true true true = refl
behind true true false = refl
behind true false true = refl
behind true false false = refl
behind false l x = refl

between : (f l g m x : Bool) → ((f && l) && ((g && m) && x)) ≡ ((f && (g && x)) && (l && m))
between f l g m x = ap (λ b. (f && l) && b) (behind g m x) ∙ crossed f l (g && x) m

module _ (kinds : List (List Kind)) (ts : List Bounded) (ok : AllZip IsRelation kinds ts) where
  abbrev holds : Tree → Bool
  holds q = fits on_ranges of_ranges over_ranges counts_in_range q ts

  abbrev all_in : Tree → Bool
  all_in q = list_all is_i128 (ints.numbers q ts)

  numbers_same : (q : Tree) (ks : List Kind) → positive.is_positive q ≡ true → kinds_of kinds q ≡ Some ks → all_in q ≡ (holds q && tables_fit q ts)
  numbers_same (Table i) ks p h = refl
  numbers_same (Select e q) ks p h =
      let k = and_then_is _ (kinds_of kinds q) ks h in
      let s = chosen_is _ (Some k.0) ks k.2 in
      let test = select_fits on_ranges of_ranges over_ranges counts_in_range e in
      list_all-append is_i128 (ints.numbers q ts) _
      ∙ (λ i. numbers_same q k.0 p k.1 i && select_numbers k.0 e (bounded q ts) (is_kind_is Flag (kind_in k.0 e) s.0) (tree_relation kinds ts ok q k.0 k.1) i)
      ∙ behind (holds q) (tables_fit q ts) (list_all test (bounded q ts))
      ∙ (λ i. (holds q && list_all test (sym (reading_same kinds ts ok q k.0 p k.1) i)) && tables_fit q ts)
  numbers_same (Project items q) ks p h =
      let k = and_then_is _ (kinds_of kinds q) ks h in
      let test = project_fits on_ranges of_ranges over_ranges counts_in_range items in
      list_all-append is_i128 (ints.numbers q ts) _
      ∙ (λ i. numbers_same q k.0 p k.1 i && project_numbers items (bounded q ts) i)
      ∙ behind (holds q) (tables_fit q ts) (list_all test (bounded q ts))
      ∙ (λ i. (holds q && list_all test (sym (reading_same kinds ts ok q k.0 p k.1) i)) && tables_fit q ts)
  numbers_same (Product a b) ks p h =
      let t = and_parts (positive.is_positive a) (positive.is_positive b) p in
      let k = and_then_is _ (kinds_of kinds a) ks h in
      let s = and_then_is _ (kinds_of kinds b) ks k.2 in
      let test = product_fits on_ranges of_ranges over_ranges counts_in_range in
      list_all-append is_i128 (ints.numbers a ts) _
      ∙ ap (λ c. all_in a && c) (list_all-append is_i128 (ints.numbers b ts) _)
      ∙ (λ i. numbers_same a k.0 t.0 k.1 i && (numbers_same b s.0 t.1 s.1 i && product_numbers k.0 s.0 (bounded a ts) (bounded b ts) (tree_relation kinds ts ok a k.0 k.1) (tree_relation kinds ts ok b s.0 s.1) i))
      ∙ between (holds a) (tables_fit a ts) (holds b) (tables_fit b ts) (list_all (test (bounded b ts)) (bounded a ts))
      ∙ (λ i. (holds a && (holds b && list_all (test (sym (reading_same kinds ts ok b s.0 t.1 s.1) i)) (sym (reading_same kinds ts ok a k.0 t.0 k.1) i))) && (tables_fit a ts && tables_fit b ts))
  numbers_same (Union a b) ks p h =
      let t = and_parts (positive.is_positive a) (positive.is_positive b) p in
      let k = and_then_is _ (kinds_of kinds a) ks h in
      let s = and_then_is _ (kinds_of kinds b) ks k.2 in
      list_all-append is_i128 (ints.numbers a ts) (ints.numbers b ts)
      ∙ (λ i. numbers_same a k.0 t.0 k.1 i && numbers_same b s.0 t.1 s.1 i)
      ∙ crossed (holds a) (tables_fit a ts) (holds b) (tables_fit b ts)
  numbers_same (Difference a b) ks p h = absurd (true≢false (sym p))
  numbers_same (Distinct q) ks p h = absurd (true≢false (sym p))
  numbers_same (Group keys aggs q) ks p h = absurd (true≢false (sym p))
  numbers_same (Total aggs q) ks p h = absurd (true≢false (sym p))

-- the general condition, with the tables' triples, says that the numbers lie in the range
pub condition_is_numbers : ConditionIsNumbers
condition_is_numbers q kinds ts p typed ok = let k = its_kinds (kinds_of kinds q) typed in numbers_same kinds ts ok q k.0 p k.1
