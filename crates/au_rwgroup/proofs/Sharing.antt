-- How the rows of a grouping are shared out among folds: by their keys, or each row alone.
use Rattle.std.specs.Prelude.{◌≡◌, ◌≤◌, ◌<◌, ℕ, ◌+◌, ◌*◌, Bool, true, false, cond, List, [], ◌∷◌, ◌++◌, length, map, filter, sum_by, ℤ, pos, ◌+ℤ◌, nat_abs}
use Rattle.std.specs.List.{AllByRecursion}
use Rattle.std.proofs.Common.{arith, refl, sym, ◌∙◌, ap, subst}
use Rattle.std.proofs.lemmas.Int.{ints}
use Rattle.std.proofs.lemmas.List.{length-append, length-map}
use Rattle.std.proofs.lemmas.List.Sums.{sum_by-cons}
use Rattle.au_value.specs.declared.value.Value.{Value}
use Rattle.au_algebra.specs.declared.query.Agg.{Agg}
use Rattle.au_algebra.specs.Lists.{int_sum, least, greatest}
use Rattle.au_algebra.specs.Ordinary.{Rows}
use Rattle.au_algebra.specs.Bounded.{RangeRow, Bounded}
use Rattle.au_algebra.specs.Laws.{IsRangeRow, IsRelation}
use Rattle.au_algebra.proofs.Copies.{same_row_is}
use Rattle.au_plain.specs.Plans.{PlanTree}
use Rattle.au_plain.specs.Meaning.{plain_rows}
use Rattle.au_encode.specs.Encode.{encode_cells}
use Rattle.au_rwexpr.proofs.Coded.{rl, rs, rh}
use Rattle.au_rwexpr.proofs.Gives.{GivesEncoded, map-map}
use Rattle.au_rwexpr.proofs.Picks.{all_ends_long}
use Rattle.au_rwexpr.proofs.PlanNumbersOf.{all_made}
use Rattle.au_rwgroup.specs.declared.folding.Folding.{Folding}
use Rattle.au_rwgroup.specs.declared.folding.Folding.TheVariants as folding
use Rattle.au_rwgroup.specs.Folds.{folds}
use Rattle.au_rwgroup.proofs.ColumnsThere.{IsOn}
use Rattle.au_rwgroup.proofs.FoldRows as folds_of
use Rattle.au_rwgroup.proofs.FoldRows.{Same, all_fold_values, flags, fold_key, guess_of, spans, sure_of}
use Rattle.au_rwgroup.proofs.KeyReading.{KeyReading}
use Rattle.au_rwgroup.proofs.Partition.{some_key, some_keys, least_shared, greatest_shared, int_sum_shared, sizes_shared}

-- rows that are alike, with their key
pub record Fold : Type 0 where
  pub key : List Value
  pub rows : Bounded

-- made items that pass
passed_by : {A B : Type 0} (g : A → B) (b : Bool) (x : A) (ys : List A) (zs : List B) → zs ≡ map g ys → cond b (g x ∷ zs) zs ≡ map g (cond b (x ∷ ys) ys)
passed_by g true x ys zs h = λ i. g x ∷ h i
passed_by g false x ys zs h = h

passing_made : {A B : Type 0} (g : A → B) (p : B → Bool) (xs : List A) → filter p (map g xs) ≡ map g (filter (λ x. p (g x)) xs)
passing_made g p [] = refl
passing_made g p (x ∷ xs) = passed_by g (p (g x)) x (filter (λ y. p (g y)) xs) (filter p (map g xs)) (passing_made g p xs)

sum_made_of : {A B : Type 0} (g : A → B) (f : B → ℕ) (xs : List A) → sum_by f (map g xs) ≡ sum_by (λ x. f (g x)) xs
sum_made_of g f [] = refl
sum_made_of g f (x ∷ xs) = omega (arith, sum_by-cons f (g x) (map g xs), sum_by-cons (λ y. f (g y)) x xs, sum_made_of g f xs)

module _ (by : KeyReading) where
  -- a fold has rows, which are of the kinds, and alike by its key
  pub record IsFold (fold : Fold) : Type 0 where
    pub first : RangeRow
    pub others : Bounded
    pub is : fold.rows ≡ first ∷ others
    pub ok : IsRelation by.ks fold.rows
    pub same : AllByRecursion (Same by fold.key) fold.rows
    pub key_is : fold.key ≡ fold_key by first

  -- its first row
  first_same : (fold : Fold) (v : IsFold fold) → Same by fold.key v.first
  first_same fold v = (subst (λ rs. AllByRecursion (Same by fold.key) rs) v.is v.same).0

  -- its key, by its parts
  pub key_parts : (fold : Fold) → IsFold fold → fold.key ≡ encode_cells (spans by fold.key) ++ flags by (sure_of by fold.key) (guess_of by fold.key)
  key_parts fold v =
      let s = first_same fold v in
      v.key_is ∙ (λ i. encode_cells (sym s.ranges i) ++ flags by (sym s.sure i) (sym s.guess i))

  pub spans_long : (fold : Fold) → IsFold fold → length (spans by fold.key) ≡ by.k
  spans_long fold v = let s = first_same fold v in ap length s.ranges ∙ by.long v.first s.row

  pub key_long : (fold : Fold) → IsFold fold → length fold.key ≡ 3 * by.k + 2
  key_long fold v =
      let both = flags by (sure_of by fold.key) (guess_of by fold.key) in
      ap length (key_parts fold v) ∙ length-append (encode_cells (spans by fold.key)) both
      ∙ ap (λ m. m + 2) (all_ends_long rl rs rh (spans by fold.key) ∙ ap (λ m. 3 * m) (spans_long fold v))

  -- the rows and the folds with some keys
  abbrev pub rows_with : (List Value → Bool) → Bounded → Bounded
  rows_with p rows = filter (λ r. p (fold_key by r)) rows

  abbrev pub folds_with : (List Value → Bool) → List Fold → List Fold
  folds_with p fs = filter (λ fold. p fold.key) fs

  -- Folds among which rows are shared out: what is summed or chosen over those with some keys is what is over the rows.
  pub record Sharing (rows : Bounded) : Type 0 where
    pub parts : List Fold
    pub are : AllByRecursion IsFold parts
    pub some : (p : List Value → Bool) → 0 < length (rows_with p rows) → 0 < length (folds_with p parts)
    pub sums : (p : List Value → Bool) (f : RangeRow → ℤ) → int_sum (map (λ fold. int_sum (map f fold.rows)) (folds_with p parts)) ≡ int_sum (map f (rows_with p rows))
    pub sizes : (p : List Value → Bool) (f : RangeRow → ℤ) → sum_by (λ fold. nat_abs (int_sum (map f fold.rows))) (folds_with p parts) ≤ sum_by (λ r. nat_abs (f r)) (rows_with p rows)
    pub leasts : (p : List Value → Bool) (f : RangeRow → Value) → 0 < length (rows_with p rows) → least (map (λ fold. least (map f fold.rows)) (folds_with p parts)) ≡ least (map f (rows_with p rows))
    pub greatests : (p : List Value → Bool) (f : RangeRow → Value) → 0 < length (rows_with p rows) → greatest (map (λ fold. greatest (map f fold.rows)) (folds_with p parts)) ≡ greatest (map f (rows_with p rows))

  -- the row of a fold
  abbrev pub fold_row : List Agg → Fold → List Value
  fold_row aggs fold = fold.key ++ all_fold_values aggs fold.rows

  -- ---- each row alone

  abbrev alone : RangeRow → Fold
  alone r = record { key = fold_key by r; rows = r ∷ [] }

  is_alone : (r : RangeRow) → IsRangeRow by.ks r → IsFold (alone r)
  is_alone r v = record { first = r; others = []; is = refl; ok = (v, tt); same = (folds_of.same_itself by r v, tt); key_is = refl }

  alone_sums : (f : RangeRow → ℤ) (xs : Bounded) → int_sum (map (λ fold. int_sum (map f fold.rows)) (map alone xs)) ≡ int_sum (map f xs)
  alone_sums f [] = refl
  alone_sums f (x ∷ xs) = let rest = alone_sums f xs in omega (arith, ints, rest)

  alone_sizes : (f : RangeRow → ℤ) (xs : Bounded) → sum_by (λ fold. nat_abs (int_sum (map f fold.rows))) (map alone xs) ≤ sum_by (λ r. nat_abs (f r)) xs
  alone_sizes f [] = omega arith
  alone_sizes f (x ∷ xs) =
      let own : f x +ℤ pos 0 ≡ f x = omega (arith, ints) in
      omega (arith, ap nat_abs own, alone_sizes f xs, sum_by-cons (λ fold. nat_abs (int_sum (map f fold.rows))) (alone x) (map alone xs), sum_by-cons (λ r. nat_abs (f r)) x xs)

  module _ (rows : Bounded) (ok : IsRelation by.ks rows) where
    alone_with : (p : List Value → Bool) → folds_with p (map alone rows) ≡ map alone (rows_with p rows)
    alone_with p = passing_made alone (λ fold. p fold.key) rows

    pub each_alone : Sharing rows
    each_alone = record {
      parts = map alone rows;
      are = all_made (IsRangeRow by.ks) IsFold alone rows ok is_alone;
      some = λ p h. subst (λ fs. 0 < length fs) (sym (alone_with p)) (omega (arith, h, length-map (rows_with p rows) alone));
      sums = λ p f. ap (λ fs. int_sum (map (λ fold. int_sum (map f fold.rows)) fs)) (alone_with p) ∙ alone_sums f (rows_with p rows);
      sizes = λ p f. subst (λ fs. sum_by (λ fold. nat_abs (int_sum (map f fold.rows))) fs ≤ sum_by (λ r. nat_abs (f r)) (rows_with p rows)) (sym (alone_with p)) (alone_sizes f (rows_with p rows));
      leasts = λ p f h. ap (λ fs. least (map (λ fold. least (map f fold.rows)) fs)) (alone_with p) ∙ ap least (map-map alone (λ fold. least (map f fold.rows)) (rows_with p rows));
      greatests = λ p f h. ap (λ fs. greatest (map (λ fold. greatest (map f fold.rows)) fs)) (alone_with p) ∙ ap greatest (map-map alone (λ fold. greatest (map f fold.rows)) (rows_with p rows));
    }

    -- ---- by their keys

    abbrev with_key : List Value → Fold
    with_key key = record { key = key; rows = folds_of.rows_of by rows ok key }

    abbrev keys : Rows
    keys = folds_of.fold_keys by rows ok

    is_with : (key : List Value) → folds_of.Occurs by rows ok key → IsFold (with_key key)
    is_with key some = record {
      first = some.first;
      others = some.others;
      is = some.is;
      ok = folds_of.rows_ok by rows ok key;
      same = folds_of.all_same by rows ok key;
      key_is = same_row_is key (fold_key by some.first) some.key_is;
    }

    abbrev keys_with : (List Value → Bool) → Rows
    keys_with p = some_keys (fold_key by) rows p

    made_with : (p : List Value → Bool) → folds_with p (map with_key keys) ≡ map with_key (keys_with p)
    made_with p = passing_made with_key (λ fold. p fold.key) keys

    pub by_keys : Sharing rows
    by_keys = record {
      parts = map with_key keys;
      are = all_made (folds_of.Occurs by rows ok) IsFold with_key keys (folds_of.all_occurring by rows ok) is_with;
      some = λ p h. subst (λ fs. 0 < length fs) (sym (made_with p)) (omega (arith, some_key (fold_key by) rows p h, length-map (keys_with p) with_key));
      sums = λ p f. ap (λ fs. int_sum (map (λ fold. int_sum (map f fold.rows)) fs)) (made_with p) ∙ ap int_sum (map-map with_key (λ fold. int_sum (map f fold.rows)) (keys_with p)) ∙ int_sum_shared (fold_key by) rows p f;
      sizes = λ p f. subst (λ fs. sum_by (λ fold. nat_abs (int_sum (map f fold.rows))) fs ≤ sum_by (λ r. nat_abs (f r)) (rows_with p rows)) (sym (made_with p)) (subst (λ m. m ≤ sum_by (λ r. nat_abs (f r)) (rows_with p rows)) (sym (sum_made_of with_key (λ fold. nat_abs (int_sum (map f fold.rows))) (keys_with p))) (sizes_shared (fold_key by) rows p f));
      leasts = λ p f h. ap (λ fs. least (map (λ fold. least (map f fold.rows)) fs)) (made_with p) ∙ ap least (map-map with_key (λ fold. least (map f fold.rows)) (keys_with p)) ∙ least_shared (fold_key by) rows p f h;
      greatests = λ p f h. ap (λ fs. greatest (map (λ fold. greatest (map f fold.rows)) fs)) (made_with p) ∙ ap greatest (map-map with_key (λ fold. greatest (map f fold.rows)) (keys_with p)) ∙ greatest_shared (fold_key by) rows p f h;
    }

    -- ---- either way

    abbrev pub sharing : Folding → Sharing rows
    sharing folding.EqualKeys = by_keys
    sharing folding.Rows = each_alone

    rows_by_keys : (aggs : List Agg) → AllByRecursion (IsOn (length by.ks)) aggs → (ts : List Rows) (p : PlanTree) → GivesEncoded ts p rows → plain_rows (folds folding.EqualKeys (length by.ks) by.k aggs p) ts ≡ map (fold_row aggs) by_keys.parts
    unfolding by_keys
    rows_by_keys aggs there ts p g = folds_of.rows_by_keys by aggs rows ok there ts p g ∙ sym (map-map with_key (fold_row aggs) keys)

    rows_alone : (aggs : List Agg) → AllByRecursion (IsOn (length by.ks)) aggs → (ts : List Rows) (p : PlanTree) → GivesEncoded ts p rows → plain_rows (folds folding.Rows (length by.ks) by.k aggs p) ts ≡ map (fold_row aggs) each_alone.parts
    unfolding each_alone
    rows_alone aggs there ts p g = folds_of.rows_alone by aggs rows ok there ts p g ∙ sym (map-map alone (fold_row aggs) rows)

    -- The rows of the folds.
    pub fold_rows : (how : Folding) (aggs : List Agg) → AllByRecursion (IsOn (length by.ks)) aggs → (ts : List Rows) (p : PlanTree) → GivesEncoded ts p rows → plain_rows (folds how (length by.ks) by.k aggs p) ts ≡ map (fold_row aggs) (sharing how).parts
    fold_rows folding.EqualKeys aggs there ts p g = rows_by_keys aggs there ts p g
    fold_rows folding.Rows aggs there ts p g = rows_alone aggs there ts p g
