-- Aggregates over fewer members, of which more are certain, lie within those over more.
use Rattle.std.specs.Prelude.{◌≡◌, ℕ, ◌≤◌, ◌<◌, Bool, true, false, ◌&&◌, cond, nat_le, List, [], ◌∷◌, length, map, filter, ℤ, pos, ◌*ℤ◌, ◌≤ℤ◌, int_lt}
use Rattle.std.specs.List.{AllByRecursion, AllZip}
use Rattle.std.proofs.Common.{arith, refl, sym, ◌∙◌, ap, subst}
use Rattle.std.proofs.Math.IntN.{zero-*ℤ}
use Rattle.std.proofs.lemmas.Bool.{and_parts, and_from, true≢false}
use Rattle.std.proofs.lemmas.Int.{ints}
use Rattle.au_value.specs.declared.value.Value.{Value}
use Rattle.au_value.specs.Order.{at_most}
use Rattle.au_value.specs.Ranges.{Span}
use Rattle.au_expr.specs.Ordinary.{number}
use Rattle.au_expr.proofs.Within.{at_most_int}
use Rattle.au_algebra.specs.declared.query.Agg.{Agg}
use Rattle.au_algebra.specs.declared.query.Agg.TheVariants.{Sum, Min, Max}
use Rattle.au_algebra.specs.Lists.{int_sum, least, greatest}
use Rattle.au_algebra.specs.Bounded.{RangeRow, Bounded, Grouped, range_at, sure, lower_term, upper_term, guess_if, surely_there, or_else, aggregate}
use Rattle.au_algebra.proofs.Extremes.{least_among, greatest_among, least_below, greatest_above}
use Rattle.au_algebra.proofs.Filters.{filter_both}
use Rattle.au_algebra.proofs.OutputRanges.{full_range, aggregate_is}
use Rattle.au_algebra.proofs.SumRanges.{times_more, times_less}
use Rattle.au_points.specs.BesideGroup.{Inside}

-- ---- what passes a narrower test

module _ (s t : RangeRow → Bool) (wider : (r : RangeRow) → s r ≡ true → t r ≡ true) where
  part_if : (Q : RangeRow → Type 0) (b c : Bool) (r : RangeRow) (xs ys : Bounded) → (b ≡ true → c ≡ true) → (AllByRecursion Q ys → AllByRecursion Q xs) → AllByRecursion Q (cond c (r ∷ ys) ys) → AllByRecursion Q (cond b (r ∷ xs) xs)
  part_if Q true true r xs ys w ih h = (h.0, ih h.1)
  part_if Q true false r xs ys w ih h = absurd (true≢false (sym (w refl)))
  part_if Q false true r xs ys w ih h = ih h.1
  part_if Q false false r xs ys w ih h = ih h

  -- what holds of all that passes the wider one holds of all that passes the other
  pub part_of : (Q : RangeRow → Type 0) (q : Bounded) → AllByRecursion Q (filter t q) → AllByRecursion Q (filter s q)
  part_of Q [] h = tt
  part_of Q (r ∷ q) h = part_if Q (s r) (t r) r (filter s q) (filter t q) (wider r) (part_of Q q) h

  more_if : (b c : Bool) (r : RangeRow) (xs ys : Bounded) → (b ≡ true → c ≡ true) → length xs ≤ length ys → length (cond b (r ∷ xs) xs) ≤ length (cond c (r ∷ ys) ys)
  more_if true true r xs ys w h = omega (arith, h)
  more_if true false r xs ys w h = absurd (true≢false (sym (w refl)))
  more_if false true r xs ys w h = omega (arith, h)
  more_if false false r xs ys w h = h

  -- no fewer pass the wider one
  pub more_pass : (q : Bounded) → length (filter s q) ≤ length (filter t q)
  more_pass [] = omega arith
  more_pass (r ∷ q) = more_if (s r) (t r) r (filter s q) (filter t q) (wider r) (more_pass q)

-- ---- terms of a sum

negative : (x : ℤ) → int_lt x (pos 0) ≡ true → x ≤ℤ pos 0
negative x h = grind (arith, ints)

not_negative : (x : ℤ) → int_lt x (pos 0) ≡ false → pos 0 ≤ℤ x
not_negative x h = grind (arith, ints)

lower_more : (b : Bool) (x : ℤ) (m n most : ℕ) → int_lt x (pos 0) ≡ b → m ≤ n → cond b (pos most *ℤ x) (pos m *ℤ x) ≤ℤ cond b (pos most *ℤ x) (pos n *ℤ x)
lower_more true x m n most e h = omega (arith, ints)
lower_more false x m n most e h = times_more n m x h (not_negative x e)

upper_less : (b : Bool) (x : ℤ) (m n most : ℕ) → int_lt x (pos 0) ≡ b → m ≤ n → cond b (pos n *ℤ x) (pos most *ℤ x) ≤ℤ cond b (pos m *ℤ x) (pos most *ℤ x)
upper_less true x m n most e h = times_less n m x h (negative x e)
upper_less false x m n most e h = omega (arith, ints)

lower_none : (b : Bool) (x : ℤ) (most : ℕ) → int_lt x (pos 0) ≡ b → cond b (pos most *ℤ x) (pos 0 *ℤ x) ≤ℤ pos 0
lower_none true x most e = let h = times_less most 0 x (omega arith) (negative x e) in omega (arith, ints, h, zero-*ℤ x)
lower_none false x most e = omega (arith, ints, zero-*ℤ x)

upper_none : (b : Bool) (x : ℤ) (most : ℕ) → int_lt x (pos 0) ≡ b → pos 0 ≤ℤ cond b (pos 0 *ℤ x) (pos most *ℤ x)
upper_none true x most e = omega (arith, ints, zero-*ℤ x)
upper_none false x most e = let h = times_more most 0 x (omega arith) (not_negative x e) in omega (arith, ints, h, zero-*ℤ x)

sure_if : (b c : Bool) (n : ℕ) → (b ≡ true → c ≡ true) → cond b n 0 ≤ cond c n 0
sure_if true true n w = omega arith
sure_if true false n w = absurd (true≢false (sym (w refl)))
sure_if false c n w = omega arith

not_sure : (b : Bool) (n : ℕ) → (b ≡ true → ⊥) → cond b n 0 ≡ 0
not_sure true n h = absurd (h refl)
not_sure false n h = refl

-- ---- ends of MIN and MAX

module _ (f : RangeRow → Value) (few more : Bounded) (some_few : 0 < length few) (among : (Q : RangeRow → Type 0) → AllByRecursion Q more → AllByRecursion Q few) where
  least_more : at_most (least (map f more)) (least (map f few)) ≡ true
  least_more = least_among f (λ v. at_most (least (map f more)) v ≡ true) few (among (λ r. at_most (least (map f more)) (f r) ≡ true) (least_below f more)) some_few

  greatest_more : at_most (greatest (map f few)) (greatest (map f more)) ≡ true
  greatest_more = greatest_among f (λ v. at_most v (greatest (map f more)) ≡ true) few (among (λ r. at_most (f r) (greatest (map f more)) ≡ true) (greatest_above f more)) some_few

  -- the rows that are surely there: t of the few members, and u of the many, all of which are among t
  min_within : (t u : Bounded) → length u ≤ length t → ((Q : RangeRow → Type 0) → AllByRecursion Q t → AllByRecursion Q u) → ((Q : RangeRow → Type 0) → AllByRecursion Q more → AllByRecursion Q t) → at_most (or_else t (least (map f t)) (greatest (map f few))) (or_else u (least (map f u)) (greatest (map f more))) ≡ true
  min_within [] [] long sub known = greatest_more
  min_within [] (s ∷ u) long sub known = let never : ⊥ = omega (arith, long) in absurd never
  min_within (r ∷ t) [] long sub known =
      least_among f (λ v. at_most v (greatest (map f more)) ≡ true) (r ∷ t) (known (λ x. at_most (f x) (greatest (map f more)) ≡ true) (greatest_above f more)) (omega arith)
  min_within (r ∷ t) (s ∷ u) long sub known =
      let m = least (map f (r ∷ t)) in
      least_among f (λ v. at_most m v ≡ true) (s ∷ u) (sub (λ x. at_most m (f x) ≡ true) (least_below f (r ∷ t))) (omega arith)

  max_within : (t u : Bounded) → length u ≤ length t → ((Q : RangeRow → Type 0) → AllByRecursion Q t → AllByRecursion Q u) → ((Q : RangeRow → Type 0) → AllByRecursion Q more → AllByRecursion Q t) → at_most (or_else u (greatest (map f u)) (least (map f more))) (or_else t (greatest (map f t)) (least (map f few))) ≡ true
  max_within [] [] long sub known = least_more
  max_within [] (s ∷ u) long sub known = let never : ⊥ = omega (arith, long) in absurd never
  max_within (r ∷ t) [] long sub known =
      greatest_among f (λ v. at_most (least (map f more)) v ≡ true) (r ∷ t) (known (λ x. at_most (least (map f more)) (f x) ≡ true) (least_below f more)) (omega arith)
  max_within (r ∷ t) (s ∷ u) long sub known =
      let m = greatest (map f (r ∷ t)) in
      greatest_among f (λ v. at_most v m ≡ true) (s ∷ u) (sub (λ x. at_most (f x) m ≡ true) (greatest_above f (r ∷ t))) (omega arith)

inside_if : (b c : Bool) (r s : Span) → Inside r s → Inside (guess_if b r) (guess_if c s)
inside_if true true r s i = i
inside_if true false r s i = record { lo = i.lo; hi = i.hi }
inside_if false true r s i = record { lo = i.lo; hi = i.hi }
inside_if false false r s i = record { lo = i.lo; hi = i.hi }

-- ---- two groups over the same rows: the members of the first are among those of the other, whose certain members are certain members of the first

module _ (few many : Grouped) (rows : Bounded) (p h : RangeRow → Bool) (few_are : few.members ≡ filter p rows) (many_are : many.members ≡ filter h rows) (member : (r : RangeRow) → p r ≡ true → h r ≡ true) (surer : (r : RangeRow) → many.is_certain_member r ≡ true → few.is_certain_member r ≡ true) (sure_member : (r : RangeRow) → h r ≡ true → many.is_certain_member r ≡ true → p r ≡ true) where
  sure_less : (r : RangeRow) → sure many r ≤ sure few r
  sure_less r = sure_if (many.is_certain_member r) (few.is_certain_member r) r.annot.least (surer r)

  only_many : (r : RangeRow) → p r ≡ false → h r ≡ true → sure many r ≡ 0
  only_many r n m = not_sure (many.is_certain_member r) r.annot.least (λ e. true≢false (sym (sure_member r m e) ∙ n))

  module _ (c : ℕ) where
    low_if : (b d : Bool) (r : RangeRow) (xs ys : Bounded) → p r ≡ b → h r ≡ d → int_sum (map (lower_term many c) ys) ≤ℤ int_sum (map (lower_term few c) xs) → int_sum (map (lower_term many c) (cond d (r ∷ ys) ys)) ≤ℤ int_sum (map (lower_term few c) (cond b (r ∷ xs) xs))
    low_if true true r xs ys e f ih =
        let x = number (range_at c r).lo in
        let one : lower_term many c r ≤ℤ lower_term few c r = lower_more (int_lt x (pos 0)) x (sure many r) (sure few r) r.annot.most refl (sure_less r) in
        omega (arith, ints, one, ih)
    low_if true false r xs ys e f ih = absurd (true≢false (sym (member r e) ∙ f))
    low_if false true r xs ys e f ih =
        let x = number (range_at c r).lo in
        let one : lower_term many c r ≤ℤ pos 0 = subst (λ n. cond (int_lt x (pos 0)) (pos r.annot.most *ℤ x) (pos n *ℤ x) ≤ℤ pos 0) (sym (only_many r e f)) (lower_none (int_lt x (pos 0)) x r.annot.most refl) in
        omega (arith, ints, one, ih)
    low_if false false r xs ys e f ih = ih

    low_sums : (q : Bounded) → int_sum (map (lower_term many c) (filter h q)) ≤ℤ int_sum (map (lower_term few c) (filter p q))
    low_sums [] = omega (arith, ints)
    low_sums (r ∷ q) = low_if (p r) (h r) r (filter p q) (filter h q) refl refl (low_sums q)

    high_if : (b d : Bool) (r : RangeRow) (xs ys : Bounded) → p r ≡ b → h r ≡ d → int_sum (map (upper_term few c) xs) ≤ℤ int_sum (map (upper_term many c) ys) → int_sum (map (upper_term few c) (cond b (r ∷ xs) xs)) ≤ℤ int_sum (map (upper_term many c) (cond d (r ∷ ys) ys))
    high_if true true r xs ys e f ih =
        let x = number (range_at c r).hi in
        let one : upper_term few c r ≤ℤ upper_term many c r = upper_less (int_lt x (pos 0)) x (sure many r) (sure few r) r.annot.most refl (sure_less r) in
        omega (arith, ints, one, ih)
    high_if true false r xs ys e f ih = absurd (true≢false (sym (member r e) ∙ f))
    high_if false true r xs ys e f ih =
        let x = number (range_at c r).hi in
        let one : pos 0 ≤ℤ upper_term many c r = subst (λ n. pos 0 ≤ℤ cond (int_lt x (pos 0)) (pos n *ℤ x) (pos r.annot.most *ℤ x)) (sym (only_many r e f)) (upper_none (int_lt x (pos 0)) x r.annot.most refl) in
        omega (arith, ints, one, ih)
    high_if false false r xs ys e f ih = ih

    high_sums : (q : Bounded) → int_sum (map (upper_term few c) (filter p q)) ≤ℤ int_sum (map (upper_term many c) (filter h q))
    high_sums [] = omega (arith, ints)
    high_sums (r ∷ q) = high_if (p r) (h r) r (filter p q) (filter h q) refl refl (high_sums q)

  -- ---- MIN and MAX

  abbrev known_few : RangeRow → Bool
  known_few r = few.is_certain_member r && nat_le 1 r.annot.least

  abbrev known_many : RangeRow → Bool
  known_many r = many.is_certain_member r && nat_le 1 r.annot.least

  -- the many members that are surely there are surely there among the few
  known_too : (r : RangeRow) → (h r && known_many r) ≡ true → (p r && known_few r) ≡ true
  known_too r e =
      let a = and_parts (h r) (known_many r) e in
      let b = and_parts (many.is_certain_member r) (nat_le 1 r.annot.least) a.1 in
      and_from _ _ (sure_member r a.0 b.0) (and_from _ _ (surer r b.0) b.1)

  few_there : surely_there few ≡ filter (λ r. p r && known_few r) rows
  few_there = ap (filter known_few) few_are ∙ filter_both known_few p rows

  many_there : surely_there many ≡ filter (λ r. h r && known_many r) rows
  many_there = ap (filter known_many) many_are ∙ filter_both known_many h rows

  there_long : length (surely_there many) ≤ length (surely_there few)
  there_long =
      omega (arith, ap length few_there, ap length many_there, more_pass (λ r. h r && known_many r) (λ r. p r && known_few r) known_too rows)

  there_sub : (Q : RangeRow → Type 0) → AllByRecursion Q (surely_there few) → AllByRecursion Q (surely_there many)
  there_sub Q a =
      subst (AllByRecursion Q) (sym many_there) (part_of (λ r. h r && known_many r) (λ r. p r && known_few r) known_too Q rows (subst (AllByRecursion Q) few_there a))

  there_member : (r : RangeRow) → (p r && known_few r) ≡ true → h r ≡ true
  there_member r e = member r (and_parts (p r) (known_few r) e).0

  among_many : (Q : RangeRow → Type 0) → AllByRecursion Q many.members → AllByRecursion Q few.members
  among_many Q a = subst (AllByRecursion Q) (sym few_are) (part_of p h member Q rows (subst (AllByRecursion Q) many_are a))

  there_among : (Q : RangeRow → Type 0) → AllByRecursion Q many.members → AllByRecursion Q (surely_there few)
  there_among Q a =
      subst (AllByRecursion Q) (sym few_there) (part_of (λ r. p r && known_few r) h there_member Q rows (subst (AllByRecursion Q) many_are a))

  -- the full range of an aggregate over the few lies within that over the many
  full_within : (agg : Agg) → 0 < length few.members → Inside (full_range few agg) (full_range many agg)
  full_within (Sum c) some =
      let low = subst (λ q. int_sum (map (lower_term many c) q) ≤ℤ int_sum (map (lower_term few c) few.members)) (sym many_are)
      (subst (λ q. int_sum (map (lower_term many c) (filter h rows)) ≤ℤ int_sum (map (lower_term few c) q)) (sym few_are) (low_sums c rows)) in
      let high = subst (λ q. int_sum (map (upper_term few c) few.members) ≤ℤ int_sum (map (upper_term many c) q)) (sym many_are)
      (subst (λ q. int_sum (map (upper_term few c) q) ≤ℤ int_sum (map (upper_term many c) (filter h rows))) (sym few_are) (high_sums c rows)) in
      record { lo = at_most_int _ _ low; hi = at_most_int _ _ high }
  full_within (Min c) some = record {
    lo = least_more (λ r. (range_at c r).lo) few.members many.members some among_many;
    hi = min_within (λ r. (range_at c r).hi) few.members many.members some among_many (surely_there few) (surely_there many) there_long there_sub there_among;
  }
  full_within (Max c) some = record {
    lo = max_within (λ r. (range_at c r).lo) few.members many.members some among_many (surely_there few) (surely_there many) there_long there_sub there_among;
    hi = greatest_more (λ r. (range_at c r).hi) few.members many.members some among_many;
  }

  -- and so does the aggregate
  pub aggregate_within : (agg : Agg) → 0 < length few.members → Inside (aggregate few agg) (aggregate many agg)
  aggregate_within agg some =
      subst (λ r. Inside r (aggregate many agg)) (sym (aggregate_is few agg))
      (subst (Inside (guess_if few.is_guessed (full_range few agg))) (sym (aggregate_is many agg))
      (inside_if few.is_guessed many.is_guessed (full_range few agg) (full_range many agg) (full_within agg some)))

  pub aggregates_within : (aggs : List Agg) → 0 < length few.members → AllZip Inside (map (aggregate few) aggs) (map (aggregate many) aggs)
  aggregates_within [] some = tt
  aggregates_within (agg ∷ aggs) some = (aggregate_within agg some, aggregates_within aggs some)
