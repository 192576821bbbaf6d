-- Each operator is narrowed over plans that are narrowed.
use Rattle.std.proofs.Common.{◌≡◌, ◌<◌, ◌++◌, ◌-◌, length, map, take, replicate, slice_index, false, rules, sym, ap, subst, ◌∙◌, arith}
use Rattle.std.proofs.lemmas.Result.{IfOk-at_ok, IfOk-weaker}
use Rattle.std.specs.List.{range_with_len}
use Rattle.au_plain.specs.declared.plan.Plan.{size-Plan, the_lemmas}
use Rattle.au_plain.specs.declared.plan.Plan.TheVariants as code
use Rattle.au_plain.specs.PTerms.{pterm}
use Rattle.au_plain.specs.Plans.{plan_tree, Extend, Filter, Keep, Join, Union, Group}
use Rattle.au_passes.specs.declared.narrow.Columns.{Columns}
use Rattle.au_passes.specs.Pruning.{IsKept, Narrowed, renumbered, renumbered_agg}
use Rattle.au_plain.specs.Widths.{plan_width}
use Rattle.au_passes.specs.Reading.{agg_column, at_least_one, chosen, mark_all, ranks, read_aggs, read_places, reads_last}
use Rattle.au_passes.proofs.NarrowedPlans.{narrowed_leaf}
use Rattle.au_passes.proofs.NarrowedSides.{exact_columns, exact_narrows, exact_width}
use Rattle.au_passes.proofs.NarrowSteps.{extend_asks, extend_gives, filter_asks, filter_gives, group_asks, group_gives, join_counts, join_fits, join_gives, keep_asks, keep_counts, keep_gives, left_asks, right_asks, second_asks, union_counts, union_gives, unread_gives}
use Rattle.au_passes.proofs.pruning.+narrow.Goals as goal

pub narrow-narrow-requires : goal.narrow-narrow-requires
narrow-narrow-requires t c =
    let smaller : size-Plan c.in-Extend.of.value < size-Plan (code.Extend c.in-Extend.e c.in-Extend.of) = search (rules, the_lemmas) in
    let whole : size-Plan c.args.plan ≡ size-Plan (code.Extend c.in-Extend.e c.in-Extend.of) = ap size-Plan c.in-Extend.is in
    let inner : size-Plan c.into_inner.result ≡ size-Plan c.in-Extend.of.value = ap size-Plan c.into_inner.ensures in
    let dec = c.decreases in
    let is = ap plan_tree c.in-Extend.is ∙ ap (λ b. Extend (pterm c.in-Extend.e) (plan_tree b)) (sym c.into_inner.ensures) in (
      omega arith,
      extend_asks (plan_tree c.args.plan) (plan_tree c.into_inner.result) (pterm c.in-Extend.e) c.args.marks.items is c.requires
          c.without_last.result.items c.with_reads-marks.result.items c.without_last.ensures c.with_reads-marks.ensures,
    )

pub narrow-narrow-requires-in-Filter : goal.narrow-narrow-requires-in-Filter
narrow-narrow-requires-in-Filter t c =
    let smaller : size-Plan c.in-Filter.of.value < size-Plan (code.Filter c.in-Filter.e c.in-Filter.of) = search (rules, the_lemmas) in
    let whole : size-Plan c.args.plan ≡ size-Plan (code.Filter c.in-Filter.e c.in-Filter.of) = ap size-Plan c.in-Filter.is in
    let inner : size-Plan c.into_inner-in-Filter.result ≡ size-Plan c.in-Filter.of.value = ap size-Plan c.into_inner-in-Filter.ensures in
    let dec = c.decreases in
    let is = ap plan_tree c.in-Filter.is ∙ ap (λ b. Filter (pterm c.in-Filter.e) (plan_tree b)) (sym c.into_inner-in-Filter.ensures) in (
      omega arith,
      filter_asks (plan_tree c.args.plan) (plan_tree c.into_inner-in-Filter.result) (pterm c.in-Filter.e) c.args.marks.items
          c.with_reads-marks-in-Filter.result.items is c.requires c.with_reads-marks-in-Filter.ensures,
    )

pub narrow-narrow-requires-in-Keep : goal.narrow-narrow-requires-in-Keep
narrow-narrow-requires-in-Keep t c =
    let smaller : size-Plan c.in-Keep.of.value < size-Plan (code.Keep c.in-Keep.places c.in-Keep.of) = search (rules, the_lemmas) in
    let whole : size-Plan c.args.plan ≡ size-Plan (code.Keep c.in-Keep.places c.in-Keep.of) = ap size-Plan c.in-Keep.is in
    let inner : size-Plan c.into_inner-in-Keep.result ≡ size-Plan c.in-Keep.of.value = ap size-Plan c.into_inner-in-Keep.ensures in
    let dec = c.decreases in
    let is = ap plan_tree c.in-Keep.is ∙ ap (λ b. Keep c.in-Keep.places.items (plan_tree b)) (sym c.into_inner-in-Keep.ensures) in
    let w = c.in_ok-width-in-Keep.field-0 in
    let wide = c.in_ok-width-in-Keep.ensures ∙ ap (λ b. plan_width (plan_tree b)) (c.deref-in-Keep-2.ensures ∙ sym c.into_inner-in-Keep.ensures) in
    let m = c.in_ok-marks-in-Keep.ensures ∙ ap (λ ps. mark_all ps (replicate w false)) c.deref-in-Keep-3.ensures.value in (
      omega arith,
      keep_asks (plan_tree c.args.plan) (plan_tree c.into_inner-in-Keep.result) c.in-Keep.places.items c.args.marks.items c.in_ok-marks-in-Keep.marks.items
          c.in_ok-read-in-Keep.read.wanted.items w is c.requires wide m,
    )

pub narrow-join_sides-requires : goal.narrow-join_sides-requires
narrow-join_sides-requires t c =
    let wide = c.in_ok-width-in-Join.ensures ∙ ap (λ b. plan_width (plan_tree b)) c.deref-in-Join.ensures in
    join_fits (plan_tree c.args.plan) (plan_tree c.in-Join.left.value) (plan_tree c.in-Join.right.value) (pterm c.in-Join.e) c.args.marks.items
    c.deref-in-Join-2.result.now c.in_ok-width-in-Join.field-0 (ap plan_tree c.in-Join.is) c.requires wide
    (c.deref-in-Join-2.ensures.value ∙ c.with_reads.ensures)

pub narrow-narrow_to-left-requires : goal.narrow-narrow_to-left-requires
narrow-narrow_to-left-requires t c =
    let smaller : size-Plan c.in-Join.left.value < size-Plan (code.Join c.in-Join.e c.in-Join.left c.in-Join.right) = search (rules, the_lemmas) in
    let whole : size-Plan c.args.plan ≡ size-Plan (code.Join c.in-Join.e c.in-Join.left c.in-Join.right) = ap size-Plan c.in-Join.is in
    let inner : size-Plan c.into_inner-in-Join.result ≡ size-Plan c.in-Join.left.value = ap size-Plan c.into_inner-in-Join.ensures in
    let dec = c.decreases in
    let wide = c.in_ok-width-in-Join.ensures ∙ ap (λ b. plan_width (plan_tree b)) c.deref-in-Join.ensures in (
      omega arith,
      left_asks (plan_tree c.args.plan) (plan_tree c.in-Join.left.value) (plan_tree c.in-Join.right.value) (pterm c.in-Join.e) c.args.marks.items
          c.deref-in-Join-2.result.now c.in_ok-width-in-Join.field-0 (ap plan_tree c.in-Join.is) c.requires wide
          (c.deref-in-Join-2.ensures.value ∙ c.with_reads.ensures) c.in_ok-sides-in-Join.sides.left.items c.in_ok-sides-in-Join.ensures.marks.0
          ∙ ap (λ b. plan_width (plan_tree b)) (sym c.into_inner-in-Join.ensures),
    )

pub narrow-narrow_to-right-requires : goal.narrow-narrow_to-right-requires
narrow-narrow_to-right-requires t c =
    let smaller : size-Plan c.in-Join.right.value < size-Plan (code.Join c.in-Join.e c.in-Join.left c.in-Join.right) = search (rules, the_lemmas) in
    let whole : size-Plan c.args.plan ≡ size-Plan (code.Join c.in-Join.e c.in-Join.left c.in-Join.right) = ap size-Plan c.in-Join.is in
    let inner : size-Plan c.into_inner-in-Join-2.result ≡ size-Plan c.in-Join.right.value = ap size-Plan c.into_inner-in-Join-2.ensures in
    let dec = c.decreases in
    let wide = c.in_ok-width-in-Join.ensures ∙ ap (λ b. plan_width (plan_tree b)) c.deref-in-Join.ensures in (
      omega arith,
      right_asks (plan_tree c.args.plan) (plan_tree c.in-Join.left.value) (plan_tree c.in-Join.right.value) (pterm c.in-Join.e) c.args.marks.items
          c.deref-in-Join-2.result.now c.in_ok-width-in-Join.field-0 (ap plan_tree c.in-Join.is) c.requires wide
          (c.deref-in-Join-2.ensures.value ∙ c.with_reads.ensures) c.in_ok-sides-in-Join.sides.right.items c.in_ok-sides-in-Join.ensures.marks.1
          ∙ ap (λ b. plan_width (plan_tree b)) (sym c.into_inner-in-Join-2.ensures),
    )

pub narrow-narrow_to-right-requires-in-Union : goal.narrow-narrow_to-right-requires-in-Union
narrow-narrow_to-right-requires-in-Union t c =
    let smaller : size-Plan c.in-Union.right.value < size-Plan (code.Union c.in-Union.left c.in-Union.right) = search (rules, the_lemmas) in
    let whole : size-Plan c.args.plan ≡ size-Plan (code.Union c.in-Union.left c.in-Union.right) = ap size-Plan c.in-Union.is in
    let inner : size-Plan c.into_inner-in-Union-2.result ≡ size-Plan c.in-Union.right.value = ap size-Plan c.into_inner-in-Union-2.ensures in
    let dec = c.decreases in
    let w = c.in_ok-width-in-Union.field-0 in
    let wide = c.in_ok-width-in-Union.ensures ∙ ap (λ b. plan_width (plan_tree b)) c.deref-in-Union.ensures in
    let right = c.in_ok-sides-in-Union.ensures.marks.1 ∙ ap (λ ms. at_least_one (take w ms ++ replicate (w - length ms) false)) c.deref-in-Union-2.ensures.value in (
      omega arith,
      second_asks (plan_tree c.args.plan) (plan_tree c.in-Union.left.value) (plan_tree c.in-Union.right.value) c.args.marks.items w
          (ap plan_tree c.in-Union.is) c.requires wide c.in_ok-sides-in-Union.sides.right.items right
          ∙ ap (λ b. plan_width (plan_tree b)) (sym c.into_inner-in-Union-2.ensures),
    )

pub narrow-narrow-requires-in-Group : goal.narrow-narrow-requires-in-Group
narrow-narrow-requires-in-Group t c =
    let smaller : size-Plan c.in-Group.of.value < size-Plan (code.Group c.in-Group.keys c.in-Group.aggs c.in-Group.of) = search (rules, the_lemmas) in
    let whole : size-Plan c.args.plan ≡ size-Plan (code.Group c.in-Group.keys c.in-Group.aggs c.in-Group.of) = ap size-Plan c.in-Group.is in
    let inner : size-Plan c.into_inner-in-Group.result ≡ size-Plan c.in-Group.of.value = ap size-Plan c.into_inner-in-Group.ensures in
    let dec = c.decreases in
    let is = ap plan_tree c.in-Group.is ∙ ap (λ b. Group c.in-Group.keys.items c.in-Group.aggs.items (plan_tree b)) (sym c.into_inner-in-Group.ensures) in
    let w = c.in_ok-width-in-Group.field-0 in
    let wide = c.in_ok-width-in-Group.ensures ∙ ap (λ b. plan_width (plan_tree b)) (c.deref-in-Group-4.ensures ∙ sym c.into_inner-in-Group.ensures) in
    let m = c.in_ok-marks-in-Group.ensures ∙ (λ i. mark_all (map agg_column (c.deref-in-Group-6.ensures.value i)) (mark_all (c.deref-in-Group-5.ensures.value i) (replicate w false))) in (
      omega arith,
      group_asks (plan_tree c.args.plan) (plan_tree c.into_inner-in-Group.result) c.in-Group.keys.items c.in-Group.aggs.items
          c.in_ok-read-in-Group.read.aggs.items c.args.marks.items c.in_ok-marks-in-Group.marks.items w is c.requires wide m,
    )

pub narrow-scan-requires : goal.narrow-scan-requires
narrow-scan-requires t c = c.requires ∙ ap (λ p. plan_width (plan_tree p)) c.in-Scan.is

pub narrow-returns-in-Scan-clause-narrowed : goal.narrow-returns-in-Scan-clause-narrowed
narrow-returns-in-Scan-clause-narrowed t c =
    IfOk-weaker c.scan.result _ _ (λ n f. subst (λ p. Narrowed (plan_tree p) c.args.marks.items (plan_tree n.plan) n.found.items) (sym c.in-Scan.is) f)
    c.scan.ensures.narrowed

pub narrow-returns-in-Rows-clause-narrowed : goal.narrow-returns-in-Rows-clause-narrowed
narrow-returns-in-Rows-clause-narrowed t c =
    IfOk-weaker c.whole.result _ _ (λ n f.
    narrowed_leaf (plan_tree c.args.plan) (plan_tree n.plan) c.args.marks.items n.found.items c.in-Rows.width
    (sym (ap (λ p. plan_width (plan_tree p)) c.in-Rows.is)) c.requires (f.0 ∙ sym (ap plan_tree c.in-Rows.is)) f.1) c.whole.ensures

pub narrow-returns-in_ok-made-in-Extend-clause-narrowed : goal.narrow-returns-in_ok-made-in-Extend-clause-narrowed
narrow-returns-in_ok-made-in-Extend-clause-narrowed t c =
    let is = ap plan_tree c.in-Extend.is ∙ ap (λ b. Extend (pterm c.in-Extend.e) (plan_tree b)) (sym c.into_inner.ensures) in
    let made = c.in_ok-made-in-Extend in
    let below = made.made.0 in
    IfOk-weaker c.extend.result _ _ (λ n f.
    extend_gives (plan_tree c.args.plan) (plan_tree c.into_inner.result) (pterm c.in-Extend.e) c.args.marks.items is c.requires
    c.without_last.result.items c.with_reads-marks.result.items (plan_tree below.plan) (plan_tree n.plan) below.found.items n.found.items below.count
    c.without_last.ensures c.with_reads-marks.ensures (IfOk-at_ok _ made.ensures.values.0 c.narrow.ensures.narrowed) (IfOk-at_ok _ made.ensures.values.0 c.narrow.ensures.count)
    (f.0 ∙ ap (λ x. Extend (renumbered below.found.items (pterm x)) (plan_tree below.plan)) made.ensures.values.1) f.1) c.extend.ensures

pub narrow-returns-in_ok-made-in-Extend-2-clause-narrowed : goal.narrow-returns-in_ok-made-in-Extend-2-clause-narrowed
narrow-returns-in_ok-made-in-Extend-2-clause-narrowed t c =
    let is = ap plan_tree c.in-Extend.is ∙ ap (λ b. Extend (pterm c.in-Extend.e) (plan_tree b)) (sym c.into_inner-else-reads_last.ensures) in
    let made = c.in_ok-made-in-Extend-2 in
    let below = made.made.0 in
    let unread = ap reads_last (sym c.deref.ensures.value) ∙ sym c.reads_last.ensures ∙ c.if-reads_last.false in
    IfOk-weaker c.leave_out.result _ _ (λ n f.
    unread_gives (plan_tree c.args.plan) (plan_tree c.into_inner-else-reads_last.result) (pterm c.in-Extend.e) c.args.marks.items is c.requires
    c.without_last-else-reads_last.result.items (plan_tree below.plan) (plan_tree n.plan) below.found.items n.found.items unread
    c.without_last-else-reads_last.ensures (IfOk-at_ok _ made.ensures.values.0 c.narrow-below.ensures.narrowed) f.0 f.1) c.leave_out.ensures

pub narrow-returns-in_ok-made-in-Filter-clause-narrowed : goal.narrow-returns-in_ok-made-in-Filter-clause-narrowed
narrow-returns-in_ok-made-in-Filter-clause-narrowed t c =
    let is = ap plan_tree c.in-Filter.is ∙ ap (λ b. Filter (pterm c.in-Filter.e) (plan_tree b)) (sym c.into_inner-in-Filter.ensures) in
    let made = c.in_ok-made-in-Filter in
    let below = made.made.0 in
    IfOk-weaker c.filter.result _ _ (λ n f.
    filter_gives (plan_tree c.args.plan) (plan_tree c.into_inner-in-Filter.result) (pterm c.in-Filter.e) c.args.marks.items
    c.with_reads-marks-in-Filter.result.items is c.requires c.with_reads-marks-in-Filter.ensures (plan_tree below.plan) (plan_tree n.plan)
    below.found.items n.found.items (IfOk-at_ok _ made.ensures.values.0 c.narrow-in-Filter.ensures.narrowed)
    (f.0 ∙ ap (λ x. Filter (renumbered below.found.items (pterm x)) (plan_tree below.plan)) made.ensures.values.1) f.1) c.filter.ensures

pub narrow-returns-in_ok-made-in-Keep-clause-narrowed : goal.narrow-returns-in_ok-made-in-Keep-clause-narrowed
narrow-returns-in_ok-made-in-Keep-clause-narrowed t c =
    let is = ap plan_tree c.in-Keep.is ∙ ap (λ b. Keep c.in-Keep.places.items (plan_tree b)) (sym c.into_inner-in-Keep.ensures) in
    let w = c.in_ok-width-in-Keep.field-0 in
    let wide = c.in_ok-width-in-Keep.ensures ∙ ap (λ b. plan_width (plan_tree b)) (c.deref-in-Keep-2.ensures ∙ sym c.into_inner-in-Keep.ensures) in
    let m = c.in_ok-marks-in-Keep.ensures ∙ ap (λ ps. mark_all ps (replicate w false)) c.deref-in-Keep-3.ensures.value in
    let read = c.in_ok-read-in-Keep.read in
    let made = c.in_ok-made-in-Keep in
    let below = made.made.0 in
    let wanted = c.in_ok-read-in-Keep.ensures.0 ∙ ap (λ ps. map (slice_index ps) (read_places (at_least_one c.args.marks.items))) c.deref-in-Keep.ensures.value in
    IfOk-weaker c.keep_columns.result _ _ (λ n f.
    keep_gives (plan_tree c.args.plan) (plan_tree c.into_inner-in-Keep.result) c.in-Keep.places.items c.args.marks.items c.in_ok-marks-in-Keep.marks.items
    read.wanted.items w is c.requires wide m (plan_tree below.plan) (plan_tree n.plan) below.found.items read.found.items n.found.items
    wanted c.in_ok-read-in-Keep.ensures.1 (IfOk-at_ok _ made.ensures.values.0 c.narrow-in-Keep.ensures.narrowed)
    (subst (λ (r : Columns). IsKept (map (slice_index below.found.items) r.wanted.items) (plan_tree below.plan) (plan_tree n.plan)) made.ensures.values.1 f.0)
    (f.1 ∙ ap (λ r. r.found.items) made.ensures.values.1)) c.keep_columns.ensures

pub narrow-returns-in_ok-made-in-Keep-clause-count : goal.narrow-returns-in_ok-made-in-Keep-clause-count
narrow-returns-in_ok-made-in-Keep-clause-count t c =
    let made = c.in_ok-made-in-Keep in
    let below = made.made.0 in
    IfOk-weaker c.keep_columns.result _ _ (λ n f.
    keep_counts made.made.1.wanted.items below.found.items (plan_tree below.plan) (plan_tree n.plan) n.count f.0 f.2) c.keep_columns.ensures

pub narrow-returns-in_ok-made-in-Join-clause-narrowed : goal.narrow-returns-in_ok-made-in-Join-clause-narrowed
narrow-returns-in_ok-made-in-Join-clause-narrowed t c =
    let e = pterm c.in-Join.e in
    let p = c.into_inner-in-Join.result in
    let q = c.into_inner-in-Join-2.result in
    let is = ap plan_tree c.in-Join.is ∙ (λ i. Join e (plan_tree (sym c.into_inner-in-Join.ensures i)) (plan_tree (sym c.into_inner-in-Join-2.ensures i))) in
    let wide = c.in_ok-width-in-Join.ensures ∙ ap (λ b. plan_width (plan_tree b)) (c.deref-in-Join.ensures ∙ sym c.into_inner-in-Join.ensures) in
    let sides = c.in_ok-sides-in-Join.sides in
    let made = c.in_ok-made-in-Join in
    let ways = IfOk-at_ok _ made.ensures.values.0 c.both.ensures.values in
    let left = c.narrow_to-left.ensures in
    let right = c.narrow_to-right.ensures in
    IfOk-weaker c.join.result _ _ (λ n f.
    join_gives (plan_tree c.args.plan) (plan_tree p) (plan_tree q) e c.args.marks.items c.deref-in-Join-2.result.now c.in_ok-width-in-Join.field-0
    is c.requires wide (c.deref-in-Join-2.ensures.value ∙ c.with_reads.ensures) sides.left.items sides.right.items sides.found.items n.found.items
    (plan_tree made.made.0.0) (plan_tree made.made.0.1) (plan_tree n.plan)
    c.in_ok-sides-in-Join.ensures.marks.0 c.in_ok-sides-in-Join.ensures.marks.1 c.in_ok-sides-in-Join.ensures.found.0
    (IfOk-at_ok _ ways.0 left.narrows) (IfOk-at_ok _ ways.0 left.width) (IfOk-at_ok _ ways.0 left.columns)
    (IfOk-at_ok _ ways.1 right.narrows) (IfOk-at_ok _ ways.1 right.width) (IfOk-at_ok _ ways.1 right.columns)
    (f.0 ∙ ap (λ x. Join (renumbered sides.found.items (pterm x)) (plan_tree made.made.0.0) (plan_tree made.made.0.1)) made.ensures.values.1) f.1) c.join.ensures

pub narrow-returns-in_ok-made-in-Join-clause-count : goal.narrow-returns-in_ok-made-in-Join-clause-count
narrow-returns-in_ok-made-in-Join-clause-count t c =
    let sides = c.in_ok-sides-in-Join.sides in
    let made = c.in_ok-made-in-Join in
    let ways = IfOk-at_ok _ made.ensures.values.0 c.both.ensures.values in
    IfOk-weaker c.join.result _ _ (λ n f.
    join_counts sides.left.items sides.right.items (renumbered sides.found.items (pterm made.made.1)) (plan_tree made.made.0.0)
    (plan_tree made.made.0.1) (plan_tree n.plan) sides.count n.count c.in_ok-sides-in-Join.ensures.found.1
    (IfOk-at_ok _ ways.0 c.narrow_to-left.ensures.width) (IfOk-at_ok _ ways.1 c.narrow_to-right.ensures.width) f.0 f.2) c.join.ensures

pub narrow-returns-in_ok-made-in-Union-clause-narrowed : goal.narrow-returns-in_ok-made-in-Union-clause-narrowed
narrow-returns-in_ok-made-in-Union-clause-narrowed t c =
    let p = c.into_inner-in-Union.result in
    let q = c.into_inner-in-Union-2.result in
    let is = ap plan_tree c.in-Union.is ∙ (λ i. Union (plan_tree (sym c.into_inner-in-Union.ensures i)) (plan_tree (sym c.into_inner-in-Union-2.ensures i))) in
    let w = c.in_ok-width-in-Union.field-0 in
    let wide = c.in_ok-width-in-Union.ensures ∙ ap (λ b. plan_width (plan_tree b)) (c.deref-in-Union.ensures ∙ sym c.into_inner-in-Union-2.ensures) in
    let sides = c.in_ok-sides-in-Union.sides in
    let first = c.in_ok-sides-in-Union.ensures.marks.0 ∙ ap at_least_one c.deref-in-Union-2.ensures.value in
    let second = c.in_ok-sides-in-Union.ensures.marks.1 ∙ ap (λ ms. at_least_one (take w ms ++ replicate (w - length ms) false)) c.deref-in-Union-2.ensures.value in
    let made = c.in_ok-made-in-Union in
    let left = c.narrow_to-left-in-Union.ensures in
    let right = c.narrow_to-right-in-Union.ensures in
    IfOk-weaker c.union.result _ _ (λ n f.
    union_gives (plan_tree c.args.plan) (plan_tree p) (plan_tree q) c.args.marks.items w is c.requires wide sides.left.items sides.right.items
    sides.found.items n.found.items (plan_tree made.made.0) (plan_tree made.made.1) (plan_tree n.plan)
    first second c.in_ok-sides-in-Union.ensures.found.0
    (IfOk-at_ok _ made.ensures.values.0 left.narrows) (IfOk-at_ok _ made.ensures.values.0 left.width) (IfOk-at_ok _ made.ensures.values.0 left.columns)
    (IfOk-at_ok _ made.ensures.values.1 right.narrows) (IfOk-at_ok _ made.ensures.values.1 right.columns) f.0 f.1) c.union.ensures

pub narrow-returns-in_ok-made-in-Union-clause-count : goal.narrow-returns-in_ok-made-in-Union-clause-count
narrow-returns-in_ok-made-in-Union-clause-count t c =
    let sides = c.in_ok-sides-in-Union.sides in
    let made = c.in_ok-made-in-Union in
    IfOk-weaker c.union.result _ _ (λ n f.
    union_counts sides.left.items (plan_tree made.made.0) (plan_tree made.made.1) (plan_tree n.plan) sides.count n.count
    c.in_ok-sides-in-Union.ensures.found.1 (IfOk-at_ok _ made.ensures.values.0 c.narrow_to-left-in-Union.ensures.width) f.0 f.2) c.union.ensures

pub narrow-returns-in_ok-made-in-Group-clause-narrowed : goal.narrow-returns-in_ok-made-in-Group-clause-narrowed
narrow-returns-in_ok-made-in-Group-clause-narrowed t c =
    let is = ap plan_tree c.in-Group.is ∙ ap (λ b. Group c.in-Group.keys.items c.in-Group.aggs.items (plan_tree b)) (sym c.into_inner-in-Group.ensures) in
    let w = c.in_ok-width-in-Group.field-0 in
    let wide = c.in_ok-width-in-Group.ensures ∙ ap (λ b. plan_width (plan_tree b)) (c.deref-in-Group-4.ensures ∙ sym c.into_inner-in-Group.ensures) in
    let m = c.in_ok-marks-in-Group.ensures ∙ (λ i. mark_all (map agg_column (c.deref-in-Group-6.ensures.value i)) (mark_all (c.deref-in-Group-5.ensures.value i) (replicate w false))) in
    let read = c.in_ok-read-in-Group.read in
    let made = c.in_ok-made-in-Group in
    let below = made.made.0 in
    let keys = c.deref-in-Group.ensures.value in
    let aggs = c.deref-in-Group-2.ensures.value in
    let marks = c.deref-in-Group-3.ensures.value in
    let chosen_are = c.in_ok-read-in-Group.ensures.0 ∙ (λ i. chosen (read_aggs (length (keys i)) (marks i)) (aggs i)) in
    let found_are = c.in_ok-read-in-Group.ensures.1 ∙ (λ i. range_with_len 0 (length (keys i)) ++ ranks (length (keys i)) (read_aggs (length (keys i)) (marks i))) in
    IfOk-weaker c.group.result _ _ (λ n f.
    group_gives (plan_tree c.args.plan) (plan_tree c.into_inner-in-Group.result) c.in-Group.keys.items c.in-Group.aggs.items read.aggs.items
    c.args.marks.items c.in_ok-marks-in-Group.marks.items w is c.requires wide m (plan_tree below.plan) (plan_tree n.plan) below.found.items
    read.found.items n.found.items chosen_are found_are (IfOk-at_ok _ made.ensures.values.0 c.narrow-in-Group.ensures.narrowed)
    (f.0 ∙ (λ i. Group (map (slice_index below.found.items) (c.deref-in-Group-7.ensures.value i)) (map (renumbered_agg below.found.items) (made.ensures.values.1 i).aggs.items) (plan_tree below.plan)))
    (f.1 ∙ ap (λ r. r.found.items) made.ensures.values.1)) c.group.ensures

pub narrow_to-returns-clause-narrows : goal.narrow_to-returns-clause-narrows
narrow_to-returns-clause-narrows t c =
    let made = c.in_ok-made in
    let below = made.made.1 in
    let narrowed = IfOk-at_ok _ made.ensures.values.1 c.narrow.ensures.narrowed in
    let wanted = c.deref-2.ensures.value ∙ IfOk-at_ok _ made.ensures.values.0 c.marked.ensures ∙ ap read_places c.deref.ensures.value in
    IfOk-weaker c.keep.result _ _ (λ q f.
    exact_narrows (plan_tree c.args.plan) (plan_tree below.plan) (plan_tree q) c.args.marks.items below.found.items narrowed
    (subst (λ ws. IsKept (map (slice_index below.found.items) ws) (plan_tree below.plan) (plan_tree q)) wanted f)) c.keep.ensures

pub narrow_to-returns-clause-width : goal.narrow_to-returns-clause-width
narrow_to-returns-clause-width t c =
    let made = c.in_ok-made in
    let below = made.made.1 in
    let narrowed = IfOk-at_ok _ made.ensures.values.1 c.narrow.ensures.narrowed in
    let wanted = c.deref-2.ensures.value ∙ IfOk-at_ok _ made.ensures.values.0 c.marked.ensures ∙ ap read_places c.deref.ensures.value in
    IfOk-weaker c.keep.result _ _ (λ q f.
    exact_width (plan_tree c.args.plan) (plan_tree below.plan) (plan_tree q) c.args.marks.items below.found.items narrowed
    (subst (λ ws. IsKept (map (slice_index below.found.items) ws) (plan_tree below.plan) (plan_tree q)) wanted f)) c.keep.ensures

pub narrow_to-returns-clause-columns : goal.narrow_to-returns-clause-columns
narrow_to-returns-clause-columns t c =
    let made = c.in_ok-made in
    let below = made.made.1 in
    let narrowed = IfOk-at_ok _ made.ensures.values.1 c.narrow.ensures.narrowed in
    let wanted = c.deref-2.ensures.value ∙ IfOk-at_ok _ made.ensures.values.0 c.marked.ensures ∙ ap read_places c.deref.ensures.value in
    IfOk-weaker c.keep.result _ _ (λ q f.
    exact_columns (plan_tree c.args.plan) (plan_tree below.plan) (plan_tree q) c.args.marks.items below.found.items narrowed
    (subst (λ ws. IsKept (map (slice_index below.found.items) ws) (plan_tree below.plan) (plan_tree q)) wanted f)) c.keep.ensures
