-- Plans of some columns of other plans, operator by operator.
use Rattle.std.specs.Prelude.{◌≡◌, ◌<◌, ◌+◌, ◌++◌, ◌&&◌, Bool, true, false, cond, ℕ, List, [], ◌∷◌, filter, flat_map, length, map, option_and_then, slice_index, Some, ℤ}
use Rattle.std.specs.List.{AllByRecursion, AllZip, range_with_len}
use Rattle.std.proofs.Common.{arith, refl, sym, ap, subst, ◌∙◌, length-append}
use Rattle.std.proofs.lemmas.List.{map-append}
use Rattle.au_value.specs.declared.kinds.Kind.{Kind}
use Rattle.au_value.specs.declared.kinds.Kind.TheVariants as kind
use Rattle.au_value.specs.declared.value.Value.{Value}
use Rattle.au_value.specs.Order.{kind_eq}
use Rattle.au_value.specs.KindLaws.{kind_itself}
use Rattle.au_expr.specs.Figures.{Fit}
use Rattle.au_expr.specs.Kinds.{is_kind}
use Rattle.au_expr.specs.Ordinary.{is_true}
use Rattle.au_expr.proofs.Along.{is_kind_is}
use Rattle.au_expr.proofs.Fits.{fit_both, fit_parts}
use Rattle.au_algebra.specs.Lists.{value_at}
use Rattle.au_algebra.specs.Ordinary.{Rows}
use Rattle.au_algebra.specs.Typing.{kinds_if, same_kinds}
use Rattle.au_algebra.proofs.Each.{all_from}
use Rattle.au_algebra.proofs.Items.{and_then_is, chosen_is, some_is}
use Rattle.au_algebra.proofs.PositiveRelation.{same_kinds_is}
use Rattle.au_plain.specs.Meaning.{extended, kept, passes, plain_rows}
use Rattle.au_plain.specs.PTerms.{PTerm, plain_value}
use Rattle.au_plain.specs.PlanKinds.{HaveKinds, kept_kinds, plain_kind, plan_kinds}
use Rattle.au_plain.specs.PlanNumbers.{plan_numbers, term_numbers}
use Rattle.au_plain.specs.Plans.{PlanTree, Extend, Filter, Join, Keep, Union}
use Rattle.au_passes.specs.Pruning.{Narrows, renumbered}
use Rattle.au_plain.specs.Widths.{plan_width}
use Rattle.au_passes.specs.Reading.{columns}
use Rattle.au_passes.proofs.KeptColumns.{Through, found_through, kept_itself, kept_past, kept_wider, kinds_both, kinds_itself, kinds_past, kinds_through, kinds_wider, listed_through, places_there, through, wanted_kinds}
use Rattle.au_plain.proofs.Widths.{Wide, rows_wide, width_is}
use Rattle.au_passes.proofs.Renumbering.{Reaches, kind_same, numbers_same, value_same}

-- ---- all columns

pub all_itself : (w : ℕ) (rows : Rows) → Wide w rows → map (kept (range_with_len 0 w)) rows ≡ rows
all_itself w [] h = refl
all_itself w (r ∷ rows) h = λ i. kept_itself w r h.0 i ∷ all_itself w rows h.1 i

-- a plan gives all its columns
pub itself : (p : PlanTree) → Narrows p (range_with_len 0 (plan_width p)) p
itself p = record {
  typed = λ kinds ks h. (ks, kinds_itself (plan_width p) ks (width_is kinds p ks h), h);
  rows = λ kinds ks ts ok h. sym (all_itself (plan_width p) (plain_rows p ts) (rows_wide kinds ts ok p ks h));
  numbers = λ kinds ks ts ok h f. f;
}

-- ---- wanted columns

pub each_through : (places js is : List ℕ) → Through places js is → (rows : Rows) → map (kept js) (map (kept places) rows) ≡ map (kept is) rows
each_through places js is z [] = refl
each_through places js is z (r ∷ rows) = λ i. through places js is z r i ∷ each_through places js is z rows i

-- the wanted ones of the columns that a plan gives
pub wanted : (p q : PlanTree) (places found is : List ℕ) → Narrows p places q → AllByRecursion (Reaches places found) is → Narrows p is (Keep (map (slice_index found) is) q)
wanted p q places found is n reach =
    let js = map (slice_index found) is in
    let z = found_through places found is reach in
    record {
      typed = λ kinds ks h.
          let t = n.typed kinds ks h in
          let w = wanted_kinds places found ks t.0 t.1 is reach in
          (w.0, w.1, ap (option_and_then (λ ms. kept_kinds js ms)) t.2 ∙ kinds_through places js is z ks t.0 t.1 ∙ w.1);
      rows = λ kinds ks ts ok h. ap (map (kept js)) (n.rows kinds ks ts ok h) ∙ each_through places js is z (plain_rows p ts);
      numbers = n.numbers;
    }

-- a Keep of all columns may be left out
pub without_keep : (p q : PlanTree) (is : List ℕ) → Narrows p is (Keep (range_with_len 0 (plan_width q)) q) → Narrows p is q
without_keep p q is n = record {
  typed = λ kinds ks h.
      let t = n.typed kinds ks h in
      let u = and_then_is _ (plan_kinds kinds q) t.0 t.2 in
      let same = some_is u.0 t.0 (sym (kinds_itself (plan_width q) u.0 (width_is kinds q u.0 u.1)) ∙ u.2) in
      (t.0, t.1, u.1 ∙ ap (λ ms. Some ms) same);
  rows = λ kinds ks ts ok h.
      let t = n.typed kinds ks h in
      let u = and_then_is _ (plan_kinds kinds q) t.0 t.2 in
      sym (all_itself (plan_width q) (plain_rows q ts) (rows_wide kinds ts ok q u.0 u.1)) ∙ n.rows kinds ks ts ok h;
  numbers = n.numbers;
}

-- columns of a Keep are columns of the plan below it
pub of_keep : (p q : PlanTree) (ps places : List ℕ) → Narrows p (map (slice_index ps) places) q → AllByRecursion (λ i. i < length ps) places → Narrows (Keep ps p) places q
of_keep p q ps places n within =
    let is = map (slice_index ps) places in
    let z = listed_through ps places within in
    record {
      typed = λ kinds ks h.
          let u = and_then_is _ (plan_kinds kinds p) ks h in
          let t = n.typed kinds u.0 u.1 in
          (t.0, kinds_through ps places is z u.0 ks u.2 ∙ t.1, t.2);
      rows = λ kinds ks ts ok h.
          let u = and_then_is _ (plan_kinds kinds p) ks h in
          n.rows kinds u.0 ts ok u.1 ∙ sym (each_through ps places is z (plain_rows p ts));
      numbers = λ kinds ks ts ok h. let u = and_then_is _ (plan_kinds kinds p) ks h in n.numbers kinds u.0 ts ok u.1;
    }

-- ---- expressions

-- an expression reads columns that are found, wherever it is typed
abbrev pub ReadsFound : List ℕ → List ℕ → ℕ → PTerm → Type 0
ReadsFound places found w e = (ks : List Kind) (k : Kind) → length ks ≡ w → plain_kind ks e ≡ Some k → AllByRecursion (Reaches places found) (columns e)

module _ (places found : List ℕ) (e : PTerm) (reach : AllByRecursion (Reaches places found) (columns e)) where
  pub numbers_kept : (rows : Rows) → flat_map (term_numbers (renumbered found e)) (map (kept places) rows) ≡ flat_map (term_numbers e) rows
  numbers_kept [] = refl
  numbers_kept (r ∷ rows) = λ i. numbers_same places found r e reach i ++ numbers_kept rows i

  kept_if : (b : Bool) (r : List Value) (rows : Rows) → cond b (kept places r ∷ map (kept places) rows) (map (kept places) rows) ≡ map (kept places) (cond b (r ∷ rows) rows)
  kept_if true r rows = refl
  kept_if false r rows = refl

  pub passing_kept : (rows : Rows) → filter (passes (renumbered found e)) (map (kept places) rows) ≡ map (kept places) (filter (passes e) rows)
  passing_kept [] = refl
  passing_kept (r ∷ rows) =
      (λ i. cond (is_true (value_same places found r e reach i)) (kept places r ∷ passing_kept rows i) (passing_kept rows i))
      ∙ kept_if (passes e r) r (filter (passes e) rows)

  -- numbers of an operator with an expression
  pub numbers_fit : (xs ys : List ℤ) (rows others : Rows) → (Fit xs → Fit ys) → others ≡ map (kept places) rows → Fit (xs ++ flat_map (term_numbers e) rows) → Fit (ys ++ flat_map (term_numbers (renumbered found e)) others)
  numbers_fit xs ys rows others f same h =
      let p = fit_parts xs (flat_map (term_numbers e) rows) h in
      fit_both ys (flat_map (term_numbers (renumbered found e)) others) (f p.0)
      (subst Fit (sym (ap (flat_map (term_numbers (renumbered found e))) same ∙ numbers_kept rows)) p.1)

-- ---- one column more

more_kept : (places found : List ℕ) (w : ℕ) (e : PTerm) → AllByRecursion (Reaches places found) (columns e) → AllByRecursion (λ i. i < w) places → (row : List Value) → length row ≡ w → extended (renumbered found e) (kept places row) ≡ kept (places ++ w ∷ []) (extended e row)
more_kept places found w e reach within row long =
    let v = plain_value e row in
    let before = kept_wider places row (v ∷ []) (all_from (λ i. i < w) (λ i. i < length row) places (λ i l. omega (arith, l, long)) within) in
    let last = kept_past (0 ∷ []) w row (v ∷ []) long in
    let place : w + 0 ≡ w = omega arith in
    (λ i. kept places row ++ value_same places found row e reach i ∷ [])
    ∙ (λ i. sym before i ++ (sym last ∙ ap (λ j. kept (j ∷ []) (row ++ v ∷ [])) place) i)
    ∙ sym (map-append (value_at (row ++ v ∷ [])) places (w ∷ []))

each_more : (places found : List ℕ) (w : ℕ) (e : PTerm) → AllByRecursion (Reaches places found) (columns e) → AllByRecursion (λ i. i < w) places → (rows : Rows) → Wide w rows → map (extended (renumbered found e)) (map (kept places) rows) ≡ map (kept (places ++ w ∷ [])) (map (extended e) rows)
each_more places found w e reach within [] h = refl
each_more places found w e reach within (r ∷ rows) h = λ i. more_kept places found w e reach within r h.0 i ∷ each_more places found w e reach within rows h.1 i

-- places that have kinds are those of so many columns
pub within_width : (places : List ℕ) (ks js : List Kind) (w : ℕ) → length ks ≡ w → kept_kinds places ks ≡ Some js → AllByRecursion (λ i. i < w) places
within_width places ks js w long t = all_from (λ i. i < length ks) (λ i. i < w) places (λ i l. omega (arith, l, long)) (places_there places ks js t)

kinds_more : (places : List ℕ) (w : ℕ) (ms js : List Kind) (k : Kind) → length ms ≡ w → kept_kinds places ms ≡ Some js → kept_kinds (places ++ w ∷ []) (ms ++ k ∷ []) ≡ Some (js ++ k ∷ [])
kinds_more places w ms js k long t =
    let place : w + 0 ≡ w = omega arith in
    kinds_both places (w ∷ []) (ms ++ k ∷ []) js (k ∷ [])
    (kinds_wider places ms (k ∷ []) (places_there places ms js t) ∙ t)
    (ap (λ j. kept_kinds (j ∷ []) (ms ++ k ∷ [])) (sym place) ∙ kinds_past (0 ∷ []) w ms (k ∷ []) long)

pub extend_read : (p q : PlanTree) (places found : List ℕ) (e : PTerm) → Narrows p places q → ReadsFound places found (plan_width p) e → Narrows (Extend e p) (places ++ plan_width p ∷ []) (Extend (renumbered found e) q)
extend_read p q places found e n read =
    let w = plan_width p in
    let reach = λ (kinds : List (List Kind)) (ms : List Kind) (k : Kind) (h : plan_kinds kinds p ≡ Some ms) (t : plain_kind ms e ≡ Some k). read ms k (width_is kinds p ms h) t in
    record {
      typed = λ kinds ks h.
          let u = and_then_is _ (plan_kinds kinds p) ks h in
          let s = and_then_is _ (plain_kind u.0 e) ks u.2 in
          let t = n.typed kinds u.0 u.1 in
          let same = kind_same places found u.0 t.0 t.1 e (reach kinds u.0 s.0 u.1 s.1) ∙ s.1 in
          (t.0 ++ s.0 ∷ [], ap (kept_kinds (places ++ w ∷ [])) (sym (some_is (u.0 ++ s.0 ∷ []) ks s.2)) ∙ kinds_more places w u.0 t.0 s.0 (width_is kinds p u.0 u.1) t.1, ap (option_and_then (λ ms. option_and_then (λ k. Some (ms ++ k ∷ [])) (plain_kind ms (renumbered found e)))) t.2 ∙ ap (option_and_then (λ k. Some (t.0 ++ k ∷ []))) same);
      rows = λ kinds ks ts ok h.
          let u = and_then_is _ (plan_kinds kinds p) ks h in
          let s = and_then_is _ (plain_kind u.0 e) ks u.2 in
          let t = n.typed kinds u.0 u.1 in
          ap (map (extended (renumbered found e))) (n.rows kinds u.0 ts ok u.1)
          ∙ each_more places found w e (reach kinds u.0 s.0 u.1 s.1) (within_width places u.0 t.0 w (width_is kinds p u.0 u.1) t.1) (plain_rows p ts) (rows_wide kinds ts ok p u.0 u.1);
      numbers = λ kinds ks ts ok h f.
          let u = and_then_is _ (plan_kinds kinds p) ks h in
          let s = and_then_is _ (plain_kind u.0 e) ks u.2 in
          numbers_fit places found e (reach kinds u.0 s.0 u.1 s.1) (plan_numbers p ts) (plan_numbers q ts) (plain_rows p ts) (plain_rows q ts) (n.numbers kinds u.0 ts ok u.1) (n.rows kinds u.0 ts ok u.1) f;
    }

each_wider : (places : List ℕ) (w : ℕ) (e : PTerm) → AllByRecursion (λ i. i < w) places → (rows : Rows) → Wide w rows → map (kept places) (map (extended e) rows) ≡ map (kept places) rows
each_wider places w e within [] h = refl
each_wider places w e within (r ∷ rows) h =
    let first = kept_wider places r (plain_value e r ∷ []) (all_from (λ i. i < w) (λ i. i < length r) places (λ i l. omega (arith, l, h.0)) within) in
    λ i. first i ∷ each_wider places w e within rows h.1 i

-- a column that is not read is left out
pub extend_unread : (p q : PlanTree) (places : List ℕ) (e : PTerm) → Narrows p places q → Narrows (Extend e p) places q
extend_unread p q places e n = record {
  typed = λ kinds ks h.
      let u = and_then_is _ (plan_kinds kinds p) ks h in
      let s = and_then_is _ (plain_kind u.0 e) ks u.2 in
      let t = n.typed kinds u.0 u.1 in
      (t.0, ap (kept_kinds places) (sym (some_is (u.0 ++ s.0 ∷ []) ks s.2)) ∙ kinds_wider places u.0 (s.0 ∷ []) (places_there places u.0 t.0 t.1) ∙ t.1, t.2);
  rows = λ kinds ks ts ok h.
      let u = and_then_is _ (plan_kinds kinds p) ks h in
      let t = n.typed kinds u.0 u.1 in
      n.rows kinds u.0 ts ok u.1
      ∙ sym (each_wider places (plan_width p) e (within_width places u.0 t.0 (plan_width p) (width_is kinds p u.0 u.1) t.1) (plain_rows p ts) (rows_wide kinds ts ok p u.0 u.1));
  numbers = λ kinds ks ts ok h f.
      let u = and_then_is _ (plan_kinds kinds p) ks h in
      n.numbers kinds u.0 ts ok u.1 (fit_parts (plan_numbers p ts) (flat_map (term_numbers e) (plain_rows p ts)) f).0;
}

-- ---- filters

pub of_filter : (p q : PlanTree) (places found : List ℕ) (e : PTerm) → Narrows p places q → ReadsFound places found (plan_width p) e → Narrows (Filter e p) places (Filter (renumbered found e) q)
of_filter p q places found e n read =
    let reach = λ (kinds : List (List Kind)) (ms : List Kind) (h : plan_kinds kinds p ≡ Some ms) (t : is_kind kind.Flag (plain_kind ms e) ≡ true). read ms kind.Flag (width_is kinds p ms h) (is_kind_is kind.Flag (plain_kind ms e) t) in
    record {
      typed = λ kinds ks h.
          let u = and_then_is _ (plan_kinds kinds p) ks h in
          let s = chosen_is (is_kind kind.Flag (plain_kind u.0 e)) (Some u.0) ks u.2 in
          let t = n.typed kinds u.0 u.1 in
          let same = kind_same places found u.0 t.0 t.1 e (reach kinds u.0 u.1 s.0) in
          (t.0, ap (kept_kinds places) (sym (some_is u.0 ks s.1)) ∙ t.1, ap (option_and_then (λ ms. kinds_if (is_kind kind.Flag (plain_kind ms (renumbered found e))) ms)) t.2 ∙ ap (λ b. kinds_if b t.0) (ap (is_kind kind.Flag) same ∙ s.0));
      rows = λ kinds ks ts ok h.
          let u = and_then_is _ (plan_kinds kinds p) ks h in
          let s = chosen_is (is_kind kind.Flag (plain_kind u.0 e)) (Some u.0) ks u.2 in
          ap (filter (passes (renumbered found e))) (n.rows kinds u.0 ts ok u.1) ∙ passing_kept places found e (reach kinds u.0 u.1 s.0) (plain_rows p ts);
      numbers = λ kinds ks ts ok h f.
          let u = and_then_is _ (plan_kinds kinds p) ks h in
          let s = chosen_is (is_kind kind.Flag (plain_kind u.0 e)) (Some u.0) ks u.2 in
          numbers_fit places found e (reach kinds u.0 u.1 s.0) (plan_numbers p ts) (plan_numbers q ts) (plain_rows p ts) (plain_rows q ts) (n.numbers kinds u.0 ts ok u.1) (n.rows kinds u.0 ts ok u.1) f;
    }

-- ---- unions

same_kinds_itself : (ks : List Kind) → same_kinds ks ks ≡ true
same_kinds_itself [] = refl
same_kinds_itself (k ∷ ks) = ap (λ b. b && same_kinds ks ks) (kind_itself k) ∙ same_kinds_itself ks

pub of_union : (p q r s : PlanTree) (places : List ℕ) → Narrows p places r → Narrows q places s → Narrows (Union p q) places (Union r s)
of_union p q r s places n m = record {
  typed = λ kinds ks h.
      let u = and_then_is _ (plan_kinds kinds p) ks h in
      let v = and_then_is _ (plan_kinds kinds q) ks u.2 in
      let c = chosen_is (same_kinds u.0 v.0) (Some u.0) ks v.2 in
      let one = n.typed kinds u.0 u.1 in
      let two = m.typed kinds v.0 v.1 in
      let same = some_is two.0 one.0 (sym two.1 ∙ ap (kept_kinds places) (sym (same_kinds_is u.0 v.0 c.0)) ∙ one.1) in (
        one.0,
        ap (kept_kinds places) (sym (some_is u.0 ks c.1)) ∙ one.1,
        ap (option_and_then (λ js. option_and_then (λ hs. kinds_if (same_kinds js hs) js) (plan_kinds kinds s))) one.2
            ∙ ap (option_and_then (λ hs. kinds_if (same_kinds one.0 hs) one.0)) (two.2 ∙ ap (λ hs. Some hs) same)
            ∙ ap (λ b. kinds_if b one.0) (same_kinds_itself one.0),
      );
  rows = λ kinds ks ts ok h.
      let u = and_then_is _ (plan_kinds kinds p) ks h in
      let v = and_then_is _ (plan_kinds kinds q) ks u.2 in
      (λ i. n.rows kinds u.0 ts ok u.1 i ++ m.rows kinds v.0 ts ok v.1 i) ∙ sym (map-append (kept places) (plain_rows p ts) (plain_rows q ts));
  numbers = λ kinds ks ts ok h f.
      let u = and_then_is _ (plan_kinds kinds p) ks h in
      let v = and_then_is _ (plan_kinds kinds q) ks u.2 in
      let both = fit_parts (plan_numbers p ts) (plan_numbers q ts) f in
      fit_both (plan_numbers r ts) (plan_numbers s ts) (n.numbers kinds u.0 ts ok u.1 both.0) (m.numbers kinds v.0 ts ok v.1 both.1);
}

-- ---- joins

-- columns of a row, and columns of the row behind it
pub pair_kept : (w : ℕ) (pl pr : List ℕ) (a b : List Value) → length a ≡ w → AllByRecursion (λ i. i < w) pl → kept pl a ++ kept pr b ≡ kept (pl ++ map (λ i. w + i) pr) (a ++ b)
pair_kept w pl pr a b long within =
    let before = kept_wider pl a b (all_from (λ i. i < w) (λ i. i < length a) pl (λ i l. omega (arith, l, long)) within) in
    (λ i. sym before i ++ sym (kept_past pr w a b long) i) ∙ sym (map-append (value_at (a ++ b)) pl (map (λ i. w + i) pr))

beside_kept : (w : ℕ) (pl pr : List ℕ) (a : List Value) → length a ≡ w → AllByRecursion (λ i. i < w) pl → (ys : Rows) → map (λ b. kept pl a ++ b) (map (kept pr) ys) ≡ map (kept (pl ++ map (λ i. w + i) pr)) (map (λ b. a ++ b) ys)
beside_kept w pl pr a long within [] = refl
beside_kept w pl pr a long within (b ∷ ys) = λ i. pair_kept w pl pr a b long within i ∷ beside_kept w pl pr a long within ys i

pairs_kept : (w : ℕ) (pl pr : List ℕ) (xs ys : Rows) → Wide w xs → AllByRecursion (λ i. i < w) pl → flat_map (λ a. map (λ b. a ++ b) (map (kept pr) ys)) (map (kept pl) xs) ≡ map (kept (pl ++ map (λ i. w + i) pr)) (flat_map (λ a. map (λ b. a ++ b) ys) xs)
pairs_kept w pl pr [] ys h within = refl
pairs_kept w pl pr (a ∷ xs) ys h within =
    (λ i. beside_kept w pl pr a h.0 within ys i ++ pairs_kept w pl pr xs ys h.1 within i)
    ∙ sym (map-append (kept (pl ++ map (λ i. w + i) pr)) (map (λ b. a ++ b) ys) (flat_map (λ a'. map (λ b. a' ++ b) ys) xs))

pub of_join : (p q r s : PlanTree) (pl pr found : List ℕ) (e : PTerm) → Narrows p pl r → Narrows q pr s → ReadsFound (pl ++ map (λ i. plan_width p + i) pr) found (plan_width p + plan_width q) e → Narrows (Join e p q) (pl ++ map (λ i. plan_width p + i) pr) (Join (renumbered found e) r s)
of_join p q r s pl pr found e n m read =
    let w = plan_width p in
    let places = pl ++ map (λ i. w + i) pr in
    let reach = λ (kinds : List (List Kind)) (ms hs : List Kind) (h : plan_kinds kinds p ≡ Some ms) (g : plan_kinds kinds q ≡ Some hs) (t : is_kind kind.Flag (plain_kind (ms ++ hs) e) ≡ true).
    read (ms ++ hs) kind.Flag (length-append ms hs ∙ (λ i. width_is kinds p ms h i + width_is kinds q hs g i)) (is_kind_is kind.Flag (plain_kind (ms ++ hs) e) t)
    in
    let all = λ (kinds : List (List Kind)) (ms hs js gs : List Kind) (h : plan_kinds kinds p ≡ Some ms) (t : kept_kinds pl ms ≡ Some js) (v : kept_kinds pr hs ≡ Some gs).
    kinds_both pl (map (λ i. w + i) pr) (ms ++ hs) js gs (kinds_wider pl ms hs (places_there pl ms js t) ∙ t) (kinds_past pr w ms hs (width_is kinds p ms h) ∙ v)
    in
    let pairs = λ (kinds : List (List Kind)) (ms hs : List Kind) (ts : List Rows) (ok : AllZip HaveKinds kinds ts) (h : plan_kinds kinds p ≡ Some ms) (g : plan_kinds kinds q ≡ Some hs).
    let t = n.typed kinds ms h in
    (λ i. flat_map (λ a. map (λ b. a ++ b) (m.rows kinds hs ts ok g i)) (n.rows kinds ms ts ok h i))
    ∙ pairs_kept w pl pr (plain_rows p ts) (plain_rows q ts) (rows_wide kinds ts ok p ms h) (within_width pl ms t.0 w (width_is kinds p ms h) t.1)
    in
    record {
      typed = λ kinds ks h.
          let u = and_then_is _ (plan_kinds kinds p) ks h in
          let v = and_then_is _ (plan_kinds kinds q) ks u.2 in
          let c = chosen_is (is_kind kind.Flag (plain_kind (u.0 ++ v.0) e)) (Some (u.0 ++ v.0)) ks v.2 in
          let one = n.typed kinds u.0 u.1 in
          let two = m.typed kinds v.0 v.1 in
          let both = all kinds u.0 v.0 one.0 two.0 u.1 one.1 two.1 in
          let same = kind_same places found (u.0 ++ v.0) (one.0 ++ two.0) both e (reach kinds u.0 v.0 u.1 v.1 c.0) in (
            one.0 ++ two.0,
            ap (kept_kinds places) (sym (some_is (u.0 ++ v.0) ks c.1)) ∙ both,
            ap (option_and_then (λ js. option_and_then (λ hs. kinds_if (is_kind kind.Flag (plain_kind (js ++ hs) (renumbered found e))) (js ++ hs)) (plan_kinds kinds s))) one.2
                ∙ ap (option_and_then (λ hs. kinds_if (is_kind kind.Flag (plain_kind (one.0 ++ hs) (renumbered found e))) (one.0 ++ hs))) two.2
                ∙ ap (λ b. kinds_if b (one.0 ++ two.0)) (ap (is_kind kind.Flag) same ∙ c.0),
          );
      rows = λ kinds ks ts ok h.
          let u = and_then_is _ (plan_kinds kinds p) ks h in
          let v = and_then_is _ (plan_kinds kinds q) ks u.2 in
          let c = chosen_is (is_kind kind.Flag (plain_kind (u.0 ++ v.0) e)) (Some (u.0 ++ v.0)) ks v.2 in
          ap (filter (passes (renumbered found e))) (pairs kinds u.0 v.0 ts ok u.1 v.1)
          ∙ passing_kept places found e (reach kinds u.0 v.0 u.1 v.1 c.0) (flat_map (λ a. map (λ b. a ++ b) (plain_rows q ts)) (plain_rows p ts));
      numbers = λ kinds ks ts ok h f.
          let u = and_then_is _ (plan_kinds kinds p) ks h in
          let v = and_then_is _ (plan_kinds kinds q) ks u.2 in
          let c = chosen_is (is_kind kind.Flag (plain_kind (u.0 ++ v.0) e)) (Some (u.0 ++ v.0)) ks v.2 in
          numbers_fit places found e (reach kinds u.0 v.0 u.1 v.1 c.0) (plan_numbers p ts ++ plan_numbers q ts) (plan_numbers r ts ++ plan_numbers s ts)
          (flat_map (λ a. map (λ b. a ++ b) (plain_rows q ts)) (plain_rows p ts)) (flat_map (λ a. map (λ b. a ++ b) (plain_rows s ts)) (plain_rows r ts))
          (λ g. let both = fit_parts (plan_numbers p ts) (plan_numbers q ts) g in fit_both (plan_numbers r ts) (plan_numbers s ts) (n.numbers kinds u.0 ts ok u.1 both.0) (m.numbers kinds v.0 ts ok v.1 both.1))
          (pairs kinds u.0 v.0 ts ok u.1 v.1) f;
    }

-- ---- columns and sides that fit wherever the plan is typed

-- the columns of a Keep that are read, from the plan below it
pub of_kept :
    (p q : PlanTree) (pl found ps places : List ℕ) → Narrows p pl q →
    ((ks js : List Kind) → length ks ≡ plan_width p → kept_kinds ps ks ≡ Some js → AllByRecursion (Reaches pl found) (map (slice_index ps) places)) →
    AllByRecursion (λ i. i < length ps) places → Narrows (Keep ps p) places (Keep (map (slice_index found) (map (slice_index ps) places)) q)
of_kept p q pl found ps places n read within =
    let r = Keep (map (slice_index found) (map (slice_index ps) places)) q in
    let here = λ (kinds : List (List Kind)) (ks : List Kind) (h : plan_kinds kinds (Keep ps p) ≡ Some ks).
    let u = and_then_is _ (plan_kinds kinds p) ks h in
    of_keep p r ps places (wanted p q pl found (map (slice_index ps) places) n (read u.0 ks (width_is kinds p u.0 u.1) u.2)) within
    in
    record {
      typed = λ kinds ks h. (here kinds ks h).typed kinds ks h;
      rows = λ kinds ks ts ok h. (here kinds ks h).rows kinds ks ts ok h;
      numbers = λ kinds ks ts ok h. (here kinds ks h).numbers kinds ks ts ok h;
    }

-- a union whose right side gives the same columns where it has as many as the left one
pub of_sides :
    (p q r s : PlanTree) (places others : List ℕ) → Narrows p places r → Narrows q others s → (plan_width p ≡ plan_width q → others ≡ places) →
    Narrows (Union p q) places (Union r s)
of_sides p q r s places others n m same =
    let here = λ (kinds : List (List Kind)) (ks : List Kind) (h : plan_kinds kinds (Union p q) ≡ Some ks).
    let u = and_then_is _ (plan_kinds kinds p) ks h in
    let v = and_then_is _ (plan_kinds kinds q) ks u.2 in
    let c = chosen_is (same_kinds u.0 v.0) (Some u.0) ks v.2 in
    let wide = sym (width_is kinds p u.0 u.1) ∙ ap length (same_kinds_is u.0 v.0 c.0) ∙ width_is kinds q v.0 v.1 in
    of_union p q r s places n (subst (λ ps. Narrows q ps s) (same wide) m)
    in
    record {
      typed = λ kinds ks h. (here kinds ks h).typed kinds ks h;
      rows = λ kinds ks ts ok h. (here kinds ks h).rows kinds ks ts ok h;
      numbers = λ kinds ks ts ok h. (here kinds ks h).numbers kinds ks ts ok h;
    }
