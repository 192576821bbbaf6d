-- Each operator of a plan that is narrowed: how many marks it asks for below, and what it gives.
use Rattle.std.specs.Prelude.{◌≡◌, ◌<◌, ◌≤◌, ◌+◌, ◌-◌, ◌++◌, Bool, false, count_by, drop, ℕ, List, [], ◌∷◌, length, map, replicate, slice_index, take}
use Rattle.std.specs.List.{range_with_len}
use Rattle.std.proofs.Common.{arith, sym, ap, subst, ◌∙◌}
use Rattle.std.proofs.lemmas.List.{length-map, length-replicate}
use Rattle.au_plain.specs.declared.plan.PAgg.{PAgg}
use Rattle.au_plain.specs.PTerms.{PTerm}
use Rattle.au_plain.specs.Plans.{PlanTree, Extend, Filter, Group, Join, Keep, Union}
use Rattle.au_passes.specs.Pruning.{HasColumns, IsKept, Narrowed, Narrows, renumbered, renumbered_agg}
use Rattle.au_plain.specs.Widths.{plan_width}
use Rattle.au_passes.specs.Reading.{agg_column, at_least_one, chosen, columns, mark_all, ranks, read_aggs, read_places, reads_last}
use Rattle.au_passes.proofs.MarkLaws.{all_long, one_at_least_long, places_count}
use Rattle.au_passes.proofs.NarrowedPlans.{before_last, drop_long, narrowed_extend, narrowed_filter, narrowed_unread, take_long}
use Rattle.au_passes.proofs.NarrowedSides.{fitted_long, kept_width, narrowed_group, narrowed_join, narrowed_keep, narrowed_union}

module _ (whole p : PlanTree) (e : PTerm) (marks : List Bool) (is : whole ≡ Extend e p) (long : length marks ≡ plan_width whole) where
  pub front_asks : (front : List Bool) → front ≡ take (length marks - 1) marks → length front ≡ plan_width p
  front_asks front f = ap length f ∙ before_last marks (plan_width p) (long ∙ ap plan_width is)

  pub extend_asks : (front new : List Bool) → front ≡ take (length marks - 1) marks → new ≡ mark_all (columns e) front → length new ≡ plan_width p
  extend_asks front new f m = ap length m ∙ all_long (columns e) front ∙ front_asks front f

  pub extend_gives :
      (front new : List Bool) (q r : PlanTree) (found more : List ℕ) (c : ℕ) → front ≡ take (length marks - 1) marks → new ≡ mark_all (columns e) front →
      Narrowed p new q found → c ≡ plan_width q → r ≡ Extend (renumbered found e) q → more ≡ found ++ c ∷ [] → Narrowed whole marks r more
  extend_gives front new q r found more c f m n count r_is more_is =
      subst (λ x. Narrowed x marks r more) (sym is)
      (narrowed_extend p q r e marks found more c (long ∙ ap plan_width is) (subst (λ ms. Narrowed p ms q found) (m ∙ ap (mark_all (columns e)) f) n) count r_is more_is)

  pub unread_gives :
      (front : List Bool) (q r : PlanTree) (found more : List ℕ) → reads_last marks ≡ false → front ≡ take (length marks - 1) marks →
      Narrowed p front q found → r ≡ q → more ≡ found ++ 0 ∷ [] → Narrowed whole marks r more
  unread_gives front q r found more unread f n r_is more_is =
      subst (λ x. Narrowed x marks r more) (sym is)
      (narrowed_unread p q r e marks found more (long ∙ ap plan_width is) unread (subst (λ ms. Narrowed p ms q found) f n) r_is more_is)

module _ (whole p : PlanTree) (e : PTerm) (marks new : List Bool) (is : whole ≡ Filter e p) (long : length marks ≡ plan_width whole) (m : new ≡ mark_all (columns e) marks) where
  pub filter_asks : length new ≡ plan_width p
  filter_asks = ap length m ∙ all_long (columns e) marks ∙ long ∙ ap plan_width is

  pub filter_gives : (q r : PlanTree) (found same : List ℕ) → Narrowed p new q found → r ≡ Filter (renumbered found e) q → same ≡ found → Narrowed whole marks r same
  filter_gives q r found same n r_is same_is =
      subst (λ x. Narrowed x marks r same) (sym is)
      (narrowed_filter p q r e marks found same (long ∙ ap plan_width is) (subst (λ ms. Narrowed p ms q found) m n) r_is same_is)

module _ (whole p : PlanTree) (ps : List ℕ) (marks new : List Bool) (wanted : List ℕ) (w : ℕ) (is : whole ≡ Keep ps p) (long : length marks ≡ plan_width whole) (wide : w ≡ plan_width p) (m : new ≡ mark_all wanted (replicate w false)) where
  pub keep_asks : length new ≡ plan_width p
  keep_asks = ap length m ∙ all_long wanted (replicate w false) ∙ length-replicate w false ∙ wide

  pub keep_gives :
      (q r : PlanTree) (found given new_found : List ℕ) → wanted ≡ map (slice_index ps) (read_places (at_least_one marks)) → given ≡ ranks 0 (at_least_one marks) →
      Narrowed p new q found → IsKept (map (slice_index found) wanted) q r → new_found ≡ given → Narrowed whole marks r new_found
  keep_gives q r found given new_found w_is g_is n kept same =
      subst (λ x. Narrowed x marks r new_found) (sym is)
      (narrowed_keep p q r ps marks found new_found wanted (long ∙ ap plan_width is) w_is (same ∙ g_is)
      (subst (λ ms. Narrowed p ms q found) (m ∙ ap (λ k. mark_all wanted (replicate k false)) wide) n) kept)

-- how many columns are kept
pub keep_counts : (wanted found : List ℕ) (q r : PlanTree) (n : ℕ) → IsKept (map (slice_index found) wanted) q r → n ≡ length wanted → n ≡ plan_width r
keep_counts wanted found q r n kept e = e ∙ sym (length-map wanted (slice_index found)) ∙ sym (kept_width (map (slice_index found) wanted) q r kept)

module _ (whole p q : PlanTree) (e : PTerm) (marks all : List Bool) (w : ℕ) (is : whole ≡ Join e p q) (long : length marks ≡ plan_width whole) (wide : w ≡ plan_width p) (m : all ≡ mark_all (columns e) marks) where
  all_w : length all ≡ plan_width p + plan_width q
  all_w = ap length m ∙ all_long (columns e) marks ∙ long ∙ ap plan_width is

  pub join_fits : w ≤ length all
  join_fits = omega (arith, all_w, wide)

  pub left_asks : (left : List Bool) → left ≡ at_least_one (take w all) → length left ≡ plan_width p
  left_asks left l = ap length l ∙ one_at_least_long (take w all) ∙ take_long w all join_fits ∙ wide

  pub right_asks : (right : List Bool) → right ≡ at_least_one (drop w all) → length right ≡ plan_width q
  right_asks right r = ap length r ∙ one_at_least_long (drop w all) ∙ drop_long w all (plan_width q) (all_w ∙ ap (λ n. n + plan_width q) (sym wide))

  pub join_gives :
      (left right : List Bool) (found same : List ℕ) (r s t : PlanTree) → left ≡ at_least_one (take w all) → right ≡ at_least_one (drop w all) →
      found ≡ ranks 0 left ++ ranks (count_by (λ b. b) left) right →
      Narrows p (read_places left) r → plan_width r ≡ length (read_places left) → (0 < length (read_places left) → HasColumns p → HasColumns r) →
      Narrows q (read_places right) s → plan_width s ≡ length (read_places right) → (0 < length (read_places right) → HasColumns q → HasColumns s) →
      t ≡ Join (renumbered found e) r s → same ≡ found → Narrowed whole marks t same
  join_gives left right found same r s t l_is r_is f_is n n_width n_columns k k_width k_columns t_is same_is =
      let part = ap (λ ms. take w ms) m ∙ ap (λ i. take i (mark_all (columns e) marks)) wide in
      let rest = ap (λ ms. drop w ms) m ∙ ap (λ i. drop i (mark_all (columns e) marks)) wide in
      subst (λ x. Narrowed x marks t same) (sym is)
      (narrowed_join p q r s t e marks left right found same (long ∙ ap plan_width is) (l_is ∙ ap at_least_one part) (r_is ∙ ap at_least_one rest) f_is n n_width n_columns k k_width k_columns t_is same_is)

-- how many columns a join gives
pub join_counts : (left right : List Bool) (e : PTerm) (r s t : PlanTree) (c n : ℕ) → c ≡ count_by (λ b. b) left + count_by (λ b. b) right → plan_width r ≡ length (read_places left) → plan_width s ≡ length (read_places right) → t ≡ Join e r s → n ≡ c → n ≡ plan_width t
join_counts left right e r s t c n c_is n_width k_width t_is n_is =
    n_is ∙ c_is ∙ (λ i. (sym (places_count 0 left) ∙ sym n_width) i + (sym (places_count 0 right) ∙ sym k_width) i) ∙ ap plan_width (sym t_is)

module _ (whole p q : PlanTree) (marks : List Bool) (w : ℕ) (is : whole ≡ Union p q) (long : length marks ≡ plan_width whole) (wide : w ≡ plan_width q) where
  pub second_asks : (right : List Bool) → right ≡ at_least_one (take w marks ++ replicate (w - length marks) false) → length right ≡ plan_width q
  second_asks right r = ap length r ∙ one_at_least_long (take w marks ++ replicate (w - length marks) false) ∙ fitted_long marks w ∙ wide

  pub union_gives :
      (left right : List Bool) (found same : List ℕ) (r s t : PlanTree) → left ≡ at_least_one marks → right ≡ at_least_one (take w marks ++ replicate (w - length marks) false) →
      found ≡ ranks 0 left →
      Narrows p (read_places left) r → plan_width r ≡ length (read_places left) → (0 < length (read_places left) → HasColumns p → HasColumns r) →
      Narrows q (read_places right) s → (0 < length (read_places right) → HasColumns q → HasColumns s) →
      t ≡ Union r s → same ≡ found → Narrowed whole marks t same
  union_gives left right found same r s t l_is r_is f_is n n_width n_columns k k_columns t_is same_is =
      subst (λ x. Narrowed x marks t same) (sym is)
      (narrowed_union p q r s t marks left right found same (long ∙ ap plan_width is) l_is (r_is ∙ ap (λ i. at_least_one (take i marks ++ replicate (i - length marks) false)) wide) f_is n n_width n_columns k k_columns t_is same_is)

-- how many columns a union gives
pub union_counts : (left : List Bool) (r s t : PlanTree) (c n : ℕ) → c ≡ count_by (λ b. b) left → plan_width r ≡ length (read_places left) → t ≡ Union r s → n ≡ c → n ≡ plan_width t
union_counts left r s t c n c_is n_width t_is n_is = n_is ∙ c_is ∙ sym (places_count 0 left) ∙ sym n_width ∙ ap plan_width (sym t_is)

module _ (whole p : PlanTree) (keys : List ℕ) (aggs read : List PAgg) (marks new : List Bool) (w : ℕ) (is : whole ≡ Group keys aggs p) (long : length marks ≡ plan_width whole) (wide : w ≡ plan_width p) (m : new ≡ mark_all (map agg_column read) (mark_all keys (replicate w false))) where
  pub group_asks : length new ≡ plan_width p
  group_asks = ap length m ∙ all_long (map agg_column read) (mark_all keys (replicate w false)) ∙ all_long keys (replicate w false) ∙ length-replicate w false ∙ wide

  pub group_gives :
      (q r : PlanTree) (found given same : List ℕ) → read ≡ chosen (read_aggs (length keys) marks) aggs →
      given ≡ range_with_len 0 (length keys) ++ ranks (length keys) (read_aggs (length keys) marks) → Narrowed p new q found →
      r ≡ Group (map (slice_index found) keys) (map (renumbered_agg found) read) q → same ≡ given → Narrowed whole marks r same
  group_gives q r found given same read_is g_is n r_is same_is =
      subst (λ x. Narrowed x marks r same) (sym is)
      (narrowed_group p q r keys aggs read marks found same (long ∙ ap plan_width is) read_is (same_is ∙ g_is)
      (subst (λ ms. Narrowed p ms q found) (m ∙ ap (λ k. mark_all (map agg_column read) (mark_all keys (replicate k false))) wide) n) r_is)
