-- Narrowed plans that keep columns, join, unite or group.
use Rattle.std.specs.Prelude.{◌≡◌, ◌<◌, ◌+◌, ◌-◌, ◌==◌, ◌++◌, ◌⊎◌, Bool, true, false, cond, count_by, drop, ℕ, zero, suc, List, [], ◌∷◌, length, map, replicate, slice_get, slice_index, Some, take}
use Rattle.std.specs.List.{AllByRecursion, range_with_len}
use Rattle.std.proofs.Common.{arith, refl, sym, ap, subst, ◌∙◌, inl, inr, length-append}
use Rattle.std.proofs.Math.Seq.{take-length}
use Rattle.std.proofs.lemmas.Bool.Decides.{nat_tests}
use Rattle.std.proofs.lemmas.List.{append-nil, length-map, length-replicate, length-take}
use Rattle.std.proofs.lemmas.List.FromFn.{length-range_with_len}
use Rattle.au_value.specs.declared.kinds.Kind.{Kind}
use Rattle.au_value.specs.declared.kinds.Kind.TheVariants as kind
use Rattle.au_algebra.specs.Typing.{all_kinds}
use Rattle.au_algebra.proofs.AggregateKinds.{kinds_parts, sum_kind}
use Rattle.au_algebra.proofs.Each.{all_from}
use Rattle.au_algebra.proofs.Items.{some_is}
use Rattle.au_algebra.proofs.TreeRelation.{its_kinds}
use Rattle.au_plain.specs.declared.plan.PAgg.{PAgg}
use Rattle.au_plain.specs.declared.plan.PAgg.TheVariants.{Sum, Min, Max}
use Rattle.au_plain.specs.Meaning.{plain_rows}
use Rattle.au_plain.specs.PTerms.{PTerm}
use Rattle.au_plain.specs.PlanKinds.{kept_kinds, plain_agg_kind, plan_kinds}
use Rattle.au_plain.specs.Plans.{PlanTree, Group, Join, Keep, Union}
use Rattle.std.proofs.lemmas.Option.{slice_get_within}
use Rattle.au_passes.specs.Keeps.{Keeps}
use Rattle.au_passes.specs.Pruning.{HasColumns, IsKept, Narrowed, Narrows, renumbered, renumbered_agg}
use Rattle.au_plain.specs.Widths.{plan_width}
use Rattle.au_passes.specs.Reading.{agg_column, at_least_one, chosen, columns, is_marked, mark_all, places_from, ranks, read_aggs, read_places}
use Rattle.au_passes.proofs.KeptColumns.{kinds_itself, places_there}
use Rattle.au_passes.proofs.MarkLaws.{all_long, all_places, all_set, all_stay, one_at_least_long, one_at_least_stays, places_count, places_within, ranks_long, some_place}
use Rattle.au_passes.proofs.NarrowedGroups.{AggFound, of_group}
use Rattle.au_passes.proofs.NarrowedPlans.{counted_finds, drop_long, first_part, found_columns, marked_back, marked_front, narrowed_leaf, places_marked, ranks_find, second_part, take_long, width_some}
use Rattle.au_passes.proofs.Narrowing.{all_itself, of_join, of_kept, of_sides, wanted, without_keep}
use Rattle.au_plain.proofs.Widths.{rows_wide, same_number, width_is}
use Rattle.au_passes.proofs.Renumbering.{Reaches}

-- ---- a Keep that is left out where it gives all columns

kept_narrows : (p q r : PlanTree) (places js : List ℕ) → Narrows p places (Keep js q) → IsKept js q r → Narrows p places r
kept_narrows p q r places js n (inl e) = subst (Narrows p places) (sym e) n
kept_narrows p q r places js n (inr e) = subst (Narrows p places) (sym e.1) (without_keep p q places (subst (λ is. Narrows p places (Keep is q)) e.0 n))

pub kept_width : (js : List ℕ) (q r : PlanTree) → IsKept js q r → plan_width r ≡ length js
kept_width js q r (inl e) = ap plan_width e
kept_width js q r (inr e) = ap plan_width e.1 ∙ sym (length-range_with_len 0 (plan_width q)) ∙ ap length (sym e.0)

kept_columns : (js : List ℕ) (q r : PlanTree) → IsKept js q r → 0 < length js → HasColumns q → HasColumns r
kept_columns js q r (inl e) some h = subst HasColumns (sym e) (some, h)
kept_columns js q r (inr e) some h = subst HasColumns (sym e.1) h

-- ---- the marked columns alone

module _ (p q r : PlanTree) (marks : List Bool) (found : List ℕ) (n : Narrowed p marks q found) (kept : IsKept (map (slice_index found) (read_places marks)) q r) where
  pub exact_narrows : Narrows p (read_places marks) r
  exact_narrows =
      let reach = all_from (λ i. is_marked marks i ≡ true) (Reaches n.places found) (read_places marks) n.finds (places_marked marks) in
      kept_narrows p q r (read_places marks) (map (slice_index found) (read_places marks)) (wanted p q n.places found (read_places marks) n.narrows reach) kept

  pub exact_width : plan_width r ≡ length (read_places marks)
  exact_width = kept_width (map (slice_index found) (read_places marks)) q r kept ∙ length-map (read_places marks) (slice_index found)

  pub exact_columns : 0 < length (read_places marks) → HasColumns p → HasColumns r
  exact_columns some h = kept_columns (map (slice_index found) (read_places marks)) q r kept (omega (arith, some, length-map (read_places marks) (slice_index found))) (n.wide h)

-- ---- a table

pub narrowed_scan :
    (p r : PlanTree) (marks : List Bool) (found new is : List ℕ) (w : ℕ) → w ≡ plan_width p → length marks ≡ plan_width p → found ≡ range_with_len 0 w →
    is ≡ read_places (at_least_one marks) → new ≡ ranks 0 (at_least_one marks) → IsKept (map (slice_index found) is) p r → Narrowed p marks r new
narrowed_scan p r marks found new is w wide long f is_are new_is kept =
    let read = at_least_one marks in
    let n = narrowed_leaf p p read found w wide (one_at_least_long marks ∙ long) refl f in
    let here = subst (λ xs. IsKept (map (slice_index found) xs) p r) is_are kept in
    record {
      places = read_places read;
      narrows = exact_narrows p p r read found n here;
      counted = sym (exact_width p p r read found n here);
      found_long = ap length new_is ∙ ranks_long 0 read ∙ one_at_least_long marks;
      finds = λ i h. ap (λ f. slice_get (read_places read) (slice_index f i)) new_is ∙ ranks_find read i (one_at_least_stays marks i h);
      some = λ h. some_place marks h;
      wide = λ h. exact_columns p p r read found n here (some_place marks (let some = width_some p h in omega (arith, some, long))) h;
    }

-- ---- a Keep

listed_within : (ps places : List ℕ) (w : ℕ) → AllByRecursion (λ i. i < w) ps → AllByRecursion (λ i. i < length ps) places → AllByRecursion (λ i. i < w) (map (slice_index ps) places)
listed_within ps [] w h l = tt
listed_within ps (i ∷ places) w h l = (item_within ps i w h l.0, listed_within ps places w h l.1) where
  item_within : (ps : List ℕ) (i w : ℕ) → AllByRecursion (λ i. i < w) ps → i < length ps → slice_index ps i < w
  item_within [] i w h l = let never : ⊥ = omega (arith, l) in absurd never
  item_within (p ∷ ps) zero w h l = h.0
  item_within (p ∷ ps) (suc i) w h l = item_within ps i w h.1 (omega (arith, l))

pub narrowed_keep :
    (p q r : PlanTree) (ps : List ℕ) (marks : List Bool) (found new is : List ℕ) → length marks ≡ length ps →
    is ≡ map (slice_index ps) (read_places (at_least_one marks)) → new ≡ ranks 0 (at_least_one marks) →
    Narrowed p (mark_all is (replicate (plan_width p) false)) q found → IsKept (map (slice_index found) is) q r → Narrowed (Keep ps p) marks r new
narrowed_keep p q r ps marks found new is long is_are new_is n kept =
    let read = at_least_one marks in
    let places = read_places read in
    let own = map (slice_index ps) places in
    let js = map (slice_index found) own in
    let here = subst (λ xs. IsKept (map (slice_index found) xs) q r) is_are kept in
    let within = places_within 0 (length ps) read (omega (arith, long, one_at_least_long marks)) in
    let blank = replicate (plan_width p) false in
    let reach = λ (ks hs : List Kind) (l : length ks ≡ plan_width p) (t : kept_kinds ps ks ≡ Some hs).
    all_from (λ i. is_marked (mark_all own blank) i ≡ true) (Reaches n.places found) own
    (λ i h. n.finds i (subst (λ xs. is_marked (mark_all xs blank) i ≡ true) (sym is_are) h))
    (all_set own blank (length ks) (l ∙ sym (length-replicate (plan_width p) false)) (listed_within ps places (length ks) (places_there ps ks hs t) within))
    in
    let many : length js ≡ length places = length-map own (slice_index found) ∙ length-map places (slice_index ps) in
    record {
      places = places;
      narrows = kept_narrows (Keep ps p) q r places js (of_kept p q n.places found ps places n.narrows reach within) here;
      counted = sym many ∙ sym (kept_width js q r here);
      found_long = ap length new_is ∙ ranks_long 0 read ∙ one_at_least_long marks;
      finds = λ i h. ap (λ f. slice_get places (slice_index f i)) new_is ∙ ranks_find read i (one_at_least_stays marks i h);
      some = λ h. some_place marks h;
      wide = λ h. kept_columns js q r here (let some = some_place marks (omega (arith, h.0, long)) in omega (arith, many, some)) (n.wide h.1);
    }

-- ---- a join

-- a number below another one, or that one and more
split_at : (i w : ℕ) → (i < w) ⊎ ((j : ℕ) × (i ≡ w + j))
split_at i zero = inr (i, omega arith)
split_at zero (suc w) = inl (omega arith)
split_at (suc i) (suc w) = elim (split_at i w) [ inl l ↦ inl (omega (arith, l)) | inr at ↦ inr (at.0, omega (arith, at.1)) ]

pub narrowed_join :
    (p q r s t : PlanTree) (e : PTerm) (marks left right : List Bool) (found new : List ℕ) → length marks ≡ plan_width p + plan_width q →
    left ≡ at_least_one (take (plan_width p) (mark_all (columns e) marks)) → right ≡ at_least_one (drop (plan_width p) (mark_all (columns e) marks)) →
    found ≡ ranks 0 left ++ ranks (count_by (λ b. b) left) right →
    Narrows p (read_places left) r → plan_width r ≡ length (read_places left) → (0 < length (read_places left) → HasColumns p → HasColumns r) →
    Narrows q (read_places right) s → plan_width s ≡ length (read_places right) → (0 < length (read_places right) → HasColumns q → HasColumns s) →
    t ≡ Join (renumbered found e) r s → new ≡ found → Narrowed (Join e p q) marks t new
narrowed_join p q r s t e marks left right found new long left_is right_is found_is n n_width n_columns m m_width m_columns t_is new_is =
    let w = plan_width p in
    let all = mark_all (columns e) marks in
    let pl = read_places left in
    let pr = read_places right in
    let places = pl ++ map (λ i. w + i) pr in
    let all_w : length all ≡ w + plan_width q = all_long (columns e) marks ∙ long in
    let front = take_long w all (omega (arith, all_w)) in
    let back = drop_long w all (plan_width q) all_w in
    let left_w : length left ≡ w = ap length left_is ∙ one_at_least_long (take w all) ∙ front in
    let right_w : length right ≡ plan_width q = ap length right_is ∙ one_at_least_long (drop w all) ∙ back in
    let rank_w : length (ranks 0 left) ≡ w = ranks_long 0 left ∙ left_w in
    let finds = λ (i : ℕ) (h : is_marked all i ≡ true).
    ap (λ f. slice_get places (slice_index f i)) found_is
    ∙ elim (split_at i w) [
      | inl l ↦ first_part pl (map (λ j. w + j) pr) (ranks 0 left) (ranks (count_by (λ b. b) left) right) i (omega (arith, l, rank_w))
          (ranks_find left i (subst (λ ms. is_marked ms i ≡ true) (sym left_is) (one_at_least_stays (take w all) i (marked_front w all i l h))))
      | inr at ↦ second_part pl (ranks 0 left) w (count_by (λ b. b) left) right i at.0 rank_w (sym (places_count 0 left)) at.1
          (subst (λ ms. is_marked ms at.0 ≡ true) (sym right_is) (one_at_least_stays (drop w all) at.0 (marked_back w all i at.0 at.1 h)))
    ]
    in
    let read = found_columns places found marks (w + plan_width q) e long finds in
    let many : length places ≡ length pl + length pr = length-append pl (map (λ i. w + i) pr) ∙ ap (λ k. length pl + k) (length-map pr (λ i. w + i)) in
    let some_left = λ (h : 0 < w). subst (λ ms. 0 < length (read_places ms)) (sym left_is) (some_place (take w all) (omega (arith, h, front))) in
    let some_right = λ (h : 0 < plan_width q). subst (λ ms. 0 < length (read_places ms)) (sym right_is) (some_place (drop w all) (omega (arith, h, back))) in
    record {
      places = places;
      narrows = subst (Narrows (Join e p q) places) (sym t_is) (of_join p q r s pl pr found e n m read);
      counted = many ∙ (λ i. sym n_width i + sym m_width i) ∙ ap plan_width (sym t_is);
      found_long = ap length new_is ∙ ap length found_is ∙ length-append (ranks 0 left) (ranks (count_by (λ b. b) left) right) ∙ (λ i. rank_w i + (ranks_long (count_by (λ b. b) left) right ∙ right_w) i) ∙ sym long;
      finds = λ i h. ap (λ f. slice_get places (slice_index f i)) new_is ∙ finds i (all_stay (columns e) marks i h);
      some = λ h. elim (split_at 0 w) [
        | inl l ↦ let one = some_left l in omega (arith, one, many)
        | inr at ↦ let one = some_right (omega (arith, at.1, long, h)) in omega (arith, one, many)
      ];
      wide = λ h. subst HasColumns (sym t_is) (n_columns (some_left (width_some p h.0)) h.0, m_columns (some_right (width_some q h.1)) h.1);
    }

-- ---- a union

fitted_same : (marks : List Bool) (w : ℕ) → length marks ≡ w → take w marks ++ replicate (w - length marks) false ≡ marks
fitted_same marks w h =
    let none : length marks - length marks ≡ 0 = omega arith in
    ap (λ n. take n marks ++ replicate (n - length marks) false) (sym h)
    ∙ ap (λ k. take (length marks) marks ++ replicate k false) none
    ∙ append-nil (take (length marks) marks) ∙ take-length marks

pub fitted_long : (marks : List Bool) (w : ℕ) → length (take w marks ++ replicate (w - length marks) false) ≡ w
fitted_long marks w =
    omega (arith, length-append (take w marks) (replicate (w - length marks) false), length-take w marks, length-replicate (w - length marks) false)

pub narrowed_union :
    (p q r s t : PlanTree) (marks left right : List Bool) (found new : List ℕ) → length marks ≡ plan_width p →
    left ≡ at_least_one marks → right ≡ at_least_one (take (plan_width q) marks ++ replicate (plan_width q - length marks) false) → found ≡ ranks 0 left →
    Narrows p (read_places left) r → plan_width r ≡ length (read_places left) → (0 < length (read_places left) → HasColumns p → HasColumns r) →
    Narrows q (read_places right) s → (0 < length (read_places right) → HasColumns q → HasColumns s) →
    t ≡ Union r s → new ≡ found → Narrowed (Union p q) marks t new
narrowed_union p q r s t marks left right found new long left_is right_is found_is n n_width n_columns m m_columns t_is new_is =
    let places = read_places left in
    let fitted = take (plan_width q) marks ++ replicate (plan_width q - length marks) false in
    let same = λ (e : plan_width p ≡ plan_width q). ap read_places (right_is ∙ ap at_least_one (fitted_same marks (plan_width q) (long ∙ e)) ∙ sym left_is) in
    let left_long : length left ≡ length marks = ap length left_is ∙ one_at_least_long marks in
    record {
      places = places;
      narrows = subst (Narrows (Union p q) places) (sym t_is) (of_sides p q r s places (read_places right) n m same);
      counted = sym n_width ∙ ap plan_width (sym t_is);
      found_long = ap length new_is ∙ ap length found_is ∙ ranks_long 0 left ∙ left_long;
      finds = λ i h.
          ap (λ f. slice_get places (slice_index f i)) (new_is ∙ found_is)
          ∙ ranks_find left i (subst (λ ms. is_marked ms i ≡ true) (sym left_is) (one_at_least_stays marks i h));
      some = λ h. subst (λ ms. 0 < length (read_places ms)) (sym left_is) (some_place marks h);
      wide = λ h.
          subst HasColumns (sym t_is) (
            n_columns (subst (λ ms. 0 < length (read_places ms)) (sym left_is) (some_place marks (let one = width_some p h.0 in omega (arith, one, long)))) h.0,
            m_columns (subst (λ ms. 0 < length (read_places ms)) (sym right_is) (some_place fitted (let one = width_some q h.1 in omega (arith, one, fitted_long marks (plan_width q))))) h.1,
          );
    }

-- ---- a grouping

agg_within : (ks : List Kind) (aggs : List PAgg) (more : List Kind) → all_kinds (map (plain_agg_kind ks) aggs) ≡ Some more → AllByRecursion (λ i. i < length ks) (map agg_column aggs)
agg_within ks [] more t = tt
agg_within ks (Sum c ∷ aggs) more t =
    let p = kinds_parts (plain_agg_kind ks (Sum c)) (map (plain_agg_kind ks) aggs) more t in
    (slice_get_within ks c kind.Int (sum_kind (slice_get ks c) p.first p.first_is).column, agg_within ks aggs p.others p.others_are)
agg_within ks (Min c ∷ aggs) more t =
    let p = kinds_parts (plain_agg_kind ks (Min c)) (map (plain_agg_kind ks) aggs) more t in
    (slice_get_within ks c p.first p.first_is, agg_within ks aggs p.others p.others_are)
agg_within ks (Max c ∷ aggs) more t =
    let p = kinds_parts (plain_agg_kind ks (Max c)) (map (plain_agg_kind ks) aggs) more t in
    (slice_get_within ks c p.first p.first_is, agg_within ks aggs p.others p.others_are)

chosen_within : (P : ℕ → Type 0) (marks : List Bool) (aggs : List PAgg) → AllByRecursion P (map agg_column aggs) → AllByRecursion P (map agg_column (chosen marks aggs))
chosen_within P marks [] h = tt
chosen_within P [] (agg ∷ aggs) h = tt
chosen_within P (true ∷ marks) (agg ∷ aggs) h = (h.0, chosen_within P marks aggs h.1)
chosen_within P (false ∷ marks) (agg ∷ aggs) h = chosen_within P marks aggs h.1

as_aggs : (places found : List ℕ) (aggs : List PAgg) → AllByRecursion (Reaches places found) (map agg_column aggs) → AllByRecursion (AggFound places found) aggs
as_aggs places found [] h = tt
as_aggs places found (agg ∷ aggs) h = (h.0, as_aggs places found aggs h.1)

chosen_long : {A : Type 0} (n : ℕ) (marks : List Bool) (xs : List A) → length marks ≡ length xs → length (chosen marks xs) ≡ length (places_from n marks)
chosen_long n [] [] h = refl
chosen_long n [] (x ∷ xs) h = let never : ⊥ = omega (arith, h) in absurd never
chosen_long n (b ∷ marks) [] h = let never : ⊥ = omega (arith, h) in absurd never
chosen_long n (true ∷ marks) (x ∷ xs) h = ap suc (chosen_long (n + 1) marks xs (omega (arith, h)))
chosen_long n (false ∷ marks) (x ∷ xs) h = chosen_long (n + 1) marks xs (omega (arith, h))

aggs_marked_long : (t : Bool) (marks : List Bool) → length (cond t (at_least_one marks) marks) ≡ length marks
aggs_marked_long true marks = one_at_least_long marks
aggs_marked_long false marks = refl

aggs_stay : (t : Bool) (marks : List Bool) (j : ℕ) → is_marked marks j ≡ true → is_marked (cond t (at_least_one marks) marks) j ≡ true
aggs_stay true marks j h = one_at_least_stays marks j h
aggs_stay false marks j h = h

not_none : (k : ℕ) → (k == 0) ≡ false → 0 < k
not_none k h = grind (arith, nat_tests)

aggs_some : (t : Bool) (k : ℕ) (marks : List Bool) → (k == 0) ≡ t → 0 < k + length marks → 0 < k + length (read_places (cond t (at_least_one marks) marks))
aggs_some true k marks e h =
    let none = same_number k 0 e in
    let some = some_place marks (omega (arith, h, none)) in
    omega (arith, some)
aggs_some false k marks e h = let some = not_none k e in omega (arith, some)

pub narrowed_group :
    (p q r : PlanTree) (keys : List ℕ) (aggs read : List PAgg) (marks : List Bool) (found new : List ℕ) → length marks ≡ length keys + length aggs →
    read ≡ chosen (read_aggs (length keys) marks) aggs → new ≡ range_with_len 0 (length keys) ++ ranks (length keys) (read_aggs (length keys) marks) →
    Narrowed p (mark_all (map agg_column read) (mark_all keys (replicate (plan_width p) false))) q found →
    r ≡ Group (map (slice_index found) keys) (map (renumbered_agg found) read) q → Narrowed (Group keys aggs p) marks r new
narrowed_group p q r keys aggs read marks found new long read_is new_is n r_is =
    let k = length keys in
    let rest = drop k marks in
    let own = read_aggs k marks in
    let rest_long = drop_long k marks (length aggs) long in
    let own_long : length own ≡ length aggs = aggs_marked_long (k == 0) rest ∙ rest_long in
    let places = range_with_len 0 k ++ map (λ i. k + i) (read_places own) in
    let blank = replicate (plan_width p) false in
    let keyed = mark_all keys blank in
    let all = λ (ks js more : List Kind) (l : length ks ≡ plan_width p) (tk : kept_kinds keys ks ≡ Some js) (ta : all_kinds (map (plain_agg_kind ks) aggs) ≡ Some more).
    let first = all_set keys blank (length ks) (l ∙ sym (length-replicate (plan_width p) false)) (places_there keys ks js tk) in
    let within = subst (λ zs. AllByRecursion (λ i. i < length ks) (map agg_column zs)) (sym read_is) (chosen_within (λ i. i < length ks) own aggs (agg_within ks aggs more ta)) in
    let second = all_set (map agg_column read) keyed (length ks) (l ∙ sym (all_long keys blank ∙ length-replicate (plan_width p) false)) within in
    let reach = all_from (λ i. is_marked (mark_all (map agg_column read) keyed) i ≡ true) (Reaches n.places found) (map agg_column read) n.finds second in
    let both : AllByRecursion (Reaches n.places found) keys × AllByRecursion (AggFound n.places found) (chosen own aggs) = (
      all_from (λ i. is_marked keyed i ≡ true) (Reaches n.places found) keys (λ i h. n.finds i (all_stay (map agg_column read) keyed i h)) first,
      subst (AllByRecursion (AggFound n.places found)) read_is (as_aggs n.places found read reach),
    )
    in
    both
    in
    let new_keys = map (slice_index found) keys in
    let new_aggs = map (renumbered_agg found) (chosen own aggs) in
    let r_own : r ≡ Group new_keys new_aggs q = r_is ∙ ap (λ zs. Group new_keys (map (renumbered_agg found) zs) q) read_is in
    let many : length places ≡ k + length (read_places own) =
    length-append (range_with_len 0 k) (map (λ i. k + i) (read_places own)) ∙ (λ i. length-range_with_len 0 k i + length-map (read_places own) (λ j. k + j) i)
    in
    let width : length new_keys + length new_aggs ≡ k + length (read_places own) =
    λ i. length-map keys (slice_index found) i + (length-map (chosen own aggs) (renumbered_agg found) ∙ chosen_long 0 own aggs own_long) i
    in
    let some = λ (h : 0 < k + length aggs). aggs_some (k == 0) k rest refl (omega (arith, h, rest_long)) in
    record {
      places = places;
      narrows = subst (Narrows (Group keys aggs p) places) (sym r_own) (of_group p q n.places found keys aggs own own_long n.narrows all);
      counted = many ∙ sym width ∙ ap plan_width (sym r_own);
      found_long = ap length new_is ∙ length-append (range_with_len 0 k) (ranks k own) ∙ (λ i. length-range_with_len 0 k i + (ranks_long k own ∙ own_long) i) ∙ sym long;
      finds = λ i h.
          ap (λ f. slice_get places (slice_index f i)) new_is
          ∙ elim (split_at i k) [
            | inl l ↦ first_part (range_with_len 0 k) (map (λ j. k + j) (read_places own)) (range_with_len 0 k) (ranks k own) i (omega (arith, l, length-range_with_len 0 k)) (counted_finds k i l)
            | inr at ↦ second_part (range_with_len 0 k) (range_with_len 0 k) k k own i at.0 (length-range_with_len 0 k) (sym (length-range_with_len 0 k)) at.1
                (aggs_stay (k == 0) rest at.0 (marked_back k marks i at.0 at.1 h))
          ];
      some = λ h. let one = some (omega (arith, h, long)) in omega (arith, one, many);
      wide = λ h. subst HasColumns (sym r_own) (let one = some h.0 in omega (arith, one, width), n.wide h.1);
    }

-- ---- the whole plan

pub all_read : (p q : PlanTree) (w : ℕ) → w ≡ plan_width p → Narrows p (read_places (replicate w true)) q → Keeps p q
all_read p q w e n =
    let wide = plan_width p in
    let own = subst (λ is. Narrows p is q) (all_places 0 w ∙ ap (range_with_len 0) e) n in
    record {
      typed = λ kinds ks h.
          let t = own.typed kinds ks h in
          t.2 ∙ ap (λ js. Some js) (some_is t.0 ks (sym t.1 ∙ kinds_itself wide ks (width_is kinds p ks h)));
      rows = λ ts typed.
          let k = its_kinds (plan_kinds typed.kinds p) typed.typed in
          own.rows typed.kinds k.0 ts typed.tables k.1 ∙ all_itself wide (plain_rows p ts) (rows_wide typed.kinds ts typed.tables p k.0 k.1);
      numbers = λ ts fit typed f.
          let k = its_kinds (plan_kinds typed.kinds p) typed.typed in
          own.numbers typed.kinds k.0 ts typed.tables k.1 f;
    }

pub all_read_some : (p : PlanTree) (w : ℕ) → w ≡ plan_width p → HasColumns p → 0 < length (read_places (replicate w true))
all_read_some p w e h =
    let some = width_some p h in
    omega (arith, some, e, ap length (all_places 0 w), length-range_with_len 0 w)
