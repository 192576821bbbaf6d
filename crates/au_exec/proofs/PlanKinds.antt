-- The known kinds of a typed plan are those for which it is typed.
use Rattle.std.specs.Prelude.{◌≡◌, ℕ, zero, suc, Bool, true, List, [], ◌∷◌, ◌++◌, filter, flat_map, map, Option, Some, None, option_map, slice_get, unwrap_or}
use Rattle.std.specs.Option.{option_or}
use Rattle.std.specs.List.{AllByRecursion, AllZip}
use Rattle.std.proofs.Common.{refl, sym, ◌∙◌, ap, subst}
use Rattle.std.proofs.lemmas.Bool.{and_parts}
use Rattle.au_value.specs.declared.kinds.Kind.{Kind}
use Rattle.au_value.specs.declared.kinds.Kind.TheVariants as kind
use Rattle.au_value.specs.declared.value.Value.{Value}
use Rattle.au_value.specs.Order.{kind_of}
use Rattle.au_value.specs.Lists.{distinct}
use Rattle.au_expr.specs.Kinds.{is_kind}
use Rattle.au_expr.proofs.Along.{agreed_is, both_of, is_kind_is, kind_if_is, one_of, only_if_is}
use Rattle.au_algebra.specs.Lists.{same_row}
use Rattle.au_algebra.specs.Ordinary.{Rows}
use Rattle.au_algebra.specs.Typing.{all_kinds}
use Rattle.au_algebra.proofs.AggregateKinds.{kinds_parts, sum_kind}
use Rattle.au_algebra.proofs.Each.{all_append, all_filter}
use Rattle.au_algebra.proofs.Items.{and_then_is, chosen_is, some_is}
use Rattle.au_algebra.proofs.PositiveRelation.{same_kinds_is}
use Rattle.au_algebra.proofs.Sorting.{all_sorted}
use Rattle.au_algebra.proofs.TreeRelation.{its_kinds}
use Rattle.au_plain.specs.declared.plan.PAgg.{PAgg}
use Rattle.au_plain.specs.declared.plan.PAgg.TheVariants.{Sum, Min, Max}
use Rattle.au_plain.specs.Meaning.{extended, kept, passes, plain_group}
use Rattle.au_plain.specs.PTerms.{PTerm, PTerms, nil, cons}
use Rattle.au_plain.specs.PTerms as term
use Rattle.au_plain.specs.PlanKinds.{HaveKinds, common_kind, kept_kinds, list_kinds, plain_agg_kind, plain_kind}
use Rattle.au_physical.specs.PhysicalKinds.{IsPhysicalFor, bounds_kinds, equal_kinds, physical_kinds}
use Rattle.au_physical.specs.PhysicalMeaning.{by_range, equal_at, overlaps, pairs_where, physical_rows, range_at_most}
use Rattle.au_physical.specs.Physicals.{PhysicalTree}
use Rattle.au_physical.specs.Physicals as physical
use Rattle.au_exec.specs.KnownKinds.{agg_kind, first_kind, first_kinds, grouped_kinds, joined_kinds, kind_at, kinds_at, known_kinds, term_kind, with_kind}
use Rattle.au_exec.proofs.RowKinds.{chosen_kinds, extended_kinds, group_kinds, kept_all, listed_kinds, product_kinds}

-- ---- the kinds of expressions, of places and of aggregates

place_kind : (ks : List Kind) (i : ℕ) (k : Kind) → slice_get ks i ≡ Some k → kind_at ks i ≡ k
place_kind ks i k h = ap (λ o. unwrap_or o kind.Int) h

mutual
  told_kind : (ks : List Kind) (e : PTerm) (k : Kind) → plain_kind ks e ≡ Some k → term_kind ks e ≡ k
  told_kind ks (term.Column i) k h = place_kind ks i k h
  told_kind ks (term.Literal v) k h = let e : kind_of v ≡ k = cc in e
  told_kind ks (term.Add a b) k h = (both_of kind.Int kind.Int _ _ k h).2
  told_kind ks (term.Subtract a b) k h = (both_of kind.Int kind.Int _ _ k h).2
  told_kind ks (term.Multiply a b) k h = (both_of kind.Int kind.Int _ _ k h).2
  told_kind ks (term.Negate a) k h = (one_of kind.Int kind.Int _ k h).1
  told_kind ks (term.Compare how a b) k h = (kind_if_is _ _ _ h).1
  told_kind ks (term.And a b) k h = (both_of kind.Flag kind.Flag _ _ k h).2
  told_kind ks (term.Or a b) k h = (both_of kind.Flag kind.Flag _ _ k h).2
  told_kind ks (term.Not a) k h = (one_of kind.Flag kind.Flag _ k h).1
  told_kind ks (term.Case c a b) k h = told_kind ks a k (agreed_is _ _ _ (only_if_is _ _ _ h).1).0
  told_kind ks (term.Least es) k h = told_first ks es k h
  told_kind ks (term.Greatest es) k h = told_first ks es k h

  told_first : (ks : List Kind) (es : PTerms) (k : Kind) → common_kind ks es ≡ Some k → first_kind ks es ≡ k
  told_first ks nil k h = cc
  told_first ks (cons e nil) k h = told_kind ks e k h
  told_first ks (cons e (cons f es)) k h = told_kind ks e k (agreed_is (plain_kind ks e) (common_kind ks (cons f es)) k h).0

told_places : (ks : List Kind) (ps : List ℕ) (js : List Kind) → kept_kinds ps ks ≡ Some js → kinds_at ks ps ≡ js
told_places ks [] js h = some_is [] js h
told_places ks (i ∷ ps) js h =
    let p = kinds_parts (slice_get ks i) (map (slice_get ks) ps) js h in
    (λ j. place_kind ks i p.first p.first_is j ∷ told_places ks ps p.others p.others_are j) ∙ sym p.whole

told_agg : (ks : List Kind) (agg : PAgg) (k : Kind) → plain_agg_kind ks agg ≡ Some k → agg_kind ks agg ≡ k
told_agg ks (Sum c) k h = sym (sum_kind (slice_get ks c) k h).kind
told_agg ks (Min c) k h = place_kind ks c k h
told_agg ks (Max c) k h = place_kind ks c k h

told_aggs : (ks : List Kind) (aggs : List PAgg) (more : List Kind) → all_kinds (map (plain_agg_kind ks) aggs) ≡ Some more → map (agg_kind ks) aggs ≡ more
told_aggs ks [] more h = some_is [] more h
told_aggs ks (agg ∷ aggs) more h =
    let p = kinds_parts (plain_agg_kind ks agg) (map (plain_agg_kind ks) aggs) more h in
    (λ j. told_agg ks agg p.first p.first_is j ∷ told_aggs ks aggs p.others p.others_are j) ∙ sym p.whole

-- ---- what is told of rows

-- the kinds are these, and where none are told there is no row
abbrev pub Told : Option (List Kind) → List Kind → Rows → Type 0
Told None ks rows = rows ≡ []
Told (Some js) ks rows = js ≡ ks

-- rows of these kinds, of which something is told
pub record Known (o : Option (List Kind)) (ks : List Kind) (rows : Rows) : Type 0 where
  pub kinds : HaveKinds ks rows
  pub told : Told o ks rows

of_first : (ks : List Kind) (rows : Rows) → HaveKinds ks rows → Told (first_kinds rows) ks rows
of_first ks [] h = refl
of_first ks (row ∷ rows) h = h.0

told_map : (f : List Kind → List Kind) (g : Rows → Rows) → g [] ≡ [] → (o : Option (List Kind)) (ks : List Kind) (rows : Rows) → Told o ks rows → Told (option_map f o) (f ks) (g rows)
told_map f g none None ks rows h = ap g h ∙ none
told_map f g none (Some js) ks rows h = ap f h

told_joined : (g : Rows → Rows → Rows) → ((ys : Rows) → g [] ys ≡ []) → ((xs : Rows) → g xs [] ≡ []) → (o q : Option (List Kind)) (ks js : List Kind) (xs ys : Rows) → Told o ks xs → Told q js ys → Told (joined_kinds o q) (ks ++ js) (g xs ys)
told_joined g left right None q ks js xs ys h k = ap (λ zs. g zs ys) h ∙ left ys
told_joined g left right (Some ms) None ks js xs ys h k = ap (g xs) k ∙ right xs
told_joined g left right (Some ms) (Some ns) ks js xs ys h k = λ i. h i ++ k i

told_either : (o q : Option (List Kind)) (ks : List Kind) (xs ys : Rows) → Told o ks xs → Told q ks ys → Told (option_or o q) ks (xs ++ ys)
told_either None None ks xs ys h k = λ i. h i ++ k i
told_either None (Some ns) ks xs ys h k = k
told_either (Some ms) q ks xs ys h k = h

-- the kinds in other words
told_as : (ks js : List Kind) → ks ≡ js → (o : Option (List Kind)) (rows : Rows) → Told o ks rows → Told o js rows
told_as ks js e o rows h = subst (λ ms. Told o ms rows) e h

no_pairs : (xs : Rows) → flat_map (λ a. map (λ b. a ++ b) []) xs ≡ []
no_pairs [] = refl
no_pairs (a ∷ xs) = no_pairs xs

none_chosen : (chosen : List Value → List Value → Bool) (xs : Rows) → pairs_where chosen xs [] ≡ []
none_chosen chosen [] = refl
none_chosen chosen (a ∷ xs) = none_chosen chosen xs

-- a table
table_told : (tk : List (List Kind)) (ts : List Rows) → AllZip HaveKinds tk ts → (i : ℕ) (ks : List Kind) → slice_get tk i ≡ Some ks → Known (unwrap_or (slice_get (map first_kinds ts) i) None) ks (unwrap_or (slice_get ts i) [])
table_told [] [] z i ks h = cc
table_told [] (t ∷ ts) z i ks h = elim z [ ]
table_told (k ∷ tk) [] z i ks h = elim z [ ]
table_told (k ∷ tk) (t ∷ ts) z zero ks h =
    let own = subst (λ js. HaveKinds js t) (some_is k ks h) z.0 in
    record { kinds = own; told = of_first ks t own }
table_told (k ∷ tk) (t ∷ ts) z (suc i) ks h = table_told tk ts z.1 i ks h

module _ (tk : List (List Kind)) (ts : List Rows) (ok : AllZip HaveKinds tk ts) where
  abbrev told_of : PhysicalTree → Option (List Kind)
  told_of p = known_kinds (map first_kinds ts) p

  abbrev IsKnown : PhysicalTree → List Kind → Type 0
  IsKnown p ks = Known (told_of p) ks (physical_rows p ts)

  known_as : (p : PhysicalTree) (ks js : List Kind) → ks ≡ js → IsKnown p ks → IsKnown p js
  known_as p ks js e h = subst (IsKnown p) e h

  pub all_known : (p : PhysicalTree) (ks : List Kind) → physical_kinds tk p ≡ Some ks → Known (known_kinds (map first_kinds ts) p) ks (physical_rows p ts)
  all_known (physical.Scan t w) ks h =
      let p = and_then_is _ (slice_get tk t) ks h in
      let s = chosen_is _ (Some p.0) ks p.2 in
      table_told tk ts ok t ks (p.1 ∙ s.1)
  all_known (physical.Rows w rows) ks h = let own = listed_kinds w rows ks h in record { kinds = own; told = of_first ks rows own }
  all_known (physical.Extend e q) ks h =
      let p = and_then_is _ (physical_kinds tk q) ks h in
      let s = and_then_is _ (plain_kind p.0 e) ks p.2 in
      let below = all_known q p.0 p.1 in
      let rows = physical_rows q ts in
      known_as (physical.Extend e q) (p.0 ++ s.0 ∷ []) ks (some_is (p.0 ++ s.0 ∷ []) ks s.2)
      (record {
        kinds = extended_kinds p.0 e s.0 s.1 rows below.kinds;
        told =
            told_as (with_kind p.0 e) (p.0 ++ s.0 ∷ []) (ap (λ k. p.0 ++ k ∷ []) (told_kind p.0 e s.0 s.1)) (told_of (physical.Extend e q)) (map (extended e) rows)
            (told_map (λ js. with_kind js e) (map (extended e)) refl (told_of q) p.0 rows below.told);
      })
  all_known (physical.Keep places q) ks h =
      let p = and_then_is _ (physical_kinds tk q) ks h in
      let below = all_known q p.0 p.1 in
      let rows = physical_rows q ts in
      record {
        kinds = kept_all p.0 places ks p.2 rows below.kinds;
        told =
            told_as (kinds_at p.0 places) ks (told_places p.0 places ks p.2) (told_of (physical.Keep places q)) (map (kept places) rows)
            (told_map (λ js. kinds_at js places) (map (kept places)) refl (told_of q) p.0 rows below.told);
      }
  all_known (physical.Filter e q) ks h =
      let p = and_then_is _ (physical_kinds tk q) ks h in
      let s = chosen_is _ (Some p.0) ks p.2 in
      let below = all_known q p.0 p.1 in
      known_as (physical.Filter e q) p.0 ks (some_is p.0 ks s.1)
      (record {
        kinds = all_filter (λ row. map kind_of row ≡ p.0) (passes e) (physical_rows q ts) below.kinds;
        told = filtered (told_of q) e p.0 (physical_rows q ts) below.told;
      })
    where
      filtered : (o : Option (List Kind)) (e : PTerm) (ks : List Kind) (rows : Rows) → Told o ks rows → Told o ks (filter (passes e) rows)
      filtered None e ks rows h = ap (filter (passes e)) h
      filtered (Some js) e ks rows h = h
  all_known (physical.Nested e q r) ks h =
      let p = and_then_is _ (physical_kinds tk q) ks h in
      let s = and_then_is _ (physical_kinds tk r) ks p.2 in
      let u = chosen_is _ (Some (p.0 ++ s.0)) ks s.2 in
      let left = all_known q p.0 p.1 in
      let right = all_known r s.0 s.1 in
      let xs = physical_rows q ts in
      let ys = physical_rows r ts in
      known_as (physical.Nested e q r) (p.0 ++ s.0) ks (some_is (p.0 ++ s.0) ks u.1)
      (record {
        kinds = all_filter (λ row. map kind_of row ≡ p.0 ++ s.0) (passes e) (flat_map (λ a. map (λ b. a ++ b) ys) xs) (product_kinds p.0 s.0 xs ys left.kinds right.kinds);
        told =
            told_joined (λ us vs. filter (passes e) (flat_map (λ a. map (λ b. a ++ b) vs) us)) (λ vs. refl) (λ us. ap (filter (passes e)) (no_pairs us))
            (told_of q) (told_of r) p.0 s.0 xs ys left.told right.told;
      })
  all_known (physical.Hash places e q r) ks h =
      let p = and_then_is _ (physical_kinds tk q) ks h in
      let s = and_then_is _ (physical_kinds tk r) ks p.2 in
      let u = chosen_is _ (Some (p.0 ++ s.0)) ks s.2 in
      let left = all_known q p.0 p.1 in
      let right = all_known r s.0 s.1 in
      let xs = physical_rows q ts in
      let ys = physical_rows r ts in
      known_as (physical.Hash places e q r) (p.0 ++ s.0) ks (some_is (p.0 ++ s.0) ks u.1)
      (record {
        kinds = all_filter (λ row. map kind_of row ≡ p.0 ++ s.0) (passes e) (pairs_where (equal_at places) xs ys) (chosen_kinds (equal_at places) p.0 s.0 xs ys left.kinds right.kinds);
        told =
            told_joined (λ us vs. filter (passes e) (pairs_where (equal_at places) us vs)) (λ vs. refl) (λ us. ap (filter (passes e)) (none_chosen (equal_at places) us))
            (told_of q) (told_of r) p.0 s.0 xs ys left.told right.told;
      })
  all_known (physical.Overlap at e q r) ks h =
      let p = and_then_is _ (physical_kinds tk q) ks h in
      let s = and_then_is _ (physical_kinds tk r) ks p.2 in
      let u = chosen_is _ (Some (p.0 ++ s.0)) ks s.2 in
      let left = all_known q p.0 p.1 in
      let right = all_known r s.0 s.1 in
      let xs = physical_rows q ts in
      let ys = physical_rows r ts in
      known_as (physical.Overlap at e q r) (p.0 ++ s.0) ks (some_is (p.0 ++ s.0) ks u.1)
      (record {
        kinds =
            all_filter (λ row. map kind_of row ≡ p.0 ++ s.0) (passes e) (pairs_where (overlaps at) xs (by_range at ys))
            (chosen_kinds (overlaps at) p.0 s.0 xs (by_range at ys) left.kinds (all_sorted (range_at_most at) (λ row. map kind_of row ≡ s.0) ys right.kinds));
        told =
            told_joined (λ us vs. filter (passes e) (pairs_where (overlaps at) us (by_range at vs))) (λ vs. refl) (λ us. ap (filter (passes e)) (none_chosen (overlaps at) us))
            (told_of q) (told_of r) p.0 s.0 xs ys left.told right.told;
      })
  all_known (physical.Union q r) ks h =
      let p = and_then_is _ (physical_kinds tk q) ks h in
      let s = and_then_is _ (physical_kinds tk r) ks p.2 in
      let u = chosen_is _ (Some p.0) ks s.2 in
      let left = all_known q p.0 p.1 in
      let right = known_as r s.0 p.0 (sym (same_kinds_is p.0 s.0 u.0)) (all_known r s.0 s.1) in
      known_as (physical.Union q r) p.0 ks (some_is p.0 ks u.1)
      (record {
        kinds = all_append (λ row. map kind_of row ≡ p.0) (physical_rows q ts) (physical_rows r ts) left.kinds right.kinds;
        told = told_either (told_of q) (told_of r) p.0 (physical_rows q ts) (physical_rows r ts) left.told right.told;
      })
  all_known (physical.Group keys aggs q) ks h =
      let p = and_then_is _ (physical_kinds tk q) ks h in
      let s = and_then_is _ (kept_kinds keys p.0) ks p.2 in
      let u = and_then_is _ (all_kinds (map (plain_agg_kind p.0) aggs)) ks s.2 in
      let below = all_known q p.0 p.1 in
      let rows = physical_rows q ts in
      known_as (physical.Group keys aggs q) (s.0 ++ u.0) ks (some_is (s.0 ++ u.0) ks u.2)
      (record {
        kinds = group_kinds p.0 s.0 u.0 keys aggs u.1 rows below.kinds s.1;
        told =
            told_as (grouped_kinds keys aggs p.0) (s.0 ++ u.0) (λ i. told_places p.0 keys s.0 s.1 i ++ told_aggs p.0 aggs u.0 u.1 i) (told_of (physical.Group keys aggs q)) (plain_group keys aggs rows)
            (told_map (grouped_kinds keys aggs) (plain_group keys aggs) refl (told_of q) p.0 rows below.told);
      })

have_told : (o : Option (List Kind)) (ks : List Kind) (rows : Rows) → Known o ks rows → HaveKinds (unwrap_or o []) rows
have_told None ks rows h = subst (HaveKinds []) (sym h.told) tt
have_told (Some js) ks rows h = subst (λ ms. HaveKinds ms rows) (sym h.told) h.kinds

-- the rows of a typed plan have its known kinds
pub known_hold : (ts : List Rows) (p : PhysicalTree) → IsPhysicalFor ts p → HaveKinds (unwrap_or (known_kinds (map first_kinds ts) p) []) (physical_rows p ts)
known_hold ts p typed =
    let k = its_kinds (physical_kinds typed.kinds p) typed.typed in
    have_told (known_kinds (map first_kinds ts) p) k.0 (physical_rows p ts) (all_known typed.kinds ts typed.tables p k.0 k.1)
