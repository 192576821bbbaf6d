-- A plan whose Scans of one table all stand right below a Keep of the same places, and the plan that scans in place of
-- these Keeps a table of just these columns: they have the same kinds, rows and numbers.
use Rattle.std.specs.Prelude.{◌≡◌, ◌&&◌, ◌==◌, ℕ, zero, suc, Bool, true, false, nat_eq, List, [], ◌∷◌, ◌++◌, filter, flat_map, length, map, slice_get, unwrap_or, Option, Some, None, option_and_then, if◌then◌else◌}
use Rattle.std.specs.Cmp.Lexicographic.{bytes_decides, pointwise}
use Rattle.std.specs.Option.{option_or}
use Rattle.std.proofs.Common.{refl, sym, ◌∙◌, ap, subst}
use Rattle.std.proofs.lemmas.Bool.{and_parts, eq-eqb, eqb-false, eqb-true, not-true, true≢false}
use Rattle.au_value.specs.declared.kinds.Kind.{Kind}
use Rattle.au_value.specs.declared.kinds.Kind.TheVariants.{Flag}
use Rattle.au_expr.specs.Kinds.{is_kind}
use Rattle.au_algebra.specs.Ordinary.{Rows}
use Rattle.au_algebra.specs.Typing.{all_kinds, kinds_if, same_kinds}
use Rattle.au_algebra.proofs.Items.{and_then_is, chosen_is, some_is}
use Rattle.au_algebra.proofs.TreeRelation.{its_kinds}
use Rattle.au_plain.specs.Meaning.{extended, kept, passes, plain_group}
use Rattle.au_plain.specs.PlanKinds.{kept_kinds, plain_agg_kind, plain_kind}
use Rattle.au_plain.specs.PlanNumbers.{group_numbers, term_numbers}
use Rattle.au_plain.proofs.Widths.{kept_long}
use Rattle.au_physical.specs.PhysicalKinds.{bounds_kinds, equal_kinds, physical_kinds}
use Rattle.au_physical.specs.PhysicalMeaning.{equal_pairs, overlap_pairs, physical_rows}
use Rattle.au_physical.specs.PhysicalNumbers.{physical_numbers}
use Rattle.au_physical.specs.Physicals.{PhysicalTree}
use Rattle.au_physical.specs.Physicals as physical
use Rattle.au_plan.specs.Narrowing.{Narrows}
use Rattle.au_plan.specs.TableScans.{first_places, is_scan, narrowed, reads}
use Rattle.au_plan.proofs.Implementing.{one_typed, two_typed}

-- ---- lists that differ in one place

in_place : {A : Type 0} (front back : List A) (x : A) → slice_get (front ++ x ∷ back) (length front) ≡ Some x
in_place [] back x = refl
in_place (y ∷ front) back x = in_place front back x

elsewhere : {A : Type 0} (front back : List A) (x y : A) (u : ℕ) → (u ≡ length front → ⊥) → slice_get (front ++ x ∷ back) u ≡ slice_get (front ++ y ∷ back) u
elsewhere [] back x y zero h = absurd (h refl)
elsewhere [] back x y (suc u) h = refl
elsewhere (z ∷ front) back x y zero h = refl
elsewhere (z ∷ front) back x y (suc u) h = elsewhere front back x y u (λ e. h (ap suc e))

-- ---- Scans

scan_is : (t : ℕ) (p : PhysicalTree) → is_scan t p ≡ true → (w : ℕ) × (p ≡ physical.Scan t w)
scan_is t (physical.Scan u w) h = (w, ap (λ v. physical.Scan v w) (eqb-true u t h))
scan_is t _ h = absurd (true≢false (sym h))

same_places : (qs ps : List ℕ) → pointwise nat_eq qs ps ≡ true → qs ≡ ps
same_places qs ps h = (bytes_decides qs ps).0 h

-- ---- rows and numbers

module _ (t n : ℕ) (ps : List ℕ) (old new : List Rows) (whole : Rows) (was : slice_get old t ≡ Some whole) (is : slice_get new t ≡ Some (map (kept ps) whole)) (others : (u : ℕ) → (u ≡ t → ⊥) → slice_get new u ≡ slice_get old u) where
  rows_of_scan : (p : PhysicalTree) → is_scan t p ≡ true → physical_rows p old ≡ whole
  rows_of_scan p h = ap (λ q. physical_rows q old) (scan_is t p h).1 ∙ ap (λ o. unwrap_or o []) was

  rows_of_keep :
      (places : List ℕ) (p : PhysicalTree) (b : Bool) → is_scan t p ≡ b → (if b then pointwise nat_eq places ps else reads t ps p) ≡ true →
      (reads t ps p ≡ true → physical_rows (narrowed t n p) new ≡ physical_rows p old) →
      physical_rows (if b then physical.Scan t n else physical.Keep places (narrowed t n p)) new ≡ map (kept places) (physical_rows p old)
  rows_of_keep places p true scan h same =
      ap (λ o. unwrap_or o []) is ∙ (λ i. map (kept (sym (same_places places ps h) i)) (sym (rows_of_scan p scan) i))
  rows_of_keep places p false scan h same = ap (map (kept places)) (same h)

  same_rows : (p : PhysicalTree) → reads t ps p ≡ true → physical_rows (narrowed t n p) new ≡ physical_rows p old
  same_rows (physical.Scan u w) h = ap (λ o. unwrap_or o []) (others u (eqb-false u t (not-true (u == t) h)))
  same_rows (physical.Rows w rows) h = refl
  same_rows (physical.Extend e p) h = ap (map (extended e)) (same_rows p h)
  same_rows (physical.Keep places p) h = rows_of_keep places p (is_scan t p) refl h (same_rows p)
  same_rows (physical.Filter e p) h = ap (filter (passes e)) (same_rows p h)
  same_rows (physical.Nested e p q) h =
      let r = and_parts (reads t ps p) (reads t ps q) h in
      λ i. filter (passes e) (flat_map (λ a. map (λ b. a ++ b) (same_rows q r.1 i)) (same_rows p r.0 i))
  same_rows (physical.Hash places e p q) h =
      let r = and_parts (reads t ps p) (reads t ps q) h in
      λ i. filter (passes e) (equal_pairs places (same_rows p r.0 i) (same_rows q r.1 i))
  same_rows (physical.Overlap at e p q) h =
      let r = and_parts (reads t ps p) (reads t ps q) h in
      λ i. filter (passes e) (overlap_pairs at (same_rows p r.0 i) (same_rows q r.1 i))
  same_rows (physical.Union p q) h =
      let r = and_parts (reads t ps p) (reads t ps q) h in
      λ i. same_rows p r.0 i ++ same_rows q r.1 i
  same_rows (physical.Group keys aggs p) h = ap (plain_group keys aggs) (same_rows p h)

  numbers_of_keep :
      (places : List ℕ) (p : PhysicalTree) (b : Bool) → is_scan t p ≡ b → (if b then pointwise nat_eq places ps else reads t ps p) ≡ true →
      (reads t ps p ≡ true → physical_numbers (narrowed t n p) new ≡ physical_numbers p old) →
      physical_numbers (if b then physical.Scan t n else physical.Keep places (narrowed t n p)) new ≡ physical_numbers p old
  numbers_of_keep places p true scan h same = ap (λ q. physical_numbers q old) (sym (scan_is t p scan).1)
  numbers_of_keep places p false scan h same = same h

  same_numbers : (p : PhysicalTree) → reads t ps p ≡ true → physical_numbers (narrowed t n p) new ≡ physical_numbers p old
  same_numbers (physical.Scan u w) h = refl
  same_numbers (physical.Rows w rows) h = refl
  same_numbers (physical.Extend e p) h = λ i. same_numbers p h i ++ flat_map (term_numbers e) (same_rows p h i)
  same_numbers (physical.Keep places p) h = numbers_of_keep places p (is_scan t p) refl h (same_numbers p)
  same_numbers (physical.Filter e p) h = λ i. same_numbers p h i ++ flat_map (term_numbers e) (same_rows p h i)
  same_numbers (physical.Nested e p q) h =
      let r = and_parts (reads t ps p) (reads t ps q) h in
      λ i. (same_numbers p r.0 i ++ same_numbers q r.1 i) ++ flat_map (term_numbers e) (flat_map (λ a. map (λ b. a ++ b) (same_rows q r.1 i)) (same_rows p r.0 i))
  same_numbers (physical.Hash places e p q) h =
      let r = and_parts (reads t ps p) (reads t ps q) h in
      λ i. (same_numbers p r.0 i ++ same_numbers q r.1 i) ++ flat_map (term_numbers e) (equal_pairs places (same_rows p r.0 i) (same_rows q r.1 i))
  same_numbers (physical.Overlap at e p q) h =
      let r = and_parts (reads t ps p) (reads t ps q) h in
      λ i. (same_numbers p r.0 i ++ same_numbers q r.1 i) ++ flat_map (term_numbers e) (overlap_pairs at (same_rows p r.0 i) (same_rows q r.1 i))
  same_numbers (physical.Union p q) h =
      let r = and_parts (reads t ps p) (reads t ps q) h in
      λ i. same_numbers p r.0 i ++ same_numbers q r.1 i
  same_numbers (physical.Group keys aggs p) h = λ i. same_numbers p h i ++ group_numbers keys aggs (same_rows p h i)

-- ---- kinds

-- a Scan that is typed gives the kinds of its table
scan_kinds : (old : List (List Kind)) (t w : ℕ) (ks ms : List Kind) → slice_get old t ≡ Some ks → physical_kinds old (physical.Scan t w) ≡ Some ms → ks ≡ ms
scan_kinds old t w ks ms was h =
    let p = and_then_is (λ js. kinds_if (length js == w) js) (slice_get old t) ms h in
    let s = chosen_is (length p.0 == w) (Some p.0) ms p.2 in
    some_is ks p.0 (sym was ∙ p.1) ∙ some_is p.0 ms s.1

-- the kinds of both inputs
both_typed :
    (f : List Kind → List Kind → Option (List Kind)) (o u : Option (List Kind)) (hs : List Kind) → option_and_then (λ js. option_and_then (f js) u) o ≡ Some hs →
    ((ms : List Kind) × (o ≡ Some ms)) × ((ms : List Kind) × (u ≡ Some ms))
both_typed f o u hs h =
    let p = and_then_is _ o hs h in
    let q = and_then_is (f p.0) u hs p.2 in
    ((p.0, p.1), (q.0, q.1))

module _ (t : ℕ) (ps : List ℕ) (old : List (List Kind)) (ks : List Kind) (was : slice_get old t ≡ Some ks) where
  abbrev AreKept : Type 0
  AreKept = (js : List Kind) × (kept_kinds ps ks ≡ Some js)

  -- a Keep over a Scan of the table
  kept_there : (p : PhysicalTree) → is_scan t p ≡ true → (hs : List Kind) → physical_kinds old (physical.Keep ps p) ≡ Some hs → kept_kinds ps ks ≡ Some hs
  kept_there p scan hs h =
      let s = scan_is t p scan in
      let m = and_then_is (λ js. kept_kinds ps js) (physical_kinds old p) hs h in
      ap (kept_kinds ps) (scan_kinds old t s.0 ks m.0 was (ap (physical_kinds old) (sym s.1) ∙ m.1)) ∙ m.2

  first_in_keep :
      (places : List ℕ) (p : PhysicalTree) (b : Bool) → is_scan t p ≡ b → (if b then Some places else first_places t p) ≡ Some ps →
      ((hs : List Kind) → first_places t p ≡ Some ps → physical_kinds old p ≡ Some hs → AreKept) → (hs : List Kind) → physical_kinds old (physical.Keep places p) ≡ Some hs → AreKept
  first_in_keep places p true scan first kept hs h =
      (hs, kept_there p scan hs (ap (λ (qs : List ℕ). physical_kinds old (physical.Keep qs p)) (sym (some_is places ps first)) ∙ h))
  first_in_keep places p false scan first kept hs h = let m = and_then_is (λ js. kept_kinds places js) (physical_kinds old p) hs h in kept m.0 first m.1

  first_of_two :
      (a b : Option (List ℕ)) (o u : Option (List Kind)) → option_or a b ≡ Some ps → ((ms : List Kind) × (o ≡ Some ms)) × ((ms : List Kind) × (u ≡ Some ms)) →
      ((ms : List Kind) → a ≡ Some ps → o ≡ Some ms → AreKept) → ((ms : List Kind) → b ≡ Some ps → u ≡ Some ms → AreKept) → AreKept
  first_of_two None b o u first typed left right = right typed.1.0 first typed.1.1
  first_of_two (Some qs) b o u first typed left right = left typed.0.0 first typed.0.1

  first_kept : (p : PhysicalTree) (hs : List Kind) → first_places t p ≡ Some ps → physical_kinds old p ≡ Some hs → AreKept
  first_kept (physical.Scan u w) hs first h = cc
  first_kept (physical.Rows w rows) hs first h = cc
  first_kept (physical.Extend e p) hs first h = let m = and_then_is _ (physical_kinds old p) hs h in first_kept p m.0 first m.1
  first_kept (physical.Keep places p) hs first h = first_in_keep places p (is_scan t p) refl first (first_kept p) hs h
  first_kept (physical.Filter e p) hs first h = let m = and_then_is _ (physical_kinds old p) hs h in first_kept p m.0 first m.1
  first_kept (physical.Nested e p q) hs first h =
      first_of_two (first_places t p) (first_places t q) (physical_kinds old p) (physical_kinds old q) first
      (both_typed (λ ms js. kinds_if (is_kind Flag (plain_kind (ms ++ js) e)) (ms ++ js)) (physical_kinds old p) (physical_kinds old q) hs h) (first_kept p) (first_kept q)
  first_kept (physical.Hash places e p q) hs first h =
      first_of_two (first_places t p) (first_places t q) (physical_kinds old p) (physical_kinds old q) first
      (both_typed (λ ms js. kinds_if (equal_kinds places ms js && is_kind Flag (plain_kind (ms ++ js) e)) (ms ++ js)) (physical_kinds old p) (physical_kinds old q) hs h) (first_kept p) (first_kept q)
  first_kept (physical.Overlap at e p q) hs first h =
      first_of_two (first_places t p) (first_places t q) (physical_kinds old p) (physical_kinds old q) first
      (both_typed (λ ms js. kinds_if (bounds_kinds at ms js && is_kind Flag (plain_kind (ms ++ js) e)) (ms ++ js)) (physical_kinds old p) (physical_kinds old q) hs h) (first_kept p) (first_kept q)
  first_kept (physical.Union p q) hs first h =
      first_of_two (first_places t p) (first_places t q) (physical_kinds old p) (physical_kinds old q) first
      (both_typed (λ ms js. kinds_if (same_kinds ms js) ms) (physical_kinds old p) (physical_kinds old q) hs h) (first_kept p) (first_kept q)
  first_kept (physical.Group keys aggs p) hs first h = let m = and_then_is _ (physical_kinds old p) hs h in first_kept p m.0 first m.1

  module _ (new : List (List Kind)) (js : List Kind) (kept_are : kept_kinds ps ks ≡ Some js) (is : slice_get new t ≡ Some js) (others : (u : ℕ) → (u ≡ t → ⊥) → slice_get new u ≡ slice_get old u) where
    kinds_of_keep :
        (places : List ℕ) (p : PhysicalTree) (b : Bool) → is_scan t p ≡ b → (if b then pointwise nat_eq places ps else reads t ps p) ≡ true →
        ((hs : List Kind) → reads t ps p ≡ true → physical_kinds old p ≡ Some hs → physical_kinds new (narrowed t (length ps) p) ≡ Some hs) →
        (hs : List Kind) → physical_kinds old (physical.Keep places p) ≡ Some hs →
        physical_kinds new (if b then physical.Scan t (length ps) else physical.Keep places (narrowed t (length ps) p)) ≡ Some hs
    kinds_of_keep places p true scan r same hs h =
        let own = kept_there p scan hs (ap (λ (qs : List ℕ). physical_kinds old (physical.Keep qs p)) (sym (same_places places ps r)) ∙ h) in
        ap (option_and_then (λ ms. kinds_if (length ms == length ps) ms)) is
        ∙ ap (λ b. kinds_if b js) (eq-eqb (length js) (length ps) (kept_long ps ks js kept_are))
        ∙ sym kept_are
        ∙ own
    kinds_of_keep places p false scan r same hs h =
        one_typed (λ ms. kept_kinds places ms) (physical_kinds old p) (physical_kinds new (narrowed t (length ps) p)) hs (λ ms. same ms r) h

    two : (f : List Kind → List Kind → Option (List Kind)) (o u l r : Option (List Kind)) (hs : List Kind) →
        ((ms : List Kind) → o ≡ Some ms → l ≡ Some ms) → ((ms : List Kind) → u ≡ Some ms → r ≡ Some ms) →
        option_and_then (λ ms. option_and_then (f ms) u) o ≡ Some hs → option_and_then (λ ms. option_and_then (f ms) r) l ≡ Some hs
    two f o u l r hs left right h = two_typed f f o u l r hs left right (λ ms gs e g. g) h

    same_kinds_given : (p : PhysicalTree) (hs : List Kind) → reads t ps p ≡ true → physical_kinds old p ≡ Some hs → physical_kinds new (narrowed t (length ps) p) ≡ Some hs
    same_kinds_given (physical.Scan u w) hs r h = ap (option_and_then (λ ms. kinds_if (length ms == w) ms)) (others u (eqb-false u t (not-true (u == t) r))) ∙ h
    same_kinds_given (physical.Rows w rows) hs r h = h
    same_kinds_given (physical.Extend e p) hs r h =
        one_typed (λ ms. option_and_then (λ k. Some (ms ++ k ∷ [])) (plain_kind ms e)) (physical_kinds old p) (physical_kinds new (narrowed t (length ps) p)) hs (λ ms. same_kinds_given p ms r) h
    same_kinds_given (physical.Keep places p) hs r h = kinds_of_keep places p (is_scan t p) refl r (same_kinds_given p) hs h
    same_kinds_given (physical.Filter e p) hs r h =
        one_typed (λ ms. kinds_if (is_kind Flag (plain_kind ms e)) ms) (physical_kinds old p) (physical_kinds new (narrowed t (length ps) p)) hs (λ ms. same_kinds_given p ms r) h
    same_kinds_given (physical.Nested e p q) hs r h =
        let s = and_parts (reads t ps p) (reads t ps q) r in
        two (λ ms gs. kinds_if (is_kind Flag (plain_kind (ms ++ gs) e)) (ms ++ gs)) (physical_kinds old p) (physical_kinds old q)
        (physical_kinds new (narrowed t (length ps) p)) (physical_kinds new (narrowed t (length ps) q)) hs (λ ms. same_kinds_given p ms s.0) (λ ms. same_kinds_given q ms s.1) h
    same_kinds_given (physical.Hash places e p q) hs r h =
        let s = and_parts (reads t ps p) (reads t ps q) r in
        two (λ ms gs. kinds_if (equal_kinds places ms gs && is_kind Flag (plain_kind (ms ++ gs) e)) (ms ++ gs)) (physical_kinds old p) (physical_kinds old q)
        (physical_kinds new (narrowed t (length ps) p)) (physical_kinds new (narrowed t (length ps) q)) hs (λ ms. same_kinds_given p ms s.0) (λ ms. same_kinds_given q ms s.1) h
    same_kinds_given (physical.Overlap at e p q) hs r h =
        let s = and_parts (reads t ps p) (reads t ps q) r in
        two (λ ms gs. kinds_if (bounds_kinds at ms gs && is_kind Flag (plain_kind (ms ++ gs) e)) (ms ++ gs)) (physical_kinds old p) (physical_kinds old q)
        (physical_kinds new (narrowed t (length ps) p)) (physical_kinds new (narrowed t (length ps) q)) hs (λ ms. same_kinds_given p ms s.0) (λ ms. same_kinds_given q ms s.1) h
    same_kinds_given (physical.Union p q) hs r h =
        let s = and_parts (reads t ps p) (reads t ps q) r in
        two (λ ms gs. kinds_if (same_kinds ms gs) ms) (physical_kinds old p) (physical_kinds old q)
        (physical_kinds new (narrowed t (length ps) p)) (physical_kinds new (narrowed t (length ps) q)) hs (λ ms. same_kinds_given p ms s.0) (λ ms. same_kinds_given q ms s.1) h
    same_kinds_given (physical.Group keys aggs p) hs r h =
        one_typed (λ ms. option_and_then (λ gs. option_and_then (λ more. Some (gs ++ more)) (all_kinds (map (plain_agg_kind ms) aggs))) (kept_kinds keys ms)) (physical_kinds old p)
        (physical_kinds new (narrowed t (length ps) p)) hs (λ ms. same_kinds_given p ms r) h

-- ---- the whole

module _ {A : Type 0} (t : ℕ) (front back : List A) (long : length front ≡ t) where
  at_table : (x : A) → slice_get (front ++ x ∷ back) t ≡ Some x
  at_table x = ap (slice_get (front ++ x ∷ back)) (sym long) ∙ in_place front back x

  at_others : (x y : A) (u : ℕ) → (u ≡ t → ⊥) → slice_get (front ++ x ∷ back) u ≡ slice_get (front ++ y ∷ back) u
  at_others x y u other = elsewhere front back x y u (λ e. other (e ∙ long))

pub narrows : (t : ℕ) (ps : List ℕ) (p : PhysicalTree) → first_places t p ≡ Some ps → reads t ps p ≡ true → Narrows t ps p (narrowed t (length ps) p)
narrows t ps p first r = record {
  kinds = λ front back ks long typed.
      let old = front ++ ks ∷ back in
      let was = at_table t front back long ks in
      let whole = its_kinds (physical_kinds old p) typed in
      let own = first_kept t ps old ks was p whole.0 first whole.1 in
      let new = front ++ own.0 ∷ back in
      let same = same_kinds_given t ps old ks was new own.0 own.1 (at_table t front back long own.0) (at_others t front back long own.0 ks) p whole.0 r whole.1 in
      (own.0, (own.1, same ∙ sym whole.1));
  rows = λ front back whole long.
      same_rows t (length ps) ps (front ++ whole ∷ back) (front ++ map (kept ps) whole ∷ back) whole (at_table t front back long whole) (at_table t front back long (map (kept ps) whole))
      (at_others t front back long (map (kept ps) whole) whole) p r;
  numbers = λ front back whole long.
      same_numbers t (length ps) ps (front ++ whole ∷ back) (front ++ map (kept ps) whole ∷ back) whole (at_table t front back long whole) (at_table t front back long (map (kept ps) whole))
      (at_others t front back long (map (kept ps) whole) whole) p r;
}

-- and of what was computed
module _ (t n : ℕ) (found : Option (List ℕ)) (ps qs : List ℕ) (p q : PhysicalTree) where
  pub narrows_computed : found ≡ first_places t p → found ≡ Some ps → reads t ps p ≡ true → qs ≡ ps → n ≡ length ps → q ≡ narrowed t n p → Narrows t qs p q
  narrows_computed first some r same long is =
      subst (λ (xs : List ℕ). Narrows t xs p q) (sym same)
      (subst (Narrows t ps p) (sym (is ∙ ap (λ m. narrowed t m p) long)) (narrows t ps p (sym first ∙ some) r))
