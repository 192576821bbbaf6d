-- Tests stay tests on their way: without arithmetic, and flags over the columns that they come to.
use Rattle.std.specs.Prelude.{◌≡◌, ℕ, zero, suc, ◌-◌, ◌<◌, ◌≤◌, Bool, true, false, not, ◌&&◌, cond, List, [], ◌∷◌, ◌++◌, length, map, nat_eq, nat_le, Option, Some, None, slice_get}
use Rattle.std.specs.List.{AllByRecursion, list_all}
use Rattle.std.proofs.Common.{refl, sym, ◌∙◌, ap, arith}
use Rattle.std.proofs.lemmas.Bool.{and_parts, and_from, cond_both, ltb-true, lt-ltb, leb-true, not-true, eqb-true, eqb-false}
use Rattle.std.proofs.lemmas.Option.{slice_get_within}
use Rattle.au_value.specs.declared.kinds.Kind.{Kind}
use Rattle.au_value.specs.declared.kinds.Kind.TheVariants as kind
use Rattle.au_value.specs.declared.value.Value.TheVariants.{Flag}
use Rattle.au_expr.proofs.Along.{both_of, one_of, kind_if_is, some_agreed}
use Rattle.au_algebra.proofs.AggregateKinds.{kinds_parts}
use Rattle.au_algebra.proofs.Each.{all_append, all_filter, passing}
use Rattle.au_plain.specs.PTerms.{PTerm, Column, Literal, Add, Subtract, Multiply, Negate, Compare, And, Or, Not, Case, Least, Greatest}
use Rattle.au_plain.specs.PlanKinds.{kept_kinds, plain_kind}
use Rattle.au_passes.specs.Tests.{without_arithmetic, reads_only, with_columns, defined, column_or_zero, renamed, counted_from, movable, staying, total_weight}
use Rattle.au_passes.specs.Conditions.{conjuncts}
use Rattle.au_passes.specs.Pushing.{reading_only, reading_more, other_than, before, from, follow, can_follow, most_weight, below_column, above_column, on_left, on_right, on_both}
use Rattle.au_passes.proofs.Changing.{reads_any, kind_changed, kind_same, free_changed, front, back, last, past}

-- an expression without arithmetic that is a flag over columns of some kinds
pub record IsTest (ks : List Kind) (e : PTerm) : Type 0 where
  pub free : without_arithmetic e ≡ true
  pub flag : plain_kind ks e ≡ Some kind.Flag

abbrev pub Tests : List Kind → List PTerm → Type 0
Tests ks es = AllByRecursion (IsTest ks) es

abbrev pub Free : List PTerm → Type 0
Free es = AllByRecursion (λ e. without_arithmetic e ≡ true) es

abbrev pub Flags : List Kind → List PTerm → Type 0
Flags ks es = AllByRecursion (λ e. plain_kind ks e ≡ Some kind.Flag) es

pub tests_free : (ks : List Kind) (es : List PTerm) → Tests ks es → Free es
tests_free ks [] h = tt
tests_free ks (e ∷ es) h = (h.0.free, tests_free ks es h.1)

pub tests_flags : (ks : List Kind) (es : List PTerm) → Tests ks es → Flags ks es
tests_flags ks [] h = tt
tests_flags ks (e ∷ es) h = (h.0.flag, tests_flags ks es h.1)

tests_from : (ks : List Kind) (es : List PTerm) → Free es → Flags ks es → Tests ks es
tests_from ks [] f g = tt
tests_from ks (e ∷ es) f g = (record { free = f.0; flag = g.0 }, tests_from ks es f.1 g.1)

-- the conjuncts of a condition
flags_conjuncts : (ks : List Kind) (e : PTerm) → plain_kind ks e ≡ Some kind.Flag → Flags ks (conjuncts e)
flags_conjuncts ks (And a b) h =
    let p = both_of kind.Flag kind.Flag (plain_kind ks a) (plain_kind ks b) kind.Flag h in
    all_append (λ e. plain_kind ks e ≡ Some kind.Flag) (conjuncts a) (conjuncts b) (flags_conjuncts ks a p.0) (flags_conjuncts ks b p.1)
flags_conjuncts ks (Literal (Flag true)) h = tt
flags_conjuncts ks e h = (h, tt)

free_conjuncts : (e : PTerm) → without_arithmetic e ≡ true → Free (conjuncts e)
free_conjuncts (And a b) h =
    let p = and_parts (without_arithmetic a) (without_arithmetic b) h in
    all_append (λ e. without_arithmetic e ≡ true) (conjuncts a) (conjuncts b) (free_conjuncts a p.0) (free_conjuncts b p.1)
free_conjuncts (Literal (Flag true)) h = tt
free_conjuncts e h = (h, tt)

pub tests_conjuncts : (ks : List Kind) (e : PTerm) → IsTest ks e → Tests ks (conjuncts e)
tests_conjuncts ks e h = tests_from ks (conjuncts e) (free_conjuncts e h.free) (flags_conjuncts ks e h.flag)

pub tests_movable : (ks : List Kind) (e : PTerm) → plain_kind ks e ≡ Some kind.Flag → Tests ks (movable e)
tests_movable ks e h =
    tests_from ks (movable e) (passing without_arithmetic (conjuncts e))
    (all_filter (λ c. plain_kind ks c ≡ Some kind.Flag) without_arithmetic (conjuncts e) (flags_conjuncts ks e h))

pub flags_staying : (ks : List Kind) (e : PTerm) → plain_kind ks e ≡ Some kind.Flag → Flags ks (staying e)
flags_staying ks e h =
    all_filter (λ c. plain_kind ks c ≡ Some kind.Flag) (λ c. not (without_arithmetic c)) (conjuncts e) (flags_conjuncts ks e h)

-- tests over other columns
module _ (test : ℕ → Bool) (f : ℕ → PTerm) (ks old : List Kind) (free : (i : ℕ) → without_arithmetic (f i) ≡ true) (same : (i : ℕ) → test i ≡ true → plain_kind ks (f i) ≡ slice_get old i) where
  pub test_changed : (e : PTerm) → reads_only test e ≡ true → IsTest old e → IsTest ks (with_columns f e)
  test_changed e r h = record { free = free_changed f free e h.free; flag = kind_changed test f ks old same e r ∙ h.flag }

  pub tests_changed : (es : List PTerm) → AllByRecursion (λ e. reads_only test e ≡ true) es → Tests old es → Tests ks (map (with_columns f) es)
  tests_changed [] r h = tt
  tests_changed (e ∷ es) r h = (test_changed e r.0 h.0, tests_changed es r.1 h.1)

tests_same :
    (test : ℕ → Bool) (ks old : List Kind) → ((i : ℕ) → test i ≡ true → slice_get ks i ≡ slice_get old i) → (es : List PTerm) →
    AllByRecursion (λ e. reads_only test e ≡ true) es → Tests old es → Tests ks es
tests_same test ks old same [] r h = tt
tests_same test ks old same (e ∷ es) r h =
    (record { free = h.0.free; flag = kind_same test ks old same e r.0 ∙ h.0.flag }, tests_same test ks old same es r.1 h.1)

pub tests_only : (ks : List Kind) (test : ℕ → Bool) (es : List PTerm) → Tests ks es → Tests ks (reading_only test es)
tests_only ks test es h = all_filter (IsTest ks) (reads_only test) es h

pub tests_more : (ks : List Kind) (test : ℕ → Bool) (es : List PTerm) → Tests ks es → Tests ks (reading_more test es)
tests_more ks test es h = all_filter (IsTest ks) (λ e. not (reads_only test e)) es h

-- below a column that is added
module _ (of : List Kind) (own : Kind) (n : ℕ) (at : n ≡ length of) (c : PTerm) (own_is : plain_kind of c ≡ Some own) where
  abbrev all : List Kind
  all = of ++ own ∷ []

  other_kinds : (i : ℕ) → other_than n i ≡ true → slice_get of i ≡ slice_get all i
  other_kinds i h = sym (past of own i (λ e. eqb-false i n (not-true (nat_eq i n) h) (e ∙ sym at)))

  tests_unread : (es : List PTerm) → Tests all es → Tests of (reading_only (other_than n) es)
  tests_unread es h =
      tests_same (other_than n) of all other_kinds (reading_only (other_than n) es) (passing (reads_only (other_than n)) es)
      (tests_only all (other_than n) es h)

  defined_kind : (i : ℕ) (t : Bool) → nat_eq i n ≡ t → plain_kind of (cond t c (Column i)) ≡ slice_get all i
  defined_kind i true h = own_is ∙ sym (last of own) ∙ ap (slice_get all) (sym at ∙ sym (eqb-true i n h))
  defined_kind i false h = sym (past of own i (λ e. eqb-false i n h (e ∙ sym at)))

  defined_free : without_arithmetic c ≡ true → (i : ℕ) → without_arithmetic (defined n c i) ≡ true
  defined_free h i = cond_both (nat_eq i n) c (Column i) (λ e. without_arithmetic e ≡ true) (λ _. h) (λ _. refl)

  tests_follow : without_arithmetic c ≡ true → (es : List PTerm) → Tests all es → Tests of (follow n c es)
  tests_follow f [] h = tt
  tests_follow f (e ∷ es) h =
      let changed = test_changed (λ i. true) (defined n c) of all (defined_free f) (λ i r. defined_kind i (nat_eq i n) refl) e (reads_any e h.0.free) h.0 in
      all_append (IsTest of) (conjuncts (with_columns (defined n c) e)) (follow n c es)
      (tests_conjuncts of (with_columns (defined n c) e) changed) (tests_follow f es h.1)

  free_column : (es : List PTerm) → can_follow n c es ≡ true → without_arithmetic c ≡ true
  free_column es t =
      let p = and_parts (not (list_all (reads_only (other_than n)) es)) (without_arithmetic c && nat_le (total_weight (follow n c es)) most_weight) t in
      (and_parts (without_arithmetic c) (nat_le (total_weight (follow n c es)) most_weight) p.1).0

  pub tests_below : (es : List PTerm) → Tests all es → Tests of (below_column n c es)
  tests_below es h =
      cond_both (can_follow n c es) (follow n c es) (reading_only (other_than n) es) (Tests of) (λ t. tests_follow (free_column es t) es h)
      (λ _. tests_unread es h)

  pub tests_above : (es : List PTerm) → Tests all es → Tests all (above_column n c es)
  tests_above es h =
      cond_both (can_follow n c es) [] (reading_more (other_than n) es) (Tests all) (λ _. tt) (λ _. tests_more all (other_than n) es h)

-- on the sides of a join
module _ (left right : List Kind) (n : ℕ) (at : n ≡ length left) where
  left_kinds : (i : ℕ) → before n i ≡ true → slice_get left i ≡ slice_get (left ++ right) i
  left_kinds i h =
      let under : i < n = ltb-true i n h in sym (front left right i (omega (arith, under, at)))

  right_kinds : (i : ℕ) → from n i ≡ true → plain_kind right (counted_from n i) ≡ slice_get (left ++ right) i
  right_kinds i h =
      let over : n ≤ i = leb-true n i h in
      ap (λ m. slice_get right (i - m)) at ∙ sym (back left right i (omega (arith, over, at)))

  pub tests_left : (es : List PTerm) → Tests (left ++ right) es → Tests left (on_left n es)
  tests_left es h =
      tests_same (before n) left (left ++ right) left_kinds (on_left n es) (passing (reads_only (before n)) es)
      (tests_only (left ++ right) (before n) es h)

  pub tests_right : (es : List PTerm) → Tests (left ++ right) es → Tests right (on_right n es)
  tests_right es h =
      let others = reading_more (before n) es in
      tests_changed (from n) (counted_from n) right (left ++ right) (λ i. refl) right_kinds (reading_only (from n) others)
      (passing (reads_only (from n)) others) (tests_only (left ++ right) (from n) others (tests_more (left ++ right) (before n) es h))

  pub tests_both : (es : List PTerm) → Tests (left ++ right) es → Tests (left ++ right) (on_both n es)
  tests_both es h = tests_more (left ++ right) (from n) (reading_more (before n) es) (tests_more (left ++ right) (before n) es h)

-- a typed test reads columns that are there
typed_reads : (ks : List Kind) (e : PTerm) (k : Kind) → without_arithmetic e ≡ true → plain_kind ks e ≡ Some k → reads_only (before (length ks)) e ≡ true
typed_reads ks (Column i) k f h = lt-ltb i (length ks) (slice_get_within ks i k h)
typed_reads ks (Literal v) k f h = refl
typed_reads ks (Compare how a b) k f h =
    let p = and_parts (without_arithmetic a) (without_arithmetic b) f in
    let q = some_agreed (plain_kind ks a) (plain_kind ks b) (kind_if_is _ kind.Flag k h).0 in
    and_from _ _ (typed_reads ks a q.0 p.0 q.1) (typed_reads ks b q.0 p.1 q.2)
typed_reads ks (And a b) k f h =
    let p = and_parts (without_arithmetic a) (without_arithmetic b) f in
    let q = both_of kind.Flag kind.Flag (plain_kind ks a) (plain_kind ks b) k h in
    and_from _ _ (typed_reads ks a kind.Flag p.0 q.0) (typed_reads ks b kind.Flag p.1 q.1)
typed_reads ks (Or a b) k f h =
    let p = and_parts (without_arithmetic a) (without_arithmetic b) f in
    let q = both_of kind.Flag kind.Flag (plain_kind ks a) (plain_kind ks b) k h in
    and_from _ _ (typed_reads ks a kind.Flag p.0 q.0) (typed_reads ks b kind.Flag p.1 q.1)
typed_reads ks (Not a) k f h = typed_reads ks a kind.Flag f (one_of kind.Flag kind.Flag (plain_kind ks a) k h).0
typed_reads ks (Add a b) k f h = cc
typed_reads ks (Subtract a b) k f h = cc
typed_reads ks (Multiply a b) k f h = cc
typed_reads ks (Negate a) k f h = cc
typed_reads ks (Case c a b) k f h = cc
typed_reads ks (Least es) k f h = cc
typed_reads ks (Greatest es) k f h = cc

tests_read : (ks : List Kind) (es : List PTerm) → Tests ks es → AllByRecursion (λ e. reads_only (before (length ks)) e ≡ true) es
tests_read ks [] h = tt
tests_read ks (e ∷ es) h = (typed_reads ks e kind.Flag h.0.free h.0.flag, tests_read ks es h.1)

-- below the columns of some places
renamed_kind : (of : List Kind) (places : List ℕ) (ks : List Kind) → kept_kinds places of ≡ Some ks → (i : ℕ) → i < length ks → plain_kind of (renamed places i) ≡ slice_get ks i
renamed_kind of [] ks h i under =
    let none : [] ≡ ks = cc in absurd (let e : length ks ≡ 0 = ap length (sym none) in omega (arith, e, under))
renamed_kind of (j ∷ places) ks h zero under =
    let p = kinds_parts (slice_get of j) (map (slice_get of) places) ks h in p.first_is ∙ ap (λ js. slice_get js 0) (sym p.whole)
renamed_kind of (j ∷ places) ks h (suc i) under =
    let p = kinds_parts (slice_get of j) (map (slice_get of) places) ks h in
    let wide : length ks ≡ length (p.first ∷ p.others) = ap length p.whole in
    let less : i < length p.others = omega (arith, wide, under) in
    renamed_kind of places p.others p.others_are i less ∙ ap (λ js. slice_get js (suc i)) (sym p.whole)

column_free : (o : Option ℕ) → without_arithmetic (column_or_zero o) ≡ true
column_free None = refl
column_free (Some i) = refl

pub tests_kept : (of ks : List Kind) (places : List ℕ) → kept_kinds places of ≡ Some ks → (es : List PTerm) → Tests ks es → Tests of (map (with_columns (renamed places)) es)
tests_kept of ks places typed es h =
    tests_changed (before (length ks)) (renamed places) of ks (λ i. column_free (slice_get places i))
    (λ i b. renamed_kind of places ks typed i (ltb-true i (length ks) b)) es (tests_read ks es h) h
