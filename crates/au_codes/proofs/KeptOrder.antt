-- Under a code that keeps the order of texts, values of one kind are ordered as their numbers are, and so are rows.
use Rattle.std.specs.Prelude.{◌≡◌, ℕ, Bool, true, false, ◌&&◌, List, [], ◌∷◌, map}
use Rattle.std.specs.declared.cmp.Ordering.{Ordering}
use Rattle.std.specs.declared.cmp.Ordering.TheVariants.{Less, Equal, Greater}
use Rattle.std.specs.Ordering.{nat_cmp, int_cmp, is_le, is_eq, ordering_reverse, ordering_then}
use Rattle.std.specs.Cmp.{int_cmp_total, tied_itself}
use Rattle.std.specs.Cmp.Lexicographic.{slice_cmp, nat_list_cmp_total}
use Rattle.std.specs.FinMap.{nat_cmp-IsAntisymmetric, int_cmp-IsAntisymmetric, slice_cmp-IsAntisymmetric}
use Rattle.std.proofs.Common.{refl, sym, ◌∙◌, ap}
use Rattle.std.proofs.lemmas.Bool.{true≢false}
use Rattle.au_value.specs.declared.value.Value.{Value}
use Rattle.au_value.specs.declared.value.Value.TheVariants.{Int, Text, Flag}
use Rattle.au_value.specs.Order.{order, kind_of}
use Rattle.au_algebra.specs.Lists.{same_row}
use Rattle.au_codes.specs.Codes.{Code, KeepsOrder, code, coded_row, flag, Knows, KnowsRow}
use Rattle.au_codes.specs.CellMeaning.{same_cells}

flags_order : (p q : Bool) → int_cmp (flag p) (flag q) ≡ order (Flag p) (Flag q)
flags_order true true = refl
flags_order true false = refl
flags_order false true = refl
flags_order false false = refl

module _ (c : Code) (keeps : KeepsOrder c) where
  -- a lower text has a lower number
  lower_by : (r : Ordering) (s t : List ℕ) → c.knows s ≡ true → c.knows t ≡ true → slice_cmp nat_cmp s t ≡ Less → int_cmp (c.number s) (c.number t) ≡ r → is_le r ≡ true → r ≡ Less
  lower_by Less s t h g under is below = refl
  lower_by Equal s t h g under is below =
      let same : s ≡ t = keeps.injective s t h g (int_cmp-IsAntisymmetric (c.number s) (c.number t) is) in
      let tied : slice_cmp nat_cmp s t ≡ Equal = ap (slice_cmp nat_cmp s) (sym same) ∙ tied_itself nat_list_cmp_total s in
      absurd (true≢false (sym (ap is_eq tied) ∙ ap is_eq under))
  lower_by Greater s t h g under is below = absurd (true≢false (sym below))

  lower : (s t : List ℕ) → c.knows s ≡ true → c.knows t ≡ true → slice_cmp nat_cmp s t ≡ Less → int_cmp (c.number s) (c.number t) ≡ Less
  lower s t h g under = lower_by (int_cmp (c.number s) (c.number t)) s t h g under refl (keeps.monotone s t h g (ap is_le under))

  -- texts are ordered as their numbers are
  texts_by : (r : Ordering) (s t : List ℕ) → slice_cmp nat_cmp s t ≡ r → c.knows s ≡ true → c.knows t ≡ true → int_cmp (c.number s) (c.number t) ≡ r
  texts_by Less s t is h g = lower s t h g is
  texts_by Equal s t is h g =
      let same : s ≡ t = slice_cmp-IsAntisymmetric nat_cmp-IsAntisymmetric s t is in
      ap (λ u. int_cmp (c.number u) (c.number t)) same ∙ tied_itself int_cmp_total (c.number t)
  texts_by Greater s t is h g =
      let turned : slice_cmp nat_cmp t s ≡ Less = nat_list_cmp_total.antisymm t s ∙ ap ordering_reverse is in
      int_cmp_total.antisymm (c.number s) (c.number t) ∙ ap ordering_reverse (lower t s g h turned)

  -- values of one kind
  pub values_order : (u v : Value) → kind_of u ≡ kind_of v → Knows c u → Knows c v → int_cmp (code c u) (code c v) ≡ order u v
  values_order (Int m) (Int n) same h g = refl
  values_order (Text s) (Text t) same h g = texts_by (slice_cmp nat_cmp s t) s t refl h g
  values_order (Flag p) (Flag q) same h g = flags_order p q
  values_order (Int m) (Text t) same h g = cc
  values_order (Int m) (Flag q) same h g = cc
  values_order (Text s) (Int n) same h g = cc
  values_order (Text s) (Flag q) same h g = cc
  values_order (Flag p) (Int n) same h g = cc
  values_order (Flag p) (Text t) same h g = cc

  -- rows of the same kinds
  pub rows_order : (a b : List Value) → map kind_of a ≡ map kind_of b → KnowsRow c a → KnowsRow c b → slice_cmp int_cmp (coded_row c a) (coded_row c b) ≡ slice_cmp order a b
  rows_order [] [] same h g = refl
  rows_order [] (v ∷ b) same h g = refl
  rows_order (u ∷ a) [] same h g = refl
  rows_order (u ∷ a) (v ∷ b) same h g =
      let first : kind_of u ≡ kind_of v = cc in
      let others : map kind_of a ≡ map kind_of b = cc in
      λ i. ordering_then (values_order u v first h.0 g.0 i) (rows_order a b others h.1 g.1 i)

  -- and whether they are equal
  pub rows_equal : (a b : List Value) → map kind_of a ≡ map kind_of b → KnowsRow c a → KnowsRow c b → same_cells (coded_row c a) (coded_row c b) ≡ same_row a b
  rows_equal [] [] same h g = refl
  rows_equal [] (v ∷ b) same h g = refl
  rows_equal (u ∷ a) [] same h g = refl
  rows_equal (u ∷ a) (v ∷ b) same h g =
      let first : kind_of u ≡ kind_of v = cc in
      let others : map kind_of a ≡ map kind_of b = cc in
      let here = ap is_eq (values_order u v first h.0 g.0) in
      let there = rows_equal a b others h.1 g.1 in
      λ i. here i && there i
