-- The derived equality of values is that of their order.
use Rattle.std.specs.Prelude.{◌≡◌, true, false}
use Rattle.std.proofs.Common.{refl, sym}
use Rattle.std.proofs.lemmas.Map.Text.{is_eq-slice_cmp}
use Rattle.au_value.specs.Order.{equal}
use Rattle.au_value.specs.contracts.value.ValuePartialEq.TheImpl.{ghosts}
use Rattle.au_value.specs.declared.value.Value.{Value}
use Rattle.au_value.specs.declared.value.Value.TheVariants.{Int, Text, Flag}

pub value_eq : (a b : Value) → ghosts.eq a b ≡ equal a b
value_eq (Int m) (Int n) = refl
value_eq (Int m) (Text t) = refl
value_eq (Int m) (Flag q) = refl
value_eq (Text s) (Int n) = refl
value_eq (Text s) (Text t) = sym (is_eq-slice_cmp s t)
value_eq (Text s) (Flag q) = refl
value_eq (Flag p) (Int n) = refl
value_eq (Flag p) (Text t) = refl
value_eq (Flag true) (Flag true) = refl
value_eq (Flag true) (Flag false) = refl
value_eq (Flag false) (Flag true) = refl
value_eq (Flag false) (Flag false) = refl
