-- Numbers of different scales. A fixed-point number is a whole number of units of 10^-scale, so that one of lesser
-- scale is multiplied by a power of ten where two are added, subtracted, compared or chosen from.
use Rattle.std.specs.Prelude.{ℕ, zero, suc, ◌+◌, ◌-◌, ◌^◌, max, nat_lt, Option, Some, None, is_some, unwrap_or, pos}
use Rattle.au_value.specs.declared.kinds.Kind.{Kind}
use Rattle.au_value.specs.declared.kinds.Kind.TheVariants.{Int, Dec, Text, Flag}
use Rattle.au_value.specs.declared.value.Value.TheVariants as value
use Rattle.au_expr.specs.Terms.{Term, Literal, Multiply}
use Rattle.au_expr.specs.Kinds.{agreed, kind_if, only_if}

-- how many digits stand behind the point of the numbers of a number kind
abbrev pub scale_of : Option Kind → Option ℕ
scale_of None = None
scale_of (Some Int) = Some 0
scale_of (Some (Dec digits)) = Some digits
scale_of (Some Text) = None
scale_of (Some Flag) = None

abbrev pub scale : Option Kind → ℕ
scale k = unwrap_or (scale_of k) 0

-- the kind of the numbers of a scale: none exceeds 9
abbrev pub number_kind : ℕ → Option Kind
number_kind zero = Some Int
number_kind (suc n) = kind_if (nat_lt n 9) (Dec (suc n))

-- the number kind that two scales make
abbrev pub numbers_kind : (ℕ → ℕ → ℕ) → Option ℕ → Option ℕ → Option Kind
numbers_kind make None other = None
numbers_kind make (Some a) None = None
numbers_kind make (Some a) (Some b) = number_kind (make a b)

-- The kind of a sum has the greater scale, and that of a product both scales.
abbrev pub sum_kind : Option Kind → Option Kind → Option Kind
sum_kind j k = numbers_kind max (scale_of j) (scale_of k)

abbrev pub product_kind : Option Kind → Option Kind → Option Kind
product_kind j k = numbers_kind (λ a b. a + b) (scale_of j) (scale_of k)

-- the kind of a number
abbrev pub number_if : Option Kind → Option Kind
number_if k = only_if (is_some (scale_of k)) k

-- The kind that two kinds are brought to: that of the sum of two numbers, or the one other kind that both are.
abbrev pub common_of : Option ℕ → Option ℕ → Option Kind → Option Kind
common_of None None same = same
common_of None (Some b) same = None
common_of (Some a) None same = None
common_of (Some a) (Some b) same = number_kind (max a b)

abbrev pub common : Option Kind → Option Kind → Option Kind
common j k = common_of (scale_of j) (scale_of k) (agreed j k)

-- an expression with so many more digits behind the point
abbrev pub shifted : ℕ → Term → Term
shifted zero e = e
shifted (suc n) e = Multiply e (Literal (value.Int (pos (10 ^ suc n))))

-- an expression of one kind, brought to another
abbrev pub rescaled : Option Kind → Option Kind → Term → Term
rescaled own to e = shifted (scale to - scale own) e
