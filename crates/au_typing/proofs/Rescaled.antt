-- The kinds of numbers that are brought to one scale, and of the values of columns.
use Rattle.std.specs.Prelude.{◌≡◌, ℕ, zero, suc, ◌-◌, ◌≤◌, max, nat_lt, Bool, true, false, Option, Some, None, List, is_some, option_map, if◌then◌else◌}
use Rattle.std.proofs.Common.{arith, refl, sym, ◌∙◌, ap}
use Rattle.std.proofs.lemmas.Bool.{false≢true}
use Rattle.std.proofs.lemmas.Bool.Decides.{nat_tests}
use Rattle.au_value.specs.declared.kinds.Kind.{Kind}
use Rattle.au_value.specs.declared.kinds.Kind.TheVariants.{Int, Dec, Text, Flag}
use Rattle.au_value.specs.KindLaws.{kind_eq_is}
use Rattle.au_value.specs.Order.{data_kind, kind_eq}
use Rattle.au_expr.specs.Terms.{Term}
use Rattle.au_expr.specs.Kinds.{agreed, is_kind, kind_if, kind_in, only_if}
use Rattle.au_typing.proofs.Found.{known, IsKnown}
use Rattle.au_typing.specs.Scales.{common, common_of, number_if, number_kind, numbers_kind, rescaled, scale, scale_of, shifted, sum_kind}

-- the kind of the values of a column of a kind
abbrev pub data_of : Option Kind → Option Kind
data_of k = option_map data_kind k

pub data_known : (k : Option Kind) → IsKnown k → IsKnown (data_of k)
data_known None h = absurd (false≢true h)
data_known (Some k) h = refl

pub known_data : (k : Option Kind) → known (data_of k) ≡ data_kind (known k)
known_data None = refl
known_data (Some k) = refl

-- a number kind is one of whole numbers, with 9 digits behind the point at most
number_data : (n : ℕ) (t : Kind) → number_kind n ≡ Some t → data_kind t ≡ Int
number_data zero t h = let e : Int ≡ t = cc in sym (ap data_kind e)
number_data (suc n) t h = by_test (nat_lt n 9) h
  where
    by_test : (b : Bool) → kind_if b (Dec (suc n)) ≡ Some t → data_kind t ≡ Int
    by_test true h = let e : Dec (suc n) ≡ t = cc in sym (ap data_kind e)
    by_test false h = cc

number_few : (n : ℕ) → scale (number_kind n) ≤ 9
number_few zero = omega arith
number_few (suc n) = by_test (nat_lt n 9) refl
  where
    by_test : (b : Bool) → nat_lt n 9 ≡ b → scale (kind_if b (Dec (suc n))) ≤ 9
    by_test true is = grind (arith, nat_tests)
    by_test false is = omega arith

-- what has a scale is a number
scaled_data : (k : Option Kind) (a : ℕ) → scale_of k ≡ Some a → data_of k ≡ Some Int
scaled_data None a h = cc
scaled_data (Some Int) a h = refl
scaled_data (Some (Dec n)) a h = refl
scaled_data (Some Text) a h = cc
scaled_data (Some Flag) a h = cc

-- two numbers, and the kind that they make
pub record AreNumbers (j k : Option Kind) (t : Kind) : Type 0 where
  pub left : data_of j ≡ Some Int
  pub right : data_of k ≡ Some Int
  pub both : data_kind t ≡ Int

pub numbers_data : (make : ℕ → ℕ → ℕ) (j k : Option Kind) (t : Kind) → numbers_kind make (scale_of j) (scale_of k) ≡ Some t → AreNumbers j k t
numbers_data make j k t h = by_scales (scale_of j) (scale_of k) refl refl h
  where
    by_scales : (x y : Option ℕ) → scale_of j ≡ x → scale_of k ≡ y → numbers_kind make x y ≡ Some t → AreNumbers j k t
    by_scales None y p q h = cc
    by_scales (Some a) None p q h = cc
    by_scales (Some a) (Some b) p q h = record { left = scaled_data j a p; right = scaled_data k b q; both = number_data (make a b) t h }

-- a number keeps its kind
pub itself_number : (k : Option Kind) → is_some (number_if k) ≡ true → (data_of k ≡ Some Int) × (data_of (number_if k) ≡ Some Int)
itself_number None h = absurd (false≢true h)
itself_number (Some Int) h = (refl, refl)
itself_number (Some (Dec n)) h = (refl, refl)
itself_number (Some Text) h = absurd (false≢true h)
itself_number (Some Flag) h = absurd (false≢true h)

-- both of two kinds have the values of the kind that they are brought to
abbrev pub SameData : Option Kind → Option Kind → Kind → Type 0
SameData j k t = (data_of j ≡ Some (data_kind t)) × (data_of k ≡ Some (data_kind t))

agreed_data : (j k : Option Kind) (t : Kind) → agreed j k ≡ Some t → SameData j k t
agreed_data None k t h = cc
agreed_data (Some j) None t h = cc
agreed_data (Some j) (Some k) t h = by_test (kind_eq j k) refl h
  where
    by_test : (b : Bool) → kind_eq j k ≡ b → (if b then Some j else None) ≡ Some t → SameData (Some j) (Some k) t
    by_test true e h = let is : j ≡ t = cc in (ap (λ m. Some (data_kind m)) is, ap (λ m. Some (data_kind m)) (sym (kind_eq_is j k e) ∙ is))
    by_test false e h = cc

pub common_data : (j k : Option Kind) (t : Kind) → common j k ≡ Some t → SameData j k t
common_data j k t h = by_scales (scale_of j) (scale_of k) refl refl h
  where
    by_scales : (x y : Option ℕ) → scale_of j ≡ x → scale_of k ≡ y → common_of x y (agreed j k) ≡ Some t → SameData j k t
    by_scales None None p q h = agreed_data j k t h
    by_scales None (Some b) p q h = cc
    by_scales (Some a) None p q h = cc
    by_scales (Some a) (Some b) p q h =
        let is : Int ≡ data_kind t = sym (number_data (max a b) t h) in (scaled_data j a p ∙ ap Some is, scaled_data k b q ∙ ap Some is)

-- the kind of a sum is the one that both are brought to
pub sum_common : (j k : Option Kind) (t : Kind) → sum_kind j k ≡ Some t → common j k ≡ Some t
sum_common j k t h = by_scales (scale_of j) (scale_of k) h
  where
    by_scales : (x y : Option ℕ) → numbers_kind max x y ≡ Some t → common_of x y (agreed j k) ≡ Some t
    by_scales None y h = cc
    by_scales (Some a) None h = cc
    by_scales (Some a) (Some b) h = h

-- the test of a flag
pub flag_data : (k : Option Kind) → is_kind Flag (data_of k) ≡ is_kind Flag k
flag_data None = refl
flag_data (Some Int) = refl
flag_data (Some (Dec n)) = refl
flag_data (Some Text) = refl
flag_data (Some Flag) = refl

pub flag_if : (k : Option Kind) → kind_if (is_kind Flag (data_of k)) Flag ≡ data_of (kind_if (is_kind Flag k) Flag)
flag_if None = refl
flag_if (Some Int) = refl
flag_if (Some (Dec n)) = refl
flag_if (Some Text) = refl
flag_if (Some Flag) = refl

-- the kind that two are brought to has 9 digits behind the point at most
agreed_few : (j k : Option Kind) → scale_of j ≡ None → scale (agreed j k) ≤ 9
agreed_few None k h = omega arith
agreed_few (Some Int) k h = cc
agreed_few (Some (Dec n)) k h = cc
agreed_few (Some Text) k h = by_test (is_kind Text k)
  where
    by_test : (b : Bool) → scale (if b then Some Text else None) ≤ 9
    by_test true = omega arith
    by_test false = omega arith
agreed_few (Some Flag) k h = by_test (is_kind Flag k)
  where
    by_test : (b : Bool) → scale (if b then Some Flag else None) ≤ 9
    by_test true = omega arith
    by_test false = omega arith

pub common_few : (j k : Option Kind) → scale (common j k) ≤ 9
common_few j k = by_scales (scale_of j) (scale_of k) refl refl
  where
    by_scales : (x y : Option ℕ) → scale_of j ≡ x → scale_of k ≡ y → scale (common_of x y (agreed j k)) ≤ 9
    by_scales None None p q = agreed_few j k p
    by_scales None (Some b) p q = omega arith
    by_scales (Some a) None p q = omega arith
    by_scales (Some a) (Some b) p q = number_few (max a b)

-- so has that of the branches of a CASE
pub choice_few : (b : Bool) (j k : Option Kind) → scale (only_if b (common j k)) ≤ 9
choice_few true j k = common_few j k
choice_few false j k = omega arith

-- an expression that is brought to another scale keeps the kind of its values
shifted_kind : (ks : List Kind) (n : ℕ) (e : Term) → kind_in ks e ≡ Some Int → kind_in ks (shifted n e) ≡ Some Int
shifted_kind ks zero e h = h
shifted_kind ks (suc n) e h = rw h refl

no_shift : (ks : List Kind) (n : ℕ) (e : Term) → kind_in ks (shifted (0 - n) e) ≡ kind_in ks e
no_shift ks n e = let none : 0 - n ≡ 0 = omega arith in rw none refl

pub rescaled_kind : (ks : List Kind) (own : Option Kind) (to : Kind) (e : Term) → kind_in ks e ≡ Some (data_kind to) → kind_in ks (rescaled own (Some to) e) ≡ Some (data_kind to)
rescaled_kind ks own Int e h = shifted_kind ks _ e h
rescaled_kind ks own (Dec n) e h = shifted_kind ks _ e h
rescaled_kind ks own Text e h = no_shift ks (scale own) e ∙ h
rescaled_kind ks own Flag e h = no_shift ks (scale own) e ∙ h

-- without another kind, and with its own, it stays as it is
pub unscaled : (own : Option Kind) (e : Term) → rescaled own None e ≡ e
unscaled own e = let none : 0 - scale own ≡ 0 = omega arith in rw none refl

pub own_scale : (own : Option Kind) (e : Term) → rescaled own own e ≡ e
own_scale own e = let none : scale own - scale own ≡ 0 = omega arith in rw none refl
