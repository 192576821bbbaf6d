-- When a list of numbers fits 128 bits.
use Rattle.std.specs.Prelude.{◌≡◌, Bool, true, false, if◌then◌else◌, List, [], ◌∷◌, ◌++◌, ℤ, Result, Ok, Err, OkIff, IsTrue, MatchResult}
use Rattle.std.proofs.Common.{refl, sym, ◌∙◌}
use Rattle.std.proofs.lemmas.Bool.{and_parts, and_from, cond_both}
use Rattle.std.proofs.lemmas.List.Folds.{list_all-append}
use Rattle.au_value.specs.Numeral.{is_i128}
use Rattle.au_value.specs.declared.faults.Overflow.{Overflow}
use Rattle.au_value.specs.declared.value.Value.TheVariants.{Int}
use Rattle.au_value.specs.Order.{at_most}
use Rattle.au_value.specs.declared.value.Value.{Value}
use Rattle.au_value.specs.Ranges.{range, lesser, greater}
use Rattle.au_expr.specs.declared.ends.Ends.{Ends}
use Rattle.au_expr.specs.Ends as ints
use Rattle.au_expr.specs.Ends.{int_range, all_three, extremes}
use Rattle.au_expr.specs.Numbers.{number_if_any}
use Rattle.au_expr.specs.OnRanges.{least_of_four, greatest_of_four}
use Rattle.au_expr.specs.Figures.{Fit, fit}

-- two lists fit where both do
pub fit_both : (xs ys : List ℤ) → Fit xs → Fit ys → Fit (xs ++ ys)
fit_both xs ys p q = list_all-append is_i128 xs ys ∙ and_from _ _ p q

-- and then both do
pub fit_parts : (xs ys : List ℤ) → Fit (xs ++ ys) → Fit xs × Fit ys
fit_parts xs ys p = and_parts (fit xs) (fit ys) (sym (list_all-append is_i128 xs ys) ∙ p)

-- a list with a number that does not fit
pub unfit : (before : List ℤ) (x : ℤ) (after : List ℤ) → ¬ (IsTrue (is_i128 x)) → ¬ (Fit (before ++ (x ∷ after)))
unfit before x after h p = h (and_parts _ _ (fit_parts before (x ∷ after) p).1).0

-- a list of one more number
pub fit_more : (x : ℤ) (xs : List ℤ) → IsTrue (is_i128 x) → Fit xs → Fit (x ∷ xs)
fit_more x xs p q = and_from _ _ p q

-- three numbers that are gathered where each fits
pub three_fit :
    (x y z : ℤ) (p q r : Result ℤ Overflow) (e : Result Ends Overflow) →
    OkIff p (IsTrue (is_i128 x)) x → OkIff q (IsTrue (is_i128 y)) y → OkIff r (IsTrue (is_i128 z)) z →
    e ≡ all_three p q r →
    MatchResult e (λ n. Fit (x ∷ y ∷ z ∷ []) × (int_range n ≡ range (Int x) (Int y) (Int z))) (λ _. ¬ (Fit (x ∷ y ∷ z ∷ [])))
three_fit x y z (Err f) q r e a b c h = rw h (unfit [] x (y ∷ z ∷ []) a)
three_fit x y z (Ok l) (Err f) r e a b c h = rw h (unfit (x ∷ []) y (z ∷ []) b)
three_fit x y z (Ok l) (Ok s) (Err f) e a b c h = rw h (unfit (x ∷ y ∷ []) z [] c)
three_fit x y z (Ok l) (Ok s) (Ok t) e a b c h =
    rw h (fit_more x (y ∷ z ∷ []) a.0 (fit_more y (z ∷ []) b.0 (fit_more z [] c.0 refl)), λ i. range (Int (a.1 i)) (Int (b.1 i)) (Int (c.1 i)))

-- the lesser and the greater of two values that fit
pub fit_lesser : (a b : Value) → Fit (number_if_any a) → Fit (number_if_any b) → Fit (number_if_any (lesser a b))
fit_lesser a b p q = cond_both (at_most a b) a b (λ v. Fit (number_if_any v)) (λ _. p) (λ _. q)

pub fit_greater : (a b : Value) → Fit (number_if_any a) → Fit (number_if_any b) → Fit (number_if_any (greater a b))
fit_greater a b p q = cond_both (at_most a b) b a (λ v. Fit (number_if_any v)) (λ _. q) (λ _. p)

either_int : (t : Bool) (a b : ℤ) → Int (if t then a else b) ≡ (if t then Int a else Int b)
either_int true a b = refl
either_int false a b = refl

least_is : (a b c d : ℤ) → Int (ints.lesser_int (ints.lesser_int a b) (ints.lesser_int c d)) ≡ least_of_four (Int a) (Int b) (Int c) (Int d)
least_is a b c d =
    either_int (at_most (Int (ints.lesser_int a b)) (Int (ints.lesser_int c d))) _ _
    ∙ (λ i. lesser (either_int (at_most (Int a) (Int b)) a b i) (either_int (at_most (Int c) (Int d)) c d i))

greatest_is : (a b c d : ℤ) → Int (ints.greater_int (ints.greater_int a b) (ints.greater_int c d)) ≡ greatest_of_four (Int a) (Int b) (Int c) (Int d)
greatest_is a b c d =
    either_int (at_most (Int (ints.greater_int a b)) (Int (ints.greater_int c d))) _ _
    ∙ (λ i. greater (either_int (at_most (Int a) (Int b)) b a i) (either_int (at_most (Int c) (Int d)) d c i))

-- four products, their extremes and a guess, where each fits
module _ (w x y z g : ℤ) where
  abbrev pub least : Value
  least = least_of_four (Int w) (Int x) (Int y) (Int z)

  abbrev pub greatest : Value
  greatest = greatest_of_four (Int w) (Int x) (Int y) (Int z)

  abbrev pub three : List ℤ
  three = number_if_any least ++ ((g ∷ []) ++ number_if_any greatest)

  abbrev pub five : List ℤ
  five = (w ∷ x ∷ y ∷ z ∷ []) ++ three

  alone : (n : ℤ) → IsTrue (is_i128 n) → Fit (n ∷ [])
  alone n p = fit_more n [] p refl

  five_fit : IsTrue (is_i128 w) → IsTrue (is_i128 x) → IsTrue (is_i128 y) → IsTrue (is_i128 z) → IsTrue (is_i128 g) → Fit five
  five_fit a b c d e =
      fit_both (w ∷ x ∷ y ∷ z ∷ []) three
      (fit_more w (x ∷ y ∷ z ∷ []) a (fit_more x (y ∷ z ∷ []) b (fit_more y (z ∷ []) c (alone z d))))
      (fit_both (number_if_any least) ((g ∷ []) ++ number_if_any greatest)
      (fit_lesser (lesser (Int w) (Int x)) (lesser (Int y) (Int z))
      (fit_lesser (Int w) (Int x) (alone w a) (alone x b)) (fit_lesser (Int y) (Int z) (alone y c) (alone z d)))
      (fit_both (g ∷ []) (number_if_any greatest) (alone g e)
      (fit_greater (greater (Int w) (Int x)) (greater (Int y) (Int z))
      (fit_greater (Int w) (Int x) (alone w a) (alone x b)) (fit_greater (Int y) (Int z) (alone y c) (alone z d)))))

  pub extremes_fit :
      (p q r s t : Result ℤ Overflow) (e : Result Ends Overflow) →
      OkIff p (IsTrue (is_i128 w)) w → OkIff q (IsTrue (is_i128 x)) x → OkIff r (IsTrue (is_i128 y)) y →
      OkIff s (IsTrue (is_i128 z)) z → OkIff t (IsTrue (is_i128 g)) g →
      e ≡ extremes p q r s t →
      MatchResult e (λ n. Fit five × (int_range n ≡ range least (Int g) greatest)) (λ _. ¬ (Fit five))
  extremes_fit (Err f) q r s t e a b c d k h = rw h (unfit [] w (x ∷ y ∷ z ∷ three) a)
  extremes_fit (Ok i) (Err f) r s t e a b c d k h = rw h (unfit (w ∷ []) x (y ∷ z ∷ three) b)
  extremes_fit (Ok i) (Ok j) (Err f) s t e a b c d k h = rw h (unfit (w ∷ x ∷ []) y (z ∷ three) c)
  extremes_fit (Ok i) (Ok j) (Ok l) (Err f) t e a b c d k h = rw h (unfit (w ∷ x ∷ y ∷ []) z three d)
  extremes_fit (Ok i) (Ok j) (Ok l) (Ok m) (Err f) e a b c d k h = rw h (unfit (w ∷ x ∷ y ∷ z ∷ number_if_any least) g (number_if_any greatest) k)
  extremes_fit (Ok i) (Ok j) (Ok l) (Ok m) (Ok n) e a b c d k h =
      rw h (
        five_fit a.0 b.0 c.0 d.0 k.0,
        (λ o. range (least_is i j l m o) (Int (k.1 o)) (greatest_is i j l m o))
            ∙ (λ o. range (least_of_four (Int (a.1 o)) (Int (b.1 o)) (Int (c.1 o)) (Int (d.1 o))) (Int g) (greatest_of_four (Int (a.1 o)) (Int (b.1 o)) (Int (c.1 o)) (Int (d.1 o)))),
      )
