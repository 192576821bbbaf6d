-- Lists by the groups' places, as loops change them, and when sums fit.
use Rattle.std.specs.Prelude.{◌≡◌, ◌<◌, ◌≤◌, ◌+◌, ◌-◌, ◌^◌, ℕ, zero, suc, Bool, true, false, List, [], ◌∷◌, ◌++◌, ℤ, pos, drop, get_or, length, set, Result, Ok, Err, IsErr, IsErrAnd, MatchResult}
use Rattle.std.proofs.Common.{refl, sym, ap, ◌∙◌, arith, add-one, drop-cons, inl, inr}
use Rattle.std.proofs.lemmas.Bool.{and_from, and_parts, false≢true, le-leb, leb-true}
use Rattle.std.proofs.lemmas.Bool.Decides.{leb_tells}
use Rattle.au_value.specs.Adding.{Sum, with_term}
use Rattle.au_value.specs.Joining.{joined_sum}
use Rattle.au_value.specs.Numeral.{is_i128}
use Rattle.au_expr.specs.Figures.{fit}
use Rattle.au_expr.specs.declared.fault.EvalFault.{EvalFault}
use Rattle.au_expr.specs.declared.fault.EvalFault.TheVariants as fault
use Rattle.au_folds.specs.Kept.{magnitudes_of}
use Rattle.au_folds.specs.Puts.{put_all, put_at}

pub not_true : (b : Bool) → (b ≡ true → ⊥) → b ≡ false
not_true true h = absurd (h refl)
not_true false h = refl

-- what is below a bound that it isn't past
pub below_if : (m n : ℕ) → (n ≤ m → false ≡ true) → m < n
below_if m n h = elim (leb_tells n m) [
  | inl past ↦ absurd (false≢true (h past.1))
  | inr below ↦ below.1
]

-- a fault of a call, where the numbers leave the range
pub failed : {A : Type 0} (r : Result A EvalFault) (P : A → Type 0) (within : Bool) → IsErr r → within ≡ false → MatchResult r P (λ e. e ≡ fault.Overflow → within ≡ false)
failed (Ok v) P within is h = absurd (false≢true is)
failed (Err e) P within is h = λ o. h

-- a fault that is handed on
pub handed : {A : Type 0} (r : Result A EvalFault) (P : A → Type 0) (f : EvalFault) (within : Bool) → IsErrAnd r (λ e. e ≡ f) → (f ≡ fault.Overflow → within ≡ false) → MatchResult r P (λ e. e ≡ fault.Overflow → within ≡ false)
handed (Ok v) P f within is over = absurd is
handed (Err e) P f within is over = λ o. over (sym is ∙ o)

module _ {A S : Type 0} (first : A → S) (more : S → A → S) where
  -- a new item behind the others
  pub new_put : (ss : List S) (place : ℕ) (x : A) → length ss ≤ place → ss ++ first x ∷ [] ≡ put_at first more ss place x
  new_put [] place x past = refl
  new_put (s ∷ ss) zero x past = absurd (omega arith)
  new_put (s ∷ ss) (suc place) x past = ap (λ ts. s ∷ ts) (new_put ss place x (omega arith))

  -- an item that is changed
  pub known_put : (ss : List S) (place : ℕ) (s : S) (x : A) → place < length ss → s ≡ get_or ss place s → set ss place (more s x) ≡ put_at first more ss place x
  known_put [] place s x below is = absurd (omega arith)
  known_put (t ∷ ss) zero s x below is = ap (λ u. more u x ∷ ss) is
  known_put (t ∷ ss) (suc place) s x below is = ap (λ ts. t ∷ ts) (known_put ss place s x (omega arith) is)

  -- the next of several things
  pub next_put : (ss : List S) (places : List ℕ) (xs : List A) (i : ℕ) (d : A) → i < length places → i < length xs
      → put_all first more (put_at first more ss (get_or places i 0) (get_or xs i d)) (drop (i + 1) places) (drop (i + 1) xs) ≡ put_all first more ss (drop i places) (drop i xs)
  next_put ss places xs i d below within =
      rw (drop-cons places i 0, drop-cons xs i d, add-one) refl

-- ---- magnitudes

pub small : (n : ℕ) → n < 2 ^ 127 → is_i128 (pos n) ≡ true
small n h = le-leb n (2 ^ 127 - 1) (let e : n ≤ 2 ^ 127 - 1 = omega (arith, h) in e)

within : (n : ℕ) → is_i128 (pos n) ≡ true → n ≤ 2 ^ 127 - 1
within n h = leb-true n (2 ^ 127 - 1) h

pub fewer : (m n : ℕ) → m ≤ n → is_i128 (pos n) ≡ true → is_i128 (pos m) ≡ true
fewer m n below h = let wide : n ≤ 2 ^ 127 - 1 = within n h in small m (omega (arith, wide, below))

large : (n : ℕ) → 2 ^ 127 ≤ n → is_i128 (pos n) ≡ true → ⊥
large n h fits = let wide : n ≤ 2 ^ 127 - 1 = within n fits in omega (arith, wide, h)

-- sums without a term fit where those with it do
module _ {A : Type 0} (first : A → Sum) (more : Sum → A → Sum) (grows : (s : Sum) (x : A) → s.magnitude ≤ (more s x).magnitude) where
  fewer_terms : (ss : List Sum) (place : ℕ) (x : A) → fit (magnitudes_of (put_at first more ss place x)) ≡ true → fit (magnitudes_of ss) ≡ true
  fewer_terms [] place x h = refl
  fewer_terms (s ∷ ss) zero x h = let p = and_parts _ _ h in and_from _ _ (fewer s.magnitude (more s x).magnitude (grows s x) p.0) p.1
  fewer_terms (s ∷ ss) (suc place) x h = let p = and_parts _ _ h in and_from _ _ p.0 (fewer_terms ss place x p.1)

  pub fewer_all : (ss : List Sum) (places : List ℕ) (xs : List A) → fit (magnitudes_of (put_all first more ss places xs)) ≡ true → fit (magnitudes_of ss) ≡ true
  fewer_all ss [] xs h = h
  fewer_all ss (place ∷ places) [] h = h
  fewer_all ss (place ∷ places) (x ∷ xs) h = fewer_terms ss place x (fewer_all (put_at first more ss place x) places xs h)

  pub some_leaves : (ss : List Sum) (places : List ℕ) (xs : List A) → fit (magnitudes_of ss) ≡ false → fit (magnitudes_of (put_all first more ss places xs)) ≡ false
  some_leaves ss places xs h = not_true _ (λ fits. let t : true ≡ false = sym (fewer_all ss places xs fits) ∙ h in cc)

pub term_grows : (s : Sum) (z : ℤ) → s.magnitude ≤ (with_term s z).magnitude
term_grows s z = omega arith

pub sum_grows : (s t : Sum) → s.magnitude ≤ (joined_sum s t).magnitude
sum_grows s t = omega arith

-- a new sum, and one in the place of another
pub new_fits : (ss : List Sum) (t : Sum) → fit (magnitudes_of ss) ≡ true → t.magnitude < 2 ^ 127 → fit (magnitudes_of (ss ++ t ∷ [])) ≡ true
new_fits [] t h below = and_from _ _ (small t.magnitude below) refl
new_fits (s ∷ ss) t h below = let p = and_parts _ _ h in and_from _ _ p.0 (new_fits ss t p.1 below)

pub new_leaves : (ss : List Sum) (t : Sum) → 2 ^ 127 ≤ t.magnitude → fit (magnitudes_of (ss ++ t ∷ [])) ≡ false
new_leaves ss t above = not_true _ (never ss)
  where
    never : (ts : List Sum) → fit (magnitudes_of (ts ++ t ∷ [])) ≡ true → ⊥
    never [] h = large t.magnitude above (and_parts _ _ h).0
    never (s ∷ ts) h = never ts (and_parts _ _ h).1

pub known_fits : (ss : List Sum) (place : ℕ) (t : Sum) → place < length ss → fit (magnitudes_of ss) ≡ true → t.magnitude < 2 ^ 127 → fit (magnitudes_of (set ss place t)) ≡ true
known_fits [] place t below h less = absurd (omega arith)
known_fits (s ∷ ss) zero t below h less = and_from _ _ (small t.magnitude less) (and_parts _ _ h).1
known_fits (s ∷ ss) (suc place) t below h less = let p = and_parts _ _ h in and_from _ _ p.0 (known_fits ss place t (omega arith) p.1 less)

pub known_leaves : (ss : List Sum) (place : ℕ) (t : Sum) → place < length ss → 2 ^ 127 ≤ t.magnitude → fit (magnitudes_of (set ss place t)) ≡ false
known_leaves ss place t below above = not_true _ (never ss place below)
  where
    never : (ts : List Sum) (p : ℕ) → p < length ts → fit (magnitudes_of (set ts p t)) ≡ true → ⊥
    never [] p l h = omega arith
    never (s ∷ ts) zero l h = large t.magnitude above (and_parts _ _ h).0
    never (s ∷ ts) (suc p) l h = never ts p (omega arith) (and_parts _ _ h).1
