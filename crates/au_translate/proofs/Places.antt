-- One place further in a list.
use Rattle.std.specs.Prelude.{◌≡◌, ℕ, ◌+◌, List, [], ◌∷◌, ◌++◌, drop, fold, map, slice_get, Some}
use Rattle.std.specs.List.{AllByRecursion}
use Rattle.std.proofs.Common.{◌∙◌, ap, append_assoc, subst, sym}
use Rattle.std.proofs.lemmas.List.{drop_more}
use Rattle.std.proofs.lemmas.Option.{get_or_from_slice_get, slice_get_within}

-- what is made so far, with a part of what is left
pub next_part : {R : Type 0} (done part later left made all : List R) → made ≡ done ++ part → left ≡ part ++ later → done ++ left ≡ all → made ++ later ≡ all
next_part done part later left made all e f h =
    ap (λ rs. rs ++ later) e ∙ append_assoc done part later ∙ ap (λ rs. done ++ rs) (sym f) ∙ h

module _ {X : Type 0} (xs : List X) (i : ℕ) (x : X) (at : slice_get xs i ≡ Some x) where
  -- the item at the place, and those behind it
  pub left_at : drop i xs ≡ x ∷ drop (i + 1) xs
  left_at = drop_more xs i x (slice_get_within xs i x at) ∙ ap (λ y. y ∷ drop (i + 1) xs) (get_or_from_slice_get xs i x x at)

  -- a fact of each item
  pub all_left : (P : X → Type 0) → P x → (AllByRecursion P (drop i xs) → AllByRecursion P xs) → AllByRecursion P (drop (i + 1) xs) → AllByRecursion P xs
  all_left P here h rest = h (subst (AllByRecursion P) (sym left_at) (here, rest))

  -- rows that are made of each item
  pub next_rows : {R : Type 0} (F : List X → List R) (apart : (ys zs : List X) → F (ys ++ zs) ≡ F ys ++ F zs) (done made all : List R) → made ≡ done ++ F (x ∷ []) → done ++ F (drop i xs) ≡ all → made ++ F (drop (i + 1) xs) ≡ all
  next_rows F apart done made all e h =
      next_part done (F (x ∷ [])) (F (drop (i + 1) xs)) (F (drop i xs)) made all e (ap F left_at ∙ apart (x ∷ []) (drop (i + 1) xs)) h

  -- a number of each item
  pub next_fold : (op : ℕ → ℕ → ℕ) (f : X → ℕ) (best found all : ℕ) → found ≡ op best (f x) → fold op best (map f (drop i xs)) ≡ all → fold op found (map f (drop (i + 1) xs)) ≡ all
  next_fold op f best found all e h =
      ap (λ n. fold op n (map f (drop (i + 1) xs))) e ∙ ap (λ ys. fold op best (map f ys)) (sym left_at) ∙ h
