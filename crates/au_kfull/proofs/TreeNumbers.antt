-- Whether the numbers of a tree lie in the range, operator by operator and all at once.
use Rattle.std.specs.Prelude.{◌≡◌, ℤ, Bool, ◌&&◌, List, [], ◌∷◌, ◌++◌, flat_map, take}
use Rattle.std.specs.List.{list_all}
use Rattle.std.proofs.Common.{refl, sym, ◌∙◌, ap}
use Rattle.std.proofs.lemmas.List.Folds.{list_all-append}
use Rattle.au_value.specs.Numeral.{is_i128}
use Rattle.au_expr.specs.Numbers.{expr_numbers}
use Rattle.au_algebra.specs.Bounded.{Bounded, all_rows, bounded, combine, guessed_keys, grouped}
use Rattle.au_algebra.specs.Fits.{numbers, agg_numbers, difference_sums, grouping_numbers, triple_numbers}
use Rattle.au_algebra.specs.Trees.{Tree, Table, Select, Project, Product, Union, Difference, Distinct, Group, Total}
use Rattle.au_kfull.specs.Keys.{keys_of}
use Rattle.au_kfull.specs.declared.keys.Keys.TheVariants.{All}
use Rattle.au_kfull.specs.TreeFits.{tree_fits}

-- no numbers of any are none
none_of_each : {A B : Type 0} (f : A → List B) → ((x : A) → f x ≡ []) → (xs : List A) → flat_map f xs ≡ []
none_of_each f none [] = refl
none_of_each f none (x ∷ xs) = (λ i. none x i ++ none_of_each f none xs i)

of_one : (xs ys : List ℤ) (a : Bool) → list_all is_i128 xs ≡ a → list_all is_i128 (xs ++ ys) ≡ (a && list_all is_i128 ys)
of_one xs ys a e = list_all-append is_i128 xs ys ∙ ap (λ b. b && list_all is_i128 ys) e

of_two : (xs ys zs : List ℤ) (a b : Bool) → list_all is_i128 xs ≡ a → list_all is_i128 ys ≡ b → list_all is_i128 (xs ++ (ys ++ zs)) ≡ (a && (b && list_all is_i128 zs))
of_two xs ys zs a b e f = of_one xs (ys ++ zs) a e ∙ ap (λ c. a && c) (of_one ys zs b f)

module _ (ts : List Bounded) where
  -- the numbers lie in the range where those of each operator do
  pub tree_numbers : (q : Tree) → list_all is_i128 (numbers q ts) ≡ tree_fits q ts
  tree_numbers (Table i) = refl
  tree_numbers (Select e q) = of_one (numbers q ts) (flat_map (λ r. expr_numbers e r.cells) (bounded q ts) ++ triple_numbers (bounded (Select e q) ts)) (tree_fits q ts) (tree_numbers q)
  tree_numbers (Project items q) = of_one (numbers q ts) (flat_map (λ r. flat_map (λ e. expr_numbers e r.cells) items) (bounded q ts)) (tree_fits q ts) (tree_numbers q)
  tree_numbers (Product a b) = of_two (numbers a ts) (numbers b ts) (triple_numbers (bounded (Product a b) ts)) (tree_fits a ts) (tree_fits b ts) (tree_numbers a) (tree_numbers b)
  tree_numbers (Union a b) =
      list_all-append is_i128 (numbers a ts) (numbers b ts) ∙ (λ i. tree_numbers a i && tree_numbers b i)
  tree_numbers (Difference a b) =
      of_two (numbers a ts) (numbers b ts)
      (triple_numbers (combine (bounded a ts)) ++ (flat_map (difference_sums (bounded b ts)) (combine (bounded a ts)) ++ triple_numbers (bounded (Difference a b) ts)))
      (tree_fits a ts) (tree_fits b ts) (tree_numbers a) (tree_numbers b)
  tree_numbers (Distinct q) =
      of_one (numbers q ts) (triple_numbers (bounded (Distinct q) ts)) (tree_fits q ts) (tree_numbers q)
      ∙ (λ i. tree_fits q ts && list_all is_i128 (sym (none_of_each (λ guess. flat_map (agg_numbers (grouped (keys_of All) (bounded q ts) guess)) []) (λ guess. refl) (guessed_keys (keys_of All) (bounded q ts))) i ++ triple_numbers (bounded (Distinct q) ts)))
  tree_numbers (Group keys aggs q) =
      of_one (numbers q ts) (grouping_numbers (take keys) aggs (bounded q ts) ++ triple_numbers (bounded (Group keys aggs q) ts)) (tree_fits q ts) (tree_numbers q)
  tree_numbers (Total aggs q) = of_one (numbers q ts) (flat_map (agg_numbers (all_rows (bounded q ts))) aggs) (tree_fits q ts) (tree_numbers q)
