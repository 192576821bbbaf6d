-- Rows that are filtered before they are changed or paired.
use Rattle.std.specs.Prelude.{◌≡◌, ℕ, Bool, true, false, ◌&&◌, cond, List, [], ◌∷◌, ◌++◌, filter, flat_map, length, map}
use Rattle.std.specs.List.{AllByRecursion}
use Rattle.std.proofs.Common.{refl, sym, ◌∙◌, ap}
use Rattle.std.proofs.lemmas.Bool.{and_left}
use Rattle.std.proofs.lemmas.List.Elements.{filter-append}
use Rattle.std.proofs.Math.Bool.{and-true}
use Rattle.au_value.specs.declared.value.Value.{Value}
use Rattle.au_algebra.specs.Ordinary.{Rows}
use Rattle.au_algebra.proofs.Filters.{filter_all}
use Rattle.au_plain.proofs.Widths.{Wide}

-- a test after a change is one before it and one after it
module _ {A B : Type 0} (P : A → Type 0) (g : A → B) (first : A → Bool) (after whole : B → Bool) (same : (x : A) → P x → whole (g x) ≡ (first x && after (g x))) where
  change_if :
      (b : Bool) (x : A) (xs ys : List A) → whole (g x) ≡ (b && after (g x)) → filter after (map g ys) ≡ filter whole (map g xs) →
      filter after (map g (cond b (x ∷ ys) ys)) ≡ filter whole (map g (x ∷ xs))
  change_if true x xs ys e h = λ i. cond (sym e i) (g x ∷ h i) (h i)
  change_if false x xs ys e h = h ∙ sym (ap (λ t. cond t (g x ∷ filter whole (map g xs)) (filter whole (map g xs))) e)

  pub filter_changed : (xs : List A) → AllByRecursion P xs → filter after (map g (filter first xs)) ≡ filter whole (map g xs)
  filter_changed [] h = refl
  filter_changed (x ∷ xs) h = change_if (first x) x xs (filter first xs) (same x h.0) (filter_changed xs h.1)

-- a test before a change
pub filter_map_same : {A B : Type 0} (P : A → Type 0) (g : A → B) (first : A → Bool) (whole : B → Bool) → ((x : A) → P x → whole (g x) ≡ first x) → (xs : List A) → AllByRecursion P xs → map g (filter first xs) ≡ filter whole (map g xs)
filter_map_same P g first whole same xs h =
    sym (filter_all (map g (filter first xs))) ∙ filter_changed P g first (λ x. true) whole (λ x p. same x p ∙ sym (and-true (first x))) xs h

abbrev pub pairs : Rows → Rows → Rows
pairs xs ys = flat_map (λ a. map (λ b. a ++ b) ys) xs

-- what holds of any row holds of each
pub every : {A : Type 0} (P : A → Type 0) → ((x : A) → P x) → (xs : List A) → AllByRecursion P xs
every P h [] = tt
every P h (x ∷ xs) = (h x, every P h xs)

-- a test of pairs that is one of the left rows and one of the right rows
module _ (n : ℕ) (left right whole : List Value → Bool) (same : (a b : List Value) → length a ≡ n → whole (a ++ b) ≡ (left a && right b)) where
  none_beside : (a : List Value) (ys : Rows) → length a ≡ n → left a ≡ false → filter whole (map (λ b. a ++ b) ys) ≡ []
  none_beside a [] h f = refl
  none_beside a (b ∷ ys) h f =
      ap (λ t. cond t ((a ++ b) ∷ filter whole (map (λ c. a ++ c) ys)) (filter whole (map (λ c. a ++ c) ys))) (same a b h ∙ and_left (left a) (right b) f)
      ∙ none_beside a ys h f

  all_beside : (a : List Value) (ys : Rows) → length a ≡ n → left a ≡ true → map (λ b. a ++ b) (filter right ys) ≡ filter whole (map (λ b. a ++ b) ys)
  all_beside a ys h t =
      filter_map_same (λ b. Unit {0}) (λ b. a ++ b) right whole (λ b u. same a b h ∙ ap (λ x. x && right b) t) ys (every (λ b. Unit {0}) (λ b. tt) ys)

  pair_if : (t : Bool) (a : List Value) (xs ks ys : Rows) → length a ≡ n → left a ≡ t → pairs ks (filter right ys) ≡ filter whole (pairs xs ys) → pairs (cond t (a ∷ ks) ks) (filter right ys) ≡ filter whole (pairs (a ∷ xs) ys)
  pair_if true a xs ks ys h e k =
      (λ i. all_beside a ys h e i ++ k i) ∙ sym (filter-append whole (map (λ b. a ++ b) ys) (pairs xs ys))
  pair_if false a xs ks ys h e k =
      k ∙ (λ i. sym (none_beside a ys h e) i ++ filter whole (pairs xs ys)) ∙ sym (filter-append whole (map (λ b. a ++ b) ys) (pairs xs ys))

  pub pairs_filtered : (xs ys : Rows) → Wide n xs → pairs (filter left xs) (filter right ys) ≡ filter whole (pairs xs ys)
  pairs_filtered [] ys h = refl
  pairs_filtered (a ∷ xs) ys h = pair_if (left a) a xs (filter left xs) ys h.0 refl (pairs_filtered xs ys h.1)
