-- The rows that occur, read one after the other, and seen by their places.
use Rattle.std.specs.Prelude.{◌≡◌, ℕ, ◌+◌, ◌<◌, true, not, ◌==◌, cond, List, [], ◌∷◌, ◌++◌, map, length, Some, option_map, unwrap_or}
use Rattle.std.proofs.Common.{arith, sym, ◌∙◌, ap, append-nil, take, get_or, suc, drop, drop-cons}
use Rattle.std.proofs.lemmas.Bool.{false_from_ne_true, eqb-true}
use Rattle.std.proofs.lemmas.List.{take_more, take-append-drop, map-append, take-map}
use Rattle.std.proofs.lemmas.List.Elements.{filter-append}
use Rattle.std.proofs.lemmas.Option.{slice_get-map, slice_get-get_or}
use Rattle.au_algebra.specs.Counted.{CountedRow, occurring}
use Rattle.au_algebra.specs.Entries.{entry}
use Rattle.au_print.specs.Places.{values_at, row_at}

-- the item at a place comes behind those before it
pub item_next : {A : Type 0} (xs : List A) (i : ℕ) (x : A) → i < length xs → x ≡ get_or xs i x → take (i + 1) xs ≡ take i xs ++ x ∷ []
item_next xs i x l e = take_more xs i x l ∙ ap (λ y. take i xs ++ y ∷ []) (sym e)

-- and before those behind it
pub item_split : {A : Type 0} (xs : List A) (i : ℕ) (x : A) → i < length xs → x ≡ get_or xs i x → take i xs ++ x ∷ drop (suc i) xs ≡ xs
item_split xs i x l e =
    ap (λ ys. take i xs ++ ys) (ap (λ y. y ∷ drop (suc i) xs) e ∙ sym (drop-cons xs i x l)) ∙ take-append-drop i xs

not_none : (n : ℕ) → 0 < n → not (n == 0) ≡ true
not_none n h = ap not (false_from_ne_true (n == 0) (λ t. let z = eqb-true n 0 t in absurd (omega (arith, h, z))))

module _ {A : Type 0} (f : A → CountedRow) (xs : List A) (i : ℕ) (x : A) (l : i < length xs) (e : x ≡ get_or xs i x) where
  -- the row at a place is the one that is read
  pub values_read : values_at (map f xs) i ≡ (f x).cells
  values_read =
      ap (λ o. unwrap_or (option_map (λ (r : CountedRow). r.cells) o) [])
      (slice_get-map f xs i ∙ ap (option_map f) (slice_get-get_or xs i x l ∙ ap Some (sym e)))

  one_more : occurring (take (i + 1) (map f xs)) ≡ occurring (take i (map f xs)) ++ cond (not ((f x).annot == 0)) (f x ∷ []) []
  one_more =
      ap occurring (take-map f (i + 1) xs ∙ ap (map f) (item_next xs i x l e) ∙ map-append f (take i xs) (x ∷ []) ∙ ap (λ ys. ys ++ f x ∷ []) (sym (take-map f i xs)))
      ∙ filter-append (λ r. not (r.annot == 0)) (take i (map f xs)) (f x ∷ [])

  -- a row that occurs is one more
  pub one_found : (found found' : List (ℕ × ℕ)) → map (row_at (map f xs)) found ≡ occurring (take i (map f xs)) → 0 < (f x).annot → found' ≡ found ++ (i, (f x).annot) ∷ [] → map (row_at (map f xs)) found' ≡ occurring (take (i + 1) (map f xs))
  one_found found found' h n p =
      ap (map (row_at (map f xs))) p
      ∙ map-append (row_at (map f xs)) found ((i, (f x).annot) ∷ [])
      ∙ (λ j. h j ++ entry (values_read j) (f x).annot ∷ [])
      ∙ ap (λ b. occurring (take i (map f xs)) ++ cond b (f x ∷ []) []) (sym (not_none (f x).annot n))
      ∙ sym one_more

  -- and one that does not is none
  pub none_found : (found : List (ℕ × ℕ)) → map (row_at (map f xs)) found ≡ occurring (take i (map f xs)) → (f x).annot ≡ 0 → map (row_at (map f xs)) found ≡ occurring (take (i + 1) (map f xs))
  none_found found h z =
      h
      ∙ sym (append-nil (occurring (take i (map f xs))))
      ∙ ap (λ n. occurring (take i (map f xs)) ++ cond (not (n == 0)) (f x ∷ []) []) (sym z)
      ∙ sym one_more
