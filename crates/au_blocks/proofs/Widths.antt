-- What holds of all records holds of those that are alternatives.
use Rattle.std.proofs.Common.{◌≡◌, true, Bool, List, [], ◌∷◌, ◌++◌, map, refl}
use Rattle.std.specs.Prelude.{filter, flat_map, bytes_eq}
use Rattle.std.specs.List.{list_all}
use Rattle.std.proofs.lemmas.Bool.{and_from, and_parts}
use Rattle.au_value.specs.Lists.{distinct}
use Rattle.au_value.specs.Texts.{Text}
use Rattle.au_csv.specs.Texts.{Record}
use Rattle.au_blocks.specs.declared.format.Format.{Format}
use Rattle.au_blocks.specs.declared.format.Format.TheVariants as format
use Rattle.au_blocks.specs.Entries.{label_of, labelled}
use Rattle.au_blocks.specs.Inferring.{is_alternative}
use Rattle.au_blocks.specs.Order.{chosen}
use Rattle.au_blocks.proofs.WellFormed.{all-filter}

module _ (p : Record → Bool) where
  all-append : (xs ys : List Record) → list_all p xs ≡ true → list_all p ys ≡ true → list_all p (xs ++ ys) ≡ true
  all-append [] ys a b = b
  all-append (x ∷ xs) ys a b =
      let parts = and_parts (p x) (list_all p xs) a in
      and_from (p x) (list_all p (xs ++ ys)) parts.0 (all-append xs ys parts.1 b)

  all-flat : (q : Record → Bool) (bs : List (List Record)) → list_all (list_all p) bs ≡ true → list_all p (flat_map (λ b. filter q b) bs) ≡ true
  all-flat q [] all = refl
  all-flat q (b ∷ bs) all =
      let parts = and_parts (list_all p b) (list_all (list_all p) bs) all in
      all-append (filter q b) (flat_map (λ x. filter q x) bs) (all-filter p q b parts.0) (all-flat q bs parts.1)

  all-labelled : (rows : List Record) (ls : List Text) → list_all p rows ≡ true → list_all (list_all p) (map (λ l. labelled l rows) ls) ≡ true
  all-labelled rows [] all = refl
  all-labelled rows (l ∷ ls) all =
      and_from (list_all p (labelled l rows)) (list_all (list_all p) (map (λ x. labelled x rows) ls)) (all-filter p (λ r. bytes_eq l (label_of r)) rows all) (all-labelled rows ls all)

  all-alone : (rows : List Record) → list_all p rows ≡ true → list_all (list_all p) (map (λ r. r ∷ []) rows) ≡ true
  all-alone [] all = refl
  all-alone (r ∷ rows) all =
      let parts = and_parts (p r) (list_all p rows) all in
      and_from (list_all p (r ∷ [])) (list_all (list_all p) (map (λ x. x ∷ []) rows)) (and_from (p r) true parts.0 refl) (all-alone rows parts.1)

  pub all-chosen : (f : Format) (rows : List Record) → list_all p rows ≡ true → list_all p (chosen f rows) ≡ true
  all-chosen format.Plain rows all = all-flat (is_alternative format.Plain) (map (λ r. r ∷ []) rows) (all-alone rows all)
  all-chosen format.Blocks rows all = all-flat (is_alternative format.Blocks) (map (λ l. labelled l rows) (distinct bytes_eq (map label_of rows))) (all-labelled rows (distinct bytes_eq (map label_of rows)) all)
  all-chosen format.Copies rows all = all-flat (is_alternative format.Copies) (map (λ l. labelled l rows) (distinct bytes_eq (map label_of rows))) (all-labelled rows (distinct bytes_eq (map label_of rows)) all)
