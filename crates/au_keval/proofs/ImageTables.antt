-- The images of tables are tables of the same kinds.
use Rattle.std.specs.Prelude.{not, List, [], ◌∷◌, map}
use Rattle.std.specs.List.{AllByRecursion, AllZip}
use Rattle.au_value.specs.declared.kinds.Kind.{Kind}
use Rattle.au_expr.specs.Evaluate.{Operators}
use Rattle.au_algebra.specs.Entries.{Entry, entry}
use Rattle.au_algebra.specs.Positive.{Annotations}
use Rattle.au_algebra.proofs.Each.{all_filter}
use Rattle.au_keval.specs.Homs.{KeepsKinds, KeepsValid, StaysPositive, images}
use Rattle.au_keval.specs.Reading.{IsRow, IsRelationOver}

module _ {C D K L : Type 0} (V : Kind → C → Type 0) (W : K → Type 0) (V' : Kind → D → Type 0) (W' : L → Type 0) (d : Operators D) (b : Annotations D L) (f : C → D) (h : K → L) (keeps_kinds : KeepsKinds V V' f) (keeps_valid : KeepsValid W W' h) where
  image_cells : (ks : List Kind) (xs : List C) → AllZip V ks xs → AllZip V' ks (map f xs)
  image_cells [] [] z = tt
  image_cells [] (x ∷ xs) z = elim z [ ]
  image_cells (k ∷ ks) [] z = elim z [ ]
  image_cells (k ∷ ks) (x ∷ xs) z = (keeps_kinds k x z.0, image_cells ks xs z.1)

  abbrev image : Entry C K → Entry D L
  image r = entry (map f r.cells) (h r.annot)

  image_rows : (ks : List Kind) (rows : List (Entry C K)) → IsRelationOver V W ks rows → AllByRecursion (IsRow V' W' ks) (map image rows)
  image_rows ks [] ok = tt
  image_rows ks (r ∷ rows) ok =
      (record { cells = image_cells ks r.cells ok.0.cells; annot = keeps_valid r.annot ok.0.annot }, image_rows ks rows ok.1)

  image_tables : (kinds : List (List Kind)) (ts : List (List (Entry C K))) → AllZip (IsRelationOver V W) kinds ts → AllZip (IsRelationOver V' W') kinds (map (images d b f h) ts)
  image_tables [] [] z = tt
  image_tables [] (rows ∷ ts) z = elim z [ ]
  image_tables (ks ∷ kinds) [] z = elim z [ ]
  image_tables (ks ∷ kinds) (rows ∷ ts) z = (
    all_filter (IsRow V' W' ks) (λ r. not (b.is_zero r.annot)) (map image rows) (image_rows ks rows z.0),
    image_tables kinds ts z.1,
  )

  -- A tree that is positive over tables is positive over their images.
  pub stays_positive : StaysPositive V W V' W' d b f h
  stays_positive q ts over = record {
    kinds = over.kinds;
    tables = image_tables over.kinds ts over.tables;
    typed = over.typed;
    positive = over.positive;
  }
