-- A column of single values, as each alternative has one of them.
use Rattle.std.proofs.Common.{◌≡◌, ◌∙◌, ℕ, ◌<◌, List, [], Some, length, map, get_or, sym, ap}
use Rattle.std.specs.Prelude.{IfSome, Option, None, option_map, slice_get}
use Rattle.std.specs.List.{range_with_len}
use Rattle.std.proofs.lemmas.List.{get_or-map, length-map}
use Rattle.std.proofs.lemmas.List.Elements.{All-get_or}
use Rattle.std.proofs.lemmas.List.FromFn.{fill_by_all}
use Rattle.std.proofs.lemmas.Option.{get_or_from_slice_get, slice_get-map}
use Rattle.std.proofs.lemmas.Simd.{map-map}
use Rattle.au_value.specs.declared.value.Value.{Value}
use Rattle.au_value.specs.Ranges.{Span, certain}
use Rattle.au_blocks.specs.Blocks.{Candidate, Copies}
use Rattle.au_blocks.specs.Laid.{AreLong, row_at, rows_of}
use Rattle.au_blocks.specs.Singles.{HaveValues}
use Rattle.au_blocks.specs.Spans.{cell_at}

module _ (n : ℕ) (columns : List (List Span)) (copies : List Copies) (j : ℕ) (column : List Span) (is : slice_get columns j ≡ Some column) (long : AreLong n columns) (low : j < length columns) where
  column-long : length column ≡ n
  column-long =
      let at : length (get_or columns j column) ≡ n = All-get_or (λ (c : List Span). length c ≡ n) columns j column low long in
      sym (ap length (get_or_from_slice_get columns j column column is)) ∙ at

  abbrev cell_of : ℕ → Option Span
  cell_of i = slice_get (row_at columns copies i).cells j

  -- the cells of the alternatives are those of the column
  cells-of : map (λ (a : Candidate). slice_get a.cells j) (rows_of n columns copies) ≡ map (λ (s : Span). Some s) column
  cells-of =
      let some : Span → Option Span = λ s. Some s in
      let d = cell_at 0 [] in
      map-map (λ (a : Candidate). slice_get a.cells j) (row_at columns copies) (range_with_len 0 n)
      ∙ sym (fill_by_all cell_of (map some column) n (Some d) (length-map column some ∙ column-long)
      (λ i within.
      get_or-map some column i d (Some d) (rw column-long within)
      ∙ sym (slice_get-map (cell_at i) columns j ∙ ap (option_map (cell_at i)) is)))

  pub have-values : {X : Type 0} (make : X → Value) (items : List X) → column ≡ map (λ x. certain (make x)) items → HaveValues (rows_of n columns copies) j (map make items)
  have-values make items same =
      let some : Span → Option Span = λ s. Some s in
      cells-of ∙ ap (map some) same ∙ map-map some (λ x. certain (make x)) items ∙ sym (map-map (λ v. Some (certain v)) make items)

  -- where there are any
  pub if_values : {X R : Type 0} (make : X → Value) (items : R → List X) (found : Option R) → IfSome found (λ r. column ≡ map (λ x. certain (make x)) (items r)) → IfSome found (λ r. HaveValues (rows_of n columns copies) j (map make (items r)))
  if_values make items None h = tt
  if_values make items (Some r) h = have-values make (items r) h
