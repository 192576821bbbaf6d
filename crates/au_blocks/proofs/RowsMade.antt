-- The alternatives of records that are made a column at a time.
use Rattle.std.proofs.Common.{◌≡◌, ◌∙◌, ℕ, ◌+◌, ◌<◌, ◌≤◌, true, List, [], ◌∷◌, length, map, get_or, drop, Bor, refl, sym, ap, arith}
use Rattle.std.specs.List.{AllByRecursion, list_all}
use Rattle.std.proofs.lemmas.Bool.{leb-true}
use Rattle.std.proofs.lemmas.List.{drop_more, get_or-map, length-map}
use Rattle.std.proofs.lemmas.List.Elements.{All-from_recursion}
use Rattle.std.proofs.lemmas.List.FromFn.{fill_by_all}
use Rattle.au_value.specs.declared.kinds.Kind.{Kind}
use Rattle.au_value.specs.Ranges.{Span}
use Rattle.au_csv.specs.Texts.{Record}
use Rattle.au_blocks.specs.declared.format.Format.{Format}
use Rattle.au_blocks.specs.declared.format.Format.TheVariants as format
use Rattle.au_blocks.specs.declared.rows.Place.{Place}
use Rattle.au_blocks.specs.Blocks.{candidate, once}
use Rattle.au_blocks.specs.Headers.{cells_of}
use Rattle.au_blocks.specs.Entries.{copies_in, field}
use Rattle.au_blocks.specs.Columns.{all_cells, all_copies, alternative_of, alternatives_of, is_wide, places_from}
use Rattle.au_blocks.specs.Laid.{AreLong, row_at, rows_of}
use Rattle.au_blocks.specs.Order.{lent_records}
use Rattle.au_blocks.specs.Read.{cell, row}
use Rattle.au_blocks.specs.Spans.{cell_at}
use Rattle.au_blocks.proofs.WellFormed.{place-of-all}

-- the cells of a record by places, which are those of its row
by-places : (kinds : List Kind) (i : ℕ) (cs : List (List ℕ)) → i + length kinds ≤ length cs → map (λ (p : Place). cell (p.kind, field p.place cs)) (places_from i kinds) ≡ row kinds (drop i cs)
by-places [] i cs wide = refl
by-places (k ∷ kinds) i cs wide =
    rw (drop_more cs i [] (omega (arith, wide))) (ap (λ (xs : List Span). cell (k, field i cs) ∷ xs) (by-places kinds (i + 1) cs (omega (arith, wide))))

-- the copies of a record, which stands once where its format has none
copies-at : (f : Format) (rs : List (Bor Record)) (i : ℕ) → i < length rs → get_or (all_copies f rs) i once ≡ copies_in f (get_or rs i (record { ref_ptr = (0, 0); now = [] })).now
copies-at format.Plain rs i within = refl
copies-at format.Blocks rs i within = refl
copies-at format.Copies rs i within = get_or-map (λ (r : Bor Record). copies_in format.Copies r.now) rs i (record { ref_ptr = (0, 0); now = [] }) once within

-- the cells at a place of the columns
module _ (f : Format) (rs : List (Bor Record)) (i : ℕ) (within : i < length rs) where
  abbrev none : Bor Record
  none = record { ref_ptr = (0, 0); now = [] }

  abbrev here : Record
  here = (get_or rs i none).now

  at-place : (ps : List Place) → map (cell_at i) (all_cells f rs ps) ≡ map (λ (p : Place). cell (p.kind, field p.place (cells_of f here))) ps
  at-place [] = refl
  at-place (p ∷ ps) = λ j. get_or-map (λ (r : Bor Record). cell (p.kind, field p.place (cells_of f r.now))) rs i none (cell_at 0 []) within j ∷ at-place ps j

  made-at : (kinds : List Kind) → length kinds ≤ length (cells_of f here) → row_at (all_cells f rs (places_from 0 kinds)) (all_copies f rs) i ≡ alternative_of f kinds here
  made-at kinds wide = λ j. candidate ((at-place (places_from 0 kinds) ∙ by-places kinds 0 (cells_of f here) (omega (arith, wide))) j) (copies-at f rs i within j)

  -- which are the cells of a record that is wide enough
  wide-at : (n : ℕ) → list_all (is_wide f n) (lent_records rs) ≡ true → n ≤ length (cells_of f here)
  wide-at n wide =
      let low : i < length (lent_records rs) = rw (length-map rs (λ (r : Bor Record). r.now)) within in
      let at : is_wide f n here ≡ true = ap (is_wide f n) (sym (get_or-map (λ (r : Bor Record). r.now) rs i none [] within)) ∙ place-of-all (is_wide f n) [] (lent_records rs) wide i low in
      leb-true n (length (cells_of f here)) at

-- the alternatives of the columns are those of the records
pub rows-made : (f : Format) (kinds : List Kind) (rs : List (Bor Record)) → list_all (is_wide f (length kinds)) (lent_records rs) ≡ true
    → rows_of (length rs) (all_cells f rs (places_from 0 kinds)) (all_copies f rs) ≡ alternatives_of f kinds (lent_records rs)
rows-made f kinds rs wide =
    let now = λ (r : Bor Record). r.now in
    let d = alternative_of f kinds [] in
    let long : length (alternatives_of f kinds (lent_records rs)) ≡ length rs = length-map (lent_records rs) (alternative_of f kinds) ∙ length-map rs now in
    sym (fill_by_all (row_at (all_cells f rs (places_from 0 kinds)) (all_copies f rs)) (alternatives_of f kinds (lent_records rs)) (length rs) d long
    (λ i within.
    get_or-map (alternative_of f kinds) (lent_records rs) i [] d (rw (length-map rs now) within)
    ∙ ap (alternative_of f kinds) (get_or-map now rs i (none f rs i within) [] within)
    ∙ sym (made-at f rs i within kinds (wide-at f rs i within (length kinds) wide))))

-- each column has as many cells as there are records
long-cells : (f : Format) (rs : List (Bor Record)) (ps : List Place) → AllByRecursion (λ (column : List Span). length column ≡ length rs) (all_cells f rs ps)
long-cells f rs [] = tt
long-cells f rs (p ∷ ps) = (length-map rs (λ (r : Bor Record). cell (p.kind, field p.place (cells_of f r.now))), long-cells f rs ps)

pub are-long : (f : Format) (rs : List (Bor Record)) (ps : List Place) → AreLong (length rs) (all_cells f rs ps)
are-long f rs ps = All-from_recursion (λ (column : List Span). length column ≡ length rs) (all_cells f rs ps) (long-cells f rs ps)
