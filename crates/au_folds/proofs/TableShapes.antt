-- The shape of a table is kept when rows are added: each key has all key columns, and each aggregate has as much as there
-- are keys.
use Rattle.std.specs.Prelude.{◌≡◌, ℕ, suc, ◌+◌, true, false, cond, List, [], ◌∷◌, ◌++◌, length, map}
use Rattle.std.specs.List.{AllByRecursion, list_any}
use Rattle.std.proofs.Common.{refl, sym, ap, ◌∙◌, arith, inl, inr, subst}
use Rattle.std.proofs.lemmas.Bool.{cases_Bool}
use Rattle.std.proofs.lemmas.List.{length-map}
use Rattle.au_expr.specs.Figures.{fit}
use Rattle.au_value.specs.Adding.{Sum}
use Rattle.au_plain.specs.declared.plan.PAgg.{PAgg}
use Rattle.au_plain.specs.declared.plan.PAgg.TheVariants as agg
use Rattle.au_codes.specs.Codes.{Cells, CellRows}
use Rattle.au_codes.specs.CellMeaning.{cell_in, cells_kept, same_cells}
use Rattle.au_folds.specs.Kept.{Kept, Sums, Lowest, Highest, column_of, kept_values, kept_with, nothing_kept}
use Rattle.au_folds.specs.Merged.{Alike, agg_of, joined_all, joined_kept, merged}
use Rattle.au_folds.specs.Places.{place_of, places_among, seen_after, seen_with}
use Rattle.au_folds.specs.Puts.{put_all, put_at}
use Rattle.au_folds.specs.Tables.{IsTable, Table, empty_table, grown, keys_of, table_numbers}

-- something for each key, one key more
put_long : {A S : Type 0} (first : A → S) (more : S → A → S) (ss : List S) (seen : CellRows) (key : Cells) (x : A) → length ss ≡ length seen → length (put_at first more ss (place_of seen key) x) ≡ length (seen_with seen key)
put_long first more [] [] key x long = refl
put_long first more [] (k ∷ seen) key x long = absurd (omega arith)
put_long first more (s ∷ ss) [] key x long = absurd (omega arith)
put_long first more (s ∷ ss) (k ∷ seen) key x long =
    elim (cases_Bool (same_cells key k)) [
      | inl here ↦ rw here long
      | inr here ↦
          let rest = put_long first more ss seen key x (omega arith) in
          let next : 1 + place_of seen key ≡ suc (place_of seen key) = omega arith in
          let all : length (cond (list_any (same_cells key) seen) (k ∷ seen) (k ∷ seen ++ key ∷ [])) ≡ suc (length (seen_with seen key)) =
          elim (list_any (same_cells key) seen) as (λ b. length (cond b (k ∷ seen) (k ∷ seen ++ key ∷ [])) ≡ suc (length (cond b seen (seen ++ key ∷ [])))) [
            | true ↦ refl
            | false ↦ refl
          ] in
          rw (here, next) (ap suc rest ∙ sym all)
    ]

puts_long : {A S : Type 0} (first : A → S) (more : S → A → S) (ss : List S) (seen keys : CellRows) (xs : List A) → length ss ≡ length seen → length xs ≡ length keys → length (put_all first more ss (places_among seen keys) xs) ≡ length (seen_after seen keys)
puts_long first more ss seen [] xs long all = long
puts_long first more ss seen (key ∷ keys) [] long all = absurd (omega arith)
puts_long first more ss seen (key ∷ keys) (x ∷ xs) long all =
    puts_long first more (put_at first more ss (place_of seen key) x) (seen_with seen key) keys xs (put_long first more ss seen key x long) (omega arith)

column_long : (keys : List ℕ) (c : ℕ) (rows : CellRows) → length (column_of c rows) ≡ length (keys_of keys rows)
column_long keys c rows = length-map rows (λ row. cell_in row c) ∙ sym (length-map rows (cells_kept keys))

module _ (keys : List ℕ) (seen rows : CellRows) where
  abbrev after : CellRows
  after = seen_after seen (keys_of keys rows)

  one_whole : (k : Kept) → length (kept_values k) ≡ length seen → length (kept_values (kept_with (places_among seen (keys_of keys rows)) rows k)) ≡ length after
  one_whole (Sums c ss) long =
      let sums = put_all _ _ ss (places_among seen (keys_of keys rows)) (column_of c rows) in
      length-map sums (λ (s : Sum). s.total) ∙ puts_long _ _ ss seen (keys_of keys rows) (column_of c rows) (sym (length-map ss (λ (s : Sum). s.total)) ∙ long) (column_long keys c rows)
  one_whole (Lowest c zs) long = puts_long _ _ zs seen (keys_of keys rows) (column_of c rows) long (column_long keys c rows)
  one_whole (Highest c zs) long = puts_long _ _ zs seen (keys_of keys rows) (column_of c rows) long (column_long keys c rows)

  all_whole : (kept : List Kept) → AllByRecursion (λ k. length (kept_values k) ≡ length seen) kept
      → AllByRecursion (λ k. length (kept_values k) ≡ length after) (map (kept_with (places_among seen (keys_of keys rows)) rows) kept)
  all_whole [] h = tt
  all_whole (k ∷ kept) h = (one_whole k h.0, all_whole kept h.1)

module _ (n : ℕ) where
  abbrev Wide : Cells → Type 0
  Wide key = length key ≡ n

  wide_push : (seen : CellRows) (key : Cells) → Wide key → AllByRecursion Wide seen → AllByRecursion Wide (seen ++ key ∷ [])
  wide_push [] key is h = (is, tt)
  wide_push (k ∷ seen) key is h = (h.0, wide_push seen key is h.1)

  wide_one : (seen : CellRows) (key : Cells) → Wide key → AllByRecursion Wide seen → AllByRecursion Wide (seen_with seen key)
  wide_one seen key is h =
      elim (list_any (same_cells key) seen) as (λ b. AllByRecursion Wide (cond b seen (seen ++ key ∷ []))) [
        | true ↦ h
        | false ↦ wide_push seen key is h
      ]

wide_after : (keys : List ℕ) (seen rows : CellRows) → AllByRecursion (Wide (length keys)) seen → AllByRecursion (Wide (length keys)) (seen_after seen (keys_of keys rows))
wide_after keys seen [] h = h
wide_after keys seen (row ∷ rows) h =
    wide_after keys (seen_with seen (cells_kept keys row)) rows (wide_one (length keys) seen (cells_kept keys row) (length-map keys (cell_in row)) h)

-- a table with more rows
pub grown_is_table : (t u : Table) (rows : CellRows) → IsTable t → u ≡ grown t rows → fit (table_numbers u) ≡ true → IsTable u
grown_is_table t u rows h is fits =
    let wide = wide_after t.keys t.seen rows h.wide in
    let whole = all_whole t.keys t.seen rows t.kept h.whole in
    record {
      wide = subst (λ (v : Table). AllByRecursion (λ key. length key ≡ length v.keys) v.seen) (sym is) wide;
      whole = subst (λ (v : Table). AllByRecursion (λ k. length (kept_values k) ≡ length v.seen) v.kept) (sym is) whole;
      fits = fits;
    }

-- ---- two tables

wide_all : (n : ℕ) (seen more : CellRows) → AllByRecursion (Wide n) seen → AllByRecursion (Wide n) more → AllByRecursion (Wide n) (seen_after seen more)
wide_all n seen [] h g = h
wide_all n seen (key ∷ more) h g = wide_all n (seen_with seen key) more (wide_one n seen key g.0 h) g.1

module _ (seen more : CellRows) where
  one_joined : (k u : Kept) → agg_of u ≡ agg_of k → length (kept_values k) ≡ length seen → length (kept_values u) ≡ length more → length (kept_values (joined_kept (places_among seen more) k u)) ≡ length (seen_after seen more)
  one_joined (Sums c ss) (Sums d us) same h g =
      let sums = put_all _ _ ss (places_among seen more) us in
      length-map sums (λ (s : Sum). s.total) ∙ puts_long _ _ ss seen more us (sym (length-map ss (λ (s : Sum). s.total)) ∙ h) (sym (length-map us (λ (s : Sum). s.total)) ∙ g)
  one_joined (Lowest c zs) (Lowest d us) same h g = puts_long _ _ zs seen more us h g
  one_joined (Highest c zs) (Highest d us) same h g = puts_long _ _ zs seen more us h g
  one_joined (Sums c ss) (Lowest d us) same h g = cc
  one_joined (Sums c ss) (Highest d us) same h g = cc
  one_joined (Lowest c zs) (Sums d us) same h g = cc
  one_joined (Lowest c zs) (Highest d us) same h g = cc
  one_joined (Highest c zs) (Sums d us) same h g = cc
  one_joined (Highest c zs) (Lowest d us) same h g = cc

  each_joined : (ks us : List Kept) → map agg_of us ≡ map agg_of ks → AllByRecursion (λ k. length (kept_values k) ≡ length seen) ks → AllByRecursion (λ u. length (kept_values u) ≡ length more) us
      → AllByRecursion (λ k. length (kept_values k) ≡ length (seen_after seen more)) (joined_all (places_among seen more) ks us)
  each_joined [] us same h g = tt
  each_joined (k ∷ ks) [] same h g = cc
  each_joined (k ∷ ks) (u ∷ us) same h g =
      let first : agg_of u ≡ agg_of k = cc in
      let others : map agg_of us ≡ map agg_of ks = cc in
      (one_joined k u first h.0 g.0, each_joined ks us others h.1 g.1)

pub joined_long : (places : List ℕ) (ks us : List Kept) → length (joined_all places ks us) ≡ length ks
joined_long places [] us = refl
joined_long places (k ∷ ks) [] = refl
joined_long places (k ∷ ks) (u ∷ us) = ap suc (joined_long places ks us)

-- both tables
pub merged_is_table : (t u v : Table) → IsTable t → IsTable u → Alike t u → v ≡ merged t u → fit (table_numbers v) ≡ true → IsTable v
merged_is_table t u v h g alike is fits =
    let same : length u.keys ≡ length t.keys = ap length alike.keys in
    let wide = wide_all (length t.keys) t.seen u.seen h.wide (subst (λ (n : ℕ). AllByRecursion (Wide n) u.seen) same g.wide) in
    let whole = each_joined t.seen u.seen t.kept u.kept alike.aggs h.whole g.whole in
    record {
      wide = subst (λ (w : Table). AllByRecursion (λ key. length key ≡ length w.keys) w.seen) (sym is) wide;
      whole = subst (λ (w : Table). AllByRecursion (λ k. length (kept_values k) ≡ length w.seen) w.kept) (sym is) whole;
      fits = fits;
    }

none_whole : (aggs : List PAgg) → AllByRecursion (λ k. length (kept_values k) ≡ 0) (map nothing_kept aggs)
none_whole [] = tt
none_whole (agg.Sum c ∷ aggs) = (refl, none_whole aggs)
none_whole (agg.Min c ∷ aggs) = (refl, none_whole aggs)
none_whole (agg.Max c ∷ aggs) = (refl, none_whole aggs)

none_fit : (aggs : List PAgg) (keys : List ℕ) → fit (table_numbers (empty_table keys aggs)) ≡ true
none_fit [] keys = refl
none_fit (agg.Sum c ∷ aggs) keys = none_fit aggs keys
none_fit (agg.Min c ∷ aggs) keys = none_fit aggs keys
none_fit (agg.Max c ∷ aggs) keys = none_fit aggs keys

-- the table of no rows
pub empty_is_table : (keys : List ℕ) (aggs : List PAgg) (u : Table) → u ≡ empty_table keys aggs → IsTable u
empty_is_table keys aggs u is =
    subst IsTable (sym is) (record { wide = tt; whole = none_whole aggs; fits = none_fit aggs keys })
