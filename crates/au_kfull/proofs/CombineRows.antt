-- The combined rows, one for each group of rows with equal guesses.
use Rattle.std.specs.Prelude.{◌≡◌, ℕ, ◌+◌, ◌<◌, ◌≤◌, List, [], ◌∷◌, ◌++◌, length, map, take}
use Rattle.std.specs.List.{AllByRecursion, position_or_len}
use Rattle.std.proofs.Common.{arith, refl, sym, ◌∙◌, ap, get_or, subst}
use Rattle.std.proofs.lemmas.List.{length-map, take_more}
use Rattle.indexmap.specs.IndexSet.{insert_key}
use Rattle.au_value.specs.declared.kinds.Kind.{Kind}
use Rattle.au_value.specs.declared.value.Value.{Value}
use Rattle.au_value.specs.Ranges.{guesses}
use Rattle.au_value.specs.Lists.{distinct}
use Rattle.au_algebra.specs.Bounded.{RangeRow, Bounded, combine, merged}
use Rattle.au_algebra.specs.Keys.{groups_by, with_item_at, with_key}
use Rattle.au_algebra.specs.Lists.{same_row}
use Rattle.au_algebra.specs.Ordinary.{Rows}
use Rattle.au_algebra.proofs.Each.{all_filter}
use Rattle.au_algebra.proofs.RowGroups.{groups-push, keys-push, within}
use Rattle.au_kfull.specs.Keys.{kinds, HasKinds}
use Rattle.au_kfull.specs.SameGuesses.{groups_held}
use Rattle.au_kfull.proofs.PutRows.{Held}

-- a map of a map is one map
pub map_twice : {A B C : Type 0} (f : B → C) (g : A → B) (xs : List A) → map f (map g xs) ≡ map (λ x. f (g x)) xs
map_twice f g [] = refl
map_twice f g (x ∷ xs) = ap (λ ys. f (g x) ∷ ys) (map_twice f g xs)

-- the guesses of a row
abbrev pub guess : RangeRow → List Value
guess r = guesses r.cells

-- a group that is held, in one row
abbrev pub merged_group : Held → RangeRow
merged_group group = merged group.items

-- each group in one row
pub combine_groups : (rows : Bounded) (groups : List Held) → groups_held groups ≡ groups_by guess rows → map merged_group groups ≡ combine rows
combine_groups rows groups h =
    sym (map_twice merged (λ (g : Held). g.items) groups)
    ∙ ap (map merged) h
    ∙ map_twice merged (with_key guess rows) (distinct same_row (map guess rows))

all_with_keys : (ks : List Kind) (rows : Bounded) (keys : Rows) → HasKinds ks rows → AllByRecursion (HasKinds ks) (map (with_key guess rows) keys)
all_with_keys ks rows [] h = tt
all_with_keys ks rows (k ∷ keys) h = (all_filter (λ r. kinds r.cells ≡ ks) (λ r. same_row k (guess r)) rows h, all_with_keys ks rows keys h)

-- what holds of the rows of each group
pub all_held : (P : Bounded → Type 0) (groups : List Held) → AllByRecursion P (groups_held groups) → AllByRecursion (λ (g : Held). P g.items) groups
all_held P [] h = tt
all_held P (g ∷ groups) h = (h.0, all_held P groups h.1)

-- the rows of each group have the kinds of all
pub groups_kinds : (ks : List Kind) (rows : Bounded) (groups : List Held) → groups_held groups ≡ groups_by guess rows → HasKinds ks rows → AllByRecursion (λ (g : Held). HasKinds ks g.items) groups
groups_kinds ks rows groups h k = all_held (HasKinds ks) groups (subst (AllByRecursion (HasKinds ks)) (sym h) (all_with_keys ks rows (distinct same_row (map guess rows)) k))

module _ (key : RangeRow → List Value) where
  -- a place among the keys lies among the groups, or behind them
  pub place_within : (rows : Bounded) (k : List Value) (keys : Rows) (groups : List Bounded) → keys ≡ distinct same_row (map key rows) → groups ≡ groups_by key rows → position_or_len (same_row k) keys ≤ length groups
  place_within rows k keys groups as_keys as_groups =
      let far = within (same_row k) keys in
      let long : length groups ≡ length keys = ap length as_groups ∙ length-map (distinct same_row (map key rows)) (with_key key rows) ∙ ap length (sym as_keys) in
      omega (arith, far, long)

  module _ (rows : Bounded) (i : ℕ) (row : RangeRow) (below : i < length rows) (is : row ≡ get_or rows i row) where
    next : take (i + 1) rows ≡ take i rows ++ row ∷ []
    next = take_more rows i row below ∙ (λ j. take i rows ++ sym is j ∷ [])

    -- the keys, one row more
    pub keys_next : (keys : Rows) → keys ≡ distinct same_row (map key (take i rows)) → insert_key same_row keys (key row) ≡ distinct same_row (map key (take (i + 1) rows))
    keys_next keys h =
        ap (λ ks. insert_key same_row ks (key row)) h ∙ sym (keys-push key (take i rows) row) ∙ ap (λ rs. distinct same_row (map key rs)) (sym next)

    -- and the groups
    pub groups_next : (keys : Rows) (groups : List Bounded) → keys ≡ distinct same_row (map key (take i rows)) → groups ≡ groups_by key (take i rows) → with_item_at groups (position_or_len (same_row (key row)) keys) row ≡ groups_by key (take (i + 1) rows)
    groups_next keys groups h g =
        (λ j. with_item_at (g j) (position_or_len (same_row (key row)) (h j)) row)
        ∙ groups-push key (take i rows) row
        ∙ ap (groups_by key) (sym next)
