-- Lists by a test of equality: items taken out, and how often an item occurs; and lists in order.
-- Besides, rows of values, with the sum, the least and the greatest of some values.
use Rattle.std.specs.Prelude.{◌≡◌, ℕ, Bool, List, [], ◌∷◌, ℤ, pos, ◌+ℤ◌, unwrap_or, slice_get, count_by, if◌then◌else◌}
use Rattle.std.specs.Cmp.Lexicographic.{pointwise}
use Rattle.au_value.specs.declared.value.Value.{Value}
use Rattle.au_value.specs.declared.value.Value.TheVariants.{Int}
use Rattle.au_value.specs.Order.{equal}
use Rattle.au_value.specs.Ranges.{lesser, greater}

-- the list without the first item that is equal to this one
abbrev pub without : {A : Type 0} → (A → A → Bool) → A → List A → List A
without eq x [] = []
without eq x (y ∷ ys) = if eq x y then ys else y ∷ without eq x ys

-- each item, as often as the other list has it, taken out
abbrev pub take_out : {A : Type 0} → (A → A → Bool) → List A → List A → List A
take_out eq [] xs = xs
take_out eq (y ∷ ys) xs = take_out eq ys (without eq y xs)

-- the two lists have the same items, each equally often
abbrev pub SameUpToOrder : {A : Type 0} → (A → A → Bool) → List A → List A → Type 0
SameUpToOrder {A} eq xs ys = (x : A) → count_by (eq x) xs ≡ count_by (eq x) ys

-- the item before the first that is not below it, by a test of which item may stand before which
abbrev pub insert_by : {A : Type 0} → (A → A → Bool) → A → List A → List A
insert_by le x [] = x ∷ []
insert_by le x (y ∷ ys) = if le x y then x ∷ y ∷ ys else y ∷ insert_by le x ys

-- the items in order
abbrev pub sorted_by : {A : Type 0} → (A → A → Bool) → List A → List A
sorted_by le [] = []
sorted_by le (x ∷ xs) = insert_by le x (sorted_by le xs)

-- whether two rows of values are equal
abbrev pub same_row : List Value → List Value → Bool
same_row xs ys = pointwise equal xs ys

-- how many copies of the row there are
abbrev pub copies : List Value → List (List Value) → ℕ
copies row rows = count_by (same_row row) rows

-- the value in a column, and 0 past the last
abbrev pub value_at : List Value → ℕ → Value
value_at row i = unwrap_or (slice_get row i) (Int (pos 0))

-- the sum of whole numbers
abbrev pub int_sum : List ℤ → ℤ
int_sum [] = pos 0
int_sum (n ∷ ns) = n +ℤ int_sum ns

-- the least and the greatest of some values, and 0 of none
abbrev pub least : List Value → Value
least [] = Int (pos 0)
least (v ∷ []) = v
least (v ∷ w ∷ ws) = lesser v (least (w ∷ ws))

abbrev pub greatest : List Value → Value
greatest [] = Int (pos 0)
greatest (v ∷ []) = v
greatest (v ∷ w ∷ ws) = greater v (greatest (w ∷ ws))
