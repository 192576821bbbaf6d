-- The table of a name.
use Rattle.std.proofs.Common.{◌≡◌, ℕ, ◌+◌, ◌<◌, false, List, [], ◌∷◌, length, map, get_or, refl, sym, ap, subst, ◌∙◌, arith, inr}
use Rattle.std.specs.Prelude.{position, slice_get, option_map, not, Bool, Option, Some, None, nat_lt, cond}
use Rattle.std.specs.List.{position_or_len}
use Rattle.std.proofs.lemmas.List.{length-map}
use Rattle.au_blocks.specs.declared.column.Column.{Column}
use Rattle.std.specs.Str.{str_eq_ignore_ascii_case}
use Rattle.au_typing.specs.declared.schema.Schema.{Schema}
use Rattle.au_typing.specs.Queries.{Relation, columns_if, relation, relations, table_place, table_typing, Refuses}
use Rattle.au_typing.specs.Selects.{Typing}
use Rattle.au_typing.specs.declared.fault.TypingFault.TheVariants as fault
use Rattle.au_algebra.specs.Trees.{Table}
use Rattle.std.proofs.lemmas.Option.{slice_get-get_or, slice_get-map}

-- the place of what passes under another view
place-map : {X Y : Type 0} (f : X → Y) (p : Y → Bool) (xs : List X) → position_or_len p (map f xs) ≡ position_or_len (λ x. p (f x)) xs
place-map f p [] = refl
place-map f p (x ∷ xs) = ap (λ n. cond (not (p (f x))) (1 + n) 0) (place-map f p xs)

pub position-map : {X Y : Type 0} (f : X → Y) (p : Y → Bool) (xs : List X) → position (λ x. p (f x)) xs ≡ position p (map f xs)
position-map f p xs =
    ap (λ n. cond (nat_lt n (length xs)) (Some n) None) (sym (place-map f p xs)) ∙ ap (λ l. cond (nat_lt (position_or_len p (map f xs)) l) (Some (position_or_len p (map f xs))) None) (sym (length-map xs f))

-- the table of a name, among the tables as they are held
pub table_is : (schemas : List Schema) (word : List ℕ) → position (λ s. str_eq_ignore_ascii_case s.name word) schemas ≡ table_place (relations schemas) word
table_is schemas word = position-map relation (λ table. str_eq_ignore_ascii_case table.name word) schemas

-- what the table of this number is
abbrev pub the_table : ℕ → List Column → Typing
the_table place columns = record { faults = []; tree = Table place; columns = columns; joins = false }

-- a table that is found, and one that is not
pub table_found :
    (schemas : List Schema) (word : List ℕ) (at place : ℕ) (s : Schema) → position (λ t. str_eq_ignore_ascii_case t.name word) schemas ≡ Some place →
    place < length schemas → s ≡ get_or schemas place s →
    the_table place s.columns.items ≡ table_typing (relations schemas) at (table_place (relations schemas) word)
table_found schemas word at place s is within there =
    let number : Some place ≡ table_place (relations schemas) word = sym is ∙ table_is schemas word in
    let one : slice_get (relations schemas) place ≡ Some (relation s) =
    slice_get-map relation schemas place ∙ ap (option_map relation) (slice_get-get_or schemas place s within ∙ ap Some (sym there)) in
    ap (λ (o : Option Relation). the_table place (columns_if o)) (sym one) ∙ ap (table_typing (relations schemas) at) number

pub table_missing :
    (schemas : List Schema) (word : List ℕ) (at : ℕ) → position (λ t. str_eq_ignore_ascii_case t.name word) schemas ≡ None →
    Refuses (table_typing (relations schemas) at (table_place (relations schemas) word)).faults (fault.UnknownTable at)
table_missing schemas word at is =
    let number : None ≡ table_place (relations schemas) word = sym is ∙ table_is schemas word in
    subst (λ o. Refuses (table_typing (relations schemas) at o).faults (fault.UnknownTable at)) number (inr (0, omega arith, refl))
