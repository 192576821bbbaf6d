-- What the calls answer of a statement, of the sides of a set word and of a FROM item: what it is where nothing is
-- wrong with it, or else one of its faults.
use Rattle.std.specs.Prelude.{ℕ, ◌≡◌, ◌≤◌, ◌||◌, List, [], ◌∷◌, Some, unwrap_or, Result, Ok, Err}
use Rattle.au_algebra.specs.Trees.{tree}
use Rattle.au_parse.specs.Views.{statement_tree}
use Rattle.au_parse.specs.declared.Source.{Source}
use Rattle.au_parse.specs.declared.Source.TheVariants as source
use Rattle.au_typing.specs.Queries.{Relation, set_columns, side_tree, sides_faults, table_place, table_typing, typing, Refuses}
use Rattle.au_typing.specs.Results.{from_view, part_typing}
use Rattle.au_blocks.specs.declared.column.Column.{Column}
use Rattle.au_typing.specs.Scales.{scale}
use Rattle.au_typing.specs.Scopes.{then_faults}
use Rattle.au_typing.specs.Selects.{FromItem, Typing}
use Rattle.au_typing.specs.declared.fault.TypingFault.{TypingFault}
use Rattle.au_typing.specs.declared.fault.TypingFault.TheVariants as fault
use Rattle.au_typing.specs.declared.from_items.FromPart.{FromPart}
use Rattle.au_typing.specs.declared.part.Part.{Part}
use Rattle.au_typing.specs.declared.sets.Fitted.{Fitted}

-- A query is found to be this, or one of its faults is named.
abbrev pub Judges : Typing → Result Part TypingFault → Type 0
Judges t (Ok part) = part_typing part ≡ t
Judges t (Err f) = Refuses t.faults f

-- The same of both sides of a set word, where the right is judged only if the left has no fault.
abbrev pub JudgesSides : Typing → Typing → Result (Part × Part) TypingFault → Type 0
JudgesSides left right (Ok parts) = (part_typing parts.0 ≡ left) × (part_typing parts.1 ≡ right)
JudgesSides left right (Err f) = Refuses (then_faults left.faults right.faults) f

-- No more than 9 digits stand behind the point of the numbers of these columns.
abbrev pub FewDigits : List Column → Type 0
FewDigits [] = Unit {0}
FewDigits (c ∷ columns) = (scale (Some c.kind) ≤ 9) × FewDigits columns

-- The sides of a set word fit and are brought to the kinds of its columns, or one of their faults is named.
abbrev pub Brings : ℕ → Typing → Typing → Result Fitted TypingFault → Type 0
Brings at left right (Ok f) =
    let columns = set_columns left.columns right.columns in
    (sides_faults at left.columns right.columns ≡ []) × (f.columns.items ≡ columns) × (tree f.left ≡ side_tree columns left.columns left.tree)
    × (tree f.right ≡ side_tree columns right.columns right.tree) × (f.joins ≡ (left.joins || right.joins))
Brings at left right (Err f) = Refuses (sides_faults at left.columns right.columns) f

-- the FROM item that is written, and what is wrong with it
abbrev pub source_item : List Relation → Source → FromItem
source_item tables (source.Table at word alias) = record { at = at; name = unwrap_or alias word; typing = table_typing tables at (table_place tables word) }
source_item tables (source.Inner' at p q name) = record { at = at; name = name; typing = typing tables (statement_tree q) }

abbrev pub source_faults : List Relation → Source → List TypingFault
source_faults tables source = (source_item tables source).typing.faults

-- What is found is visible under this name as a FROM item.
abbrev pub Shows : ℕ → List ℕ → Result Part TypingFault → Result FromPart TypingFault → Type 0
Shows at name (Ok part) (Ok item) = from_view item ≡ record { at = at; name = name; typing = part_typing part }
Shows at name (Ok part) (Err f) = f ≡ fault.NoMemory
Shows at name (Err f) r = r ≡ Err f
