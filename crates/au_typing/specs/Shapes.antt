-- The tree of a term that has been taken apart,
-- and the operators as the tree has them.
use Rattle.std.specs.Prelude.{ℕ, List, [], ◌∷◌, Option, None, pos}
use Rattle.au_value.specs.declared.kinds.Kind.{Kind}
use Rattle.au_value.specs.declared.kinds.Kind.TheVariants.{Flag}
use Rattle.au_value.specs.declared.value.Value.TheVariants as value
use Rattle.au_expr.specs.Terms.{Term, Literal, Negate, Not}
use Rattle.au_expr.specs.Kinds.{is_kind, kind_if}
use Rattle.au_parse.specs.declared.AggWord.{AggWord}
use Rattle.au_parse.specs.declared.AggWord.TheVariants.{Count, Sum, Min, Max}
use Rattle.au_parse.specs.Tree.{TermTree}
use Rattle.au_parse.specs.Views.{term_tree}
use Rattle.au_parse.specs.Levels.{arms_tree, operator_of}
use Rattle.au_typing.specs.Scales.{number_if}
use Rattle.au_typing.specs.declared.shape.Sign.{Sign}
use Rattle.au_typing.specs.declared.shape.Sign.TheVariants as sign
use Rattle.au_typing.specs.declared.shape.Shape.{Shape}
use Rattle.au_typing.specs.declared.shape.Shape.TheVariants as shape

abbrev pub signed_tree : ℕ → Sign → TermTree → TermTree
signed_tree at sign.Minus e = TermTree.negate at e
signed_tree at sign.Not e = TermTree.not at e

abbrev pub signed_kind : Sign → Option Kind → Option Kind
signed_kind sign.Minus k = number_if k
signed_kind sign.Not k = kind_if (is_kind Flag k) Flag

abbrev pub signed_term : Sign → Term → Term
signed_term sign.Minus e = Negate e
signed_term sign.Not e = Not e

-- the kind of the branches of a CASE, where there is a WHEN part
abbrev pub if_arms : {A : Type 0} → List A → Option Kind → Option Kind
if_arms [] k = None
if_arms (arm ∷ arms) k = k

-- the argument of an aggregate: 1 where rows are counted
abbrev pub argument_given : AggWord → Term → Term
argument_given Count e = Literal (value.Int (pos 1))
argument_given Sum e = e
argument_given Min e = e
argument_given Max e = e

abbrev pub shape_tree : Shape → TermTree
shape_tree (shape.Column name) = TermTree.column name.now
shape_tree (shape.Number at n) = TermTree.number at n
shape_tree (shape.Decimal at n digits) = TermTree.decimal at n digits
shape_tree (shape.Text at word) = TermTree.text at word.now
shape_tree (shape.Flag at b) = TermTree.flag at b
shape_tree (shape.Binary at o l r) = TermTree.binary at (operator_of o) (term_tree l.now) (term_tree r.now)
shape_tree (shape.Unary at s e) = signed_tree at s (term_tree e.now)
shape_tree (shape.Case at arms otherwise) = TermTree.case at (arms_tree arms.now (term_tree otherwise.now))
shape_tree (shape.CountRows at) = TermTree.count_rows at
shape_tree (shape.Aggregate at word e) = TermTree.aggregate at word (term_tree e.now)
