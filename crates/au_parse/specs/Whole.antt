-- What holds of each statement that is read: a SELECT has a source, and keys exactly where GROUP BY is written; a CASE has a WHEN part;
-- behind the point of a number stand 1 to 9 digits.
use Rattle.std.specs.Prelude.{◌≡◌, Bool, IsTrue, true, false, List, [], ◌∷◌, IfSome}
use Rattle.au_lex.specs.Lexemes.{is_scale}
use Rattle.au_parse.specs.declared.Name.{Name}
use Rattle.au_parse.specs.Tree.{TermTree, ItemTree, QueryTree, Sources}

-- the parts of a CASE begin with a WHEN
abbrev pub HasWhen : TermTree → Type 0
HasWhen (TermTree.when condition value rest) = Unit {0}
HasWhen _ = ⊥

abbrev pub WholeTerm : TermTree → Type 0
WholeTerm (TermTree.binary at operator left right) = WholeTerm left × WholeTerm right
WholeTerm (TermTree.negate at e) = WholeTerm e
WholeTerm (TermTree.not at e) = WholeTerm e
WholeTerm (TermTree.case at parts) = HasWhen parts × WholeTerm parts
WholeTerm (TermTree.when condition value rest) = WholeTerm condition × WholeTerm value × WholeTerm rest
WholeTerm (TermTree.aggregate at word e) = WholeTerm e
WholeTerm (TermTree.decimal at n digits) = IsTrue (is_scale digits)
WholeTerm _ = Unit {0}

abbrev pub WholeItem : ItemTree → Type 0
WholeItem (ItemTree.value e alias) = WholeTerm e
WholeItem _ = Unit {0}

abbrev pub WholeItems : List ItemTree → Type 0
WholeItems [] = Unit {0}
WholeItems (item ∷ items) = WholeItem item × WholeItems items

abbrev pub has_keys : List Name → Bool
has_keys [] = false
has_keys (key ∷ keys) = true

abbrev pub HasSource : Sources → Type 0
HasSource Sources.no_sources = ⊥
HasSource _ = Unit {0}

abbrev mutual
  pub WholeQuery : QueryTree → Type 0
  WholeQuery (QueryTree.select at distinct items sources condition keys grouped having) =
      WholeItems items × HasSource sources × WholeSources sources × IfSome condition (λ c. WholeTerm c.1) × (grouped ≡ has_keys keys) × IfSome having (λ c. WholeTerm c.1)
  WholeQuery (QueryTree.set word all at left right) = WholeQuery left × WholeQuery right

  pub WholeSources : Sources → Type 0
  WholeSources Sources.no_sources = Unit {0}
  WholeSources (Sources.table at w alias others) = WholeSources others
  WholeSources (Sources.inner at q w others) = WholeQuery q × WholeSources others
