-- The kinds of the tables' columns, by their names or by their blocks.
use Rattle.std.proofs.Common.{ap, sym, ◌∙◌}
use Rattle.au_algebra.specs.Trees.{tree}
use Rattle.au_algebra.specs.Typing.{kinds_of}
use Rattle.au_typing.specs.Queries.{relations, table_kinds}
use Rattle.au_engine.proofs.TableRelations.{same_kinds}
use Rattle.au_engine.proofs.typing.resolved.Goals as goal

pub returns-in-Ok-resolve-clause-tree_kinds : goal.returns-in-Ok-resolve-clause-tree_kinds
returns-in-Ok-resolve-clause-tree_kinds c =
    let q = tree c.in-Ok-resolve.typed.query in
    ap (λ ks. kinds_of ks q) (sym (same_kinds c.args.tables.now))
    ∙ ap (λ rs. kinds_of (table_kinds rs) q) (sym (ap (λ ss. relations ss) c.as_slice.ensures.value ∙ c.in-Ok.ensures.relations))
    ∙ c.in-Ok-resolve.ensures.typed
