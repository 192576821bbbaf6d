-- The answer that is asked for is the normal form of what is shown of the tree's relation, and its numbers are those of
-- its making. It holds in every world.
use Rattle.std.specs.Prelude.{◌≡◌, ℕ, ◌<◌, Bool, true, false, List, ◌++◌, map, Option, Some, None, if◌then◌else◌}
use Rattle.std.specs.List.{AllByRecursion, AllZip, list_all}
use Rattle.std.proofs.Common.{arith, refl, sym, ◌∙◌, ap, subst}
use Rattle.std.proofs.lemmas.Bool.{false_from_ne_true, true≢false}
use Rattle.au_value.specs.declared.kinds.Kind.{Kind}
use Rattle.au_value.specs.Numeral.{is_i128}
use Rattle.au_expr.specs.Figures.{Fit}
use Rattle.au_expr.proofs.Fits.{fit_parts}
use Rattle.au_algebra.specs.Bounded.{Bounded, combine, normal, product}
use Rattle.au_algebra.specs.Distribution.{Bounds}
use Rattle.au_algebra.specs.Fits.{triple_numbers, triples_fit}
use Rattle.au_algebra.specs.Laws.{Guesses, IsRelation}
use Rattle.au_algebra.specs.Ordinary.{Rows, answer}
use Rattle.au_algebra.specs.Products.{KeepsProduct}
use Rattle.au_algebra.specs.Trees.{Tree}
use Rattle.au_algebra.specs.Typing.{kinds_of}
use Rattle.au_algebra.proofs.ByProduct.{product_keeps}
use Rattle.au_algebra.proofs.Each.{all_from}
use Rattle.au_blocks.specs.Blocks.{IsBlock}
use Rattle.au_blocks.specs.Tables.{BlockTable, IsBlockTable, IsTable, column_kinds}
use Rattle.au_blocks.specs.Worlds.{guess_world, tables_in}
use Rattle.au_translate.specs.Translate.{bounded_table}
use Rattle.au_translate.proofs.BoundedAnswer.{tables_bounds, tables_guesses}
use Rattle.au_compress.specs.CompressedAnswers.{compressed_answer}
use Rattle.au_compress.specs.CompressedFits.{compressed_answer_fits, product_numbers}
use Rattle.au_compress.specs.Splitting.{compressed_product}
use Rattle.au_compress.proofs.EveryTree.{compressed_answers}
use Rattle.au_compress.proofs.ProductKeeps.{compressed_product_bounds, compressed_product_guesses, compressed_product_relation}
use Rattle.au_points.specs.Groupings.{answer_with, bounded_with, by_hulls}
use Rattle.au_points.specs.GroupingFits.{fits_with}
use Rattle.au_points.specs.Points.{by_points}
use Rattle.au_points.proofs.HullsAreGroup.{hulls_are_group}
use Rattle.au_points.proofs.Laws.{any_product_by_points}
use Rattle.au_program.specs.Rules.{IsCompression, grouping_by, pair_numbers, pairs_by, tree_numbers, tree_rows}
use Rattle.au_program.specs.declared.rules.Rules.{Rules}
use Rattle.au_program.proofs.PlainRules.{numbers_by_hulls, plain_rows_are, rows_by_hulls}
use Rattle.au_engine.specs.Answers.{Named, answer_by, answer_fits_by, blocks_of, tree_asked, tree_asked_fits}
use Rattle.au_engine.proofs.Shown.{Answered, answered}
use Rattle.au_engine.proofs.TableRelations.{are_relations}

-- ---- its rows and its numbers

-- the relation that is shown
abbrev pub shown_rows : Bool → Bounded → Bounded
shown_rows combined rows = if combined then combine rows else rows

shown_is : (combined : Bool) (xs ys : Bounded) → xs ≡ ys → normal (shown_rows combined xs) ≡ normal (shown_rows combined ys)
shown_is combined xs ys e = ap (λ rows. normal (shown_rows combined rows)) e

fits_by_hulls : (n : ℕ) (combined : Bool) (q : Tree) (ts : List Bounded) → compressed_answer_fits n combined q ts ≡ fits_with (compressed_product n) (product_numbers n) by_hulls combined q ts
fits_by_hulls n combined q ts =
    let rows = rows_by_hulls (compressed_product n) q ts in
    let ns = numbers_by_hulls (compressed_product n) (product_numbers n) q ts in
    sym (λ i. list_all is_i128 (ns i ++ (triple_numbers (shown_rows combined (rows i)) ++ triple_numbers (normal (shown_rows combined (rows i))))))

rows_are : (points : Bool) (how : Option ℕ) (combined : Bool) (q : Tree) (ts : List Bounded) → answer_by points how combined q ts ≡ normal (shown_rows combined (bounded_with (pairs_by how) (grouping_by points) q ts))
rows_are false None combined q ts = sym (shown_is combined (bounded_with product by_hulls q ts) _ (plain_rows_are q ts))
rows_are false (Some n) combined q ts = sym (shown_is combined (bounded_with (compressed_product n) by_hulls q ts) _ (rows_by_hulls (compressed_product n) q ts))
rows_are true how combined q ts = refl

fits_are : (points : Bool) (how : Option ℕ) (combined : Bool) (q : Tree) (ts : List Bounded) → answer_fits_by points how combined q ts ≡ fits_with (pairs_by how) (pair_numbers how) (grouping_by points) combined q ts
fits_are false None combined q ts = sym (hulls_are_group.fits combined q ts)
fits_are false (Some n) combined q ts = fits_by_hulls n combined q ts
fits_are true how combined q ts = refl

pub asked_is : (rules : Rules) (combined : Bool) (ts : List Named) (q : Tree) → tree_asked rules combined ts q ≡ normal (shown_rows combined (tree_rows rules q (map bounded_table (blocks_of ts))))
asked_is rules combined ts q = rows_are rules.points rules.compress combined q (map bounded_table (blocks_of ts))

asked_fits_is :
    (rules : Rules) (combined : Bool) (ts : List Named) (q : Tree) →
    tree_asked_fits rules combined ts q ≡ fits_with (pairs_by rules.compress) (pair_numbers rules.compress) (grouping_by rules.points) combined q (map bounded_table (blocks_of ts))
asked_fits_is rules combined ts q = fits_are rules.points rules.compress combined q (map bounded_table (blocks_of ts))

module _ (rules : Rules) (combined : Bool) (ts : List Named) (q : Tree) where
  abbrev shown : Bounded
  shown = shown_rows combined (tree_rows rules q (map bounded_table (blocks_of ts)))

  -- where they fit, those of the tree and of what is shown do
  pub parts_fit :
      tree_asked_fits rules combined ts q ≡ true →
      Fit (tree_numbers rules q (map bounded_table (blocks_of ts)) ++ (triple_numbers shown ++ triple_numbers (normal shown)))
  parts_fit f = sym (asked_fits_is rules combined ts q) ∙ f

  -- a number of the normal form that leaves the range is one of the answer
  pub normal_leaves : triples_fit (tree_asked rules combined ts q) ≡ false → tree_asked_fits rules combined ts q ≡ false
  normal_leaves out =
      false_from_ne_true (tree_asked_fits rules combined ts q)
      (λ f.
      let p = fit_parts (tree_numbers rules q (map bounded_table (blocks_of ts))) (triple_numbers shown ++ triple_numbers (normal shown)) (parts_fit f) in
      let inside : triples_fit (normal shown) ≡ true = (fit_parts (triple_numbers shown) (triple_numbers (normal shown)) p.1).1 in
      true≢false (sym inside ∙ ap triples_fit (sym (asked_is rules combined ts q)) ∙ out))

-- ---- what holds of it

module _ (ts : List BlockTable) (q : Tree) (ks : List Kind) (ok : AllByRecursion IsBlockTable ts) (typed : kinds_of (map column_kinds ts) q ≡ Some ks) where
  -- rows that bound and guess what the tables bound and guess
  holding :
      (rows : Bounded) → IsRelation ks rows → ((ws : List Rows) → AllZip Bounds (map bounded_table ts) ws → Bounds rows (answer q ws)) →
      ((ws : List Rows) → AllZip Guesses (map bounded_table ts) ws → Guesses rows (answer q ws)) → Answered ts q ks rows
  holding rows relation bounds guesses =
      let tables = all_from IsBlockTable IsTable ts (λ t k. k.table) ok in
      let blocks = all_from IsBlockTable (λ t. AllByRecursion IsBlock t.blocks) ts (λ t k. k.blocks) ok in
      record {
        relation = relation;
        holds = record {
          bounds = λ w world. bounds (tables_in ts w) (tables_bounds ts w tables blocks world);
          guesses = guesses (tables_in ts (guess_world ts)) (tables_guesses ts blocks);
        };
      }

  compressed_holds : (n : ℕ) (combined : Bool) → 0 < n → Answered ts q ks (compressed_answer n combined q (map bounded_table ts))
  compressed_holds n combined some =
      let a = compressed_answers n combined q (map column_kinds ts) ks (map bounded_table ts) some typed (are_relations ts (map bounded_table ts) refl ok) in
      holding (compressed_answer n combined q (map bounded_table ts)) a.relation a.bounds a.guesses

  -- by points, with each product that keeps what Product keeps
  points_hold : (join : Bounded → Bounded → Bounded) (combined : Bool) → KeepsProduct join → Answered ts q ks (answer_with join by_points combined q (map bounded_table ts))
  points_hold join combined keeps =
      let a = (any_product_by_points join keeps).answer combined q (map column_kinds ts) ks (map bounded_table ts) typed (are_relations ts (map bounded_table ts) refl ok) in
      holding (answer_with join by_points combined q (map bounded_table ts)) a.relation a.bounds a.guesses

pairs_keep : (how : Option ℕ) → IsCompression how → KeepsProduct (pairs_by how)
pairs_keep None size = product_keeps
pairs_keep (Some n) size =
    let some : 0 < n = omega (arith, size.0) in
    record {
      relation = λ ks js xs ys p q. compressed_product_relation n some ks js xs ys p q;
      bounds = λ ks js xs ys c d p q b e. compressed_product_bounds n some ks js xs ys p q c d b e;
      guesses = λ ks js xs ys c d p q g h. compressed_product_guesses n some ks js xs ys p q c d g h;
    }

module _ (combined : Bool) (ts : List Named) (q : Tree) (ks : List Kind) (ok : AllByRecursion IsBlockTable (blocks_of ts)) (typed : kinds_of (map column_kinds (blocks_of ts)) q ≡ Some ks) where
  abbrev here : List Bounded
  here = map bounded_table (blocks_of ts)

  by_rules : (points : Bool) (how : Option ℕ) → IsCompression how → Answered (blocks_of ts) q ks (answer_by points how combined q here)
  by_rules false None size = answered combined (blocks_of ts) q ks (answer_by false None combined q here) ok typed refl
  by_rules false (Some n) size = let some : 0 < n = omega (arith, size.0) in compressed_holds (blocks_of ts) q ks ok typed n combined some
  by_rules true how size = points_hold (blocks_of ts) q ks ok typed (pairs_by how) combined (pairs_keep how size)

  pub asked_answered : (rules : Rules) (rows : Bounded) → IsCompression rules.compress → rows ≡ tree_asked rules combined ts q → Answered (blocks_of ts) q ks rows
  asked_answered rules rows size e = subst (Answered (blocks_of ts) q ks) (sym e) (by_rules rules.points rules.compress size)
