-- Each row of a table has a copy in the guess world, so the answer over pairs is the one over rows with two counts.
use Rattle.std.specs.Prelude.{◌≡◌, ℕ, zero, suc, ◌<◌, ◌≤◌, Bool, true, false, not, ◌&&◌, List, [], ◌∷◌, map, nat_le, option_map, option_to_list}
use Rattle.std.specs.List.{AllByRecursion}
use Rattle.std.proofs.Common.{arith, refl, sym, ◌∙◌, ap, le-leb}
use Rattle.std.proofs.lemmas.Bool.{true≢false}
use Rattle.au_value.specs.declared.kinds.Kind.{Kind}
use Rattle.au_annot.specs.Pairs.{pair_of, IsPair, none, at_most}
use Rattle.au_blocks.specs.Blocks.{Choices}
use Rattle.au_blocks.specs.Tables.{BlockTable, IsBlockTable, column_kinds}
use Rattle.au_blocks.specs.Worlds.{Taken, guess_choice}
use Rattle.au_expr.specs.Ordinary.{IsKind}
use Rattle.au_keval.specs.Reading.{IsRelationOver}
use Rattle.au_algebra.specs.Entries.{entry}
use Rattle.au_algebra.proofs.Each.{all_append, passing}
use Rattle.au_print.proofs.CertainRows.{map_map}
use Rattle.au_rwcounted.specs.Answers.{counted_answer}
use Rattle.au_rwcounted.specs.CountedRows.{two_counts}
use Rattle.au_rwcounted.specs.PairAnswers.{IsGuessed as Guessed, AreGuessed}
use Rattle.au_rwcounted.proofs.PairAnswers.{pair_answers}
use Rattle.au_ua.specs.CountedAnswers.{UaAnswerIsCounted}
use Rattle.au_ua.specs.Relations.{PairRow}
use Rattle.au_ua.specs.UaTables.{ua_blocks, ua_table, block_rows, certain_copies}
use Rattle.au_ua.proofs.BlockRows.{table_relation}

some_guess : (c g : ℕ) → c ≤ g → (nat_le c 0 && nat_le g 0) ≡ false → 0 < g
some_guess c zero below e = absurd (true≢false (sym (ap (λ b. b && nat_le zero 0) (le-leb c 0 below)) ∙ e))
some_guess c (suc g) below e = omega arith

-- a pair of which there is a copy has a guess
has_guess : (b : Bool) (r : PairRow) → at_most r.annot none ≡ b → not b ≡ true → IsPair r.annot → Guessed r
has_guess true r e some ok = absurd (true≢false (sym some))
has_guess false r e some ok = some_guess r.annot.certain r.annot.guess ok.certain_guess e

abbrev Stays : PairRow → Bool
Stays r = not (at_most r.annot none)

abbrev marks : Choices → List PairRow
marks b = option_to_list (option_map (λ (t : Taken). entry t.row (pair_of (certain_copies b) t.count)) (guess_choice b))

all_stay : (bs : List Choices) → AllByRecursion (λ r. Stays r ≡ true) (ua_blocks bs)
all_stay [] = tt
all_stay (b ∷ bs) = all_append (λ r. Stays r ≡ true) (block_rows b) (ua_blocks bs) (passing Stays (marks b)) (all_stay bs)

all_guessed : (ks : List Kind) (rows : List PairRow) → IsRelationOver IsKind IsPair ks rows → AllByRecursion (λ r. Stays r ≡ true) rows → AreGuessed rows
all_guessed ks [] h g = tt
all_guessed ks (r ∷ rows) h g = (has_guess (at_most r.annot none) r refl g.0 h.0.annot, all_guessed ks rows h.1 g.1)

tables_guessed : (ts : List BlockTable) → AllByRecursion IsBlockTable ts → AllByRecursion AreGuessed (map ua_table ts)
tables_guessed [] ok = tt
tables_guessed (t ∷ ts) ok = (all_guessed (column_kinds t) (ua_table t) (table_relation t ok.0.table ok.0.blocks) (all_stay t.blocks), tables_guessed ts ok.1)

-- The answer over pairs is the one over rows with two counts.
pub ua_answer_is_counted : UaAnswerIsCounted
ua_answer_is_counted q ts ok p =
    ap (counted_answer q) (sym (map_map (map two_counts) ua_table ts)) ∙ pair_answers q (map ua_table ts) p (tables_guessed ts ok)
