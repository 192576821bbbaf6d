-- The closure answers by the order of the bytes, which is total.
use Rattle.std.specs.Cmp.Lexicographic.{nat_list_cmp_total}
use Rattle.std.proofs.Common.{rules, List, ℕ}
use Rattle.std.proofs.lemmas.List.Sorted.{ranks_by, answers_always}
use Rattle.au_codes.specs.Books.{text_below}
use Rattle.au_codes.proofs.book.sorted.Goals as goal

pub returns-clause-sorted : goal.returns-clause-sorted
returns-clause-sorted c =
    c.in_ok-sort_unstable_by.ensures.sorted text_below (ranks_by nat_list_cmp_total (λ (s : List ℕ). s)) (answers_always _ _ _ (λ f a r f' k. search rules))
