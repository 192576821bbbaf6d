-- The order of labels: which labels are one, and which are not.
use Rattle.std.proofs.Common.{◌≡◌, false, length, inl, inr, sym, ap, ◌∙◌, subst, Ordering, Less, Equal, Greater}
use Rattle.std.specs.Prelude.{bytes_eq}
use Rattle.std.specs.Ordering.{nat_cmp, ordering_then, ordering_reverse, is_eq, is_lt}
use Rattle.std.specs.Cmp.{IsTotalOrder}
use Rattle.std.specs.Cmp.Lexicographic.{slice_cmp, texts_ties}
use Rattle.std.proofs.lemmas.Bool.{cases_Bool, true≢false}
use Rattle.std.proofs.lemmas.Cmp.{nat_cmp_total, nat_list_cmp_total, on_total, then_total}
use Rattle.au_value.specs.Texts.{Text}
use Rattle.au_blocks.specs.Runs.{label_order}
use Rattle.au_blocks.proofs.Distinct.{same}

pub label_total : IsTotalOrder label_order
label_total = then_total (on_total length nat_cmp_total) nat_list_cmp_total

-- labels of which none comes before the other one are one
last_equal : (p q : Ordering) → ordering_then p q ≡ Equal → q ≡ Equal
last_equal Less q h = absurd (true≢false (ap is_lt h))
last_equal Equal q h = h
last_equal Greater q h = absurd (true≢false (sym (ap is_eq h)))

pub one_label : (a b : Text) → label_order a b ≡ Equal → a ≡ b
one_label a b h = same a b (texts_ties a b ∙ ap is_eq (last_equal (nat_cmp (length a) (length b)) (slice_cmp nat_cmp a b) h))

-- a label that comes before another one isn't the same
not_before_itself : (o : Ordering) → o ≡ ordering_reverse o → o ≡ Less → ⊥
not_before_itself Less turned h = true≢false (ap is_lt turned)
not_before_itself Equal turned h = true≢false (ap is_eq h)
not_before_itself Greater turned h = true≢false (sym (ap is_lt h))

pub apart : (a b : Text) → label_order a b ≡ Less → bytes_eq a b ≡ false
apart a b h =
    elim (cases_Bool (bytes_eq a b)) [
      | inl here ↦ absurd (not_before_itself (label_order a a) (label_total.antisymm a a) (subst (λ w. label_order a w ≡ Less) (sym (same a b here)) h))
      | inr other ↦ other
    ]
