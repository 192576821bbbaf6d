-- The range of an operator holds its ordinary value.
use Rattle.std.specs.Prelude.{◌≡◌, ℕ, zero, suc, Bool, true, false, not, ◌&&◌, ◌||◌, if◌then◌else◌, List, Some, ℤ, pos, negsuc, ◌⊎◌, ◌+ℤ◌, ◌-ℤ◌, ◌*ℤ◌, neg_ℤ, ◌≤ℤ◌}
use Rattle.std.proofs.Common.{arith, refl, sym, ◌∙◌, subst, inl, inr}
use Rattle.std.proofs.Math.IntN.{suc_ℤ-*ℤ, zero-*ℤ, *ℤ_comm, *ℤ-negsuc}
use Rattle.std.proofs.lemmas.Bool.{and_parts, and_from, or_left, or_right, true≢false}
use Rattle.std.proofs.lemmas.Int.{ints}
use Rattle.au_value.specs.declared.kinds.Kind.{Kind}
use Rattle.au_value.specs.declared.kinds.Kind.TheVariants as kind
use Rattle.au_value.specs.declared.value.Value.{Value}
use Rattle.au_value.specs.declared.value.Value.TheVariants.{Int, Text, Flag}
use Rattle.au_value.specs.Order.{at_most, equal, kind_of}
use Rattle.au_value.specs.Ranges.{Span, range, overlap, is_certain, certainly_equal, lesser, greater}
use Rattle.au_value.specs.declared.comparison.Comparison.{Comparison}
use Rattle.au_value.specs.declared.comparison.Comparison.TheVariants as how
use Rattle.au_value.proofs.OrderLaws.{at_most_trans, at_most_refl, below_wider, equal_from, equal-at_most, equal_symm, not_where}
use Rattle.au_value.proofs.RangeLaws.{lesser_left, lesser_right, greater_left, greater_right, kind_lesser, kind_greater}
use Rattle.au_expr.specs.Ordinary as on_values
use Rattle.au_expr.specs.Ordinary.{number, is_true}
use Rattle.au_expr.specs.OnRanges as on_ranges
use Rattle.au_expr.specs.OnRanges.{range_of}
use Rattle.au_expr.specs.Ordinary.{value_of}
use Rattle.au_expr.specs.Terms.{Term}
use Rattle.au_expr.specs.Kinds.{kind_in}
use Rattle.au_expr.specs.Related.{Related, RelatedRows}
use Rattle.au_expr.proofs.Along.{evaluate_along}
pub use Rattle.au_expr.specs.Holding.{Within, GuessIs}

int_at_most : (m n : ℤ) → at_most (Int m) (Int n) ≡ true → m ≤ℤ n
int_at_most m n h = grind (arith, ints)

-- numbers in order are values in order
pub at_most_int : (m n : ℤ) → m ≤ℤ n → at_most (Int m) (Int n) ≡ true
at_most_int m n h = grind (arith, ints)

-- values of numbers in order are numbers in order
pub numbers_in_order : (a b : Value) → kind_of a ≡ kind.Int → kind_of b ≡ kind.Int → at_most a b ≡ true → number a ≤ℤ number b
numbers_in_order (Int m) (Int n) p q h = int_at_most m n h
numbers_in_order (Int m) (Text n) p q h = cc
numbers_in_order (Int m) (Flag n) p q h = cc
numbers_in_order (Text m) b p q h = cc
numbers_in_order (Flag m) b p q h = cc

lower_number : (r : Span) (v : Value) → Within kind.Int r v → number r.lo ≤ℤ number v
lower_number r v w = numbers_in_order _ _ w.lo_kind w.kind w.lo

upper_number : (r : Span) (v : Value) → Within kind.Int r v → number v ≤ℤ number r.hi
upper_number r v w = numbers_in_order _ _ w.kind w.hi_kind w.hi

-- a number between two
within_ints : (l g n h : ℤ) → l ≤ℤ n → n ≤ℤ h → Within kind.Int (range (Int l) (Int g) (Int h)) (Int n)
within_ints l g n h p q =
    record { lo_kind = refl; hi_kind = refl; kind = refl; lo = at_most_int l n p; hi = at_most_int n h q }

sums : (a b c d : ℤ) → a ≤ℤ c → b ≤ℤ d → (a +ℤ b) ≤ℤ (c +ℤ d)
sums a b c d p q = omega (arith, ints)

differences : (a b c d : ℤ) → a ≤ℤ c → d ≤ℤ b → (a -ℤ b) ≤ℤ (c -ℤ d)
differences a b c d p q = omega (arith, ints)

negations : (a b : ℤ) → a ≤ℤ b → neg_ℤ b ≤ℤ neg_ℤ a
negations a b p = omega (arith, ints)

-- the range of a sum holds it
pub add_within : (a b : Span) (u v : Value) → Within kind.Int a u → Within kind.Int b v → Within kind.Int (on_ranges.add a b) (on_values.add u v)
add_within a b u v x y =
    within_ints _ _ _ _
    (sums _ _ _ _ (lower_number a u x) (lower_number b v y))
    (sums _ _ _ _ (upper_number a u x) (upper_number b v y))

-- the range of a difference holds it
pub subtract_within : (a b : Span) (u v : Value) → Within kind.Int a u → Within kind.Int b v → Within kind.Int (on_ranges.subtract a b) (on_values.subtract u v)
subtract_within a b u v x y =
    within_ints _ _ _ _
    (differences _ _ _ _ (lower_number a u x) (upper_number b v y))
    (differences _ _ _ _ (upper_number a u x) (lower_number b v y))

-- the range of a negated number holds it
pub negate_within : (a : Span) (u : Value) → Within kind.Int a u → Within kind.Int (on_ranges.negate a) (on_values.negate u)
negate_within a u x = within_ints _ _ _ _ (negations _ _ (upper_number a u x)) (negations _ _ (lower_number a u x))

-- a flag between two
implied_flags : (l n : Bool) → (l ≡ true → n ≡ true) → at_most (Flag l) (Flag n) ≡ true
implied_flags true true h = refl
implied_flags true false h = absurd (true≢false (sym (h refl)))
implied_flags false true h = refl
implied_flags false false h = refl

within_flags : (l g n h : Bool) → (l ≡ true → n ≡ true) → (n ≡ true → h ≡ true) → Within kind.Flag (range (Flag l) (Flag g) (Flag h)) (Flag n)
within_flags l g n h p q =
    record { lo_kind = refl; hi_kind = refl; kind = refl; lo = implied_flags l n p; hi = implied_flags n h q }

-- the order goes through two ends
through : (a u v b : Value) → at_most a u ≡ true → at_most u v ≡ true → at_most v b ≡ true → at_most a b ≡ true
through a u v b p q r = at_most_trans a u b p (at_most_trans u v b q r)

-- a value that lies in a certain range is its lo
in_certain : (k : Kind) (a : Span) (u : Value) → Within k a u → is_certain a ≡ true → at_most u a.lo ≡ true
in_certain k a u x c = at_most_trans u a.hi a.lo x.hi (equal-at_most a.hi a.lo (equal_symm a.hi a.lo ∙ c))

-- what ranges that are certainly equal hold is equal
pub certainly : (k : Kind) (a b : Span) (u v : Value) → Within k a u → Within k b v → certainly_equal a b ≡ true → equal u v ≡ true
certainly k a b u v x y h =
    let p = and_parts _ _ h in
    let q = and_parts _ _ p.0 in
    equal_from u v
    (through u a.lo b.lo v (in_certain k a u x q.0) (equal-at_most a.lo b.lo p.1) y.lo)
    (through v b.lo a.lo u (in_certain k b v y q.1) (equal-at_most b.lo a.lo (equal_symm b.lo a.lo ∙ p.1)) x.lo)

-- ranges that hold equal values overlap
pub possibly : (k : Kind) (a b : Span) (u v : Value) → Within k a u → Within k b v → equal u v ≡ true → overlap a b ≡ true
possibly k a b u v x y h =
    and_from _ _
    (through a.lo u v b.hi x.lo (equal-at_most u v h) y.hi)
    (through b.lo v u a.hi y.lo (equal-at_most v u (equal_symm v u ∙ h)) x.hi)

-- the range of a comparison holds it
pub compare_within : (how : Comparison) (k : Kind) (a b : Span) (u v : Value) → Within k a u → Within k b v → Within kind.Flag (on_ranges.compare how a b) (on_values.compare how u v)
compare_within how.Equal k a b u v x y = within_flags _ _ _ _ (certainly k a b u v x y) (possibly k a b u v x y)
compare_within how.Differs k a b u v x y =
    within_flags _ _ _ _ (not_where _ _ (possibly k a b u v x y)) (not_where _ _ (certainly k a b u v x y))
compare_within how.Less k a b u v x y = within_flags _ _ _ _ (below_wider u a.hi b.lo v x.hi y.lo) (below_wider a.lo u v b.hi x.lo y.hi)
compare_within how.AtMost k a b u v x y =
    within_flags _ _ _ _ (λ h. through u a.hi b.lo v x.hi h y.lo) (λ h. through a.lo u v b.hi x.lo h y.hi)
compare_within how.Greater k a b u v x y = within_flags _ _ _ _ (below_wider v b.hi a.lo u y.hi x.lo) (below_wider b.lo v u a.hi y.lo x.hi)
compare_within how.AtLeast k a b u v x y =
    within_flags _ _ _ _ (λ h. through v b.hi a.lo u y.hi h x.lo) (λ h. through b.lo v u a.hi y.lo h x.hi)

flags_in_order : (a b : Value) → kind_of a ≡ kind.Flag → kind_of b ≡ kind.Flag → at_most a b ≡ true → is_true a ≡ true → is_true b ≡ true
flags_in_order (Flag true) (Flag true) p q h t = refl
flags_in_order (Flag true) (Flag false) p q h t = h
flags_in_order (Flag false) b p q h t = absurd (true≢false (sym t))
flags_in_order (Flag true) (Int n) p q h t = cc
flags_in_order (Flag true) (Text n) p q h t = cc
flags_in_order (Int m) b p q h t = cc
flags_in_order (Text m) b p q h t = cc

-- the flags of a range of flags
pub lower_flag : (r : Span) (v : Value) → Within kind.Flag r v → is_true r.lo ≡ true → is_true v ≡ true
lower_flag r v w = flags_in_order _ _ w.lo_kind w.kind w.lo

-- where a held condition is true, so is the upper end
pub upper_flag : (r : Span) (v : Value) → Within kind.Flag r v → is_true v ≡ true → is_true r.hi ≡ true
upper_flag r v w = flags_in_order _ _ w.kind w.hi_kind w.hi

both_flags : (s t p q : Bool) → (s ≡ true → p ≡ true) → (t ≡ true → q ≡ true) → (s && t) ≡ true → (p && q) ≡ true
both_flags s t p q f g h = let parts = and_parts s t h in and_from p q (f parts.0) (g parts.1)

either_flag : (s t p q : Bool) → (s ≡ true → p ≡ true) → (t ≡ true → q ≡ true) → (s || t) ≡ true → (p || q) ≡ true
either_flag true t p q f g h = or_left p q (f refl)
either_flag false t p q f g h = or_right p q (g h)

-- the range of AND holds it
pub and_within : (a b : Span) (u v : Value) → Within kind.Flag a u → Within kind.Flag b v → Within kind.Flag (on_ranges.and a b) (on_values.and u v)
and_within a b u v x y =
    within_flags _ _ _ _ (both_flags _ _ _ _ (lower_flag a u x) (lower_flag b v y)) (both_flags _ _ _ _ (upper_flag a u x) (upper_flag b v y))

-- the range of OR holds it
pub or_within : (a b : Span) (u v : Value) → Within kind.Flag a u → Within kind.Flag b v → Within kind.Flag (on_ranges.or a b) (on_values.or u v)
or_within a b u v x y =
    within_flags _ _ _ _ (either_flag _ _ _ _ (lower_flag a u x) (lower_flag b v y)) (either_flag _ _ _ _ (upper_flag a u x) (upper_flag b v y))

-- the range of NOT holds it
pub not_within : (a : Span) (u : Value) → Within kind.Flag a u → Within kind.Flag (on_ranges.opposite a) (on_values.opposite u)
not_within a u x = within_flags _ _ _ _ (not_where _ _ (upper_flag a u x)) (not_where _ _ (lower_flag a u x))

pos_times : (n : ℕ) (a b : ℤ) → a ≤ℤ b → (pos n *ℤ a) ≤ℤ (pos n *ℤ b)
pos_times zero a b h = omega (arith, ints, zero-*ℤ a, zero-*ℤ b)
pos_times (suc n) a b h = omega (arith, ints, suc_ℤ-*ℤ (pos n) a, suc_ℤ-*ℤ (pos n) b, pos_times n a b h)

times_pos : (n : ℕ) (a b : ℤ) → a ≤ℤ b → (a *ℤ pos n) ≤ℤ (b *ℤ pos n)
times_pos n a b h = omega (arith, ints, *ℤ_comm a (pos n), *ℤ_comm b (pos n), pos_times n a b h)

times_negsuc : (n : ℕ) (a b : ℤ) → a ≤ℤ b → (b *ℤ negsuc n) ≤ℤ (a *ℤ negsuc n)
times_negsuc n a b h = omega (arith, ints, *ℤ-negsuc a n, *ℤ-negsuc b n, times_pos (suc n) a b h)

-- one of the ends gives a product that is at most this one, and one gives a product that is at least this one
end_below : (l u h v : ℤ) → l ≤ℤ u → u ≤ℤ h → ((l *ℤ v) ≤ℤ (u *ℤ v)) ⊎ ((h *ℤ v) ≤ℤ (u *ℤ v))
end_below l u h (pos n) p q = inl (times_pos n l u p)
end_below l u h (negsuc n) p q = inr (times_negsuc n u h q)

end_above : (l u h v : ℤ) → l ≤ℤ u → u ≤ℤ h → ((u *ℤ v) ≤ℤ (l *ℤ v)) ⊎ ((u *ℤ v) ≤ℤ (h *ℤ v))
end_above l u h (pos n) p q = inr (times_pos n u h q)
end_above l u h (negsuc n) p q = inl (times_negsuc n l u p)

-- the same on the right
right_below : (v l u h : ℤ) → l ≤ℤ u → u ≤ℤ h → ((v *ℤ l) ≤ℤ (v *ℤ u)) ⊎ ((v *ℤ h) ≤ℤ (v *ℤ u))
right_below v l u h p q = elim (end_below l u h v p q) [
  | inl r ↦ inl (omega (arith, ints, *ℤ_comm v l, *ℤ_comm v u, r))
  | inr r ↦ inr (omega (arith, ints, *ℤ_comm v h, *ℤ_comm v u, r))
]

right_above : (v l u h : ℤ) → l ≤ℤ u → u ≤ℤ h → ((v *ℤ u) ≤ℤ (v *ℤ l)) ⊎ ((v *ℤ u) ≤ℤ (v *ℤ h))
right_above v l u h p q = elim (end_above l u h v p q) [
  | inl r ↦ inl (omega (arith, ints, *ℤ_comm v l, *ℤ_comm v u, r))
  | inr r ↦ inr (omega (arith, ints, *ℤ_comm v h, *ℤ_comm v u, r))
]

-- a value above one of four is above the least of them, and one below one of four is below the greatest
lesser_of_left : (a b v : Value) → at_most a v ≡ true → at_most (lesser a b) v ≡ true
lesser_of_left a b v h = at_most_trans _ a v (lesser_left a b) h

lesser_of_right : (a b v : Value) → at_most b v ≡ true → at_most (lesser a b) v ≡ true
lesser_of_right a b v h = at_most_trans _ b v (lesser_right a b) h

greater_of_left : (a b v : Value) → at_most v a ≡ true → at_most v (greater a b) ≡ true
greater_of_left a b v h = at_most_trans v a _ h (greater_left a b)

greater_of_right : (a b v : Value) → at_most v b ≡ true → at_most v (greater a b) ≡ true
greater_of_right a b v h = at_most_trans v b _ h (greater_right a b)

int_trans : (a b c : ℤ) → a ≤ℤ b → b ≤ℤ c → a ≤ℤ c
int_trans a b c p q = omega (arith, ints)

-- one of four values is at most this one, or at least
OneBelow : Value → Value → Value → Value → Value → Type 0
OneBelow a b c d v = ((at_most a v ≡ true) ⊎ (at_most b v ≡ true)) ⊎ ((at_most c v ≡ true) ⊎ (at_most d v ≡ true))

OneAbove : Value → Value → Value → Value → Value → Type 0
OneAbove a b c d v = ((at_most v a ≡ true) ⊎ (at_most v b ≡ true)) ⊎ ((at_most v c ≡ true) ⊎ (at_most v d ≡ true))

least_below : (a b c d v : Value) → OneBelow a b c d v → at_most (on_ranges.least_of_four a b c d) v ≡ true
unfolding OneBelow
least_below a b c d v (inl (inl h)) = lesser_of_left (lesser a b) (lesser c d) v (lesser_of_left a b v h)
least_below a b c d v (inl (inr h)) = lesser_of_left (lesser a b) (lesser c d) v (lesser_of_right a b v h)
least_below a b c d v (inr (inl h)) = lesser_of_right (lesser a b) (lesser c d) v (lesser_of_left c d v h)
least_below a b c d v (inr (inr h)) = lesser_of_right (lesser a b) (lesser c d) v (lesser_of_right c d v h)

greatest_above : (a b c d v : Value) → OneAbove a b c d v → at_most v (on_ranges.greatest_of_four a b c d) ≡ true
unfolding OneAbove
greatest_above a b c d v (inl (inl h)) = greater_of_left (greater a b) (greater c d) v (greater_of_left a b v h)
greatest_above a b c d v (inl (inr h)) = greater_of_left (greater a b) (greater c d) v (greater_of_right a b v h)
greatest_above a b c d v (inr (inl h)) = greater_of_right (greater a b) (greater c d) v (greater_of_left c d v h)
greatest_above a b c d v (inr (inr h)) = greater_of_right (greater a b) (greater c d) v (greater_of_right c d v h)

module _ (la u ha lb v hb : ℤ) (al : la ≤ℤ u) (ah : u ≤ℤ ha) (bl : lb ≤ℤ v) (bh : v ≤ℤ hb) where
  one_below : OneBelow (Int (la *ℤ lb)) (Int (la *ℤ hb)) (Int (ha *ℤ lb)) (Int (ha *ℤ hb)) (Int (u *ℤ v))
  unfolding OneBelow
  one_below = elim (end_below la u ha v al ah) [
    | inl p ↦ inl (elim (right_below la lb v hb bl bh) [
      | inl q ↦ inl (at_most_int (la *ℤ lb) (u *ℤ v) (int_trans (la *ℤ lb) (la *ℤ v) (u *ℤ v) q p))
      | inr q ↦ inr (at_most_int (la *ℤ hb) (u *ℤ v) (int_trans (la *ℤ hb) (la *ℤ v) (u *ℤ v) q p))
    ])
    | inr p ↦ inr (elim (right_below ha lb v hb bl bh) [
      | inl q ↦ inl (at_most_int (ha *ℤ lb) (u *ℤ v) (int_trans (ha *ℤ lb) (ha *ℤ v) (u *ℤ v) q p))
      | inr q ↦ inr (at_most_int (ha *ℤ hb) (u *ℤ v) (int_trans (ha *ℤ hb) (ha *ℤ v) (u *ℤ v) q p))
    ])
  ]

  one_above : OneAbove (Int (la *ℤ lb)) (Int (la *ℤ hb)) (Int (ha *ℤ lb)) (Int (ha *ℤ hb)) (Int (u *ℤ v))
  unfolding OneAbove
  one_above = elim (end_above la u ha v al ah) [
    | inl p ↦ inl (elim (right_above la lb v hb bl bh) [
      | inl q ↦ inl (at_most_int (u *ℤ v) (la *ℤ lb) (int_trans (u *ℤ v) (la *ℤ v) (la *ℤ lb) p q))
      | inr q ↦ inr (at_most_int (u *ℤ v) (la *ℤ hb) (int_trans (u *ℤ v) (la *ℤ v) (la *ℤ hb) p q))
    ])
    | inr p ↦ inr (elim (right_above ha lb v hb bl bh) [
      | inl q ↦ inl (at_most_int (u *ℤ v) (ha *ℤ lb) (int_trans (u *ℤ v) (ha *ℤ v) (ha *ℤ lb) p q))
      | inr q ↦ inr (at_most_int (u *ℤ v) (ha *ℤ hb) (int_trans (u *ℤ v) (ha *ℤ v) (ha *ℤ hb) p q))
    ])
  ]

  -- the least and the greatest of the four products hold each product
  pub products_within : (g : Value) → Within kind.Int (range (on_ranges.least_of_four (Int (la *ℤ lb)) (Int (la *ℤ hb)) (Int (ha *ℤ lb)) (Int (ha *ℤ hb))) g (on_ranges.greatest_of_four (Int (la *ℤ lb)) (Int (la *ℤ hb)) (Int (ha *ℤ lb)) (Int (ha *ℤ hb)))) (Int (u *ℤ v))
  products_within g =
      let a = Int (la *ℤ lb) in
      let b = Int (la *ℤ hb) in
      let c = Int (ha *ℤ lb) in
      let d = Int (ha *ℤ hb) in
      record {
        lo_kind = kind_lesser kind.Int (lesser a b) (lesser c d) (kind_lesser kind.Int a b refl refl) (kind_lesser kind.Int c d refl refl);
        hi_kind = kind_greater kind.Int (greater a b) (greater c d) (kind_greater kind.Int a b refl refl) (kind_greater kind.Int c d refl refl);
        kind = refl;
        lo = least_below a b c d (Int (u *ℤ v)) one_below;
        hi = greatest_above a b c d (Int (u *ℤ v)) one_above;
      }

-- the range of a product holds it
pub multiply_within : (a b : Span) (u v : Value) → Within kind.Int a u → Within kind.Int b v → Within kind.Int (on_ranges.multiply a b) (on_values.multiply u v)
multiply_within a b u v x y =
    products_within _ _ _ _ _ _ (lower_number a u x) (upper_number a u x) (lower_number b v y) (upper_number b v y) _

hull_left : (k : Kind) (a b : Span) (g u : Value) → Within k a u → kind_of b.lo ≡ k → kind_of b.hi ≡ k → Within k (range (lesser a.lo b.lo) g (greater a.hi b.hi)) u
hull_left k a b g u x p q = record {
  lo_kind = kind_lesser k a.lo b.lo x.lo_kind p;
  hi_kind = kind_greater k a.hi b.hi x.hi_kind q;
  kind = x.kind;
  lo = lesser_of_left a.lo b.lo u x.lo;
  hi = greater_of_left a.hi b.hi u x.hi;
}

hull_right : (k : Kind) (a b : Span) (g v : Value) → Within k b v → kind_of a.lo ≡ k → kind_of a.hi ≡ k → Within k (range (lesser a.lo b.lo) g (greater a.hi b.hi)) v
hull_right k a b g v y p q = record {
  lo_kind = kind_lesser k a.lo b.lo p y.lo_kind;
  hi_kind = kind_greater k a.hi b.hi q y.hi_kind;
  kind = y.kind;
  lo = lesser_of_right a.lo b.lo v y.lo;
  hi = greater_of_right a.hi b.hi v y.hi;
}

module _ (k : Kind) (a b r : Span) (u v : Value) (x : Within k a u) (y : Within k b v) (ru : Within k r u) (rv : Within k r v) where
  chosen : (l h t : Bool) → (l ≡ true → t ≡ true) → (t ≡ true → h ≡ true) → Within k (if l then a else (if not h then b else r)) (if t then u else v)
  chosen true h true f g = x
  chosen true h false f g = absurd (true≢false (sym (f refl)))
  chosen false true true f g = ru
  chosen false true false f g = rv
  chosen false false true f g = absurd (true≢false (sym (g refl)))
  chosen false false false f g = y

-- the range of a CASE holds it
pub choose_within : (k : Kind) (c a b : Span) (t u v : Value) → Within kind.Flag c t → Within k a u → Within k b v → Within k (on_ranges.choose c a b) (on_values.choose t u v)
choose_within k c a b t u v w x y =
    chosen k a b (range (lesser a.lo b.lo) (on_values.choose c.sg a.sg b.sg) (greater a.hi b.hi)) u v x y
    (hull_left k a b _ u x y.lo_kind y.hi_kind)
    (hull_right k a b _ v y x.lo_kind x.hi_kind)
    (is_true c.lo) (is_true c.hi) (is_true t)
    (lower_flag c t w) (upper_flag c t w)

-- Each operator on ranges holds the ordinary value where its arguments do.
pub holds_along : Related Within on_ranges.on_ranges on_values.ordinary
holds_along = record {
  literal = λ v. record { lo_kind = refl; hi_kind = refl; kind = refl; lo = at_most_refl v; hi = at_most_refl v };
  add = λ a b u v. add_within a b u v;
  subtract = λ a b u v. subtract_within a b u v;
  multiply = λ a b u v. multiply_within a b u v;
  negate = λ a u. negate_within a u;
  compare = λ how k a b u v. compare_within how k a b u v;
  and = λ a b u v. and_within a b u v;
  or = λ a b u v. or_within a b u v;
  not = λ a u. not_within a u;
  choose = λ k c a b t u v. choose_within k c a b t u v;
}

-- the range of an expression holds its ordinary value, where each cell holds the value's
pub range_holds : (ks : List Kind) (rs : List Span) (vs : List Value) → RelatedRows Within ks rs vs → (e : Term) (k : Kind) → kind_in ks e ≡ Some k → Within k (range_of e rs) (value_of e vs)
range_holds ks rs vs rows e k h = evaluate_along Within on_ranges.on_ranges on_values.ordinary holds_along ks rs vs rows e k h

module _ (a b : Span) (lo hi : Value) where
  chosen_guess : (l h t : Bool) → (l ≡ true → t ≡ true) → (t ≡ true → h ≡ true) → (if l then a else (if not h then b else range lo (if t then a.sg else b.sg) hi)).sg ≡ (if t then a.sg else b.sg)
  chosen_guess true h true f g = refl
  chosen_guess true h false f g = absurd (true≢false (sym (f refl)))
  chosen_guess false true t f g = refl
  chosen_guess false false true f g = absurd (true≢false (sym (g refl)))
  chosen_guess false false false f g = refl

choose_guess : (c a b : Span) → Within kind.Flag c c.sg → (on_ranges.choose c a b).sg ≡ on_values.choose c.sg a.sg b.sg
choose_guess c a b w =
    chosen_guess a b (lesser a.lo b.lo) (greater a.hi b.hi) (is_true c.lo) (is_true c.hi) (is_true c.sg) (lower_flag c c.sg w) (upper_flag c c.sg w)

compare_guess : (how : Comparison) (a b : Span) → (on_ranges.compare how a b).sg ≡ on_values.compare how a.sg b.sg
compare_guess how.Equal a b = refl
compare_guess how.Differs a b = refl
compare_guess how.Less a b = refl
compare_guess how.AtMost a b = refl
compare_guess how.Greater a b = refl
compare_guess how.AtLeast a b = refl

-- Each operator on ranges guesses the ordinary value of the guesses.
pub guess_along : Related GuessIs on_ranges.on_ranges on_values.ordinary
guess_along = record {
  literal = λ v. record { valid = holds_along.literal v; is = refl };
  add = λ a b u v p q. record { valid = add_within a b a.sg b.sg p.valid q.valid; is = λ i. on_values.add (p.is i) (q.is i) };
  subtract = λ a b u v p q. record { valid = subtract_within a b a.sg b.sg p.valid q.valid; is = λ i. on_values.subtract (p.is i) (q.is i) };
  multiply = λ a b u v p q. record { valid = multiply_within a b a.sg b.sg p.valid q.valid; is = λ i. on_values.multiply (p.is i) (q.is i) };
  negate = λ a u p. record { valid = negate_within a a.sg p.valid; is = λ i. on_values.negate (p.is i) };
  compare = λ how k a b u v p q. record {
    valid = subst (λ g. Within kind.Flag (on_ranges.compare how a b) g) (sym (compare_guess how a b)) (compare_within how k a b a.sg b.sg p.valid q.valid);
    is = compare_guess how a b ∙ (λ i. on_values.compare how (p.is i) (q.is i));
  };
  and = λ a b u v p q. record { valid = and_within a b a.sg b.sg p.valid q.valid; is = λ i. on_values.and (p.is i) (q.is i) };
  or = λ a b u v p q. record { valid = or_within a b a.sg b.sg p.valid q.valid; is = λ i. on_values.or (p.is i) (q.is i) };
  not = λ a u p. record { valid = not_within a a.sg p.valid; is = λ i. on_values.opposite (p.is i) };
  choose = λ k c a b t u v p q r. record {
    valid = subst (λ g. Within k (on_ranges.choose c a b) g) (sym (choose_guess c a b p.valid)) (choose_within k c a b c.sg a.sg b.sg p.valid q.valid r.valid);
    is = choose_guess c a b p.valid ∙ (λ i. on_values.choose (p.is i) (q.is i) (r.is i));
  };
}

-- the guess of an expression's range is its value on the row's guesses
pub range_guesses : (ks : List Kind) (rs : List Span) (vs : List Value) → RelatedRows GuessIs ks rs vs → (e : Term) (k : Kind) → kind_in ks e ≡ Some k → GuessIs k (range_of e rs) (value_of e vs)
range_guesses ks rs vs rows e k h = evaluate_along GuessIs on_ranges.on_ranges on_values.ordinary guess_along ks rs vs rows e k h
