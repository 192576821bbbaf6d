-- The answer of a term from those of its parts.
use Rattle.std.proofs.Common.{◌≡◌, ℕ, ◌+◌, ◌<◌, ◌≤◌, List, [], ◌∷◌, ◌++◌, length, map, Some, None, refl, sym, ap, ◌∙◌, arith, append_assoc, subst, inl, inr, length-append}
use Rattle.std.specs.Prelude.{Result, Ok, Err, Contains, Option, option_map}
use Rattle.std.proofs.lemmas.List.{map-append, length-map}
use Rattle.std.proofs.lemmas.List.Elements.{Contains-append_left, Contains-append_right}
use Rattle.au_value.specs.declared.kinds.Kind.{Kind}
use Rattle.au_expr.specs.Terms.{Term, term, Negate, Not, Case}
use Rattle.au_parse.specs.declared.AggWord.{AggWord}
use Rattle.au_parse.specs.declared.AggWord.TheVariants as word
use Rattle.au_expr.specs.declared.expr.Expr.{Expr}
use Rattle.au_parse.specs.Levels.{arms_tree}
use Rattle.au_parse.specs.Tree.{TermTree, Operator}
use Rattle.au_parse.specs.Views.{term_tree}
use Rattle.au_parse.specs.declared.Term.{Term as Node}
use Rattle.au_parse.specs.declared.Term as node
use Rattle.au_typing.specs.Aggregates.{Written, written, column_agg, taken_from}
use Rattle.au_typing.specs.Scales.{rescaled, scale}
use Rattle.au_typing.specs.Scopes.{Scope}
use Rattle.au_typing.specs.Shapes.{if_arms, signed_tree, signed_kind, signed_term, argument_given}
use Rattle.au_typing.specs.Terms.{Setting, term_faults, term_kind, resolved_expression, argument_of, branches, operated, rows, argument_term, aggregate_faults, is_extreme, is_counting}
use Rattle.au_typing.specs.Results.{Answer, Answers, CaseAnswers, Takes, TermFound, Gathers, Joins, Signs, Chooses, EndsCase, IsFlag, ClauseAnswers, next_column}
use Rattle.au_typing.specs.declared.fault.TypingFault.{TypingFault}
use Rattle.au_typing.specs.declared.fault.TypingFault.TheVariants as fault
use Rattle.au_typing.specs.declared.setting.Gathered.{Gathered}
use Rattle.au_typing.specs.declared.shape.Sign.{Sign}
use Rattle.au_typing.specs.declared.shape.Sign.TheVariants as sign
use Rattle.au_typing.proofs.Rescaled.{choice_few, own_scale, unscaled}
use Rattle.au_typing.specs.Queries.{Refuses}

-- what is taken of more aggregates
taken_from-append : (n : ℕ) (ws vs : List Written) → taken_from n (ws ++ vs) ≡ taken_from n ws ++ taken_from (n + length ws) vs
taken_from-append n [] vs = ap (λ k. taken_from k vs) (omega arith)
taken_from-append n (w ∷ ws) vs =
    let e : n + 1 + length ws ≡ n + length (w ∷ ws) = omega arith in
    ap (λ r. column_agg w.word n ∷ r) (taken_from-append (n + 1) ws vs ∙ ap (λ k. taken_from (n + 1) ws ++ taken_from k vs) e)

-- the column behind those that were gathered
pub next_after : (s : Scope) (g : Setting) (n : ℕ) (ws : List Written) (old new : Gathered) → Gathers s n ws old new → next_column g new ≡ next_column g old + length ws
next_after s g n ws old new more =
    let e : length new.arguments.items ≡ length old.arguments.items + length ws =
    sym (length-map new.arguments.items term) ∙ ap length more.arguments ∙ length-append (map term old.arguments.items) (map (argument_of s) ws)
    ∙ ap (λ k. k + length (map (argument_of s) ws)) (length-map old.arguments.items term) ∙ ap (λ k. length old.arguments.items + k) (length-map ws (argument_of s)) in
    omega (arith, e)

-- gathered, and then more
pub gathers_on : (s : Scope) (n : ℕ) (ws vs : List Written) (old mid new : Gathered) → Gathers s n ws old mid → Gathers s (n + length ws) vs mid new → Gathers s n (ws ++ vs) old new
gathers_on s n ws vs old mid new first more = record {
  arguments = more.arguments ∙ ap (λ xs. xs ++ map (argument_of s) vs) first.arguments ∙ append_assoc (map term old.arguments.items) (map (argument_of s) ws) (map (argument_of s) vs)
      ∙ ap (λ xs. map term old.arguments.items ++ xs) (sym (map-append (argument_of s) ws vs));
  aggs = more.aggs ∙ ap (λ xs. xs ++ taken_from (n + length ws) vs) first.aggs ∙ append_assoc old.aggs.items (taken_from n ws) (taken_from (n + length ws) vs)
      ∙ ap (λ xs. old.aggs.items ++ xs) (sym (taken_from-append n ws vs));
}

-- a fault of the left, and of the right
pub refuses_left : (xs ys : List TypingFault) (f : TypingFault) → Refuses xs f → Refuses (xs ++ ys) f
refuses_left xs ys f (inl m) = inl m
refuses_left xs ys f (inr in_xs) = inr (Contains-append_left xs ys f in_xs)

pub refuses_right : (xs ys : List TypingFault) (f : TypingFault) → Refuses ys f → Refuses (xs ++ ys) f
refuses_right xs ys f (inl m) = inl m
refuses_right xs ys f (inr in_ys) = inr (Contains-append_right xs ys f in_ys)

-- the kinds of the operands of an operator
kinds_known : (o : Operator) (j k m n : Option Kind) (a b : Term) → j ≡ m → k ≡ n → operated o j k a b ≡ operated o m n a b
kinds_known o j k m n a b p q = λ i. operated o (p i) (q i) a b

-- the answer of an operator
pub join_step : (s : Scope) (g : Setting) (around at : ℕ) (o : Operator) (l r : TermTree) (old mid new : Gathered) (x y z : Answer)
    → Answers s g around l old mid x → Answers s g around r mid new y → Joins o at x y z → Answers s g around (TermTree.binary at o l r) old new z
join_step s g around at o l r old mid new (Ok x) (Ok y) (Ok z) fx fy j =
    let column : next_column g mid ≡ next_column g old + length (written l) = next_after s g (next_column g old) (written l) old mid fx.1 in
    let right : resolved_expression s g (next_column g old + length (written l)) r ≡ term y.0 = ap (λ k. resolved_expression s g k r) (sym column) ∙ fy.0.term in (
      record {
        sound = rw (fx.0.sound, fy.0.sound, fx.0.kind, fy.0.kind, j.0) refl;
        kind = rw (fx.0.kind, fy.0.kind) j.0;
        term = ap (λ e. operated o (term_kind s l) (term_kind s r) e (resolved_expression s g (next_column g old + length (written l)) r)) fx.0.term
            ∙ ap (operated o (term_kind s l) (term_kind s r) (term x.0)) right ∙ kinds_known o (term_kind s l) (term_kind s r) (Some x.1) (Some y.1) (term x.0) (term y.0) fx.0.kind fy.0.kind ∙ j.1;
      },
      gathers_on s (next_column g old) (written l) (written r) old mid new fx.1 (subst (λ k. Gathers s k (written r) mid new) column fy.1),
    )
join_step s g around at o l r old mid new (Ok x) (Ok y) (Err f) fx fy (inl m) = inl m
join_step s g around at o l r old mid new (Ok x) (Ok y) (Err f) fx fy (inr j) =
    refuses_right (term_faults s g around l ++ term_faults s g around r) _ f (rw (fx.0.kind, fy.0.kind, j.1) (inr (0, omega arith, sym j.0)))
join_step s g around at o l r old mid new (Ok x) (Err h) (Ok z) fx fy j = absurd (cc)
join_step s g around at o l r old mid new (Ok x) (Err h) (Err f) fx fy j =
    let same : h ≡ f = cc in
    refuses_left (term_faults s g around l ++ term_faults s g around r) _ f (refuses_right (term_faults s g around l) (term_faults s g around r) f (subst (Refuses (term_faults s g around r)) same fy))
join_step s g around at o l r old mid new (Err h) y (Ok z) fx fy j = absurd (cc)
join_step s g around at o l r old mid new (Err h) y (Err f) fx fy j =
    let same : h ≡ f = cc in
    refuses_left (term_faults s g around l ++ term_faults s g around r) _ f (refuses_left (term_faults s g around l) (term_faults s g around r) f (subst (Refuses (term_faults s g around l)) same fx))

-- the answer of a sign or NOT
sign_right : (s : Scope) (g : Setting) (around at : ℕ) (t : Sign) (e : TermTree) (f : TypingFault) → Refuses (term_faults s g around e) f → Refuses (term_faults s g around (signed_tree at t e)) f
sign_right s g around at sign.Minus e f h = refuses_left _ _ f h
sign_right s g around at sign.Not e f h = refuses_left _ _ f h

sign_misfit : (s : Scope) (g : Setting) (around at : ℕ) (t : Sign) (e : TermTree) (k : Kind) → term_kind s e ≡ Some k → signed_kind t (Some k) ≡ None → Refuses (term_faults s g around (signed_tree at t e)) (fault.KindMismatch at)
sign_misfit s g around at sign.Minus e k is misfits = refuses_right (term_faults s g around e) _ (fault.KindMismatch at) (rw (is, misfits) (inr (0, omega arith, refl)))
sign_misfit s g around at sign.Not e k is misfits = refuses_right (term_faults s g around e) _ (fault.KindMismatch at) (rw (is, misfits) (inr (0, omega arith, refl)))

sign_found : (s : Scope) (g : Setting) (around at n : ℕ) (t : Sign) (e : TermTree) (a b : Term) (k j : Kind) → TermFound s g around n e a k → signed_kind t (Some k) ≡ Some j → signed_term t a ≡ b → TermFound s g around n (signed_tree at t e) b j
sign_found s g around at n sign.Minus e a b k j found fits is = record { sound = rw (found.sound, found.kind, fits) refl; kind = rw found.kind fits; term = ap Negate found.term ∙ is }
sign_found s g around at n sign.Not e a b k j found fits is = record { sound = rw (found.sound, found.kind, fits) refl; kind = rw found.kind fits; term = ap Not found.term ∙ is }

sign_written : (at : ℕ) (t : Sign) (e : TermTree) → written e ≡ written (signed_tree at t e)
sign_written at sign.Minus e = refl
sign_written at sign.Not e = refl

pub sign_step : (s : Scope) (g : Setting) (around at : ℕ) (t : Sign) (e : TermTree) (old new : Gathered) (x z : Answer)
    → Answers s g around e old new x → Signs t at x z → Answers s g around (signed_tree at t e) old new z
sign_step s g around at t e old new (Ok x) (Ok z) fx j =
    (sign_found s g around at (next_column g old) t e (term x.0) (term z.0) x.1 z.1 fx.0 j.0 j.1, subst (λ ws. Gathers s (next_column g old) ws old new) (sign_written at t e) fx.1)
sign_step s g around at t e old new (Ok x) (Err f) fx (inl m) = inl m
sign_step s g around at t e old new (Ok x) (Err f) fx (inr j) = subst (Refuses (term_faults s g around (signed_tree at t e))) (sym j.0) (sign_misfit s g around at t e x.1 fx.0.kind j.1)
sign_step s g around at t e old new (Err h) (Ok z) fx j = absurd (cc)
sign_step s g around at t e old new (Err h) (Err f) fx j = let same : h ≡ f = cc in subst (Refuses (term_faults s g around (signed_tree at t e))) same (sign_right s g around at t e h fx)

-- a fault of the first, the second and the third part of a WHEN part
when_first : (s : Scope) (g : Setting) (around : ℕ) (c v r : TermTree) (f : TypingFault) → Refuses (term_faults s g around c) f → Refuses (term_faults s g around (TermTree.when c v r)) f
when_first s g around c v r f h =
    refuses_left _ _ f (refuses_left (term_faults s g around c ++ term_faults s g around v) (term_faults s g around r) f (refuses_left (term_faults s g around c) (term_faults s g around v) f h))

when_second : (s : Scope) (g : Setting) (around : ℕ) (c v r : TermTree) (f : TypingFault) → Refuses (term_faults s g around v) f → Refuses (term_faults s g around (TermTree.when c v r)) f
when_second s g around c v r f h =
    refuses_left _ _ f (refuses_left (term_faults s g around c ++ term_faults s g around v) (term_faults s g around r) f (refuses_right (term_faults s g around c) (term_faults s g around v) f h))

when_third : (s : Scope) (g : Setting) (around : ℕ) (c v r : TermTree) (f : TypingFault) → Refuses (term_faults s g around r) f → Refuses (term_faults s g around (TermTree.when c v r)) f
when_third s g around c v r f h = refuses_left _ _ f (refuses_right (term_faults s g around c ++ term_faults s g around v) (term_faults s g around r) f h)

-- the answer of a WHEN part
pub choose_step : (s : Scope) (g : Setting) (around : ℕ) (to : Option Kind) (c v r : TermTree) (old one two new : Gathered) (x y z w : Answer)
    → Answers s g around c old one x → Answers s g around v one two y → CaseAnswers s g around to r two new z → Chooses around to x y z w → CaseAnswers s g around to (TermTree.when c v r) old new w
choose_step s g around to c v r old one two new (Ok x) (Ok y) (Ok z) (Ok w) fx fy fz j =
    let n = next_column g old in
    let first : next_column g one ≡ n + length (written c) = next_after s g n (written c) old one fx.1 in
    let second : next_column g two ≡ n + length (written c) + length (written v) = next_after s g (next_column g one) (written v) one two fy.1 ∙ ap (λ k. k + length (written v)) first in
    let both : length (written c ++ written v) ≡ length (written c) + length (written v) = length-append (written c) (written v) in
    let third : next_column g two ≡ n + length (written c ++ written v) = omega (arith, second, both) in (
      record {
        sound = rw (fx.0.sound, fy.0.sound, fz.0.sound, fx.0.kind, fy.0.kind, fz.0.kind, j.0) refl;
        kind = rw (fx.0.kind, fy.0.kind, fz.0.kind) j.0;
        term = ap (λ e. Case e (rescaled (term_kind s v) to (resolved_expression s g (n + length (written c)) v)) (branches s to r (resolved_expression s g (n + length (written c) + length (written v)) r))) fx.0.term
            ∙ ap (λ e. Case (term x.0) (rescaled (term_kind s v) to e) (branches s to r (resolved_expression s g (n + length (written c) + length (written v)) r))) (ap (λ k. resolved_expression s g k v) (sym first) ∙ fy.0.term)
            ∙ ap (λ k. Case (term x.0) (rescaled k to (term y.0)) (branches s to r (resolved_expression s g (n + length (written c) + length (written v)) r))) fy.0.kind
            ∙ ap (Case (term x.0) (rescaled (Some y.1) to (term y.0))) (ap (λ k. branches s to r (resolved_expression s g k r)) (sym second) ∙ fz.0.term) ∙ j.1;
      },
      gathers_on s n (written c ++ written v) (written r) old two new
          (gathers_on s n (written c) (written v) old one two fx.1 (subst (λ k. Gathers s k (written v) one two) first fy.1))
          (subst (λ k. Gathers s k (written r) two new) third fz.1),
    )
choose_step s g around to c v r old one two new (Ok x) (Ok y) (Ok z) (Err f) fx fy fz (inl m) = inl m
choose_step s g around to c v r old one two new (Ok x) (Ok y) (Ok z) (Err f) fx fy fz (inr j) =
    refuses_right (term_faults s g around c ++ term_faults s g around v ++ term_faults s g around r) _ f (rw (fx.0.kind, fy.0.kind, fz.0.kind, j.1) (inr (0, omega arith, sym j.0)))
choose_step s g around to c v r old one two new (Ok x) (Ok y) (Err h) (Ok w) fx fy fz j = absurd (cc)
choose_step s g around to c v r old one two new (Ok x) (Ok y) (Err h) (Err f) fx fy fz j = let same : h ≡ f = cc in subst (Refuses (term_faults s g around (TermTree.when c v r))) same (when_third s g around c v r h fz)
choose_step s g around to c v r old one two new (Ok x) (Err h) z (Ok w) fx fy fz j = absurd (cc)
choose_step s g around to c v r old one two new (Ok x) (Err h) z (Err f) fx fy fz j = let same : h ≡ f = cc in subst (Refuses (term_faults s g around (TermTree.when c v r))) same (when_second s g around c v r h fy)
choose_step s g around to c v r old one two new (Err h) y z (Ok w) fx fy fz j = absurd (cc)
choose_step s g around to c v r old one two new (Err h) y z (Err f) fx fy fz j = let same : h ≡ f = cc in subst (Refuses (term_faults s g around (TermTree.when c v r))) same (when_first s g around c v r h fx)

-- what is no WHEN part is one branch
term_branch : (s : Scope) (to : Option Kind) (t : Node) (e : Term) → branches s to (term_tree t) e ≡ rescaled (term_kind s (term_tree t)) to e
term_branch s to (node.Column name) e = refl
term_branch s to (node.Number at n) e = refl
term_branch s to (node.Decimal at n digits) e = refl
term_branch s to (node.Text at w) e = refl
term_branch s to (node.Flag at b) e = refl
term_branch s to (node.Add' at p l q r) e = refl
term_branch s to (node.Subtract' at p l q r) e = refl
term_branch s to (node.Multiply' at p l q r) e = refl
term_branch s to (node.Negate' at p x) e = refl
term_branch s to (node.Compare' at how p l q r) e = refl
term_branch s to (node.And' at p l q r) e = refl
term_branch s to (node.Or' at p l q r) e = refl
term_branch s to (node.Not' at p x) e = refl
term_branch s to (node.Case' at shape parts p x) e = refl
term_branch s to (node.CountRows at) e = refl
term_branch s to (node.Aggregate' at w p x) e = refl

-- the answer of the value of ELSE
ends_step : (s : Scope) (g : Setting) (around : ℕ) (to : Option Kind) (t : Node) (old new : Gathered) (x z : Answer)
    → Answers s g around (term_tree t) old new x → EndsCase to x z → CaseAnswers s g around to (term_tree t) old new z
ends_step s g around to t old new (Ok x) (Ok z) fx j = (
  record {
    sound = fx.0.sound;
    kind = fx.0.kind ∙ ap Some j.0;
    term = term_branch s to t (resolved_expression s g (next_column g old) (term_tree t)) ∙ (λ i. rescaled (fx.0.kind i) to (fx.0.term i)) ∙ j.1;
  },
  fx.1,
)
ends_step s g around to t old new (Ok x) (Err f) fx j = inl j
ends_step s g around to t old new (Err h) (Ok z) fx j = absurd (cc)
ends_step s g around to t old new (Err h) (Err f) fx j = let same : h ≡ f = cc in subst (Refuses (term_faults s g around (term_tree t))) same fx

-- the argument that is gathered for an aggregate
argument_is : (s : Scope) (word : AggWord) (e : TermTree) (a : Term) → resolved_expression s rows 0 e ≡ a → argument_given word a ≡ argument_term s word (Some e)
argument_is s word.Count e a is = refl
argument_is s word.Sum e a is = sym is
argument_is s word.Min e a is = sym is
argument_is s word.Max e a is = sym is

-- the answer of an aggregate, given that nothing is wrong with its place
pub aggregate_step : (s : Scope) (g : Setting) (around at : ℕ) (w : AggWord) (e : TermTree) (none inside old new : Gathered) (x z : Answer)
    → aggregate_faults g at (is_extreme w) (is_counting w e) ≡ [] → none.arguments.items ≡ []
    → Answers s rows at e none inside x → Takes g w at old new x z → Answers s g around (TermTree.aggregate at w e) old new z
aggregate_step s g around at w e none inside old new (Ok x) (Ok z) sound empty fx j =
    let here_none : length none.arguments.items ≡ 0 = ap length empty in
    let zero : next_column rows none ≡ 0 = omega (arith, here_none) in
    let here : argument_given w (term x.0) ≡ argument_term s w (Some e) = argument_is s w e (term x.0) (ap (λ k. resolved_expression s rows k e) (sym zero) ∙ fx.0.term) in (
      record { sound = rw (sound, fx.0.sound, fx.0.kind, j.0) refl; kind = rw fx.0.kind j.0; term = j.1.column },
      record { arguments = j.1.arguments ∙ ap (λ a. map term old.arguments.items ++ a ∷ []) here; aggs = j.1.aggs },
    )
aggregate_step s g around at w e none inside old new (Ok x) (Err f) sound empty fx (inl m) = inl m
aggregate_step s g around at w e none inside old new (Ok x) (Err f) sound empty fx (inr j) =
    refuses_right (aggregate_faults g at (is_extreme w) (is_counting w e) ++ term_faults s rows at e) _ f (rw (fx.0.kind, j.1) (inr (0, omega arith, sym j.0)))
aggregate_step s g around at w e none inside old new (Err h) (Ok z) sound empty fx j = absurd (cc)
aggregate_step s g around at w e none inside old new (Err h) (Err f) sound empty fx j =
    let same : h ≡ f = cc in
    subst (Refuses (term_faults s g around (TermTree.aggregate at w e))) same
    (refuses_left (aggregate_faults g at (is_extreme w) (is_counting w e) ++ term_faults s rows at e) _ h (refuses_right (aggregate_faults g at (is_extreme w) (is_counting w e)) (term_faults s rows at e) h fx))

-- a fault of an aggregate's place
pub aggregate_misplaced : (s : Scope) (g : Setting) (around at : ℕ) (w : AggWord) (e : TermTree) (f : TypingFault) → Contains (aggregate_faults g at (is_extreme w) (is_counting w e)) f → Refuses (term_faults s g around (TermTree.aggregate at w e)) f
aggregate_misplaced s g around at w e f h =
    refuses_left (aggregate_faults g at (is_extreme w) (is_counting w e) ++ term_faults s rows at e) _ f (refuses_left (aggregate_faults g at (is_extreme w) (is_counting w e)) (term_faults s rows at e) f (inr h))

-- the same of no WHEN part before it
pub ends_case : (s : Scope) (g : Setting) (around : ℕ) (to : Option Kind) (arms : List (Node × Node)) (t : Node) (old new : Gathered) (x z : Answer) → length arms ≡ 0
    → Answers s g around (term_tree t) old new x → EndsCase to x z → CaseAnswers s g around to (arms_tree arms (term_tree t)) old new z
ends_case s g around to [] t old new x z none found j = ends_step s g around to t old new x z found j
ends_case s g around to (arm ∷ arms) t old new x z none found j = absurd (omega (arith, none))

-- a CASE without a WHEN part is the value of its ELSE, of whatever kind
branches_target : (s : Scope) (arms : List (Node × Node)) (otherwise : Node) (e : Term)
    → let parts = arms_tree arms (term_tree otherwise) in branches s (if_arms arms (term_kind s parts)) parts e ≡ branches s (term_kind s parts) parts e
branches_target s [] otherwise e =
    let k = term_kind s (term_tree otherwise) in term_branch s None otherwise e ∙ unscaled k e ∙ sym (own_scale k e) ∙ sym (term_branch s k otherwise e)
branches_target s (arm ∷ arms) otherwise e = refl

-- the branches of a CASE with a WHEN part have 9 digits behind the point at most
pub arms_few : (s : Scope) (arms : List (Node × Node)) (otherwise : Node) → 0 < length arms → scale (term_kind s (arms_tree arms (term_tree otherwise))) ≤ 9
arms_few s [] otherwise some = absurd (omega arith)
arms_few s (arm ∷ arms) otherwise some = choice_few _ (term_kind s (term_tree arm.1)) (term_kind s (arms_tree arms (term_tree otherwise)))

-- the answer of a CASE
pub case_step : (s : Scope) (g : Setting) (around at : ℕ) (to : Option Kind) (arms : List (Node × Node)) (otherwise : Node) (old new : Gathered) (z : Answer)
    → to ≡ if_arms arms (term_kind s (arms_tree arms (term_tree otherwise))) → CaseAnswers s g at to (arms_tree arms (term_tree otherwise)) old new z
    → Answers s g around (TermTree.case at (arms_tree arms (term_tree otherwise))) old new z
case_step s g around at to arms otherwise old new (Ok z) is fx =
    let parts = arms_tree arms (term_tree otherwise) in
    let e = resolved_expression s g (next_column g old) parts in (
      record { sound = fx.0.sound; kind = fx.0.kind; term = sym (branches_target s arms otherwise e) ∙ ap (λ k. branches s k parts e) (sym is) ∙ fx.0.term },
      record { arguments = fx.1.arguments; aggs = fx.1.aggs },
    )
case_step s g around at to arms otherwise old new (Err f) is fx = fx

-- the answer of a WHERE or HAVING
pub clause_step : (s : Scope) (g : Setting) (at : ℕ) (t : TermTree) (old new : Gathered) (x : Answer) (r : Result (Option Expr) TypingFault)
    → Answers s g at t old new x → IsFlag at x r → ClauseAnswers s g (Some (at, t)) old new r
clause_step s g at t old new (Ok x) (Ok o) fx j = (rw (fx.0.sound, fx.0.kind, j.0) refl, ap Some fx.0.term ∙ sym (ap (option_map term) j.1), fx.1)
clause_step s g at t old new (Ok x) (Err f) fx j = refuses_right (term_faults s g at t) _ f (rw (fx.0.kind, j.1) (inr (0, omega arith, sym j.0)))
clause_step s g at t old new (Err h) (Ok o) fx j = absurd (cc)
clause_step s g at t old new (Err h) (Err f) fx j = let same : h ≡ f = cc in refuses_left (term_faults s g at t) _ f (subst (Refuses (term_faults s g at t)) same fx)
