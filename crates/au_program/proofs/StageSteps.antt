-- A plan over tables behind others, from the plans of its inputs over parts of them.
use Rattle.std.specs.Prelude.{◌≡◌, ℕ, ◌+◌, ◌*◌, List, [], ◌∷◌, ◌++◌, length, Some, slice_get, ℤ, suc}
use Rattle.std.specs.List.{AllZip}
use Rattle.std.proofs.Common.{arith, refl, sym, ◌∙◌, ap, subst, append_assoc}
use Rattle.std.proofs.lemmas.List.{length-append}
use Rattle.au_value.specs.declared.kinds.Kind.{Kind}
use Rattle.au_algebra.specs.Bounded.{Bounded}
use Rattle.au_algebra.specs.Laws.{IsRelation}
use Rattle.au_algebra.specs.Ordinary.{Rows}
use Rattle.au_plain.specs.PlanKinds.{FitTables, HaveKinds}
use Rattle.au_plain.specs.Plans.{PlanTree, Scan}
use Rattle.au_encode.specs.Encode.{encode, encoded_kinds}
use Rattle.au_encode.specs.Gives.{GivesRelation}
use Rattle.au_encode.proofs.EncodedKinds.{rows_have_kinds}
use Rattle.au_rwexpr.proofs.Filled.{scan_gives as scanned}
use Rattle.au_expr.specs.Figures.{Fit}
use Rattle.au_program.specs.Stages.{Adds, GivesOver, SameRows}
use Rattle.au_program.proofs.Operators.{more_numbers}

-- ---- lists behind lists

-- the item behind some
item_at : {A : Type 0} (xs : List A) (x : A) (ys : List A) → slice_get ((xs ++ x ∷ []) ++ ys) (length xs) ≡ Some x
item_at [] x ys = refl
item_at (y ∷ xs) x ys = item_at xs x ys

-- as long as each other
as_long : {A B : Type 0} (R : A → B → Type 0) (xs : List A) (ys : List B) → AllZip R xs ys → length xs ≡ length ys
as_long R [] [] h = refl
as_long R [] (y ∷ ys) h = elim h [ ]
as_long R (x ∷ xs) [] h = elim h [ ]
as_long R (x ∷ xs) (y ∷ ys) h = ap suc (as_long R xs ys h.1)

zip_append : {A B : Type 0} (R : A → B → Type 0) (xs us : List A) (ys vs : List B) → AllZip R xs ys → AllZip R us vs → AllZip R (xs ++ us) (ys ++ vs)
zip_append R [] us [] vs h k = k
zip_append R [] us (y ∷ ys) vs h k = elim h [ ]
zip_append R (x ∷ xs) us [] vs h k = elim h [ ]
zip_append R (x ∷ xs) us (y ∷ ys) vs h k = (h.0, zip_append R xs us ys vs h.1 k)

-- two lists between others, grouped as one of them needs it
left_group : {A : Type 0} (xs ys zs us : List A) → (xs ++ ys) ++ (zs ++ us) ≡ (xs ++ (ys ++ zs)) ++ us
left_group xs ys zs us = sym (append_assoc (xs ++ ys) zs us) ∙ ap (λ l. l ++ us) (append_assoc xs ys zs)

right_group : {A : Type 0} (xs ys zs us : List A) → ((xs ++ ys) ++ zs) ++ us ≡ (xs ++ (ys ++ zs)) ++ us
right_group xs ys zs us = ap (λ l. l ++ us) (append_assoc xs ys zs)

-- ---- a plan over tables

-- a plan gives the same over the same tables
moved : (p : PlanTree) (ks : List Kind) (rows : Bounded) (ns : List ℤ) (tk uk : List (List Kind)) (ts us : List Rows) → tk ≡ uk → ts ≡ us → GivesRelation tk ts p ks rows ns → GivesRelation uk us p ks rows ns
moved p ks rows ns tk uk ts us e f g = subst (λ hs. GivesRelation uk hs p ks rows ns) f (subst (λ hs. GivesRelation hs ts p ks rows ns) e g)

-- the Scan of rows that were put behind others
module _ (old new : List Rows) (found : Rows) (behind : new ≡ old ++ found ∷ []) (c : ℕ) (ks : List Kind) (rows : Bounded) (long : length ks ≡ c) (relation : IsRelation ks rows) (same : SameRows found (encode rows)) where
  scan_gives :
      (ns : List ℤ) (front back : List (List Kind)) (before after : List Rows) → length front ≡ length old → length before ≡ length old →
      GivesRelation ((front ++ encoded_kinds ks ∷ []) ++ back) ((before ++ encode rows ∷ []) ++ after) (Scan (length old) (3 * length ks + 3)) ks rows ns
  scan_gives ns front back before after fn bn =
      let tk = (front ++ encoded_kinds ks ∷ []) ++ back in
      let tables = (before ++ encode rows ∷ []) ++ after in
      let kind : slice_get tk (length old) ≡ Some (encoded_kinds ks) = subst (λ n. slice_get tk n ≡ Some (encoded_kinds ks)) fn (item_at front (encoded_kinds ks) back) in
      let table : slice_get tables (length old) ≡ Some (encode rows) = subst (λ n. slice_get tables n ≡ Some (encode rows)) bn (item_at before (encode rows) after) in
      scanned tk tables (length old) ks rows ns kind table relation

  pub scan_adds : (p : PlanTree) → p ≡ Scan (length old) (3 * c + 3) → (ns : List ℤ) → Adds old new p c ks rows ns
  scan_adds p is ns =
      let scan : p ≡ Scan (length old) (3 * length ks + 3) = is ∙ ap (λ n. Scan (length old) (3 * n + 3)) (sym long) in
      record {
        added = found ∷ [];
        behind = behind;
        columns = long;
        over = record {
          kinds = encoded_kinds ks ∷ [];
          tables = encode rows ∷ [];
          typed = (rows_have_kinds ks rows relation, tt);
          same = (same, tt);
          gives = λ front back before after fn bn ft.
              subst (λ q. GivesRelation ((front ++ encoded_kinds ks ∷ []) ++ back) ((before ++ encode rows ∷ []) ++ after) q ks rows ns) (sym scan)
              (scan_gives ns front back before after fn bn);
        };
      }

-- an operator over one input
pub one_adds :
    (old new : List Rows) (of made : PlanTree) (c d : ℕ) (ks js : List Kind) (rows out : Bounded) (ms ns : List ℤ) → length js ≡ d →
    ((tk : List (List Kind)) (tables : List Rows) → FitTables tables → GivesRelation tk tables of ks rows ms → GivesRelation tk tables made js out ns) →
    Adds old new of c ks rows ms → Adds old new made d js out ns
one_adds old new of made c d ks js rows out ms ns long step a = record {
  added = a.added;
  behind = a.behind;
  columns = long;
  over = record {
    kinds = a.over.kinds;
    tables = a.over.tables;
    typed = a.over.typed;
    same = a.over.same;
    gives = λ front back before after fn bn ft.
        step ((front ++ a.over.kinds) ++ back) ((before ++ a.over.tables) ++ after) ft (a.over.gives front back before after fn bn ft);
  };
}

-- an operator over two inputs
module _ (left right made : PlanTree) (ks js hs : List Kind) (xs ys zs : Bounded) (ms ns os : List ℤ) (step : (tk : List (List Kind)) (tables : List Rows) → FitTables tables → GivesRelation tk tables left ks xs ms → GivesRelation tk tables right js ys ns → GivesRelation tk tables made hs zs os) where
  two_over : (n : ℕ) (L R : List Rows) → GivesOver n L left ks xs ms → GivesOver (n + length L) R right js ys ns → GivesOver n (L ++ R) made hs zs os
  two_over n L R g h = record {
    kinds = g.kinds ++ h.kinds;
    tables = g.tables ++ h.tables;
    typed = zip_append HaveKinds g.kinds h.kinds g.tables h.tables g.typed h.typed;
    same = zip_append SameRows L R g.tables h.tables g.same h.same;
    gives = λ front back before after fn bn ft.
        let ka = left_group front g.kinds h.kinds back in
        let ta = left_group before g.tables h.tables after in
        let kb = right_group front g.kinds h.kinds back in
        let tb = right_group before g.tables h.tables after in
        let tables_long : length g.tables ≡ length L = sym (as_long SameRows L g.tables g.same) in
        let kinds_long : length g.kinds ≡ length L = as_long HaveKinds g.kinds g.tables g.typed ∙ tables_long in
        let fm : length (front ++ g.kinds) ≡ n + length L = omega (arith, length-append front g.kinds, fn, kinds_long) in
        let bm : length (before ++ g.tables) ≡ n + length L = omega (arith, length-append before g.tables, bn, tables_long) in
        step ((front ++ (g.kinds ++ h.kinds)) ++ back) ((before ++ (g.tables ++ h.tables)) ++ after) ft
        (moved left ks xs ms _ _ _ _ ka ta (g.gives front (h.kinds ++ back) before (h.tables ++ after) fn bn (subst FitTables (sym ta) ft)))
        (moved right js ys ns _ _ _ _ kb tb (h.gives (front ++ g.kinds) back (before ++ g.tables) after fm bm (subst FitTables (sym tb) ft)));
  }

  pub two_adds : (old mid new : List Rows) (c d e : ℕ) → length hs ≡ d → Adds old mid left c ks xs ms → Adds mid new right e js ys ns → Adds old new made d hs zs os
  two_adds old mid new c d e long a b = record {
    added = a.added ++ b.added;
    behind = b.behind ∙ ap (λ l. l ++ b.added) a.behind ∙ append_assoc old a.added b.added;
    columns = long;
    over =
        two_over (length old) a.added b.added a.over
        (subst (λ m. GivesOver m b.added right js ys ns) (ap length a.behind ∙ length-append old a.added) b.over);
  }

-- a plan gives what it gives also where more numbers are to fit
pub more_adds : (old new : List Rows) (p : PlanTree) (c : ℕ) (ks : List Kind) (rows : Bounded) (ms ns : List ℤ) → (Fit ns → Fit ms) → Adds old new p c ks rows ms → Adds old new p c ks rows ns
more_adds old new p c ks rows ms ns less a =
    one_adds old new p p c c ks ks rows rows ms ns a.columns (λ tk tables fits g. more_numbers tk tables p ks rows ms ns less g) a
