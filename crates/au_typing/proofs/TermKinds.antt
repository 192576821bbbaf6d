-- Terms in which nothing is wrong have the kinds that are named.
use Rattle.std.specs.Prelude.{◌≡◌, ℕ, ◌+◌, ◌&&◌, max, Bool, true, false, List, [], ◌∷◌, ◌++◌, length, map, Option, Some, None, option_and_then, option_map, slice_get, is_some, if◌then◌else◌}
use Rattle.std.proofs.Common.{refl, sym, ◌∙◌, ap, subst}
use Rattle.std.proofs.lemmas.Bool.{and_from, false≢true}
use Rattle.std.proofs.lemmas.Option.{slice_get-map}
use Rattle.au_value.specs.declared.kinds.Kind.{Kind}
use Rattle.au_value.specs.declared.kinds.Kind.TheVariants.{Int, Flag}
use Rattle.au_value.specs.KindLaws.{kind_itself}
use Rattle.au_value.specs.Order.{data_kind}
use Rattle.au_expr.specs.Terms.{Term, And, Compare, Or}
use Rattle.au_expr.specs.Kinds.{kind_in, is_kind, kind_if, only_if}
use Rattle.au_parse.specs.declared.AggWord.{AggWord}
use Rattle.au_parse.specs.declared.Name.{Name}
use Rattle.au_parse.specs.Tree.{TermTree, Operator}
use Rattle.au_typing.specs.Aggregates.{Written, written}
use Rattle.au_typing.specs.Scales.{common, number_if, rescaled, sum_kind}
use Rattle.au_typing.specs.Scopes.{Scope, place_of, field_of, kind_unless, field_kind, name_faults, found_faults, is_meant}
use Rattle.au_typing.specs.Terms.{Setting, rows, term_kind, term_faults, place_faults, misfit, aggregate_faults, is_counting, is_extreme, column_term, resolved_expression, branches, operated, operator_kind, aggregate_kind, when_kind}
use Rattle.au_typing.specs.declared.scope.Field.{Field}
use Rattle.au_typing.specs.declared.fault.TypingFault.{TypingFault}
use Rattle.au_typing.proofs.Faults.{none_of, then_none, fitting}
use Rattle.au_typing.proofs.Found.{found, known_is, IsKnown, StandsAt, stands_parts, stands_three}
use Rattle.au_typing.proofs.Found.{known as known_kind}
use Rattle.au_typing.proofs.Rescaled.{common_data, data_of, flag_data, flag_if, itself_number, numbers_data, rescaled_kind, sum_common}

-- the column that a name means
pub record Meant (s : Scope) (name : Name) : Type 0 where
  pub place : ℕ
  pub field : Field
  pub found : place_of s name ≡ Some place
  pub there : slice_get s.fields place ≡ Some field
  pub kind : field_kind s name ≡ Some field.kind

-- a name without a fault has a place
name_found : (knows : Bool) (s : Scope) (name : Name) (o : Option ℕ) (f : TypingFault) → (if knows then found_faults s name o else f ∷ []) ≡ [] → (i : ℕ) × (o ≡ Some i)
name_found true s name None f h = cc
name_found true s name (Some i) f h = (i, refl)
name_found false s name o f h = cc

-- a name without a fault means a column
pub meant : (s : Scope) (name : Name) → name_faults s name ≡ [] → Meant s name
meant s name h =
    let p = name_found _ s name (place_of s name) _ h in
    let at = found (is_meant name) s.fields p.0 p.1 in
    record {
      place = p.0;
      field = at.item;
      found = p.1;
      there = at.there;
      kind = ap (λ fs. kind_unless fs (option_map (λ f. f.kind) (field_of s name))) h ∙ ap (λ o. option_map (λ f. f.kind) (option_and_then (λ i. slice_get s.fields i) o)) p.1 ∙ ap (option_map (λ f. f.kind)) at.there;
    }

-- what is wrong with a whole, where its parts are known
abbrev binary_misfit : Scope → ℕ → Operator → TermTree → TermTree → List TypingFault
binary_misfit s at operator left right = misfit at (term_kind s left ∷ term_kind s right ∷ []) (operator_kind operator (term_kind s left) (term_kind s right))

abbrev number_misfit : Scope → ℕ → TermTree → List TypingFault
number_misfit s at e = misfit at (term_kind s e ∷ []) (number_if (term_kind s e))

abbrev pub flag_misfit : Scope → ℕ → TermTree → List TypingFault
flag_misfit s at e = misfit at (term_kind s e ∷ []) (kind_if (is_kind Flag (term_kind s e)) Flag)

abbrev when_misfit : Scope → ℕ → TermTree → TermTree → TermTree → List TypingFault
when_misfit s around condition value rest =
    misfit around (term_kind s condition ∷ term_kind s value ∷ term_kind s rest ∷ []) (when_kind (term_kind s condition) (term_kind s value) (term_kind s rest))

abbrev aggregate_misfit : Scope → ℕ → AggWord → TermTree → List TypingFault
aggregate_misfit s at word e = misfit at (term_kind s e ∷ []) (aggregate_kind word (term_kind s e))

-- three lists are empty where they are together
pub none_of_three : {A : Type 0} (xs ys zs : List A) → xs ++ ys ++ zs ≡ [] → (xs ≡ []) × (ys ≡ []) × (zs ≡ [])
none_of_three xs ys zs h =
    let p = none_of (xs ++ ys) zs h in let q = none_of xs ys p.0 in (q.0, q.1, p.1)

-- nothing is wrong with the parts of a term without a fault
module _ (s : Scope) (setting : Setting) (around : ℕ) where
  pub binary_parts :
      (at : ℕ) (operator : Operator) (left right : TermTree) → term_faults s setting around (TermTree.binary at operator left right) ≡ [] →
      (term_faults s setting around left ≡ []) × (term_faults s setting around right ≡ []) × (binary_misfit s at operator left right ≡ [])
  binary_parts at operator left right h = none_of_three (term_faults s setting around left) (term_faults s setting around right) (binary_misfit s at operator left right) h

  pub negate_parts : (at : ℕ) (e : TermTree) → term_faults s setting around (TermTree.negate at e) ≡ [] → (term_faults s setting around e ≡ []) × (number_misfit s at e ≡ [])
  negate_parts at e h = none_of (term_faults s setting around e) (number_misfit s at e) h

  pub not_parts : (at : ℕ) (e : TermTree) → term_faults s setting around (TermTree.not at e) ≡ [] → (term_faults s setting around e ≡ []) × (flag_misfit s at e ≡ [])
  not_parts at e h = none_of (term_faults s setting around e) (flag_misfit s at e) h

  pub when_parts :
      (condition value rest : TermTree) → term_faults s setting around (TermTree.when condition value rest) ≡ [] →
      (term_faults s setting around condition ≡ []) × (term_faults s setting around value ≡ []) × (term_faults s setting around rest ≡ []) × (when_misfit s around condition value rest ≡ [])
  when_parts condition value rest h =
      let p = none_of (term_faults s setting around condition ++ term_faults s setting around value ++ term_faults s setting around rest) (when_misfit s around condition value rest) h in
      let q = none_of_three (term_faults s setting around condition) (term_faults s setting around value) (term_faults s setting around rest) p.0 in
      (q.0, q.1, q.2, p.1)

  pub aggregate_parts :
      (at : ℕ) (word : AggWord) (e : TermTree) → term_faults s setting around (TermTree.aggregate at word e) ≡ [] →
      (aggregate_faults setting at (is_extreme word) (is_counting word e) ≡ []) × (term_faults s rows at e ≡ []) × (aggregate_misfit s at word e ≡ [])
  aggregate_parts at word e h = none_of_three (aggregate_faults setting at (is_extreme word) (is_counting word e)) (term_faults s rows at e) (aggregate_misfit s at word e) h

  column_parts : (name : Name) → term_faults s setting around (TermTree.column name) ≡ [] → (name_faults s name ≡ []) × (place_faults setting name.at (place_of s name) ≡ [])
  column_parts name h = then_none (name_faults s name) (place_faults setting name.at (place_of s name)) h

-- terms without a fault have a kind
pub term_known : (s : Scope) (setting : Setting) (around : ℕ) (t : TermTree) → term_faults s setting around t ≡ [] → IsKnown (term_kind s t)
term_known s setting around (TermTree.column name) h = ap is_some (meant s name (column_parts s setting around name h).0).kind
term_known s setting around (TermTree.number at m) h = refl
term_known s setting around (TermTree.decimal at m digits) h = refl
term_known s setting around (TermTree.text at w) h = refl
term_known s setting around (TermTree.flag at b) h = refl
term_known s setting around (TermTree.binary at operator left right) h =
    let p = binary_parts s setting around at operator left right h in
    fitting at (term_kind s left ∷ term_kind s right ∷ []) (operator_kind operator (term_kind s left) (term_kind s right)) p.2
    (and_from _ _ (term_known s setting around left p.0) (and_from _ true (term_known s setting around right p.1) refl))
term_known s setting around (TermTree.negate at e) h =
    let p = negate_parts s setting around at e h in
    fitting at (term_kind s e ∷ []) (number_if (term_kind s e)) p.1 (and_from _ true (term_known s setting around e p.0) refl)
term_known s setting around (TermTree.not at e) h =
    let p = not_parts s setting around at e h in
    fitting at (term_kind s e ∷ []) (kind_if (is_kind Flag (term_kind s e)) Flag) p.1 (and_from _ true (term_known s setting around e p.0) refl)
term_known s setting around (TermTree.case at parts) h = term_known s setting at parts h
term_known s setting around (TermTree.when condition value rest) h =
    let p = when_parts s setting around condition value rest h in
    fitting around (term_kind s condition ∷ term_kind s value ∷ term_kind s rest ∷ []) (when_kind (term_kind s condition) (term_kind s value) (term_kind s rest)) p.3
    (and_from _ _ (term_known s setting around condition p.0) (and_from _ _ (term_known s setting around value p.1) (and_from _ true (term_known s setting around rest p.2) refl)))
term_known s setting around (TermTree.count_rows at) h = refl
term_known s setting around (TermTree.aggregate at word e) h =
    let p = aggregate_parts s setting around at word e h in
    fitting at (term_kind s e ∷ []) (aggregate_kind word (term_kind s e)) p.2 (and_from _ true (term_known s rows at e p.1) refl)

-- the kind of the values of an aggregate that is written
abbrev pub kind_of_written : Scope → AggWord → Option TermTree → Option Kind
kind_of_written s word None = Some Int
kind_of_written s word (Some e) = data_of (aggregate_kind word (term_kind s e))

abbrev pub written_kind : Scope → Written → Option Kind
written_kind s w = kind_of_written s w.word w.argument

-- the columns that may be named stand in the row with the kinds of their values
abbrev pub Fits : Scope → Setting → List Kind → Type 0
Fits s setting ks = (at i : ℕ) (f : Field) → slice_get s.fields i ≡ Some f → place_faults setting at (Some i) ≡ [] → kind_in ks (column_term setting (Some i)) ≡ Some (data_kind f.kind)

-- The values of an operation have the kind that its operator gives.
module _ (ks : List Kind) (a b : Term) (j k : Option Kind) (p : kind_in ks a ≡ data_of j) (q : kind_in ks b ≡ data_of k) where
  -- both operands brought to one kind
  brought_kinds : (t : Kind) → common j k ≡ Some t →
      (kind_in ks (rescaled j (common j k) a) ≡ Some (data_kind t)) × (kind_in ks (rescaled k (common j k) b) ≡ Some (data_kind t))
  brought_kinds t h =
      let same = common_data j k t h in (
        ap (λ to. kind_in ks (rescaled j to a)) h ∙ rescaled_kind ks j t a (p ∙ same.0),
        ap (λ to. kind_in ks (rescaled k to b)) h ∙ rescaled_kind ks k t b (q ∙ same.1),
      )

  sum_brought : (t : Kind) → sum_kind j k ≡ Some t →
      (kind_in ks (rescaled j (common j k) a) ≡ Some Int) × (kind_in ks (rescaled k (common j k) b) ≡ Some Int) × (data_kind t ≡ Int)
  sum_brought t h =
      let are = numbers_data max j k t h in
      let both = brought_kinds t (sum_common j k t h) in
      (both.0 ∙ ap Some are.both, both.1 ∙ ap Some are.both, are.both)

  operated_kind : (operator : Operator) (t : Kind) → operator_kind operator j k ≡ Some t → kind_in ks (operated operator j k a b) ≡ Some (data_kind t)
  operated_kind Operator.add t h = let r = sum_brought t h in rw (r.0, r.1, r.2) refl
  operated_kind Operator.subtract t h = let r = sum_brought t h in rw (r.0, r.1, r.2) refl
  operated_kind Operator.multiply t h = let r = numbers_data (λ x y. x + y) j k t h in rw (p, q, r.left, r.right, r.both) refl
  operated_kind (Operator.compare how) t h = by_common (common j k) refl h
    where
      by_common : (o : Option Kind) → common j k ≡ o → kind_if (is_some o) Flag ≡ Some t → kind_in ks (Compare how (rescaled j (common j k) a) (rescaled k (common j k) b)) ≡ Some (data_kind t)
      by_common None e h = cc
      by_common (Some m) e h = let r = brought_kinds m e in let is : Flag ≡ t = cc in rw (r.0, r.1, kind_itself (data_kind m)) (ap (λ u. Some (data_kind u)) is)
  operated_kind Operator.and t h = flags_kind (is_kind Flag j) (is_kind Flag k) refl refl h
    where
      flags_kind : (x y : Bool) → is_kind Flag j ≡ x → is_kind Flag k ≡ y → kind_if (x && y) Flag ≡ Some t → kind_in ks (And a b) ≡ Some (data_kind t)
      flags_kind true true u v h = let is : Flag ≡ t = cc in rw (p, q, flag_data j, flag_data k, u, v) (ap (λ w. Some (data_kind w)) is)
      flags_kind true false u v h = cc
      flags_kind false y u v h = cc
  operated_kind Operator.or t h = flags_kind (is_kind Flag j) (is_kind Flag k) refl refl h
    where
      flags_kind : (x y : Bool) → is_kind Flag j ≡ x → is_kind Flag k ≡ y → kind_if (x && y) Flag ≡ Some t → kind_in ks (Or a b) ≡ Some (data_kind t)
      flags_kind true true u v h = let is : Flag ≡ t = cc in rw (p, q, flag_data j, flag_data k, u, v) (ap (λ w. Some (data_kind w)) is)
      flags_kind true false u v h = cc
      flags_kind false y u v h = cc

module _ (s : Scope) (setting : Setting) (ks : List Kind) (columns : Fits s setting ks) where
  -- a column that may be named has its kind
  column_kind :
      (name : Name) → name_faults s name ≡ [] → place_faults setting name.at (place_of s name) ≡ [] →
      kind_in ks (column_term setting (place_of s name)) ≡ data_of (field_kind s name)
  column_kind name h g =
      let m = meant s name h in
      ap (λ o. kind_in ks (column_term setting o)) m.found
      ∙ columns name.at m.place m.field m.there (subst (λ o. place_faults setting name.at o ≡ []) m.found g)
      ∙ ap data_of (sym m.kind)

  -- The values of terms have their kinds over a row in which the columns and the aggregates stand with theirs, and so
  -- do the parts of a CASE whose branches are brought to a kind of such values.
  record IsTerm (n : ℕ) (t : TermTree) : Type 0 where
    is : kind_in ks (resolved_expression s setting n t) ≡ data_of (term_kind s t)
    brought : (to : Kind) → data_of (term_kind s t) ≡ Some (data_kind to) → kind_in ks (branches s (Some to) t (resolved_expression s setting n t)) ≡ Some (data_kind to)

  -- what is no WHEN part
  abbrev IsBranch : TermTree → Type 0
  IsBranch t = (to : Option Kind) (e : Term) → branches s to t e ≡ rescaled (term_kind s t) to e

  plain : (n : ℕ) (t : TermTree) → IsBranch t → kind_in ks (resolved_expression s setting n t) ≡ data_of (term_kind s t) → IsTerm n t
  plain n t branch e = record {
    is = e;
    brought = λ to same. ap (kind_in ks) (branch (Some to) (resolved_expression s setting n t)) ∙ rescaled_kind ks (term_kind s t) to (resolved_expression s setting n t) (e ∙ same);
  }

  number_is : (k : Option Kind) (e : Term) → kind_in ks e ≡ data_of k → is_some (number_if k) ≡ true → kind_if (is_kind Int (kind_in ks e)) Int ≡ data_of (number_if k)
  number_is k e h known = let facts = itself_number k known in rw (h, facts.0, facts.1) refl

  case_is : (n at : ℕ) (parts : TermTree) → IsTerm n parts → IsKnown (term_kind s parts) → kind_in ks (resolved_expression s setting n (TermTree.case at parts)) ≡ data_of (term_kind s parts)
  case_is n at parts found known =
      let k = known_is (term_kind s parts) known in
      ap (λ to. kind_in ks (branches s to parts (resolved_expression s setting n parts))) k ∙ found.brought (known_kind (term_kind s parts)) (ap data_of k) ∙ ap data_of (sym k)

  when_is : (n : ℕ) (condition value rest : TermTree) → IsTerm n condition → IsTerm (n + length (written condition)) value → IsTerm (n + length (written condition) + length (written value)) rest
      → IsKnown (when_kind (term_kind s condition) (term_kind s value) (term_kind s rest)) → IsTerm n (TermTree.when condition value rest)
  when_is n condition value rest c v r known = by_flag (is_kind Flag (term_kind s condition)) refl known
    where
      by_common : (o : Option Kind) → common (term_kind s value) (term_kind s rest) ≡ o → is_kind Flag (term_kind s condition) ≡ true → IsKnown o → IsTerm n (TermTree.when condition value rest)
      by_common None e flag known = absurd (false≢true known)
      by_common (Some t) e flag known =
          let same = common_data (term_kind s value) (term_kind s rest) t e in
          let test : is_kind Flag (kind_in ks (resolved_expression s setting n condition)) ≡ true = ap (is_kind Flag) c.is ∙ flag_data (term_kind s condition) ∙ flag in
          record {
            is = rw (test, v.is, r.is, same.0, same.1, kind_itself (data_kind t), flag, e) refl;
            brought = λ to h.
                let known_whole : term_kind s (TermTree.when condition value rest) ≡ Some t = rw (flag, e) refl in
                let data_same : Some (data_kind t) ≡ Some (data_kind to) = sym (ap data_of known_whole) ∙ h in
                let first = rescaled_kind ks (term_kind s value) to (resolved_expression s setting (n + length (written condition)) value) (v.is ∙ same.0 ∙ data_same) in
                let second = r.brought to (same.1 ∙ data_same) in
                rw (test, first, second, kind_itself (data_kind to)) refl;
          }

      by_flag : (b : Bool) → is_kind Flag (term_kind s condition) ≡ b → IsKnown (only_if b (common (term_kind s value) (term_kind s rest))) → IsTerm n (TermTree.when condition value rest)
      by_flag true e known = by_common (common (term_kind s value) (term_kind s rest)) refl e known
      by_flag false e known = absurd (false≢true known)

  term_found :
      (n around : ℕ) (t : TermTree) → term_faults s setting around t ≡ [] → StandsAt (written_kind s) ks n (written t) → IsTerm n t
  term_found n around (TermTree.column name) h w = let p = column_parts s setting around name h in plain n (TermTree.column name) (λ to e. refl) (column_kind name p.0 p.1)
  term_found n around (TermTree.number at m) h w = plain n (TermTree.number at m) (λ to e. refl) refl
  term_found n around (TermTree.decimal at m digits) h w = plain n (TermTree.decimal at m digits) (λ to e. refl) refl
  term_found n around (TermTree.text at m) h w = plain n (TermTree.text at m) (λ to e. refl) refl
  term_found n around (TermTree.flag at b) h w = plain n (TermTree.flag at b) (λ to e. refl) refl
  term_found n around (TermTree.binary at operator left right) h w =
      let p = binary_parts s setting around at operator left right h in
      let u = stands_parts (written_kind s) ks n (written left) (written right) w in
      let k = known_is (operator_kind operator (term_kind s left) (term_kind s right)) (term_known s setting around (TermTree.binary at operator left right) h) in
      plain n (TermTree.binary at operator left right) (λ to e. refl)
      (operated_kind ks (resolved_expression s setting n left) (resolved_expression s setting (n + length (written left)) right) (term_kind s left) (term_kind s right)
      (term_found n around left p.0 u.0).is (term_found (n + length (written left)) around right p.1 u.1).is operator _ k ∙ ap data_of (sym k))
  term_found n around (TermTree.negate at e) h w =
      plain n (TermTree.negate at e) (λ to x. refl)
      (number_is (term_kind s e) (resolved_expression s setting n e) (term_found n around e (negate_parts s setting around at e h).0 w).is (term_known s setting around (TermTree.negate at e) h))
  term_found n around (TermTree.not at e) h w =
      plain n (TermTree.not at e) (λ to x. refl)
      (ap (λ o. kind_if (is_kind Flag o) Flag) (term_found n around e (not_parts s setting around at e h).0 w).is ∙ flag_if (term_kind s e))
  term_found n around (TermTree.case at parts) h w = plain n (TermTree.case at parts) (λ to e. refl) (case_is n at parts (term_found n at parts h w) (term_known s setting at parts h))
  term_found n around (TermTree.when condition value rest) h w =
      let p = when_parts s setting around condition value rest h in
      let u = stands_three (written_kind s) ks n (written condition) (written value) (written rest) w in
      when_is n condition value rest (term_found n around condition p.0 u.0) (term_found (n + length (written condition)) around value p.1 u.1)
      (term_found (n + length (written condition) + length (written value)) around rest p.2 u.2) (term_known s setting around (TermTree.when condition value rest) h)
  term_found n around (TermTree.count_rows at) h w = plain n (TermTree.count_rows at) (λ to e. refl) w.0
  term_found n around (TermTree.aggregate at word e) h w = plain n (TermTree.aggregate at word e) (λ to x. refl) w.0

  pub term_is :
      (n around : ℕ) (t : TermTree) → term_faults s setting around t ≡ [] → StandsAt (written_kind s) ks n (written t) →
      kind_in ks (resolved_expression s setting n t) ≡ data_of (term_kind s t)
  term_is n around t h w = (term_found n around t h w).is

-- a term without groups has no aggregates
pub written_none : (s : Scope) (around : ℕ) (t : TermTree) → term_faults s rows around t ≡ [] → written t ≡ []
written_none s around (TermTree.column name) h = refl
written_none s around (TermTree.number at m) h = refl
written_none s around (TermTree.decimal at m digits) h = refl
written_none s around (TermTree.text at m) h = refl
written_none s around (TermTree.flag at b) h = refl
written_none s around (TermTree.binary at operator left right) h =
    let p = binary_parts s rows around at operator left right h in
    let a = written_none s around left p.0 in
    let b = written_none s around right p.1 in
    λ i. a i ++ b i
written_none s around (TermTree.negate at e) h = written_none s around e (negate_parts s rows around at e h).0
written_none s around (TermTree.not at e) h = written_none s around e (not_parts s rows around at e h).0
written_none s around (TermTree.case at parts) h = written_none s at parts h
written_none s around (TermTree.when condition value rest) h =
    let p = when_parts s rows around condition value rest h in
    let a = written_none s around condition p.0 in
    let b = written_none s around value p.1 in
    let c = written_none s around rest p.2 in
    λ i. a i ++ b i ++ c i
written_none s around (TermTree.count_rows at) h = cc
written_none s around (TermTree.aggregate at word e) h = cc

-- the kinds of the values of a scope's columns
abbrev pub field_kinds : Scope → List Kind
field_kinds s = map (λ f. data_kind f.kind) s.fields

-- the columns stand in the rows of the FROM items
pub rows_fit : (s : Scope) → Fits s rows (field_kinds s)
rows_fit s at i f there h = slice_get-map (λ g. data_kind g.kind) s.fields i ∙ ap (option_map (λ g. data_kind g.kind)) there

-- terms have their kinds over the rows of the FROM items
pub row_term_is : (s : Scope) (n around : ℕ) (t : TermTree) → term_faults s rows around t ≡ [] → kind_in (field_kinds s) (resolved_expression s rows n t) ≡ data_of (term_kind s t)
row_term_is s n around t h =
    term_is s rows (field_kinds s) (rows_fit s) n around t h (subst (StandsAt (written_kind s) (field_kinds s) n) (sym (written_none s around t h)) tt)
