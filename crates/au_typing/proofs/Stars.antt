-- The columns of a star, as far as they have been seen.
use Rattle.std.proofs.Common.{◌≡◌, ℕ, suc, ◌+◌, ◌<◌, true, false, List, [], ◌∷◌, ◌++◌, length, get_or, map, take, drop, Some, refl, sym, ap, subst, ◌∙◌, arith, append_assoc, length-append, inl, inr}
use Rattle.std.specs.Prelude.{Contains, Option, Result, Ok, Err, IfErr, flat_map}
use Rattle.std.specs.List.{enumerate_from}
use Rattle.std.proofs.lemmas.List.{take_more, take-append-drop, take_all, length-take-le, map-append, append-nil, map_push}
use Rattle.std.proofs.lemmas.List.Elements.{Contains-append_left, Contains-append_right}
use Rattle.std.proofs.lemmas.Grind.{flat_map-append}
use Rattle.au_expr.specs.Terms.{term}
use Rattle.au_parse.specs.Tree.{TermTree}
use Rattle.au_typing.specs.declared.setting.Gathered.{Gathered}
use Rattle.au_typing.specs.Scopes.{Scope, is_owner}
use Rattle.au_typing.specs.Terms.{Setting, place_faults, column_term, term_faults}
use Rattle.au_typing.specs.Items.{Output, if_owned, star_output, columns_from, column_at, star_faults}
use Rattle.au_typing.specs.Results.{Puts, PutsValue, Answer, Answers, output}
use Rattle.au_typing.specs.declared.fault.TypingFault.{TypingFault}
use Rattle.au_typing.specs.declared.scope.Field.{Field}
use Rattle.au_typing.specs.declared.outputs.Outputs.{Outputs}
use Rattle.au_typing.specs.Queries.{Refuses}
use Rattle.au_expr.specs.declared.expr.Expr.{Expr}

-- the places of a list and of another behind it
enumerate-append : {X : Type 0} (n : ℕ) (xs ys : List X) → enumerate_from n (xs ++ ys) ≡ enumerate_from n xs ++ enumerate_from (n + length xs) ys
enumerate-append n [] ys = ap (λ k. enumerate_from k ys) (omega arith)
enumerate-append n (x ∷ xs) ys =
    let e : n + 1 + length xs ≡ n + suc (length xs) = omega arith in
    ap (λ r. (n, x) ∷ r) (enumerate-append (n + 1) xs ys ∙ ap (λ k. enumerate_from (n + 1) xs ++ enumerate_from k ys) e)

-- the columns that a star means among the first ones
abbrev pub stars_to : Option (List ℕ) → ℕ → List Field → List (ℕ × Field)
stars_to q k fields = flat_map (if_owned q) (enumerate_from 0 (take k fields))

abbrev pub faults_to : Setting → ℕ → Option (List ℕ) → ℕ → List Field → List TypingFault
faults_to g at q k fields = flat_map (λ f. place_faults g at (Some f.0)) (stars_to q k fields)

-- one column more
star_more : (q : Option (List ℕ)) (k : ℕ) (fields : List Field) (d : Field) → k < length fields → stars_to q (k + 1) fields ≡ stars_to q k fields ++ if_owned q (k, get_or fields k d)
star_more q k fields d within =
    let e : 0 + length (take k fields) ≡ k = omega (arith, length-take-le k fields (omega arith)) in
    rw (take_more fields k d within, enumerate-append 0 (take k fields) (get_or fields k d ∷ []), e, flat_map-append (if_owned q) (enumerate_from 0 (take k fields)) ((k, get_or fields k d) ∷ []))
    (ap (λ r. stars_to q k fields ++ r) (append-nil (if_owned q (k, get_or fields k d))))

-- a fault among the first ones is one of all
pub among_all : (g : Setting) (at : ℕ) (q : Option (List ℕ)) (k : ℕ) (fields : List Field) (f : TypingFault) → Contains (faults_to g at q k fields) f → Contains (faults_to g at q (length fields) fields) f
among_all g at q k fields f there =
    let cut : take (length fields) fields ≡ take k fields ++ drop k fields = take_all (length fields) fields (omega arith) ∙ sym (take-append-drop k fields) in
    rw (
      cut,
      enumerate-append 0 (take k fields) (drop k fields),
      flat_map-append (if_owned q) (enumerate_from 0 (take k fields)) (enumerate_from (0 + length (take k fields)) (drop k fields)),
      flat_map-append (λ (p : ℕ × Field). place_faults g at (Some p.0)) (stars_to q k fields) (flat_map (if_owned q) (enumerate_from (0 + length (take k fields)) (drop k fields))),
    )
    (Contains-append_left (faults_to g at q k fields) _ f there)

-- a column that is meant, and one that is not
meant : (q : Option (List ℕ)) (k : ℕ) (f : Field) → is_owner q f.owner ≡ true → if_owned q (k, f) ≡ (k, f) ∷ []
meant q k f is = rw is refl

left_out : (q : Option (List ℕ)) (k : ℕ) (f : Field) → is_owner q f.owner ≡ false → if_owned q (k, f) ≡ []
left_out q k f is = rw is refl

pub stars_meant : (q : Option (List ℕ)) (k : ℕ) (fields : List Field) (f : Field) → k < length fields → f ≡ get_or fields k f → is_owner q f.owner ≡ true → stars_to q (k + 1) fields ≡ stars_to q k fields ++ (k, f) ∷ []
stars_meant q k fields f within at is = star_more q k fields f within ∙ ap (λ x. stars_to q k fields ++ if_owned q (k, x)) (sym at) ∙ ap (λ r. stars_to q k fields ++ r) (meant q k f is)

pub stars_left_out : (q : Option (List ℕ)) (k : ℕ) (fields : List Field) (f : Field) → k < length fields → f ≡ get_or fields k f → is_owner q f.owner ≡ false → stars_to q (k + 1) fields ≡ stars_to q k fields
stars_left_out q k fields f within at is = star_more q k fields f within ∙ ap (λ x. stars_to q k fields ++ if_owned q (k, x)) (sym at) ∙ ap (λ r. stars_to q k fields ++ r) (left_out q k f is) ∙ append-nil (stars_to q k fields)

-- a fault of the column at this place
pub fault_here : (g : Setting) (at : ℕ) (q : Option (List ℕ)) (k : ℕ) (fields : List Field) (f : Field) (y : TypingFault) → k < length fields → f ≡ get_or fields k f → is_owner q f.owner ≡ true
    → Contains (place_faults g at (Some k)) y → Contains (faults_to g at q (length fields) fields) y
fault_here g at q k fields f y within here is there =
    among_all g at q (k + 1) fields y
    (rw (stars_meant q k fields f within here is, flat_map-append (λ (p : ℕ × Field). place_faults g at (Some p.0)) (stars_to q k fields) ((k, f) ∷ []))
    (Contains-append_right (faults_to g at q k fields) _ y (rw (append-nil (place_faults g at (Some k))) there)))

-- no fault of the column at this place
pub sound_here : (g : Setting) (at : ℕ) (q : Option (List ℕ)) (k : ℕ) (fields : List Field) (f : Field) → k < length fields → f ≡ get_or fields k f → is_owner q f.owner ≡ true
    → place_faults g at (Some k) ≡ [] → faults_to g at q k fields ≡ [] → faults_to g at q (k + 1) fields ≡ []
sound_here g at q k fields f within here is sound before =
    ap (flat_map (λ (p : ℕ × Field). place_faults g at (Some p.0))) (stars_meant q k fields f within here is)
    ∙ flat_map-append (λ (p : ℕ × Field). place_faults g at (Some p.0)) (stars_to q k fields) ((k, f) ∷ []) ∙ rw (before, sound) refl

-- more output columns
columns-append : (k : ℕ) (os ps : List Output) → columns_from k (os ++ ps) ≡ columns_from k os ++ columns_from (k + length os) ps
columns-append k [] ps = ap (λ n. columns_from n ps) (omega arith)
columns-append k (o ∷ os) ps =
    let e : k + 1 + length os ≡ k + suc (length os) = omega arith in
    ap (λ r. column_at k o ∷ r) (columns-append (k + 1) os ps ∙ ap (λ n. columns_from (k + 1) os ++ columns_from n ps) e)

columns-length : (k : ℕ) (os : List Output) → length (columns_from k os) ≡ length os
columns-length k [] = refl
columns-length k (o ∷ os) = ap suc (columns-length (k + 1) os)

pub puts_on : (os ps : List Output) (old mid new : Outputs) → Puts os old mid → Puts ps mid new → Puts (os ++ ps) old new
puts_on os ps old mid new first more =
    let n : length mid.columns.items + 1 ≡ length old.columns.items + 1 + length os =
    omega (arith, ap length first.columns, length-append old.columns.items (columns_from (length old.columns.items + 1) os), columns-length (length old.columns.items + 1) os) in record {
      exprs = more.exprs ∙ ap (λ xs. xs ++ map (λ (o : Output). o.term) ps) first.exprs ∙ append_assoc (map term old.exprs.items) (map (λ (o : Output). o.term) os) (map (λ (o : Output). o.term) ps)
          ∙ ap (λ xs. map term old.exprs.items ++ xs) (sym (map-append (λ (o : Output). o.term) os ps));
      columns = more.columns ∙ ap (λ k. mid.columns.items ++ columns_from k ps) n ∙ ap (λ xs. xs ++ columns_from (length old.columns.items + 1 + length os) ps) first.columns
          ∙ append_assoc old.columns.items (columns_from (length old.columns.items + 1) os) (columns_from (length old.columns.items + 1 + length os) ps)
          ∙ ap (λ xs. old.columns.items ++ xs) (sym (columns-append (length old.columns.items + 1) os ps));
    }

pub puts_none : (old : Outputs) → Puts [] old old
puts_none old = record { exprs = sym (append-nil (map term old.exprs.items)); columns = sym (append-nil old.columns.items) }

-- one column of a star more
pub puts_star : (g : Setting) (q : Option (List ℕ)) (k : ℕ) (fields : List Field) (f : Field) (old mid new : Outputs) → k < length fields → f ≡ get_or fields k f → is_owner q f.owner ≡ true
    → Puts (map (star_output g) (stars_to q k fields)) old mid → Puts (star_output g (k, f) ∷ []) mid new → Puts (map (star_output g) (stars_to q (k + 1) fields)) old new
puts_star g q k fields f old mid new within here is before more =
    subst (λ os. Puts os old new) (sym (ap (map (star_output g)) (stars_meant q k fields f within here is) ∙ map-append (star_output g) (stars_to q k fields) ((k, f) ∷ [])))
    (puts_on (map (star_output g) (stars_to q k fields)) (star_output g (k, f) ∷ []) old mid new before more)

-- a fault of a star
pub star_fault : (s : Scope) (g : Setting) (at : ℕ) (q : Option (List ℕ)) (k : ℕ) (f : Field) (y : TypingFault) → k < length s.fields → f ≡ get_or s.fields k f → is_owner q f.owner ≡ true
    → Contains (place_faults g at (Some k)) y → Refuses (star_faults s g at q) y
star_fault s g at q k f y within here is there =
    inr (subst (λ fields. Contains (flat_map (λ (p : ℕ × Field). place_faults g at (Some p.0)) (flat_map (if_owned q) (enumerate_from 0 fields))) y) (take_all (length s.fields) s.fields (omega arith)) (fault_here g at q k s.fields f y within here is there))

-- a column of a star as it is put
pub one_star : (g : Setting) (k : ℕ) (f : Field) (mid new : Outputs) (e : Expr) (name : List ℕ) → new.exprs.items ≡ mid.exprs.items ++ e ∷ [] → term e ≡ column_term g (Some k)
    → new.columns.items ≡ mid.columns.items ++ column_at (length mid.columns.items + 1) (output (term e) (Some name) f.kind) ∷ [] → name ≡ f.name → Puts (star_output g (k, f) ∷ []) mid new
one_star g k f mid new e name exprs is columns named = record {
  exprs = ap (map term) exprs ∙ map_push term mid.exprs.items e ∙ ap (λ t. map term mid.exprs.items ++ t ∷ []) is;
  columns = columns ∙ ap (λ w. mid.columns.items ++ column_at (length mid.columns.items + 1) (output (term e) (Some w) f.kind) ∷ []) named;
}

-- one column more, put or left out
pub star_on : (g : Setting) (at : ℕ) (q : Option (List ℕ)) (k : ℕ) (fields : List Field) (f : Field) (old mid new : Outputs) (e : Expr) (name : List ℕ) → k < length fields → f ≡ get_or fields k f → is_owner q f.owner ≡ true
    → new.exprs.items ≡ mid.exprs.items ++ e ∷ [] → term e ≡ column_term g (Some k)
    → new.columns.items ≡ mid.columns.items ++ column_at (length mid.columns.items + 1) (output (term e) (Some name) f.kind) ∷ [] → name ≡ f.name → place_faults g at (Some k) ≡ []
    → Puts (map (star_output g) (stars_to q k fields)) old mid × (faults_to g at q k fields ≡ [])
    → Puts (map (star_output g) (stars_to q (k + 1) fields)) old new × (faults_to g at q (k + 1) fields ≡ [])
star_on g at q k fields f old mid new e name within here is exprs term_is columns named sound before =
    (puts_star g q k fields f old mid new within here is before.0 (one_star g k f mid new e name exprs term_is columns named), sound_here g at q k fields f within here is sound before.1)

pub star_past : (g : Setting) (at : ℕ) (q : Option (List ℕ)) (k : ℕ) (fields : List Field) (f : Field) (old mid : Outputs) → k < length fields → f ≡ get_or fields k f → is_owner q f.owner ≡ false
    → Puts (map (star_output g) (stars_to q k fields)) old mid × (faults_to g at q k fields ≡ [])
    → Puts (map (star_output g) (stars_to q (k + 1) fields)) old mid × (faults_to g at q (k + 1) fields ≡ [])
star_past g at q k fields f old mid within here is before =
    (subst (λ ps. Puts (map (star_output g) ps) old mid) (sym (stars_left_out q k fields f within here is)) before.0, ap (flat_map (λ (p : ℕ × Field). place_faults g at (Some p.0))) (stars_left_out q k fields f within here is) ∙ before.1)

-- a fault of a term that is an item
pub value_refuses : (s : Scope) (g : Setting) (t : TermTree) (old new : Gathered) (before after : Outputs) (name : Result (Option (List ℕ)) TypingFault) (found : Answer) (r : Result (Unit {0}) TypingFault)
    → IfErr name (λ f. (setting : Setting) → Refuses (term_faults s setting 0 t) f) → Answers s g 0 t old new found → PutsValue before after name found r → IfErr r (Refuses (term_faults s g 0 t))
value_refuses s g t old new before after (Ok name) (Ok x) (Ok done) named fx j = tt
value_refuses s g t old new before after (Ok name) (Ok x) (Err f) named fx j = inl j
value_refuses s g t old new before after (Ok name) (Err h) (Ok done) named fx j = tt
value_refuses s g t old new before after (Ok name) (Err h) (Err f) named fx j = let same : h ≡ f = cc in subst (Refuses (term_faults s g 0 t)) same fx
value_refuses s g t old new before after (Err h) found (Ok done) named fx j = tt
value_refuses s g t old new before after (Err h) found (Err f) named fx j = let same : h ≡ f = cc in subst (Refuses (term_faults s g 0 t)) same (named g)
