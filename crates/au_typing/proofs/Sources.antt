-- The FROM items that are written, as those of a query.
use Rattle.std.proofs.Common.{◌≡◌, ℕ, zero, suc, ◌+◌, ◌<◌, ◌≤◌, List, [], ◌∷◌, ◌++◌, length, map, get_or, refl, sym, ap, subst, ◌∙◌, arith, inl, inr, Bor, Box, Global}
use Rattle.std.specs.Prelude.{Result, Ok, Err, IfOk, IfErr, Option, Some, None, unwrap_or, flat_map}
use Rattle.std.specs.Option.{option_copied}
use Rattle.au_parse.specs.Statements.{sources_of}
use Rattle.au_parse.specs.Tree.{Sources}
use Rattle.au_parse.specs.Views.{statement_tree, source_before}
use Rattle.au_parse.specs.declared.SelectPart.{SelectPart}
use Rattle.au_parse.specs.declared.Source.{Source}
use Rattle.au_parse.specs.declared.Source.TheVariants as source
use Rattle.au_parse.specs.declared.Statement.{Statement, Select}
use Rattle.au_parse.proofs.SourceRows.{select_view}
use Rattle.au_typing.specs.Queries.{Relation, from_items, table_place, table_typing, typing, Refuses}
use Rattle.au_typing.specs.Judged.{Judges, Shows, source_faults, source_item}
use Rattle.au_typing.specs.Results.{clauses_of, from_view, part_typing}
use Rattle.au_typing.specs.Selects.{Clauses, FromItem, Typing, alias_faults, clauses_faults, from_faults, is_join, scope_of, resolved_select, setting_of}
use Rattle.au_typing.specs.Scopes.{then_faults}
use Rattle.au_typing.specs.declared.fault.TypingFault.{TypingFault}
use Rattle.au_typing.specs.declared.from_items.FromPart.{FromPart}
use Rattle.au_typing.specs.declared.part.Part.{Part}
use Rattle.au_typing.proofs.Sizes.{query_size, sources_size}
use Rattle.au_typing.proofs.Steps.{refuses_left}
use Rattle.au_typing.proofs.Within.{Contains-flat_map}

-- the size of one source
abbrev pub source_size : Source → ℕ
source_size s = sources_size (source_before s Sources.no_sources)

size_before : (s : Source) (others : Sources) → sources_size (source_before s others) ≡ source_size s + sources_size others
size_before (source.Table at word alias) others = omega arith
size_before (source.Inner' at p q name) others = omega arith

-- one source of the list is no larger than all
pub size_within : (list : List Source) (k : ℕ) (s : Source) → k < length list → s ≡ get_or list k s → source_size s ≤ sources_size (sources_of list)
size_within [] k s within is = absurd (omega arith)
size_within (x ∷ xs) zero s within is = let e : sources_size (sources_of (x ∷ xs)) ≡ source_size s + sources_size (sources_of xs) = size_before x (sources_of xs) ∙ ap (λ y. source_size y + sources_size (sources_of xs)) (sym is) in omega (arith, e)
size_within (x ∷ xs) (suc k) s within is = let e = size_before x (sources_of xs) in let h = size_within xs k s (omega arith) is in omega (arith, e, h)

-- the FROM items of sources
item_before : (tables : List Relation) (s : Source) (others : Sources) → source_item tables s ∷ from_items tables others ≡ from_items tables (source_before s others)
item_before tables (source.Table at word alias) others = refl
item_before tables (source.Inner' at p q name) others = refl

pub items_of : (tables : List Relation) (list : List Source) → map (source_item tables) list ≡ from_items tables (sources_of list)
items_of tables [] = refl
items_of tables (s ∷ list) = ap (λ items. source_item tables s ∷ items) (items_of tables list) ∙ item_before tables s (sources_of list)

faults_of : (tables : List Relation) (list : List Source) → flat_map (source_faults tables) list ≡ flat_map (λ item. item.typing.faults) (map (source_item tables) list)
faults_of tables [] = refl
faults_of tables (s ∷ list) = ap (λ faults. source_faults tables s ++ faults) (faults_of tables list)

-- a SELECT is that of its clauses and its FROM items
pub select_is : (tables : List Relation) (part : Box SelectPart Global) (statement : Statement) → statement ≡ Select part
    → resolved_select (clauses_of part.value) (map (source_item tables) part.value.sources.items) ≡ typing tables (statement_tree statement)
select_is tables part statement is =
    ap (resolved_select (clauses_of part.value)) (items_of tables part.value.sources.items) ∙ ap (typing tables) (sym (select_view part)) ∙ ap (λ s. typing tables (statement_tree s)) (sym is)

-- the size of a SELECT
pub select_size : (part : Box SelectPart Global) (statement : Statement) → statement ≡ Select part → query_size (statement_tree statement) ≡ 1 + sources_size (sources_of part.value.sources.items)
select_size part statement is = ap (λ s. query_size (statement_tree s)) is ∙ ap query_size (select_view part)

-- the answer of a SELECT
pub select_judged :
    (t : Typing) (tables : List Relation) (c : Clauses) (list : List Source) (from : List FromItem) (r : Result Part TypingFault) →
    from ≡ map (source_item tables) list → resolved_select c (map (source_item tables) list) ≡ t →
    IfOk r (λ p. part_typing p ≡ resolved_select c from) → IfErr r (Refuses (resolved_select c from).faults) → Judges t r
select_judged t tables c list from (Ok p) items is ok err = ok ∙ ap (resolved_select c) items ∙ is
select_judged t tables c list from (Err f) items is ok err = subst (λ s. Refuses s.faults f) (ap (resolved_select c) items ∙ is) err

-- a fault of the first stage
then_left : (fs more : List TypingFault) (f : TypingFault) → Refuses fs f → Refuses (then_faults fs more) f
then_left [] more f (inl m) = inl m
then_left [] more f (inr h) = absurd (omega (arith, h.1))
then_left (g ∷ fs) more f h = h

-- a fault of a FROM item is one of the SELECT
pub select_refuses :
    (t : Typing) (tables : List Relation) (c : Clauses) (list : List Source) (f : TypingFault) → resolved_select c (map (source_item tables) list) ≡ t →
    Refuses (flat_map (source_faults tables) list) f → Refuses t.faults f
select_refuses t tables c list f is h =
    let from = map (source_item tables) list in
    let first : Refuses (from_faults from) f = refuses_left (flat_map (λ item. item.typing.faults) from) (alias_faults [] from) f (subst (λ fs. Refuses fs f) (faults_of tables list) h) in
    subst (λ s. Refuses s.faults f) is (then_left (from_faults from) (clauses_faults (scope_of from) (setting_of (scope_of from) (is_join from) c) c) f first)

-- what is found is the FROM item that is written
pub shown : (t : Typing) (at : ℕ) (name : List ℕ) (x : Result Part TypingFault) (r : Result FromPart TypingFault) → Judges t x → Shows at name x r
    → IfOk r (λ p. from_view p ≡ record { at = at; name = name; typing = t })
shown t at name (Ok part) (Ok item) judged shows = shows ∙ ap (λ s. record { at = at; name = name; typing = s }) judged
shown t at name (Ok part) (Err f) judged shows = tt
shown t at name (Err g) (Ok item) judged shows = cc
shown t at name (Err g) (Err f) judged shows = tt

pub shown_fault : (t : Typing) (at : ℕ) (name : List ℕ) (x : Result Part TypingFault) (r : Result FromPart TypingFault) → Judges t x → Shows at name x r → IfErr r (Refuses t.faults)
shown_fault t at name (Ok part) (Ok item) judged shows = tt
shown_fault t at name (Ok part) (Err f) judged shows = inl shows
shown_fault t at name (Err g) (Ok item) judged shows = tt
shown_fault t at name (Err g) (Err f) judged shows = let same : g ≡ f = cc in subst (Refuses t.faults) same judged

-- the name that is written, or the other
pub name_or : {T : Type 0} (o : Option (Bor T)) (d : Bor T) → (unwrap_or o d).now ≡ unwrap_or (option_copied o) d.now
name_or None d = refl
name_or (Some x) d = refl

-- a table as a FROM item
pub table_item : (tables : List Relation) (at : ℕ) (word name : List ℕ) (alias : Option (List ℕ)) (s : Source) → s ≡ source.Table at word alias → name ≡ unwrap_or alias word
    → record { at = at; name = name; typing = table_typing tables at (table_place tables word) } ≡ source_item tables s
table_item tables at word name alias s is named = ap (λ n. record { at = at; name = n; typing = table_typing tables at (table_place tables word) }) named ∙ ap (source_item tables) (sym is)

-- a fault of one source is one of all
pub faults_within :
    (faults : Source → List TypingFault) (list : List Source) (k : ℕ) (s : Source) (f : TypingFault) → k < length list → s ≡ get_or list k s → Refuses (faults s) f → Refuses (flat_map faults list) f
faults_within faults list k s f within is (inl m) = inl m
faults_within faults list k s f within is (inr h) = inr (Contains-flat_map faults list k s f within is h)
