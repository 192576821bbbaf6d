-- One more name is seen.
use Rattle.std.proofs.Common.{◌≡◌, ◌∙◌, ℕ, ◌+◌, ◌<◌, List, [], length, map, take, drop, get_or, refl, sym, ap, arith}
use Rattle.std.specs.Prelude.{option_map, position, Option}
use Rattle.std.specs.Option.{option_or}
use Rattle.std.specs.Str.{str_eq_ignore_ascii_case}
use Rattle.std.proofs.lemmas.List.{drop_more, take_more, take-map, length-map, length-take-le, get_or_read}
use Rattle.std.proofs.Math.ListN.{get_or-map}
use Rattle.au_words.specs.Words.{same_name, same_names}
use Rattle.au_words.specs.CommandLine.{name_of}
use Rattle.au_words.specs.declared.words.TableWord.{TableWord}
use Rattle.au_words.proofs.Places.{position-map}

-- the name of the table at a place
pub name_there : (tables : List TableWord) (i : ℕ) (table : TableWord) → i < length tables → table ≡ get_or tables i table → name_of table ≡ get_or (map name_of tables) i []
name_there tables i table within is =
    let long : i < length (map name_of tables) = rw (length-map tables name_of) within in
    let here : name_of table ≡ get_or (map name_of tables) i (name_of table) = ap name_of is ∙ sym (get_or-map name_of tables i table) in
    get_or_read (map name_of tables) i (name_of table) long here []

names_more : (names : List (List ℕ)) (i : ℕ) (found : Option ℕ) → i < length names → found ≡ same_name (take i names) (get_or names i [])
    → same_names (take i names) (drop i names) ≡ option_or (option_map (λ k. (k, i)) found) (same_names (take (i + 1) names) (drop (i + 1) names))
names_more names i found within is =
    let size : length (take i names) ≡ i = length-take-le i names (omega arith) in
    rw (drop_more names i [] within, take_more names i [] within, is, size) refl

-- the names of the tables, one step on, where `found` is the place of the first that is the same
pub same_more : (tables : List TableWord) (i : ℕ) (name : List ℕ) (found : Option ℕ) → i < length tables → name ≡ get_or (map name_of tables) i []
    → found ≡ position (λ table. str_eq_ignore_ascii_case (name_of table) name) (take i tables)
    → same_names (take i (map name_of tables)) (drop i (map name_of tables))
    ≡ option_or (option_map (λ k. (k, i)) found) (same_names (take (i + 1) (map name_of tables)) (drop (i + 1) (map name_of tables)))
same_more tables i name found within is found_is =
    names_more (map name_of tables) i found (rw (length-map tables name_of) within) (found_is ∙ sym (position-map (λ other. str_eq_ignore_ascii_case other name) name_of (take i tables))
    ∙ ap (λ xs. same_name xs name) (sym (take-map name_of i tables)) ∙ ap (same_name (take i (map name_of tables))) is)
