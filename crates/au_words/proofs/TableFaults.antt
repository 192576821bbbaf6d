-- What is wrong with table words, from what is found.
use Rattle.std.proofs.Common.{◌≡◌, ◌∙◌, ℕ, true, false, List, [], ◌∷◌, map, refl, sym, ap, Some, None}
use Rattle.std.specs.Prelude.{position}
use Rattle.au_value.specs.Texts.{Text}
use Rattle.au_words.specs.Words.{is_bad_table, same_names, table_fault, name_part, named_path}
use Rattle.au_words.specs.CommandLine.{name_of, seen_table}
use Rattle.au_words.specs.declared.fault.UsageFault.TheVariants.{BadTable, SameTable}
use Rattle.au_words.specs.declared.words.TableWord.{TableWord}

firsts_of_tables : (tables : List TableWord) → map (λ (p : Text × Text). p.0) (map seen_table tables) ≡ map name_of tables
firsts_of_tables [] = refl
firsts_of_tables (table ∷ tables) = ap (λ xs. name_of table ∷ xs) (firsts_of_tables tables)

firsts_of_words : (words : List Text) → map (λ (p : Text × Text). p.0) (map named_path words) ≡ map name_part words
firsts_of_words [] = refl
firsts_of_words (word ∷ words) = ap (λ xs. name_part word ∷ xs) (firsts_of_words words)

-- the tables have the names of the words
pub names_of : (tables : List TableWord) (words : List Text) → map seen_table tables ≡ map named_path words → map name_of tables ≡ map name_part words
names_of tables words e = sym (firsts_of_tables tables) ∙ ap (map (λ (p : Text × Text). p.0)) e ∙ firsts_of_words words

-- a bad word
pub bad : (words : List Text) (i : ℕ) → position is_bad_table words ≡ Some i → table_fault words ≡ Some (BadTable i)
bad words i e = rw e refl

-- two of one name
pub same : (words : List Text) (i j : ℕ) → position is_bad_table words ≡ None → same_names [] (map name_part words) ≡ Some (i, j) → table_fault words ≡ Some (SameTable i j)
same words i j none e = rw (none, e) refl

-- neither
pub fine : (words : List Text) → position is_bad_table words ≡ None → same_names [] (map name_part words) ≡ None → table_fault words ≡ None
fine words none e = rw (none, e) refl

-- the only word
pub one_bad : (word : Text) → is_bad_table word ≡ true → table_fault (word ∷ []) ≡ Some (BadTable 0)
one_bad word e = rw e refl

pub one_fine : (word : Text) → is_bad_table word ≡ false → table_fault (word ∷ []) ≡ None
one_fine word e = rw e refl
