-- The tables of what is found, one word after the other.
use Rattle.std.proofs.Common.{◌≡◌, ◌<◌, ◌≤◌, ◌+◌, ◌++◌, ℕ, List, [], ◌∷◌, map, take, take_at, drop, get_or, Option, Some, None, Result, Ok, Err, length, arith, refl, sym, ◌∙◌, ap, subst}
use Rattle.std.specs.List.{AllZip}
use Rattle.std.proofs.lemmas.List.{append_assoc, append-nil, drop_more, length-append, length-map}
use Rattle.au_blocks.specs.Tables.{BlockTable}
use Rattle.au_io.specs.Counts.{Rose}
use Rattle.au_io.specs.Files.{File}
use Rattle.au_engine.specs.Answers.{Named}
use Rattle.au_cli.specs.declared.files.Purpose.{Purpose}
use Rattle.au_cli.specs.declared.outcome.Outcome.{Outcome}
use Rattle.au_cli.specs.declared.outcome.Outcome.TheVariants as outcome
use Rattle.au_value.specs.Texts.{Text}
use Rattle.au_words.specs.CommandLine.{seen_table}
use Rattle.au_words.specs.declared.words.TableWord.{TableWord}
use Rattle.au_cli.specs.Files.{FileFound, FilesFound, Found, IsFound, and_more, file_table, held_by, size_of, tables_from}
use Rattle.au_cli.specs.FileCauses.{FileCause, FileRefused, FilesCause, FilesRefused, ReadsUpTo}

-- tables behind those that are done
abbrev pub joined : List Named → Result (List Named) Outcome → Result (List Named) Outcome
joined done (Err refusal) = Err refusal
joined done (Ok others) = Ok (done ++ others)

-- What is found for the words before those that are left, and that the tables of it are those that are done.
pub record SoFar (told : Option (List File)) (aim : Purpose) (first start : ℕ) (words : List (Text × Text)) (done : List Named) (index before : ℕ) (left : List (Text × Text)) : Type 0 where
  pub front : List (Text × Text)
  pub whole : front ++ left ≡ words
  pub count : length front ≡ index
  pub found : List Found
  pub are : AllZip (IsFound told) front found
  pub gives : (rest : List Found) → tables_from aim first start (found ++ rest) ≡ joined done (tables_from aim (first + index) before rest)

-- the same, as a loop knows it
pub ReadSoFar : Option (List File) → Purpose → ℕ → ℕ → List (Text × Text) → List Named → ℕ → ℕ → List (Text × Text) → Type 0
ReadSoFar told aim first start words done index before left = SoFar told aim first start words done index before left

zip_append : (told : Option (List File)) (front left : List (Text × Text)) (found rest : List Found) → AllZip (IsFound told) front found → AllZip (IsFound told) left rest
    → AllZip (IsFound told) (front ++ left) (found ++ rest)
zip_append told [] left [] rest h k = k
zip_append told [] left (one ∷ found) rest h k = elim h [ ]
zip_append told (word ∷ front) left [] rest h k = elim h [ ]
zip_append told (word ∷ front) left (one ∷ found) rest h k = (h.0, zip_append told front left found rest h.1 k)

none_joined : (r : Result (List Named) Outcome) → r ≡ joined [] r
none_joined (Ok ts) = refl
none_joined (Err o) = refl

pub read_none : (told : Option (List File)) (aim : Purpose) (first start : ℕ) (words : List (Text × Text)) → ReadSoFar told aim first start words [] 0 start words
unfolding ReadSoFar
read_none told aim first start words = record {
  front = [];
  whole = refl;
  count = refl;
  found = [];
  are = tt;
  gives = λ rest. (let e : first ≡ first + 0 = omega arith in none_joined (tables_from aim first start rest) ∙ ap (λ n. joined [] (tables_from aim n start rest)) e);
}

one_more : (done : List Named) (name : Text) (t : BlockTable) (others : Result (List Named) Outcome)
    → joined done (and_more name (Ok t) others) ≡ joined (done ++ ((name, t) ∷ [])) others
one_more done name t (Err o) = refl
one_more done name t (Ok ts) = ap Ok (sym (append_assoc done ((name, t) ∷ []) ts))

-- one table more, behind those of what is found so far
more_given : (aim : Purpose) (first before size index : ℕ) (done : List Named) (name : Text) (one : Option (List ℕ)) (t : BlockTable) (rest : List Found)
    → file_table aim (first + index) before one ≡ Ok t → size_of one ≡ size
    → joined done (tables_from aim (first + index) before ((name, one) ∷ rest)) ≡ joined (done ++ ((name, t) ∷ [])) (tables_from aim (first + (index + 1)) (before + size) rest)
more_given aim first before size index done name one t rest is sized =
    let next : first + index + 1 ≡ first + (index + 1) = omega arith in
    ap (λ r. joined done (and_more name r (tables_from aim (first + index + 1) (before + size_of one) rest))) is
    ∙ one_more done name t (tables_from aim (first + index + 1) (before + size_of one) rest)
    ∙ ap (λ n. joined (done ++ ((name, t) ∷ [])) (tables_from aim (first + index + 1) (before + n) rest)) sized
    ∙ ap (λ n. joined (done ++ ((name, t) ∷ [])) (tables_from aim n (before + size) rest)) next

pub read_one : (told : Option (List File)) (aim : Purpose) (first start : ℕ) (words : List (Text × Text)) (done : List Named) (index before size : ℕ) (word : Text × Text) (t : BlockTable) (left : List (Text × Text))
    → ReadSoFar told aim first start words done index before (word ∷ left)
    → FileFound told word.1 (λ found. (file_table aim (first + index) before found ≡ Ok t) × (size_of found ≡ size))
    → ReadSoFar told aim first start words (done ++ ((word.0, t) ∷ [])) (index + 1) (before + size) left
unfolding ReadSoFar
read_one told aim first start words done index before size word t left so is =
    let one : Found = (word.0, is.0) in
    record {
      front = so.front ++ word ∷ [];
      whole = append_assoc so.front (word ∷ []) left ∙ so.whole;
      count = omega (arith, length-append so.front (word ∷ []), so.count);
      found = so.found ++ one ∷ [];
      are = zip_append told so.front (word ∷ []) so.found (one ∷ []) so.are ((refl, is.1), tt);
      gives = λ rest. (ap (tables_from aim first start) (append_assoc so.found (one ∷ []) rest) ∙ so.gives (one ∷ rest) ∙ more_given aim first before size index done word.0 is.0 t rest is.2.0 is.2.1);
    }

-- what is found so far gives the tables that are done
done_given : (told : Option (List File)) (aim : Purpose) (first start : ℕ) (words : List (Text × Text)) (done : List Named) (index before : ℕ) (left : List (Text × Text))
    → (so : SoFar told aim first start words done index before left) → tables_from aim first start so.found ≡ Ok done
done_given told aim first start words done index before left so =
    ap (tables_from aim first start) (sym (append-nil so.found)) ∙ so.gives [] ∙ ap Ok (append-nil done)

pub read_all : (told : Option (List File)) (aim : Purpose) (first start : ℕ) (words : List (Text × Text)) (done : List Named) (index before : ℕ)
    → ReadSoFar told aim first start words done index before [] → FilesFound told words (λ found. tables_from aim first start found ≡ Ok done)
unfolding ReadSoFar
read_all told aim first start words done index before so = (
  so.found,
  subst (λ all. AllZip (IsFound told) all so.found) (sym (append-nil so.front) ∙ so.whole) so.are,
  done_given told aim first start words done index before [] so,
)

-- ---- a refusal

-- what may be found for a word that is not read
abbrev unread : Option (List File) → Text × Text → Found
unread None word = (word.0, None)
unread (Some files) word = held_by files word

unread_is : (told : Option (List File)) (word : Text × Text) → IsFound told word (unread told word)
unread_is None word = (refl, tt)
unread_is (Some files) word = (refl, refl)

unread_are : (told : Option (List File)) (words : List (Text × Text)) → AllZip (IsFound told) words (map (unread told) words)
unread_are told [] = tt
unread_are told (word ∷ words) = (unread_is told word, unread_are told words)

-- something is found for words that are not read
pub unread_found : (told : Option (List File)) (words : List (Text × Text)) → (found : List Found) × AllZip (IsFound told) words found
unread_found told words = (map (unread told) words, unread_are told words)

refused_first : (told : Option (List File)) (aim : Purpose) (first start : ℕ) (words : List (Text × Text)) (done : List Named) (index before : ℕ) (word : Text × Text) (left : List (Text × Text)) (o : Outcome)
    → ReadSoFar told aim first start words done index before (word ∷ left) → FileRefused told aim word.1 (first + index) before o → FilesRefused told aim first start words o
unfolding ReadSoFar
refused_first told aim first start words done index before word left o so h =
    let one : Found = (word.0, h.0) in
    let unread = unread_found told left in
    let others = unread.0 in (
      so.found ++ one ∷ others,
      subst (λ all. AllZip (IsFound told) all (so.found ++ one ∷ others)) so.whole
          (zip_append told so.front (word ∷ left) so.found (one ∷ others) so.are ((refl, h.1), unread.1)),
      so.gives (one ∷ others) ∙ ap (λ r. joined done (and_more word.0 r (tables_from aim (first + index + 1) (before + size_of h.0) others))) h.2,
    )

read_up_to : (told : Option (List File)) (aim : Purpose) (first start : ℕ) (words : List (Text × Text)) (done : List Named) (index before : ℕ) (left : List (Text × Text))
    → ReadSoFar told aim first start words done index before left → index < length words → ReadsUpTo told aim first start words index
unfolding ReadSoFar
read_up_to told aim first start words done index before left so below =
    let front : take index words ≡ so.front = ap (take index) (sym so.whole) ∙ take_at so.front left index so.count in
    record {
      below = below;
      found = so.found;
      are = subst (λ all. AllZip (IsFound told) all so.found) (sym front) so.are;
      tables = done;
      given = done_given told aim first start words done index before left so;
    }

pub rose_later : (n m k : ℕ) → n ≤ m → Rose m k → Rose n k
rose_later n m k below rose = omega arith

pub files_cause : (told : Option (List File)) (aim : Purpose) (first start : ℕ) (words : List (Text × Text)) (done : List Named) (index before f f1 fn a a1 an : ℕ) (word : Text × Text) (left : List (Text × Text)) (o : Outcome)
    → ReadSoFar told aim first start words done index before (word ∷ left) → index < length words → f ≤ f1 → a ≤ a1 → FileCause told aim word.1 (first + index) before f1 fn a1 an o
    → FilesCause told aim first start words f fn a an o
files_cause told aim first start words done index before f f1 fn a a1 an word left outcome.NoMemory so within ff aa cause = tt
files_cause told aim first start words done index before f f1 fn a a1 an word left (outcome.ReadFault i) so within ff aa cause =
    (rose_later f f1 fn ff cause.1, (index, cause.0, read_up_to told aim first start words done index before (word ∷ left) so within))
files_cause told aim first start words done index before f f1 fn a a1 an word left (outcome.NoFile i) so within ff aa cause =
    (rose_later a a1 an aa cause.1, refused_first told aim first start words done index before word left (outcome.NoFile i) so cause.2)
files_cause told aim first start words done index before f f1 fn a a1 an word left (outcome.Table i fault) so within ff aa cause =
    (cause.0, refused_first told aim first start words done index before word left (outcome.Table i fault) so cause.1)
files_cause told aim first start words done index before f f1 fn a a1 an word left (outcome.Limit fault) so within ff aa cause =
    (cause.0, refused_first told aim first start words done index before word left (outcome.Limit fault) so cause.1)
files_cause told aim first start words done index before f f1 fn a a1 an word left _ so within ff aa cause = elim cause [ ]

-- ---- the word at a place

module _ (told told1 : Option (List File)) (same : told1 ≡ told) (aim : Purpose) (first start : ℕ) (raw : List TableWord) (done : List Named) (index before n : ℕ) (at : n ≡ index) (d : TableWord)
    (so : ReadSoFar told aim first start (map seen_table raw) done index before (map seen_table (drop index raw))) (below : index < length raw) where
  next : ReadSoFar told aim first start (map seen_table raw) done index before (seen_table (get_or raw index d) ∷ map seen_table (drop (index + 1) raw))
  next = subst (λ left. ReadSoFar told aim first start (map seen_table raw) done index before left) (ap (map seen_table) (drop_more raw index d below)) so

  pub cause_at : (f f1 fn a a1 an : ℕ) (o : Outcome) → f ≤ f1 → a ≤ a1 → FileCause told1 aim (seen_table (get_or raw index d)).1 (first + n) before f1 fn a1 an o
      → FilesCause told aim first start (map seen_table raw) f fn a an o
  cause_at f f1 fn a a1 an o ff aa cause =
      let long : length (map seen_table raw) ≡ length raw = length-map raw seen_table in
      let own = subst (λ t. FileCause t aim (seen_table (get_or raw index d)).1 (first + n) before f1 fn a1 an o) same cause in
      let placed = subst (λ k. FileCause told aim (seen_table (get_or raw index d)).1 (first + k) before f1 fn a1 an o) at own in
      files_cause told aim first start (map seen_table raw) done index before f f1 fn a a1 an (seen_table (get_or raw index d)) (map seen_table (drop (index + 1) raw)) o next (omega (arith, long, below)) ff aa placed

  pub one_at : (size : ℕ) (t : Named) (grown : List Named) → grown ≡ done ++ t ∷ [] → t.0 ≡ (seen_table (get_or raw index d)).0
      → FileFound told1 (seen_table (get_or raw index d)).1 (λ found. (file_table aim (first + n) before found ≡ Ok t.1) × (size_of found ≡ size))
      → ReadSoFar told aim first start (map seen_table raw) grown (index + 1) (before + size) (map seen_table (drop (index + 1) raw))
  one_at size t grown e name is =
      let own = subst (λ o. FileFound o (seen_table (get_or raw index d)).1 (λ found. (file_table aim (first + n) before found ≡ Ok t.1) × (size_of found ≡ size))) same is in
      let placed = subst (λ k. FileFound told (seen_table (get_or raw index d)).1 (λ found. (file_table aim (first + k) before found ≡ Ok t.1) × (size_of found ≡ size))) at own in
      let more = read_one told aim first start (map seen_table raw) done index before size (seen_table (get_or raw index d)) t.1 (map seen_table (drop (index + 1) raw)) next placed in
      let named : ((seen_table (get_or raw index d)).0, t.1) ≡ t = ap (λ (x : Text). (x, t.1)) (sym name) in
      subst (λ (ts : List Named). ReadSoFar told aim first start (map seen_table raw) ts (index + 1) (before + size) (map seen_table (drop (index + 1) raw)))
      (ap (λ (x : Named). done ++ x ∷ []) named ∙ sym e) more
