-- The texts that `encode` and `rewrite` print, as files: their tables, and that the plan can be run over them.
use Rattle.std.proofs.Common.{◌≡◌, ℕ, suc, ◌+◌, ◌*◌, ◌≤◌, Bool, true, false, cond, List, [], ◌∷◌, ◌++◌, length, map, Option, Some, None, Result, Ok, Err, refl, ap, sym, ◌∙◌, subst, arith, le-leb}
use Rattle.std.specs.Prelude.{◌||◌, nat_le, nat_lt, option_and_then}
use Rattle.std.specs.Result.{result_ok}
use Rattle.std.specs.List.{AllByRecursion, AllZip}
use Rattle.std.specs.Str.{is_utf8}
use Rattle.std.proofs.lemmas.Bool.{le-ltb}
use Rattle.au_value.specs.Order.{data_kind}
use Rattle.au_blocks.specs.declared.faults.TableFault.{TableFault}
use Rattle.au_blocks.specs.Read.{table_of}
use Rattle.au_blocks.specs.Tables.{BlockTable, IsBlockTable}
use Rattle.au_io.specs.Files.{File, bytes_at}
use Rattle.au_lex.specs.declared.Token.{Token}
use Rattle.au_lex.specs.Tokens.{tokens_of}
use Rattle.au_parse.specs.Queries.{parsed_tree}
use Rattle.au_parse.specs.Tree.{QueryTree}
use Rattle.au_parse.specs.Whole.{WholeQuery}
use Rattle.au_parse.proofs.Wholeness.{tree_whole}
use Rattle.au_typing.specs.declared.fault.TypingFault.{TypingFault}
use Rattle.au_sqltext.specs.Brackets.{deepest, depth_behind, inside_behind, is_deep, passes_depth}
use Rattle.au_sqltext.specs.Texts.{plan_text}
use Rattle.au_encode.specs.Encode.{encoded_kinds}
use Rattle.au_engine.specs.Answers.{Named, answer_kinds, blocks_of, statement_defects}
use Rattle.au_engine.specs.EncodedTables.{IsEncodedTable, IsWritableTable, encoded_answer}
use Rattle.au_engine.specs.Exchange.{IsPlanText, encoded_text, plain_size, plain_text}
use Rattle.au_engine.specs.Reading.{statement_of}
use Rattle.au_engine.specs.declared.faults.LimitFault.{LimitFault}
use Rattle.au_engine.specs.declared.faults.LimitFault.TheVariants as limit
use Rattle.au_engine.proofs.EncodedGuesses.{hold_encoded}
use Rattle.au_engine.proofs.EncodedPlans.{plans_answer}
use Rattle.au_engine.proofs.GuessCounts.{encoded_size}
use Rattle.au_engine.proofs.ReadValues.{read_good}
use Rattle.au_engine.proofs.WritableRows.{encoded_read}
use Rattle.au_words.specs.Words.{Request}
use Rattle.au_words.specs.Words as words
use Rattle.au_cli.specs.declared.files.Purpose.{Purpose}
use Rattle.au_cli.specs.declared.files.Purpose.TheVariants as purpose
use Rattle.au_cli.specs.declared.outcome.Outcome.{Outcome}
use Rattle.au_cli.specs.Causes.{IsAskedText}
use Rattle.au_value.specs.Texts.{Text}
use Rattle.au_cli.specs.Files.{Found, and_more, file_table, found_in, greatest_columns, greatest_files, greatest_size, greatest_total, passed_limit, size_of, table_in, table_or_defect, table_within, tables_from, tables_of}
use Rattle.au_cli.specs.Outputs.{AnswersOutputs, AreOutputs, AreWithin, IsEncodedFile}
use Rattle.au_cli.specs.Plain.{PlanGiven}
use Rattle.au_cli.specs.Requests.{Given, IsAnswer, IsTextBy, Refusal, given_of, refused_request, statement_given, tables_given, typed_given, unless_refused}
use Rattle.au_cli.specs.Run.{CanRun}
use Rattle.au_cli.proofs.PlanRuns.{given_told as given_plan, run_given}
use Rattle.au_cli.proofs.Endings.{gives_told}
use Rattle.au_cli.proofs.ToldFiles.{told_file}

-- ---- the table of a file

within_is : (u t : BlockTable) (o : Option LimitFault) → table_within u o ≡ Ok t → (o ≡ None) × (u ≡ t)
within_is u t None e = (refl, let same : u ≡ t = cc in same)
within_is u t (Some fault) e = cc

found_is : (aim : Purpose) (file : ℕ) (r : Result BlockTable TableFault) (t : BlockTable) → table_or_defect aim file r ≡ Ok t → (r ≡ Ok t) × (passed_limit aim file t ≡ None)
found_is aim file (Err fault) t e = cc
found_is aim file (Ok u) t e =
    let is = within_is u t (passed_limit aim file u) e in
    (ap Ok is.1, ap (passed_limit aim file) (sym is.1) ∙ is.0)

-- what is read at a path
pub record ReadAt (aim : Purpose) (file : ℕ) (bytes : Option (List ℕ)) (t : BlockTable) : Type 0 where
  pub text : List ℕ
  pub is : bytes ≡ Some text
  pub table : table_of text ≡ Ok t
  pub limit : passed_limit aim file t ≡ None

sized_is : (aim : Purpose) (file : ℕ) (a b : Bool) (text : List ℕ) (t : BlockTable) (first second : Outcome)
    → table_in aim file (cond a (Err first) (cond b (Err second) (Ok text))) ≡ Ok t → ReadAt aim file (Some text) t
sized_is aim file true b text t first second e = cc
sized_is aim file false true text t first second e = cc
sized_is aim file false false text t first second e =
    let is = found_is aim file (table_of text) t e in
    record { text = text; is = refl; table = is.0; limit = is.1 }

read_at : (aim : Purpose) (file before : ℕ) (bytes : Option (List ℕ)) (t : BlockTable) → file_table aim file before bytes ≡ Ok t → ReadAt aim file bytes t
read_at aim file before None t e = cc
read_at aim file before (Some text) t e = sized_is aim file (nat_lt greatest_size (length text)) (nat_lt greatest_total (before + length text)) text t _ _ e

-- a table that is encoded has few columns
few_columns : (n : ℕ) (b : Bool) (o : LimitFault) → nat_lt greatest_columns n ≡ b → cond b (Some o) None ≡ None → n ≤ 20
few_columns n true o e none = cc
few_columns n false o e none = grind (arith, e)

-- ---- the table of an encoded text

table_again : (f before : ℕ) (text : List ℕ) (u : BlockTable) → table_of text ≡ Ok u → length text ≤ greatest_size → before + length text ≤ greatest_total
    → plain_size u ≤ 2 * length text → file_table purpose.Plan f before (Some text) ≡ Ok u
table_again f before text u is small all size =
    let first : nat_lt greatest_size (length text) ≡ false = le-ltb greatest_size (length text) small in
    let second : nat_lt greatest_total (before + length text) ≡ false = le-ltb greatest_total (before + length text) all in
    let cells : nat_le (plain_size u) 16777216 ≡ true = le-leb (plain_size u) 16777216 (omega arith) in
    rw (first, second, is, cells) refl

-- the tables of the words, and of the outputs
pub record AreTables (ts us : List Named) : Type 0 where
  pub good : AllByRecursion IsBlockTable (blocks_of ts)
  pub written : AllByRecursion IsWritableTable (blocks_of ts)
  pub encoded : AllZip IsEncodedTable (blocks_of ts) (blocks_of us)

parts_of : (name : Text) (first : Result BlockTable Outcome) (others : Result (List Named) Outcome) (ts : List Named) → and_more name first others ≡ Ok ts
    → (t : BlockTable) × (rest : List Named) × (first ≡ Ok t) × (others ≡ Ok rest) × ((name, t) ∷ rest ≡ ts)
parts_of name (Err o) others ts e = cc
parts_of name (Ok t) (Err o) ts e = cc
parts_of name (Ok t) (Ok rest) ts e = (t, rest, refl, refl, let same : (name, t) ∷ rest ≡ ts = cc in same)

one_table : (a b : Option (List ℕ)) (t u : BlockTable) (x y : List ℕ) → a ≡ Some x → a ≡ Some y → table_of x ≡ Ok t → table_of y ≡ Ok u → t ≡ u
one_table a b t u x y p q e f =
    let texts : x ≡ y = cc in
    let same : Ok t ≡ Ok u = sym e ∙ ap table_of texts ∙ f in
    cc

-- one table, and the table that its encoded text is read as
one_encoded : (files outputs : List File) (f b : ℕ) (word other : Text × Text) (t : BlockTable) → ReadAt purpose.Query f (bytes_at files word.1) t
    → IsEncodedFile files outputs word other → size_of (bytes_at outputs other.1) ≤ greatest_size → b + size_of (bytes_at outputs other.1) ≤ greatest_total
    → (u : BlockTable) × (file_table purpose.Plan f b (bytes_at outputs other.1) ≡ Ok u) × IsBlockTable t × IsWritableTable t × IsEncodedTable t u
one_encoded files outputs f b word other t own h small all =
    let is = told_file files word.1 (λ found. (u : BlockTable) × (file_table purpose.Encode 0 0 found ≡ Ok u) × (h.0 ≡ encoded_text u)) h.1 in
    let again = read_at purpose.Encode 0 0 (bytes_at files word.1) is.0 is.1 in
    let put : bytes_at outputs other.1 ≡ Some (encoded_text is.0) = h.2 ∙ ap Some is.2 in
    let few = few_columns (length is.0.columns) (nat_lt greatest_columns (length is.0.columns)) (limit.EncodeColumns (length is.0.columns)) refl again.limit in
    let good = read_good again.text is.0 again.table in
    let read = encoded_read is.0 good.0 good.1 few in
    let size = encoded_size is.0 read.0 good.0 good.1 few read.1 in
    let table = table_again f b (encoded_text is.0) read.0 read.1.reads (subst (λ bytes. size_of bytes ≤ greatest_size) put small) (subst (λ bytes. b + size_of bytes ≤ greatest_total) put all) size in
    let same : is.0 ≡ t = one_table (bytes_at files word.1) (bytes_at files word.1) is.0 t again.text own.text again.is own.is again.table own.table in
    (read.0, ap (file_table purpose.Plan f b) put ∙ table, subst IsBlockTable same good.0, subst IsWritableTable same good.1, subst (λ x. IsEncodedTable x read.0) same read.1)

tables_encoded : (files outputs : List File) (file before f b : ℕ) (words others : List (Text × Text)) (ts : List Named) → tables_from purpose.Query file before (found_in files words) ≡ Ok ts
    → AllZip (IsEncodedFile files outputs) words others → AreWithin outputs b others
    → (us : List Named) × (tables_from purpose.Plan f b (found_in outputs others) ≡ Ok us) × AreTables ts us
tables_encoded files outputs file before f b [] [] ts e h k =
    let none : [] ≡ ts = cc in
    ([], refl, subst (λ rest. AreTables rest []) none (record { good = tt; written = tt; encoded = tt }))
tables_encoded files outputs file before f b [] (other ∷ others) ts e h k = elim h [ ]
tables_encoded files outputs file before f b (word ∷ words) [] ts e h k = elim h [ ]
tables_encoded files outputs file before f b (word ∷ words) (other ∷ others) ts e h k =
    let parts = parts_of word.0 (file_table purpose.Query file before (bytes_at files word.1)) (tables_from purpose.Query (file + 1) (before + size_of (bytes_at files word.1)) (found_in files words)) ts e in
    let found = read_at purpose.Query file before (bytes_at files word.1) parts.0 parts.2 in
    let own : ReadAt purpose.Query f (bytes_at files word.1) parts.0 = record { text = found.text; is = found.is; table = found.table; limit = refl } in
    let one = one_encoded files outputs f b word other parts.0 own h.0 k.0 k.1 in
    let more = tables_encoded files outputs (file + 1) (before + size_of (bytes_at files word.1)) (f + 1) (b + size_of (bytes_at outputs other.1)) words others parts.1 parts.3 h.1 k.2 in (
      (other.0, one.0) ∷ more.0,
      ap (λ r. and_more other.0 r (tables_from purpose.Plan (f + 1) (b + size_of (bytes_at outputs other.1)) (found_in outputs others))) one.1 ∙ ap (and_more other.0 (Ok one.0)) more.1,
      subst (λ rest. AreTables rest ((other.0, one.0) ∷ more.0)) parts.4 (record { good = (one.2, more.2.good); written = (one.3, more.2.written); encoded = (one.4, more.2.encoded) }),
    )

-- ---- what is given

typed_parts : (ts us : List Named) (s q : QueryTree) (found : List TypingFault) → typed_given us q found ≡ Ok (ts, s) → (found ≡ []) × (us ≡ ts) × (q ≡ s)
typed_parts ts us s q [] e = let same : (us, q) ≡ (ts, s) = cc in (refl, ap (λ (g : Given). g.0) same, ap (λ (g : Given). g.1) same)
typed_parts ts us s q (fault ∷ faults) e = cc

-- the tables of a request, and that its statement has no defect
pub record IsGiven (r : Request) (found : List Found) (ts : List Named) (s : QueryTree) : Type 0 where
  pub statement : statement_of r.query ≡ Some s
  pub tables : tables_of found ≡ Ok ts
  pub sound : statement_defects ts s ≡ []
  pub allowed : refused_request r ≡ None

tables_parts : (ts : List Named) (s q : QueryTree) (found : Result (List Named) Outcome) → tables_given q found ≡ Ok (ts, s) → (found ≡ Ok ts) × (q ≡ s) × (statement_defects ts s ≡ [])
tables_parts ts s q (Err o) e = cc
tables_parts ts s q (Ok us) e =
    let is = typed_parts ts us s q (statement_defects us q) e in
    (ap Ok is.1, is.2, ap (λ t. statement_defects t s) (sym is.1) ∙ ap (statement_defects us) (sym is.2) ∙ is.0)

statement_parts : (r : Request) (found : List Found) (ts : List Named) (s : QueryTree) (o : Option QueryTree) → statement_given r found o ≡ Ok (ts, s)
    → (o ≡ Some s) × (tables_of found ≡ Ok ts) × (statement_defects ts s ≡ [])
statement_parts r found ts s None e = cc
statement_parts r found ts s (Some q) e = let is = tables_parts ts s q (tables_of found) e in (ap Some is.1, is.0, is.2)

refused_parts : (r : Request) (found : List Found) (o : Option Refusal) (g : Given) → unless_refused r found o ≡ Ok g → (o ≡ None) × (statement_given r found (statement_of r.query) ≡ Ok g)
refused_parts r found None g e = (refl, e)
refused_parts r found (Some refusal) g e = cc

given_parts : (r : Request) (found : List Found) (ts : List Named) (s : QueryTree) → given_of r found ≡ Ok (ts, s) → IsGiven r found ts s
given_parts r found ts s e =
    let own = refused_parts r found (refused_request r) (ts, s) e in
    let is = statement_parts r found ts s (statement_of r.query) own.1 in
    record { statement = is.0; tables = is.1; sound = is.2; allowed = own.0 }

whole_of : (o : Option (List Token)) (s : QueryTree) → option_and_then parsed_tree o ≡ Some s → WholeQuery s
whole_of None s e = cc
whole_of (Some tokens) s e = tree_whole tokens s e

few_tables : (n : ℕ) (b : Bool) (o : Refusal) (rest : Option Refusal) → nat_lt greatest_files n ≡ b → cond b (Some o) rest ≡ None → n ≤ greatest_files
few_tables n true o rest e none = cc
few_tables n false o rest e none = grind (arith, e)

same_long : {A B : Type 0} (P : A → B → Type 0) (xs : List A) (ys : List B) → AllZip P xs ys → length ys ≡ length xs
same_long P [] [] h = refl
same_long P [] (y ∷ ys) h = elim h [ ]
same_long P (x ∷ xs) [] h = elim h [ ]
same_long P (x ∷ xs) (y ∷ ys) h = ap suc (same_long P xs ys h.1)

-- ---- the plan

or_left : (a b : Bool) → (a || b) ≡ false → (a ≡ false) × (b ≡ false)
or_left true b e = cc
or_left false b e = (refl, e)

-- the front of a text that isn't deep isn't
front_flat : (depth : ℕ) (inside : Bool) (xs ys : List ℕ) → passes_depth depth inside (xs ++ ys) ≡ false → passes_depth depth inside xs ≡ false
front_flat depth inside [] ys e = refl
front_flat depth inside (b ∷ xs) ys e =
    let parts = or_left (nat_lt deepest (depth_behind depth inside b)) (passes_depth (depth_behind depth inside b) (inside_behind inside b) (xs ++ ys)) e in
    rw parts.0 (front_flat (depth_behind depth inside b) (inside_behind inside b) xs ys parts.1)

-- what is printed for a request for its plan
plan_printed : (files outputs : List File) (r : Request) (path : Text) (others : List (Text × Text)) (ts : List Named) (s : QueryTree) (h : AreOutputs files outputs r path others ts s) → IsPlanText ts s h.line
plan_printed files outputs r path others ts s h =
    let asked = gives_told (IsAnswer r h.line) r files h.rewritten.1 in
    let same : (asked.0, asked.1) ≡ (ts, s) = let e : Ok (asked.0, asked.1) ≡ Ok (ts, s) = sym asked.2 ∙ h.given in cc in
    let is : IsPlanText asked.0 asked.1 h.line = subst (λ command. IsTextBy command r asked.0 asked.1 h.line) h.command asked.3.is in
    subst (λ (g : Given). IsPlanText g.0 g.1 h.line) same is

module _ (files outputs : List File) (r : Request) (path : Text) (others : List (Text × Text)) (ts : List Named) (s : QueryTree) (h : AreOutputs files outputs r path others ts s) where
  given : IsGiven r (found_in files r.tables) ts s
  given = given_parts r (found_in files r.tables) ts s h.given

  written : IsPlanText ts s h.line
  written = plan_printed files outputs r path others ts s h

  abbrev line : Text
  line = plan_text written.plan

  outputs_run : (can : CanRun path others outputs) × (plain_text can.tables can.plan ≡ encoded_answer ts s)
  outputs_run =
      let e : h.line ≡ line ++ 10 ∷ [] = written.text in
      let found = tables_encoded files outputs 0 0 1 (length (line ++ 10 ∷ [])) r.tables others ts given.tables h.encoded (subst (λ l. AreWithin outputs (length l) others) e h.within) in
      let whole = whole_of (result_ok (tokens_of r.query)) s given.statement in
      let gives = plans_answer found.0 ts s h.line written whole given.sound found.2.good (hold_encoded ts found.0 found.2.good found.2.written found.2.encoded) in
      let few : length r.tables ≤ greatest_files = few_tables (length r.tables) (nat_lt greatest_files (length r.tables)) _ _ refl given.allowed in (
        record {
          few = omega (arith, few, same_long (IsEncodedFile files outputs) r.tables others h.encoded);
          line = line;
          file = h.file ∙ ap Some e;
          size = subst (λ l. length l ≤ greatest_size) e h.size;
          utf8 = subst (λ l. is_utf8 l ≡ true) e written.utf8;
          flat = front_flat 0 false line (10 ∷ []) (subst (λ l. is_deep l ≡ false) e h.flat);
          plan = written.plan;
          text = record { widths = written.widths; numbers = written.numbers; text = refl };
          tables = found.0;
          given = found.1;
          kinds = encoded_kinds (map data_kind (answer_kinds ts s));
          typed = gives.typed;
          fits = gives.fits h.fits;
        },
        gives.text,
      )

  printed : (can : CanRun path others outputs) → plain_text can.tables can.plan ≡ encoded_answer ts s
      → (text : Text) → IsAskedText (Ok (words.plain path others)) (Some outputs) text → text ≡ encoded_answer ts s
  printed can is text asked =
      let gives = given_plan (λ ts p. text ≡ plain_text ts p) path others outputs asked.1 in
      let same : gives.0 ≡ (can.tables, can.plan) = let e : Ok gives.0 ≡ Ok (can.tables, can.plan) = sym gives.1 ∙ run_given path others outputs can in cc in
      gives.2 ∙ ap (λ (g : PlanGiven). plain_text g.0 g.1) same ∙ is

  pub outputs_answered : AnswersOutputs outputs path others ts s
  outputs_answered = let run = outputs_run in record { runs = run.0; prints = printed run.0 run.1 }
