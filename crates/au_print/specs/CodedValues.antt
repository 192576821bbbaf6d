-- A number, and the value of a kind for which it stands.
use Rattle.au_value.specs.declared.value.Value.{Value}
use Rattle.au_codes.specs.Books.{Book}
use Rattle.au_codes.specs.Decoding.{decoded}
use Rattle.au_print.specs.declared.coded_value.CodedValue.{CodedValue}

abbrev pub value_of : Book → CodedValue → Value
value_of book coded = decoded book coded.kind coded.number
