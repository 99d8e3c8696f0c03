-- The numbers, the words and the columns of faults.
use Rattle.std.specs.Prelude.{ℕ, List, Option, Some, None, codes}
use Rattle.aide_entry.specs.declared.fault_kind.DbFaultKind.{DbFaultKind}
use Rattle.aide_entry.specs.declared.fault_kind.DbFaultKind.TheVariants.{LineTooLong, NoBegin}
use Rattle.aide_entry.specs.declared.fault_kind.DbFaultKind.TheVariants.{BadDirective, BadSpec}
use Rattle.aide_entry.specs.declared.fault_kind.DbFaultKind.TheVariants.{NoSpec, FieldCount}
use Rattle.aide_entry.specs.declared.fault_kind.DbFaultKind.TheVariants.{BadName, OutOfOrder}
use Rattle.aide_entry.specs.declared.fault_kind.DbFaultKind.TheVariants.{BadNumber, BadTime}
use Rattle.aide_entry.specs.declared.fault_kind.DbFaultKind.TheVariants.{BadDigest, NoEnd, Memory}
use Rattle.aide_entry.specs.declared.fault_kind.DbFaultKind.TheVariants.{Read, TooManyBytes}

-- the code of a kind of fault
abbrev pub code_of_kind : DbFaultKind → ℕ
code_of_kind LineTooLong = 1
code_of_kind NoBegin = 2
code_of_kind BadDirective = 3
code_of_kind BadSpec = 4
code_of_kind NoSpec = 5
code_of_kind FieldCount = 6
code_of_kind BadName = 7
code_of_kind OutOfOrder = 8
code_of_kind (BadNumber column) = 9
code_of_kind (BadTime column) = 10
code_of_kind (BadDigest column) = 11
code_of_kind NoEnd = 12
code_of_kind Memory = 13
code_of_kind Read = 14
code_of_kind TooManyBytes = 15

-- the words of a kind of fault, before the number of a column
unfoldable pub words_of_kind : DbFaultKind → List ℕ
words_of_kind LineTooLong = codes "line too long"
words_of_kind NoBegin = codes "no @@begin_db"
words_of_kind BadDirective = codes "unexpected directive"
words_of_kind BadSpec = codes "bad @@db_spec"
words_of_kind NoSpec = codes "no @@db_spec"
words_of_kind FieldCount = codes "wrong number of fields"
words_of_kind BadName = codes "bad name"
words_of_kind OutOfOrder = codes "entry out of path order"
words_of_kind (BadNumber column) = codes "bad number in column"
words_of_kind (BadTime column) = codes "bad time in column"
words_of_kind (BadDigest column) = codes "bad digest in column"
words_of_kind NoEnd = codes "no @@end_db"
words_of_kind Memory = codes "out of memory"
words_of_kind Read = codes "read failed"
words_of_kind TooManyBytes = codes "too many bytes"

-- the number of the column that a fault is about, if it is about one
abbrev pub column_of_kind : DbFaultKind → Option ℕ
column_of_kind (BadNumber column) = Some column
column_of_kind (BadTime column) = Some column
column_of_kind (BadDigest column) = Some column
column_of_kind _ = None
