-- What an error of making a program says.
use Rattle.std.specs.Prelude.{ℕ, List, codes}
use Rattle.pg_ir.specs.declared.error.ProgramError.{ProgramError}
use Rattle.pg_ir.specs.declared.error.ProgramError.TheVariants.{Malformed, OutOfMemory}

abbrev pub error_text : ProgramError → List ℕ
error_text Malformed = codes "the parts are not those of a program"
error_text OutOfMemory = codes "out of memory"
