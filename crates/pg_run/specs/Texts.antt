-- What a print writes.
use Rattle.std.specs.Prelude.{ℕ, ◌%◌, ◌++◌, List, [], ◌∷◌, true, false}
use Rattle.std.specs.Fmt.{signed_decimal}
use Rattle.pg_run_trace.specs.pg_num.Numbers.{signed}
use Rattle.pg_run_trace.specs.pg_num.declared.width.Width.TheVariants.{W64}
use Rattle.pg_run_trace.specs.pg_ir.declared.request.Request.{Request}
use Rattle.pg_run_trace.specs.pg_ir.declared.request.Request.TheVariants as requests

-- a number in signed decimal, with a line feed where it ends its line, or the low byte
abbrev pub printed_by : Request → List ℕ
printed_by (requests.Out n true) = signed_decimal (signed W64 n) ++ 10 ∷ []
printed_by (requests.Out n false) = signed_decimal (signed W64 n)
printed_by (requests.Putchar n) = n % 256 ∷ []
printed_by r = []
