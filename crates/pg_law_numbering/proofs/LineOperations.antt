-- What holds of an operation that a line of an accepted tree has.
use Rattle.std.proofs.Common.{◌≡◌, ℕ, [], ◌++◌, true}
use Rattle.std.specs.Prelude.{slice_get, Some}
use Rattle.pg_read_ast.specs.declared.names.Name.{Name}
use Rattle.pg_read_ast.specs.Syntax.{Ty, Val, Line, Op, Definition, Tree}
use Rattle.pg_check_rules.specs.Names.{labels_of}
use Rattle.pg_check_types.specs.Resolved.{ResolvedType, resolved}
use Rattle.pg_check_rules.specs.Written.{Use, Demand, op_demands, label_targets, label_sources}
use Rattle.pg_check_rules.specs.ValueConditions.{unknown_value, function_value, wrong_use}
use Rattle.pg_check_rules.specs.CallConditions.{call_demands, thread_functions, wrong_thread, unsupported_thread}
use Rattle.pg_check_rules.specs.LineConditions.{line_types, line_uses, unknown_callee, unsupported_callee, wrong_call, wrong_return, no_block}
use Rattle.pg_check_rules.specs.Conditions.{scope_of, IsUnrefused}
use Rattle.pg_law_numbering.proofs.UnrefusedParts.{each_none}
use Rattle.pg_law_numbering.proofs.ResolvedTypes.{Has}
use Rattle.pg_law_numbering.proofs.AcceptedLines.{IsLine, unknown_values, known_callee, known_threads, line_type, line_demand, line_use, line_call, line_threads, line_return, line_labels}
use Rattle.pg_law_numbering.proofs.AcceptedLines.{no_functions}
use Rattle.pg_law_numbering.proofs.AcceptedLines.{supported_callee, supported_threads}

pub record Passes (m : Tree) (d : Definition) (o : Op) : Type 0 where
  pub types : (i : ℕ) (t : Ty) → slice_get (line_types o) i ≡ Some t → Has (resolved m.types t)
  pub demands : (i : ℕ) (x : Demand) → slice_get (op_demands m.types (scope_of m d).result o ++ call_demands (scope_of m d) o) i ≡ Some x → (r : ResolvedType)
      → resolved m.types x.ty ≡ Some r → x.test r ≡ true
  pub uses : (i : ℕ) (u : Use) → slice_get (line_uses (scope_of m d) o) i ≡ Some u → wrong_use (scope_of m d) u ≡ []
  pub values : (i : ℕ) (u : Use) → slice_get (line_uses (scope_of m d) o) i ≡ Some u → unknown_value (scope_of m d) u.value ≡ []
  pub no_functions : (i : ℕ) (u : Use) → slice_get (line_uses (scope_of m d) o) i ≡ Some u → function_value (scope_of m d) u.value ≡ []
  pub callee : unknown_callee (scope_of m d) o ≡ []
  pub supported : unsupported_callee (scope_of m d) o ≡ []
  pub call : wrong_call (scope_of m d) o ≡ []
  pub known_threads : (i : ℕ) (v : Val) → slice_get (thread_functions (scope_of m d) o) i ≡ Some v → unknown_value (scope_of m d) v ≡ []
  pub threads : (i : ℕ) (v : Val) → slice_get (thread_functions (scope_of m d) o) i ≡ Some v → wrong_thread (scope_of m d) v ≡ []
  pub supported_threads : (i : ℕ) (v : Val) → slice_get (thread_functions (scope_of m d) o) i ≡ Some v → unsupported_thread (scope_of m d) v ≡ []
  pub returned : wrong_return (scope_of m d) o ≡ []
  pub labels : (i : ℕ) (n : Name) → slice_get (label_targets o ++ label_sources o) i ≡ Some n → no_block (labels_of d) n ≡ []

pub passes : (m : Tree) → IsUnrefused m → (d : Definition) (l : Line) → IsLine m d l → Passes m d l.op
passes m h d l at = record {
  types = line_type m h d l at;
  demands = line_demand m h d l at;
  uses = line_use m h d l at;
  values = λ i u e. each_none (λ (x : Use). unknown_value (scope_of m d) x.value) (line_uses (scope_of m d) l.op) i u (unknown_values m h d l at) e;
  no_functions = λ i u e. each_none (λ (x : Use). function_value (scope_of m d) x.value) (line_uses (scope_of m d) l.op) i u (no_functions m h d l at) e;
  callee = known_callee m h d l at;
  supported = supported_callee m h d l at;
  call = line_call m h d l at;
  known_threads = λ i v e. each_none (unknown_value (scope_of m d)) (thread_functions (scope_of m d) l.op) i v (known_threads m h d l at) e;
  threads = λ i v e. each_none (wrong_thread (scope_of m d)) (thread_functions (scope_of m d) l.op) i v (line_threads m h d l at) e;
  supported_threads = λ i v e. each_none (unsupported_thread (scope_of m d)) (thread_functions (scope_of m d) l.op) i v (supported_threads m h d l at) e;
  returned = line_return m h d l at;
  labels = λ i n e. each_none (no_block (labels_of d)) (label_targets l.op ++ label_sources l.op) i n (line_labels m h d l at) e;
}
