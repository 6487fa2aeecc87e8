use Rattle.std.proofs.Common.{◌≡◌, drop, map}
use Rattle.pg_read_ast.specs.Views.{ty_of}
use Rattle.pg_check_types.specs.NumberedTypes.{named_types}
use Rattle.pg_check_rules.specs.CallConditions.{fits_params}
use Rattle.pg_check_calls.specs.Headers.{params_behind}
use Rattle.pg_check_calls.proofs.calls.fits_params.Given as goal

abbrev pub invariant-loop-place : goal.invariant-loop-place
invariant-loop-place l = fits_params (named_types l.types) (params_behind (drop l.place l.params)) (map ty_of (drop l.place l.written)) l.dots
    ≡ fits_params (named_types l.types) (params_behind l.params) (map ty_of l.written) l.dots
