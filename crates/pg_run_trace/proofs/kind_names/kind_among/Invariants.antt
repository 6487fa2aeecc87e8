use Rattle.std.proofs.Common.{◌≡◌, drop}
use Rattle.std.specs.List.{find}
use Rattle.std.specs.Str.{bytes_eq}
use Rattle.pg_run_trace.specs.KindNames.{kind_text}
use Rattle.pg_run_trace.proofs.kind_names.kind_among.Given as goal

abbrev pub invariant-loop-kind : goal.invariant-loop-kind
invariant-loop-kind l = find (λ k. bytes_eq (kind_text k) l.name) l.kinds ≡ find (λ k. bytes_eq (kind_text k) l.name) (drop l.kind-index l.kinds)
