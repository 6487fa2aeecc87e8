use Rattle.std.proofs.Common.{◌≡◌, drop}
use Rattle.pg_session_runner.specs.Loading.{are_accesses}
use Rattle.pg_session_runner.proofs.loading.are_accesses.Given as goal

abbrev pub invariant-ids : goal.invariant-ids
invariant-ids l = are_accesses l.p (drop l.place l.gated) ≡ are_accesses l.p l.gated
