use Rattle.pg_law_threads.proofs.PermittedRunLaw.{law_of_runs}
use Rattle.pg_law_threads.proofs.permitted_runs_are_parts.Goals as goal

pub returns : goal.returns
returns c M turns s full run h perm = law_of_runs M turns s full h run perm
