use Rattle.std.proofs.Common.{◌≡◌, drop}
use Rattle.pg_region_accesses.specs.declared.rooted.Rooted.{Rooted}
use Rattle.pg_region_paths.specs.RootPaths.{path_in}
use Rattle.pg_region_accesses.specs.Accesses.{gathered, called_access}
use Rattle.pg_region_accesses.specs.Appends.{behind}
use Rattle.pg_region_accesses.proofs.access.push_each_called.Given as goal

abbrev pub invariant-loop-access : goal.invariant-loop-access
invariant-loop-access l =
    behind l.initial.accesses.items (gathered (λ (a : Rooted). called_access (path_in l.known) l.args a a.path.root) l.called)
    ≡ behind l.accesses.items (gathered (λ (a : Rooted). called_access (path_in l.known) l.args a a.path.root) (drop l.access-index l.called))
