use Rattle.std.proofs.Common.{◌++◌}
use Rattle.std.specs.List.{flat_map}
use Rattle.pg_read_ast.specs.Numbers.{gives}
use Rattle.pg_read_ast.specs.Views.{line_of}
use Rattle.pg_check_rules.specs.CallConditions.{thread_functions, wrong_thread}
use Rattle.pg_check_rules.specs.LineConditions.{wrong_return, wrong_path, wrong_name}
use Rattle.pg_check_bodies.proofs.LineRows.{rows_joined}
use Rattle.pg_check_bodies.proofs.lines.wrong_otherwise.Goals as goal

pub returns : goal.returns
returns c = record {
  place = λ g s.
      let l = line_of c.args.line.now in
      let threads = flat_map (wrong_thread g) (thread_functions g l.op) in
      let returned = wrong_return g l.op in
      let path = wrong_path g l.op in
      let name = wrong_name (gives g.tree.types l.op) l.name in
      rows_joined threads (returned ++ (path ++ name)) c.in_ok-thread.thread c.earlier-2.result c.earlier-3.result
      (c.in_ok-thread.ensures.place g s)
      (rows_joined returned (path ++ name) c.in_ok-returned.returned c.earlier.result c.earlier-2.result
      (c.in_ok-returned.ensures.place g s)
      (rows_joined path name c.in_ok-path.path c.in_ok-name.name c.earlier.result
      (c.in_ok-path.ensures.place g s)
      (c.in_ok-name.ensures.place g s)
      c.earlier.ensures)
      c.earlier-2.ensures)
      c.earlier-3.ensures;
}
