use Rattle.pg_check_lines.specs.Cases.{start_of}
use Rattle.pg_check_lines.proofs.CaseStarts.{repeated_is}
use Rattle.pg_check_lines.proofs.cases.repeated.Goals as goal

pub returns : goal.returns
returns c = λ all s.
    repeated_is all c.args.place (start_of c.args.starts.now) c.known_start-known.result c.is_before.result c.place_if.result
    s c.known_start-known.ensures c.is_before.ensures c.place_if.ensures
