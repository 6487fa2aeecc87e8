use Rattle.std.proofs.Common.{◌≤◌, ◌-◌, length, drop, map}
use Rattle.pg_read_grammar.specs.Reading.{all_of}
use Rattle.pg_read_grammar.specs.Reader.{begins_type}
use Rattle.pg_read_grammar.specs.ReaderOps.{case_at}
use Rattle.pg_read_ast.specs.Views.{case_of}
use Rattle.pg_read_grammar.proofs.Loops.{Left}
use Rattle.pg_read_operations.proofs.branches.cases.Given as goal

abbrev pub invariant-items : goal.invariant-items
invariant-items l = (l.at ≤ l.place) × (l.place ≤ length l.text.tokens.now)
    × Left begins_type case_at (map case_of l.all.items) (drop l.place l.text.tokens.now) (all_of begins_type case_at (drop l.at l.text.tokens.now))

abbrev pub decreases-items : goal.decreases-items
decreases-items l = length l.text.tokens.now - l.place
