use Rattle.std.proofs.Common.{sym, subst}
use Rattle.pg_ir.specs.Program.{NumberedProgram}
use Rattle.pg_ir.specs.Tables.{IsPrepared}
use Rattle.pg_ir.proofs.program.Program.from_parts.Goals as goal

pub invariant_of-result : goal.invariant_of-result
invariant_of-result c =
    let t = c.args.tables in
    subst (λ (q : NumberedProgram). IsPrepared q t.edges.items t.values.items t.cases.items t.blocks.items) (sym c.parts.view_is)
    (record { program = c.requires.program; count = c.requires.count; tables = c.requires.tables })
