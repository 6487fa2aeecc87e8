use Rattle.std.proofs.Common.{subst}
use Rattle.pg_read_ast.specs.Views.{line_of, op_of}
use Rattle.pg_check_types.specs.NumberedTypes.{named_types}
use Rattle.pg_check_names.specs.Registers.{IsResult}
use Rattle.pg_check_names.proofs.RegisterLists.{line_push}
use Rattle.pg_check_names.proofs.naming.add_line.Goals as goal

pub returns-in_ok-push-in-Some-2-clause-registers : goal.returns-in_ok-push-in-Some-2-clause-registers
returns-in_ok-push-in-Some-2-clause-registers c =
    let types = named_types c.args.types.now in
    let kind = subst (λ o. IsResult types (op_of c.args.line.now.op) o) c.in-Some.is c.in_ok-kind.ensures.ty in
    line_push types c.args.names.now.items c.args.kinds.now.items c.in_ok-name-in-Some.name c.in-Some.kind c.args.next.now (line_of c.args.line.now) c.push.new.self.items c.push-in-Some.new.self.items
    c.requires c.in_ok-push-in-Some.ensures.items c.in_ok-push-in-Some-2.ensures.items kind.0 kind.1 c.in_ok-name-in-Some.ensures.name
