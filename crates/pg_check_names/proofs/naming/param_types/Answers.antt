use Rattle.std.proofs.Common.{◌≡◌, map}
use Rattle.pg_read_ast.specs.Syntax.{Param}
use Rattle.pg_read_ast.specs.Views.{param_of}
use Rattle.pg_check_types.specs.Resolved.{resolved}
use Rattle.pg_check_rules.proofs.Rows.{row_whole}
use Rattle.pg_check_names.specs.Registers.{register_type}
use Rattle.pg_check_names.proofs.naming.param_types.Goals as goal

pub returns : goal.returns
returns c = λ types.
    row_whole (λ ps. map (register_type types) c.loop-param.kinds.items ≡ map (λ (p : Param). resolved types p.ty) (map param_of ps)) c.args.params.now c.loop-param.param-index
    c.loop-param-test.false
    (c.loop-param.invariant types)
