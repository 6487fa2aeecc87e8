use Rattle.std.proofs.Common.{refl}
use Rattle.pg_read_ast.specs.Syntax.{Incoming}
use Rattle.pg_read_ast.specs.Views.{ty_of, incoming_of}
use Rattle.pg_check_rules.specs.Written.{operand}
use Rattle.pg_check_lines.specs.Uses.{use_of, uses_of}
use Rattle.pg_check_rules.proofs.MappedLists.{mapped_all}
use Rattle.pg_check_lines.proofs.ListedParts.{listed_more}
use Rattle.pg_check_lines.proofs.operands.add_incoming_uses.Goals as goal

pub loop-incoming-preserved : goal.loop-incoming-preserved
loop-incoming-preserved c =
    listed_more use_of (λ (j : Incoming). operand (ty_of c.args.ty.now) j.value) incoming_of
    (uses_of c.args.all.now.items) c.args.incomings.now c.loop-incoming.incoming-index c.incoming-item.result _ c.loop-incoming.all.items _ _
    c.loop-incoming-test.true c.incoming-item.is c.loop-incoming.invariant refl c.in_ok-push.ensures.items

pub returns : goal.returns
returns c = mapped_all (λ (j : Incoming). operand (ty_of c.args.ty.now) j.value) incoming_of (uses_of c.args.all.now.items) c.args.incomings.now c.loop-incoming.incoming-index
    (uses_of c.loop-incoming.all.items) c.loop-incoming-test.false c.loop-incoming.invariant
