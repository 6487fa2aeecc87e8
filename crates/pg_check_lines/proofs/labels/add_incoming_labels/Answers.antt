use Rattle.std.proofs.Common.{refl}
use denote.Ref.{Bor}
use Rattle.pg_read_ast.specs.declared.names.Name.{Name}
use Rattle.pg_read_ast.specs.Syntax.{Incoming}
use Rattle.pg_read_ast.specs.Views.{incoming_of}
use Rattle.pg_check_rules.specs.Starts.{names_behind}
use Rattle.pg_check_rules.proofs.MappedLists.{mapped_all}
use Rattle.pg_check_lines.proofs.ListedParts.{listed_more}
use Rattle.pg_check_lines.proofs.labels.add_incoming_labels.Goals as goal

pub loop-incoming-preserved : goal.loop-incoming-preserved
loop-incoming-preserved c =
    listed_more (λ (n : Bor Name). n.now) (λ (j : Incoming). j.block) incoming_of
    (names_behind c.args.all.now.items) c.args.incomings.now c.loop-incoming.incoming-index c.incoming-item.result _ c.loop-incoming.all.items _ _
    c.loop-incoming-test.true c.incoming-item.is c.loop-incoming.invariant refl c.in_ok-push.ensures.items

pub returns : goal.returns
returns c = mapped_all (λ (j : Incoming). j.block) incoming_of (names_behind c.args.all.now.items) c.args.incomings.now c.loop-incoming.incoming-index
    (names_behind c.loop-incoming.all.items) c.loop-incoming-test.false c.loop-incoming.invariant
