use Rattle.std.proofs.Common.{refl}
use denote.Ref.{Bor}
use Rattle.pg_read_ast.specs.declared.names.Name.{Name}
use Rattle.pg_read_ast.specs.Syntax.{Case}
use Rattle.pg_read_ast.specs.Views.{case_of}
use Rattle.pg_check_rules.specs.Starts.{names_behind}
use Rattle.pg_check_rules.proofs.MappedLists.{mapped_all}
use Rattle.pg_check_lines.proofs.ListedParts.{listed_more}
use Rattle.pg_check_lines.proofs.labels.add_case_labels.Goals as goal

pub loop-case-preserved : goal.loop-case-preserved
loop-case-preserved c =
    listed_more (λ (n : Bor Name). n.now) (λ (k : Case). k.block) case_of (names_behind c.args.all.now.items) c.args.cases.now c.loop-case.case-index c.case-item.result _ c.loop-case.all.items _ _
    c.loop-case-test.true c.case-item.is c.loop-case.invariant refl c.in_ok-push.ensures.items

pub returns : goal.returns
returns c = mapped_all (λ (k : Case). k.block) case_of (names_behind c.args.all.now.items) c.args.cases.now c.loop-case.case-index
    (names_behind c.loop-case.all.items) c.loop-case-test.false c.loop-case.invariant
