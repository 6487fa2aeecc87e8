use Rattle.std.proofs.Common.{◌∙◌, rules}
use Rattle.pg_run_thread.specs.Needs.{NamesObject}
use Rattle.pg_run_thread.proofs.NamedObjects.{object_is}
use Rattle.pg_run_thread.proofs.library.library_action.Goals as goal

pub returns-in_default : goal.returns-in_default
returns-in_default c =
    let names : NamesObject c.args.function = search rules in
    c.object_action.ensures ∙ object_is c.args.p.now c.args.here.memory.thread c.args.here.halfway c.args.here.registers.now c.args.function c.args.args.now names
