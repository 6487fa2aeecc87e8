use Rattle.std.proofs.Common.{sym, ◌∙◌}
use Rattle.pg_read.specs.BodyParts.{part_of}
use Rattle.pg_read.proofs.AddedParts.{begun}
use Rattle.pg_read.proofs.parts.add_part.Goals as goal

pub returns-else-is_err : goal.returns-else-is_err
returns-else-is_err c = let e = c.in-None.ensures.cases in
    begun c.args.blocks.items c.pop.new.self.items c.push.new.self.items c.in_ok-next-in-None.next (part_of c.args.part) _ (sym c.args.blocks.ok.0 ∙ e.0)
    (sym c.pop.new.self.ok.0 ∙ e.1) c.push.ensures.items c.if-is_err.ensures.negation c.in_ok-next-in-None.ensures
