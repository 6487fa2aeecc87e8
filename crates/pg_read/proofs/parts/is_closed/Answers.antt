use Rattle.std.proofs.Common.{◌-◌, length, refl, sym, ◌∙◌, arith}
use Rattle.pg_read.proofs.AddedParts.{closed_at}
use Rattle.pg_read.proofs.parts.is_closed.Goals as goal

pub returns : goal.returns
returns c = let xs = c.args.lines.now in
    c.ends_block.ensures ∙ sym (closed_at xs (length xs - 1) c.index-lines-count.result (omega (arith, c.if-count-eq0.false)) refl)
