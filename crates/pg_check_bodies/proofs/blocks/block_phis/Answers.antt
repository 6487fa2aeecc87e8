use Rattle.std.proofs.Common.{map, sym, ap, ◌∙◌}
use Rattle.pg_check_rules.specs.Earliest.{earlier}
use Rattle.pg_check_bodies.specs.BodyBlocks.{named_block}
use Rattle.pg_check_bodies.proofs.PhiRows.{no_phis, three_rows}
use Rattle.pg_check_bodies.proofs.blocks.block_phis.Goals as goal

pub returns-in_ok-wrong-in-Some : goal.returns-in_ok-wrong-in-Some
returns-in_ok-wrong-in-Some c = λ all k.
    c.earlier-in-Some.ensures
    ∙ ap (λ o. earlier c.late_phi-late.result o) c.earlier.ensures
    ∙ three_rows all (map named_block c.args.blocks.now) c.args.number (named_block c.args.block.now) c.late_phi-late.result c.first_block_phi-early.result c.in_ok-wrong-in-Some.wrong
    c.late_phi-late.ensures c.first_block_phi-early.ensures (c.in_ok-wrong-in-Some.ensures all k)

pub returns-in-None : goal.returns-in-None
returns-in-None c = λ all k. no_phis all (map named_block c.args.blocks.now) c.args.number (named_block c.args.block.now) (sym c.in-None.is ∙ c.phi_words.ensures)
