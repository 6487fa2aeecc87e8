use Rattle.std.proofs.Common.{sym, ap, subst, ◌∙◌}
use Rattle.pg_read_ast.specs.declared.nodes.Module.{Module}
use Rattle.pg_read_ast.specs.Views.{tree_of}
use Rattle.pg_check_types.proofs.Resolutions.{if_ok}
use Rattle.pg_check_rules.specs.Numbered.{program_of}
use Rattle.pg_check_program.specs.Room.{ProgramFits}
use Rattle.pg_check_program.proofs.program.parts_of.Goals as goal

pub parts_among-requires : goal.parts_among-requires
parts_among-requires c = record {
  fits = subst (λ (m : Module). ProgramFits (tree_of m)) (sym c.in_ok-globals.ensures.same) c.requires.fits;
}

pub returns : goal.returns
returns c = record {
  program = if_ok c.parts_among.result (λ p h. h ∙ ap (λ (m : Module). program_of (tree_of m)) c.in_ok-globals.ensures.same) c.parts_among.ensures.program;
}
