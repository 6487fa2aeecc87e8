use Rattle.std.proofs.Common.{◌≡◌, ◌∷◌, map, take}
use Rattle.pg_read_ast.specs.Syntax.{Incoming}
use Rattle.pg_read_ast.specs.Views.{incoming_of}
use Rattle.pg_check_rules.specs.Starts.{names_behind}
use Rattle.pg_check_bodies.proofs.phis.phi_sources.Given as goal

abbrev pub invariant-loop-other : goal.invariant-loop-other
invariant-loop-other l = names_behind l.all.items ≡ map (λ (j : Incoming). j.block) (incoming_of l.first ∷ map incoming_of (take l.other-index l.others))
