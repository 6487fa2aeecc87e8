use Rattle.std.proofs.Common.{◌&&◌, not, cond, [], ap, ◌∙◌}
use Rattle.pg_read_ast.specs.Views.{op_of}
use Rattle.pg_check_rules.specs.Earliest.{earliest}
use Rattle.pg_check_rules.specs.Starts.{names_behind}
use Rattle.pg_check_rules.specs.BlockConditions.{phi_word, same_labels, are_labels}
use Rattle.pg_check_bodies.proofs.phis.wrong_sources.Goals as goal

pub returns : goal.returns
returns c = λ all k.
    let before = names_behind c.args.before.now in
    let op = op_of c.args.line.now.op in
    c.phi_word_if.ensures
    ∙ ap (λ b. earliest (cond b (phi_word op) []))
    (c.in_ok-wrong.ensures all k
    ∙ ap (λ ns. are_labels all (names_behind ns) && not (same_labels before (names_behind ns))) c.as_slice.ensures.value
    ∙ ap (λ ns. are_labels all ns && not (same_labels before ns)) c.in_ok-listed.ensures)
