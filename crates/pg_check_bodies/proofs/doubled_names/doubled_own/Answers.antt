use Rattle.std.proofs.Common.{◌++◌, ap, ◌∙◌}
use Rattle.std.specs.List.{flat_map}
use Rattle.pg_check_rules.specs.Earliest.{earliest}
use Rattle.pg_check_rules.specs.Names.{doubled}
use Rattle.pg_check_rules.specs.Starts.{names_behind, first_start}
use Rattle.pg_check_bodies.proofs.doubled_names.doubled_own.Goals as goal

pub returns : goal.returns
returns c =
    let all = c.args.labels.now ++ c.args.registers.now in
    c.doubled_names.ensures all
    (λ text. c.in_ok-starts.ensures text ∙ ap (λ ns. first_start (names_behind ns) text) c.as_slice.ensures.value ∙ ap (λ ns. first_start ns text) c.in_ok-all.ensures)
    ∙ ap (λ ns. earliest (flat_map (doubled all) (names_behind ns))) c.as_slice-2.ensures.value
    ∙ ap (λ ns. earliest (flat_map (doubled all) ns)) (c.in_ok-some.ensures ∙ ap (λ rs. c.args.labels.now ++ rs) c.without_params.ensures)
