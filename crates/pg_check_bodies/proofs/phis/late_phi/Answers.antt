use Rattle.std.proofs.Common.{◌≡◌, ◌≤◌, ◌-◌, map, drop, length, sym, ap, ◌∙◌, arith, length-drop}
use Rattle.std.specs.List.{flat_map}
use Rattle.std.proofs.lemmas.List.{drop-map}
use Rattle.pg_check_rules.specs.Earliest.{earliest}
use Rattle.pg_check_rules.specs.BlockConditions.{phi_span}
use Rattle.pg_check_rules.proofs.Rows.{row_whole}
use Rattle.pg_check_bodies.specs.BodyBlocks.{bare_node}
use Rattle.pg_check_bodies.proofs.phis.late_phi.Goals as goal

pub returns : goal.returns
returns c =
    let lines = c.args.lines.now in
    let count = c.phi_count-count.result in
    let whole : length (drop count lines) ≤ length lines - count = omega (arith, length-drop count lines) in
    row_whole (λ ls. c.phi_words.result ≡ earliest (flat_map phi_span (map bare_node ls))) (drop count lines) (length lines - count) whole c.phi_words.ensures
    ∙ ap (λ ls. earliest (flat_map phi_span ls)) (sym (drop-map bare_node count lines))
    ∙ ap (λ n. earliest (flat_map phi_span (drop n (map bare_node lines)))) c.phi_count-count.ensures.count
