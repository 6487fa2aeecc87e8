use Rattle.std.proofs.Common.{map, subst, refl, sym, ap, ◌∙◌}
use Rattle.std.specs.List.{flat_map}
use Rattle.pg_read_ast.specs.Syntax.{Tree}
use Rattle.pg_read_ast.specs.Numbers.{numbered}
use Rattle.pg_read_ast.specs.Views.{block_of, define_of}
use Rattle.pg_check_rules.specs.Names.{label_number}
use Rattle.pg_check_rules.specs.LineConditions.{line_refused}
use Rattle.pg_check_rules.specs.Conditions.{all_of, all_lines, scope_of}
use Rattle.pg_check_rules.proofs.FirstRefusals.{same_places}
use Rattle.pg_check_bodies.specs.BodyParts.{block_refused, AreOwn}
use Rattle.pg_check_bodies.proofs.NumberedBodies.{all_lines_refused}
use Rattle.pg_check_bodies.proofs.BodyRows.{scope_is}
use Rattle.pg_check_bodies.proofs.body.all_lines_refusal.Goals as goal

pub returns : goal.returns
returns c = record {
  first = λ m e.
      let item = define_of c.args.item.now in
      let g = scope_of m (numbered m.types item) in
      let t = ap (λ (x : Tree). x.types) e ∙ sym c.requires.tree in
      let own = subst (λ ts. AreOwn ts item c.args.own.now) (sym t) c.requires.own in
      same_places (all_of (block_refused g) (map block_of c.as_slice-3.result.now)) (all_of (line_refused g) (all_lines (numbered m.types item))) c.in_ok-found.found
      (λ kind. ap (λ bs. flat_map (λ b. block_refused g b kind) (map block_of bs)) c.as_slice-3.ensures.value ∙ sym (all_lines_refused g item kind))
      (c.in_ok-found.ensures.first g
      (scope_is m item c.args.own.now _ (sym e) t own (λ text. c.in_ok-registers.ensures text ∙ ap (λ ns. label_number ns text) c.as_slice.ensures.value) c.as_slice-2.ensures.value
      c.requires.labels refl));
}
