use Rattle.std.proofs.Common.{◌≡◌, not, map, refl, ap, ◌∙◌}
use Rattle.std.specs.List.{list_any}
use Rattle.std.specs.Str.{bytes_eq}
use Rattle.pg_read_ast.specs.Syntax.{Tree, Definition}
use Rattle.pg_read_ast.specs.Views.{define_of, tree_of}
use Rattle.pg_check_rules.specs.declared.fault.CheckKind.{CheckKind}
use Rattle.pg_check_rules.specs.declared.fault.CheckKind.TheVariants.{NoMain}
use Rattle.pg_check_rules.specs.Earliest.{earliest, only}
use Rattle.pg_check_rules.specs.Conditions.{at_if, main_name, main_refused}
use Rattle.pg_check_rules.proofs.FirstRefusals.{same_places}
use Rattle.pg_check.proofs.main_function.main_refusal.Goals as goal

kinds : (m : Tree) (kind : CheckKind) → only NoMain (main_refused m NoMain) kind ≡ main_refused m kind
unfolding main_refused
kinds m NoMain = refl
kinds m _ = refl

pub returns : goal.returns
unfolding main_refused
returns c =
    let m = tree_of c.args.tree.now in
    same_places (only NoMain (main_refused m NoMain)) (main_refused m) c.refusal_at.result (kinds m)
    (c.refusal_at.ensures (main_refused m NoMain)
    (c.place_if.ensures
    ∙ ap (λ b. earliest (at_if (not b) (record { start = 0; end = 0 })))
    (c.has_main-found.ensures ∙ ap (λ ds. list_any (λ (d : Definition). bytes_eq d.name.text main_name) (map define_of ds)) c.as_slice.ensures.value)))
