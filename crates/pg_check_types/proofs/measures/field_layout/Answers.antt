use Rattle.std.proofs.Common.{◌+◌, refl, ap, ◌∙◌}
use Rattle.pg_check_types.specs.Capped.{capped}
use Rattle.pg_check_types.proofs.Capping.{field_layout}
use Rattle.pg_check_types.proofs.measures.field_layout.Goals as goal

pub returns-clause-layout : goal.returns-clause-layout
returns-clause-layout c = field_layout c.args.front c.args.field _ (c.capped-fields_end.ensures.value ∙ ap (λ n. capped (n + c.args.field.size)) c.round_up-at.ensures.value) c.max-alignment.ensures
    (c.capped-size.ensures.value ∙ ap (λ n. capped n) c.round_up.ensures.value) refl
