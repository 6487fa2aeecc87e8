use Rattle.std.proofs.Common.{map, ap, ◌∙◌}
use Rattle.std.specs.List.{filter_map}
use Rattle.pg_read_ast.specs.Numbers.{each_at, behind_all, behind_param, param_at}
use Rattle.pg_read_ast.specs.Views.{param_of, block_of, define_of}
use Rattle.pg_read_ast.specs.Syntax.{Param}
use Rattle.pg_check_types.specs.Resolved.{resolved}
use Rattle.pg_check_types.specs.NumberedTypes.{named_types}
use Rattle.pg_check_rules.specs.Numbering.{param_name}
use Rattle.pg_check_names.proofs.RegisterLists.{param_lengths, own_labels, own_registers}
use Rattle.pg_check_names.proofs.naming.own_names.Goals as goal

pub add_blocks-requires : goal.add_blocks-requires
add_blocks-requires c =
    let names = c.in_ok-names.ensures.names
    ∙ ap (λ n. filter_map param_name (each_at behind_param param_at n (map param_of c.as_slice.result.now))) c.zero-next.ensures
    ∙ ap (λ ps. filter_map param_name (each_at behind_param param_at 0 (map param_of ps))) c.as_slice.ensures.value in
    param_lengths (map param_of c.args.item.now.params.items) c.in_ok-names.names.items c.in_ok-kinds.kinds.items names
    (λ types. c.in_ok-kinds.ensures types ∙ ap (λ ps. map (λ (p : Param). resolved types p.ty) (map param_of ps)) c.as_slice-2.ensures.value)

pub returns-clause-labels : goal.returns-clause-labels
returns-clause-labels c =
    let next = c.in_ok-names.ensures.next
    ∙ ap (λ n. behind_all behind_param n (map param_of c.as_slice.result.now)) c.zero-next.ensures
    ∙ ap (λ ps. behind_all behind_param 0 (map param_of ps)) c.as_slice.ensures.value in
    own_labels (named_types c.args.types.now) (define_of c.args.item.now) c.param_names.new.next (map block_of c.as_slice-3.result.now) c.new-labels.result.items c.add_blocks.new.labels.items
    next (ap (λ bs. map block_of bs) c.as_slice-3.ensures.value) c.new-labels.ensures.items c.in_ok-add_blocks.ensures.labels

pub returns-clause-registers : goal.returns-clause-registers
returns-clause-registers c =
    let types = named_types c.args.types.now in
    let names = c.in_ok-names.ensures.names
    ∙ ap (λ n. filter_map param_name (each_at behind_param param_at n (map param_of c.as_slice.result.now))) c.zero-next.ensures
    ∙ ap (λ ps. filter_map param_name (each_at behind_param param_at 0 (map param_of ps))) c.as_slice.ensures.value in
    let next = c.in_ok-names.ensures.next
    ∙ ap (λ n. behind_all behind_param n (map param_of c.as_slice.result.now)) c.zero-next.ensures
    ∙ ap (λ ps. behind_all behind_param 0 (map param_of ps)) c.as_slice.ensures.value in
    own_registers types (define_of c.args.item.now) c.param_names.new.next (map block_of c.as_slice-3.result.now) c.in_ok-names.names.items c.in_ok-kinds.kinds.items _
    next (ap (λ bs. map block_of bs) c.as_slice-3.ensures.value) names
    (c.in_ok-kinds.ensures types ∙ ap (λ ps. map (λ (p : Param). resolved types p.ty) (map param_of ps)) c.as_slice-2.ensures.value)
    c.in_ok-add_blocks.ensures.registers
