-- The head of a function in which each parameter has its name.
use Rattle.std.proofs.Common.{◌≡◌, ℕ, ◌&&◌, ◌||◌, not, List, [], ◌∷◌, map, Some, refl, ap, ◌∙◌}
use Rattle.std.specs.List.{filter_map, list_any, list_all}
use Rattle.std.specs.Str.{bytes_eq}
use Rattle.pg_num.specs.declared.width.Width.TheVariants.{W32}
use Rattle.pg_ir.specs.declared.value.Scalar.TheVariants.{Int}
use Rattle.pg_read_ast.specs.Syntax.{Param, ParamOf, NamedType, Definition}
use Rattle.pg_read_ast.specs.Numbers.{numbered, each_at, behind_param, param_at}
use Rattle.pg_check_types.specs.Resolved.{resolved}
use Rattle.pg_check_types.specs.Kinds.{fails}
use Rattle.pg_check_rules.specs.CallConditions.{definition_header, param_type, is_resolved}
use Rattle.pg_check_rules.specs.Signatures.{is_wrong_param}
use Rattle.pg_check_rules.specs.Written.{is_returnable}
use Rattle.pg_check_rules.specs.Conditions.{head_types, main_name, is_result, are_params, wrong_main, wrong_definition}

params_same : (n : ℕ) (ps : List Param) → filter_map param_type (map (λ (p : Param). ParamOf p) (each_at behind_param param_at n ps))
    ≡ filter_map param_type (map (λ (p : Param). ParamOf p) ps)
params_same n [] = refl
params_same n (p ∷ ps) = ap (λ ts. p.ty ∷ ts) (params_same (behind_param n p) ps)

pub head_same : (types : List NamedType) (d : Definition) → head_types (definition_header (numbered types d)) ≡ head_types (definition_header d)
unfolding numbered
head_same types d = ap (λ ts. d.result ∷ ts) (params_same 0 d.params)

main_params_same : (types : List NamedType) (n : ℕ) (ps : List Param)
    → are_params types [] (map (λ (p : Param). ParamOf p) (each_at behind_param param_at n ps)) ≡ are_params types [] (map (λ (p : Param). ParamOf p) ps)
main_params_same types n [] = refl
main_params_same types n (p ∷ ps) = refl

pub wrong_main_same : (items types : List NamedType) (text : List ℕ) (d : Definition) → wrong_main items text (definition_header (numbered types d)) ≡ wrong_main items text (definition_header d)
unfolding numbered
wrong_main_same items types text d =
    ap (λ ts. bytes_eq text main_name && (list_all (is_resolved items) (d.result ∷ ts)
    && not (is_result (Some (Int W32)) (resolved items d.result) && are_params items [] (map (λ (p : Param). ParamOf p) (each_at behind_param param_at 0 d.params))))) (params_same 0 d.params)
    ∙ ap (λ b. bytes_eq text main_name && (list_all (is_resolved items) (head_types (definition_header d)) && not (is_result (Some (Int W32)) (resolved items d.result) && b)))
    (main_params_same items 0 d.params)

any_same : (items : List NamedType) (n : ℕ) (ps : List Param) → list_any (is_wrong_param items) (each_at behind_param param_at n ps) ≡ list_any (is_wrong_param items) ps
any_same items n [] = refl
any_same items n (p ∷ ps) = ap (λ b. is_wrong_param items p || b) (any_same items (behind_param n p) ps)

pub wrong_definition_same : (items types : List NamedType) (d : Definition) → wrong_definition items (numbered types d) ≡ wrong_definition items d
unfolding numbered
wrong_definition_same items types d = ap (λ b. fails is_returnable (resolved items d.result) || b) (any_same items 0 d.params)
