-- An integer at the type that is written before it.
use Rattle.std.proofs.Common.{◌≡◌, Bool, cond, List, [], ◌∷◌, ◌++◌, sym, ap, ◌∙◌}
use Rattle.std.proofs.lemmas.List.{append-nil}
use Rattle.pg_read_ast.specs.declared.names.Literal.{Literal}
use Rattle.pg_read_ast.specs.Syntax.{Ty, Int, NamedType}
use Rattle.pg_check_types.specs.Resolved.{resolved}
use Rattle.pg_check_types.specs.Kinds.{fails}
use Rattle.pg_check_rules.specs.Written.{constant_at}
use Rattle.pg_check_rules.specs.ValueConditions.{Scope, fits, wrong_use}
use Rattle.pg_check_rules.specs.Earliest.{earliest}

pub literal_place : (g : Scope) (t : Ty) (n : Literal) (types : List NamedType) (b : Bool) → g.tree.types ≡ types → b ≡ fails (λ u. fits u (Int n)) (resolved types t)
    → earliest (cond b (n.span ∷ []) []) ≡ earliest (wrong_use g (constant_at t (Int n)))
unfolding wrong_use
literal_place g t n types b e f =
    ap (λ xs. earliest xs) (sym (append-nil (cond b (n.span ∷ []) [])))
    ∙ ap (λ x. earliest (cond x (n.span ∷ []) [] ++ [])) (f ∙ ap (λ ts. fails (λ u. fits u (Int n)) (resolved ts t)) (sym e))
