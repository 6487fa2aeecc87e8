use Rattle.std.proofs.Common.{◌≡◌, List, refl}
use Rattle.std.proofs.lemmas.List.{append-nil}
use Rattle.pg_read_ast.specs.pg_read_lex.declared.token.Span.{Span}
use Rattle.pg_check_rules.specs.declared.fault.CheckKind.{CheckKind}
use Rattle.pg_check_rules.specs.declared.fault.CheckKind.TheVariants.{UnknownName, Doubled, WrongType}
use Rattle.pg_check_rules.specs.Earliest.{only, joined, names_and_types}
use Rattle.pg_check_rules.proofs.FirstRefusals.{same_places}
use Rattle.pg_check_rules.proofs.refusals.name_or_type_refusal.Goals as goal

kinds : (us ds ws : List Span) (kind : CheckKind) → joined (only UnknownName us) (joined (only Doubled ds) (only WrongType ws)) kind ≡ names_and_types us ds ws kind
kinds us ds ws UnknownName = append-nil us
kinds us ds ws Doubled = append-nil ds
kinds us ds ws _ = refl

pub returns : goal.returns
returns c = λ us ds ws u d w.
    let twice = only Doubled ds in
    let misfit = only WrongType ws in
    same_places (joined (only UnknownName us) (joined twice misfit)) (names_and_types us ds ws) c.earlier_refusal-2.result (kinds us ds ws)
    (c.earlier_refusal-2.ensures (only UnknownName us) (joined twice misfit) (c.refusal_at-named.ensures us u)
    (c.earlier_refusal.ensures twice misfit (c.refusal_at-twice.ensures ds d) (c.refusal_at-misfit.ensures ws w)))
