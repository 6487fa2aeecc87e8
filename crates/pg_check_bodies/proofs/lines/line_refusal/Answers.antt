use Rattle.std.proofs.Common.{◌≡◌, refl, ap, ◌∙◌}
use Rattle.std.proofs.lemmas.List.{append-nil}
use Rattle.pg_read_ast.specs.Syntax.{Line}
use Rattle.pg_read_ast.specs.Views.{line_of}
use Rattle.pg_check_rules.specs.declared.fault.CheckKind.{CheckKind}
use Rattle.pg_check_rules.specs.declared.fault.CheckKind.TheVariants.{UnknownName, Doubled, WrongType, NoBlock, Unsupported}
use Rattle.pg_check_rules.specs.Nodes.{tys_behind}
use Rattle.pg_check_rules.specs.ValueConditions.{Scope}
use Rattle.pg_check_rules.specs.LineConditions.{line_refused}
use Rattle.pg_check_rules.specs.Earliest.{only, joined, names_and_types}
use Rattle.pg_check_rules.proofs.FirstRefusals.{same_places}
use Rattle.pg_check_lines.specs.Uses.{uses_of}
use Rattle.pg_check_bodies.proofs.lines.line_refusal.Goals as goal

kinds : (g : Scope) (l : Line) (kind : CheckKind)
    → joined (names_and_types (line_refused g l UnknownName) (line_refused g l Doubled) (line_refused g l WrongType))
    (joined (only NoBlock (line_refused g l NoBlock)) (only Unsupported (line_refused g l Unsupported))) kind ≡ line_refused g l kind
unfolding line_refused
kinds g l UnknownName = append-nil (line_refused g l UnknownName)
kinds g l Doubled = append-nil (line_refused g l Doubled)
kinds g l WrongType = append-nil (line_refused g l WrongType)
kinds g l NoBlock = append-nil (line_refused g l NoBlock)
kinds g l _ = refl

pub returns : goal.returns
unfolding line_refused
returns c = record {
  first = λ g s.
      let part = line_refused g (line_of c.args.line.now) in
      let written = c.in_ok-written.ensures in
      let uses = c.in_ok-uses.ensures g s in
      let named = names_and_types (part UnknownName) (part Doubled) (part WrongType) in
      let block = only NoBlock (part NoBlock) in
      let unsupported = only Unsupported (part Unsupported) in
      same_places (joined named (joined block unsupported)) part c.earlier_refusal.result (kinds g (line_of c.args.line.now))
      (c.earlier_refusal.ensures named (joined block unsupported)
      (c.name_or_type_refusal-named.ensures (part UnknownName) (part Doubled) (part WrongType)
      (c.unknown_in_line-unknown.ensures g s (ap (λ ts. tys_behind ts) c.as_slice.ensures.value ∙ written) (ap (λ us. uses_of us) c.as_slice-2.ensures.value ∙ uses))
      (c.in_ok-doubled.ensures.place g s)
      (c.in_ok-wrong.ensures.place g s
      (ap (λ ts. tys_behind ts) c.as_slice-3.ensures.value ∙ written) (ap (λ us. uses_of us) c.as_slice-4.ensures.value ∙ uses)))
      (c.earlier_refusal-other.ensures block unsupported
      (c.refusal_at.ensures (part NoBlock) (c.in_ok-block.ensures g s))
      (c.refusal_at-2.ensures (part Unsupported) (c.unsupported_in_line-unsupported.ensures g s (ap (λ us. uses_of us) c.as_slice-5.ensures.value ∙ uses)))));
}
