use Rattle.std.proofs.Common.{◌≡◌, ◌||◌, refl, sym, ap, ◌∙◌}
use Rattle.std.specs.List.{flat_map}
use Rattle.std.proofs.lemmas.List.{append-nil}
use Rattle.pg_read_ast.specs.Syntax.{Tree, Declaration}
use Rattle.pg_read_ast.specs.Views.{declare_of}
use Rattle.pg_check_types.specs.NumberedTypes.{named_types}
use Rattle.pg_check_rules.specs.declared.fault.CheckKind.{CheckKind}
use Rattle.pg_check_rules.specs.declared.fault.CheckKind.TheVariants.{UnknownName, Doubled, WrongType, BadSignature}
use Rattle.pg_check_rules.specs.Nodes.{tys_behind}
use Rattle.pg_check_rules.specs.Written.{types_within}
use Rattle.pg_check_rules.specs.Names.{symbol_names}
use Rattle.pg_check_rules.specs.KnownNames.{known_named}
use Rattle.pg_check_rules.specs.TypeConditions.{unknown_type, unknown_types, array_count, wrong_counts}
use Rattle.pg_check_rules.specs.CallConditions.{declaration_header}
use Rattle.pg_check_rules.specs.Earliest.{earliest, only, joined, names_and_types}
use Rattle.pg_check_rules.specs.Conditions.{at_if, head_types, declares_other_known, declares_other_main, declaration_refused}
use Rattle.pg_check_rules.proofs.Parts.{same_row}
use Rattle.pg_check_rules.proofs.FirstRefusals.{same_places}
use Rattle.pg_check_heads.proofs.heads.declaration_refusal.Goals as goal

kinds : (m : Tree) (d : Declaration) (kind : CheckKind)
    → joined (names_and_types (declaration_refused m d UnknownName) (declaration_refused m d Doubled) (declaration_refused m d WrongType))
    (only BadSignature (declaration_refused m d BadSignature)) kind
    ≡ declaration_refused m d kind
unfolding declaration_refused
kinds m d UnknownName = append-nil (declaration_refused m d UnknownName)
kinds m d Doubled = append-nil (declaration_refused m d Doubled)
kinds m d WrongType = append-nil (declaration_refused m d WrongType)
kinds m d _ = refl

pub wrong_signature-requires : goal.wrong_signature-requires
wrong_signature-requires c =
    ap (λ ts. tys_behind ts) c.as_slice-2.ensures.value ∙ c.in_ok-within.ensures ∙ ap (λ ts. flat_map types_within (tys_behind ts)) c.as_slice.ensures.value
    ∙ ap (λ ts. flat_map types_within ts) c.in_ok-head.ensures

pub returns : goal.returns
unfolding declaration_refused unknown_types wrong_counts
returns c = record {
  first = λ m t s.
      let item = declare_of c.args.item.now in
      let header = declaration_header item in
      let span = c.args.item.now.name.span in
      let text = c.args.item.now.name.text in
      let head = c.as_slice.ensures.value in
      let within = c.in_ok-within.ensures ∙ ap (λ ts. flat_map types_within (tys_behind ts)) head ∙ ap (λ ts. flat_map types_within ts) c.in_ok-head.ensures in
      let slice_3 = ap (λ ts. tys_behind ts) c.as_slice-3.ensures.value ∙ within in
      let slice_4 = ap (λ ts. tys_behind ts) c.as_slice-4.ensures.value ∙ within in
      let part = declaration_refused m item in
      let named = names_and_types (part UnknownName) (part Doubled) (part WrongType) in
      let other = only BadSignature (part BadSignature) in
      same_places (joined named other) part c.earlier_refusal.result (kinds m item)
      (c.earlier_refusal.ensures named other
      (c.name_or_type_refusal-named.ensures (part UnknownName) (part Doubled) (part WrongType)
      (same_row unknown_type (named_types c.args.types.now) m.types (tys_behind c.as_slice-3.result.now)
      (flat_map types_within (head_types header)) c.unknown_types-unknown.result c.unknown_types-unknown.ensures (sym t) slice_3)
      (c.doubled.ensures (symbol_names m) s)
      (c.wrong_counts-wrong.ensures ∙ ap (λ ts. earliest (flat_map array_count ts)) slice_4))
      (c.refusal_at-other.ensures (part BadSignature)
      (c.place_if.ensures ∙ ap (λ b. earliest (at_if b span))
      (c.in_ok-signature.ensures.same ∙ ap (λ types. declares_other_known types (known_named text) header || declares_other_main types text header) (sym t)))));
}
