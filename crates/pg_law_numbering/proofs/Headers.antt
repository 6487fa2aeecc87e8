-- The types of an accepted tree's functions.
use Rattle.std.proofs.Common.{◌≡◌, ℕ, zero, suc, List, [], ◌∷◌, map, Bool, true, false, ◌&&◌, ◌||◌, refl, sym, ap, ◌∙◌}
use Rattle.std.specs.Prelude.{slice_get, Option, Some, is_some}
use Rattle.std.specs.List.{list_any, list_all, filter_map}
use Rattle.std.specs.Option.{option_map}
use Rattle.std.specs.Str.{bytes_eq}
use Rattle.std.proofs.lemmas.Bool.{and_from, or_parts}
use Rattle.std.proofs.lemmas.Option.{slice_get-map}
use Rattle.pg_read_lex.specs.declared.token.Span.{Span}
use Rattle.pg_num.specs.declared.width.Width.TheVariants.{W32}
use Rattle.pg_ir.specs.declared.library_call.LibraryCall.{LibraryCall}
use Rattle.pg_ir.specs.declared.value.Scalar.TheVariants as scalar
use Rattle.pg_ir.specs.Signatures.{parameters_of, returned_by}
use Rattle.pg_read_ast.specs.Syntax.{Ty, Param, ParamOf, Declaration, Definition, Tree}
use Rattle.pg_read_ast.specs.Numbers.{numbered}
use Rattle.pg_check_rules.specs.declared.fault.CheckKind.TheVariants.{UnknownName, WrongType, BadSignature}
use Rattle.pg_check_rules.specs.KnownNames.{known_named}
use Rattle.pg_check_types.specs.Resolved.{ResolvedType, resolved, is_scalar}
use Rattle.pg_check_rules.specs.Written.{is_returnable}
use Rattle.pg_check_rules.specs.TypeConditions.{unknown_types, wrong_counts}
use Rattle.pg_check_rules.specs.CallConditions.{definition_header, declaration_header, param_type, is_resolved}
use Rattle.pg_check_rules.specs.Conditions.{head_types, has_header, has_other_header, main_name, wrong_main, is_nowhere, types_exist, declares_other, declares_other_main, declares_other_known}
use Rattle.pg_check_rules.specs.Conditions.{wrong_definition, definition_refused, declaration_refused, IsUnrefused}
use Rattle.pg_check_rules.specs.Numbered.{named_functions}
use Rattle.pg_check_types.specs.Kinds.{fails}
use Rattle.pg_law_numbering.proofs.UnrefusedParts.{at_if_none, declarations_pass, definitions_pass}
use Rattle.pg_law_numbering.proofs.ResolvedTypes.{Has}
use Rattle.pg_law_numbering.proofs.TypeNameChains.{types_are}
use Rattle.pg_law_numbering.proofs.Scalars.{IsScalarOf, scalar_from, passes_from, all_resolved}
use Rattle.pg_law_numbering.proofs.ChoiceTests.{second_of, none_at}

pub named_there : (m : Tree) (f : ℕ) (d : Definition) → slice_get m.functions f ≡ Some d → slice_get (named_functions m) f ≡ Some (numbered m.types d)
named_there m f d e = slice_get-map (numbered m.types) m.functions f ∙ ap (λ (o : Option Definition). option_map (numbered m.types) o) e

-- the types of parameters stand behind the result
pub param_type_at : (ps : List Param) (i : ℕ) (p : Param) → slice_get ps i ≡ Some p → slice_get (filter_map param_type (map (λ (q : Param). ParamOf q) ps)) i ≡ Some p.ty
param_type_at [] i p e = absurd cc
param_type_at (q ∷ qs) zero p e = ap (λ (o : Option Param). option_map (λ (x : Param). x.ty) o) e
param_type_at (q ∷ qs) (suc i) p e = param_type_at qs i p e

module _ (m : Tree) (accepted : IsUnrefused m) where
  -- ---- definitions

  header_type : (f : ℕ) (d : Definition) → slice_get (named_functions m) f ≡ Some d → (i : ℕ) (t : Ty) → slice_get (head_types (definition_header d)) i ≡ Some t
      → Has (resolved m.types t)
  unfolding definition_refused
  header_type f d e i t at = types_are m accepted (head_types (definition_header d)) i t (definitions_pass m accepted f d e UnknownName) (definitions_pass m accepted f d e WrongType) at

  pub result_has : (f : ℕ) (d : Definition) → slice_get (named_functions m) f ≡ Some d → Has (resolved m.types d.result)
  result_has f d e = header_type f d e 0 d.result refl

  pub param_has : (f : ℕ) (d : Definition) → slice_get (named_functions m) f ≡ Some d → (i : ℕ) (p : Param) → slice_get d.params i ≡ Some p → Has (resolved m.types p.ty)
  param_has f d e i p at = header_type f d e (suc i) p.ty (param_type_at d.params i p at)

  signature : (f : ℕ) (d : Definition) → slice_get (named_functions m) f ≡ Some d
      → (is_some (known_named d.name.text) || wrong_main m.types d.name.text (definition_header d) || wrong_definition m.types d) ≡ false
  unfolding definition_refused
  signature f d e = at_if_none (is_some (known_named d.name.text) || wrong_main m.types d.name.text (definition_header d) || wrong_definition m.types d) d.name.span
      (definitions_pass m accepted f d e BadSignature)

  right_definition : (f : ℕ) (d : Definition) → slice_get (named_functions m) f ≡ Some d → wrong_definition m.types d ≡ false
  right_definition f d e = (or_parts (is_some (known_named d.name.text) || wrong_main m.types d.name.text (definition_header d)) (wrong_definition m.types d) (signature f d e)).1

  pub result_returnable : (f : ℕ) (d : Definition) → slice_get (named_functions m) f ≡ Some d → (r : ResolvedType) → resolved m.types d.result ≡ Some r → is_returnable r ≡ true
  result_returnable f d e r h = passes_from is_returnable (resolved m.types d.result) r
      (or_parts (fails is_returnable (resolved m.types d.result)) (list_any (λ (p : Param). fails is_scalar (resolved m.types p.ty)) d.params) (right_definition f d e)).0 h

  pub param_scalar : (f : ℕ) (d : Definition) → slice_get (named_functions m) f ≡ Some d → (i : ℕ) (p : Param) → slice_get d.params i ≡ Some p → IsScalarOf (resolved m.types p.ty)
  param_scalar f d e i p at =
      let r = param_has f d e i p at in
      let none = none_at (λ (q : Param). fails is_scalar (resolved m.types q.ty)) d.params i p
      (or_parts (fails is_returnable (resolved m.types d.result)) (list_any (λ (p : Param). fails is_scalar (resolved m.types p.ty)) d.params) (right_definition f d e)).1 at in
      scalar_from (resolved m.types p.ty) r.0 r.1 (passes_from is_scalar (resolved m.types p.ty) r.0 none r.1)

  -- a definition of main takes nothing and returns an integer of 32 bits
  pub main_header : (f : ℕ) (d : Definition) → slice_get (named_functions m) f ≡ Some d → bytes_eq d.name.text main_name ≡ true
      → has_header m.types [] (Some (scalar.Int W32)) (definition_header d) ≡ true
  main_header f d e named =
      let w = (or_parts (is_some (known_named d.name.text)) (wrong_main m.types d.name.text (definition_header d))
      (or_parts (is_some (known_named d.name.text) || wrong_main m.types d.name.text (definition_header d)) (wrong_definition m.types d) (signature f d e)).0).1 in
      let other : has_other_header m.types [] (Some (scalar.Int W32)) (definition_header d) ≡ false =
      sym (ap (λ (b : Bool). b && has_other_header m.types [] (Some (scalar.Int W32)) (definition_header d)) named) ∙ w in
      second_of (list_all (is_resolved m.types) (head_types (definition_header d))) (has_header m.types [] (Some (scalar.Int W32)) (definition_header d))
      (all_resolved m.types (head_types (definition_header d)) (header_type f d e)) other

  -- ---- declarations

  declared_exist : (j : ℕ) (d : Declaration) → slice_get m.declares j ≡ Some d → types_exist m.types (head_types (declaration_header d)) ≡ true
  unfolding declaration_refused
  declared_exist j d e =
      and_from (is_nowhere (unknown_types m.types (head_types (declaration_header d)))) (is_nowhere (wrong_counts (head_types (declaration_header d))))
      (ap (λ (ss : List Span). is_nowhere ss) (declarations_pass m accepted j d e UnknownName)) (ap (λ (ss : List Span). is_nowhere ss) (declarations_pass m accepted j d e WrongType))

  -- a function that is known has the types that it is known for
  pub known_header : (j : ℕ) (d : Declaration) (k : LibraryCall) → slice_get m.declares j ≡ Some d → known_named d.name.text ≡ Some k
      → has_header m.types (parameters_of k) (returned_by k) (declaration_header d) ≡ true
  unfolding declaration_refused
  known_header j d k e known =
      let w = (or_parts (declares_other_known m.types (known_named d.name.text) (declaration_header d)) (declares_other_main m.types d.name.text (declaration_header d))
      (at_if_none (declares_other_known m.types (known_named d.name.text) (declaration_header d) || declares_other_main m.types d.name.text (declaration_header d)) d.name.span
      (declarations_pass m accepted j d e BadSignature))).0 in
      let other : declares_other m.types (parameters_of k) (returned_by k) (declaration_header d) ≡ false =
      sym (ap (λ (o : Option LibraryCall). declares_other_known m.types o (declaration_header d)) known) ∙ w in
      second_of (types_exist m.types (head_types (declaration_header d))) (has_header m.types (parameters_of k) (returned_by k) (declaration_header d)) (declared_exist j d e) other
