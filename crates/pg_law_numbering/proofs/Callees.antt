-- What a call of an accepted tree calls.
use Rattle.std.proofs.Common.{◌≡◌, ℕ, List, [], ◌∷◌, true, ◌&&◌, refl, ◌⊎◌, inl, inr, cond}
use Rattle.std.specs.Prelude.{slice_get, Option, Some, None, is_some}
use Rattle.std.proofs.lemmas.Bool.{and_parts}
use Rattle.pg_read_lex.specs.declared.token.Span.{Span}
use Rattle.pg_ir.specs.declared.library_call.LibraryCall.{LibraryCall}
use Rattle.pg_ir.specs.Signatures.{parameters_of, returned_by}
use Rattle.pg_read_ast.specs.Syntax.{Ty, Written, Declaration, Definition, NamedType, Tree}
use Rattle.pg_read_ast.specs.Numbers.{numbered}
use Rattle.pg_check_rules.specs.KnownNames.{known_named}
use Rattle.pg_check_types.specs.Resolved.{resolved}
use Rattle.pg_check_rules.specs.Names.{Symbol, VariableOf, DefinitionOf, DeclarationOf, NoSymbol}
use Rattle.pg_check_rules.specs.Places.{type_span}
use Rattle.pg_check_rules.specs.ValueConditions.{unknown_symbol}
use Rattle.pg_check_rules.specs.CallConditions.{agree, Header, definition_header, declaration_header, written_fit, variable_symbol, unsupported_symbol, wrong_header}
use Rattle.pg_check_rules.specs.Conditions.{is_result, are_params, IsUnrefused}
use Rattle.pg_law_numbering.proofs.UnrefusedParts.{else_none}
use Rattle.pg_law_numbering.proofs.ResolvedTypes.{Has}
use Rattle.pg_law_numbering.proofs.Scalars.{agreed, result_there}
use Rattle.pg_law_numbering.proofs.Headers.{named_there, result_has, known_header}

pub record CallsDefined (m : Tree) (s : Symbol) : Type 0 where
  pub function : ℕ
  pub definition : Definition
  pub is : s ≡ DefinitionOf function definition

pub record CallsLibrary (m : Tree) (s : Symbol) : Type 0 where
  pub declaration : Declaration
  pub known : LibraryCall
  pub is : s ≡ DeclarationOf declaration
  pub name_is : known_named declaration.name.text ≡ Some known

known_or : (m : Tree) (d : Declaration) (span : Span) (o : Option LibraryCall) → known_named d.name.text ≡ o → ◌≡◌ {A = List Span} (cond (is_some o) [] (span ∷ [])) []
    → CallsLibrary m (DeclarationOf d)
known_or m d span None h e = absurd cc
known_or m d span (Some k) h e = record { declaration = d; known = k; is = refl; name_is = h }

pub callee_is : (m : Tree) (s : Symbol) (span : Span) → unknown_symbol s span ≡ [] → variable_symbol s span ≡ [] → unsupported_symbol s span ≡ [] → CallsDefined m s ⊎ CallsLibrary m s
callee_is m (DefinitionOf f d) span u v w = inl (record { function = f; definition = d; is = refl })
callee_is m (DeclarationOf d) span u v w = inr (known_or m d span (known_named d.name.text) refl w)
callee_is m (VariableOf i x) span u v w = absurd cc
callee_is m NoSymbol span u v w = absurd cc

pub header_agrees : (types : List NamedType) (h : Header) (t : Ty) (w : Option Written) → wrong_header types (Some h) t w ≡ [] → agree types h.result t ≡ true
header_agrees types h t w e = (and_parts (agree types h.result t) (written_fit types h w) (else_none (agree types h.result t && written_fit types h w) (type_span t) e)).0

module _ (m : Tree) (accepted : IsUnrefused m) where
  -- the type of a call is the callee's result
  pub defined_agrees : (f : ℕ) (d : Definition) (t : Ty) (w : Option Written) → slice_get m.functions f ≡ Some d → wrong_header m.types (Some (definition_header d)) t w ≡ []
      → Has (resolved m.types t) → resolved m.types t ≡ resolved m.types d.result
  unfolding numbered
  defined_agrees f d t w e h k = agreed m.types d.result t (result_has m accepted f (numbered m.types d) (named_there m f d e)) k (header_agrees m.types (definition_header d) t w h)

  pub known_result : (j : ℕ) (d : Declaration) (k : LibraryCall) → slice_get m.declares j ≡ Some d → known_named d.name.text ≡ Some k
      → is_result (returned_by k) (resolved m.types d.result) ≡ true
  known_result j d k e h = (and_parts (is_result (returned_by k) (resolved m.types d.result)) (are_params m.types (parameters_of k) d.params) (known_header m accepted j d k e h)).0

  -- and that of a function that is known, which is a type
  pub declared_agrees : (j : ℕ) (d : Declaration) (k : LibraryCall) (t : Ty) (w : Option Written) → slice_get m.declares j ≡ Some d → known_named d.name.text ≡ Some k
      → wrong_header m.types (Some (declaration_header d)) t w ≡ [] → Has (resolved m.types t) → resolved m.types t ≡ resolved m.types d.result
  declared_agrees j d k t w e named h r =
      agreed m.types d.result t (result_there (returned_by k) (resolved m.types d.result) (known_result j d k e named)) r (header_agrees m.types (declaration_header d) t w h)

  pub known_params : (j : ℕ) (d : Declaration) (k : LibraryCall) → slice_get m.declares j ≡ Some d → known_named d.name.text ≡ Some k → are_params m.types (parameters_of k) d.params ≡ true
  known_params j d k e h = (and_parts (is_result (returned_by k) (resolved m.types d.result)) (are_params m.types (parameters_of k) d.params) (known_header m accepted j d k e h)).1
