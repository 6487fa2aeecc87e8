-- What holds of a line of a function in an accepted tree.
use Rattle.std.proofs.Common.{◌≡◌, ℕ, List, [], ◌++◌, true, refl, sym, ap, ◌∙◌}
use Rattle.std.specs.Prelude.{slice_get, Option, Some}
use Rattle.std.specs.List.{flat_map}
use Rattle.pg_read_ast.specs.Syntax.{Ty, Line, Block, NamedType, Definition, Tree}
use Rattle.pg_read_ast.specs.Numbers.{gives}
use Rattle.pg_check_rules.specs.declared.fault.CheckKind.{CheckKind}
use Rattle.pg_check_rules.specs.declared.fault.CheckKind.TheVariants.{UnknownName, Doubled, WrongType, NoBlock, BadPhi, Unsupported, BadSignature, TooLarge, NoMain}
use Rattle.pg_check_rules.specs.Names.{labels_of}
use Rattle.pg_check_types.specs.Resolved.{ResolvedType, resolved}
use Rattle.pg_check_rules.specs.Places.{type_span}
use Rattle.pg_check_rules.specs.Written.{Use, Demand, op_demands, label_targets, label_sources}
use Rattle.pg_check_rules.specs.TypeConditions.{unknown_types, wrong_types, unmet}
use Rattle.pg_check_rules.specs.ValueConditions.{unknown_value, function_value, wrong_use}
use Rattle.pg_check_rules.specs.CallConditions.{call_demands, thread_functions, wrong_thread, unsupported_thread}
use Rattle.pg_check_rules.specs.LineConditions.{line_types, line_uses, unknown_callee, unsupported_callee, wrong_call, wrong_return, wrong_path, wrong_name, no_block, line_refused}
use Rattle.pg_check_rules.specs.Conditions.{at_if, all_of, own_names, body_names, scope_of, all_lines, is_unfinished, body_refused, IsUnrefused}
use Rattle.pg_check_rules.specs.Names.{doubled}
use Rattle.pg_check_rules.specs.Numbered.{named_functions}
use Rattle.pg_check_types.specs.Kinds.{fails}
use Rattle.pg_law_numbering.proofs.UnrefusedParts.{front_none, behind_none, each_none, then_none, bodies_pass}
use Rattle.pg_law_numbering.proofs.ResolvedTypes.{Has}
use Rattle.pg_law_numbering.proofs.TypeNameChains.{each_inner, types_are}
use Rattle.pg_law_numbering.proofs.ChoiceTests.{not_false}

-- a line of a function of the tree, in which each parameter, block and result has its name
pub record IsLine (m : Tree) (d : Definition) (l : Line) : Type 0 where
  pub function : ℕ
  pub there : slice_get (named_functions m) function ≡ Some d
  pub place : ℕ
  pub block : Block
  pub within : slice_get d.blocks place ≡ Some block
  pub inner : ℕ
  pub inside : slice_get block.lines inner ≡ Some l

-- a demand that isn't unmet is met
pub met : (types : List NamedType) (d : Demand) (r : ResolvedType) → unmet types d ≡ [] → resolved types d.ty ≡ Some r → d.test r ≡ true
met types d r e h =
    let f = then_none (fails d.test (resolved types d.ty)) (type_span d.ty) e in
    not_false (d.test r) (sym (ap (λ (o : Option ResolvedType). fails d.test o) h) ∙ f)

module _ (m : Tree) (accepted : IsUnrefused m) where
  one_line : (d : Definition) (l : Line) (k : CheckKind) → IsLine m d l → all_of (line_refused (scope_of m d)) (all_lines d) k ≡ [] → line_refused (scope_of m d) l k ≡ []
  one_line d l k at e =
      each_none (λ (x : Line). line_refused (scope_of m d) x k) at.block.lines at.inner l
      (each_inner (λ (x : Line). line_refused (scope_of m d) x k) (λ (b : Block). b.lines) d.blocks at.place at.block e at.within) at.inside

  pub line_passes : (d : Definition) (l : Line) → IsLine m d l → (k : CheckKind) → line_refused (scope_of m d) l k ≡ []
  unfolding body_refused line_refused
  line_passes d l at UnknownName = one_line d l UnknownName at (bodies_pass m accepted at.function d at.there UnknownName)
  line_passes d l at Doubled = one_line d l Doubled at (behind_none (flat_map (doubled (own_names m.types d)) (body_names m.types d)) (all_of (line_refused (scope_of m d)) (all_lines d) Doubled)
      (bodies_pass m accepted at.function d at.there Doubled))
  line_passes d l at WrongType = one_line d l WrongType at (bodies_pass m accepted at.function d at.there WrongType)
  line_passes d l at NoBlock = one_line d l NoBlock at (behind_none (at_if (is_unfinished d) d.name.span) (all_of (line_refused (scope_of m d)) (all_lines d) NoBlock)
      (bodies_pass m accepted at.function d at.there NoBlock))
  line_passes d l at Unsupported = one_line d l Unsupported at (bodies_pass m accepted at.function d at.there Unsupported)
  line_passes d l at BadPhi = refl
  line_passes d l at BadSignature = refl
  line_passes d l at TooLarge = refl
  line_passes d l at NoMain = refl

  -- ---- names

  pub unknown_values : (d : Definition) (l : Line) → IsLine m d l → flat_map (λ (u : Use). unknown_value (scope_of m d) u.value) (line_uses (scope_of m d) l.op) ≡ []
  unfolding line_refused
  unknown_values d l at = front_none _ _ (behind_none (unknown_types m.types (line_types l.op)) _ (line_passes d l at UnknownName))

  pub known_callee : (d : Definition) (l : Line) → IsLine m d l → unknown_callee (scope_of m d) l.op ≡ []
  unfolding line_refused
  known_callee d l at =
      front_none _ _ (behind_none (flat_map (λ (u : Use). unknown_value (scope_of m d) u.value) (line_uses (scope_of m d) l.op)) _
      (behind_none (unknown_types m.types (line_types l.op)) _ (line_passes d l at UnknownName)))

  pub known_threads : (d : Definition) (l : Line) → IsLine m d l → flat_map (unknown_value (scope_of m d)) (thread_functions (scope_of m d) l.op) ≡ []
  unfolding line_refused
  known_threads d l at =
      behind_none (unknown_callee (scope_of m d) l.op) _ (behind_none (flat_map (λ (u : Use). unknown_value (scope_of m d) u.value) (line_uses (scope_of m d) l.op)) _
      (behind_none (unknown_types m.types (line_types l.op)) _ (line_passes d l at UnknownName)))

  -- ---- types

  pub line_type : (d : Definition) (l : Line) → IsLine m d l → (i : ℕ) (t : Ty) → slice_get (line_types l.op) i ≡ Some t → Has (resolved m.types t)
  unfolding line_refused
  line_type d l at i t e =
      types_are m accepted (line_types l.op) i t
      (front_none (unknown_types m.types (line_types l.op)) _ (line_passes d l at UnknownName))
      (front_none (wrong_types m.types (line_types l.op)) _ (line_passes d l at WrongType)) e

  -- what is refused of types, behind what is refused of those that are written
  behind_types : (d : Definition) (l : Line) → IsLine m d l
      → flat_map (unmet m.types) (op_demands m.types (scope_of m d).result l.op ++ call_demands (scope_of m d) l.op)
      ++ (flat_map (wrong_use (scope_of m d)) (line_uses (scope_of m d) l.op)
      ++ (wrong_call (scope_of m d) l.op
      ++ (flat_map (wrong_thread (scope_of m d)) (thread_functions (scope_of m d) l.op)
      ++ (wrong_return (scope_of m d) l.op
      ++ (wrong_path (scope_of m d) l.op
      ++ wrong_name (gives m.types l.op) l.name))))) ≡ []
  unfolding line_refused
  behind_types d l at = behind_none (wrong_types m.types (line_types l.op)) _ (line_passes d l at WrongType)

  pub line_demand : (d : Definition) (l : Line) → IsLine m d l → (i : ℕ) (x : Demand)
      → slice_get (op_demands m.types (scope_of m d).result l.op ++ call_demands (scope_of m d) l.op) i ≡ Some x → (r : ResolvedType) → resolved m.types x.ty ≡ Some r → x.test r ≡ true
  line_demand d l at i x e r h = met m.types x r (each_none (unmet m.types) (op_demands m.types (scope_of m d).result l.op ++ call_demands (scope_of m d) l.op) i x
      (front_none _ _ (behind_types d l at)) e) h

  behind_demands : (d : Definition) (l : Line) → IsLine m d l
      → flat_map (wrong_use (scope_of m d)) (line_uses (scope_of m d) l.op)
      ++ (wrong_call (scope_of m d) l.op
      ++ (flat_map (wrong_thread (scope_of m d)) (thread_functions (scope_of m d) l.op)
      ++ (wrong_return (scope_of m d) l.op
      ++ (wrong_path (scope_of m d) l.op
      ++ wrong_name (gives m.types l.op) l.name)))) ≡ []
  behind_demands d l at = behind_none (flat_map (unmet m.types) (op_demands m.types (scope_of m d).result l.op ++ call_demands (scope_of m d) l.op)) _ (behind_types d l at)

  pub line_use : (d : Definition) (l : Line) → IsLine m d l → (i : ℕ) (u : Use) → slice_get (line_uses (scope_of m d) l.op) i ≡ Some u → wrong_use (scope_of m d) u ≡ []
  line_use d l at i u e = each_none (wrong_use (scope_of m d)) (line_uses (scope_of m d) l.op) i u (front_none _ _ (behind_demands d l at)) e

  behind_uses : (d : Definition) (l : Line) → IsLine m d l
      → wrong_call (scope_of m d) l.op
      ++ (flat_map (wrong_thread (scope_of m d)) (thread_functions (scope_of m d) l.op)
      ++ (wrong_return (scope_of m d) l.op
      ++ (wrong_path (scope_of m d) l.op
      ++ wrong_name (gives m.types l.op) l.name))) ≡ []
  behind_uses d l at = behind_none (flat_map (wrong_use (scope_of m d)) (line_uses (scope_of m d) l.op)) _ (behind_demands d l at)

  pub line_call : (d : Definition) (l : Line) → IsLine m d l → wrong_call (scope_of m d) l.op ≡ []
  line_call d l at = front_none _ _ (behind_uses d l at)

  behind_call : (d : Definition) (l : Line) → IsLine m d l
      → flat_map (wrong_thread (scope_of m d)) (thread_functions (scope_of m d) l.op)
      ++ (wrong_return (scope_of m d) l.op
      ++ (wrong_path (scope_of m d) l.op
      ++ wrong_name (gives m.types l.op) l.name)) ≡ []
  behind_call d l at = behind_none (wrong_call (scope_of m d) l.op) _ (behind_uses d l at)

  pub line_threads : (d : Definition) (l : Line) → IsLine m d l → flat_map (wrong_thread (scope_of m d)) (thread_functions (scope_of m d) l.op) ≡ []
  line_threads d l at = front_none _ _ (behind_call d l at)

  pub line_return : (d : Definition) (l : Line) → IsLine m d l → wrong_return (scope_of m d) l.op ≡ []
  line_return d l at = front_none _ _ (behind_none (flat_map (wrong_thread (scope_of m d)) (thread_functions (scope_of m d) l.op)) _ (behind_call d l at))

  -- ---- labels and functions

  pub line_labels : (d : Definition) (l : Line) → IsLine m d l → flat_map (no_block (labels_of d)) (label_targets l.op ++ label_sources l.op) ≡ []
  unfolding line_refused
  line_labels d l at = line_passes d l at NoBlock

  pub no_functions : (d : Definition) (l : Line) → IsLine m d l → flat_map (λ (u : Use). function_value (scope_of m d) u.value) (line_uses (scope_of m d) l.op) ≡ []
  unfolding line_refused
  no_functions d l at = front_none _ _ (line_passes d l at Unsupported)

  pub supported_callee : (d : Definition) (l : Line) → IsLine m d l → unsupported_callee (scope_of m d) l.op ≡ []
  unfolding line_refused
  supported_callee d l at = front_none _ _ (behind_none (flat_map (λ (u : Use). function_value (scope_of m d) u.value) (line_uses (scope_of m d) l.op)) _ (line_passes d l at Unsupported))

  pub supported_threads : (d : Definition) (l : Line) → IsLine m d l → flat_map (unsupported_thread (scope_of m d)) (thread_functions (scope_of m d) l.op) ≡ []
  unfolding line_refused
  supported_threads d l at =
      behind_none (unsupported_callee (scope_of m d) l.op) _
      (behind_none (flat_map (λ (u : Use). function_value (scope_of m d) u.value) (line_uses (scope_of m d) l.op)) _ (line_passes d l at Unsupported))
