-- Which instructions are phis, and which end a basic block.
use Rattle.std.proofs.Common.{◌≡◌, ℕ, List, true, false, refl, sym, ap, ◌∙◌, ◌⊎◌, inl, inr, true≢false}
use Rattle.std.specs.Prelude.{Option, Some, None}
use Rattle.std.proofs.lemmas.Option.{same_Some}
use Rattle.pg_num.specs.declared.width.Width.{Width}
use Rattle.pg_ir.specs.declared.value.Value.{Value}
use Rattle.pg_ir.specs.declared.library_call.LibraryCall.{LibraryCall}
use Rattle.pg_ir.specs.Edges.{is_phi, is_terminator}
use Rattle.pg_read_ast.specs.declared.ops.BinaryOp.{BinaryOp}
use Rattle.pg_read_ast.specs.declared.ops.BinaryOp.TheVariants as binary
use Rattle.pg_read_ast.specs.declared.ops.CastOp.{CastOp}
use Rattle.pg_read_ast.specs.declared.ops.CastOp.TheVariants as cast
use Rattle.pg_read_ast.specs.Syntax.{Op, Binary, Icmp, Cast, Select, Phi, Br, CondBr, Switch, Call, RetVoid, Ret, Unreachable, Alloca, Load, Store, GetElementPtr, Definition, Tree}
use Rattle.pg_read_ast.specs.Numbers.{gives, is_void}
use Rattle.pg_check_types.specs.Resolved.{ResolvedType, VoidType, is_scalar}
use Rattle.pg_check_rules.specs.Names.{Symbol, VariableOf, DefinitionOf, DeclarationOf, NoSymbol, symbol}
use Rattle.pg_check_rules.specs.Written.{asks, op_types, op_demands, is_phi_op, is_ending}
use Rattle.pg_check_rules.specs.ValueConditions.{Scope}
use Rattle.pg_check_rules.specs.CallConditions.{known_of, variable_symbol, wrong_header, header_of}
use Rattle.pg_check_rules.specs.Conditions.{scope_of}
use Rattle.pg_check_rules.specs.Numbered.{binary_op, cast_op, library_call, call_of, op_at}
use Rattle.pg_law_numbering.proofs.UnrefusedParts.{front_none, behind_none}
use Rattle.pg_check_types.proofs.Voids.{void_resolved}
use Rattle.pg_law_numbering.proofs.Callees.{CallsDefined, CallsLibrary, callee_is}
use Rattle.pg_law_numbering.proofs.LineOperations.{Passes}
use Rattle.pg_law_numbering.proofs.ChoiceTests.{not_from}

-- ---- phis

binary_phi : (o : BinaryOp) (w : Width) (a b : Value) → is_phi (binary_op o w a b) ≡ false
binary_phi binary.Add w a b = refl
binary_phi binary.Sub w a b = refl
binary_phi binary.Mul w a b = refl
binary_phi binary.Udiv w a b = refl
binary_phi binary.Sdiv w a b = refl
binary_phi binary.Urem w a b = refl
binary_phi binary.Srem w a b = refl
binary_phi binary.Shl w a b = refl
binary_phi binary.Lshr w a b = refl
binary_phi binary.Ashr w a b = refl
binary_phi binary.And w a b = refl
binary_phi binary.Or w a b = refl
binary_phi binary.Xor w a b = refl

cast_phi : (o : CastOp) (v w : Width) (a : Value) → is_phi (cast_op o v w a) ≡ false
cast_phi cast.Trunc v w a = refl
cast_phi cast.Zext v w a = refl
cast_phi cast.Sext v w a = refl
cast_phi cast.PtrToInt v w a = refl
cast_phi cast.IntToPtr v w a = refl

known_phi : (k : Option LibraryCall) (all : List Value) → is_phi (library_call k all) ≡ false
known_phi None all = refl
known_phi (Some k) all = refl

call_phi : (s : Symbol) (all : List Value) → is_phi (call_of s all) ≡ false
call_phi (DefinitionOf f d) all = refl
call_phi (DeclarationOf d) all = known_phi (known_of (DeclarationOf d)) all
call_phi (VariableOf i v) all = refl
call_phi NoSymbol all = refl

pub op_phi : (g : Scope) (first : ℕ) (o : Op) → is_phi (op_at g first o) ≡ is_phi_op o
unfolding op_at
op_phi g first (Binary s o t a b) = binary_phi o _ _ _
op_phi g first (Icmp s o t a b) = refl
op_phi g first (Cast s o v t) = cast_phi o _ _ _
op_phi g first (Select s c a b) = refl
op_phi g first (Phi s t i all) = refl
op_phi g first (Br s b) = refl
op_phi g first (CondBr s c a b) = refl
op_phi g first (Switch s v b all) = refl
op_phi g first (Call s t w f all) = call_phi (symbol g.tree f.text) _
op_phi g first (RetVoid s v) = refl
op_phi g first (Ret s v) = refl
op_phi g first (Unreachable s) = refl
op_phi g first (Alloca s t n) = refl
op_phi g first (Load s t v) = refl
op_phi g first (Store s v at) = refl
op_phi g first (GetElementPtr s t v all) = refl

-- ---- ends

binary_end : (o : BinaryOp) (w : Width) (a b : Value) → is_terminator (binary_op o w a b) ≡ false
binary_end binary.Add w a b = refl
binary_end binary.Sub w a b = refl
binary_end binary.Mul w a b = refl
binary_end binary.Udiv w a b = refl
binary_end binary.Sdiv w a b = refl
binary_end binary.Urem w a b = refl
binary_end binary.Srem w a b = refl
binary_end binary.Shl w a b = refl
binary_end binary.Lshr w a b = refl
binary_end binary.Ashr w a b = refl
binary_end binary.And w a b = refl
binary_end binary.Or w a b = refl
binary_end binary.Xor w a b = refl

cast_end : (o : CastOp) (v w : Width) (a : Value) → is_terminator (cast_op o v w a) ≡ false
cast_end cast.Trunc v w a = refl
cast_end cast.Zext v w a = refl
cast_end cast.Sext v w a = refl
cast_end cast.PtrToInt v w a = refl
cast_end cast.IntToPtr v w a = refl

-- what a line calls can be called, so it is no end
call_end : (m : Tree) (s : Symbol) (all : List Value) → CallsDefined m s ⊎ CallsLibrary m s → is_terminator (call_of s all) ≡ false
call_end m s all (inl c) = ap (λ (q : Symbol). is_terminator (call_of q all)) c.is
call_end m s all (inr c) =
    ap (λ (q : Symbol). is_terminator (call_of q all)) c.is ∙ ap (λ (k : Option LibraryCall). is_terminator (library_call k all)) c.name_is

pub callee_of : (m : Tree) (d : Definition) (s : _) (t : _) (w : _) (f : _) (all : _) → Passes m d (Call s t w f all) → CallsDefined m (symbol m f.text) ⊎ CallsLibrary m (symbol m f.text)
callee_of m d s t w f all p =
    callee_is m (symbol m f.text) f.span p.callee (front_none (variable_symbol (symbol m f.text) f.span) _ (behind_none (wrong_header m.types (header_of (symbol m f.text)) t w) _ p.call)) p.supported

pub op_end : (m : Tree) (d : Definition) (first : ℕ) (o : Op) → Passes m d o → is_terminator (op_at (scope_of m d) first o) ≡ is_ending o
unfolding op_at
op_end m d first (Binary s o t a b) p = binary_end o _ _ _
op_end m d first (Icmp s o t a b) p = refl
op_end m d first (Cast s o v t) p = cast_end o _ _ _
op_end m d first (Select s c a b) p = refl
op_end m d first (Phi s t i all) p = refl
op_end m d first (Br s b) p = refl
op_end m d first (CondBr s c a b) p = refl
op_end m d first (Switch s v b all) p = refl
op_end m d first (Call s t w f all) p = call_end m (symbol m f.text) _ (callee_of m d s t w f all p)
op_end m d first (RetVoid s v) p = refl
op_end m d first (Ret s v) p = refl
op_end m d first (Unreachable s) p = refl
op_end m d first (Alloca s t n) p = refl
op_end m d first (Load s t v) p = refl
op_end m d first (Store s v at) p = refl
op_end m d first (GetElementPtr s t v all) p = refl

-- ---- a phi has a result

pub phi_gives : (m : Tree) (d : Definition) (o : Op) → Passes m d o → is_phi_op o ≡ true → gives m.types o ≡ true
unfolding gives op_types op_demands
phi_gives m d (Phi s t i all) p e =
    let r = p.types 0 t refl in
    let scalar : is_scalar r.0 ≡ true = p.demands 0 (asks is_scalar t) refl r.0 r.1 in
    not_from (is_void m.types t) (λ v. let same : r.0 ≡ VoidType = same_Some r.0 VoidType (sym r.1 ∙ void_resolved m.types t v) in
    true≢false (sym scalar ∙ ap (λ (q : ResolvedType). is_scalar q) same))
phi_gives m d (Binary s o t a b) p e = absurd cc
phi_gives m d (Icmp s o t a b) p e = absurd cc
phi_gives m d (Cast s o v t) p e = absurd cc
phi_gives m d (Select s c a b) p e = absurd cc
phi_gives m d (Br s b) p e = absurd cc
phi_gives m d (CondBr s c a b) p e = absurd cc
phi_gives m d (Switch s v b all) p e = absurd cc
phi_gives m d (Call s t w f all) p e = absurd cc
phi_gives m d (RetVoid s v) p e = absurd cc
phi_gives m d (Ret s v) p e = absurd cc
phi_gives m d (Unreachable s) p e = absurd cc
phi_gives m d (Alloca s t n) p e = absurd cc
phi_gives m d (Load s t v) p e = absurd cc
phi_gives m d (Store s v at) p e = absurd cc
phi_gives m d (GetElementPtr s t v all) p e = absurd cc
