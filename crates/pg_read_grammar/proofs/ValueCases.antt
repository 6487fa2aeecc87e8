-- The alternatives of a value, and the type void.
use Rattle.std.proofs.Common.{◌≡◌, ℕ, suc, List, [], ◌∷◌, Option, inl, inr, ◌⊎◌, Bool, true, IsTrue, refl, sym, subst}
use Rattle.pg_num.specs.declared.limits.TheConstants.{NESTING_LIMIT}
use Rattle.pg_read_grammar.specs.declared.nesting.TheConstants.{INNER_NESTING_LIMIT}
use Rattle.pg_read_grammar.specs.declared.token.Token.{Token}
use Rattle.pg_read_grammar.specs.declared.class.Class.{Class}
use Rattle.pg_read_grammar.specs.declared.class.Class.TheVariants.{I1, I8, I16, I32, I64, Ptr, Void, Local, OpenSquare, OpenBrace, IntToPtr, GetElementPtr}
use Rattle.pg_read_grammar.specs.declared.token.Fault.{Fault}
use Rattle.pg_read_grammar.specs.Classes.{is}
use Rattle.pg_read_grammar.specs.Language.{Lang, Gram, one, ◌>>=◌}
use Rattle.pg_read_grammar.specs.Grammar.{no_type, name_of, type_in, flags, other_value_in, value_in, gep_tail, int_to_ptr_tail}
use Rattle.pg_read_ast.specs.Syntax.{Ty, Val}
use Rattle.pg_read_ast.specs.Syntax as syntax
use Rattle.pg_read_grammar.proofs.ClassTests.{apart, apart_is}
use Rattle.pg_read_grammar.proofs.RowRests.{certain_value}

-- a token isn't of two sets that are apart
differ : (p q : Class → Bool) → apart p q ≡ true → (t u : Token) (ts us : List Token) → t ∷ ts ≡ u ∷ us → IsTrue (p t.class) → IsTrue (q u.class) → ⊥
differ p q x t u ts us e i k = let w : t ≡ u = cc in apart_is p q x t.class i (subst (λ v. IsTrue (q v.class)) (sym w) k)

pub void_type : (d : ℕ) (m : Option Fault) (X : Ty → Lang) (us : List Token) → (one (is Void)) m (λ t. X (syntax.Void t.span)) us → type_in (suc d) m X us
unfolding type_in
void_type d m X us j = inl (inr (inr (inr (inr (inr (inr (inr (inr (inl j)))))))))

pub void_only : (d : ℕ) (m : Option Fault) (X : Ty → Lang) (t : Token) (ws : List Token) → IsTrue (is Void t.class) → type_in (suc d) m X (t ∷ ws) → X (syntax.Void t.span) ws
unfolding type_in
void_only d m X t ws i (inl (inl (u, vs, e, k, j))) = absurd (differ (is Void) (is OpenSquare) refl t u ws vs e i k)
void_only d m X t ws i (inl (inr (inl (u, vs, e, k, j)))) = absurd (differ (is Void) (is OpenBrace) refl t u ws vs e i k)
void_only d m X t ws i (inl (inr (inr (inl (u, vs, e, k, j))))) = absurd (differ (is Void) (is I1) refl t u ws vs e i k)
void_only d m X t ws i (inl (inr (inr (inr (inl (u, vs, e, k, j)))))) = absurd (differ (is Void) (is I8) refl t u ws vs e i k)
void_only d m X t ws i (inl (inr (inr (inr (inr (inl (u, vs, e, k, j))))))) = absurd (differ (is Void) (is I16) refl t u ws vs e i k)
void_only d m X t ws i (inl (inr (inr (inr (inr (inr (inl (u, vs, e, k, j)))))))) = absurd (differ (is Void) (is I32) refl t u ws vs e i k)
void_only d m X t ws i (inl (inr (inr (inr (inr (inr (inr (inl (u, vs, e, k, j))))))))) = absurd (differ (is Void) (is I64) refl t u ws vs e i k)
void_only d m X t ws i (inl (inr (inr (inr (inr (inr (inr (inr (inl (u, vs, e, k, j)))))))))) = absurd (differ (is Void) (is Ptr) refl t u ws vs e i k)
void_only d m X t ws i (inl (inr (inr (inr (inr (inr (inr (inr (inr (inl (u, vs, e, k, j))))))))))) = let p : t ≡ u = cc in let q : ws ≡ vs =
    cc in subst (λ xs. X (syntax.Void t.span) xs) (sym q) (subst (λ v. X (syntax.Void v.span) vs) (sym p) j)
void_only d m X t ws i (inl (inr (inr (inr (inr (inr (inr (inr (inr (inr (u, vs, e, k, j))))))))))) = absurd (differ (is Void) (is Local) refl t u ws vs e i k)
void_only d m X t ws i (inr (k, u, e, j)) = absurd (differ (is Void) no_type refl t u ws [] e i j)

pub certain_is_value : (m : Option Fault) (L : Val → Lang) (us : List Token) → certain_value m L us → value_in NESTING_LIMIT m L us
unfolding other_value_in
certain_is_value m L us (inl j) = inl j
certain_is_value m L us (inr j) = inr (inr (inr (inr j)))

pub local_is_value : (m : Option Fault) (L : Val → Lang) (us : List Token) → (one (is Local)) m (λ t. L (syntax.Local (name_of t))) us → value_in NESTING_LIMIT m L us
unfolding other_value_in
local_is_value m L us j = inr (inr (inr (inl j)))

abbrev pub gep_value : Gram Val
gep_value = do
  t ← one (is GetElementPtr)
  _ ← flags
  gep_tail INNER_NESTING_LIMIT (value_in INNER_NESTING_LIMIT) t

pub gep_is_value : (m : Option Fault) (L : Val → Lang) (us : List Token) → gep_value m L us → value_in NESTING_LIMIT m L us
unfolding other_value_in
gep_is_value m L us j = inr (inl j)

abbrev pub int_to_ptr_value : Gram Val
int_to_ptr_value = do
  t ← one (is IntToPtr)
  int_to_ptr_tail INNER_NESTING_LIMIT t

pub int_to_ptr_is_value : (m : Option Fault) (L : Val → Lang) (us : List Token) → int_to_ptr_value m L us → value_in NESTING_LIMIT m L us
unfolding other_value_in
int_to_ptr_is_value m L us j = inr (inr (inl j))

-- each value is one of these
pub value_cases : (m : Option Fault) (L : Val → Lang) (us : List Token) → value_in NESTING_LIMIT m L us
    → certain_value m L us ⊎ ((one (is Local)) m (λ t. L (syntax.Local (name_of t))) us ⊎ (gep_value m L us ⊎ int_to_ptr_value m L us))
unfolding other_value_in
value_cases m L us (inl j) = inl (inl j)
value_cases m L us (inr (inl j)) = inr (inr (inl j))
value_cases m L us (inr (inr (inl j))) = inr (inr (inr j))
value_cases m L us (inr (inr (inr (inl j)))) = inr (inl j)
value_cases m L us (inr (inr (inr (inr j)))) = inl (inr j)
