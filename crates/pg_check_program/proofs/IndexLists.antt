-- Indices with their scales, one after the other.
use Rattle.std.proofs.Common.{◌≡◌, ℕ, zero, suc, ◌+◌, ◌<◌, ◌≤◌, List, [], ◌∷◌, ◌++◌, length, map, drop, get_or, refl, sym, ap, ◌∙◌, arith}
use Rattle.std.proofs.lemmas.List.{append_assoc, append-nil}
use Rattle.pg_read_ast.specs.declared.values.TypedVal.{TypedVal}
use Rattle.pg_read_ast.specs.Syntax.{Typed}
use Rattle.pg_read_ast.specs.Views.{typed_of}
use Rattle.pg_num.specs.declared.width.Width.{Width}
use Rattle.pg_ir.specs.declared.value.Value.{Value}
use Rattle.pg_ir.specs.declared.value.Index.{Index}
use Rattle.pg_ir.specs.declared.value.Scale.{Scale}
use Rattle.pg_check_rules.specs.ValueConditions.{Scope}
use Rattle.pg_check_rules.specs.Numbered.{index_at, indices_at, typed_value, width_in, type_in}

abbrev index : Value → Width → Scale → Index
index v w s = record { value = v; width = w; scale = s }

pub index_made : (g : Scope) (i : TypedVal) (s : Scale) (v : Value) (w : Width) → v ≡ typed_value g (typed_of i) → w ≡ width_in (type_in g (typed_of i).ty)
    → index v w s ≡ index_at g (typed_of i) s
index_made g i s v w a b = ap (λ x. index x w s) a ∙ ap (λ x. index (typed_value g (typed_of i)) x s) b

-- one index more
pub index_step : (g : Scope) (front : List Index) (one : Index) (is : List TypedVal) (ss : List Scale) (k : ℕ) (i d : TypedVal) (s c : Scale)
    → length is ≡ length ss → k < length ss → i ≡ get_or is k d → s ≡ get_or ss k c → one ≡ index_at g (typed_of i) s
    → (front ++ one ∷ []) ++ indices_at g (map typed_of (drop (k + 1) is)) (drop (k + 1) ss) ≡ front ++ indices_at g (map typed_of (drop k is)) (drop k ss)
index_step g front one is [] k i d s c w l e f o = absurd (omega (arith, l))
index_step g front one [] (t ∷ ss) k i d s c w l e f o = absurd (omega (arith, w))
index_step g front one (j ∷ is) (t ∷ ss) zero i d s c w l e f o =
    append_assoc front (one ∷ []) (indices_at g (map typed_of is) ss)
    ∙ ap (λ x. front ++ x ∷ indices_at g (map typed_of is) ss) o
    ∙ ap (λ x. front ++ index_at g (typed_of x) s ∷ indices_at g (map typed_of is) ss) e
    ∙ ap (λ x. front ++ index_at g (typed_of j) x ∷ indices_at g (map typed_of is) ss) f
index_step g front one (j ∷ is) (t ∷ ss) (suc k) i d s c w l e f o =
    let more : suc k + 1 ≡ suc (k + 1) = omega arith in
    ap (λ m. (front ++ one ∷ []) ++ indices_at g (map typed_of (drop m (j ∷ is))) (drop m (t ∷ ss))) more
    ∙ index_step g front one is ss k i d s c (omega (arith, w)) (omega (arith, l)) e f o

none_left : (g : Scope) (is : List Typed) → indices_at g is [] ≡ []
none_left g [] = refl
none_left g (i ∷ is) = refl

dropped : {X : Type 0} (xs : List X) (k : ℕ) → length xs ≤ k → drop k xs ≡ []
dropped [] zero l = refl
dropped [] (suc k) l = refl
dropped (x ∷ xs) zero l = absurd (omega (arith, l))
dropped (x ∷ xs) (suc k) l = dropped xs k (omega (arith, l))

-- no index left
pub indices_end : (g : Scope) (front : List Index) (is : List TypedVal) (ss : List Scale) (k : ℕ) → length ss ≤ k → front ≡ front ++ indices_at g (map typed_of (drop k is)) (drop k ss)
indices_end g front is ss k l =
    sym (append-nil front)
    ∙ ap (λ xs. front ++ xs) (sym (none_left g (map typed_of (drop k is))))
    ∙ ap (λ ts. front ++ indices_at g (map typed_of (drop k is)) ts) (sym (dropped ss k l))
