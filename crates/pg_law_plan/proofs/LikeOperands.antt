-- Registers and operands that are like what is known of them.
use Rattle.std.proofs.Common.{◌≡◌, ℕ, ℤ, zero, suc, ◌+◌, ◌-◌, List, [], ◌∷◌, ◌++◌, length, map, replicate, Option, Some, None, refl, sym, ap, ◌∙◌, subst}
use Rattle.std.specs.Prelude.{slice_get, slice_set, slice_index_or}
use Rattle.pg_num.specs.Pointers.{moved_by}
use Rattle.pg_num.proofs.Moves.{length-moved_by, start-moved_by}
use Rattle.pg_ir.specs.declared.instr.Instr.{Instr}
use Rattle.pg_ir.specs.declared.instr.Op.{Op}
use Rattle.pg_ir.specs.declared.value.Index.{Index}
use Rattle.pg_ir.specs.declared.value.Value.{Value}
use Rattle.pg_ir.specs.declared.value.Value.TheVariants as value
use Rattle.pg_ir.specs.Program.{NumberedProgram, types_of}
use Rattle.pg_ir.specs.Edges.{incoming_from, incoming_of, phis_of}
use Rattle.pg_run_thread.specs.Compute.{index_bytes, moved_along}
use Rattle.pg_run_thread.specs.EdgeStep.{over_edge, phi_values, set_each, set_register}
use Rattle.pg_run_thread.specs.LocalState.{Frame}
use Rattle.pg_run_thread.specs.Operands.{flat, operand, optional_operand}
use Rattle.pg_slice_rules.specs.SymbolicValues.{OnInput, Symbolic, Known, Bounded, Unknown, applied, from_all, moved, result_of, symbolic_of, unset, valued}
use Rattle.pg_slice_rules.specs.Known.{along_edge, entered, optional_symbolic, phi_symbolic, set_phis, set_symbolic}
use Rattle.pg_slice_rules.specs.Rules.{value_of}
use Rattle.pg_law_plan.specs.Likes.{AreCallsLike, AreLike, HaveSameBounds, HasBoundsIfAny, HasBoundsOf, IsLike}

-- a number has its own bounds
pub same_bounds : (n : ℕ) → HaveSameBounds n n
same_bounds n = record { start = refl; length = refl }

own_bounded : (v : Option ℕ) → HasBoundsIfAny v v
own_bounded None = refl
own_bounded (Some n) = same_bounds n

module _ (input : List ℤ) where
  -- ---- values

  -- a known value that has its own bounds
  pub valued_like : (f : OnInput) (v : Option ℕ) → v ≡ f input → IsLike input (valued f) v
  valued_like f v e = (e, subst (λ (o : Option ℕ). HasBoundsIfAny o v) e (own_bounded v))

  pub like_value : (s : Symbolic) (f : OnInput) (v : Option ℕ) → value_of s ≡ Some f → IsLike input s v → v ≡ f input
  like_value (Known g u) f v e h = let same : g ≡ f = cc in h.0 ∙ ap (λ (z : OnInput). z input) same
  like_value (Bounded g x) f v e h = absurd cc
  like_value (Unknown x) f v e h = absurd cc

  -- ---- lists

  like_at : (ss : List Symbolic) (vs : List (Option ℕ)) (r : ℕ) → AreLike input ss vs → IsLike input (slice_index_or ss r unset) (flat (slice_get vs r))
  like_at [] [] r h = valued_like (λ i. None) None refl
  like_at [] (v ∷ vs) r h = absurd h
  like_at (s ∷ ss) [] r h = absurd h
  like_at (s ∷ ss) (v ∷ vs) zero h = h.0
  like_at (s ∷ ss) (v ∷ vs) (suc r) h = like_at ss vs r h.1

  pub put_like : (ss : List Symbolic) (vs : List (Option ℕ)) (r : ℕ) (s : Symbolic) (v : Option ℕ) → AreLike input ss vs → IsLike input s v
      → AreLike input (slice_set ss r s) (slice_set vs r v)
  put_like [] [] r s v h k = tt
  put_like [] (w ∷ vs) r s v h k = absurd h
  put_like (z ∷ ss) [] r s v h k = absurd h
  put_like (z ∷ ss) (w ∷ vs) zero s v h k = (k, h.1)
  put_like (z ∷ ss) (w ∷ vs) (suc r) s v h k = (h.0, put_like ss vs r s v h.1 k)

  pub set_like : (target : Option ℕ) (ss : List Symbolic) (vs : List (Option ℕ)) (s : Symbolic) (v : Option ℕ) → AreLike input ss vs → IsLike input s v
      → AreLike input (set_symbolic target s ss) (set_register vs target v)
  set_like None ss vs s v h k = h
  set_like (Some r) ss vs s v h k = put_like ss vs r s v h k

  pub length_like : (ss : List Symbolic) (vs : List (Option ℕ)) → AreLike input ss vs → length ss ≡ length vs
  length_like [] [] h = refl
  length_like [] (v ∷ vs) h = absurd h
  length_like (s ∷ ss) [] h = absurd h
  length_like (s ∷ ss) (v ∷ vs) h = ap suc (length_like ss vs h.1)

  pub append_like : (ss zs : List Symbolic) (vs ws : List (Option ℕ)) → AreLike input ss vs → AreLike input zs ws → AreLike input (ss ++ zs) (vs ++ ws)
  append_like [] zs [] ws h k = k
  append_like [] zs (v ∷ vs) ws h k = absurd h
  append_like (s ∷ ss) zs [] ws h k = absurd h
  append_like (s ∷ ss) zs (v ∷ vs) ws h k = (h.0, append_like ss zs vs ws h.1 k)

  pub unset_like : (n : ℕ) → AreLike input (replicate n unset) (replicate n None)
  unset_like zero = tt
  unset_like (suc n) = (valued_like (λ i. None) None refl, unset_like n)

  -- ---- operands

  module _ (p : NumberedProgram) (ss : List Symbolic) (vs : List (Option ℕ)) (h : AreLike input ss vs) where
    pub operand_like : (v : Value) → IsLike input (symbolic_of p ss v) (operand p vs v)
    operand_like (value.Register r) = like_at ss vs r h
    operand_like (value.Const n) = valued_like (λ i. Some n) (Some n) refl
    operand_like (value.Global g) = valued_like (λ i. operand p [] (value.Global g)) (operand p vs (value.Global g)) refl
    operand_like (value.Function f) = valued_like (λ i. Some f) (Some f) refl

    pub operands_like : (xs : List Value) → AreLike input (map (symbolic_of p ss) xs) (map (operand p vs) xs)
    operands_like [] = tt
    operands_like (x ∷ xs) = (operand_like x, operands_like xs)

    pub argument_like : (xs : List Value) (k : ℕ) → IsLike input (slice_index_or (map (symbolic_of p ss) xs) k unset) (optional_operand p vs (slice_get xs k))
    argument_like [] k = valued_like (λ i. None) None refl
    argument_like (x ∷ xs) zero = operand_like x
    argument_like (x ∷ xs) (suc k) = argument_like xs k

    pub optional_like : (o : Option Value) → IsLike input (optional_symbolic p ss o) (optional_operand p vs o)
    optional_like None = valued_like (λ i. None) None refl
    optional_like (Some v) = operand_like v

  -- ---- results

  -- what is made of values that are all known
  pub from_like : (ss : List Symbolic) (ns : List (Option ℕ)) (F : (List ℤ → List (Option ℕ)) → Symbolic) (v : Option ℕ) → AreLike input ss ns
      → ((gs : List ℤ → List (Option ℕ)) → gs input ≡ ns → IsLike input (F gs) v) → IsLike input (from_all ss F) v
  from_like [] [] F v h k = k (λ i. []) refl
  from_like [] (n ∷ ns) F v h k = absurd h
  from_like (s ∷ ss) [] F v h k = absurd h
  from_like (Known g u ∷ ss) (n ∷ ns) F v h k = from_like ss ns (λ gs. F (λ i. g i ∷ gs i)) v h.1
      (λ gs e. k (λ i. g i ∷ gs i) (ap (λ (l : List (Option ℕ)). g input ∷ l) e ∙ ap (λ (m : Option ℕ). m ∷ ns) (sym h.0.0)))
  from_like (Bounded g x ∷ ss) (n ∷ ns) F v h k = tt
  from_like (Unknown x ∷ ss) (n ∷ ns) F v h k = tt

  pub result_like : (o : Op) (ss : List Symbolic) (ns : List (Option ℕ)) → AreLike input ss ns → IsLike input (result_of o ss) (applied o ns)
  result_like o ss ns h = from_like ss ns (λ gs. valued (λ i. applied o (gs i))) (applied o ns) h (λ gs e. valued_like (λ i. applied o (gs i)) (applied o ns) (ap (applied o) (sym e)))

  -- a pointer that is moved keeps its bounds
  pub along_bounds : (word : ℕ) (is : List Index) (n : ℕ → ℕ) (k : ℕ) → HaveSameBounds word (moved_along word is n k)
  along_bounds word [] n k = same_bounds word
  along_bounds word (i ∷ is) n k =
      let w = moved_by word (index_bytes i i.scale (n k)) in
      let h = along_bounds w is n (k + 1) in
      record { start = h.start ∙ start-moved_by word (index_bytes i i.scale (n k)); length = h.length ∙ length-moved_by word (index_bytes i i.scale (n k)) }

  bounded_like : (word : Option ℕ) (b m : ℕ) → HasBoundsOf word (Some b) → HaveSameBounds b m → HasBoundsOf word (Some m)
  bounded_like None b m h k = absurd h
  bounded_like (Some w) b m h k = record { start = k.start ∙ h.start; length = k.length ∙ h.length }

  pub moved_like : (base s : Symbolic) (b m : ℕ) → IsLike input base (Some b) → IsLike input s (Some m) → HaveSameBounds b m → IsLike input (moved base s) (Some m)
  moved_like (Known f u) (Known g w) b m h k e = (k.0, bounded_like (u input) b m h.1 e)
  moved_like (Known f u) (Bounded g x) b m h k e = k
  moved_like (Known f u) (Unknown x) b m h k e = bounded_like (u input) b m h.1 e
  moved_like (Bounded f y) (Known g w) b m h k e = (k.0, bounded_like (f input) b m h e)
  moved_like (Bounded f y) (Bounded g x) b m h k e = k
  moved_like (Bounded f y) (Unknown x) b m h k e = bounded_like (f input) b m h e
  moved_like (Unknown y) s b m h k e = k

  -- ---- edges and calls

  module _ (p : NumberedProgram) where
    phis_like : (ss : List Symbolic) (vs : List (Option ℕ)) (from : ℕ) → AreLike input ss vs → (xs : List Instr) → AreLike input (map (phi_symbolic p ss from) xs) (phi_values p vs from xs)
    phis_like ss vs from h [] = tt
    phis_like ss vs from h (x ∷ xs) = (optional_like p ss vs h (incoming_from (incoming_of x.op) from), phis_like ss vs from h xs)

    each_like : (xs : List Instr) (ss zs : List Symbolic) (vs ws : List (Option ℕ)) → AreLike input ss vs → AreLike input zs ws → AreLike input (set_phis ss xs zs) (set_each vs xs ws)
    each_like [] ss zs vs ws h k = h
    each_like (x ∷ xs) ss [] vs [] h k = h
    each_like (x ∷ xs) ss [] vs (w ∷ ws) h k = absurd k
    each_like (x ∷ xs) ss (z ∷ zs) vs [] h k = absurd k
    each_like (x ∷ xs) ss (z ∷ zs) vs (w ∷ ws) h k = each_like xs (set_symbolic x.result z ss) zs (set_register vs x.result w) ws (set_like x.result ss vs z w h k.0) k.1

    pub edge_like : (ss : List Symbolic) (vs : List (Option ℕ)) (from to : ℕ) → AreLike input ss vs → AreLike input (along_edge p from (Some to) ss) (over_edge p vs from to)
    unfolding over_edge
    edge_like ss vs from to h = each_like (phis_of p to) ss (map (phi_symbolic p ss from) (phis_of p to)) vs (phi_values p vs from (phis_of p to)) h (phis_like ss vs from h (phis_of p to))

    pub entered_like : (g : ℕ) (ss : List Symbolic) (vs : List (Option ℕ)) → AreLike input ss vs → AreLike input (entered p g ss) (vs ++ replicate (length (types_of p g) - length vs) None)
    entered_like g ss vs h = append_like ss (replicate (length (types_of p g) - length ss) unset) vs (replicate (length (types_of p g) - length vs) None) h
        (subst (λ (n : ℕ). AreLike input (replicate (length (types_of p g) - n) unset) (replicate (length (types_of p g) - length vs) None)) (sym (length_like ss vs h))
        (unset_like (length (types_of p g) - length vs)))

  pub depth_like : (fs : List Frame) (known : List (List Symbolic)) (gs : List Frame) → AreCallsLike input fs known gs → length gs ≡ length fs
  depth_like [] [] [] h = refl
  depth_like [] [] (g ∷ gs) h = absurd h
  depth_like [] (k ∷ known) gs h = absurd h
  depth_like (f ∷ fs) [] gs h = absurd h
  depth_like (f ∷ fs) (k ∷ known) [] h = absurd h
  depth_like (f ∷ fs) (k ∷ known) (g ∷ gs) h = ap suc (depth_like fs known gs h.1)
