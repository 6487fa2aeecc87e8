-- Registers, operands and bytes before a live step, by what is known after it.
use Rattle.std.proofs.Common.{◌≡◌, ℕ, zero, suc, ◌+◌, ◌<◌, ◌==◌, ℤ, Bool, true, false, List, [], ◌∷◌, ◌++◌, length, map, Option, Some, None, refl, sym, ap}
use Rattle.std.proofs.Common.{◌∙◌, subst, arith}
use Rattle.std.specs.Prelude.{slice_get, slice_index_or, slice_set, if◌then◌else◌}
use Rattle.std.specs.List.{AllByRecursion}
use Rattle.std.proofs.lemmas.Bool.{true≢false, eqb-true, eq-eqb}
use Rattle.std.proofs.lemmas.List.{length-set, get_or-set_same, get_or-set_other}
use Rattle.pg_ir.specs.declared.value.Value.{Value}
use Rattle.pg_ir.specs.declared.value.Value.TheVariants as value
use Rattle.pg_ir.specs.declared.instr.Instr.{Instr}
use Rattle.pg_ir.specs.declared.instr.Op.{Op}
use Rattle.pg_ir.specs.Program.{NumberedProgram}
use Rattle.pg_ir.specs.Edges.{incoming_from, incoming_of, phis_of}
use Rattle.pg_run_thread.specs.Operands.{operands_of}
use Rattle.pg_law_least.specs.pg_slice_rules.declared.decision.Decision.{Decision}
use Rattle.pg_law_least.specs.pg_slice_rules.SymbolicValues.{OnInput, Symbolic, Known, Bounded, Unknown, cut, from_all, joined, loaded, moved, result_of, symbolic_of, unset, valued}
use Rattle.pg_law_least.specs.pg_slice_rules.Known.{SymbolicState, along_edge, entered, forgotten_from, operand_at, operand_symbolics, optional_symbolic, phi_symbolic, set_phis, set_symbolic, thread_of}
use Rattle.pg_law_demands.specs.Cells.{IsMet, Register, call_at, is_met}
use Rattle.pg_law_demands.specs.Back.{back_edge, back_moved, back_phi, is_target, last_phi, of_bytes, of_operand, of_optional, of_value, of_values, register_demand, this_phi}

pub none_unknown : (whole : Bool) (x : Decision) → is_met whole (Unknown x) ≡ true → ⊥
none_unknown whole x h = true≢false (sym h)

pub append_all : {A : Type 0} (P : A → Type 0) (xs ys : List A) → AllByRecursion P xs → AllByRecursion P ys → AllByRecursion P (xs ++ ys)
append_all P [] ys h k = k
append_all P (x ∷ xs) ys h k = (h.0, append_all P xs ys h.1 k)

-- ---- a register that is set

pub index_set : (rs : List Symbolic) (o : Option ℕ) (v : Symbolic) (r : ℕ) → r < length rs →
    slice_index_or (set_symbolic o v rs) r unset ≡ (if is_target o r then v else slice_index_or rs r unset)
index_set rs None v r l = refl
index_set rs (Some k) v r l = go (k == r) refl
  where
    go : (b : Bool) → (k == r) ≡ b → slice_index_or (slice_set rs k v) r unset ≡ (if k == r then v else slice_index_or rs r unset)
    go true q = let z : k ≡ r = eqb-true k r q in rw q (subst (λ (j : ℕ). slice_index_or (slice_set rs j v) r unset ≡ v) (sym z) (get_or-set_same rs r v unset l))
    go false q = rw q (get_or-set_other rs k r v unset (λ z. true≢false (sym (eq-eqb k r (sym z)) ∙ q)))

pub length_set : (rs : List Symbolic) (o : Option ℕ) (v : Symbolic) → length (set_symbolic o v rs) ≡ length rs
length_set rs None v = refl
length_set rs (Some k) v = length-set rs k v

pub index_forgotten : (rs : List Symbolic) (i : ℕ) (sets : ℕ → Bool) (x : Decision) (r : ℕ) → r < length rs →
    slice_index_or (forgotten_from i sets x rs) r unset ≡ (if sets (i + r) then Unknown x else slice_index_or rs r unset)
index_forgotten [] i sets x r l = absurd (omega (arith, l))
index_forgotten (s ∷ rs) i sets x zero l = let z : i + 0 ≡ i = omega arith in rw z refl
index_forgotten (s ∷ rs) i sets x (suc r) l =
    let z : i + suc r ≡ suc i + r = omega arith in
    rw z (index_forgotten rs (suc i) sets x r (omega (arith, l)))

-- ---- phis

abbrev pub by_phi : (Instr → Symbolic) → Symbolic → Option Instr → Symbolic
by_phi f s None = s
by_phi f s (Some x) = f x

pub index_phis : (f : Instr → Symbolic) (xs : List Instr) (rs : List Symbolic) (r : ℕ) → r < length rs →
    slice_index_or (set_phis rs xs (map f xs)) r unset ≡ by_phi f (slice_index_or rs r unset) (last_phi xs r)
index_phis f [] rs r l = refl
index_phis f (x ∷ xs) rs r l =
    index_phis f xs (set_symbolic x.result (f x) rs) r (rw (length_set rs x.result (f x)) l)
    ∙ (ap (λ (s : Symbolic). by_phi f s (last_phi xs r)) (index_set rs x.result (f x) r l) ∙ go (last_phi xs r) (is_target x.result r))
  where
    go : (o : Option Instr) (b : Bool) → by_phi f (if b then f x else slice_index_or rs r unset) o ≡ by_phi f (slice_index_or rs r unset) (this_phi b x o)
    go None true = refl
    go None false = refl
    go (Some z) true = refl
    go (Some z) false = refl

-- ---- bytes

pub cut_met : (f : ℕ → ℕ) (whole : Bool) (s : Symbolic) → is_met whole (cut f s) ≡ true → is_met true s ≡ true
cut_met f whole (Known g k) h = refl
cut_met f whole (Bounded g x) h = h
cut_met f whole (Unknown x) h = h

joined_met : (whole : Bool) (low high : Symbolic) → is_met whole (joined low high) ≡ true → (is_met true low ≡ true) × (is_met true high ≡ true)
joined_met whole (Known f u) (Known g w) h = (refl, refl)
joined_met whole (Known f u) (Bounded g x) h = absurd (true≢false (sym h))
joined_met whole (Known f u) (Unknown x) h = absurd (true≢false (sym h))
joined_met whole (Bounded f x) high h = absurd (true≢false (sym h))
joined_met whole (Unknown x) high h = absurd (true≢false (sym h))

pub bytes_met : (s : SymbolicState) (whole : Bool) (at n : ℕ) → is_met whole (loaded s.bytes at n) ≡ true → AllByRecursion (IsMet s) (of_bytes at n)
bytes_met s whole at zero h = tt
bytes_met s whole at (suc n) h = let q = joined_met whole (s.bytes at) (loaded s.bytes (at + 1) n) h in (q.0, bytes_met s true (at + 1) n q.1)

-- ---- operands

module _ (p : NumberedProgram) (s : SymbolicState) (t k : ℕ) (rs : List Symbolic) (top : call_at k (thread_of s t).calls ≡ rs) where
  pub top_met : (r : ℕ) (whole : Bool) → is_met whole (slice_index_or rs r unset) ≡ true → IsMet s (register_demand t k r whole)
  top_met r whole h = subst (λ (c : List Symbolic). is_met whole (slice_index_or c r unset) ≡ true) (sym top) h

  pub value_met : (v : Value) (whole : Bool) → is_met whole (symbolic_of p rs v) ≡ true → AllByRecursion (IsMet s) (of_value t k whole v)
  value_met (value.Register r) whole h = (top_met r whole h, tt)
  value_met (value.Const n) whole h = tt
  value_met (value.Global n) whole h = tt
  value_met (value.Function n) whole h = tt

  pub optional_met : (v : Option Value) (whole : Bool) → is_met whole (optional_symbolic p rs v) ≡ true → AllByRecursion (IsMet s) (of_optional t k whole v)
  optional_met None whole h = tt
  optional_met (Some v) whole h = value_met v whole h

  index_values : (vs : List Value) (j : ℕ) → slice_index_or (map (symbolic_of p rs) vs) j unset ≡ optional_symbolic p rs (slice_get vs j)
  index_values [] j = refl
  index_values (v ∷ vs) zero = refl
  index_values (v ∷ vs) (suc j) = index_values vs j

  pub argument_met : (vs : List Value) (j : ℕ) (whole : Bool) → is_met whole (slice_index_or (map (symbolic_of p rs) vs) j unset) ≡ true →
      AllByRecursion (IsMet s) (of_optional t k whole (slice_get vs j))
  argument_met vs j whole h = optional_met (slice_get vs j) whole (subst (λ (z : Symbolic). is_met whole z ≡ true) (index_values vs j) h)

  pub operand_met : (o : Op) (j : ℕ) (whole : Bool) → is_met whole (operand_at p rs o j) ≡ true → AllByRecursion (IsMet s) (of_operand t k whole o j)
  operand_met o j whole h = argument_met (operands_of o) j whole h

  pub values_met : (vs : List Value) (F : (List ℤ → List (Option ℕ)) → OnInput) (whole : Bool) → is_met whole (from_all (map (symbolic_of p rs) vs) (λ gs. valued (F gs))) ≡ true →
      AllByRecursion (IsMet s) (of_values t k vs)
  values_met [] F whole h = tt
  values_met (v ∷ vs) F whole h = go (symbolic_of p rs v) refl (λ G z. values_met vs G whole z)
    where
      go : (z : Symbolic) → symbolic_of p rs v ≡ z →
          ((G : (List ℤ → List (Option ℕ)) → OnInput) → is_met whole (from_all (map (symbolic_of p rs) vs) (λ gs. valued (G gs))) ≡ true → AllByRecursion (IsMet s) (of_values t k vs)) →
          AllByRecursion (IsMet s) (of_value t k true v ++ of_values t k vs)
      go (Known f g) q more =
          let z : is_met whole (from_all (Known f g ∷ map (symbolic_of p rs) vs) (λ gs. valued (F gs))) ≡ true =
          subst (λ (z : Symbolic). is_met whole (from_all (z ∷ map (symbolic_of p rs) vs) (λ gs. valued (F gs))) ≡ true) q h in
          append_all (IsMet s) (of_value t k true v) (of_values t k vs) (value_met v true (subst (λ (z : Symbolic). is_met true z ≡ true) (sym q) refl))
          (more (λ gs. F (λ input. f input ∷ gs input)) z)
      go (Bounded f x) q more = absurd (none_unknown whole x (subst (λ (z : Symbolic). is_met whole (from_all (z ∷ map (symbolic_of p rs) vs) (λ gs. valued (F gs))) ≡ true) q h))
      go (Unknown x) q more = absurd (none_unknown whole x (subst (λ (z : Symbolic). is_met whole (from_all (z ∷ map (symbolic_of p rs) vs) (λ gs. valued (F gs))) ≡ true) q h))

  -- ---- pointers that are moved

  moved_whole : (base z : Symbolic) → is_met true (moved base z) ≡ true → is_met true z ≡ true
  moved_whole (Known f u) (Known g w) h = refl
  moved_whole (Known f u) (Bounded g x) h = h
  moved_whole (Known f u) (Unknown x) h = absurd (true≢false (sym h))
  moved_whole (Bounded f y) (Known g w) h = refl
  moved_whole (Bounded f y) (Bounded g x) h = h
  moved_whole (Bounded f y) (Unknown x) h = absurd (true≢false (sym h))
  moved_whole (Unknown y) z h = h

  moved_bounds : (o : Op) (ss : List Symbolic) → is_met false (moved (slice_index_or ss 0 unset) (result_of o ss)) ≡ true → is_met false (slice_index_or ss 0 unset) ≡ true
  moved_bounds o [] h = refl
  moved_bounds o (Known f g ∷ ss) h = refl
  moved_bounds o (Bounded f x ∷ ss) h = refl
  moved_bounds o (Unknown x ∷ ss) h = absurd (true≢false (sym h))

  pub moved_met : (o : Op) (whole : Bool) → is_met whole (moved (operand_at p rs o 0) (result_of o (operand_symbolics p rs o))) ≡ true → AllByRecursion (IsMet s) (back_moved t k o whole)
  moved_met o true h = values_met (operands_of o) _ true (moved_whole (operand_at p rs o 0) (result_of o (operand_symbolics p rs o)) h)
  moved_met o false h = operand_met o 0 false (moved_bounds o (operand_symbolics p rs o) h)

  -- ---- edges

  pub edge_met : (from : ℕ) (edge : Option ℕ) (r : ℕ) (whole : Bool) → r < length rs → is_met whole (slice_index_or (along_edge p from edge rs) r unset) ≡ true →
      AllByRecursion (IsMet s) (back_edge p t k from edge r whole)
  edge_met from None r whole l h = (top_met r whole h, tt)
  edge_met from (Some to) r whole l h =
      go (last_phi (phis_of p to) r) (subst (λ (z : Symbolic). is_met whole z ≡ true) (index_phis (phi_symbolic p rs from) (phis_of p to) rs r l) h)
    where
      go : (o : Option Instr) → is_met whole (by_phi (phi_symbolic p rs from) (slice_index_or rs r unset) o) ≡ true → AllByRecursion (IsMet s) (back_phi t k from o r whole)
      go None h = (top_met r whole h, tt)
      go (Some x) h = optional_met (incoming_from (incoming_of x.op) from) whole h

  -- ---- the arguments of a call

  index_front : (ss ts : List Symbolic) (j : ℕ) (whole : Bool) → is_met whole (slice_index_or (ss ++ ts) j unset) ≡ true → is_met whole (slice_index_or ss j unset) ≡ true
  index_front [] ts j whole h = refl
  index_front (z ∷ ss) ts zero whole h = h
  index_front (z ∷ ss) ts (suc j) whole h = index_front ss ts j whole h

  pub entered_met : (g : ℕ) (args : List Value) (j : ℕ) (whole : Bool) → is_met whole (slice_index_or (entered p g (map (symbolic_of p rs) args)) j unset) ≡ true →
      AllByRecursion (IsMet s) (of_optional t k whole (slice_get args j))
  entered_met g args j whole h = argument_met args j whole (index_front (map (symbolic_of p rs) args) _ j whole h)
