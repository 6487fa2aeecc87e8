-- The loads of a path, one after another.
use Rattle.std.proofs.Common.{◌≡◌, ℕ, zero, suc, ◌<◌, ◌≤◌, pos, List, [], ◌∷◌, length, drop, slice_index_or, refl, sym, ap, ◌∙◌, subst, arith}
use Rattle.pg_num.specs.Places.{ByteRange}
use Rattle.pg_num.specs.Pointers.{byte_place, moved_by}
use Rattle.pg_ir.specs.Program.{NumberedProgram}
use Rattle.pg_precondition.specs.Nodes.{NodeList}
use Rattle.pg_precondition.specs.declared.check.Test.TheVariants as test
use Rattle.pg_slice_memory.specs.pg_slice_rules.Rules.{Bounds, Need, Value, moved_symbolic, path_needs, same_bounds}
use Rattle.pg_slice_memory.specs.pg_slice_rules.SymbolicValues.{Symbolic, loaded}
use Rattle.pg_slice_memory.specs.pg_slice_values.SymbolicNodes.{Grew, IsSymbolicNode, symbolic_by}
use Rattle.pg_slice_memory.specs.pg_slice_values.declared.symbolic_node.SymbolicNode.{SymbolicNode}
use Rattle.pg_slice_memory.proofs.of_pg_slice_values.GrowingNodes.{grew_length, grew_then, symbolic_kept, symbolic_node_more}
use Rattle.pg_slice_memory.specs.Changes.{AreSymbolicNodes, Changes, symbolics_of}
use Rattle.pg_slice_memory.proofs.ByteNodes.{names_more, symbolics_kept}
use Rattle.pg_slice_checks.specs.Asks.{Adds}
use Rattle.pg_slice_checks.specs.Paths.{AreCells}
use Rattle.pg_slice_checks.specs.declared.asked.Asked.{Asked}
use Rattle.pg_slice_checks.proofs.OneNeedMore.{adds_then}

none_left : (ks : List ℕ) (i : ℕ) → length ks ≤ i → drop i ks ≡ []
none_left [] zero h = refl
none_left [] (suc i) h = refl
none_left (k ∷ ks) zero h = absurd (omega (arith, h))
none_left (k ∷ ks) (suc i) h = none_left ks i (omega (arith, h))

-- behind the last load there is the last pointer
pub path_ends : (bytes : ℕ → Symbolic) (s : Symbolic) (ks ws : List ℕ) (cells : List ByteRange) (last i : ℕ) → length ks ≤ i
    → path_needs bytes s (drop i ks) (drop i ws) (drop i cells) last ≡ Bounds s (same_bounds last) ∷ []
path_ends bytes s ks ws cells last i h = ap (λ l. path_needs bytes s l (drop i ws) (drop i cells) last) (none_left ks i h)

-- load i of a path
path_more : (bytes : ℕ → Symbolic) (s : Symbolic) (ks ws : List ℕ) (cells : List ByteRange) (last i : ℕ) → i < length ks → AreCells ks ws cells →
    path_needs bytes s (drop i ks) (drop i ws) (drop i cells) last
    ≡ Value (moved_symbolic (slice_index_or ks i 0) s) (test.Eq (moved_by (slice_index_or ws i 0) (pos (slice_index_or ks i 0))) ∷ [])
    ∷ path_needs bytes (loaded bytes (byte_place (moved_by (slice_index_or ws i 0) (pos (slice_index_or ks i 0)))) 8) (drop (suc i) ks) (drop (suc i) ws) (drop (suc i) cells) last
path_more bytes s [] ws cells last i h a = absurd (omega (arith, h))
path_more bytes s (k ∷ ks) [] cells last i h a = absurd a
path_more bytes s (k ∷ ks) (w ∷ ws) [] last i h a = absurd a
path_more bytes s (k ∷ ks) (w ∷ ws) (c ∷ cells) last zero h a =
    ap (λ b. Value (moved_symbolic k s) (test.Eq (moved_by w (pos k)) ∷ []) ∷ path_needs bytes (loaded bytes b 8) ks ws cells last) a.0
path_more bytes s (k ∷ ks) (w ∷ ws) (c ∷ cells) last (suc i) h a = path_more bytes s ks ws cells last i (omega (arith, h)) a.1

-- what is known of memory stays as nodes are added
pub symbolic_nodes_more : (old new : NodeList) (memory : Changes) → Grew old new → AreSymbolicNodes (length old) memory → AreSymbolicNodes (length new) memory
symbolic_nodes_more old new memory g h = names_more (length old) (length new) memory (grew_length old new g) h

module _ (p : NumberedProgram) (memory : Changes) (ks ws : List ℕ) (cells : List ByteRange) (last i : ℕ) where
  -- the needs of the loads from load i on, by those of the loads behind it
  pub loads_more : (first second third ns : NodeList) (s at next : SymbolicNode) (address start : ℕ) (old between done : Asked) →
      Grew first second → Grew second third → Grew third ns → IsSymbolicNode (length first) s → IsSymbolicNode (length second) at → IsSymbolicNode (length third) next → AreSymbolicNodes (length first) memory →
      i < length ks → AreCells ks ws cells →
      symbolic_by second at ≡ moved_symbolic (slice_index_or ks i 0) (symbolic_by first s) → address ≡ moved_by (slice_index_or ws i 0) (pos (slice_index_or ks i 0))
      → start ≡ byte_place address →
      symbolic_by third next ≡ loaded (symbolics_of p second memory) start 8 →
      ((ms : NodeList) → IsSymbolicNode (length ms) at → Adds ms (Value (symbolic_by ms at) (test.Eq address ∷ []) ∷ []) old between) →
      Adds ns (path_needs (symbolics_of p ns memory) (symbolic_by ns next) (drop (suc i) ks) (drop (suc i) ws) (drop (suc i) cells) last) between done →
      Adds ns (path_needs (symbolics_of p ns memory) (symbolic_by ns s) (drop i ks) (drop i ws) (drop i cells) last) old done
  loads_more first second third ns s at next address start old between done g h k is_s is_at is_next names lt cut value address_is start_is load one rest =
      subst (λ l. Adds ns l old done) (sym (path_more bytes' (symbolic_by ns s) ks ws cells last i lt cut)) (adds_then ns (wanted ∷ []) behind old between done one' rest')
    where
      bytes' : ℕ → Symbolic
      bytes' = symbolics_of p ns memory

      second_on : Grew second ns
      second_on = grew_then second third ns h k

      first_on : Grew first ns
      first_on = grew_then first second ns g second_on

      wanted : Need
      wanted = Value (moved_symbolic (slice_index_or ks i 0) (symbolic_by ns s)) (test.Eq (moved_by (slice_index_or ws i 0) (pos (slice_index_or ks i 0))) ∷ [])

      behind : List Need
      behind = path_needs bytes' (loaded bytes' (byte_place (moved_by (slice_index_or ws i 0) (pos (slice_index_or ks i 0)))) 8) (drop (suc i) ks) (drop (suc i) ws) (drop (suc i) cells) last

      at_is : symbolic_by ns at ≡ moved_symbolic (slice_index_or ks i 0) (symbolic_by ns s)
      at_is = symbolic_kept second ns at second_on is_at ∙ value ∙ ap (λ v. moved_symbolic (slice_index_or ks i 0) v) (sym (symbolic_kept first ns s first_on is_s))

      one' : Adds ns (wanted ∷ []) old between
      one' = subst (λ v. Adds ns (Value v (test.Eq (moved_by (slice_index_or ws i 0) (pos (slice_index_or ks i 0))) ∷ []) ∷ []) old between) at_is
          (subst (λ n. Adds ns (Value (symbolic_by ns at) (test.Eq n ∷ []) ∷ []) old between) address_is
          (one ns (symbolic_node_more (length second) (length ns) at (grew_length second ns second_on) is_at)))

      next_is : symbolic_by ns next ≡ loaded bytes' (byte_place (moved_by (slice_index_or ws i 0) (pos (slice_index_or ks i 0)))) 8
      next_is = symbolic_kept third ns next k is_next ∙ load ∙ ap (λ f. loaded f start 8) (sym (symbolics_kept p second ns memory second_on (symbolic_nodes_more first second memory g names)))
          ∙ ap (λ b. loaded bytes' b 8) (start_is ∙ ap (λ w. byte_place w) address_is)

      rest' : Adds ns behind between done
      rest' = subst (λ v. Adds ns (path_needs bytes' v (drop (suc i) ks) (drop (suc i) ws) (drop (suc i) cells) last) between done) next_is rest
