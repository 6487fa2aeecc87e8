-- Bytes of memory that are stored, or forgotten.
use Rattle.std.proofs.Common.{◌≡◌, ℕ, zero, suc, ◌+◌, ◌-◌, ◌≤◌, ◌&&◌, not, List, [], ◌∷◌, length, drop, Bool, true, false, Result, OnOk, IfSome, is_some}
use Rattle.std.proofs.Common.{Option, Some, None, slice_get, arith, refl, ap, ◌∙◌, if◌then◌else◌}
use Rattle.std.proofs.lemmas.Result.{on_ok_weaker}
use Rattle.pg_num.specs.Places.{ByteRange}
use Rattle.pg_ir.specs.Program.{NumberedProgram}
use Rattle.pg_precondition.specs.Nodes.{NodeList}
use Rattle.pg_slice_rules.specs.declared.decision.Decision.{Decision}
use Rattle.pg_slice_rules.specs.declared.decision.Decision.TheVariants.{Pinned}
use Rattle.pg_slice_rules.specs.Freeable.{FreeAccess, FreeRegion, bounds_of}
use Rattle.pg_slice_rules.specs.Known.{bytes_freed, forgotten_bytes}
use Rattle.pg_slice_rules.specs.SymbolicValues.{Symbolic, byte_in, is_within, spoiled, stored}
use Rattle.pg_slice_values.specs.declared.symbolic_node.SymbolicNode.{SymbolicNode}
use Rattle.pg_slice_values.specs.SymbolicNodes.{Grew, symbolic_by}
use Rattle.pg_slice_checks.specs.pg_slice_memory.declared.symbolic_node.Held.{Held}
use Rattle.pg_slice_checks.specs.pg_slice_memory.Changes.{AreSymbolicNodes, Changes, symbolics_of}
use Rattle.pg_slice_checks.specs.pg_slice_memory.SymbolicNodes.{held_symbolic}
use Rattle.pg_slice_checks.proofs.of_pg_slice_memory.ByteNodes.{symbolics_kept}

-- a value is stored as its bytes are
pub stored_as : (r : ByteRange) (s t : Symbolic) (bytes : ℕ → Symbolic) (b : ℕ) → ((k : ℕ) → byte_in k s ≡ byte_in k t) → stored r s bytes b ≡ stored r t bytes b
stored_as r s t bytes b h = ap (λ (x : Symbolic). if is_within r b then x else bytes b) (h (b - r.start))

-- ---- the accesses of an instance's region, one after another

-- bytes after one of them
abbrev pub after_one : FreeAccess → Decision → (ℕ → Symbolic) → ℕ → Symbolic
after_one a x bytes = if a.writes then spoiled (bounds_of a.at.last) x bytes else bytes

pub one_forgotten : (xs : List FreeAccess) (i : ℕ) (a : FreeAccess) (x : Decision) (bytes : ℕ → Symbolic) → slice_get xs i ≡ Some a →
    forgotten_bytes (drop (i + 1) xs) x (after_one a x bytes) ≡ forgotten_bytes (drop i xs) x bytes
one_forgotten [] i a x bytes e = absurd cc
one_forgotten (y ∷ xs) zero a x bytes e = let q : a ≡ y = cc in ap (λ (z : FreeAccess). forgotten_bytes xs x (after_one z x bytes)) q
one_forgotten (y ∷ xs) (suc i) a x bytes e = let h : suc i + 1 ≡ suc (i + 1) = omega arith in rw h (one_forgotten xs i a x bytes e)

pub none_forgotten : (xs : List FreeAccess) (i : ℕ) (x : Decision) (bytes : ℕ → Symbolic) → slice_get xs i ≡ None →
    forgotten_bytes (drop (i + 1) xs) x bytes ≡ forgotten_bytes (drop i xs) x bytes
none_forgotten [] zero x bytes e = refl
none_forgotten [] (suc i) x bytes e = let h : suc i + 1 ≡ suc (i + 1) = omega arith in rw h refl
none_forgotten (y ∷ xs) zero x bytes e = absurd cc
none_forgotten (y ∷ xs) (suc i) x bytes e = let h : suc i + 1 ≡ suc (i + 1) = omega arith in rw h (none_forgotten xs i x bytes e)

pub none_left : (xs : List FreeAccess) (i : ℕ) (x : Decision) (bytes : ℕ → Symbolic) → length xs ≤ i → forgotten_bytes (drop i xs) x bytes ≡ bytes
none_left [] zero x bytes h = refl
none_left [] (suc i) x bytes h = refl
none_left (y ∷ xs) zero x bytes h = absurd (omega arith)
none_left (y ∷ xs) (suc i) x bytes h = none_left xs i x bytes (omega arith)

pub instance_freed : {T E : Type 0} (r : Result T E) (freed pinned : Bool) (n : ℕ) (region : Option FreeRegion) (before after : ℕ → Symbolic) (b : ℕ) → (freed && not pinned) ≡ true
    → freed ≡ is_some region →
    IfSome region (λ (f : FreeRegion). OnOk r (after ≡ forgotten_bytes f.accesses (Pinned n) before)) → OnOk r (after b ≡ bytes_freed pinned n region before b)
instance_freed r false pinned n region before after b i f h = absurd cc
instance_freed r true true n region before after b i f h = absurd cc
instance_freed r true false n None before after b i f h = absurd cc
instance_freed r true false n (Some x) before after b i f h = on_ok_weaker r (λ e. ap (λ (g : ℕ → Symbolic). g b) e) h

pub none_freed : (freed pinned : Bool) (n : ℕ) (region : Option FreeRegion) (bytes : ℕ → Symbolic) (b : ℕ) → (freed && not pinned) ≡ false → freed ≡ is_some region
    → bytes b ≡ bytes_freed pinned n region bytes b
none_freed freed true n region bytes b i f = refl
none_freed freed false n None bytes b i f = refl
none_freed true false n (Some x) bytes b i f = absurd cc
none_freed false false n (Some x) bytes b i f = absurd cc

-- ---- nodes are added, and then bytes are stored or forgotten

-- a number is stored
pub number_stored : (p : NumberedProgram) (old new : NodeList) (cs after : Changes) (start at count : ℕ) (h : Held) (s : SymbolicNode) (x : Symbolic) (b : ℕ) → Grew old new
    → AreSymbolicNodes (length old) cs →
    symbolics_of p new after ≡ stored (record { start = start; bytes = count }) (held_symbolic new h) (symbolics_of p new cs) → start ≡ at
    → ((k : ℕ) → byte_in k (held_symbolic new h) ≡ byte_in k (symbolic_by new s)) → symbolic_by new s ≡ x →
    symbolics_of p new after b ≡ stored (record { start = at; bytes = count }) x (symbolics_of p old cs) b
number_stored p old new cs after start at count h s x b g a e q k v =
    let from : ℕ → ByteRange = λ (i : ℕ). record { start = i; bytes = count } in
    ap (λ (f : ℕ → Symbolic). f b) e
    ∙ ap (λ (f : ℕ → Symbolic). stored (from start) (held_symbolic new h) f b) (symbolics_kept p old new cs g a)
    ∙ stored_as (from start) (held_symbolic new h) (symbolic_by new s) (symbolics_of p old cs) b k
    ∙ ap (λ (y : Symbolic). stored (from start) y (symbolics_of p old cs) b) v
    ∙ ap (λ (i : ℕ). stored (from i) x (symbolics_of p old cs) b) q

-- what lies within bounds is forgotten
pub bounds_spoiled : (p : NumberedProgram) (ns : NodeList) (cs after : Changes) (start count word : ℕ) (x : Decision) →
    symbolics_of p ns after ≡ spoiled (record { start = start; bytes = count }) x (symbolics_of p ns cs) → start ≡ (bounds_of word).start → count ≡ (bounds_of word).bytes →
    symbolics_of p ns after ≡ spoiled (bounds_of word) x (symbolics_of p ns cs)
bounds_spoiled p ns cs after start count word x e s n =
    e
    ∙ ap (λ (i : ℕ). spoiled (record { start = i; bytes = count }) x (symbolics_of p ns cs)) s
    ∙ ap (λ (i : ℕ). spoiled (record { start = (bounds_of word).start; bytes = i }) x (symbolics_of p ns cs)) n
