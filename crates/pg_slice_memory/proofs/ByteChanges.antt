-- The symbolic values of bytes with one change more, and the stamps that find a byte's last change.
use Rattle.std.proofs.Common.{◌≡◌, ℕ, zero, suc, ◌+◌, ◌-◌, ◌<◌, ◌≤◌, ◌++◌, [], ◌∷◌, Bool, true, false, Option, Some, get_or, length, length-append}
use Rattle.std.proofs.Common.{slice_get, refl, sym, ap, ◌∙◌, arith, subst, max, if◌then◌else◌}
use Rattle.std.specs.Prelude.{nat_le, nat_lt}
use Rattle.std.proofs.lemmas.Bool.{and_parts, leb-true, le-ltb, ltb-true, and_right}
use Rattle.std.proofs.lemmas.Option.{slice_get-get_or}
use Rattle.pg_slice_values.specs.pg_slice_rules.SymbolicValues.{is_within}
use Rattle.pg_stamps.specs.declared.stamps.Stamps.{Stamps}
use Rattle.pg_stamps.specs.declared.stamps.TheConstants.{PLACE_COUNT}
use Rattle.pg_stamps.specs.Marks.{greatest_at}
use Rattle.pg_slice_memory.specs.declared.symbolic_node.SymbolicByte.{SymbolicByte}
use Rattle.pg_slice_memory.specs.declared.symbolic_node.SymbolicByte.TheVariants as byte
use Rattle.pg_slice_memory.specs.declared.change.Change.{Change}
use Rattle.pg_slice_memory.specs.declared.symbolic_node.Held.{Held}
use Rattle.pg_slice_memory.specs.declared.symbolic_node.Held.TheVariants as held
use Rattle.pg_slice_memory.specs.SymbolicNodes.{IsPart, IsPlaceIn, changed, part_of}
use Rattle.pg_slice_memory.specs.Changes.{Changes, range_of, symbolic_nodes_after, symbolic_nodes_of}
use Rattle.pg_slice_memory.specs.Stamped.{AreStamps, IsIn, IsLast, symbolic_node_in}

abbrev initially : ℕ → SymbolicByte
initially b = byte.Initial

after_none : (f : ℕ → SymbolicByte) → symbolic_nodes_after f [] ≡ f
unfolding symbolic_nodes_after
after_none f = refl

after_more : (f : ℕ → SymbolicByte) (cs : Changes) (c : Change) → symbolic_nodes_after f (cs ++ c ∷ []) ≡ changed (range_of c) c.to (symbolic_nodes_after f cs)
unfolding symbolic_nodes_after
after_more f [] c = refl
after_more f (d ∷ cs) c = after_more (changed (range_of d) d.to f) cs c

pub symbolic_nodes_none : (cs : Changes) (b : ℕ) → cs ≡ [] → symbolic_nodes_of cs b ≡ byte.Initial
symbolic_nodes_none cs b e = ap (λ (ds : Changes). symbolic_nodes_of ds b) e ∙ ap (λ (f : ℕ → SymbolicByte). f b) (after_none initially)

-- with one change more
pub symbolic_nodes_more : (cs ds : Changes) (c : Change) → ds ≡ cs ++ c ∷ [] → symbolic_nodes_of ds ≡ changed (range_of c) c.to (symbolic_nodes_of cs)
symbolic_nodes_more cs ds c e = ap (λ (es : Changes). symbolic_nodes_of es) e ∙ after_more initially cs c

-- ---- stamps

at_end : (cs : Changes) (c : Change) → slice_get (cs ++ c ∷ []) (length cs) ≡ Some c
at_end [] c = refl
at_end (d ∷ cs) c = at_end cs c

before_end : (cs : Changes) (c : Change) (i : ℕ) → i < length cs → slice_get (cs ++ c ∷ []) i ≡ slice_get cs i
before_end [] c i h = absurd (omega arith)
before_end (d ∷ cs) c zero h = refl
before_end (d ∷ cs) c (suc i) h = before_end cs c i (omega arith)

last_none : (cs : Changes) (n b : ℕ) → cs ≡ [] → n ≡ 0 → IsLast cs n b
last_none cs zero b e z = record { among = omega arith; symbolic_node = symbolic_nodes_none cs b e; inside = tt }
last_none cs (suc n) b e z = absurd (omega arith)

pub no_stamps : (cs : Changes) (s : Stamps) → cs ≡ [] → ((x : ℕ) → greatest_at s x ≡ 0) → AreStamps cs s
no_stamps cs s e z = record { last = λ b h. last_none cs (greatest_at s b) b e (z b); behind = λ b h. symbolic_nodes_none cs b e }

module _ (cs ds : Changes) (c : Change) (d : ds ≡ cs ++ c ∷ []) where
  longer : length ds ≡ length cs + 1
  longer = ap (λ (es : Changes). length es) d ∙ length-append cs (c ∷ [])

  symbolic_node_at : (b : ℕ) (v : Bool) → is_within (range_of c) b ≡ v → symbolic_nodes_of ds b ≡ (if v then part_of c.to (b - c.start) else symbolic_nodes_of cs b)
  symbolic_node_at b v e = ap (λ (f : ℕ → SymbolicByte). f b) (symbolic_nodes_more cs ds c d) ∙ ap (λ (w : Bool). if w then part_of c.to (b - c.start) else symbolic_nodes_of cs b) e

  -- a byte that the last change holds
  last_of : ((k : ℕ) → k < c.bytes → IsPlaceIn c.to k) → (b n : ℕ) → is_within (range_of c) b ≡ true → n ≡ length cs + 1 → IsLast ds n b
  last_of places b zero w e = absurd (omega arith)
  last_of places b (suc i) w e =
      let p = and_parts (nat_le c.start b) (nat_lt b (c.start + c.bytes)) w in
      let from : c.start ≤ b = leb-true c.start b p.0 in
      let below : b < c.start + c.bytes = ltb-true b (c.start + c.bytes) p.1 in
      let k : i ≡ length cs = omega (arith, e) in
      let g : slice_get ds i ≡ Some c = ap (slice_get ds) k ∙ ap (λ (es : Changes). slice_get es (length cs)) d ∙ at_end cs c in record {
        among = let l = longer in omega (arith, l, e);
        symbolic_node = symbolic_node_at b true w ∙ sym (ap (λ (o : Option Change). symbolic_node_in o b) g);
        inside = rw g (from, places (b - c.start) (omega (arith, from, below)));
      }

  -- a byte that it doesn't hold
  last_kept : (b n : ℕ) → is_within (range_of c) b ≡ false → IsLast cs n b → IsLast ds n b
  last_kept b zero w h = record { among = omega arith; symbolic_node = symbolic_node_at b false w ∙ h.symbolic_node; inside = tt }
  last_kept b (suc i) w h =
      let a = h.among in
      let g : slice_get ds i ≡ slice_get cs i = ap (λ (es : Changes). slice_get es i) d ∙ before_end cs c i (omega (arith, a)) in record {
        among = let l = longer in omega (arith, l, a);
        symbolic_node = symbolic_node_at b false w ∙ h.symbolic_node ∙ sym (ap (λ (o : Option Change). symbolic_node_in o b) g);
        inside = rw g h.inside;
      }

  pub more_stamps : (old new : Stamps) (t : ℕ) → AreStamps cs old → c.start + c.bytes ≤ PLACE_COUNT → ((k : ℕ) → k < c.bytes → IsPlaceIn c.to k) → t ≡ length ds →
      ((x : ℕ) → x < PLACE_COUNT → greatest_at new x ≡ max (greatest_at old x) (if is_within (range_of c) x then t else 0)) → AreStamps ds new
  more_stamps old new t s below places e stamped = record { last = last; behind = behind }
    where
      last : (b : ℕ) → b < PLACE_COUNT → IsLast ds (greatest_at new b) b
      last b h = go (is_within (range_of c) b) refl
        where
          go : (v : Bool) → is_within (range_of c) b ≡ v → IsLast ds (greatest_at new b) b
          go true w =
              let g = stamped b h ∙ ap (λ (v : Bool). max (greatest_at old b) (if v then t else 0)) w in
              let a = (s.last b h).among in
              let l = longer in
              last_of places b (greatest_at new b) w (omega (arith, g, a, e, l))
          go false w =
              let g = stamped b h ∙ ap (λ (v : Bool). max (greatest_at old b) (if v then t else 0)) w in
              let k : greatest_at new b ≡ greatest_at old b = omega (arith, g) in
              subst (λ (n : ℕ). IsLast ds n b) (sym k) (last_kept b (greatest_at old b) w (s.last b h))

      behind : (b : ℕ) → PLACE_COUNT ≤ b → symbolic_nodes_of ds b ≡ byte.Initial
      behind b h =
          let w : is_within (range_of c) b ≡ false = and_right (nat_le c.start b) (nat_lt b (c.start + c.bytes)) (le-ltb b (c.start + c.bytes) (omega (arith, below, h))) in
          symbolic_node_at b false w ∙ s.behind b h

-- ---- the last change of a byte

pub last_is_in : (cs : Changes) (n b : ℕ) (d : Change) → IsLast cs n b → (n ≡ 0 → ⊥) → IsIn b (get_or cs (n - 1) d)
last_is_in cs zero b d h z = absurd (z refl)
last_is_in cs (suc i) b d h z =
    let e : suc i - 1 ≡ i = omega arith in
    let a = h.among in
    let g : slice_get cs i ≡ Some (get_or cs i d) = slice_get-get_or cs i d (omega (arith, a)) in
    rw e (rw g at h.inside)

pub part_is : (h : Held) (k : ℕ) → IsPlaceIn h k → IsPart (part_of h k)
part_is (held.Known v) k i = i
part_is (held.Unknown x) k i = tt
