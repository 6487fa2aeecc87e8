-- The bytes with which memory begins, global by global.
use Rattle.std.proofs.Common.{◌≡◌, ℕ, zero, suc, ◌+◌, ◌-◌, ◌*◌, ◌/◌, ◌<◌, ◌≤◌, ◌⊎◌, inl, inr, List, [], ◌∷◌, length, Some, refl, sym, ◌∙◌, ap, subst, arith}
use Rattle.std.specs.Prelude.{slice_get, slice_index}
use Rattle.std.proofs.lemmas.Bool.{cases_lt}
use Rattle.std.proofs.lemmas.Bool.Decides.{nat_tests}
use Rattle.std.proofs.lemmas.List.{get_or_past}
use Rattle.pg_crew.specs.pg_num.declared.layout.TheConstants.{GLOBALS_END}
use Rattle.pg_crew.specs.pg_ir.declared.function.GlobalInfo.{GlobalInfo}
use Rattle.pg_crew.specs.pg_ir.WellFormed.{LieFrom, granules_for}
use Rattle.pg_crew.specs.pg_run_memory.Initial.{initial_byte, with_bytes_at}
use Rattle.pg_room.specs.Laying.{begin_of, granules_of}

-- ---- one global before the others

within : (start : ℕ) (bytes : List ℕ) (f : ℕ → ℕ) (at : ℕ) → start ≤ at → at < start + length bytes → with_bytes_at start bytes f at ≡ slice_index bytes (at - start)
within start bytes f at h k = grind (arith, nat_tests)

outside : (start : ℕ) (bytes : List ℕ) (f : ℕ → ℕ) (at : ℕ) → (at < start) ⊎ (start + length bytes ≤ at) → with_bytes_at start bytes f at ≡ f at
outside start bytes f at h = grind (arith, nat_tests)

room_for : (size n : ℕ) → n ≤ size → (n ≤ 8 * granules_for size) × (1 ≤ granules_for size) × ((n + 7) / 8 ≤ granules_for size)
room_for size n h = (omega (arith, h), omega arith, omega (arith, h))

same_global : (g h : GlobalInfo) → Some h ≡ Some g → h ≡ g
same_global g h e = cc

-- ---- where globals begin

pub begins_at : (at : ℕ) (gs : List GlobalInfo) → begin_of at gs 0 ≡ at
begins_at at [] = refl
begins_at at (g ∷ gs) = refl

at_least : (at : ℕ) (gs : List GlobalInfo) (k : ℕ) → at ≤ begin_of at gs k
at_least at [] k = omega arith
at_least at (g ∷ gs) zero = omega arith
at_least at (g ∷ gs) (suc k) = let h = at_least (at + granules_for g.size) gs k in omega (arith, h)

pub begin_is : (at : ℕ) (gs : List GlobalInfo) (k : ℕ) (g : GlobalInfo) → LieFrom at gs → slice_get gs k ≡ Some g → g.start ≡ begin_of at gs k
begin_is at [] k g lie e = absurd cc
begin_is at (h ∷ gs) zero g lie e = ap (λ (x : GlobalInfo). x.start) (sym (same_global g h e)) ∙ lie.0
begin_is at (h ∷ gs) (suc k) g lie e = begin_is (at + granules_for h.size) gs k g lie.3 e

pub next_begin : (at : ℕ) (gs : List GlobalInfo) (k : ℕ) (g : GlobalInfo) → slice_get gs k ≡ Some g → begin_of at gs (suc k) ≡ begin_of at gs k + granules_for g.size
next_begin at [] k g e = absurd cc
next_begin at (h ∷ gs) zero g e = begins_at (at + granules_for h.size) gs ∙ ap (λ (x : GlobalInfo). at + granules_for x.size) (same_global g h e)
next_begin at (h ∷ gs) (suc k) g e = next_begin (at + granules_for h.size) gs k g e

pub end_within : (at : ℕ) (gs : List GlobalInfo) → LieFrom at gs → begin_of at gs (length gs) ≤ GLOBALS_END
end_within at [] lie = lie
end_within at (g ∷ gs) lie = end_within (at + granules_for g.size) gs lie.3

-- ---- bytes

-- memory begins with zeros before the first global
pub below : (at : ℕ) (gs : List GlobalInfo) (b : ℕ) → LieFrom at gs → b < 8 * at → initial_byte gs b ≡ 0
below at [] b lie lt = refl
below at (g ∷ gs) b lie lt =
    let s = lie.0 in
    outside (g.start * 8) g.bytes (initial_byte gs) b (inl (omega (arith, s, lt))) ∙ below (at + granules_for g.size) gs b lie.3 (omega (arith, lt))

-- and behind the last
pub behind : (at : ℕ) (gs : List GlobalInfo) (b : ℕ) → LieFrom at gs → 8 * begin_of at gs (length gs) ≤ b → initial_byte gs b ≡ 0
behind at [] b lie le = refl
behind at (g ∷ gs) b lie le =
    let s = lie.0 in
    let room = room_for g.size (length g.bytes) lie.2 in
    let more = at_least (at + granules_for g.size) gs (length gs) in
    outside (g.start * 8) g.bytes (initial_byte gs) b (inr (omega (arith, s, room.0, more, le))) ∙ behind (at + granules_for g.size) gs b lie.3 le

-- in a global's granules it begins with the global's bytes, and zeros behind them
pub bytes_are : (at : ℕ) (gs : List GlobalInfo) (k : ℕ) (g : GlobalInfo) → LieFrom at gs → slice_get gs k ≡ Some g → (i : ℕ) → i < 8 * granules_for g.size
    → initial_byte gs (8 * begin_of at gs k + i) ≡ slice_index g.bytes i
bytes_are at [] k g lie e i lt = absurd cc
bytes_are at (h ∷ gs) zero g lie e i lt =
    subst (λ (x : GlobalInfo). i < 8 * granules_for x.size → initial_byte (h ∷ gs) (8 * at + i) ≡ slice_index x.bytes i) (same_global g h e) (λ few. go few (cases_lt i (length h.bytes))) lt
  where
    go : i < 8 * granules_for h.size → (i < length h.bytes) ⊎ (length h.bytes ≤ i) → initial_byte (h ∷ gs) (8 * at + i) ≡ slice_index h.bytes i
    go few (inl l) =
        let s = lie.0 in
        let there : 8 * at + i - h.start * 8 ≡ i = omega (arith, s) in
        within (h.start * 8) h.bytes (initial_byte gs) (8 * at + i) (omega (arith, s)) (omega (arith, s, l)) ∙ ap (slice_index h.bytes) there
    go few (inr l) =
        let s = lie.0 in
        outside (h.start * 8) h.bytes (initial_byte gs) (8 * at + i) (inr (omega (arith, s, l)))
        ∙ below (at + granules_for h.size) gs (8 * at + i) lie.3 (omega (arith, few)) ∙ sym (get_or_past h.bytes i 0 l)
bytes_are at (h ∷ gs) (suc k) g lie e i lt =
    let s = lie.0 in
    let room = room_for h.size (length h.bytes) lie.2 in
    let more = at_least (at + granules_for h.size) gs k in
    outside (h.start * 8) h.bytes (initial_byte gs) (8 * begin_of (at + granules_for h.size) gs k + i) (inr (omega (arith, s, room.0, more)))
    ∙ bytes_are (at + granules_for h.size) gs k g lie.3 e i lt

-- a global's bytes take no more granules than the global has
pub granules_within : (g : GlobalInfo) → length g.bytes ≤ g.size → granules_of g.bytes ≤ granules_for g.size
granules_within g h = (room_for g.size (length g.bytes) h).2
