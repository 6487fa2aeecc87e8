-- What is settled stays so with more decisions.
use Rattle.std.proofs.Common.{◌≡◌, ℕ, zero, suc, ◌-◌, Bool, true, false, List, [], ◌∷◌, Some, refl, sym, ap, ◌∙◌, subst, inl, inr, ◌⊎◌, arith, replicate}
use Rattle.std.specs.Prelude.{slice_get, slice_index_or}
use Rattle.std.proofs.lemmas.Bool.{false≢true}
use Rattle.pg_slice_rules.specs.Closed.{AreWithin}
use Rattle.pg_slice_rules.specs.Extents.{Extent, is_live}
use Rattle.pg_slice_rules.specs.Known.{Taken}
use Rattle.pg_slice_back.proofs.of_pg_law_least.OldestFreeExtent.{live_more}
use Rattle.pg_slice_walk.specs.Chains.{IsChain}
use Rattle.pg_slice_walk.specs.Settled.{ArePinned, AreSettled}
use Rattle.pg_slice_walk.proofs.OpenExtents.{get_is}

pub pinned_more : (hs : List ℕ) (d e : Taken) (h : ℕ) → AreWithin d e → ArePinned hs d h → ArePinned hs e h
pinned_more hs d e h w a = record { by = λ es c. live_more d e es w (a.by es c) }

pub settled_stays : (hs : List ℕ) (d e : Taken) (settled : List Bool) → AreWithin d e → AreSettled hs d settled → AreSettled hs e settled
settled_stays hs d e settled w a = record { by = λ b q. pinned_more hs d e (suc b) w (a.by b q) }

-- a pinned step whose older ones are pinned
pub pinned_here : (hs : List ℕ) (d : Taken) (n : ℕ) → d.pinned n ≡ true → ArePinned hs d (slice_index_or hs n 0) → ArePinned hs d (suc n)
pinned_here hs d n p a = record { by = go }
  where
    go : (es : List Extent) → IsChain hs (suc n) es → is_live d.pinned es ≡ true
    go [] c = refl
    go (x ∷ older) c =
        let z : suc n ≡ suc x.step = c.1 in
        let y : x.step ≡ n = omega (arith, z) in
        let g : slice_index_or hs n 0 ≡ c.0 = get_is hs n c.0 (subst (λ (i : ℕ). slice_get hs i ≡ Some c.0) y c.2) in
        let k : is_live d.pinned older ≡ true = a.by older (subst (λ (u : ℕ). IsChain hs u older) (sym g) c.3) in
        rw (ap d.pinned y ∙ p, k) refl

pub settled_set : (hs : List ℕ) (d : Taken) (old new : List Bool) (n : ℕ) → d.pinned n ≡ true → ArePinned hs d (slice_index_or hs n 0) →
    ((i : ℕ) → slice_index_or new i false ≡ true → (slice_index_or old i false ≡ true) ⊎ (i ≡ n)) → AreSettled hs d old → AreSettled hs d new
settled_set hs d old new n p here f a = record { by = λ i q. go i (f i q) }
  where
    go : (i : ℕ) → (slice_index_or old i false ≡ true) ⊎ (i ≡ n) → ArePinned hs d (suc i)
    go i (inl q) = a.by i q
    go i (inr e) = subst (λ (j : ℕ). ArePinned hs d (suc j)) (sym e) (pinned_here hs d n p here)

pub none_held : (hs : List ℕ) (d : Taken) → ArePinned hs d 0
none_held hs d = record { by = go }
  where
    go : (es : List Extent) → IsChain hs 0 es → is_live d.pinned es ≡ true
    go [] c = refl
    go (x ∷ older) c = let z : 0 ≡ suc x.step = c.1 in absurd (omega (arith, z))

pub settled_at : (hs : List ℕ) (d : Taken) (settled : List Bool) (h : ℕ) → (h ≡ 0 → ⊥) → slice_index_or settled (h - 1) false ≡ true → AreSettled hs d settled → ArePinned hs d h
settled_at hs d settled zero o q a = absurd (o refl)
settled_at hs d settled (suc b) o q a = let z : suc b - 1 ≡ b = omega arith in a.by b (subst (λ (i : ℕ). slice_index_or settled i false ≡ true) z q)

no_mark : (n i : ℕ) → slice_index_or (replicate n false) i false ≡ false
no_mark zero i = refl
no_mark (suc n) zero = refl
no_mark (suc n) (suc i) = no_mark n i

pub none_marked : (marks : List Bool) (n i : ℕ) → marks ≡ replicate n false → slice_index_or marks i false ≡ true → ⊥
none_marked marks n i e q = false≢true (sym (ap (λ (l : List Bool). slice_index_or l i false) e ∙ no_mark n i) ∙ q)

pub none_settled : (hs : List ℕ) (d : Taken) (settled : List Bool) (n : ℕ) → settled ≡ replicate n false → AreSettled hs d settled
none_settled hs d settled n e = record { by = λ i q. absurd (none_marked settled n i e q) }
