-- Blocks that are quiet in no set, as a table.
use Rattle.std.proofs.Common.{◌≡◌, ℕ, zero, suc, ◌+◌, ◌<◌, Bool, true, false, List, [], ◌∷◌, ◌++◌, length, replicate, Option, Some, None, refl, sym, ap, ◌∙◌}
use Rattle.std.proofs.Common.{subst, inl, inr, ◌⊎◌, length-append, arith}
use mathlib.Core.Path.{fun_ext}
use Rattle.std.specs.Prelude.{not}
use Rattle.std.proofs.lemmas.Bool.{true≢false}
use Rattle.pg_region_paths.specs.pg_ir.Program.{NumberedProgram}
use Rattle.pg_region_accesses.specs.Accesses.{RootedList, gathered, block_accesses, sets, set_accesses}
use Rattle.pg_region_accesses.specs.Appends.{Appends}
use Rattle.pg_region_accesses.specs.Tables.{in_table}
use Rattle.pg_region_accesses.proofs.AddedAccesses.{not_there}
use Rattle.pg_region_accesses.proofs.SetTables.{nothing_in}
use Rattle.pg_region_accesses.proofs.QuietInParts.{loud_anywhere}

pub size_more : (old new : List Bool) (v : Bool) (n : ℕ) → new ≡ old ++ v ∷ [] → length old ≡ n → length new ≡ n + 1
size_more old new v n e q = ap (λ (l : List Bool). length l) e ∙ length-append old (v ∷ []) ∙ ap (λ k. k + 1) q

table_push : (xs : List Bool) (v : Bool) (i : ℕ) → in_table (xs ++ v ∷ []) i ≡ true → (in_table xs i ≡ true) ⊎ ((i ≡ length xs) × (v ≡ true))
table_push [] v zero e = inr (refl, e)
table_push [] v (suc i) e = absurd (true≢false (sym e))
table_push (x ∷ xs) v zero e = inl e
table_push (x ∷ xs) v (suc i) e = go (table_push xs v i e)
  where
    go : (in_table xs i ≡ true) ⊎ ((i ≡ length xs) × (v ≡ true)) → (in_table (x ∷ xs) (suc i) ≡ true) ⊎ ((suc i ≡ length (x ∷ xs)) × (v ≡ true))
    go (inl d) = inl d
    go (inr d) = inr (ap (λ k. suc k) d.0, d.1)

table_push_out : (xs : List Bool) (v : Bool) (i : ℕ) → i < length xs + 1 → in_table (xs ++ v ∷ []) i ≡ false
    → ((i < length xs) × (in_table xs i ≡ false)) ⊎ ((i ≡ length xs) × (v ≡ false))
table_push_out [] v zero lt e = inr (refl, e)
table_push_out [] v (suc i) lt e = absurd (omega (arith, lt))
table_push_out (x ∷ xs) v zero lt e = inl (omega arith, e)
table_push_out (x ∷ xs) v (suc i) lt e = go (table_push_out xs v i (omega (arith, lt)) e)
  where
    go : ((i < length xs) × (in_table xs i ≡ false)) ⊎ ((i ≡ length xs) × (v ≡ false))
        → ((suc i < length (x ∷ xs)) × (in_table (x ∷ xs) (suc i) ≡ false)) ⊎ ((suc i ≡ length (x ∷ xs)) × (v ≡ false))
    go (inl d) = inl (omega (arith, d.0), d.1)
    go (inr d) = inr (ap (λ k. suc k) d.0, d.1)

not_false : (b : Bool) → not b ≡ false → b ≡ true
not_false true e = refl
not_false false e = absurd (true≢false e)

-- accesses that were added are there
there : (o : Option RootedList) (old new : RootedList) → Appends o old true new → (xs : RootedList) × (o ≡ Some xs)
there None old new h = absurd h
there (Some xs) old new h = (xs, refl)

not_true : (b : Bool) → not b ≡ true → b ≡ false
not_true true e = absurd (true≢false (sym e))
not_true false e = refl

module _ (p : NumberedProgram) (gated : ℕ → Bool) (sums : ℕ → Option RootedList) where
  -- a block that isn't quiet where no register is set
  never_quiet : (s : List Bool) (n b : ℕ) → s ≡ replicate n false → (old new : RootedList) (quiet : Bool)
      → Appends (block_accesses false p gated sums (λ r. in_table s r) b) old quiet new → quiet ≡ false →
      (is_set : ℕ → Bool) → block_accesses false p gated sums is_set b ≡ None
  never_quiet s n b e old new quiet h q is_set =
      loud_anywhere false p gated sums (λ r. in_table s r) is_set b (λ r. ap (λ (l : List Bool). in_table l r) e ∙ nothing_in n r)
      (not_there (block_accesses false p gated sums (λ r. in_table s r) b) old new (subst (λ (z : Bool). Appends (block_accesses false p gated sums (λ r. in_table s r) b) old z new) q h))

  -- one block more
  pub loud_more : (loud new : List Bool) (quiet : Bool) (b : ℕ) → new ≡ loud ++ not quiet ∷ [] → length loud ≡ b
      → ((k : ℕ) → in_table loud k ≡ true → (is_set : ℕ → Bool) → block_accesses false p gated sums is_set k ≡ None) →
      (s : List Bool) (n : ℕ) → s ≡ replicate n false → (before after : RootedList) → Appends (block_accesses false p gated sums (λ r. in_table s r) b) before quiet after →
      (k : ℕ) → in_table new k ≡ true → (is_set : ℕ → Bool) → block_accesses false p gated sums is_set k ≡ None
  loud_more loud new quiet b e size inv s n t before after h k m is_set = go (table_push loud (not quiet) k (ap (λ (l : List Bool). in_table l k) (sym e) ∙ m))
    where
      go : (in_table loud k ≡ true) ⊎ ((k ≡ length loud) × (not quiet ≡ true)) → block_accesses false p gated sums is_set k ≡ None
      go (inl d) = inv k d is_set
      go (inr d) = subst (λ (z : ℕ). block_accesses false p gated sums is_set z ≡ None) (sym (d.0 ∙ size)) (never_quiet s n b t before after quiet h (not_true quiet d.1) is_set)

  -- a block that is quiet where no register is set
  quiet_there : (s : List Bool) (n b : ℕ) → s ≡ replicate n false → (old new : RootedList) (quiet : Bool)
      → Appends (block_accesses false p gated sums (λ r. in_table s r) b) old quiet new → quiet ≡ true →
      (xs : RootedList) × (block_accesses false p gated sums (λ r. false) b ≡ Some xs)
  quiet_there s n b e old new quiet h q =
      let unset : (λ r. in_table s r) ≡ (λ r. false) = fun_ext (λ r. ap (λ (l : List Bool). in_table l r) e ∙ nothing_in n r) in
      subst (λ (S : ℕ → Bool). (xs : RootedList) × (block_accesses false p gated sums S b ≡ Some xs)) unset
      (there (block_accesses false p gated sums (λ r. in_table s r) b) old new (subst (λ (z : Bool). Appends (block_accesses false p gated sums (λ r. in_table s r) b) old z new) q h))

  pub quiet_more : (loud new : List Bool) (quiet : Bool) (b : ℕ) → new ≡ loud ++ not quiet ∷ [] → length loud ≡ b
      → ((k : ℕ) → k < b → in_table loud k ≡ false → (xs : RootedList) × (block_accesses false p gated sums (λ r. false) k ≡ Some xs)) →
      (s : List Bool) (n : ℕ) → s ≡ replicate n false → (before after : RootedList) → Appends (block_accesses false p gated sums (λ r. in_table s r) b) before quiet after →
      (k : ℕ) → k < b + 1 → in_table new k ≡ false → (xs : RootedList) × (block_accesses false p gated sums (λ r. false) k ≡ Some xs)
  quiet_more loud new quiet b e size inv s n t before after h k lt m = go (table_push_out loud (not quiet) k (omega (arith, lt, size)) (ap (λ (l : List Bool). in_table l k) (sym e) ∙ m))
    where
      go : ((k < length loud) × (in_table loud k ≡ false)) ⊎ ((k ≡ length loud) × (not quiet ≡ false))
          → (xs : RootedList) × (block_accesses false p gated sums (λ r. false) k ≡ Some xs)
      go (inl d) = inv k (omega (arith, d.0, size)) d.1
      go (inr d) = subst (λ (z : ℕ). (xs : RootedList) × (block_accesses false p gated sums (λ r. false) z ≡ Some xs)) (sym (d.0 ∙ size))
          (quiet_there s n b t before after quiet h (not_false quiet d.1))

-- what is gathered by a table of the registers is what the set accesses
pub by_table : (m : Bool) (p : NumberedProgram) (gated : ℕ → Bool) (sums : ℕ → Option RootedList) (blocks : List ℕ) (table s : List Bool)
    → ((r : ℕ) → in_table table r ≡ sets p blocks r) → s ≡ table →
    (o : Option RootedList) → gathered (block_accesses m p gated sums (λ r. in_table s r)) blocks ≡ o → set_accesses m p gated sums blocks ≡ o
by_table m p gated sums blocks table s h q o g =
    let e : (λ r. in_table s r) ≡ sets p blocks = fun_ext (λ r. ap (λ (l : List Bool). in_table l r) q ∙ h r) in
    subst (λ (S : ℕ → Bool). gathered (block_accesses m p gated sums S) blocks ≡ o) e g
