-- Faults of a shelf, and the counts of them.
use Rattle.std.proofs.Common.{◌≡◌, ℕ, Bool, true, false, refl, List, subst, sym, Err, IsErrOf, Some, ◌⊎◌, inl, inr}
use Rattle.std.specs.Str.{bytes_eq}
use Rattle.std.proofs.lemmas.Slice.Eq.{bytes_eq-Decides}
use Rattle.pg_io.specs.declared.shelf.FetchFault.{FetchFault}
use Rattle.pg_io.specs.declared.shelf.FetchFault.TheVariants as fetches
use Rattle.pg_commands.specs.declared.programs.NoProgram.{NoProgram}
use Rattle.pg_commands.specs.declared.programs.NoProgram.TheVariants.{ShelfFault}
use Rattle.pg_commands.specs.Programs.{unfetched}

-- where the count of one name stayed, and those of all others, each stayed
pub all_stay : (old new : List ℕ → ℕ) (file : List ℕ) → ((m : List ℕ) → (m ≡ file → ⊥) → new m ≡ old m) → new file ≡ old file
    → (name : List ℕ) → new name ≡ old name
all_stay old new file others own name = by (bytes_eq name file) refl
  where
    differ : bytes_eq file file ≡ false → ⊥
    differ e = let t = (bytes_eq-Decides file file).1 refl in cc

    by : (b : Bool) → bytes_eq name file ≡ b → new name ≡ old name
    by true e = subst (λ n. new n ≡ old n) (sym ((bytes_eq-Decides name file).0 e)) own
    by false e = others name (λ same. differ (subst (λ n. bytes_eq n file ≡ false) same e))

-- ---- the fault of a fetch

-- an error that is this one
pub is_err : {T E : Type 0} (e f : E) → e ≡ f → IsErrOf {T = T} (Err e) f
is_err e f h = cc

-- a text that is too long is no fault of the shelf
pub own_stays : {T P : Type 0} (fault : FetchFault) → fault ≡ fetches.TooLong → IsErrOf {T = T} (Err fault) fetches.Failed ⊎ P → P
own_stays fault e (inl x) = absurd cc
own_stays fault e (inr p) = p

-- the fault is told, or the count stayed
told_so : {T S P : Type 0} (fault : FetchFault) (cause : NoProgram) → Some cause ≡ unfetched fault → IsErrOf {T = T} (Err fault) fetches.Failed ⊎ P
    → IsErrOf {T = S} (Err cause) ShelfFault ⊎ P
told_so fetches.Failed cause e h = inl cc
told_so fetches.TooLong cause e h = absurd cc
told_so fetches.OutOfMemory cause e (inl x) = absurd cc
told_so fetches.OutOfMemory cause e (inr p) = inr p

pub counts_told : {T S : Type 0} (fault : FetchFault) (cause : NoProgram) (old new : List ℕ → ℕ) (file : List ℕ) → Some cause ≡ unfetched fault
    → ((m : List ℕ) → (m ≡ file → ⊥) → new m ≡ old m) → IsErrOf {T = T} (Err fault) fetches.Failed ⊎ (new file ≡ old file)
    → (name : List ℕ) → IsErrOf {T = S} (Err cause) ShelfFault ⊎ (new name ≡ old name)
counts_told {T} {S} fault cause old new file e others own name = go (told_so fault cause e own)
  where
    go : IsErrOf {T = S} (Err cause) ShelfFault ⊎ (new file ≡ old file) → IsErrOf {T = S} (Err cause) ShelfFault ⊎ (new name ≡ old name)
    go (inl x) = inl x
    go (inr p) = inr (all_stay old new file others p name)
