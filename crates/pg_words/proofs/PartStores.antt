-- The two steps of a part store: what the first found is what the second changes.
use Rattle.std.proofs.Common.{◌≡◌, ℕ, ◌+◌, ◌-◌, ◌%◌, ◌^◌, ◌<◌, sym, ◌∙◌, subst}
use mathlib.Core.Option.{none}
use Rattle.atomic_table.specs.Table.{State, Me, Allows, step}
use Rattle.pg_ir.specs.pg_num.Places.{ByteRange}
use Rattle.pg_run_memory.specs.declared.delta.Delta.{Delta}
use Rattle.pg_run_memory.specs.declared.delta.Delta.TheVariants.{Add, Sub}
use Rattle.pg_run_memory.specs.Bytes.{byte_of, number_of, with_bytes}
use Rattle.pg_run_memory.specs.Words.{changed_by}
use Rattle.pg_words.specs.Calls.{AllowsChange, Changes, NoSlot, Telling}

pub changes_from : (r : ByteRange) (from found to : ℕ) (d : Delta) → from ≡ found
    → ((word : ℕ) → word < 2 ^ 64 → number_of (byte_of word) (r.start % 8) r.bytes ≡ from
    → (k : ℕ) → k < 8 → byte_of (changed_by d word) k ≡ with_bytes (byte_of word) (record { start = r.start % 8; bytes = r.bytes }) to k)
    → Changes r found to d
changes_from r from found to d q h = record { bytes = λ word small e. h word small (e ∙ sym q) }

module _ {V : Type 0} (holds : State NoSlot V → Type 0) (slots id was word place : ℕ) (me : Me NoSlot V) (then : Telling V) (n : ℕ) (no_slots : slots ≡ 0) (same : id ≡ was) (there : word ≡ place) where
  pub adds : AllowsChange holds was me place (Add n) then → Allows holds slots id me word (λ k. (k + n) % 2 ^ 64) (then (step slots word n 0 none) me)
  adds h = rw (no_slots, same, there) h

  pub takes : AllowsChange holds was me place (Sub n) then → Allows holds slots id me word (λ k. (k + (2 ^ 64 - n)) % 2 ^ 64) (then (step slots word n 0 none) me)
  takes h = rw (no_slots, same, there) h

  pub tells : (k : ℕ) (after : Me NoSlot V) → then (step slots word n 0 none) me k after → then (step 0 place n 0 none) me k after
  tells k after h = subst (λ w. then (step 0 w n 0 none) me k after) there (subst (λ s. then (step s word n 0 none) me k after) no_slots h)
