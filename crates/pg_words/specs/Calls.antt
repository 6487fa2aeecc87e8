-- What a call on the shared words asks of their rule: that its atomic step keeps the rule, whatever the words are when it comes.
use Rattle.std.specs.Prelude.{◌≡◌, ℕ, ◌+◌, ◌/◌, ◌%◌, ◌^◌, ◌<◌}
use mathlib.Core.Option.{none}
use Rattle.atomic_table.specs.Table.{State, Me, Step, step, Allows}
use Rattle.pg_ir.specs.pg_num.Places.{ByteRange}
use Rattle.pg_run_memory.specs.declared.delta.Delta.{Delta}
use Rattle.pg_run_memory.specs.declared.delta.Delta.TheVariants.{Add, Sub}
use Rattle.pg_run_memory.specs.Bytes.{byte_of, number_of, with_bytes}
use Rattle.pg_run_memory.specs.Words.{changed_by, part_of}
use Rattle.pg_words.specs.declared.layout.TheConstants.{GRANULE_WORDS, THREAD_WORDS}

abbrev pub NoSlot : Type 0
NoSlot = Unit {0}

-- the word of the granule in which a range lies, and the word of a thread
abbrev pub granule_word : ByteRange → ℕ
granule_word r = GRANULE_WORDS + r.start / 8

abbrev pub thread_word : ℕ → ℕ
thread_word t = THREAD_WORDS + t

-- the number in a range of a granule whose word is this
abbrev pub number_at : ByteRange → ℕ → ℕ
number_at r word = part_of word (r.start % 8) r.bytes

-- the change gives each granule whose range holds one number the other there, and leaves its other bytes
pub record Changes (r : ByteRange) (from to : ℕ) (change : Delta) : Type 0 where
  pub bytes : (word : ℕ) → word < 2 ^ 64 → number_of (byte_of word) (r.start % 8) r.bytes ≡ from
      → (k : ℕ) → k < 8 → byte_of (changed_by change word) k ≡ with_bytes (byte_of word) (record { start = r.start % 8; bytes = r.bytes }) to k

-- the number that is added or taken
abbrev pub amount : Delta → ℕ
amount (Add n) = n
amount (Sub n) = n

-- what a step tells its caller
abbrev pub Telling : Type 0 → Type 1
Telling V = Step NoSlot → Me NoSlot V → ℕ → Me NoSlot V → Type 0

module _ {V : Type 0} where
  -- a load of a word
  abbrev pub AllowsLoad : (State NoSlot V → Type 0) → ℕ → Me NoSlot V → ℕ → Telling V → Type 0
  AllowsLoad holds id me word then = Allows holds 0 id me word (λ n. n) (then (step 0 word 0 0 none) me)

  -- a store of a whole word
  abbrev pub AllowsStore : (State NoSlot V → Type 0) → ℕ → Me NoSlot V → ℕ → ℕ → Telling V → Type 0
  AllowsStore holds id me word new then = Allows holds 0 id me word (λ _. new) (λ _. then (step 0 word new 0 none) me new)

  -- a sum or a difference on a word
  abbrev pub AllowsChange : (State NoSlot V → Type 0) → ℕ → Me NoSlot V → ℕ → Delta → Telling V → Type 0
  AllowsChange holds id me word change then = Allows holds 0 id me word (changed_by change) (then (step 0 word (amount change) 0 none) me)

  -- the second step of a part store, behind a load that found this number in the range
  abbrev pub AllowsPart : (State NoSlot V → Type 0) → ℕ → Me NoSlot V → ByteRange → ℕ → Telling V → Telling V → Type 0
  AllowsPart holds id me r new find then = (found : ℕ) (between : Me NoSlot V) (change : Delta)
      → find (step 0 (granule_word r) 0 0 none) me found between → Changes r (number_at r found) new change → AllowsChange holds id between (granule_word r) change then

  -- what the two steps of a part store tell
  pub record TellsPart (r : ByteRange) (new : ℕ) (me after : Me NoSlot V) (find then : Telling V) : Type 0 where
    pub found : ℕ
    pub between : Me NoSlot V
    pub finds : find (step 0 (granule_word r) 0 0 none) me found between
    pub change : Delta
    pub changes : Changes r (number_at r found) new change
    pub before : ℕ
    pub tells : then (step 0 (granule_word r) (amount change) 0 none) between before after
