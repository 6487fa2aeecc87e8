-- What each kind of step tells its seat: what it makes of the view, and what the word that was found has to do with the run.
use Rattle.std.specs.Prelude.{◌≡◌, ◌-◌, ◌≤◌, ◌⊎◌, ℕ, true}
use Rattle.atomic_table.specs.Table.{Me, Step}
use Rattle.pg_law_course.specs.pg_num.Places.{ByteRange}
use Rattle.pg_words.specs.Calls.{NoSlot, number_at, thread_word}
use Rattle.pg_words.specs.declared.layout.TheConstants.{GRANULE_WORDS}
use Rattle.pg_seats.specs.declared.run.View.{View}
use Rattle.pg_seats.specs.Views.{advanced, IsAhead, IsNow, laid, looked, may_load, may_put, may_read, may_store, number_there, pooled, seen_of, went_on, with_part, word_there, closed, swept, rested}

-- a seat as plain data
abbrev pub Place : Type 0
Place = Me NoSlot View

-- what a step does to which word
abbrev pub Doing : Type 0
Doing = Step NoSlot

-- a plain load
abbrev pub Loads : Doing → Place → ℕ → Place → Type 0
Loads st me n after = (after ≡ (went_on me.0, me.1)) × ((r : ByteRange) → may_load me.0 r ≡ true → number_at r n ≡ number_there me.0 r)

-- the load of a turn
abbrev pub Reads : Doing → Place → ℕ → Place → Type 0
Reads st me n after = (after ≡ me) × ((r : ByteRange) → may_read me.0 r ≡ true → number_at r n ≡ number_there me.0 r)

-- the load before a store of a part of a granule
abbrev pub Finds : Doing → Place → ℕ → Place → Type 0
Finds st me n after = (after ≡ me) × ((r : ByteRange) (m : ℕ) → (may_store me.0 r m ≡ true) ⊎ (may_put me.0 r m ≡ true) → number_at r n ≡ number_there me.0 r)

-- a plain store
abbrev pub Stores : Doing → Place → ℕ → Place → Type 0
Stores st me n after = after ≡ (went_on me.0, me.1)

-- a part of a turn
abbrev pub Puts : Doing → Place → ℕ → Place → Type 0
Puts st me n after = after ≡ (with_part me.0, me.1)

-- the read of a thread's word
abbrev pub Hears : Doing → Place → ℕ → Place → Type 0
Hears st me n after = (after ≡ me) × ((t : ℕ) → st.word ≡ thread_word t → n ≡ word_there me.0 t)

-- the read of the turn word
abbrev pub Looks : Doing → Place → ℕ → Place → Type 0
Looks st me n after = (after ≡ (looked me.0 n, me.1)) × (seen_of me.0 ≤ n) × IsAhead me.0 n

-- the end of a turn
abbrev pub Advances : Doing → Place → ℕ → Place → Type 0
Advances st me n after = (after ≡ (advanced me.0 n, me.1)) × IsNow me.0 n

-- a granule that the run begins with
abbrev pub Lays : Doing → Place → ℕ → Place → Type 0
Lays st me n after = after ≡ (laid me.0 (st.word - GRANULE_WORDS), me.1)

-- all of what the run begins with is there
abbrev pub Opens : Doing → Place → ℕ → Place → Type 0
Opens st me n after = after ≡ (pooled me.0, me.1)

-- the turn word is 0 again, and with it the run is over
abbrev pub Closes : Doing → Place → ℕ → Place → Type 0
Closes st me n after = after ≡ (closed me.0, me.1)

-- a word is 0 again
abbrev pub Wipes : Doing → Place → ℕ → Place → Type 0
Wipes st me n after = after ≡ (swept me.0 st.word, me.1)

-- all words are
abbrev pub Rests : Doing → Place → ℕ → Place → Type 0
Rests st me n after = after ≡ (rested me.0, me.1)
