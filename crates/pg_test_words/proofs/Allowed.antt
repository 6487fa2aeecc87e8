-- Each step is allowed by a rule that says nothing.
use Rattle.std.proofs.Common.{ℕ}
use Rattle.std.specs.Prelude.{⊤}
use Rattle.atomic_table.specs.Table.{State, Me, Allows, Joins, Splits, keeps}
use Rattle.pg_num.specs.Places.{ByteRange}
use Rattle.pg_words.specs.Calls.{AllowsPart, NoSlot}
use Rattle.pg_test_words.specs.Any.{Holds, Tells}

pub allows : (slots id : ℕ) (me : Me NoSlot NoSlot) (i : ℕ) (f : ℕ → ℕ) → Allows (Holds tt) slots id me i f (λ n w. ⊤)
allows slots id me i f = λ s h l at small. (me.0, keeps, tt, tt, tt)

pub part : (id : ℕ) (me : Me NoSlot NoSlot) (r : ByteRange) (n : ℕ) → AllowsPart (Holds tt) id me r n Tells Tells
part id me r n = λ found between change f c s h l at small. (between.0, keeps, tt, tt, tt)

pub splits : (id : ℕ) (v l r : NoSlot) → Splits {S = NoSlot} (Holds tt) id v l r
splits id v l r = λ s h at. tt

pub joins : (id other : ℕ) (v w both spent : NoSlot) → Joins {S = NoSlot} (Holds tt) id v other w both spent
joins id other v w both spent = λ s h at ne there. tt
