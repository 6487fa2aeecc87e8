-- What holds of each thing of a list, one after another; and entries of which the limits and the ranges hold.
use Rattle.std.proofs.Common.{◌≡◌, ◌+◌, ◌<◌, ◌≤◌, ◌^◌, ℕ, List, length, map, take, take_all, get_or, sym, subst}
use Rattle.std.specs.List.{All}
use Rattle.std.proofs.lemmas.List.{take_more}
use Rattle.std.proofs.lemmas.List.Elements.{All-map, All-push}
use Rattle.pg_num.specs.declared.limits.TheConstants.{THREAD_LIMIT}
use Rattle.pg_run_trace.specs.declared.turn.Turn.{Turn}
use Rattle.pg_book.specs.declared.book.BookEntry.{BookEntry}
use Rattle.pg_book.specs.Parts.{BookEntryParts, parts_of}
use Rattle.pg_book.specs.Books.{AreLimited, AreWithin, HasRanges, IsLimited, IsTurnInRange, IsTurnWithin, IsWithin}

pub one_more : {A : Type 0} (P : A → Type 0) (xs : List A) (i : ℕ) (d x : A) → i < length xs → x ≡ get_or xs i d → All P (take i xs) → P x → All P (take (i + 1) xs)
one_more P xs i d x l e h p = subst (All P) (sym (take_more xs i d l)) (All-push P (take i xs) (get_or xs i d) h (subst P e p))

pub all : {A : Type 0} (P : A → Type 0) (xs : List A) (i : ℕ) → length xs ≤ i → All P (take i xs) → All P xs
all P xs i l h = subst (All P) (take_all i xs l) h

both : {A : Type 0} (P Q R : A → Type 0) → ((x : A) → P x → Q x → R x) → (xs : List A) → All P xs → All Q xs → All R xs
both P Q R f xs p q = λ k d l. f (get_or xs k d) (p k d l) (q k d l)

turn_within : (t : Turn) → t.thread.0 < THREAD_LIMIT → IsTurnInRange t → IsTurnWithin t
turn_within t h r = record { thread = h; instr = r.instr; object = r.object }

entry_within : (e : BookEntryParts) → IsLimited e → HasRanges e → IsWithin e
entry_within e h r = record {
  input = h.input;
  numbers = r.numbers;
  turns = h.turns;
  each_turn = both (λ (t : Turn). t.thread.0 < THREAD_LIMIT) IsTurnInRange IsTurnWithin turn_within e.turns h.threads r.each_turn;
  gated = h.gated;
  ids = r.ids;
}

pub are_within : (es : List BookEntry) → All (λ (e : BookEntry). HasRanges (parts_of e)) es → AreLimited (map parts_of es) → AreWithin (map parts_of es)
are_within es r h = (h.0, both IsLimited HasRanges IsWithin entry_within (map parts_of es) h.1 (All-map HasRanges parts_of es r))
