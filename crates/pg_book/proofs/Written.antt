-- What is written is read again: the text of a value, and the value's entries.
use Rattle.std.proofs.Common.{◌≡◌, ℕ, suc, ◌<◌, ◌≤◌, ◌^◌, ℤ, pos, negsuc, List, [], ◌∷◌, ◌++◌, length, Bool, true, false, Option, Some, option_and_then, IsUtf8, codes, refl, sym, ap, ◌∙◌, arith, append-nil}
use Rattle.std.specs.List.{All, AllByRecursion}
use Rattle.std.proofs.lemmas.Bool.{le-leb, lt-ltb}
use Rattle.std.proofs.lemmas.Fmt.{IsAscii-decimal, IsAscii-signed}
use Rattle.std.proofs.lemmas.List.Elements.{recursion_from_All}
use Rattle.std.proofs.lemmas.Str.{IsUtf8-append, IsUtf8-from_ascii, IsUtf8-nil}
use Rattle.json.specs.Token.{Token}
use Rattle.json.specs.Lex.{tokens}
use Rattle.json.specs.Json as json
use Rattle.json.specs.Print.{print, quoted}
use Rattle.json.specs.Tree as tree
use Rattle.json.specs.Tree.{HasNumbers, ItemsHaveNumbers, json_tokens}
use Rattle.json.proofs.Printed.Trees.{ArePrintable-json_tokens, value-json_tokens}
use Rattle.json.proofs.Printed.Decimals.{IsNumber-decimal, IsNumber-signed_decimal}
use Rattle.json.proofs.Printed.Utf8.{are_ascii, IsUtf8-are_ascii, IsUtf8-quoted}
use Rattle.serde_json.specs.Data.{Data, string, array, Items, no_items, item}
use Rattle.serde_json.specs.Events.{items_len}
use Rattle.serde_json.specs.Read.{of_json, of_items, read, max_depth}
use Rattle.serde_json.specs.Written.{outline, items_outline, comma_if, compact_text, items_text}
use Rattle.serde_json.proofs.Numbers.{number_of-decimal, number_of-negative}
use Rattle.serde_json.proofs.OnLiterals.{serde_json_on_literals}
use Rattle.serde_json.proofs.Texts.{print-outline}
use Rattle.pg_num.specs.declared.limits.TheConstants.{NUMBERS_LIMIT, RECORDING_STEP_LIMIT, THREAD_LIMIT}
use Rattle.pg_ir.specs.declared.ids.InstrId.{InstrId}
use Rattle.pg_run_trace.specs.declared.turn.Turn.{Turn}
use Rattle.pg_run_trace.specs.declared.turn.TurnKind.{TurnKind}
use Rattle.pg_run_trace.specs.declared.turn.TurnKind.TheVariants as kinds
use Rattle.pg_run_trace.specs.KindNames.{kind_named, kind_text}
use Rattle.pg_book.specs.Parts.{BookEntryParts}
use Rattle.pg_book.specs.Texts.{natural, integer, each, id_value, turn_value, entry_value, book_value, book_text}
use Rattle.pg_book.specs.Values.{all_as, as_entry, as_gated, as_id, as_signed, as_turn, ascend_from, few_as}
use Rattle.pg_book.specs.Books.{AreWithin, IsBook, IsSigned, IsTurnWithin, IsWithin}
use Rattle.pg_book.proofs.Lines.{tokens-line}

each_of : {A : Type 0} (P Q : A → Type 0) → ((x : A) → P x → Q x) → (xs : List A) → AllByRecursion P xs → AllByRecursion Q xs
each_of P Q f [] h = tt
each_of P Q f (x ∷ xs) h = (f x h.0, each_of P Q f xs h.1)

-- what follows of each
all_are : {A : Type 0} (P Q : A → Type 0) → ((x : A) → P x → Q x) → (xs : List A) → All P xs → AllByRecursion Q xs
all_are P Q f xs h = each_of P Q f xs (recursion_from_All P xs h)

-- ---- texts

-- the text of a value is read as the value, nests no deeper than k, and is UTF-8
record Reads (k : ℕ) (d : Data) : Type 0 where
  numbers : HasNumbers (outline d)
  back : of_json (outline d) ≡ Some d
  shallow : tree.depth (outline d) ≤ k
  utf8 : IsUtf8 (compact_text d)

record ReadItems (k : ℕ) (ds : Items) : Type 0 where
  numbers : ItemsHaveNumbers (items_outline ds)
  back : of_items (items_outline ds) ≡ Some ds
  shallow : tree.items_depth (items_outline ds) ≤ k
  utf8 : (later : Bool) → IsUtf8 (items_text later ds)

comma_utf8 : (later : Bool) → IsUtf8 (comma_if later)
comma_utf8 true = IsUtf8-are_ascii _ refl
comma_utf8 false = IsUtf8-nil

none_read : (k : ℕ) → ReadItems k no_items
none_read k = record { numbers = tt; back = refl; shallow = omega arith; utf8 = λ later. IsUtf8-are_ascii _ refl }

one_read : (k : ℕ) (d : Data) (ds : Items) → Reads k d → ReadItems k ds → ReadItems k (item d ds)
one_read k d ds one more = record {
  numbers = (one.numbers, more.numbers);
  back = rw (one.back, more.back) refl;
  shallow = let a = one.shallow in let b = more.shallow in omega (arith, a, b);
  utf8 = λ later. IsUtf8-append _ _ (comma_utf8 later) (IsUtf8-append _ _ one.utf8 (more.utf8 true));
}

each_read : {A : Type 0} (k : ℕ) (f : A → Data) (xs : List A) → AllByRecursion (λ x. Reads k (f x)) xs → ReadItems k (each f xs)
each_read k f [] h = none_read k
each_read k f (x ∷ xs) h = one_read k (f x) (each f xs) h.0 (each_read k f xs h.1)

array_read : (k : ℕ) (ds : Items) → ReadItems k ds → Reads (suc k) (array ds)
array_read k ds h = record {
  numbers = h.numbers;
  back = rw h.back refl;
  shallow = let a = h.shallow in omega (arith, a);
  utf8 = IsUtf8-append (91 ∷ []) _ (IsUtf8-are_ascii _ refl) (h.utf8 false);
}

deeper : (k l : ℕ) (d : Data) → k ≤ l → Reads k d → Reads l d
deeper k l d e h = record { numbers = h.numbers; back = h.back; shallow = let a = h.shallow in omega (arith, a, e); utf8 = h.utf8 }

natural_read : (n : ℕ) → n < 2 ^ 64 → Reads 0 (natural n)
natural_read n h = record { numbers = IsNumber-decimal n h; back = rw (number_of-decimal n h) refl; shallow = omega arith; utf8 = IsUtf8-from_ascii _ (IsAscii-decimal n h) }

integer_read : (z : ℤ) → IsSigned z → Reads 0 (integer z)
integer_read (pos n) h = natural_read n (omega (arith, h))
integer_read (negsuc n) h = record {
  numbers = IsNumber-signed_decimal (negsuc n) (omega (arith, h));
  back = rw (number_of-negative n (omega (arith, h))) refl;
  shallow = omega arith;
  utf8 = IsUtf8-from_ascii _ (IsAscii-signed (negsuc n) (omega (arith, h)));
}

string_read : (s : List ℕ) → IsUtf8 s → Reads 0 (string s)
string_read s h = record { numbers = tt; back = refl; shallow = omega arith; utf8 = IsUtf8-quoted s h }

kind_ascii : (k : TurnKind) → are_ascii (kind_text k) ≡ true
kind_ascii kinds.Start = refl
kind_ascii k = refl

turn_read : (t : Turn) → IsTurnWithin t → Reads 1 (turn_value t)
turn_read t h =
    let a : t.thread.0 < 64 = h.thread in
    let b = h.instr in
    let kind = string_read (kind_text t.kind) (IsUtf8-are_ascii _ (kind_ascii t.kind)) in
    array_read 0 _ (one_read 0 _ _ (natural_read t.thread.0 (omega (arith, a))) (one_read 0 _ _ (natural_read t.instr.0 (omega (arith, b)))
    (one_read 0 _ _ kind (one_read 0 _ _ (natural_read t.object h.object) (none_read 0)))))

id_read : (id : InstrId) → id.0 < 2 ^ 32 → Reads 0 (id_value id)
id_read id h = natural_read id.0 (omega (arith, h))

-- a member's text: its key, and its value
member_utf8 : (key : List ℕ) (text rest : List ℕ) → are_ascii (quoted key) ≡ true → IsUtf8 text → IsUtf8 rest → IsUtf8 (quoted key ++ 58 ∷ (text ++ rest))
member_utf8 key text rest a t r = IsUtf8-append (quoted key) _ (IsUtf8-are_ascii (quoted key) a) (IsUtf8-append (58 ∷ []) _ (IsUtf8-are_ascii (58 ∷ []) refl) (IsUtf8-append text rest t r))

entry_read : (e : BookEntryParts) → IsWithin e → Reads 3 (entry_value e)
unfolding serde_json_on_literals
entry_read e h =
    let g = deeper 1 2 _ (omega arith) (array_read 0 _ (each_read 0 id_value e.gated (all_are _ _ id_read e.gated h.ids))) in
    let i = deeper 1 2 _ (omega arith) (array_read 0 _ (each_read 0 integer e.input (all_are _ _ integer_read e.input h.numbers))) in
    let t = array_read 1 _ (each_read 1 turn_value e.turns (all_are _ _ turn_read e.turns h.each_turn)) in
    let comma = IsUtf8-are_ascii (44 ∷ []) refl in
    record {
      numbers = (g.numbers, (i.numbers, (t.numbers, tt)));
      back = rw (g.back, i.back, t.back) refl;
      shallow = let a = g.shallow in let b = i.shallow in let c = t.shallow in omega (arith, a, b, c);
      utf8 = IsUtf8-append (123 ∷ []) _ (IsUtf8-are_ascii _ refl) (member_utf8 (codes "gated") _ _ refl g.utf8 (IsUtf8-append _ _ comma (member_utf8 (codes "input") _ _ refl i.utf8
          (IsUtf8-append _ _ comma (member_utf8 (codes "turns") _ _ refl t.utf8 (IsUtf8-are_ascii (125 ∷ []) refl))))));
    }

book_read : (es : List BookEntryParts) → All IsWithin es → Reads 5 (book_value es)
unfolding serde_json_on_literals
book_read es h =
    let l = array_read 3 _ (each_read 3 entry_value es (all_are _ _ entry_read es h)) in
    let one = natural_read 1 (omega arith) in
    let comma = IsUtf8-are_ascii (44 ∷ []) refl in
    record {
      numbers = (l.numbers, (one.numbers, tt));
      back = rw (l.back, one.back) refl;
      shallow = let a = l.shallow in omega (arith, a);
      utf8 = IsUtf8-append (123 ∷ []) _ (IsUtf8-are_ascii _ refl) (member_utf8 (codes "entries") _ _ refl l.utf8 (IsUtf8-append _ _ comma (member_utf8 (codes "peregrine") _ _ refl one.utf8 (IsUtf8-are_ascii (125 ∷ []) refl))));
    }

abbrev whole : Option (json.Json × List Token) → Option Data
whole o = option_and_then of_json (option_and_then (λ p. json.if_last p.0 p.1) o)

line_read : (d : Data) (k : ℕ) → k ≤ max_depth → Reads k d → read (compact_text d ++ 10 ∷ []) ≡ Some d
line_read d k few h =
    let ts = json_tokens (outline d) in
    let text : compact_text d ++ 10 ∷ [] ≡ print ts ++ 10 ∷ [] = ap (λ s. s ++ 10 ∷ []) (sym (print-outline d)) in
    let same : tokens (compact_text d ++ 10 ∷ []) ≡ ts = ap tokens text ∙ tokens-line ts (ArePrintable-json_tokens (outline d) h.numbers) in
    let deep : tree.depth (outline d) ≤ max_depth = let a = h.shallow in omega (arith, a, few) in
    ap whole (ap (json.value max_depth) (same ∙ sym (append-nil ts)) ∙ value-json_tokens (outline d) max_depth [] deep) ∙ h.back

-- ---- values

each_back : {A : Type 0} (f : A → Data) (g : Data → Option A) (xs : List A) → AllByRecursion (λ x. g (f x) ≡ Some x) xs → all_as g (each f xs) ≡ Some xs
each_back f g [] h = refl
each_back f g (x ∷ xs) h = let one = h.0 in let more = each_back f g xs h.1 in rw (one, more) refl

length-each : {A : Type 0} (f : A → Data) (xs : List A) → items_len (each f xs) ≡ length xs
length-each f [] = refl
length-each f (x ∷ xs) = ap suc (length-each f xs)

few_back : {A : Type 0} (f : A → Data) (g : Data → Option A) (n : ℕ) (xs : List A) → length xs ≤ n → AllByRecursion (λ x. g (f x) ≡ Some x) xs → few_as g n (each f xs) ≡ Some xs
few_back f g n xs few h = let all = each_back f g xs h in rw (length-each f xs, le-leb (length xs) n few, all) refl

id_back : (id : InstrId) → id.0 < 2 ^ 32 → as_id (id_value id) ≡ Some id
id_back id h = rw (lt-ltb id.0 (2 ^ 32) h) refl

signed_back : (z : ℤ) → IsSigned z → as_signed (integer z) ≡ Some z
signed_back (pos n) h = rw (lt-ltb n (2 ^ 63) h) refl
signed_back (negsuc n) h = refl

module _ (kind_back : (k : TurnKind) → kind_named (kind_text k) ≡ Some k) where
  turn_back : (t : Turn) → IsTurnWithin t → as_turn (turn_value t) ≡ Some t
  turn_back t h = rw (lt-ltb t.thread.0 THREAD_LIMIT h.thread, lt-ltb t.instr.0 (2 ^ 32) h.instr, kind_back t.kind) refl

  gated_back : (ids : List InstrId) → ascend_from 0 ids ≡ true → All (λ (id : InstrId). id.0 < 2 ^ 32) ids → as_gated (each id_value ids) ≡ Some ids
  gated_back ids a h = let all = each_back id_value as_id ids (all_are _ _ id_back ids h) in rw (all, a) refl

  entry_back : (e : BookEntryParts) → IsWithin e → as_entry (entry_value e) ≡ Some e
  unfolding serde_json_on_literals
  entry_back e h =
      let gated = gated_back e.gated h.gated h.ids in
      let input = few_back integer as_signed NUMBERS_LIMIT e.input h.input (all_are _ _ signed_back e.input h.numbers) in
      let turns = few_back turn_value as_turn RECORDING_STEP_LIMIT e.turns h.turns (all_are _ _ turn_back e.turns h.each_turn) in
      rw (gated, input, turns) refl

  pub is_book : (es : List BookEntryParts) → AreWithin es → IsBook (book_text es) es
  unfolding serde_json_on_literals
  is_book es h =
      let reads = book_read es h.1 in
      let count = length-each entry_value es in
      let few = h.0 in
      record {
        value = book_value es;
        json = (IsUtf8-append _ _ reads.utf8 (IsUtf8-are_ascii (10 ∷ []) refl), line_read (book_value es) 5 (omega arith) reads);
        items = each entry_value es;
        outer = refl;
        so = (omega (arith, count, few), each_back entry_value as_entry es (all_are _ _ entry_back es h.1));
      }
