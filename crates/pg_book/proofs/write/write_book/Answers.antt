use Rattle.std.proofs.Common.{◌≡◌, ◌++◌, ◌∷◌, [], List, append_assoc, codes, map, ap, sym, subst, ◌∙◌}
use Rattle.std.specs.List.{All}
use Rattle.std.specs.Fmt.{digits}
use Rattle.json.proofs.OnLiterals.{json_on_literals}
use Rattle.serde_json.specs.Data.{array}
use Rattle.serde_json.specs.Written.{compact_text}
use Rattle.pg_book.specs.declared.book.BookEntry.{BookEntry}
use Rattle.pg_book.specs.Books.{HasRanges, IsBook}
use Rattle.pg_book.specs.Parts.{BookEntryParts, parts_of}
use Rattle.pg_book.specs.Texts.{book_text, each, entry_value}
use Rattle.pg_book.proofs.RangedEntries.{are_within}
use Rattle.pg_book.proofs.write.write_book.Goals as goal

-- the text of a book round that of its list of entries
in_parts : (es : List BookEntryParts) → book_text es ≡ codes "{\"entries\":" ++ (compact_text (array (each entry_value es)) ++ codes ",\"peregrine\":1}\n")
unfolding digits json_on_literals
in_parts es = ap (λ rest. codes "{\"entries\":" ++ rest) (append_assoc (compact_text (array (each entry_value es))) (codes ",\"peregrine\":1}") (10 ∷ []))

pub returns-clause-text : goal.returns-clause-text
returns-clause-text c =
    let es = map parts_of c.args.book.now.entries.items in
    let head = codes "{\"entries\":" in
    let list = compact_text (array (each entry_value es)) in
    let tail = codes ",\"peregrine\":1}\n" in
    let listed = c.in_ok-add_entries.ensures ∙ ap (λ xs. c.extend_from_slice.new.self.items ++ compact_text (array (each entry_value (map parts_of xs)))) c.as_slice-2.ensures.value in
    let headed = c.in_ok-extend_from_slice.ensures.items ∙ ap (λ t. t ++ head) c.new-text.ensures.items in
    c.in_ok-extend_from_slice-2.ensures.items ∙ ap (λ t. t ++ tail) (listed ∙ ap (λ t. t ++ list) headed) ∙ append_assoc head list tail ∙ sym (in_parts es)

pub returns-clause-again : goal.returns-clause-again
returns-clause-again c = λ limited.
    let es = map parts_of c.args.book.now.entries.items in
    let ranged = subst (All (λ (e : BookEntry). HasRanges (parts_of e))) c.as_slice.ensures.value c.entries_are_ranged.ensures in
    subst (λ text. IsBook text es) (sym (returns-clause-text c)) (c.a_written_book_is_read_again.ensures es (are_within c.args.book.now.entries.items ranged limited))
