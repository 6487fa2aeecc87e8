-- Names that are read an escape at a time.
use Rattle.std.proofs.Common.{◌≡◌, ℕ, zero, suc, ◌+◌, ◌-◌, ◌<◌, ◌≤◌, List, [], ◌∷◌, ◌++◌, length, drop, refl, sym, ap, ◌∙◌, arith, append_assoc}
use Rattle.std.proofs.Common.{append-nil, length-drop, Bool, true, false, if◌then◌else◌}
use Rattle.pg_read_lex.specs.Names.{escape_in, unescaped_from, unescaped}
use Rattle.pg_read_lex.proofs.Tokenize.{drop-drop}

unescaped_from-skip : (n : ℕ) (bs : List ℕ) → n ≤ length bs → unescaped_from n bs ≡ unescaped_from 0 (drop n bs)
unfolding unescaped_from
unescaped_from-skip zero bs h = refl
unescaped_from-skip (suc n) [] h = absurd (omega (arith, h))
unescaped_from-skip (suc n) (b ∷ bs) h = unescaped_from-skip n bs (omega (arith, h))

one_escape : (bs : List ℕ) (byte size : ℕ) → 0 < length bs → byte ≡ (escape_in bs).byte → size ≡ (escape_in bs).size → 1 ≤ size → size ≤ length bs
    → unescaped bs ≡ byte ∷ unescaped (drop size bs)
unfolding unescaped_from
one_escape [] byte size h e f k l = absurd (omega (arith, h))
one_escape (b ∷ bs) byte zero h e f k l = absurd (omega (arith, k))
one_escape (b ∷ bs) byte (suc n) h e f k l =
    let s : (escape_in (b ∷ bs)).size - 1 ≡ n = omega (arith, f) in
    ap (λ m. (escape_in (b ∷ bs)).byte ∷ unescaped_from m bs) s ∙ ap (λ x. x ∷ unescaped_from n bs) (sym e) ∙ ap (λ x. byte ∷ x) (unescaped_from-skip n bs (omega (arith, l)))

pub reads_escape : (text found now : List ℕ) (at byte size : ℕ) (b : Bool) → at < length text → byte ≡ (escape_in (drop at text)).byte → size ≡ (escape_in (drop at text)).size
    → 1 ≤ size → at + size ≤ length text
    → now ≡ (if b then found ++ byte ∷ [] else found) → b ≡ true → found ++ unescaped (drop at text) ≡ unescaped text → now ++ unescaped (drop (at + size) text) ≡ unescaped text
reads_escape text found now at byte size false h e f k l p q s = absurd cc
reads_escape text found now at byte size true h e f k l p q s =
    let rest = drop at text in
    let r : unescaped rest ≡ byte ∷ unescaped (drop size rest) = one_escape rest byte size (omega (arith, h, length-drop at text)) e f k (omega (arith, l, length-drop at text)) in
    ap (λ x. x ++ unescaped (drop (at + size) text)) p ∙ append_assoc found (byte ∷ []) (unescaped (drop (at + size) text))
    ∙ ap (λ x. found ++ (byte ∷ unescaped x)) (sym (drop-drop at size text)) ∙ ap (λ x. found ++ x) (sym r) ∙ s

pub ends_escapes : (text found : List ℕ) (at : ℕ) → drop at text ≡ [] → found ++ unescaped (drop at text) ≡ unescaped text → found ≡ unescaped text
unfolding unescaped_from
ends_escapes text found at e s = sym (append-nil found) ∙ ap (λ x. found ++ unescaped x) (sym e) ∙ s
