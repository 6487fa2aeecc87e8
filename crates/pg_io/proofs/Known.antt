-- Known bytes over two calls, one after the other.
use Rattle.std.proofs.Common.{◌≡◌, ℕ, ◌+◌, ◌-◌, List, ◌++◌, length, take, drop, sym, ap, ◌∙◌, arith, append_assoc, take-add, take_all, length-drop}
use Rattle.std.specs.Prelude.{Option, Some, None}
use Rattle.std.specs.Io.KnownBytes.{Appends, Consumes}

pub appends-append : (a b c : Option (List ℕ)) (x y : List ℕ) → Appends a b x → Appends b c y → Appends a c (x ++ y)
appends-append None b c x y first second = tt
appends-append (Some xs) None c x y first second = absurd first
appends-append (Some xs) (Some ys) None x y first second = absurd second
appends-append (Some xs) (Some ys) (Some zs) x y first second =
    second ∙ (ap (λ l. l ++ y) first ∙ append_assoc xs x y)

-- the first i bytes of a text, and then the first n of the m that are left
pub take-more : (text : List ℕ) (i n m : ℕ) → m ≡ length text - i → take i text ++ take n (take m (drop i text)) ≡ take (i + n) text
take-more text i n m left =
    let all : take m (drop i text) ≡ drop i text = take_all m (drop i text) (omega (arith, length-drop i text)) in
    ap (λ l. take i text ++ take n l) all ∙ sym (take-add i n text)

pub consumes-append : (a b c : Option (List ℕ)) (x y : List ℕ) → Consumes a b x → Consumes b c y → Consumes a c (x ++ y)
consumes-append None b c x y first second = tt
consumes-append (Some xs) None c x y first second = absurd first
consumes-append (Some xs) (Some ys) None x y first second = absurd second
consumes-append (Some xs) (Some ys) (Some zs) x y first second =
    first ∙ (ap (λ l. x ++ l) second ∙ sym (append_assoc x y zs))
