-- Texts that are made a piece at a time.
use Rattle.std.proofs.Common.{◌≡◌, ℕ, zero, suc, ◌+◌, ◌-◌, ◌<◌, ◌≤◌, List, [], ◌∷◌, ◌++◌, length, take, drop, get_or, sym, ap, ◌∙◌, arith}
use Rattle.std.proofs.Common.{append_assoc, append-nil, flat_map, map, OnOk, Result, Ok, Err}
use Rattle.std.proofs.lemmas.List.{take_all}

pub four_written : (a b c d o0 o1 o2 o3 o4 : List ℕ) → o1 ≡ o0 ++ a → o2 ≡ o1 ++ b → o3 ≡ o2 ++ c → o4 ≡ o3 ++ d → o4 ≡ o0 ++ (a ++ (b ++ (c ++ d)))
four_written a b c d o0 o1 o2 o3 o4 e f g h =
    let p : o2 ≡ o0 ++ (a ++ b) = f ∙ ap (λ o. o ++ b) e ∙ append_assoc o0 a b in
    let q : o3 ≡ o0 ++ (a ++ (b ++ c)) = g ∙ ap (λ o. o ++ c) p ∙ append_assoc o0 (a ++ b) c ∙ ap (λ o. o0 ++ o) (append_assoc a b c) in
    h ∙ ap (λ o. o ++ d) q ∙ append_assoc o0 (a ++ (b ++ c)) d ∙ ap (λ o. o0 ++ o) (append_assoc a (b ++ c) d ∙ ap (λ o. a ++ o) (append_assoc b c d))

pub on_ok : {A E : Type 0} (r : Result A E) (P Q : Type 0) → (P → Q) → OnOk r P → OnOk r Q
on_ok (Ok a) P Q f h = f h
on_ok (Err e) P Q f h = h

pub two_written : (a b o0 o1 o2 : List ℕ) → o1 ≡ o0 ++ a → o2 ≡ o1 ++ b → o2 ≡ o0 ++ (a ++ b)
two_written a b o0 o1 o2 e f = f ∙ ap (λ o. o ++ b) e ∙ append_assoc o0 a b

mapped_more : {X Y : Type 0} (f : Y → List ℕ) (g : X → Y) (xs : List X) (i : ℕ) (x : X) → i < length xs → x ≡ get_or xs i x
    → flat_map f (map g (take (i + 1) xs)) ≡ flat_map f (map g (take i xs)) ++ f (g x)
mapped_more f g [] i x h e = absurd (omega (arith, h))
mapped_more f g (y ∷ ys) zero x h e = ap (λ z. f (g z) ++ []) (sym e) ∙ append-nil (f (g x))
mapped_more f g (y ∷ ys) (suc i) x h e =
    let s : suc i + 1 ≡ suc (i + 1) = omega arith in
    ap (λ n. flat_map f (map g (take n (y ∷ ys)))) s ∙ ap (λ t. f (g y) ++ t) (mapped_more f g ys i x (omega (arith, h)) e)
    ∙ sym (append_assoc (f (g y)) (flat_map f (map g (take i ys))) (f (g x)))

-- the texts of one more, and of all
pub each_written : {X Y : Type 0} (f : Y → List ℕ) (g : X → Y) (xs : List X) (i : ℕ) (x : X) (old out more : List ℕ) → i < length xs → x ≡ get_or xs i x
    → out ≡ old ++ flat_map f (map g (take i xs)) → more ≡ out ++ f (g x) → more ≡ old ++ flat_map f (map g (take (i + 1) xs))
each_written f g xs i x old out more l e a b =
    b ∙ ap (λ o. o ++ f (g x)) a ∙ append_assoc old (flat_map f (map g (take i xs))) (f (g x)) ∙ ap (λ o. old ++ o) (sym (mapped_more f g xs i x l e))

pub all_written : {X Y : Type 0} (f : Y → List ℕ) (g : X → Y) (xs : List X) (i : ℕ) (old out : List ℕ) → length xs ≤ i
    → out ≡ old ++ flat_map f (map g (take i xs)) → out ≡ old ++ flat_map f (map g xs)
all_written f g xs i old out l a = a ∙ ap (λ ys. old ++ flat_map f (map g ys)) (take_all i xs l)

-- ---- the first, and then the others

abbrev pub behind_first : {X : Type 0} → List X → List X
behind_first xs = take (length xs - 1) (drop 1 xs)

behind_cons : {X : Type 0} (x : X) (xs : List X) → behind_first (x ∷ xs) ≡ xs
behind_cons x xs = take_all (length (x ∷ xs) - 1) xs (omega arith)

-- the first and the others
pub joined_written : {X Y : Type 0} (v : X → Y) (f g : Y → List ℕ) (F : List Y → List ℕ) → ((y : Y) (ys : List Y) → F (y ∷ ys) ≡ f y ++ flat_map g ys)
    → (xs : List X) (x : X) (i : ℕ) (o0 o1 o2 : List ℕ) → 0 < length xs → x ≡ get_or xs 0 x → length (behind_first xs) ≤ i
    → o1 ≡ o0 ++ f (v x) → o2 ≡ o1 ++ flat_map g (map v (take i (behind_first xs))) → o2 ≡ o0 ++ F (map v xs)
joined_written v f g F law [] x i o0 o1 o2 h e l a b = absurd (omega (arith, h))
joined_written v f g F law (y ∷ ys) x i o0 o1 o2 h e l a b =
    let all : take i (behind_first (y ∷ ys)) ≡ ys = take_all i (behind_first (y ∷ ys)) l ∙ behind_cons y ys in
    let q : o1 ≡ o0 ++ f (v y) = a ∙ ap (λ z. o0 ++ f (v z)) e in
    b ∙ ap (λ zs. o1 ++ flat_map g (map v zs)) all ∙ ap (λ o. o ++ flat_map g (map v ys)) q ∙ append_assoc o0 (f (v y)) (flat_map g (map v ys))
    ∙ ap (λ o. o0 ++ o) (sym (law (v y) (map v ys)))

-- an opening, the first, the others and a closing
pub row_written : {X Y : Type 0} (v : X → Y) (f g : Y → List ℕ) (left right : List ℕ) (F : List Y → List ℕ)
    → ((y : Y) (ys : List Y) → F (y ∷ ys) ≡ left ++ (f y ++ (flat_map g ys ++ right)))
    → (xs : List X) (x : X) (i : ℕ) (o0 o1 o2 o3 o4 : List ℕ) → 0 < length xs → x ≡ get_or xs 0 x → length (behind_first xs) ≤ i
    → o1 ≡ o0 ++ left → o2 ≡ o1 ++ f (v x) → o3 ≡ o2 ++ flat_map g (map v (take i (behind_first xs))) → o4 ≡ o3 ++ right → o4 ≡ o0 ++ F (map v xs)
row_written v f g left right F law [] x i o0 o1 o2 o3 o4 h e l a b c d = absurd (omega (arith, h))
row_written v f g left right F law (y ∷ ys) x i o0 o1 o2 o3 o4 h e l a b c d =
    let all : take i (behind_first (y ∷ ys)) ≡ ys = take_all i (behind_first (y ∷ ys)) l ∙ behind_cons y ys in
    let q : o2 ≡ o1 ++ f (v y) = b ∙ ap (λ z. o1 ++ f (v z)) e in
    let r : o3 ≡ o2 ++ flat_map g (map v ys) = c ∙ ap (λ zs. o2 ++ flat_map g (map v zs)) all in
    four_written left (f (v y)) (flat_map g (map v ys)) right o0 o1 o2 o3 o4 a q r d ∙ ap (λ o. o0 ++ o) (sym (law (v y) (map v ys)))
