-- Operations of equal parts.
use Rattle.std.proofs.Common.{◌≡◌, ap, ◌∙◌}

pub same_two : {A B C : Type 0} (f : A → B → C) {a x : A} {b y : B} → a ≡ x → b ≡ y → f a b ≡ f x y
same_two f {a} {x} {b} {y} p q = ap (λ z. f z b) p ∙ ap (λ z. f x z) q

pub same_three : {A B C D : Type 0} (f : A → B → C → D) {a x : A} {b y : B} {c z : C} → a ≡ x → b ≡ y → c ≡ z → f a b c ≡ f x y z
same_three f {a} {x} {b} {y} {c} {z} p q r = ap (λ v. f v b c) p ∙ ap (λ v. f x v c) q ∙ ap (λ v. f x y v) r

pub same_four : {A B C D E : Type 0} (f : A → B → C → D → E) {a x : A} {b y : B} {c z : C} {d w : D} → a ≡ x → b ≡ y → c ≡ z → d ≡ w → f a b c d ≡ f x y z w
same_four f {a} {x} {b} {y} {c} {z} {d} {w} p q r s = ap (λ v. f v b c d) p ∙ ap (λ v. f x v c d) q ∙ ap (λ v. f x y v d) r ∙ ap (λ v. f x y z v) s

pub same_five : {A B C D E F : Type 0} (f : A → B → C → D → E → F) {a x : A} {b y : B} {c z : C} {d w : D} {e u : E} → a ≡ x → b ≡ y → c ≡ z → d ≡ w → e ≡ u
    → f a b c d e ≡ f x y z w u
same_five f {a} {x} {b} {y} {c} {z} {d} {w} {e} {u} p q r s t = ap (λ v. f v b c d e) p ∙ ap (λ v. f x v c d e) q ∙ ap (λ v. f x y v d e) r ∙ ap (λ v. f x y z v e) s
    ∙ ap (λ v. f x y z w v) t
