-- Lists that are written from the front while numbers are counted.
use Rattle.std.proofs.Common.{◌≡◌, ℕ, suc, ◌+◌, ◌<◌, ◌≤◌, List, ◌∷◌, ◌++◌, length, map, drop, get_or, refl, sym, ap, ◌∙◌, append_assoc, append-nil, flat_map}
use Rattle.std.proofs.Math.Seq.{drop-cons}
use Rattle.std.proofs.Math.Numerals.{add-one}
use Rattle.std.proofs.lemmas.List.{drop_all}
use Rattle.pg_read_ast.specs.Numbers.{each_at, behind_all}

-- what is written so far with what is left is the whole
pub record Going {X Y Z : Type 0} (f : X → Y) (behind : ℕ → Y → ℕ) (give : ℕ → Y → Z) (text : Z → List ℕ) (xs : List X) (i : ℕ) (old : List ℕ) (first : ℕ)
    (out : List ℕ) (next : ℕ) : Type 0 where
  pub text_is : out ++ flat_map text (each_at behind give next (map f (drop i xs))) ≡ old ++ flat_map text (each_at behind give first (map f xs))
  pub next_is : behind_all behind next (map f (drop i xs)) ≡ behind_all behind first (map f xs)

pub going_begin : {X Y Z : Type 0} (f : X → Y) (behind : ℕ → Y → ℕ) (give : ℕ → Y → Z) (text : Z → List ℕ) (xs : List X) (old : List ℕ) (first : ℕ)
    → Going f behind give text xs 0 old first old first
going_begin f behind give text xs old first = record { text_is = refl; next_is = refl }

pub going_step : {X Y Z : Type 0} (f : X → Y) (behind : ℕ → Y → ℕ) (give : ℕ → Y → Z) (text : Z → List ℕ) (xs : List X) (i : ℕ) (old : List ℕ) (first : ℕ)
    (out : List ℕ) (next : ℕ) (x : X) (out' : List ℕ) (next' : ℕ)
    → i < length xs → x ≡ get_or xs i x → out' ≡ out ++ text (give next (f x)) → next' ≡ behind next (f x) → Going f behind give text xs i old first out next
    → Going f behind give text xs (i + 1) old first out' next'
going_step f behind give text xs i old first out next x out' next' l e o n g =
    let d : drop i xs ≡ x ∷ drop (i + 1) xs = drop-cons xs i x l ∙ ap (λ y. y ∷ drop (suc i) xs) (sym e) ∙ ap (λ k. x ∷ drop k xs) (sym (add-one i)) in
    record {
      text_is = ap (λ o. o ++ flat_map text (each_at behind give next' (map f (drop (i + 1) xs)))) o
          ∙ append_assoc out (text (give next (f x))) (flat_map text (each_at behind give next' (map f (drop (i + 1) xs))))
          ∙ ap (λ k. out ++ (text (give next (f x)) ++ flat_map text (each_at behind give k (map f (drop (i + 1) xs))))) n
          ∙ ap (λ ys. out ++ flat_map text (each_at behind give next (map f ys))) (sym d) ∙ g.text_is;
      next_is = ap (λ k. behind_all behind k (map f (drop (i + 1) xs))) n ∙ ap (λ ys. behind_all behind next (map f ys)) (sym d) ∙ g.next_is;
    }

pub going_text : {X Y Z : Type 0} (f : X → Y) (behind : ℕ → Y → ℕ) (give : ℕ → Y → Z) (text : Z → List ℕ) (xs : List X) (i : ℕ) (old : List ℕ) (first : ℕ)
    (out : List ℕ) (next : ℕ)
    → length xs ≤ i → Going f behind give text xs i old first out next → out ≡ old ++ flat_map text (each_at behind give first (map f xs))
going_text f behind give text xs i old first out next l g =
    sym (append-nil out) ∙ ap (λ ys. out ++ flat_map text (each_at behind give next (map f ys))) (sym (drop_all i xs l)) ∙ g.text_is

pub going_next : {X Y Z : Type 0} (f : X → Y) (behind : ℕ → Y → ℕ) (give : ℕ → Y → Z) (text : Z → List ℕ) (xs : List X) (i : ℕ) (old : List ℕ) (first : ℕ)
    (out : List ℕ) (next : ℕ)
    → length xs ≤ i → Going f behind give text xs i old first out next → next ≡ behind_all behind first (map f xs)
going_next f behind give text xs i old first out next l g = ap (λ ys. behind_all behind next (map f ys)) (sym (drop_all i xs l)) ∙ g.next_is
