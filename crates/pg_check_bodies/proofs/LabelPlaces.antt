-- The places of labels and registers by their names.
use Rattle.std.proofs.Common.{◌≡◌, ℕ, ◌+◌, ◌&&◌, ◌||◌, Bool, true, false, cond, List, [], ◌∷◌, map, Some, refl, sym, ap, ◌∙◌}
use Rattle.std.specs.Prelude.{is_some}
use Rattle.std.specs.List.{list_all, list_any, position_from}
use Rattle.std.specs.Str.{bytes_eq}
use Rattle.std.proofs.lemmas.Iterator.Adapters.{position_from-zero}
use Rattle.indexmap.specs.IndexMap.{IndexMap}
use denote.Ref.{Bor}
use Rattle.pg_read_ast.specs.declared.names.Name.{Name}
use Rattle.pg_check_types.specs.NameIndex.{first_place, known_place}
use Rattle.pg_check_rules.specs.Names.{Register, register_number, label_number}
use Rattle.pg_check_rules.specs.BlockConditions.{has_text, same_labels}
use Rattle.pg_check_bodies.specs.BodyBlocks.{name_text, are_known}

place_mapped : {X Y : Type 0} (p : Y → Bool) (f : X → Y) (k : ℕ) (xs : List X) → position_from p k (map f xs) ≡ position_from (λ x. p (f x)) k xs
place_mapped p f k [] = refl
place_mapped p f k (x ∷ xs) = ap (λ o. cond (p (f x)) (Some k) o) (place_mapped p f (k + 1) xs)

-- the place of a label
pub label_place : (names : List Name) (text : List ℕ) → first_place (map name_text names) text ≡ label_number names text
unfolding label_number
label_place names text = place_mapped (λ t. bytes_eq t text) name_text 0 names ∙ sym (position_from-zero (λ (n : Name). bytes_eq n.text text) names)

-- the place of a register
pub register_place : (rs : List Register) (text : List ℕ) → label_number (map (λ (r : Register). r.name) rs) text ≡ register_number rs text
unfolding label_number register_number
register_place rs text =
    position_from-zero (λ (n : Name). bytes_eq n.text text) (map (λ (r : Register). r.name) rs)
    ∙ place_mapped (λ (n : Name). bytes_eq n.text text) (λ (r : Register). r.name) 0 rs
    ∙ sym (position_from-zero (λ (r : Register). bytes_eq r.name.text text) rs)

place_some : {X : Type 0} (p : X → Bool) (k : ℕ) (xs : List X) → is_some (position_from p k xs) ≡ list_any p xs
place_some p k [] = refl
place_some {X = X} p k (x ∷ xs) = by (p x) (place_some p (k + 1) xs)
  where
    by : (b : Bool) → is_some (position_from p (k + 1) xs) ≡ list_any p xs → is_some (cond b (Some k) (position_from p (k + 1) xs)) ≡ (b || list_any p xs)
    by true h = refl
    by false h = h

label_there : (names : List Name) (text : List ℕ) → is_some (label_number names text) ≡ has_text names text
unfolding label_number
label_there names text = ap (λ o. is_some o) (position_from-zero (λ (n : Name). bytes_eq n.text text) names) ∙ place_some (λ (n : Name). bytes_eq n.text text) 0 names

all_same : {X : Type 0} (p q : X → Bool) → ((x : X) → p x ≡ q x) → (xs : List X) → list_all p xs ≡ list_all q xs
all_same p q h [] = refl
all_same p q h (x ∷ xs) = ap (λ b. b && list_all p xs) (h x) ∙ ap (λ b. q x && b) (all_same p q h xs)

known_texts : {S : Type 0} (m : IndexMap (Bor (List ℕ)) ℕ S) (labels names : List Name) → ((text : List ℕ) → known_place m text ≡ label_number labels text)
    → are_known m names ≡ list_all (λ (n : Name). has_text labels n.text) names
known_texts m labels names h = all_same (λ (n : Name). is_some (known_place m n.text)) (λ (n : Name). has_text labels n.text)
    (λ n. ap (λ o. is_some o) (h n.text) ∙ label_there labels n.text) names

-- the same labels
pub same_known : {S T : Type 0} (m : IndexMap (Bor (List ℕ)) ℕ S) (n : IndexMap (Bor (List ℕ)) ℕ T) (names others : List Name) (one other : Bool)
    → ((text : List ℕ) → known_place m text ≡ label_number names text) → ((text : List ℕ) → known_place n text ≡ label_number others text)
    → one ≡ are_known m others → one ≡ true → other ≡ are_known n names → other ≡ same_labels names others
same_known m n names others one other h k a t b =
    b ∙ known_texts n others names k ∙ ap (λ x. x && list_all (λ (s : Name). has_text others s.text) names) (sym t ∙ a ∙ known_texts m names others h)

pub other_known : {S : Type 0} (m : IndexMap (Bor (List ℕ)) ℕ S) (names others : List Name) (one : Bool)
    → ((text : List ℕ) → known_place m text ≡ label_number names text) → one ≡ are_known m others → one ≡ false → false ≡ same_labels names others
other_known m names others one h a f = ap (λ x. x && list_all (λ (s : Name). has_text others s.text) names) (sym f ∙ a ∙ known_texts m names others h)
