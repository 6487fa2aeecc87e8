-- A pass over the type items.
use Rattle.std.proofs.Common.{◌≡◌, ℕ, ◌+◌, ◌<◌, ◌≤◌, Bool, true, false, ◌||◌, List, [], ◌∷◌, length, Option, Some, None, ◌⊎◌, inl, inr, sym, ap, subst}
use Rattle.std.proofs.Common.{arith, Bor}
use Rattle.std.specs.Bool.{OnTrue, OnFalse}
use Rattle.std.proofs.lemmas.Bool.{cases_lt}
use Rattle.indexmap.specs.IndexMap.{IndexMap}
use Rattle.pg_read_ast.specs.declared.nodes.TypeItem.{TypeItem}
use Rattle.pg_check_types.specs.Resolved.{ResolvedType}
use Rattle.pg_check_types.specs.Table.{Grows}
use Rattle.pg_check_types.specs.Known.{item_number}
use Rattle.pg_check_types.specs.Items.{found_count, AreFound, IsStuck, AreStuck}
use Rattle.pg_check_types.proofs.ItemSteps.{still_stuck}

pub count_no_less : (m : Bool) (a b : List (Option ℕ)) → OnTrue m (found_count a < found_count b) → OnFalse m (b ≡ a) → found_count a ≤ found_count b
count_no_less true a b e s = omega (arith, e)
count_no_less false a b e s = let h = ap (λ x. found_count x) s in omega (arith, h)

pub more_now : (f m r : Bool) (n : ℕ) (a b : List (Option ℕ)) → r ≡ (f || m) → n ≤ found_count a → OnTrue f (n < found_count a) → OnTrue m (found_count a < found_count b)
    → OnFalse m (b ≡ a) → OnTrue r (n < found_count b)
more_now f m r n a b e l h k s = subst (λ x. OnTrue x (n < found_count b)) (sym e) (by f m h k s)
  where
    by : (f m : Bool) → OnTrue f (n < found_count a) → OnTrue m (found_count a < found_count b) → OnFalse m (b ≡ a) → OnTrue (f || m) (n < found_count b)
    by true true h k s = omega (arith, h, k)
    by true false h k s = let q = ap (λ x. found_count x) s in omega (arith, h, q)
    by false true h k s = omega (arith, l, k)
    by false false h k s = tt

pub stuck_now : {S : Type 0} (f m r : Bool) (types : List TypeItem) (x y : List ResolvedType) (places : IndexMap (Bor (List ℕ)) ℕ S) (a b : List (Option ℕ)) (place : ℕ)
    → r ≡ (f || m) → Grows x y → AreFound types x (item_number places a) (found_count a) → OnFalse f (AreStuck types x (item_number places a) a place) → OnFalse m (b ≡ a)
    → OnFalse m (IsStuck types y (item_number places b) b place)
    → OnFalse r (AreStuck types y (item_number places b) b (place + 1))
stuck_now f m r types x y places a b place e g w h s k = subst (λ z. OnFalse z (AreStuck types y (item_number places b) b (place + 1))) (sym e) (by f m h s k)
  where
    by : (f m : Bool) → OnFalse f (AreStuck types x (item_number places a) a place) → OnFalse m (b ≡ a) → OnFalse m (IsStuck types y (item_number places b) b place)
        → OnFalse (f || m) (AreStuck types y (item_number places b) b (place + 1))
    by true m h s k = tt
    by false true h s k = tt
    by false false h s k = λ p l. at p l (cases_lt p place)
      where
        at : (p : ℕ) → p < place + 1 → (p < place) ⊎ (place ≤ p) → IsStuck types y (item_number places b) b p
        at p l (inl q) = subst (λ c. IsStuck types y (item_number places c) c p) (sym s) (still_stuck types x y (item_number places a) a p g w.within (h p q))
        at p l (inr q) = let z : place ≡ p = omega (arith, l, q) in subst (λ n. IsStuck types y (item_number places b) b n) z k

pub count_within : (items : List (Option ℕ)) → found_count items ≤ length items
count_within [] = omega arith
count_within (None ∷ items) = let h = count_within items in omega (arith, h)
count_within (Some n ∷ items) = let h = count_within items in omega (arith, h)
