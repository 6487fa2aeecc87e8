-- The turns of a list of steps along its own events.
use Rattle.std.proofs.Common.{◌≡◌, ℕ, ◌+◌, Bool, true, false, List, [], ◌∷◌, ◌++◌, length, Some, refl, ap, subst, arith, suc}
use Rattle.std.specs.Prelude.{slice_get}
use Rattle.pg_law_threads.specs.Steps.{View}
use Rattle.pg_law_threads.specs.Intervals.{done_after, turns_done, timed, times, AreTurns, owners}

get_behind : (T : List ℕ) (o : ℕ) (S : List ℕ) → slice_get (T ++ o ∷ S) (length T) ≡ Some o
get_behind [] o S = refl
get_behind (t ∷ T) o S = get_behind T o S

length_push : (T : List ℕ) (o : ℕ) → length (T ++ o ∷ []) ≡ suc (length T)
length_push [] o = refl
length_push (t ∷ T) o = ap suc (length_push T o)

push_append : (T S : List ℕ) (o : ℕ) → (T ++ o ∷ []) ++ S ≡ T ++ o ∷ S
push_append [] S o = refl
push_append (t ∷ T) S o = ap (λ l. t ∷ l) (push_append T S o)

module _ {A : Type 0} (V : View A) where
  turns_behind : (T : List ℕ) (xs : List A) → AreTurns V (T ++ owners V xs) (length T) xs
  turns_behind T [] = tt
  turns_behind T (x ∷ xs) = go (λ S. turns_behind S xs) (V.is_event x) refl
    where
      go : ((S : List ℕ) → AreTurns V (S ++ owners V xs) (length S) xs) → (e : Bool) → V.is_event x ≡ e
          → (V.is_event x ≡ true → slice_get (T ++ owners V (x ∷ xs)) (length T) ≡ Some (V.thread x)) × AreTurns V (T ++ owners V (x ∷ xs)) (done_after (V.is_event x) (length T)) xs
      go behind true w = rw w (
        (λ v. get_behind T (V.thread x) (owners V xs)),
        subst (λ l. AreTurns V l (suc (length T)) xs) (push_append T (owners V xs) (V.thread x))
            (subst (λ n. AreTurns V ((T ++ V.thread x ∷ []) ++ owners V xs) n xs) (length_push T (V.thread x)) (behind (T ++ V.thread x ∷ []))),
      )
      go behind false w = rw w ((λ v. absurd (cc)), behind T)

  -- the events of a list are its own turns
  pub own_turns : (xs : List A) → AreTurns V (owners V xs) 0 xs
  own_turns xs = turns_behind [] xs

  pub owners_done : (k : ℕ) (xs : List A) → turns_done V k xs ≡ k + length (owners V xs)
  owners_done k [] = omega arith
  owners_done k (x ∷ xs) = go (V.is_event x) refl (owners_done (suc k) xs) (owners_done k xs)
    where
      go : (e : Bool) → V.is_event x ≡ e → turns_done V (suc k) xs ≡ suc k + length (owners V xs) → turns_done V k xs ≡ k + length (owners V xs)
          → turns_done V (done_after (V.is_event x) k) xs ≡ k + length (owners V (x ∷ xs))
      go true w a b = rw w (omega (arith, a))
      go false w a b = rw w b

  pub times_append : (T : List ℕ) (k : ℕ) (xs ys : List A) → times V T k (xs ++ ys) ≡ times V T k xs ++ times V T (turns_done V k xs) ys
  times_append T k [] ys = refl
  times_append T k (x ∷ xs) ys = ap (λ l. timed V T k x ∷ l) (times_append T (done_after (V.is_event x) k) xs ys)

  pub times_length : (T : List ℕ) (k : ℕ) (xs : List A) → length (times V T k xs) ≡ length xs
  times_length T k [] = refl
  times_length T k (x ∷ xs) = ap suc (times_length T (done_after (V.is_event x) k) xs)
