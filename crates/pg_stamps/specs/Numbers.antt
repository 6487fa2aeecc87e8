-- The numbers at nodes.
use Rattle.std.specs.Prelude.{◌≡◌, ℕ, List, nat_eq}
use Rattle.std.specs.Int.{bit_at, leading_zeros, w64}
use Rattle.std.specs.Map.{lookup}
use Rattle.std.specs.Option.{unwrap_or}

-- nodes with their numbers, and for how many nodes more there is room
pub record Numbers : Type 0 where
  pub entries : List (ℕ × ℕ)
  pub room : ℕ

-- the number at a node, 0 where there is none
abbrev pub number_at : Numbers → ℕ → ℕ
number_at m n = unwrap_or (lookup (nat_eq n) m.entries) 0

-- the class of a node: how many zeros stand before its binary digits
abbrev pub class_of : ℕ → ℕ
class_of n = leading_zeros w64 n

-- a node whose class has no bit has no number
abbrev pub AreClasses : ℕ → Numbers → Type 0
AreClasses classes m = (n : ℕ) → bit_at classes (class_of n) ≡ 0 → number_at m n ≡ 0
