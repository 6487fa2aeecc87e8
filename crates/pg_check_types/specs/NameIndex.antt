-- Names that are looked up by their texts.
use Rattle.std.specs.Prelude.{ℕ, Bool, List, Option, Some, None, map, if◌then◌else◌}
use Rattle.std.specs.List.{position_from}
use Rattle.std.specs.Str.{bytes_eq}
use Rattle.indexmap.specs.IndexMap.{IndexMap, get_by}
use denote.Ref.{Bor}

-- the texts that references point to
abbrev pub texts_of : List (Bor (List ℕ)) → List (List ℕ)
texts_of names = map (λ n. n.now) names

-- the place of the first text that is this one
abbrev pub first_place : List (List ℕ) → List ℕ → Option ℕ
first_place texts text = position_from (λ t. bytes_eq t text) 0 texts

-- the place that a map has for a text
abbrev pub known_place : {S : Type 0} → IndexMap (Bor (List ℕ)) ℕ S → List ℕ → Option ℕ
known_place m text = get_by (λ y. bytes_eq text y.now) m

-- a place that is known stays; else it is this one, if this is the text
abbrev pub noted : Option ℕ → Bool → ℕ → Option ℕ
noted (Some p) same place = Some p
noted None same place = if same then Some place else None
