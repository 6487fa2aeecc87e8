-- What contracts see of shelves: the texts that they have by name, and how many fetches of each name failed.
use Rattle.std.specs.Prelude.{ℕ, List, [], ◌∷◌, map, String, string_bytes, Vec, Option, Some, None, if◌then◌else◌}
use Rattle.std.specs.Str.{bytes_eq}
use Rattle.std.specs.declared.alloc.Global.{Global}

-- a name, and how many fetches of it failed
pub record NameCount : Type 0 where
  pub name : List ℕ
  pub count : ℕ

-- the counts of the names of which a fetch failed
abbrev pub NameCountList : Type 0
NameCountList = List NameCount

abbrev pub counts_in : List (String Global × ℕ) → NameCountList
counts_in entries = map (λ (entry : String Global × ℕ). record { name = string_bytes entry.0; count = entry.1 }) entries

-- how many fetches of the name failed
abbrev pub count_of : NameCountList → List ℕ → ℕ
count_of [] name = 0
count_of (row ∷ rows) name = if bytes_eq name row.name then row.count else count_of rows name

-- a name and its text
pub record NamedText : Type 0 where
  pub name : List ℕ
  pub text : List ℕ

abbrev pub named_text : String Global × Vec ℕ Global → NamedText
named_text file = record { name = string_bytes file.0; text = file.1.items }

abbrev pub named_texts : List (String Global × Vec ℕ Global) → List NamedText
named_texts files = map named_text files

-- the first text of the name
abbrev pub text_in : List NamedText → List ℕ → Option (List ℕ)
text_in [] name = None
text_in (file ∷ files) name = if bytes_eq file.name name then Some file.text else text_in files name

-- the texts, the numbers of the calls that fail, how many calls there were, and the counts of faults
pub record MemoryShelfState : Type 0 where
  pub files : List NamedText
  pub failing : List ℕ
  pub calls : ℕ
  pub counts : NameCountList

-- the text of every name
pub record SureShelfState : Type 0 where
  pub text : List ℕ

-- the text of a name, where the outside doesn't tell it
abbrev pub untold : Option (List ℕ)
untold = None

-- the counts of faults of a shelf that doesn't tell its texts
pub record FileShelfState : Type 0 where
  pub counts : NameCountList
