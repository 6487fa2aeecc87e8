-- Root paths: a pointer by the root from which it is loaded, with four loads at most.
use Rattle.std.specs.Prelude.{ℕ, ◌+◌, ◌%◌, ◌^◌, List, [], ◌∷◌, Option, Some, None, option_and_then, option_map}
use Rattle.pg_region_paths.specs.declared.path.Root.{Root}
use Rattle.pg_region_paths.specs.declared.path.Loads.{Loads}
use Rattle.pg_region_paths.specs.declared.path.Loads.TheVariants.{Never, Once, Twice, Thrice, FourTimes}
use Rattle.pg_region_paths.specs.declared.path.RootPath.{RootPath}
use Rattle.pg_region_paths.specs.declared.path.Path.{Path}

-- the offsets of the loads, in order
abbrev pub offsets_of : Loads → List ℕ
offsets_of Never = []
offsets_of (Once a) = a ∷ []
offsets_of (Twice a b) = a ∷ b ∷ []
offsets_of (Thrice a b c) = a ∷ b ∷ c ∷ []
offsets_of (FourTimes a b c d) = a ∷ b ∷ c ∷ d ∷ []

-- one load more; after four there is none
abbrev pub one_more : Loads → ℕ → Option Loads
one_more Never k = Some (Once k)
one_more (Once a) k = Some (Twice a k)
one_more (Twice a b) k = Some (Thrice a b k)
one_more (Thrice a b c) k = Some (FourTimes a b c k)
one_more (FourTimes a b c d) k = None

abbrev pub each_more : Option Loads → List ℕ → Option Loads
each_more None ks = None
each_more (Some l) [] = Some l
each_more (Some l) (k ∷ ks) = each_more (one_more l k) ks

-- the loads of one path and then those of another
abbrev pub appended : Loads → Loads → Option Loads
appended l l' = each_more (Some l) (offsets_of l')

-- an offset moved by so many bytes
abbrev pub moved_offset : ℕ → ℕ → ℕ
moved_offset by k = (by % 2 ^ 21 + k % 2 ^ 21) % 2 ^ 21

-- the same loads from a pointer that was moved
abbrev pub shifted : ℕ → Loads → Loads
shifted by Never = Never
shifted by (Once a) = Once (moved_offset by a)
shifted by (Twice a b) = Twice (moved_offset by a) b
shifted by (Thrice a b c) = Thrice (moved_offset by a) b c
shifted by (FourTimes a b c d) = FourTimes (moved_offset by a) b c d

-- ---- paths

abbrev pub rooted : Root → Path
rooted r = record { root = r; loads = Never; added = Some 0 }

abbrev pub path_with : Root → Option Loads → Option Path
path_with r None = None
path_with r (Some l) = Some (record { root = r; loads = l; added = Some 0 })

-- the path of what is loaded at a value that was moved by k bytes since its last load
abbrev pub loaded_at : Path → Option ℕ → Option Path
loaded_at p None = None
loaded_at p (Some k) = path_with p.root (one_more p.loads k)

abbrev pub loaded : Path → Option Path
loaded p = loaded_at p p.added

abbrev pub root_path_with : Root → Option Loads → Option RootPath
root_path_with r None = None
root_path_with r (Some l) = Some (record { root = r; loads = l })

abbrev pub loads_behind : Loads → Option ℕ → Loads → Option Loads
loads_behind l k Never = Some l
loads_behind l None l' = None
loads_behind l (Some k) l' = appended l (shifted k l')

-- the path of an argument with a callee's loads from that parameter put after it: there is none of over four loads,
-- or where the callee loads and the argument was moved by what isn't constant since its last load
abbrev pub composed : Path → Loads → Option RootPath
composed p l = root_path_with p.root (loads_behind p.loads p.added l)

abbrev pub root_path_of : Path → RootPath
root_path_of p = record { root = p.root; loads = p.loads }
