-- Passes over footprints, in each of which some ask, and those that stood before them answer.
use Rattle.std.specs.Prelude.{ℕ, ◌+◌, ◌-◌, ◌&&◌, ◌||◌, not, max, nat_lt, List, [], ◌∷◌, ◌++◌, Bool, true, false, if◌then◌else◌}
use Rattle.std.specs.List.{list_any}
use Rattle.pg_slice_conflicts.specs.declared.footprint.Footprint.{Footprint}
use Rattle.pg_slice_conflicts.specs.declared.pass.Pass.{Pass}
use Rattle.pg_slice_conflicts.specs.declared.pass.Touch.{Touch}
use Rattle.pg_slice_conflicts.specs.declared.places.Placed.{Placed}
use Rattle.pg_slice_conflicts.specs.Ranks.{gives}

-- ---- touches

-- they have a place in common
abbrev pub share : Touch → Touch → Bool
share x y = nat_lt (max x.first y.first) x.end && nat_lt (max x.first y.first) y.end

-- x, which stands before y, answers it
abbrev pub answers : Touch → Touch → Bool
answers x y = y.asks && (x.gives && (share x y && gives x y.thread.0 y.need))

-- of each of a list whether one before it answers it; xs stand before the list
abbrev pub before_by : {A : Type 0} → (A → A → Bool) → List A → List A → List Bool
before_by f xs [] = []
before_by f xs (y ∷ ys) = list_any (λ x. f x y) xs ∷ before_by f (xs ++ y ∷ []) ys

-- ---- footprints as touches

abbrev pub same : Bool → Bool → Bool
same true b = b
same false b = not b

-- going forward, one before answers one behind where its next turn is no less than the last turn of that; going backward,
-- one behind answers one before where its last turn is no greater than the next turn of that
abbrev pub rank_of : Bool → Footprint → ℕ
rank_of backward x = if backward then 4294967296 - x.low else x.high + 1

abbrev pub need_of : Bool → Footprint → ℕ
need_of backward x = if backward then 4294967295 - x.high else x.low

abbrev pub touch_of : Pass → Placed → Touch
touch_of p z = record {
  thread = z.footprint.thread;
  first = z.first;
  end = z.end;
  rank = rank_of p.backward z.footprint;
  need = need_of p.backward z.footprint;
  gives = (p.writes || z.footprint.writes) && (p.of_region || not z.footprint.of_region);
  asks = same p.writes z.footprint.writes && same p.of_region z.footprint.of_region;
}

-- x, which stands before y, answers it in this pass
abbrev pub answers_in : Pass → Placed → Placed → Bool
answers_in p x y = answers (touch_of p x) (touch_of p y)

abbrev pub pass_of : Bool → Bool → Bool → Pass
pass_of backward writes of_region = record { backward = backward; writes = writes; of_region = of_region }

-- x, which the passes of one direction meet before y, answers it in one of them
abbrev pub answers_along : Bool → Placed → Placed → Bool
answers_along b x y =
    ((answers_in (pass_of b false false) x y || answers_in (pass_of b false true) x y)
    || answers_in (pass_of b true false) x y) || answers_in (pass_of b true true) x y
