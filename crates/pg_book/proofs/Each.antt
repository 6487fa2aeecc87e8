-- What lists of values are, item by item.
use Rattle.std.proofs.Common.{◌≡◌, List, ◌++◌, length, Option, option_map, String, Global, sym}
use Rattle.serde_json.specs.Events.{items_len, members_len}
use Rattle.serde_json.specs.View.{items_view, members_view}
use Rattle.serde_json.specs.declared.value.Value.{Value}
use Rattle.serde_json.proofs.Views.{items_len-items_view, members_len-members_view}

-- what was read, and behind it what is read of the rest
abbrev pub behind : {A : Type 0} → List A → Option (List A) → Option (List A)
behind xs ys = option_map (λ zs. xs ++ zs) ys

pub items_count : (vs : List Value) → length vs ≡ items_len (items_view vs)
items_count vs = sym (items_len-items_view vs)

pub members_count : (es : List (String Global × Value)) → length es ≡ members_len (members_view es)
members_count es = sym (members_len-members_view es)
