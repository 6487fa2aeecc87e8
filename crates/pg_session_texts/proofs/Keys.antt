-- What stands under the keys of a reply, and which bytes its output had.
use Rattle.std.proofs.Common.{◌≡◌, ◌<◌, ◌&&◌, ℕ, List, [], ◌∷◌, true, Option, Some, None, ap, codes, refl, sym, ◌∙◌, arith}
use Rattle.std.specs.List.{All, AllByRecursion}
use Rattle.std.specs.Str.{chars, encode_utf8_all}
use Rattle.std.proofs.lemmas.List.Elements.{recursion_from_All}
use Rattle.std.proofs.lemmas.Str.{chars-encodes}
use lib.Utf8.{scalar, scalars, low_scalar}
use Rattle.serde_json.specs.Data.{Data, member, no_members, object}
use Rattle.serde_json.specs.Find.{as_str, get}
use Rattle.pg_session_texts.specs.JsonReplies.{member_if, output_value}

abbrev all_members : (d e t : Option Data) (o r : Data) → Data
all_members d e t o r = object (member_if (codes "end") d (member_if (codes "entry") e (member (codes "output") o (member (codes "reply") r (member_if (codes "turns") t no_members)))))

pub end_found : (d e t : Option Data) (o r : Data) → get (codes "end") (all_members d e t o r) ≡ d
end_found None None None o r = refl
end_found None None (Some t) o r = refl
end_found None (Some e) None o r = refl
end_found None (Some e) (Some t) o r = refl
end_found (Some d) e t o r = refl

pub entry_found : (d e t : Option Data) (o r : Data) → get (codes "entry") (all_members d e t o r) ≡ e
entry_found None None None o r = refl
entry_found None None (Some t) o r = refl
entry_found None (Some e) t o r = refl
entry_found (Some d) None None o r = refl
entry_found (Some d) None (Some t) o r = refl
entry_found (Some d) (Some e) t o r = refl

pub output_found : (d e t : Option Data) (o r : Data) → get (codes "output") (all_members d e t o r) ≡ Some o
output_found None None t o r = refl
output_found None (Some e) t o r = refl
output_found (Some d) None t o r = refl
output_found (Some d) (Some e) t o r = refl

pub reply_found : (d e t : Option Data) (o r : Data) → get (codes "reply") (all_members d e t o r) ≡ Some r
reply_found None None t o r = refl
reply_found None (Some e) t o r = refl
reply_found (Some d) None t o r = refl
reply_found (Some d) (Some e) t o r = refl

pub turns_found : (d e t : Option Data) (o r : Data) → get (codes "turns") (all_members d e t o r) ≡ t
turns_found None None None o r = refl
turns_found None None (Some t) o r = refl
turns_found None (Some e) None o r = refl
turns_found None (Some e) (Some t) o r = refl
turns_found (Some d) None None o r = refl
turns_found (Some d) None (Some t) o r = refl
turns_found (Some d) (Some e) None o r = refl
turns_found (Some d) (Some e) (Some t) o r = refl

-- ---- bytes as characters

bytes_are_scalars : (output : List ℕ) → AllByRecursion (λ byte. byte < 256) output → scalars output ≡ true
bytes_are_scalars [] h = refl
bytes_are_scalars (b ∷ bytes) h =
    let below = h.0 in
    let one : scalar b ≡ true = low_scalar b (omega (arith, below)) in
    let more = bytes_are_scalars bytes h.1 in
    ap (λ t. t && scalars bytes) one ∙ more

pub bytes_back : (output : List ℕ) → All (λ byte. byte < 256) output → (text : List ℕ) → as_str (output_value output) ≡ Some text → chars text ≡ output
bytes_back output h text e =
    let is : encode_utf8_all output ≡ text = cc in
    ap chars (sym is) ∙ chars-encodes output (bytes_are_scalars output (recursion_from_All (λ byte. byte < 256) output h))
