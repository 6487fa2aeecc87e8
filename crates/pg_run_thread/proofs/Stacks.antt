-- Frames in one list of registers: the present call, and what it goes back to.
use Rattle.std.proofs.Common.{◌≡◌, ℕ, ◌+◌, ◌-◌, ◌<◌, ◌≤◌, List, [], ◌∷◌, ◌++◌, length, take, drop, true, false, Bool, Option, refl, sym, ap, ◌∙◌}
use Rattle.std.proofs.Common.{arith, length-drop}
use Rattle.std.specs.Prelude.{None, replicate, map}
use Rattle.std.proofs.lemmas.List.{length-map, take-append-le, drop-append-le, take-append-drop, nil_from_length, take_all, drop_all, length-take}
use Rattle.pg_ir.specs.Program.{NumberedProgram, types_of, entry_of}
use Rattle.pg_run_thread.specs.declared.head.Head.{Head}
use Rattle.pg_run_thread.specs.LocalState.{Frame}
use Rattle.pg_ir.specs.declared.value.Value.{Value}
use Rattle.pg_run_thread.specs.Operands.{operand}
use Rattle.pg_run_thread.specs.Step.{total, entered, under_top, top_registers, top_height_of}
use Rattle.pg_run_thread.specs.Stack.{frame_of, counts, waiting, frames_of}

pub counts-push : (hs : List Head) (h : Head) → counts (hs ++ h ∷ []) ≡ counts hs + h.count
counts-push [] h = omega arith
counts-push (g ∷ hs) h = omega (arith, counts-push hs h)

pub waiting_push : (hs : List Head) (h : Head) (xs ys : List (Option ℕ)) (fs : List Frame) → length xs ≡ counts hs → length ys ≡ h.count
    → waiting (hs ++ h ∷ []) (xs ++ ys) fs ≡ frame_of h ys ∷ waiting hs xs fs
waiting_push [] h xs ys fs l m =
    let n : xs ≡ [] = nil_from_length xs l in
    rw n (ap (λ (rs : List (Option ℕ)). frame_of h rs ∷ fs) (take_all _ ys (omega arith)))
waiting_push (g ∷ hs) h xs ys fs l m =
    let a : take g.count (xs ++ ys) ≡ take g.count xs = take-append-le g.count xs ys (omega arith) in
    let b : drop g.count (xs ++ ys) ≡ drop g.count xs ++ ys = drop-append-le g.count xs ys (omega arith) in
    let d : length (drop g.count xs) ≡ counts hs = omega (arith, length-drop g.count xs) in
    ap (λ (rs : List (Option ℕ)). waiting (hs ++ h ∷ []) rs (frame_of g (take g.count (xs ++ ys)) ∷ fs)) b
    ∙ ap (λ (rs : List (Option ℕ)). waiting (hs ++ h ∷ []) (drop g.count xs ++ ys) (frame_of g rs ∷ fs)) a
    ∙ waiting_push hs h (drop g.count xs) ys (frame_of g (take g.count xs) ∷ fs) d m

pub length-waiting : (hs : List Head) (xs : List (Option ℕ)) (fs : List Frame) → length (waiting hs xs fs) ≡ length hs + length fs
length-waiting [] xs fs = omega arith
length-waiting (h ∷ hs) xs fs = omega (arith, length-waiting hs (drop h.count xs) (frame_of h (take h.count xs) ∷ fs))

pub total-waiting : (hs : List Head) (xs : List (Option ℕ)) (fs : List Frame) → length xs ≡ counts hs → total (waiting hs xs fs) ≡ length xs + total fs
total-waiting [] xs fs l = omega arith
total-waiting (h ∷ hs) xs fs l =
    let d : length (drop h.count xs) ≡ counts hs = omega (arith, length-drop h.count xs) in
    omega (arith, total-waiting hs (drop h.count xs) (frame_of h (take h.count xs) ∷ fs) d, length-drop h.count xs, length-take h.count xs)

-- what a thread that hasn't ended says of its parts
pub record Parts (ended : Bool) (hs : List Head) (rs : List (Option ℕ)) (fs : List Frame) : Type 0 where
  pub goes : ended ≡ false
  pub registers : total fs ≡ length rs
  pub depth : length fs ≡ length hs + 1

pub parts : (ended : Bool) (top : Head) (base : ℕ) (hs : List Head) (rs : List (Option ℕ)) (fs : List Frame) → frames_of ended top base hs rs ≡ fs → 0 < length fs → base ≤ length rs
    → base ≡ counts hs → Parts ended hs rs fs
unfolding frames_of
parts true top base hs rs fs e g l b = absurd (omega (arith, ap (λ (xs : List Frame). length xs) e))
parts false top base hs rs fs e g l b = record {
  goes = refl;
  registers = omega (arith, ap total e, length-drop base rs, length-take base rs, total-waiting hs (take base rs) [] (omega (arith, length-take base rs)));
  depth = omega (arith, ap (λ (xs : List Frame). length xs) e, length-waiting hs (take base rs) []);
}

-- a call: the present frame waits from now on
pub entered_frames : (top next : Head) (base : ℕ) (hs : List Head) (rs new : List (Option ℕ)) (h : Head) → base ≤ length rs → base ≡ counts hs
    → h ≡ record top { count = length rs - base } → frames_of false next (length rs) (hs ++ h ∷ []) (rs ++ new) ≡ frame_of next new ∷ frames_of false top base hs rs
unfolding frames_of
entered_frames top next base hs rs new h l b e =
    let a : drop (length rs) (rs ++ new) ≡ new = drop-append-le (length rs) rs new (omega arith) ∙ ap (λ (xs : List (Option ℕ)). xs ++ new) (drop_all (length rs) rs (omega arith)) in
    let t : take (length rs) (rs ++ new) ≡ take base rs ++ drop base rs =
    take-append-le (length rs) rs new (omega arith) ∙ take_all (length rs) rs (omega arith) ∙ sym (take-append-drop base rs) in
    let w : waiting (hs ++ h ∷ []) (take base rs ++ drop base rs) [] ≡ frame_of h (drop base rs) ∷ waiting hs (take base rs) [] =
    waiting_push hs h (take base rs) (drop base rs) [] (omega (arith, length-take base rs)) (rw e (omega (arith, length-drop base rs))) in
    let k : frame_of h (drop base rs) ≡ frame_of top (drop base rs) = rw e refl in
    ap (λ (xs : List (Option ℕ)). frame_of next xs ∷ waiting (hs ++ h ∷ []) (take (length rs) (rs ++ new)) []) a
    ∙ ap (λ (xs : List (Option ℕ)). frame_of next new ∷ waiting (hs ++ h ∷ []) xs []) t
    ∙ ap (λ (xs : List Frame). frame_of next new ∷ xs) w
    ∙ ap (λ (x : Frame). frame_of next new ∷ x ∷ waiting hs (take base rs) []) k

-- a return: the frames below the present one
pub left_frames : (base new_base : ℕ) (hs front : List Head) (rs : List (Option ℕ)) (h : Head) → base ≤ length rs → base ≡ counts hs → hs ≡ front ++ h ∷ []
    → new_base ≡ base - h.count → waiting hs (take base rs) [] ≡ frame_of h (drop new_base (take base rs)) ∷ waiting front (take new_base (take base rs)) []
left_frames base new_base hs front rs h l b e n =
    let c : counts hs ≡ counts front + h.count = rw e (counts-push front h) in
    let t : take base rs ≡ take new_base (take base rs) ++ drop new_base (take base rs) = sym (take-append-drop new_base (take base rs)) in
    let w : waiting (front ++ h ∷ []) (take new_base (take base rs) ++ drop new_base (take base rs)) []
    ≡ frame_of h (drop new_base (take base rs)) ∷ waiting front (take new_base (take base rs)) [] =
    waiting_push front h (take new_base (take base rs)) (drop new_base (take base rs)) [] (omega (arith, length-take new_base (take base rs), length-take base rs))
    (omega (arith, length-drop new_base (take base rs), length-take base rs)) in
    ap (λ (xs : List Head). waiting xs (take base rs) []) e ∙ ap (λ (xs : List (Option ℕ)). waiting (front ++ h ∷ []) xs []) t ∙ w

pub depth_of : (ended : Bool) (top : Head) (base : ℕ) (hs : List Head) (rs : List (Option ℕ)) → 0 < length (frames_of ended top base hs rs) → base ≤ length rs → base ≡ counts hs
    → length (frames_of ended top base hs rs) ≡ length hs + 1
depth_of ended top base hs rs g l b = (parts ended top base hs rs (frames_of ended top base hs rs) refl g l b).depth

pub used_of : (ended : Bool) (top : Head) (base : ℕ) (hs : List Head) (rs : List (Option ℕ)) → 0 < length (frames_of ended top base hs rs) → base ≤ length rs → base ≡ counts hs
    → total (frames_of ended top base hs rs) ≡ length rs
used_of ended top base hs rs g l b = (parts ended top base hs rs (frames_of ended top base hs rs) refl g l b).registers

pub top_registers_is : (ended : Bool) (top : Head) (base : ℕ) (hs : List Head) (rs : List (Option ℕ)) → ended ≡ false → top_registers (frames_of ended top base hs rs) ≡ drop base rs
unfolding frames_of
top_registers_is ended top base hs rs z = rw z refl

pub top_height_is : (ended : Bool) (top : Head) (base : ℕ) (hs : List Head) (rs : List (Option ℕ)) → ended ≡ false → top_height_of (frames_of ended top base hs rs) ≡ top.height
unfolding frames_of
top_height_is ended top base hs rs z = rw z refl

entered_is : (p : NumberedProgram) (top next : Head) (g count : ℕ) (args : List Value) (rs : List (Option ℕ)) → count ≡ length (types_of p g) → next.function ≡ g
    → next.place ≡ entry_of p g → next.height ≡ top.height → frame_of next (map (operand p rs) args ++ replicate (count - length args) None)
    ≡ entered p g top.height (map (operand p rs) args)
unfolding entered
entered_is p top next g count args rs k f e h =
    let l : length (map (operand p rs) args) ≡ length args = length-map args (operand p rs) in
    rw (f, e, h, k, l) refl

pub enter_view : (p : NumberedProgram) (ended : Bool) (top next : Head) (base used g count : ℕ) (hs more : List Head) (rs all : List (Option ℕ)) (args : List Value) → ended ≡ false
    → base ≤ length rs → base ≡ counts hs → used ≡ length rs → more ≡ hs ++ record top { count = used - base } ∷ []
    → all ≡ rs ++ (map (operand p (drop base rs)) args ++ replicate (count - length args) None) → count ≡ length (types_of p g) → next.function ≡ g → next.place ≡ entry_of p g
    → next.height ≡ top.height → frames_of ended next used more all
    ≡ entered p g (top_height_of (frames_of ended top base hs rs)) (map (operand p (top_registers (frames_of ended top base hs rs))) args) ∷ frames_of ended top base hs rs
enter_view p ended top next base used g count hs more rs all args z l b u m a k f e h =
    rw (top_registers_is ended top base hs rs z, top_height_is ended top base hs rs z)
    (rw (z, m, a, u) (entered_frames top next base hs rs (map (operand p (drop base rs)) args ++ replicate (count - length args) None) _ l b refl
    ∙ ap (λ (x : Frame). x ∷ frames_of false top base hs rs) (entered_is p top next g count args (drop base rs) k f e h)))

pub drop_view : (ended : Bool) (top : Head) (base low : ℕ) (hs front : List Head) (rs less : List (Option ℕ)) (h : Head) → ended ≡ false → base ≤ length rs → base ≡ counts hs
    → hs ≡ front ++ h ∷ [] → low ≡ base - h.count → less ≡ take base rs → frames_of ended h low front less ≡ under_top (frames_of ended top base hs rs)
unfolding frames_of
drop_view ended top base low hs front rs less h z l b e n k = rw (z, k) (sym (left_frames base low hs front rs h l b e n))
