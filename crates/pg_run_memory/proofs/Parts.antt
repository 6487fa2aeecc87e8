-- One word: bytes of it, and a part of it changed.
use Rattle.std.proofs.Common.{◌≡◌, ℕ, zero, suc, ◌+◌, ◌-◌, ◌*◌, ◌/◌, ◌%◌, ◌^◌, ◌<◌, ◌≤◌, sym, ap, ◌∙◌, arith}
use Rattle.std.proofs.Math.Nat.{mod-eq_of_lt}
use Rattle.std.proofs.lemmas.Nat.{mul-le, pow-add, shr-shr, mod-pow-add, shr_high, mod_low, shr_split, pow_pos, mod_below, shr_below, mul-add-lt}
use Rattle.pg_run_memory.specs.Bytes.{byte_of, number_of}
use Rattle.pg_run_memory.specs.Words.{part_of, with_part}

shift_low : (h v j e : ℕ) → (h * 2 ^ (e + j) + v) / 2 ^ j ≡ h * 2 ^ e + v / 2 ^ j
shift_low h v j e =
    let p : h * 2 ^ (e + j) ≡ (h * 2 ^ e) * 2 ^ j = rw (pow-add 2 e j) (omega arith) in
    let s : v / 2 ^ j * 2 ^ j + v % 2 ^ j ≡ v = shr_split v j in
    let k : h * 2 ^ (e + j) + v ≡ (h * 2 ^ e + v / 2 ^ j) * 2 ^ j + v % 2 ^ j = omega arith in
    ap (λ x. x / 2 ^ j) k ∙ shr_high (h * 2 ^ e + v / 2 ^ j) j (v % 2 ^ j) (mod_below v (2 ^ j) (pow_pos j))

cut_low : (h x f : ℕ) → (h * 2 ^ (f + 8) + x) % 2 ^ 8 ≡ x % 2 ^ 8
cut_low h x f =
    let p : h * 2 ^ (f + 8) ≡ (h * 2 ^ f) * 2 ^ 8 = rw (pow-add 2 f 8) (omega arith) in
    let s : x / 2 ^ 8 * 2 ^ 8 + x % 2 ^ 8 ≡ x = shr_split x 8 in
    let k : h * 2 ^ (f + 8) + x ≡ (h * 2 ^ f + x / 2 ^ 8) * 2 ^ 8 + x % 2 ^ 8 = omega arith in
    ap (λ x. x % 2 ^ 8) k ∙ mod_low (h * 2 ^ f + x / 2 ^ 8) 8 (x % 2 ^ 8) (mod_below x (2 ^ 8) (pow_pos 8))

-- a byte below the place where a number is put on top is a byte of what is below
pub byte_low : (h m v k : ℕ) → k < m → byte_of (h * 2 ^ (8 * m) + v) k ≡ byte_of v k
byte_low h m v k l =
    let e : 8 * m ≡ ((8 * (m - k - 1)) + 8) + 8 * k = omega arith in
    rw e (ap (λ x. x % 2 ^ 8) (shift_low h v (8 * k) ((8 * (m - k - 1)) + 8)) ∙ cut_low h (v / 2 ^ (8 * k)) (8 * (m - k - 1)))

pub byte_shifted : (w i k : ℕ) → byte_of w (i + k) ≡ byte_of (w / 2 ^ (8 * i)) k
byte_shifted w i k =
    let e : 8 * (i + k) ≡ 8 * i + 8 * k = omega arith in
    ap (λ x. x % 2 ^ 8) (rw e (sym (shr-shr w (8 * i) (8 * k))))

with_part_shifted : (w first n v : ℕ) → with_part w first n v / 2 ^ (8 * first) ≡ w / 2 ^ (8 * (n + first)) * 2 ^ (8 * n) + v
with_part_shifted w first n v = shr_high (w / 2 ^ (8 * (n + first)) * 2 ^ (8 * n) + v) (8 * first) (w % 2 ^ (8 * first)) (mod_below w (2 ^ (8 * first)) (pow_pos (8 * first)))

pub byte_inside : (w first n v i : ℕ) → i < n → byte_of (with_part w first n v) (first + i) ≡ byte_of v i
byte_inside w first n v i l =
    byte_shifted (with_part w first n v) first i
    ∙ ap (λ x. byte_of x i) (with_part_shifted w first n v)
    ∙ byte_low (w / 2 ^ (8 * (n + first))) n v i l

pub byte_below : (w first n v k : ℕ) → k < first → byte_of (with_part w first n v) k ≡ byte_of w k
byte_below w first n v k l =
    byte_low (w / 2 ^ (8 * (n + first)) * 2 ^ (8 * n) + v) first (w % 2 ^ (8 * first)) k l
    ∙ sym (byte_low (w / 2 ^ (8 * first)) first (w % 2 ^ (8 * first)) k l)
    ∙ ap (λ x. byte_of x k) (shr_split w (8 * first))

pub byte_above : (w first n v i : ℕ) → v < 2 ^ (8 * n) → byte_of (with_part w first n v) (first + (n + i)) ≡ byte_of w (first + (n + i))
byte_above w first n v i l =
    let t : w / 2 ^ (8 * first) / 2 ^ (8 * n) ≡ w / 2 ^ (8 * (n + first)) = let e : 8 * (n + first) ≡ 8 * first + 8 * n = omega arith in rw e (shr-shr w (8 * first) (8 * n)) in
    byte_shifted (with_part w first n v) first (n + i)
    ∙ ap (λ x. byte_of x (n + i)) (with_part_shifted w first n v)
    ∙ byte_shifted (w / 2 ^ (8 * (n + first)) * 2 ^ (8 * n) + v) n i
    ∙ ap (λ x. byte_of x i) (shr_high (w / 2 ^ (8 * (n + first))) (8 * n) v l ∙ sym t)
    ∙ sym (byte_shifted (w / 2 ^ (8 * first)) n i)
    ∙ sym (byte_shifted w first (n + i))

-- the number in a part, by its bytes
pub part_number : (w first n : ℕ) → part_of w first n ≡ number_of (byte_of w) first n
unfolding number_of
part_number w first zero = omega arith
part_number w first (suc n) =
    let e : 8 * suc n ≡ 8 * n + 8 = omega arith in
    let f : 8 * suc first ≡ 8 * first + 8 = omega arith in
    ap (λ k. w / 2 ^ (8 * first) % 2 ^ k) e
    ∙ mod-pow-add (w / 2 ^ (8 * first)) (8 * n) 8
    ∙ ap (λ x. x % 2 ^ (8 * n) * 2 ^ 8 + byte_of w first) (shr-shr w (8 * first) 8 ∙ ap (λ k. w / 2 ^ k) (sym f))
    ∙ ap (λ x. x * 2 ^ 8 + byte_of w first) (part_number w (suc first) n)

-- putting v adds what it is more than the part was
pub part_moved : (w first n v : ℕ) → with_part w first n v + part_of w first n * 2 ^ (8 * first) ≡ w + v * 2 ^ (8 * first)
part_moved w first n v =
    let a : w / 2 ^ (8 * first) * 2 ^ (8 * first) + w % 2 ^ (8 * first) ≡ w = shr_split w (8 * first) in
    let t : w / 2 ^ (8 * first) / 2 ^ (8 * n) ≡ w / 2 ^ (8 * (n + first)) = let e : 8 * (n + first) ≡ 8 * first + 8 * n = omega arith in rw e (shr-shr w (8 * first) (8 * n)) in
    let b : w / 2 ^ (8 * first) / 2 ^ (8 * n) * 2 ^ (8 * n) + part_of w first n ≡ w / 2 ^ (8 * first) = shr_split (w / 2 ^ (8 * first)) (8 * n) in
    let b' : w / 2 ^ (8 * (n + first)) * 2 ^ (8 * n) + part_of w first n ≡ w / 2 ^ (8 * first) = rw t at b in
    let c : (w / 2 ^ (8 * (n + first)) * 2 ^ (8 * n) + part_of w first n) * 2 ^ (8 * first) ≡ w / 2 ^ (8 * first) * 2 ^ (8 * first) = ap (λ x. x * 2 ^ (8 * first)) b' in
    moved (w / 2 ^ (8 * (n + first)) * 2 ^ (8 * n)) v (part_of w first n) (2 ^ (8 * first)) (w % 2 ^ (8 * first)) w (omega arith)
  where
    moved : (h v o p r w : ℕ) → (h + o) * p + r ≡ w → (h + v) * p + r + o * p ≡ w + v * p
    moved h v o p r w e = omega arith

pub with_part_small : (w first n v : ℕ) → w < 2 ^ 64 → v < 2 ^ (8 * n) → first + n ≤ 8 → with_part w first n v < 2 ^ 64
with_part_small w first n v h k fit =
    let r : (64 - 8 * (n + first)) + 8 * (n + first) ≡ 64 = omega arith in
    let a : w / 2 ^ (8 * (n + first)) < 2 ^ (64 - 8 * (n + first)) = shr_below w (64 - 8 * (n + first)) (8 * (n + first)) (rw r h) in
    let b : w / 2 ^ (8 * (n + first)) * 2 ^ (8 * n) + v < 2 ^ (8 * n) * 2 ^ (64 - 8 * (n + first)) = mul-add-lt (w / 2 ^ (8 * (n + first))) (2 ^ (8 * n)) v (2 ^ (64 - 8 * (n + first))) a k in
    let d : with_part w first n v < 2 ^ (8 * first) * (2 ^ (8 * n) * 2 ^ (64 - 8 * (n + first))) =
    mul-add-lt _ (2 ^ (8 * first)) (w % 2 ^ (8 * first)) _ b (mod_below w (2 ^ (8 * first)) (pow_pos (8 * first))) in
    let e : 8 * first + (8 * n + (64 - 8 * (n + first))) ≡ 64 = omega arith in
    let f : 2 ^ (8 * first) * (2 ^ (8 * n) * 2 ^ (64 - 8 * (n + first))) ≡ 2 ^ 64 =
    ap (λ x. 2 ^ (8 * first) * x) (sym (pow-add 2 (8 * n) (64 - 8 * (n + first)))) ∙ sym (pow-add 2 (8 * first) (8 * n + (64 - 8 * (n + first)))) ∙ ap (λ x. 2 ^ x) e in
    rw f at d

pub part_shifted : (w first n : ℕ) → part_of w first n * 2 ^ (8 * first) ≤ w
part_shifted w first n =
    let a : w / 2 ^ (8 * first) * 2 ^ (8 * first) + w % 2 ^ (8 * first) ≡ w = shr_split w (8 * first) in
    let b : w / 2 ^ (8 * first) / 2 ^ (8 * n) * 2 ^ (8 * n) + part_of w first n ≡ w / 2 ^ (8 * first) = shr_split (w / 2 ^ (8 * first)) (8 * n) in
    let c : part_of w first n ≤ w / 2 ^ (8 * first) = omega arith in
    let d : part_of w first n * 2 ^ (8 * first) ≤ w / 2 ^ (8 * first) * 2 ^ (8 * first) = mul-le _ _ _ _ c (le_same (2 ^ (8 * first))) in
    omega arith
  where
    le_same : (x : ℕ) → x ≤ x
    le_same x = omega arith

-- how the code puts a number: it takes off what was there
pub replace_is : (w first n v old : ℕ) → w < 2 ^ 64 → v < 2 ^ (8 * n) → first + n ≤ 8 → old ≡ part_of w first n
    → w - old * 2 ^ (8 * first) % 2 ^ 64 + v * 2 ^ (8 * first) % 2 ^ 64 ≡ with_part w first n v
replace_is w first n v old h k fit e =
    let s : part_of w first n * 2 ^ (8 * first) ≤ w = part_shifted w first n in
    let s' : old * 2 ^ (8 * first) ≤ w = rw e s in
    let m : with_part w first n v + part_of w first n * 2 ^ (8 * first) ≡ w + v * 2 ^ (8 * first) = part_moved w first n v in
    let m' : with_part w first n v + old * 2 ^ (8 * first) ≡ w + v * 2 ^ (8 * first) = rw e m in
    let t : with_part w first n v < 2 ^ 64 = with_part_small w first n v h k fit in
    done (old * 2 ^ (8 * first)) (v * 2 ^ (8 * first)) w (with_part w first n v) s' m' t h
  where
    done : (o x w r : ℕ) → o ≤ w → r + o ≡ w + x → r < 2 ^ 64 → w < 2 ^ 64 → w - o % 2 ^ 64 + x % 2 ^ 64 ≡ r
    done o x w r a b c d = omega arith

-- a number by its own bytes
pub number_cut : (n v : ℕ) → number_of (byte_of v) 0 n ≡ v % 2 ^ (8 * n)
number_cut n v = sym (part_number v 0 n) ∙ whole v (2 ^ (8 * n))
  where
    whole : (v m : ℕ) → v / 2 ^ (8 * 0) % m ≡ v % m
    whole v m = let e : v / 2 ^ (8 * 0) ≡ v = omega arith in ap (λ x. x % m) e

pub number_again : (n v : ℕ) → v < 2 ^ (8 * n) → number_of (byte_of v) 0 n ≡ v
number_again n v h = number_cut n v ∙ mod-eq_of_lt h

pub part_small : (w first n : ℕ) → part_of w first n < 2 ^ (8 * n)
part_small w first n = mod_below (w / 2 ^ (8 * first)) (2 ^ (8 * n)) (pow_pos (8 * n))
