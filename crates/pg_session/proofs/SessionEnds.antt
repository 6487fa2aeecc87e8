-- Why a session ended, and how many bytes it took at most.
use Rattle.std.proofs.Common.{◌≡◌, ℕ, ◌+◌, ◌≤◌, List, [], ◌++◌, refl, arith, subst, ◌∙◌, Result, Ok, Err, IsErrAnd, IsErrOf, Option, Some, None, length-append}
use Rattle.std.proofs.Common.{◌⊎◌, inl, inr}
use Rattle.pg_io.specs.Faults.{Rose}
use Rattle.pg_io.specs.Streams.{TakesAtMost}
use Rattle.pg_io.proofs.Known.{consumes-append}
use Rattle.pg_session.specs.Faults.{fault_of}
use Rattle.pg_session.specs.declared.fault.ReplyFault.{ReplyFault}
use Rattle.pg_session.specs.declared.fault.ReplyFault.TheVariants as reply
use Rattle.pg_session.specs.declared.fault.ServeFault.{ServeFault}
use Rattle.pg_session.specs.declared.fault.ServeFault.TheVariants as serve

-- ---- what a `?` hands on

-- the same fault
pub same_fault : {S T E : Type 0} (r : Result T E) (e f : E) → IsErrAnd r (λ x. x ≡ e) → IsErrOf r f → IsErrOf {T = S} (Err e) f
same_fault (Ok x) e f h is = absurd h
same_fault (Err x) e f h is = cc

pub same_faults : {S T E : Type 0} (r : Result T E) (e f g : E) → IsErrAnd r (λ x. x ≡ e) → IsErrOf r f ⊎ IsErrOf r g → IsErrOf {T = S} (Err e) f ⊎ IsErrOf {T = S} (Err e) g
same_faults r e f g h (inl is) = inl (same_fault r e f h is)
same_faults r e f g h (inr is) = inr (same_fault r e g h is)

-- a count that rose or stood still does so over two calls, of which the first left it
pub same_count : {S T E : Type 0} (r : Result T E) (e f : E) (a b c : ℕ) → IsErrAnd r (λ x. x ≡ e) → b ≡ a → IsErrOf {T = S} (Err e) f ⊎ (c ≡ b) → IsErrOf r f ⊎ (c ≡ a)
same_count (Ok x) e f a b c h is k = absurd h
same_count (Err x) e f a b c h is (inl k) = inl (cc)
same_count (Err x) e f a b c h is (inr k) = inr (k ∙ is)

-- neither of two faults
pub no_faults : {S T E P : Type 0} (r : Result T E) (e f g : E) → IsErrAnd r (λ x. x ≡ e) → (IsErrOf {T = S} (Err e) f → ⊥) → (IsErrOf {T = S} (Err e) g → ⊥)
    → IsErrOf r f ⊎ IsErrOf r g → P
no_faults r e f g h nf ng (inl is) = absurd (nf (same_fault r e f h is))
no_faults r e f g h nf ng (inr is) = absurd (ng (same_fault r e g h is))

-- an `Ok` is no fault
pub no_fault : {T P : Type 0} (x : T) (a b : ServeFault) → IsErrOf (Ok x) a ⊎ IsErrOf (Ok x) b → P
no_fault x a b (inl e) = absurd cc
no_fault x a b (inr e) = absurd cc

-- a failed read is no failed write, and not want of memory
pub read_cuts_none : {T P : Type 0} → IsErrOf {T = T} (Err serve.ReadFault) serve.WriteFault ⊎ IsErrOf {T = T} (Err serve.ReadFault) serve.OutOfMemory → P
read_cuts_none (inl e) = absurd cc
read_cuts_none (inr e) = absurd cc

-- ---- the fault of a reply

-- it is none of a read
pub no_read : {T P : Type 0} (r : Result T ServeFault) (e : ReplyFault) → IsErrAnd r (λ x. x ≡ fault_of e) → IsErrOf r serve.ReadFault → P
no_read (Ok x) e h is = absurd h
no_read (Err x) reply.WriteFault h is = absurd cc
no_read (Err x) reply.OutOfMemory h is = absurd cc

-- nor is it a limit
pub no_limit : {T P : Type 0} (r : Result T ServeFault) (e : ReplyFault) → IsErrAnd r (λ x. x ≡ fault_of e) → IsErrOf r serve.InputLimit → P
no_limit (Ok x) e h is = absurd h
no_limit (Err x) reply.WriteFault h is = absurd cc
no_limit (Err x) reply.OutOfMemory h is = absurd cc

-- a failed write of the session is one of the reply
pub of_write : {S T : Type 0} (r : Result T ServeFault) (e : ReplyFault) → IsErrAnd r (λ x. x ≡ fault_of e) → IsErrOf r serve.WriteFault → IsErrOf {T = S} (Err e) reply.WriteFault
of_write (Ok x) e h is = absurd h
of_write (Err x) reply.WriteFault h is = refl
of_write (Err x) reply.OutOfMemory h is = absurd cc

pub write_count : {S T : Type 0} (r : Result T ServeFault) (e : ReplyFault) (a b c : ℕ) → IsErrAnd r (λ x. x ≡ fault_of e) → b ≡ a → IsErrOf {T = S} (Err e) reply.WriteFault ⊎ (c ≡ b)
    → IsErrOf r serve.WriteFault ⊎ (c ≡ a)
write_count (Ok x) e a b c h is k = absurd h
write_count (Err x) reply.WriteFault a b c h is k = inl (cc)
write_count (Err x) reply.OutOfMemory a b c h is (inl k) = absurd cc
write_count (Err x) reply.OutOfMemory a b c h is (inr k) = inr (k ∙ is)

-- ---- counts of faults

pub rose_from : (a b c : ℕ) → b ≡ a → Rose b c → Rose a c
rose_from a b c is h = subst (λ n. Rose n c) is h

-- ---- bytes that were taken

pub takes_none : (a : Option (List ℕ)) (n : ℕ) → TakesAtMost a a n
takes_none None n = ([], tt, omega arith)
takes_none (Some xs) n = ([], refl, omega arith)

pub takes_within : (a b : Option (List ℕ)) (m n : ℕ) → m ≤ n → TakesAtMost a b m → TakesAtMost a b n
takes_within a b m n le h = let w = h.2 in (h.0, h.1, omega (arith, w, le))

pub takes_then : (a b c : Option (List ℕ)) (m n k : ℕ) → m + n ≤ k → TakesAtMost a b m → TakesAtMost b c n → TakesAtMost a c k
takes_then a b c m n k le h g =
    let v = h.2 in
    let w = g.2 in
    (h.0 ++ g.0, consumes-append a b c h.0 g.0 h.1 g.1, omega (arith, v, w, le, length-append h.0 g.0))
