-- The low bytes of a number, copied to a place. Assumes nothing.
use mathlib.Core.Path.{◌≡◌, refl, sym, ap, ◌∙◌}
use mathlib.Core.List.{List, ◌++◌, append_assoc}
use Prim.Native.Nat.{ℕ, zero, suc, ◌+◌, ◌-◌, ◌/◌, ◌≤◌}
use native.Mathlib.Omega.{arith}
use borrow.Rule.Slice.PartMut.{post_of, put_mid, Post-is}
use lib.ListN.{length, take, drop}
use Rattle.std.specs.Int.{to_le_bytes, w32}
use Rattle.laws.specs.Writing.{written_at}
use Rattle.fields.specs.Number.{little}
use Rattle.fields.specs.Written.{little_bytes, number_put}
use Rattle.fields.proofs.Laws.{length-little, put_fits}

-- the low bytes of a number are those that std gives
pub low_bytes : (k n : ℕ) → k ≤ 4 → take k (to_le_bytes w32 n) ≡ little_bytes k n
low_bytes zero n h = refl
low_bytes (suc zero) n h = refl
low_bytes (suc (suc zero)) n h = refl
low_bytes (suc (suc (suc zero))) n h = let e : n / 256 / 256 ≡ n / 65536 = omega arith in rw e
low_bytes (suc (suc (suc (suc zero)))) n h =
    let e : n / 256 / 256 ≡ n / 65536 = omega arith in
    let f : n / 65536 / 256 ≡ n / 16777216 = omega arith in
    rw (e, f)
low_bytes (suc (suc (suc (suc (suc k))))) n h = absurd (let z : ⊥ = omega arith in z)

-- they are written over as many from a place on
pub stored : (n k at : ℕ) (out new : List ℕ) → k ≤ 4 → at + k ≤ length out → new ≡ take k (to_le_bytes w32 n)
    → put_mid at (at + k - at) out new ≡ written_at at (little_bytes k n) out
stored n k at out new h room e =
    let l : length (little_bytes k n) ≡ k = length-little k n in
    let b : post_of at (at + k - at) out ≡ drop (at + k) out = Post-is at (at + k) out (omega arith) in
    let bytes = little_bytes k n in
    ap (λ (x : List ℕ). take at out ++ (x ++ post_of at (at + k - at) out)) (e ∙ low_bytes k n h)
    ∙ ap (λ (x : List ℕ). take at out ++ (bytes ++ x)) b
    ∙ sym (append_assoc (take at out) bytes (drop (at + k) out))
    ∙ ap (λ (x : ℕ). (take at out ++ bytes) ++ drop (at + x) out) (sym l)

-- all four bytes, as a number is put where it fits
pub stored_four : (n at : ℕ) (out new : List ℕ) → at + 4 ≤ length out → new ≡ to_le_bytes w32 n → put_mid at (at + 4 - at) out new ≡ number_put little 4 at n out
stored_four n at out new room e = stored n 4 at out new (omega arith) room e ∙ sym (put_fits little 4 at n out room)
