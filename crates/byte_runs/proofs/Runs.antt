-- A run of packets that each take as many codes. Assumes nothing.
use mathlib.Core.Path.{◌≡◌, refl, sym, ap, ◌∙◌}
use mathlib.Core.Bool.{true, false}
use mathlib.Core.List.{List, [], ◌∷◌, ◌++◌, append_assoc}
use Prim.Native.Nat.{ℕ, zero, suc, ◌+◌, ◌*◌, ◌-◌, ◌/◌, ◌≤◌, ◌<◌}
use native.Mathlib.Nat.{zero-add, mul-zero, mul-suc}
use native.Mathlib.Omega.{arith}
use borrow.Author.Tests.{lt-leb}
use lib.ListN.{length, drop, length-append, length-drop}
use Rattle.laws.specs.Writing.{written_at}
use Rattle.packets.specs.Packing.{is_two_bit, two_bit_part, five_bit_part, packet, run, size, sixes}
use Rattle.packets.specs.Bytes.{bytes_of}
use Rattle.packets.proofs.Packing.{amino_five, size_two, size_five, packet_two, packet_five}
use Rattle.runs.proofs.Turns.{run_ends, run_goes}
use Rattle.byte_runs.specs.Packed.{parts_by, fives}
use Rattle.byte_runs.proofs.Packed.{length_parts, put_behind}

-- each of the first n packets is what f makes of its codes
pub run_parts : (a : ℕ) (f : List ℕ → ℕ) (s : ℕ) (cs : List ℕ) (n : ℕ)
    → ((k : ℕ) → k < n → run a (drop (s * k) cs) ≡ f (drop (s * k) cs) ∷ run a (drop (s * k + s) cs)) → run a cs ≡ parts_by f s cs n ++ run a (drop (s * n) cs)
unfolding parts_by
run_parts a f s cs zero g = rw (mul-zero s)
run_parts a f s cs (suc n) g =
    let e : s * suc n ≡ s * n + s = mul-suc s n in
    let p = f (drop (s * n) cs) in
    run_parts a f s cs n (λ k h. g k (omega arith))
    ∙ (ap (λ (l : List ℕ). parts_by f s cs n ++ l) (g n (omega arith))
    ∙ (sym (append_assoc (parts_by f s cs n) (p ∷ []) (run a (drop (s * n + s) cs)))
    ∙ ap (λ (k : ℕ). (parts_by f s cs n ++ (p ∷ [])) ++ run a (drop k cs)) (sym e)))

-- a 5-bit packet of six codes, where more are left
module _ (a : ℕ) (cs : List ℕ) (at : ℕ) (five : is_two_bit a (drop at cs) ≡ false) where
  size-left : 6 < length cs - at → 6 ≡ size a (drop at cs)
  size-left h = omega (arith, length-drop at cs, size_five a (drop at cs) (length (drop at cs)) five)

  pub five_goes : 6 < length cs - at → run a (drop at cs) ≡ five_bit_part (drop at cs) ∷ run a (drop (at + 6) cs)
  five_goes h =
      let k : 6 < length (drop at cs) = omega (arith, length-drop at cs) in
      let p : packet a (drop at cs) ≡ five_bit_part (drop at cs) =
      packet_five a (drop at cs) (length (drop at cs)) five ∙ (rw (lt-leb (length (drop at cs)) 6 k) (zero-add (five_bit_part (drop at cs)))) in
      run_goes a cs at 6 (size-left h) h ∙ ap (λ (x : ℕ). x ∷ run a (drop (at + 6) cs)) p

-- a 2-bit packet, where more are left
pub two_goes : (a : ℕ) (cs : List ℕ) (at : ℕ) → is_two_bit a (drop at cs) ≡ true → 15 < length cs - at
    → run a (drop at cs) ≡ two_bit_part (drop at cs) ∷ run a (drop (at + 15) cs)
two_goes a cs at two h =
    let k : 15 < length (drop at cs) = omega (arith, length-drop at cs) in
    let p : packet a (drop at cs) ≡ two_bit_part (drop at cs) =
    packet_two a (drop at cs) (length (drop at cs)) two ∙ (rw (lt-leb (length (drop at cs)) 15 k) (zero-add (two_bit_part (drop at cs)))) in
    run_goes a cs at 15 (sym (size_two a (drop at cs) (length (drop at cs)) two)) h ∙ ap (λ (x : ℕ). x ∷ run a (drop (at + 15) cs)) p

-- an amino run: whole packets, and the last
module _ (cs : List ℕ) (w : ℕ) (e : w ≡ sixes (length cs) - 1) where
  last-ends : run 3 (drop (6 * w) cs) ≡ packet 3 (drop (6 * w) cs) ∷ []
  last-ends =
      let s = size_five 3 (drop (6 * w) cs) (length (drop (6 * w) cs)) (amino_five 3 (drop (6 * w) cs) refl) in
      run_ends 3 cs (6 * w) (size 3 (drop (6 * w) cs)) refl (omega (arith, length-drop (6 * w) cs))

  amino_run : run 3 cs ≡ fives cs w ++ (packet 3 (drop (6 * w) cs) ∷ [])
  amino_run =
      run_parts 3 (λ next. five_bit_part next) 6 cs w (λ k h. five_goes 3 cs (6 * k) (amino_five 3 (drop (6 * k) cs) refl) (omega arith))
      ∙ ap (λ (l : List ℕ). fives cs w ++ l) last-ends

  pub amino_count : w + 1 ≡ length (run 3 cs)
  amino_count =
      sym (ap length amino_run ∙ (length-append (fives cs w) (packet 3 (drop (6 * w) cs) ∷ []) ∙ ap (λ (n : ℕ). n + 1) (length_parts
      (λ next. five_bit_part next) 6 cs w)))

  pub amino_bytes : (d out : List ℕ) (p : ℕ) → out ≡ written_at 0 (bytes_of (fives cs w)) d → p ≡ packet 3 (drop (6 * w) cs) → length (run 3 cs) ≤ length d / 4
      → written_at (4 * w) (bytes_of (p ∷ [])) out ≡ written_at 0 (bytes_of (run 3 cs)) d
  amino_bytes d out p so_far q room =
      let l = length_parts (λ next. five_bit_part next) 6 cs w in
      ap (λ (x : ℕ). written_at (4 * w) (bytes_of (x ∷ [])) out) q
      ∙ (put_behind (fives cs w) (packet 3 (drop (6 * w) cs) ∷ []) d out w so_far (sym l) (omega (arith, amino_count))
      ∙ ap (λ (x : List ℕ). written_at 0 (bytes_of x) d) (sym amino_run))
