-- The text and the integer at a place are those that the plain statement writes there. Assumes nothing.
use mathlib.Core.Path.{◌≡◌, sym, subst, ap, ◌∙◌}
use mathlib.Core.List.{List}
use Prim.Native.Nat.{ℕ, ◌+◌, ◌-◌, ◌≤◌}
use native.Mathlib.Omega.{arith}
use borrow.Author.Tests.{lt-ltb, le-ltb, le-leb, eq-eqb}
use lib.ListN.{length, get_or, take, drop}
use Rattle.laws.specs.Digits.{value}
use Rattle.fields.specs.Number.{signed}
use Rattle.std.specs.Prelude.{Ok}
use Rattle.elements.specs.Parts.{span, bytes_of, part_at, integer_part, long_part, text_part, integer_at, text_at}
use Rattle.elements.specs.Statement.{IntegerElement, TextElement}
use Rattle.elements.specs.Statement as Z
use Rattle.elements.specs.Written.{text_written, integer_written}
use Rattle.elements.proofs.Parts.{bytes-allowed}

two : (at : ℕ) → at + 1 + 1 ≡ at + 2
two at = omega arith

part_is : (s : List ℕ) (p k : ℕ) → p + k ≤ length s → part_at s p k ≡ Ok (span p k)
unfolding part_at
part_is s p k h = rw (le-leb _ _ h)

pub text_written_lem : {s : List ℕ} {at n : ℕ} (t : TextElement s at n) → text_at s at ≡ Ok (text_written t)
unfolding text_at text_part long_part
text_written_lem {s} {at} (Z.short y h l q f) =
    let v : at + 1 + 1 + get_or s (at + 1) 0 ≤ length s = omega arith in
    rw (eq-eqb _ _ y.is, lt-ltb _ _ h, lt-ltb _ _ l)
    (part_is s (at + 1 + 1) (get_or s (at + 1) 0) v ∙ ap (λ (p : ℕ). Ok (span p (get_or s (at + 1) 0))) (two at))
text_written_lem {s} {at} (Z.long k y a b z q f) =
    let i = z.is in
    let n128 : 128 ≤ get_or s (at + 1) 0 = omega arith in
    let lo : 129 ≤ get_or s (at + 1) 0 = omega arith in
    let hi : get_or s (at + 1) 0 ≤ 132 = omega arith in
    let w : get_or s (at + 1) 0 - 128 ≡ k = omega arith in
    let u : at + 1 + 1 + k + value 8 0 (bytes_of s (at + 1 + 1) k) ≤ length s =
    subst (λ (m : ℕ). m + k + value 8 0 (take k (drop m s)) ≤ length s) (sym (two at)) (omega arith) in
    let v : at + 1 + 1 + k ≤ length s = omega arith in
    rw (eq-eqb _ _ y.is, lt-ltb _ _ z.there, le-ltb _ _ n128, le-leb _ _ lo, le-leb _ _ hi, w, le-leb _ _ v)
    (part_is s (at + 1 + 1 + k) (value 8 0 (bytes_of s (at + 1 + 1) k)) u ∙ ap (λ (m : ℕ). Ok (span (m + k) (value 8 0 (take k (drop m s))))) (two at))

pub integer_written_lem : {s : List ℕ} {at n : ℕ} (i : IntegerElement s at n) → integer_at s at ≡ Ok (integer_written i)
unfolding integer_at integer_part
integer_written_lem {s} {at} i =
    let a = i.ends in
    let f = i.fits in
    let h : at + 1 + 1 + get_or s (at + 1) 0 ≤ length s = omega arith in
    let w : Z.IntegerBytes (bytes_of s (at + 1 + 1) (get_or s (at + 1) 0)) =
    subst (λ (k : ℕ). Z.IntegerBytes (take (get_or s (at + 1) 0) (drop k s))) (sym (two at)) i.allowed in
    rw (eq-eqb _ _ i.tag.is, lt-ltb _ _ i.sized, le-leb _ _ h, bytes-allowed _ w)
    (ap (λ (k : ℕ). Ok (signed (get_or s (at + 1) 0) (value 8 0 (take (get_or s (at + 1) 0) (drop k s))))) (two at))
