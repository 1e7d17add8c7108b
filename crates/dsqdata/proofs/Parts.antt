-- The rules that a lookup asks of two ends, as the machine holds what was read of the index. Assumes nothing.
use mathlib.Core.Path.{◌≡◌}
use mathlib.Core.Bool.{true, false}
use mathlib.Core.List.{List}
use Prim.Native.Nat.{ℕ, suc, ◌+◌, ◌^◌, ◌≤◌, ◌<◌}
use native.Mathlib.Omega.{arith}
use native.Mathlib.Numerals.{add-one}
use lib.IntN.{ℤ, pos, negsuc}
use lib.Signed.{lt_z, le_z, lt_z_yes, le_z_yes, mag}
use mir.Syntax.{w64}
use mir.Val.{to_z, of_z}
use Rattle.laws.specs.Rules.{AllHold}
use Rattle.laws.proofs.Signed.{again}
use Rattle.laws.proofs.Tests.{true_T}
use Rattle.answers.specs.declared.Refusal.TheVariants.{BadOffsets}
use Rattle.std.specs.Prelude.{Ok, Err}
use Rattle.answers.specs.Limits.{checked_by}
use Rattle.fields.specs.declared.Order.{Order}
use Rattle.packets.proofs.Ends.{above}
use Rattle.dsqdata.specs.Ends.{end_before}
use Rattle.dsqdata.specs.Lookup.{part_rules, start_at}
use Rattle.dsqdata.proofs.Named.{part_tests}
use Rattle.dsqdata.proofs.Signs.{le_not, lt_not}

module _ (order : Order) where
  module _ (i : List ℕ) (t k : ℕ) {x y : ℤ} (f : mag x < 2 ^ 63) (g : mag y < 2 ^ 63) (u : x ≡ end_before order i t k) (v : y ≡ end_before order i t (k + 1)) where
    abbrev b : ℤ
    b = to_z w64 (of_z w64 x)

    abbrev e : ℤ
    e = to_z w64 (of_z w64 y)

    p : b ≡ end_before order i t k
    p = again w64 x (end_before order i t k) f u

    q : e ≡ end_before order i t (suc k)
    q = again w64 y (end_before order i t (suc k)) g (rw add-one at v)

    pub part_low : lt_z b (negsuc 0) ≡ true → Err BadOffsets ≡ checked_by (part_rules order i t k)
    unfolding part_rules
    part_low h = rw (← p, ← q, le_not b (negsuc 0) true h)

    pub part_falls : lt_z b (negsuc 0) ≡ false → le_z e b ≡ true → Err BadOffsets ≡ checked_by (part_rules order i t k)
    unfolding part_rules
    part_falls h r = rw (← p, ← q, le_not b (negsuc 0) false h, lt_not b e true r)

    pub part_high : lt_z b (negsuc 0) ≡ false → le_z e b ≡ false → lt_z (pos 2147483646) e ≡ true → Err BadOffsets ≡ checked_by (part_rules order i t k)
    unfolding part_rules
    part_high h r l = rw (← p, ← q, le_not b (negsuc 0) false h, lt_not b e false r, le_not (pos 2147483646) e true l)

    pub part_passed : lt_z b (negsuc 0) ≡ false → le_z e b ≡ false → lt_z (pos 2147483646) e ≡ false → Ok tt ≡ checked_by (part_rules order i t k)
    unfolding part_rules
    part_passed h r l = rw (← p, ← q, le_not b (negsuc 0) false h, lt_not b e false r, le_not (pos 2147483646) e false l)

  -- where the rules hold, the part ends behind its start
  pub part_rises : (i : List ℕ) (t k : ℕ) → AllHold (part_rules order i t k) → start_at order i t k ≤ start_at order i t (k + 1)
  part_rises i t k h =
      let r = part_tests order i t k h in
      let l = above (end_before order i t k) (end_before order i t (suc k)) (le_z_yes (true_T _ r.low)) (lt_z_yes (true_T _ r.rises)) in
      rw add-one (omega arith)
