-- `nucleotides::write_sequence`: block by block, both parts go on; the word comes last. Assumes nothing.
use mathlib.Core.Path.{◌≡◌, refl, ap₂, ◌∙◌}
use Prim.Native.Nat.{ℕ, ◌+◌, ◌-◌, ◌*◌, ◌/◌, ◌<◌}
use native.Mathlib.Omega.{arith}
use lib.ListN.{length, take, drop, set, length-set, length-take, length-drop}
use Rattle.laws.proofs.Places.{largest_at}
use Rattle.nucleotides.specs.Pieces.{bytes_of, most_repeat}
use Rattle.nucleotides.specs.Scan.{code_at}
use Rattle.nucleotides.proofs.Stretches.{at_most_largest, largest_part, part_less}
use Rattle.nucleotides.proofs.Parts.{bytes_written}
use Rattle.nucleotides.proofs.Entries.{length_word}
use Rattle.nucleotides.proofs.Turns.{Going, needed_is, going_on, going_done}
use Rattle.nucleotides.proofs.write_sequence.Goals as goal

pub write_bytes-requires-clause-largest_bound : goal.write_bytes-requires-clause-largest_bound
write_bytes-requires-clause-largest_bound c =
    let codes = c.args.codes.now in
    let m = c.loop-m.m in
    let below : m < length codes / 4 = omega (arith, c.loop-m-test.true, c.loop-m.invariant.1) in
    let top = c.largest_code-largest.ensures ∙ largest_part codes (4 * m) (4 * c.min-end.result) (omega (arith, c.min-end.ensures)) (omega (arith, c.min-end.ensures)) in
    let part = take (4 * c.min-end.result - 4 * m) (drop (4 * m) codes) in (
      rw top (part_less codes (4 * m) (4 * c.min-end.result) 16 (omega (arith, c.min-end.ensures)) c.requires.codes_bound_2),
      λ k h. rw c.largest_code-largest.ensures (largest_at (code_at part) (length part) k h),
    )

pub put_block-reached-requires-clause-by_index : goal.put_block-reached-requires-clause-by_index
put_block-reached-requires-clause-by_index c =
    let codes = c.args.codes.now in
    let m = c.loop-m.m in
    let below : m < length codes / 4 = omega (arith, c.loop-m-test.true, c.loop-m.invariant.1) in
    let top = c.largest_code-largest.ensures ∙ largest_part codes (4 * m) (4 * c.min-end.result) (omega (arith, c.min-end.ensures)) (omega (arith, c.min-end.ensures)) in
    λ k x y. rw top (at_most_largest codes (4 * m) (4 * c.min-end.result) k (omega (arith, x, below, c.loop-m.invariant.3.passed)) y)

pub loop-m-preserved : goal.loop-m-preserved
loop-m-preserved c =
    let a = c.args in
    let p = c.requires in
    let l = c.loop-m in
    let w = bytes_of a.width in
    let most = most_repeat w in
    let r = c.put_block-reached in
    let codes = a.codes.now in
    let m = l.m in
    let end = c.min-end.result in
    let below : m < length codes / 4 = omega (arith, c.loop-m-test.true, c.loop-m.invariant.1) in
    let going : Going codes a.out.now w most a.n l.out l.next l.done m = l.invariant.3 in
    let needed = needed_is codes w a.n p.width_value.0 p.width_value.1 in
    let size : length (take (end - m) (drop m l.out)) ≡ end - m = simp (length-take, length-drop) (omega (arith, needed, p.codes_bound, going.size, c.min-end.ensures)) in
    let bytes = bytes_written codes m (4 * end - 4 * m) _ (end - m) l.out c.write_bytes.new.out size (omega (arith, size)) c.write_bytes.ensures in (
      l.invariant.0,
      l.invariant.1,
      l.invariant.2,
      going_on codes a.out.now w most a.n p.width_value.0 refl p.width_value.1 p.codes_bound.1 l.out l.next l.done m going
          end r.result.pieces r.result.next _ _ _ (omega arith) (omega arith) bytes
          (ap₂ (λ (x y : ℕ). x + y * l.done) l.invariant.2 c.bytes-w.ensures) r.ensures.out_after (omega (arith, r.auto, c.write_bytes.auto, going.size)) r.ensures.met
          r.ensures.reached,
    )

pub put_word-requires : goal.put_word-requires
put_word-requires c =
    let a = c.args in
    let p = c.requires in
    let l = c.loop-m in
    let w = bytes_of a.width in
    let codes = a.codes.now in
    let needed = needed_is codes w a.n p.width_value.0 p.width_value.1 in
    let word = length_word w a.n in
    let size : length (set l.out (length codes / 4) c.last_byte.result) ≡ length l.out = simp length-set refl in
    (omega (arith, needed, p.codes_bound), omega (arith, needed, word, size, p.codes_bound, c.put_pieces.auto, l.invariant.3.size))

pub returns : goal.returns
returns c =
    let a = c.args in
    let p = c.requires in
    let l = c.loop-m in
    let w = bytes_of a.width in
    let most = most_repeat w in
    let r = c.put_pieces in
    let all-bytes : l.m ≡ length a.codes.now / 4 = omega (arith, c.loop-m-test.false, l.invariant.1, l.invariant.3.bytes) in
    going_done a.codes.now a.out.now w most a.n p.width_value.0 refl p.width_value.1 p.codes_bound.1
    l.out l.next l.done _ l.invariant.3
    _ _ r.result.pieces r.result.next _ _ _ l.invariant.1
    c.last_byte.ensures all-bytes
    (ap₂ (λ (x y : ℕ). x + y * l.done) l.invariant.2 c.bytes-w.ensures) r.ensures.out_after r.ensures.met r.ensures.reached c.put_word.ensures
